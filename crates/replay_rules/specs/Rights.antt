-- Worked inputs: copies, rights and buffers.
use Rattle.std.specs.Prelude.{[], ◌∷◌, codes}
use Rattle.replay_rules.specs.Inputs.{Row, text}

-- stale then current copy
abbrev pub stale_then_current_copy : Row
stale_then_current_copy =
    record {
      input =
          text
          (codes "pcl 1 2 4 8 4"
          ∷ codes "begin 0"
          ∷ codes "read 0.1.1 1"
          ∷ codes "deliver 0 1"
          ∷ codes "deliver 1 0"
          ∷ codes "commit 0.1.1"
          ∷ codes "begin 1"
          ∷ codes "write 1.1.1 1 0 09"
          ∷ codes "deliver 1 0"
          ∷ codes "deliver 0 1"
          ∷ codes "commit 1.1.1"
          ∷ codes "begin 0"
          ∷ codes "read 0.1.2 1"
          ∷ codes "deliver 0 1"
          ∷ codes "deliver 1 0"
          ∷ codes "commit 0.1.2"
          ∷ codes "begin 1"
          ∷ codes "write 1.1.2 1 0 0a"
          ∷ codes "deliver 1 0"
          ∷ codes "deliver 0 1"
          ∷ codes "abort 1.1.2"
          ∷ codes "begin 0"
          ∷ codes "read 0.1.3 1"
          ∷ codes "deliver 0 1"
          ∷ codes "deliver 1 0"
          ∷ codes "commit 0.1.3"
          ∷ []);
      output =
          text
          (codes "> pcl 1 2 4 8 4"
          ∷ codes "> begin 0"
          ∷ codes "begun 0.1.1"
          ∷ codes "> read 0.1.1 1"
          ∷ codes "waits 0.1.1 1"
          ∷ codes "send 0 1 1 request 0.1.1 1 S -"
          ∷ codes "> deliver 0 1"
          ∷ codes "taken"
          ∷ codes "send 1 0 1 grant 0.1.1 1 S right 0 disk"
          ∷ codes "> deliver 1 0"
          ∷ codes "taken"
          ∷ codes "value 0.1.1 1 0 0000000000000000"
          ∷ codes "> commit 0.1.1"
          ∷ codes "committed 0.1.1"
          ∷ codes "> begin 1"
          ∷ codes "begun 1.1.1"
          ∷ codes "> write 1.1.1 1 0 09"
          ∷ codes "waits 1.1.1 1"
          ∷ codes "send 1 0 1 revoke 1"
          ∷ codes "> deliver 1 0"
          ∷ codes "taken"
          ∷ codes "send 0 1 1 return 1 -"
          ∷ codes "> deliver 0 1"
          ∷ codes "taken"
          ∷ codes "done 1.1.1 1 0"
          ∷ codes "> commit 1.1.1"
          ∷ codes "committed 1.1.1"
          ∷ codes "> begin 0"
          ∷ codes "begun 0.1.2"
          ∷ codes "> read 0.1.2 1"
          ∷ codes "waits 0.1.2 1"
          ∷ codes "send 0 1 1 request 0.1.2 1 S 0"
          ∷ codes "> deliver 0 1"
          ∷ codes "taken"
          ∷ codes "send 1 0 1 grant 0.1.2 1 S right 1 image"
          ∷ codes "> deliver 1 0"
          ∷ codes "taken"
          ∷ codes "value 0.1.2 1 1 0900000000000000"
          ∷ codes "> commit 0.1.2"
          ∷ codes "committed 0.1.2"
          ∷ codes "> begin 1"
          ∷ codes "begun 1.1.2"
          ∷ codes "> write 1.1.2 1 0 0a"
          ∷ codes "waits 1.1.2 1"
          ∷ codes "send 1 0 1 revoke 1"
          ∷ codes "> deliver 1 0"
          ∷ codes "taken"
          ∷ codes "send 0 1 1 return 1 -"
          ∷ codes "> deliver 0 1"
          ∷ codes "taken"
          ∷ codes "done 1.1.2 1 1"
          ∷ codes "> abort 1.1.2"
          ∷ codes "aborted 1.1.2"
          ∷ codes "> begin 0"
          ∷ codes "begun 0.1.3"
          ∷ codes "> read 0.1.3 1"
          ∷ codes "waits 0.1.3 1"
          ∷ codes "send 0 1 1 request 0.1.3 1 S 1"
          ∷ codes "> deliver 0 1"
          ∷ codes "taken"
          ∷ codes "send 1 0 1 grant 0.1.3 1 S right 1 current"
          ∷ codes "> deliver 1 0"
          ∷ codes "taken"
          ∷ codes "value 0.1.3 1 1 0900000000000000"
          ∷ codes "> commit 0.1.3"
          ∷ codes "committed 0.1.3"
          ∷ codes "end 25 4"
          ∷ []);
      status = 0;
    }

-- revocation with open reader
abbrev pub revocation_with_open_reader : Row
revocation_with_open_reader =
    record {
      input =
          text
          (codes "pcl 1 2 4 8 4"
          ∷ codes "begin 0"
          ∷ codes "read 0.1.1 1"
          ∷ codes "deliver 0 1"
          ∷ codes "deliver 1 0"
          ∷ codes "begin 1"
          ∷ codes "write 1.1.1 1 0 01"
          ∷ codes "deliver 1 0"
          ∷ codes "deliver 0 1"
          ∷ codes "commit 0.1.1"
          ∷ codes "deliver 0 1"
          ∷ codes "commit 1.1.1"
          ∷ []);
      output =
          text
          (codes "> pcl 1 2 4 8 4"
          ∷ codes "> begin 0"
          ∷ codes "begun 0.1.1"
          ∷ codes "> read 0.1.1 1"
          ∷ codes "waits 0.1.1 1"
          ∷ codes "send 0 1 1 request 0.1.1 1 S -"
          ∷ codes "> deliver 0 1"
          ∷ codes "taken"
          ∷ codes "send 1 0 1 grant 0.1.1 1 S right 0 disk"
          ∷ codes "> deliver 1 0"
          ∷ codes "taken"
          ∷ codes "value 0.1.1 1 0 0000000000000000"
          ∷ codes "> begin 1"
          ∷ codes "begun 1.1.1"
          ∷ codes "> write 1.1.1 1 0 01"
          ∷ codes "waits 1.1.1 1"
          ∷ codes "send 1 0 1 revoke 1"
          ∷ codes "> deliver 1 0"
          ∷ codes "taken"
          ∷ codes "send 0 1 1 return 1 0.1.1"
          ∷ codes "> deliver 0 1"
          ∷ codes "taken"
          ∷ codes "> commit 0.1.1"
          ∷ codes "committed 0.1.1"
          ∷ codes "send 0 1 1 release 0.1.1 1 -"
          ∷ codes "> deliver 0 1"
          ∷ codes "taken"
          ∷ codes "done 1.1.1 1 0"
          ∷ codes "> commit 1.1.1"
          ∷ codes "committed 1.1.1"
          ∷ codes "end 11 2"
          ∷ []);
      status = 0;
    }

-- no frame
abbrev pub no_frame : Row
no_frame =
    record {
      input =
          text
          (codes "pcl 1 1 4 8 2"
          ∷ codes "begin 0"
          ∷ codes "read 0.1.1 0"
          ∷ codes "read 0.1.1 1"
          ∷ codes "read 0.1.1 2"
          ∷ codes "read 0.1.1 0"
          ∷ codes "commit 0.1.1"
          ∷ []);
      output =
          text
          (codes "> pcl 1 1 4 8 2"
          ∷ codes "> begin 0"
          ∷ codes "begun 0.1.1"
          ∷ codes "> read 0.1.1 0"
          ∷ codes "value 0.1.1 0 0 0000000000000000"
          ∷ codes "> read 0.1.1 1"
          ∷ codes "value 0.1.1 1 0 0000000000000000"
          ∷ codes "> read 0.1.1 2"
          ∷ codes "refused 9 NoFrame"
          ∷ codes "> read 0.1.1 0"
          ∷ codes "value 0.1.1 0 0 0000000000000000"
          ∷ codes "> commit 0.1.1"
          ∷ codes "committed 0.1.1"
          ∷ codes "end 6 1"
          ∷ []);
      status = 0;
    }

-- flush cut evict
abbrev pub flush_cut_evict : Row
flush_cut_evict =
    record {
      input =
          text
          (codes "pcl 1 1 2 8 2"
          ∷ codes "begin 0"
          ∷ codes "write 0.1.1 1 0 01"
          ∷ codes "commit 0.1.1"
          ∷ codes "cut 0"
          ∷ codes "flush 0 1"
          ∷ codes "cut 0"
          ∷ codes "evict 0 1"
          ∷ codes "evict 0 1"
          ∷ codes "crash 0"
          ∷ codes "reopen"
          ∷ codes "install 0"
          ∷ codes "begin 0"
          ∷ codes "read 0.2.1 1"
          ∷ codes "evict 0 1"
          ∷ codes "commit 0.2.1"
          ∷ []);
      output =
          text
          (codes "> pcl 1 1 2 8 2"
          ∷ codes "> begin 0"
          ∷ codes "begun 0.1.1"
          ∷ codes "> write 0.1.1 1 0 01"
          ∷ codes "done 0.1.1 1 0"
          ∷ codes "> commit 0.1.1"
          ∷ codes "committed 0.1.1"
          ∷ codes "> cut 0"
          ∷ codes "cut 0"
          ∷ codes "> flush 0 1"
          ∷ codes "flushed"
          ∷ codes "> cut 0"
          ∷ codes "cut 36"
          ∷ codes "> evict 0 1"
          ∷ codes "evicted"
          ∷ codes "> evict 0 1"
          ∷ codes "refused 11 NoCopy"
          ∷ codes "> crash 0"
          ∷ codes "crashed"
          ∷ codes "> reopen"
          ∷ codes "reopened 2"
          ∷ codes "> install 0"
          ∷ codes "installed 2"
          ∷ codes "serving 0"
          ∷ codes "> begin 0"
          ∷ codes "begun 0.2.1"
          ∷ codes "> read 0.2.1 1"
          ∷ codes "value 0.2.1 1 1 0100000000000000"
          ∷ codes "> evict 0 1"
          ∷ codes "refused 12 Pinned"
          ∷ codes "> commit 0.2.1"
          ∷ codes "committed 0.2.1"
          ∷ codes "end 15 2"
          ∷ []);
      status = 0;
    }
