-- Worked schedules: buffers.
use Rattle.std.specs.Prelude.{true, false, [], ◌∷◌, codes}
use Rattle.pcl_base.specs.Limits.{Sizes}
use Rattle.pcl_base.specs.declared.event.Event.{Event}
use Rattle.pcl_base.specs.declared.event.Event.TheVariants.{Begin, Read, Write, Commit, Abort, Deliver, Evict, Flush, Crash, View, Install, Reopen, Arm, Cut}
use Rattle.rules_rows.specs.Schedules.{Row, tx}

-- least pool second write
abbrev pub least_pool_second_write : Row
least_pool_second_write =
    record {
      sizes = record { nodes = 1; pages = 4; size = 8; frames = 2 };
      input =
          codes "pcl 1 1 4 8 2"
          ∷ codes "begin 0"
          ∷ codes "write 0.1.1 0 0 01"
          ∷ codes "write 0.1.1 1 0 02"
          ∷ [];
      events =
          Begin 0
          ∷ Write (tx 0 1 1) 0 0 (1 ∷ [])
          ∷ Write (tx 0 1 1) 1 0 (2 ∷ [])
          ∷ [];
      output =
          codes "> pcl 1 1 4 8 2"
          ∷ codes "> begin 0"
          ∷ codes "begun 0.1.1"
          ∷ codes "> write 0.1.1 0 0 01"
          ∷ codes "done 0.1.1 0 0"
          ∷ codes "> write 0.1.1 1 0 02"
          ∷ codes "refused 9 NoFrame"
          ∷ codes "end 3 0"
          ∷ [];
    }

-- no frame
abbrev pub no_frame : Row
no_frame =
    record {
      sizes = record { nodes = 1; pages = 4; size = 8; frames = 2 };
      input =
          codes "pcl 1 1 4 8 2"
          ∷ codes "begin 0"
          ∷ codes "read 0.1.1 0"
          ∷ codes "read 0.1.1 1"
          ∷ codes "read 0.1.1 2"
          ∷ codes "read 0.1.1 0"
          ∷ codes "commit 0.1.1"
          ∷ [];
      events =
          Begin 0
          ∷ Read (tx 0 1 1) 0
          ∷ Read (tx 0 1 1) 1
          ∷ Read (tx 0 1 1) 2
          ∷ Read (tx 0 1 1) 0
          ∷ Commit (tx 0 1 1)
          ∷ [];
      output =
          codes "> pcl 1 1 4 8 2"
          ∷ codes "> begin 0"
          ∷ codes "begun 0.1.1"
          ∷ codes "> read 0.1.1 0"
          ∷ codes "value 0.1.1 0 0 0000000000000000"
          ∷ codes "> read 0.1.1 1"
          ∷ codes "value 0.1.1 1 0 0000000000000000"
          ∷ codes "> read 0.1.1 2"
          ∷ codes "refused 9 NoFrame"
          ∷ codes "> read 0.1.1 0"
          ∷ codes "value 0.1.1 0 0 0000000000000000"
          ∷ codes "> commit 0.1.1"
          ∷ codes "committed 0.1.1"
          ∷ codes "end 6 1"
          ∷ [];
    }

-- flush cut evict
abbrev pub flush_cut_evict : Row
flush_cut_evict =
    record {
      sizes = record { nodes = 1; pages = 2; size = 8; frames = 2 };
      input =
          codes "pcl 1 1 2 8 2"
          ∷ codes "begin 0"
          ∷ codes "write 0.1.1 1 0 01"
          ∷ codes "commit 0.1.1"
          ∷ codes "cut 0"
          ∷ codes "flush 0 1"
          ∷ codes "cut 0"
          ∷ codes "evict 0 1"
          ∷ codes "evict 0 1"
          ∷ codes "crash 0"
          ∷ codes "reopen"
          ∷ codes "install 0"
          ∷ codes "begin 0"
          ∷ codes "read 0.2.1 1"
          ∷ codes "evict 0 1"
          ∷ codes "commit 0.2.1"
          ∷ [];
      events =
          Begin 0
          ∷ Write (tx 0 1 1) 1 0 (1 ∷ [])
          ∷ Commit (tx 0 1 1)
          ∷ Cut 0
          ∷ Flush 0 1
          ∷ Cut 0
          ∷ Evict 0 1
          ∷ Evict 0 1
          ∷ Crash 0
          ∷ Reopen
          ∷ Install 0
          ∷ Begin 0
          ∷ Read (tx 0 2 1) 1
          ∷ Evict 0 1
          ∷ Commit (tx 0 2 1)
          ∷ [];
      output =
          codes "> pcl 1 1 2 8 2"
          ∷ codes "> begin 0"
          ∷ codes "begun 0.1.1"
          ∷ codes "> write 0.1.1 1 0 01"
          ∷ codes "done 0.1.1 1 0"
          ∷ codes "> commit 0.1.1"
          ∷ codes "committed 0.1.1"
          ∷ codes "> cut 0"
          ∷ codes "cut 0"
          ∷ codes "> flush 0 1"
          ∷ codes "flushed"
          ∷ codes "> cut 0"
          ∷ codes "cut 36"
          ∷ codes "> evict 0 1"
          ∷ codes "evicted"
          ∷ codes "> evict 0 1"
          ∷ codes "refused 11 NoCopy"
          ∷ codes "> crash 0"
          ∷ codes "crashed"
          ∷ codes "> reopen"
          ∷ codes "reopened 2"
          ∷ codes "> install 0"
          ∷ codes "installed 2"
          ∷ codes "serving 0"
          ∷ codes "> begin 0"
          ∷ codes "begun 0.2.1"
          ∷ codes "> read 0.2.1 1"
          ∷ codes "value 0.2.1 1 1 0100000000000000"
          ∷ codes "> evict 0 1"
          ∷ codes "refused 12 Pinned"
          ∷ codes "> commit 0.2.1"
          ∷ codes "committed 0.2.1"
          ∷ codes "end 15 2"
          ∷ [];
    }

-- copy under right evicted
abbrev pub copy_under_right_evicted : Row
copy_under_right_evicted =
    record {
      sizes = record { nodes = 2; pages = 4; size = 8; frames = 4 };
      input =
          codes "pcl 1 2 4 8 4"
          ∷ codes "begin 0"
          ∷ codes "read 0.1.1 1"
          ∷ codes "deliver 0 1"
          ∷ codes "deliver 1 0"
          ∷ codes "commit 0.1.1"
          ∷ codes "evict 0 1"
          ∷ codes "begin 0"
          ∷ codes "read 0.1.2 1"
          ∷ codes "deliver 0 1"
          ∷ codes "deliver 1 0"
          ∷ codes "commit 0.1.2"
          ∷ codes "deliver 0 1"
          ∷ [];
      events =
          Begin 0
          ∷ Read (tx 0 1 1) 1
          ∷ Deliver 0 1
          ∷ Deliver 1 0
          ∷ Commit (tx 0 1 1)
          ∷ Evict 0 1
          ∷ Begin 0
          ∷ Read (tx 0 1 2) 1
          ∷ Deliver 0 1
          ∷ Deliver 1 0
          ∷ Commit (tx 0 1 2)
          ∷ Deliver 0 1
          ∷ [];
      output =
          codes "> pcl 1 2 4 8 4"
          ∷ codes "> begin 0"
          ∷ codes "begun 0.1.1"
          ∷ codes "> read 0.1.1 1"
          ∷ codes "waits 0.1.1 1"
          ∷ codes "send 0 1 1 request 0.1.1 1 S -"
          ∷ codes "> deliver 0 1"
          ∷ codes "taken"
          ∷ codes "send 1 0 1 grant 0.1.1 1 S right 0 disk"
          ∷ codes "> deliver 1 0"
          ∷ codes "taken"
          ∷ codes "value 0.1.1 1 0 0000000000000000"
          ∷ codes "> commit 0.1.1"
          ∷ codes "committed 0.1.1"
          ∷ codes "> evict 0 1"
          ∷ codes "evicted"
          ∷ codes "> begin 0"
          ∷ codes "begun 0.1.2"
          ∷ codes "> read 0.1.2 1"
          ∷ codes "waits 0.1.2 1"
          ∷ codes "send 0 1 1 request 0.1.2 1 S -"
          ∷ codes "> deliver 0 1"
          ∷ codes "taken"
          ∷ codes "send 1 0 1 grant 0.1.2 1 S lock 0 disk"
          ∷ codes "> deliver 1 0"
          ∷ codes "taken"
          ∷ codes "value 0.1.2 1 0 0000000000000000"
          ∷ codes "> commit 0.1.2"
          ∷ codes "committed 0.1.2"
          ∷ codes "send 0 1 1 release 0.1.2 1 -"
          ∷ codes "> deliver 0 1"
          ∷ codes "taken"
          ∷ codes "end 12 2"
          ∷ [];
    }

-- changed ranges in one record
abbrev pub changed_ranges_in_one_record : Row
changed_ranges_in_one_record =
    record {
      sizes = record { nodes = 1; pages = 1; size = 16; frames = 2 };
      input =
          codes "pcl 1 1 1 16 2"
          ∷ codes "begin 0"
          ∷ codes "write 0.1.1 0 0 0102"
          ∷ codes "write 0.1.1 0 2 03"
          ∷ codes "write 0.1.1 0 8 09"
          ∷ codes "commit 0.1.1"
          ∷ codes "flush 0 0"
          ∷ codes "cut 0"
          ∷ [];
      events =
          Begin 0
          ∷ Write (tx 0 1 1) 0 0 (1 ∷ 2 ∷ [])
          ∷ Write (tx 0 1 1) 0 2 (3 ∷ [])
          ∷ Write (tx 0 1 1) 0 8 (9 ∷ [])
          ∷ Commit (tx 0 1 1)
          ∷ Flush 0 0
          ∷ Cut 0
          ∷ [];
      output =
          codes "> pcl 1 1 1 16 2"
          ∷ codes "> begin 0"
          ∷ codes "begun 0.1.1"
          ∷ codes "> write 0.1.1 0 0 0102"
          ∷ codes "done 0.1.1 0 0"
          ∷ codes "> write 0.1.1 0 2 03"
          ∷ codes "done 0.1.1 0 0"
          ∷ codes "> write 0.1.1 0 8 09"
          ∷ codes "done 0.1.1 0 0"
          ∷ codes "> commit 0.1.1"
          ∷ codes "committed 0.1.1"
          ∷ codes "> flush 0 0"
          ∷ codes "flushed"
          ∷ codes "> cut 0"
          ∷ codes "cut 43"
          ∷ codes "end 7 1"
          ∷ [];
    }
