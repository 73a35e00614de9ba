-- Worked inputs: paths.
use Rattle.std.specs.Prelude.{[], ◌∷◌, codes}
use Rattle.replay_rules.specs.Inputs.{Row, text}

-- header alone
abbrev pub header_alone : Row
header_alone =
    record {
      input =
          text
          (codes "pcl 1 2 4 8 4"
          ∷ []);
      output =
          text
          (codes "> pcl 1 2 4 8 4"
          ∷ codes "end 0 0"
          ∷ []);
      status = 0;
    }

-- plain path
abbrev pub plain_path : Row
plain_path =
    record {
      input =
          text
          (codes "pcl 1 1 1 8 4"
          ∷ codes "begin 0"
          ∷ codes "write 0.1.1 0 2 beef"
          ∷ codes "read 0.1.1 0"
          ∷ codes "commit 0.1.1"
          ∷ codes "begin 0"
          ∷ codes "read 0.1.2 0"
          ∷ codes "commit 0.1.2"
          ∷ []);
      output =
          text
          (codes "> pcl 1 1 1 8 4"
          ∷ codes "> begin 0"
          ∷ codes "begun 0.1.1"
          ∷ codes "> write 0.1.1 0 2 beef"
          ∷ codes "done 0.1.1 0 0"
          ∷ codes "> read 0.1.1 0"
          ∷ codes "value 0.1.1 0 0 0000beef00000000"
          ∷ codes "> commit 0.1.1"
          ∷ codes "committed 0.1.1"
          ∷ codes "> begin 0"
          ∷ codes "begun 0.1.2"
          ∷ codes "> read 0.1.2 0"
          ∷ codes "value 0.1.2 0 1 0000beef00000000"
          ∷ codes "> commit 0.1.2"
          ∷ codes "committed 0.1.2"
          ∷ codes "end 7 2"
          ∷ []);
      status = 0;
    }

-- first message path
abbrev pub first_message_path : Row
first_message_path =
    record {
      input =
          text
          (codes "pcl 1 2 4 8 4"
          ∷ codes "begin 0"
          ∷ codes "read 0.1.1 1"
          ∷ codes "deliver 0 1"
          ∷ codes "deliver 1 0"
          ∷ codes "commit 0.1.1"
          ∷ []);
      output =
          text
          (codes "> pcl 1 2 4 8 4"
          ∷ codes "> begin 0"
          ∷ codes "begun 0.1.1"
          ∷ codes "> read 0.1.1 1"
          ∷ codes "waits 0.1.1 1"
          ∷ codes "send 0 1 1 request 0.1.1 1 S -"
          ∷ codes "> deliver 0 1"
          ∷ codes "taken"
          ∷ codes "send 1 0 1 grant 0.1.1 1 S right 0 disk"
          ∷ codes "> deliver 1 0"
          ∷ codes "taken"
          ∷ codes "value 0.1.1 1 0 0000000000000000"
          ∷ codes "> commit 0.1.1"
          ∷ codes "committed 0.1.1"
          ∷ codes "end 5 1"
          ∷ []);
      status = 0;
    }

-- victim of deadlock
abbrev pub victim_of_deadlock : Row
victim_of_deadlock =
    record {
      input =
          text
          (codes "pcl 1 1 2 8 8"
          ∷ codes "begin 0"
          ∷ codes "begin 0"
          ∷ codes "write 0.1.1 0 0 01"
          ∷ codes "write 0.1.2 1 0 02"
          ∷ codes "read 0.1.1 1"
          ∷ codes "read 0.1.2 0"
          ∷ codes "abort 0.1.2"
          ∷ codes "commit 0.1.1"
          ∷ []);
      output =
          text
          (codes "> pcl 1 1 2 8 8"
          ∷ codes "> begin 0"
          ∷ codes "begun 0.1.1"
          ∷ codes "> begin 0"
          ∷ codes "begun 0.1.2"
          ∷ codes "> write 0.1.1 0 0 01"
          ∷ codes "done 0.1.1 0 0"
          ∷ codes "> write 0.1.2 1 0 02"
          ∷ codes "done 0.1.2 1 0"
          ∷ codes "> read 0.1.1 1"
          ∷ codes "waits 0.1.1 1"
          ∷ codes "> read 0.1.2 0"
          ∷ codes "waits 0.1.2 0"
          ∷ codes "> abort 0.1.2"
          ∷ codes "aborted 0.1.2"
          ∷ codes "value 0.1.1 1 0 0000000000000000"
          ∷ codes "> commit 0.1.1"
          ∷ codes "committed 0.1.1"
          ∷ codes "end 8 1"
          ∷ []);
      status = 0;
    }

-- image goes with release
abbrev pub image_goes_with_release : Row
image_goes_with_release =
    record {
      input =
          text
          (codes "pcl 1 2 4 8 4"
          ∷ codes "begin 0"
          ∷ codes "write 0.1.1 1 0 07"
          ∷ codes "deliver 0 1"
          ∷ codes "deliver 1 0"
          ∷ codes "commit 0.1.1"
          ∷ codes "begin 1"
          ∷ codes "read 1.1.1 1"
          ∷ codes "deliver 0 1"
          ∷ codes "commit 1.1.1"
          ∷ []);
      output =
          text
          (codes "> pcl 1 2 4 8 4"
          ∷ codes "> begin 0"
          ∷ codes "begun 0.1.1"
          ∷ codes "> write 0.1.1 1 0 07"
          ∷ codes "waits 0.1.1 1"
          ∷ codes "send 0 1 1 request 0.1.1 1 X -"
          ∷ codes "> deliver 0 1"
          ∷ codes "taken"
          ∷ codes "send 1 0 1 grant 0.1.1 1 X lock 0 disk"
          ∷ codes "> deliver 1 0"
          ∷ codes "taken"
          ∷ codes "done 0.1.1 1 0"
          ∷ codes "> commit 0.1.1"
          ∷ codes "committed 0.1.1"
          ∷ codes "send 0 1 1 release 0.1.1 1 1 image"
          ∷ codes "> begin 1"
          ∷ codes "begun 1.1.1"
          ∷ codes "> read 1.1.1 1"
          ∷ codes "waits 1.1.1 1"
          ∷ codes "> deliver 0 1"
          ∷ codes "taken"
          ∷ codes "value 1.1.1 1 1 0700000000000000"
          ∷ codes "> commit 1.1.1"
          ∷ codes "committed 1.1.1"
          ∷ codes "end 9 2"
          ∷ []);
      status = 0;
    }

-- refusals
abbrev pub refusals : Row
refusals =
    record {
      input =
          text
          (codes "pcl 1 2 2 8 2"
          ∷ codes "begin 2"
          ∷ codes "read 0.1.1 0"
          ∷ codes "deliver 0 1"
          ∷ codes "begin 0"
          ∷ codes "read 0.1.1 2"
          ∷ codes "read 0.1.1 1"
          ∷ codes "commit 0.1.1"
          ∷ codes "flush 0 1"
          ∷ codes "install 0"
          ∷ codes "view 10 0,0"
          ∷ codes "view 11 0,0"
          ∷ codes "view 1 0"
          ∷ codes "reopen"
          ∷ codes "crash 1"
          ∷ codes "crash 1"
          ∷ codes "abort 0.1.1"
          ∷ []);
      output =
          text
          (codes "> pcl 1 2 2 8 2"
          ∷ codes "> begin 2"
          ∷ codes "refused 1 NoNode"
          ∷ codes "> read 0.1.1 0"
          ∷ codes "refused 4 NoTx"
          ∷ codes "> deliver 0 1"
          ∷ codes "refused 10 EmptyLink"
          ∷ codes "> begin 0"
          ∷ codes "begun 0.1.1"
          ∷ codes "> read 0.1.1 2"
          ∷ codes "refused 6 NoPage"
          ∷ codes "> read 0.1.1 1"
          ∷ codes "waits 0.1.1 1"
          ∷ codes "send 0 1 1 request 0.1.1 1 S -"
          ∷ codes "> commit 0.1.1"
          ∷ codes "refused 5 TxWaits"
          ∷ codes "> flush 0 1"
          ∷ codes "refused 11 NoCopy"
          ∷ codes "> install 0"
          ∷ codes "refused 15 NoView"
          ∷ codes "> view 10 0,0"
          ∷ codes "refused 16 StillUp"
          ∷ codes "> view 11 0,0"
          ∷ codes "view 2"
          ∷ codes "> view 1 0"
          ∷ codes "refused 14 BadView 1"
          ∷ codes "> reopen"
          ∷ codes "refused 16 StillUp"
          ∷ codes "> crash 1"
          ∷ codes "crashed"
          ∷ codes "> crash 1"
          ∷ codes "refused 2 Down"
          ∷ codes "> abort 0.1.1"
          ∷ codes "aborted 0.1.1"
          ∷ codes "send 0 1 1 release 0.1.1 1 -"
          ∷ codes "end 16 0"
          ∷ []);
      status = 0;
    }
