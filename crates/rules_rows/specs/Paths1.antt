-- Worked schedules: paths.
use Rattle.std.specs.Prelude.{true, false, [], ◌∷◌, codes}
use Rattle.pcl_base.specs.Limits.{Sizes}
use Rattle.pcl_base.specs.declared.event.Event.{Event}
use Rattle.pcl_base.specs.declared.event.Event.TheVariants.{Begin, Read, Write, Commit, Abort, Deliver, Evict, Flush, Crash, View, Install, Reopen, Arm, Cut}
use Rattle.rules_rows.specs.Schedules.{Row, tx}

-- plain path
abbrev pub plain_path : Row
plain_path =
    record {
      sizes = record { nodes = 1; pages = 1; size = 8; frames = 4 };
      input =
          codes "pcl 1 1 1 8 4"
          ∷ codes "begin 0"
          ∷ codes "write 0.1.1 0 2 beef"
          ∷ codes "read 0.1.1 0"
          ∷ codes "commit 0.1.1"
          ∷ codes "begin 0"
          ∷ codes "read 0.1.2 0"
          ∷ codes "commit 0.1.2"
          ∷ [];
      events =
          Begin 0
          ∷ Write (tx 0 1 1) 0 2 (190 ∷ 239 ∷ [])
          ∷ Read (tx 0 1 1) 0
          ∷ Commit (tx 0 1 1)
          ∷ Begin 0
          ∷ Read (tx 0 1 2) 0
          ∷ Commit (tx 0 1 2)
          ∷ [];
      output =
          codes "> pcl 1 1 1 8 4"
          ∷ codes "> begin 0"
          ∷ codes "begun 0.1.1"
          ∷ codes "> write 0.1.1 0 2 beef"
          ∷ codes "done 0.1.1 0 0"
          ∷ codes "> read 0.1.1 0"
          ∷ codes "value 0.1.1 0 0 0000beef00000000"
          ∷ codes "> commit 0.1.1"
          ∷ codes "committed 0.1.1"
          ∷ codes "> begin 0"
          ∷ codes "begun 0.1.2"
          ∷ codes "> read 0.1.2 0"
          ∷ codes "value 0.1.2 0 1 0000beef00000000"
          ∷ codes "> commit 0.1.2"
          ∷ codes "committed 0.1.2"
          ∷ codes "end 7 2"
          ∷ [];
    }

-- first message path
abbrev pub first_message_path : Row
first_message_path =
    record {
      sizes = record { nodes = 2; pages = 4; size = 8; frames = 4 };
      input =
          codes "pcl 1 2 4 8 4"
          ∷ codes "begin 0"
          ∷ codes "read 0.1.1 1"
          ∷ codes "deliver 0 1"
          ∷ codes "deliver 1 0"
          ∷ codes "commit 0.1.1"
          ∷ [];
      events =
          Begin 0
          ∷ Read (tx 0 1 1) 1
          ∷ Deliver 0 1
          ∷ Deliver 1 0
          ∷ Commit (tx 0 1 1)
          ∷ [];
      output =
          codes "> pcl 1 2 4 8 4"
          ∷ codes "> begin 0"
          ∷ codes "begun 0.1.1"
          ∷ codes "> read 0.1.1 1"
          ∷ codes "waits 0.1.1 1"
          ∷ codes "send 0 1 1 request 0.1.1 1 S -"
          ∷ codes "> deliver 0 1"
          ∷ codes "taken"
          ∷ codes "send 1 0 1 grant 0.1.1 1 S right 0 disk"
          ∷ codes "> deliver 1 0"
          ∷ codes "taken"
          ∷ codes "value 0.1.1 1 0 0000000000000000"
          ∷ codes "> commit 0.1.1"
          ∷ codes "committed 0.1.1"
          ∷ codes "end 5 1"
          ∷ [];
    }

-- header alone
abbrev pub header_alone : Row
header_alone =
    record {
      sizes = record { nodes = 2; pages = 4; size = 8; frames = 4 };
      input =
          codes "pcl 1 2 4 8 4"
          ∷ [];
      events =
          [];
      output =
          codes "> pcl 1 2 4 8 4"
          ∷ codes "end 0 0"
          ∷ [];
    }

-- waiting at one node
abbrev pub waiting_at_one_node : Row
waiting_at_one_node =
    record {
      sizes = record { nodes = 1; pages = 1; size = 8; frames = 4 };
      input =
          codes "pcl 1 1 1 8 4"
          ∷ codes "begin 0"
          ∷ codes "begin 0"
          ∷ codes "begin 0"
          ∷ codes "read 0.1.1 0"
          ∷ codes "read 0.1.2 0"
          ∷ codes "write 0.1.3 0 0 01"
          ∷ codes "commit 0.1.1"
          ∷ codes "commit 0.1.2"
          ∷ codes "commit 0.1.3"
          ∷ [];
      events =
          Begin 0
          ∷ Begin 0
          ∷ Begin 0
          ∷ Read (tx 0 1 1) 0
          ∷ Read (tx 0 1 2) 0
          ∷ Write (tx 0 1 3) 0 0 (1 ∷ [])
          ∷ Commit (tx 0 1 1)
          ∷ Commit (tx 0 1 2)
          ∷ Commit (tx 0 1 3)
          ∷ [];
      output =
          codes "> pcl 1 1 1 8 4"
          ∷ codes "> begin 0"
          ∷ codes "begun 0.1.1"
          ∷ codes "> begin 0"
          ∷ codes "begun 0.1.2"
          ∷ codes "> begin 0"
          ∷ codes "begun 0.1.3"
          ∷ codes "> read 0.1.1 0"
          ∷ codes "value 0.1.1 0 0 0000000000000000"
          ∷ codes "> read 0.1.2 0"
          ∷ codes "value 0.1.2 0 0 0000000000000000"
          ∷ codes "> write 0.1.3 0 0 01"
          ∷ codes "waits 0.1.3 0"
          ∷ codes "> commit 0.1.1"
          ∷ codes "committed 0.1.1"
          ∷ codes "> commit 0.1.2"
          ∷ codes "committed 0.1.2"
          ∷ codes "done 0.1.3 0 0"
          ∷ codes "> commit 0.1.3"
          ∷ codes "committed 0.1.3"
          ∷ codes "end 9 3"
          ∷ [];
    }

-- victim of deadlock
abbrev pub victim_of_deadlock : Row
victim_of_deadlock =
    record {
      sizes = record { nodes = 1; pages = 2; size = 8; frames = 8 };
      input =
          codes "pcl 1 1 2 8 8"
          ∷ codes "begin 0"
          ∷ codes "begin 0"
          ∷ codes "write 0.1.1 0 0 01"
          ∷ codes "write 0.1.2 1 0 02"
          ∷ codes "read 0.1.1 1"
          ∷ codes "read 0.1.2 0"
          ∷ codes "abort 0.1.2"
          ∷ codes "commit 0.1.1"
          ∷ [];
      events =
          Begin 0
          ∷ Begin 0
          ∷ Write (tx 0 1 1) 0 0 (1 ∷ [])
          ∷ Write (tx 0 1 2) 1 0 (2 ∷ [])
          ∷ Read (tx 0 1 1) 1
          ∷ Read (tx 0 1 2) 0
          ∷ Abort (tx 0 1 2)
          ∷ Commit (tx 0 1 1)
          ∷ [];
      output =
          codes "> pcl 1 1 2 8 8"
          ∷ codes "> begin 0"
          ∷ codes "begun 0.1.1"
          ∷ codes "> begin 0"
          ∷ codes "begun 0.1.2"
          ∷ codes "> write 0.1.1 0 0 01"
          ∷ codes "done 0.1.1 0 0"
          ∷ codes "> write 0.1.2 1 0 02"
          ∷ codes "done 0.1.2 1 0"
          ∷ codes "> read 0.1.1 1"
          ∷ codes "waits 0.1.1 1"
          ∷ codes "> read 0.1.2 0"
          ∷ codes "waits 0.1.2 0"
          ∷ codes "> abort 0.1.2"
          ∷ codes "aborted 0.1.2"
          ∷ codes "value 0.1.1 1 0 0000000000000000"
          ∷ codes "> commit 0.1.1"
          ∷ codes "committed 0.1.1"
          ∷ codes "end 8 1"
          ∷ [];
    }
