-- Worked schedules: rights.
use Rattle.std.specs.Prelude.{true, false, [], ◌∷◌, codes}
use Rattle.pcl_base.specs.Limits.{Sizes}
use Rattle.pcl_base.specs.declared.event.Event.{Event}
use Rattle.pcl_base.specs.declared.event.Event.TheVariants.{Begin, Read, Write, Commit, Abort, Deliver, Evict, Flush, Crash, View, Install, Reopen, Arm, Cut}
use Rattle.rules_rows.specs.Schedules.{Row, tx}

-- read under right sends nothing
abbrev pub read_under_right_sends_nothing : Row
read_under_right_sends_nothing =
    record {
      sizes = record { nodes = 2; pages = 4; size = 8; frames = 4 };
      input =
          codes "pcl 1 2 4 8 4"
          ∷ codes "begin 0"
          ∷ codes "read 0.1.1 1"
          ∷ codes "deliver 0 1"
          ∷ codes "deliver 1 0"
          ∷ codes "commit 0.1.1"
          ∷ codes "flush 0 1"
          ∷ codes "begin 0"
          ∷ codes "read 0.1.2 1"
          ∷ codes "commit 0.1.2"
          ∷ [];
      events =
          Begin 0
          ∷ Read (tx 0 1 1) 1
          ∷ Deliver 0 1
          ∷ Deliver 1 0
          ∷ Commit (tx 0 1 1)
          ∷ Flush 0 1
          ∷ Begin 0
          ∷ Read (tx 0 1 2) 1
          ∷ Commit (tx 0 1 2)
          ∷ [];
      output =
          codes "> pcl 1 2 4 8 4"
          ∷ codes "> begin 0"
          ∷ codes "begun 0.1.1"
          ∷ codes "> read 0.1.1 1"
          ∷ codes "waits 0.1.1 1"
          ∷ codes "send 0 1 1 request 0.1.1 1 S -"
          ∷ codes "> deliver 0 1"
          ∷ codes "taken"
          ∷ codes "send 1 0 1 grant 0.1.1 1 S right 0 disk"
          ∷ codes "> deliver 1 0"
          ∷ codes "taken"
          ∷ codes "value 0.1.1 1 0 0000000000000000"
          ∷ codes "> commit 0.1.1"
          ∷ codes "committed 0.1.1"
          ∷ codes "> flush 0 1"
          ∷ codes "refused 13 NotOwner"
          ∷ codes "> begin 0"
          ∷ codes "begun 0.1.2"
          ∷ codes "> read 0.1.2 1"
          ∷ codes "value 0.1.2 1 0 0000000000000000"
          ∷ codes "> commit 0.1.2"
          ∷ codes "committed 0.1.2"
          ∷ codes "end 9 2"
          ∷ [];
    }

-- reader under right upgrades first
abbrev pub reader_under_right_upgrades_first : Row
reader_under_right_upgrades_first =
    record {
      sizes = record { nodes = 2; pages = 4; size = 8; frames = 4 };
      input =
          codes "pcl 1 2 4 8 4"
          ∷ codes "begin 0"
          ∷ codes "read 0.1.1 1"
          ∷ codes "deliver 0 1"
          ∷ codes "deliver 1 0"
          ∷ codes "begin 1"
          ∷ codes "write 1.1.1 1 0 01"
          ∷ codes "write 0.1.1 1 0 02"
          ∷ codes "deliver 1 0"
          ∷ codes "deliver 0 1"
          ∷ codes "deliver 0 1"
          ∷ codes "deliver 1 0"
          ∷ codes "commit 0.1.1"
          ∷ codes "deliver 0 1"
          ∷ codes "read 1.1.1 1"
          ∷ codes "commit 1.1.1"
          ∷ [];
      events =
          Begin 0
          ∷ Read (tx 0 1 1) 1
          ∷ Deliver 0 1
          ∷ Deliver 1 0
          ∷ Begin 1
          ∷ Write (tx 1 1 1) 1 0 (1 ∷ [])
          ∷ Write (tx 0 1 1) 1 0 (2 ∷ [])
          ∷ Deliver 1 0
          ∷ Deliver 0 1
          ∷ Deliver 0 1
          ∷ Deliver 1 0
          ∷ Commit (tx 0 1 1)
          ∷ Deliver 0 1
          ∷ Read (tx 1 1 1) 1
          ∷ Commit (tx 1 1 1)
          ∷ [];
      output =
          codes "> pcl 1 2 4 8 4"
          ∷ codes "> begin 0"
          ∷ codes "begun 0.1.1"
          ∷ codes "> read 0.1.1 1"
          ∷ codes "waits 0.1.1 1"
          ∷ codes "send 0 1 1 request 0.1.1 1 S -"
          ∷ codes "> deliver 0 1"
          ∷ codes "taken"
          ∷ codes "send 1 0 1 grant 0.1.1 1 S right 0 disk"
          ∷ codes "> deliver 1 0"
          ∷ codes "taken"
          ∷ codes "value 0.1.1 1 0 0000000000000000"
          ∷ codes "> begin 1"
          ∷ codes "begun 1.1.1"
          ∷ codes "> write 1.1.1 1 0 01"
          ∷ codes "waits 1.1.1 1"
          ∷ codes "send 1 0 1 revoke 1"
          ∷ codes "> write 0.1.1 1 0 02"
          ∷ codes "waits 0.1.1 1"
          ∷ codes "send 0 1 1 request 0.1.1 1 X 0"
          ∷ codes "> deliver 1 0"
          ∷ codes "taken"
          ∷ codes "send 0 1 1 return 1 0.1.1"
          ∷ codes "> deliver 0 1"
          ∷ codes "taken"
          ∷ codes "> deliver 0 1"
          ∷ codes "taken"
          ∷ codes "send 1 0 1 grant 0.1.1 1 X lock 0 current"
          ∷ codes "> deliver 1 0"
          ∷ codes "taken"
          ∷ codes "done 0.1.1 1 0"
          ∷ codes "> commit 0.1.1"
          ∷ codes "committed 0.1.1"
          ∷ codes "send 0 1 1 release 0.1.1 1 1 image"
          ∷ codes "> deliver 0 1"
          ∷ codes "taken"
          ∷ codes "done 1.1.1 1 1"
          ∷ codes "> read 1.1.1 1"
          ∷ codes "value 1.1.1 1 1 0100000000000000"
          ∷ codes "> commit 1.1.1"
          ∷ codes "committed 1.1.1"
          ∷ codes "end 15 2"
          ∷ [];
    }

-- revocation with open reader
abbrev pub revocation_with_open_reader : Row
revocation_with_open_reader =
    record {
      sizes = record { nodes = 2; pages = 4; size = 8; frames = 4 };
      input =
          codes "pcl 1 2 4 8 4"
          ∷ codes "begin 0"
          ∷ codes "read 0.1.1 1"
          ∷ codes "deliver 0 1"
          ∷ codes "deliver 1 0"
          ∷ codes "begin 1"
          ∷ codes "write 1.1.1 1 0 01"
          ∷ codes "deliver 1 0"
          ∷ codes "deliver 0 1"
          ∷ codes "commit 0.1.1"
          ∷ codes "deliver 0 1"
          ∷ codes "commit 1.1.1"
          ∷ [];
      events =
          Begin 0
          ∷ Read (tx 0 1 1) 1
          ∷ Deliver 0 1
          ∷ Deliver 1 0
          ∷ Begin 1
          ∷ Write (tx 1 1 1) 1 0 (1 ∷ [])
          ∷ Deliver 1 0
          ∷ Deliver 0 1
          ∷ Commit (tx 0 1 1)
          ∷ Deliver 0 1
          ∷ Commit (tx 1 1 1)
          ∷ [];
      output =
          codes "> pcl 1 2 4 8 4"
          ∷ codes "> begin 0"
          ∷ codes "begun 0.1.1"
          ∷ codes "> read 0.1.1 1"
          ∷ codes "waits 0.1.1 1"
          ∷ codes "send 0 1 1 request 0.1.1 1 S -"
          ∷ codes "> deliver 0 1"
          ∷ codes "taken"
          ∷ codes "send 1 0 1 grant 0.1.1 1 S right 0 disk"
          ∷ codes "> deliver 1 0"
          ∷ codes "taken"
          ∷ codes "value 0.1.1 1 0 0000000000000000"
          ∷ codes "> begin 1"
          ∷ codes "begun 1.1.1"
          ∷ codes "> write 1.1.1 1 0 01"
          ∷ codes "waits 1.1.1 1"
          ∷ codes "send 1 0 1 revoke 1"
          ∷ codes "> deliver 1 0"
          ∷ codes "taken"
          ∷ codes "send 0 1 1 return 1 0.1.1"
          ∷ codes "> deliver 0 1"
          ∷ codes "taken"
          ∷ codes "> commit 0.1.1"
          ∷ codes "committed 0.1.1"
          ∷ codes "send 0 1 1 release 0.1.1 1 -"
          ∷ codes "> deliver 0 1"
          ∷ codes "taken"
          ∷ codes "done 1.1.1 1 0"
          ∷ codes "> commit 1.1.1"
          ∷ codes "committed 1.1.1"
          ∷ codes "end 11 2"
          ∷ [];
    }

-- right arrives for aborted reader
abbrev pub right_arrives_for_aborted_reader : Row
right_arrives_for_aborted_reader =
    record {
      sizes = record { nodes = 2; pages = 4; size = 8; frames = 4 };
      input =
          codes "pcl 1 2 4 8 4"
          ∷ codes "begin 0"
          ∷ codes "read 0.1.1 1"
          ∷ codes "deliver 0 1"
          ∷ codes "abort 0.1.1"
          ∷ codes "deliver 1 0"
          ∷ codes "deliver 0 1"
          ∷ codes "begin 1"
          ∷ codes "write 1.1.1 1 0 01"
          ∷ codes "deliver 1 0"
          ∷ codes "deliver 0 1"
          ∷ [];
      events =
          Begin 0
          ∷ Read (tx 0 1 1) 1
          ∷ Deliver 0 1
          ∷ Abort (tx 0 1 1)
          ∷ Deliver 1 0
          ∷ Deliver 0 1
          ∷ Begin 1
          ∷ Write (tx 1 1 1) 1 0 (1 ∷ [])
          ∷ Deliver 1 0
          ∷ Deliver 0 1
          ∷ [];
      output =
          codes "> pcl 1 2 4 8 4"
          ∷ codes "> begin 0"
          ∷ codes "begun 0.1.1"
          ∷ codes "> read 0.1.1 1"
          ∷ codes "waits 0.1.1 1"
          ∷ codes "send 0 1 1 request 0.1.1 1 S -"
          ∷ codes "> deliver 0 1"
          ∷ codes "taken"
          ∷ codes "send 1 0 1 grant 0.1.1 1 S right 0 disk"
          ∷ codes "> abort 0.1.1"
          ∷ codes "aborted 0.1.1"
          ∷ codes "send 0 1 1 release 0.1.1 1 -"
          ∷ codes "> deliver 1 0"
          ∷ codes "taken"
          ∷ codes "> deliver 0 1"
          ∷ codes "taken"
          ∷ codes "> begin 1"
          ∷ codes "begun 1.1.1"
          ∷ codes "> write 1.1.1 1 0 01"
          ∷ codes "waits 1.1.1 1"
          ∷ codes "send 1 0 1 revoke 1"
          ∷ codes "> deliver 1 0"
          ∷ codes "taken"
          ∷ codes "send 0 1 1 return 1 -"
          ∷ codes "> deliver 0 1"
          ∷ codes "taken"
          ∷ codes "done 1.1.1 1 0"
          ∷ codes "end 10 0"
          ∷ [];
    }
