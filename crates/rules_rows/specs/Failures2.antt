-- Worked schedules: failures.
use Rattle.std.specs.Prelude.{true, false, [], ◌∷◌, codes}
use Rattle.pcl_base.specs.Limits.{Sizes}
use Rattle.pcl_base.specs.declared.event.Event.{Event}
use Rattle.pcl_base.specs.declared.event.Event.TheVariants.{Begin, Read, Write, Commit, Abort, Deliver, Evict, Flush, Crash, View, Install, Reopen, Arm, Cut}
use Rattle.rules_rows.specs.Schedules.{Row, tx}

-- late and early messages d late revoke dropped after install
abbrev pub late_and_early_messages_d_late_revoke_dropped_after_install : Row
late_and_early_messages_d_late_revoke_dropped_after_install =
    record {
      sizes = record { nodes = 3; pages = 3; size = 8; frames = 4 };
      input =
          codes "pcl 1 3 3 8 4"
          ∷ codes "begin 2"
          ∷ codes "read 2.1.1 1"
          ∷ codes "deliver 2 1"
          ∷ codes "deliver 1 2"
          ∷ codes "begin 1"
          ∷ codes "write 1.1.1 1 0 01"
          ∷ codes "crash 1"
          ∷ codes "view 101 0,0,2"
          ∷ codes "install 2"
          ∷ codes "deliver 1 2"
          ∷ [];
      events =
          Begin 2
          ∷ Read (tx 2 1 1) 1
          ∷ Deliver 2 1
          ∷ Deliver 1 2
          ∷ Begin 1
          ∷ Write (tx 1 1 1) 1 0 (1 ∷ [])
          ∷ Crash 1
          ∷ View (true ∷ false ∷ true ∷ []) (0 ∷ 0 ∷ 2 ∷ [])
          ∷ Install 2
          ∷ Deliver 1 2
          ∷ [];
      output =
          codes "> pcl 1 3 3 8 4"
          ∷ codes "> begin 2"
          ∷ codes "begun 2.1.1"
          ∷ codes "> read 2.1.1 1"
          ∷ codes "waits 2.1.1 1"
          ∷ codes "send 2 1 1 request 2.1.1 1 S -"
          ∷ codes "> deliver 2 1"
          ∷ codes "taken"
          ∷ codes "send 1 2 1 grant 2.1.1 1 S right 0 disk"
          ∷ codes "> deliver 1 2"
          ∷ codes "taken"
          ∷ codes "value 2.1.1 1 0 0000000000000000"
          ∷ codes "> begin 1"
          ∷ codes "begun 1.1.1"
          ∷ codes "> write 1.1.1 1 0 01"
          ∷ codes "waits 1.1.1 1"
          ∷ codes "send 1 2 1 revoke 1"
          ∷ codes "> crash 1"
          ∷ codes "crashed"
          ∷ codes "> view 101 0,0,2"
          ∷ codes "view 2"
          ∷ codes "> install 2"
          ∷ codes "installed 2"
          ∷ codes "send 2 0 2 report 1 waits - locks - rights 1:0"
          ∷ codes "> deliver 1 2"
          ∷ codes "dropped"
          ∷ codes "end 10 0"
          ∷ [];
    }

-- late and early messages e new owners write revokes reported right
abbrev pub late_and_early_messages_e_new_owners_write_revokes_reported_right : Row
late_and_early_messages_e_new_owners_write_revokes_reported_right =
    record {
      sizes = record { nodes = 3; pages = 3; size = 8; frames = 4 };
      input =
          codes "pcl 1 3 3 8 4"
          ∷ codes "begin 2"
          ∷ codes "read 2.1.1 1"
          ∷ codes "deliver 2 1"
          ∷ codes "deliver 1 2"
          ∷ codes "begin 0"
          ∷ codes "write 0.1.1 1 0 01"
          ∷ codes "crash 1"
          ∷ codes "view 101 0,0,2"
          ∷ codes "install 0"
          ∷ codes "install 2"
          ∷ codes "deliver 2 0"
          ∷ [];
      events =
          Begin 2
          ∷ Read (tx 2 1 1) 1
          ∷ Deliver 2 1
          ∷ Deliver 1 2
          ∷ Begin 0
          ∷ Write (tx 0 1 1) 1 0 (1 ∷ [])
          ∷ Crash 1
          ∷ View (true ∷ false ∷ true ∷ []) (0 ∷ 0 ∷ 2 ∷ [])
          ∷ Install 0
          ∷ Install 2
          ∷ Deliver 2 0
          ∷ [];
      output =
          codes "> pcl 1 3 3 8 4"
          ∷ codes "> begin 2"
          ∷ codes "begun 2.1.1"
          ∷ codes "> read 2.1.1 1"
          ∷ codes "waits 2.1.1 1"
          ∷ codes "send 2 1 1 request 2.1.1 1 S -"
          ∷ codes "> deliver 2 1"
          ∷ codes "taken"
          ∷ codes "send 1 2 1 grant 2.1.1 1 S right 0 disk"
          ∷ codes "> deliver 1 2"
          ∷ codes "taken"
          ∷ codes "value 2.1.1 1 0 0000000000000000"
          ∷ codes "> begin 0"
          ∷ codes "begun 0.1.1"
          ∷ codes "> write 0.1.1 1 0 01"
          ∷ codes "waits 0.1.1 1"
          ∷ codes "send 0 1 1 request 0.1.1 1 X -"
          ∷ codes "> crash 1"
          ∷ codes "crashed"
          ∷ codes "> view 101 0,0,2"
          ∷ codes "view 2"
          ∷ codes "> install 0"
          ∷ codes "installed 2"
          ∷ codes "> install 2"
          ∷ codes "installed 2"
          ∷ codes "send 2 0 2 report 1 waits - locks - rights 1:0"
          ∷ codes "> deliver 2 0"
          ∷ codes "taken"
          ∷ codes "serving 1"
          ∷ codes "send 0 2 2 revoke 1"
          ∷ codes "end 11 0"
          ∷ [];
    }

-- new owner stops within redo
abbrev pub new_owner_stops_within_redo : Row
new_owner_stops_within_redo =
    record {
      sizes = record { nodes = 3; pages = 6; size = 8; frames = 4 };
      input =
          codes "pcl 1 3 6 8 4"
          ∷ codes "begin 2"
          ∷ codes "write 2.1.1 1 0 05"
          ∷ codes "deliver 2 1"
          ∷ codes "deliver 1 2"
          ∷ codes "write 2.1.1 4 0 06"
          ∷ codes "deliver 2 1"
          ∷ codes "deliver 1 2"
          ∷ codes "commit 2.1.1"
          ∷ codes "crash 1"
          ∷ codes "view 101 0,0,2"
          ∷ codes "install 0"
          ∷ codes "arm 0 2 0"
          ∷ codes "install 2"
          ∷ codes "deliver 2 0"
          ∷ codes "view 001 2,2,2"
          ∷ codes "install 2"
          ∷ codes "begin 2"
          ∷ codes "read 2.1.2 1"
          ∷ codes "read 2.1.2 4"
          ∷ codes "commit 2.1.2"
          ∷ [];
      events =
          Begin 2
          ∷ Write (tx 2 1 1) 1 0 (5 ∷ [])
          ∷ Deliver 2 1
          ∷ Deliver 1 2
          ∷ Write (tx 2 1 1) 4 0 (6 ∷ [])
          ∷ Deliver 2 1
          ∷ Deliver 1 2
          ∷ Commit (tx 2 1 1)
          ∷ Crash 1
          ∷ View (true ∷ false ∷ true ∷ []) (0 ∷ 0 ∷ 2 ∷ [])
          ∷ Install 0
          ∷ Arm 0 2 0
          ∷ Install 2
          ∷ Deliver 2 0
          ∷ View (false ∷ false ∷ true ∷ []) (2 ∷ 2 ∷ 2 ∷ [])
          ∷ Install 2
          ∷ Begin 2
          ∷ Read (tx 2 1 2) 1
          ∷ Read (tx 2 1 2) 4
          ∷ Commit (tx 2 1 2)
          ∷ [];
      output =
          codes "> pcl 1 3 6 8 4"
          ∷ codes "> begin 2"
          ∷ codes "begun 2.1.1"
          ∷ codes "> write 2.1.1 1 0 05"
          ∷ codes "waits 2.1.1 1"
          ∷ codes "send 2 1 1 request 2.1.1 1 X -"
          ∷ codes "> deliver 2 1"
          ∷ codes "taken"
          ∷ codes "send 1 2 1 grant 2.1.1 1 X lock 0 disk"
          ∷ codes "> deliver 1 2"
          ∷ codes "taken"
          ∷ codes "done 2.1.1 1 0"
          ∷ codes "> write 2.1.1 4 0 06"
          ∷ codes "waits 2.1.1 4"
          ∷ codes "send 2 1 1 request 2.1.1 4 X -"
          ∷ codes "> deliver 2 1"
          ∷ codes "taken"
          ∷ codes "send 1 2 1 grant 2.1.1 4 X lock 0 disk"
          ∷ codes "> deliver 1 2"
          ∷ codes "taken"
          ∷ codes "done 2.1.1 4 0"
          ∷ codes "> commit 2.1.1"
          ∷ codes "committed 2.1.1"
          ∷ codes "send 2 1 1 release 2.1.1 1 1 image"
          ∷ codes "send 2 1 1 release 2.1.1 4 1 image"
          ∷ codes "> crash 1"
          ∷ codes "crashed"
          ∷ codes "> view 101 0,0,2"
          ∷ codes "view 2"
          ∷ codes "> install 0"
          ∷ codes "installed 2"
          ∷ codes "> arm 0 2 0"
          ∷ codes "armed"
          ∷ codes "> install 2"
          ∷ codes "installed 2"
          ∷ codes "send 2 0 2 report 1 waits - locks - rights -"
          ∷ codes "> deliver 2 0"
          ∷ codes "halted write"
          ∷ codes "> view 001 2,2,2"
          ∷ codes "view 3"
          ∷ codes "> install 2"
          ∷ codes "installed 3"
          ∷ codes "serving 0"
          ∷ codes "serving 1"
          ∷ codes "> begin 2"
          ∷ codes "begun 2.1.2"
          ∷ codes "> read 2.1.2 1"
          ∷ codes "value 2.1.2 1 1 0500000000000000"
          ∷ codes "> read 2.1.2 4"
          ∷ codes "value 2.1.2 4 1 0600000000000000"
          ∷ codes "> commit 2.1.2"
          ∷ codes "committed 2.1.2"
          ∷ codes "end 20 2"
          ∷ [];
    }
