-- Worked schedules: telling.
use Rattle.std.specs.Prelude.{true, false, [], ◌∷◌, codes}
use Rattle.pcl_base.specs.Limits.{Sizes}
use Rattle.pcl_base.specs.declared.event.Event.{Event}
use Rattle.pcl_base.specs.declared.event.Event.TheVariants.{Begin, Read, Write, Commit, Abort, Deliver, Evict, Flush, Crash, View, Install, Reopen, Arm, Cut}
use Rattle.rules_rows.specs.Schedules.{Row, tx}

-- telling right of any version
abbrev pub telling_right_of_any_version : Row
telling_right_of_any_version =
    record {
      sizes = record { nodes = 2; pages = 2; size = 14; frames = 2 };
      input =
          codes "pcl 1 2 2 14 2"
          ∷ codes "begin 0"
          ∷ codes "read 0.1.1 1"
          ∷ codes "deliver 0 1"
          ∷ codes "begin 1"
          ∷ codes "deliver 1 0"
          ∷ codes "write 1.1.1 1 3 96d4"
          ∷ codes "deliver 1 0"
          ∷ codes "commit 0.1.1"
          ∷ codes "deliver 0 1"
          ∷ codes "begin 0"
          ∷ codes "read 0.1.2 1"
          ∷ codes "deliver 0 1"
          ∷ codes "deliver 0 1"
          ∷ codes "abort 0.1.2"
          ∷ codes "commit 1.1.1"
          ∷ codes "deliver 1 0"
          ∷ codes "begin 0"
          ∷ codes "read 0.1.3 1"
          ∷ [];
      events =
          Begin 0
          ∷ Read (tx 0 1 1) 1
          ∷ Deliver 0 1
          ∷ Begin 1
          ∷ Deliver 1 0
          ∷ Write (tx 1 1 1) 1 3 (150 ∷ 212 ∷ [])
          ∷ Deliver 1 0
          ∷ Commit (tx 0 1 1)
          ∷ Deliver 0 1
          ∷ Begin 0
          ∷ Read (tx 0 1 2) 1
          ∷ Deliver 0 1
          ∷ Deliver 0 1
          ∷ Abort (tx 0 1 2)
          ∷ Commit (tx 1 1 1)
          ∷ Deliver 1 0
          ∷ Begin 0
          ∷ Read (tx 0 1 3) 1
          ∷ [];
      output =
          codes "> pcl 1 2 2 14 2"
          ∷ codes "> begin 0"
          ∷ codes "begun 0.1.1"
          ∷ codes "> read 0.1.1 1"
          ∷ codes "waits 0.1.1 1"
          ∷ codes "send 0 1 1 request 0.1.1 1 S -"
          ∷ codes "> deliver 0 1"
          ∷ codes "taken"
          ∷ codes "send 1 0 1 grant 0.1.1 1 S right 0 disk"
          ∷ codes "> begin 1"
          ∷ codes "begun 1.1.1"
          ∷ codes "> deliver 1 0"
          ∷ codes "taken"
          ∷ codes "value 0.1.1 1 0 0000000000000000000000000000"
          ∷ codes "> write 1.1.1 1 3 96d4"
          ∷ codes "waits 1.1.1 1"
          ∷ codes "send 1 0 1 revoke 1"
          ∷ codes "> deliver 1 0"
          ∷ codes "taken"
          ∷ codes "send 0 1 1 return 1 0.1.1"
          ∷ codes "> commit 0.1.1"
          ∷ codes "committed 0.1.1"
          ∷ codes "send 0 1 1 release 0.1.1 1 -"
          ∷ codes "> deliver 0 1"
          ∷ codes "taken"
          ∷ codes "> begin 0"
          ∷ codes "begun 0.1.2"
          ∷ codes "> read 0.1.2 1"
          ∷ codes "waits 0.1.2 1"
          ∷ codes "send 0 1 1 request 0.1.2 1 S 0"
          ∷ codes "> deliver 0 1"
          ∷ codes "taken"
          ∷ codes "done 1.1.1 1 0"
          ∷ codes "> deliver 0 1"
          ∷ codes "taken"
          ∷ codes "> abort 0.1.2"
          ∷ codes "aborted 0.1.2"
          ∷ codes "send 0 1 1 release 0.1.2 1 -"
          ∷ codes "> commit 1.1.1"
          ∷ codes "committed 1.1.1"
          ∷ codes "send 1 0 1 grant 0.1.2 1 S right 1 image"
          ∷ codes "> deliver 1 0"
          ∷ codes "taken"
          ∷ codes "> begin 0"
          ∷ codes "begun 0.1.3"
          ∷ codes "> read 0.1.3 1"
          ∷ codes "waits 0.1.3 1"
          ∷ codes "send 0 1 1 request 0.1.3 1 S 0"
          ∷ codes "end 18 2"
          ∷ [];
    }

-- telling sender not live
abbrev pub telling_sender_not_live : Row
telling_sender_not_live =
    record {
      sizes = record { nodes = 4; pages = 3; size = 12; frames = 3 };
      input =
          codes "pcl 1 4 3 12 3"
          ∷ codes "begin 1"
          ∷ codes "write 1.1.1 2 7 0e1a"
          ∷ codes "begin 0"
          ∷ codes "crash 1"
          ∷ codes "read 0.1.1 2"
          ∷ codes "deliver 0 2"
          ∷ codes "view 1011 2,3,2,3"
          ∷ codes "install 2"
          ∷ codes "deliver 1 2"
          ∷ [];
      events =
          Begin 1
          ∷ Write (tx 1 1 1) 2 7 (14 ∷ 26 ∷ [])
          ∷ Begin 0
          ∷ Crash 1
          ∷ Read (tx 0 1 1) 2
          ∷ Deliver 0 2
          ∷ View (true ∷ false ∷ true ∷ true ∷ []) (2 ∷ 3 ∷ 2 ∷ 3 ∷ [])
          ∷ Install 2
          ∷ Deliver 1 2
          ∷ [];
      output =
          codes "> pcl 1 4 3 12 3"
          ∷ codes "> begin 1"
          ∷ codes "begun 1.1.1"
          ∷ codes "> write 1.1.1 2 7 0e1a"
          ∷ codes "waits 1.1.1 2"
          ∷ codes "send 1 2 1 request 1.1.1 2 X -"
          ∷ codes "> begin 0"
          ∷ codes "begun 0.1.1"
          ∷ codes "> crash 1"
          ∷ codes "crashed"
          ∷ codes "> read 0.1.1 2"
          ∷ codes "waits 0.1.1 2"
          ∷ codes "send 0 2 1 request 0.1.1 2 S -"
          ∷ codes "> deliver 0 2"
          ∷ codes "taken"
          ∷ codes "send 2 0 1 grant 0.1.1 2 S right 0 disk"
          ∷ codes "> view 1011 2,3,2,3"
          ∷ codes "view 2"
          ∷ codes "> install 2"
          ∷ codes "installed 2"
          ∷ codes "send 2 3 2 report 1 waits - locks - rights -"
          ∷ codes "> deliver 1 2"
          ∷ codes "dropped"
          ∷ codes "end 9 0"
          ∷ [];
    }

-- telling serves at once
abbrev pub telling_serves_at_once : Row
telling_serves_at_once =
    record {
      sizes = record { nodes = 2; pages = 1; size = 8; frames = 6 };
      input =
          codes "pcl 1 2 1 8 6"
          ∷ codes "begin 0"
          ∷ codes "write 0.1.1 0 6 7a"
          ∷ codes "view 11 1,0"
          ∷ codes "install 1"
          ∷ codes "commit 0.1.1"
          ∷ codes "begin 1"
          ∷ codes "read 1.1.1 0"
          ∷ [];
      events =
          Begin 0
          ∷ Write (tx 0 1 1) 0 6 (122 ∷ [])
          ∷ View (true ∷ true ∷ []) (1 ∷ 0 ∷ [])
          ∷ Install 1
          ∷ Commit (tx 0 1 1)
          ∷ Begin 1
          ∷ Read (tx 1 1 1) 0
          ∷ [];
      output =
          codes "> pcl 1 2 1 8 6"
          ∷ codes "> begin 0"
          ∷ codes "begun 0.1.1"
          ∷ codes "> write 0.1.1 0 6 7a"
          ∷ codes "done 0.1.1 0 0"
          ∷ codes "> view 11 1,0"
          ∷ codes "view 2"
          ∷ codes "> install 1"
          ∷ codes "installed 2"
          ∷ codes "send 1 0 2 report 1 waits - locks - rights -"
          ∷ codes "> commit 0.1.1"
          ∷ codes "committed 0.1.1"
          ∷ codes "> begin 1"
          ∷ codes "begun 1.1.1"
          ∷ codes "> read 1.1.1 0"
          ∷ codes "waits 1.1.1 0"
          ∷ codes "end 7 1"
          ∷ [];
    }

-- telling serves before last report
abbrev pub telling_serves_before_last_report : Row
telling_serves_before_last_report =
    record {
      sizes = record { nodes = 3; pages = 2; size = 16; frames = 5 };
      input =
          codes "pcl 1 3 2 16 5"
          ∷ codes "view 111 0,0,2"
          ∷ codes "install 0"
          ∷ codes "install 2"
          ∷ codes "deliver 2 0"
          ∷ codes "begin 0"
          ∷ codes "write 0.1.1 1 2 71c7"
          ∷ codes "commit 0.1.1"
          ∷ codes "evict 0 1"
          ∷ codes "begin 1"
          ∷ codes "read 1.1.1 1"
          ∷ [];
      events =
          View (true ∷ true ∷ true ∷ []) (0 ∷ 0 ∷ 2 ∷ [])
          ∷ Install 0
          ∷ Install 2
          ∷ Deliver 2 0
          ∷ Begin 0
          ∷ Write (tx 0 1 1) 1 2 (113 ∷ 199 ∷ [])
          ∷ Commit (tx 0 1 1)
          ∷ Evict 0 1
          ∷ Begin 1
          ∷ Read (tx 1 1 1) 1
          ∷ [];
      output =
          codes "> pcl 1 3 2 16 5"
          ∷ codes "> view 111 0,0,2"
          ∷ codes "view 2"
          ∷ codes "> install 0"
          ∷ codes "installed 2"
          ∷ codes "> install 2"
          ∷ codes "installed 2"
          ∷ codes "send 2 0 2 report 1 waits - locks - rights -"
          ∷ codes "> deliver 2 0"
          ∷ codes "taken"
          ∷ codes "> begin 0"
          ∷ codes "begun 0.1.1"
          ∷ codes "> write 0.1.1 1 2 71c7"
          ∷ codes "waits 0.1.1 1"
          ∷ codes "> commit 0.1.1"
          ∷ codes "refused 5 TxWaits"
          ∷ codes "> evict 0 1"
          ∷ codes "refused 11 NoCopy"
          ∷ codes "> begin 1"
          ∷ codes "begun 1.1.1"
          ∷ codes "> read 1.1.1 1"
          ∷ codes "value 1.1.1 1 0 00000000000000000000000000000000"
          ∷ codes "end 10 0"
          ∷ [];
    }
