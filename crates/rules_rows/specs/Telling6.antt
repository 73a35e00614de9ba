-- Worked schedules: telling.
use Rattle.std.specs.Prelude.{true, false, [], ◌∷◌, codes}
use Rattle.pcl_base.specs.Limits.{Sizes}
use Rattle.pcl_base.specs.declared.event.Event.{Event}
use Rattle.pcl_base.specs.declared.event.Event.TheVariants.{Begin, Read, Write, Commit, Abort, Deliver, Evict, Flush, Crash, View, Install, Reopen, Arm, Cut}
use Rattle.rules_rows.specs.Schedules.{Row, tx}

-- telling report without locks
abbrev pub telling_report_without_locks : Row
telling_report_without_locks =
    record {
      sizes = record { nodes = 2; pages = 1; size = 10; frames = 3 };
      input =
          codes "pcl 1 2 1 10 3"
          ∷ codes "begin 0"
          ∷ codes "read 0.1.1 0"
          ∷ codes "view 11 1,1"
          ∷ codes "install 0"
          ∷ codes "abort 0.1.1"
          ∷ [];
      events =
          Begin 0
          ∷ Read (tx 0 1 1) 0
          ∷ View (true ∷ true ∷ []) (1 ∷ 1 ∷ [])
          ∷ Install 0
          ∷ Abort (tx 0 1 1)
          ∷ [];
      output =
          codes "> pcl 1 2 1 10 3"
          ∷ codes "> begin 0"
          ∷ codes "begun 0.1.1"
          ∷ codes "> read 0.1.1 0"
          ∷ codes "value 0.1.1 0 0 00000000000000000000"
          ∷ codes "> view 11 1,1"
          ∷ codes "view 2"
          ∷ codes "> install 0"
          ∷ codes "installed 2"
          ∷ codes "send 0 1 2 report 0 waits - locks 0.1.1:0:S rights -"
          ∷ codes "> abort 0.1.1"
          ∷ codes "aborted 0.1.1"
          ∷ codes "send 0 1 2 release 0.1.1 0 -"
          ∷ codes "end 5 0"
          ∷ [];
    }

-- telling report without rights
abbrev pub telling_report_without_rights : Row
telling_report_without_rights =
    record {
      sizes = record { nodes = 3; pages = 3; size = 12; frames = 4 };
      input =
          codes "pcl 1 3 3 12 4"
          ∷ codes "begin 1"
          ∷ codes "read 1.1.1 2"
          ∷ codes "deliver 1 2"
          ∷ codes "crash 2"
          ∷ codes "begin 0"
          ∷ codes "write 0.1.1 2 2 7108"
          ∷ codes "deliver 2 1"
          ∷ codes "view 110 1,1,0"
          ∷ codes "install 0"
          ∷ codes "install 1"
          ∷ codes "deliver 1 0"
          ∷ codes "commit 0.1.1"
          ∷ codes "commit 1.1.1"
          ∷ [];
      events =
          Begin 1
          ∷ Read (tx 1 1 1) 2
          ∷ Deliver 1 2
          ∷ Crash 2
          ∷ Begin 0
          ∷ Write (tx 0 1 1) 2 2 (113 ∷ 8 ∷ [])
          ∷ Deliver 2 1
          ∷ View (true ∷ true ∷ false ∷ []) (1 ∷ 1 ∷ 0 ∷ [])
          ∷ Install 0
          ∷ Install 1
          ∷ Deliver 1 0
          ∷ Commit (tx 0 1 1)
          ∷ Commit (tx 1 1 1)
          ∷ [];
      output =
          codes "> pcl 1 3 3 12 4"
          ∷ codes "> begin 1"
          ∷ codes "begun 1.1.1"
          ∷ codes "> read 1.1.1 2"
          ∷ codes "waits 1.1.1 2"
          ∷ codes "send 1 2 1 request 1.1.1 2 S -"
          ∷ codes "> deliver 1 2"
          ∷ codes "taken"
          ∷ codes "send 2 1 1 grant 1.1.1 2 S right 0 disk"
          ∷ codes "> crash 2"
          ∷ codes "crashed"
          ∷ codes "> begin 0"
          ∷ codes "begun 0.1.1"
          ∷ codes "> write 0.1.1 2 2 7108"
          ∷ codes "waits 0.1.1 2"
          ∷ codes "send 0 2 1 request 0.1.1 2 X -"
          ∷ codes "> deliver 2 1"
          ∷ codes "taken"
          ∷ codes "value 1.1.1 2 0 000000000000000000000000"
          ∷ codes "> view 110 1,1,0"
          ∷ codes "view 2"
          ∷ codes "> install 0"
          ∷ codes "installed 2"
          ∷ codes "send 0 1 2 report 0 waits - locks - rights -"
          ∷ codes "> install 1"
          ∷ codes "installed 2"
          ∷ codes "send 1 0 2 report 2 waits - locks - rights 2:0"
          ∷ codes "> deliver 1 0"
          ∷ codes "taken"
          ∷ codes "serving 2"
          ∷ codes "send 0 1 2 revoke 2"
          ∷ codes "> commit 0.1.1"
          ∷ codes "refused 5 TxWaits"
          ∷ codes "> commit 1.1.1"
          ∷ codes "committed 1.1.1"
          ∷ codes "end 13 1"
          ∷ [];
    }

-- telling return without readers
abbrev pub telling_return_without_readers : Row
telling_return_without_readers =
    record {
      sizes = record { nodes = 4; pages = 1; size = 12; frames = 6 };
      input =
          codes "pcl 1 4 1 12 6"
          ∷ codes "begin 2"
          ∷ codes "read 2.1.1 0"
          ∷ codes "deliver 2 0"
          ∷ codes "deliver 0 2"
          ∷ codes "begin 3"
          ∷ codes "write 3.1.1 0 10 d6"
          ∷ codes "deliver 3 0"
          ∷ codes "deliver 0 2"
          ∷ codes "commit 2.1.1"
          ∷ [];
      events =
          Begin 2
          ∷ Read (tx 2 1 1) 0
          ∷ Deliver 2 0
          ∷ Deliver 0 2
          ∷ Begin 3
          ∷ Write (tx 3 1 1) 0 10 (214 ∷ [])
          ∷ Deliver 3 0
          ∷ Deliver 0 2
          ∷ Commit (tx 2 1 1)
          ∷ [];
      output =
          codes "> pcl 1 4 1 12 6"
          ∷ codes "> begin 2"
          ∷ codes "begun 2.1.1"
          ∷ codes "> read 2.1.1 0"
          ∷ codes "waits 2.1.1 0"
          ∷ codes "send 2 0 1 request 2.1.1 0 S -"
          ∷ codes "> deliver 2 0"
          ∷ codes "taken"
          ∷ codes "send 0 2 1 grant 2.1.1 0 S right 0 disk"
          ∷ codes "> deliver 0 2"
          ∷ codes "taken"
          ∷ codes "value 2.1.1 0 0 000000000000000000000000"
          ∷ codes "> begin 3"
          ∷ codes "begun 3.1.1"
          ∷ codes "> write 3.1.1 0 10 d6"
          ∷ codes "waits 3.1.1 0"
          ∷ codes "send 3 0 1 request 3.1.1 0 X -"
          ∷ codes "> deliver 3 0"
          ∷ codes "taken"
          ∷ codes "send 0 2 1 revoke 0"
          ∷ codes "> deliver 0 2"
          ∷ codes "taken"
          ∷ codes "send 2 0 1 return 0 2.1.1"
          ∷ codes "> commit 2.1.1"
          ∷ codes "committed 2.1.1"
          ∷ codes "send 2 0 1 release 2.1.1 0 -"
          ∷ codes "end 9 1"
          ∷ [];
    }

-- telling right kept after return
abbrev pub telling_right_kept_after_return : Row
telling_right_kept_after_return =
    record {
      sizes = record { nodes = 3; pages = 2; size = 14; frames = 3 };
      input =
          codes "pcl 1 3 2 14 3"
          ∷ codes "begin 2"
          ∷ codes "read 2.1.1 1"
          ∷ codes "deliver 2 1"
          ∷ codes "deliver 1 2"
          ∷ codes "write 2.1.1 1 6 e51a"
          ∷ codes "deliver 2 1"
          ∷ codes "deliver 1 2"
          ∷ codes "deliver 2 1"
          ∷ codes "deliver 1 2"
          ∷ codes "begin 2"
          ∷ codes "read 2.1.2 1"
          ∷ codes "commit 2.1.1"
          ∷ codes "commit 2.1.2"
          ∷ [];
      events =
          Begin 2
          ∷ Read (tx 2 1 1) 1
          ∷ Deliver 2 1
          ∷ Deliver 1 2
          ∷ Write (tx 2 1 1) 1 6 (229 ∷ 26 ∷ [])
          ∷ Deliver 2 1
          ∷ Deliver 1 2
          ∷ Deliver 2 1
          ∷ Deliver 1 2
          ∷ Begin 2
          ∷ Read (tx 2 1 2) 1
          ∷ Commit (tx 2 1 1)
          ∷ Commit (tx 2 1 2)
          ∷ [];
      output =
          codes "> pcl 1 3 2 14 3"
          ∷ codes "> begin 2"
          ∷ codes "begun 2.1.1"
          ∷ codes "> read 2.1.1 1"
          ∷ codes "waits 2.1.1 1"
          ∷ codes "send 2 1 1 request 2.1.1 1 S -"
          ∷ codes "> deliver 2 1"
          ∷ codes "taken"
          ∷ codes "send 1 2 1 grant 2.1.1 1 S right 0 disk"
          ∷ codes "> deliver 1 2"
          ∷ codes "taken"
          ∷ codes "value 2.1.1 1 0 0000000000000000000000000000"
          ∷ codes "> write 2.1.1 1 6 e51a"
          ∷ codes "waits 2.1.1 1"
          ∷ codes "send 2 1 1 request 2.1.1 1 X 0"
          ∷ codes "> deliver 2 1"
          ∷ codes "taken"
          ∷ codes "send 1 2 1 revoke 1"
          ∷ codes "> deliver 1 2"
          ∷ codes "taken"
          ∷ codes "send 2 1 1 return 1 2.1.1"
          ∷ codes "> deliver 2 1"
          ∷ codes "taken"
          ∷ codes "send 1 2 1 grant 2.1.1 1 X lock 0 current"
          ∷ codes "> deliver 1 2"
          ∷ codes "taken"
          ∷ codes "done 2.1.1 1 0"
          ∷ codes "> begin 2"
          ∷ codes "begun 2.1.2"
          ∷ codes "> read 2.1.2 1"
          ∷ codes "waits 2.1.2 1"
          ∷ codes "send 2 1 1 request 2.1.2 1 S 0"
          ∷ codes "> commit 2.1.1"
          ∷ codes "committed 2.1.1"
          ∷ codes "send 2 1 1 release 2.1.1 1 1 image"
          ∷ codes "> commit 2.1.2"
          ∷ codes "refused 5 TxWaits"
          ∷ codes "end 13 1"
          ∷ [];
    }
