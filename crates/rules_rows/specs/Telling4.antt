-- Worked schedules: telling.
use Rattle.std.specs.Prelude.{true, false, [], ◌∷◌, codes}
use Rattle.pcl_base.specs.Limits.{Sizes}
use Rattle.pcl_base.specs.declared.event.Event.{Event}
use Rattle.pcl_base.specs.declared.event.Event.TheVariants.{Begin, Read, Write, Commit, Abort, Deliver, Evict, Flush, Crash, View, Install, Reopen, Arm, Cut}
use Rattle.rules_rows.specs.Schedules.{Row, tx}

-- telling no born of receiver
abbrev pub telling_no_born_of_receiver : Row
telling_no_born_of_receiver =
    record {
      sizes = record { nodes = 2; pages = 1; size = 8; frames = 4 };
      input =
          codes "pcl 1 2 1 8 4"
          ∷ codes "begin 1"
          ∷ codes "read 1.1.1 0"
          ∷ codes "begin 0"
          ∷ codes "write 0.1.1 0 0 01"
          ∷ codes "deliver 1 0"
          ∷ codes "crash 1"
          ∷ codes "view 10 0,0"
          ∷ codes "view 11 0,0"
          ∷ codes "abort 0.1.1"
          ∷ codes "install 1"
          ∷ codes "deliver 0 1"
          ∷ codes "install 0"
          ∷ codes "install 0"
          ∷ codes "begin 0"
          ∷ codes "write 0.1.2 0 0 02"
          ∷ codes "begin 1"
          ∷ codes "read 1.3.1 0"
          ∷ codes "deliver 1 0"
          ∷ codes "begin 0"
          ∷ codes "write 0.1.3 0 0 03"
          ∷ codes "abort 0.1.2"
          ∷ codes "deliver 0 1"
          ∷ codes "commit 1.3.1"
          ∷ codes "deliver 1 0"
          ∷ codes "commit 0.1.3"
          ∷ codes "begin 1"
          ∷ codes "read 1.3.2 0"
          ∷ [];
      events =
          Begin 1
          ∷ Read (tx 1 1 1) 0
          ∷ Begin 0
          ∷ Write (tx 0 1 1) 0 0 (1 ∷ [])
          ∷ Deliver 1 0
          ∷ Crash 1
          ∷ View (true ∷ false ∷ []) (0 ∷ 0 ∷ [])
          ∷ View (true ∷ true ∷ []) (0 ∷ 0 ∷ [])
          ∷ Abort (tx 0 1 1)
          ∷ Install 1
          ∷ Deliver 0 1
          ∷ Install 0
          ∷ Install 0
          ∷ Begin 0
          ∷ Write (tx 0 1 2) 0 0 (2 ∷ [])
          ∷ Begin 1
          ∷ Read (tx 1 3 1) 0
          ∷ Deliver 1 0
          ∷ Begin 0
          ∷ Write (tx 0 1 3) 0 0 (3 ∷ [])
          ∷ Abort (tx 0 1 2)
          ∷ Deliver 0 1
          ∷ Commit (tx 1 3 1)
          ∷ Deliver 1 0
          ∷ Commit (tx 0 1 3)
          ∷ Begin 1
          ∷ Read (tx 1 3 2) 0
          ∷ [];
      output =
          codes "> pcl 1 2 1 8 4"
          ∷ codes "> begin 1"
          ∷ codes "begun 1.1.1"
          ∷ codes "> read 1.1.1 0"
          ∷ codes "waits 1.1.1 0"
          ∷ codes "send 1 0 1 request 1.1.1 0 S -"
          ∷ codes "> begin 0"
          ∷ codes "begun 0.1.1"
          ∷ codes "> write 0.1.1 0 0 01"
          ∷ codes "done 0.1.1 0 0"
          ∷ codes "> deliver 1 0"
          ∷ codes "taken"
          ∷ codes "> crash 1"
          ∷ codes "crashed"
          ∷ codes "> view 10 0,0"
          ∷ codes "view 2"
          ∷ codes "> view 11 0,0"
          ∷ codes "view 3"
          ∷ codes "> abort 0.1.1"
          ∷ codes "aborted 0.1.1"
          ∷ codes "send 0 1 1 grant 1.1.1 0 S right 0 image"
          ∷ codes "> install 1"
          ∷ codes "installed 3"
          ∷ codes "> deliver 0 1"
          ∷ codes "dropped"
          ∷ codes "> install 0"
          ∷ codes "installed 2"
          ∷ codes "serving 1"
          ∷ codes "> install 0"
          ∷ codes "installed 3"
          ∷ codes "> begin 0"
          ∷ codes "begun 0.1.2"
          ∷ codes "> write 0.1.2 0 0 02"
          ∷ codes "done 0.1.2 0 0"
          ∷ codes "> begin 1"
          ∷ codes "begun 1.3.1"
          ∷ codes "> read 1.3.1 0"
          ∷ codes "waits 1.3.1 0"
          ∷ codes "send 1 0 3 request 1.3.1 0 S -"
          ∷ codes "> deliver 1 0"
          ∷ codes "taken"
          ∷ codes "> begin 0"
          ∷ codes "begun 0.1.3"
          ∷ codes "> write 0.1.3 0 0 03"
          ∷ codes "waits 0.1.3 0"
          ∷ codes "> abort 0.1.2"
          ∷ codes "aborted 0.1.2"
          ∷ codes "send 0 1 3 grant 1.3.1 0 S lock 0 image"
          ∷ codes "> deliver 0 1"
          ∷ codes "taken"
          ∷ codes "value 1.3.1 0 0 0000000000000000"
          ∷ codes "> commit 1.3.1"
          ∷ codes "committed 1.3.1"
          ∷ codes "send 1 0 3 release 1.3.1 0 -"
          ∷ codes "> deliver 1 0"
          ∷ codes "taken"
          ∷ codes "done 0.1.3 0 0"
          ∷ codes "> commit 0.1.3"
          ∷ codes "committed 0.1.3"
          ∷ codes "> begin 1"
          ∷ codes "begun 1.3.2"
          ∷ codes "> read 1.3.2 0"
          ∷ codes "waits 1.3.2 0"
          ∷ codes "send 1 0 3 request 1.3.2 0 S 0"
          ∷ codes "end 27 2"
          ∷ [];
    }

-- telling no born of sender
abbrev pub telling_no_born_of_sender : Row
telling_no_born_of_sender =
    record {
      sizes = record { nodes = 3; pages = 1; size = 16; frames = 4 };
      input =
          codes "pcl 1 3 1 16 4"
          ∷ codes "begin 1"
          ∷ codes "begin 2"
          ∷ codes "write 2.1.1 0 6 fd5949"
          ∷ codes "read 1.1.1 0"
          ∷ codes "crash 2"
          ∷ codes "view 110 0,1,1"
          ∷ codes "install 0"
          ∷ codes "deliver 1 0"
          ∷ codes "view 111 0,1,1"
          ∷ codes "install 0"
          ∷ codes "deliver 2 0"
          ∷ [];
      events =
          Begin 1
          ∷ Begin 2
          ∷ Write (tx 2 1 1) 0 6 (253 ∷ 89 ∷ 73 ∷ [])
          ∷ Read (tx 1 1 1) 0
          ∷ Crash 2
          ∷ View (true ∷ true ∷ false ∷ []) (0 ∷ 1 ∷ 1 ∷ [])
          ∷ Install 0
          ∷ Deliver 1 0
          ∷ View (true ∷ true ∷ true ∷ []) (0 ∷ 1 ∷ 1 ∷ [])
          ∷ Install 0
          ∷ Deliver 2 0
          ∷ [];
      output =
          codes "> pcl 1 3 1 16 4"
          ∷ codes "> begin 1"
          ∷ codes "begun 1.1.1"
          ∷ codes "> begin 2"
          ∷ codes "begun 2.1.1"
          ∷ codes "> write 2.1.1 0 6 fd5949"
          ∷ codes "waits 2.1.1 0"
          ∷ codes "send 2 0 1 request 2.1.1 0 X -"
          ∷ codes "> read 1.1.1 0"
          ∷ codes "waits 1.1.1 0"
          ∷ codes "send 1 0 1 request 1.1.1 0 S -"
          ∷ codes "> crash 2"
          ∷ codes "crashed"
          ∷ codes "> view 110 0,1,1"
          ∷ codes "view 2"
          ∷ codes "> install 0"
          ∷ codes "installed 2"
          ∷ codes "send 0 1 2 report 2 waits - locks - rights -"
          ∷ codes "> deliver 1 0"
          ∷ codes "taken"
          ∷ codes "send 0 1 2 grant 1.1.1 0 S right 0 disk"
          ∷ codes "> view 111 0,1,1"
          ∷ codes "view 3"
          ∷ codes "> install 0"
          ∷ codes "installed 3"
          ∷ codes "> deliver 2 0"
          ∷ codes "dropped"
          ∷ codes "end 11 0"
          ∷ [];
    }

-- telling no redo in kept
abbrev pub telling_no_redo_in_kept : Row
telling_no_redo_in_kept =
    record {
      sizes = record { nodes = 3; pages = 1; size = 15; frames = 5 };
      input =
          codes "pcl 1 3 1 15 5"
          ∷ codes "begin 2"
          ∷ codes "write 2.1.1 0 2 75c2d9"
          ∷ codes "deliver 2 0"
          ∷ codes "deliver 0 2"
          ∷ codes "commit 2.1.1"
          ∷ codes "crash 2"
          ∷ codes "view 110 0,1,0"
          ∷ codes "install 0"
          ∷ codes "begin 0"
          ∷ codes "write 0.1.1 0 9 72"
          ∷ [];
      events =
          Begin 2
          ∷ Write (tx 2 1 1) 0 2 (117 ∷ 194 ∷ 217 ∷ [])
          ∷ Deliver 2 0
          ∷ Deliver 0 2
          ∷ Commit (tx 2 1 1)
          ∷ Crash 2
          ∷ View (true ∷ true ∷ false ∷ []) (0 ∷ 1 ∷ 0 ∷ [])
          ∷ Install 0
          ∷ Begin 0
          ∷ Write (tx 0 1 1) 0 9 (114 ∷ [])
          ∷ [];
      output =
          codes "> pcl 1 3 1 15 5"
          ∷ codes "> begin 2"
          ∷ codes "begun 2.1.1"
          ∷ codes "> write 2.1.1 0 2 75c2d9"
          ∷ codes "waits 2.1.1 0"
          ∷ codes "send 2 0 1 request 2.1.1 0 X -"
          ∷ codes "> deliver 2 0"
          ∷ codes "taken"
          ∷ codes "send 0 2 1 grant 2.1.1 0 X lock 0 disk"
          ∷ codes "> deliver 0 2"
          ∷ codes "taken"
          ∷ codes "done 2.1.1 0 0"
          ∷ codes "> commit 2.1.1"
          ∷ codes "committed 2.1.1"
          ∷ codes "send 2 0 1 release 2.1.1 0 1 image"
          ∷ codes "> crash 2"
          ∷ codes "crashed"
          ∷ codes "> view 110 0,1,0"
          ∷ codes "view 2"
          ∷ codes "> install 0"
          ∷ codes "installed 2"
          ∷ codes "> begin 0"
          ∷ codes "begun 0.1.1"
          ∷ codes "> write 0.1.1 0 9 72"
          ∷ codes "done 0.1.1 0 1"
          ∷ codes "end 10 1"
          ∷ [];
    }
