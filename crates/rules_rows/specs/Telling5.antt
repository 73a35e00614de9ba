-- Worked schedules: telling.
use Rattle.std.specs.Prelude.{true, false, [], ◌∷◌, codes}
use Rattle.pcl_base.specs.Limits.{Sizes}
use Rattle.pcl_base.specs.declared.event.Event.{Event}
use Rattle.pcl_base.specs.declared.event.Event.TheVariants.{Begin, Read, Write, Commit, Abort, Deliver, Evict, Flush, Crash, View, Install, Reopen, Arm, Cut}
use Rattle.rules_rows.specs.Schedules.{Row, tx}

-- telling no trim
abbrev pub telling_no_trim : Row
telling_no_trim =
    record {
      sizes = record { nodes = 1; pages = 2; size = 16; frames = 2 };
      input =
          codes "pcl 1 1 2 16 2"
          ∷ codes "begin 0"
          ∷ codes "write 0.1.1 1 8 c9c9ff"
          ∷ codes "arm 0 1 36"
          ∷ codes "commit 0.1.1"
          ∷ codes "reopen"
          ∷ codes "install 0"
          ∷ codes "begin 0"
          ∷ codes "write 0.2.1 0 5 28ec"
          ∷ codes "commit 0.2.1"
          ∷ [];
      events =
          Begin 0
          ∷ Write (tx 0 1 1) 1 8 (201 ∷ 201 ∷ 255 ∷ [])
          ∷ Arm 0 1 36
          ∷ Commit (tx 0 1 1)
          ∷ Reopen
          ∷ Install 0
          ∷ Begin 0
          ∷ Write (tx 0 2 1) 0 5 (40 ∷ 236 ∷ [])
          ∷ Commit (tx 0 2 1)
          ∷ [];
      output =
          codes "> pcl 1 1 2 16 2"
          ∷ codes "> begin 0"
          ∷ codes "begun 0.1.1"
          ∷ codes "> write 0.1.1 1 8 c9c9ff"
          ∷ codes "done 0.1.1 1 0"
          ∷ codes "> arm 0 1 36"
          ∷ codes "armed"
          ∷ codes "> commit 0.1.1"
          ∷ codes "halted force"
          ∷ codes "> reopen"
          ∷ codes "reopened 2"
          ∷ codes "> install 0"
          ∷ codes "installed 2"
          ∷ codes "serving 0"
          ∷ codes "> begin 0"
          ∷ codes "begun 0.2.1"
          ∷ codes "> write 0.2.1 0 5 28ec"
          ∷ codes "done 0.2.1 0 0"
          ∷ codes "> commit 0.2.1"
          ∷ codes "committed 0.2.1"
          ∷ codes "end 9 1"
          ∷ [];
    }

-- telling own log alone
abbrev pub telling_own_log_alone : Row
telling_own_log_alone =
    record {
      sizes = record { nodes = 3; pages = 1; size = 16; frames = 6 };
      input =
          codes "pcl 1 3 1 16 6"
          ∷ codes "begin 2"
          ∷ codes "write 2.1.1 0 4 6a"
          ∷ codes "begin 0"
          ∷ codes "write 0.1.1 0 10 a434"
          ∷ codes "view 111 2,2,2"
          ∷ codes "install 1"
          ∷ codes "install 2"
          ∷ codes "deliver 1 2"
          ∷ codes "commit 0.1.1"
          ∷ codes "install 0"
          ∷ codes "deliver 0 2"
          ∷ [];
      events =
          Begin 2
          ∷ Write (tx 2 1 1) 0 4 (106 ∷ [])
          ∷ Begin 0
          ∷ Write (tx 0 1 1) 0 10 (164 ∷ 52 ∷ [])
          ∷ View (true ∷ true ∷ true ∷ []) (2 ∷ 2 ∷ 2 ∷ [])
          ∷ Install 1
          ∷ Install 2
          ∷ Deliver 1 2
          ∷ Commit (tx 0 1 1)
          ∷ Install 0
          ∷ Deliver 0 2
          ∷ [];
      output =
          codes "> pcl 1 3 1 16 6"
          ∷ codes "> begin 2"
          ∷ codes "begun 2.1.1"
          ∷ codes "> write 2.1.1 0 4 6a"
          ∷ codes "waits 2.1.1 0"
          ∷ codes "send 2 0 1 request 2.1.1 0 X -"
          ∷ codes "> begin 0"
          ∷ codes "begun 0.1.1"
          ∷ codes "> write 0.1.1 0 10 a434"
          ∷ codes "done 0.1.1 0 0"
          ∷ codes "> view 111 2,2,2"
          ∷ codes "view 2"
          ∷ codes "> install 1"
          ∷ codes "installed 2"
          ∷ codes "send 1 2 2 report 0 waits - locks - rights -"
          ∷ codes "send 1 2 2 report 1 waits - locks - rights -"
          ∷ codes "> install 2"
          ∷ codes "installed 2"
          ∷ codes "> deliver 1 2"
          ∷ codes "taken"
          ∷ codes "> commit 0.1.1"
          ∷ codes "committed 0.1.1"
          ∷ codes "> install 0"
          ∷ codes "installed 2"
          ∷ codes "send 0 2 2 report 0 waits - locks - rights -"
          ∷ codes "send 0 2 2 report 1 waits - locks - rights -"
          ∷ codes "> deliver 0 2"
          ∷ codes "taken"
          ∷ codes "serving 0"
          ∷ codes "done 2.1.1 0 1"
          ∷ codes "end 11 1"
          ∷ [];
    }

-- telling own report without right readers
abbrev pub telling_own_report_without_right_readers : Row
telling_own_report_without_right_readers =
    record {
      sizes = record { nodes = 3; pages = 2; size = 8; frames = 4 };
      input =
          codes "pcl 1 3 2 8 4"
          ∷ codes "crash 0"
          ∷ codes "begin 2"
          ∷ codes "read 2.1.1 1"
          ∷ codes "deliver 2 1"
          ∷ codes "deliver 1 2"
          ∷ codes "crash 1"
          ∷ codes "begin 2"
          ∷ codes "write 2.1.1 1 4 4db0"
          ∷ codes "read 2.1.2 1"
          ∷ codes "view 001 2,2,2"
          ∷ codes "install 2"
          ∷ codes "commit 2.1.1"
          ∷ codes "commit 2.1.2"
          ∷ [];
      events =
          Crash 0
          ∷ Begin 2
          ∷ Read (tx 2 1 1) 1
          ∷ Deliver 2 1
          ∷ Deliver 1 2
          ∷ Crash 1
          ∷ Begin 2
          ∷ Write (tx 2 1 1) 1 4 (77 ∷ 176 ∷ [])
          ∷ Read (tx 2 1 2) 1
          ∷ View (false ∷ false ∷ true ∷ []) (2 ∷ 2 ∷ 2 ∷ [])
          ∷ Install 2
          ∷ Commit (tx 2 1 1)
          ∷ Commit (tx 2 1 2)
          ∷ [];
      output =
          codes "> pcl 1 3 2 8 4"
          ∷ codes "> crash 0"
          ∷ codes "crashed"
          ∷ codes "> begin 2"
          ∷ codes "begun 2.1.1"
          ∷ codes "> read 2.1.1 1"
          ∷ codes "waits 2.1.1 1"
          ∷ codes "send 2 1 1 request 2.1.1 1 S -"
          ∷ codes "> deliver 2 1"
          ∷ codes "taken"
          ∷ codes "send 1 2 1 grant 2.1.1 1 S right 0 disk"
          ∷ codes "> deliver 1 2"
          ∷ codes "taken"
          ∷ codes "value 2.1.1 1 0 0000000000000000"
          ∷ codes "> crash 1"
          ∷ codes "crashed"
          ∷ codes "> begin 2"
          ∷ codes "begun 2.1.2"
          ∷ codes "> write 2.1.1 1 4 4db0"
          ∷ codes "waits 2.1.1 1"
          ∷ codes "send 2 1 1 request 2.1.1 1 X 0"
          ∷ codes "> read 2.1.2 1"
          ∷ codes "value 2.1.2 1 0 0000000000000000"
          ∷ codes "> view 001 2,2,2"
          ∷ codes "view 2"
          ∷ codes "> install 2"
          ∷ codes "installed 2"
          ∷ codes "serving 0"
          ∷ codes "serving 1"
          ∷ codes "> commit 2.1.1"
          ∷ codes "refused 5 TxWaits"
          ∷ codes "> commit 2.1.2"
          ∷ codes "committed 2.1.2"
          ∷ codes "done 2.1.1 1 0"
          ∷ codes "end 13 1"
          ∷ [];
    }

-- telling redo leaves dirty
abbrev pub telling_redo_leaves_dirty : Row
telling_redo_leaves_dirty =
    record {
      sizes = record { nodes = 2; pages = 2; size = 16; frames = 4 };
      input =
          codes "pcl 1 2 2 16 4"
          ∷ codes "begin 0"
          ∷ codes "write 0.1.1 1 3 b0b5"
          ∷ codes "begin 1"
          ∷ codes "write 1.1.1 1 10 f6"
          ∷ codes "deliver 0 1"
          ∷ codes "commit 1.1.1"
          ∷ codes "deliver 1 0"
          ∷ codes "arm 0 1 1000"
          ∷ codes "commit 0.1.1"
          ∷ codes "view 01 1,1"
          ∷ codes "install 1"
          ∷ codes "flush 1 1"
          ∷ codes "begin 1"
          ∷ codes "write 1.1.2 1 0 07"
          ∷ [];
      events =
          Begin 0
          ∷ Write (tx 0 1 1) 1 3 (176 ∷ 181 ∷ [])
          ∷ Begin 1
          ∷ Write (tx 1 1 1) 1 10 (246 ∷ [])
          ∷ Deliver 0 1
          ∷ Commit (tx 1 1 1)
          ∷ Deliver 1 0
          ∷ Arm 0 1 1000
          ∷ Commit (tx 0 1 1)
          ∷ View (false ∷ true ∷ []) (1 ∷ 1 ∷ [])
          ∷ Install 1
          ∷ Flush 1 1
          ∷ Begin 1
          ∷ Write (tx 1 1 2) 1 0 (7 ∷ [])
          ∷ [];
      output =
          codes "> pcl 1 2 2 16 4"
          ∷ codes "> begin 0"
          ∷ codes "begun 0.1.1"
          ∷ codes "> write 0.1.1 1 3 b0b5"
          ∷ codes "waits 0.1.1 1"
          ∷ codes "send 0 1 1 request 0.1.1 1 X -"
          ∷ codes "> begin 1"
          ∷ codes "begun 1.1.1"
          ∷ codes "> write 1.1.1 1 10 f6"
          ∷ codes "done 1.1.1 1 0"
          ∷ codes "> deliver 0 1"
          ∷ codes "taken"
          ∷ codes "> commit 1.1.1"
          ∷ codes "committed 1.1.1"
          ∷ codes "send 1 0 1 grant 0.1.1 1 X lock 1 image"
          ∷ codes "> deliver 1 0"
          ∷ codes "taken"
          ∷ codes "done 0.1.1 1 1"
          ∷ codes "> arm 0 1 1000"
          ∷ codes "armed"
          ∷ codes "> commit 0.1.1"
          ∷ codes "halted force kept 0.1.1"
          ∷ codes "> view 01 1,1"
          ∷ codes "view 2"
          ∷ codes "> install 1"
          ∷ codes "installed 2"
          ∷ codes "serving 0"
          ∷ codes "> flush 1 1"
          ∷ codes "flushed"
          ∷ codes "> begin 1"
          ∷ codes "begun 1.1.2"
          ∷ codes "> write 1.1.2 1 0 07"
          ∷ codes "done 1.1.2 1 2"
          ∷ codes "end 14 2"
          ∷ [];
    }
