-- Worked schedules: failures.
use Rattle.std.specs.Prelude.{true, false, [], ◌∷◌, codes}
use Rattle.pcl_base.specs.Limits.{Sizes}
use Rattle.pcl_base.specs.declared.event.Event.{Event}
use Rattle.pcl_base.specs.declared.event.Event.TheVariants.{Begin, Read, Write, Commit, Abort, Deliver, Evict, Flush, Crash, View, Install, Reopen, Arm, Cut}
use Rattle.rules_rows.specs.Schedules.{Row, tx}

-- survivor commits after report
abbrev pub survivor_commits_after_report : Row
survivor_commits_after_report =
    record {
      sizes = record { nodes = 3; pages = 3; size = 8; frames = 4 };
      input =
          codes "pcl 1 3 3 8 4"
          ∷ codes "begin 2"
          ∷ codes "write 2.1.1 1 0 05"
          ∷ codes "deliver 2 1"
          ∷ codes "deliver 1 2"
          ∷ codes "crash 1"
          ∷ codes "view 101 0,0,2"
          ∷ codes "install 0"
          ∷ codes "begin 0"
          ∷ codes "read 0.1.1 1"
          ∷ codes "install 2"
          ∷ codes "commit 2.1.1"
          ∷ codes "deliver 2 0"
          ∷ codes "deliver 2 0"
          ∷ codes "commit 0.1.1"
          ∷ [];
      events =
          Begin 2
          ∷ Write (tx 2 1 1) 1 0 (5 ∷ [])
          ∷ Deliver 2 1
          ∷ Deliver 1 2
          ∷ Crash 1
          ∷ View (true ∷ false ∷ true ∷ []) (0 ∷ 0 ∷ 2 ∷ [])
          ∷ Install 0
          ∷ Begin 0
          ∷ Read (tx 0 1 1) 1
          ∷ Install 2
          ∷ Commit (tx 2 1 1)
          ∷ Deliver 2 0
          ∷ Deliver 2 0
          ∷ Commit (tx 0 1 1)
          ∷ [];
      output =
          codes "> pcl 1 3 3 8 4"
          ∷ codes "> begin 2"
          ∷ codes "begun 2.1.1"
          ∷ codes "> write 2.1.1 1 0 05"
          ∷ codes "waits 2.1.1 1"
          ∷ codes "send 2 1 1 request 2.1.1 1 X -"
          ∷ codes "> deliver 2 1"
          ∷ codes "taken"
          ∷ codes "send 1 2 1 grant 2.1.1 1 X lock 0 disk"
          ∷ codes "> deliver 1 2"
          ∷ codes "taken"
          ∷ codes "done 2.1.1 1 0"
          ∷ codes "> crash 1"
          ∷ codes "crashed"
          ∷ codes "> view 101 0,0,2"
          ∷ codes "view 2"
          ∷ codes "> install 0"
          ∷ codes "installed 2"
          ∷ codes "> begin 0"
          ∷ codes "begun 0.1.1"
          ∷ codes "> read 0.1.1 1"
          ∷ codes "waits 0.1.1 1"
          ∷ codes "> install 2"
          ∷ codes "installed 2"
          ∷ codes "send 2 0 2 report 1 waits - locks 2.1.1:1:X rights -"
          ∷ codes "> commit 2.1.1"
          ∷ codes "committed 2.1.1"
          ∷ codes "send 2 0 2 release 2.1.1 1 1 image"
          ∷ codes "> deliver 2 0"
          ∷ codes "taken"
          ∷ codes "serving 1"
          ∷ codes "> deliver 2 0"
          ∷ codes "taken"
          ∷ codes "value 0.1.1 1 1 0500000000000000"
          ∷ codes "> commit 0.1.1"
          ∷ codes "committed 0.1.1"
          ∷ codes "end 14 2"
          ∷ [];
    }

-- survivor commits before report
abbrev pub survivor_commits_before_report : Row
survivor_commits_before_report =
    record {
      sizes = record { nodes = 3; pages = 3; size = 8; frames = 4 };
      input =
          codes "pcl 1 3 3 8 4"
          ∷ codes "begin 2"
          ∷ codes "write 2.1.1 1 0 05"
          ∷ codes "deliver 2 1"
          ∷ codes "deliver 1 2"
          ∷ codes "crash 1"
          ∷ codes "view 101 0,0,2"
          ∷ codes "install 0"
          ∷ codes "begin 0"
          ∷ codes "read 0.1.1 1"
          ∷ codes "commit 2.1.1"
          ∷ codes "install 2"
          ∷ codes "deliver 2 0"
          ∷ codes "commit 0.1.1"
          ∷ [];
      events =
          Begin 2
          ∷ Write (tx 2 1 1) 1 0 (5 ∷ [])
          ∷ Deliver 2 1
          ∷ Deliver 1 2
          ∷ Crash 1
          ∷ View (true ∷ false ∷ true ∷ []) (0 ∷ 0 ∷ 2 ∷ [])
          ∷ Install 0
          ∷ Begin 0
          ∷ Read (tx 0 1 1) 1
          ∷ Commit (tx 2 1 1)
          ∷ Install 2
          ∷ Deliver 2 0
          ∷ Commit (tx 0 1 1)
          ∷ [];
      output =
          codes "> pcl 1 3 3 8 4"
          ∷ codes "> begin 2"
          ∷ codes "begun 2.1.1"
          ∷ codes "> write 2.1.1 1 0 05"
          ∷ codes "waits 2.1.1 1"
          ∷ codes "send 2 1 1 request 2.1.1 1 X -"
          ∷ codes "> deliver 2 1"
          ∷ codes "taken"
          ∷ codes "send 1 2 1 grant 2.1.1 1 X lock 0 disk"
          ∷ codes "> deliver 1 2"
          ∷ codes "taken"
          ∷ codes "done 2.1.1 1 0"
          ∷ codes "> crash 1"
          ∷ codes "crashed"
          ∷ codes "> view 101 0,0,2"
          ∷ codes "view 2"
          ∷ codes "> install 0"
          ∷ codes "installed 2"
          ∷ codes "> begin 0"
          ∷ codes "begun 0.1.1"
          ∷ codes "> read 0.1.1 1"
          ∷ codes "waits 0.1.1 1"
          ∷ codes "> commit 2.1.1"
          ∷ codes "committed 2.1.1"
          ∷ codes "send 2 1 1 release 2.1.1 1 1 image"
          ∷ codes "> install 2"
          ∷ codes "installed 2"
          ∷ codes "send 2 0 2 report 1 waits - locks - rights -"
          ∷ codes "> deliver 2 0"
          ∷ codes "taken"
          ∷ codes "serving 1"
          ∷ codes "value 0.1.1 1 1 0500000000000000"
          ∷ codes "> commit 0.1.1"
          ∷ codes "committed 0.1.1"
          ∷ codes "end 13 2"
          ∷ [];
    }
