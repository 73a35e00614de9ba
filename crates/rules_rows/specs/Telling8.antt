-- Worked schedules: telling.
use Rattle.std.specs.Prelude.{true, false, [], ◌∷◌, codes}
use Rattle.pcl_base.specs.Limits.{Sizes}
use Rattle.pcl_base.specs.declared.event.Event.{Event}
use Rattle.pcl_base.specs.declared.event.Event.TheVariants.{Begin, Read, Write, Commit, Abort, Deliver, Evict, Flush, Crash, View, Install, Reopen, Arm, Cut}
use Rattle.rules_rows.specs.Schedules.{Row, tx}

-- telling settle while rebuilt
abbrev pub telling_settle_while_rebuilt : Row
telling_settle_while_rebuilt =
    record {
      sizes = record { nodes = 2; pages = 1; size = 13; frames = 5 };
      input =
          codes "pcl 1 2 1 13 5"
          ∷ codes "begin 0"
          ∷ codes "write 0.1.1 0 4 5fc968"
          ∷ codes "commit 0.1.1"
          ∷ codes "view 11 1,0"
          ∷ codes "install 1"
          ∷ codes "begin 1"
          ∷ codes "write 1.1.1 0 0 07"
          ∷ [];
      events =
          Begin 0
          ∷ Write (tx 0 1 1) 0 4 (95 ∷ 201 ∷ 104 ∷ [])
          ∷ Commit (tx 0 1 1)
          ∷ View (true ∷ true ∷ []) (1 ∷ 0 ∷ [])
          ∷ Install 1
          ∷ Begin 1
          ∷ Write (tx 1 1 1) 0 0 (7 ∷ [])
          ∷ [];
      output =
          codes "> pcl 1 2 1 13 5"
          ∷ codes "> begin 0"
          ∷ codes "begun 0.1.1"
          ∷ codes "> write 0.1.1 0 4 5fc968"
          ∷ codes "done 0.1.1 0 0"
          ∷ codes "> commit 0.1.1"
          ∷ codes "committed 0.1.1"
          ∷ codes "> view 11 1,0"
          ∷ codes "view 2"
          ∷ codes "> install 1"
          ∷ codes "installed 2"
          ∷ codes "send 1 0 2 report 1 waits - locks - rights -"
          ∷ codes "> begin 1"
          ∷ codes "begun 1.1.1"
          ∷ codes "> write 1.1.1 0 0 07"
          ∷ codes "waits 1.1.1 0"
          ∷ codes "end 7 1"
          ∷ [];
    }

-- telling upgrade beside readers
abbrev pub telling_upgrade_beside_readers : Row
telling_upgrade_beside_readers =
    record {
      sizes = record { nodes = 4; pages = 1; size = 14; frames = 6 };
      input =
          codes "pcl 1 4 1 14 6"
          ∷ codes "begin 0"
          ∷ codes "begin 0"
          ∷ codes "read 0.1.2 0"
          ∷ codes "read 0.1.1 0"
          ∷ codes "write 0.1.1 0 11 6e"
          ∷ codes "commit 0.1.1"
          ∷ codes "commit 0.1.2"
          ∷ [];
      events =
          Begin 0
          ∷ Begin 0
          ∷ Read (tx 0 1 2) 0
          ∷ Read (tx 0 1 1) 0
          ∷ Write (tx 0 1 1) 0 11 (110 ∷ [])
          ∷ Commit (tx 0 1 1)
          ∷ Commit (tx 0 1 2)
          ∷ [];
      output =
          codes "> pcl 1 4 1 14 6"
          ∷ codes "> begin 0"
          ∷ codes "begun 0.1.1"
          ∷ codes "> begin 0"
          ∷ codes "begun 0.1.2"
          ∷ codes "> read 0.1.2 0"
          ∷ codes "value 0.1.2 0 0 0000000000000000000000000000"
          ∷ codes "> read 0.1.1 0"
          ∷ codes "value 0.1.1 0 0 0000000000000000000000000000"
          ∷ codes "> write 0.1.1 0 11 6e"
          ∷ codes "waits 0.1.1 0"
          ∷ codes "> commit 0.1.1"
          ∷ codes "refused 5 TxWaits"
          ∷ codes "> commit 0.1.2"
          ∷ codes "committed 0.1.2"
          ∷ codes "done 0.1.1 0 0"
          ∷ codes "end 7 1"
          ∷ [];
    }
