-- Worked schedules: stops.
use Rattle.std.specs.Prelude.{true, false, [], ◌∷◌, codes}
use Rattle.pcl_base.specs.Limits.{Sizes}
use Rattle.pcl_base.specs.declared.event.Event.{Event}
use Rattle.pcl_base.specs.declared.event.Event.TheVariants.{Begin, Read, Write, Commit, Abort, Deliver, Evict, Flush, Crash, View, Install, Reopen, Arm, Cut}
use Rattle.rules_rows.specs.Schedules.{Row, tx}

-- stop at node0 call1 force j0
abbrev pub stop_at_node0_call1_force_j0 : Row
stop_at_node0_call1_force_j0 =
    record {
      sizes = record { nodes = 2; pages = 4; size = 8; frames = 2 };
      input =
          codes "pcl 1 2 4 8 2"
          ∷ codes "arm 0 1 0"
          ∷ codes "begin 0"
          ∷ codes "write 0.1.1 0 0 01"
          ∷ codes "commit 0.1.1"
          ∷ codes "begin 0"
          ∷ codes "read 0.1.2 2"
          ∷ codes "commit 0.1.2"
          ∷ codes "begin 0"
          ∷ codes "write 0.1.3 2 0 02"
          ∷ codes "commit 0.1.3"
          ∷ codes "cut 0"
          ∷ codes "begin 1"
          ∷ codes "write 1.1.1 0 0 03"
          ∷ codes "deliver 1 0"
          ∷ codes "deliver 0 1"
          ∷ codes "commit 1.1.1"
          ∷ codes "crash 1"
          ∷ codes "view 10 0,0"
          ∷ codes "install 0"
          ∷ codes "crash 0"
          ∷ codes "crash 1"
          ∷ codes "reopen"
          ∷ codes "install 0"
          ∷ codes "install 1"
          ∷ codes "deliver 0 1"
          ∷ codes "deliver 1 0"
          ∷ codes "begin 0"
          ∷ codes "read 0.3.1 0"
          ∷ codes "read 0.3.1 2"
          ∷ codes "commit 0.3.1"
          ∷ [];
      events =
          Arm 0 1 0
          ∷ Begin 0
          ∷ Write (tx 0 1 1) 0 0 (1 ∷ [])
          ∷ Commit (tx 0 1 1)
          ∷ Begin 0
          ∷ Read (tx 0 1 2) 2
          ∷ Commit (tx 0 1 2)
          ∷ Begin 0
          ∷ Write (tx 0 1 3) 2 0 (2 ∷ [])
          ∷ Commit (tx 0 1 3)
          ∷ Cut 0
          ∷ Begin 1
          ∷ Write (tx 1 1 1) 0 0 (3 ∷ [])
          ∷ Deliver 1 0
          ∷ Deliver 0 1
          ∷ Commit (tx 1 1 1)
          ∷ Crash 1
          ∷ View (true ∷ false ∷ []) (0 ∷ 0 ∷ [])
          ∷ Install 0
          ∷ Crash 0
          ∷ Crash 1
          ∷ Reopen
          ∷ Install 0
          ∷ Install 1
          ∷ Deliver 0 1
          ∷ Deliver 1 0
          ∷ Begin 0
          ∷ Read (tx 0 3 1) 0
          ∷ Read (tx 0 3 1) 2
          ∷ Commit (tx 0 3 1)
          ∷ [];
      output =
          codes "> pcl 1 2 4 8 2"
          ∷ codes "> arm 0 1 0"
          ∷ codes "armed"
          ∷ codes "> begin 0"
          ∷ codes "begun 0.1.1"
          ∷ codes "> write 0.1.1 0 0 01"
          ∷ codes "done 0.1.1 0 0"
          ∷ codes "> commit 0.1.1"
          ∷ codes "halted force"
          ∷ codes "> begin 0"
          ∷ codes "refused 2 Down"
          ∷ codes "> read 0.1.2 2"
          ∷ codes "refused 2 Down"
          ∷ codes "> commit 0.1.2"
          ∷ codes "refused 2 Down"
          ∷ codes "> begin 0"
          ∷ codes "refused 2 Down"
          ∷ codes "> write 0.1.3 2 0 02"
          ∷ codes "refused 2 Down"
          ∷ codes "> commit 0.1.3"
          ∷ codes "refused 2 Down"
          ∷ codes "> cut 0"
          ∷ codes "refused 2 Down"
          ∷ codes "> begin 1"
          ∷ codes "begun 1.1.1"
          ∷ codes "> write 1.1.1 0 0 03"
          ∷ codes "waits 1.1.1 0"
          ∷ codes "send 1 0 1 request 1.1.1 0 X -"
          ∷ codes "> deliver 1 0"
          ∷ codes "refused 2 Down"
          ∷ codes "> deliver 0 1"
          ∷ codes "refused 10 EmptyLink"
          ∷ codes "> commit 1.1.1"
          ∷ codes "refused 5 TxWaits"
          ∷ codes "> crash 1"
          ∷ codes "crashed"
          ∷ codes "> view 10 0,0"
          ∷ codes "view 2"
          ∷ codes "> install 0"
          ∷ codes "refused 2 Down"
          ∷ codes "> crash 0"
          ∷ codes "refused 2 Down"
          ∷ codes "> crash 1"
          ∷ codes "refused 2 Down"
          ∷ codes "> reopen"
          ∷ codes "reopened 3"
          ∷ codes "> install 0"
          ∷ codes "installed 3"
          ∷ codes "send 0 1 3 report 1 waits - locks - rights -"
          ∷ codes "> install 1"
          ∷ codes "installed 3"
          ∷ codes "send 1 0 3 report 0 waits - locks - rights -"
          ∷ codes "> deliver 0 1"
          ∷ codes "taken"
          ∷ codes "serving 1"
          ∷ codes "> deliver 1 0"
          ∷ codes "taken"
          ∷ codes "serving 0"
          ∷ codes "> begin 0"
          ∷ codes "begun 0.3.1"
          ∷ codes "> read 0.3.1 0"
          ∷ codes "value 0.3.1 0 0 0000000000000000"
          ∷ codes "> read 0.3.1 2"
          ∷ codes "value 0.3.1 2 0 0000000000000000"
          ∷ codes "> commit 0.3.1"
          ∷ codes "committed 0.3.1"
          ∷ codes "end 30 1"
          ∷ [];
    }
