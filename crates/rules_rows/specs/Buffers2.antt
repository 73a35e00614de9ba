-- Worked schedules: buffers.
use Rattle.std.specs.Prelude.{true, false, [], ◌∷◌, codes}
use Rattle.pcl_base.specs.Limits.{Sizes}
use Rattle.pcl_base.specs.declared.event.Event.{Event}
use Rattle.pcl_base.specs.declared.event.Event.TheVariants.{Begin, Read, Write, Commit, Abort, Deliver, Evict, Flush, Crash, View, Install, Reopen, Arm, Cut}
use Rattle.rules_rows.specs.Schedules.{Row, tx}

-- cut after kept force
abbrev pub cut_after_kept_force : Row
cut_after_kept_force =
    record {
      sizes = record { nodes = 1; pages = 1; size = 8; frames = 2 };
      input =
          codes "pcl 1 1 1 8 2"
          ∷ codes "begin 0"
          ∷ codes "write 0.1.1 0 0 01"
          ∷ codes "arm 0 1 36"
          ∷ codes "commit 0.1.1"
          ∷ codes "reopen"
          ∷ codes "install 0"
          ∷ codes "cut 0"
          ∷ codes "begin 0"
          ∷ codes "read 0.2.1 0"
          ∷ codes "commit 0.2.1"
          ∷ [];
      events =
          Begin 0
          ∷ Write (tx 0 1 1) 0 0 (1 ∷ [])
          ∷ Arm 0 1 36
          ∷ Commit (tx 0 1 1)
          ∷ Reopen
          ∷ Install 0
          ∷ Cut 0
          ∷ Begin 0
          ∷ Read (tx 0 2 1) 0
          ∷ Commit (tx 0 2 1)
          ∷ [];
      output =
          codes "> pcl 1 1 1 8 2"
          ∷ codes "> begin 0"
          ∷ codes "begun 0.1.1"
          ∷ codes "> write 0.1.1 0 0 01"
          ∷ codes "done 0.1.1 0 0"
          ∷ codes "> arm 0 1 36"
          ∷ codes "armed"
          ∷ codes "> commit 0.1.1"
          ∷ codes "halted force kept 0.1.1"
          ∷ codes "> reopen"
          ∷ codes "reopened 2"
          ∷ codes "> install 0"
          ∷ codes "installed 2"
          ∷ codes "serving 0"
          ∷ codes "> cut 0"
          ∷ codes "cut 36"
          ∷ codes "> begin 0"
          ∷ codes "begun 0.2.1"
          ∷ codes "> read 0.2.1 0"
          ∷ codes "value 0.2.1 0 1 0100000000000000"
          ∷ codes "> commit 0.2.1"
          ∷ codes "committed 0.2.1"
          ∷ codes "end 10 2"
          ∷ [];
    }

-- stop in force j0
abbrev pub stop_in_force_j0 : Row
stop_in_force_j0 =
    record {
      sizes = record { nodes = 1; pages = 1; size = 8; frames = 2 };
      input =
          codes "pcl 1 1 1 8 2"
          ∷ codes "begin 0"
          ∷ codes "write 0.1.1 0 0 01"
          ∷ codes "arm 0 1 0"
          ∷ codes "commit 0.1.1"
          ∷ codes "reopen"
          ∷ codes "install 0"
          ∷ codes "begin 0"
          ∷ codes "read 0.2.1 0"
          ∷ codes "commit 0.2.1"
          ∷ [];
      events =
          Begin 0
          ∷ Write (tx 0 1 1) 0 0 (1 ∷ [])
          ∷ Arm 0 1 0
          ∷ Commit (tx 0 1 1)
          ∷ Reopen
          ∷ Install 0
          ∷ Begin 0
          ∷ Read (tx 0 2 1) 0
          ∷ Commit (tx 0 2 1)
          ∷ [];
      output =
          codes "> pcl 1 1 1 8 2"
          ∷ codes "> begin 0"
          ∷ codes "begun 0.1.1"
          ∷ codes "> write 0.1.1 0 0 01"
          ∷ codes "done 0.1.1 0 0"
          ∷ codes "> arm 0 1 0"
          ∷ codes "armed"
          ∷ codes "> commit 0.1.1"
          ∷ codes "halted force"
          ∷ codes "> reopen"
          ∷ codes "reopened 2"
          ∷ codes "> install 0"
          ∷ codes "installed 2"
          ∷ codes "serving 0"
          ∷ codes "> begin 0"
          ∷ codes "begun 0.2.1"
          ∷ codes "> read 0.2.1 0"
          ∷ codes "value 0.2.1 0 0 0000000000000000"
          ∷ codes "> commit 0.2.1"
          ∷ codes "committed 0.2.1"
          ∷ codes "end 9 1"
          ∷ [];
    }

-- stop in force j35
abbrev pub stop_in_force_j35 : Row
stop_in_force_j35 =
    record {
      sizes = record { nodes = 1; pages = 1; size = 8; frames = 2 };
      input =
          codes "pcl 1 1 1 8 2"
          ∷ codes "begin 0"
          ∷ codes "write 0.1.1 0 0 01"
          ∷ codes "arm 0 1 35"
          ∷ codes "commit 0.1.1"
          ∷ codes "reopen"
          ∷ codes "install 0"
          ∷ codes "begin 0"
          ∷ codes "read 0.2.1 0"
          ∷ codes "commit 0.2.1"
          ∷ [];
      events =
          Begin 0
          ∷ Write (tx 0 1 1) 0 0 (1 ∷ [])
          ∷ Arm 0 1 35
          ∷ Commit (tx 0 1 1)
          ∷ Reopen
          ∷ Install 0
          ∷ Begin 0
          ∷ Read (tx 0 2 1) 0
          ∷ Commit (tx 0 2 1)
          ∷ [];
      output =
          codes "> pcl 1 1 1 8 2"
          ∷ codes "> begin 0"
          ∷ codes "begun 0.1.1"
          ∷ codes "> write 0.1.1 0 0 01"
          ∷ codes "done 0.1.1 0 0"
          ∷ codes "> arm 0 1 35"
          ∷ codes "armed"
          ∷ codes "> commit 0.1.1"
          ∷ codes "halted force"
          ∷ codes "> reopen"
          ∷ codes "reopened 2"
          ∷ codes "> install 0"
          ∷ codes "installed 2"
          ∷ codes "serving 0"
          ∷ codes "> begin 0"
          ∷ codes "begun 0.2.1"
          ∷ codes "> read 0.2.1 0"
          ∷ codes "value 0.2.1 0 0 0000000000000000"
          ∷ codes "> commit 0.2.1"
          ∷ codes "committed 0.2.1"
          ∷ codes "end 9 1"
          ∷ [];
    }

-- stop in force j36
abbrev pub stop_in_force_j36 : Row
stop_in_force_j36 =
    record {
      sizes = record { nodes = 1; pages = 1; size = 8; frames = 2 };
      input =
          codes "pcl 1 1 1 8 2"
          ∷ codes "begin 0"
          ∷ codes "write 0.1.1 0 0 01"
          ∷ codes "arm 0 1 36"
          ∷ codes "commit 0.1.1"
          ∷ codes "reopen"
          ∷ codes "install 0"
          ∷ codes "begin 0"
          ∷ codes "read 0.2.1 0"
          ∷ codes "commit 0.2.1"
          ∷ [];
      events =
          Begin 0
          ∷ Write (tx 0 1 1) 0 0 (1 ∷ [])
          ∷ Arm 0 1 36
          ∷ Commit (tx 0 1 1)
          ∷ Reopen
          ∷ Install 0
          ∷ Begin 0
          ∷ Read (tx 0 2 1) 0
          ∷ Commit (tx 0 2 1)
          ∷ [];
      output =
          codes "> pcl 1 1 1 8 2"
          ∷ codes "> begin 0"
          ∷ codes "begun 0.1.1"
          ∷ codes "> write 0.1.1 0 0 01"
          ∷ codes "done 0.1.1 0 0"
          ∷ codes "> arm 0 1 36"
          ∷ codes "armed"
          ∷ codes "> commit 0.1.1"
          ∷ codes "halted force kept 0.1.1"
          ∷ codes "> reopen"
          ∷ codes "reopened 2"
          ∷ codes "> install 0"
          ∷ codes "installed 2"
          ∷ codes "serving 0"
          ∷ codes "> begin 0"
          ∷ codes "begun 0.2.1"
          ∷ codes "> read 0.2.1 0"
          ∷ codes "value 0.2.1 0 1 0100000000000000"
          ∷ codes "> commit 0.2.1"
          ∷ codes "committed 0.2.1"
          ∷ codes "end 9 2"
          ∷ [];
    }
