-- Worked schedules: paths.
use Rattle.std.specs.Prelude.{true, false, [], ◌∷◌, codes}
use Rattle.pcl_base.specs.Limits.{Sizes}
use Rattle.pcl_base.specs.declared.event.Event.{Event}
use Rattle.pcl_base.specs.declared.event.Event.TheVariants.{Begin, Read, Write, Commit, Abort, Deliver, Evict, Flush, Crash, View, Install, Reopen, Arm, Cut}
use Rattle.rules_rows.specs.Schedules.{Row, tx}

-- current copy
abbrev pub current_copy : Row
current_copy =
    record {
      sizes = record { nodes = 2; pages = 4; size = 8; frames = 4 };
      input =
          codes "pcl 1 2 4 8 4"
          ∷ codes "begin 0"
          ∷ codes "write 0.1.1 1 0 07"
          ∷ codes "deliver 0 1"
          ∷ codes "deliver 1 0"
          ∷ codes "commit 0.1.1"
          ∷ codes "deliver 0 1"
          ∷ codes "begin 0"
          ∷ codes "write 0.1.2 1 1 08"
          ∷ codes "deliver 0 1"
          ∷ codes "deliver 1 0"
          ∷ codes "read 0.1.2 1"
          ∷ [];
      events =
          Begin 0
          ∷ Write (tx 0 1 1) 1 0 (7 ∷ [])
          ∷ Deliver 0 1
          ∷ Deliver 1 0
          ∷ Commit (tx 0 1 1)
          ∷ Deliver 0 1
          ∷ Begin 0
          ∷ Write (tx 0 1 2) 1 1 (8 ∷ [])
          ∷ Deliver 0 1
          ∷ Deliver 1 0
          ∷ Read (tx 0 1 2) 1
          ∷ [];
      output =
          codes "> pcl 1 2 4 8 4"
          ∷ codes "> begin 0"
          ∷ codes "begun 0.1.1"
          ∷ codes "> write 0.1.1 1 0 07"
          ∷ codes "waits 0.1.1 1"
          ∷ codes "send 0 1 1 request 0.1.1 1 X -"
          ∷ codes "> deliver 0 1"
          ∷ codes "taken"
          ∷ codes "send 1 0 1 grant 0.1.1 1 X lock 0 disk"
          ∷ codes "> deliver 1 0"
          ∷ codes "taken"
          ∷ codes "done 0.1.1 1 0"
          ∷ codes "> commit 0.1.1"
          ∷ codes "committed 0.1.1"
          ∷ codes "send 0 1 1 release 0.1.1 1 1 image"
          ∷ codes "> deliver 0 1"
          ∷ codes "taken"
          ∷ codes "> begin 0"
          ∷ codes "begun 0.1.2"
          ∷ codes "> write 0.1.2 1 1 08"
          ∷ codes "waits 0.1.2 1"
          ∷ codes "send 0 1 1 request 0.1.2 1 X 1"
          ∷ codes "> deliver 0 1"
          ∷ codes "taken"
          ∷ codes "send 1 0 1 grant 0.1.2 1 X lock 1 current"
          ∷ codes "> deliver 1 0"
          ∷ codes "taken"
          ∷ codes "done 0.1.2 1 1"
          ∷ codes "> read 0.1.2 1"
          ∷ codes "value 0.1.2 1 1 0708000000000000"
          ∷ codes "end 11 1"
          ∷ [];
    }
