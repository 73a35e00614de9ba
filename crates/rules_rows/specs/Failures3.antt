-- Worked schedules: failures.
use Rattle.std.specs.Prelude.{true, false, [], ◌∷◌, codes}
use Rattle.pcl_base.specs.Limits.{Sizes}
use Rattle.pcl_base.specs.declared.event.Event.{Event}
use Rattle.pcl_base.specs.declared.event.Event.TheVariants.{Begin, Read, Write, Commit, Abort, Deliver, Evict, Flush, Crash, View, Install, Reopen, Arm, Cut}
use Rattle.rules_rows.specs.Schedules.{Row, tx}

-- node comes back
abbrev pub node_comes_back : Row
node_comes_back =
    record {
      sizes = record { nodes = 2; pages = 2; size = 8; frames = 4 };
      input =
          codes "pcl 1 2 2 8 4"
          ∷ codes "crash 1"
          ∷ codes "view 10 0,0"
          ∷ codes "install 0"
          ∷ codes "view 11 0,1"
          ∷ codes "begin 1"
          ∷ codes "install 0"
          ∷ codes "install 1"
          ∷ codes "deliver 0 1"
          ∷ codes "begin 1"
          ∷ codes "write 1.3.1 1 0 01"
          ∷ codes "commit 1.3.1"
          ∷ codes "begin 0"
          ∷ codes "read 0.1.1 1"
          ∷ codes "deliver 0 1"
          ∷ codes "deliver 1 0"
          ∷ [];
      events =
          Crash 1
          ∷ View (true ∷ false ∷ []) (0 ∷ 0 ∷ [])
          ∷ Install 0
          ∷ View (true ∷ true ∷ []) (0 ∷ 1 ∷ [])
          ∷ Begin 1
          ∷ Install 0
          ∷ Install 1
          ∷ Deliver 0 1
          ∷ Begin 1
          ∷ Write (tx 1 3 1) 1 0 (1 ∷ [])
          ∷ Commit (tx 1 3 1)
          ∷ Begin 0
          ∷ Read (tx 0 1 1) 1
          ∷ Deliver 0 1
          ∷ Deliver 1 0
          ∷ [];
      output =
          codes "> pcl 1 2 2 8 4"
          ∷ codes "> crash 1"
          ∷ codes "crashed"
          ∷ codes "> view 10 0,0"
          ∷ codes "view 2"
          ∷ codes "> install 0"
          ∷ codes "installed 2"
          ∷ codes "serving 1"
          ∷ codes "> view 11 0,1"
          ∷ codes "view 3"
          ∷ codes "> begin 1"
          ∷ codes "refused 3 NotInView"
          ∷ codes "> install 0"
          ∷ codes "installed 3"
          ∷ codes "send 0 1 3 report 1 waits - locks - rights -"
          ∷ codes "> install 1"
          ∷ codes "installed 3"
          ∷ codes "> deliver 0 1"
          ∷ codes "taken"
          ∷ codes "serving 1"
          ∷ codes "> begin 1"
          ∷ codes "begun 1.3.1"
          ∷ codes "> write 1.3.1 1 0 01"
          ∷ codes "done 1.3.1 1 0"
          ∷ codes "> commit 1.3.1"
          ∷ codes "committed 1.3.1"
          ∷ codes "> begin 0"
          ∷ codes "begun 0.1.1"
          ∷ codes "> read 0.1.1 1"
          ∷ codes "waits 0.1.1 1"
          ∷ codes "send 0 1 3 request 0.1.1 1 S -"
          ∷ codes "> deliver 0 1"
          ∷ codes "taken"
          ∷ codes "send 1 0 3 grant 0.1.1 1 S right 1 image"
          ∷ codes "> deliver 1 0"
          ∷ codes "taken"
          ∷ codes "value 0.1.1 1 1 0100000000000000"
          ∷ codes "end 15 1"
          ∷ [];
    }

-- owner crashes with image in buffer
abbrev pub owner_crashes_with_image_in_buffer : Row
owner_crashes_with_image_in_buffer =
    record {
      sizes = record { nodes = 2; pages = 4; size = 8; frames = 4 };
      input =
          codes "pcl 1 2 4 8 4"
          ∷ codes "begin 0"
          ∷ codes "write 0.1.1 1 0 07"
          ∷ codes "deliver 0 1"
          ∷ codes "deliver 1 0"
          ∷ codes "commit 0.1.1"
          ∷ codes "deliver 0 1"
          ∷ codes "evict 0 1"
          ∷ codes "crash 1"
          ∷ codes "view 10 0,0"
          ∷ codes "install 0"
          ∷ codes "begin 0"
          ∷ codes "read 0.1.2 1"
          ∷ codes "commit 0.1.2"
          ∷ [];
      events =
          Begin 0
          ∷ Write (tx 0 1 1) 1 0 (7 ∷ [])
          ∷ Deliver 0 1
          ∷ Deliver 1 0
          ∷ Commit (tx 0 1 1)
          ∷ Deliver 0 1
          ∷ Evict 0 1
          ∷ Crash 1
          ∷ View (true ∷ false ∷ []) (0 ∷ 0 ∷ [])
          ∷ Install 0
          ∷ Begin 0
          ∷ Read (tx 0 1 2) 1
          ∷ Commit (tx 0 1 2)
          ∷ [];
      output =
          codes "> pcl 1 2 4 8 4"
          ∷ codes "> begin 0"
          ∷ codes "begun 0.1.1"
          ∷ codes "> write 0.1.1 1 0 07"
          ∷ codes "waits 0.1.1 1"
          ∷ codes "send 0 1 1 request 0.1.1 1 X -"
          ∷ codes "> deliver 0 1"
          ∷ codes "taken"
          ∷ codes "send 1 0 1 grant 0.1.1 1 X lock 0 disk"
          ∷ codes "> deliver 1 0"
          ∷ codes "taken"
          ∷ codes "done 0.1.1 1 0"
          ∷ codes "> commit 0.1.1"
          ∷ codes "committed 0.1.1"
          ∷ codes "send 0 1 1 release 0.1.1 1 1 image"
          ∷ codes "> deliver 0 1"
          ∷ codes "taken"
          ∷ codes "> evict 0 1"
          ∷ codes "evicted"
          ∷ codes "> crash 1"
          ∷ codes "crashed"
          ∷ codes "> view 10 0,0"
          ∷ codes "view 2"
          ∷ codes "> install 0"
          ∷ codes "installed 2"
          ∷ codes "serving 1"
          ∷ codes "> begin 0"
          ∷ codes "begun 0.1.2"
          ∷ codes "> read 0.1.2 1"
          ∷ codes "value 0.1.2 1 1 0700000000000000"
          ∷ codes "> commit 0.1.2"
          ∷ codes "committed 0.1.2"
          ∷ codes "end 13 2"
          ∷ [];
    }

-- planned move
abbrev pub planned_move : Row
planned_move =
    record {
      sizes = record { nodes = 2; pages = 4; size = 8; frames = 4 };
      input =
          codes "pcl 1 2 4 8 4"
          ∷ codes "begin 1"
          ∷ codes "write 1.1.1 1 0 07"
          ∷ codes "commit 1.1.1"
          ∷ codes "begin 1"
          ∷ codes "write 1.1.2 3 0 08"
          ∷ codes "view 11 0,0"
          ∷ codes "install 0"
          ∷ codes "begin 0"
          ∷ codes "read 0.1.1 1"
          ∷ codes "install 1"
          ∷ codes "deliver 1 0"
          ∷ codes "commit 1.1.2"
          ∷ codes "deliver 1 0"
          ∷ codes "read 0.1.1 3"
          ∷ codes "commit 0.1.1"
          ∷ [];
      events =
          Begin 1
          ∷ Write (tx 1 1 1) 1 0 (7 ∷ [])
          ∷ Commit (tx 1 1 1)
          ∷ Begin 1
          ∷ Write (tx 1 1 2) 3 0 (8 ∷ [])
          ∷ View (true ∷ true ∷ []) (0 ∷ 0 ∷ [])
          ∷ Install 0
          ∷ Begin 0
          ∷ Read (tx 0 1 1) 1
          ∷ Install 1
          ∷ Deliver 1 0
          ∷ Commit (tx 1 1 2)
          ∷ Deliver 1 0
          ∷ Read (tx 0 1 1) 3
          ∷ Commit (tx 0 1 1)
          ∷ [];
      output =
          codes "> pcl 1 2 4 8 4"
          ∷ codes "> begin 1"
          ∷ codes "begun 1.1.1"
          ∷ codes "> write 1.1.1 1 0 07"
          ∷ codes "done 1.1.1 1 0"
          ∷ codes "> commit 1.1.1"
          ∷ codes "committed 1.1.1"
          ∷ codes "> begin 1"
          ∷ codes "begun 1.1.2"
          ∷ codes "> write 1.1.2 3 0 08"
          ∷ codes "done 1.1.2 3 0"
          ∷ codes "> view 11 0,0"
          ∷ codes "view 2"
          ∷ codes "> install 0"
          ∷ codes "installed 2"
          ∷ codes "> begin 0"
          ∷ codes "begun 0.1.1"
          ∷ codes "> read 0.1.1 1"
          ∷ codes "waits 0.1.1 1"
          ∷ codes "> install 1"
          ∷ codes "installed 2"
          ∷ codes "send 1 0 2 report 1 waits - locks 1.1.2:3:X rights -"
          ∷ codes "> deliver 1 0"
          ∷ codes "taken"
          ∷ codes "serving 1"
          ∷ codes "value 0.1.1 1 1 0700000000000000"
          ∷ codes "> commit 1.1.2"
          ∷ codes "committed 1.1.2"
          ∷ codes "send 1 0 2 release 1.1.2 3 1 image"
          ∷ codes "> deliver 1 0"
          ∷ codes "taken"
          ∷ codes "> read 0.1.1 3"
          ∷ codes "value 0.1.1 3 1 0800000000000000"
          ∷ codes "> commit 0.1.1"
          ∷ codes "committed 0.1.1"
          ∷ codes "end 15 3"
          ∷ [];
    }
