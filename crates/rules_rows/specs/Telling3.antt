-- Worked schedules: telling.
use Rattle.std.specs.Prelude.{true, false, [], ◌∷◌, codes}
use Rattle.pcl_base.specs.Limits.{Sizes}
use Rattle.pcl_base.specs.declared.event.Event.{Event}
use Rattle.pcl_base.specs.declared.event.Event.TheVariants.{Begin, Read, Write, Commit, Abort, Deliver, Evict, Flush, Crash, View, Install, Reopen, Arm, Cut}
use Rattle.rules_rows.specs.Schedules.{Row, tx}

-- telling move keeps dirty
abbrev pub telling_move_keeps_dirty : Row
telling_move_keeps_dirty =
    record {
      sizes = record { nodes = 3; pages = 1; size = 15; frames = 3 };
      input =
          codes "pcl 1 3 1 15 3"
          ∷ codes "crash 1"
          ∷ codes "view 101 2,2,2"
          ∷ codes "install 2"
          ∷ codes "install 0"
          ∷ codes "begin 2"
          ∷ codes "write 2.1.1 0 4 366f"
          ∷ codes "deliver 0 2"
          ∷ codes "deliver 0 2"
          ∷ codes "commit 2.1.1"
          ∷ codes "begin 0"
          ∷ codes "write 0.1.1 0 6 f2c0e4"
          ∷ codes "deliver 0 2"
          ∷ codes "deliver 2 0"
          ∷ codes "commit 0.1.1"
          ∷ codes "crash 0"
          ∷ codes "view 011 1,2,1"
          ∷ codes "install 2"
          ∷ codes "install 1"
          ∷ codes "view 111 1,0,0"
          ∷ codes "install 0"
          ∷ codes "install 1"
          ∷ codes "deliver 2 1"
          ∷ codes "deliver 1 0"
          ∷ codes "evict 2 0"
          ∷ codes "deliver 1 0"
          ∷ codes "begin 0"
          ∷ codes "write 0.4.1 0 8 c4dcb3"
          ∷ codes "deliver 0 1"
          ∷ codes "deliver 1 0"
          ∷ [];
      events =
          Crash 1
          ∷ View (true ∷ false ∷ true ∷ []) (2 ∷ 2 ∷ 2 ∷ [])
          ∷ Install 2
          ∷ Install 0
          ∷ Begin 2
          ∷ Write (tx 2 1 1) 0 4 (54 ∷ 111 ∷ [])
          ∷ Deliver 0 2
          ∷ Deliver 0 2
          ∷ Commit (tx 2 1 1)
          ∷ Begin 0
          ∷ Write (tx 0 1 1) 0 6 (242 ∷ 192 ∷ 228 ∷ [])
          ∷ Deliver 0 2
          ∷ Deliver 2 0
          ∷ Commit (tx 0 1 1)
          ∷ Crash 0
          ∷ View (false ∷ true ∷ true ∷ []) (1 ∷ 2 ∷ 1 ∷ [])
          ∷ Install 2
          ∷ Install 1
          ∷ View (true ∷ true ∷ true ∷ []) (1 ∷ 0 ∷ 0 ∷ [])
          ∷ Install 0
          ∷ Install 1
          ∷ Deliver 2 1
          ∷ Deliver 1 0
          ∷ Evict 2 0
          ∷ Deliver 1 0
          ∷ Begin 0
          ∷ Write (tx 0 4 1) 0 8 (196 ∷ 220 ∷ 179 ∷ [])
          ∷ Deliver 0 1
          ∷ Deliver 1 0
          ∷ [];
      output =
          codes "> pcl 1 3 1 15 3"
          ∷ codes "> crash 1"
          ∷ codes "crashed"
          ∷ codes "> view 101 2,2,2"
          ∷ codes "view 2"
          ∷ codes "> install 2"
          ∷ codes "installed 2"
          ∷ codes "> install 0"
          ∷ codes "installed 2"
          ∷ codes "send 0 2 2 report 0 waits - locks - rights -"
          ∷ codes "send 0 2 2 report 1 waits - locks - rights -"
          ∷ codes "> begin 2"
          ∷ codes "begun 2.1.1"
          ∷ codes "> write 2.1.1 0 4 366f"
          ∷ codes "waits 2.1.1 0"
          ∷ codes "> deliver 0 2"
          ∷ codes "taken"
          ∷ codes "serving 0"
          ∷ codes "done 2.1.1 0 0"
          ∷ codes "> deliver 0 2"
          ∷ codes "taken"
          ∷ codes "serving 1"
          ∷ codes "> commit 2.1.1"
          ∷ codes "committed 2.1.1"
          ∷ codes "> begin 0"
          ∷ codes "begun 0.1.1"
          ∷ codes "> write 0.1.1 0 6 f2c0e4"
          ∷ codes "waits 0.1.1 0"
          ∷ codes "send 0 2 2 request 0.1.1 0 X -"
          ∷ codes "> deliver 0 2"
          ∷ codes "taken"
          ∷ codes "send 2 0 2 grant 0.1.1 0 X lock 1 image"
          ∷ codes "> deliver 2 0"
          ∷ codes "taken"
          ∷ codes "done 0.1.1 0 1"
          ∷ codes "> commit 0.1.1"
          ∷ codes "committed 0.1.1"
          ∷ codes "send 0 2 2 release 0.1.1 0 2 image"
          ∷ codes "> crash 0"
          ∷ codes "crashed"
          ∷ codes "> view 011 1,2,1"
          ∷ codes "view 3"
          ∷ codes "> install 2"
          ∷ codes "installed 3"
          ∷ codes "send 2 1 3 report 0 waits - locks - rights -"
          ∷ codes "send 2 1 3 report 2 waits - locks - rights -"
          ∷ codes "> install 1"
          ∷ codes "installed 3"
          ∷ codes "> view 111 1,0,0"
          ∷ codes "view 4"
          ∷ codes "> install 0"
          ∷ codes "installed 4"
          ∷ codes "> install 1"
          ∷ codes "installed 4"
          ∷ codes "send 1 0 4 report 1 waits - locks - rights -"
          ∷ codes "send 1 0 4 report 2 waits - locks - rights -"
          ∷ codes "> deliver 2 1"
          ∷ codes "taken"
          ∷ codes "serving 0"
          ∷ codes "> deliver 1 0"
          ∷ codes "taken"
          ∷ codes "> evict 2 0"
          ∷ codes "evicted"
          ∷ codes "> deliver 1 0"
          ∷ codes "taken"
          ∷ codes "> begin 0"
          ∷ codes "begun 0.4.1"
          ∷ codes "> write 0.4.1 0 8 c4dcb3"
          ∷ codes "waits 0.4.1 0"
          ∷ codes "send 0 1 4 request 0.4.1 0 X -"
          ∷ codes "> deliver 0 1"
          ∷ codes "taken"
          ∷ codes "send 1 0 4 grant 0.4.1 0 X lock 2 disk"
          ∷ codes "> deliver 1 0"
          ∷ codes "taken"
          ∷ codes "done 0.4.1 0 2"
          ∷ codes "end 29 2"
          ∷ [];
    }

-- telling move own locks unlisted
abbrev pub telling_move_own_locks_unlisted : Row
telling_move_own_locks_unlisted =
    record {
      sizes = record { nodes = 2; pages = 1; size = 10; frames = 3 };
      input =
          codes "pcl 1 2 1 10 3"
          ∷ codes "begin 0"
          ∷ codes "read 0.1.1 0"
          ∷ codes "view 11 1,1"
          ∷ codes "install 0"
          ∷ codes "abort 0.1.1"
          ∷ [];
      events =
          Begin 0
          ∷ Read (tx 0 1 1) 0
          ∷ View (true ∷ true ∷ []) (1 ∷ 1 ∷ [])
          ∷ Install 0
          ∷ Abort (tx 0 1 1)
          ∷ [];
      output =
          codes "> pcl 1 2 1 10 3"
          ∷ codes "> begin 0"
          ∷ codes "begun 0.1.1"
          ∷ codes "> read 0.1.1 0"
          ∷ codes "value 0.1.1 0 0 00000000000000000000"
          ∷ codes "> view 11 1,1"
          ∷ codes "view 2"
          ∷ codes "> install 0"
          ∷ codes "installed 2"
          ∷ codes "send 0 1 2 report 0 waits - locks 0.1.1:0:S rights -"
          ∷ codes "> abort 0.1.1"
          ∷ codes "aborted 0.1.1"
          ∷ codes "send 0 1 2 release 0.1.1 0 -"
          ∷ codes "end 5 0"
          ∷ [];
    }
