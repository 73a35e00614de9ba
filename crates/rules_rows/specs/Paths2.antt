-- Worked schedules: paths.
use Rattle.std.specs.Prelude.{true, false, [], ◌∷◌, codes}
use Rattle.pcl_base.specs.Limits.{Sizes}
use Rattle.pcl_base.specs.declared.event.Event.{Event}
use Rattle.pcl_base.specs.declared.event.Event.TheVariants.{Begin, Read, Write, Commit, Abort, Deliver, Evict, Flush, Crash, View, Install, Reopen, Arm, Cut}
use Rattle.rules_rows.specs.Schedules.{Row, tx}

-- refusals
abbrev pub refusals : Row
refusals =
    record {
      sizes = record { nodes = 2; pages = 2; size = 8; frames = 2 };
      input =
          codes "pcl 1 2 2 8 2"
          ∷ codes "begin 2"
          ∷ codes "read 0.1.1 0"
          ∷ codes "deliver 0 1"
          ∷ codes "begin 0"
          ∷ codes "read 0.1.1 2"
          ∷ codes "read 0.1.1 1"
          ∷ codes "commit 0.1.1"
          ∷ codes "flush 0 1"
          ∷ codes "install 0"
          ∷ codes "view 10 0,0"
          ∷ codes "view 11 0,0"
          ∷ codes "view 1 0"
          ∷ codes "reopen"
          ∷ codes "crash 1"
          ∷ codes "crash 1"
          ∷ codes "abort 0.1.1"
          ∷ [];
      events =
          Begin 2
          ∷ Read (tx 0 1 1) 0
          ∷ Deliver 0 1
          ∷ Begin 0
          ∷ Read (tx 0 1 1) 2
          ∷ Read (tx 0 1 1) 1
          ∷ Commit (tx 0 1 1)
          ∷ Flush 0 1
          ∷ Install 0
          ∷ View (true ∷ false ∷ []) (0 ∷ 0 ∷ [])
          ∷ View (true ∷ true ∷ []) (0 ∷ 0 ∷ [])
          ∷ View (true ∷ []) (0 ∷ [])
          ∷ Reopen
          ∷ Crash 1
          ∷ Crash 1
          ∷ Abort (tx 0 1 1)
          ∷ [];
      output =
          codes "> pcl 1 2 2 8 2"
          ∷ codes "> begin 2"
          ∷ codes "refused 1 NoNode"
          ∷ codes "> read 0.1.1 0"
          ∷ codes "refused 4 NoTx"
          ∷ codes "> deliver 0 1"
          ∷ codes "refused 10 EmptyLink"
          ∷ codes "> begin 0"
          ∷ codes "begun 0.1.1"
          ∷ codes "> read 0.1.1 2"
          ∷ codes "refused 6 NoPage"
          ∷ codes "> read 0.1.1 1"
          ∷ codes "waits 0.1.1 1"
          ∷ codes "send 0 1 1 request 0.1.1 1 S -"
          ∷ codes "> commit 0.1.1"
          ∷ codes "refused 5 TxWaits"
          ∷ codes "> flush 0 1"
          ∷ codes "refused 11 NoCopy"
          ∷ codes "> install 0"
          ∷ codes "refused 15 NoView"
          ∷ codes "> view 10 0,0"
          ∷ codes "refused 16 StillUp"
          ∷ codes "> view 11 0,0"
          ∷ codes "view 2"
          ∷ codes "> view 1 0"
          ∷ codes "refused 14 BadView 1"
          ∷ codes "> reopen"
          ∷ codes "refused 16 StillUp"
          ∷ codes "> crash 1"
          ∷ codes "crashed"
          ∷ codes "> crash 1"
          ∷ codes "refused 2 Down"
          ∷ codes "> abort 0.1.1"
          ∷ codes "aborted 0.1.1"
          ∷ codes "send 0 1 1 release 0.1.1 1 -"
          ∷ codes "end 16 0"
          ∷ [];
    }

-- image goes with release
abbrev pub image_goes_with_release : Row
image_goes_with_release =
    record {
      sizes = record { nodes = 2; pages = 4; size = 8; frames = 4 };
      input =
          codes "pcl 1 2 4 8 4"
          ∷ codes "begin 0"
          ∷ codes "write 0.1.1 1 0 07"
          ∷ codes "deliver 0 1"
          ∷ codes "deliver 1 0"
          ∷ codes "commit 0.1.1"
          ∷ codes "begin 1"
          ∷ codes "read 1.1.1 1"
          ∷ codes "deliver 0 1"
          ∷ codes "commit 1.1.1"
          ∷ [];
      events =
          Begin 0
          ∷ Write (tx 0 1 1) 1 0 (7 ∷ [])
          ∷ Deliver 0 1
          ∷ Deliver 1 0
          ∷ Commit (tx 0 1 1)
          ∷ Begin 1
          ∷ Read (tx 1 1 1) 1
          ∷ Deliver 0 1
          ∷ Commit (tx 1 1 1)
          ∷ [];
      output =
          codes "> pcl 1 2 4 8 4"
          ∷ codes "> begin 0"
          ∷ codes "begun 0.1.1"
          ∷ codes "> write 0.1.1 1 0 07"
          ∷ codes "waits 0.1.1 1"
          ∷ codes "send 0 1 1 request 0.1.1 1 X -"
          ∷ codes "> deliver 0 1"
          ∷ codes "taken"
          ∷ codes "send 1 0 1 grant 0.1.1 1 X lock 0 disk"
          ∷ codes "> deliver 1 0"
          ∷ codes "taken"
          ∷ codes "done 0.1.1 1 0"
          ∷ codes "> commit 0.1.1"
          ∷ codes "committed 0.1.1"
          ∷ codes "send 0 1 1 release 0.1.1 1 1 image"
          ∷ codes "> begin 1"
          ∷ codes "begun 1.1.1"
          ∷ codes "> read 1.1.1 1"
          ∷ codes "waits 1.1.1 1"
          ∷ codes "> deliver 0 1"
          ∷ codes "taken"
          ∷ codes "value 1.1.1 1 1 0700000000000000"
          ∷ codes "> commit 1.1.1"
          ∷ codes "committed 1.1.1"
          ∷ codes "end 9 2"
          ∷ [];
    }

-- stale then current copy
abbrev pub stale_then_current_copy : Row
stale_then_current_copy =
    record {
      sizes = record { nodes = 2; pages = 4; size = 8; frames = 4 };
      input =
          codes "pcl 1 2 4 8 4"
          ∷ codes "begin 0"
          ∷ codes "read 0.1.1 1"
          ∷ codes "deliver 0 1"
          ∷ codes "deliver 1 0"
          ∷ codes "commit 0.1.1"
          ∷ codes "begin 1"
          ∷ codes "write 1.1.1 1 0 09"
          ∷ codes "deliver 1 0"
          ∷ codes "deliver 0 1"
          ∷ codes "commit 1.1.1"
          ∷ codes "begin 0"
          ∷ codes "read 0.1.2 1"
          ∷ codes "deliver 0 1"
          ∷ codes "deliver 1 0"
          ∷ codes "commit 0.1.2"
          ∷ codes "begin 1"
          ∷ codes "write 1.1.2 1 0 0a"
          ∷ codes "deliver 1 0"
          ∷ codes "deliver 0 1"
          ∷ codes "abort 1.1.2"
          ∷ codes "begin 0"
          ∷ codes "read 0.1.3 1"
          ∷ codes "deliver 0 1"
          ∷ codes "deliver 1 0"
          ∷ codes "commit 0.1.3"
          ∷ [];
      events =
          Begin 0
          ∷ Read (tx 0 1 1) 1
          ∷ Deliver 0 1
          ∷ Deliver 1 0
          ∷ Commit (tx 0 1 1)
          ∷ Begin 1
          ∷ Write (tx 1 1 1) 1 0 (9 ∷ [])
          ∷ Deliver 1 0
          ∷ Deliver 0 1
          ∷ Commit (tx 1 1 1)
          ∷ Begin 0
          ∷ Read (tx 0 1 2) 1
          ∷ Deliver 0 1
          ∷ Deliver 1 0
          ∷ Commit (tx 0 1 2)
          ∷ Begin 1
          ∷ Write (tx 1 1 2) 1 0 (10 ∷ [])
          ∷ Deliver 1 0
          ∷ Deliver 0 1
          ∷ Abort (tx 1 1 2)
          ∷ Begin 0
          ∷ Read (tx 0 1 3) 1
          ∷ Deliver 0 1
          ∷ Deliver 1 0
          ∷ Commit (tx 0 1 3)
          ∷ [];
      output =
          codes "> pcl 1 2 4 8 4"
          ∷ codes "> begin 0"
          ∷ codes "begun 0.1.1"
          ∷ codes "> read 0.1.1 1"
          ∷ codes "waits 0.1.1 1"
          ∷ codes "send 0 1 1 request 0.1.1 1 S -"
          ∷ codes "> deliver 0 1"
          ∷ codes "taken"
          ∷ codes "send 1 0 1 grant 0.1.1 1 S right 0 disk"
          ∷ codes "> deliver 1 0"
          ∷ codes "taken"
          ∷ codes "value 0.1.1 1 0 0000000000000000"
          ∷ codes "> commit 0.1.1"
          ∷ codes "committed 0.1.1"
          ∷ codes "> begin 1"
          ∷ codes "begun 1.1.1"
          ∷ codes "> write 1.1.1 1 0 09"
          ∷ codes "waits 1.1.1 1"
          ∷ codes "send 1 0 1 revoke 1"
          ∷ codes "> deliver 1 0"
          ∷ codes "taken"
          ∷ codes "send 0 1 1 return 1 -"
          ∷ codes "> deliver 0 1"
          ∷ codes "taken"
          ∷ codes "done 1.1.1 1 0"
          ∷ codes "> commit 1.1.1"
          ∷ codes "committed 1.1.1"
          ∷ codes "> begin 0"
          ∷ codes "begun 0.1.2"
          ∷ codes "> read 0.1.2 1"
          ∷ codes "waits 0.1.2 1"
          ∷ codes "send 0 1 1 request 0.1.2 1 S 0"
          ∷ codes "> deliver 0 1"
          ∷ codes "taken"
          ∷ codes "send 1 0 1 grant 0.1.2 1 S right 1 image"
          ∷ codes "> deliver 1 0"
          ∷ codes "taken"
          ∷ codes "value 0.1.2 1 1 0900000000000000"
          ∷ codes "> commit 0.1.2"
          ∷ codes "committed 0.1.2"
          ∷ codes "> begin 1"
          ∷ codes "begun 1.1.2"
          ∷ codes "> write 1.1.2 1 0 0a"
          ∷ codes "waits 1.1.2 1"
          ∷ codes "send 1 0 1 revoke 1"
          ∷ codes "> deliver 1 0"
          ∷ codes "taken"
          ∷ codes "send 0 1 1 return 1 -"
          ∷ codes "> deliver 0 1"
          ∷ codes "taken"
          ∷ codes "done 1.1.2 1 1"
          ∷ codes "> abort 1.1.2"
          ∷ codes "aborted 1.1.2"
          ∷ codes "> begin 0"
          ∷ codes "begun 0.1.3"
          ∷ codes "> read 0.1.3 1"
          ∷ codes "waits 0.1.3 1"
          ∷ codes "send 0 1 1 request 0.1.3 1 S 1"
          ∷ codes "> deliver 0 1"
          ∷ codes "taken"
          ∷ codes "send 1 0 1 grant 0.1.3 1 S right 1 current"
          ∷ codes "> deliver 1 0"
          ∷ codes "taken"
          ∷ codes "value 0.1.3 1 1 0900000000000000"
          ∷ codes "> commit 0.1.3"
          ∷ codes "committed 0.1.3"
          ∷ codes "end 25 4"
          ∷ [];
    }
