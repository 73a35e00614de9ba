-- Worked schedules: telling.
use Rattle.std.specs.Prelude.{true, false, [], ◌∷◌, codes}
use Rattle.pcl_base.specs.Limits.{Sizes}
use Rattle.pcl_base.specs.declared.event.Event.{Event}
use Rattle.pcl_base.specs.declared.event.Event.TheVariants.{Begin, Read, Write, Commit, Abort, Deliver, Evict, Flush, Crash, View, Install, Reopen, Arm, Cut}
use Rattle.rules_rows.specs.Schedules.{Row, tx}

-- telling entry keeps version at redo
abbrev pub telling_entry_keeps_version_at_redo : Row
telling_entry_keeps_version_at_redo =
    record {
      sizes = record { nodes = 3; pages = 1; size = 15; frames = 5 };
      input =
          codes "pcl 1 3 1 15 5"
          ∷ codes "begin 2"
          ∷ codes "write 2.1.1 0 2 75c2d9"
          ∷ codes "deliver 2 0"
          ∷ codes "deliver 0 2"
          ∷ codes "commit 2.1.1"
          ∷ codes "crash 2"
          ∷ codes "view 110 0,1,0"
          ∷ codes "install 0"
          ∷ codes "begin 0"
          ∷ codes "write 0.1.1 0 9 72"
          ∷ [];
      events =
          Begin 2
          ∷ Write (tx 2 1 1) 0 2 (117 ∷ 194 ∷ 217 ∷ [])
          ∷ Deliver 2 0
          ∷ Deliver 0 2
          ∷ Commit (tx 2 1 1)
          ∷ Crash 2
          ∷ View (true ∷ true ∷ false ∷ []) (0 ∷ 1 ∷ 0 ∷ [])
          ∷ Install 0
          ∷ Begin 0
          ∷ Write (tx 0 1 1) 0 9 (114 ∷ [])
          ∷ [];
      output =
          codes "> pcl 1 3 1 15 5"
          ∷ codes "> begin 2"
          ∷ codes "begun 2.1.1"
          ∷ codes "> write 2.1.1 0 2 75c2d9"
          ∷ codes "waits 2.1.1 0"
          ∷ codes "send 2 0 1 request 2.1.1 0 X -"
          ∷ codes "> deliver 2 0"
          ∷ codes "taken"
          ∷ codes "send 0 2 1 grant 2.1.1 0 X lock 0 disk"
          ∷ codes "> deliver 0 2"
          ∷ codes "taken"
          ∷ codes "done 2.1.1 0 0"
          ∷ codes "> commit 2.1.1"
          ∷ codes "committed 2.1.1"
          ∷ codes "send 2 0 1 release 2.1.1 0 1 image"
          ∷ codes "> crash 2"
          ∷ codes "crashed"
          ∷ codes "> view 110 0,1,0"
          ∷ codes "view 2"
          ∷ codes "> install 0"
          ∷ codes "installed 2"
          ∷ codes "> begin 0"
          ∷ codes "begun 0.1.1"
          ∷ codes "> write 0.1.1 0 9 72"
          ∷ codes "done 0.1.1 0 1"
          ∷ codes "end 10 1"
          ∷ [];
    }

-- telling exclusive with revocation
abbrev pub telling_exclusive_with_revocation : Row
telling_exclusive_with_revocation =
    record {
      sizes = record { nodes = 2; pages = 1; size = 14; frames = 2 };
      input =
          codes "pcl 1 2 1 14 2"
          ∷ codes "begin 1"
          ∷ codes "read 1.1.1 0"
          ∷ codes "deliver 1 0"
          ∷ codes "begin 0"
          ∷ codes "write 0.1.1 0 6 0d89"
          ∷ codes "deliver 0 1"
          ∷ codes "commit 0.1.1"
          ∷ codes "commit 1.1.1"
          ∷ [];
      events =
          Begin 1
          ∷ Read (tx 1 1 1) 0
          ∷ Deliver 1 0
          ∷ Begin 0
          ∷ Write (tx 0 1 1) 0 6 (13 ∷ 137 ∷ [])
          ∷ Deliver 0 1
          ∷ Commit (tx 0 1 1)
          ∷ Commit (tx 1 1 1)
          ∷ [];
      output =
          codes "> pcl 1 2 1 14 2"
          ∷ codes "> begin 1"
          ∷ codes "begun 1.1.1"
          ∷ codes "> read 1.1.1 0"
          ∷ codes "waits 1.1.1 0"
          ∷ codes "send 1 0 1 request 1.1.1 0 S -"
          ∷ codes "> deliver 1 0"
          ∷ codes "taken"
          ∷ codes "send 0 1 1 grant 1.1.1 0 S right 0 disk"
          ∷ codes "> begin 0"
          ∷ codes "begun 0.1.1"
          ∷ codes "> write 0.1.1 0 6 0d89"
          ∷ codes "waits 0.1.1 0"
          ∷ codes "send 0 1 1 revoke 0"
          ∷ codes "> deliver 0 1"
          ∷ codes "taken"
          ∷ codes "value 1.1.1 0 0 0000000000000000000000000000"
          ∷ codes "> commit 0.1.1"
          ∷ codes "refused 5 TxWaits"
          ∷ codes "> commit 1.1.1"
          ∷ codes "committed 1.1.1"
          ∷ codes "end 8 1"
          ∷ [];
    }

-- telling kept not named
abbrev pub telling_kept_not_named : Row
telling_kept_not_named =
    record {
      sizes = record { nodes = 3; pages = 3; size = 11; frames = 4 };
      input =
          codes "pcl 1 3 3 11 4"
          ∷ codes "begin 2"
          ∷ codes "write 2.1.1 2 7 395db7"
          ∷ codes "arm 2 1 40"
          ∷ codes "commit 2.1.1"
          ∷ [];
      events =
          Begin 2
          ∷ Write (tx 2 1 1) 2 7 (57 ∷ 93 ∷ 183 ∷ [])
          ∷ Arm 2 1 40
          ∷ Commit (tx 2 1 1)
          ∷ [];
      output =
          codes "> pcl 1 3 3 11 4"
          ∷ codes "> begin 2"
          ∷ codes "begun 2.1.1"
          ∷ codes "> write 2.1.1 2 7 395db7"
          ∷ codes "done 2.1.1 2 0"
          ∷ codes "> arm 2 1 40"
          ∷ codes "armed"
          ∷ codes "> commit 2.1.1"
          ∷ codes "halted force kept 2.1.1"
          ∷ codes "end 4 1"
          ∷ [];
    }

-- telling late grant taken
abbrev pub telling_late_grant_taken : Row
telling_late_grant_taken =
    record {
      sizes = record { nodes = 3; pages = 1; size = 16; frames = 5 };
      input =
          codes "pcl 1 3 1 16 5"
          ∷ codes "begin 2"
          ∷ codes "read 2.1.1 0"
          ∷ codes "deliver 2 0"
          ∷ codes "view 111 2,1,1"
          ∷ codes "view 111 0,1,1"
          ∷ codes "install 2"
          ∷ codes "deliver 0 2"
          ∷ codes "install 2"
          ∷ codes "commit 2.1.1"
          ∷ codes "begin 0"
          ∷ codes "write 0.1.1 0 0 07"
          ∷ [];
      events =
          Begin 2
          ∷ Read (tx 2 1 1) 0
          ∷ Deliver 2 0
          ∷ View (true ∷ true ∷ true ∷ []) (2 ∷ 1 ∷ 1 ∷ [])
          ∷ View (true ∷ true ∷ true ∷ []) (0 ∷ 1 ∷ 1 ∷ [])
          ∷ Install 2
          ∷ Deliver 0 2
          ∷ Install 2
          ∷ Commit (tx 2 1 1)
          ∷ Begin 0
          ∷ Write (tx 0 1 1) 0 0 (7 ∷ [])
          ∷ [];
      output =
          codes "> pcl 1 3 1 16 5"
          ∷ codes "> begin 2"
          ∷ codes "begun 2.1.1"
          ∷ codes "> read 2.1.1 0"
          ∷ codes "waits 2.1.1 0"
          ∷ codes "send 2 0 1 request 2.1.1 0 S -"
          ∷ codes "> deliver 2 0"
          ∷ codes "taken"
          ∷ codes "send 0 2 1 grant 2.1.1 0 S right 0 disk"
          ∷ codes "> view 111 2,1,1"
          ∷ codes "view 2"
          ∷ codes "> view 111 0,1,1"
          ∷ codes "view 3"
          ∷ codes "> install 2"
          ∷ codes "installed 2"
          ∷ codes "send 2 1 2 report 2 waits - locks - rights -"
          ∷ codes "> deliver 0 2"
          ∷ codes "dropped"
          ∷ codes "> install 2"
          ∷ codes "installed 3"
          ∷ codes "send 2 0 3 report 0 waits 2.1.1:0:S:- locks - rights -"
          ∷ codes "> commit 2.1.1"
          ∷ codes "refused 5 TxWaits"
          ∷ codes "> begin 0"
          ∷ codes "begun 0.1.1"
          ∷ codes "> write 0.1.1 0 0 07"
          ∷ codes "waits 0.1.1 0"
          ∷ codes "send 0 2 1 revoke 0"
          ∷ codes "end 11 0"
          ∷ [];
    }
