-- Worked schedules: telling.
use Rattle.std.specs.Prelude.{true, false, [], ◌∷◌, codes}
use Rattle.pcl_base.specs.Limits.{Sizes}
use Rattle.pcl_base.specs.declared.event.Event.{Event}
use Rattle.pcl_base.specs.declared.event.Event.TheVariants.{Begin, Read, Write, Commit, Abort, Deliver, Evict, Flush, Crash, View, Install, Reopen, Arm, Cut}
use Rattle.rules_rows.specs.Schedules.{Row, tx}

-- telling current to every copy
abbrev pub telling_current_to_every_copy : Row
telling_current_to_every_copy =
    record {
      sizes = record { nodes = 3; pages = 1; size = 11; frames = 5 };
      input =
          codes "pcl 1 3 1 11 5"
          ∷ codes "begin 1"
          ∷ codes "write 1.1.1 0 2 a0a348"
          ∷ codes "deliver 1 0"
          ∷ codes "deliver 0 1"
          ∷ codes "abort 1.1.1"
          ∷ codes "begin 0"
          ∷ codes "write 0.1.1 0 0 07"
          ∷ codes "deliver 1 0"
          ∷ codes "commit 0.1.1"
          ∷ codes "begin 1"
          ∷ codes "read 1.1.2 0"
          ∷ codes "deliver 1 0"
          ∷ codes "deliver 0 1"
          ∷ [];
      events =
          Begin 1
          ∷ Write (tx 1 1 1) 0 2 (160 ∷ 163 ∷ 72 ∷ [])
          ∷ Deliver 1 0
          ∷ Deliver 0 1
          ∷ Abort (tx 1 1 1)
          ∷ Begin 0
          ∷ Write (tx 0 1 1) 0 0 (7 ∷ [])
          ∷ Deliver 1 0
          ∷ Commit (tx 0 1 1)
          ∷ Begin 1
          ∷ Read (tx 1 1 2) 0
          ∷ Deliver 1 0
          ∷ Deliver 0 1
          ∷ [];
      output =
          codes "> pcl 1 3 1 11 5"
          ∷ codes "> begin 1"
          ∷ codes "begun 1.1.1"
          ∷ codes "> write 1.1.1 0 2 a0a348"
          ∷ codes "waits 1.1.1 0"
          ∷ codes "send 1 0 1 request 1.1.1 0 X -"
          ∷ codes "> deliver 1 0"
          ∷ codes "taken"
          ∷ codes "send 0 1 1 grant 1.1.1 0 X lock 0 disk"
          ∷ codes "> deliver 0 1"
          ∷ codes "taken"
          ∷ codes "done 1.1.1 0 0"
          ∷ codes "> abort 1.1.1"
          ∷ codes "aborted 1.1.1"
          ∷ codes "send 1 0 1 release 1.1.1 0 -"
          ∷ codes "> begin 0"
          ∷ codes "begun 0.1.1"
          ∷ codes "> write 0.1.1 0 0 07"
          ∷ codes "waits 0.1.1 0"
          ∷ codes "> deliver 1 0"
          ∷ codes "taken"
          ∷ codes "done 0.1.1 0 0"
          ∷ codes "> commit 0.1.1"
          ∷ codes "committed 0.1.1"
          ∷ codes "> begin 1"
          ∷ codes "begun 1.1.2"
          ∷ codes "> read 1.1.2 0"
          ∷ codes "waits 1.1.2 0"
          ∷ codes "send 1 0 1 request 1.1.2 0 S 0"
          ∷ codes "> deliver 1 0"
          ∷ codes "taken"
          ∷ codes "send 0 1 1 grant 1.1.2 0 S right 1 image"
          ∷ codes "> deliver 0 1"
          ∷ codes "taken"
          ∷ codes "value 1.1.2 0 1 0700000000000000000000"
          ∷ codes "end 13 1"
          ∷ [];
    }

-- telling cut one too far
abbrev pub telling_cut_one_too_far : Row
telling_cut_one_too_far =
    record {
      sizes = record { nodes = 3; pages = 1; size = 8; frames = 3 };
      input =
          codes "pcl 1 3 1 8 3"
          ∷ codes "begin 0"
          ∷ codes "write 0.1.1 0 3 f8bf"
          ∷ codes "commit 0.1.1"
          ∷ codes "cut 0"
          ∷ [];
      events =
          Begin 0
          ∷ Write (tx 0 1 1) 0 3 (248 ∷ 191 ∷ [])
          ∷ Commit (tx 0 1 1)
          ∷ Cut 0
          ∷ [];
      output =
          codes "> pcl 1 3 1 8 3"
          ∷ codes "> begin 0"
          ∷ codes "begun 0.1.1"
          ∷ codes "> write 0.1.1 0 3 f8bf"
          ∷ codes "done 0.1.1 0 0"
          ∷ codes "> commit 0.1.1"
          ∷ codes "committed 0.1.1"
          ∷ codes "> cut 0"
          ∷ codes "cut 0"
          ∷ codes "end 4 1"
          ∷ [];
    }

-- telling dirty at home
abbrev pub telling_dirty_at_home : Row
telling_dirty_at_home =
    record {
      sizes = record { nodes = 3; pages = 1; size = 16; frames = 6 };
      input =
          codes "pcl 1 3 1 16 6"
          ∷ codes "begin 2"
          ∷ codes "write 2.1.1 0 1 fbb9"
          ∷ codes "deliver 2 0"
          ∷ codes "deliver 0 2"
          ∷ codes "begin 0"
          ∷ codes "write 0.1.1 0 3 1c35bf"
          ∷ codes "commit 2.1.1"
          ∷ codes "deliver 2 0"
          ∷ codes "commit 0.1.1"
          ∷ codes "evict 0 0"
          ∷ codes "cut 0"
          ∷ codes "evict 2 0"
          ∷ [];
      events =
          Begin 2
          ∷ Write (tx 2 1 1) 0 1 (251 ∷ 185 ∷ [])
          ∷ Deliver 2 0
          ∷ Deliver 0 2
          ∷ Begin 0
          ∷ Write (tx 0 1 1) 0 3 (28 ∷ 53 ∷ 191 ∷ [])
          ∷ Commit (tx 2 1 1)
          ∷ Deliver 2 0
          ∷ Commit (tx 0 1 1)
          ∷ Evict 0 0
          ∷ Cut 0
          ∷ Evict 2 0
          ∷ [];
      output =
          codes "> pcl 1 3 1 16 6"
          ∷ codes "> begin 2"
          ∷ codes "begun 2.1.1"
          ∷ codes "> write 2.1.1 0 1 fbb9"
          ∷ codes "waits 2.1.1 0"
          ∷ codes "send 2 0 1 request 2.1.1 0 X -"
          ∷ codes "> deliver 2 0"
          ∷ codes "taken"
          ∷ codes "send 0 2 1 grant 2.1.1 0 X lock 0 disk"
          ∷ codes "> deliver 0 2"
          ∷ codes "taken"
          ∷ codes "done 2.1.1 0 0"
          ∷ codes "> begin 0"
          ∷ codes "begun 0.1.1"
          ∷ codes "> write 0.1.1 0 3 1c35bf"
          ∷ codes "waits 0.1.1 0"
          ∷ codes "> commit 2.1.1"
          ∷ codes "committed 2.1.1"
          ∷ codes "send 2 0 1 release 2.1.1 0 1 image"
          ∷ codes "> deliver 2 0"
          ∷ codes "taken"
          ∷ codes "done 0.1.1 0 1"
          ∷ codes "> commit 0.1.1"
          ∷ codes "committed 0.1.1"
          ∷ codes "> evict 0 0"
          ∷ codes "evicted"
          ∷ codes "> cut 0"
          ∷ codes "cut 38"
          ∷ codes "> evict 2 0"
          ∷ codes "evicted"
          ∷ codes "end 12 2"
          ∷ [];
    }

-- telling dirty evicted unwritten
abbrev pub telling_dirty_evicted_unwritten : Row
telling_dirty_evicted_unwritten =
    record {
      sizes = record { nodes = 1; pages = 2; size = 9; frames = 2 };
      input =
          codes "pcl 1 1 2 9 2"
          ∷ codes "begin 0"
          ∷ codes "write 0.1.1 0 7 b5b6"
          ∷ codes "commit 0.1.1"
          ∷ codes "begin 0"
          ∷ codes "write 0.1.2 1 2 0aed07"
          ∷ codes "abort 0.1.2"
          ∷ codes "begin 0"
          ∷ codes "read 0.1.3 0"
          ∷ [];
      events =
          Begin 0
          ∷ Write (tx 0 1 1) 0 7 (181 ∷ 182 ∷ [])
          ∷ Commit (tx 0 1 1)
          ∷ Begin 0
          ∷ Write (tx 0 1 2) 1 2 (10 ∷ 237 ∷ 7 ∷ [])
          ∷ Abort (tx 0 1 2)
          ∷ Begin 0
          ∷ Read (tx 0 1 3) 0
          ∷ [];
      output =
          codes "> pcl 1 1 2 9 2"
          ∷ codes "> begin 0"
          ∷ codes "begun 0.1.1"
          ∷ codes "> write 0.1.1 0 7 b5b6"
          ∷ codes "done 0.1.1 0 0"
          ∷ codes "> commit 0.1.1"
          ∷ codes "committed 0.1.1"
          ∷ codes "> begin 0"
          ∷ codes "begun 0.1.2"
          ∷ codes "> write 0.1.2 1 2 0aed07"
          ∷ codes "done 0.1.2 1 0"
          ∷ codes "> abort 0.1.2"
          ∷ codes "aborted 0.1.2"
          ∷ codes "> begin 0"
          ∷ codes "begun 0.1.3"
          ∷ codes "> read 0.1.3 0"
          ∷ codes "value 0.1.3 0 1 00000000000000b5b6"
          ∷ codes "end 8 1"
          ∷ [];
    }
