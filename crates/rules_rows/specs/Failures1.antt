-- Worked schedules: failures.
use Rattle.std.specs.Prelude.{true, false, [], ◌∷◌, codes}
use Rattle.pcl_base.specs.Limits.{Sizes}
use Rattle.pcl_base.specs.declared.event.Event.{Event}
use Rattle.pcl_base.specs.declared.event.Event.TheVariants.{Begin, Read, Write, Commit, Abort, Deliver, Evict, Flush, Crash, View, Install, Reopen, Arm, Cut}
use Rattle.rules_rows.specs.Schedules.{Row, tx}

-- all nodes down
abbrev pub all_nodes_down : Row
all_nodes_down =
    record {
      sizes = record { nodes = 2; pages = 2; size = 8; frames = 2 };
      input =
          codes "pcl 1 2 2 8 2"
          ∷ codes "begin 0"
          ∷ codes "write 0.1.1 0 0 0a"
          ∷ codes "commit 0.1.1"
          ∷ codes "crash 0"
          ∷ codes "crash 1"
          ∷ codes "reopen"
          ∷ codes "begin 0"
          ∷ codes "install 1"
          ∷ codes "deliver 1 0"
          ∷ codes "install 0"
          ∷ codes "deliver 1 0"
          ∷ codes "deliver 0 1"
          ∷ codes "begin 0"
          ∷ codes "read 0.2.1 0"
          ∷ codes "commit 0.2.1"
          ∷ [];
      events =
          Begin 0
          ∷ Write (tx 0 1 1) 0 0 (10 ∷ [])
          ∷ Commit (tx 0 1 1)
          ∷ Crash 0
          ∷ Crash 1
          ∷ Reopen
          ∷ Begin 0
          ∷ Install 1
          ∷ Deliver 1 0
          ∷ Install 0
          ∷ Deliver 1 0
          ∷ Deliver 0 1
          ∷ Begin 0
          ∷ Read (tx 0 2 1) 0
          ∷ Commit (tx 0 2 1)
          ∷ [];
      output =
          codes "> pcl 1 2 2 8 2"
          ∷ codes "> begin 0"
          ∷ codes "begun 0.1.1"
          ∷ codes "> write 0.1.1 0 0 0a"
          ∷ codes "done 0.1.1 0 0"
          ∷ codes "> commit 0.1.1"
          ∷ codes "committed 0.1.1"
          ∷ codes "> crash 0"
          ∷ codes "crashed"
          ∷ codes "> crash 1"
          ∷ codes "crashed"
          ∷ codes "> reopen"
          ∷ codes "reopened 2"
          ∷ codes "> begin 0"
          ∷ codes "refused 3 NotInView"
          ∷ codes "> install 1"
          ∷ codes "installed 2"
          ∷ codes "send 1 0 2 report 0 waits - locks - rights -"
          ∷ codes "> deliver 1 0"
          ∷ codes "refused 3 NotInView"
          ∷ codes "> install 0"
          ∷ codes "installed 2"
          ∷ codes "send 0 1 2 report 1 waits - locks - rights -"
          ∷ codes "> deliver 1 0"
          ∷ codes "taken"
          ∷ codes "serving 0"
          ∷ codes "> deliver 0 1"
          ∷ codes "taken"
          ∷ codes "serving 1"
          ∷ codes "> begin 0"
          ∷ codes "begun 0.2.1"
          ∷ codes "> read 0.2.1 0"
          ∷ codes "value 0.2.1 0 1 0a00000000000000"
          ∷ codes "> commit 0.2.1"
          ∷ codes "committed 0.2.1"
          ∷ codes "end 15 2"
          ∷ [];
    }

-- late and early messages a late grant taken before install
abbrev pub late_and_early_messages_a_late_grant_taken_before_install : Row
late_and_early_messages_a_late_grant_taken_before_install =
    record {
      sizes = record { nodes = 3; pages = 3; size = 8; frames = 4 };
      input =
          codes "pcl 1 3 3 8 4"
          ∷ codes "begin 2"
          ∷ codes "read 2.1.1 1"
          ∷ codes "deliver 2 1"
          ∷ codes "crash 1"
          ∷ codes "view 101 0,0,2"
          ∷ codes "deliver 1 2"
          ∷ codes "install 2"
          ∷ codes "deliver 2 0"
          ∷ codes "install 0"
          ∷ codes "deliver 2 0"
          ∷ [];
      events =
          Begin 2
          ∷ Read (tx 2 1 1) 1
          ∷ Deliver 2 1
          ∷ Crash 1
          ∷ View (true ∷ false ∷ true ∷ []) (0 ∷ 0 ∷ 2 ∷ [])
          ∷ Deliver 1 2
          ∷ Install 2
          ∷ Deliver 2 0
          ∷ Install 0
          ∷ Deliver 2 0
          ∷ [];
      output =
          codes "> pcl 1 3 3 8 4"
          ∷ codes "> begin 2"
          ∷ codes "begun 2.1.1"
          ∷ codes "> read 2.1.1 1"
          ∷ codes "waits 2.1.1 1"
          ∷ codes "send 2 1 1 request 2.1.1 1 S -"
          ∷ codes "> deliver 2 1"
          ∷ codes "taken"
          ∷ codes "send 1 2 1 grant 2.1.1 1 S right 0 disk"
          ∷ codes "> crash 1"
          ∷ codes "crashed"
          ∷ codes "> view 101 0,0,2"
          ∷ codes "view 2"
          ∷ codes "> deliver 1 2"
          ∷ codes "taken"
          ∷ codes "value 2.1.1 1 0 0000000000000000"
          ∷ codes "> install 2"
          ∷ codes "installed 2"
          ∷ codes "send 2 0 2 report 1 waits - locks - rights 1:0"
          ∷ codes "> deliver 2 0"
          ∷ codes "held"
          ∷ codes "> install 0"
          ∷ codes "installed 2"
          ∷ codes "> deliver 2 0"
          ∷ codes "taken"
          ∷ codes "serving 1"
          ∷ codes "end 10 0"
          ∷ [];
    }

-- late and early messages b late grant dropped after install
abbrev pub late_and_early_messages_b_late_grant_dropped_after_install : Row
late_and_early_messages_b_late_grant_dropped_after_install =
    record {
      sizes = record { nodes = 3; pages = 3; size = 8; frames = 4 };
      input =
          codes "pcl 1 3 3 8 4"
          ∷ codes "begin 2"
          ∷ codes "read 2.1.1 1"
          ∷ codes "deliver 2 1"
          ∷ codes "crash 1"
          ∷ codes "view 101 0,0,2"
          ∷ codes "install 2"
          ∷ codes "deliver 1 2"
          ∷ codes "install 0"
          ∷ codes "deliver 2 0"
          ∷ codes "deliver 0 2"
          ∷ [];
      events =
          Begin 2
          ∷ Read (tx 2 1 1) 1
          ∷ Deliver 2 1
          ∷ Crash 1
          ∷ View (true ∷ false ∷ true ∷ []) (0 ∷ 0 ∷ 2 ∷ [])
          ∷ Install 2
          ∷ Deliver 1 2
          ∷ Install 0
          ∷ Deliver 2 0
          ∷ Deliver 0 2
          ∷ [];
      output =
          codes "> pcl 1 3 3 8 4"
          ∷ codes "> begin 2"
          ∷ codes "begun 2.1.1"
          ∷ codes "> read 2.1.1 1"
          ∷ codes "waits 2.1.1 1"
          ∷ codes "send 2 1 1 request 2.1.1 1 S -"
          ∷ codes "> deliver 2 1"
          ∷ codes "taken"
          ∷ codes "send 1 2 1 grant 2.1.1 1 S right 0 disk"
          ∷ codes "> crash 1"
          ∷ codes "crashed"
          ∷ codes "> view 101 0,0,2"
          ∷ codes "view 2"
          ∷ codes "> install 2"
          ∷ codes "installed 2"
          ∷ codes "send 2 0 2 report 1 waits 2.1.1:1:S:- locks - rights -"
          ∷ codes "> deliver 1 2"
          ∷ codes "dropped"
          ∷ codes "> install 0"
          ∷ codes "installed 2"
          ∷ codes "> deliver 2 0"
          ∷ codes "taken"
          ∷ codes "serving 1"
          ∷ codes "send 0 2 2 grant 2.1.1 1 S right 0 disk"
          ∷ codes "> deliver 0 2"
          ∷ codes "taken"
          ∷ codes "value 2.1.1 1 0 0000000000000000"
          ∷ codes "end 10 0"
          ∷ [];
    }

-- late and early messages c late revoke taken before install
abbrev pub late_and_early_messages_c_late_revoke_taken_before_install : Row
late_and_early_messages_c_late_revoke_taken_before_install =
    record {
      sizes = record { nodes = 3; pages = 3; size = 8; frames = 4 };
      input =
          codes "pcl 1 3 3 8 4"
          ∷ codes "begin 2"
          ∷ codes "read 2.1.1 1"
          ∷ codes "deliver 2 1"
          ∷ codes "deliver 1 2"
          ∷ codes "begin 1"
          ∷ codes "write 1.1.1 1 0 01"
          ∷ codes "crash 1"
          ∷ codes "view 101 0,0,2"
          ∷ codes "deliver 1 2"
          ∷ codes "install 2"
          ∷ [];
      events =
          Begin 2
          ∷ Read (tx 2 1 1) 1
          ∷ Deliver 2 1
          ∷ Deliver 1 2
          ∷ Begin 1
          ∷ Write (tx 1 1 1) 1 0 (1 ∷ [])
          ∷ Crash 1
          ∷ View (true ∷ false ∷ true ∷ []) (0 ∷ 0 ∷ 2 ∷ [])
          ∷ Deliver 1 2
          ∷ Install 2
          ∷ [];
      output =
          codes "> pcl 1 3 3 8 4"
          ∷ codes "> begin 2"
          ∷ codes "begun 2.1.1"
          ∷ codes "> read 2.1.1 1"
          ∷ codes "waits 2.1.1 1"
          ∷ codes "send 2 1 1 request 2.1.1 1 S -"
          ∷ codes "> deliver 2 1"
          ∷ codes "taken"
          ∷ codes "send 1 2 1 grant 2.1.1 1 S right 0 disk"
          ∷ codes "> deliver 1 2"
          ∷ codes "taken"
          ∷ codes "value 2.1.1 1 0 0000000000000000"
          ∷ codes "> begin 1"
          ∷ codes "begun 1.1.1"
          ∷ codes "> write 1.1.1 1 0 01"
          ∷ codes "waits 1.1.1 1"
          ∷ codes "send 1 2 1 revoke 1"
          ∷ codes "> crash 1"
          ∷ codes "crashed"
          ∷ codes "> view 101 0,0,2"
          ∷ codes "view 2"
          ∷ codes "> deliver 1 2"
          ∷ codes "taken"
          ∷ codes "send 2 1 1 return 1 2.1.1"
          ∷ codes "> install 2"
          ∷ codes "installed 2"
          ∷ codes "send 2 0 2 report 1 waits - locks 2.1.1:1:S rights -"
          ∷ codes "end 10 0"
          ∷ [];
    }
