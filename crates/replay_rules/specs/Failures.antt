-- Worked inputs: failures.
use Rattle.std.specs.Prelude.{[], ◌∷◌, codes}
use Rattle.replay_rules.specs.Inputs.{Row, text}

-- all nodes down
abbrev pub all_nodes_down : Row
all_nodes_down =
    record {
      input =
          text
          (codes "pcl 1 2 2 8 2"
          ∷ codes "begin 0"
          ∷ codes "write 0.1.1 0 0 0a"
          ∷ codes "commit 0.1.1"
          ∷ codes "crash 0"
          ∷ codes "crash 1"
          ∷ codes "reopen"
          ∷ codes "begin 0"
          ∷ codes "install 1"
          ∷ codes "deliver 1 0"
          ∷ codes "install 0"
          ∷ codes "deliver 1 0"
          ∷ codes "deliver 0 1"
          ∷ codes "begin 0"
          ∷ codes "read 0.2.1 0"
          ∷ codes "commit 0.2.1"
          ∷ []);
      output =
          text
          (codes "> pcl 1 2 2 8 2"
          ∷ codes "> begin 0"
          ∷ codes "begun 0.1.1"
          ∷ codes "> write 0.1.1 0 0 0a"
          ∷ codes "done 0.1.1 0 0"
          ∷ codes "> commit 0.1.1"
          ∷ codes "committed 0.1.1"
          ∷ codes "> crash 0"
          ∷ codes "crashed"
          ∷ codes "> crash 1"
          ∷ codes "crashed"
          ∷ codes "> reopen"
          ∷ codes "reopened 2"
          ∷ codes "> begin 0"
          ∷ codes "refused 3 NotInView"
          ∷ codes "> install 1"
          ∷ codes "installed 2"
          ∷ codes "send 1 0 2 report 0 waits - locks - rights -"
          ∷ codes "> deliver 1 0"
          ∷ codes "refused 3 NotInView"
          ∷ codes "> install 0"
          ∷ codes "installed 2"
          ∷ codes "send 0 1 2 report 1 waits - locks - rights -"
          ∷ codes "> deliver 1 0"
          ∷ codes "taken"
          ∷ codes "serving 0"
          ∷ codes "> deliver 0 1"
          ∷ codes "taken"
          ∷ codes "serving 1"
          ∷ codes "> begin 0"
          ∷ codes "begun 0.2.1"
          ∷ codes "> read 0.2.1 0"
          ∷ codes "value 0.2.1 0 1 0a00000000000000"
          ∷ codes "> commit 0.2.1"
          ∷ codes "committed 0.2.1"
          ∷ codes "end 15 2"
          ∷ []);
      status = 0;
    }

-- node comes back
abbrev pub node_comes_back : Row
node_comes_back =
    record {
      input =
          text
          (codes "pcl 1 2 2 8 4"
          ∷ codes "crash 1"
          ∷ codes "view 10 0,0"
          ∷ codes "install 0"
          ∷ codes "view 11 0,1"
          ∷ codes "begin 1"
          ∷ codes "install 0"
          ∷ codes "install 1"
          ∷ codes "deliver 0 1"
          ∷ codes "begin 1"
          ∷ codes "write 1.3.1 1 0 01"
          ∷ codes "commit 1.3.1"
          ∷ codes "begin 0"
          ∷ codes "read 0.1.1 1"
          ∷ codes "deliver 0 1"
          ∷ codes "deliver 1 0"
          ∷ []);
      output =
          text
          (codes "> pcl 1 2 2 8 4"
          ∷ codes "> crash 1"
          ∷ codes "crashed"
          ∷ codes "> view 10 0,0"
          ∷ codes "view 2"
          ∷ codes "> install 0"
          ∷ codes "installed 2"
          ∷ codes "serving 1"
          ∷ codes "> view 11 0,1"
          ∷ codes "view 3"
          ∷ codes "> begin 1"
          ∷ codes "refused 3 NotInView"
          ∷ codes "> install 0"
          ∷ codes "installed 3"
          ∷ codes "send 0 1 3 report 1 waits - locks - rights -"
          ∷ codes "> install 1"
          ∷ codes "installed 3"
          ∷ codes "> deliver 0 1"
          ∷ codes "taken"
          ∷ codes "serving 1"
          ∷ codes "> begin 1"
          ∷ codes "begun 1.3.1"
          ∷ codes "> write 1.3.1 1 0 01"
          ∷ codes "done 1.3.1 1 0"
          ∷ codes "> commit 1.3.1"
          ∷ codes "committed 1.3.1"
          ∷ codes "> begin 0"
          ∷ codes "begun 0.1.1"
          ∷ codes "> read 0.1.1 1"
          ∷ codes "waits 0.1.1 1"
          ∷ codes "send 0 1 3 request 0.1.1 1 S -"
          ∷ codes "> deliver 0 1"
          ∷ codes "taken"
          ∷ codes "send 1 0 3 grant 0.1.1 1 S right 1 image"
          ∷ codes "> deliver 1 0"
          ∷ codes "taken"
          ∷ codes "value 0.1.1 1 1 0100000000000000"
          ∷ codes "end 15 1"
          ∷ []);
      status = 0;
    }

-- survivor commits after report
abbrev pub survivor_commits_after_report : Row
survivor_commits_after_report =
    record {
      input =
          text
          (codes "pcl 1 3 3 8 4"
          ∷ codes "begin 2"
          ∷ codes "write 2.1.1 1 0 05"
          ∷ codes "deliver 2 1"
          ∷ codes "deliver 1 2"
          ∷ codes "crash 1"
          ∷ codes "view 101 0,0,2"
          ∷ codes "install 0"
          ∷ codes "begin 0"
          ∷ codes "read 0.1.1 1"
          ∷ codes "install 2"
          ∷ codes "commit 2.1.1"
          ∷ codes "deliver 2 0"
          ∷ codes "deliver 2 0"
          ∷ codes "commit 0.1.1"
          ∷ []);
      output =
          text
          (codes "> pcl 1 3 3 8 4"
          ∷ codes "> begin 2"
          ∷ codes "begun 2.1.1"
          ∷ codes "> write 2.1.1 1 0 05"
          ∷ codes "waits 2.1.1 1"
          ∷ codes "send 2 1 1 request 2.1.1 1 X -"
          ∷ codes "> deliver 2 1"
          ∷ codes "taken"
          ∷ codes "send 1 2 1 grant 2.1.1 1 X lock 0 disk"
          ∷ codes "> deliver 1 2"
          ∷ codes "taken"
          ∷ codes "done 2.1.1 1 0"
          ∷ codes "> crash 1"
          ∷ codes "crashed"
          ∷ codes "> view 101 0,0,2"
          ∷ codes "view 2"
          ∷ codes "> install 0"
          ∷ codes "installed 2"
          ∷ codes "> begin 0"
          ∷ codes "begun 0.1.1"
          ∷ codes "> read 0.1.1 1"
          ∷ codes "waits 0.1.1 1"
          ∷ codes "> install 2"
          ∷ codes "installed 2"
          ∷ codes "send 2 0 2 report 1 waits - locks 2.1.1:1:X rights -"
          ∷ codes "> commit 2.1.1"
          ∷ codes "committed 2.1.1"
          ∷ codes "send 2 0 2 release 2.1.1 1 1 image"
          ∷ codes "> deliver 2 0"
          ∷ codes "taken"
          ∷ codes "serving 1"
          ∷ codes "> deliver 2 0"
          ∷ codes "taken"
          ∷ codes "value 0.1.1 1 1 0500000000000000"
          ∷ codes "> commit 0.1.1"
          ∷ codes "committed 0.1.1"
          ∷ codes "end 14 2"
          ∷ []);
      status = 0;
    }
