-- Worked inputs: stops, and planned moves.
use Rattle.std.specs.Prelude.{[], ◌∷◌, codes}
use Rattle.replay_rules.specs.Inputs.{Row, text}

-- stop in force j36
abbrev pub stop_in_force_j36 : Row
stop_in_force_j36 =
    record {
      input =
          text
          (codes "pcl 1 1 1 8 2"
          ∷ codes "begin 0"
          ∷ codes "write 0.1.1 0 0 01"
          ∷ codes "arm 0 1 36"
          ∷ codes "commit 0.1.1"
          ∷ codes "reopen"
          ∷ codes "install 0"
          ∷ codes "begin 0"
          ∷ codes "read 0.2.1 0"
          ∷ codes "commit 0.2.1"
          ∷ []);
      output =
          text
          (codes "> pcl 1 1 1 8 2"
          ∷ codes "> begin 0"
          ∷ codes "begun 0.1.1"
          ∷ codes "> write 0.1.1 0 0 01"
          ∷ codes "done 0.1.1 0 0"
          ∷ codes "> arm 0 1 36"
          ∷ codes "armed"
          ∷ codes "> commit 0.1.1"
          ∷ codes "halted force kept 0.1.1"
          ∷ codes "> reopen"
          ∷ codes "reopened 2"
          ∷ codes "> install 0"
          ∷ codes "installed 2"
          ∷ codes "serving 0"
          ∷ codes "> begin 0"
          ∷ codes "begun 0.2.1"
          ∷ codes "> read 0.2.1 0"
          ∷ codes "value 0.2.1 0 1 0100000000000000"
          ∷ codes "> commit 0.2.1"
          ∷ codes "committed 0.2.1"
          ∷ codes "end 9 2"
          ∷ []);
      status = 0;
    }

-- the record of a commit is kept whole by a stop at its force, and the entry names the transaction
abbrev pub kept_commit_is_named : Row
kept_commit_is_named =
    record {
      input =
          text
          (codes "pcl 1 3 3 11 4"
          ∷ codes "begin 2"
          ∷ codes "write 2.1.1 2 7 395db7"
          ∷ codes "arm 2 1 40"
          ∷ codes "commit 2.1.1"
          ∷ []);
      output =
          text
          (codes "> pcl 1 3 3 11 4"
          ∷ codes "> begin 2"
          ∷ codes "begun 2.1.1"
          ∷ codes "> write 2.1.1 2 7 395db7"
          ∷ codes "done 2.1.1 2 0"
          ∷ codes "> arm 2 1 40"
          ∷ codes "armed"
          ∷ codes "> commit 2.1.1"
          ∷ codes "halted force kept 2.1.1"
          ∷ codes "end 4 1"
          ∷ []);
      status = 0;
    }

-- planned move
abbrev pub planned_move : Row
planned_move =
    record {
      input =
          text
          (codes "pcl 1 2 4 8 4"
          ∷ codes "begin 1"
          ∷ codes "write 1.1.1 1 0 07"
          ∷ codes "commit 1.1.1"
          ∷ codes "begin 1"
          ∷ codes "write 1.1.2 3 0 08"
          ∷ codes "view 11 0,0"
          ∷ codes "install 0"
          ∷ codes "begin 0"
          ∷ codes "read 0.1.1 1"
          ∷ codes "install 1"
          ∷ codes "deliver 1 0"
          ∷ codes "commit 1.1.2"
          ∷ codes "deliver 1 0"
          ∷ codes "read 0.1.1 3"
          ∷ codes "commit 0.1.1"
          ∷ []);
      output =
          text
          (codes "> pcl 1 2 4 8 4"
          ∷ codes "> begin 1"
          ∷ codes "begun 1.1.1"
          ∷ codes "> write 1.1.1 1 0 07"
          ∷ codes "done 1.1.1 1 0"
          ∷ codes "> commit 1.1.1"
          ∷ codes "committed 1.1.1"
          ∷ codes "> begin 1"
          ∷ codes "begun 1.1.2"
          ∷ codes "> write 1.1.2 3 0 08"
          ∷ codes "done 1.1.2 3 0"
          ∷ codes "> view 11 0,0"
          ∷ codes "view 2"
          ∷ codes "> install 0"
          ∷ codes "installed 2"
          ∷ codes "> begin 0"
          ∷ codes "begun 0.1.1"
          ∷ codes "> read 0.1.1 1"
          ∷ codes "waits 0.1.1 1"
          ∷ codes "> install 1"
          ∷ codes "installed 2"
          ∷ codes "send 1 0 2 report 1 waits - locks 1.1.2:3:X rights -"
          ∷ codes "> deliver 1 0"
          ∷ codes "taken"
          ∷ codes "serving 1"
          ∷ codes "value 0.1.1 1 1 0700000000000000"
          ∷ codes "> commit 1.1.2"
          ∷ codes "committed 1.1.2"
          ∷ codes "send 1 0 2 release 1.1.2 3 1 image"
          ∷ codes "> deliver 1 0"
          ∷ codes "taken"
          ∷ codes "> read 0.1.1 3"
          ∷ codes "value 0.1.1 3 1 0800000000000000"
          ∷ codes "> commit 0.1.1"
          ∷ codes "committed 0.1.1"
          ∷ codes "end 15 3"
          ∷ []);
      status = 0;
    }
