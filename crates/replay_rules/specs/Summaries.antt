-- Worked inputs, and the totals of their traces.
use Rattle.std.specs.Prelude.{[], ◌∷◌, codes}
use Rattle.replay_rules.specs.Inputs.{Row, text}

-- summary four lines
abbrev pub summary_four_lines : Row
summary_four_lines =
    record {
      input =
          text
          (codes "pcl 1 2 4 8 4"
          ∷ codes "begin 1"
          ∷ codes "begin 1"
          ∷ codes "read 1.1.1 1"
          ∷ codes "write 1.1.2 3 0 5f"
          ∷ []);
      output =
          text
          (codes "events 4"
          ∷ codes "begun 2"
          ∷ codes "values 1"
          ∷ codes "done 1"
          ∷ codes "waits 0"
          ∷ codes "committed 0"
          ∷ codes "aborted 0"
          ∷ codes "held 0"
          ∷ codes "dropped 0"
          ∷ codes "refused 0"
          ∷ codes "halted 0"
          ∷ codes "requests 0"
          ∷ codes "grants 0"
          ∷ codes "releases 0"
          ∷ codes "revokes 0"
          ∷ codes "returns 0"
          ∷ codes "reports 0"
          ∷ codes "images 0"
          ∷ []);
      status = 0;
    }

-- totals of header alone
abbrev pub totals_of_header_alone : Row
totals_of_header_alone =
    record {
      input =
          text
          (codes "pcl 1 2 4 8 4"
          ∷ []);
      output =
          text
          (codes "events 0"
          ∷ codes "begun 0"
          ∷ codes "values 0"
          ∷ codes "done 0"
          ∷ codes "waits 0"
          ∷ codes "committed 0"
          ∷ codes "aborted 0"
          ∷ codes "held 0"
          ∷ codes "dropped 0"
          ∷ codes "refused 0"
          ∷ codes "halted 0"
          ∷ codes "requests 0"
          ∷ codes "grants 0"
          ∷ codes "releases 0"
          ∷ codes "revokes 0"
          ∷ codes "returns 0"
          ∷ codes "reports 0"
          ∷ codes "images 0"
          ∷ []);
      status = 0;
    }

-- totals of image goes with release
abbrev pub totals_of_image_goes_with_release : Row
totals_of_image_goes_with_release =
    record {
      input =
          text
          (codes "pcl 1 2 4 8 4"
          ∷ codes "begin 0"
          ∷ codes "write 0.1.1 1 0 07"
          ∷ codes "deliver 0 1"
          ∷ codes "deliver 1 0"
          ∷ codes "commit 0.1.1"
          ∷ codes "begin 1"
          ∷ codes "read 1.1.1 1"
          ∷ codes "deliver 0 1"
          ∷ codes "commit 1.1.1"
          ∷ []);
      output =
          text
          (codes "events 9"
          ∷ codes "begun 2"
          ∷ codes "values 1"
          ∷ codes "done 1"
          ∷ codes "waits 2"
          ∷ codes "committed 2"
          ∷ codes "aborted 0"
          ∷ codes "held 0"
          ∷ codes "dropped 0"
          ∷ codes "refused 0"
          ∷ codes "halted 0"
          ∷ codes "requests 1"
          ∷ codes "grants 1"
          ∷ codes "releases 1"
          ∷ codes "revokes 0"
          ∷ codes "returns 0"
          ∷ codes "reports 0"
          ∷ codes "images 1"
          ∷ []);
      status = 0;
    }

-- totals of refusals
abbrev pub totals_of_refusals : Row
totals_of_refusals =
    record {
      input =
          text
          (codes "pcl 1 2 2 8 2"
          ∷ codes "begin 2"
          ∷ codes "read 0.1.1 0"
          ∷ codes "deliver 0 1"
          ∷ codes "begin 0"
          ∷ codes "read 0.1.1 2"
          ∷ codes "read 0.1.1 1"
          ∷ codes "commit 0.1.1"
          ∷ codes "flush 0 1"
          ∷ codes "install 0"
          ∷ codes "view 10 0,0"
          ∷ codes "view 11 0,0"
          ∷ codes "view 1 0"
          ∷ codes "reopen"
          ∷ codes "crash 1"
          ∷ codes "crash 1"
          ∷ codes "abort 0.1.1"
          ∷ []);
      output =
          text
          (codes "events 16"
          ∷ codes "begun 1"
          ∷ codes "values 0"
          ∷ codes "done 0"
          ∷ codes "waits 1"
          ∷ codes "committed 0"
          ∷ codes "aborted 1"
          ∷ codes "held 0"
          ∷ codes "dropped 0"
          ∷ codes "refused 11"
          ∷ codes "halted 0"
          ∷ codes "requests 1"
          ∷ codes "grants 0"
          ∷ codes "releases 1"
          ∷ codes "revokes 0"
          ∷ codes "returns 0"
          ∷ codes "reports 0"
          ∷ codes "images 0"
          ∷ []);
      status = 0;
    }

-- totals of stop in force j36
abbrev pub totals_of_stop_in_force_j36 : Row
totals_of_stop_in_force_j36 =
    record {
      input =
          text
          (codes "pcl 1 1 1 8 2"
          ∷ codes "begin 0"
          ∷ codes "write 0.1.1 0 0 01"
          ∷ codes "arm 0 1 36"
          ∷ codes "commit 0.1.1"
          ∷ codes "reopen"
          ∷ codes "install 0"
          ∷ codes "begin 0"
          ∷ codes "read 0.2.1 0"
          ∷ codes "commit 0.2.1"
          ∷ []);
      output =
          text
          (codes "events 9"
          ∷ codes "begun 2"
          ∷ codes "values 1"
          ∷ codes "done 1"
          ∷ codes "waits 0"
          ∷ codes "committed 2"
          ∷ codes "aborted 0"
          ∷ codes "held 0"
          ∷ codes "dropped 0"
          ∷ codes "refused 0"
          ∷ codes "halted 1"
          ∷ codes "requests 0"
          ∷ codes "grants 0"
          ∷ codes "releases 0"
          ∷ codes "revokes 0"
          ∷ codes "returns 0"
          ∷ codes "reports 0"
          ∷ codes "images 0"
          ∷ []);
      status = 0;
    }

-- totals of all nodes down
abbrev pub totals_of_all_nodes_down : Row
totals_of_all_nodes_down =
    record {
      input =
          text
          (codes "pcl 1 2 2 8 2"
          ∷ codes "begin 0"
          ∷ codes "write 0.1.1 0 0 0a"
          ∷ codes "commit 0.1.1"
          ∷ codes "crash 0"
          ∷ codes "crash 1"
          ∷ codes "reopen"
          ∷ codes "begin 0"
          ∷ codes "install 1"
          ∷ codes "deliver 1 0"
          ∷ codes "install 0"
          ∷ codes "deliver 1 0"
          ∷ codes "deliver 0 1"
          ∷ codes "begin 0"
          ∷ codes "read 0.2.1 0"
          ∷ codes "commit 0.2.1"
          ∷ []);
      output =
          text
          (codes "events 15"
          ∷ codes "begun 2"
          ∷ codes "values 1"
          ∷ codes "done 1"
          ∷ codes "waits 0"
          ∷ codes "committed 2"
          ∷ codes "aborted 0"
          ∷ codes "held 0"
          ∷ codes "dropped 0"
          ∷ codes "refused 2"
          ∷ codes "halted 0"
          ∷ codes "requests 0"
          ∷ codes "grants 0"
          ∷ codes "releases 0"
          ∷ codes "revokes 0"
          ∷ codes "returns 0"
          ∷ codes "reports 2"
          ∷ codes "images 0"
          ∷ []);
      status = 0;
    }

-- totals of bad line byte
abbrev pub totals_of_bad_line_byte : Row
totals_of_bad_line_byte =
    record {
      input =
          text
          (codes "pcl 1 1 1 8 2"
          ∷ codes "begin 0"
          ∷ codes "read 0.1.1 65536"
          ∷ []);
      output =
          text
          (codes "bad 3 16 byte"
          ∷ []);
      status = 3;
    }

-- totals of bad size in header
abbrev pub totals_of_bad_size_in_header : Row
totals_of_bad_size_in_header =
    record {
      input =
          text
          (codes "pcl 1 1 1 7 2"
          ∷ []);
      output =
          text
          (codes "bad 1 0 BadSize"
          ∷ []);
      status = 3;
    }
