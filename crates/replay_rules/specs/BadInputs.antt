-- Worked inputs with a bad line.
use Rattle.std.specs.Prelude.{[], ◌∷◌, ◌++◌, codes}
use Rattle.replay_rules.specs.Inputs.{Row, text}

-- empty input
abbrev pub empty_input : Row
empty_input =
    record {
      input = [];
      output =
          text
          (codes "bad 1 1 cut"
          ∷ []);
      status = 3;
    }

-- bad size in header
abbrev pub bad_size_in_header : Row
bad_size_in_header =
    record {
      input =
          text
          (codes "pcl 1 1 1 7 2"
          ∷ []);
      output =
          text
          (codes "bad 1 0 BadSize"
          ∷ []);
      status = 3;
    }

-- bad line byte
abbrev pub bad_line_byte : Row
bad_line_byte =
    record {
      input =
          text
          (codes "pcl 1 1 1 8 2"
          ∷ codes "begin 0"
          ∷ codes "read 0.1.1 65536"
          ∷ []);
      output =
          text
          (codes "> pcl 1 1 1 8 2"
          ∷ codes "> begin 0"
          ∷ codes "begun 0.1.1"
          ∷ codes "bad 3 16 byte"
          ∷ []);
      status = 3;
    }

-- bad line short
abbrev pub bad_line_short : Row
bad_line_short =
    record {
      input =
          text
          (codes "pcl 1 1 1 8 2"
          ∷ codes "begin 0"
          ∷ codes "write 0.1.1 0 0 abc"
          ∷ []);
      output =
          text
          (codes "> pcl 1 1 1 8 2"
          ∷ codes "> begin 0"
          ∷ codes "begun 0.1.1"
          ∷ codes "bad 3 20 short"
          ∷ []);
      status = 3;
    }

-- bad line cut
abbrev pub bad_line_cut : Row
bad_line_cut =
    record {
      input =
          text
          (codes "pcl 1 1 1 8 2"
          ∷ codes "begin 0"
          ∷ [])
          ++ codes "read 0.1.1";
      output =
          text
          (codes "> pcl 1 1 1 8 2"
          ∷ codes "> begin 0"
          ∷ codes "begun 0.1.1"
          ∷ codes "bad 3 11 cut"
          ∷ []);
      status = 3;
    }

-- header of no node
abbrev pub header_of_no_node : Row
header_of_no_node =
    record {
      input =
          text
          (codes "pcl 1 0 1 7 2"
          ∷ codes "begin 0"
          ∷ []);
      output =
          text
          (codes "bad 1 0 BadNodes"
          ∷ []);
      status = 3;
    }

-- header of another version
abbrev pub header_of_another_version : Row
header_of_another_version =
    record {
      input =
          text
          (codes "pcl 2 1 1 8 2"
          ∷ codes "begin 0"
          ∷ []);
      output =
          text
          (codes "bad 1 5 byte"
          ∷ []);
      status = 3;
    }

-- header is cut
abbrev pub header_is_cut : Row
header_is_cut =
    record {
      input =
          text
          ([])
          ++ codes "pcl 1 1 1 8 2";
      output =
          text
          (codes "bad 1 14 cut"
          ∷ []);
      status = 3;
    }

-- empty line
abbrev pub empty_line : Row
empty_line =
    record {
      input =
          text
          (codes "pcl 1 1 1 8 2"
          ∷ codes ""
          ∷ codes "begin 0"
          ∷ []);
      output =
          text
          (codes "> pcl 1 1 1 8 2"
          ∷ codes "bad 2 1 short"
          ∷ []);
      status = 3;
    }

-- second bad line is not told
abbrev pub second_bad_line_is_not_told : Row
second_bad_line_is_not_told =
    record {
      input =
          text
          (codes "pcl 1 1 1 8 2"
          ∷ codes "begin 0"
          ∷ codes "begin 16"
          ∷ codes "begin x"
          ∷ []);
      output =
          text
          (codes "> pcl 1 1 1 8 2"
          ∷ codes "> begin 0"
          ∷ codes "begun 0.1.1"
          ∷ codes "bad 3 8 byte"
          ∷ []);
      status = 3;
    }

-- whole line is cut
abbrev pub whole_line_is_cut : Row
whole_line_is_cut =
    record {
      input =
          text
          (codes "pcl 1 1 1 8 2"
          ∷ codes "begin 0"
          ∷ [])
          ++ codes "begin 0";
      output =
          text
          (codes "> pcl 1 1 1 8 2"
          ∷ codes "> begin 0"
          ∷ codes "begun 0.1.1"
          ∷ codes "bad 3 8 cut"
          ∷ []);
      status = 3;
    }
