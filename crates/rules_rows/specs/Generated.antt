-- Generated schedules and long ones: their lines by a rule, and what their runs are.
use Rattle.std.specs.Prelude.{◌≡◌, ℕ, List, [], ◌∷◌, ◌++◌, replicate, take, drop, codes, None}
use Rattle.std.specs.List.{flat_map}
use Rattle.std.specs.Fmt.{decimal}
use Rattle.pcl_base.specs.Limits.{Sizes}
use Rattle.pcl_base.specs.declared.event.Event.TheVariants.{Begin}
use Rattle.run_rules.specs.Views.{count_from}
use Rattle.text_rules.specs.Generator.{made_events}
use Rattle.text_rules.specs.Totals.{Totals, totals_of}
use Rattle.cluster_rules.specs.Run.{last, run}
use Rattle.cluster_rules.specs.Safe.{first_unsafe}
use Rattle.rules_rows.specs.Schedules.{Row}

-- header of one node
abbrev pub header_of_one_node : Row
header_of_one_node =
    record {
      sizes = record { nodes = 1; pages = 4; size = 8; frames = 4 };
      input = codes "pcl 1 1 4 8 4" ∷ [];
      events = [];
      output = codes "> pcl 1 1 4 8 4" ∷ codes "end 0 0" ∷ [];
    }

-- the reply to the n-th `begin` of one node
abbrev pub begun_lines : ℕ → List (List ℕ)
begun_lines n = codes "> begin 0" ∷ (codes "begun 0.1." ++ decimal n) ∷ []

-- too many open: 1,024 transactions are open, and one more is refused
abbrev pub too_many_open : Row
too_many_open =
    record {
      sizes = record { nodes = 1; pages = 1; size = 8; frames = 2 };
      input = codes "pcl 1 1 1 8 2" ∷ replicate 1025 (codes "begin 0");
      events = replicate 1025 (Begin 0);
      output =
          (codes "> pcl 1 1 1 8 2" ∷ flat_map begun_lines (count_from 1 1024))
          ++ codes "> begin 0"
          ∷ codes "refused 18 TooMany"
          ∷ codes "end 1025 0"
          ∷ [];
    }

-- the clusters of a run from the a-th on, n of them, are safe
abbrev pub StaysSafeIn : Row → ℕ → ℕ → Type 0
StaysSafeIn r a n = first_unsafe 0 (take n (drop a (run r.sizes r.events))) ≡ None

-- generated schedule: its lines, and the counts of its run
abbrev pub two_nodes : Sizes
two_nodes = record { nodes = 2; pages = 4; size = 8; frames = 4 }

abbrev pub totals_of_generated : ℕ → ℕ → Totals
totals_of_generated seed lines = totals_of (last two_nodes (made_events two_nodes seed lines)).trace
