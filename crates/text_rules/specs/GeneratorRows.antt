-- Sizes and lines to compute generated schedules on.
use Rattle.std.specs.Prelude.{ℕ, ◌+◌, List, map, take, drop}
use Rattle.pcl_base.specs.Limits.{Sizes}
use Rattle.text_rules.specs.ScheduleLine.{line_of}
use Rattle.text_rules.specs.Generator.{made_events}

abbrev pub two_nodes : Sizes
two_nodes = record { nodes = 2; pages = 4; size = 8; frames = 4 }

abbrev pub three_nodes : Sizes
three_nodes = record { nodes = 3; pages = 5; size = 8; frames = 4 }

-- n lines behind the first `from` events
abbrev pub made_lines : Sizes → ℕ → ℕ → ℕ → List (List ℕ)
made_lines c seed from n = map line_of (take n (drop from (made_events c seed (from + n))))
