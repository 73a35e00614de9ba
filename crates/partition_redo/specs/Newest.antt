-- The greatest version of a page among the answers of walks. These serve only contracts of
-- functions inside this crate.
use Rattle.std.specs.Prelude.{ℕ, ◌==◌, ◌&&◌, nat_lt, List, Option}
use Rattle.std.specs.Option.{option_map}
use Rattle.std.specs.List.{fold}
use Rattle.pcl_base.specs.Limits.{Sizes}
use Rattle.pcl_base.specs.declared.log.Seen.{Seen}
use Rattle.run_rules.specs.Words.{pick}
use Rattle.run_rules.specs.Disk.{Disk, log_at}
use Rattle.redo_log.specs.Placed.{Placed, seen_of, placed_of}

-- the greatest version of page p, where that is listed, after one more answer
abbrev pub seen_version : ℕ → Seen → Option ℕ → Option ℕ
seen_version p x o = option_map (λ v. pick (x.page == p && nat_lt v x.version) x.version v) o

-- after the answers of a walk
abbrev pub seen_all : ℕ → List Placed → Option ℕ → Option ℕ
seen_all p xs o = fold (λ v x. seen_version p (seen_of x) v) o xs

-- after the walks over some logs
abbrev pub seen_logs : Sizes → Disk → ℕ → List ℕ → Option ℕ → Option ℕ
seen_logs c d p ns o = fold (λ v n. seen_all p (placed_of c (log_at d n)) v) o ns
