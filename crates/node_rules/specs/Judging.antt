-- Judging: what becomes of a message at its receiver.
use Rattle.std.specs.Prelude.{ℕ, ◌||◌, not, nat_lt, Bool}
use Rattle.pcl_base.specs.declared.lock.Verdict.{Verdict}
use Rattle.pcl_base.specs.declared.lock.Verdict.TheVariants.{Taken, Held, Dropped}
use Rattle.run_rules.specs.Views.{View, is_live, since_of, born_of}
use Rattle.node_rules.specs.Words.{pick}

-- whether a message is of an earlier life of its sender or receiver, or of an earlier owner
abbrev pub is_past : View → ℕ → ℕ → ℕ → ℕ → Bool
is_past v me from epoch q =
    not (is_live v.live from)
    || (nat_lt epoch (born_of v from) || (nat_lt epoch (born_of v me) || nat_lt epoch (since_of v q)))

-- the verdict at view v on a message from a node, of an epoch, that speaks of partition q
unfoldable pub judge : View → ℕ → ℕ → ℕ → ℕ → Verdict
judge v me from epoch q =
    pick (nat_lt v.epoch epoch) Held (pick (is_past v me from epoch q) Dropped Taken)
