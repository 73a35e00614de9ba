-- Locks that cover an access, and locks that don't.
use Rattle.std.proofs.Common.{◌≡◌, ◌||◌, Bool, true, false, Option, Some, None, is_some, refl}
use Rattle.pcl_base.specs.declared.tx.Mode.{Mode}
use Rattle.pcl_base.specs.declared.tx.Mode.TheVariants.{Shared, Exclusive}
use Rattle.pcl_base.specs.declared.lock.Held.{Held}
use Rattle.node_rules.specs.Words.{covers, is_exclusive}
use Rattle.node_rules.specs.OpenTxs.{mode_held}
use Rattle.home_laws.specs.Homes.{is_exclusive_lock}

-- what a lock that covers an access is
pub covers_some : (o : Option Held) (m : Mode) → covers (mode_held o) m ≡ true → is_some o ≡ true
covers_some None m e = absurd (cc)
covers_some (Some h) m e = refl

pub covers_write : (o : Option Held) → covers (mode_held o) Exclusive ≡ true → is_exclusive_lock o ≡ true
covers_write None e = absurd (cc)
covers_write (Some h) e = by h.mode e
  where
    by : (m : Mode) → covers (Some m) Exclusive ≡ true → is_exclusive m ≡ true
    by Shared e = absurd (cc)
    by Exclusive e = refl

-- a lock that doesn't cover an access is no exclusive one, and there is none for a read
pub uncovered_exclusive : (o : Option Held) (m : Mode) → covers (mode_held o) m ≡ false → is_exclusive_lock o ≡ false
uncovered_exclusive None m e = refl
uncovered_exclusive (Some h) m e = by h.mode e
  where
    by : (k : Mode) → covers (Some k) m ≡ false → is_exclusive k ≡ false
    by Shared e = refl
    by Exclusive e = absurd (cc)

pub uncovered_read : (o : Option Held) → covers (mode_held o) Shared ≡ false → o ≡ None
uncovered_read None e = refl
uncovered_read (Some h) e = absurd (by h.mode e)
  where
    by : (k : Mode) → covers (Some k) Shared ≡ false → ⊥
    by Shared e = cc
    by Exclusive e = cc

pub or_false : (d : Bool) → (d || false) ≡ d
or_false true = refl
or_false false = refl
