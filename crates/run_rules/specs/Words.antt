-- Words that the definitions share.
use Rattle.std.specs.Prelude.{ℕ, Bool, true, false, ◌==◌, ◌&&◌, List}
use Rattle.std.specs.Cmp.Lexicographic.{pointwise}
use Rattle.pcl_base.specs.declared.tx.TxId.{TxId}

-- the first value at true, the second at false
abbrev pub pick : {X : Type 0} → Bool → X → X → X
pick true x y = x
pick false x y = y

-- whether two names are those of one transaction
abbrev pub same_tx : TxId → TxId → Bool
same_tx t u = t.node == u.node && t.born == u.born && t.serial == u.serial

-- whether two lists hold the same bytes
abbrev pub same_bytes : List ℕ → List ℕ → Bool
same_bytes xs ys = pointwise ◌==◌ xs ys
