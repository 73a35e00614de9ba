-- The entries of a node's tables are in use.
use Rattle.std.proofs.Common.{◌≡◌, refl, ap, sym, ◌∙◌, ℕ, Bool, true, false, [], Option, Some, None, Bor}
use Rattle.std.specs.Prelude.{IfSome}
use Rattle.std.specs.Option.{option_copied}
use Rattle.node_rules.specs.LockRule.{LockEntry}
use Rattle.lock_table.specs.Tables.{TableView, found, is_idle}
use Rattle.node_parts.specs.Tables.{TablesView, AreTidyBut, found_in, is_unused, place_at}

pub used : (v : TablesView) (q : ℕ) (o : Option (Bor TableView)) → AreTidyBut [] v → option_copied o ≡ place_at v.places q → IfSome o (λ t. (p : ℕ) → IfSome (found t.now p) (λ e. is_idle e ≡ false))
used v q None tidy is = tt
used v q (Some t) tidy is = λ p. entry p (found t.now p) refl
  where
    flag : (p : ℕ) (e : LockEntry) → found t.now p ≡ Some e → (b : Bool) → is_idle e ≡ b → b ≡ false
    flag p e made false idle = refl
    flag p e made true idle =
        let bad : false ≡ true = (tidy q p (ap (λ o. is_unused (found_in o p)) (sym is) ∙ ap is_unused made ∙ idle)).0 in
        absurd (cc)

    entry : (p : ℕ) (x : Option LockEntry) → found t.now p ≡ x → IfSome x (λ e. is_idle e ≡ false)
    entry p None made = tt
    entry p (Some e) made = flag p e made (is_idle e) refl
