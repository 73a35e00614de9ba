-- Settling an entry reads and changes no other one.
use Rattle.std.proofs.Common.{◌≡◌, ℕ, ◌==◌, ◌||◌, Bool, true, false, List, [], ◌∷◌, ◌++◌, refl, ap, sym, ◌∙◌}
use Rattle.std.specs.List.{AllByRecursion, list_any}
use Rattle.node_rules.specs.Words.{pick}
use Rattle.node_rules.specs.LockRule.{LockEntry, Settled, settle}
use Rattle.node_rules.specs.LockTable.{LockTable, PageEntry, entry_in, entry_at, entries_with, put_entry}
use Rattle.install_laws.specs.InstallPlans.{decided, plan_settling}
use Rattle.install_laws.specs.Laws.{AreApart, decided_alone, settled_alone, EntriesSettleAlone}
use Rattle.install_laws.proofs.Words.{equal, other, not_equal}

entry_put : (xs : List PageEntry) (p : ℕ) (e : LockEntry) (r : ℕ) → entry_in (entries_with xs p e) r ≡ pick (p == r) e (entry_in xs r)
unfolding entry_in entries_with
entry_put [] p e r = refl
entry_put (x ∷ xs) p e r = by (x.page == p) refl (entry_put xs p e r)
  where
    same : (b : Bool) → (p == r) ≡ b → x.page ≡ p → pick b e (entry_in xs r) ≡ pick b e (pick (x.page == r) x.entry (entry_in xs r))
    same true f g = refl
    same false f g = sym (ap (λ d. pick d x.entry (entry_in xs r)) (ap (λ n. n == r) g ∙ f))

    apart : (d b : Bool) → (x.page == r) ≡ d → (p == r) ≡ b → (x.page ≡ p → ⊥) → pick d x.entry (pick b e (entry_in xs r)) ≡ pick b e (pick d x.entry (entry_in xs r))
    apart true true f g h = absurd (h (equal x.page r f ∙ sym (equal p r g)))
    apart true false f g h = refl
    apart false b f g h = refl

    by : (b : Bool) → (x.page == p) ≡ b → entry_in (entries_with xs p e) r ≡ pick (p == r) e (entry_in xs r)
        → entry_in (pick b (record { page = p; entry = e } ∷ xs) (x ∷ entries_with xs p e)) r ≡ pick (p == r) e (entry_in (x ∷ xs) r)
    by true f rest = same (p == r) refl (equal x.page p f)
    by false f rest = ap (λ y. pick (x.page == r) x.entry y) rest ∙ apart (x.page == r) (p == r) refl refl (other x.page p f)

swapped : (m n : ℕ) → (m == n) ≡ false → (n == m) ≡ false
swapped m n e = not_equal n m (λ s. other m n e (sym s))

or_false : (b c : Bool) → b || c ≡ false → (b ≡ false) × (c ≡ false)
or_false true c e = absurd (cc)
or_false false c e = (refl, e)

-- a page that isn't in a list, and the pages of the list
all_other : (p : ℕ) (ps : List ℕ) → list_any (λ r. r == p) ps ≡ false → AllByRecursion (λ r. (p == r) ≡ false) ps
all_other p [] e = tt
all_other p (r ∷ rs) e = let both = or_false (r == p) (list_any (λ x. x == p) rs) e in (swapped r p both.0, all_other p rs both.1)

kept_entries : (p : ℕ) (e : LockEntry) (u t : LockTable) (ps : List ℕ) → AllByRecursion (λ r. (p == r) ≡ false) ps → AllByRecursion (λ r. entry_at u r ≡ entry_at t r) ps
    → AllByRecursion (λ r. entry_at (put_entry u p e) r ≡ entry_at t r) ps
kept_entries p e u t [] apart same = tt
kept_entries p e u t (r ∷ rs) apart same =
    (entry_put u.entries p e r ∙ ap (λ b. pick b e (entry_at u r)) apart.0 ∙ same.0, kept_entries p e u t rs apart.1 same.1)

alone_decisions : (me : ℕ) (ps : List ℕ) (u t : LockTable) → AreApart ps → AllByRecursion (λ r. entry_at u r ≡ entry_at t r) ps → (plan_settling me ps u).decisions ≡ decided_alone me t ps
unfolding plan_settling
alone_decisions me [] u t apart same = refl
alone_decisions me (p ∷ ps) u t apart same =
    let s : Settled = settle me (entry_at u p) in
    ap (λ ds. decided p s ++ ds) (alone_decisions me ps (put_entry u p s.entry) t apart.1 (kept_entries p s.entry u t ps (all_other p ps apart.0) same.1))
    ∙ ap (λ e. decided p (settle me e) ++ decided_alone me t ps) same.0

alone_entries : (me : ℕ) (ps : List ℕ) (t : LockTable) (r : ℕ) → AreApart ps → entry_at (plan_settling me ps t).table r ≡ settled_alone me t ps r
unfolding plan_settling
alone_entries me [] t r apart = refl
alone_entries me (p ∷ ps) t r apart =
    let s : Settled = settle me (entry_at t p) in
    alone_entries me ps (put_entry t p s.entry) r apart.1
    ∙ ap (λ e. pick (list_any (λ x. x == r) ps) (settle me e).entry e) (entry_put t.entries p s.entry r)
    ∙ by (p == r) refl (list_any (λ x. x == r) ps) refl
  where
    by : (b : Bool) → (p == r) ≡ b → (c : Bool) → list_any (λ x. x == r) ps ≡ c
        → pick c (settle me (pick b (settle me (entry_at t p)).entry (entry_at t r))).entry (pick b (settle me (entry_at t p)).entry (entry_at t r))
        ≡ pick (b || c) (settle me (entry_at t r)).entry (entry_at t r)
    by true e true f = let bad : true ≡ false = sym f ∙ ap (λ n. list_any (λ x. x == n) ps) (sym (equal p r e)) ∙ apart.0 in absurd (cc)
    by true e false f = ap (λ n. (settle me (entry_at t n)).entry) (equal p r e)
    by false e c f = refl

same_entries : (t : LockTable) (ps : List ℕ) → AllByRecursion (λ r. entry_at t r ≡ entry_at t r) ps
same_entries t [] = tt
same_entries t (p ∷ ps) = (refl, same_entries t ps)

pub entries_settle_alone_law : EntriesSettleAlone
entries_settle_alone_law me ps t apart = (alone_decisions me ps t t apart (same_entries t ps), λ p. alone_entries me ps t p apart)
