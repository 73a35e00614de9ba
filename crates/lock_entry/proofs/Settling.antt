-- Settling turn by turn.
use Rattle.std.proofs.Common.{◌≡◌, ℕ, suc, ◌+◌, ◌-◌, ◌<◌, ◌≤◌, true, false, List, [], ◌∷◌, ◌++◌, refl, ap, sym, ◌∙◌, length, append_assoc, arith}
use Rattle.pcl_base.specs.declared.lock.Decision.{Decision}
use Rattle.node_rules.specs.LockRule.{LockEntry, Turn, Rest, Next, Settled, turn, settle, settle_within, go_on}
use Rattle.lock_entry.specs.Turns.{decided, entry_after, goes_on}

-- what is settled, with the decisions before it
abbrev pub resumed : List Decision → Settled → Settled
resumed ds s = record { decisions = ds ++ s.decisions; entry = s.entry }

-- at the end of all turns nothing more is decided
pub settle_none : (owner : ℕ) (e : LockEntry) (ds : List Decision) → resumed ds (settle_within 0 owner e) ≡ record { decisions = ds; entry = e }
unfolding settle_within
settle_none owner e ds = ap (λ l. record { decisions = l; entry = e }) (append_nil ds)
  where
    append_nil : (ds : List Decision) → ds ++ [] ≡ ds
    append_nil [] = refl
    append_nil (d ∷ ds) = ap (λ l. d ∷ l) (append_nil ds)

resume_at : (t : Turn) (ds : List Decision) (settle_on : LockEntry → Settled) → goes_on t ≡ true
    → resumed ds (go_on t settle_on) ≡ resumed (ds ++ decided t) (settle_on (entry_after t))
resume_at (Rest last e) ds settle_on goes = absurd (cc)
resume_at (Next d e) ds settle_on goes =
    ap (λ l. record { decisions = l; entry = (settle_on e).entry }) (sym (append_assoc ds (d ∷ []) (settle_on e).decisions))

stop_at : (t : Turn) (ds : List Decision) (settle_on : LockEntry → Settled) → goes_on t ≡ false
    → resumed ds (go_on t settle_on) ≡ record { decisions = ds ++ decided t; entry = entry_after t }
stop_at (Rest last e) ds settle_on goes = refl
stop_at (Next d e) ds settle_on goes = absurd (cc)

-- where a turn goes on, what is settled is its decision and what is settled after it
pub settle_on : (n owner : ℕ) (e : LockEntry) (ds : List Decision) → goes_on (turn owner e) ≡ true
    → resumed ds (settle_within (suc n) owner e) ≡ resumed (ds ++ decided (turn owner e)) (settle_within n owner (entry_after (turn owner e)))
unfolding settle_within
settle_on n owner e ds goes = resume_at (turn owner e) ds (settle_within n owner) goes

-- where a turn doesn't go on, what is settled is what it decides and leaves
pub settle_end : (n owner : ℕ) (e : LockEntry) (ds : List Decision) → goes_on (turn owner e) ≡ false
    → resumed ds (settle_within (suc n) owner e) ≡ record { decisions = ds ++ decided (turn owner e); entry = entry_after (turn owner e) }
unfolding settle_within
settle_end n owner e ds goes = stop_at (turn owner e) ds (settle_within n owner) goes

-- a turn after which settling goes on
pub turn_first : (most taken owner : ℕ) (e later : LockEntry) (ds more : List Decision) (all : Settled) → taken < most
    → goes_on (turn owner e) ≡ true → later ≡ entry_after (turn owner e) → more ≡ ds ++ decided (turn owner e)
    → resumed ds (settle_within (most - taken) owner e) ≡ all
    → resumed more (settle_within (most - (taken + 1)) owner later) ≡ all
turn_first most taken owner e later ds more all within goes entry decides rest =
    let n = most - (taken + 1) in
    let left : suc n ≡ most - taken = omega arith in
    (λ i. resumed (decides i) (settle_within n owner (entry i)))
    ∙ (sym (settle_on n owner e ds goes) ∙ (ap (λ m. resumed ds (settle_within m owner e)) left ∙ rest))

-- a turn after which settling ends
pub turn_last : (most taken owner : ℕ) (e later : LockEntry) (ds more : List Decision) (all : Settled) → taken < most
    → goes_on (turn owner e) ≡ false → later ≡ entry_after (turn owner e) → more ≡ ds ++ decided (turn owner e)
    → resumed ds (settle_within (most - taken) owner e) ≡ all
    → record { decisions = more; entry = later } ≡ all
turn_last most taken owner e later ds more all within goes entry decides rest =
    let n = most - (taken + 1) in
    let left : suc n ≡ most - taken = omega arith in
    let both : record { decisions = more; entry = later } ≡ record { decisions = ds ++ decided (turn owner e); entry = entry_after (turn owner e) } = (λ i. record { decisions = decides i; entry = entry i }) in
    both ∙ (sym (settle_end n owner e ds goes) ∙ (ap (λ m. resumed ds (settle_within m owner e)) left ∙ rest))

-- no turn is left
pub turns_over : (most taken owner : ℕ) (e : LockEntry) (ds : List Decision) (all : Settled) → most ≤ taken
    → resumed ds (settle_within (most - taken) owner e) ≡ all → record { decisions = ds; entry = e } ≡ all
turns_over most taken owner e ds all over rest =
    let left : 0 ≡ most - taken = omega arith in
    sym (settle_none owner e ds) ∙ (ap (λ m. resumed ds (settle_within m owner e)) left ∙ rest)

-- what the turns leave and decide is what settling does
pub settled_entry : (most owner : ℕ) (e later : LockEntry) (ds more : List Decision) → most ≡ length e.waiting
    → record { decisions = more; entry = later } ≡ resumed ds (settle_within most owner e) → later ≡ (settle owner e).entry
unfolding settle
settled_entry most owner e later ds more all same = ap (λ s. s.entry) same ∙ ap (λ m. (settle_within m owner e).entry) all

pub settled_decisions : (most owner : ℕ) (e later : LockEntry) (ds more : List Decision) → most ≡ length e.waiting
    → record { decisions = more; entry = later } ≡ resumed ds (settle_within most owner e) → more ≡ ds ++ (settle owner e).decisions
unfolding settle
settled_decisions most owner e later ds more all same =
    ap (λ s. s.decisions) same ∙ ap (λ m. ds ++ (settle_within m owner e).decisions) all
