-- Lists of pages that are worked off one after the other, each of them once.
use Rattle.std.proofs.Common.{◌≡◌, ◌⊎◌, inl, inr, refl, sym, ap, subst, ◌∙◌, ℕ, zero, suc, ◌+◌, ◌<◌, ◌≤◌, ◌==◌, ◌||◌, nat_lt, Bool, true, false, List, [], ◌∷◌, Option, Some, None, arith}
use Rattle.std.specs.Prelude.{⊤}
use Rattle.std.specs.List.{AllByRecursion, list_any}
use Rattle.std.proofs.lemmas.Bool.Decides.{nat_tests}
use Rattle.pcl_base.specs.Limits.{Sizes}
use Rattle.pcl_base.specs.declared.lock.Held.{Held}
use Rattle.pcl_base.specs.declared.lock.Pending.{Pending}
use Rattle.node_rules.specs.Words.{pick}
use Rattle.node_rules.specs.LockTable.{pages_from, pages_of}
use Rattle.node_rules.specs.OpenTxs.{lock_on, waits_on, end_pages}
use Rattle.home_laws.specs.Homes.{AreOnce}
use Rattle.home_laws.proofs.Tests.{number_same, number_equal}

-- pages one after the other
abbrev pub has_page : List ℕ → ℕ → Bool
has_page ps q = list_any (λ p. p == q) ps

-- each is there once
abbrev pub ArePages : List ℕ → Type 0
ArePages [] = ⊤
ArePages (p ∷ ps) = (has_page ps p ≡ false) × ArePages ps

-- of what was granted, pages that are still to come are none
abbrev pub Before : (ℕ → Type 0) → List ℕ → ℕ → Type 0
Before E ps q = E q × (has_page ps q ≡ false)

pub none_here : (E : ℕ → Type 0) (p : ℕ) (ps : List ℕ) → Before E (p ∷ ps) p → ⊥
none_here E p ps d = by (p == p) (number_same p) d.1
  where
    by : (y : Bool) → y ≡ true → (y || has_page ps p) ≡ false → ⊥
    by true e g = absurd (cc)
    by false e g = absurd (cc)

pub next_page : (E : ℕ → Type 0) (p : ℕ) (ps : List ℕ) → E p → has_page ps p ≡ false → (q : ℕ) → Before E (p ∷ ps) q ⊎ (q ≡ p) → Before E ps q
next_page E p ps here once q (inl d) = (d.0, by (p == q) d.1)
  where
    by : (y : Bool) → (y || has_page ps q) ≡ false → has_page ps q ≡ false
    by true e = absurd (cc)
    by false e = e
next_page E p ps here once q (inr e) = (subst E (sym e) here, ap (has_page ps) e ∙ once)

-- ---- the pages of a partition rise

not_below : (p q : ℕ) → q < p → (p == q) ≡ false
not_below p q low = grind (arith, nat_tests, low)

above_all : (n step p end q : ℕ) → q < p → has_page (pages_from n step p end) q ≡ false
unfolding pages_from
above_all zero step p end q low = refl
above_all (suc n) step p end q low = by (nat_lt p end) (above_all n step (p + step) end q (omega (arith, low)))
  where
    by : (b : Bool) → has_page (pages_from n step (p + step) end) q ≡ false → has_page (pick b (p ∷ pages_from n step (p + step) end) []) q ≡ false
    by true rest = ap (λ y. y || has_page (pages_from n step (p + step) end) q) (not_below p q low) ∙ rest
    by false rest = refl

rising_once : (n step p end : ℕ) → 1 ≤ step → ArePages (pages_from n step p end)
unfolding pages_from
rising_once zero step p end some = tt
rising_once (suc n) step p end some = by (nat_lt p end) (rising_once n step (p + step) end some)
  where
    by : (b : Bool) → ArePages (pages_from n step (p + step) end) → ArePages (pick b (p ∷ pages_from n step (p + step) end) [])
    by true rest = (above_all n step (p + step) end p (omega (arith, some)), rest)
    by false rest = tt

pub partition_once : (c : Sizes) (q : ℕ) → 1 ≤ c.nodes → ArePages (pages_of c q)
partition_once c q some = rising_once c.pages c.nodes q c.pages some

-- a page isn't among those that have something that it hasn't
pub absent_by : (P : ℕ → Type 0) (ps : List ℕ) (q : ℕ) → AllByRecursion P ps → (P q → ⊥) → has_page ps q ≡ false
absent_by P [] q all none = refl
absent_by P (p ∷ ps) q all none = by (p == q) refl (absent_by P ps q all.1 none)
  where
    by : (b : Bool) → (p == q) ≡ b → has_page ps q ≡ false → (b || has_page ps q) ≡ false
    by true e rest = absurd (none (subst P (number_equal p q e) all.0))
    by false e rest = rest

-- ---- the pages at which an end is told

not_at : (hs : List Held) (w : Option Pending) (q : ℕ) → lock_on hs q ≡ None → waits_on w q ≡ false → has_page (end_pages hs w) q ≡ false
unfolding end_pages lock_on
not_at [] None q none waits = refl
not_at [] (Some w) q none waits = ap (λ y. y || false) waits
not_at (h ∷ hs) w q none waits =
    by (h.page == q) refl none (λ held. not_at hs (pick (waits_on w h.page) None w) q held (less (waits_on w h.page)))
  where
    less : (b : Bool) → waits_on (pick b None w) q ≡ false
    less true = refl
    less false = waits

    by : (b : Bool) → (h.page == q) ≡ b → pick b (Some h) (lock_on hs q) ≡ None → (lock_on hs q ≡ None → has_page (end_pages hs (pick (waits_on w h.page) None w)) q ≡ false)
        → (b || has_page (end_pages hs (pick (waits_on w h.page) None w)) q) ≡ false
    by true e held rest = let bad : Some h ≡ None = held in absurd (cc)
    by false e held rest = rest held

pub ends_once : (hs : List Held) (w : Option Pending) → AreOnce hs → ArePages (end_pages hs w)
unfolding end_pages
ends_once [] None once = tt
ends_once [] (Some w) once = (refl, tt)
ends_once (h ∷ hs) w once =
    (not_at hs (pick (waits_on w h.page) None w) h.page once.0 (by (waits_on w h.page) refl), ends_once hs (pick (waits_on w h.page) None w) once.1)
  where
    by : (b : Bool) → waits_on w h.page ≡ b → waits_on (pick b None w) h.page ≡ false
    by true e = refl
    by false e = e
