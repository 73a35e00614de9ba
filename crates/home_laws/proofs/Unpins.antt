-- The pins and the copies of slots when a transaction's pages are unpinned, and how often each page is.
use Rattle.std.proofs.Common.{◌≡◌, ℕ, ◌-◌, ◌≤◌, ◌==◌, ◌||◌, cond, Bool, true, false, List, [], ◌∷◌, length, Option, Some, None, is_some, refl, ap, sym, subst, ◌∙◌, arith}
use Rattle.std.proofs.lemmas.Bool.Decides.{nat_tests}
use Rattle.std.specs.List.{filter}
use Rattle.std.specs.Option.{option_map}
use Rattle.pcl_base.specs.Limits.{Sizes}
use Rattle.pcl_base.specs.declared.lock.Held.{Held}
use Rattle.pcl_base.specs.declared.lock.Pending.{Pending}
use Rattle.node_rules.specs.Words.{pick}
use Rattle.node_rules.specs.OpenTxs.{lock_on, waits_on, end_pages}
use Rattle.node_rules.specs.BufferRule.{Pool, Slot, slot_in, slot_at, copy_of_slot, copy_at, is_kept, change_slot, unpin}
use Rattle.node_rules.specs.EndRule.{unpin_all}
use Rattle.home_laws.specs.Homes.{pins_of, AreOnce}
use Rattle.home_laws.proofs.Words.{equal, swap_test}
use Rattle.home_laws.proofs.Serials.{one_if}
use Rattle.home_laws.proofs.Slots.{is_of, tested, length_if, fewer, slot_left, pins_tested, copy_tested, slot_changed, slot_unchanged, count_changed}
use Rattle.home_laws.proofs.Pools.{PoolIs, unpinned_is}

-- a slot with one pin less
abbrev pub lessened : Slot → Slot
lessened s = record s { pins = s.pins - 1 }

lessened_pins : (o : Option Slot) → pins_of (option_map lessened o) ≡ pins_of o - 1
lessened_pins None = omega arith
lessened_pins (Some s) = refl

lessened_copy : (o : Option Slot) → copy_of_slot (option_map lessened o) ≡ copy_of_slot o
lessened_copy None = refl
lessened_copy (Some s) = refl

-- the slot of a page once one has a pin less
slot_unpinned : (b : Pool) (p q : ℕ) → length (filter (is_of q) b.slots) ≤ 1 → slot_at (unpin b p) q ≡ tested is_kept (slot_in (change_slot lessened b.slots p) q)
unfolding unpin
slot_unpinned b p q once =
    let same = count_changed lessened (λ s. refl) b.slots p q in
    slot_left is_kept (change_slot lessened b.slots p) q (omega (arith, same, once))

-- a page has one slot at most still
pub once_unpinned : (b : Pool) (p q : ℕ) → length (filter (is_of q) b.slots) ≤ 1 → length (filter (is_of q) (unpin b p).slots) ≤ 1
unfolding unpin
once_unpinned b p q once =
    let same = count_changed lessened (λ s. refl) b.slots p q in
    let less = fewer (is_of q) is_kept (change_slot lessened b.slots p) in
    omega (arith, same, less, once)

-- one pin less, and the copies as before
pub pins_once : (b : Pool) (p q : ℕ) → length (filter (is_of q) b.slots) ≤ 1 → pins_of (slot_at (unpin b p) q) ≡ pins_of (slot_at b q) - one_if (p == q)
pins_once b p q once =
    ap pins_of (slot_unpinned b p q once) ∙ pins_tested (slot_in (change_slot lessened b.slots p) q) ∙ by_page (p == q) refl
  where
    by_page : (t : Bool) → (p == q) ≡ t → pins_of (slot_in (change_slot lessened b.slots p) q) ≡ pins_of (slot_at b q) - one_if t
    by_page true e =
        let same = equal p q e in
        ap (λ n. pins_of (slot_in (change_slot lessened b.slots n) q)) same
        ∙ ap pins_of (slot_changed lessened (λ s. refl) b.slots q) ∙ lessened_pins (slot_at b q)
    by_page false e =
        let none : pins_of (slot_at b q) ≡ pins_of (slot_at b q) - 0 = omega arith in
        ap pins_of (slot_unchanged lessened (λ s. refl) b.slots p q (swap_test q p ∙ e)) ∙ none

pub pins_unpinned : (c : Sizes) (b : Pool) (p q : ℕ) → PoolIs c b → pins_of (slot_at (unpin b p) q) ≡ pins_of (slot_at b q) - one_if (p == q)
pins_unpinned c b p q is = pins_once b p q (is.buffer.one_slot q)

pub copy_unpinned : (c : Sizes) (b : Pool) (p q : ℕ) → PoolIs c b → copy_at (unpin b p) q ≡ copy_at b q
copy_unpinned c b p q is =
    ap copy_of_slot (slot_unpinned b p q (is.buffer.one_slot q)) ∙ copy_tested (slot_in (change_slot lessened b.slots p) q) ∙ by_page (p == q) refl
  where
    by_page : (t : Bool) → (p == q) ≡ t → copy_of_slot (slot_in (change_slot lessened b.slots p) q) ≡ copy_at b q
    by_page true e =
        let same = equal p q e in
        ap (λ n. copy_of_slot (slot_in (change_slot lessened b.slots n) q)) same
        ∙ ap copy_of_slot (slot_changed lessened (λ s. refl) b.slots q) ∙ lessened_copy (slot_at b q)
    by_page false e = ap copy_of_slot (slot_unchanged lessened (λ s. refl) b.slots p q (swap_test q p ∙ e))

-- how often a page is in a list
abbrev pub times : ℕ → List ℕ → ℕ
times p ps = length (filter (λ q. q == p) ps)

-- all pages of a list
pub unpins_are : (c : Sizes) (ps : List ℕ) (b : Pool) → PoolIs c b → PoolIs c (unpin_all b ps)
unpins_are c [] b is = is
unpins_are c (p ∷ ps) b is = unpins_are c ps (unpin b p) (unpinned_is c b p is)

pub pins_unpins : (c : Sizes) (ps : List ℕ) (b : Pool) (q : ℕ) → PoolIs c b → pins_of (slot_at (unpin_all b ps) q) ≡ pins_of (slot_at b q) - times q ps
pins_unpins c [] b q is = omega arith
pins_unpins c (p ∷ ps) b q is =
    let rest = pins_unpins c ps (unpin b p) q (unpinned_is c b p is) in
    let first = pins_unpinned c b p q is in
    let count = length_if (p == q) p (filter (λ x. x == q) ps) in
    omega (arith, rest, first, count)

pub copy_unpins : (c : Sizes) (ps : List ℕ) (b : Pool) (q : ℕ) → PoolIs c b → copy_at (unpin_all b ps) q ≡ copy_at b q
copy_unpins c [] b q is = refl
copy_unpins c (p ∷ ps) b q is = copy_unpins c ps (unpin b p) q (unpinned_is c b p is) ∙ copy_unpinned c b p q is

pub privates_unpins : (ps : List ℕ) (b : Pool) → (unpin_all b ps).privates ≡ b.privates
unfolding unpin
privates_unpins [] b = refl
privates_unpins (p ∷ ps) b = privates_unpins ps (unpin b p)

-- each page at which an end is told is one that is held or waited for, and is there once
ends_case : (h : Held) (hs : List Held) (w : Option Pending) (p : ℕ) (b c : Bool) → (h.page == p) ≡ b → waits_on w h.page ≡ c → lock_on hs h.page ≡ None
    → times p (end_pages hs (pick c None w)) ≡ one_if (is_some (lock_on hs p) || waits_on (pick c None w) p)
    → length (cond b (h.page ∷ filter (λ q. q == p) (end_pages hs (pick c None w))) (filter (λ q. q == p) (end_pages hs (pick c None w)))) ≡ one_if (is_some (pick b (Some h) (lock_on hs p)) || waits_on w p)
ends_case h hs w p true c e waits once rest =
    let same = equal h.page p e in
    let none : is_some (lock_on hs p) ≡ false = ap is_some (subst (λ n. lock_on hs n ≡ None) same once) in
    let gone : waits_on (pick c None w) p ≡ false = by_wait c (ap (waits_on w) (sym same) ∙ waits) in
    let zero : times p (end_pages hs (pick c None w)) ≡ 0 = rest ∙ (λ i. one_if (none i || gone i)) in
    omega (arith, zero)
  where
    by_wait : (d : Bool) → waits_on w p ≡ d → waits_on (pick d None w) p ≡ false
    by_wait true f = refl
    by_wait false f = f
ends_case h hs w p false true e waits once rest =
    let other : waits_on w p ≡ false = other_page w waits in
    rest ∙ ap (λ d. one_if (is_some (lock_on hs p) || d)) (sym other)
  where
    other_page : (o : Option Pending) → waits_on o h.page ≡ true → waits_on o p ≡ false
    other_page None f = refl
    other_page (Some x) f = grind (arith, nat_tests)
ends_case h hs w p false false e waits once rest = rest

pub times_ends : (hs : List Held) (w : Option Pending) (p : ℕ) → AreOnce hs → times p (end_pages hs w) ≡ one_if (is_some (lock_on hs p) || waits_on w p)
unfolding end_pages lock_on
times_ends [] None p once = refl
times_ends [] (Some w) p once = by_page (w.page == p)
  where
    by_page : (b : Bool) → length (cond b (w.page ∷ []) []) ≡ one_if b
    by_page true = refl
    by_page false = refl
times_ends (h ∷ hs) w p once =
    ends_case h hs w p (h.page == p) (waits_on w h.page) refl refl once.0 (times_ends hs (pick (waits_on w h.page) None w) p once.1)
