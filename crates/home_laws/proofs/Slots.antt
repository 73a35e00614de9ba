-- The slots of pages when one of them changes, or when some leave.
use Rattle.std.proofs.Common.{◌≡◌, ℕ, ◌+◌, ◌≤◌, ◌==◌, ◌||◌, not, cond, Bool, true, false, List, [], ◌∷◌, length, Option, Some, None, is_some, IfSome, refl, ap, sym, ◌∙◌, arith}
use Rattle.std.proofs.lemmas.Bool.Decides.{nat_tests}
use Rattle.std.proofs.lemmas.List.Elements.{All-cons, All-head, All-tail}
use Rattle.std.specs.List.{filter, All}
use Rattle.std.specs.Option.{option_map}
use Rattle.node_rules.specs.Words.{pick}
use Rattle.node_rules.specs.BufferRule.{Slot, Copy, slot_in, copy_of_slot, is_pinned, is_kept, change_slot}
use Rattle.home_laws.specs.Homes.{pins_of}
use Rattle.home_laws.proofs.Words.{equal}
use Rattle.home_laws.proofs.Serials.{one_if}

-- a change of a slot that leaves its page
abbrev pub KeepsPage : (Slot → Slot) → Type 0
KeepsPage f = (s : Slot) → (f s).page ≡ s.page

-- whether a slot is of a page
abbrev pub is_of : ℕ → Slot → Bool
is_of p s = s.page == p

-- a slot that stays where it passes a test
abbrev pub tested : (Slot → Bool) → Option Slot → Option Slot
tested test None = None
tested test (Some s) = cond (test s) (Some s) None

-- the slot that is found is of the page
pub slot_is_of : (ss : List Slot) (p : ℕ) → IfSome (slot_in ss p) (λ s. s.page ≡ p)
unfolding slot_in
slot_is_of [] p = tt
slot_is_of (s ∷ ss) p = by_page (s.page == p) refl (slot_is_of ss p)
  where
    by_page : (b : Bool) → (s.page == p) ≡ b → IfSome (slot_in ss p) (λ s. s.page ≡ p) → IfSome (pick b (Some s) (slot_in ss p)) (λ s. s.page ≡ p)
    by_page true e rest = equal s.page p e
    by_page false e rest = rest

-- what holds of all slots holds of the one that is found
pub slot_among : (P : Slot → Type 0) (ss : List Slot) (p : ℕ) → All P ss → IfSome (slot_in ss p) P
unfolding slot_in
slot_among P [] p a = tt
slot_among P (s ∷ ss) p a = by_page (s.page == p) (All-head P s ss a) (slot_among P ss p (All-tail P s ss a))
  where
    by_page : (b : Bool) → P s → IfSome (slot_in ss p) P → IfSome (pick b (Some s) (slot_in ss p)) P
    by_page true x rest = x
    by_page false x rest = rest

pub length_if : {X : Type 0} (b : Bool) (x : X) (ys : List X) → length (cond b (x ∷ ys) ys) ≡ one_if b + length ys
length_if true x ys = omega arith
length_if false x ys = omega arith

-- no slot is found where none is of the page
none_case : (p : ℕ) (s : Slot) (ss : List Slot) (b : Bool) → (s.page == p) ≡ b → length (cond b (s ∷ filter (is_of p) ss) (filter (is_of p) ss)) ≡ 0 → (length (filter (is_of p) ss) ≡ 0 → slot_in ss p ≡ None)
    → slot_in (s ∷ ss) p ≡ None
unfolding slot_in
none_case p s ss true e zero rest = absurd (omega (arith, zero))
none_case p s ss false e zero rest = ap (λ b. pick b (Some s) (slot_in ss p)) e ∙ rest zero

pub slot_none : (ss : List Slot) (p : ℕ) → length (filter (is_of p) ss) ≡ 0 → slot_in ss p ≡ None
unfolding slot_in
slot_none [] p zero = refl
slot_none (s ∷ ss) p zero = none_case p s ss (s.page == p) refl zero (slot_none ss p)

-- fewer pass two tests than one
pub fewer : {X : Type 0} (a b : X → Bool) (xs : List X) → length (filter a (filter b xs)) ≤ length (filter a xs)
fewer a b [] = omega arith
fewer a b (x ∷ xs) = by_test (b x) (fewer a b xs)
  where
    by_test : (c : Bool) → length (filter a (filter b xs)) ≤ length (filter a xs) → length (filter a (cond c (x ∷ filter b xs) (filter b xs))) ≤ length (filter a (x ∷ xs))
    by_test true l = let m = length_if (a x) x (filter a (filter b xs)) in let n = length_if (a x) x (filter a xs) in omega (arith, l, m, n)
    by_test false l = let n = length_if (a x) x (filter a xs) in omega (arith, l, n)

pub fewer_all : {X : Type 0} (b : X → Bool) (xs : List X) → length (filter b xs) ≤ length xs
fewer_all b [] = omega arith
fewer_all b (x ∷ xs) = let n = length_if (b x) x (filter b xs) in let l = fewer_all b xs in by_test (b x) n l
  where
    by_test : (c : Bool) → length (cond c (x ∷ filter b xs) (filter b xs)) ≡ one_if c + length (filter b xs) → length (filter b xs) ≤ length xs → length (cond c (x ∷ filter b xs) (filter b xs)) ≤ length (x ∷ xs)
    by_test true n l = omega (arith, l)
    by_test false n l = omega (arith, l)

-- the slot of a page once some slots left
left_case : (test : Slot → Bool) (p : ℕ) (s : Slot) (ss : List Slot) (b c : Bool) → (s.page == p) ≡ b → length (cond b (s ∷ filter (is_of p) ss) (filter (is_of p) ss)) ≤ 1
    → (length (filter (is_of p) ss) ≤ 1 → slot_in (filter test ss) p ≡ tested test (slot_in ss p)) → test s ≡ c
    → slot_in (cond c (s ∷ filter test ss) (filter test ss)) p ≡ tested test (pick b (Some s) (slot_in ss p))
unfolding slot_in
left_case test p s ss true true e l rest t = ap (λ b. pick b (Some s) (slot_in (filter test ss) p)) e ∙ sym (ap (λ c. cond c (Some s) None) t)
left_case test p s ss true false e l rest t =
    let few = fewer (is_of p) test ss in
    slot_none (filter test ss) p (omega (arith, l, few)) ∙ sym (ap (λ c. cond c (Some s) None) t)
left_case test p s ss false true e l rest t = ap (λ b. pick b (Some s) (slot_in (filter test ss) p)) e ∙ rest l
left_case test p s ss false false e l rest t = rest l

pub slot_left : (test : Slot → Bool) (ss : List Slot) (p : ℕ) → length (filter (is_of p) ss) ≤ 1 → slot_in (filter test ss) p ≡ tested test (slot_in ss p)
unfolding slot_in
slot_left test [] p l = refl
slot_left test (s ∷ ss) p l = left_case test p s ss (s.page == p) (test s) refl l (slot_left test ss p) refl

-- a slot that isn't kept has neither a pin nor a copy
pub pins_tested : (o : Option Slot) → pins_of (tested is_kept o) ≡ pins_of o
pins_tested None = refl
pins_tested (Some s) = by_copy s.copy refl (s.pins == 0) refl
  where
    by_copy : (c : Option Copy) → s.copy ≡ c → (b : Bool) → (s.pins == 0) ≡ b → pins_of (cond (is_some s.copy || is_pinned s) (Some s) None) ≡ s.pins
    by_copy (Some c) e b z = ap (λ o. pins_of (cond (is_some o || is_pinned s) (Some s) None)) e
    by_copy None e true z =
        ap (λ o. pins_of (cond (is_some o || is_pinned s) (Some s) None)) e ∙ ap (λ b. pins_of (cond (not b) (Some s) None)) z ∙ sym (equal s.pins 0 z)
    by_copy None e false z =
        ap (λ o. pins_of (cond (is_some o || is_pinned s) (Some s) None)) e ∙ ap (λ b. pins_of (cond (not b) (Some s) None)) z

pub copy_tested : (o : Option Slot) → copy_of_slot (tested is_kept o) ≡ copy_of_slot o
copy_tested None = refl
copy_tested (Some s) = by_copy s.copy refl
  where
    by_copy : (c : Option Copy) → s.copy ≡ c → copy_of_slot (cond (is_some s.copy || is_pinned s) (Some s) None) ≡ s.copy
    by_copy (Some c) e = ap (λ o. copy_of_slot (cond (is_some o || is_pinned s) (Some s) None)) e
    by_copy None e = one (is_some s.copy || is_pinned s)
      where
        one : (b : Bool) → copy_of_slot (cond b (Some s) None) ≡ s.copy
        one true = refl
        one false = sym e

-- a slot that changes, and the others
pub slot_changed : (f : Slot → Slot) → KeepsPage f → (ss : List Slot) (p : ℕ) → slot_in (change_slot f ss p) p ≡ option_map f (slot_in ss p)
unfolding slot_in change_slot
slot_changed f keeps [] p = refl
slot_changed f keeps (s ∷ ss) p = by_page (s.page == p) refl (slot_changed f keeps ss p)
  where
    by_page : (b : Bool) → (s.page == p) ≡ b → slot_in (change_slot f ss p) p ≡ option_map f (slot_in ss p) → pick ((pick b (f s) s).page == p) (Some (pick b (f s) s)) (slot_in (change_slot f ss p) p) ≡ option_map f (pick b (Some s) (slot_in ss p))
    by_page true e rest =
        let same : ((f s).page == p) ≡ true = ap (λ n. n == p) (keeps s) ∙ e in
        ap (λ b. pick b (Some (f s)) (slot_in (change_slot f ss p) p)) same
    by_page false e rest = ap (λ b. pick b (Some s) (slot_in (change_slot f ss p) p)) e ∙ rest

pub slot_unchanged : (f : Slot → Slot) → KeepsPage f → (ss : List Slot) (p q : ℕ) → (q == p) ≡ false → slot_in (change_slot f ss p) q ≡ slot_in ss q
unfolding slot_in change_slot
slot_unchanged f keeps [] p q other = refl
slot_unchanged f keeps (s ∷ ss) p q other = by_page (s.page == p) refl (slot_unchanged f keeps ss p q other)
  where
    by_page : (b : Bool) → (s.page == p) ≡ b → slot_in (change_slot f ss p) q ≡ slot_in ss q → pick ((pick b (f s) s).page == q) (Some (pick b (f s) s)) (slot_in (change_slot f ss p) q) ≡ pick (s.page == q) (Some s) (slot_in ss q)
    by_page true e rest =
        let differs : (s.page == q) ≡ false = grind (arith, nat_tests) in
        let changed : ((f s).page == q) ≡ false = ap (λ n. n == q) (keeps s) ∙ differs in
        ap (λ b. pick b (Some (f s)) (slot_in (change_slot f ss p) q)) changed ∙ rest ∙ sym (ap (λ b. pick b (Some s) (slot_in ss q)) differs)
    by_page false e rest = ap (λ o. pick (s.page == q) (Some s) o) rest

pub length_changed : (f : Slot → Slot) (ss : List Slot) (p : ℕ) → length (change_slot f ss p) ≡ length ss
unfolding change_slot
length_changed f [] p = refl
length_changed f (s ∷ ss) p = let n = length_changed f ss p in omega (arith, n)

pub count_changed : (f : Slot → Slot) → KeepsPage f → (ss : List Slot) (p q : ℕ) → length (filter (is_of q) (change_slot f ss p)) ≡ length (filter (is_of q) ss)
unfolding change_slot
count_changed f keeps [] p q = refl
count_changed f keeps (s ∷ ss) p q =
    let here : (pick (s.page == p) (f s) s).page ≡ s.page = one (s.page == p) in
    let n = length_if ((pick (s.page == p) (f s) s).page == q) (pick (s.page == p) (f s) s) (filter (is_of q) (change_slot f ss p)) in
    let m = length_if (s.page == q) s (filter (is_of q) ss) in
    let test : one_if ((pick (s.page == p) (f s) s).page == q) ≡ one_if (s.page == q) = ap (λ n. one_if (n == q)) here in
    let rest = count_changed f keeps ss p q in
    omega (arith, n, m, test, rest)
  where
    one : (b : Bool) → (pick b (f s) s).page ≡ s.page
    one true = keeps s
    one false = refl

pub all_changed : (f : Slot → Slot) (P : Slot → Type 0) → ((s : Slot) → P s → P (f s)) → (ss : List Slot) (p : ℕ) → All P ss → All P (change_slot f ss p)
unfolding change_slot
all_changed f P keeps [] p a = a
all_changed f P keeps (s ∷ ss) p a =
    All-cons P (pick (s.page == p) (f s) s) (change_slot f ss p) (one (s.page == p) (All-head P s ss a)) (all_changed f P keeps ss p (All-tail P s ss a))
  where
    one : (b : Bool) → P s → P (pick b (f s) s)
    one true x = keeps s x
    one false x = x
