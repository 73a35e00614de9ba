-- The slot of a page, once a slot changes, leaves or moves to the front.
use Rattle.std.proofs.Common.{◌≡◌, ℕ, ◌==◌, not, Bool, true, false, List, [], ◌∷◌, cond, Option, Some, None, refl, ap, sym, ◌∙◌}
use Rattle.std.specs.Prelude.{option_map}
use Rattle.node_rules.specs.Words.{pick}
use Rattle.node_rules.specs.BufferRule.{Slot, slot_in, change_slot, slots_without, in_front}
use Rattle.home_laws.proofs.Tests.{number_equal}

-- a change that leaves the page
abbrev pub KeepsPage : (Slot → Slot) → Type 0
KeepsPage f = (s : Slot) → (f s).page ≡ s.page

pub changed_here : (f : Slot → Slot) → KeepsPage f → (ss : List Slot) (p : ℕ) → slot_in (change_slot f ss p) p ≡ option_map f (slot_in ss p)
unfolding slot_in change_slot
changed_here f keeps [] p = refl
changed_here f keeps (s ∷ ss) p = by (s.page == p) refl (changed_here f keeps ss p)
  where
    by : (b : Bool) → (s.page == p) ≡ b → slot_in (change_slot f ss p) p ≡ option_map f (slot_in ss p)
        → pick ((pick b (f s) s).page == p) (Some (pick b (f s) s)) (slot_in (change_slot f ss p) p) ≡ option_map f (pick b (Some s) (slot_in ss p))
    by true t ih =
        let same : ((f s).page == p) ≡ true = ap (λ m. m == p) (keeps s) ∙ t in
        ap (λ c. pick c (Some (f s)) (slot_in (change_slot f ss p) p)) same
    by false t ih = ap (λ c. pick c (Some s) (slot_in (change_slot f ss p) p)) t ∙ ih

pub changed_there : (f : Slot → Slot) → KeepsPage f → (ss : List Slot) (p q : ℕ) → (p == q) ≡ false → slot_in (change_slot f ss p) q ≡ slot_in ss q
unfolding slot_in change_slot
changed_there f keeps [] p q other = refl
changed_there f keeps (s ∷ ss) p q other = by (s.page == p) refl (changed_there f keeps ss p q other)
  where
    by : (b : Bool) → (s.page == p) ≡ b → slot_in (change_slot f ss p) q ≡ slot_in ss q
        → pick ((pick b (f s) s).page == q) (Some (pick b (f s) s)) (slot_in (change_slot f ss p) q) ≡ pick (s.page == q) (Some s) (slot_in ss q)
    by true t ih =
        let differs : (s.page == q) ≡ false = ap (λ n. n == q) (number_equal s.page p t) ∙ other in
        let same : ((f s).page == q) ≡ false = ap (λ m. m == q) (keeps s) ∙ differs in
        ap (λ c. pick c (Some (f s)) (slot_in (change_slot f ss p) q)) same ∙ ih ∙ ap (λ c. pick c (Some s) (slot_in ss q)) (sym differs)
    by false t ih = ap (λ o. pick (s.page == q) (Some s) o) ih

pub without_here : (ss : List Slot) (p : ℕ) → slot_in (slots_without ss p) p ≡ None
unfolding slot_in
without_here [] p = refl
without_here (s ∷ ss) p = by (s.page == p) refl (without_here ss p)
  where
    by : (b : Bool) → (s.page == p) ≡ b → slot_in (slots_without ss p) p ≡ None → slot_in (cond (not b) (s ∷ slots_without ss p) (slots_without ss p)) p ≡ None
    by true t ih = ih
    by false t ih = ap (λ c. pick c (Some s) (slot_in (slots_without ss p) p)) t ∙ ih

pub without_there : (ss : List Slot) (p q : ℕ) → (p == q) ≡ false → slot_in (slots_without ss p) q ≡ slot_in ss q
unfolding slot_in
without_there [] p q other = refl
without_there (s ∷ ss) p q other = by (s.page == p) refl (without_there ss p q other)
  where
    by : (b : Bool) → (s.page == p) ≡ b → slot_in (slots_without ss p) q ≡ slot_in ss q
        → slot_in (cond (not b) (s ∷ slots_without ss p) (slots_without ss p)) q ≡ pick (s.page == q) (Some s) (slot_in ss q)
    by true t ih =
        let differs : (s.page == q) ≡ false = ap (λ n. n == q) (number_equal s.page p t) ∙ other in
        ih ∙ ap (λ c. pick c (Some s) (slot_in ss q)) (sym differs)
    by false t ih = ap (λ o. pick (s.page == q) (Some s) o) ih

-- the slot that is found is one of the page
pub slot_page : (ss : List Slot) (p : ℕ) (s : Slot) → slot_in ss p ≡ Some s → s.page ≡ p
unfolding slot_in
slot_page [] p s found = absurd (cc)
slot_page (x ∷ ss) p s found = by (x.page == p) refl found (slot_page ss p s)
  where
    by : (b : Bool) → (x.page == p) ≡ b → pick b (Some x) (slot_in ss p) ≡ Some s → (slot_in ss p ≡ Some s → s.page ≡ p) → s.page ≡ p
    by true t e ih =
        let same : x ≡ s = cc in
        ap (λ y. y.page) (sym same) ∙ number_equal x.page p t
    by false t e ih = ih e

-- a slot in front
pub front_same : (ss : List Slot) (p q : ℕ) → slot_in (in_front (slot_in ss p) ss) q ≡ slot_in ss q
unfolding slot_in
front_same ss p q = by (slot_in ss p) refl
  where
    by : (o : Option Slot) → slot_in ss p ≡ o → slot_in (in_front o ss) q ≡ slot_in ss q
    by None e = refl
    by (Some s) e = of (s.page == q) refl
      where
        of : (b : Bool) → (s.page == q) ≡ b → pick b (Some s) (slot_in (slots_without ss s.page) q) ≡ slot_in ss q
        of true t =
            let same : p ≡ q = sym (slot_page ss p s e) ∙ number_equal s.page q t in
            sym e ∙ ap (slot_in ss) same
        of false t = without_there ss s.page q t
