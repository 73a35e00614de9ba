-- Parts that stay, one change after another, and the copy of a page after a change of one slot.
use Rattle.std.proofs.Common.{◌≡◌, ℕ, ◌==◌, Bool, true, false, List, Option, None, refl, ap, subst, ◌∙◌}
use Rattle.std.specs.Prelude.{option_map}
use Rattle.pcl_base.specs.declared.tx.TxId.{TxId}
use Rattle.node_rules.specs.Words.{pick}
use Rattle.node_rules.specs.BufferRule.{Pool, Slot, Copy, PrivateCopy, slot_in, copy_of_slot, private_in, private_bytes, bytes_of_private, change_slot, slots_without}
use Rattle.node_rules.specs.NodeState.{HomeState}
use Rattle.node_rules.specs.Work.{HomeWork, with_pool}
use Rattle.home_laws.proofs.Tests.{number_equal}
use Rattle.home_laws.proofs.SlotLooks.{KeepsPage, changed_here, changed_there, without_here, without_there}
use Rattle.page_laws.specs.Look.Parts.{SameLife, SameLocks, SamePrivates, SameBesideCopies}
use Rattle.page_laws.specs.Look.Buffers.{IsAlike}

-- parts that stay
pub life_self : (h : HomeState) → SameLife h h
life_self h = record { config = refl; node = refl; born = refl; last = refl; alive = λ u. refl }

pub life_then : (h m g : HomeState) → SameLife h m → SameLife m g → SameLife h g
life_then h m g a b =
    record {
      config = b.config ∙ a.config;
      node = b.node ∙ a.node;
      born = b.born ∙ a.born;
      last = b.last ∙ a.last;
      alive = λ u. b.alive u ∙ a.alive u;
    }

pub locks_self : (h : HomeState) → SameLocks h h
locks_self h = record { held = λ u q. refl; waits = λ u. refl }

pub privates_self : (h : HomeState) → SamePrivates h h
privates_self h = record { bytes = λ u q. refl; runs = λ u q. refl }

pub beside_self : (h : HomeState) → SameBesideCopies h h
beside_self h = record { life = life_self h; locks = locks_self h; privates = privates_self h; rights = λ q. refl }

pub beside_then : (h m g : HomeState) → SameBesideCopies h m → SameBesideCopies m g → SameBesideCopies h g
beside_then h m g a b =
    record {
      life = life_then h m g a.life b.life;
      locks = record { held = λ u q. b.locks.held u q ∙ a.locks.held u q; waits = λ u. b.locks.waits u ∙ a.locks.waits u };
      privates = record { bytes = λ u q. b.privates.bytes u q ∙ a.privates.bytes u q; runs = λ u q. b.privates.runs u q ∙ a.privates.runs u q };
      rights = λ q. b.rights q ∙ a.rights q;
    }

pub alike_self : (w : HomeWork) → IsAlike w w
alike_self w = record { rest = beside_self w.home; copies = λ q. refl; pages = refl }

pub alike_then : (w m x : HomeWork) → IsAlike w m → IsAlike m x → IsAlike w x
alike_then w m x a b =
    record {
      rest = beside_then w.home m.home x.home a.rest b.rest;
      copies = λ q. b.copies q ∙ a.copies q;
      pages = b.pages ∙ a.pages;
    }

-- a buffer that has the same bytes in its private copies
pub beside_pool : (h : HomeState) (b : Pool) → ((u : TxId) (q : ℕ) → private_bytes b u q ≡ private_bytes h.pool u q) → SameBesideCopies h (with_pool h b)
beside_pool h b same =
    record {
      life = record { config = refl; node = refl; born = refl; last = refl; alive = λ u. refl };
      locks = record { held = λ u q. refl; waits = λ u. refl };
      privates = record { bytes = same; runs = λ u q. refl };
      rights = λ q. refl;
    }

pub same_bytes : (b : Pool) (h : HomeState) (u : TxId) (q : ℕ) → b.privates ≡ h.pool.privates → private_bytes b u q ≡ private_bytes h.pool u q
same_bytes b h u q e = ap (λ (xs : List PrivateCopy). bytes_of_private (private_in xs u q)) e

-- the copy of a page after one slot changed, or left
pub copy_changed : (f : Slot → Slot) (g : Option Copy → Option Copy) → KeepsPage f → ((o : Option Slot) → copy_of_slot (option_map f o) ≡ g (copy_of_slot o)) → (ss : List Slot) (p q : ℕ)
    → copy_of_slot (slot_in (change_slot f ss p) q) ≡ pick (p == q) (g (copy_of_slot (slot_in ss q))) (copy_of_slot (slot_in ss q))
copy_changed f g keeps same ss p q = by (p == q) refl
  where
    by : (d : Bool) → (p == q) ≡ d → copy_of_slot (slot_in (change_slot f ss p) q) ≡ pick d (g (copy_of_slot (slot_in ss q))) (copy_of_slot (slot_in ss q))
    by true e =
        subst (λ n. copy_of_slot (slot_in (change_slot f ss p) n) ≡ g (copy_of_slot (slot_in ss n))) (number_equal p q e)
        (ap copy_of_slot (changed_here f keeps ss p) ∙ same (slot_in ss p))
    by false e = ap copy_of_slot (changed_there f keeps ss p q e)

pub copy_left : (ss : List Slot) (p q : ℕ) → copy_of_slot (slot_in (slots_without ss p) q) ≡ pick (p == q) None (copy_of_slot (slot_in ss q))
copy_left ss p q = by (p == q) refl
  where
    by : (d : Bool) → (p == q) ≡ d → copy_of_slot (slot_in (slots_without ss p) q) ≡ pick d None (copy_of_slot (slot_in ss q))
    by true e = subst (λ n. copy_of_slot (slot_in (slots_without ss p) n) ≡ None) (number_equal p q e) (ap copy_of_slot (without_here ss p))
    by false e = ap copy_of_slot (without_there ss p q e)
