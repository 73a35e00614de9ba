-- The open transactions of a sound home: their names, and the pages that they hold or wait for.
use Rattle.std.proofs.Common.{◌≡◌, refl, ap, subst, ◌∙◌, sym, ℕ, ◌<◌, ◌≤◌, ◌==◌, ◌&&◌, ◌||◌, Bool, true, false, List, [], ◌∷◌, Option, Some, None, is_some, arith}
use Rattle.std.specs.Prelude.{IfSome}
use Rattle.std.specs.List.{AllByRecursion}
use Rattle.std.proofs.lemmas.Bool.Decides.{nat_tests}
use Rattle.std.proofs.lemmas.List.Elements.{recursion_from_All}
use Rattle.pcl_base.specs.declared.tx.TxId.{TxId}
use Rattle.pcl_base.specs.declared.lock.Held.{Held}
use Rattle.pcl_base.specs.declared.lock.Pending.{Pending}
use Rattle.text_rules.specs.MessageBytes.{IsTx, IsPage}
use Rattle.node_rules.specs.Words.{pick}
use Rattle.node_rules.specs.OpenTxs.{OpenTx, name_of, is_own, with_serial, open_at, is_open, pages_of_open, held_by, pending_of, waiting_of_open, lock_on, waits_on}
use Rattle.node_rules.specs.Shelf.{right_on, readers_of}
use Rattle.node_rules.specs.NodeState.{HomeState}
use Rattle.node_rules.specs.EndRule.{pages_at_end}
use Rattle.home_laws.specs.Homes.{IsHome, IsAccess, AreSerials, AreOnce}
use Rattle.home_laws.proofs.Words.{and_true}
use Rattle.home_laws.proofs.Tests.{number_same, number_equal, some_there}
use Rattle.home_laws.proofs.OneTx.{open_own, open_serial}
use Rattle.home_laws.proofs.Locks.{held_open}
use Rattle.home_laws.proofs.Records.{serial_above}
use Rattle.home_laws.proofs.Serials.{one_if}
use Rattle.home_laws.proofs.Unpins.{times}
use Rattle.home_laws.proofs.Closed.{times_at_end}
use Rattle.home_laws.proofs.Written.{of_each}
use Rattle.node_laws.proofs.Lists.{all_weaker}

-- an open transaction is one that may be
pub open_is_tx : (h : HomeState) (t : TxId) → IsHome h → is_open h.txs t ≡ true → IsTx h.config t
open_is_tx h t is there =
    let own = and_true (t.node == h.txs.node) (t.born == h.txs.born) (open_own h.txs t there) in
    let some = some_there (open_at h.txs t) there in
    let found = serial_above 0 h.txs.last t.serial some.0 h.txs.txs is.txs.serials (open_serial h.txs t some.0 some.1) in
    let node : t.node ≡ h.txs.node = number_equal t.node h.txs.node own.0 in
    let born : t.born ≡ h.txs.born = number_equal t.born h.txs.born own.1 in
    let above = found.0 in
    (subst (λ (n : ℕ). n < h.config.nodes) (sym node) is.txs.node, subst (λ (n : ℕ). 1 ≤ n) (sym born) (is.txs.born found.1), omega (arith, above))

-- who reads under a right is one
pub readers_are_tx : (h : HomeState) (p : ℕ) → IsHome h → AllByRecursion (IsTx h.config) (readers_of (right_on h.shelf p))
readers_are_tx h p is =
    all_weaker (λ t. is_some (held_by h.txs t p) ≡ true) (IsTx h.config) (λ t held. open_is_tx h t is (held_open h.txs t p held)) (readers_of (right_on h.shelf p))
    (recursion_from_All (λ t. is_some (held_by h.txs t p) ≡ true) (readers_of (right_on h.shelf p)) (is.readers p))

-- the pages at which an end is told are some of the database
pub ended_below : (h : HomeState) (t : TxId) → IsHome h → AllByRecursion (IsPage h.config) (pages_at_end h t)
ended_below h t is =
    of_each (IsPage h.config) (pages_at_end h t)
    (λ p some. by p (is_some (held_by h.txs t p)) refl (pending_of h.txs t) (is.waits t) (counted p some (pending_of h.txs t) refl))
  where
    counted : (p : ℕ) → 1 ≤ times p (pages_at_end h t) → (o : Option Pending) → pending_of h.txs t ≡ o → 1 ≤ one_if (is_some (held_by h.txs t p) || waits_on o p)
    counted p some o e = subst (λ (w : Option Pending). 1 ≤ one_if (is_some (held_by h.txs t p) || waits_on w p)) e (subst (λ (n : ℕ). 1 ≤ n) (times_at_end h t p is) some)

    by : (p : ℕ) (x : Bool) → is_some (held_by h.txs t p) ≡ x → (o : Option Pending) → IfSome o (IsAccess h.config) → 1 ≤ one_if (x || waits_on o p) → IsPage h.config p
    by p true e o access one = (is.held t p e).0
    by p false e None access one = absurd (omega (arith, one))
    by p false e (Some w) access one = waits (w.page == p) refl one
      where
        waits : (y : Bool) → (w.page == p) ≡ y → 1 ≤ one_if y → IsPage h.config p
        waits true f one = subst (λ (n : ℕ). n < h.config.pages) (number_equal w.page p f) access.page
        waits false f one = absurd (omega (arith, one))

-- each open transaction stands under its serial
found : (low last : ℕ) (xs : List OpenTx) → AreSerials low last xs → AllByRecursion (λ x. (low < x.serial) × (with_serial xs x.serial ≡ Some x)) xs
unfolding with_serial
found low last [] are = tt
found low last (x ∷ xs) are = (
  (are.0, ap (λ b. pick b (Some x) (with_serial xs x.serial)) (number_same x.serial)),
  all_weaker (λ y. (x.serial < y.serial) × (with_serial xs y.serial ≡ Some y)) (λ y. (low < y.serial) × (with_serial (x ∷ xs) y.serial ≡ Some y)) later xs (found x.serial last xs are.1),
)
  where
    later : (y : OpenTx) → (x.serial < y.serial) × (with_serial xs y.serial ≡ Some y) → (low < y.serial) × (pick (x.serial == y.serial) (Some x) (with_serial xs y.serial) ≡ Some y)
    later y h =
        let first = are.0 in
        let above = h.0 in
        let other : (x.serial == y.serial) ≡ false = grind (arith, nat_tests, above) in
        (omega (arith, first, above), ap (λ b. pick b (Some x) (with_serial xs y.serial)) other ∙ h.1)

-- what holds of an open transaction
pub record IsOpenTx (h : HomeState) (x : OpenTx) : Type 0 where
  pub name : IsTx h.config (name_of h.txs x.serial)
  pub pages : AllByRecursion (λ l. IsPage h.config l.page) x.pages
  pub once : AreOnce x.pages
  pub waits : IfSome x.waiting (λ w. IsPage h.config w.page)

locks_below : (n : ℕ) (hs : List Held) → ((p : ℕ) → is_some (lock_on hs p) ≡ true → p < n) → AllByRecursion (λ l. l.page < n) hs
unfolding lock_on
locks_below n [] each = tt
locks_below n (l ∷ hs) each = (each l.page (ap (λ b. is_some (pick b (Some l) (lock_on hs l.page))) (number_same l.page)), locks_below n hs (λ p some. each p (by p (l.page == p) some)))
  where
    by : (p : ℕ) (b : Bool) → is_some (lock_on hs p) ≡ true → is_some (pick b (Some l) (lock_on hs p)) ≡ true
    by p true some = refl
    by p false some = some

module _ (h : HomeState) (is : IsHome h) where
  own_name : (n : ℕ) → is_own h.txs (name_of h.txs n) ≡ true
  own_name n = ap (λ b. b && h.txs.born == h.txs.born) (number_same h.txs.node) ∙ number_same h.txs.born

  open_here : (x : OpenTx) → with_serial h.txs.txs x.serial ≡ Some x → open_at h.txs (name_of h.txs x.serial) ≡ Some x
  open_here x e = ap (λ b. pick b (with_serial h.txs.txs x.serial) None) (own_name x.serial) ∙ e

  open_one : (x : OpenTx) → with_serial h.txs.txs x.serial ≡ Some x → AreOnce x.pages → IsOpenTx h x
  open_one x e once =
      let t : TxId = name_of h.txs x.serial in
      let here : open_at h.txs t ≡ Some x = open_here x e in
      record {
        name = open_is_tx h t is (ap (λ (o : Option OpenTx). is_some o) here);
        pages =
            locks_below h.config.pages x.pages
            (λ p some. (is.held t p (ap (λ (o : Option OpenTx). is_some (lock_on (pages_of_open o) p)) here ∙ some)).0);
        once = once;
        waits = access x.waiting (subst (λ (o : Option OpenTx). IfSome (waiting_of_open o) (IsAccess h.config)) here (is.waits t));
      }
    where
      access : (o : Option Pending) → IfSome o (IsAccess h.config) → IfSome o (λ w. IsPage h.config w.page)
      access None a = tt
      access (Some w) a = a.page

  all_open : (xs : List OpenTx) → AllByRecursion (λ x. (0 < x.serial) × (with_serial h.txs.txs x.serial ≡ Some x)) xs → AllByRecursion (λ x. AreOnce x.pages) xs → AllByRecursion (IsOpenTx h) xs
  all_open [] at once = tt
  all_open (x ∷ xs) at once = (open_one x at.0.1 once.0, all_open xs at.1 once.1)

  -- of all open transactions
  pub open_are : AllByRecursion (IsOpenTx h) h.txs.txs
  open_are = all_open h.txs.txs (found 0 h.txs.last h.txs.txs is.txs.serials) (recursion_from_All (λ (x : OpenTx). AreOnce x.pages) h.txs.txs is.txs.once)
