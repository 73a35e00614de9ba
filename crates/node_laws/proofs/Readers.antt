-- A sound home's rights have few readers.
use Rattle.std.proofs.Common.{◌≡◌, refl, ap, subst, ◌∙◌, ℕ, ◌<◌, ◌≤◌, ◌==◌, Bool, true, false, List, [], ◌∷◌, length, Option, Some, None, is_some, arith}
use Rattle.std.specs.List.{AllByRecursion, All}
use Rattle.std.proofs.lemmas.Bool.Decides.{nat_tests}
use Rattle.std.proofs.lemmas.List.Elements.{All-from_recursion, All-weaker, All-head, All-tail}
use Rattle.pcl_base.specs.Limits.{Sizes, InLimits}
use Rattle.pcl_base.specs.declared.lock.Held.{Held}
use Rattle.node_rules.specs.Words.{pick}
use Rattle.node_rules.specs.OpenTxs.{held_by, locks_of, lock_on}
use Rattle.node_rules.specs.Shelf.{Right, right_on, readers_of}
use Rattle.node_rules.specs.NodeState.{NodeState}
use Rattle.home_laws.specs.Homes.{IsHome}
use Rattle.home_laws.proofs.Tests.{number_same}
use Rattle.step_laws.specs.Most.{AreApart, HasFewReaders, AreReaders, locks}
use Rattle.step_laws.proofs.Readers.{readers_are_few_law}
use Rattle.node_laws.specs.Nodes.{AreRights}
use Rattle.node_laws.specs.Laws.{OpenAreTxs, SoundHasFewReaders}
use Rattle.node_laws.proofs.Transactions.{open_is_tx}
use Rattle.node_laws.proofs.Short.{all_locks_few}

-- no right of a page is among others
none_of : (rs : List Right) (p : ℕ) → right_on rs p ≡ None → AllByRecursion (λ r. (p == r.page) ≡ false) rs
unfolding right_on
none_of [] p none = tt
none_of (r ∷ rs) p none = by (r.page == p) refl none (none_of rs p)
  where
    by : (b : Bool) → (r.page == p) ≡ b → pick b (Some r) (right_on rs p) ≡ None → (right_on rs p ≡ None → AllByRecursion (λ r. (p == r.page) ≡ false) rs)
        → ((p == r.page) ≡ false) × AllByRecursion (λ r. (p == r.page) ≡ false) rs
    by true e f rest = absurd (cc)
    by false e f rest = (grind (arith, nat_tests, e), rest f)

all_both : {X : Type 0} (P Q R : X → Type 0) → ((x : X) → P x → Q x → R x) → (xs : List X) → AllByRecursion P xs → AllByRecursion Q xs → AllByRecursion R xs
all_both P Q R f [] a b = tt
all_both P Q R f (x ∷ xs) a b = (f x a.0 b.0, all_both P Q R f xs a.1 b.1)

-- each right is the one of its page, and its readers are different
abbrev IsFound : List Right → Right → Type 0
IsFound rs r = right_on rs r.page ≡ Some r

found : (c : Sizes) (rs : List Right) → AreRights c rs → AllByRecursion (IsFound rs) rs
unfolding right_on
found c [] are = tt
found c (r ∷ rs) are = (
  ap (λ b. pick b (Some r) (right_on rs r.page)) (number_same r.page),
  all_both (IsFound rs) (λ x. (r.page == x.page) ≡ false) (IsFound (r ∷ rs)) later rs (found c rs are.3) (none_of rs r.page are.2),
)
  where
    later : (x : Right) → right_on rs x.page ≡ Some x → (r.page == x.page) ≡ false → pick (r.page == x.page) (Some r) (right_on rs x.page) ≡ Some x
    later x e other = ap (λ b. pick b (Some r) (right_on rs x.page)) other ∙ e

apart_are : (c : Sizes) (rs : List Right) → AreRights c rs → AllByRecursion (λ r. AreApart r.readers) rs
apart_are c [] are = tt
apart_are c (r ∷ rs) are = (are.1, apart_are c rs are.3)

lock_there : (hs : List Held) (p : ℕ) → is_some (lock_on hs p) ≡ true → 1 ≤ length hs
unfolding lock_on
lock_there [] p e = absurd (cc)
lock_there (l ∷ hs) p e = omega arith

pub few_readers : (n : NodeState) → IsHome n.home → AreRights n.home.config n.home.shelf → HasFewReaders n
few_readers n is are =
    readers_are_few_law n
    (All-from_recursion (AreReaders n) n.home.shelf
    (all_both (IsFound n.home.shelf) (λ r. AreApart r.readers) (AreReaders n) of_right n.home.shelf (found n.home.config n.home.shelf are) (apart_are n.home.config n.home.shelf are)))
  where
    of_right : (r : Right) → right_on n.home.shelf r.page ≡ Some r → AreApart r.readers → AreReaders n r
    of_right r e apart =
        record {
          apart = apart;
          hold =
              All-weaker (λ t. is_some (held_by n.home.txs t r.page) ≡ true) (λ t. 1 ≤ length (locks_of n.home.txs t)) (λ t some. lock_there (locks_of n.home.txs t) r.page some) r.readers
              (subst (λ (o : Option Right). All (λ t. is_some (held_by n.home.txs t r.page) ≡ true) (readers_of o)) e (is.readers r.page));
        }

pub open_are_txs_law : OpenAreTxs
open_are_txs_law n t sound there = open_is_tx n.home t sound.home there

pub sound_has_few_readers_law : SoundHasFewReaders
sound_has_few_readers_law n sound = few_readers n sound.home sound.rights

one_of : (P : Right → Type 0) (rs : List Right) (p : ℕ) (r : Right) → right_on rs p ≡ Some r → All P rs → P r
unfolding right_on
one_of P [] p r e all = absurd (cc)
one_of P (x ∷ rs) p r e all = by (x.page == p) e (λ q. one_of P rs p r q (All-tail P x rs all))
  where
    by : (b : Bool) → pick b (Some x) (right_on rs p) ≡ Some r → (right_on rs p ≡ Some r → P r) → P r
    by true q rest = let same : x ≡ r = cc in subst P same (All-head P x rs all)
    by false q rest = rest q

few_each : (n : NodeState) → HasFewReaders n → All (λ r. length r.readers ≤ locks n) n.home.shelf
few_each n readers = λ k d lt. let few = readers k d lt in omega (arith, few)

-- a right's readers fit into a message
pub readers_short : (n : NodeState) (p : ℕ) (r : Right) → InLimits n.home.config → IsHome n.home → AreRights n.home.config n.home.shelf → right_on n.home.shelf p ≡ Some r → length r.readers < 4294967296
readers_short n p r limits is are e =
    let few = one_of (λ r. length r.readers ≤ locks n) n.home.shelf p r e (few_each n (few_readers n is are)) in
    let all = all_locks_few n.home limits is in
    omega (arith, few, all)
