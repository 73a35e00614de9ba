-- Settling, against the rights that are out; and who waits where rights are asked back.
use Rattle.std.proofs.Common.{◌≡◌, refl, ap, sym, ◌∙◌, ℕ, zero, suc, ◌==◌, ◌&&◌, ◌||◌, not, Bool, true, false, List, [], ◌∷◌, ◌++◌, length, Option, Some, None, is_some, eqb-true, arith}
use Rattle.std.specs.List.{list_any}
use Rattle.std.proofs.lemmas.Bool.Decides.{nat_tests}
use Rattle.pcl_base.specs.declared.tx.Mode.{Mode}
use Rattle.pcl_base.specs.declared.tx.Mode.TheVariants.{Shared, Exclusive}
use Rattle.pcl_base.specs.declared.lock.Decision.TheVariants.{Grant, Revoke}
use Rattle.pcl_base.specs.declared.lock.Holder.{Holder}
use Rattle.pcl_base.specs.declared.lock.RightMark.{RightMark}
use Rattle.pcl_base.specs.declared.lock.Waiter.{Waiter}
use Rattle.run_rules.specs.Causes.{change_first, may_revoke, out_if}
use Rattle.run_rules.specs.Ledger.{Out}
use Rattle.node_rules.specs.Words.{pick, is_exclusive, or_else, head_of}
use Rattle.node_rules.specs.LockRule.{LockEntry, Rest, Next, Settled, after_decision, mode_of, has_right, turn, turn_at, turn_for, go_on, settle_within, settle, candidate, first_upgrade, held_beside, exclusive_beside, waiting_without, gives_right, with_right, with_reader, with_writer, revocations, all_revoked}
use Rattle.rule_laws.specs.Settling.{revoked}
use Rattle.home_laws.proofs.Tests.{and_left, and_right, not_true, number_same}
use Rattle.account_relation.specs.Settle.Settling.{AreOut, outs_left, FindOuts, RevocationsFindRights, AWriterWaits}

-- ---- rights that are out

-- a right that is asked back
abbrev mark : Out → Out
mark r = record r { revoked = true }

-- a right more
pushed : (p n m : ℕ) (outs : List Out) → list_any (may_revoke m p) outs ≡ true → list_any (may_revoke m p) (outs ++ record { node = n; page = p; revoked = false } ∷ []) ≡ true
pushed p n m [] has = absurd (cc)
pushed p n m (y ∷ ys) has = by (may_revoke m p y) refl has (pushed p n m ys)
  where
    by : (b : Bool) → may_revoke m p y ≡ b → b || list_any (may_revoke m p) ys ≡ true
        → (list_any (may_revoke m p) ys ≡ true → list_any (may_revoke m p) (ys ++ record { node = n; page = p; revoked = false } ∷ []) ≡ true)
        → may_revoke m p y || list_any (may_revoke m p) (ys ++ record { node = n; page = p; revoked = false } ∷ []) ≡ true
    by true is has rest = ap (λ b. b || list_any (may_revoke m p) (ys ++ record { node = n; page = p; revoked = false } ∷ [])) is
    by false is has rest = ap (λ b. b || list_any (may_revoke m p) (ys ++ record { node = n; page = p; revoked = false } ∷ [])) is ∙ rest has

new_out : (p n : ℕ) (outs : List Out) → list_any (may_revoke n p) (outs ++ record { node = n; page = p; revoked = false } ∷ []) ≡ true
new_out p n [] = all_true (n == n) (p == p) (number_same n) (number_same p)
  where
    all_true : (a b : Bool) → a ≡ true → b ≡ true → ((a && b) && true) || false ≡ true
    all_true a b x y = cc
new_out p n (y ∷ ys) = either (may_revoke n p y) (list_any (may_revoke n p) (ys ++ record { node = n; page = p; revoked = false } ∷ [])) (new_out p n ys)
  where
    either : (a b : Bool) → b ≡ true → a || b ≡ true
    either true b e = refl
    either false b e = e

-- marks of which none is of a node, and one of it
no_other : (rs : List RightMark) (n m : ℕ) (r : RightMark) → r.node ≡ n → has_right rs m ≡ false → (m == n) ≡ false → has_right (rs ++ r ∷ []) m ≡ false
no_other [] n m r is none other = by (r.node == m) refl
  where
    by : (b : Bool) → (r.node == m) ≡ b → b || false ≡ false
    by true e = absurd (grind (arith, nat_tests, e, is, other))
    by false e = refl
no_other (x ∷ rs) n m r is none other = by (x.node == m) refl none (no_other rs n m r is)
  where
    by : (b : Bool) → (x.node == m) ≡ b → b || has_right rs m ≡ false → (has_right rs m ≡ false → (m == n) ≡ false → has_right (rs ++ r ∷ []) m ≡ false) → (x.node == m) || has_right (rs ++ r ∷ []) m ≡ false
    by true e none rest = absurd (cc)
    by false e none rest = ap (λ b. b || has_right (rs ++ r ∷ []) m) e ∙ rest none other

none_is : (rs : List RightMark) (x : RightMark) (n : ℕ) → has_right (x ∷ rs) n ≡ false → ((x.node == n) ≡ false) × (has_right rs n ≡ false)
none_is rs x n none = by (x.node == n) none
  where
    by : (b : Bool) → b || has_right rs n ≡ false → (b ≡ false) × (has_right rs n ≡ false)
    by true e = absurd (cc)
    by false e = (refl, e)

out_pushed : (p n : ℕ) (outs : List Out) (rs : List RightMark) → has_right rs n ≡ false → AreOut p outs rs
    → AreOut p (outs ++ record { node = n; page = p; revoked = false } ∷ []) (rs ++ record { node = n; revoked = false } ∷ [])
out_pushed p n outs [] none are = ((λ free. new_out p n outs), refl, tt)
out_pushed p n outs (x ∷ rs) none are =
    let apart = none_is rs x n none in (
      (λ free. pushed p n x.node outs (are.0 free)),
      no_other rs n x.node (record { node = n; revoked = false }) refl are.1 apart.0,
      out_pushed p n outs rs apart.1 are.2,
    )

-- a right that is asked back leaves those of other nodes
out_kept : (p n m : ℕ) (outs : List Out) → (m == n) ≡ false → list_any (may_revoke m p) outs ≡ true → list_any (may_revoke m p) (change_first (may_revoke n p) mark outs) ≡ true
unfolding change_first
out_kept p n m [] other has = has
out_kept p n m (y ∷ ys) other has = by (may_revoke n p y) (may_revoke m p y) refl refl has (out_kept p n m ys other)
  where
    apart : may_revoke n p y ≡ true → may_revoke m p y ≡ true → ⊥
    apart a b =
        let first = eqb-true y.node n (and_left (y.node == n) (y.page == p) (and_left (y.node == n && y.page == p) (not y.revoked) a)) in
        let second = eqb-true y.node m (and_left (y.node == m) (y.page == p) (and_left (y.node == m && y.page == p) (not y.revoked) b)) in
        let same : m ≡ n = sym second ∙ first in
        grind (arith, nat_tests, other, same)

    either : (a b : Bool) → b ≡ true → a || b ≡ true
    either true b e = refl
    either false b e = e

    by : (a b : Bool) → may_revoke n p y ≡ a → may_revoke m p y ≡ b → b || list_any (may_revoke m p) ys ≡ true
        → (list_any (may_revoke m p) ys ≡ true → list_any (may_revoke m p) (change_first (may_revoke n p) mark ys) ≡ true)
        → list_any (may_revoke m p) (pick a (mark y ∷ ys) (y ∷ change_first (may_revoke n p) mark ys)) ≡ true
    by true true first second has rest = absurd (apart first second)
    by true false first second has rest = either (may_revoke m p (mark y)) (list_any (may_revoke m p) ys) has
    by false true first second has rest = ap (λ b. b || list_any (may_revoke m p) (change_first (may_revoke n p) mark ys)) second
    by false false first second has rest = ap (λ b. b || list_any (may_revoke m p) (change_first (may_revoke n p) mark ys)) second ∙ rest has

all_kept : (p n : ℕ) (outs : List Out) (rs : List RightMark) → has_right rs n ≡ false → AreOut p outs rs → AreOut p (change_first (may_revoke n p) mark outs) rs
all_kept p n outs [] none are = tt
all_kept p n outs (x ∷ rs) none are =
    let apart = none_is rs x n none in ((λ free. out_kept p n x.node outs apart.0 (are.0 free)), are.1, all_kept p n outs rs apart.1 are.2)

-- all rights are asked back
all_found : (p : ℕ) (rs : List RightMark) (outs : List Out) → AreOut p outs rs → FindOuts p (revocations rs) outs
unfolding FindOuts revocations
all_found p [] outs are = tt
all_found p (r ∷ rs) outs are = by r.revoked refl (λ xs. all_found p rs xs)
  where
    by : (b : Bool) → r.revoked ≡ b → ((xs : List Out) → AreOut p xs rs → FindOuts p (revocations rs) xs) → FindOuts p (pick b (revocations rs) (Revoke r.node ∷ revocations rs)) outs
    by true is rest = rest outs are.2
    by false is rest = (are.0 is, rest (change_first (may_revoke r.node p) mark outs) (all_kept p r.node outs rs are.1 are.2))

same_marks : (rs : List RightMark) (n : ℕ) → has_right (all_revoked rs) n ≡ has_right rs n
same_marks [] n = refl
same_marks (r ∷ rs) n = ap (λ b. (r.node == n) || b) (same_marks rs n)

none_due : (p : ℕ) (before outs : List Out) (rs : List RightMark) → AreOut p before rs → AreOut p outs (all_revoked rs)
none_due p before outs [] are = tt
none_due p before outs (r ∷ rs) are = ((λ free. absurd (cc)), same_marks rs r.node ∙ are.1, none_due p before outs rs are.2)

module _ (owner p : ℕ) where
  -- what a settling comes to
  record Revoking (outs : List Out) (s : Settled) : Type 0 where
    finds : FindOuts p s.decisions outs
    left : AreOut p (outs_left p s.decisions outs) s.entry.rights

  revokes_within : (n : ℕ) (e : LockEntry) (outs : List Out) → AreOut p outs e.rights → Revoking outs (settle_within n owner e)
  unfolding settle_within turn FindOuts outs_left gives_right
  revokes_within zero e outs are = record { finds = tt; left = are }
  revokes_within (suc n) e outs are = by (candidate e) (λ d xs all. revokes_within n d xs all)
    where
      Further : Type 0
      Further = (d : LockEntry) (xs : List Out) → AreOut p xs d.rights → Revoking xs (settle_within n owner d)

      ends : Revoking outs (record { decisions = []; entry = e })
      ends = record { finds = tt; left = are }

      next : (w : Waiter) (m : Mode) (right : Bool) (d : LockEntry) → AreOut p (out_if right w.tx.node p outs) d.rights → Further → Revoking outs (after_decision (Grant w.tx m right w.have) (settle_within n owner d))
      next w m right d all go = let rest = go d (out_if right w.tx.node p outs) all in record { finds = rest.finds; left = rest.left }

      free_of : (w : Waiter) → gives_right owner e w ≡ true → has_right e.rights w.tx.node ≡ false
      free_of w gives =
          not_true (has_right e.rights w.tx.node)
          (and_left (not (has_right e.rights w.tx.node)) (not (list_any (λ (x : Waiter). is_exclusive x.mode) (waiting_without e.waiting w.tx)))
          (and_right (not (w.tx.node == owner)) (not (has_right e.rights w.tx.node) && not (list_any (λ (x : Waiter). is_exclusive x.mode) (waiting_without e.waiting w.tx))) gives))

      shared : (w : Waiter) (a b : Bool) → gives_right owner e w ≡ b → Further
          → Revoking outs (go_on (pick a (Rest [] e) (Next (Grant w.tx Shared b w.have) (pick b (with_right e w) (with_reader e w)))) (settle_within n owner))
      shared w true b gives go = ends
      shared w false true gives go = next w Shared true (with_right e w) (out_pushed p w.tx.node outs e.rights (free_of w gives) are) go
      shared w false false gives go = next w Shared false (with_reader e w) are go

      alone : (w : Waiter) (a : Bool) → Further
          → Revoking outs (go_on (pick a (Rest (revocations e.rights) (record e { rights = all_revoked e.rights })) (Next (Grant w.tx Exclusive false w.have) (with_writer e w))) (settle_within n owner))
      alone w true go = record { finds = all_found p e.rights outs are; left = none_due p outs (outs_left p (revocations e.rights) outs) e.rights are }
      alone w false go = next w Exclusive false (with_writer e w) are go

      of_mode : (w : Waiter) (m : Mode) → Further → Revoking outs (go_on (turn_for owner e w m) (settle_within n owner))
      of_mode w Shared go = shared w (exclusive_beside e.holders w.tx) (gives_right owner e w) refl go
      of_mode w Exclusive go = alone w (held_beside e.holders w.tx || not (length e.rights == 0)) go

      by : (o : Option Waiter) → Further → Revoking outs (go_on (turn_at owner e o) (settle_within n owner))
      by None go = ends
      by (Some w) go = of_mode w w.mode go

  -- ---- who waits

  first_waits : (hs : List Holder) (ws : List Waiter) (w : Waiter) → is_exclusive w.mode ≡ true → first_upgrade hs ws ≡ Some w → list_any (λ (x : Waiter). is_exclusive x.mode) ws ≡ true
  unfolding first_upgrade
  first_waits hs [] w writes e = absurd (cc)
  first_waits hs (x ∷ ws) w writes e = by (is_some (mode_of hs x.tx)) e (first_waits hs ws w writes)
    where
      either : (a b : Bool) → b ≡ true → a || b ≡ true
      either true b e = refl
      either false b e = e

      by : (b : Bool) → pick b (Some x) (first_upgrade hs ws) ≡ Some w → (first_upgrade hs ws ≡ Some w → list_any (λ (x : Waiter). is_exclusive x.mode) ws ≡ true)
          → is_exclusive x.mode || list_any (λ (x : Waiter). is_exclusive x.mode) ws ≡ true
      by true e rest =
          let same : x ≡ w = cc in ap (λ b. b || list_any (λ (x : Waiter). is_exclusive x.mode) ws) (ap (λ (y : Waiter). is_exclusive y.mode) same ∙ writes)
      by false e rest = either (is_exclusive x.mode) (list_any (λ (x : Waiter). is_exclusive x.mode) ws) (rest e)

  head_waits : (ws : List Waiter) (w : Waiter) → is_exclusive w.mode ≡ true → head_of ws ≡ Some w → list_any (λ (x : Waiter). is_exclusive x.mode) ws ≡ true
  head_waits [] w writes e = absurd (cc)
  head_waits (x ∷ ws) w writes e = let same : x ≡ w = cc in ap (λ b. b || list_any (λ (x : Waiter). is_exclusive x.mode) ws) (ap (λ (y : Waiter). is_exclusive y.mode) same ∙ writes)

  candidate_waits : (e : LockEntry) (w : Waiter) → is_exclusive w.mode ≡ true → candidate e ≡ Some w → list_any (λ (x : Waiter). is_exclusive x.mode) e.waiting ≡ true
  unfolding candidate
  candidate_waits e w writes is = by (first_upgrade e.holders e.waiting) refl is
    where
      by : (o : Option Waiter) → first_upgrade e.holders e.waiting ≡ o → or_else o (head_of e.waiting) ≡ Some w → list_any (λ (x : Waiter). is_exclusive x.mode) e.waiting ≡ true
      by None at is = head_waits e.waiting w writes is
      by (Some x) at is = first_waits e.holders e.waiting w writes (at ∙ is)

  writes_within : (k : ℕ) (e : LockEntry) (n : ℕ) (ns : List ℕ) → revoked (settle_within k owner e).decisions ≡ n ∷ ns
      → list_any (λ (w : Waiter). is_exclusive w.mode) (settle_within k owner e).entry.waiting ≡ true
  unfolding settle_within turn
  writes_within zero e n ns some = absurd (cc)
  writes_within (suc k) e n ns some = by (candidate e) refl some (λ d all. writes_within k d n ns all)
    where
      Waits : Settled → Type 0
      Waits s = revoked s.decisions ≡ n ∷ ns → list_any (λ (w : Waiter). is_exclusive w.mode) s.entry.waiting ≡ true

      Further : Type 0
      Further = (d : LockEntry) → Waits (settle_within k owner d)

      shared : (w : Waiter) (a b : Bool) → Further → Waits (go_on (pick a (Rest [] e) (Next (Grant w.tx Shared b w.have) (pick b (with_right e w) (with_reader e w)))) (settle_within k owner))
      shared w true b go some = absurd (cc)
      shared w false b go some = go (pick b (with_right e w) (with_reader e w)) some

      alone : (w : Waiter) → w.mode ≡ Exclusive → candidate e ≡ Some w → (a : Bool) → Further
          → Waits (go_on (pick a (Rest (revocations e.rights) (record e { rights = all_revoked e.rights })) (Next (Grant w.tx Exclusive false w.have) (with_writer e w))) (settle_within k owner))
      alone w mode is true go some = candidate_waits e w (ap is_exclusive mode) is
      alone w mode is false go some = go (with_writer e w) some

      of_mode : (w : Waiter) (m : Mode) → w.mode ≡ m → candidate e ≡ Some w → Further → Waits (go_on (turn_for owner e w m) (settle_within k owner))
      of_mode w Shared mode is go = shared w (exclusive_beside e.holders w.tx) (gives_right owner e w) go
      of_mode w Exclusive mode is go = alone w mode is (held_beside e.holders w.tx || not (length e.rights == 0)) go

      by : (o : Option Waiter) → candidate e ≡ o → revoked (go_on (turn_at owner e o) (settle_within k owner)).decisions ≡ n ∷ ns → Further
          → list_any (λ (w : Waiter). is_exclusive w.mode) (go_on (turn_at owner e o) (settle_within k owner)).entry.waiting ≡ true
      by None is some go = absurd (cc)
      by (Some w) is some go = of_mode w w.mode refl is go some

pub revocations_find_rights_law : RevocationsFindRights
unfolding settle
revocations_find_rights_law owner p e outs are = let r = revokes_within owner p (length e.waiting) e outs are in (r.finds, r.left)

pub a_writer_waits_law : AWriterWaits
unfolding settle
a_writer_waits_law owner n ns e some = writes_within owner 0 (length e.waiting) e n ns some
