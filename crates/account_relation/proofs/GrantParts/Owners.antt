-- Settling gives no right to its owner.
use Rattle.std.proofs.Common.{◌≡◌, refl, ℕ, zero, suc, ◌==◌, ◌&&◌, ◌||◌, not, Bool, true, false, List, [], ◌∷◌, length, Option, Some, None}
use Rattle.std.specs.List.{list_any}
use Rattle.pcl_base.specs.declared.tx.Mode.{Mode}
use Rattle.pcl_base.specs.declared.tx.Mode.TheVariants.{Shared, Exclusive}
use Rattle.pcl_base.specs.declared.lock.Decision.TheVariants.{Grant, Revoke}
use Rattle.pcl_base.specs.declared.lock.RightMark.{RightMark}
use Rattle.pcl_base.specs.declared.lock.Waiter.{Waiter}
use Rattle.node_rules.specs.Words.{pick, is_exclusive}
use Rattle.node_rules.specs.LockRule.{LockEntry, Rest, Next, has_right, turn, turn_at, turn_for, go_on, settle_within, settle, candidate, held_beside, exclusive_beside, waiting_without, gives_right, with_right, with_reader, with_writer, revocations, all_revoked}
use Rattle.home_laws.proofs.Tests.{and_left, not_true}
use Rattle.account_relation.specs.Grant.Decided.{GivesOwnNone, OwnersGetNoRights}

module _ (n : ℕ) where
  revokes_none : (rs : List RightMark) → GivesOwnNone n (revocations rs)
  unfolding GivesOwnNone revocations
  revokes_none [] = tt
  revokes_none (r ∷ rs) = by r.revoked (revokes_none rs)
    where
      by : (b : Bool) → GivesOwnNone n (revocations rs) → GivesOwnNone n (pick b (revocations rs) (Revoke r.node ∷ revocations rs))
      by true rest = rest
      by false rest = rest

  none_within : (k : ℕ) (e : LockEntry) → GivesOwnNone n (settle_within k n e).decisions
  unfolding settle_within turn GivesOwnNone gives_right
  none_within zero e = tt
  none_within (suc k) e = by (candidate e) (λ d. none_within k d)
    where
      Further : Type 0
      Further = (d : LockEntry) → GivesOwnNone n (settle_within k n d).decisions

      other : (w : Waiter) → gives_right n e w ≡ true → (w.tx.node == n) ≡ true → (let b : Bool = true in b) ≡ false
      other w gives own =
          let apart = not_true (w.tx.node == n) (and_left (not (w.tx.node == n)) (not (has_right e.rights w.tx.node) && not (list_any (λ (x : Waiter). is_exclusive x.mode) (waiting_without e.waiting w.tx))) gives) in
          absurd (cc)

      shared : (w : Waiter) (a b : Bool) → gives_right n e w ≡ b → Further
          → GivesOwnNone n (go_on (pick a (Rest [] e) (Next (Grant w.tx Shared b w.have) (pick b (with_right e w) (with_reader e w)))) (settle_within k n)).decisions
      shared w true b gives go = tt
      shared w false true gives go = (other w gives, go (with_right e w))
      shared w false false gives go = ((λ own. refl), go (with_reader e w))

      alone : (w : Waiter) (a : Bool) → Further
          → GivesOwnNone n (go_on (pick a (Rest (revocations e.rights) (record e { rights = all_revoked e.rights })) (Next (Grant w.tx Exclusive false w.have) (with_writer e w))) (settle_within k n)).decisions
      alone w true go = revokes_none e.rights
      alone w false go = ((λ own. refl), go (with_writer e w))

      of_mode : (w : Waiter) (m : Mode) → Further → GivesOwnNone n (go_on (turn_for n e w m) (settle_within k n)).decisions
      of_mode w Shared go = shared w (exclusive_beside e.holders w.tx) (gives_right n e w) refl go
      of_mode w Exclusive go = alone w (held_beside e.holders w.tx || not (length e.rights == 0)) go

      by : (o : Option Waiter) → Further → GivesOwnNone n (go_on (turn_at n e o) (settle_within k n)).decisions
      by None go = tt
      by (Some w) go = of_mode w w.mode go

pub owners_get_no_rights_law : OwnersGetNoRights
unfolding settle
owners_get_no_rights_law n e = none_within n (length e.waiting) e
