-- Settling, against items and rights that are out.
use Rattle.std.proofs.Common.{◌≡◌, refl, ap, sym, subst, ◌∙◌, ℕ, zero, suc, ◌==◌, ◌&&◌, ◌||◌, not, cond, Bool, true, false, List, [], ◌∷◌, length, Option, Some, None, is_some}
use Rattle.std.specs.List.{AllByRecursion, filter}
use Rattle.pcl_base.specs.declared.tx.TxId.{TxId}
use Rattle.pcl_base.specs.declared.tx.Mode.{Mode}
use Rattle.pcl_base.specs.declared.tx.Mode.TheVariants.{Shared, Exclusive}
use Rattle.pcl_base.specs.declared.lock.Decision.TheVariants.{Grant, Revoke}
use Rattle.pcl_base.specs.declared.lock.Holder.{Holder}
use Rattle.pcl_base.specs.declared.lock.RightMark.{RightMark}
use Rattle.pcl_base.specs.declared.lock.Waiter.{Waiter}
use Rattle.run_rules.specs.Causes.{without_first}
use Rattle.run_rules.specs.Ledger.{Want, is_want, same_mode}
use Rattle.node_rules.specs.Words.{pick, same_tx, or_else, head_of}
use Rattle.node_rules.specs.LockRule.{LockEntry, Rest, Next, Settled, after_decision, mode_of, turn, turn_at, turn_for, go_on, settle_within, settle, candidate, first_upgrade, held_beside, exclusive_beside, waiting_without, gives_right, with_right, with_reader, with_writer, revocations, all_revoked}
use Rattle.home_laws.proofs.Tests.{and_left, not_true, tx_same, tx_equal}
use Rattle.account_relation.specs.Settle.Settling.{has_item, AreWanted, items_after, items_left, FindItems, GrantsFindItems}

-- ---- who waits

-- what all that wait have, the candidate has
module _ (P : Waiter → Type 0) where
  first_all : (hs : List Holder) (ws : List Waiter) (w : Waiter) → AllByRecursion P ws → first_upgrade hs ws ≡ Some w → P w
  unfolding first_upgrade
  first_all hs [] w all e = absurd (cc)
  first_all hs (x ∷ ws) w all e = by (is_some (mode_of hs x.tx)) e (first_all hs ws w all.1)
    where
      by : (b : Bool) → pick b (Some x) (first_upgrade hs ws) ≡ Some w → (first_upgrade hs ws ≡ Some w → P w) → P w
      by true e rest = let same : x ≡ w = cc in subst P same all.0
      by false e rest = rest e

  head_all : (ws : List Waiter) (w : Waiter) → AllByRecursion P ws → head_of ws ≡ Some w → P w
  head_all [] w all e = absurd (cc)
  head_all (x ∷ ws) w all e = let same : x ≡ w = cc in subst P same all.0

  candidate_all : (e : LockEntry) (w : Waiter) → AllByRecursion P e.waiting → candidate e ≡ Some w → P w
  unfolding candidate
  candidate_all e w all is = by (first_upgrade e.holders e.waiting) refl is
    where
      by : (o : Option Waiter) → first_upgrade e.holders e.waiting ≡ o → or_else o (head_of e.waiting) ≡ Some w → P w
      by None at is = head_all e.waiting w all is
      by (Some x) at is = first_all e.holders e.waiting w all (at ∙ is)

-- the rest of a list, and what its items have by a test
all_filtered : {X : Type 0} (P Q : X → Type 0) (f : X → Bool) → ((x : X) → f x ≡ true → P x → Q x) → (xs : List X) → AllByRecursion P xs → AllByRecursion Q (filter f xs)
all_filtered P Q f k [] all = tt
all_filtered P Q f k (x ∷ xs) all = by (f x) refl (all_filtered P Q f k xs all.1)
  where
    by : (b : Bool) → f x ≡ b → AllByRecursion Q (filter f xs) → AllByRecursion Q (cond b (x ∷ filter f xs) (filter f xs))
    by true is rest = (k x is all.0, rest)
    by false is rest = rest

-- ---- items

-- of two tests on one item of different transactions one fails
not_both : (t u : TxId) (p : ℕ) (m k : Mode) (y : Want) → same_tx u t ≡ false → is_want t p m y ≡ true → is_want u p k y ≡ true → ⊥
not_both t u p m k y other a b =
    let first : same_tx y.tx t ≡ true = and_left (same_tx y.tx t) (y.page == p) (and_left (same_tx y.tx t && y.page == p) (same_mode y.mode m) a) in
    let second : same_tx y.tx u ≡ true = and_left (same_tx y.tx u) (y.page == p) (and_left (same_tx y.tx u && y.page == p) (same_mode y.mode k) b) in
    let same : u ≡ t = sym (tx_equal y.tx u second) ∙ tx_equal y.tx t first in
    let yes : same_tx u t ≡ true = ap (λ (x : TxId). same_tx x t) same ∙ tx_same t in
    cc

item_kept : (ws : List Want) (t u : TxId) (p : ℕ) (m k : Mode) → same_tx u t ≡ false → has_item ws u p k ≡ true → has_item (without_first (is_want t p m) ws) u p k ≡ true
unfolding without_first
item_kept [] t u p m k other has = has
item_kept (y ∷ ys) t u p m k other has = by (is_want t p m y) (is_want u p k y) refl refl has (item_kept ys t u p m k other)
  where
    by : (a b : Bool) → is_want t p m y ≡ a → is_want u p k y ≡ b → b || has_item ys u p k ≡ true → (has_item ys u p k ≡ true → has_item (without_first (is_want t p m) ys) u p k ≡ true)
        → has_item (pick a ys (y ∷ without_first (is_want t p m) ys)) u p k ≡ true
    by true true first second has rest = absurd (not_both t u p m k y other first second)
    by true false first second has rest = has
    by false true first second has rest = ap (λ b. b || has_item (without_first (is_want t p m) ys) u p k) second
    by false false first second has rest = ap (λ b. b || has_item (without_first (is_want t p m) ys) u p k) second ∙ rest has

module _ (owner p : ℕ) where
  -- who waits on has its item still
  wanted_on : (ws : List Want) (waiting : List Waiter) (t : TxId) (m : Mode) → AreWanted owner p ws waiting → AreWanted owner p (items_after owner p t m ws) (waiting_without waiting t)
  wanted_on ws waiting t m are =
      all_filtered (λ (w : Waiter). (w.tx.node == owner) ≡ false → has_item ws w.tx p w.mode ≡ true) (λ (w : Waiter). (w.tx.node == owner) ≡ false → has_item (items_after owner p t m ws) w.tx p w.mode ≡ true)
      (λ (w : Waiter). not (same_tx w.tx t)) (λ w other has foreign. by w (t.node == owner) (not_true (same_tx w.tx t) other) (has foreign)) waiting are
    where
      by : (w : Waiter) (b : Bool) → same_tx w.tx t ≡ false → has_item ws w.tx p w.mode ≡ true → has_item (pick b ws (without_first (is_want t p m) ws)) w.tx p w.mode ≡ true
      by w true other has = has
      by w false other has = item_kept ws t w.tx p m w.mode other has

  -- what a settling comes to
  record Granting (ws : List Want) (s : Settled) : Type 0 where
    finds : FindItems owner p s.decisions ws
    left : AreWanted owner p (items_left owner p s.decisions ws) s.entry.waiting

  -- revocations leave the items
  revokes_find : (rs : List RightMark) (ws : List Want) → FindItems owner p (revocations rs) ws × (items_left owner p (revocations rs) ws ≡ ws)
  unfolding FindItems items_left revocations
  revokes_find [] ws = (tt, refl)
  revokes_find (r ∷ rs) ws = by r.revoked (revokes_find rs ws)
    where
      by : (b : Bool) → FindItems owner p (revocations rs) ws × (items_left owner p (revocations rs) ws ≡ ws)
          → FindItems owner p (pick b (revocations rs) (Revoke r.node ∷ revocations rs)) ws × (items_left owner p (pick b (revocations rs) (Revoke r.node ∷ revocations rs)) ws ≡ ws)
      by true rest = rest
      by false rest = rest

  grants_within : (n : ℕ) (e : LockEntry) (ws : List Want) → AreWanted owner p ws e.waiting → Granting ws (settle_within n owner e)
  unfolding settle_within turn FindItems items_left
  grants_within zero e ws are = record { finds = tt; left = are }
  grants_within (suc n) e ws are = by (candidate e) refl (λ d xs all. grants_within n d xs all)
    where
      -- the settling ends
      ends : Granting ws (record { decisions = []; entry = e })
      ends = record { finds = tt; left = are }

      -- or goes on after a grant
      next : (w : Waiter) → ((w.tx.node == owner) ≡ false → has_item ws w.tx p w.mode ≡ true) → (m : Mode) → w.mode ≡ m → (right : Bool) (d : LockEntry) → d.waiting ≡ waiting_without e.waiting w.tx
          → ((d : LockEntry) (xs : List Want) → AreWanted owner p xs d.waiting → Granting xs (settle_within n owner d)) → Granting ws (after_decision (Grant w.tx m right w.have) (settle_within n owner d))
      next w has m mode right d waits go =
          let rest = go d (items_after owner p w.tx m ws) (subst (AreWanted owner p (items_after owner p w.tx m ws)) (sym waits) (wanted_on ws e.waiting w.tx m are)) in
          record { finds = ((λ foreign. subst (λ (k : Mode). has_item ws w.tx p k ≡ true) mode (has foreign)), rest.finds); left = rest.left }

      shared : (w : Waiter) → ((w.tx.node == owner) ≡ false → has_item ws w.tx p w.mode ≡ true) → w.mode ≡ Shared → (a b : Bool)
          → ((d : LockEntry) (xs : List Want) → AreWanted owner p xs d.waiting → Granting xs (settle_within n owner d))
          → Granting ws (go_on (pick a (Rest [] e) (Next (Grant w.tx Shared b w.have) (pick b (with_right e w) (with_reader e w)))) (settle_within n owner))
      shared w has mode true b go = ends
      shared w has mode false true go = next w has Shared mode true (with_right e w) refl go
      shared w has mode false false go = next w has Shared mode false (with_reader e w) refl go

      alone : (w : Waiter) → ((w.tx.node == owner) ≡ false → has_item ws w.tx p w.mode ≡ true) → w.mode ≡ Exclusive → (a : Bool)
          → ((d : LockEntry) (xs : List Want) → AreWanted owner p xs d.waiting → Granting xs (settle_within n owner d))
          → Granting ws (go_on (pick a (Rest (revocations e.rights) (record e { rights = all_revoked e.rights })) (Next (Grant w.tx Exclusive false w.have) (with_writer e w))) (settle_within n owner))
      alone w has mode true go =
          let none = revokes_find e.rights ws in record { finds = none.0; left = subst (λ (xs : List Want). AreWanted owner p xs e.waiting) (sym none.1) are }
      alone w has mode false go = next w has Exclusive mode false (with_writer e w) refl go

      of_mode : (w : Waiter) → ((w.tx.node == owner) ≡ false → has_item ws w.tx p w.mode ≡ true) → (m : Mode) → w.mode ≡ m
          → ((d : LockEntry) (xs : List Want) → AreWanted owner p xs d.waiting → Granting xs (settle_within n owner d)) → Granting ws (go_on (turn_for owner e w m) (settle_within n owner))
      of_mode w has Shared mode go = shared w has mode (exclusive_beside e.holders w.tx) (gives_right owner e w) go
      of_mode w has Exclusive mode go = alone w has mode (held_beside e.holders w.tx || not (length e.rights == 0)) go

      by : (o : Option Waiter) → candidate e ≡ o → ((d : LockEntry) (xs : List Want) → AreWanted owner p xs d.waiting → Granting xs (settle_within n owner d))
          → Granting ws (go_on (turn_at owner e o) (settle_within n owner))
      by None is go = ends
      by (Some w) is go = of_mode w (candidate_all (λ (x : Waiter). (x.tx.node == owner) ≡ false → has_item ws x.tx p x.mode ≡ true) e w are is) w.mode refl go

pub grants_find_items_law : GrantsFindItems
unfolding settle
grants_find_items_law owner p e ws are = let g = grants_within owner p (length e.waiting) e ws are in (g.finds, g.left)
