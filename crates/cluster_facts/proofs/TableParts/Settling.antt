-- What holds of every transaction and node of an entry, through settling; and what is purged.
use Rattle.std.proofs.Common.{◌≡◌, refl, ℕ, zero, suc, ◌==◌, ◌||◌, not, cond, Bool, true, false, List, [], ◌∷◌, length, Option, Some, None, is_some}
use Rattle.std.specs.Prelude.{IfSome}
use Rattle.std.specs.List.{AllByRecursion, filter}
use Rattle.pcl_base.specs.declared.lock.Decision.TheVariants.{Grant}
use Rattle.pcl_base.specs.declared.lock.Holder.{Holder}
use Rattle.pcl_base.specs.declared.lock.RightMark.{RightMark}
use Rattle.pcl_base.specs.declared.lock.Waiter.{Waiter}
use Rattle.pcl_base.specs.declared.tx.Mode.{Mode}
use Rattle.pcl_base.specs.declared.tx.Mode.TheVariants.{Shared, Exclusive}
use Rattle.pcl_base.specs.declared.tx.TxId.{TxId}
use Rattle.node_rules.specs.InstallRule.{purge_table}
use Rattle.node_rules.specs.LockRule.{LockEntry, Turn, Rest, Next, Settled, mode_of, waiting_without, purge, revocations, all_revoked, candidate, first_upgrade, gives_right, exclusive_beside, held_beside, hold_alone, with_right, with_reader, with_writer, turn, turn_at, turn_for, turn_shared, turn_exclusive, go_on, settle_within, settle}
use Rattle.node_rules.specs.LockTable.{PageEntry, LockTable}
use Rattle.node_rules.specs.Words.{pick, same_tx, flag_at, or_else, head_of}
use Rattle.node_laws.proofs.Lists.{all_push, all_filter, all_map}
use Rattle.cluster_facts.proofs.TableParts.Entries.{Held, Marked, Waits, EntryHas, TableHas}

module _ (P : TxId → Type 0) (R : ℕ → Type 0) (gives : (t : TxId) → P t → R t.node) where
  head_has : (ws : List Waiter) → AllByRecursion (Waits P R) ws → IfSome (head_of ws) (Waits P R)
  head_has [] all = tt
  head_has (w ∷ ws) all = all.0

  upgrade_has : (hs : List Holder) (ws : List Waiter) → AllByRecursion (Waits P R) ws → IfSome (first_upgrade hs ws) (Waits P R)
  unfolding first_upgrade
  upgrade_has hs [] all = tt
  upgrade_has hs (w ∷ ws) all = by (is_some (mode_of hs w.tx)) (upgrade_has hs ws all.1)
    where
      by : (b : Bool) → IfSome (first_upgrade hs ws) (Waits P R) → IfSome (pick b (Some w) (first_upgrade hs ws)) (Waits P R)
      by true rest = all.0
      by false rest = rest

  candidate_has : (e : LockEntry) → EntryHas P R e → IfSome (candidate e) (Waits P R)
  unfolding candidate
  candidate_has e all = by (first_upgrade e.holders e.waiting) (upgrade_has e.holders e.waiting all.2)
    where
      by : (o : Option Waiter) → IfSome o (Waits P R) → IfSome (or_else o (head_of e.waiting)) (Waits P R)
      by None there = head_has e.waiting all.2
      by (Some w) there = there

  alone_has : (hs : List Holder) (t : TxId) → P t → AllByRecursion (Held P R) hs → AllByRecursion (Held P R) (hold_alone hs t)
  unfolding hold_alone
  alone_has [] t is all = (is, tt)
  alone_has (h ∷ hs) t is all = by (same_tx h.tx t) (alone_has hs t is all.1)
    where
      by : (b : Bool) → AllByRecursion (Held P R) (hold_alone hs t) → AllByRecursion (Held P R) (pick b (record { tx = t; mode = Exclusive } ∷ hs) (h ∷ hold_alone hs t))
      by true rest = (is, all.1)
      by false rest = (all.0, rest)

  -- the entry after a turn
  abbrev TurnHas : Turn → Type 0
  TurnHas (Rest ds e) = EntryHas P R e
  TurnHas (Next d e) = EntryHas P R e

  left : (t : TxId) (e : LockEntry) → EntryHas P R e → AllByRecursion (Waits P R) (waiting_without e.waiting t)
  left t e all = all_filter (Waits P R) (λ w. not (same_tx w.tx t)) e.waiting all.2

  module _ (me : ℕ) where
    shared_has : (e : LockEntry) (w : Waiter) → EntryHas P R e → P w.tx → TurnHas (turn_shared me e w)
    shared_has e w all tx = by (exclusive_beside e.holders w.tx) (gives_right me e w)
      where
        by : (b g : Bool) → TurnHas (pick b (Rest [] e) (Next (Grant w.tx Shared (gives_right me e w) w.have) (pick g (with_right e w) (with_reader e w))))
        by true g = all
        by false true = (all.0, all_push (Marked P R) e.rights (record { node = w.tx.node; revoked = false }) all.1 (gives w.tx tx), left w.tx e all)
        by false false = (all_push (Held P R) e.holders (record { tx = w.tx; mode = Shared }) all.0 tx, all.1, left w.tx e all)

    exclusive_has : (e : LockEntry) (w : Waiter) → EntryHas P R e → P w.tx → TurnHas (turn_exclusive e w)
    exclusive_has e w all tx = by (held_beside e.holders w.tx || not (length e.rights == 0))
      where
        by : (b : Bool)
            → TurnHas (pick b (Rest (revocations e.rights) (record e { rights = all_revoked e.rights })) (Next (Grant w.tx Exclusive false w.have) (with_writer e w)))
        by true = (all.0, all_map (Marked P R) (Marked P R) (λ (r : RightMark). record { node = r.node; revoked = true }) (λ r is. is) e.rights all.1, all.2)
        by false = (alone_has e.holders w.tx tx all.0, all.1, left w.tx e all)

    turn_has : (e : LockEntry) → EntryHas P R e → TurnHas (turn me e)
    unfolding turn
    turn_has e all = by (candidate e) (candidate_has e all)
      where
        mode_by : (w : Waiter) → P w.tx → (m : Mode) → TurnHas (turn_for me e w m)
        mode_by w tx Shared = shared_has e w all tx
        mode_by w tx Exclusive = exclusive_has e w all tx

        by : (o : Option Waiter) → IfSome o (Waits P R) → TurnHas (turn_at me e o)
        by None there = all
        by (Some w) there = mode_by w there w.mode

    go_on_has : (t : Turn) (further : LockEntry → Settled) → ((e : LockEntry) → EntryHas P R e → EntryHas P R (further e).entry) → TurnHas t → EntryHas P R (go_on t further).entry
    go_on_has (Rest ds e) further k is = is
    go_on_has (Next d e) further k is = k e is

    within_has : (n : ℕ) (e : LockEntry) → EntryHas P R e → EntryHas P R (settle_within n me e).entry
    unfolding settle_within
    within_has zero e all = all
    within_has (suc n) e all = go_on_has (turn me e) (settle_within n me) (within_has n) (turn_has e all)

    pub settle_has : (e : LockEntry) → EntryHas P R e → EntryHas P R (settle me e).entry
    unfolding settle
    settle_has e all = within_has (length e.waiting) e all

-- what is purged leaves what live nodes have
module _ {X : Type 0} (P Q : X → Type 0) (keep : X → Bool) (k : (x : X) → keep x ≡ true → P x → Q x) where
  filtered : (xs : List X) → AllByRecursion P xs → AllByRecursion Q (filter keep xs)
  filtered [] all = tt
  filtered (x ∷ xs) all = by (keep x) refl (filtered xs all.1)
    where
      by : (b : Bool) → keep x ≡ b → AllByRecursion Q (filter keep xs) → AllByRecursion Q (cond b (x ∷ filter keep xs) (filter keep xs))
      by true e rest = (k x e all.0, rest)
      by false e rest = rest

module _ (P Q : TxId → Type 0) (R S : ℕ → Type 0) (live : List Bool) (k : (t : TxId) → flag_at live t.node ≡ true → P t → Q t) (l : (n : ℕ) → flag_at live n ≡ true → R n → S n) where
  pub purge_has : (t : LockTable) → TableHas P R t → TableHas Q S (purge_table live t)
  unfolding purge
  purge_has t all =
      all_map (λ (x : PageEntry). EntryHas P R x.entry) (λ (x : PageEntry). EntryHas Q S x.entry) (λ (x : PageEntry). record { page = x.page; entry = purge x.entry live })
      (λ x is. (
        filtered (Held P R) (Held Q S) (λ (h : Holder). flag_at live h.tx.node) (λ h e y. k h.tx e y) x.entry.holders is.0,
        filtered (Marked P R) (Marked Q S) (λ (r : RightMark). flag_at live r.node) (λ r e y. l r.node e y) x.entry.rights is.1,
        filtered (Waits P R) (Waits Q S) (λ (w : Waiter). flag_at live w.tx.node) (λ w e y. k w.tx e y) x.entry.waiting is.2,
      ))
      t.entries all
