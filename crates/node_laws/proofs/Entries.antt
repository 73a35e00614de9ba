-- What holds of an entry through everything that changes it, and of the decisions of settling it.
use Rattle.std.proofs.Common.{◌≡◌, refl, ℕ, zero, suc, ◌==◌, ◌&&◌, ◌||◌, not, Bool, true, false, List, [], ◌∷◌, ◌++◌, length, Option, Some, None, is_some, arith}
use Rattle.std.specs.Prelude.{◌≢◌, IfSome}
use Rattle.std.specs.List.{AllByRecursion}
use Rattle.pcl_base.specs.Limits.{Sizes}
use Rattle.pcl_base.specs.declared.tx.TxId.{TxId}
use Rattle.pcl_base.specs.declared.tx.Mode.{Mode}
use Rattle.pcl_base.specs.declared.tx.Mode.TheVariants.{Shared, Exclusive}
use Rattle.pcl_base.specs.declared.lock.Holder.{Holder}
use Rattle.pcl_base.specs.declared.lock.Waiter.{Waiter}
use Rattle.pcl_base.specs.declared.lock.RightMark.{RightMark}
use Rattle.pcl_base.specs.declared.lock.Decision.{Decision}
use Rattle.pcl_base.specs.declared.lock.Decision.TheVariants.{Grant, Revoke}
use Rattle.text_rules.specs.MessageBytes.{IsTx, IsRight}
use Rattle.node_rules.specs.Words.{pick, same_tx, covers, or_else, head_of}
use Rattle.node_rules.specs.LockRule.{LockEntry, Turn, Rest, Next, Settled, mode_of, ask, waits_in, register, returned, has_right, rights_without, waiting_without, reported, reported_right, purge, end_tx, hold_alone, revocations, all_revoked, candidate, first_upgrade, gives_right, exclusive_beside, held_beside, with_right, with_reader, with_writer, turn, turn_at, turn_for, turn_shared, turn_exclusive, go_on, settle_within, settle}
use Rattle.node_laws.specs.Nodes.{IsEntry, IsOther}
use Rattle.node_laws.proofs.Lists.{all_push, all_filter, all_map}

-- a decision that may be carried out
abbrev pub IsDecision : Sizes → ℕ → Decision → Type 0
IsDecision c me (Grant t m right have) = IsTx c t × IsRight m right
IsDecision c me (Revoke n) = IsOther c me n

module _ (c : Sizes) (me : ℕ) where
  abbrev Holds : Holder → Type 0
  Holds h = IsTx c h.tx

  abbrev Waits : Waiter → Type 0
  Waits w = IsTx c w.tx

  abbrev HasRight : RightMark → Type 0
  HasRight r = IsOther c me r.node

  pub ask_is : (e : LockEntry) (w : Waiter) → IsEntry c me e → IsTx c w.tx → IsEntry c me (ask e w)
  unfolding ask
  ask_is e w is tx = by (waits_in e.waiting w.tx || covers (mode_of e.holders w.tx) w.mode)
    where
      by : (b : Bool) → IsEntry c me (pick b e (record e { waiting = e.waiting ++ w ∷ [] }))
      by true = is
      by false = record { holders = is.holders; rights = is.rights; waiting = all_push Waits e.waiting w is.waiting tx }

  pub end_is : (t : TxId) (v : Option ℕ) (e : LockEntry) → IsEntry c me e → IsEntry c me (end_tx e t v)
  unfolding end_tx
  end_is t v e is =
      record {
        holders = all_filter Holds (λ h. not (same_tx h.tx t)) e.holders is.holders;
        rights = is.rights;
        waiting = all_filter Waits (λ w. not (same_tx w.tx t)) e.waiting is.waiting;
      }

  register_is : (ts : List TxId) (hs : List Holder) → AllByRecursion Holds hs → AllByRecursion (IsTx c) ts → AllByRecursion Holds (register hs ts)
  unfolding register
  register_is [] hs is all = is
  register_is (t ∷ ts) hs is all = register_is ts (pick (is_some (mode_of hs t)) hs (hs ++ record { tx = t; mode = Shared } ∷ [])) (by (is_some (mode_of hs t))) all.1
    where
      by : (b : Bool) → AllByRecursion Holds (pick b hs (hs ++ record { tx = t; mode = Shared } ∷ []))
      by true = is
      by false = all_push Holds hs (record { tx = t; mode = Shared }) is all.0

  pub returned_is : (n : ℕ) (readers : List TxId) (e : LockEntry) → IsEntry c me e → AllByRecursion (IsTx c) readers → IsEntry c me (returned e n readers)
  unfolding returned
  returned_is n readers e is all = by (has_right e.rights n)
    where
      by : (b : Bool) → IsEntry c me (pick b (record e { rights = rights_without e.rights n; holders = register e.holders readers }) e)
      by true =
          record {
            holders = register_is readers e.holders is.holders all;
            rights = all_filter HasRight (λ r. not (r.node == n)) e.rights is.rights;
            waiting = is.waiting;
          }
      by false = is

  pub reported_is : (t : TxId) (m : Mode) (e : LockEntry) → IsEntry c me e → IsTx c t → IsEntry c me (reported e t m)
  unfolding reported
  reported_is t m e is tx = by (is_some (mode_of e.holders t))
    where
      by : (b : Bool) → IsEntry c me (pick b e (record e { holders = e.holders ++ record { tx = t; mode = m } ∷ [] }))
      by true = is
      by false = record { holders = all_push Holds e.holders (record { tx = t; mode = m }) is.holders tx; rights = is.rights; waiting = is.waiting }

  pub reported_right_is : (n : ℕ) (e : LockEntry) → IsEntry c me e → IsOther c me n → IsEntry c me (reported_right e n)
  unfolding reported_right
  reported_right_is n e is other = by (has_right e.rights n)
    where
      by : (b : Bool) → IsEntry c me (pick b e (record e { rights = e.rights ++ record { node = n; revoked = false } ∷ [] }))
      by true = is
      by false = record { holders = is.holders; rights = all_push HasRight e.rights (record { node = n; revoked = false }) is.rights other; waiting = is.waiting }

  pub purge_is : (live : List Bool) (e : LockEntry) → IsEntry c me e → IsEntry c me (purge e live)
  unfolding purge
  purge_is live e is =
      record {
        holders = all_filter Holds _ e.holders is.holders;
        rights = all_filter HasRight _ e.rights is.rights;
        waiting = all_filter Waits _ e.waiting is.waiting;
      }

  -- the candidate waits
  head_is : (ws : List Waiter) → AllByRecursion Waits ws → IfSome (head_of ws) Waits
  head_is [] all = tt
  head_is (w ∷ ws) all = all.0

  upgrade_is : (hs : List Holder) (ws : List Waiter) → AllByRecursion Waits ws → IfSome (first_upgrade hs ws) Waits
  unfolding first_upgrade
  upgrade_is hs [] all = tt
  upgrade_is hs (w ∷ ws) all = by (is_some (mode_of hs w.tx)) (upgrade_is hs ws all.1)
    where
      by : (b : Bool) → IfSome (first_upgrade hs ws) Waits → IfSome (pick b (Some w) (first_upgrade hs ws)) Waits
      by true rest = all.0
      by false rest = rest

  candidate_is : (e : LockEntry) → IsEntry c me e → IfSome (candidate e) Waits
  unfolding candidate
  candidate_is e is = by (first_upgrade e.holders e.waiting) (upgrade_is e.holders e.waiting is.waiting)
    where
      by : (o : Option Waiter) → IfSome o Waits → IfSome (or_else o (head_of e.waiting)) Waits
      by None there = head_is e.waiting is.waiting
      by (Some w) there = there

  revocations_are : (rs : List RightMark) → AllByRecursion HasRight rs → AllByRecursion (IsDecision c me) (revocations rs)
  unfolding revocations
  revocations_are [] all = tt
  revocations_are (r ∷ rs) all = by r.revoked (revocations_are rs all.1)
    where
      by : (b : Bool) → AllByRecursion (IsDecision c me) (revocations rs) → AllByRecursion (IsDecision c me) (pick b (revocations rs) (Revoke r.node ∷ revocations rs))
      by true rest = rest
      by false rest = (all.0, rest)

  alone_is : (t : TxId) (hs : List Holder) → IsTx c t → AllByRecursion Holds hs → AllByRecursion Holds (hold_alone hs t)
  unfolding hold_alone
  alone_is t [] tx all = (tx, tt)
  alone_is t (h ∷ hs) tx all = by (same_tx h.tx t) (alone_is t hs tx all.1)
    where
      by : (b : Bool) → AllByRecursion Holds (hold_alone hs t) → AllByRecursion Holds (pick b (record { tx = t; mode = Exclusive } ∷ hs) (h ∷ hold_alone hs t))
      by true rest = (tx, all.1)
      by false rest = (all.0, rest)

  -- a turn that may be taken
  abbrev IsTurn : Turn → Type 0
  IsTurn (Rest ds e) = AllByRecursion (IsDecision c me) ds × IsEntry c me e
  IsTurn (Next d e) = IsDecision c me d × IsEntry c me e

  left : (t : TxId) (e : LockEntry) → IsEntry c me e → AllByRecursion Waits (waiting_without e.waiting t)
  left t e is = all_filter Waits (λ w. not (same_tx w.tx t)) e.waiting is.waiting

  -- a right is given to another node alone
  other_node : (n : ℕ) (a : Bool) → (not (n == me) && a) ≡ true → n ≢ me
  other_node n a e = grind arith

  gives_other : (e : LockEntry) (w : Waiter) → gives_right me e w ≡ true → IsTx c w.tx → IsOther c me w.tx.node
  unfolding gives_right
  gives_other e w g tx = (tx.0, other_node w.tx.node _ g)

  shared_is : (e : LockEntry) (w : Waiter) → IsEntry c me e → IsTx c w.tx → IsTurn (turn_shared me e w)
  shared_is e w is tx = by (exclusive_beside e.holders w.tx) (gives_right me e w) refl
    where
      by : (b g : Bool) → gives_right me e w ≡ g → IsTurn (pick b (Rest [] e) (Next (Grant w.tx Shared g w.have) (pick g (with_right e w) (with_reader e w))))
      by true g h = (tt, is)
      by false true h = (
        (tx, tt),
        record {
          holders = is.holders;
          rights = all_push HasRight e.rights (record { node = w.tx.node; revoked = false }) is.rights (gives_other e w h tx);
          waiting = left w.tx e is;
        },
      )
      by false false h = (
        (tx, tt),
        record {
          holders = all_push Holds e.holders (record { tx = w.tx; mode = Shared }) is.holders tx;
          rights = is.rights;
          waiting = left w.tx e is;
        },
      )

  exclusive_is : (e : LockEntry) (w : Waiter) → IsEntry c me e → IsTx c w.tx → IsTurn (turn_exclusive e w)
  exclusive_is e w is tx = by (held_beside e.holders w.tx || not (length e.rights == 0))
    where
      by : (b : Bool)
          → IsTurn (pick b (Rest (revocations e.rights) (record e { rights = all_revoked e.rights })) (Next (Grant w.tx Exclusive false w.have) (with_writer e w)))
      by true = (
        revocations_are e.rights is.rights,
        record {
          holders = is.holders;
          rights = all_map HasRight HasRight (λ r. record { node = r.node; revoked = true }) (λ r h. h) e.rights is.rights;
          waiting = is.waiting;
        },
      )
      by false = ((tx, refl), record { holders = alone_is w.tx e.holders tx is.holders; rights = is.rights; waiting = left w.tx e is })

  turn_is : (e : LockEntry) → IsEntry c me e → IsTurn (turn me e)
  unfolding turn
  turn_is e is = by (candidate e) (candidate_is e is)
    where
      mode_by : (w : Waiter) → IsTx c w.tx → (m : Mode) → IsTurn (turn_for me e w m)
      mode_by w tx Shared = shared_is e w is tx
      mode_by w tx Exclusive = exclusive_is e w is tx

      by : (o : Option Waiter) → IfSome o Waits → IsTurn (turn_at me e o)
      by None there = (tt, is)
      by (Some w) there = mode_by w there w.mode

  -- what settling comes to
  abbrev pub IsSettled : Settled → Type 0
  IsSettled s = AllByRecursion (IsDecision c me) s.decisions × IsEntry c me s.entry

  go_on_is : (t : Turn) (further : LockEntry → Settled) → ((e : LockEntry) → IsEntry c me e → IsSettled (further e)) → IsTurn t → IsSettled (go_on t further)
  go_on_is (Rest ds e) further k is = is
  go_on_is (Next d e) further k is = let rest = k e is.1 in ((is.0, rest.0), rest.1)

  within_is : (n : ℕ) (e : LockEntry) → IsEntry c me e → IsSettled (settle_within n me e)
  unfolding settle_within
  within_is zero e is = (tt, is)
  within_is (suc n) e is = go_on_is (turn me e) (settle_within n me) (within_is n) (turn_is e is)

  pub settle_is : (e : LockEntry) → IsEntry c me e → IsSettled (settle me e)
  unfolding settle
  settle_is e is = within_is (length e.waiting) e is
