-- What holds of every transaction that waits in a table, through everything that changes a table.
use Rattle.std.proofs.Common.{◌≡◌, refl, ℕ, zero, suc, ◌==◌, ◌||◌, not, cond, Bool, true, false, List, [], ◌∷◌, ◌++◌, length, map, Option, Some, None, is_some}
use Rattle.std.specs.Prelude.{IfSome, ⊤}
use Rattle.std.specs.List.{AllByRecursion, filter}
use Rattle.pcl_base.specs.Limits.{Sizes}
use Rattle.pcl_base.specs.declared.lock.Decision.{Decision}
use Rattle.pcl_base.specs.declared.lock.Decision.TheVariants.{Grant, Revoke}
use Rattle.pcl_base.specs.declared.lock.Holder.{Holder}
use Rattle.pcl_base.specs.declared.lock.RightMark.{RightMark}
use Rattle.pcl_base.specs.declared.lock.Waiter.{Waiter}
use Rattle.pcl_base.specs.declared.message.Report.{Report}
use Rattle.pcl_base.specs.declared.message.ReportLock.{ReportLock}
use Rattle.pcl_base.specs.declared.message.ReportRight.{ReportRight}
use Rattle.pcl_base.specs.declared.message.ReportWait.{ReportWait}
use Rattle.pcl_base.specs.declared.tx.Mode.{Mode}
use Rattle.pcl_base.specs.declared.tx.Mode.TheVariants.{Shared, Exclusive}
use Rattle.pcl_base.specs.declared.tx.TxId.{TxId}
use Rattle.node_rules.specs.InstallRule.{purge_table}
use Rattle.node_rules.specs.LockRule.{LockEntry, Turn, Rest, Next, Settled, idle, mode_of, ask, waits_in, returned, has_right, rights_without, register, waiting_without, reported, reported_right, purge, end_tx, revocations, all_revoked, candidate, first_upgrade, gives_right, exclusive_beside, held_beside, with_right, with_reader, with_writer, turn, turn_at, turn_for, turn_shared, turn_exclusive, go_on, settle_within, settle}
use Rattle.node_rules.specs.LockTable.{PageEntry, LockTable, pages_of, open_table, entry_in, entries_with, entry_at, put_entry, set_version}
use Rattle.node_rules.specs.Reports.{gather_locks, gather_rights, gather_waits, gather}
use Rattle.node_rules.specs.Words.{pick, same_tx, covers, flag_at, or_else, head_of}
use Rattle.node_laws.proofs.Lists.{all_push, all_filter}

module _ (P : TxId → Type 0) where
  abbrev Waits : Waiter → Type 0
  Waits w = P w.tx

  -- of an entry, a table and a decision
  abbrev pub EntryWaits : LockEntry → Type 0
  EntryWaits e = AllByRecursion Waits e.waiting

  abbrev pub TableWaits : LockTable → Type 0
  TableWaits t = AllByRecursion (λ (x : PageEntry). EntryWaits x.entry) t.entries

  abbrev pub DecisionWaits : Decision → Type 0
  DecisionWaits (Grant t m right have) = P t
  DecisionWaits (Revoke n) = ⊤

  -- ---- an entry
  pub ask_waits : (e : LockEntry) (w : Waiter) → P w.tx → EntryWaits e → EntryWaits (ask e w)
  unfolding ask
  ask_waits e w tx all = by (waits_in e.waiting w.tx || covers (mode_of e.holders w.tx) w.mode)
    where
      by : (b : Bool) → EntryWaits (pick b e (record e { waiting = e.waiting ++ w ∷ [] }))
      by true = all
      by false = all_push Waits e.waiting w all tx

  pub end_waits : (t : TxId) (v : Option ℕ) (e : LockEntry) → EntryWaits e → EntryWaits (end_tx e t v)
  unfolding end_tx
  end_waits t v e all = all_filter Waits (λ w. not (same_tx w.tx t)) e.waiting all

  pub returned_waits : (n : ℕ) (readers : List TxId) (e : LockEntry) → EntryWaits e → EntryWaits (returned e n readers)
  unfolding returned
  returned_waits n readers e all = by (has_right e.rights n)
    where
      by : (b : Bool) → EntryWaits (pick b (record e { rights = rights_without e.rights n; holders = register e.holders readers }) e)
      by true = all
      by false = all

  reported_waits : (t : TxId) (m : Mode) (e : LockEntry) → EntryWaits e → EntryWaits (reported e t m)
  unfolding reported
  reported_waits t m e all = by (is_some (mode_of e.holders t))
    where
      by : (b : Bool) → EntryWaits (pick b e (record e { holders = e.holders ++ record { tx = t; mode = m } ∷ [] }))
      by true = all
      by false = all

  right_waits : (n : ℕ) (e : LockEntry) → EntryWaits e → EntryWaits (reported_right e n)
  unfolding reported_right
  right_waits n e all = by (has_right e.rights n)
    where
      by : (b : Bool) → EntryWaits (pick b e (record e { rights = e.rights ++ record { node = n; revoked = false } ∷ [] }))
      by true = all
      by false = all

  -- ---- settling
  head_waits : (ws : List Waiter) → AllByRecursion Waits ws → IfSome (head_of ws) Waits
  head_waits [] all = tt
  head_waits (w ∷ ws) all = all.0

  upgrade_waits : (hs : List Holder) (ws : List Waiter) → AllByRecursion Waits ws → IfSome (first_upgrade hs ws) Waits
  unfolding first_upgrade
  upgrade_waits hs [] all = tt
  upgrade_waits hs (w ∷ ws) all = by (is_some (mode_of hs w.tx)) (upgrade_waits hs ws all.1)
    where
      by : (b : Bool) → IfSome (first_upgrade hs ws) Waits → IfSome (pick b (Some w) (first_upgrade hs ws)) Waits
      by true rest = all.0
      by false rest = rest

  candidate_waits : (e : LockEntry) → EntryWaits e → IfSome (candidate e) Waits
  unfolding candidate
  candidate_waits e all = by (first_upgrade e.holders e.waiting) (upgrade_waits e.holders e.waiting all)
    where
      by : (o : Option Waiter) → IfSome o Waits → IfSome (or_else o (head_of e.waiting)) Waits
      by None there = head_waits e.waiting all
      by (Some w) there = there

  revocations_wait : (rs : List RightMark) → AllByRecursion DecisionWaits (revocations rs)
  unfolding revocations
  revocations_wait [] = tt
  revocations_wait (r ∷ rs) = by r.revoked (revocations_wait rs)
    where
      by : (b : Bool) → AllByRecursion DecisionWaits (revocations rs) → AllByRecursion DecisionWaits (pick b (revocations rs) (Revoke r.node ∷ revocations rs))
      by true rest = rest
      by false rest = (tt, rest)

  abbrev TurnWaits : Turn → Type 0
  TurnWaits (Rest ds e) = AllByRecursion DecisionWaits ds × EntryWaits e
  TurnWaits (Next d e) = DecisionWaits d × EntryWaits e

  left : (t : TxId) (e : LockEntry) → EntryWaits e → AllByRecursion Waits (waiting_without e.waiting t)
  left t e all = all_filter Waits (λ w. not (same_tx w.tx t)) e.waiting all

  module _ (me : ℕ) where
    shared_waits : (e : LockEntry) (w : Waiter) → EntryWaits e → P w.tx → TurnWaits (turn_shared me e w)
    shared_waits e w all tx = by (exclusive_beside e.holders w.tx) (gives_right me e w)
      where
        by : (b g : Bool) → TurnWaits (pick b (Rest [] e) (Next (Grant w.tx Shared g w.have) (pick g (with_right e w) (with_reader e w))))
        by true g = (tt, all)
        by false true = (tx, left w.tx e all)
        by false false = (tx, left w.tx e all)

    exclusive_waits : (e : LockEntry) (w : Waiter) → EntryWaits e → P w.tx → TurnWaits (turn_exclusive e w)
    exclusive_waits e w all tx = by (held_beside e.holders w.tx || not (length e.rights == 0))
      where
        by : (b : Bool)
            → TurnWaits (pick b (Rest (revocations e.rights) (record e { rights = all_revoked e.rights })) (Next (Grant w.tx Exclusive false w.have) (with_writer e w)))
        by true = (revocations_wait e.rights, all)
        by false = (tx, left w.tx e all)

    turn_waits : (e : LockEntry) → EntryWaits e → TurnWaits (turn me e)
    unfolding turn
    turn_waits e all = by (candidate e) (candidate_waits e all)
      where
        mode_by : (w : Waiter) → P w.tx → (m : Mode) → TurnWaits (turn_for me e w m)
        mode_by w tx Shared = shared_waits e w all tx
        mode_by w tx Exclusive = exclusive_waits e w all tx

        by : (o : Option Waiter) → IfSome o Waits → TurnWaits (turn_at me e o)
        by None there = (tt, all)
        by (Some w) there = mode_by w there w.mode

    abbrev pub SettledWaits : Settled → Type 0
    SettledWaits s = AllByRecursion DecisionWaits s.decisions × EntryWaits s.entry

    go_on_waits : (t : Turn) (further : LockEntry → Settled) → ((e : LockEntry) → EntryWaits e → SettledWaits (further e)) → TurnWaits t → SettledWaits (go_on t further)
    go_on_waits (Rest ds e) further k is = is
    go_on_waits (Next d e) further k is = let rest = k e is.1 in ((is.0, rest.0), rest.1)

    within_waits : (n : ℕ) (e : LockEntry) → EntryWaits e → SettledWaits (settle_within n me e)
    unfolding settle_within
    within_waits zero e all = (tt, all)
    within_waits (suc n) e all = go_on_waits (turn me e) (settle_within n me) (within_waits n) (turn_waits e all)

    pub settle_waits : (e : LockEntry) → EntryWaits e → SettledWaits (settle me e)
    unfolding settle
    settle_waits e all = within_waits (length e.waiting) e all

  -- ---- a table
  pub open_waits : (c : Sizes) (q : ℕ) (serving : Bool) → TableWaits (open_table c q serving)
  unfolding open_table
  open_waits c q serving = each (pages_of c q)
    where
      each : (ps : List ℕ) → AllByRecursion (λ (x : PageEntry). EntryWaits x.entry) (map (λ (p : ℕ). record { page = p; entry = idle 0 }) ps)
      each [] = tt
      each (p ∷ ps) = (tt, each ps)

  at_in : (xs : List PageEntry) (p : ℕ) → AllByRecursion (λ (x : PageEntry). EntryWaits x.entry) xs → EntryWaits (entry_in xs p)
  unfolding entry_in
  at_in [] p all = tt
  at_in (x ∷ xs) p all = by (x.page == p) (at_in xs p all.1)
    where
      by : (b : Bool) → EntryWaits (entry_in xs p) → EntryWaits (pick b x.entry (entry_in xs p))
      by true rest = all.0
      by false rest = rest

  pub at_waits : (t : LockTable) (p : ℕ) → TableWaits t → EntryWaits (entry_at t p)
  at_waits t p all = at_in t.entries p all

  with_in : (xs : List PageEntry) (p : ℕ) (e : LockEntry) → EntryWaits e → AllByRecursion (λ (x : PageEntry). EntryWaits x.entry) xs → AllByRecursion (λ (x : PageEntry). EntryWaits x.entry) (entries_with xs p e)
  unfolding entries_with
  with_in [] p e entry all = (entry, tt)
  with_in (x ∷ xs) p e entry all = by (x.page == p) (with_in xs p e entry all.1)
    where
      by : (b : Bool) → AllByRecursion (λ (y : PageEntry). EntryWaits y.entry) (entries_with xs p e)
          → AllByRecursion (λ (y : PageEntry). EntryWaits y.entry) (pick b (record { page = p; entry = e } ∷ xs) (x ∷ entries_with xs p e))
      by true rest = (entry, all.1)
      by false rest = (all.0, rest)

  pub put_waits : (t : LockTable) (p : ℕ) (e : LockEntry) → EntryWaits e → TableWaits t → TableWaits (put_entry t p e)
  put_waits t p e entry all = with_in t.entries p e entry all

  pub version_waits : (t : LockTable) (p v : ℕ) → TableWaits t → TableWaits (set_version t p v)
  version_waits t p v all = put_waits t p (record (entry_at t p) { version = v }) (at_waits t p all) all

  locks_wait : (t : LockTable) (xs : List ReportLock) → TableWaits t → TableWaits (gather_locks t xs)
  unfolding gather_locks
  locks_wait t [] all = all
  locks_wait t (x ∷ xs) all =
      locks_wait (put_entry t x.page (reported (entry_at t x.page) x.tx x.mode)) xs
      (put_waits t x.page (reported (entry_at t x.page) x.tx x.mode) (reported_waits x.tx x.mode (entry_at t x.page) (at_waits t x.page all)) all)

  rights_wait : (n : ℕ) (t : LockTable) (xs : List ReportRight) → TableWaits t → TableWaits (gather_rights t n xs)
  unfolding gather_rights
  rights_wait n t [] all = all
  rights_wait n t (x ∷ xs) all =
      rights_wait n (put_entry t x.page (reported_right (entry_at t x.page) n)) xs
      (put_waits t x.page (reported_right (entry_at t x.page) n) (right_waits n (entry_at t x.page) (at_waits t x.page all)) all)

  waits_wait : (t : LockTable) (xs : List ReportWait) → AllByRecursion (λ (x : ReportWait). P x.tx) xs → TableWaits t → TableWaits (gather_waits t xs)
  unfolding gather_waits
  waits_wait t [] each all = all
  waits_wait t (x ∷ xs) each all =
      waits_wait (put_entry t x.page (ask (entry_at t x.page) (record { tx = x.tx; mode = x.mode; have = x.have }))) xs each.1
      (put_waits t x.page (ask (entry_at t x.page) (record { tx = x.tx; mode = x.mode; have = x.have }))
      (ask_waits (entry_at t x.page) (record { tx = x.tx; mode = x.mode; have = x.have }) each.0 (at_waits t x.page all)) all)

  pub gather_table : (t : LockTable) (n : ℕ) (r : Report) → AllByRecursion (λ (x : ReportWait). P x.tx) r.waits → TableWaits t → TableWaits (gather t n r)
  unfolding gather
  gather_table t n r each all =
      waits_wait (gather_rights (gather_locks t r.locks) n r.rights) r.waits each (rights_wait n (gather_locks t r.locks) r.rights (locks_wait t r.locks all))

-- what is purged leaves transactions of live nodes
module _ (P Q : TxId → Type 0) (live : List Bool) (k : (t : TxId) → flag_at live t.node ≡ true → P t → Q t) where
  purged_list : (ws : List Waiter) → AllByRecursion (λ (w : Waiter). P w.tx) ws → AllByRecursion (λ (w : Waiter). Q w.tx) (filter (λ (w : Waiter). flag_at live w.tx.node) ws)
  purged_list [] all = tt
  purged_list (w ∷ ws) all = by (flag_at live w.tx.node) refl (purged_list ws all.1)
    where
      by : (b : Bool) → flag_at live w.tx.node ≡ b → AllByRecursion (λ (x : Waiter). Q x.tx) (filter (λ (x : Waiter). flag_at live x.tx.node) ws)
          → AllByRecursion (λ (x : Waiter). Q x.tx) (cond b (w ∷ filter (λ (x : Waiter). flag_at live x.tx.node) ws) (filter (λ (x : Waiter). flag_at live x.tx.node) ws))
      by true e rest = (k w.tx e all.0, rest)
      by false e rest = rest

  pub purge_waits : (t : LockTable) → TableWaits P t → TableWaits Q (purge_table live t)
  unfolding purge
  purge_waits t all = each t.entries all
    where
      each : (xs : List PageEntry) → AllByRecursion (λ (x : PageEntry). EntryWaits P x.entry) xs
          → AllByRecursion (λ (x : PageEntry). EntryWaits Q x.entry) (map (λ (x : PageEntry). record { page = x.page; entry = purge x.entry live }) xs)
      each [] all = tt
      each (x ∷ xs) all = (purged_list x.entry.waiting all.0, each xs all.1)
