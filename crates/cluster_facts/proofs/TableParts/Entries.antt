-- What holds of every transaction and node of a table, through everything that changes a table.
use Rattle.std.proofs.Common.{ℕ, ◌==◌, ◌||◌, not, Bool, true, false, List, [], ◌∷◌, ◌++◌, map, Option, is_some}
use Rattle.std.specs.List.{AllByRecursion}
use Rattle.pcl_base.specs.Limits.{Sizes}
use Rattle.pcl_base.specs.declared.lock.Holder.{Holder}
use Rattle.pcl_base.specs.declared.lock.RightMark.{RightMark}
use Rattle.pcl_base.specs.declared.lock.Waiter.{Waiter}
use Rattle.pcl_base.specs.declared.message.Report.{Report}
use Rattle.pcl_base.specs.declared.message.ReportLock.{ReportLock}
use Rattle.pcl_base.specs.declared.message.ReportRight.{ReportRight}
use Rattle.pcl_base.specs.declared.message.ReportWait.{ReportWait}
use Rattle.pcl_base.specs.declared.tx.Mode.{Mode}
use Rattle.pcl_base.specs.declared.tx.Mode.TheVariants.{Shared}
use Rattle.pcl_base.specs.declared.tx.TxId.{TxId}
use Rattle.node_rules.specs.LockRule.{LockEntry, idle, mode_of, ask, waits_in, returned, has_right, rights_without, register, reported, reported_right, end_tx}
use Rattle.node_rules.specs.LockTable.{PageEntry, LockTable, pages_of, open_table, entry_in, entries_with, entry_at, put_entry, set_version}
use Rattle.node_rules.specs.Reports.{gather_locks, gather_rights, gather_waits, gather}
use Rattle.node_rules.specs.Words.{pick, same_tx, covers}
use Rattle.node_laws.proofs.Lists.{all_push, all_filter}

module _ (P : TxId → Type 0) (R : ℕ → Type 0) where
  abbrev pub Held : Holder → Type 0
  Held h = P h.tx

  abbrev pub Marked : RightMark → Type 0
  Marked r = R r.node

  abbrev pub Waits : Waiter → Type 0
  Waits w = P w.tx

  -- P of each transaction that holds or waits, and R of each node that has a right
  abbrev pub EntryHas : LockEntry → Type 0
  EntryHas e =
      AllByRecursion Held e.holders × AllByRecursion Marked e.rights × AllByRecursion Waits e.waiting

  abbrev pub TableHas : LockTable → Type 0
  TableHas t = AllByRecursion (λ (x : PageEntry). EntryHas x.entry) t.entries

  -- ---- an entry
  pub ask_has : (e : LockEntry) (w : Waiter) → P w.tx → EntryHas e → EntryHas (ask e w)
  unfolding ask
  ask_has e w tx all = by (waits_in e.waiting w.tx || covers (mode_of e.holders w.tx) w.mode)
    where
      by : (b : Bool) → EntryHas (pick b e (record e { waiting = e.waiting ++ w ∷ [] }))
      by true = all
      by false = (all.0, all.1, all_push Waits e.waiting w all.2 tx)

  pub end_has : (t : TxId) (v : Option ℕ) (e : LockEntry) → EntryHas e → EntryHas (end_tx e t v)
  unfolding end_tx
  end_has t v e all = (
    all_filter Held (λ h. not (same_tx h.tx t)) e.holders all.0,
    all.1,
    all_filter Waits (λ w. not (same_tx w.tx t)) e.waiting all.2,
  )

  register_has : (hs : List Holder) (ts : List TxId) → AllByRecursion P ts → AllByRecursion Held hs → AllByRecursion Held (register hs ts)
  unfolding register
  register_has hs [] each all = all
  register_has hs (t ∷ ts) each all = register_has (pick (is_some (mode_of hs t)) hs (hs ++ record { tx = t; mode = Shared } ∷ [])) ts each.1 (by (is_some (mode_of hs t)))
    where
      by : (b : Bool) → AllByRecursion Held (pick b hs (hs ++ record { tx = t; mode = Shared } ∷ []))
      by true = all
      by false = all_push Held hs (record { tx = t; mode = Shared }) all each.0

  pub returned_has : (n : ℕ) (readers : List TxId) (e : LockEntry) → AllByRecursion P readers → EntryHas e → EntryHas (returned e n readers)
  unfolding returned
  returned_has n readers e each all = by (has_right e.rights n)
    where
      by : (b : Bool) → EntryHas (pick b (record e { rights = rights_without e.rights n; holders = register e.holders readers }) e)
      by true = (register_has e.holders readers each all.0, all_filter Marked (λ r. not (r.node == n)) e.rights all.1, all.2)
      by false = all

  pub reported_has : (t : TxId) (m : Mode) (e : LockEntry) → P t → EntryHas e → EntryHas (reported e t m)
  unfolding reported
  reported_has t m e is all = by (is_some (mode_of e.holders t))
    where
      by : (b : Bool) → EntryHas (pick b e (record e { holders = e.holders ++ record { tx = t; mode = m } ∷ [] }))
      by true = all
      by false = (all_push Held e.holders (record { tx = t; mode = m }) all.0 is, all.1, all.2)

  pub right_has : (n : ℕ) (e : LockEntry) → R n → EntryHas e → EntryHas (reported_right e n)
  unfolding reported_right
  right_has n e is all = by (has_right e.rights n)
    where
      by : (b : Bool) → EntryHas (pick b e (record e { rights = e.rights ++ record { node = n; revoked = false } ∷ [] }))
      by true = all
      by false = (all.0, all_push Marked e.rights (record { node = n; revoked = false }) all.1 is, all.2)

  -- ---- a table
  pub open_has : (c : Sizes) (q : ℕ) (serving : Bool) → TableHas (open_table c q serving)
  unfolding open_table
  open_has c q serving = each (pages_of c q)
    where
      each : (ps : List ℕ) → AllByRecursion (λ (x : PageEntry). EntryHas x.entry) (map (λ (p : ℕ). record { page = p; entry = idle 0 }) ps)
      each [] = tt
      each (p ∷ ps) = ((tt, tt, tt), each ps)

  at_in : (xs : List PageEntry) (p : ℕ) → AllByRecursion (λ (x : PageEntry). EntryHas x.entry) xs → EntryHas (entry_in xs p)
  unfolding entry_in
  at_in [] p all = (tt, tt, tt)
  at_in (x ∷ xs) p all = by (x.page == p) (at_in xs p all.1)
    where
      by : (b : Bool) → EntryHas (entry_in xs p) → EntryHas (pick b x.entry (entry_in xs p))
      by true rest = all.0
      by false rest = rest

  pub at_has : (t : LockTable) (p : ℕ) → TableHas t → EntryHas (entry_at t p)
  at_has t p all = at_in t.entries p all

  with_in : (xs : List PageEntry) (p : ℕ) (e : LockEntry) → EntryHas e → AllByRecursion (λ (x : PageEntry). EntryHas x.entry) xs → AllByRecursion (λ (x : PageEntry). EntryHas x.entry) (entries_with xs p e)
  unfolding entries_with
  with_in [] p e entry all = (entry, tt)
  with_in (x ∷ xs) p e entry all = by (x.page == p) (with_in xs p e entry all.1)
    where
      by : (b : Bool) → AllByRecursion (λ (y : PageEntry). EntryHas y.entry) (entries_with xs p e)
          → AllByRecursion (λ (y : PageEntry). EntryHas y.entry) (pick b (record { page = p; entry = e } ∷ xs) (x ∷ entries_with xs p e))
      by true rest = (entry, all.1)
      by false rest = (all.0, rest)

  pub put_has : (t : LockTable) (p : ℕ) (e : LockEntry) → EntryHas e → TableHas t → TableHas (put_entry t p e)
  put_has t p e entry all = with_in t.entries p e entry all

  pub version_has : (t : LockTable) (p v : ℕ) → TableHas t → TableHas (set_version t p v)
  version_has t p v all = put_has t p (record (entry_at t p) { version = v }) (at_has t p all) all

  -- what a report lists
  pub record Lists (r : Report) : Type 0 where
    pub locks : AllByRecursion (λ (x : ReportLock). P x.tx) r.locks
    pub waits : AllByRecursion (λ (x : ReportWait). P x.tx) r.waits

  locks_have : (t : LockTable) (xs : List ReportLock) → AllByRecursion (λ (x : ReportLock). P x.tx) xs → TableHas t → TableHas (gather_locks t xs)
  unfolding gather_locks
  locks_have t [] each all = all
  locks_have t (x ∷ xs) each all =
      locks_have (put_entry t x.page (reported (entry_at t x.page) x.tx x.mode)) xs each.1
      (put_has t x.page (reported (entry_at t x.page) x.tx x.mode) (reported_has x.tx x.mode (entry_at t x.page) each.0 (at_has t x.page all)) all)

  rights_have : (n : ℕ) (t : LockTable) (xs : List ReportRight) → AllByRecursion (λ (x : ReportRight). R n) xs → TableHas t → TableHas (gather_rights t n xs)
  unfolding gather_rights
  rights_have n t [] each all = all
  rights_have n t (x ∷ xs) each all =
      rights_have n (put_entry t x.page (reported_right (entry_at t x.page) n)) xs each.1
      (put_has t x.page (reported_right (entry_at t x.page) n) (right_has n (entry_at t x.page) each.0 (at_has t x.page all)) all)

  waits_have : (t : LockTable) (xs : List ReportWait) → AllByRecursion (λ (x : ReportWait). P x.tx) xs → TableHas t → TableHas (gather_waits t xs)
  unfolding gather_waits
  waits_have t [] each all = all
  waits_have t (x ∷ xs) each all =
      waits_have (put_entry t x.page (ask (entry_at t x.page) (record { tx = x.tx; mode = x.mode; have = x.have }))) xs each.1
      (put_has t x.page (ask (entry_at t x.page) (record { tx = x.tx; mode = x.mode; have = x.have }))
      (ask_has (entry_at t x.page) (record { tx = x.tx; mode = x.mode; have = x.have }) each.0 (at_has t x.page all)) all)

  pub gather_has : (t : LockTable) (n : ℕ) (r : Report) → Lists r → AllByRecursion (λ (x : ReportRight). R n) r.rights → TableHas t → TableHas (gather t n r)
  unfolding gather
  gather_has t n r each rights all =
      waits_have (gather_rights (gather_locks t r.locks) n r.rights) r.waits each.waits (rights_have n (gather_locks t r.locks) r.rights rights (locks_have t r.locks each.locks all))
