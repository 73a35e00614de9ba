-- How much a report lists, and how much it adds to a table.
use Rattle.std.proofs.Common.{◌≡◌, ℕ, ◌+◌, ◌≤◌, ◌==◌, ◌&&◌, ◌||◌, not, cond, Bool, true, false, List, [], ◌∷◌, ◌++◌, length, length-append, map, Option, Some, None, is_some, refl, arith}
use Rattle.std.specs.List.{filter}
use Rattle.pcl_base.specs.Limits.{Sizes}
use Rattle.pcl_base.specs.declared.tx.TxId.{TxId}
use Rattle.pcl_base.specs.declared.tx.Mode.{Mode}
use Rattle.pcl_base.specs.declared.lock.Held.{Held}
use Rattle.pcl_base.specs.declared.lock.Kind.{Kind}
use Rattle.pcl_base.specs.declared.lock.Kind.TheVariants as kind
use Rattle.pcl_base.specs.declared.lock.RightMark.{RightMark}
use Rattle.pcl_base.specs.declared.lock.Waiter.{Waiter}
use Rattle.pcl_base.specs.declared.lock.Pending.{Pending}
use Rattle.pcl_base.specs.declared.message.Body.TheVariants as body
use Rattle.pcl_base.specs.declared.message.Report.{Report}
use Rattle.pcl_base.specs.declared.message.ReportLock.{ReportLock}
use Rattle.pcl_base.specs.declared.message.ReportRight.{ReportRight}
use Rattle.pcl_base.specs.declared.message.ReportWait.{ReportWait}
use Rattle.node_rules.specs.Words.{pick, covers}
use Rattle.node_rules.specs.LockRule.{LockEntry, ask, reported, reported_right, mode_of, has_right, waits_in}
use Rattle.node_rules.specs.LockTable.{LockTable, PageEntry, entry_at, put_entry, open_table, pages_of}
use Rattle.node_rules.specs.OpenTxs.{OpenTx, OpenTxs, name_of}
use Rattle.node_rules.specs.Shelf.{Right}
use Rattle.node_rules.specs.BufferRule.{Pool}
use Rattle.node_rules.specs.NodeState.{HomeState, partition}
use Rattle.node_rules.specs.Reports.{is_listed, locks_in, all_locks, wait_in, all_waits, all_rights, report, own_report, gather_locks, gather_rights, gather_waits, gather}
use Rattle.node_rules.specs.InstallRule.{new_table, kinds_of_locks, all_kinds, take_over}
use Rattle.step_laws.specs.Most.{sum_of, items_in}
use Rattle.step_laws.proofs.Sums.{sum_map, sum_filter}
use Rattle.step_laws.proofs.Settles.{load}
use Rattle.step_laws.proofs.Tables.{in_table, entries_put}
use Rattle.step_laws.proofs.Homes.{weight_of, waits_by, locks_by, shelf_by, stock}
use Rattle.step_laws.proofs.Partitions.{only}

-- what entries count more
pub ask_load : (e : LockEntry) (w : Waiter) → load (ask e w) ≤ load e + 1
unfolding ask
ask_load e w = by (waits_in e.waiting w.tx || covers (mode_of e.holders w.tx) w.mode)
  where
    by : (b : Bool) → load (pick b e (record e { waiting = e.waiting ++ w ∷ [] })) ≤ load e + 1
    by true = omega arith
    by false = let more = length-append e.waiting (w ∷ []) in omega (arith, more)

reported_load : (e : LockEntry) (t : TxId) (m : Mode) → load (reported e t m) ≤ load e + 0
unfolding reported
reported_load e t m = by (is_some (mode_of e.holders t))
  where
    by : (b : Bool) → load (pick b e (record e { holders = e.holders ++ record { tx = t; mode = m } ∷ [] })) ≤ load e + 0
    by true = omega arith
    by false = omega arith

right_load : (e : LockEntry) (n : ℕ) → load (reported_right e n) ≤ load e + 1
unfolding reported_right
right_load e n = by (has_right e.rights n)
  where
    mine : RightMark
    mine = record { node = n; revoked = false }

    by : (b : Bool) → load (pick b e (record e { rights = e.rights ++ mine ∷ [] })) ≤ load e + 1
    by true = omega arith
    by false = let more = length-append e.rights (mine ∷ []) in omega (arith, more)

changed_load : (t : LockTable) (p j : ℕ) (e : LockEntry) → load e ≤ load (entry_at t p) + j → in_table load (Some (put_entry t p e)) ≤ in_table load (Some t) + j
changed_load t p j e less = let put = entries_put load refl t.entries p e in omega (arith, put, less)

locks_load : (t : LockTable) (xs : List ReportLock) → in_table load (Some (gather_locks t xs)) ≤ in_table load (Some t)
unfolding gather_locks
locks_load t [] = omega arith
locks_load t (x ∷ xs) =
    let e : LockEntry = reported (entry_at t x.page) x.tx x.mode in
    let here = changed_load t x.page 0 e (reported_load (entry_at t x.page) x.tx x.mode) in
    let rest = locks_load (put_entry t x.page e) xs in
    omega (arith, here, rest)

rights_load : (t : LockTable) (n : ℕ) (xs : List ReportRight) → in_table load (Some (gather_rights t n xs)) ≤ in_table load (Some t) + length xs
unfolding gather_rights
rights_load t n [] = omega arith
rights_load t n (x ∷ xs) =
    let e : LockEntry = reported_right (entry_at t x.page) n in
    let here = changed_load t x.page 1 e (right_load (entry_at t x.page) n) in
    let rest = rights_load (put_entry t x.page e) n xs in
    omega (arith, here, rest)

waits_load : (t : LockTable) (xs : List ReportWait) → in_table load (Some (gather_waits t xs)) ≤ in_table load (Some t) + length xs
unfolding gather_waits
waits_load t [] = omega arith
waits_load t (x ∷ xs) =
    let w : Waiter = record { tx = x.tx; mode = x.mode; have = x.have } in
    let e : LockEntry = ask (entry_at t x.page) w in
    let here = changed_load t x.page 1 e (ask_load (entry_at t x.page) w) in
    let rest = waits_load (put_entry t x.page e) xs in
    omega (arith, here, rest)

pub gather_load : (t : LockTable) (n : ℕ) (r : Report) → in_table load (Some (gather t n r)) ≤ in_table load (Some t) + (length r.waits + length r.rights)
unfolding gather
gather_load t n r =
    let locks = locks_load t r.locks in
    let rights = rights_load (gather_locks t r.locks) n r.rights in
    let waits = waits_load (gather_rights (gather_locks t r.locks) n r.rights) r.waits in
    omega (arith, locks, rights, waits)

open_load : (c : Sizes) (q : ℕ) (b : Bool) → in_table load (Some (open_table c q b)) ≡ 0
unfolding open_table
open_load c q b = by (pages_of c q)
  where
    by : (ps : List ℕ) → sum_of (λ (x : PageEntry). load x.entry) (map (λ p. record { page = p; entry = record { version = 0; holders = []; rights = []; waiting = [] } }) ps) ≡ 0
    by [] = refl
    by (p ∷ ps) = let rest = by ps in omega (arith, rest)

-- how much a report lists
waits_listed : (c : Sizes) (q : ℕ) (b : Pool) (s : OpenTxs) (xs : List OpenTx) → length (all_waits c q b s xs) ≤ waits_by (only c q) xs
unfolding all_waits
waits_listed c q b s [] = omega arith
waits_listed c q b s (x ∷ xs) =
    let both = length-append (wait_in c q b (name_of s x.serial) x.waiting) (all_waits c q b s xs) in
    let here = one x.waiting in
    let rest = waits_listed c q b s xs in
    omega (arith, both, here, rest)
  where
    at : (w : Pending) (d : Bool) → (partition c w.page == q) ≡ d → length (wait_in c q b (name_of s x.serial) (Some w)) ≤ pick d 1 0
    at w true e = grind arith
    at w false e = grind arith

    one : (o : Option Pending) → length (wait_in c q b (name_of s x.serial) o) ≤ weight_of (only c q) o
    one None = omega arith
    one (Some w) = at w (partition c w.page == q) refl

locks_listed : (c : Sizes) (q : ℕ) (all : Bool) (t : TxId) (hs : List Held) → length (locks_in c q all t hs) ≤ sum_of (λ l. only c q l.page) hs
unfolding locks_in
locks_listed c q all t [] = omega arith
locks_listed c q all t (h ∷ hs) = by (partition c h.page == q) (is_listed all h.kind) (locks_in c q all t hs) (locks_listed c q all t hs)
  where
    by : (a b : Bool) (ls : List ReportLock) → length ls ≤ sum_of (λ l. only c q l.page) hs
        → length (pick (a && b) (record { tx = t; page = h.page; mode = h.mode } ∷ ls) ls) ≤ pick a 1 0 + sum_of (λ l. only c q l.page) hs
    by true true ls rest = omega (arith, rest)
    by true false ls rest = omega (arith, rest)
    by false b ls rest = omega (arith, rest)

all_listed : (c : Sizes) (q : ℕ) (all : Bool) (s : OpenTxs) (xs : List OpenTx) → length (all_locks c q all s xs) ≤ locks_by (only c q) xs
unfolding all_locks
all_listed c q all s [] = omega arith
all_listed c q all s (x ∷ xs) =
    let both = length-append (locks_in c q all (name_of s x.serial) x.pages) (all_locks c q all s xs) in
    let here = locks_listed c q all (name_of s x.serial) x.pages in
    let rest = all_listed c q all s xs in
    omega (arith, both, here, rest)

rights_listed : (c : Sizes) (q : ℕ) (rs : List Right) → length (all_rights c q rs) ≤ shelf_by (only c q) rs
rights_listed c q [] = omega arith
rights_listed c q (r ∷ rs) = by (partition c r.page == q) (filter (λ r. partition c r.page == q) rs) (rights_listed c q rs)
  where
    by : (b : Bool) (l : List Right) → length (map (λ r. let x : ReportRight = record { page = r.page; version = r.version } in x) l) ≤ shelf_by (only c q) rs
        → length (map (λ r. let x : ReportRight = record { page = r.page; version = r.version } in x) (cond b (r ∷ l) l)) ≤ pick b 1 0 + shelf_by (only c q) rs
    by true l rest = omega (arith, rest)
    by false l rest = omega (arith, rest)

pub report_items : (q : ℕ) (h : HomeState) → items_in (body.Report (report q h)) ≤ stock (only h.config q) h
unfolding report
report_items q h =
    let waits = waits_listed h.config q h.pool h.txs h.txs.txs in
    let locks = all_listed h.config q false h.txs h.txs.txs in
    let rights = rights_listed h.config q h.shelf in
    omega (arith, waits, locks, rights)

pub own_load : (q me : ℕ) (h : HomeState) → in_table load (Some (new_table q me h)) ≤ waits_by (only h.config q) h.txs.txs
unfolding own_report
own_load q me h =
    let none = open_load h.config q false in
    let more = gather_load (open_table h.config q false) me (own_report q h) in
    let waits = waits_listed h.config q h.pool h.txs h.txs.txs in
    omega (arith, none, more, waits)

-- other kinds of locks change no count
kinds_sum : (f : ℕ → ℕ) (c : Sizes) (q : ℕ) (k : Kind) (hs : List Held) → sum_of (λ l. f l.page) (kinds_of_locks c q k hs) ≤ sum_of (λ l. f l.page) hs
kinds_sum f c q k hs = sum_map (λ (l : Held). f l.page) (λ (l : Held). pick (partition c l.page == q) (record l { kind = k }) l) (λ l. by l (partition c l.page == q)) hs
  where
    by : (l : Held) (b : Bool) → f (pick b (record l { kind = k }) l).page ≤ f l.page
    by l true = omega arith
    by l false = omega arith

pub kinds_waits : (f : ℕ → ℕ) (q : ℕ) (k : Kind) (h : HomeState) → waits_by f (all_kinds q k h).txs.txs ≤ waits_by f h.txs.txs
kinds_waits f q k h = sum_map (λ (x : OpenTx). weight_of f x.waiting) (λ (x : OpenTx). record x { pages = kinds_of_locks h.config q k x.pages }) (λ x. omega arith) h.txs.txs

pub kinds_stock : (f : ℕ → ℕ) (q : ℕ) (k : Kind) (h : HomeState) → stock f (all_kinds q k h) ≤ stock f h
kinds_stock f q k h =
    let waits = kinds_waits f q k h in
    let locks = sum_map (λ (x : OpenTx). sum_of (λ l. f l.page) x.pages) (λ (x : OpenTx). record x { pages = kinds_of_locks h.config q k x.pages }) (λ x. kinds_sum f h.config q k x.pages) h.txs.txs in
    omega (arith, waits, locks)

pub taken_stock : (f : ℕ → ℕ) (q : ℕ) (h : HomeState) → stock f (take_over q h) ≤ stock f h
taken_stock f q h =
    let kinds = kinds_stock f q kind.Own h in
    let shelf = sum_filter (λ (r : Right). f r.page) (λ r. not (partition h.config r.page == q)) h.shelf in
    omega (arith, kinds, shelf)
