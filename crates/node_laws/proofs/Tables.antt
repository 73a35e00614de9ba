-- What holds of a table through everything that changes it.
use Rattle.std.proofs.Common.{◌≡◌, refl, ap, subst, ◌∙◌, sym, ℕ, zero, suc, ◌+◌, ◌*◌, ◌%◌, ◌/◌, ◌<◌, ◌≤◌, ◌==◌, ◌||◌, nat_lt, Bool, true, false, List, [], ◌∷◌, length, map, arith}
use Rattle.std.specs.Prelude.{replicate}
use Rattle.std.specs.List.{AllByRecursion, list_any}
use Rattle.std.proofs.lemmas.Bool.Decides.{nat_tests}
use Rattle.std.proofs.lemmas.Nat.{mod-mul-add}
use Rattle.std.proofs.Math.Nat.{mod-add-div, div-le_self}
use Rattle.pcl_base.specs.Limits.{Sizes}
use Rattle.pcl_base.specs.declared.message.Report.{Report}
use Rattle.pcl_base.specs.declared.message.ReportLock.{ReportLock}
use Rattle.pcl_base.specs.declared.message.ReportRight.{ReportRight}
use Rattle.pcl_base.specs.declared.message.ReportWait.{ReportWait}
use Rattle.text_rules.specs.MessageBytes.{IsTx, IsPageOf}
use Rattle.node_rules.specs.Words.{pick}
use Rattle.node_rules.specs.LockRule.{LockEntry, idle, ask, reported, reported_right, purge}
use Rattle.node_rules.specs.LockTable.{LockTable, PageEntry, pages_from, pages_of, open_table, entry_in, entry_at, entries_with, put_entry, set_version, mark, serve}
use Rattle.node_rules.specs.Reports.{gather_locks, gather_rights, gather_waits, gather}
use Rattle.node_rules.specs.InstallRule.{purge_table}
use Rattle.node_laws.specs.Nodes.{IsEntry, IsOther, IsTable}
use Rattle.node_laws.proofs.Lists.{all_map, set_length}
use Rattle.node_laws.proofs.Entries.{ask_is, reported_is, reported_right_is, purge_is}

-- each page of a partition is one of the database, and of that partition
pages_in : (n w q p a end : ℕ) → q < w → p ≡ a * w + q → AllByRecursion (λ x. (x < end) × (x % w ≡ q)) (pages_from n w p end)
unfolding pages_from
pages_in zero w q p a end low is = tt
pages_in (suc n) w q p a end low is = by (nat_lt p end) refl (pages_in n w q (p + w) (suc a) end low next)
  where
    next : p + w ≡ suc a * w + q
    next = grind arith

    here : p % w ≡ q
    here = ap (λ x. x % w) is ∙ mod-mul-add a w q low

    by : (b : Bool) → nat_lt p end ≡ b → AllByRecursion (λ x. (x < end) × (x % w ≡ q)) (pages_from n w (p + w) end)
        → AllByRecursion (λ x. (x < end) × (x % w ≡ q)) (pick b (p ∷ pages_from n w (p + w) end) [])
    by true e rest = ((grind (arith, nat_tests), here), rest)
    by false e rest = tt

pub pages_are : (c : Sizes) (q : ℕ) → q < c.nodes → AllByRecursion (IsPageOf c q) (pages_of c q)
pages_are c q low = pages_in c.pages c.nodes q q 0 c.pages low (omega arith)

-- each page of the database that is of a partition is among the partition's
or_true : (a b : Bool) → b ≡ true → a || b ≡ true
or_true true b e = refl
or_true false b e = e

listed : (n j w p s end : ℕ) → j < n → p ≡ s + j * w → p < end → list_any (λ x. x == p) (pages_from n w s end) ≡ true
unfolding pages_from
listed zero j w p s end few is low = absurd (omega (arith, few))
listed (suc n) zero w p s end few is low =
    let same : p ≡ s = omega (arith, is) in
    by (nat_lt s end) refl same
  where
    by : (b : Bool) → nat_lt s end ≡ b → p ≡ s → list_any (λ x. x == p) (pick b (s ∷ pages_from n w (s + w) end) []) ≡ true
    by true e f = ap (λ b. b || list_any (λ x. x == p) (pages_from n w (s + w) end)) (let here : (s == p) ≡ true = grind (arith, nat_tests, f) in here)
    by false e f = absurd (grind (arith, nat_tests, e, f, low))
listed (suc n) (suc j) w p s end few is low =
    let next : p ≡ s + w + j * w = grind (arith, is) in
    by (nat_lt s end) refl next (listed n j w p (s + w) end (omega (arith, few)) next low)
  where
    by : (b : Bool) → nat_lt s end ≡ b → p ≡ s + w + j * w → list_any (λ x. x == p) (pages_from n w (s + w) end) ≡ true
        → list_any (λ x. x == p) (pick b (s ∷ pages_from n w (s + w) end) []) ≡ true
    by true e f rest = or_true (s == p) (list_any (λ x. x == p) (pages_from n w (s + w) end)) rest
    by false e f rest = let below : s < end = omega (arith, f, low) in absurd (grind (arith, nat_tests, e, below))

page_listed : (c : Sizes) (q p : ℕ) → IsPageOf c q p → list_any (λ x. x == p) (pages_of c q) ≡ true
page_listed c q p is =
    let parts : p % c.nodes + c.nodes * (p / c.nodes) ≡ p = mod-add-div p c.nodes in
    let few : p / c.nodes ≤ p = div-le_self p c.nodes in
    let low = is.0 in
    let rest = is.1 in
    listed c.pages (p / c.nodes) c.nodes p q c.pages (omega (arith, few, low)) (grind (arith, parts, rest)) low

map_twice : (f : ℕ → PageEntry) → ((p : ℕ) → (f p).page ≡ p) → (ps : List ℕ) → map (λ x. x.page) (map f ps) ≡ ps
map_twice f same [] = refl
map_twice f same (p ∷ ps) = let rest = map_twice f same ps in λ i. same p i ∷ rest i

pages_kept : (f : PageEntry → PageEntry) → ((x : PageEntry) → (f x).page ≡ x.page) → (xs : List PageEntry) → map (λ x. x.page) (map f xs) ≡ map (λ x. x.page) xs
pages_kept f same [] = refl
pages_kept f same (x ∷ xs) = let rest = pages_kept f same xs in λ i. same x i ∷ rest i

-- another entry of a page that is there
pages_with : (xs : List PageEntry) (p : ℕ) (e : LockEntry) → list_any (λ x. x == p) (map (λ x. x.page) xs) ≡ true → map (λ x. x.page) (entries_with xs p e) ≡ map (λ x. x.page) xs
unfolding entries_with
pages_with [] p e there = absurd (cc)
pages_with (x ∷ xs) p e there = by (x.page == p) refl there (pages_with xs p e)
  where
    by : (b : Bool) → (x.page == p) ≡ b → b || list_any (λ x. x == p) (map (λ x. x.page) xs) ≡ true
        → (list_any (λ x. x == p) (map (λ x. x.page) xs) ≡ true → map (λ x. x.page) (entries_with xs p e) ≡ map (λ x. x.page) xs)
        → map (λ x. x.page) (pick b (record { page = p; entry = e } ∷ xs) (x ∷ entries_with xs p e)) ≡ x.page ∷ map (λ x. x.page) xs
    by true f g rest = let same : p ≡ x.page = grind (arith, nat_tests, f) in ap (λ (n : ℕ). n ∷ map (λ x. x.page) xs) same
    by false f g rest = ap (λ (ps : List ℕ). x.page ∷ ps) (rest g)

flags_many : (n : ℕ) → length (replicate n false) ≡ n
flags_many zero = refl
flags_many (suc n) = ap suc (flags_many n)

module _ (c : Sizes) (me q : ℕ) where
  abbrev IsEntryOf : PageEntry → Type 0
  IsEntryOf x = IsPageOf c q x.page × IsEntry c me x.entry

  pub idle_is : (v : ℕ) → IsEntry c me (idle v)
  idle_is v = record { holders = tt; rights = tt; waiting = tt }

  pub open_is : (serving : Bool) → q < c.nodes → IsTable c me q (open_table c q serving)
  unfolding open_table
  open_is serving low =
      record {
        pages = map_twice (λ p. record { page = p; entry = idle 0 }) (λ p. refl) (pages_of c q);
        entries = all_map (IsPageOf c q) IsEntryOf (λ p. record { page = p; entry = idle 0 }) (λ p is. (is, idle_is 0)) (pages_of c q) (pages_are c q low);
        reported = flags_many c.nodes;
      }

  entry_is : (xs : List PageEntry) (p : ℕ) → AllByRecursion IsEntryOf xs → IsEntry c me (entry_in xs p)
  unfolding entry_in
  entry_is [] p all = idle_is 0
  entry_is (x ∷ xs) p all = by (x.page == p) (entry_is xs p all.1)
    where
      by : (b : Bool) → IsEntry c me (entry_in xs p) → IsEntry c me (pick b x.entry (entry_in xs p))
      by true rest = all.0.1
      by false rest = rest

  pub at_is : (t : LockTable) (p : ℕ) → IsTable c me q t → IsEntry c me (entry_at t p)
  at_is t p is = entry_is t.entries p is.entries

  with_is : (xs : List PageEntry) (p : ℕ) (e : LockEntry) → IsPageOf c q p → IsEntry c me e → AllByRecursion IsEntryOf xs → AllByRecursion IsEntryOf (entries_with xs p e)
  unfolding entries_with
  with_is [] p e page entry all = ((page, entry), tt)
  with_is (x ∷ xs) p e page entry all = by (x.page == p) (with_is xs p e page entry all.1)
    where
      by : (b : Bool) → AllByRecursion IsEntryOf (entries_with xs p e) → AllByRecursion IsEntryOf (pick b (record { page = p; entry = e } ∷ xs) (x ∷ entries_with xs p e))
      by true rest = ((page, entry), all.1)
      by false rest = (all.0, rest)

  pub put_is : (t : LockTable) (p : ℕ) (e : LockEntry) → IsPageOf c q p → IsEntry c me e → IsTable c me q t → IsTable c me q (put_entry t p e)
  put_is t p e page entry is =
      let there : list_any (λ x. x == p) (map (λ x. x.page) t.entries) ≡ true = ap (list_any (λ x. x == p)) is.pages ∙ page_listed c q p page in
      record { pages = pages_with t.entries p e there ∙ is.pages; entries = with_is t.entries p e page entry is.entries; reported = is.reported }

  pub version_is : (t : LockTable) (p v : ℕ) → IsPageOf c q p → IsTable c me q t → IsTable c me q (set_version t p v)
  version_is t p v page is =
      let e = at_is t p is in
      put_is t p (record (entry_at t p) { version = v }) page (record { holders = e.holders; rights = e.rights; waiting = e.waiting }) is

  pub serve_is : (t : LockTable) → IsTable c me q t → IsTable c me q (serve t)
  serve_is t is = record { pages = is.pages; entries = is.entries; reported = is.reported }

  pub purge_table_is : (live : List Bool) (t : LockTable) → IsTable c me q t → IsTable c me q (purge_table live t)
  purge_table_is live t is =
      record {
        pages = pages_kept (λ x. record { page = x.page; entry = purge x.entry live }) (λ x. refl) t.entries ∙ is.pages;
        entries = all_map IsEntryOf IsEntryOf (λ x. record { page = x.page; entry = purge x.entry live }) (λ x h. (h.0, purge_is c me live x.entry h.1)) t.entries is.entries;
        reported = is.reported;
      }

  -- what a report may list
  abbrev pub IsWait : ReportWait → Type 0
  IsWait w = IsTx c w.tx × IsPageOf c q w.page

  abbrev pub IsLock : ReportLock → Type 0
  IsLock l = IsTx c l.tx × IsPageOf c q l.page

  abbrev pub IsListed : ReportRight → Type 0
  IsListed r = IsPageOf c q r.page

  locks_are : (t : LockTable) (xs : List ReportLock) → AllByRecursion IsLock xs → IsTable c me q t → IsTable c me q (gather_locks t xs)
  unfolding gather_locks
  locks_are t [] all is = is
  locks_are t (x ∷ xs) all is =
      locks_are (put_entry t x.page (reported (entry_at t x.page) x.tx x.mode)) xs all.1
      (put_is t x.page (reported (entry_at t x.page) x.tx x.mode) all.0.1 (reported_is c me x.tx x.mode (entry_at t x.page) (at_is t x.page is) all.0.0) is)

  rights_are : (n : ℕ) → IsOther c me n → (t : LockTable) (xs : List ReportRight) → AllByRecursion IsListed xs → IsTable c me q t → IsTable c me q (gather_rights t n xs)
  unfolding gather_rights
  rights_are n other t [] all is = is
  rights_are n other t (x ∷ xs) all is =
      rights_are n other (put_entry t x.page (reported_right (entry_at t x.page) n)) xs all.1
      (put_is t x.page (reported_right (entry_at t x.page) n) all.0 (reported_right_is c me n (entry_at t x.page) (at_is t x.page is) other) is)

  waits_are : (t : LockTable) (xs : List ReportWait) → AllByRecursion IsWait xs → IsTable c me q t → IsTable c me q (gather_waits t xs)
  unfolding gather_waits
  waits_are t [] all is = is
  waits_are t (x ∷ xs) all is =
      waits_are (put_entry t x.page (ask (entry_at t x.page) (record { tx = x.tx; mode = x.mode; have = x.have }))) xs all.1
      (put_is t x.page _ all.0.1 (ask_is c me (entry_at t x.page) (record { tx = x.tx; mode = x.mode; have = x.have }) (at_is t x.page is) all.0.0) is)

  mark_is : (t : LockTable) (n : ℕ) → IsTable c me q t → IsTable c me q (mark t n)
  mark_is t n is = record { pages = is.pages; entries = is.entries; reported = set_length t.reported n true ∙ is.reported }

  -- a report of another node
  pub gather_is : (t : LockTable) (n : ℕ) (r : Report) → IsOther c me n → AllByRecursion IsWait r.waits → AllByRecursion IsLock r.locks → AllByRecursion IsListed r.rights
      → IsTable c me q t → IsTable c me q (gather t n r)
  unfolding gather
  gather_is t n r other waits locks rights is =
      mark_is (gather_waits (gather_rights (gather_locks t r.locks) n r.rights) r.waits) n
      (waits_are (gather_rights (gather_locks t r.locks) n r.rights) r.waits waits
      (rights_are n other (gather_locks t r.locks) r.rights rights (locks_are t r.locks locks is)))

  -- the node's own report, which lists no rights
  pub gather_own_is : (t : LockTable) (n : ℕ) (r : Report) → r.rights ≡ [] → AllByRecursion IsWait r.waits → AllByRecursion IsLock r.locks
      → IsTable c me q t → IsTable c me q (gather t n r)
  unfolding gather gather_rights
  gather_own_is t n r none waits locks is =
      mark_is (gather_waits (gather_rights (gather_locks t r.locks) n r.rights) r.waits) n
      (waits_are (gather_rights (gather_locks t r.locks) n r.rights) r.waits waits
      (subst (λ (xs : List ReportRight). IsTable c me q (gather_rights (gather_locks t r.locks) n xs)) (sym none) (locks_are t r.locks locks is)))
