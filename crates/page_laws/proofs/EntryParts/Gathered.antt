-- The looks at a table into which a report is put.
use Rattle.std.proofs.Common.{◌≡◌, ◌⊎◌, ℕ, ◌==◌, ◌&&◌, ◌||◌, nat_lt, Bool, true, false, List, [], ◌∷◌, length, slice_index_or, Option, Some, None, Contains, refl, sym, ap, subst, ◌∙◌, inl, inr}
use Rattle.pcl_base.specs.declared.tx.TxId.{TxId}
use Rattle.pcl_base.specs.declared.tx.Mode.{Mode}
use Rattle.pcl_base.specs.declared.tx.Mode.TheVariants.{Exclusive}
use Rattle.pcl_base.specs.declared.lock.Holder.{Holder}
use Rattle.pcl_base.specs.declared.lock.Waiter.{Waiter}
use Rattle.pcl_base.specs.declared.lock.RightMark.{RightMark}
use Rattle.pcl_base.specs.declared.message.Report.{Report}
use Rattle.pcl_base.specs.declared.message.ReportLock.{ReportLock}
use Rattle.pcl_base.specs.declared.message.ReportRight.{ReportRight}
use Rattle.pcl_base.specs.declared.message.ReportWait.{ReportWait}
use Rattle.node_rules.specs.Words.{pick, same_tx, or_else}
use Rattle.node_rules.specs.LockRule.{LockEntry, mode_of, has_right, waits_in, ask, reported, reported_right}
use Rattle.node_rules.specs.LockTable.{LockTable, entry_at, put_entry}
use Rattle.node_rules.specs.Reports.{gather, gather_locks, gather_rights, gather_waits}
use Rattle.rule_laws.proofs.Lists.{contains_here, contains_there}
use Rattle.page_laws.specs.Entry.Decisions.{NoWriterWaits}
use Rattle.page_laws.specs.Entry.Tables.{mode_listed, lists_right, waiter_of, IsListed, IsGathered, GatheringIsSeen}
use Rattle.page_laws.proofs.EntryParts.Words.{number_equal}
use Rattle.page_laws.proofs.EntryParts.Looked.{asking_is_seen_law, reported_lock, reported_too, or_none, and_none, else_none}
use Rattle.page_laws.proofs.EntryParts.Tabled.{entry_put, flag_set}
use Rattle.page_laws.proofs.EntryParts.Writers.{asked_keeps, same_lists}

-- Reports: the entry of a page changes by the items of its own page alone, one after the other.
put_changed : (t : LockTable) (f : LockEntry → LockEntry) (q p : ℕ) → entry_at (put_entry t q (f (entry_at t q))) p ≡ pick (q == p) (f (entry_at t p)) (entry_at t p)
put_changed t f q p = entry_put t.entries q (f (entry_at t q)) p ∙ by (q == p) refl
  where
    by : (b : Bool) → (q == p) ≡ b → pick b (f (entry_at t q)) (entry_at t p) ≡ pick b (f (entry_at t p)) (entry_at t p)
    by true g = ap (λ n. f (entry_at t n)) (number_equal q p g)
    by false g = refl

abbrev with_locks : ℕ → List ReportLock → LockEntry → LockEntry
with_locks p [] e = e
with_locks p (x ∷ xs) e = with_locks p xs (pick (x.page == p) (reported e x.tx x.mode) e)

abbrev with_rights : ℕ → ℕ → List ReportRight → LockEntry → LockEntry
with_rights p n [] e = e
with_rights p n (x ∷ xs) e = with_rights p n xs (pick (x.page == p) (reported_right e n) e)

abbrev with_waits : ℕ → List ReportWait → LockEntry → LockEntry
with_waits p [] e = e
with_waits p (x ∷ xs) e = with_waits p xs (pick (x.page == p) (ask e (waiter_of x)) e)

locks_at : (p : ℕ) (xs : List ReportLock) (t : LockTable) → entry_at (gather_locks t xs) p ≡ with_locks p xs (entry_at t p)
unfolding gather_locks
locks_at p [] t = refl
locks_at p (x ∷ xs) t =
    locks_at p xs (put_entry t x.page (reported (entry_at t x.page) x.tx x.mode))
    ∙ ap (λ e. with_locks p xs e) (put_changed t (λ e. reported e x.tx x.mode) x.page p)

rights_at : (p n : ℕ) (xs : List ReportRight) (t : LockTable) → entry_at (gather_rights t n xs) p ≡ with_rights p n xs (entry_at t p)
unfolding gather_rights
rights_at p n [] t = refl
rights_at p n (x ∷ xs) t =
    rights_at p n xs (put_entry t x.page (reported_right (entry_at t x.page) n))
    ∙ ap (λ e. with_rights p n xs e) (put_changed t (λ e. reported_right e n) x.page p)

waits_at : (p : ℕ) (xs : List ReportWait) (t : LockTable) → entry_at (gather_waits t xs) p ≡ with_waits p xs (entry_at t p)
unfolding gather_waits
waits_at p [] t = refl
waits_at p (x ∷ xs) t =
    waits_at p xs (put_entry t x.page (ask (entry_at t x.page) (waiter_of x)))
    ∙ ap (λ e. with_waits p xs e) (put_changed t (λ e. ask e (waiter_of x)) x.page p)

-- after the locks
record HasLocks (p : ℕ) (xs : List ReportLock) (e later : LockEntry) : Type 0 where
  version : later.version ≡ e.version
  holders : (t : TxId) → mode_of later.holders t ≡ or_else (mode_of e.holders t) (mode_listed xs t p)
  rights : later.rights ≡ e.rights
  waiting : later.waiting ≡ e.waiting

has_locks : (p : ℕ) (xs : List ReportLock) (e : LockEntry) → HasLocks p xs e (with_locks p xs e)
unfolding mode_listed
has_locks p [] e = record { version = refl; holders = λ t. sym (else_none (mode_of e.holders t)); rights = refl; waiting = refl }
has_locks p (x ∷ xs) e = by (x.page == p) refl (has_locks p xs (pick (x.page == p) (reported e x.tx x.mode) e))
  where
    later : Bool → LockEntry
    later b = with_locks p xs (pick b (reported e x.tx x.mode) e)

    first : (o k : Option Mode) (c : Bool) → or_else (or_else o (pick c (Some x.mode) None)) k ≡ or_else o (pick (c && true) (Some x.mode) k)
    first None k true = refl
    first (Some m) k true = refl
    first None k false = refl
    first (Some m) k false = refl

    rest : (o k : Option Mode) (c : Bool) → or_else o k ≡ or_else o (pick (c && false) (Some x.mode) k)
    rest o k true = refl
    rest o k false = refl

    by : (b : Bool) → (x.page == p) ≡ b → HasLocks p xs (pick b (reported e x.tx x.mode) e) (later b)
        → HasLocks p (x ∷ xs) e (later b)
    by true f h =
        let r = reported_lock e x.tx x.mode in
        record {
          version = h.version ∙ r.version;
          holders = λ t.
              h.holders t
              ∙ (ap (λ (o : Option Mode). or_else o (mode_listed xs t p)) (r.holders t)
              ∙ (first (mode_of e.holders t) (mode_listed xs t p) (same_tx x.tx t)
              ∙ ap (λ b. or_else (mode_of e.holders t) (pick (same_tx x.tx t && b) (Some x.mode) (mode_listed xs t p))) (sym f)));
          rights = h.rights ∙ r.rights;
          waiting = h.waiting ∙ r.waiting;
        }
    by false f h =
        record {
          version = h.version;
          holders = λ t.
              h.holders t
              ∙ (rest (mode_of e.holders t) (mode_listed xs t p) (same_tx x.tx t)
              ∙ ap (λ b. or_else (mode_of e.holders t) (pick (same_tx x.tx t && b) (Some x.mode) (mode_listed xs t p))) (sym f));
          rights = h.rights;
          waiting = h.waiting;
        }

-- after the rights
record HasRights (p n : ℕ) (xs : List ReportRight) (e later : LockEntry) : Type 0 where
  version : later.version ≡ e.version
  holders : later.holders ≡ e.holders
  rights : (m : ℕ) → has_right later.rights m ≡ has_right e.rights m || (n == m && lists_right xs p)
  waiting : later.waiting ≡ e.waiting

has_rights : (p n : ℕ) (xs : List ReportRight) (e : LockEntry) → HasRights p n xs e (with_rights p n xs e)
has_rights p n [] e = record { version = refl; holders = refl; rights = λ m. sym (ap (λ b. has_right e.rights m || b) (and_none (n == m)) ∙ or_none (has_right e.rights m)); waiting = refl }
has_rights p n (x ∷ xs) e = by (x.page == p) refl (has_rights p n xs (pick (x.page == p) (reported_right e n) e))
  where
    later : Bool → LockEntry
    later b = with_rights p n xs (pick b (reported_right e n) e)

    first : (a c d : Bool) → (a || c) || (c && d) ≡ a || (c && true)
    first true c d = refl
    first false true d = refl
    first false false d = refl

    by : (b : Bool) → (x.page == p) ≡ b → HasRights p n xs (pick b (reported_right e n) e) (later b) → HasRights p n (x ∷ xs) e (later b)
    by true f h =
        let r = reported_too e n in
        record {
          version = h.version ∙ r.version;
          holders = h.holders ∙ r.holders;
          rights = λ m.
              h.rights m
              ∙ (ap (λ b. b || (n == m && lists_right xs p)) (r.rights m)
              ∙ (first (has_right e.rights m) (n == m) (lists_right xs p) ∙ ap (λ b. has_right e.rights m || (n == m && (b || lists_right xs p))) (sym f)));
          waiting = h.waiting ∙ r.waiting;
        }
    by false f h =
        record {
          version = h.version;
          holders = h.holders;
          rights = λ m. h.rights m ∙ ap (λ b. has_right e.rights m || (n == m && (b || lists_right xs p))) (sym f);
          waiting = h.waiting;
        }

-- after the accesses that wait
record HasWaits (p : ℕ) (xs : List ReportWait) (e later : LockEntry) : Type 0 where
  version : later.version ≡ e.version
  holders : later.holders ≡ e.holders
  rights : later.rights ≡ e.rights
  waiting : (w : Waiter) → Contains later.waiting w → Contains e.waiting w ⊎ IsListed p xs w
  writers : NoWriterWaits e → NoWriterWaits later

later_item : (p : ℕ) (x : ReportWait) (xs : List ReportWait) (w : Waiter) → IsListed p xs w → IsListed p (x ∷ xs) w
later_item p x xs w l = record { item = l.item; inside = contains_there x l.item xs l.inside; page = l.page; same = l.same }

has_waits : (p : ℕ) (xs : List ReportWait) (e : LockEntry) → HasWaits p xs e (with_waits p xs e)
has_waits p [] e = record { version = refl; holders = refl; rights = refl; waiting = λ w c. inl c; writers = λ i. i }
has_waits p (x ∷ xs) e = by (x.page == p) refl (has_waits p xs (pick (x.page == p) (ask e (waiter_of x)) e))
  where
    later : Bool → LockEntry
    later b = with_waits p xs (pick b (ask e (waiter_of x)) e)

    by : (b : Bool) → (x.page == p) ≡ b → HasWaits p xs (pick b (ask e (waiter_of x)) e) (later b) → HasWaits p (x ∷ xs) e (later b)
    by true f h =
        let r = asking_is_seen_law e (waiter_of x) in
        record {
          version = h.version ∙ r.version;
          holders = h.holders ∙ r.holders;
          rights = h.rights ∙ r.rights;
          waiting = λ w c. elim (h.waiting w c) [
            | inl before ↦ elim (r.waiting w before) [
              | inl old ↦ inl old
              | inr new ↦ inr (record { item = x; inside = contains_here x xs; page = number_equal x.page p f; same = new })
            ]
            | inr listed ↦ inr (later_item p x xs w listed)
          ];
          writers = λ i. h.writers (asked_keeps e (waiter_of x) (ask e (waiter_of x)) r i);
        }
    by false f h =
        record {
          version = h.version;
          holders = h.holders;
          rights = h.rights;
          waiting = λ w c. elim (h.waiting w c) [ inl old ↦ inl old | inr listed ↦ inr (later_item p x xs w listed) ];
          writers = h.writers;
        }

-- the whole report
listed_writers : (p : ℕ) (xs : List ReportLock) (e later : LockEntry) → HasLocks p xs e later
    → ((t : TxId) → mode_listed xs t p ≡ Some Exclusive → waits_in e.waiting t ≡ false) → NoWriterWaits e → NoWriterWaits later
listed_writers p xs e later h f i t x =
    ap (λ (ws : List Waiter). waits_in ws t) h.waiting ∙ by (mode_of e.holders t) refl (sym (h.holders t) ∙ x)
  where
    by : (o : Option Mode) → mode_of e.holders t ≡ o → or_else o (mode_listed xs t p) ≡ Some Exclusive → waits_in e.waiting t ≡ false
    by None q y = f t y
    by (Some m) q y = i t (q ∙ y)

gathered : (p n : ℕ) (r : Report) (e : LockEntry) → IsGathered p n r e (with_waits p r.waits (with_rights p n r.rights (with_locks p r.locks e)))
gathered p n r e =
    let one : LockEntry = with_locks p r.locks e in
    let two : LockEntry = with_rights p n r.rights one in
    let l : HasLocks p r.locks e one = has_locks p r.locks e in
    let m : HasRights p n r.rights one two = has_rights p n r.rights one in
    let w : HasWaits p r.waits two (with_waits p r.waits two) = has_waits p r.waits two in
    record {
      version = w.version ∙ (m.version ∙ l.version);
      holders = λ t. ap (λ (hs : List Holder). mode_of hs t) (w.holders ∙ m.holders) ∙ l.holders t;
      rights = λ k. ap (λ (rs : List RightMark). has_right rs k) w.rights ∙ (m.rights k ∙ ap (λ (rs : List RightMark). has_right rs k || (n == k && lists_right r.rights p)) l.rights);
      waiting = λ x c. elim (w.waiting x c) [ inl old ↦ inl (subst (λ (ws : List Waiter). Contains ws x) (m.waiting ∙ l.waiting) old) | inr listed ↦ inr listed ];
      writers = λ f i. w.writers (same_lists one two m.holders m.waiting (listed_writers p r.locks e one l f i));
    }

-- what putting items in leaves
kept_locks : (xs : List ReportLock) (t : LockTable) → ((gather_locks t xs).serving ≡ t.serving) × ((gather_locks t xs).reported ≡ t.reported)
unfolding gather_locks
kept_locks [] t = (refl, refl)
kept_locks (x ∷ xs) t = kept_locks xs (put_entry t x.page (reported (entry_at t x.page) x.tx x.mode))

kept_rights : (n : ℕ) (xs : List ReportRight) (t : LockTable) → ((gather_rights t n xs).serving ≡ t.serving) × ((gather_rights t n xs).reported ≡ t.reported)
unfolding gather_rights
kept_rights n [] t = (refl, refl)
kept_rights n (x ∷ xs) t = kept_rights n xs (put_entry t x.page (reported_right (entry_at t x.page) n))

kept_waits : (xs : List ReportWait) (t : LockTable) → ((gather_waits t xs).serving ≡ t.serving) × ((gather_waits t xs).reported ≡ t.reported)
unfolding gather_waits
kept_waits [] t = (refl, refl)
kept_waits (x ∷ xs) t = kept_waits xs (put_entry t x.page (ask (entry_at t x.page) (waiter_of x)))

pub gathering_is_seen_law : GatheringIsSeen
unfolding gather
gathering_is_seen_law t n r =
    let one : LockTable = gather_locks t r.locks in
    let two : LockTable = gather_rights one n r.rights in
    let three : LockTable = gather_waits two r.waits in
    let flags : three.reported ≡ t.reported = (kept_waits r.waits two).1 ∙ ((kept_rights n r.rights one).1 ∙ (kept_locks r.locks t).1) in
    record {
      entries = λ p.
          let same : entry_at three p ≡ with_waits p r.waits (with_rights p n r.rights (with_locks p r.locks (entry_at t p))) =
          waits_at p r.waits two
          ∙ ap (λ e. with_waits p r.waits e) (rights_at p n r.rights one ∙ ap (λ e. with_rights p n r.rights e) (locks_at p r.locks t)) in
          subst (λ (e : LockEntry). IsGathered p n r (entry_at t p) e) (sym same) (gathered p n r (entry_at t p));
      marks = λ m. flag_set three.reported n m ∙ ap (λ (fs : List Bool). slice_index_or fs m false || (n == m && nat_lt n (length fs))) flags;
      serving = (kept_waits r.waits two).0 ∙ ((kept_rights n r.rights one).0 ∙ (kept_locks r.locks t).0);
    }
