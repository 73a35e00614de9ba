-- What a report lists of a partition stays the same where pages of others are locked, kept or changed.
use Rattle.std.proofs.Common.{◌≡◌, ℕ, ◌==◌, ◌&&◌, not, cond, Bool, true, false, List, [], ◌∷◌, ◌++◌, map, Option, Some, None, refl, ap, sym, ◌∙◌}
use Rattle.std.specs.List.{filter}
use Rattle.pcl_base.specs.Limits.{Sizes}
use Rattle.pcl_base.specs.declared.tx.TxId.{TxId}
use Rattle.pcl_base.specs.declared.lock.Held.{Held}
use Rattle.pcl_base.specs.declared.lock.Kind.{Kind}
use Rattle.pcl_base.specs.declared.lock.Kind.TheVariants as kind
use Rattle.pcl_base.specs.declared.lock.Pending.{Pending}
use Rattle.pcl_base.specs.declared.message.Report.{Report}
use Rattle.pcl_base.specs.declared.message.ReportLock.{ReportLock}
use Rattle.pcl_base.specs.declared.message.ReportWait.{ReportWait}
use Rattle.node_rules.specs.Words.{pick}
use Rattle.node_rules.specs.OpenTxs.{OpenTx, OpenTxs, name_of, put_lock, change_open, with_lock, waits_on}
use Rattle.node_rules.specs.Shelf.{Right}
use Rattle.node_rules.specs.BufferRule.{Pool, Slot, Copy, find, slot_in, copy_of_slot, cleaned, version_of_copy, change_slot, clean}
use Rattle.node_rules.specs.NodeState.{HomeState, Written, partition}
use Rattle.node_rules.specs.Reports.{is_listed, locks_in, all_locks, wait_in, all_waits, rights_in, all_rights, report, own_report}
use Rattle.node_rules.specs.InstallRule.{kinds_of_locks, all_kinds, spend_rights, take_over, clean_slots}
use Rattle.install_laws.specs.InstallPlans.{left_home}
use Rattle.install_laws.proofs.Words.{equal, not_equal}

-- what is seen of a home by who plans a partition
pub record HomeSame (r : ℕ) (h x : HomeState) : Type 0 where
  pub config : x.config ≡ h.config
  pub number : x.txs.node ≡ h.txs.node
  pub own : own_report r x ≡ own_report r h
  pub told : report r x ≡ report r h

pub home_same_self : (r : ℕ) (h : HomeState) → HomeSame r h h
home_same_self r h = record { config = refl; number = refl; own = refl; told = refl }

pub home_same_then : (r : ℕ) (h x y : HomeState) → HomeSame r h x → HomeSame r x y → HomeSame r h y
home_same_then r h x y a b =
    record { config = b.config ∙ a.config; number = b.number ∙ a.number; own = b.own ∙ a.own; told = b.told ∙ a.told }

-- a home with other transactions, rights, buffer and written places
abbrev pub home_with : HomeState → OpenTxs → List Right → Pool → List Written → HomeState
home_with h txs shelf pool written = record h { txs = txs; shelf = shelf; pool = pool; written = written }

pub home_is_same : (r : ℕ) (h : HomeState) (txs : OpenTxs) (shelf : List Right) (pool : Pool) (written : List Written) → txs.node ≡ h.txs.node
    → all_waits h.config r pool txs txs.txs ≡ all_waits h.config r h.pool h.txs h.txs.txs
    → ((all : Bool) → all_locks h.config r all txs txs.txs ≡ all_locks h.config r all h.txs h.txs.txs)
    → all_rights h.config r shelf ≡ all_rights h.config r h.shelf
    → HomeSame r h (home_with h txs shelf pool written)
unfolding own_report report
home_is_same r h txs shelf pool written number waits locks rights =
    record {
      config = refl;
      number = number;
      own = λ i. record { partition = r; waits = waits i; locks = locks true i; rights = [] };
      told = λ i. record { partition = r; waits = waits i; locks = locks false i; rights = rights i };
    }

module _ (c : Sizes) (r : ℕ) where
  -- a lock on a page of another partition isn't listed
  skipped : (all : Bool) (t : TxId) (h : Held) (ls : List ReportLock) → (partition c h.page == r) ≡ false
      → pick (partition c h.page == r && is_listed all h.kind) (record { tx = t; page = h.page; mode = h.mode } ∷ ls) ls ≡ ls
  skipped all t h ls e = ap (λ b. pick (b && is_listed all h.kind) (record { tx = t; page = h.page; mode = h.mode } ∷ ls) ls) e

  -- a lock is put in on a page of another partition
  lock_put : (all : Bool) (t : TxId) (hs : List Held) (l : Held) → (partition c l.page == r) ≡ false → locks_in c r all t (put_lock hs l) ≡ locks_in c r all t hs
  unfolding locks_in put_lock
  lock_put all t [] l e = skipped all t l [] e
  lock_put all t (h ∷ hs) l e = by (h.page == l.page) refl (lock_put all t hs l e)
    where
      by : (b : Bool) → (h.page == l.page) ≡ b → locks_in c r all t (put_lock hs l) ≡ locks_in c r all t hs
          → locks_in c r all t (pick b (l ∷ hs) (h ∷ put_lock hs l)) ≡ locks_in c r all t (h ∷ hs)
      by true same rest =
          let skips : (partition c h.page == r) ≡ false = ap (λ p. partition c p == r) (equal h.page l.page same) ∙ e in
          skipped all t l (locks_in c r all t hs) e ∙ sym (skipped all t h (locks_in c r all t hs) skips)
      by false same rest = ap (λ ls. pick (partition c h.page == r && is_listed all h.kind) (record { tx = t; page = h.page; mode = h.mode } ∷ ls) ls) rest

  -- the locks on another partition get a kind
  kind_of_lock : (q : ℕ) (k : Kind) (all : Bool) (t : TxId) (h : Held) (ls : List ReportLock) → (q ≡ r → ⊥) → (b : Bool) → (partition c h.page == q) ≡ b
      → pick (partition c (pick b (record h { kind = k }) h).page == r && is_listed all (pick b (record h { kind = k }) h).kind)
      (record { tx = t; page = (pick b (record h { kind = k }) h).page; mode = (pick b (record h { kind = k }) h).mode } ∷ ls) ls
      ≡ pick (partition c h.page == r && is_listed all h.kind) (record { tx = t; page = h.page; mode = h.mode } ∷ ls) ls
  kind_of_lock q k all t h ls apart true e =
      let skips : (partition c h.page == r) ≡ false = not_equal (partition c h.page) r (λ same. apart (sym (equal (partition c h.page) q e) ∙ same)) in
      skipped all t (record h { kind = k }) ls skips ∙ sym (skipped all t h ls skips)
  kind_of_lock q k all t h ls apart false e = refl

  locks_kept : (q : ℕ) (k : Kind) (all : Bool) (t : TxId) (hs : List Held) → (q ≡ r → ⊥) → locks_in c r all t (kinds_of_locks c q k hs) ≡ locks_in c r all t hs
  unfolding locks_in
  locks_kept q k all t [] apart = refl
  locks_kept q k all t (h ∷ hs) apart =
      kind_of_lock q k all t h (locks_in c r all t (kinds_of_locks c q k hs)) apart (partition c h.page == q) refl
      ∙ ap (λ ls. pick (partition c h.page == r && is_listed all h.kind) (record { tx = t; page = h.page; mode = h.mode } ∷ ls) ls) (locks_kept q k all t hs apart)

  -- the locks on the partition itself all get a kind: all are listed then, where it is that of registered ones
  locks_own : (k : Kind) (t : TxId) (hs : List Held) → locks_in c r true t (kinds_of_locks c r k hs) ≡ locks_in c r true t hs
  unfolding locks_in
  locks_own k t [] = refl
  locks_own k t (h ∷ hs) = by (partition c h.page == r) refl
      ∙ ap (λ ls. pick (partition c h.page == r && true) (record { tx = t; page = h.page; mode = h.mode } ∷ ls) ls) (locks_own k t hs)
    where
      by : (b : Bool) → (partition c h.page == r) ≡ b
          → pick (partition c (pick b (record h { kind = k }) h).page == r && true)
          (record { tx = t; page = (pick b (record h { kind = k }) h).page; mode = (pick b (record h { kind = k }) h).mode } ∷ locks_in c r true t (kinds_of_locks c r k hs))
          (locks_in c r true t (kinds_of_locks c r k hs))
          ≡ pick (partition c h.page == r && true) (record { tx = t; page = h.page; mode = h.mode } ∷ locks_in c r true t (kinds_of_locks c r k hs)) (locks_in c r true t (kinds_of_locks c r k hs))
      by true e = refl
      by false e = refl

  locks_registered : (t : TxId) (hs : List Held) → locks_in c r false t (kinds_of_locks c r kind.Registered hs) ≡ locks_in c r true t hs
  unfolding locks_in
  locks_registered t [] = refl
  locks_registered t (h ∷ hs) = by (partition c h.page == r) refl (locks_in c r false t (kinds_of_locks c r kind.Registered hs)) (locks_in c r true t hs) (locks_registered t hs)
    where
      by : (b : Bool) → (partition c h.page == r) ≡ b → (ls ms : List ReportLock) → ls ≡ ms
          → pick (partition c (pick b (record h { kind = kind.Registered }) h).page == r && is_listed false (pick b (record h { kind = kind.Registered }) h).kind)
          (record { tx = t; page = (pick b (record h { kind = kind.Registered }) h).page; mode = (pick b (record h { kind = kind.Registered }) h).mode } ∷ ls) ls
          ≡ pick (partition c h.page == r && true) (record { tx = t; page = h.page; mode = h.mode } ∷ ms) ms
      by true e ls ms same = ap (λ zs. pick (partition c h.page == r && true) (record { tx = t; page = h.page; mode = h.mode } ∷ zs) zs) same
      by false e ls ms same = skipped false t h ls e ∙ same ∙ sym (skipped true t h ms e)

  -- what is listed of an access that waits
  abbrev waits_if : Bool → TxId → Pending → Option ℕ → List ReportWait
  waits_if b t w have = pick b (record { tx = t; page = w.page; mode = w.mode; have = have } ∷ []) []

  -- an access that waits, with a buffer in which the copies of the partition's pages have the same versions
  wait_kept : (b x : Pool) → ((p : ℕ) → partition c p ≡ r → find x p ≡ find b p) → (t : TxId) (o : Option Pending) → wait_in c r x t o ≡ wait_in c r b t o
  wait_kept b x same t None = refl
  wait_kept b x same t (Some w) = by (partition c w.page == r) refl
    where
      by : (d : Bool) → (partition c w.page == r) ≡ d
          → waits_if d t w (find x w.page) ≡ waits_if d t w (find b w.page)
      by true e = ap (waits_if true t w) (same w.page (equal (partition c w.page) r e))
      by false e = refl

  -- an access ends that waits for a page of another partition
  wait_ended : (b x : Pool) → ((p : ℕ) → partition c p ≡ r → find x p ≡ find b p) → (l : Held) → (partition c l.page == r) ≡ false
      → (t : TxId) (o : Option Pending) → wait_in c r x t (pick (waits_on o l.page) None o) ≡ wait_in c r b t o
  wait_ended b x same l e t None = refl
  wait_ended b x same l e t (Some w) = by (w.page == l.page) refl
    where
      by : (d : Bool) → (w.page == l.page) ≡ d → wait_in c r x t (pick d None (Some w)) ≡ wait_in c r b t (Some w)
      by true f = sym (ap (λ d. waits_if d t w (find b w.page)) (ap (λ p. partition c p == r) (equal w.page l.page f) ∙ e))
      by false f = wait_kept b x same t (Some w)

  -- a transaction gets a lock on a page of another partition
  module _ (s : OpenTxs) (all_of : List OpenTx) (n : ℕ) (l : Held) (e : (partition c l.page == r) ≡ false) where
    abbrev later : OpenTxs
    later = record s { txs = all_of }

    pub locks_added : (all : Bool) (xs : List OpenTx) → all_locks c r all later (change_open (with_lock l) xs n) ≡ all_locks c r all s xs
    unfolding all_locks change_open
    locks_added all [] = refl
    locks_added all (x ∷ xs) =
        by (x.serial == n) ∙ ap (λ ls. locks_in c r all (name_of s x.serial) x.pages ++ ls) (locks_added all xs)
      where
        by : (b : Bool)
            → locks_in c r all (name_of later (pick b (with_lock l x) x).serial) (pick b (with_lock l x) x).pages ++ all_locks c r all later (change_open (with_lock l) xs n)
            ≡ locks_in c r all (name_of s x.serial) x.pages ++ all_locks c r all later (change_open (with_lock l) xs n)
        by true = ap (λ ls. ls ++ all_locks c r all later (change_open (with_lock l) xs n)) (lock_put all (name_of s x.serial) x.pages l e)
        by false = refl

    pub waits_added : (b x : Pool) → ((p : ℕ) → partition c p ≡ r → find x p ≡ find b p) → (xs : List OpenTx)
        → all_waits c r x later (change_open (with_lock l) xs n) ≡ all_waits c r b s xs
    unfolding all_waits change_open
    waits_added b x same [] = refl
    waits_added b x same (y ∷ ys) =
        by (y.serial == n) ∙ ap (λ ls. wait_in c r b (name_of s y.serial) y.waiting ++ ls) (waits_added b x same ys)
      where
        by : (d : Bool)
            → wait_in c r x (name_of later (pick d (with_lock l y) y).serial) (pick d (with_lock l y) y).waiting ++ all_waits c r x later (change_open (with_lock l) ys n)
            ≡ wait_in c r b (name_of s y.serial) y.waiting ++ all_waits c r x later (change_open (with_lock l) ys n)
        by true = ap (λ ls. ls ++ all_waits c r x later (change_open (with_lock l) ys n)) (wait_ended b x same l e (name_of s y.serial) y.waiting)
        by false = ap (λ ls. ls ++ all_waits c r x later (change_open (with_lock l) ys n)) (wait_kept b x same (name_of s y.serial) y.waiting)

  -- the locks of all transactions get a kind
  abbrev tx_kinds : ℕ → Kind → OpenTx → OpenTx
  tx_kinds q k x = record x { pages = kinds_of_locks c q k x.pages }

  module _ (s : OpenTxs) (all_of : List OpenTx) (q : ℕ) (k : Kind) where
    abbrev kinds : OpenTxs
    kinds = record s { txs = all_of }

    pub all_locks_kept : (q ≡ r → ⊥) → (all : Bool) (xs : List OpenTx) → all_locks c r all kinds (map (tx_kinds q k) xs) ≡ all_locks c r all s xs
    unfolding all_locks
    all_locks_kept apart all [] = refl
    all_locks_kept apart all (x ∷ xs) = λ i. locks_kept q k all (name_of s x.serial) x.pages apart i ++ all_locks_kept apart all xs i

    pub all_waits_kept : (b x : Pool) → ((p : ℕ) → partition c p ≡ r → find x p ≡ find b p) → (xs : List OpenTx) → all_waits c r x kinds (map (tx_kinds q k) xs) ≡ all_waits c r b s xs
    unfolding all_waits
    all_waits_kept b x same [] = refl
    all_waits_kept b x same (y ∷ ys) = λ i. wait_kept b x same (name_of s y.serial) y.waiting i ++ all_waits_kept b x same ys i

  module _ (s : OpenTxs) (all_of : List OpenTx) where
    abbrev own_kinds : OpenTxs
    own_kinds = record s { txs = all_of }

    pub all_locks_own : (k : Kind) (xs : List OpenTx) → all_locks c r true own_kinds (map (tx_kinds r k) xs) ≡ all_locks c r true s xs
    unfolding all_locks
    all_locks_own k [] = refl
    all_locks_own k (x ∷ xs) = λ i. locks_own k (name_of s x.serial) x.pages i ++ all_locks_own k xs i

    pub all_locks_registered : (xs : List OpenTx) → all_locks c r false own_kinds (map (tx_kinds r kind.Registered) xs) ≡ all_locks c r true s xs
    unfolding all_locks
    all_locks_registered [] = refl
    all_locks_registered (x ∷ xs) = λ i. locks_registered (name_of s x.serial) x.pages i ++ all_locks_registered xs i

    pub waits_kept : (b x : Pool) → ((p : ℕ) → partition c p ≡ r → find x p ≡ find b p) → (xs : List OpenTx) → all_waits c r x s xs ≡ all_waits c r b s xs
    unfolding all_waits
    waits_kept b x same [] = refl
    waits_kept b x same (y ∷ ys) = λ i. wait_kept b x same (name_of s y.serial) y.waiting i ++ waits_kept b x same ys i

  -- the rights on pages of another partition are spent
  pub rights_kept : (q : ℕ) → (q ≡ r → ⊥) → (rs : List Right) → rights_in c r (filter (λ x. not (partition c x.page == q)) rs) ≡ rights_in c r rs
  rights_kept q apart [] = refl
  rights_kept q apart (x ∷ xs) = by (partition c x.page == q) refl (rights_kept q apart xs)
    where
      by : (b : Bool) → (partition c x.page == q) ≡ b → rights_in c r (filter (λ y. not (partition c y.page == q)) xs) ≡ rights_in c r xs
          → rights_in c r (cond (not b) (x ∷ filter (λ y. not (partition c y.page == q)) xs) (filter (λ y. not (partition c y.page == q)) xs)) ≡ rights_in c r (x ∷ xs)
      by true e rest =
          let skips : (partition c x.page == r) ≡ false = not_equal (partition c x.page) r (λ same. apart (sym (equal (partition c x.page) q e) ∙ same)) in
          rest ∙ sym (ap (λ d. cond d (x ∷ rights_in c r xs) (rights_in c r xs)) skips)
      by false e rest = ap (λ ys. cond (partition c x.page == r) (x ∷ ys) ys) rest

-- a copy that becomes clean keeps its version
clean_version : (o : Option Copy) → version_of_copy (cleaned o) ≡ version_of_copy o
clean_version None = refl
clean_version (Some x) = refl

abbrev clean_slot : Slot → Slot
clean_slot s = record s { copy = cleaned s.copy }

pub found_clean : (c : Sizes) (q : ℕ) (ss : List Slot) (p : ℕ) → version_of_copy (copy_of_slot (slot_in (clean_slots c q ss) p)) ≡ version_of_copy (copy_of_slot (slot_in ss p))
unfolding slot_in
found_clean c q [] p = refl
found_clean c q (s ∷ ss) p = by (partition c s.page == q) (found_clean c q ss p)
  where
    here : (d b : Bool) → version_of_copy (copy_of_slot (slot_in (clean_slots c q ss) p)) ≡ version_of_copy (copy_of_slot (slot_in ss p))
        → version_of_copy (copy_of_slot (pick d (Some (pick b (clean_slot s) s)) (slot_in (clean_slots c q ss) p))) ≡ version_of_copy (copy_of_slot (pick d (Some s) (slot_in ss p)))
    here true true rest = clean_version s.copy
    here true false rest = refl
    here false b rest = rest

    by : (b : Bool) → version_of_copy (copy_of_slot (slot_in (clean_slots c q ss) p)) ≡ version_of_copy (copy_of_slot (slot_in ss p))
        → version_of_copy (copy_of_slot (slot_in (pick b (clean_slot s) s ∷ clean_slots c q ss) p)) ≡ version_of_copy (copy_of_slot (slot_in (s ∷ ss) p))
    by true rest = here (s.page == p) true rest
    by false rest = here (s.page == p) false rest

pub found_cleaned : (b : Pool) (p r : ℕ) → find (clean b p) r ≡ find b r
unfolding clean slot_in change_slot
found_cleaned b p r = by_slots b.slots
  where
    by_slots : (ss : List Slot) → version_of_copy (copy_of_slot (slot_in (change_slot clean_slot ss p) r)) ≡ version_of_copy (copy_of_slot (slot_in ss r))
    by_slots [] = refl
    by_slots (s ∷ ss) = one (s.page == p) (by_slots ss)
      where
        here : (d b : Bool) → version_of_copy (copy_of_slot (slot_in (change_slot clean_slot ss p) r)) ≡ version_of_copy (copy_of_slot (slot_in ss r))
            → version_of_copy (copy_of_slot (pick d (Some (pick b (clean_slot s) s)) (slot_in (change_slot clean_slot ss p) r))) ≡ version_of_copy (copy_of_slot (pick d (Some s) (slot_in ss r)))
        here true true rest = clean_version s.copy
        here true false rest = refl
        here false b rest = rest

        one : (b : Bool) → version_of_copy (copy_of_slot (slot_in (change_slot clean_slot ss p) r)) ≡ version_of_copy (copy_of_slot (slot_in ss r))
            → version_of_copy (copy_of_slot (slot_in (pick b (clean_slot s) s ∷ change_slot clean_slot ss p) r)) ≡ version_of_copy (copy_of_slot (slot_in (s ∷ ss) r))
        one true rest = here (s.page == r) true rest
        one false rest = here (s.page == r) false rest

-- the turnovers of another partition
pub taken_same : (q r : ℕ) (h : HomeState) → (q ≡ r → ⊥) → HomeSame r h (take_over q h)
taken_same q r h apart =
    home_is_same r h (all_kinds q kind.Own h).txs (spend_rights q h).shelf h.pool h.written refl
    (all_waits_kept h.config r h.txs (all_kinds q kind.Own h).txs.txs q kind.Own h.pool h.pool (λ p e. refl) h.txs.txs)
    (λ all. all_locks_kept h.config r h.txs (all_kinds q kind.Own h).txs.txs q kind.Own apart all h.txs.txs)
    (ap (λ rs. map (λ x. record { page = x.page; version = x.version }) rs) (rights_kept h.config r q apart h.shelf))

pub left_same : (q r : ℕ) (h : HomeState) → (q ≡ r → ⊥) → HomeSame r h (left_home q h)
left_same q r h apart =
    home_is_same r h (all_kinds q kind.Registered h).txs h.shelf (left_home q h).pool h.written refl
    (all_waits_kept h.config r h.txs (all_kinds q kind.Registered h).txs.txs q kind.Registered h.pool (left_home q h).pool (λ p e. found_clean h.config q h.pool.slots p) h.txs.txs)
    (λ all. all_locks_kept h.config r h.txs (all_kinds q kind.Registered h).txs.txs q kind.Registered apart all h.txs.txs) refl

-- another buffer, where the copies of the partition's pages have the same versions
pub pool_same : (r : ℕ) (h : HomeState) (b : Pool) → ((p : ℕ) → partition h.config p ≡ r → find b p ≡ find h.pool p) → HomeSame r h (record h { pool = b })
pool_same r h b same =
    home_is_same r h h.txs h.shelf b h.written refl (waits_kept h.config r h.txs h.txs.txs h.pool b same h.txs.txs) (λ all. refl) refl

-- the report of a partition once it is taken over or left
pub own_taken : (r : ℕ) (h : HomeState) → own_report r (take_over r h) ≡ own_report r h
unfolding own_report
own_taken r h =
    λ i. record {
      partition = r;
      waits = all_waits_kept h.config r h.txs (all_kinds r kind.Own h).txs.txs r kind.Own h.pool h.pool (λ p e. refl) h.txs.txs i;
      locks = all_locks_own h.config r h.txs (all_kinds r kind.Own h).txs.txs kind.Own h.txs.txs i;
      rights = [];
    }

-- a report that is made of the own one and another's rights
pub told_left : (r : ℕ) (h : HomeState) → report r (left_home r h) ≡ (let x : Report = record (own_report r h) { rights = (report r h).rights } in x)
unfolding own_report report
told_left r h =
    λ i. record {
      partition = r;
      waits = all_waits_kept h.config r h.txs (all_kinds r kind.Registered h).txs.txs r kind.Registered h.pool (left_home r h).pool (λ p e. found_clean h.config r h.pool.slots p) h.txs.txs i;
      locks = all_locks_registered h.config r h.txs (all_kinds r kind.Registered h).txs.txs h.txs.txs i;
      rights = all_rights h.config r h.shelf;
    }
