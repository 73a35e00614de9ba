-- What a decision that is carried out leaves as it was: the tables, the pages, and what is seen of
-- other partitions.
use Rattle.std.proofs.Common.{◌≡◌, ℕ, ◌==◌, not, cond, Bool, true, false, List, [], ◌∷◌, Option, Some, None, is_some, refl, ap, sym, subst, ◌∙◌}
use Rattle.std.specs.List.{AllByRecursion}
use Rattle.pcl_base.specs.declared.tx.TxId.{TxId}
use Rattle.pcl_base.specs.declared.lock.Held.{Held}
use Rattle.pcl_base.specs.declared.lock.Kind.TheVariants as kind
use Rattle.pcl_base.specs.declared.lock.Decision.{Decision}
use Rattle.pcl_base.specs.declared.lock.Decision.TheVariants as decision
use Rattle.text_rules.specs.StoredPage.{PageAt}
use Rattle.node_rules.specs.Words.{pick}
use Rattle.node_rules.specs.OpenTxs.{add, pending_of, waits_as}
use Rattle.node_rules.specs.BufferRule.{Pool, Slot, Copy, find, slot_in, slot_at, copy_of_slot, version_of_copy, change_slot, slots_without, in_front, touch, install, fill, change, private_bytes}
use Rattle.node_rules.specs.CopyRule.{is_version}
use Rattle.node_rules.specs.LockTable.{LockTable}
use Rattle.node_rules.specs.NodeState.{HomeState, partition, number_of}
use Rattle.node_rules.specs.Work.{HomeWork, Work, Outcome, Goes, Differs, and_then, and_so, for_each, work_of_home, with_node, read_page}
use Rattle.node_rules.specs.AccessRule.{Granted, on_pool, filled, perform, clean_copy, from_disk, unless_current, bring, write_of, locked, granted}
use Rattle.node_rules.specs.OwnerRule.{told, grant_own, carry_grant, carry_out}
use Rattle.install_laws.specs.InstallPlans.{Due, carry_due}
use Rattle.install_laws.proofs.Words.{equal, not_equal}
use Rattle.install_laws.proofs.Outcomes.{On, on_so, on_more, on_each, each_changed}
use Rattle.install_laws.proofs.Reports.{HomeSame, home_same_self, home_same_then, home_is_same, waits_added, locks_added}

-- the slot of another page
slot_changed : (f : Slot → Slot) → ((s : Slot) → (f s).page ≡ s.page) → (ss : List Slot) (p r : ℕ) → (r ≡ p → ⊥) → slot_in (change_slot f ss p) r ≡ slot_in ss r
unfolding slot_in change_slot
slot_changed f same [] p r apart = refl
slot_changed f same (s ∷ ss) p r apart = by (s.page == p) refl (s.page == r) refl (slot_changed f same ss p r apart)
  where
    by : (b : Bool) → (s.page == p) ≡ b → (d : Bool) → (s.page == r) ≡ d → slot_in (change_slot f ss p) r ≡ slot_in ss r
        → slot_in (pick b (f s) s ∷ change_slot f ss p) r ≡ slot_in (s ∷ ss) r
    by true e true g rest = absurd (apart (sym (equal s.page r g) ∙ equal s.page p e))
    by true e false g rest =
        ap (λ d. pick d (Some (f s)) (slot_in (change_slot f ss p) r)) (ap (λ n. n == r) (same s) ∙ g) ∙ rest ∙ sym (ap (λ d. pick d (Some s) (slot_in ss r)) g)
    by false e d g rest = ap (λ o. pick (s.page == r) (Some s) o) rest

slot_apart : (ss : List Slot) (p r : ℕ) → (r ≡ p → ⊥) → slot_in (slots_without ss p) r ≡ slot_in ss r
unfolding slot_in
slot_apart [] p r apart = refl
slot_apart (s ∷ ss) p r apart = by (s.page == p) refl (slot_apart ss p r apart)
  where
    by : (b : Bool) → (s.page == p) ≡ b → slot_in (slots_without ss p) r ≡ slot_in ss r → slot_in (cond (not b) (s ∷ slots_without ss p) (slots_without ss p)) r ≡ slot_in (s ∷ ss) r
    by true e rest =
        let skips : (s.page == r) ≡ false = not_equal s.page r (λ g. apart (sym g ∙ equal s.page p e)) in
        rest ∙ sym (ap (λ d. pick d (Some s) (slot_in ss r)) skips)
    by false e rest = ap (λ o. pick (s.page == r) (Some s) o) rest

-- the slot that is found is one of its page
slot_page : (ss : List Slot) (p : ℕ) (s : Slot) → slot_in ss p ≡ Some s → s.page ≡ p
unfolding slot_in
slot_page [] p s e = absurd (cc)
slot_page (x ∷ xs) p s e = by (x.page == p) refl (slot_in xs p) (slot_page xs p s) e
  where
    by : (b : Bool) → (x.page == p) ≡ b → (o : Option Slot) → (o ≡ Some s → s.page ≡ p) → pick b (Some x) o ≡ Some s → s.page ≡ p
    by true g o rest f = let same : x ≡ s = cc in ap (λ (y : Slot). y.page) (sym same) ∙ equal x.page p g
    by false g o rest f = rest f

found_touched : (b : Pool) (p r : ℕ) → (r ≡ p → ⊥) → find (touch b p) r ≡ find b r
unfolding touch slot_in
found_touched b p r apart = by (slot_at b p) refl
  where
    by : (o : Option Slot) → slot_at b p ≡ o → version_of_copy (copy_of_slot (slot_in (in_front o b.slots) r)) ≡ find b r
    by None e = refl
    by (Some s) e =
        let page : s.page ≡ p = slot_page b.slots p s e in
        let skips : (s.page == r) ≡ false = not_equal s.page r (λ g. apart (sym g ∙ page)) in
        ap (λ d. version_of_copy (copy_of_slot (pick d (Some s) (slot_in (slots_without b.slots s.page) r)))) skips
        ∙ ap (λ o. version_of_copy (copy_of_slot o)) (slot_apart b.slots s.page r (λ g. apart (g ∙ page)))

found_installed : (b : Pool) (p r : ℕ) (c : Copy) → (r ≡ p → ⊥) → find (install b p c) r ≡ find b r
unfolding install
found_installed b p r c apart = ap (λ o. version_of_copy (copy_of_slot o)) (slot_changed (λ s. record s { copy = Some c }) (λ s. refl) b.slots p r apart)

found_written : (b : Pool) (t : TxId) (p place r : ℕ) (bytes : List ℕ) → (r ≡ p → ⊥) → find (change (filled (touch b p) t p) t p place bytes) r ≡ find b r
unfolding change fill
found_written b t p place r bytes apart = by (private_bytes (touch b p) t p)
  where
    by : (o : Option (List ℕ)) → find (change (pick (is_some o) (touch b p) (fill (touch b p) t p)) t p place bytes) r ≡ find b r
    by None = found_touched b p r apart
    by (Some old) = found_touched b p r apart

-- a page was brought to a version: its slot alone is another one
pub record IsBrought (p : ℕ) (w x : HomeWork) : Type 0 where
  pub home : x.home ≡ record w.home { pool = x.home.pool }
  pub pages : x.pages ≡ w.pages
  pub found : (r : ℕ) → (r ≡ p → ⊥) → find x.home.pool r ≡ find w.home.pool r

brought_home : (p v : ℕ) (w : HomeWork) → On (IsBrought p w) (bring p v None w)
unfolding bring
brought_home p v w = by (is_version (find w.home.pool p) v)
  where
    at_version : (b : Bool) (at : PageAt) → On (IsBrought p w) (let o : Outcome HomeWork = pick b (Goes (on_pool (λ b. install b p (clean_copy at)) w)) (Differs p v at.version) in o)
    at_version true at = record { home = refl; pages = refl; found = λ r apart. found_installed w.home.pool p r (clean_copy at) apart }
    at_version false at = tt

    by_page : (o : Outcome PageAt) → On (IsBrought p w) (and_then o (from_disk p v w))
    by_page (Goes at) = at_version (at.version == v) at
    by_page (Differs n e f) = tt

    by : (b : Bool) → On (IsBrought p w) (unless_current b p v None w)
    by true = record { home = refl; pages = refl; found = λ r apart. refl }
    by false = by_page (read_page w.pages p)

-- an access is granted: its transaction has the lock, and the slot of its page alone is another one
pub record IsGranted (t : TxId) (l : Held) (w x : HomeWork) : Type 0 where
  pub home : x.home ≡ record w.home { txs = add w.home.txs t l; pool = x.home.pool; written = x.home.written }
  pub pages : x.pages ≡ w.pages
  pub found : (r : ℕ) → (r ≡ l.page → ⊥) → find x.home.pool r ≡ find w.home.pool r

lock_is_granted : (t : TxId) (l : Held) (write : Option (ℕ × List ℕ)) (w x : HomeWork) → IsBrought l.page w x → IsGranted t l w (locked t l write x).work
unfolding perform
lock_is_granted t l None w x is =
    record {
      home = ap (λ (h : HomeState). record h { txs = add h.txs t l; pool = touch x.home.pool l.page; written = x.home.written }) is.home;
      pages = is.pages;
      found = λ r apart. found_touched x.home.pool l.page r apart ∙ is.found r apart;
    }
lock_is_granted t l (Some write) w x is =
    record {
      home =
          ap (λ (h : HomeState).
          record h {
            txs = add h.txs t l;
            pool = (locked t l (Some write) x).work.home.pool;
            written = (locked t l (Some write) x).work.home.written;
          }) is.home;
      pages = is.pages;
      found = λ r apart. found_written x.home.pool t l.page write.0 r write.1 apart ∙ is.found r apart;
    }

pub granted_is : (t : TxId) (l : Held) (v : ℕ) (w : HomeWork) → On (λ (g : Granted). IsGranted t l w g.work) (granted t l v None w)
unfolding granted
granted_is t l v w =
    on_so (IsBrought l.page w) (λ (g : Granted). IsGranted t l w g.work) (bring l.page v None w) (locked t l (write_of (pending_of w.home.txs t)))
    (brought_home l.page v w) (λ x is. lock_is_granted t l (write_of (pending_of w.home.txs t)) w x is)

-- what is seen of another partition is the same
granted_same : (t : TxId) (l : Held) (r : ℕ) (w x : HomeWork) → (partition w.home.config l.page ≡ r → ⊥) → IsGranted t l w x → HomeSame r w.home x.home
unfolding add
granted_same t l r w x apart is =
    subst (λ h. HomeSame r w.home h) (sym is.home)
    (home_is_same r w.home (add w.home.txs t l) w.home.shelf x.home.pool x.home.written refl
    (waits_added w.home.config r w.home.txs (add w.home.txs t l).txs t.serial l skips w.home.pool x.home.pool found w.home.txs.txs)
    (λ all. locks_added w.home.config r w.home.txs (add w.home.txs t l).txs t.serial l skips all w.home.txs.txs) refl)
  where
    skips : (partition w.home.config l.page == r) ≡ false
    skips = not_equal (partition w.home.config l.page) r apart

    found : (p : ℕ) → partition w.home.config p ≡ r → find x.home.pool p ≡ find w.home.pool p
    found p e = is.found p (λ same. apart (ap (partition w.home.config) (sym same) ∙ e))

-- a decision about a page is carried out: the tables, the pages and the view stay, and so does what
-- is seen of each partition but that of the page
pub record IsCarried (q : ℕ) (w x : Work) : Type 0 where
  pub tables : x.node.tables ≡ w.node.tables
  pub view : x.node.view ≡ w.node.view
  pub pages : x.pages ≡ w.pages
  pub config : x.node.home.config ≡ w.node.home.config
  pub number : number_of x.node ≡ number_of w.node
  pub home : (r : ℕ) → (q ≡ r → ⊥) → HomeSame r w.node.home x.node.home

pub carried_self : (q : ℕ) (w : Work) → IsCarried q w w
carried_self q w =
    record { tables = refl; view = refl; pages = refl; config = refl; number = refl; home = λ r apart. home_same_self r w.node.home }

pub carried_then : (q : ℕ) (w x y : Work) → IsCarried q w x → IsCarried q x y → IsCarried q w y
carried_then q w x y a b =
    record {
      tables = b.tables ∙ a.tables;
      view = b.view ∙ a.view;
      pages = b.pages ∙ a.pages;
      config = b.config ∙ a.config;
      number = b.number ∙ a.number;
      home = λ r apart. home_same_then r w.node.home x.node.home y.node.home (a.home r apart) (b.home r apart);
    }

pub carry_keeps : (q p v : ℕ) (d : Decision) (w : Work) → partition w.node.home.config p ≡ q → On (IsCarried q w) (carry_out p v d w)
unfolding carry_out add
carry_keeps q p v (decision.Revoke n) w of =
    record { tables = refl; view = refl; pages = refl; config = refl; number = refl; home = λ r apart. home_same_self r w.node.home }
carry_keeps q p v (decision.Grant t m right have) w of = by (t.node == number_of w.node)
  where
    lock : Held
    lock = record { page = p; mode = m; kind = kind.Own }

    done : (g : Granted) → IsGranted t lock (work_of_home w) g.work → IsCarried q w (told w g)
    done g is =
        record {
          tables = refl;
          view = refl;
          pages = is.pages;
          config = ap (λ (h : HomeState). h.config) is.home;
          number = ap (λ (h : HomeState). h.txs.node) is.home;
          home = λ r apart. granted_same t lock r (work_of_home w) g.work (λ e. apart (sym of ∙ e)) is;
        }

    own : (b : Bool) → On (IsCarried q w) (grant_own b t m p v w)
    own true = on_so (λ (g : Granted). IsGranted t lock (work_of_home w) g.work) (IsCarried q w) (granted t lock v None (work_of_home w)) (told w) (granted_is t lock v (work_of_home w)) done
    own false = carried_self q w

    by : (b : Bool) → On (IsCarried q w) (carry_grant b t m right have p v w)
    by true = own (waits_as (pending_of w.node.home.txs t) p m)
    by false =
        record { tables = refl; view = refl; pages = refl; config = refl; number = refl; home = λ r apart. home_same_self r w.node.home }

pub each_carried : (q : ℕ) (ds : List Due) (w : Work) → AllByRecursion (λ x. partition w.node.home.config x.page ≡ q) ds → On (IsCarried q w) (for_each carry_due ds w)
each_carried q ds w all =
    on_each (IsCarried q w) (λ (x : Due). partition w.node.home.config x.page ≡ q) carry_due
    (λ d x of is.
    on_more (IsCarried q x) (IsCarried q w) (carry_due d x) (λ y next. carried_then q w x y is next)
    (carry_keeps q d.page d.version d.decision x (ap (λ c. partition c d.page) is.config ∙ of)))
    ds all w (carried_self q w)

-- the work with other tables
abbrev pub with_tables : List (Option LockTable) → Work → Work
with_tables ts w = with_node w (record (w.node) { tables = ts })

-- a decision reads and changes no table
carry_tables : (p v : ℕ) (d : Decision) (ts : List (Option LockTable)) (w : Work) → carry_out p v d (with_tables ts w) ≡ and_so (carry_out p v d w) (with_tables ts)
unfolding carry_out
carry_tables p v (decision.Revoke n) ts w = refl
carry_tables p v (decision.Grant t m right have) ts w = by (t.node == number_of w.node)
  where
    done : (o : Outcome Granted) → and_so o (told (with_tables ts w)) ≡ and_so (and_so o (told w)) (with_tables ts)
    done (Goes g) = refl
    done (Differs n e f) = refl

    own : (b : Bool) → grant_own b t m p v (with_tables ts w) ≡ and_so (grant_own b t m p v w) (with_tables ts)
    own true = done (granted t (record { page = p; mode = m; kind = kind.Own }) v None (work_of_home w))
    own false = refl

    by : (b : Bool) → carry_grant b t m right have p v (with_tables ts w) ≡ and_so (carry_grant b t m right have p v w) (with_tables ts)
    by true = own (waits_as (pending_of w.node.home.txs t) p m)
    by false = refl

-- some decisions read and change no table
pub each_tables : (ts : List (Option LockTable)) (ds : List Due) (w : Work) → for_each carry_due ds (with_tables ts w) ≡ and_so (for_each carry_due ds w) (with_tables ts)
each_tables ts ds w = each_changed (with_tables ts) carry_due (λ x w. carry_tables x.page x.version x.decision ts w) ds w
