-- What a report lists of one page: of each transaction its lock, and each right.
use Rattle.std.proofs.Common.{◌≡◌, refl, ap, sym, ◌∙◌, ℕ, ◌≤◌, ◌==◌, ◌&&◌, ◌||◌, cond, Bool, true, false, List, [], ◌∷◌, ◌++◌, map, Option, Some, None, is_some, eqb-true, arith}
use Rattle.std.specs.List.{All}
use Rattle.std.proofs.lemmas.List.Elements.{All-head, All-tail}
use Rattle.std.proofs.lemmas.Bool.Decides.{nat_tests}
use Rattle.pcl_base.specs.Limits.{Sizes}
use Rattle.pcl_base.specs.declared.lock.Held.{Held}
use Rattle.pcl_base.specs.declared.message.ReportLock.{ReportLock}
use Rattle.pcl_base.specs.declared.message.ReportRight.{ReportRight}
use Rattle.pcl_base.specs.declared.tx.Mode.{Mode}
use Rattle.pcl_base.specs.declared.tx.TxId.{TxId}
use Rattle.node_rules.specs.NodeState.{partition}
use Rattle.node_rules.specs.OpenTxs.{OpenTx, OpenTxs, name_of, is_own, with_serial, pages_of_open, lock_on}
use Rattle.node_rules.specs.Reports.{is_listed, locks_in, all_locks, rights_in, all_rights, report, own_report}
use Rattle.node_rules.specs.Shelf.{Right, right_on}
use Rattle.node_rules.specs.Words.{pick, same_tx, or_else}
use Rattle.home_laws.specs.Homes.{AreSerials, AreOnce}
use Rattle.page_relation.specs.Messages.{mode_listed, lists_right}
use Rattle.kept_relation.specs.Turn.Listing.{listed_mode, ReportIsListed}

-- of two lists the first that has the transaction tells
listed_both : (xs ys : List ReportLock) (t : TxId) (p : ℕ) → mode_listed (xs ++ ys) t p ≡ or_else (mode_listed xs t p) (mode_listed ys t p)
unfolding mode_listed
listed_both [] ys t p = refl
listed_both (x ∷ xs) ys t p = by (same_tx x.tx t && x.page == p) (listed_both xs ys t p)
  where
    by : (b : Bool) → mode_listed (xs ++ ys) t p ≡ or_else (mode_listed xs t p) (mode_listed ys t p)
        → pick b (Some x.mode) (mode_listed (xs ++ ys) t p) ≡ or_else (pick b (Some x.mode) (mode_listed xs t p)) (mode_listed ys t p)
    by true rest = refl
    by false rest = rest

or_none : (o : Option Mode) → or_else o None ≡ o
or_none None = refl
or_none (Some x) = refl

-- no serial is as low as the bound of the rest
serial_gone : (low last k : ℕ) (xs : List OpenTx) → k ≤ low → AreSerials low last xs → with_serial xs k ≡ None
unfolding with_serial
serial_gone low last k [] le s = refl
serial_gone low last k (x ∷ xs) le s =
    let first = s.0 in
    let other : (x.serial == k) ≡ false = grind (arith, nat_tests, first, le) in
    ap (λ (b : Bool). pick b (Some x) (with_serial xs k)) other ∙ serial_gone x.serial last k xs (omega (arith, first, le)) s.1

module _ (c : Sizes) (p : ℕ) (all : Bool) where
  -- the locks of one transaction
  locks_listed : (u t : TxId) (hs : List Held) → AreOnce hs → mode_listed (locks_in c (partition c p) all u hs) t p ≡ pick (same_tx u t) (listed_mode all (lock_on hs p)) None
  unfolding mode_listed locks_in lock_on
  locks_listed u t [] once = none (same_tx u t)
    where
      none : (b : Bool) → (let o : Option Mode = None in o) ≡ pick b None None
      none true = refl
      none false = refl
  locks_listed u t (h ∷ hs) once = by (h.page == p) refl (locks_listed u t hs once.1)
    where
      rest : List ReportLock
      rest = locks_in c (partition c p) all u hs

      first : ReportLock
      first = record { tx = u; page = h.page; mode = h.mode }

      -- a lock on another page
      other : (b s : Bool) → (h.page == p) ≡ false → mode_listed (pick b (first ∷ rest) rest) t p ≡ mode_listed rest t p
      other true s is = ap (λ (x : Bool). pick (same_tx u t && x) (Some h.mode) (mode_listed rest t p)) is ∙ no (same_tx u t)
        where
          no : (s : Bool) → pick (s && false) (Some h.mode) (mode_listed rest t p) ≡ mode_listed rest t p
          no true = refl
          no false = refl
      other false s is = refl

      nothing : (s : Bool) → pick s (listed_mode all None) None ≡ None
      nothing true = refl
      nothing false = refl

      -- the lock on the page
      here : (k s : Bool) → same_tx u t ≡ s → (h.page == p) ≡ true → mode_listed rest t p ≡ None
          → mode_listed (pick k (first ∷ rest) rest) t p ≡ pick s (pick k (Some h.mode) None) None
      here true true e is gone = ap (λ (x : Bool). pick (x && h.page == p) (Some h.mode) (mode_listed rest t p)) e ∙ ap (λ (x : Bool). pick x (Some h.mode) (mode_listed rest t p)) is
      here true false e is gone = ap (λ (x : Bool). pick (x && h.page == p) (Some h.mode) (mode_listed rest t p)) e ∙ gone
      here false true e is gone = gone
      here false false e is gone = gone

      by : (b : Bool) → (h.page == p) ≡ b → mode_listed rest t p ≡ pick (same_tx u t) (listed_mode all (lock_on hs p)) None
          → mode_listed (pick (partition c h.page == partition c p && is_listed all h.kind) (first ∷ rest) rest) t p ≡ pick (same_tx u t) (listed_mode all (pick b (Some h) (lock_on hs p))) None
      by true is old =
          let same : h.page ≡ p = eqb-true h.page p is in
          let inside : (partition c h.page == partition c p) ≡ true = (let e : partition c h.page ≡ partition c p = ap (partition c) same in grind (arith, nat_tests, e)) in
          let gone : mode_listed rest t p ≡ None =
          old ∙ ap (λ (o : Option Held). pick (same_tx u t) (listed_mode all o) None) (sym (ap (lock_on hs) same) ∙ once.0) ∙ nothing (same_tx u t) in
          ap (λ (x : Bool). mode_listed (pick (x && is_listed all h.kind) (first ∷ rest) rest) t p) inside ∙ here (is_listed all h.kind) (same_tx u t) refl is gone
      by false is old = other (partition c h.page == partition c p && is_listed all h.kind) (same_tx u t) is ∙ old

  -- those of all transactions
  all_listed : (s : OpenTxs) (t : TxId) (low last : ℕ) (xs : List OpenTx) → AreSerials low last xs → All (λ x. AreOnce x.pages) xs
      → mode_listed (all_locks c (partition c p) all s xs) t p ≡ pick (is_own s t) (listed_mode all (lock_on (pages_of_open (with_serial xs t.serial)) p)) None
  unfolding mode_listed all_locks with_serial lock_on
  all_listed s t low last [] serials once = none (is_own s t)
    where
      none : (b : Bool) → (let o : Option Mode = None in o) ≡ pick b None None
      none true = refl
      none false = refl
  all_listed s t low last (x ∷ xs) serials once =
      listed_both (locks_in c (partition c p) all (name_of s x.serial) x.pages) (all_locks c (partition c p) all s xs) t p
      ∙ ap (λ (o : Option Mode). or_else o (mode_listed (all_locks c (partition c p) all s xs) t p)) (locks_listed (name_of s x.serial) t x.pages (All-head (λ y. AreOnce y.pages) x xs once))
      ∙ ap (or_else (pick (same_tx (name_of s x.serial) t) (listed_mode all (lock_on x.pages p)) None)) (all_listed s t x.serial last xs serials.1 (All-tail (λ y. AreOnce y.pages) x xs once))
      ∙ by (is_own s t) refl (x.serial == t.serial) refl
    where
      mode : Option Mode
      mode = listed_mode all (lock_on x.pages p)

      -- the name is that of the transaction where both are of the node and the birth, and the serial is the same
      named : (o k : Bool) → is_own s t ≡ o → (x.serial == t.serial) ≡ k → same_tx (name_of s x.serial) t ≡ (o && k)
      named true k own serial =
          let two = own_parts own in
          let node : (s.node == t.node) ≡ true = (let e = two.0 in grind (arith, nat_tests, e)) in
          let born : (s.born == t.born) ≡ true = (let e = two.1 in grind (arith, nat_tests, e)) in
          ap (λ (b : Bool). (b && s.born == t.born) && x.serial == t.serial) node ∙ ap (λ (b : Bool). b && x.serial == t.serial) born ∙ serial
        where
          own_parts : (t.node == s.node && t.born == s.born) ≡ true → (t.node ≡ s.node) × (t.born ≡ s.born)
          own_parts is = grind (arith, nat_tests, is)
      named false k own serial = grind (arith, nat_tests, own)

      by : (o : Bool) → is_own s t ≡ o → (k : Bool) → (x.serial == t.serial) ≡ k
          → or_else (pick (same_tx (name_of s x.serial) t) mode None) (pick (is_own s t) (listed_mode all (lock_on (pages_of_open (with_serial xs t.serial)) p)) None)
          ≡ pick (is_own s t) (listed_mode all (lock_on (pages_of_open (pick (x.serial == t.serial) (Some x) (with_serial xs t.serial))) p)) None
      by o own k serial = (λ i. or_else (pick (named o k own serial i) mode None) (pick (own i) later None)) ∙ tell o k own serial ∙ (λ i. pick (sym own i) (listed_mode all (lock_on (pages_of_open (pick (sym serial i) (Some x) (with_serial xs t.serial))) p)) None)
        where
          later : Option Mode
          later = listed_mode all (lock_on (pages_of_open (with_serial xs t.serial)) p)

          gone : (x.serial == t.serial) ≡ true → later ≡ None
          gone is =
              ap (λ (o : Option OpenTx). listed_mode all (lock_on (pages_of_open o) p))
              (serial_gone x.serial last t.serial xs (let same : x.serial ≡ t.serial = eqb-true x.serial t.serial is in omega (arith, same)) serials.1)

          tell : (o k : Bool) → is_own s t ≡ o → (x.serial == t.serial) ≡ k
              → or_else (pick (o && k) mode None) (pick o later None) ≡ pick o (listed_mode all (lock_on (pages_of_open (pick k (Some x) (with_serial xs t.serial))) p)) None
          tell true true own serial = ap (or_else mode) (gone serial) ∙ or_none mode
          tell true false own serial = refl
          tell false true own serial = refl
          tell false false own serial = refl

-- a right that is on the shelf
rights_listed : (c : Sizes) (p : ℕ) (rs : List Right) → is_some (right_on rs p) ≡ true → lists_right (all_rights c (partition c p) rs) p ≡ true
unfolding right_on
rights_listed c p [] is = absurd (cc)
rights_listed c p (r ∷ rs) is = by (r.page == p) refl is (rights_listed c p rs)
  where
    item : Right → ReportRight
    item r = record { page = r.page; version = r.version }

    later : (b : Bool) → lists_right (all_rights c (partition c p) rs) p ≡ true → lists_right (map item (cond b (r ∷ rights_in c (partition c p) rs) (rights_in c (partition c p) rs))) p ≡ true
    later true rest = any (r.page == p) rest
      where
        any : (b : Bool) {x : Bool} → x ≡ true → (b || x) ≡ true
        any true e = refl
        any false e = e
    later false rest = rest

    by : (b : Bool) → (r.page == p) ≡ b → is_some (pick b (Some r) (right_on rs p)) ≡ true → (is_some (right_on rs p) ≡ true → lists_right (all_rights c (partition c p) rs) p ≡ true)
        → lists_right (map item (cond (partition c r.page == partition c p) (r ∷ rights_in c (partition c p) rs) (rights_in c (partition c p) rs))) p ≡ true
    by true same is rest =
        let at : r.page ≡ p = eqb-true r.page p same in
        let inside : (partition c r.page == partition c p) ≡ true = (let e : partition c r.page ≡ partition c p = ap (partition c) at in grind (arith, nat_tests, e)) in
        ap (λ (b : Bool). lists_right (map item (cond b (r ∷ rights_in c (partition c p) rs) (rights_in c (partition c p) rs))) p) inside
        ∙ ap (λ (b : Bool). b || lists_right (map item (rights_in c (partition c p) rs)) p) same
    by false other is rest = later (partition c r.page == partition c p) (rest is)

pub report_is_listed_law : ReportIsListed
unfolding report own_report lock_on
report_is_listed_law p h is =
    record {
      locks = λ t. all_listed h.config p false h.txs t 0 h.txs.last h.txs.txs is.txs.serials is.txs.once ∙ held false t (is_own h.txs t);
      rights = rights_listed h.config p h.shelf;
      own = λ t. all_listed h.config p true h.txs t 0 h.txs.last h.txs.txs is.txs.serials is.txs.once ∙ held true t (is_own h.txs t);
    }
  where
    held : (all : Bool) (t : TxId) (b : Bool)
        → pick b (listed_mode all (lock_on (pages_of_open (with_serial h.txs.txs t.serial)) p)) None ≡ listed_mode all (lock_on (pages_of_open (pick b (with_serial h.txs.txs t.serial) None)) p)
    held all t true = refl
    held all t false = refl
