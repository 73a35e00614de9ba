-- Slots, scripts and the serial order after the changes of a step.
use Rattle.std.specs.Prelude.{ℕ, false, eqb, ◌≡◌, List, [], ◌∷◌, ◌++◌, Option, Some, None}
use Rattle.std.proofs.Common.{sym, ap}
use Rattle.pcl_base.specs.declared.tx.TxId.{TxId}
use Rattle.page_protocol.specs.Authority.{registered}
use Rattle.page_protocol.specs.Eras.{crashed, forgotten}
use Rattle.page_protocol.specs.Invariant.{SlotHas, SlotOk, ScriptOk, Accesses}
use Rattle.page_protocol.specs.Homes.{ended}
use Rattle.page_protocol.specs.State.{same_tx, upd, Home, Fresh, Asking, Holding, HoldingAsks, Reading, ReadingAsks, Ended, Gone, IsClosed}
use Rattle.page_protocol.specs.Bytes.{Copy, put, Access, Read, Write, Leaves, writes, version_after, Replays}
use Rattle.page_protocol.proofs.Basics.{same_tx_true, by_test, by_tx, pick_same, pick_other, along, back}

pub leaves_read : (s : List Access) (p q : List ℕ) → Leaves s p q → Leaves (s ++ Read q ∷ []) p q
leaves_read [] p q l = (sym l, l)
leaves_read (Read b ∷ s) p q l = (l.0, leaves_read s p q l.1)
leaves_read (Write i b ∷ s) p q l = leaves_read s (put i b p) q l

pub leaves_write : (s : List Access) (p q : List ℕ) (i : ℕ) (b : List ℕ) → Leaves s p q → Leaves (s ++ Write i b ∷ []) p (put i b q)
leaves_write [] p q i b l = ap (put i b) l
leaves_write (Read c ∷ s) p q i b l = (l.0, leaves_write s p q i b l.1)
leaves_write (Write j c ∷ s) p q i b l = leaves_write s (put j c p) q i b l

pub leaves_same : (s : List Access) (p q : List ℕ) → writes s ≡ false → Leaves s p q → p ≡ q
leaves_same [] p q w l = l
leaves_same (Read b ∷ s) p q w l = leaves_same s p q w l.1
leaves_same (Write i b ∷ s) p q w l = absurd (cc)

pub replays_more : (ss : List (List Access)) (a b : Copy) (s : List Access) (page : List ℕ) → Replays ss a b → Leaves s b.bytes page
    → Replays (ss ++ s ∷ []) a (record { version = version_after s b.version; bytes = page })
replays_more [] a b s page r l =
    (page, back (λ c. Leaves s c.bytes page) r l, ap (λ (c : Copy). record { version = version_after s c.version; bytes = page }) r)
replays_more (x ∷ ss) a b s page r l = (r.0, r.1, replays_more ss (record { version = version_after x a.version; bytes = r.0 }) b s page r.2 l)

module _ {blank : List ℕ} {cur : Copy} {slot : ℕ → Option Copy} {home : TxId → Home} {script : TxId → List Access} {image : TxId → List ℕ} {committed : List (List Access)} (i : Accesses blank cur slot home script image committed) where
  pub accesses_homes : (next : TxId → Home)
      → ((t : TxId) → SlotOk cur (slot t.node) (home t) → SlotOk cur (slot t.node) (next t))
      → ((t : TxId) → ScriptOk cur.bytes (script t) (image t) (home t) → ScriptOk cur.bytes (script t) (image t) (next t))
      → Accesses blank cur slot next script image committed
  accesses_homes next f g = record { slots = λ t. f t (i.slots t); scripts = λ t. g t (i.scripts t); serial = i.serial }

  pub accesses_home : (t : TxId) (h : Home) → SlotOk cur (slot t.node) h → ScriptOk cur.bytes (script t) (image t) h → Accesses blank cur slot (upd home t h) script image committed
  accesses_home t h s c =
      accesses_homes (upd home t h)
      (λ u p. by_tx (λ v k. SlotOk cur (slot v.node) k) t u h (home u) s p)
      (λ u p. by_tx (λ v k. ScriptOk cur.bytes (script v) (image v) k) t u h (home u) c p)

  pub accesses_slots : (z : ℕ → Option Copy) → ((t : TxId) → SlotOk cur (slot t.node) (home t) → SlotOk cur (z t.node) (home t)) → Accesses blank cur z home script image committed
  accesses_slots z f = record { slots = λ t. f t (i.slots t); scripts = i.scripts; serial = i.serial }

  -- the script and the private copy of one transaction change
  pub accesses_script : (t : TxId) (s : List Access) (m : List ℕ) → ScriptOk cur.bytes s m (home t) → Accesses blank cur slot home (upd script t s) (upd image t m) committed
  accesses_script t s m ok =
      record {
        slots = i.slots;
        serial = i.serial;
        scripts = λ u. by_test (same_tx u t) (λ y. ScriptOk cur.bytes y (upd image t m u) (home u)) s (script u)
            (λ e. let same = same_tx_true u t e in
            back (λ y. ScriptOk cur.bytes s y (home u)) (pick_same (same_tx u t) m (image u) e) (back (λ v. ScriptOk cur.bytes s m (home v)) same ok))
            (λ e. back (λ y. ScriptOk cur.bytes (script u) y (home u)) (pick_other (same_tx u t) m (image u) e) (i.scripts u));
      }

  -- a grant is taken: home and private copy of one transaction change
  pub accesses_image : (t : TxId) (h : Home) (m : List ℕ) → SlotOk cur (slot t.node) h → ScriptOk cur.bytes (script t) m h → Accesses blank cur slot (upd home t h) script (upd image t m) committed
  accesses_image t h m s ok =
      record {
        serial = i.serial;
        slots = λ u. by_tx (λ v k. SlotOk cur (slot v.node) k) t u h (home u) s (i.slots u);
        scripts = λ u. by_test (same_tx u t) (λ y. ScriptOk cur.bytes (script u) (upd image t m u) y) h (home u)
            (λ e. let same = same_tx_true u t e in
            back (λ y. ScriptOk cur.bytes (script u) y h) (pick_same (same_tx u t) m (image u) e) (back (λ v. ScriptOk cur.bytes (script v) m h) same ok))
            (λ e. back (λ y. ScriptOk cur.bytes (script u) y (home u)) (pick_other (same_tx u t) m (image u) e) (i.scripts u));
      }

  pub accesses_read : (t : TxId) (s : List Access) → ScriptOk cur.bytes s (image t) (home t) → Accesses blank cur slot home (upd script t s) image committed
  accesses_read t s ok =
      record { slots = i.slots; serial = i.serial; scripts = λ u. by_tx (λ v y. ScriptOk cur.bytes y (image v) (home v)) t u s (script u) ok (i.scripts u) }

  pub accesses_commit : (s : List Access) (c : Copy) → Leaves s cur.bytes c.bytes → c.version ≡ version_after s cur.version → Replays (committed ++ s ∷ []) (record { version = 0; bytes = blank }) c
  accesses_commit s c l v =
      along (λ y. Replays (committed ++ s ∷ []) (record { version = 0; bytes = blank }) y) (λ j. record { version = sym v j; bytes = c.bytes })
      (replays_more committed (record { version = 0; bytes = blank }) cur s c.bytes i.serial l)

pub slot_ok_now : (cur : Copy) (slot z : Option Copy) (h : Home) → z ≡ Some cur → ((v : ℕ) → SlotHas slot v → SlotHas z v) → SlotOk cur slot h → SlotOk cur z h
slot_ok_now cur slot z Fresh e f p = tt
slot_ok_now cur slot z (Asking m None) e f p = tt
slot_ok_now cur slot z (Asking m (Some h)) e f p = f h p
slot_ok_now cur slot z (Holding m) e f p = e
slot_ok_now cur slot z HoldingAsks e f p = e
slot_ok_now cur slot z Reading e f p = e
slot_ok_now cur slot z ReadingAsks e f p = e
slot_ok_now cur slot z (Ended c k) e f p = tt
slot_ok_now cur slot z Gone e f p = tt

pub slot_ok_closed : (cur : Copy) (slot : Option Copy) (h : Home) → IsClosed h → SlotOk cur slot h
slot_ok_closed cur slot Fresh c = tt
slot_ok_closed cur slot (Asking m k) c = absurd c
slot_ok_closed cur slot (Holding m) c = absurd c
slot_ok_closed cur slot HoldingAsks c = absurd c
slot_ok_closed cur slot Reading c = absurd c
slot_ok_closed cur slot ReadingAsks c = absurd c
slot_ok_closed cur slot (Ended d e) c = tt
slot_ok_closed cur slot Gone c = tt

pub slot_ok_ended : (cur : Copy) (slot : Option Copy) (h : Home) (e : ℕ) → SlotOk cur slot h → SlotOk cur slot (ended h e)
slot_ok_ended cur slot Fresh e p = tt
slot_ok_ended cur slot (Asking m k) e p = tt
slot_ok_ended cur slot (Holding m) e p = tt
slot_ok_ended cur slot HoldingAsks e p = tt
slot_ok_ended cur slot Reading e p = tt
slot_ok_ended cur slot ReadingAsks e p = tt
slot_ok_ended cur slot (Ended d f) e p = tt
slot_ok_ended cur slot Gone e p = tt

pub script_ok_ended : (b : List ℕ) (s : List Access) (m : List ℕ) (h : Home) (e : ℕ) → ScriptOk b s m h → ScriptOk b s m (ended h e)
script_ok_ended b s m Fresh e p = tt
script_ok_ended b s m (Asking k x) e p = tt
script_ok_ended b s m (Holding k) e p = tt
script_ok_ended b s m HoldingAsks e p = tt
script_ok_ended b s m Reading e p = tt
script_ok_ended b s m ReadingAsks e p = tt
script_ok_ended b s m (Ended d f) e p = tt
script_ok_ended b s m Gone e p = tt

pub slot_ok_registered : (cur : Copy) (slot : Option Copy) (h : Home) → SlotOk cur slot h → SlotOk cur slot (registered h)
slot_ok_registered cur slot Fresh p = p
slot_ok_registered cur slot (Asking m k) p = p
slot_ok_registered cur slot (Holding m) p = p
slot_ok_registered cur slot HoldingAsks p = p
slot_ok_registered cur slot Reading p = p
slot_ok_registered cur slot ReadingAsks p = p
slot_ok_registered cur slot (Ended d f) p = p
slot_ok_registered cur slot Gone p = p

pub script_ok_registered : (b : List ℕ) (s : List Access) (m : List ℕ) (h : Home) → ScriptOk b s m h → ScriptOk b s m (registered h)
script_ok_registered b s m Fresh p = p
script_ok_registered b s m (Asking k x) p = p
script_ok_registered b s m (Holding k) p = p
script_ok_registered b s m HoldingAsks p = p
script_ok_registered b s m Reading p = p
script_ok_registered b s m ReadingAsks p = p
script_ok_registered b s m (Ended d f) p = p
script_ok_registered b s m Gone p = p

pub closed_crashed : (h : Home) → IsClosed (crashed h)
closed_crashed Fresh = tt
closed_crashed (Asking m k) = tt
closed_crashed (Holding m) = tt
closed_crashed HoldingAsks = tt
closed_crashed Reading = tt
closed_crashed ReadingAsks = tt
closed_crashed (Ended d e) = tt
closed_crashed Gone = tt

pub script_ok_crashed : (b : List ℕ) (s : List Access) (m : List ℕ) (h : Home) → ScriptOk b s m h → ScriptOk b s m (crashed h)
script_ok_crashed b s m Fresh p = p
script_ok_crashed b s m (Asking k x) p = tt
script_ok_crashed b s m (Holding k) p = tt
script_ok_crashed b s m HoldingAsks p = tt
script_ok_crashed b s m Reading p = tt
script_ok_crashed b s m ReadingAsks p = tt
script_ok_crashed b s m (Ended d f) p = tt
script_ok_crashed b s m Gone p = tt

pub slot_ok_forgotten : (e : ℕ) (cur : Copy) (slot : Option Copy) (h : Home) → SlotOk cur slot h → SlotOk cur slot (forgotten e h)
slot_ok_forgotten e cur slot Fresh p = p
slot_ok_forgotten e cur slot (Asking m k) p = p
slot_ok_forgotten e cur slot (Holding m) p = p
slot_ok_forgotten e cur slot HoldingAsks p = p
slot_ok_forgotten e cur slot Reading p = p
slot_ok_forgotten e cur slot ReadingAsks p = p
slot_ok_forgotten e cur slot (Ended d f) p = by_test (eqb f e) (SlotOk cur slot) Gone (Ended d f) (λ s. tt) (λ s. tt)
slot_ok_forgotten e cur slot Gone p = p

pub script_ok_forgotten : (e : ℕ) (b : List ℕ) (s : List Access) (m : List ℕ) (h : Home) → ScriptOk b s m h → ScriptOk b s m (forgotten e h)
script_ok_forgotten e b s m Fresh p = p
script_ok_forgotten e b s m (Asking k x) p = p
script_ok_forgotten e b s m (Holding k) p = p
script_ok_forgotten e b s m HoldingAsks p = p
script_ok_forgotten e b s m Reading p = p
script_ok_forgotten e b s m ReadingAsks p = p
script_ok_forgotten e b s m (Ended d f) p = by_test (eqb f e) (ScriptOk b s m) Gone (Ended d f) (λ s. tt) (λ s. tt)
script_ok_forgotten e b s m Gone p = p
