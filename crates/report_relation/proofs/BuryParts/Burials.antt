-- What of the relation stays where eras lose their dead.
use Rattle.std.proofs.Common.{◌≡◌, ◌⊎◌, inl, inr, refl, ap, sym, subst, ◌∙◌, ℕ, ◌<◌, ◌≤◌, ◌&&◌, leb, nat_lt, Bool, true, false, List, [], ◌∷◌, Option, Some, None, arith}
use Rattle.std.specs.List.{AllByRecursion}
use Rattle.std.proofs.lemmas.Bool.Decides.{nat_tests}
use Rattle.pcl_base.specs.declared.lock.Held.{Held}
use Rattle.pcl_base.specs.declared.lock.Kind.{Kind}
use Rattle.pcl_base.specs.declared.lock.Kind.TheVariants as kind
use Rattle.pcl_base.specs.declared.lock.Waiter.{Waiter}
use Rattle.pcl_base.specs.declared.message.Body.{Body}
use Rattle.pcl_base.specs.declared.message.Body.TheVariants as body
use Rattle.pcl_base.specs.declared.message.Message.{Message}
use Rattle.pcl_base.specs.declared.message.ReportWait.{ReportWait}
use Rattle.pcl_base.specs.declared.tx.Mode.{Mode}
use Rattle.pcl_base.specs.declared.tx.Mode.TheVariants.{Shared, Exclusive}
use Rattle.pcl_base.specs.declared.tx.TxId.{TxId}
use Rattle.node_rules.specs.LockRule.{mode_of}
use Rattle.node_rules.specs.LockTable.{LockTable, entry_at, marked}
use Rattle.node_rules.specs.NodeState.{NodeState, partition, table_at}
use Rattle.node_rules.specs.OpenTxs.{held_by, is_open, pending_of}
use Rattle.node_rules.specs.Words.{pick as node_pick}
use Rattle.cluster_rules.specs.Clusters.{Cluster, node_at, version_of_change}
use Rattle.cluster_laws.specs.Era.Eras.{era_at, era_in}
use Rattle.cluster_laws.specs.Link.Coming.{coming}
use Rattle.page_protocol.specs.Eras.{buried}
use Rattle.page_protocol.specs.State.{pick, Home, Fresh, Asking, Holding, HoldingAsks, Reading, ReadingAsks, Ended, Gone, Page, IsClosed, IsFresh, current}
use Rattle.page_relation.specs.Homes.{Stands, StandsIn, is_unborn, wait_on, ImageIn, image_of, stand_of, held_stand, shared_stand}
use Rattle.page_relation.specs.Messages.{HasAsked, IsTold, SaysSo, WaitIs, mode_listed}
use Rattle.page_relation.specs.Relation.{HomesAre, LinksAre, MessageIs, TablesAre}
use Rattle.page_relation.specs.Tables.{TableIn, TableIs, TableOf, WaiterIs}
use Rattle.report_relation.specs.Bury.Burying.{BuryingIsRelated, HoldsNone, NamedIn, NamesNone, burial}

-- ---- a home that loses its release

fresh_back : (e : ℕ) (h : Home) → IsFresh (buried e h) → IsFresh h
fresh_back e Fresh is = tt
fresh_back e (Asking m v) is = is
fresh_back e (Holding m) is = is
fresh_back e HoldingAsks is = is
fresh_back e Reading is = is
fresh_back e ReadingAsks is = is
fresh_back e (Ended c f) is = by (leb e f) is
  where
    by : (b : Bool) → IsFresh (pick b Gone (Ended c f)) → ⊥
    by true is = is
    by false is = is
fresh_back e Gone is = is

told_on : (have : Option ℕ) (e : ℕ) (h : Home) → IsTold have h → IsTold have (buried e h)
told_on have e Fresh is = is
told_on have e (Asking m v) is = is
told_on have e (Holding m) is = tt
told_on have e HoldingAsks is = tt
told_on have e Reading is = tt
told_on have e ReadingAsks is = tt
told_on have e (Ended c f) is = by (leb e f)
  where
    by : (b : Bool) → IsTold have (pick b Gone (Ended c f))
    by true = tt
    by false = tt
told_on have e Gone is = tt

-- who is open hasn't ended
abbrev IsNoEnd : Home → Type 0
IsNoEnd (Ended c f) = ⊥
IsNoEnd _ = Unit {0}

shared_no_end : (k : Kind) (w : Option Mode) → IsNoEnd (shared_stand k w)
shared_no_end kind.Right None = tt
shared_no_end kind.Right (Some m) = tt
shared_no_end kind.Own None = tt
shared_no_end kind.Own (Some m) = tt
shared_no_end kind.Registered None = tt
shared_no_end kind.Registered (Some m) = tt

open_no_end : (l : Option Held) (w : Option Mode) (have : Option ℕ) → IsNoEnd (stand_of l w have)
open_no_end None None have = tt
open_no_end None (Some m) have = tt
open_no_end (Some l) w have = by l.mode
  where
    by : (m : Mode) → IsNoEnd (held_stand m l.kind w)
    by Exclusive = tt
    by Shared = shared_no_end l.kind w

stands_on : (o u : Bool) (l : Option Held) (w : Option Mode) (e : ℕ) (h : Home) → Stands o u l w h → Stands o u l w (buried e h)
stands_on o u l w e Fresh is = is
stands_on o u l w e (Asking m v) is = is
stands_on o u l w e (Holding m) is = is
stands_on o u l w e HoldingAsks is = is
stands_on o u l w e Reading is = is
stands_on o u l w e ReadingAsks is = is
stands_on true u l w e (Ended c f) is = absurd (subst IsNoEnd (sym is.1) (open_no_end l w is.0))
stands_on false true l w e (Ended c f) is = absurd is
stands_on false false l w e (Ended c f) is = by (leb e f)
  where
    by : (b : Bool) → Stands false false l w (pick b Gone (Ended c f))
    by true = tt
    by false = tt
stands_on o u l w e Gone is = is

image_on : (e : ℕ) (h : Home) (image : List ℕ) → image_of (buried e h) image ≡ image_of h image
image_on e Fresh image = refl
image_on e (Asking m v) image = refl
image_on e (Holding m) image = refl
image_on e HoldingAsks image = refl
image_on e Reading image = refl
image_on e ReadingAsks image = refl
image_on e (Ended c f) image = by (leb e f)
  where
    by : (b : Bool) → image_of (pick b Gone (Ended c f)) image ≡ None
    by true = refl
    by false = refl
image_on e Gone image = refl

exclusive_back : (e : ℕ) (h : Home) → buried e h ≡ Holding Exclusive → h ≡ Holding Exclusive
exclusive_back e Fresh is = is
exclusive_back e (Asking m v) is = is
exclusive_back e (Holding m) is = is
exclusive_back e HoldingAsks is = is
exclusive_back e Reading is = is
exclusive_back e ReadingAsks is = is
exclusive_back e (Ended c f) is = by (leb e f) is
  where
    by : (b : Bool) → pick b Gone (Ended c f) ≡ Holding Exclusive → Ended c f ≡ Holding Exclusive
    by true is = absurd (cc)
    by false is = is
exclusive_back e Gone is = is

-- ---- where it may or may not be dead

either_home : (P : Home → Type 0) (d : Bool) (h k : Home) → P h → P k → P (pick d k h)
either_home P true h k x y = y
either_home P false h k x y = x

exclusive_either : (d : Bool) (e : ℕ) (h : Home) → pick d (buried e h) h ≡ Holding Exclusive → h ≡ Holding Exclusive
exclusive_either true e h is = exclusive_back e h is
exclusive_either false e h is = is

-- who was closed is so
pub buried_closed : (d : Bool) (low : ℕ) (h : Home) → IsClosed h → IsClosed (pick d (buried low h) h)
buried_closed true low Fresh shut = tt
buried_closed true low (Asking m v) shut = shut
buried_closed true low (Holding m) shut = shut
buried_closed true low HoldingAsks shut = shut
buried_closed true low Reading shut = shut
buried_closed true low ReadingAsks shut = shut
buried_closed true low (Ended c f) shut = by (leb low f)
  where
    by : (b : Bool) → IsClosed (pick b Gone (Ended c f))
    by true = tt
    by false = tt
buried_closed true low Gone shut = tt
buried_closed false low h shut = shut

-- nothing is listed of one who is buried
pub buried_none : (d g : Bool) (x : Option Mode) → (x ≡ None) ⊎ ((d ≡ true) × (g ≡ true)) → pick (d && g) None x ≡ None
buried_none true true x is = refl
buried_none true false x (inl none) = none
buried_none true false x (inr both) = let bad = both.1 in absurd (cc)
buried_none false g x (inl none) = none
buried_none false g x (inr both) = let bad = both.0 in absurd (cc)

-- what is listed then, by tests
early : (d g : Bool) (x : Option Mode) → g ≡ false → pick (d && g) None x ≡ x
early true true x is = absurd (cc)
early true false x is = refl
early false g x is = refl

either_listed : (P : Option Mode → Type 0) (d g : Bool) (x : Option Mode) → P x → (d ≡ true → g ≡ true → P None) → P (pick (d && g) None x)
either_listed P true true x kept none = none refl refl
either_listed P true false x kept none = kept
either_listed P false g x kept none = kept

module _ (a : Page) (low : ℕ) (dead : TxId → Bool) where
  abbrev b : Page
  b = burial a low dead

  not_yet : (f : ℕ) → f < low → leb low f ≡ false
  not_yet f before = grind (arith, nat_tests, before)

  by_then : (f : ℕ) → leb low f ≡ true → low ≤ f
  by_then f test = grind (arith, nat_tests, test)

  -- of an earlier era
  pub listed_early : (t : TxId) (f : ℕ) → f < low → b.listed t f ≡ a.listed t f
  listed_early t f before = early (dead t) (leb low f) (a.listed t f) (not_yet f before)

  pub home_alive : (t : TxId) → dead t ≡ false → b.home t ≡ a.home t
  home_alive t alive = ap (λ (d : Bool). pick d (buried low (a.home t)) (a.home t)) alive

  asked_on : (r f : ℕ) (have : Option ℕ) (t : TxId) → HasAsked r f (a.home t) have → HasAsked r f (b.home t) have
  asked_on r f have t is =
      either_home (λ h. HasAsked r f h have) (dead t) (a.home t) (buried low (a.home t)) is
      (record { begun = λ fresh. is.begun (fresh_back low (a.home t) fresh); told = λ same. told_on have low (a.home t) (is.told same) })

  -- ---- messages

  waits_on : (p f : ℕ) (xs : List ReportWait) → AllByRecursion (WaitIs a.reached a.home p f) xs → AllByRecursion (WaitIs b.reached b.home p f) xs
  waits_on p f [] all = tt
  waits_on p f (x ∷ xs) all = (λ same. asked_on (a.reached x.tx.node) f x.have x.tx (all.0 same), waits_on p f xs all.1)

  release_on : (t : TxId) (change : Option ℕ) (f : ℕ) → (low ≤ f → dead t ≡ false) → a.home t ≡ Ended change f → b.home t ≡ Ended change f
  release_on t change f spared is = by (leb low f) refl
    where
      away : (h : Home) → h ≡ Ended change f → leb low f ≡ false → buried low h ≡ h
      away h same other = subst (λ (k : Home). buried low k ≡ k) (sym same) (ap (λ (g : Bool). pick g Gone (Ended change f)) other)

      by : (g : Bool) → leb low f ≡ g → b.home t ≡ Ended change f
      by true test = home_alive t (spared (by_then f test)) ∙ is
      by false test = either_home (λ h. h ≡ a.home t) (dead t) (a.home t) (buried low (a.home t)) refl (away (a.home t) is test) ∙ is

  says_on : (p from to f : ℕ) (x : Body) → NamesNone low dead p from f x
      → SaysSo a.era a.hist a.reached a.listed a.right a.home a.sent p from to f x → SaysSo b.era b.hist b.reached b.listed b.right b.home b.sent p from to f x
  says_on p from to f (body.Request r) spared old = asked_on (a.reached r.tx.node) f r.have r.tx old
  says_on p from to f (body.Grant g) spared old = old
  says_on p from to f (body.Release r) spared old = (release_on r.tx (version_of_change r.change) f spared old.0, old.1)
  says_on p from to f (body.Revoke page) spared old = old
  says_on p from to f (body.Return r) spared old = old
  says_on p from to f (body.Report r) spared old =
      record {
        later = old.later;
        reaches = old.reaches;
        locks = λ t at. either_listed (λ (o : Option Mode). mode_listed r.locks t p ≡ o) (dead t) (leb low f) (a.listed t f) (old.locks t at) (λ is test. spared (by_then f test) t at is);
        rights = old.rights;
        waits = waits_on p f r.waits old.waits;
      }

  links_on : (d : Cluster) (p q : ℕ) → ((from to : ℕ) → AllByRecursion (NamedIn d q low dead p from) (coming d p from to)) → LinksAre d p q a → LinksAre d p q b
  links_on d p q spared is = record { say = λ from to. all (coming d p from to) from to (spared from to) (is.say from to); ordered = is.ordered; once = is.once }
    where
      all : (ms : List Message) (from to : ℕ) → AllByRecursion (NamedIn d q low dead p from) ms → AllByRecursion (MessageIs d p q a from to) ms → AllByRecursion (MessageIs d p q b from to) ms
      all [] from to one says = tt
      all (m ∷ ms) from to one says = (says_on p from to (era_at d q m.epoch) m.body one.0 says.0, all ms from to one.1 says.1)

  -- ---- homes

  image_in : (o : Option NodeState) (p : ℕ) (t : TxId) → ImageIn o t p (a.home t) (a.image t) → ImageIn o t p (b.home t) (b.image t)
  image_in None p t old = tt
  image_in (Some s) p t old = old ∙ sym (either_home (λ h. image_of h (a.image t) ≡ image_of (a.home t) (a.image t)) (dead t) (a.home t) (buried low (a.home t)) refl (image_on low (a.home t) (a.image t)))

  stands_in : (last : ℕ) (o : Option NodeState) (p : ℕ) (t : TxId) → StandsIn last o t p (a.home t) → StandsIn last o t p (b.home t)
  stands_in last None p t old = either_home (λ h. StandsIn last None t p h) (dead t) (a.home t) (buried low (a.home t)) old (stands_on false (nat_lt last t.born) None None low (a.home t) old)
  stands_in last (Some s) p t old =
      either_home (λ h. StandsIn last (Some s) t p h) (dead t) (a.home t) (buried low (a.home t)) old
      (stands_on (is_open s.home.txs t) (is_unborn s.view s t) (held_by s.home.txs t p) (wait_on (pending_of s.home.txs t) p) low (a.home t) old)

  homes_on : (c : Cluster) (p : ℕ) → HomesAre c p (current a) a → HomesAre c p (current b) b
  homes_on c p is =
      record {
        stands = λ t. stands_in _ (node_at c t.node) p t (is.stands t);
        kinds = is.kinds;
        scripts = is.scripts;
        images = λ t. image_in (node_at c t.node) p t (is.images t);
        written = λ t holds. is.written t (exclusive_either (dead t) low (a.home t) holds);
      }

  -- ---- tables

  waiting_on : (f : ℕ) (ws : List Waiter) → AllByRecursion (WaiterIs a.reached a.home f) ws → AllByRecursion (WaiterIs b.reached b.home f) ws
  waiting_on f [] all = tt
  waiting_on f (x ∷ xs) all = (asked_on (a.reached x.tx.node) f x.have x.tx all.0, waiting_on f xs all.1)

  none_marked : (m : Bool) → node_pick m (let o : Option Mode = None in o) None ≡ None
  none_marked true = refl
  none_marked false = refl

  table_on : (p m f : ℕ) (on : Bool) (t : LockTable) → a.era < low → (on ≡ false → low ≤ f → (u : TxId) → dead u ≡ true → mode_of (entry_at t p).holders u ≡ None) → TableIs a p m f on t
      → TableIs b p m f on t
  table_on p m f true t before none old =
      record {
        serves = old.serves;
        here = old.here;
        now = old.now;
        version = old.version;
        holders = λ u. old.holders u ∙ sym (listed_early u a.era before);
        rights = old.rights;
        waiting = waiting_on a.era (entry_at t p).waiting old.waiting;
        writers = old.writers;
      }
  table_on p m f false t before none old =
      record {
        later = old.later;
        reaches = old.reaches;
        holders = λ u.
            either_listed (λ (o : Option Mode). mode_of (entry_at t p).holders u ≡ node_pick (marked t u.node) o None) (dead u) (leb low f) (a.listed u f) (old.holders u)
            (λ is test. none refl (by_then f test) u is ∙ sym (none_marked (marked t u.node)));
        rights = old.rights;
        waiting = waiting_on f (entry_at t p).waiting old.waiting;
        writers = old.writers;
      }

  table_of : (p q m : ℕ) (o : Option NodeState) → a.era < low → HoldsNone low dead p q o → TableOf a p q m o → TableOf b p q m o
  table_of p q m None before none old = tt
  table_of p q m (Some s) before none old = in_table (table_at s q) refl old
    where
      in_table : (k : Option LockTable) → table_at s q ≡ k → TableIn a p m (era_in s.view q) k → TableIn b p m (era_in s.view q) k
      in_table None at old = tt
      in_table (Some t) at old = table_on p m (era_in s.view q) t.serving t before (λ off late u is. none t u at off late is) old

  tables_on : (d : Cluster) (p q : ℕ) → a.era < low → ((m : ℕ) → HoldsNone low dead p q (node_at d m)) → TablesAre d p q a → TablesAre d p q b
  tables_on d p q before none is = record { tables = λ m. table_of p q m (node_at d m) before (none m) (is.tables m); serving = is.serving; era = is.era }

pub burying_is_related_law : BuryingIsRelated
burying_is_related_law d p low dead a before may is =
    record {
      history = is.history;
      stored = is.stored;
      copies = is.copies;
      homes = homes_on a low dead d p is.homes;
      nodes = record { shelves = is.nodes.shelves; eras = is.nodes.eras };
      tables = tables_on a low dead d p (partition d.config p) before may.tables is.tables;
      links = links_on a low dead d p (partition d.config p) may.messages is.links;
    }
