-- What of the relation stays where a state of the machine loses the dead.
use Rattle.std.proofs.Common.{◌≡◌, ◌≢◌, refl, ap, sym, subst, ◌∙◌, ℕ, ◌&&◌, eqb, nat_lt, Bool, true, false, List, [], ◌∷◌, Option, Some, None, arith}
use Rattle.std.specs.List.{AllByRecursion}
use Rattle.std.proofs.lemmas.Bool.Decides.{nat_tests}
use Rattle.pcl_base.specs.declared.lock.Held.{Held}
use Rattle.pcl_base.specs.declared.lock.Kind.{Kind}
use Rattle.pcl_base.specs.declared.lock.Kind.TheVariants as kind
use Rattle.pcl_base.specs.declared.lock.Waiter.{Waiter}
use Rattle.pcl_base.specs.declared.message.Body.{Body}
use Rattle.pcl_base.specs.declared.message.Body.TheVariants as body
use Rattle.pcl_base.specs.declared.message.ReportWait.{ReportWait}
use Rattle.pcl_base.specs.declared.tx.Mode.{Mode}
use Rattle.pcl_base.specs.declared.tx.Mode.TheVariants.{Shared, Exclusive}
use Rattle.pcl_base.specs.declared.tx.TxId.{TxId}
use Rattle.node_rules.specs.LockTable.{LockTable, marked, entry_at}
use Rattle.node_rules.specs.NodeState.{NodeState}
use Rattle.node_rules.specs.OpenTxs.{held_by, is_open, pending_of}
use Rattle.node_rules.specs.Words.{pick as node_pick}
use Rattle.page_protocol.specs.Eras.{forgotten}
use Rattle.page_protocol.specs.State.{pick, Sent, Right, NoRight, Home, Fresh, Asking, Holding, HoldingAsks, Reading, ReadingAsks, Ended, Gone, Page, IsFresh, current}
use Rattle.cluster_rules.specs.Clusters.{Cluster, node_at, version_of_change}
use Rattle.page_relation.specs.Homes.{Stands, StandsIn, is_unborn, wait_on, ImageIn, image_of, stand_of, held_stand, shared_stand}
use Rattle.page_relation.specs.Messages.{HasAsked, IsTold, IsSent, sent_of, SaysSo, CountsFor, WaitIs}
use Rattle.page_relation.specs.Relation.{HomesAre, NodesAre, on_shelf}
use Rattle.page_relation.specs.Tables.{TableIs, WaiterIs}
use Rattle.kept_relation.specs.Emptying.{emptied}
use Rattle.kept_relation.specs.Purging.{IsSpared}

-- ---- a home that loses its release

fresh_back : (e : ℕ) (h : Home) → IsFresh (forgotten e h) → IsFresh h
fresh_back e Fresh is = tt
fresh_back e (Asking m v) is = is
fresh_back e (Holding m) is = is
fresh_back e HoldingAsks is = is
fresh_back e Reading is = is
fresh_back e ReadingAsks is = is
fresh_back e (Ended c f) is = by (eqb f e) is
  where
    by : (b : Bool) → IsFresh (pick b Gone (Ended c f)) → ⊥
    by true is = is
    by false is = is
fresh_back e Gone is = is

told_on : (have : Option ℕ) (e : ℕ) (h : Home) → IsTold have h → IsTold have (forgotten e h)
told_on have e Fresh is = is
told_on have e (Asking m v) is = is
told_on have e (Holding m) is = tt
told_on have e HoldingAsks is = tt
told_on have e Reading is = tt
told_on have e ReadingAsks is = tt
told_on have e (Ended c f) is = by (eqb f e)
  where
    by : (b : Bool) → IsTold have (pick b Gone (Ended c f))
    by true = tt
    by false = tt
told_on have e Gone is = tt

-- who is open hasn't ended
abbrev IsNoEnd : Home → Type 0
IsNoEnd (Ended c f) = ⊥
IsNoEnd _ = Unit {0}

shared_no_end : (k : Kind) (w : Option Mode) → IsNoEnd (shared_stand k w)
shared_no_end kind.Right None = tt
shared_no_end kind.Right (Some m) = tt
shared_no_end kind.Own None = tt
shared_no_end kind.Own (Some m) = tt
shared_no_end kind.Registered None = tt
shared_no_end kind.Registered (Some m) = tt

open_no_end : (l : Option Held) (w : Option Mode) (have : Option ℕ) → IsNoEnd (stand_of l w have)
open_no_end None None have = tt
open_no_end None (Some m) have = tt
open_no_end (Some l) w have = by l.mode
  where
    by : (m : Mode) → IsNoEnd (held_stand m l.kind w)
    by Exclusive = tt
    by Shared = shared_no_end l.kind w

stands_on : (o u : Bool) (l : Option Held) (w : Option Mode) (e : ℕ) (h : Home) → Stands o u l w h → Stands o u l w (forgotten e h)
stands_on o u l w e Fresh is = is
stands_on o u l w e (Asking m v) is = is
stands_on o u l w e (Holding m) is = is
stands_on o u l w e HoldingAsks is = is
stands_on o u l w e Reading is = is
stands_on o u l w e ReadingAsks is = is
stands_on true u l w e (Ended c f) is = absurd (subst IsNoEnd (sym is.1) (open_no_end l w is.0))
stands_on false true l w e (Ended c f) is = absurd is
stands_on false false l w e (Ended c f) is = by (eqb f e)
  where
    by : (b : Bool) → Stands false false l w (pick b Gone (Ended c f))
    by true = tt
    by false = tt
stands_on o u l w e Gone is = is

image_on : (e : ℕ) (h : Home) (image : List ℕ) → image_of (forgotten e h) image ≡ image_of h image
image_on e Fresh image = refl
image_on e (Asking m v) image = refl
image_on e (Holding m) image = refl
image_on e HoldingAsks image = refl
image_on e Reading image = refl
image_on e ReadingAsks image = refl
image_on e (Ended c f) image = by (eqb f e)
  where
    by : (b : Bool) → image_of (pick b Gone (Ended c f)) image ≡ None
    by true = refl
    by false = refl
image_on e Gone image = refl

exclusive_back : (e : ℕ) (h : Home) → forgotten e h ≡ Holding Exclusive → h ≡ Holding Exclusive
exclusive_back e Fresh is = is
exclusive_back e (Asking m v) is = is
exclusive_back e (Holding m) is = is
exclusive_back e HoldingAsks is = is
exclusive_back e Reading is = is
exclusive_back e ReadingAsks is = is
exclusive_back e (Ended c f) is = by (eqb f e) is
  where
    by : (b : Bool) → pick b Gone (Ended c f) ≡ Holding Exclusive → Ended c f ≡ Holding Exclusive
    by true is = absurd (cc)
    by false is = is
exclusive_back e Gone is = is

-- ---- where it may or may not be dead

either_home : (P : Home → Type 0) (d : Bool) (h k : Home) → P h → P k → P (pick d k h)
either_home P true h k x y = y
either_home P false h k x y = x

exclusive_either : (d : Bool) (e : ℕ) (h : Home) → pick d (forgotten e h) h ≡ Holding Exclusive → h ≡ Holding Exclusive
exclusive_either true e h is = exclusive_back e h is
exclusive_either false e h is = is

not_this : (f e : ℕ) → (f ≡ e → ⊥) → eqb f e ≡ false
not_this f e other = by (eqb f e) refl
  where
    by : (b : Bool) → eqb f e ≡ b → b ≡ false
    by true is = absurd (other (grind (arith, nat_tests, is)))
    by false is = refl

none_of : (d g : Bool) (x : Option Mode) → g ≡ false → pick (d && g) None x ≡ x
none_of true true x is = absurd (cc)
none_of true false x is = refl
none_of false g x is = refl

unless_dead : (d g : Bool) (x : Option Mode) → d ≡ false → pick (d && g) None x ≡ x
unless_dead true g x is = absurd (cc)
unless_dead false g x is = refl

module _ (a : Page) (e : ℕ) (dead : TxId → Bool) (gone : ℕ → Bool) where
  abbrev b : Page
  b = emptied a e dead gone

  pub listed_other : (t : TxId) (f : ℕ) → (f ≡ e → ⊥) → b.listed t f ≡ a.listed t f
  listed_other t f other = none_of (dead t) (eqb f e) (a.listed t f) (not_this f e other)

  pub listed_alive : (t : TxId) (f : ℕ) → dead t ≡ false → b.listed t f ≡ a.listed t f
  listed_alive t f alive = unless_dead (dead t) (eqb f e) (a.listed t f) alive

  -- of the era itself
  pub listed_here : (t : TxId) → b.listed t e ≡ pick (dead t) None (a.listed t e)
  listed_here t = let same : eqb e e ≡ true = grind (arith, nat_tests) in by (dead t) (eqb e e) same
    where
      by : (d g : Bool) → g ≡ true → pick (d && g) None (a.listed t e) ≡ pick d None (a.listed t e)
      by true true is = refl
      by true false is = absurd (cc)
      by false g is = refl

  pub home_alive : (t : TxId) → dead t ≡ false → b.home t ≡ a.home t
  home_alive t alive = ap (λ (d : Bool). pick d (forgotten e (a.home t)) (a.home t)) alive

  pub right_there : (m : ℕ) → gone m ≡ false → b.right m ≡ a.right m
  right_there m there = ap (λ (d : Bool). pick d NoRight (a.right m)) there

  pub asked_on : (r f : ℕ) (have : Option ℕ) (t : TxId) → HasAsked r f (a.home t) have → HasAsked r f (b.home t) have
  asked_on r f have t is =
      either_home (λ h. HasAsked r f h have) (dead t) (a.home t) (forgotten e (a.home t)) is
      (record { begun = λ fresh. is.begun (fresh_back e (a.home t) fresh); told = λ same. told_on have e (a.home t) (is.told same) })

  counts_of : (g : Bool) (f : ℕ) (r : Right) → CountsFor f (pick g NoRight r) → CountsFor f r
  counts_of true f r is = absurd is
  counts_of false f r is = is

  pub counts_back : (m f : ℕ) → CountsFor f (b.right m) → CountsFor f (a.right m)
  counts_back m f is = counts_of (gone m) f (a.right m) is

  -- ---- messages

  waits_on : (p f : ℕ) (xs : List ReportWait) → AllByRecursion (WaitIs a.reached a.home p f) xs → AllByRecursion (WaitIs b.reached b.home p f) xs
  waits_on p f [] all = tt
  waits_on p f (x ∷ xs) all = (λ same. asked_on (a.reached x.tx.node) f x.have x.tx (all.0 same), waits_on p f xs all.1)

  report_locks : (t : TxId) (f : ℕ) → (f ≡ e → dead t ≡ false) → b.listed t f ≡ a.listed t f
  report_locks t f alive = by (eqb f e) refl
    where
      by : (g : Bool) → eqb f e ≡ g → b.listed t f ≡ a.listed t f
      by true is = listed_alive t f (alive (grind (arith, nat_tests, is)))
      by false is = none_of (dead t) (eqb f e) (a.listed t f) is

  sent_on : (g : Sent) (x : Bool) (to : ℕ) → gone to ≡ false → IsSent x a.sent (a.right to) g → IsSent x b.sent (b.right to) g
  sent_on g true to there old = right_there to there ∙ old
  sent_on g false to there old = old

  pub says_on : (p from to f : ℕ) (x : Body) → IsSpared a e dead gone from to f x
      → SaysSo a.era a.hist a.reached a.listed a.right a.home a.sent p from to f x → SaysSo b.era b.hist b.reached b.listed b.right b.home b.sent p from to f x
  says_on p from to f (body.Request r) spared old = asked_on (a.reached r.tx.node) f r.have r.tx old
  says_on p from to f (body.Grant g) spared old = (old.0, λ now. sent_on (sent_of g) g.right to (spared now) (old.1 now))
  says_on p from to f (body.Release r) spared old = (by (eqb f e) refl ∙ old.0, old.1)
    where
      away : (h : Home) → h ≡ Ended (version_of_change r.change) f → eqb f e ≡ false → forgotten e h ≡ h
      away h is other =
          subst (λ (k : Home). forgotten e k ≡ k) (sym is) (ap (λ (g : Bool). pick g Gone (Ended (version_of_change r.change) f)) other)

      by : (g : Bool) → eqb f e ≡ g → b.home r.tx ≡ a.home r.tx
      by true is = home_alive r.tx (spared (grind (arith, nat_tests, is)))
      by false is = either_home (λ h. h ≡ a.home r.tx) (dead r.tx) (a.home r.tx) (forgotten e (a.home r.tx)) refl (away (a.home r.tx) old.0 is)
  says_on p from to f (body.Revoke page) spared old = old
  says_on p from to f (body.Return r) spared old = (old.0, λ now. right_there from (spared now) ∙ old.1 now)
  says_on p from to f (body.Report r) spared old =
      record {
        later = old.later;
        reaches = old.reaches;
        locks = λ t at. old.locks t at ∙ sym (report_locks t f (λ same. spared same t at));
        rights = λ counts. old.rights (counts_back from f counts);
        waits = waits_on p f r.waits old.waits;
      }

  -- ---- homes and nodes

  image_in : (o : Option NodeState) (p : ℕ) (t : TxId) → ImageIn o t p (a.home t) (a.image t) → ImageIn o t p (b.home t) (b.image t)
  image_in None p t old = tt
  image_in (Some s) p t old = old ∙ sym (either_home (λ h. image_of h (a.image t) ≡ image_of (a.home t) (a.image t)) (dead t) (a.home t) (forgotten e (a.home t)) refl (image_on e (a.home t) (a.image t)))

  stands_in : (last : ℕ) (o : Option NodeState) (p : ℕ) (t : TxId) → StandsIn last o t p (a.home t) → StandsIn last o t p (b.home t)
  stands_in last None p t old = either_home (λ h. StandsIn last None t p h) (dead t) (a.home t) (forgotten e (a.home t)) old (stands_on false (nat_lt last t.born) None None e (a.home t) old)
  stands_in last (Some s) p t old = either_home (λ h. StandsIn last (Some s) t p h) (dead t) (a.home t) (forgotten e (a.home t)) old (stands_on (is_open s.home.txs t) (is_unborn s.view s t) (held_by s.home.txs t p) (wait_on (pending_of s.home.txs t) p) e (a.home t) old)

  pub homes_on : (c : Cluster) (p : ℕ) → HomesAre c p (current a) a → HomesAre c p (current b) b
  homes_on c p is =
      record {
        stands = λ t. stands_in _ (node_at c t.node) p t (is.stands t);
        kinds = is.kinds;
        scripts = is.scripts;
        images = λ t. image_in (node_at c t.node) p t (is.images t);
        written = λ t holds. is.written t (exclusive_either (dead t) e (a.home t) holds);
      }

  pub nodes_on : (c : Cluster) (p q : ℕ) → ((m : ℕ) → gone m ≡ true → on_shelf (a.right m) ≡ None) → NodesAre c p q a.era a.right a.reached → NodesAre c p q b.era b.right b.reached
  nodes_on c p q off is = record { shelves = λ m. is.shelves m ∙ by m (gone m) refl; eras = is.eras }
    where
      by : (m : ℕ) (g : Bool) → gone m ≡ g → on_shelf (a.right m) ≡ on_shelf (pick g NoRight (a.right m))
      by m true is = off m is
      by m false is = refl

  -- ---- tables of other eras

  pub waiting_on : (f : ℕ) (ws : List Waiter) → AllByRecursion (WaiterIs a.reached a.home f) ws → AllByRecursion (WaiterIs b.reached b.home f) ws
  waiting_on f [] all = tt
  waiting_on f (x ∷ xs) all = (asked_on (a.reached x.tx.node) f x.have x.tx all.0, waiting_on f xs all.1)

  pub rebuilt_on : (p m f : ℕ) (t : LockTable) → (f ≡ e → ⊥) → TableIs a p m f false t → TableIs b p m f false t
  rebuilt_on p m f t other old =
      record {
        later = old.later;
        reaches = old.reaches;
        holders = λ u. old.holders u ∙ ap (λ (o : Option Mode). node_pick (marked t u.node) o None) (sym (listed_other u f other));
        rights = λ k on counts. old.rights k on (counts_back k f counts);
        waiting = waiting_on f (entry_at t p).waiting old.waiting;
        writers = old.writers;
      }

  right_back : (g : Bool) (r : Right) → pick g NoRight r ≢ NoRight → r ≢ NoRight
  right_back true r is = absurd (is refl)
  right_back false r is = is

  pub served_on : (p m f : ℕ) (t : LockTable) → (f ≡ e → ⊥) → TableIs a p m f true t → TableIs b p m f true t
  served_on p m f t other old =
      record {
        serves = old.serves;
        here = old.here;
        now = old.now;
        version = old.version;
        holders = λ u. old.holders u ∙ sym (listed_other u a.era (λ same. other (old.now ∙ same)));
        rights = λ k out. old.rights k (right_back (gone k) (a.right k) out);
        waiting = waiting_on a.era (entry_at t p).waiting old.waiting;
        writers = old.writers;
      }
