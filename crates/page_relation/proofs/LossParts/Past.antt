-- A node that is lost behind the commit point of one of its transactions, and the state of a page then.
use Rattle.std.proofs.Common.{◌≡◌, ◌⊎◌, inl, inr, refl, sym, ap, subst, ◌∙◌, ℕ, suc, ◌<◌, ◌≤◌, ◌^◌, ◌==◌, ◌&&◌, eqb, Bool, true, false, List, [], length, Option, Some, None, arith}
use Rattle.std.proofs.lemmas.Bool.Decides.{nat_tests}
use Rattle.pcl_base.specs.declared.trace.Entry.{Entry}
use Rattle.pcl_base.specs.declared.tx.Mode.TheVariants.{Exclusive}
use Rattle.pcl_base.specs.declared.tx.TxId.{TxId}
use Rattle.run_rules.specs.Disk.{Disk}
use Rattle.node_rules.specs.DiskCalls.{Stop}
use Rattle.node_rules.specs.Words.{pick}
use Rattle.cluster_rules.specs.Clusters.{Cluster}
use Rattle.cluster_rules.specs.Links.{Links, link_at}
use Rattle.cluster_laws.specs.Sound.{IsCluster}
use Rattle.page_laws.specs.Moment.Looks.{accesses_in}
use Rattle.page_laws.specs.Moment.Machine.{CommitStep, wrote, read, untouched}
use Rattle.page_protocol.specs.Bytes.{Ranges, writes, put_all}
use Rattle.page_protocol.specs.Eras.{crashed, crashing, falling}
use Rattle.page_protocol.specs.Homes.{ended, committing_reads, committing}
use Rattle.page_protocol.specs.Invariant.{Inv}
use Rattle.page_protocol.specs.Laws.{IsAlone}
use Rattle.page_protocol.specs.State as machine
use Rattle.page_protocol.specs.State.{Home, Fresh, Asking, Holding, HoldingAsks, Reading, ReadingAsks, Ended, Gone, Free, Lock, Registered, lock_of, Page, current, IsFresh, IsGranted}
use Rattle.page_protocol.specs.Steps.{Run, here, then, commits, commits_reads, crashes, falls, Reached}
use Rattle.page_protocol.proofs.Basics.{by_tx, by_tx_else, updn_other}
use Rattle.page_protocol.proofs.Keeps.{reached_holds}
use Rattle.page_relation.specs.Relation.{HistoryIs, IsPageOf}
use Rattle.page_laws.specs.Storage.Looks.{IsStored}
use Rattle.page_relation.proofs.LossParts.Crashes.{Serves, fallen_serves, other_serves, and_second, apart_from, not_served, Loses}
use Rattle.page_relation.proofs.LossParts.Losing.{Left, left_page, left_cluster, IsLeft, page_left}
use Rattle.page_relation.proofs.LossParts.Lost.{HomeAfter, IsClosing, crashed_closes}

-- a transaction that ends: it was begun and had told no end, or stays as it is
pub record IsEnding (h k : Home) : Type 0 where
  pub fresh : IsFresh h → IsFresh k
  pub begun : IsFresh k → IsFresh h
  pub ended : (change : Option ℕ) (e : ℕ) → h ≡ Ended change e → k ≡ Ended change e

stays_ending : (h : Home) → IsEnding h h
stays_ending h = record { fresh = λ f. f; begun = λ f. f; ended = λ change e is. is }

wrote_ending : (change : Option ℕ) (e : ℕ) (h : Home) → h ≡ Holding Exclusive → IsEnding h (Ended change e)
wrote_ending change e h holds =
    record {
      fresh = λ f. absurd (subst IsFresh holds f);
      begun = λ f. absurd f;
      ended = λ c k is. absurd (not_both (sym holds ∙ is));
    }
  where
    not_both : {c : Option ℕ} {k : ℕ} → Holding Exclusive ≡ Ended c k → ⊥
    not_both e = absurd (cc)

read_ending : (h : Home) (e : ℕ) → IsGranted h → IsEnding h (ended h e)
read_ending Fresh e g = absurd g
read_ending (Asking m have) e g = absurd g
read_ending (Holding m) e g = record { fresh = λ f. absurd f; begun = λ f. absurd f; ended = λ c k is. absurd (cc) }
read_ending HoldingAsks e g = absurd g
read_ending Reading e g = record { fresh = λ f. absurd f; begun = λ f. absurd f; ended = λ c k is. absurd (cc) }
read_ending ReadingAsks e g = absurd g
read_ending (Ended change f) e g = absurd g
read_ending Gone e g = absurd g

closes : (h k : Home) → IsEnding h k → IsClosing h (crashed k)
closes h k is =
    let x = crashed_closes k in
    record {
      closed = x.closed;
      fresh = λ f. x.fresh (is.fresh f);
      begun = λ f. is.begun (x.begun f);
      ended = λ change e at. x.ended change e (is.ended change e at);
    }

-- The state of a page past a commit point of node n, beside the one before.
pub record IsPast (c : Cluster) (p n : ℕ) (disk : Disk) (trace : List Entry) (a b : Page) : Type 0 where
  pub history : HistoryIs (record c { trace = trace }) p b.hist (current b)
  pub stored : IsStored c.config disk p b.disk b.log
  pub scripts : (t : TxId) → a.script t ≡ accesses_in t p trace
  pub ends : (t : TxId) → (t.node == n) ≡ true → IsEnding (a.home t) (b.home t)
  pub stays : (t : TxId) → (t.node == n) ≡ false → b.home t ≡ a.home t
  pub page_same : (t : TxId) → (t.node == n) ≡ false → a.home t ≡ Holding Exclusive → b.hist b.now ≡ a.hist a.now
  pub hist_same : (v : ℕ) → v ≤ a.now → b.hist v ≡ a.hist v
  pub slots : (m : ℕ) → (m == n) ≡ false → b.slot m ≡ a.slot m
  pub dirty : (a.served && a.owner == n) ≡ false → b.dirty ≡ a.dirty

-- what the loss leaves of it
abbrev pub past_left : Page → ℕ → Bool → Bool → Left
past_left b n served dirty =
    record {
      now = b.now;
      hist = b.hist;
      committed = b.committed;
      disk = b.disk;
      log = b.log;
      home = λ t. machine.pick (eqb t.node n) (crashed (b.home t)) (b.home t);
      slot = machine.updn b.slot n None;
      served = served;
      dirty = dirty;
    }

-- the parts that a commit leaves, and that a loss reads
pub record IsBeside (n : ℕ) (a b : Page) : Type 0 where
  pub served_same : b.served ≡ a.served
  pub owner_same : b.owner ≡ a.owner
  pub rest : (served dirty : Bool) → left_page a n (past_left b n served dirty) ≡ record (crashing b n) { served = served; dirty = dirty }

module _ (blank : List ℕ) (c : Cluster) (p n : ℕ) (disk : Disk) (trace : List Entry) (a b : Page) where
  past_is : (served dirty : Bool) → IsPast c p n disk trace a b → Serves a n served dirty → IsLeft c p n disk trace a (past_left b n served dirty)
  past_is served dirty x serves =
      record {
        history = x.history;
        stored = x.stored;
        scripts = x.scripts;
        homes = λ t. home t (t.node == n) refl;
        page_same = x.page_same;
        hist_same = x.hist_same;
        slots = λ m. slot m (m == n) refl;
        served = serves.served_on;
        serving = serves.serving;
        dirty_lost = serves.dirty_lost;
        dirty_kept = serves.dirty_kept;
      }
    where
      home : (t : TxId) (s : Bool) → (t.node == n) ≡ s → HomeAfter s (a.home t) (machine.pick s (crashed (b.home t)) (b.home t))
      home t true e = closes (a.home t) (b.home t) (x.ends t e)
      home t false e = x.stays t e

      slot : (m : ℕ) (s : Bool) → (m == n) ≡ s → machine.pick s None (b.slot m) ≡ machine.pick s None (a.slot m)
      slot m true e = refl
      slot m false e = x.slots m e

  -- the node is lost behind the commit point
  pub past_lost : (ls : Links) (ss : List (Option Stop)) → IsCluster c → Reached blank a → IsPageOf c p a → IsPast c p n disk trace a b → IsBeside n a b → ((x y : ℕ) → link_at ls x y ≡ pick (y == n) [] (link_at c.links x y))
      → Loses b (left_cluster c n ls disk ss trace) p n
  unfolding crashing falling
  past_lost ls ss i reached r x same cleared = by (a.served && a.owner == n) refl
    where
      inv : Inv blank a
      inv = reached_holds blank a reached

      both : (b.served && b.owner == n) ≡ (a.served && a.owner == n)
      both = ap (λ (s : Bool). s && b.owner == n) same.served_same ∙ ap (λ (k : ℕ). a.served && k == n) same.owner_same

      related : (served dirty : Bool) → Serves a n served dirty → IsPageOf (left_cluster c n ls disk ss trace) p (record (crashing b n) { served = served; dirty = dirty })
      related served dirty serves =
          subst (IsPageOf (left_cluster c n ls disk ss trace) p) (same.rest served dirty)
          (page_left blank c p n ls disk ss trace a (past_left b n served dirty) i inv (past_is served dirty x serves) r cleared)

      by : (s : Bool) → (a.served && a.owner == n) ≡ s → Loses b (left_cluster c n ls disk ss trace) p n
      by true own =
          record {
            page = crashing (falling b) n;
            run = then (then here falls) (crashes n (λ on. absurd (cc)));
            related = related false false (fallen_serves a n (and_second a.served (a.owner == n) own));
            hist = refl;
            now = refl;
            disk = refl;
            off = λ at. refl;
          }
      by false other =
          record {
            page = crashing b n;
            run = then here (crashes n (apart_from b n (both ∙ other)));
            related = related b.served b.dirty
                (subst (λ (s : Bool). Serves a n s b.dirty) (sym same.served_same)
                (subst (λ (s : Bool). Serves a n a.served s) (sym (x.dirty other)) (other_serves a n other inv.kept_holds.dirty_served)));
            hist = refl;
            now = refl;
            disk = refl;
            off = λ at. not_served b n (both ∙ other) at;
          }

-- ---- the three ways in which a commit may concern a page

pub beside_wrote : (n : ℕ) (a : Page) (t : TxId) (ranges : Ranges) → IsBeside n a (committing a t ranges)
unfolding committing crashing
beside_wrote n a t ranges = record { served_same = refl; owner_same = refl; rest = λ served dirty. refl }

pub beside_read : (n : ℕ) (a : Page) (t : TxId) → IsBeside n a (committing_reads a t)
unfolding committing_reads crashing
beside_read n a t = record { served_same = refl; owner_same = refl; rest = λ served dirty. refl }

pub beside_same : (n : ℕ) (a : Page) → IsBeside n a a
unfolding crashing
beside_same n a = record { served_same = refl; owner_same = refl; rest = λ served dirty. refl }

-- what is stored of a page past the commit point, in each of these ways
pub data Forced (c : Cluster) (p : ℕ) (t : TxId) (disk : Disk) (a : Page) : Page → Type 0 where
  page_wrote : (ranges : Ranges) → a.home t ≡ Holding Exclusive → writes (a.script t) ≡ true → put_all ranges (a.hist a.now) ≡ a.image t → length (a.image t) ≡ c.config.size → suc a.now < 2 ^ 64
      → IsStored c.config disk p (committing a t ranges).disk (committing a t ranges).log → Forced c p t disk a (committing a t ranges)
  page_read : IsGranted (a.home t) → writes (a.script t) ≡ false → IsStored c.config disk p a.disk a.log → Forced c p t disk a (committing_reads a t)
  page_untouched : a.script t ≡ [] → IsStored c.config disk p a.disk a.log → Forced c p t disk a a

-- it is a commit of the machine
pub forced_step : (c : Cluster) (p : ℕ) (t : TxId) (disk : Disk) (a b : Page) → Forced c p t disk a b → CommitStep t a b
forced_step c p t disk a b (page_wrote ranges holds some made long fits stored) = wrote ranges holds some
forced_step c p t disk a b (page_read granted none stored) = read granted none
forced_step c p t disk a b (page_untouched none stored) = untouched none

pub forced_run : (c : Cluster) (p : ℕ) (t : TxId) (disk : Disk) (a b : Page) → Forced c p t disk a b → Run a b
forced_run c p t disk a b (page_wrote ranges holds some made long fits stored) = then here (commits t ranges holds some made)
forced_run c p t disk a b (page_read granted none stored) = then here (commits_reads t granted none)
forced_run c p t disk a b (page_untouched none stored) = here

-- the scripts stay
pub forced_scripts : (c : Cluster) (p : ℕ) (t : TxId) (disk : Disk) (a b : Page) (u : TxId) → Forced c p t disk a b → b.script u ≡ a.script u
unfolding committing committing_reads
forced_scripts c p t disk a b u (page_wrote ranges holds some made long fits stored) = refl
forced_scripts c p t disk a b u (page_read granted none stored) = refl
forced_scripts c p t disk a b u (page_untouched none stored) = refl

-- ---- past each of them

module _ (blank : List ℕ) (c : Cluster) (p n : ℕ) (t : TxId) (disk : Disk) (trace : List Entry) (a : Page) (mine : t.node ≡ n) where
  of_node : (t.node == n) ≡ true
  of_node = grind (arith, nat_tests, mine)

  -- a change of this transaction's home is none of another node's
  other_home : (u : TxId) (h : Home) → (u.node == n) ≡ false → machine.upd a.home t h u ≡ a.home u
  other_home u h e =
      by_tx_else (λ v k. (v.node == n) ≡ false → k ≡ a.home v) t u h (a.home u) (λ bad. (let no : true ≡ false = sym of_node ∙ bad in absurd (cc))) (λ apart f. refl) e

  -- beside a writer nobody else writes
  no_other_writer : IsAlone a t → a.home t ≡ Holding Exclusive → (u : TxId) → (u.node == n) ≡ false → a.home u ≡ Holding Exclusive → ⊥
  no_other_writer alone holds u e at = by ((alone holds).0 u)
    where
      by : (lock_of (a.home u) ≡ Free) ⊎ (u ≡ t) → ⊥
      by (inl free) = let bad : Registered Exclusive ≡ Free = sym (ap lock_of at) ∙ free in absurd (cc)
      by (inr same) = let no : true ≡ false = sym of_node ∙ ap (λ (v : TxId). v.node == n) (sym same) ∙ e in absurd (cc)

  owner_off : (a.served && a.owner == n) ≡ false → (a.served && eqb t.node a.owner) ≡ false
  owner_off off = ap (λ (x : Bool). a.served && x) (of (eqb t.node a.owner) (a.owner == n) refl refl) ∙ off
    where
      of : (x y : Bool) → eqb t.node a.owner ≡ x → (a.owner == n) ≡ y → x ≡ y
      of true true e f = refl
      of false false e f = refl
      of true false e f = absurd (grind (arith, nat_tests, e, f, mine))
      of false true e f = absurd (grind (arith, nat_tests, e, f, mine))

  pub past_wrote : (ranges : Ranges) → IsAlone a t → a.home t ≡ Holding Exclusive → IsStored c.config disk p (committing a t ranges).disk (committing a t ranges).log
      → HistoryIs (record c { trace = trace }) p (committing a t ranges).hist (current (committing a t ranges)) → ((u : TxId) → a.script u ≡ accesses_in u p trace) → IsPast c p n disk trace a (committing a t ranges)
  unfolding committing
  past_wrote ranges alone holds stored history scripts =
      record {
        history = history;
        stored = stored;
        scripts = scripts;
        ends = λ u e. by_tx (λ v k. IsEnding (a.home v) k) t u _ (a.home u) (wrote_ending (Some (suc a.now)) (a.reached t.node) (a.home t) holds) (stays_ending (a.home u));
        stays = λ u e. other_home u _ e;
        page_same = λ u e at. absurd (no_other_writer alone holds u e at);
        hist_same = λ v le. updn_other a.hist (suc a.now) v (a.image t) (λ same. omega (arith, same, le));
        slots = λ m e. updn_other a.slot t.node m _ (λ same. grind (arith, nat_tests, same, e, mine));
        dirty = λ off. ap (λ (x : Bool). machine.pick x true a.dirty) (owner_off off);
      }

  pub past_read : IsGranted (a.home t) → IsStored c.config disk p a.disk a.log → HistoryIs (record c { trace = trace }) p a.hist (current a) → ((u : TxId) → a.script u ≡ accesses_in u p trace)
      → IsPast c p n disk trace a (committing_reads a t)
  unfolding committing_reads
  past_read granted stored history scripts =
      record {
        history = history;
        stored = stored;
        scripts = scripts;
        ends = λ u e. by_tx (λ v k. IsEnding (a.home v) k) t u _ (a.home u) (read_ending (a.home t) (a.reached t.node) granted) (stays_ending (a.home u));
        stays = λ u e. other_home u _ e;
        page_same = λ u e at. refl;
        hist_same = λ v le. refl;
        slots = λ m e. refl;
        dirty = λ off. refl;
      }

  pub past_same : IsStored c.config disk p a.disk a.log → HistoryIs (record c { trace = trace }) p a.hist (current a) → ((u : TxId) → a.script u ≡ accesses_in u p trace) → IsPast c p n disk trace a a
  past_same stored history scripts =
      record {
        history = history;
        stored = stored;
        scripts = scripts;
        ends = λ u e. stays_ending (a.home u);
        stays = λ u e. refl;
        page_same = λ u e at. refl;
        hist_same = λ v le. refl;
        slots = λ m e. refl;
        dirty = λ off. refl;
      }
