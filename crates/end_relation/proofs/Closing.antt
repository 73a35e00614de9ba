-- A cluster where a transaction of one node ended, and the state of a page that the machine has then.
use Rattle.std.proofs.Common.{◌≡◌, refl, sym, ap, subst, ◌∙◌, ℕ, ◌≤◌, ◌==◌, ◌&&◌, ◌||◌, nat_lt, not, Bool, true, false, List, Option, Some, None}
use Rattle.pcl_base.specs.declared.event.Event.{Event}
use Rattle.pcl_base.specs.declared.tx.Mode.TheVariants.{Exclusive}
use Rattle.pcl_base.specs.declared.tx.TxId.{TxId}
use Rattle.run_rules.specs.Views.{View}
use Rattle.node_rules.specs.InstallRule.{owned_before}
use Rattle.node_rules.specs.NodeState.{NodeState, number_of, partition}
use Rattle.node_rules.specs.OpenTxs.{is_open, held_by, pending_of}
use Rattle.node_rules.specs.BufferRule.{private_bytes}
use Rattle.node_rules.specs.Words.{pick, same_tx}
use Rattle.node_rules.specs.Work.{Work}
use Rattle.home_laws.proofs.Tests.{tx_equal}
use Rattle.cluster_rules.specs.Clusters.{Cluster}
use Rattle.cluster_laws.specs.Link.Coming.{coming}
use Rattle.page_laws.specs.Look.Ends.{IsWithoutTx}
use Rattle.page_laws.specs.Moment.Looks.{accesses_in}
use Rattle.page_laws.specs.Storage.Looks.{IsStored}
use Rattle.page_protocol.specs.Bytes.{Copy, Ranges, Access}
use Rattle.page_protocol.specs.State.{Home, Fresh, Asking, Holding, HoldingAsks, Reading, ReadingAsks, Ended, Gone, Page, IsClosed}
use Rattle.page_relation.specs.Homes.{Stands, StandsIn, KindFits, KindIn, image_of, ImageIn, is_unborn, wait_on}
use Rattle.page_relation.specs.Relation.{HistoryIs, CopiesAre}
use Rattle.page_relation.proofs.LossParts.Lost.{HomeAfter}
use Rattle.page_relation.specs.Work.Landing.{land, trace_of, disk_of}
use Rattle.page_relation.specs.Work.Unseen.{SameStanding}
use Rattle.page_relation.proofs.WorkParts.Nodes.{stands_as}

-- the parts of a page's state that the end of a transaction may change
pub record Part : Type 0 where
  pub now : ℕ
  pub hist : ℕ → List ℕ
  pub committed : List (List Access)
  pub log : ℕ → ℕ → Option Ranges
  pub home : TxId → Home
  pub slot : ℕ → Option Copy
  pub dirty : Bool

-- the state with these parts
abbrev pub with_part : Page → Part → Page
with_part a k =
    record a {
      now = k.now;
      hist = k.hist;
      committed = k.committed;
      log = k.log;
      home = k.home;
      slot = k.slot;
      dirty = k.dirty;
    }

-- these parts of a state
abbrev pub part_of : Page → Part
part_of a =
    record { now = a.now; hist = a.hist; committed = a.committed; log = a.log; home = a.home; slot = a.slot; dirty = a.dirty }

-- the work of a node in which a transaction was closed, beside the node's state before
pub record IsOver (t : TxId) (s : NodeState) (x : Work) : Type 0 where
  pub home : IsWithoutTx t s.home x.node.home
  pub epoch : x.node.epoch ≡ s.epoch
  pub view : x.node.view ≡ s.view
  pub tables : x.node.tables ≡ s.tables
  pub born : is_unborn s.view s t ≡ false
  pub mine : (t.node == number_of s) ≡ true

-- what has become of the page
pub record IsEndOf (c : Cluster) (e : Event) (n p : ℕ) (t : TxId) (x : Work) (a : Page) (k : Part) : Type 0 where
  pub history : HistoryIs (land c e n x) p k.hist (record { version = k.now; bytes = k.hist k.now })
  pub stored : IsStored c.config (disk_of c n x) p a.disk k.log
  pub copies : CopiesAre (land c e n x) p k.slot a.owner k.dirty
  pub scripts : (u : TxId) → a.script u ≡ accesses_in u p (trace_of c e n x)
  pub homes : (u : TxId) → HomeAfter (same_tx u t) (a.home u) (k.home u)
  pub page_same : (u : TxId) → same_tx u t ≡ false → a.home u ≡ Holding Exclusive → k.hist k.now ≡ a.hist a.now
  pub hist_same : (v : ℕ) → v ≤ a.now → k.hist v ≡ a.hist v
  pub coming_same : (y z : ℕ) → coming (land c e n x) p y z ≡ coming c p y z

-- ---- where transactions stand

closed_image : (h : Home) (bytes : List ℕ) → IsClosed h → None ≡ image_of h bytes
closed_image Fresh bytes c = refl
closed_image (Asking m v) bytes c = absurd c
closed_image (Holding m) bytes c = absurd c
closed_image HoldingAsks bytes c = absurd c
closed_image Reading bytes c = absurd c
closed_image ReadingAsks bytes c = absurd c
closed_image (Ended v e) bytes c = refl
closed_image Gone bytes c = refl

module _ (t : TxId) (s : NodeState) (x : Work) (over : IsOver t s x) where
  unborn_in : (v : Option View) (u : TxId) → is_unborn v x.node u ≡ is_unborn v s u
  unborn_in None u = ap (λ (k : ℕ). nat_lt k u.born) over.epoch
  unborn_in (Some v) u = (λ i. nat_lt (over.home.named.1 i) u.born || (u.born == over.home.named.1 i && nat_lt (over.home.named.2 i) u.serial))

  unborn_over : (u : TxId) → is_unborn x.node.view x.node u ≡ is_unborn s.view s u
  unborn_over u = ap (λ (v : Option View). is_unborn v x.node u) over.view ∙ unborn_in s.view u

  -- a choice by a test that fails
  pub not_this : {X : Type 0} (b : Bool) (y z w : X) → w ≡ pick b y z → b ≡ false → w ≡ z
  not_this b y z w is other = is ∙ ap (λ (c : Bool). pick c y z) other

  pub this : {X : Type 0} (b : Bool) (y z w : X) → w ≡ pick b y z → b ≡ true → w ≡ y
  this b y z w is same = is ∙ ap (λ (c : Bool). pick c y z) same

  pub stands_over : (last p : ℕ) (u : TxId) (h k : Home) → HomeAfter (same_tx u t) h k → StandsIn last (Some s) u p h → StandsIn last (Some x.node) u p k
  stands_over last p u h k after old = by (same_tx u t) refl after
    where
      by : (b : Bool) → same_tx u t ≡ b → HomeAfter b h k → StandsIn last (Some x.node) u p k
      by true same closing =
          let shut : is_open x.node.home.txs u ≡ false = over.home.alive u ∙ ap (λ (c : Bool). not c && is_open s.home.txs u) same in
          let begun : is_unborn x.node.view x.node u ≡ false = unborn_over u ∙ ap (is_unborn s.view s) (tx_equal u t same) ∙ over.born in
          subst (λ (c : Bool). Stands c (is_unborn x.node.view x.node u) (held_by x.node.home.txs u p) (wait_on (pending_of x.node.home.txs u) p) k) (sym shut)
          (subst (λ (c : Bool). Stands false c (held_by x.node.home.txs u p) (wait_on (pending_of x.node.home.txs u) p) k) (sym begun) closing.closed)
      by false other same =
          subst (StandsIn last (Some x.node) u p) (sym same)
          (stands_as h (is_open s.home.txs u) (is_open x.node.home.txs u) (is_unborn s.view s u) (is_unborn x.node.view x.node u) (held_by s.home.txs u p) (held_by x.node.home.txs u p)
          (wait_on (pending_of s.home.txs u) p) (wait_on (pending_of x.node.home.txs u) p)
          (over.home.alive u ∙ ap (λ (c : Bool). not c && is_open s.home.txs u) other) (unborn_over u)
          (not_this (same_tx u t) None (held_by s.home.txs u p) (held_by x.node.home.txs u p) (over.home.held u p) other)
          (ap (λ o. wait_on o p) (not_this (same_tx u t) None (pending_of s.home.txs u) (pending_of x.node.home.txs u) (over.home.waits u) other)) old)

  pub kinds_over : (p : ℕ) (u : TxId) → KindIn (Some s) u p → KindIn (Some x.node) u p
  kinds_over p u old =
      subst (λ (b : Bool). KindFits b (held_by x.node.home.txs u p)) (sym owned)
      (subst (KindFits (owned_before s.view (partition s.home.config p) (number_of s))) (sym (over.home.held u p)) (by (same_tx u t)))
    where
      owned : owned_before x.node.view (partition x.node.home.config p) (number_of x.node) ≡ owned_before s.view (partition s.home.config p) (number_of s)
      owned = (λ i. owned_before (over.view i) (partition (over.home.config i) p) (over.home.named.0 i))

      by : (b : Bool) → KindFits (owned_before s.view (partition s.home.config p) (number_of s)) (pick b None (held_by s.home.txs u p))
      by true = tt
      by false = old

  pub images_over : (p : ℕ) (u : TxId) (h k : Home) (image : List ℕ) → HomeAfter (same_tx u t) h k → ImageIn (Some s) u p h image → ImageIn (Some x.node) u p k image
  images_over p u h k image after old = by (same_tx u t) refl after
    where
      by : (b : Bool) → same_tx u t ≡ b → HomeAfter b h k → ImageIn (Some x.node) u p k image
      by true same closing = this (same_tx u t) None (private_bytes s.home.pool u p) (private_bytes x.node.home.pool u p) (over.home.bytes u p) same ∙ closed_image k image closing.closed
      by false other same =
          not_this (same_tx u t) None (private_bytes s.home.pool u p) (private_bytes x.node.home.pool u p) (over.home.bytes u p) other ∙ old
          ∙ sym (ap (λ (j : Home). image_of j image) same)

  pub standing_over : SameStanding s x.node
  standing_over = record { config = over.home.config; number = over.home.named.0; epoch = over.epoch; view = over.view }
