-- The nodes of a cluster as if a step had ended, one of which may change.
use Rattle.std.proofs.Common.{◌≡◌, refl, ap, sym, subst, ◌∙◌, ℕ, ◌==◌, ◌&&◌, ◌||◌, nat_lt, Bool, true, false, Option, Some, None, eqb-true}
use Rattle.pcl_base.specs.declared.event.Event.{Event}
use Rattle.pcl_base.specs.declared.lock.Held.{Held}
use Rattle.pcl_base.specs.declared.tx.Mode.{Mode}
use Rattle.pcl_base.specs.declared.tx.TxId.{TxId}
use Rattle.run_rules.specs.Views.{View}
use Rattle.node_rules.specs.InstallRule.{owned_before}
use Rattle.node_rules.specs.NodeState.{NodeState, partition, number_of}
use Rattle.node_rules.specs.OpenTxs.{is_open, held_by, pending_of}
use Rattle.node_rules.specs.Work.{Work}
use Rattle.cluster_rules.specs.Clusters.{Cluster, node_at}
use Rattle.page_laws.specs.Look.Parts.{SameLife}
use Rattle.page_protocol.specs.State.{Home}
use Rattle.page_relation.specs.Homes.{Stands, StandsIn, KindFits, KindIn, wait_on, is_unborn}
use Rattle.page_relation.specs.Work.Landing.{land, Acts}
use Rattle.page_relation.specs.Work.Unseen.{SameStanding, SameUse}
use Rattle.page_relation.proofs.WorkParts.Landed.{landing_is_seen_law}

module _ (c : Cluster) (e : Event) (n : ℕ) (acts : Acts c n) where
  -- what holds of a node
  pub of_node : (w : Work) (m : ℕ) (R : Option NodeState → Type 0) → (m ≡ n → R (Some w.node)) → ((m == n) ≡ false → R (node_at c m)) → R (node_at (land c e n w) m)
  of_node w m R here there = by (m == n) refl
    where
      by : (b : Bool) → (m == n) ≡ b → R (node_at (land c e n w) m)
      by true same =
          let is : m ≡ n = eqb-true m n same in
          subst (λ (k : ℕ). R (node_at (land c e n w) k)) (sym is) (subst R (sym (landing_is_seen_law c e n w acts).node) (here is))
      by false other = subst R (sym ((landing_is_seen_law c e n w acts).others m other)) (there other)

  -- the acting node, and another one
  pub at_node : (w : Work) (m : ℕ) (Q : Option NodeState → Type 0) → m ≡ n → Q (node_at (land c e n w) m) → Q (Some w.node)
  at_node w m Q is old = subst Q (landing_is_seen_law c e n w acts).node (subst (λ (k : ℕ). Q (node_at (land c e n w) k)) is old)

  pub at_other : (w : Work) (m : ℕ) (Q : Option NodeState → Type 0) → (m == n) ≡ false → Q (node_at (land c e n w) m) → Q (node_at c m)
  at_other w m Q other old = subst Q ((landing_is_seen_law c e n w acts).others m other) old

  -- from one work to another
  pub changed_node : (w x : Work) (m : ℕ) (Q R : Option NodeState → Type 0) → (m ≡ n → Q (Some w.node) → R (Some x.node))
      → ((o : Option NodeState) → (m == n) ≡ false → Q o → R o) → Q (node_at (land c e n w) m) → R (node_at (land c e n x) m)
  changed_node w x m Q R here there old =
      of_node x m R (λ is. here is (at_node w m Q is old)) (λ other. there (node_at c m) other (at_other w m Q other old))

  -- the same of it
  pub kept_node : (w x : Work) (m : ℕ) (Q : Option NodeState → Type 0) → (m ≡ n → Q (Some w.node) → Q (Some x.node)) → Q (node_at (land c e n w) m) → Q (node_at (land c e n x) m)
  kept_node w x m Q here old = changed_node w x m Q Q here (λ o other q. q) old

-- where a transaction stands, by what its node has of it
pub stands_as : (h : Home) (o o2 u u2 : Bool) (l l2 : Option Held) (m m2 : Option Mode) → o2 ≡ o → u2 ≡ u → l2 ≡ l → m2 ≡ m → Stands o u l m h → Stands o2 u2 l2 m2 h
stands_as h o o2 u u2 l l2 m m2 eo eu el em s =
    subst (λ (x : Bool). Stands x u2 l2 m2 h) (sym eo)
    (subst (λ (x : Bool). Stands o x l2 m2 h) (sym eu)
    (subst (λ (x : Option Held). Stands o u x m2 h) (sym el) (subst (λ (x : Option Mode). Stands o u l x h) (sym em) s)))

module _ (s x : NodeState) (same : SameStanding s x) where
  unborn_in : (v : Option View) (t : TxId) → SameLife s.home x.home → is_unborn v x t ≡ is_unborn v s t
  unborn_in None t life = ap (λ (k : ℕ). nat_lt k t.born) same.epoch
  unborn_in (Some v) t life = (λ i. nat_lt (life.born i) t.born || (t.born == life.born i && nat_lt (life.last i) t.serial))

  pub unborn_same : (t : TxId) → SameLife s.home x.home → is_unborn x.view x t ≡ is_unborn s.view s t
  unborn_same t life = ap (λ (v : Option View). is_unborn v x t) same.view ∙ unborn_in s.view t life

  pub stands_same : (last p : ℕ) (t : TxId) (h : Home) → SameLife s.home x.home → SameUse p s.home x.home → StandsIn last (Some s) t p h → StandsIn last (Some x) t p h
  stands_same last p t h life uses =
      stands_as h (is_open s.home.txs t) (is_open x.home.txs t) (is_unborn s.view s t) (is_unborn x.view x t) (held_by s.home.txs t p) (held_by x.home.txs t p)
      (wait_on (pending_of s.home.txs t) p) (wait_on (pending_of x.home.txs t) p) (life.alive t) (unborn_same t life) (uses.held t) (uses.waits t)

  owned_same : (p : ℕ) → owned_before x.view (partition x.home.config p) (number_of x) ≡ owned_before s.view (partition s.home.config p) (number_of s)
  owned_same p = (λ i. owned_before (same.view i) (partition (same.config i) p) (same.number i))

  pub kind_same : (p : ℕ) (t : TxId) → held_by x.home.txs t p ≡ held_by s.home.txs t p → KindIn (Some s) t p → KindIn (Some x) t p
  kind_same p t held fits =
      subst (λ (b : Bool). KindFits b (held_by x.home.txs t p)) (sym (owned_same p))
      (subst (KindFits (owned_before s.view (partition s.home.config p) (number_of s))) (sym held) fits)
