-- Who holds a page exclusively has written it: in a state of the machine and at the nodes of a cluster.
use Rattle.std.proofs.Common.{◌≡◌, refl, ap, sym, subst, ◌∙◌, ℕ, ◌<◌, ◌==◌, nat_lt, Bool, true, false, List, Option, Some, None, is_some}
use Rattle.std.specs.Prelude.{IfSome}
use Rattle.pcl_base.specs.Limits.{Sizes}
use Rattle.pcl_base.specs.declared.lock.Held.{Held}
use Rattle.pcl_base.specs.declared.lock.Kind.{Kind}
use Rattle.pcl_base.specs.declared.lock.Kind.TheVariants as kind
use Rattle.pcl_base.specs.declared.tx.Mode.{Mode}
use Rattle.pcl_base.specs.declared.tx.Mode.TheVariants.{Shared, Exclusive}
use Rattle.pcl_base.specs.declared.tx.TxId.{TxId}
use Rattle.home_laws.specs.Homes.{is_exclusive_lock}
use Rattle.home_laws.proofs.Locks.{held_open}
use Rattle.home_laws.proofs.Tests.{and_left, number_equal}
use Rattle.node_rules.specs.Words.{pick, is_exclusive}
use Rattle.node_rules.specs.NodeState.{HomeState, NodeState}
use Rattle.node_rules.specs.OpenTxs.{is_own, is_open, held_by, pending_of, with_serial}
use Rattle.cluster_rules.specs.Clusters.{Cluster, node_at, last_view}
use Rattle.cluster_laws.specs.Sound.{IsMember}
use Rattle.page_protocol.specs.Bytes.{writes}
use Rattle.page_protocol.specs.State.{Home, Holding}
use Rattle.page_laws.specs.Moment.Looks.{accesses_in}
use Rattle.page_relation.specs.Homes.{shared_stand, held_stand, stand_of, Stands, StandsIn, is_unborn, wait_on}
use Rattle.page_relation.specs.Relation.{IsPageOf}
use Rattle.related_runs.specs.RunLaws.{IsOfRun}
use Rattle.related_runs.specs.Between.Between.{NodeWrites, WritesAreWrote, RunsHaveWrites}

-- who stands so holds the page exclusively, and the other way round
shared_not : (k : Kind) (w : Option Mode) → Holding Exclusive ≡ shared_stand k w → ⊥
shared_not kind.Own None e = let bad : Exclusive ≡ Shared = cc in cc
shared_not kind.Own (Some m) e = cc
shared_not kind.Registered None e = let bad : Exclusive ≡ Shared = cc in cc
shared_not kind.Registered (Some m) e = cc
shared_not kind.Right None e = cc
shared_not kind.Right (Some m) e = cc

held_exclusive : (m : Mode) (k : Kind) (w : Option Mode) → Holding Exclusive ≡ held_stand m k w → is_exclusive m ≡ true
held_exclusive Exclusive k w e = refl
held_exclusive Shared k w e = absurd (shared_not k w e)

open_exclusive : (o : Option Held) (w : Option Mode) (have : Option ℕ) → Holding Exclusive ≡ stand_of o w have → is_exclusive_lock o ≡ true
open_exclusive None None have e = absurd (cc)
open_exclusive None (Some m) have e = absurd (cc)
open_exclusive (Some l) w have e = held_exclusive l.mode l.kind w e

stands_exclusive : (b u : Bool) (o : Option Held) (w : Option Mode) → Stands b u o w (Holding Exclusive) → is_exclusive_lock o ≡ true
stands_exclusive true u o w is = open_exclusive o w is.0 is.1
stands_exclusive false true o w is = absurd is
stands_exclusive false false o w is = absurd is

-- a node at which somebody stands so is up, and he holds the page exclusively there
node_writes : (last : ℕ) (o : Option NodeState) (t : TxId) (p : ℕ) (P : NodeState → Type 0) (X : Type 0) → StandsIn last o t p (Holding Exclusive) → IfSome o P
    → ((s : NodeState) → P s → is_exclusive_lock (held_by s.home.txs t p) ≡ true → X) → X
node_writes last None t p P X is all k = by (nat_lt last t.born) is
  where
    by : (u : Bool) → Stands false u None None (Holding Exclusive) → X
    by true is = absurd is
    by false is = absurd is
node_writes last (Some s) t p P X is all k =
    k s all (stands_exclusive (is_open s.home.txs t) (is_unborn s.view s t) (held_by s.home.txs t p) (wait_on (pending_of s.home.txs t) p) is)

pub writes_are_wrote_law : WritesAreWrote
writes_are_wrote_law c p a r all t holds =
    ap writes (r.homes.scripts t)
    ∙ node_writes (last_view c).epoch (node_at c t.node) t p (NodeWrites c.trace) (writes (accesses_in t p c.trace) ≡ true)
    (subst (StandsIn (last_view c).epoch (node_at c t.node) t p) holds (r.homes.stands t)) (all t.node) (λ s each exclusive. each t p exclusive)

-- ---- and a cluster of a run has it

held_some : (o : Option Held) → is_exclusive_lock o ≡ true → is_some o ≡ true
held_some None e = absurd (cc)
held_some (Some l) e = refl

mode_stands : (m : Mode) (k : Kind) (w : Option Mode) → is_exclusive m ≡ true → held_stand m k w ≡ Holding Exclusive
mode_stands Exclusive k w e = refl
mode_stands Shared k w e = absurd (cc)

open_stands : (o : Option Held) (w : Option Mode) (have : Option ℕ) → is_exclusive_lock o ≡ true → stand_of o w have ≡ Holding Exclusive
open_stands None w have e = absurd (cc)
open_stands (Some l) w have e = mode_stands l.mode l.kind w e

exclusive_stands : (b u : Bool) (o : Option Held) (w : Option Mode) (h : Home) → b ≡ true → is_exclusive_lock o ≡ true → Stands b u o w h → h ≡ Holding Exclusive
exclusive_stands true u o w h on e is = is.1 ∙ open_stands o w is.0 e
exclusive_stands false u o w h on e is = absurd (cc)

own_node : (h : HomeState) (t : TxId) → is_open h.txs t ≡ true → t.node ≡ h.txs.node
own_node h t there = by (is_own h.txs t) refl there
  where
    by : (b : Bool) → is_own h.txs t ≡ b → is_some (pick b (with_serial h.txs.txs t.serial) None) ≡ true → t.node ≡ h.txs.node
    by true own e = number_equal t.node h.txs.node (and_left (t.node == h.txs.node) (t.born == h.txs.born) own)
    by false own e = absurd (cc)

module _ (blank : List ℕ) (c : Cluster) (is : IsOfRun blank c) (n : ℕ) (s : NodeState) (up : node_at c n ≡ Some s) where
  member : IsMember c.config c.views n s
  member = subst (λ (o : Option NodeState). IfSome o (IsMember c.config c.views n)) up (is.related.cluster.members n)

  run_writes : NodeWrites c.trace s
  run_writes t p exclusive = sym (ap writes (rel.homes.scripts t)) ∙ is.between.wrote p low t stands
    where
      holds : is_some (held_by s.home.txs t p) ≡ true
      holds = held_some (held_by s.home.txs t p) exclusive

      low : p < c.config.pages
      low = subst (λ (k : Sizes). p < k.pages) member.config (member.sound.home.held t p holds).0

      rel : IsPageOf c p (is.related.pages.page p)
      rel = is.related.pages.related p low

      there : is_open s.home.txs t ≡ true
      there = held_open s.home.txs t p holds

      here : node_at c t.node ≡ Some s
      here = ap (node_at c) (own_node s.home t there ∙ member.number) ∙ up

      stands : (is.related.pages.page p).home t ≡ Holding Exclusive
      stands =
          exclusive_stands (is_open s.home.txs t) (is_unborn s.view s t) (held_by s.home.txs t p) (wait_on (pending_of s.home.txs t) p) ((is.related.pages.page p).home t) there exclusive
          (subst (λ (o : Option NodeState). StandsIn (last_view c).epoch o t p ((is.related.pages.page p).home t)) here (rel.homes.stands t))

pub runs_have_writes_law : RunsHaveWrites
runs_have_writes_law blank c is n = by (node_at c n) refl
  where
    by : (o : Option NodeState) → node_at c n ≡ o → IfSome o (NodeWrites c.trace)
    by None up = tt
    by (Some s) up = run_writes blank c is n s up
