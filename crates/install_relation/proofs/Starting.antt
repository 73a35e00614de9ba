-- A node that begins its life tells the new owner of a partition that it has nothing.
use Rattle.std.proofs.Common.{◌≡◌, refl, ap, sym, subst, ℕ, ◌+◌, ◌<◌, ◌==◌, Bool, false, List, Option, arith}
use Rattle.pcl_base.specs.declared.event.Event.{Event}
use Rattle.run_rules.specs.Views.{View, owner_of}
use Rattle.node_rules.specs.InstallRule.{owned_before, left_if, send_report}
use Rattle.node_rules.specs.LockTable.{LockTable}
use Rattle.node_rules.specs.NodeState.{NodeState, partition, is_serving, number_of}
use Rattle.node_rules.specs.Work.{Work, with_node}
use Rattle.cluster_rules.specs.Clusters.{Cluster}
use Rattle.cluster_laws.specs.Era.Eras.{era_at}
use Rattle.cluster_laws.proofs.EraParts.Ages.{eras_are_reached_law}
use Rattle.cluster_laws.proofs.EraParts.Epochs.{epoch_at}
use Rattle.page_protocol.proofs.Keeps.{and_then}
use Rattle.page_protocol.specs.Eras.{joining}
use Rattle.page_protocol.specs.State.{Page}
use Rattle.page_protocol.specs.Steps.{here, then, reports}
use Rattle.page_relation.specs.Tables.{ReachedBy}
use Rattle.page_relation.specs.Work.Events.{IsEntered}
use Rattle.page_relation.specs.Work.Keeping.{IsWorkOf, Leads}
use Rattle.page_relation.specs.Work.Landing.{Acts}
use Rattle.page_relation.proofs.WorkParts.Kept.{reached_on}
use Rattle.kept_relation.specs.Turn.Standing.{stood, as_before}
use Rattle.kept_relation.specs.Turn.Telling.{Begins}
use Rattle.kept_relation.proofs.TurnParts.Bounding.{bounded, limits, step_bounded, related_bounded, low_bounded}
use Rattle.kept_relation.proofs.TurnParts.Gone.{KeepsPage}
use Rattle.kept_relation.proofs.TurnParts.Joining.{stands_on, kind_on}
use Rattle.kept_relation.proofs.TurnParts.Narrowing.{counts_unborn}
use Rattle.install_relation.specs.Knowing.{IsHeardAt}
use Rattle.install_relation.specs.Taking.{MayTurnTo}
use Rattle.install_relation.specs.Telling.{TellsFirst}
use Rattle.install_relation.proofs.Told.{tell_leads}

module _ (c : Cluster) (e : Event) (n p : ℕ) (s : NodeState) (v : View) (w : Work) (a : Page) (blank : List ℕ) (acts : Acts c n) (may : MayTurnTo c n p s v w a blank) (other : (owner_of v (partition c.config p) == n) ≡ false) (first : Begins c p s w) (r : IsWorkOf c e n p (as_before s w) a) where
  epoch_is : v.epoch ≡ s.epoch + 1
  epoch_is = epoch_at c (s.epoch + 1) v acts.cluster may.has.next

  era_less : era_at c (partition c.config p) s.epoch < v.epoch
  era_less = let upto = eras_are_reached_law c (partition c.config p) s.epoch acts.cluster in let now = epoch_is in omega (arith, upto, now)

  late : s.epoch < v.epoch
  late = let now = epoch_is in omega (arith, now)

  keeps_first : KeepsPage c p v.epoch a.era (stood s.epoch s.view s.home.txs.born w.node) w.node
  keeps_first =
      record {
        stands = λ last t h fits is. stands_on c e n p s v w acts may.has first.none first.empty first.born first.free last t h is;
        kinds = λ t fits. kind_on c e n p s v w acts may.has first.none first.empty first.born first.free t;
        bytes = λ t. refl;
        runs = λ t. refl;
        slot = refl;
        dirty = refl;
        shelf = refl;
        free = first.free;
        unserved = ap (λ (o : Option LockTable). is_serving o) first.free;
        reached =
            subst (λ (o : Option View). ReachedBy c (partition c.config p) a.era w.node o v.epoch) (sym may.has.view)
            (sym may.new, (let low = (limits c e n p s v w a acts may.has first r).1 in let less = era_less in omega (arith, low, less)));
        counts = λ from epoch. counts_unborn c n s v w.node acts may.has s.home.txs.born from (partition c.config p) epoch first.none;
      }

  below : (bounded c e n p s v w a acts may.has first r).reached n < v.epoch
  below = let same = (low_bounded c e n p s v w a acts may.has first r).1 in let less = era_less in omega (arith, same, less)

  leads_bounded : Leads c e n p (λ x b. IsEntered a → IsEntered b) (bounded c e n p s v w a acts may.has first r) (send_report (partition c.config p) (owner_of v (partition c.config p)) w)
  unfolding joining
  leads_bounded =
      tell_leads c e n p s (stood s.epoch s.view s.home.txs.born w.node) v w (bounded c e n p s v w a acts may.has first r) blank acts may.has may.order may.parties may.none may.home
      (subst (IsHeardAt c n p) (sym (low_bounded c e n p s v w a acts may.has first r).1) may.heard)
      (reached_on blank a (bounded c e n p s v w a acts may.has first r) may.reached (then here (step_bounded c e n p s v w a acts may.has first r))) may.new other
      (low_bounded c e n p s v w a acts may.has first r).0 below late may.has.number keeps_first (related_bounded c e n p s v w a acts may.has first r)
      (bounded c e n p s v w a acts may.has first r) (then here (reports n v.epoch (low_bounded c e n p s v w a acts may.has first r).0 below may.used))

  pub leads_first : Leads c e n p (λ x b. IsEntered a → IsEntered b) a (send_report (partition c.config p) (owner_of v (partition c.config p)) w)
  leads_first =
      let l = leads_bounded in
      record { page = l.page; run = and_then (then here (step_bounded c e n p s v w a acts may.has first r)) l.run; related = l.related; known = l.known }

pub tells_first_law : TellsFirst
tells_first_law c e n p s v w a blank acts may other first r =
    subst (λ (b : Bool). Leads c e n p (λ x b. IsEntered a → IsEntered b) a (send_report (partition c.config p) (owner_of v (partition c.config p)) (with_node w (left_if b (partition c.config p) w.node)))) (sym not_own)
    (leads_first c e n p s v w a blank acts may other first r)
  where
    not_own : owned_before s.view (partition c.config p) (number_of w.node) ≡ false
    not_own = ap (λ (o : Option View). owned_before o (partition c.config p) (number_of w.node)) first.none
