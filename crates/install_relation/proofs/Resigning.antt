-- The owner of a partition tells the new one what it has.
use Rattle.std.proofs.Common.{◌≡◌, refl, ap, sym, subst, ◌∙◌, ℕ, ◌≤◌, ◌<◌, ◌==◌, Bool, true, false, List, eqb-true, arith}
use Rattle.pcl_base.specs.declared.event.Event.{Event}
use Rattle.run_rules.specs.Views.{View, since_of, owner_of}
use Rattle.node_rules.specs.InstallRule.{owned_before, give_up, left_if, send_report}
use Rattle.node_rules.specs.NodeState.{NodeState, partition, number_of}
use Rattle.node_rules.specs.Work.{Work, with_node}
use Rattle.cluster_rules.specs.Clusters.{Cluster}
use Rattle.home_laws.proofs.Given.{give_up_is_sound_law}
use Rattle.page_protocol.proofs.Keeps.{and_then}
use Rattle.page_protocol.specs.Eras.{falling}
use Rattle.page_protocol.specs.State.{Page}
use Rattle.page_protocol.specs.Steps.{here, then, falls, reports}
use Rattle.page_relation.specs.Work.Events.{IsEntered}
use Rattle.page_relation.specs.Work.Keeping.{IsWorkOf, Leads}
use Rattle.page_relation.specs.Work.Landing.{Acts}
use Rattle.page_relation.proofs.WorkParts.Kept.{reached_on}
use Rattle.kept_relation.specs.Turn.Standing.{stood}
use Rattle.kept_relation.specs.Turn.Telling.{GoesOn, HasTable}
use Rattle.kept_relation.proofs.TurnParts.Falling.{GivesUp, fallen, given}
use Rattle.kept_relation.proofs.TurnParts.Gone.{KeepsPage}
use Rattle.kept_relation.proofs.TurnParts.Leaving.{between, gives_up, has_after, keeps_owned}
use Rattle.kept_relation.proofs.TurnParts.Told.{reached_old, old_below}
use Rattle.install_relation.specs.Knowing.{IsHeardAt}
use Rattle.install_relation.specs.Taking.{MayTurnTo}
use Rattle.install_relation.specs.Telling.{TellsAsOwner}
use Rattle.install_relation.proofs.Told.{tell_leads, era_now_is}

module _ (c : Cluster) (e : Event) (n p : ℕ) (s : NodeState) (old v : View) (w : Work) (a : Page) (blank : List ℕ) (acts : Acts c n) (may : MayTurnTo c n p s v w a blank) (other : (owner_of v (partition c.config p) == n) ≡ false) (was : GoesOn s old w) (has : HasTable c n p s w) (r : IsWorkOf c e n p (with_node w (stood s.epoch s.view w.node.home.txs.born w.node)) a) where
  abbrev left : Work
  left = with_node w (give_up (partition c.config p) w.node)

  eras : (a.reached n ≡ since_of old (partition c.config p)) × (a.era ≤ a.reached n)
  eras = reached_old c e n p (stood s.epoch s.view w.node.home.txs.born w.node) old w a acts was.own r

  bounds : (since_of old (partition c.config p) < v.epoch) × (s.epoch < v.epoch)
  bounds = old_below c n (partition c.config p) s old v w.node acts may.has was.own

  below : a.reached n < v.epoch
  below = let same = eras.0 in let less = bounds.0 in omega (arith, same, less)

  heard : IsHeardAt c n p (a.reached n)
  heard = subst (IsHeardAt c n p) (era_now_is c (partition c.config p) n s old acts may.has.up was.own ∙ sym eras.0) may.heard

  upto : a.era ≤ v.epoch
  upto = let low = eras.1 in let less = below in omega (arith, low, less)

  gives : GivesUp c p (stood s.epoch s.view w.node.home.txs.born w.node) (between c n p a.era s old v w.node acts may.has was.own has.owned other may.new upto has.place)
  gives = gives_up c n p a.era s old v w.node acts may.has was.own has.owned other may.new upto has.place

  keeps : KeepsPage c p v.epoch a.era (between c n p a.era s old v w.node acts may.has was.own has.owned other may.new upto has.place) (give_up (partition c.config p) w.node)
  keeps = keeps_owned c n p a.era s old v w.node acts may.has was.own has.owned other may.new upto has.place

  -- another one serves
  leads_given : (n == a.owner) ≡ false → Leads c e n p (λ x b. IsEntered a → IsEntered b) a (send_report (partition c.config p) (owner_of v (partition c.config p)) left)
  leads_given not_owner =
      tell_leads c e n p s (between c n p a.era s old v w.node acts may.has was.own has.owned other may.new upto has.place) v left a blank acts
      (has_after c n p a.era s old v w.node acts may.has was.own has.owned other may.new upto has.place) may.order may.parties may.none
      (give_up_is_sound_law (partition c.config p) w.node may.home).1 heard may.reached may.new other eras.1 below bounds.1 may.has.number keeps
      (given c e n p (stood s.epoch s.view w.node.home.txs.born w.node) (between c n p a.era s old v w.node acts may.has was.own has.owned other may.new upto has.place) w a acts gives r
      not_owner)
      a (then here (reports n v.epoch eras.1 below may.used))

  -- it is the one that serves
  leads_fallen : n ≡ a.owner → Leads c e n p (λ x b. IsEntered (falling a) → IsEntered b) (falling a) (send_report (partition c.config p) (owner_of v (partition c.config p)) left)
  unfolding falling
  leads_fallen owner =
      tell_leads c e n p s (between c n p a.era s old v w.node acts may.has was.own has.owned other may.new upto has.place) v left (falling a) blank acts
      (has_after c n p a.era s old v w.node acts may.has was.own has.owned other may.new upto has.place) may.order may.parties may.none
      (give_up_is_sound_law (partition c.config p) w.node may.home).1 heard (reached_on blank a (falling a) may.reached (then here falls)) may.new other eras.1 below bounds.1
      may.has.number keeps
      (fallen c e n p (stood s.epoch s.view w.node.home.txs.born w.node) (between c n p a.era s old v w.node acts may.has was.own has.owned other may.new upto has.place) w a acts gives r
      owner)
      (falling a) (then here (reports n v.epoch eras.1 below may.used))

  entered_fallen : IsEntered (falling a)
  unfolding falling
  entered_fallen x dirty there = absurd (cc)

  pub leads_left : Leads c e n p (λ x b. IsEntered a → IsEntered b) a (send_report (partition c.config p) (owner_of v (partition c.config p)) left)
  leads_left = by (n == a.owner) refl
    where
      by : (b : Bool) → (n == a.owner) ≡ b → Leads c e n p (λ x b. IsEntered a → IsEntered b) a (send_report (partition c.config p) (owner_of v (partition c.config p)) left)
      by true owner =
          let l = leads_fallen (eqb-true n a.owner owner) in
          record { page = l.page; run = and_then (then here falls) l.run; related = l.related; known = λ entered. l.known entered_fallen }
      by false other = leads_given other

pub tells_as_owner_law : TellsAsOwner
tells_as_owner_law c e n p s old v w a blank acts may other was has r =
    subst (λ (b : Bool). Leads c e n p (λ x b. IsEntered a → IsEntered b) a (send_report (partition c.config p) (owner_of v (partition c.config p)) (with_node w (left_if b (partition c.config p) w.node)))) (sym owned)
    (leads_left c e n p s old v w a blank acts may other was has (subst (λ (b : ℕ). IsWorkOf c e n p (with_node w (stood s.epoch s.view b w.node)) a) (sym was.born) r))
  where
    owned : owned_before s.view (partition c.config p) (number_of w.node) ≡ true
    owned = ap (λ (k : ℕ). owned_before s.view (partition c.config p) k) may.has.number ∙ has.owned
