-- The new owner of a partition is told what the node has.
use Rattle.std.proofs.Common.{◌≡◌, refl, ap, sym, subst, ◌∙◌, ℕ, ◌+◌, ◌≤◌, ◌<◌, ◌==◌, Bool, false, List, Option, Some, arith}
use Rattle.std.specs.List.{AllByRecursion}
use Rattle.pcl_base.specs.Limits.{Sizes}
use Rattle.pcl_base.specs.declared.event.Event.{Event}
use Rattle.pcl_base.specs.declared.message.Message.{Message}
use Rattle.pcl_base.specs.declared.tx.TxId.{TxId}
use Rattle.run_rules.specs.Views.{View, since_of, owner_of}
use Rattle.node_rules.specs.InstallRule.{owned_before, left_if, send_report}
use Rattle.node_rules.specs.NodeState.{NodeState, partition, number_of}
use Rattle.node_rules.specs.OpenTxs.{held_by}
use Rattle.node_rules.specs.Reports.{report}
use Rattle.node_rules.specs.Work.{Work, with_node}
use Rattle.node_laws.proofs.Lists.{all_weaker}
use Rattle.cluster_rules.specs.Clusters.{Cluster, node_at}
use Rattle.cluster_rules.specs.Links.{link_at}
use Rattle.cluster_laws.proofs.Steps.{up_is_member_law}
use Rattle.cluster_laws.specs.Era.Eras.{era_at}
use Rattle.cluster_laws.proofs.EraParts.Ages.{era_is, eras_are_reached_law}
use Rattle.cluster_laws.proofs.EraParts.Epochs.{epoch_at}
use Rattle.cluster_laws.proofs.EraParts.Lives.{stands}
use Rattle.home_laws.specs.Homes.{IsHome}
use Rattle.cluster_laws.specs.Link.Coming.{coming}
use Rattle.cluster_laws.specs.Link.EpochLaws.{IsInOrder}
use Rattle.page_protocol.proofs.Keeps.{reached_holds}
use Rattle.page_protocol.specs.Authority.{HaveUsed}
use Rattle.page_protocol.specs.State.{Page}
use Rattle.page_protocol.specs.Steps.{Reached}
use Rattle.page_relation.specs.Homes.{KindFits, KindIn}
use Rattle.page_relation.specs.Messages.{ReportIs}
use Rattle.page_relation.specs.Tables.{ReachedBy, ReachedIn}
use Rattle.page_relation.specs.Together.{IsParty}
use Rattle.page_relation.specs.Work.Events.{IsEntered}
use Rattle.page_relation.specs.Work.Keeping.{IsWorkOf, Leads}
use Rattle.page_relation.specs.Work.Landing.{land, Acts}
use Rattle.page_relation.proofs.WorkParts.Framing.{reached_landed}
use Rattle.page_relation.proofs.WorkParts.Nodes.{at_node}
use Rattle.kept_relation.specs.Turn.Standing.{HasNext, stood}
use Rattle.kept_relation.specs.Turn.Telling.{reported_on, IsHeard, IsBack, TellIsKept}
use Rattle.kept_relation.proofs.TurnParts.Gone.{KeepsPage, related_gone, run_gone}
use Rattle.kept_relation.proofs.TurnParts.Knowing.{OnWay, NoneSent, known_coming}
use Rattle.kept_relation.proofs.TurnParts.Reporting.{MayReport, report_is_kept}
use Rattle.kept_relation.proofs.TurnParts.Said.{report_says}
use Rattle.kept_relation.proofs.TurnParts.Staying.{keeps_unowned}

module _ (c : Cluster) (e : Event) (n p : ℕ) (s j : NodeState) (v : View) (w : Work) (a : Page) (blank : List ℕ) (acts : Acts c n) (has : HasNext c n s v w.node) (order : IsInOrder c) (parties : (x y : ℕ) → AllByRecursion (IsParty c x y) (link_at c.links x y)) (none : NoneSent c p w.sends) (home : IsHome w.node.home) (heard : IsHeard c p a) (back : IsBack a n) (used : HaveUsed a n) (reached : Reached blank a) (new : since_of v (partition c.config p) ≡ v.epoch) (other : (owner_of v (partition c.config p) == n) ≡ false) (low : a.era ≤ a.reached n) (below : a.reached n < v.epoch) (late : s.epoch < v.epoch) (named : j.home.txs.node ≡ n) (keeps : KeepsPage c p v.epoch a.era j w.node) (r : IsWorkOf c e n p (with_node w j) a) where
  gone : IsWorkOf c e n p w (reported_on a n v.epoch)
  gone = related_gone c e n p v.epoch s j w a acts has.up order parties none late low below heard keeps r

  not_own : owned_before w.node.view (partition w.node.home.config p) (number_of w.node) ≡ false
  not_own =
      ap (λ (o : Option View). owned_before o (partition w.node.home.config p) (number_of w.node)) has.view
      ∙ ap (λ (z : Sizes). owner_of v (partition z p) == number_of w.node) has.config
      ∙ ap (λ (k : ℕ). owner_of v (partition c.config p) == k) has.number ∙ other

  fits : (t : TxId) → t.node ≡ n → KindFits false (held_by w.node.home.txs t p)
  fits t is = subst (λ (b : Bool). KindFits b (held_by w.node.home.txs t p)) not_own (at_node c e n acts w t.node (λ o. KindIn o t p) is (gone.homes.kinds t))

  says : ReportIs a.era (reported_on a n v.epoch).reached (reported_on a n v.epoch).listed a.right (reported_on a n v.epoch).home p n v.epoch (report (partition c.config p) w.node.home)
  says = report_says c e n p v.epoch w a blank acts low below has.config has.number home back (reached_holds blank a reached) fits gone

  era_now : era_at c (partition c.config p) w.node.epoch ≡ v.epoch
  era_now = ap (era_at c (partition c.config p)) has.epoch ∙ era_is c (s.epoch + 1) v has.next (partition c.config p) ∙ new

  may : MayReport c e n p w (reported_on a n v.epoch) (owner_of v (partition c.config p)) (report (partition c.config p) w.node.home)
  may =
      record {
        other = other;
        says = λ comes.
            subst
            (λ (k : ℕ). ReportIs a.era (reported_on a n v.epoch).reached (reported_on a n v.epoch).listed a.right (reported_on a n v.epoch).home p n k (report (partition c.config p) w.node.home)) (sym era_now)
            says;
        before = s.epoch;
        later = (let is = has.epoch in omega (arith, is));
        behind =
            all_weaker (OnWay c n s n (owner_of v (partition c.config p))) (λ (m : Message). m.epoch ≤ s.epoch) (λ m way. way.behind refl) (coming (land c e n w) p n (owner_of v (partition c.config p)))
            (known_coming c e n p s acts has.up order parties w none n (owner_of v (partition c.config p)));
      }

  pub tell_leads : Leads c e n p (λ x b. IsEntered a → IsEntered b) a (send_report (partition c.config p) (owner_of v (partition c.config p)) w)
  tell_leads =
      record {
        page = reported_on a n v.epoch;
        run = run_gone c e n p v.epoch s j w a acts has.up order parties none late low below heard keeps r used named;
        related = report_is_kept c e n p (owner_of v (partition c.config p)) (report (partition c.config p) w.node.home) w (reported_on a n v.epoch) acts may gone;
        known = λ entered. entered;
      }

-- what a node in a view has reached
pub reached_old : (c : Cluster) (e : Event) (n p : ℕ) (j : NodeState) (old : View) (w : Work) (a : Page) → Acts c n → j.view ≡ Some old → IsWorkOf c e n p (with_node w j) a
    → (a.reached n ≡ since_of old (partition c.config p)) × (a.era ≤ a.reached n)
unfolding land
reached_old c e n p j old w a acts own r =
    subst (λ (o : Option View). ReachedBy c (partition c.config p) a.era j o (a.reached n)) own
    (at_node c e n acts (with_node w j) n (λ o. ReachedIn c (partition c.config p) a.era o (a.reached n)) refl
    ((reached_landed c e n (with_node w j) (partition c.config p) a.era (a.reached n) (node_at (land c e n (with_node w j)) n)).0 (r.nodes.eras n)))

-- it is before the new view
pub old_below : (c : Cluster) (n q : ℕ) (s : NodeState) (old v : View) (x : NodeState) → Acts c n → HasNext c n s v x → s.view ≡ Some old → (since_of old q < v.epoch) × (s.epoch < v.epoch)
old_below c n q s old v x acts has own =
    let at = (stands c n s old (up_is_member_law c n s acts.cluster has.up).1 own).there in
    let same = era_is c s.epoch old at q in
    let upto = eras_are_reached_law c q s.epoch acts.cluster in
    let now = epoch_at c (s.epoch + 1) v acts.cluster has.next in
    (omega (arith, same, upto, now), omega (arith, now))

pub tell_is_kept_law : TellIsKept
tell_is_kept_law c e n p s old v w a blank acts may was has r =
    subst (λ (b : Bool). Leads c e n p (λ x b. IsEntered a → IsEntered b) a (send_report (partition c.config p) (owner_of v (partition c.config p)) (with_node w (left_if b (partition c.config p) w.node)))) (sym not_own)
    (tell_leads c e n p s j v w a blank acts may.has may.order may.parties may.none may.home may.heard may.back may.used may.reached may.new may.other eras.1 below late may.has.number keeps rel)
  where
    j : NodeState
    j = stood s.epoch s.view w.node.home.txs.born w.node

    not_own : owned_before s.view (partition c.config p) (number_of w.node) ≡ false
    not_own = ap (λ (k : ℕ). owned_before s.view (partition c.config p) k) may.has.number ∙ has.not_own

    rel : IsWorkOf c e n p (with_node w (stood s.epoch s.view w.node.home.txs.born w.node)) a
    rel = subst (λ (b : ℕ). IsWorkOf c e n p (with_node w (stood s.epoch s.view b w.node)) a) (sym was.born) r

    eras : (a.reached n ≡ since_of old (partition c.config p)) × (a.era ≤ a.reached n)
    eras = reached_old c e n p (stood s.epoch s.view w.node.home.txs.born w.node) old w a acts was.own rel

    bounds : (since_of old (partition c.config p) < v.epoch) × (s.epoch < v.epoch)
    bounds = old_below c n (partition c.config p) s old v w.node acts may.has was.own

    below : a.reached n < v.epoch
    below = let same = eras.0 in let less = bounds.0 in omega (arith, same, less)

    late : s.epoch < v.epoch
    late = bounds.1

    keeps : KeepsPage c p v.epoch a.era (stood s.epoch s.view w.node.home.txs.born w.node) w.node
    keeps =
        keeps_unowned c n p a.era s old v w.node acts may.has was.own has.not_own may.other may.new
        (let low = eras.1 in let less = below in omega (arith, low, less)) has.free
