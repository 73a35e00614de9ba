-- A node gets the page's partition: the machine's run, and the relation with the new table.
use Rattle.std.proofs.Common.{◌≡◌, refl, ap, sym, subst, ◌∙◌, ℕ, ◌+◌, ◌≤◌, ◌<◌, false, List, Option, Some, None, arith}
use Rattle.pcl_base.specs.Limits.{Sizes}
use Rattle.pcl_base.specs.declared.event.Event.{Event}
use Rattle.pcl_base.specs.declared.lock.Waiter.{Waiter}
use Rattle.pcl_base.specs.declared.lock.Kind.TheVariants as kind
use Rattle.run_rules.specs.Views.{View, since_of}
use Rattle.node_rules.specs.InstallRule.{owned_before}
use Rattle.node_rules.specs.LockTable.{entry_at}
use Rattle.node_rules.specs.NodeState.{NodeState, number_of, partition}
use Rattle.node_rules.specs.Shelf as rules
use Rattle.node_rules.specs.Shelf.{right_on}
use Rattle.node_rules.specs.Work.{Work, with_node}
use Rattle.node_laws.proofs.Lists.{all_weaker}
use Rattle.cluster_rules.specs.Clusters.{Cluster}
use Rattle.cluster_laws.proofs.Steps.{up_is_member_law}
use Rattle.cluster_laws.specs.Era.Eras.{era_at, era_in}
use Rattle.cluster_laws.proofs.EraParts.Ages.{era_is, eras_are_reached_law}
use Rattle.cluster_laws.proofs.EraParts.Epochs.{epoch_at}
use Rattle.cluster_laws.proofs.EraParts.Lives.{stands}
use Rattle.page_laws.specs.Look.Ends.{version_of_right}
use Rattle.page_laws.proofs.LookParts.Granting.{spending_is_seen_law}
use Rattle.page_protocol.proofs.GivenBack.{in_time}
use Rattle.page_protocol.proofs.Keeps.{and_then}
use Rattle.page_protocol.specs.Authority.{spending}
use Rattle.page_protocol.specs.Eras.{joining, reporting}
use Rattle.page_protocol.specs.State.{Page, Right, NoRight, Flying, Shelf, Returning, Dead}
use Rattle.page_protocol.specs.Steps.{Run, Reached, Step, here, then, reports}
use Rattle.page_relation.specs.Looks.{shelf_in, shelf_of}
use Rattle.page_relation.specs.Messages.{CountsFor}
use Rattle.page_relation.specs.Relation.{on_shelf}
use Rattle.page_relation.specs.Work.Events.{IsEntered}
use Rattle.page_relation.specs.Work.Keeping.{IsWorkOf, Leads}
use Rattle.page_relation.specs.Work.Landing.{Acts}
use Rattle.page_relation.specs.Work.Spending.{spent}
use Rattle.page_relation.proofs.WorkParts.Kept.{reached_on}
use Rattle.page_relation.proofs.WorkParts.Nodes.{at_node}
use Rattle.page_relation.proofs.WorkParts.Spending.{shelf_is}
use Rattle.kept_relation.specs.Turn.Getting.{IsTurned}
use Rattle.kept_relation.specs.Turn.Standing.{stood}
use Rattle.kept_relation.specs.Turn.Telling.{GoesOn, reported_on}
use Rattle.kept_relation.proofs.TurnParts.Bounding.{bounded, step_bounded, related_bounded, low_bounded}
use Rattle.kept_relation.proofs.TurnParts.Gone.{KeepsPage}
use Rattle.kept_relation.proofs.TurnParts.Spent.{right_here}
use Rattle.kept_relation.proofs.TurnParts.Told.{reached_old, old_below}
use Rattle.kept_relation.proofs.TurnParts.Turning.{turning_is_step_law, spent_standing}
use Rattle.install_relation.specs.Knowing.{IsHeardAt}
use Rattle.install_relation.specs.Taking.{owning, taken, MayTurnTo, Gets, GettingIsKept, GettingFirstIsKept}
use Rattle.install_relation.proofs.Gone.{related_gone, run_gone}
use Rattle.install_relation.proofs.Ready.{ready_on, ready_spent, ready_first}
use Rattle.install_relation.proofs.Rebuilding.{rebuilt, unserved}
use Rattle.install_relation.proofs.Tabled.{table_new}
use Rattle.install_relation.proofs.Taking.{IsReady, keeps_taken}

-- a node with nothing on its shelf has no right that counts for its next era
pub counts_not : (c : Cluster) (e : Event) (n p next : ℕ) (j : NodeState) (w : Work) (a : Page) (blank : List ℕ) → Acts c n → Reached blank a → a.reached n < next → right_on j.home.shelf p ≡ None
    → IsWorkOf c e n p (with_node w j) a → CountsFor next (a.right n) → ⊥
unfolding shelf_of
counts_not c e n p next j w a blank acts reached below none r counts = by (a.right n) refl counts
  where
    shelf : shelf_in (Some j) p ≡ on_shelf (a.right n)
    shelf = at_node c e n acts (with_node w j) n (λ o. shelf_in o p ≡ on_shelf (a.right n)) refl (r.nodes.shelves n)

    by : (x : Right) → a.right n ≡ x → CountsFor next x → ⊥
    by NoRight is k = k
    by (Flying g) is k = k
    by (Shelf v) is k = (let bad : (let o : Option ℕ = None in o) ≡ Some v = sym (ap version_of_right none) ∙ shelf ∙ ap on_shelf is in absurd (cc))
    by (Returning upto readers) is k = (let most = in_time blank a reached n upto readers is in absurd (omega (arith, most, below, k)))
    by Dead is k = k

-- who is heard at an era is so at one as late
pub heard_by : (c : Cluster) (n p r x : ℕ) → r ≤ x → IsHeardAt c n p r → IsHeardAt c n p x
heard_by c n p r x le heard m y t at there =
    all_weaker (λ (k : Waiter). k.tx.node ≡ n → era_in y.view (partition c.config p) ≤ r) (λ (k : Waiter). k.tx.node ≡ n → era_in y.view (partition c.config p) ≤ x)
    (λ k low is. (let one = low is in omega (arith, one, le))) (entry_at t p).waiting (heard m y t at there)

-- the node once it has no right left, from a state of the machine in which it goes on to the era
module _ (c : Cluster) (e : Event) (n p : ℕ) (s : NodeState) (v : View) (w : Work) (z a : Page) (j : NodeState) (acts : Acts c n) (b : Page) (blank : List ℕ) (may : MayTurnTo c n p s v w b blank) (gets : Gets c n p s v w) (late : s.epoch < v.epoch) (low : a.era ≤ a.reached n) (below : a.reached n < v.epoch) (heard : IsHeardAt c n p (a.reached n)) (uncounted : CountsFor v.epoch (a.right n) → ⊥) (number : j.home.txs.node ≡ n) (ready : IsReady c p j w.node) (first : Run z (reporting a n v.epoch)) (r : IsWorkOf c e n p (with_node w j) a) where
  abbrev q : ℕ
  q = partition c.config p

  abbrev over : Work
  over = with_node w (owning q w.node)

  upto : a.era ≤ v.epoch
  upto = omega (arith, low, below)

  keeps : KeepsPage c p v.epoch a.era j (owning q w.node)
  keeps = keeps_taken c n p a.era s v j w.node may.has gets.owner may.new upto ready

  gone : IsWorkOf c e n p over (reported_on a n v.epoch)
  gone = related_gone c e n p v.epoch s j over a acts may.has.up may.order may.parties may.none late low below heard keeps r

  pub taken_leads : Leads c e n p (λ x b. IsEntered a → IsEntered b) z (taken q w)
  taken_leads =
      record {
        page = reported_on a n v.epoch;
        run = run_gone c e n p v.epoch s j over a acts may.has.up may.order may.parties may.none late low below heard keeps r z number first;
        related =
            table_new c e n p acts _ over (reported_on a n v.epoch) gets.place gets.free (unserved c e n p s v w a acts may.has gets.owner may.new low below may.home uncounted gone)
            (rebuilt c e n p s v w a acts may.has gets.owner may.new low below may.home uncounted gone) gone;
        known = λ entered. entered;
      }

-- ---- a node that goes on

module _ (c : Cluster) (e : Event) (n p : ℕ) (s : NodeState) (old v : View) (w : Work) (a : Page) (blank : List ℕ) (acts : Acts c n) (may : MayTurnTo c n p s v w a blank) (was : GoesOn s old w) (gets : Gets c n p s v w) (r : IsWorkOf c e n p (with_node w (stood s.epoch s.view w.node.home.txs.born w.node)) a) where
  abbrev before : NodeState
  before = stood s.epoch s.view w.node.home.txs.born w.node

  abbrev still : Work
  still = with_node w before

  eras : (a.reached n ≡ since_of old (partition c.config p)) × (a.era ≤ a.reached n)
  eras = reached_old c e n p before old w a acts was.own r

  bounds : (since_of old (partition c.config p) < v.epoch) × (s.epoch < v.epoch)
  bounds = old_below c n (partition c.config p) s old v w.node acts may.has was.own

  below : a.reached n < v.epoch
  below = let same = eras.0 in let less = bounds.0 in omega (arith, same, less)

  same_era : era_at c (partition c.config p) s.epoch ≡ a.reached n
  same_era =
      era_is c s.epoch old (stands c n s old (up_is_member_law c n s acts.cluster may.has.up).1 was.own).there (partition c.config p) ∙ sym eras.0

  heard : IsHeardAt c n p (a.reached n)
  heard = subst (IsHeardAt c n p) same_era may.heard

  -- with no right
  leads_on : right_on w.node.home.shelf p ≡ None → Leads c e n p (λ x b. IsEntered a → IsEntered b) a (taken (partition c.config p) w)
  leads_on none =
      taken_leads c e n p s v w a a before acts a blank may gets bounds.1 eras.1 below heard (counts_not c e n p v.epoch before w a blank acts may.reached below none r) may.has.number
      (ready_on c n p s old v w.node acts may.has was.own may.home gets.free none) (then here (reports n v.epoch eras.1 below may.used)) r

  -- with one, which it turns
  module _ (k : rules.Right) (there : right_on w.node.home.shelf p ≡ Some k) where
    not_own : owned_before before.view (partition before.home.config p) (number_of before) ≡ false
    not_own =
        ap (λ (z : Sizes). owned_before s.view (partition z p) (number_of w.node)) may.has.config
        ∙ ap (λ (m : ℕ). owned_before s.view (partition c.config p) m) may.has.number ∙ gets.not_own

    turned : IsTurned c e n p v.epoch still a k
    turned =
        turning_is_step_law c e n p v.epoch still a k acts (record { home = may.home; right = there; not_own = not_own; not_past = eras.1; before = below; used = may.used }) r

    leads_turned : Leads c e n p (λ x b. IsEntered a → IsEntered b) a (taken (partition c.config p) w)
    unfolding spending
    leads_turned =
        taken_leads c e n p s v w a (spending a n v.epoch k.readers) (spent p still).node acts a blank may gets bounds.1 eras.1 below heard
        (λ counts. absurd (let less = subst (CountsFor v.epoch) (right_here v.epoch a n k.version k.readers (shelf_is c e n p still a k acts there r)) counts in omega (arith, less)))
        ((spent_standing p still (spending_is_seen_law kind.Registered p w.node.home may.home)).number ∙ may.has.number)
        (ready_spent c n p s old v w.node acts may.has was.own may.home gets.free w) (then here turned.step) turned.related

  pub leads_gets : Leads c e n p (λ x b. IsEntered a → IsEntered b) a (taken (partition c.config p) w)
  leads_gets = by (right_on w.node.home.shelf p) refl
    where
      by : (o : Option rules.Right) → right_on w.node.home.shelf p ≡ o → Leads c e n p (λ x b. IsEntered a → IsEntered b) a (taken (partition c.config p) w)
      by None none = leads_on none
      by (Some k) there = leads_turned k there

pub getting_is_kept_law : GettingIsKept
getting_is_kept_law c e n p s old v w a blank acts may was gets r =
    leads_gets c e n p s old v w a blank acts may was gets (subst (λ (b : ℕ). IsWorkOf c e n p (with_node w (stood s.epoch s.view b w.node)) a) (sym was.born) r)

-- ---- one that begins its life

pub getting_first_is_kept_law : GettingFirstIsKept
unfolding joining
getting_first_is_kept_law c e n p s v w a blank acts may first gets none r =
    record { page = led.page; run = and_then (then here step) led.run; related = led.related; known = led.known }
  where
    era : ℕ
    era = era_at c (partition c.config p) s.epoch

    at : Page
    at = bounded c e n p s v w a acts may.has first r

    step : Step a at
    step = step_bounded c e n p s v w a acts may.has first r

    lows : (at.era ≤ at.reached n) × (at.reached n ≡ era)
    lows = low_bounded c e n p s v w a acts may.has first r

    below : at.reached n < v.epoch
    below =
        let same = lows.1 in
        let upto = eras_are_reached_law c (partition c.config p) s.epoch acts.cluster in
        let now = epoch_at c (s.epoch + 1) v acts.cluster may.has.next in
        omega (arith, same, upto, now)

    late : s.epoch < v.epoch
    late = let now = epoch_at c (s.epoch + 1) v acts.cluster may.has.next in omega (arith, now)

    before : NodeState
    before = stood s.epoch s.view s.home.txs.born w.node

    led : Leads c e n p (λ x b. IsEntered at → IsEntered b) at (taken (partition c.config p) w)
    led =
        taken_leads c e n p s v w at at before acts a blank may gets late lows.0 below (subst (IsHeardAt c n p) (sym lows.1) may.heard)
        (counts_not c e n p v.epoch before w at blank acts (reached_on blank a at may.reached (then here step)) below none (related_bounded c e n p s v w a acts may.has first r)) may.has.number
        (ready_first c n p s v w acts may.has first none) (then here (reports n v.epoch lows.0 below may.used)) (related_bounded c e n p s v w a acts may.has first r)
