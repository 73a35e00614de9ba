-- Through every step who waits at a table of an era is of a node that has reached that era.
use Rattle.std.proofs.Common.{◌≡◌, ◌⊎◌, inl, inr, refl, sym, ap, subst, ◌∙◌, ℕ, ◌+◌, ◌<◌, ◌≤◌, ◌==◌, not, Bool, true, false, Option, Some, None, is_some, replicate, arith}
use Rattle.std.specs.Prelude.{IfSome}
use Rattle.std.proofs.lemmas.Bool.Decides.{nat_tests}
use Rattle.pcl_base.specs.Limits.{Sizes}
use Rattle.pcl_base.specs.declared.event.Event.{Event}
use Rattle.pcl_base.specs.declared.lock.Verdict.TheVariants as verdict
use Rattle.pcl_base.specs.declared.message.Body.{Body}
use Rattle.pcl_base.specs.declared.message.Body.TheVariants as body
use Rattle.pcl_base.specs.declared.message.Message.{Message}
use Rattle.pcl_base.specs.declared.message.ReportWait.{ReportWait}
use Rattle.pcl_base.specs.declared.reply.Reason.{Reason}
use Rattle.pcl_base.specs.declared.reply.Reason.TheVariants as reason
use Rattle.pcl_base.specs.declared.tx.TxId.{TxId}
use Rattle.run_rules.specs.Views.{View, since_of, owner_of, first}
use Rattle.node_rules.specs.InstallRule.{owned_before}
use Rattle.node_rules.specs.Judging.{judge}
use Rattle.node_rules.specs.LockTable.{LockTable, open_table}
use Rattle.node_rules.specs.NodeState.{NodeState, NodeEvent, first_node, start_node, number_of, table_at, partition}
use Rattle.node_rules.specs.NodeState as node
use Rattle.node_rules.specs.NodeStep.{Plan, partition_of, judge_in}
use Rattle.node_rules.specs.Refusals.{refuse_if, may_install, refusal}
use Rattle.node_rules.specs.Words.{pick}
use Rattle.node_laws.specs.Nodes.{IsViewOf}
use Rattle.node_laws.proofs.Lists.{all_weaker, set_look}
use Rattle.node_laws.proofs.Views.{moved_of}
use Rattle.cluster_rules.specs.Clusters.{Cluster, opening, node_at, last_view}
use Rattle.cluster_rules.specs.ClusterStep.{step}
use Rattle.cluster_rules.specs.Links.{link_at, head_at}
use Rattle.cluster_laws.specs.Epochs.{StaysInView, HasInstalled}
use Rattle.cluster_laws.specs.Handed.{IsHanded}
use Rattle.cluster_laws.specs.Laws.{IsGoodPlan}
use Rattle.cluster_laws.specs.Sound.{IsMember, IsCluster}
use Rattle.cluster_laws.proofs.Epochs.{steps_keep_views_law}
use Rattle.cluster_laws.proofs.Lists.{look_counted, look_same}
use Rattle.cluster_laws.proofs.Steps.{up_is_member_law, plans_are_good_law}
use Rattle.cluster_laws.specs.Era.Eras.{era_in, era_at}
use Rattle.cluster_laws.proofs.EraParts.Ages.{steps_keep_eras_law, eras_never_fall_law}
use Rattle.cluster_laws.specs.Link.EpochLaws.{IsInOrder}
use Rattle.cluster_laws.specs.Link.StepLaws.{IsPlanned, IsNodeStep, node_stays, node_acts, node_lost, node_starts}
use Rattle.cluster_laws.proofs.LinkParts.Nodes.{nodes_step_law}
use Rattle.cluster_laws.proofs.LinkParts.Rising.{epochs_go_on_law}
use Rattle.page_relation.specs.Together.{IsOf, PartiesAre, IsParty}
use Rattle.related_runs.specs.Parties.{HaveParties}
use Rattle.related_runs.proofs.Waiters.{TableWaits, open_waits}
use Rattle.cluster_facts.specs.Waiting.Reached.{HasReached, TablesReached, OpeningHasReached, StepsKeepReached}
use Rattle.cluster_facts.proofs.WaitingParts.Coming.{head_all, delivered, view_era, view_low, sender_reached}
use Rattle.cluster_facts.proofs.WaitingParts.Redoing.{table_weaker}
use Rattle.cluster_facts.proofs.WaitingParts.Stepping.{NodeWaits, Brings, Hears, Stays, plans_wait}

-- ---- a step
module _ (c : Cluster) (e : Event) (i : IsCluster c) where
  member_of : (n : ℕ) (s : NodeState) → node_at c n ≡ Some s → IsMember c.config c.views n s
  member_of n s up = (up_is_member_law c n s i up).1

  eras : (k q : ℕ) → k ≤ (last_view c).epoch → era_at (step c e) q k ≡ era_at c q k
  eras k q low = (steps_keep_eras_law c e k i low).eras q

  -- a node that is up has reached an era, and has it after the step
  carry : (era q n : ℕ) → era ≤ era_at c q (last_view c).epoch → IfSome (node_at c n) (λ (s : NodeState). era ≤ era_at c q s.epoch)
      → IfSome (node_at (step c e) n) (λ (s : NodeState). era ≤ era_at (step c e) q s.epoch)
  unfolding start_node
  carry era q n low is = by (nodes_step_law c e n i)
    where
      here : (o : Option NodeState) → node_at c n ≡ o → IfSome o (λ (s : NodeState). era ≤ era_at c q s.epoch) → IfSome o (λ (s : NodeState). era ≤ era_at (step c e) q s.epoch)
      here None up k = tt
      here (Some s) up k = subst (λ (x : ℕ). era ≤ x) (sym (eras s.epoch q (member_of n s up).reached)) k

      acts : (s : NodeState) (ev : NodeEvent) (p : Plan) → IsPlanned c e n s ev p → era ≤ era_at (step c e) q p.node.epoch
      acts s ev p planned =
          subst (λ (x : ℕ). era ≤ x) (sym (eras p.node.epoch q good.member.reached))
          (let on = eras_never_fall_law c q s.epoch p.node.epoch i (rises (epochs_go_on_law c e n s ev p i planned)) good.member.reached in
          omega (arith, before, on))
        where
          good : IsGoodPlan c n s ev p
          good = plans_are_good_law c e n s ev p i planned.handed planned.goes

          before : era ≤ era_at c q s.epoch
          before = subst (λ (o : Option NodeState). IfSome o (λ (s : NodeState). era ≤ era_at c q s.epoch)) planned.handed.up is

          rises : StaysInView s p.node ⊎ (s.epoch < p.node.epoch) → s.epoch ≤ p.node.epoch
          rises (inl x) = subst (λ (k : ℕ). s.epoch ≤ k) (sym x.epoch) (omega arith)
          rises (inr x) = omega (arith, x)

      by : IsNodeStep c e n (node_at (step c e) n) → IfSome (node_at (step c e) n) (λ (s : NodeState). era ≤ era_at (step c e) q s.epoch)
      by (node_stays now) = subst (λ (o : Option NodeState). IfSome o (λ (s : NodeState). era ≤ era_at (step c e) q s.epoch)) (sym now) (here (node_at c n) refl is)
      by (node_acts s ev p planned now) = subst (λ (o : Option NodeState). IfSome o (λ (s : NodeState). era ≤ era_at (step c e) q s.epoch)) (sym now) (acts s ev p planned)
      by (node_lost now) = subst (λ (o : Option NodeState). IfSome o (λ (s : NodeState). era ≤ era_at (step c e) q s.epoch)) (sym now) tt
      by (node_starts now down) =
          subst (λ (o : Option NodeState). IfSome o (λ (s : NodeState). era ≤ era_at (step c e) q s.epoch)) (sym now)
          (subst (λ (x : ℕ). era ≤ x) (sym (eras (last_view c).epoch q (omega arith))) low)

  -- the same of a waiting transaction, in a view of the same era
  turned : (o w : Option View) (q : ℕ) (t : TxId) → era_in w q ≡ era_in o q → era_in o q ≤ era_at c q (last_view c).epoch → HasReached c o q t → HasReached (step c e) w q t
  turned o w q t same low is =
      subst (λ (k : ℕ). IfSome (node_at (step c e) t.node) (λ (s : NodeState). k ≤ era_at (step c e) q s.epoch)) (sym same) (carry (era_in o q) q t.node low is)

  -- tables of a node that doesn't act
  stays : (n : ℕ) (s : NodeState) → node_at c n ≡ Some s → TablesReached c s → TablesReached (step c e) s
  stays n s up tables q low = by (table_at s q) (tables q low)
    where
      by : (o : Option LockTable) → IfSome o (TableWaits (HasReached c s.view q)) → IfSome o (TableWaits (HasReached (step c e) s.view q))
      by None is = tt
      by (Some t) is =
          table_weaker (HasReached c s.view q) (HasReached (step c e) s.view q) (λ x k. turned s.view s.view q x refl (view_low c i n s (member_of n s up) q) k) t is

  module _ (order : IsInOrder c) (parties : HaveParties c) (n : ℕ) (s : NodeState) (ev : NodeEvent) (p : Plan) (planned : IsPlanned c e n s ev p) (now : node_at (step c e) n ≡ Some p.node) (tables : TablesReached c s) where
    up : node_at c n ≡ Some s
    up = planned.handed.up

    member : IsMember c.config c.views n s
    member = member_of n s up

    good : IsGoodPlan c n s ev p
    good = plans_are_good_law c e n s ev p i planned.handed planned.goes

    -- of the tables before the step, which are there only in a view
    abbrev Before : ℕ → TxId → Type 0
    Before q t = (is_some s.view ≡ true) × HasReached c s.view q t

    abbrev After : ℕ → TxId → Type 0
    After q t = HasReached (step c e) p.node.view q t

    in_view : (q : ℕ) → q < s.home.config.nodes → (t : LockTable) → table_at s q ≡ Some t → is_some s.view ≡ true
    in_view q low t at = by s.view (sym (member.sound.owned q low) ∙ ap (λ (o : Option LockTable). is_some o) at)
      where
        by : (o : Option View) → owned_before o q (number_of s) ≡ true → is_some o ≡ true
        by None is = is
        by (Some v) is = refl

    before : NodeWaits Before s
    before q low = by (table_at s q) refl (tables q low)
      where
        by : (o : Option LockTable) → table_at s q ≡ o → IfSome o (TableWaits (HasReached c s.view q)) → IfSome o (TableWaits (Before q))
        by None at is = tt
        by (Some t) at is = table_weaker (HasReached c s.view q) (Before q) (λ x k. (in_view q low t at, k)) t is

    own : (q : ℕ) (t : TxId) → t.node ≡ number_of s → After q t
    own q t of =
        subst (λ (k : ℕ). IfSome (node_at (step c e) k) (λ (r : NodeState). era_in p.node.view q ≤ era_at (step c e) q r.epoch)) (sym (of ∙ member.number))
        (subst (λ (o : Option NodeState). IfSome o (λ (r : NodeState). era_in p.node.view q ≤ era_at (step c e) q r.epoch)) (sym now)
        (subst (λ (k : ℕ). era_in p.node.view q ≤ k) (sym (eras p.node.epoch q good.member.reached)) (view_era c i n p.node good.member q)))

    -- the view stays
    same_view : StaysInView s p.node → (q : ℕ) (t : TxId) → HasReached c s.view q t → After q t
    same_view x q t is = turned s.view p.node.view q t (ap (λ (o : Option View). era_in o q) x.view) (view_low c i n s member q) is

    -- a further view, where the era of the partition stays
    old_era : (x : HasInstalled s ev p.node) (q : ℕ) → q < s.home.config.nodes → Stays ev q → is_some s.view ≡ true → era_in p.node.view q ≡ era_in s.view q
    old_era x q low stay there = ap (λ (o : Option View). era_in o q) x.view ∙ by s.view refl there
      where
        old : (since_of x.next q == x.next.epoch) ≡ false
        old = subst (λ (k : NodeEvent). Stays k q) x.asked stay

        kept : (u : View) → s.view ≡ Some u → (b : Bool) → since_of x.next q ≡ pick b (since_of u q) x.next.epoch → since_of x.next q ≡ since_of u q
        kept u at true is = is
        kept u at false is = absurd (grind (arith, nat_tests, is, old))

        by : (o : Option View) → s.view ≡ o → is_some o ≡ true → since_of x.next q ≡ era_in o q
        by None at some = absurd (cc)
        by (Some u) at some =
            let of : IsViewOf s u = subst (λ (o : Option View). IfSome o (IsViewOf s)) at member.sound.view in
            let moved = moved_of s.home.config u x.next of.whole (subst (λ (o : Option View). may_install s o x.next ≡ true) at x.allowed) in
            kept u at (owner_of u q == owner_of x.next q) (moved.since q (subst (λ (k : ℕ). q < k) (sym of.whole.since) low))

    on : (q : ℕ) (t : TxId) → q < s.home.config.nodes → Stays ev q → Before q t → After q t
    on q t low stay is = by (steps_keep_views_law s ev c.disk p planned.goes)
      where
        by : StaysInView s p.node ⊎ HasInstalled s ev p.node → After q t
        by (inl x) = same_view x q t is.1
        by (inr x) = turned s.view p.node.view q t (old_era x q low stay is.0) (view_low c i n s member q) is.1

    refused : (r : Reason) → refusal s ev ≡ Some r → (q : ℕ) (t : TxId) → q < s.home.config.nodes → Before q t → After q t
    unfolding refusal
    refused r none q t low is = by (steps_keep_views_law s ev c.disk p planned.goes)
      where
        allowed : (x : HasInstalled s ev p.node) → refusal s (node.Install x.next) ≡ None
        allowed x = ap (λ (b : Bool). refuse_if (not b) reason.NoView None) x.allowed

        by : StaysInView s p.node ⊎ HasInstalled s ev p.node → After q t
        by (inl x) = same_view x q t is.1
        by (inr x) =
            let bad : Some r ≡ None = sym none ∙ ap (refusal s) x.asked ∙ allowed x in
            absurd (cc)

    -- what a message brings
    brings : (from : ℕ) (m : Message) → ev ≡ node.Deliver from m → (v : View) → s.view ≡ Some v → head_at c.links from n ≡ Some m → (w : View) → (x : Body) → PartiesAre c w from n m.epoch x
        → judge v (number_of s) from m.epoch (partition_of s.home.config x) ≡ verdict.Taken → Brings s.home.config After x
    brings from m is v there head w x = of x
      where
        stay : StaysInView s p.node
        stay = by (steps_keep_views_law s ev c.disk p planned.goes)
          where
            by : StaysInView s p.node ⊎ HasInstalled s ev p.node → StaysInView s p.node
            by (inl y) = y
            by (inr y) = let bad : node.Deliver from m ≡ node.Install y.next = sym is ∙ y.asked in absurd (cc)

        sent : (q : ℕ) → judge v (number_of s) from m.epoch q ≡ verdict.Taken → (t : TxId) → t.node ≡ from → After q t
        sent q taken t of = same_view stay q t (sender_reached c i order n s v up there from m head q taken t of)

        of : (x : Body) → PartiesAre c w from n m.epoch x → judge v (number_of s) from m.epoch (partition_of s.home.config x) ≡ verdict.Taken → Brings s.home.config After x
        of (body.Request r) is taken = sent (partition s.home.config r.page) taken r.tx is.1.node
        of (body.Grant g) is taken = tt
        of (body.Release r) is taken = tt
        of (body.Revoke k) is taken = tt
        of (body.Return r) is taken = tt
        of (body.Report r) is taken =
            all_weaker (λ (x : ReportWait). IsOf w from x.tx) (λ (x : ReportWait). After r.partition x.tx) (λ x k. sent r.partition taken x.tx k.node) r.waits is.3

    hear_message : (from : ℕ) (m : Message) → ev ≡ node.Deliver from m → IsHanded c e n s (node.Deliver from m) → Hears s After (node.Deliver from m)
    hear_message from m is handed = by s.view refl
      where
        head : head_at c.links from n ≡ Some m
        head = delivered c e n s from m handed

        party : IsParty c from n m
        party = head_all (IsParty c from n) (link_at c.links from n) m (parties from n) head

        by : (o : Option View) → s.view ≡ o → judge_in s.view (number_of s) from m.epoch (partition_of s.home.config m.body) ≡ verdict.Taken → Brings s.home.config After m.body
        by None at taken =
            let bad : verdict.Held ≡ verdict.Taken = ap (λ (o : Option View). judge_in o (number_of s) from m.epoch (partition_of s.home.config m.body)) (sym at) ∙ taken in
            absurd (cc)
        by (Some v) at taken =
            brings from m is v at head party.view m.body party.parties
            (ap (λ (o : Option View). judge_in o (number_of s) from m.epoch (partition_of s.home.config m.body)) (sym at) ∙ taken)

    hear : (x : NodeEvent) → ev ≡ x → IsHanded c e n s x → Hears s After x
    hear node.Begin is h = tt
    hear (node.Read t k) is h = tt
    hear (node.Write t k place bytes) is h = tt
    hear (node.Commit t) is h = tt
    hear (node.Abort t) is h = tt
    hear (node.Evict k) is h = tt
    hear (node.Flush k) is h = tt
    hear (node.Install w) is h = tt
    hear node.Cut is h = tt
    hear (node.Deliver from m) is h = hear_message from m is h

    acts_reached : TablesReached (step c e) p.node
    acts_reached = plans_wait s ev c.disk p good.step Before After own before (λ none. on) refused (hear ev refl planned.handed)

pub steps_keep_reached_law : StepsKeepReached
unfolding start_node
steps_keep_reached_law c e i order parties reached n = by (nodes_step_law c e n i)
  where
    here : (o : Option NodeState) → node_at c n ≡ o → IfSome o (TablesReached c) → IfSome o (TablesReached (step c e))
    here None at is = tt
    here (Some s) at is = stays c e i n s at is

    by : IsNodeStep c e n (node_at (step c e) n) → IfSome (node_at (step c e) n) (TablesReached (step c e))
    by (node_stays same) = subst (λ (o : Option NodeState). IfSome o (TablesReached (step c e))) (sym same) (here (node_at c n) refl (reached n))
    by (node_acts s ev p planned now) =
        subst (λ (o : Option NodeState). IfSome o (TablesReached (step c e))) (sym now)
        (acts_reached c e i order parties n s ev p planned now (subst (λ (o : Option NodeState). IfSome o (TablesReached c)) planned.handed.up (reached n)))
    by (node_lost same) = subst (λ (o : Option NodeState). IfSome o (TablesReached (step c e))) (sym same) tt
    by (node_starts same down) =
        subst (λ (o : Option NodeState). IfSome o (TablesReached (step c e))) (sym same)
        (λ q low. look_same (λ (o : Option LockTable). IfSome o (TableWaits (HasReached (step c e) None q))) c.config.nodes q None None tt tt)

-- in the opening cluster nobody waits
first_reached : (c : Sizes) (k : ℕ) → TablesReached (opening c) (first_node c k)
unfolding first_node
first_reached c k q low =
    set_look (λ (o : Option LockTable). IfSome o (TableWaits (HasReached (opening c) (Some (first c)) q))) None (replicate c.nodes None) k q (Some (open_table c k true))
    (λ same. open_waits (HasReached (opening c) (Some (first c)) q) c k true)
    (look_same (λ (o : Option LockTable). IfSome o (TableWaits (HasReached (opening c) (Some (first c)) q))) c.nodes q None None tt tt)

-- the node at each place
first_at : (c : Sizes) (Q : NodeState → Type 0) → ((k : ℕ) → Q (first_node c k)) → (n : ℕ) → IfSome (node_at (opening c) n) Q
unfolding opening
first_at c Q all n = look_counted (λ j (o : Option NodeState). IfSome o Q) None (λ k. Some (first_node c k)) c.nodes 0 n (λ j low. all (0 + j)) (λ j. tt)

pub opening_has_reached_law : OpeningHasReached
opening_has_reached_law c n = first_at c (TablesReached (opening c)) (first_reached c) n
