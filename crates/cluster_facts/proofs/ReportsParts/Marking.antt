-- A table that is being rebuilt marks its own node, and no node that hasn't reached its era, through every step.
use Rattle.std.proofs.Common.{◌≡◌, ◌⊎◌, inl, inr, refl, sym, ap, subst, ◌∙◌, ℕ, ◌<◌, ◌≤◌, Bool, true, false, List, length, replicate, slice_index_or, Option, Some, None, arith}
use Rattle.std.specs.Prelude.{IfSome}
use Rattle.std.specs.List.{AllByRecursion}
use Rattle.std.proofs.lemmas.Bool.Decides.{nat_tests}
use Rattle.pcl_base.specs.Limits.{Sizes}
use Rattle.pcl_base.specs.declared.event.Event.{Event}
use Rattle.pcl_base.specs.declared.lock.Verdict.TheVariants as verdict
use Rattle.pcl_base.specs.declared.message.Message.{Message}
use Rattle.run_rules.specs.Views.{View, since_of}
use Rattle.rule_laws.specs.LaterViews.{IsBetween}
use Rattle.rule_laws.proofs.Successors.{taken_is_between_law}
use Rattle.node_rules.specs.Judging.{judge}
use Rattle.node_rules.specs.LockTable.{LockTable, mark, marked}
use Rattle.node_rules.specs.NodeState.{NodeState, NodeEvent, start_node, number_of, table_at}
use Rattle.node_rules.specs.NodeStep.{Plan, judge_in, partition_of}
use Rattle.node_laws.specs.Nodes.{IsTable}
use Rattle.node_laws.proofs.Lists.{set_look, set_length, set_same}
use Rattle.cluster_rules.specs.Clusters.{Cluster, node_at, last_view}
use Rattle.cluster_rules.specs.ClusterStep.{step}
use Rattle.cluster_rules.specs.Links.{link_at, head_at}
use Rattle.cluster_laws.specs.Epochs.{StaysInView}
use Rattle.cluster_laws.specs.Handed.{IsHanded}
use Rattle.cluster_laws.specs.Laws.{IsGoodPlan}
use Rattle.cluster_laws.specs.Sound.{IsMember, IsCluster}
use Rattle.cluster_laws.proofs.Lists.{look_same}
use Rattle.cluster_laws.proofs.Steps.{up_is_member_law, plans_are_good_law}
use Rattle.cluster_laws.specs.Link.EpochLaws.{IsInOrder}
use Rattle.cluster_laws.specs.Link.StepLaws.{IsPlanned, IsNodeStep, node_stays, node_acts, node_lost, node_starts}
use Rattle.cluster_laws.proofs.LinkParts.Nodes.{nodes_step_law}
use Rattle.cluster_laws.proofs.LinkParts.Rising.{epochs_go_on_law}
use Rattle.cluster_laws.proofs.LinkParts.Stepped.{sizes_stay_law}
use Rattle.cluster_facts.proofs.WaitingParts.Coming.{head_all, delivered}
use Rattle.cluster_facts.specs.Reports.Reported.{EraReached, AreMarks, MarksAreReached}
use Rattle.cluster_facts.proofs.ReportsParts.Came.{Brings, Came, came_on, came_heard, came_new, came_is}
use Rattle.cluster_facts.proofs.ReportsParts.Done.{IsNew}
use Rattle.cluster_facts.proofs.ReportsParts.Later.{is_view}

-- ---- flags
pub mark_of : (t u : LockTable) (from m : ℕ) → u.reported ≡ (mark t from).reported → marked u m ≡ true → (m ≡ from) ⊎ (marked t m ≡ true)
mark_of t u from m same is =
    set_look (λ (b : Bool). b ≡ true → (m ≡ from) ⊎ (marked t m ≡ true)) false t.reported from m true (λ at set. inl at) (λ set. inr set)
    (sym (ap (λ (bs : List Bool). slice_index_or bs m false) same) ∙ is)

pub mark_keeps : (t u : LockTable) (from m : ℕ) → u.reported ≡ (mark t from).reported → marked t m ≡ true → marked u m ≡ true
mark_keeps t u from m same is =
    ap (λ (bs : List Bool). slice_index_or bs m false) same ∙ set_look (λ (b : Bool). b ≡ true) false t.reported from m true (λ at. refl) is

pub mark_here : (t u : LockTable) (from : ℕ) → from < length t.reported → u.reported ≡ (mark t from).reported → marked u from ≡ true
mark_here t u from low same = ap (λ (bs : List Bool). slice_index_or bs from false) same ∙ set_same false t.reported from true low

pub same_marks : (t u : LockTable) (m : ℕ) → u.reported ≡ t.reported → marked u m ≡ marked t m
same_marks t u m same = ap (λ (bs : List Bool). slice_index_or bs m false) same

pub new_marks : (me m : ℕ) (u : LockTable) → IsNew me u → marked u m ≡ true → m ≡ me
new_marks me m u new is =
    set_look (λ (b : Bool). b ≡ true → m ≡ me) false (replicate new.0 false) me m true (λ at set. at) (look_same (λ (b : Bool). b ≡ true → m ≡ me) new.0 m false false (λ set. absurd (cc)) (λ set. absurd (cc)))
    (sym (ap (λ (bs : List Bool). slice_index_or bs m false) new.1) ∙ is)

pub new_own : (me : ℕ) (u : LockTable) → IsNew me u → me < length u.reported → marked u me ≡ true
new_own me u new low =
    ap (λ (bs : List Bool). slice_index_or bs me false) new.1
    ∙ set_same false (replicate new.0 false) me true (subst (λ (k : ℕ). me < k) (ap (λ (bs : List Bool). length bs) new.1 ∙ set_length (replicate new.0 false) me true) low)

-- ---- a step
module _ (c : Cluster) (e : Event) (i : IsCluster c) where
  -- a node that has reached an era has so after the step
  pub carry : (era m : ℕ) → era ≤ (last_view c).epoch → EraReached era (node_at c m) → EraReached era (node_at (step c e) m)
  unfolding start_node
  carry era m low is = by (nodes_step_law c e m i)
    where
      acts : (s : NodeState) (ev : NodeEvent) (p : Plan) → IsPlanned c e m s ev p → era ≤ p.node.epoch
      acts s ev p planned = rises (epochs_go_on_law c e m s ev p i planned) (subst (EraReached era) planned.handed.up is)
        where
          rises : StaysInView s p.node ⊎ (s.epoch < p.node.epoch) → era ≤ s.epoch → era ≤ p.node.epoch
          rises (inl x) before = let epoch = x.epoch in omega (arith, epoch, before)
          rises (inr x) before = omega (arith, x, before)

      by : IsNodeStep c e m (node_at (step c e) m) → EraReached era (node_at (step c e) m)
      by (node_stays now) = subst (EraReached era) (sym now) is
      by (node_acts s ev p planned now) = subst (EraReached era) (sym now) (acts s ev p planned)
      by (node_lost now) = subst (EraReached era) (sym now) tt
      by (node_starts now down) = subst (EraReached era) (sym now) low

  -- the era of a node's view is none of later epochs
  pub era_upto : (n : ℕ) (s : NodeState) (v : View) (q : ℕ) → node_at c n ≡ Some s → s.view ≡ Some v → q < c.config.nodes → (since_of v q ≤ s.epoch) × (s.epoch ≤ (last_view c).epoch)
  era_upto n s v q up there low =
      let member : IsMember c.config c.views n s = (up_is_member_law c n s i up).1 in
      let is = is_view s member.sound v there in
      let epoch = is.epoch in
      let upto = is.whole.since_upto q (subst (λ (k : Sizes). q < k.nodes) (sym member.config) low) in
      (omega (arith, epoch, upto), member.reached)

  module _ (order : IsInOrder c) (marks : MarksAreReached c) where
    -- who sends a report that is taken has reached the era of the table
    pub sender_reached : (n : ℕ) (s : NodeState) (ev : NodeEvent) (p : Plan) (v : View) (q from : ℕ) → IsPlanned c e n s ev p → s.view ≡ Some v → Brings s ev q from → EraReached (since_of v q) (node_at c from)
    sender_reached n s ev p v q from planned there brings =
        by (node_at c from) (order.behind from n)
      where
        head : head_at c.links from n ≡ Some brings.message
        head = delivered c e n s from brings.message (subst (λ (x : NodeEvent). IsHanded c e n s x) brings.event planned.handed)

        judged : judge v (number_of s) from brings.message.epoch q ≡ verdict.Taken
        judged =
            sym (ap (λ (o : Option View). judge_in o (number_of s) from brings.message.epoch q) there)
            ∙ sym (ap (λ (k : ℕ). judge_in s.view (number_of s) from brings.message.epoch k) (ap (partition_of s.home.config) brings.body ∙ brings.of)) ∙ brings.taken

        between : IsBetween v (number_of s) from brings.message.epoch q
        between = (taken_is_between_law v (number_of s) from brings.message.epoch q).0 judged

        by : (o : Option NodeState) → IfSome o (λ (r : NodeState). AllByRecursion (λ (x : Message). x.epoch ≤ r.epoch) (link_at c.links from n)) → EraReached (since_of v q) o
        by None behind = tt
        by (Some r) behind =
            let low : brings.message.epoch ≤ r.epoch = head_all (λ (x : Message). x.epoch ≤ r.epoch) (link_at c.links from n) brings.message behind head in
            let owned = between.owned in
            omega (arith, low, owned)

    pub step_reached : MarksAreReached (step c e)
    unfolding start_node
    step_reached n s' w q u up view low there rebuilt = by (nodes_step_law c e n i)
      where
        low_before : q < c.config.nodes
        low_before = subst (λ (k : Sizes). q < k.nodes) (sizes_stay_law c e) low

        carried : (s : NodeState) (v : View) → node_at c n ≡ Some s → s.view ≡ Some v → (m : ℕ) → EraReached (since_of v q) (node_at c m) → EraReached (since_of v q) (node_at (step c e) m)
        carried s v here viewed m is = let upto = era_upto n s v q here viewed low_before in let x = upto.0 in let y = upto.1 in carry (since_of v q) m (omega (arith, x, y)) is

        acts : (s : NodeState) (ev : NodeEvent) (p : Plan) → IsPlanned c e n s ev p → node_at (step c e) n ≡ Some p.node → AreMarks (step c e) (since_of w q) n u
        acts s ev p planned now = of (came_is c e i n s ev p planned w (ap (λ (x : NodeState). x.view) same ∙ view) q low_before u (ap (λ (x : NodeState). table_at x q) same ∙ there) rebuilt)
          where
            same : p.node ≡ s'
            same = (let both : Some p.node ≡ Some s' = sym now ∙ up in cc)

            good : IsGoodPlan c n s ev p
            good = plans_are_good_law c e n s ev p i planned.handed planned.goes

            is_table : IsTable p.node.home.config (number_of p.node) q u
            is_table =
                subst (λ (o : Option LockTable). IfSome o (IsTable p.node.home.config (number_of p.node) q)) (ap (λ (x : NodeState). table_at x q) same ∙ there)
                (good.member.sound.tables q (subst (λ (k : Sizes). q < k.nodes) (sym good.member.config) low_before))

            of : Came s ev n q w u → AreMarks (step c e) (since_of w q) n u
            of (came_on v t viewed at unserved flags era) =
                let was : AreMarks c (since_of v q) n t = marks n s v q t planned.handed.up viewed low_before at unserved in
                subst (λ (k : ℕ). AreMarks (step c e) k n u) era
                (record {
                  own = same_marks t u n flags ∙ was.own;
                  reached = λ m is. carried s v planned.handed.up viewed m (was.reached m (sym (same_marks t u m flags) ∙ is));
                })
            of (came_heard v t from viewed at unserved brings flags era) =
                let was : AreMarks c (since_of v q) n t = marks n s v q t planned.handed.up viewed low_before at unserved in
                subst (λ (k : ℕ). AreMarks (step c e) k n u) era
                (record {
                  own = mark_keeps t u from n flags was.own;
                  reached = λ m is. carried s v planned.handed.up viewed m (each was m (mark_of t u from m flags is));
                })
              where
                each : AreMarks c (since_of v q) n t → (m : ℕ) → (m ≡ from) ⊎ (marked t m ≡ true) → EraReached (since_of v q) (node_at c m)
                each was m (inl at) = subst (λ (k : ℕ). EraReached (since_of v q) (node_at c k)) (sym at) (sender_reached n s ev p v q from planned viewed brings)
                each was m (inr is) = was.reached m is
            of (came_new event new is) =
                record {
                  own = new_own n u is (subst (λ (k : ℕ). n < k) (sym (is_table.reported ∙ ap (λ (k : Sizes). k.nodes) good.member.config)) (up_is_member_law c n s i planned.handed.up).0);
                  reached = λ m set. subst (λ (k : ℕ). EraReached (since_of w q) (node_at (step c e) k)) (sym (new_marks n m u is set)) (subst (EraReached (since_of w q)) (sym now) here);
                }
              where
                here : since_of w q ≤ p.node.epoch
                here =
                    let epoch = (is_view p.node good.member.sound w (ap (λ (x : NodeState). x.view) same ∙ view)).epoch in
                    grind (arith, nat_tests, new, epoch)

        by : IsNodeStep c e n (node_at (step c e) n) → AreMarks (step c e) (since_of w q) n u
        by (node_stays now) =
            let here = sym now ∙ up in
            let was : AreMarks c (since_of w q) n u = marks n s' w q u here view low_before there rebuilt in
            record { own = was.own; reached = λ m is. carried s' w here view m (was.reached m is) }
        by (node_acts s ev p planned now) = acts s ev p planned now
        by (node_lost now) = let bad : None ≡ Some s' = sym now ∙ up in absurd (cc)
        by (node_starts now down) =
            let both : Some (start_node c.config n (last_view c).epoch) ≡ Some s' = sym now ∙ up in
            let same : start_node c.config n (last_view c).epoch ≡ s' = cc in
            let bad : None ≡ Some w = ap (λ (x : NodeState). x.view) same ∙ view in
            absurd (cc)
