-- Who waits at a table that is being rebuilt is of a node that the table marks, or that was born after its era: through every step.
use Rattle.std.proofs.Common.{◌≡◌, ◌⊎◌, inl, inr, refl, sym, ap, subst, ◌∙◌, ℕ, ◌<◌, ◌≤◌, Bool, true, false, Option, Some, None, arith}
use Rattle.std.specs.Prelude.{IfSome}
use Rattle.pcl_base.specs.Limits.{Sizes}
use Rattle.pcl_base.specs.declared.event.Event.{Event}
use Rattle.pcl_base.specs.declared.lock.Verdict.TheVariants as verdict
use Rattle.pcl_base.specs.declared.message.Body.{Body}
use Rattle.pcl_base.specs.declared.message.Body.TheVariants as body
use Rattle.pcl_base.specs.declared.message.Message.{Message}
use Rattle.pcl_base.specs.declared.message.ReportWait.{ReportWait}
use Rattle.pcl_base.specs.declared.reply.Reason.{Reason}
use Rattle.pcl_base.specs.declared.tx.TxId.{TxId}
use Rattle.run_rules.specs.Disk.{Disk}
use Rattle.run_rules.specs.Views.{View, since_of, born_of}
use Rattle.node_rules.specs.LockTable.{LockTable, marked}
use Rattle.node_rules.specs.NodeState.{NodeState, NodeEvent, start_node, number_of, table_at, partition}
use Rattle.node_rules.specs.NodeState as node
use Rattle.node_rules.specs.NodeStep.{Plan, plan_of, begin_work, unless_refused, judge_in, partition_of, nodestep}
use Rattle.node_rules.specs.Refusals.{refusal}
use Rattle.node_rules.specs.Work.{Goes}
use Rattle.step_laws.proofs.Outcomes.{On, on_so}
use Rattle.node_laws.proofs.Lists.{all_weaker, all_each}
use Rattle.cluster_rules.specs.Clusters.{Cluster, node_at, last_view}
use Rattle.cluster_rules.specs.ClusterStep.{step}
use Rattle.cluster_rules.specs.Links.{link_at, head_at}
use Rattle.cluster_laws.specs.Epochs.{StaysInView}
use Rattle.std.proofs.lemmas.Nat.{mod_below}
use Rattle.cluster_laws.specs.Handed.{IsHanded}
use Rattle.cluster_laws.specs.Laws.{IsGoodPlan}
use Rattle.cluster_laws.specs.Sound.{IsMember, IsCluster}
use Rattle.cluster_laws.proofs.Steps.{up_is_member_law, plans_are_good_law}
use Rattle.cluster_laws.proofs.EraParts.Ages.{births_never_fall_law}
use Rattle.cluster_laws.proofs.EraParts.Lives.{members_know_eras_law}
use Rattle.cluster_laws.specs.Link.EpochLaws.{IsInOrder}
use Rattle.cluster_laws.specs.Link.StepLaws.{IsPlanned, IsNodeStep, node_stays, node_acts, node_lost, node_starts}
use Rattle.cluster_laws.proofs.LinkParts.Nodes.{nodes_step_law}
use Rattle.cluster_laws.proofs.LinkParts.Rising.{epochs_go_on_law}
use Rattle.cluster_laws.proofs.LinkParts.Stepped.{sizes_stay_law}
use Rattle.page_relation.specs.Together.{IsOf, PartiesAre, IsParty}
use Rattle.related_runs.specs.Parties.{HaveParties}
use Rattle.related_runs.proofs.Waiters.{TableWaits, at_waits}
use Rattle.cluster_facts.proofs.WaitingParts.Coming.{head_all, delivered}
use Rattle.cluster_facts.proofs.WaitingParts.Redoing.{table_weaker}
use Rattle.cluster_facts.proofs.WaitingParts.Stepping.{NodeWaits, Hears, Stays, plans_wait}
use Rattle.cluster_facts.proofs.WaitingParts.Stepping as waits
use Rattle.cluster_facts.specs.Reports.Marked.{IsMarked, AllMarked, WaitersAreMarked, OpeningHasMarked, StepsKeepMarked, PagesAreMarked}
use Rattle.cluster_facts.specs.Reports.Reported.{HaveReports, MarksAreReached}
use Rattle.cluster_facts.proofs.ReportsParts.Asking.{sender_marked, reporter_marked}
use Rattle.cluster_facts.proofs.ReportsParts.Came.{Came, came_on, came_heard, came_new, came_is}
use Rattle.cluster_facts.proofs.ReportsParts.Flags.{verdict_of}
use Rattle.cluster_facts.proofs.ReportsParts.Marking.{mark_keeps, same_marks, step_reached}
use Rattle.cluster_facts.proofs.ReportsParts.Opened.{all_serve}

-- a refused event changes nothing
refused_same : (n : NodeState) (ev : NodeEvent) (d : Disk) (p : Plan) (r : Reason) → refusal n ev ≡ Some r → nodestep n ev d ≡ Goes p → p.node ≡ n
unfolding nodestep
refused_same n ev d p r refused goes =
    subst (On (λ (x : Plan). x.node ≡ n)) goes
    (on_so (λ w. w.node ≡ n) (λ (x : Plan). x.node ≡ n) (unless_refused (refusal n ev) d ev (begin_work n d)) plan_of
    (subst (λ (o : Option Reason). On (λ w. w.node ≡ n) (unless_refused o d ev (begin_work n d))) (sym refused) refl) (λ w is. is))

module _ (c : Cluster) (e : Event) (i : IsCluster c) (order : IsInOrder c) (parties : HaveParties c) (reports : HaveReports c) (marked_before : WaitersAreMarked c) (n : ℕ) (s : NodeState) (ev : NodeEvent) (p : Plan) (planned : IsPlanned c e n s ev p)
    (now : node_at (step c e) n ≡ Some p.node) where
  up : node_at c n ≡ Some s
  up = planned.handed.up

  member : IsMember c.config c.views n s
  member = (up_is_member_law c n s i up).1

  good : IsGoodPlan c n s ev p
  good = plans_are_good_law c e n s ev p i planned.handed planned.goes

  -- of the tables that are being rebuilt, before and after the step
  abbrev Before : ℕ → TxId → Type 0
  Before q x = (v : View) (t : LockTable) → s.view ≡ Some v → table_at s q ≡ Some t → t.serving ≡ false → IsMarked v q t x

  abbrev After : ℕ → TxId → Type 0
  After q x = (w : View) (u : LockTable) → q < c.config.nodes → p.node.view ≡ Some w → table_at p.node q ≡ Some u → u.serving ≡ false → IsMarked w q u x

  before : NodeWaits Before s
  before q low = by (table_at s q) refl
    where
      same : (t : LockTable) → table_at s q ≡ Some t → (u : LockTable) → table_at s q ≡ Some u → t ≡ u
      same t at u there = let both : Some t ≡ Some u = sym at ∙ there in cc

      one : (o : Option View) (v w : View) → o ≡ Some v → o ≡ Some w → v ≡ w
      one o v w at there = let both : Some v ≡ Some w = sym at ∙ there in cc

      any : (t : LockTable) → ((x : TxId) → Before q x) → TableWaits (Before q) t
      any t all = all_each _ (λ x. all_each _ (λ w. all w.tx) x.entry.waiting) t.entries

      open_at : (t : LockTable) → table_at s q ≡ Some t → t.serving ≡ false → (o : Option View) → s.view ≡ o → TableWaits (Before q) t
      open_at t at rebuilt None none = any t (λ x v u there. (let bad : None ≡ Some v = sym none ∙ there in absurd (cc)))
      open_at t at rebuilt (Some v) there =
          table_weaker (IsMarked v q t) (Before q) (λ x is w u seen here unserving. subst (λ (y : View). IsMarked y q u x) (one s.view v w there seen) (subst (λ (y : LockTable). IsMarked v q y x) (same t at u here) is)) t
          (marked_before n s v q t up there (subst (λ (k : Sizes). q < k.nodes) member.config low) at rebuilt)

      flag : (t : LockTable) → table_at s q ≡ Some t → (b : Bool) → t.serving ≡ b → TableWaits (Before q) t
      flag t at true serves =
          any t (λ x v u there here rebuilt. (let bad : true ≡ false = sym serves ∙ ap (λ (y : LockTable). y.serving) (same t at u here) ∙ rebuilt in absurd (cc)))
      flag t at false rebuilt = open_at t at rebuilt s.view refl

      by : (o : Option LockTable) → table_at s q ≡ o → IfSome o (TableWaits (Before q))
      by None at = tt
      by (Some t) at = flag t at t.serving refl

  -- births don't fall
  later : (v w : View) (q m : ℕ) → s.view ≡ Some v → p.node.view ≡ Some w → since_of v q ≡ since_of w q → since_of v q < born_of v m → since_of w q < born_of w m
  later v w q m there seen era late =
      let old = (members_know_eras_law c n s v member there).births m in
      let new = (members_know_eras_law c n p.node w good.member seen).births m in
      let falls = births_never_fall_law c m s.epoch p.node.epoch i (rises (epochs_go_on_law c e n s ev p i planned)) good.member.reached in
      omega (arith, old, new, falls, era, late)
    where
      rises : StaysInView s p.node ⊎ (s.epoch < p.node.epoch) → s.epoch ≤ p.node.epoch
      rises (inl x) = let same = x.epoch in omega (arith, same)
      rises (inr x) = omega (arith, x)

  on : (q : ℕ) (x : TxId) → Stays ev q → Before q x → After q x
  on q x stay was w u low seen there rebuilt = by (came_is c e i n s ev p planned w seen q low u there rebuilt)
    where
      kept : (v : View) (t : LockTable) → s.view ≡ Some v → since_of v q ≡ since_of w q → ((m : ℕ) → marked t m ≡ true → marked u m ≡ true) → IsMarked v q t x → IsMarked w q u x
      kept v t viewed era flags (inl set) = inl (flags x.node set)
      kept v t viewed era flags (inr late) = inr (later v w q x.node viewed seen era late)

      by : Came s ev n q w u → IsMarked w q u x
      by (came_on v t viewed at unserved flags era) = kept v t viewed era (λ m set. same_marks t u m flags ∙ set) (was v t viewed at unserved)
      by (came_heard v t from viewed at unserved brings flags era) = kept v t viewed era (λ m set. mark_keeps t u from m flags set) (was v t viewed at unserved)
      by (came_new event new is) =
          let bad : true ≡ false = sym new ∙ subst (λ (k : NodeEvent). Stays k q) event stay in
          absurd (cc)

  refused : (r : Reason) → refusal s ev ≡ Some r → (q : ℕ) (x : TxId) → Before q x → After q x
  refused r none q x was w u low seen there rebuilt =
      let same : p.node ≡ s = refused_same s ev c.disk p r none planned.goes in
      was w u (ap (λ (y : NodeState). y.view) (sym same) ∙ seen) (ap (λ (y : NodeState). table_at y q) (sym same) ∙ there) rebuilt

  reached : MarksAreReached (step c e)
  reached = step_reached c e i order reports.reached

  own : (q : ℕ) (x : TxId) → x.node ≡ number_of s → After q x
  own q x of w u low seen there rebuilt =
      inl
      (ap (λ (k : ℕ). marked u k) (of ∙ member.number) ∙ (reached n p.node w q u now seen (subst (λ (k : Sizes). q < k.nodes) (sym (sizes_stay_law c e)) low) there rebuilt).own)

  -- ---- what a message brings
  module _ (from : ℕ) (m : Message) (is_event : ev ≡ node.Deliver from m) (v : View) (viewed : s.view ≡ Some v) (taken : verdict_of s from m ≡ verdict.Taken) where
    brings : (w : View) (x : Body) → m.body ≡ x → PartiesAre c w from n m.epoch x → waits.Brings s.home.config After x
    brings w (body.Request r) is are =
        on (partition s.home.config r.page) r.tx (subst (λ (k : NodeEvent). Stays k (partition s.home.config r.page)) (sym is_event) tt)
        (λ u t seen at rebuilt.
        (let one : u ≡ v = one_view s.view u v seen viewed in
        let low : partition s.home.config r.page < c.config.nodes = low_page r.page in
        let is_marked = sender_marked c e i n s ev p planned v viewed from m is_event reports r is (partition s.home.config r.page) low (ap (λ (k : Sizes). partition k r.page) (sym member.config)) t at rebuilt taken in
        subst (λ (y : View). IsMarked y (partition s.home.config r.page) t r.tx) (sym one) (named (partition s.home.config r.page) t r.tx are.1.node is_marked)))
      where
        one_view : (o : Option View) (u v : View) → o ≡ Some u → o ≡ Some v → u ≡ v
        one_view o u v at there = let both : Some u ≡ Some v = sym at ∙ there in cc

        low_page : (k : ℕ) → partition s.home.config k < c.config.nodes
        low_page k = subst (λ (x : Sizes). partition s.home.config k < x.nodes) member.config (mod_below k s.home.config.nodes member.sound.limits.some_nodes)

        named : (q : ℕ) (t : LockTable) (x : TxId) → x.node ≡ from → (marked t from ≡ true) ⊎ (since_of v q < born_of v from) → IsMarked v q t x
        named q t x of (inl set) = inl (ap (λ (k : ℕ). marked t k) of ∙ set)
        named q t x of (inr late) = inr (subst (λ (k : ℕ). since_of v q < born_of v k) (sym of) late)
    brings w (body.Grant g) is are = tt
    brings w (body.Release r) is are = tt
    brings w (body.Revoke k) is are = tt
    brings w (body.Return r) is are = tt
    brings w (body.Report r) is are =
        all_weaker (λ (x : ReportWait). IsOf w from x.tx) (λ (x : ReportWait). After r.partition x.tx)
        (λ x of y u low seen there rebuilt. inl (ap (λ (k : ℕ). marked u k) of.node ∙ reporter_marked c e i n s ev p planned v viewed from m is_event r is r.partition low refl taken u there rebuilt)) r.waits are.3

  hear_message : (from : ℕ) (m : Message) → ev ≡ node.Deliver from m → Hears s After (node.Deliver from m)
  hear_message from m is = by s.view refl
    where
      head : head_at c.links from n ≡ Some m
      head = delivered c e n s from m (subst (λ (x : NodeEvent). IsHanded c e n s x) is planned.handed)

      party : IsParty c from n m
      party = head_all (IsParty c from n) (link_at c.links from n) m (parties from n) head

      by : (o : Option View) → s.view ≡ o → judge_in s.view (number_of s) from m.epoch (partition_of s.home.config m.body) ≡ verdict.Taken → waits.Brings s.home.config After m.body
      by None at taken =
          let bad : verdict.Held ≡ verdict.Taken = ap (λ (o : Option View). judge_in o (number_of s) from m.epoch (partition_of s.home.config m.body)) (sym at) ∙ taken in
          absurd (cc)
      by (Some v) at taken = brings from m is v at taken party.view m.body refl party.parties

  hear : (x : NodeEvent) → ev ≡ x → Hears s After x
  hear node.Begin is = tt
  hear (node.Read t k) is = tt
  hear (node.Write t k place bytes) is = tt
  hear (node.Commit t) is = tt
  hear (node.Abort t) is = tt
  hear (node.Evict k) is = tt
  hear (node.Flush k) is = tt
  hear (node.Install w) is = tt
  hear node.Cut is = tt
  hear (node.Deliver from m) is = hear_message from m is

  acts_wait : NodeWaits After p.node
  acts_wait = plans_wait s ev c.disk p good.step Before After own before (λ none q x low. on q x) (λ r none q x low. refused r none q x) (hear ev refl)

  acts_marked : (w : View) (q : ℕ) (u : LockTable) → p.node.view ≡ Some w → q < c.config.nodes → table_at p.node q ≡ Some u → u.serving ≡ false → AllMarked w q u
  acts_marked w q u seen low there rebuilt =
      table_weaker (After q) (IsMarked w q u) (λ x is. is w u low seen there rebuilt) u
      (subst (λ (o : Option LockTable). IfSome o (TableWaits (After q))) there (acts_wait q (subst (λ (k : Sizes). q < k.nodes) (sym good.member.config) low)))

pub steps_keep_marked_law : StepsKeepMarked
unfolding start_node
steps_keep_marked_law c e i order parties reports marks n s' w q u up view low there rebuilt = by (nodes_step_law c e n i)
  where
    low_before : q < c.config.nodes
    low_before = subst (λ (k : Sizes). q < k.nodes) (sizes_stay_law c e) low

    by : IsNodeStep c e n (node_at (step c e) n) → AllMarked w q u
    by (node_stays now) = marks n s' w q u (sym now ∙ up) view low_before there rebuilt
    by (node_acts s ev p planned now) =
        let both : Some p.node ≡ Some s' = sym now ∙ up in
        let same : p.node ≡ s' = cc in
        acts_marked c e i order parties reports marks n s ev p planned now w q u (ap (λ (x : NodeState). x.view) same ∙ view) low_before (ap (λ (x : NodeState). table_at x q) same ∙ there) rebuilt
    by (node_lost now) = let bad : None ≡ Some s' = sym now ∙ up in absurd (cc)
    by (node_starts now down) =
        let both : Some (start_node c.config n (last_view c).epoch) ≡ Some s' = sym now ∙ up in
        let same : start_node c.config n (last_view c).epoch ≡ s' = cc in
        let bad : None ≡ Some w = ap (λ (x : NodeState). x.view) same ∙ view in
        absurd (cc)

-- in the opening cluster no table is being rebuilt
pub opening_has_marked_law : OpeningHasMarked
opening_has_marked_law c n s v q t up view low there rebuilt = let bad : true ≡ false = sym (all_serve c n q s t up there) ∙ rebuilt in absurd (cc)

pub pages_are_marked_law : PagesAreMarked
pages_are_marked_law c n s v q p t marks up view low there rebuilt = at_waits (IsMarked v q t) t p (marks n s v q t up view low there rebuilt)
