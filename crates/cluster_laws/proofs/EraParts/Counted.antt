-- Messages that count.
use Rattle.std.proofs.Common.{◌≡◌, ◌⊎◌, inl, inr, refl, ap, sym, subst, ◌∙◌, ℕ, ◌+◌, ◌<◌, ◌≤◌, ◌==◌, ◌&&◌, not, nat_lt, true, false, List, [], ◌∷◌, Option, Some, None, arith, ltb-true, lt-ltb, le-ltb}
use Rattle.std.specs.List.{list_all}
use Rattle.pcl_base.specs.declared.event.Event.{Event}
use Rattle.pcl_base.specs.declared.lock.Verdict.{Verdict}
use Rattle.pcl_base.specs.declared.lock.Verdict.TheVariants.{Taken, Held, Dropped}
use Rattle.run_rules.specs.Views.{View, is_live, born_of, count_from}
use Rattle.node_rules.specs.Judging.{judge}
use Rattle.node_rules.specs.NodeState.{NodeState, NodeEvent, number_of, start_node}
use Rattle.node_rules.specs.DiskCalls.{Left}
use Rattle.node_rules.specs.Refusals.{owns_new, may_install}
use Rattle.node_rules.specs.Work.{Outcome, Goes, Differs}
use Rattle.node_rules.specs.NodeStep.{Plan, nodestep}
use Rattle.node_laws.proofs.Lists.{set_look}
use Rattle.rule_laws.specs.LaterViews.{IsBetween}
use Rattle.rule_laws.proofs.Successors.{taken_is_between_law, held_is_ahead_law, dropped_stays_law}
use Rattle.rule_laws.proofs.Turns.{and_left, and_right}
use Rattle.cluster_rules.specs.Clusters.{Cluster, node_at, view_of_epoch, last_view, stop_at, lose}
use Rattle.cluster_rules.specs.ClusterStep.{all_nodes, returning, links_after, start_one, start_all, made_or_halted, left_of, after_plan, node_step}
use Rattle.cluster_laws.specs.Sound.{IsMember, IsCluster}
use Rattle.cluster_laws.specs.Epochs.{StaysInView, HasInstalled}
use Rattle.cluster_laws.specs.Handed.{IsHanded}
use Rattle.cluster_laws.specs.Laws.{IsGoodPlan}
use Rattle.cluster_laws.proofs.Cases.{by_step}
use Rattle.cluster_laws.proofs.Epochs.{steps_keep_views_law}
use Rattle.cluster_laws.proofs.Steps.{up_is_member_law, plans_are_good_law}
use Rattle.cluster_laws.specs.Era.Eras.{born_at, life_in}
use Rattle.cluster_laws.specs.Era.Counts.{is_dropped, counts_at, counts_in}
use Rattle.cluster_laws.specs.Era.EraLaws.{Lives}
use Rattle.cluster_laws.specs.Era.CountLaws.{IsOfView, CountingIsOfView, CountingIsOfLife, CountedBefore, CountedUnborn, CountsStay, NothingCountsAtStart, StepsCountLess}
use Rattle.cluster_laws.proofs.EraParts.Nexts.{follows_epoch}
use Rattle.cluster_laws.proofs.EraParts.Epochs.{whole_at, epoch_at, low_of, later_epochs_law}
use Rattle.cluster_laws.proofs.EraParts.Ages.{era_is, owner_is, born_is, live_is, eras_go_on_law, eras_have_one_owner_law}
use Rattle.cluster_laws.proofs.EraParts.Lives.{Stands, stands, lives_go_on_law, up_nodes_live_law}

-- a message that counts is taken or held
data IsKept (v : View) (me from q epoch : ℕ) : Type 0 where
  is_taken : IsBetween v me from epoch q → IsKept v me from q epoch
  is_held : v.epoch < epoch → IsKept v me from q epoch

kept : (v : View) (me from q epoch : ℕ) → not (is_dropped (judge v me from epoch q)) ≡ true → IsKept v me from q epoch
kept v me from q epoch e = by (judge v me from epoch q) refl e
  where
    by : (x : Verdict) → judge v me from epoch q ≡ x → not (is_dropped x) ≡ true → IsKept v me from q epoch
    by Taken is t = is_taken ((taken_is_between_law v me from epoch q).0 is)
    by Held is t = is_held ((held_is_ahead_law v me from epoch q).0 is)
    by Dropped is t = absurd (cc)

-- from a birth up to a view
lived : (c : Cluster) (e : ℕ) (v : View) (n k : ℕ) → IsCluster c → view_of_epoch c.views e ≡ Some v → is_live v.live n ≡ true → born_of v n ≤ k → k ≤ e → Lives c n (born_of v n) k
lived c e v n k i at live from le =
    let is = born_is c e v at n in
    subst (λ (b : ℕ). Lives c n b k) is (lives_go_on_law c n e k i (live_is c e v at n ∙ live) (omega (arith, is, from)) le)

pub counting_is_of_view_law : CountingIsOfView
counting_is_of_view_law c b s v from q epoch i up own counts le =
    by known.number (kept v (number_of s) from q epoch counts)
  where
    known : IsMember c.config c.views b s
    known = (up_is_member_law c b s i up).1

    at : Stands c b s v
    at = stands c b s v known own

    between : IsBetween v b from epoch q → IsOfView c v b from q epoch
    between t =
        let upto : epoch ≤ s.epoch = subst (λ (k : ℕ). epoch ≤ k) at.epoch le in
        let era = era_is c s.epoch v at.there q in
        let owned = t.owned in
        let same = eras_go_on_law c q s.epoch epoch i (low_of c s.epoch v i at.there).1 (omega (arith, era, owned)) upto in
        record {
          era = same ∙ era;
          owner = eras_have_one_owner_law c q epoch s.epoch i same ∙ owner_is c s.epoch v at.there q;
          sender = lived c s.epoch v from epoch i at.there t.sender t.sent upto;
          receiver = lived c s.epoch v b epoch i at.there at.live t.received upto;
        }

    by : number_of s ≡ b → IsKept v (number_of s) from q epoch → IsOfView c v b from q epoch
    by number (is_held ahead) = absurd (omega (arith, ahead, le))
    by number (is_taken t) = between (subst (λ (k : ℕ). IsBetween v k from epoch q) number t)

-- a message that counts is of an epoch that its receiver lived
pub counts_alive : (c : Cluster) (b : ℕ) (s : NodeState) (from q epoch : ℕ) → IsMember c.config c.views b s → (o : Option View) → s.view ≡ o → counts_at s o from q epoch ≡ true → life_in s o ≤ epoch
counts_alive c b s from q epoch is None own counts = let less = ltb-true s.epoch epoch counts in omega (arith, less)
counts_alive c b s from q epoch is (Some v) own counts = by (kept v (number_of s) from q epoch counts)
  where
    at : Stands c b s v
    at = stands c b s v is own

    by : IsKept v (number_of s) from q epoch → s.home.txs.born ≤ epoch
    by (is_taken t) =
        let born = at.born in
        let received = subst (λ (k : ℕ). born_of v k ≤ epoch) is.number t.received in
        omega (arith, born, received)
    by (is_held ahead) =
        let born = at.born in
        let upto = at.upto in
        omega (arith, born, upto, ahead)

pub counting_is_of_life_law : CountingIsOfLife
counting_is_of_life_law c b s from q epoch i up high counts =
    up_nodes_live_law c b s epoch i up (counts_alive c b s from q epoch (up_is_member_law c b s i up).1 s.view refl counts) high

pub counted_before_law : CountedBefore
counted_before_law c s v w from q epoch i later counts = by (judge v (number_of s) from epoch q) refl
  where
    by : (x : Verdict) → judge v (number_of s) from epoch q ≡ x → not (is_dropped x) ≡ true
    by Taken is = refl
    by Held is = refl
    by Dropped is =
        let still = dropped_stays_law c v w (number_of s) from epoch q i later is in
        let bad : false ≡ true = sym (ap (λ (x : Verdict). not (is_dropped x)) still) ∙ counts in
        absurd (cc)

pub counted_unborn_law : CountedUnborn
counted_unborn_law c b s w e from q epoch i up none at less counts =
    lt-ltb s.epoch epoch (by (kept w (number_of s) from q epoch counts))
  where
    is : IsMember c.config c.views b s
    is = (up_is_member_law c b s i up).1

    by : IsKept w (number_of s) from q epoch → s.epoch < epoch
    by (is_held ahead) = let same = epoch_at c e w i at in omega (arith, ahead, same, less)
    by (is_taken t) =
        let lives = up_nodes_live_law c b s e i up (subst (λ (o : Option View). life_in s o ≤ e) (sym none) (omega (arith, less))) (low_of c e w i at).1 in
        let born : born_at c b e ≡ s.epoch + 1 = lives.born ∙ ap (life_in s) none in
        let is_born = born_is c e w at b in
        let received = subst (λ (k : ℕ). born_of w k ≤ epoch) is.number t.received in
        omega (arith, born, is_born, received)

pub counts_stay_law : CountsStay
counts_stay_law s m from q epoch number stays =
    ap (λ (o : Option View). counts_at m o from q epoch) stays.view ∙ by s.view
  where
    by : (o : Option View) → counts_at m o from q epoch ≡ counts_at s o from q epoch
    by None = ap (λ (e : ℕ). nat_lt e epoch) stays.epoch
    by (Some v) = ap (λ (k : ℕ). not (is_dropped (judge v k from epoch q))) number

pub nothing_counts_at_start_law : NothingCountsAtStart
unfolding start_node
nothing_counts_at_start_law c n e from q epoch le = le-ltb e epoch le

-- a node that installs a further view counted more before
installed_before : (c : Cluster) (b : ℕ) (s m : NodeState) (ev : NodeEvent) (from q epoch : ℕ) → IsCluster c → node_at c b ≡ Some s → IsMember c.config c.views b m → number_of m ≡ number_of s → HasInstalled s ev m
    → counts_in (Some m) from q epoch ≡ true → counts_in (Some s) from q epoch ≡ true
installed_before c b s m ev from q epoch i up is number has counts = by s.view refl has.allowed
  where
    at : Stands c b m has.next
    at = stands c b m has.next is has.view

    now : counts_at s (Some has.next) from q epoch ≡ true
    now =
        ap (λ (k : ℕ). not (is_dropped (judge has.next k from epoch q))) (sym number)
        ∙ subst (λ (o : Option View). counts_at m o from q epoch ≡ true) has.view counts

    own : IsMember c.config c.views b s
    own = (up_is_member_law c b s i up).1

    by : (o : Option View) → s.view ≡ o → may_install s o has.next ≡ true → counts_at s s.view from q epoch ≡ true
    by None none allowed =
        let less = ltb-true s.epoch has.next.epoch
        (and_right (born_of has.next (number_of s) == has.next.epoch) (nat_lt s.epoch has.next.epoch)
        (and_left (born_of has.next (number_of s) == has.next.epoch && nat_lt s.epoch has.next.epoch) (list_all (owns_new has.next (number_of s)) (count_from 0 s.home.config.nodes)) allowed)) in
        let same = at.epoch in
        subst (λ (o : Option View). counts_at s o from q epoch ≡ true) (sym none)
        (counted_unborn_law c b s has.next m.epoch from q epoch i up none at.there (omega (arith, less, same)) now)
    by (Some v) some allowed =
        let before = stands c b s v own some in
        let one = before.epoch in
        let two = at.epoch in
        let next = follows_epoch s.home.config v has.next allowed in
        let later = later_epochs_law c s.epoch m.epoch v has.next i (omega (arith, one, two, next)) before.there at.there in
        subst (λ (o : Option View). counts_at s o from q epoch ≡ true) (sym some)
        (counted_before_law c.config s v has.next from q epoch (whole_at c s.epoch v i before.there) later now)

-- so does one after any step
planned_before : (c : Cluster) (e : Event) (n : ℕ) (s : NodeState) (ev : NodeEvent) (p : Plan) (from q epoch : ℕ) → IsCluster c → IsHanded c e n s ev → nodestep s ev c.disk ≡ Goes p
    → counts_in (Some p.node) from q epoch ≡ true → counts_in (Some s) from q epoch ≡ true
planned_before c e n s ev p from q epoch i h goes counts = by (steps_keep_views_law s ev c.disk p goes)
  where
    good : IsGoodPlan c n s ev p
    good = plans_are_good_law c e n s ev p i h goes

    number : number_of p.node ≡ number_of s
    number = good.member.number ∙ sym (up_is_member_law c n s i h.up).1.number

    by : StaysInView s p.node ⊎ HasInstalled s ev p.node → counts_in (Some s) from q epoch ≡ true
    by (inl stays) = sym (counts_stay_law s p.node from q epoch number stays) ∙ counts
    by (inr has) = installed_before c n s p.node ev from q epoch i h.up good.member number has counts

-- a node that is lost, and one that starts
lost_before : (c d : Cluster) (n b from q epoch : ℕ) → (counts_in (node_at d b) from q epoch ≡ true → counts_in (node_at c b) from q epoch ≡ true)
    → counts_in (node_at (lose n d) b) from q epoch ≡ true → counts_in (node_at c b) from q epoch ≡ true
unfolding lose
lost_before c d n b from q epoch =
    set_look (λ (o : Option NodeState). counts_in o from q epoch ≡ true → counts_in (node_at c b) from q epoch ≡ true) None d.nodes n b None
    (λ at bad. absurd (cc))

started_before : (c : Cluster) (k : ℕ) (ns : List ℕ) (d : Cluster) (b from q epoch : ℕ) → epoch ≤ k → (counts_in (node_at d b) from q epoch ≡ true → counts_in (node_at c b) from q epoch ≡ true)
    → counts_in (node_at (start_all k ns d) b) from q epoch ≡ true → counts_in (node_at c b) from q epoch ≡ true
started_before c k [] d b from q epoch le old = old
started_before c k (n ∷ ns) d b from q epoch le old =
    started_before c k ns (start_one k d n) b from q epoch le
    (set_look (λ (o : Option NodeState). counts_in o from q epoch ≡ true → counts_in (node_at c b) from q epoch ≡ true) None d.nodes n b (Some (start_node d.config n k))
    (λ at counts. (let bad : false ≡ true = sym (nothing_counts_at_start_law d.config n k from q epoch le) ∙ counts in absurd (cc))) old)

stepped_before : (c : Cluster) (e : Event) (n : ℕ) (s : NodeState) (ev : NodeEvent) (b from q epoch : ℕ) → IsCluster c → IsHanded c e n s ev
    → counts_in (node_at (node_step e n s ev c) b) from q epoch ≡ true → counts_in (node_at c b) from q epoch ≡ true
unfolding node_step
stepped_before c e n s ev b from q epoch i h = by (nodestep s ev c.disk) refl
  where
    whole : (p : Plan) → nodestep s ev c.disk ≡ Goes p → (o : Option Left) → counts_in (node_at (made_or_halted e n p o c) b) from q epoch ≡ true
        → counts_in (node_at c b) from q epoch ≡ true
    whole p goes None =
        set_look (λ (o : Option NodeState). counts_in o from q epoch ≡ true → counts_in (node_at c b) from q epoch ≡ true) None c.nodes n b (Some p.node)
        (λ at counts.
        ap (λ (k : ℕ). counts_in (node_at c k) from q epoch) at
        ∙ ap (λ (o : Option NodeState). counts_in o from q epoch) h.up
        ∙ planned_before c e n s ev p from q epoch i h goes counts)
        (λ counts. counts)
    whole p goes (Some l) = lost_before c (record c { disk = l.disk; links = links_after e [] c.links }) n b from q epoch (λ counts. counts)

    by : (o : Outcome Plan) → nodestep s ev c.disk ≡ o → counts_in (node_at (after_plan e n c o) b) from q epoch ≡ true → counts_in (node_at c b) from q epoch ≡ true
    by (Goes p) goes = whole p goes (left_of n c.disk p.calls (stop_at c n))
    by (Differs p expected found) goes = lost_before c c n b from q epoch (λ counts. counts)

pub steps_count_less_law : StepsCountLess
steps_count_less_law c e b from q epoch i low =
    by_step (λ d. counts_in (node_at d b) from q epoch ≡ true → counts_in (node_at c b) from q epoch ≡ true) c e
    (record {
      refused = λ r counts. counts;
      crashed = λ n is. lost_before c c n b from q epoch (λ counts. counts);
      armed = λ n call stops is counts. counts;
      handed = λ n s ev h. stepped_before c e n s ev b from q epoch i h;
      viewed = λ live owners v made drops. started_before c (last_view c).epoch (returning (last_view c) v (all_nodes c)) c b from q epoch low (λ counts. counts);
      reopened = λ v made down. started_before c (last_view c).epoch (all_nodes c) c b from q epoch low (λ counts. counts);
    })
