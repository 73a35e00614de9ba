-- What comes to a page through a step of a cluster.
use Rattle.std.proofs.Common.{◌≡◌, ◌⊎◌, inl, inr, refl, ap, sym, subst, ◌∙◌, ℕ, ◌&&◌, cond, Bool, true, false, List, [], ◌∷◌, Option, Some, None}
use Rattle.std.specs.List.{AllByRecursion, filter}
use Rattle.pcl_base.specs.Limits.{Sizes}
use Rattle.pcl_base.specs.declared.event.Event.{Event}
use Rattle.pcl_base.specs.declared.message.Message.{Message}
use Rattle.node_rules.specs.Words.{pick, head_of}
use Rattle.node_rules.specs.NodeState.{NodeState, NodeEvent, Deliver, partition, number_of}
use Rattle.node_rules.specs.NodeStep.{Plan}
use Rattle.node_laws.proofs.Lists.{all_each, all_weaker}
use Rattle.rule_laws.proofs.Turns.{and_left, and_right}
use Rattle.cluster_rules.specs.Clusters.{Cluster, node_at, last_view}
use Rattle.cluster_rules.specs.ClusterStep.{step}
use Rattle.cluster_rules.specs.Links.{link_at, tail_of}
use Rattle.cluster_laws.specs.Epochs.{StaysInView, HasInstalled}
use Rattle.cluster_laws.specs.Sound.{IsOnLink, IsCluster}
use Rattle.cluster_laws.proofs.Epochs.{steps_keep_views_law}
use Rattle.cluster_laws.proofs.Lists.{both_true}
use Rattle.cluster_laws.proofs.Steps.{up_is_member_law, plans_are_good_law}
use Rattle.cluster_laws.specs.Era.Counts.{counts_in}
use Rattle.cluster_laws.proofs.EraParts.Counted.{counts_stay_law, steps_count_less_law}
use Rattle.cluster_laws.specs.Link.Coming.{speaks_of, is_coming, coming, sent_to}
use Rattle.cluster_laws.specs.Link.StepLaws.{IsPlanned, IsLinkStep, link_stays, link_gets, link_loses, link_cleared, IsComingStep, count_less, more_come, one_taken, ComingSteps}
use Rattle.cluster_laws.proofs.LinkParts.Heads.{IsHead, handed_head}
use Rattle.cluster_laws.proofs.LinkParts.Ordered.{some_at_the_end_law, some_without_head_law, some_of_fewer_law, some_of_the_same_law}
use Rattle.cluster_laws.proofs.LinkParts.Stepped.{sizes_stay_law, links_step_law}

-- a node that takes a message keeps its view, so the same messages come
taken_same : (c : Cluster) (e : Event) (p a b : ℕ) (s : NodeState) (ev : NodeEvent) (plan : Plan) (m x : Message) → IsCluster c → IsPlanned c e b s ev plan → ev ≡ Deliver a m
    → is_coming c.config p a (Some plan.node) x ≡ is_coming c.config p a (node_at c b) x
taken_same c e p a b s ev plan m x i planned is =
    ap (λ (t : Bool). speaks_of c.config p x.body && t) (by (steps_keep_views_law s ev c.disk plan planned.goes))
    ∙ ap (λ (o : Option NodeState). is_coming c.config p a o x) (sym planned.handed.up)
  where
    number : number_of plan.node ≡ number_of s
    number = (plans_are_good_law c e b s ev plan i planned.handed planned.goes).member.number ∙ sym (up_is_member_law c b s i planned.handed.up).1.number

    by : StaysInView s plan.node ⊎ HasInstalled s ev plan.node → counts_in (Some plan.node) a (partition c.config p) x.epoch ≡ counts_in (Some s) a (partition c.config p) x.epoch
    by (inl stays) = counts_stay_law s plan.node a (partition c.config p) x.epoch number stays
    by (inr has) = let bad = sym is ∙ has.asked in absurd (cc)

-- what comes after a step came before
came : (c : Cluster) (e : Event) (p a b : ℕ) → IsCluster c
    → AllByRecursion (λ m. is_coming c.config p a (node_at (step c e) b) m ≡ true → is_coming c.config p a (node_at c b) m ≡ true) (link_at c.links a b)
came c e p a b i =
    all_weaker (IsOnLink c.config (last_view c).epoch a b) _
    (λ m on comes.
    both_true (speaks_of c.config p m.body) (counts_in (node_at c b) a (partition c.config p) m.epoch)
    (and_left (speaks_of c.config p m.body) (counts_in (node_at (step c e) b) a (partition c.config p) m.epoch) comes)
    (steps_count_less_law c e b a (partition c.config p) m.epoch i on.epoch
    (and_right (speaks_of c.config p m.body) (counts_in (node_at (step c e) b) a (partition c.config p) m.epoch) comes)))
    (link_at c.links a b) (i.links.messages a b)

-- nothing comes to a node that is down
none_come : (c : Sizes) (p a : ℕ) (ms : List Message) → filter (is_coming c p a None) ms ≡ []
none_come c p a [] = refl
none_come c p a (m ∷ ms) = by (speaks_of c p m.body) (none_come c p a ms)
  where
    by : (b : Bool) → filter (is_coming c p a None) ms ≡ [] → cond (b && false) (m ∷ filter (is_coming c p a None) ms) (filter (is_coming c p a None) ms) ≡ []
    by true rest = rest
    by false rest = rest

pub coming_steps_law : ComingSteps
unfolding coming
coming_steps_law c e p a b i =
    subst (λ (k : Sizes). IsComingStep c e p a b (node_at (step c e) b) (filter (is_coming k p a (node_at (step c e) b)) (link_at (step c e).links a b))) (sym (sizes_stay_law c e))
    (by (links_step_law c e a b i))
  where
    test : Option NodeState → Message → Bool
    test = is_coming c.config p a

    now : Option NodeState
    now = node_at (step c e) b

    less : filter (test now) (link_at c.links a b) ≡ filter (test now) (filter (test (node_at c b)) (link_at c.links a b))
    less = some_of_fewer_law (test (node_at c b)) (test now) (link_at c.links a b) (came c e p a b i)

    at_head : (m : Message) (o : Option Message) (ms : List Message) → head_of ms ≡ Some m → ms ≡ m ∷ tail_of ms
    at_head m o [] h = absurd (cc)
    at_head m o (x ∷ xs) h = let same : x ≡ m = cc in ap (λ (y : Message). y ∷ xs) same

    by : IsLinkStep c e a b (node_at (step c e) a) now (link_at (step c e).links a b) → IsComingStep c e p a b now (filter (test now) (link_at (step c e).links a b))
    by (link_stays is) = count_less (ap (filter (test now)) is ∙ less)
    by (link_gets s ev plan planned up sender same is) =
        more_come s ev plan planned same
        (ap (λ (o : Option NodeState). filter (test o) (link_at (step c e).links a b)) same
        ∙ ap (filter (test (node_at c b))) is
        ∙ some_at_the_end_law (test (node_at c b)) (link_at c.links a b) (sent_to b plan.sends))
    by (link_loses s ev plan it planned taken acts is) = one_taken head.message (tail_of (link_at c.links a b)) it whole
        (ap (λ (o : Option NodeState). filter (test o) (link_at (step c e).links a b)) acts
        ∙ ap (filter (test (Some plan.node))) is
        ∙ some_of_the_same_law (test (node_at c b)) (test (Some plan.node)) (tail_of (link_at c.links a b))
        (all_each (λ x. test (Some plan.node) x ≡ test (node_at c b) x) (λ x. taken_same c e p a b s ev plan head.message x i planned head.event) (tail_of (link_at c.links a b)))
        ∙ some_without_head_law (test (node_at c b)) head.message (tail_of (link_at c.links a b))
        ∙ ap (λ (ms : List Message). pick (test (node_at c b) head.message) (tail_of (filter (test (node_at c b)) ms)) (filter (test (node_at c b)) ms)) (sym whole))
      where
        head : IsHead c a b ev
        head = (handed_head c e a b b s ev i it planned.handed).0

        whole : link_at c.links a b ≡ head.message ∷ tail_of (link_at c.links a b)
        whole = at_head head.message None (link_at c.links a b) head.first
    by (link_cleared none is) =
        count_less
        (ap (filter (test now)) is
        ∙ sym (none_come c.config p a (filter (test (node_at c b)) (link_at c.links a b)))
        ∙ ap (λ (o : Option NodeState). filter (test o) (filter (test (node_at c b)) (link_at c.links a b))) (sym none))
