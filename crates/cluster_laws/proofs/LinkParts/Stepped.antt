-- What a step of a cluster does to a node and to a link.
use Rattle.std.proofs.Common.{◌≡◌, ◌≢◌, ◌⊎◌, ⊎_elim, inl, inr, refl, ap, sym, subst, ◌∙◌, ℕ, zero, suc, ◌<◌, ◌==◌, ◌&&◌, Bool, true, false, List, [], ◌∷◌, ◌++◌, append-nil, Option, Some, None, slice_index_or, slice_set, arith, eqb-true}
use Rattle.std.specs.List.{AllByRecursion}
use Rattle.std.proofs.lemmas.Bool.Decides.{nat_tests}
use Rattle.pcl_base.specs.declared.event.Event.{Event}
use Rattle.pcl_base.specs.declared.event.Event.TheVariants as event
use Rattle.pcl_base.specs.declared.message.Message.{Message}
use Rattle.pcl_base.specs.declared.reply.Reply.{Reply}
use Rattle.node_rules.specs.Words.{pick}
use Rattle.node_rules.specs.NodeState.{NodeState, NodeEvent, Outgoing}
use Rattle.node_rules.specs.DiskCalls.{Left}
use Rattle.node_rules.specs.Work.{Outcome, Goes, Differs}
use Rattle.node_rules.specs.NodeStep.{Plan, nodestep}
use Rattle.node_laws.proofs.Lists.{set_same, set_look, all_weaker}
use Rattle.node_laws.proofs.Steps.{sends_have_epoch_law}
use Rattle.cluster_rules.specs.Clusters.{Cluster, node_at, is_up, stop_at, lose, last_view}
use Rattle.cluster_rules.specs.ClusterStep.{is_taken, links_after, made, made_or_halted, left_of, after_plan, node_step, start_one, start_all, all_nodes, returning, step}
use Rattle.cluster_rules.specs.Links.{Links, link_at, tail_of, take_head, clear_into}
use Rattle.cluster_laws.specs.Handed.{IsHanded}
use Rattle.cluster_laws.specs.Laws.{IsGoodPlan}
use Rattle.cluster_laws.specs.Sound.{IsOnLink, IsCluster}
use Rattle.cluster_laws.proofs.Cases.{by_step}
use Rattle.cluster_laws.proofs.Steps.{up_is_member_law, plans_are_good_law}
use Rattle.cluster_laws.specs.Link.Coming.{sent_to, delivers, Stands}
use Rattle.cluster_laws.specs.Link.LinkLaws.{IsSquare}
use Rattle.cluster_laws.specs.Link.StepLaws.{SizesStay, IsPlanned, LinksOfMade, IsLinkStep, link_stays, link_gets, link_loses, link_cleared, LinksStep, IsSentNow, MessagesComeFrom, SentAreOfEpoch}
use Rattle.cluster_laws.proofs.LinkParts.Heads.{delivers_is, handed_head}
use Rattle.cluster_laws.proofs.LinkParts.Linked.{square_put, sent_have, heads_after_law, sent_on_links_law, cleared_links_law, links_are_square_law}

-- nodes that start change neither sizes nor links
started_same : (k : ℕ) (ns : List ℕ) (c : Cluster) → ((start_all k ns c).config ≡ c.config) × ((start_all k ns c).links ≡ c.links)
started_same k [] c = (refl, refl)
started_same k (n ∷ ns) c = started_same k ns (start_one k c n)

stepped_sizes : (c : Cluster) (e : Event) (n : ℕ) (s : NodeState) (ev : NodeEvent) → (node_step e n s ev c).config ≡ c.config
unfolding node_step lose
stepped_sizes c e n s ev = by (nodestep s ev c.disk)
  where
    whole : (p : Plan) (o : Option Left) → (made_or_halted e n p o c).config ≡ c.config
    whole p None = refl
    whole p (Some l) = refl

    by : (o : Outcome Plan) → (after_plan e n c o).config ≡ c.config
    by (Goes p) = whole p (left_of n c.disk p.calls (stop_at c n))
    by (Differs p expected found) = refl

lost_sizes : (n : ℕ) (c : Cluster) → (lose n c).config ≡ c.config
unfolding lose
lost_sizes n c = refl

pub sizes_stay_law : SizesStay
sizes_stay_law c e =
    by_step (λ d. d.config ≡ c.config) c e
    (record {
      refused = λ r. refl;
      crashed = λ n is. lost_sizes n c;
      armed = λ n call stops is. refl;
      handed = λ n s ev h. stepped_sizes c e n s ev;
      viewed = λ live owners v made drops. (started_same (last_view c).epoch (returning (last_view c) v (all_nodes c)) c).0;
      reopened = λ v made down. (started_same (last_view c).epoch (all_nodes c) c).0;
    })

-- the links once the head was taken
square_after : (n : ℕ) (e : Event) (rs : List Reply) (ls : Links) → IsSquare n ls → IsSquare n (links_after e rs ls)
square_after n (event.Deliver from to) rs ls i = by (is_taken rs)
  where
    by : (b : Bool) → IsSquare n (pick b (take_head ls from to) ls)
    by true = square_put n ls from to (tail_of (link_at ls from to)) i
    by false = i
square_after n (event.Begin m) rs ls i = i
square_after n (event.Read t p) rs ls i = i
square_after n (event.Write t p place bytes) rs ls i = i
square_after n (event.Commit t) rs ls i = i
square_after n (event.Abort t) rs ls i = i
square_after n (event.Evict m p) rs ls i = i
square_after n (event.Flush m p) rs ls i = i
square_after n (event.Crash m) rs ls i = i
square_after n (event.View live owners) rs ls i = i
square_after n (event.Install m) rs ls i = i
square_after n event.Reopen rs ls i = i
square_after n (event.Arm m call stops) rs ls i = i
square_after n (event.Cut m) rs ls i = i

pub links_of_made_law : LinksOfMade
links_of_made_law c e n s ev p x y i planned =
    let good = plans_are_good_law c e n s ev p i planned.handed planned.goes in
    sent_on_links_law c.config.nodes (is_up c) n (links_after e p.replies c.links) p.sends x y
    (square_after c.config.nodes e p.replies c.links (links_are_square_law c.config (last_view c).epoch c.links i.links))
    (up_is_member_law c n s i planned.handed.up).0
    (all_weaker (λ (o : Outgoing). IsOnLink c.config (last_view c).epoch n o.to o.message) (λ (o : Outgoing). o.to < c.config.nodes) (λ o on. on.receiver) p.sends good.sends)

-- a node sends nothing to itself
none_to : (P : Outgoing → Type 0) (b : ℕ) (os : List Outgoing) → ((o : Outgoing) → P o → b ≢ o.to) → AllByRecursion P os → sent_to b os ≡ []
unfolding sent_to
none_to P b [] f all = refl
none_to P b (o ∷ os) f all = by (o.to == b) refl (none_to P b os f all.1)
  where
    by : (t : Bool) → (o.to == b) ≡ t → sent_to b os ≡ [] → pick t (o.message ∷ sent_to b os) (sent_to b os) ≡ []
    by true e rest = absurd (f o all.0 (sym (eqb-true o.to b e)))
    by false e rest = rest

-- a node in its place
none_set : (ss : List (Option NodeState)) (n : ℕ) → slice_index_or (slice_set ss n None) n None ≡ None
none_set [] n = refl
none_set (s ∷ ss) zero = refl
none_set (s ∷ ss) (suc n) = none_set ss n

lost_now : (n b : ℕ) (c : Cluster) → (b == n) ≡ true → node_at (lose n c) b ≡ None
unfolding lose
lost_now n b c e = subst (λ (k : ℕ). slice_index_or (slice_set c.nodes n None) k None ≡ None) (sym (eqb-true b n e)) (none_set c.nodes n)

links_lost : (n : ℕ) (c : Cluster) → (lose n c).links ≡ clear_into c.links n
unfolding lose
links_lost n c = refl

-- a link once a node is lost
lost_link : (c d : Cluster) (e : Event) (n a b : ℕ) → ((b == n) ≡ false → link_at d.links a b ≡ link_at c.links a b) → IsLinkStep c e a b (node_at (lose n d) a) (node_at (lose n d) b) (link_at (lose n d).links a b)
lost_link c d e n a b old = by (b == n) refl
  where
    at : link_at (lose n d).links a b ≡ pick (b == n) [] (link_at d.links a b)
    at = ap (λ (ls : Links). link_at ls a b) (links_lost n d) ∙ cleared_links_law d.links n a b

    by : (t : Bool) → (b == n) ≡ t → IsLinkStep c e a b (node_at (lose n d) a) (node_at (lose n d) b) (link_at (lose n d).links a b)
    by true t = link_cleared (lost_now n b d t) (at ∙ ap (λ (x : Bool). pick x [] (link_at d.links a b)) t)
    by false t = link_stays (at ∙ ap (λ (x : Bool). pick x [] (link_at d.links a b)) t ∙ old t)

-- a link after a step of a node
stepped_link : (c : Cluster) (e : Event) (n : ℕ) (s : NodeState) (ev : NodeEvent) (a b : ℕ) → IsCluster c → IsHanded c e n s ev
    → IsLinkStep c e a b (node_at (node_step e n s ev c) a) (node_at (node_step e n s ev c) b) (link_at (node_step e n s ev c).links a b)
unfolding node_step
stepped_link c e n s ev a b i h = by (nodestep s ev c.disk) refl
  where
    -- where the receiver isn't the acting node, the head was not delivered to it
    untouched : (rs : List Reply) → (b == n) ≡ false → link_at (links_after e rs c.links) a b ≡ link_at c.links a b
    untouched rs other = heads_after_law e rs c.links a b ∙ of (delivers e a b) (is_taken rs) refl
      where
        of : (t u : Bool) → delivers e a b ≡ t → pick (t && u) (tail_of (link_at c.links a b)) (link_at c.links a b) ≡ link_at c.links a b
        of true u d = let same = (handed_head c e a b n s ev i (delivers_is e a b d) h).1 in absurd (grind (arith, nat_tests, other, same))
        of false u d = refl

    whole : (p : Plan) → IsPlanned c e n s ev p → IsLinkStep c e a b (node_at (made e n p c) a) (node_at (made e n p c) b) (link_at (made e n p c).links a b)
    whole p planned = with_head (delivers e a b) (is_taken p.replies) refl refl
      where
        known : n < c.config.nodes
        known = (up_is_member_law c n s i h.up).0

        good : IsGoodPlan c n s ev p
        good = plans_are_good_law c e n s ev p i h planned.goes

        links : link_at (made e n p c).links a b ≡ pick (delivers e a b && is_taken p.replies) (tail_of (link_at c.links a b)) (link_at c.links a b) ++ pick (a == n && is_up c b) (sent_to b p.sends) []
        links =
            links_of_made_law c e n s ev p a b i planned
            ∙ ap (λ (ms : List Message). ms ++ pick (a == n && is_up c b) (sent_to b p.sends) []) (heads_after_law e p.replies c.links a b)

        acting : (b : ℕ) → b ≡ n → node_at (made e n p c) b ≡ Some p.node
        acting b same =
            subst (λ (k : ℕ). node_at (made e n p c) k ≡ Some p.node) (sym same)
            (set_same None c.nodes n (Some p.node) (subst (λ (k : ℕ). n < k) (sym i.nodes) known))

        resting : (b == n) ≡ false → node_at (made e n p c) b ≡ node_at c b
        resting other =
            set_look (λ (o : Option NodeState). o ≡ node_at c b) None c.nodes n b (Some p.node) (λ same. absurd (grind (arith, nat_tests, other, same))) refl

        -- nothing is taken
        sends : (x u y : Bool) → (a == n) ≡ x → is_up c b ≡ u → (b == n) ≡ y
            → link_at (made e n p c).links a b ≡ link_at c.links a b ++ pick (x && u) (sent_to b p.sends) []
            → IsLinkStep c e a b (node_at (made e n p c) a) (node_at (made e n p c) b) (link_at (made e n p c).links a b)
        sends true true false q r t is =
            let same = eqb-true a n q in
            link_gets s ev p (subst (λ (k : ℕ). IsPlanned c e k s ev p) (sym same) planned) r (acting a same) (resting t) is
        sends true true true q r t is =
            let same = eqb-true b n t in
            let none : sent_to b p.sends ≡ [] =
            none_to (λ (o : Outgoing). IsOnLink c.config (last_view c).epoch n o.to o.message) b p.sends (λ o on f. on.others (sym same ∙ f)) good.sends in
            link_stays (is ∙ ap (λ (ms : List Message). link_at c.links a b ++ ms) none ∙ append-nil (link_at c.links a b))
        sends true false y q r t is = link_stays (is ∙ append-nil (link_at c.links a b))
        sends false u y q r t is = link_stays (is ∙ append-nil (link_at c.links a b))

        -- the head is taken, and the receiver sends nothing to itself
        with_head : (d t : Bool) → delivers e a b ≡ d → is_taken p.replies ≡ t → IsLinkStep c e a b (node_at (made e n p c) a) (node_at (made e n p c) b) (link_at (made e n p c).links a b)
        with_head true true d t =
            let it = delivers_is e a b d in
            let head = handed_head c e a b n s ev i it h in
            let other : (a == n) ≡ false = apart (a == n) refl (λ f. head.0.others (f ∙ head.1)) in
            link_loses s ev p it (subst (λ (k : ℕ). IsPlanned c e k s ev p) head.1 planned) t (acting b (sym head.1))
            (links
            ∙ ap (λ (x : Bool). pick (x && is_taken p.replies) (tail_of (link_at c.links a b)) (link_at c.links a b) ++ pick (a == n && is_up c b) (sent_to b p.sends) []) d
            ∙ ap (λ (x : Bool). pick x (tail_of (link_at c.links a b)) (link_at c.links a b) ++ pick (a == n && is_up c b) (sent_to b p.sends) []) t
            ∙ ap (λ (x : Bool). tail_of (link_at c.links a b) ++ pick (x && is_up c b) (sent_to b p.sends) []) other
            ∙ append-nil (tail_of (link_at c.links a b)))
          where
            apart : (x : Bool) → (a == n) ≡ x → (a ≡ n → ⊥) → (a == n) ≡ false
            apart true q f = absurd (f (eqb-true a n q))
            apart false q f = q
        with_head true false d t =
            sends (a == n) (is_up c b) (b == n) refl refl refl
            (links
            ∙ ap (λ (x : Bool). pick (x && is_taken p.replies) (tail_of (link_at c.links a b)) (link_at c.links a b) ++ pick (a == n && is_up c b) (sent_to b p.sends) []) d
            ∙ ap (λ (x : Bool). pick x (tail_of (link_at c.links a b)) (link_at c.links a b) ++ pick (a == n && is_up c b) (sent_to b p.sends) []) t)
        with_head false t d u =
            sends (a == n) (is_up c b) (b == n) refl refl refl
            (links
            ∙ ap (λ (x : Bool). pick (x && is_taken p.replies) (tail_of (link_at c.links a b)) (link_at c.links a b) ++ pick (a == n && is_up c b) (sent_to b p.sends) []) d)

    ended : (p : Plan) → nodestep s ev c.disk ≡ Goes p → (o : Option Left) → IsLinkStep c e a b (node_at (made_or_halted e n p o c) a) (node_at (made_or_halted e n p o c) b) (link_at (made_or_halted e n p o c).links a b)
    ended p goes None = whole p (record { handed = h; goes = goes })
    ended p goes (Some l) = lost_link c (record c { disk = l.disk; links = links_after e [] c.links }) e n a b (untouched [])

    by : (o : Outcome Plan) → nodestep s ev c.disk ≡ o → IsLinkStep c e a b (node_at (after_plan e n c o) a) (node_at (after_plan e n c o) b) (link_at (after_plan e n c o).links a b)
    by (Goes p) goes = ended p goes (left_of n c.disk p.calls (stop_at c n))
    by (Differs p expected found) goes = lost_link c c e n a b (λ other. refl)

pub links_step_law : LinksStep
links_step_law c e a b i =
    by_step (λ d. IsLinkStep c e a b (node_at d a) (node_at d b) (link_at d.links a b)) c e
    (record {
      refused = λ r. link_stays refl;
      crashed = λ n is. lost_link c c e n a b (λ other. refl);
      armed = λ n call stops is. link_stays refl;
      handed = λ n s ev h. stepped_link c e n s ev a b i h;
      viewed = λ live owners v made drops. link_stays (ap (λ (ls : Links). link_at ls a b) (started_same (last_view c).epoch (returning (last_view c) v (all_nodes c)) c).1);
      reopened = λ v made down. link_stays (ap (λ (ls : Links). link_at ls a b) (started_same (last_view c).epoch (all_nodes c) c).1);
    })

-- where a message stands
in_tail : (ms : List Message) (m : Message) → Stands (tail_of ms) m → Stands ms m
in_tail [] m at = at
in_tail (x ∷ xs) m at = inr at

in_one : (ms ns : List Message) (m : Message) → Stands (ms ++ ns) m → Stands ms m ⊎ Stands ns m
in_one [] ns m at = inr at
in_one (x ∷ xs) ns m (inl here) = inl (inl here)
in_one (x ∷ xs) ns m (inr at) = ⊎_elim (λ a. inl (inr a)) (λ b. inr b) (in_one xs ns m at)

pub messages_come_from_law : MessagesComeFrom
messages_come_from_law c e a b m i at = by (links_step_law c e a b i)
  where
    by : IsLinkStep c e a b (node_at (step c e) a) (node_at (step c e) b) (link_at (step c e).links a b) → Stands (link_at c.links a b) m ⊎ IsSentNow c e a b m
    by (link_stays is) = inl (subst (λ (ms : List Message). Stands ms m) is at)
    by (link_gets s ev p planned up sender now is) =
        ⊎_elim (λ old. inl old) (λ new. inr (record { state = s; event = ev; plan = p; planned = planned; up = up; sent = new }))
        (in_one (link_at c.links a b) (sent_to b p.sends) m (subst (λ (ms : List Message). Stands ms m) is at))
    by (link_loses s ev p it planned taken now is) = inl (in_tail (link_at c.links a b) m (subst (λ (ms : List Message). Stands ms m) is at))
    by (link_cleared now is) = absurd (subst (λ (ms : List Message). Stands ms m) is at)

both_all : {X : Type 0} (P Q : X → Type 0) (xs : List X) → AllByRecursion P xs → AllByRecursion Q xs → AllByRecursion (λ x. P x × Q x) xs
both_all P Q [] a b = tt
both_all P Q (x ∷ xs) a b = ((a.0, b.0), both_all P Q xs a.1 b.1)

pub sent_are_of_epoch_law : SentAreOfEpoch
sent_are_of_epoch_law c e n s ev p b i planned =
    let good = plans_are_good_law c e n s ev p i planned.handed planned.goes in
    sent_have (λ (o : Outgoing). IsOnLink c.config (last_view c).epoch n o.to o.message × (o.message.epoch ≡ p.node.epoch)) (λ (m : Message). IsOnLink c.config (last_view c).epoch n b m × (m.epoch ≡ p.node.epoch)) b p.sends
    (λ o on to. (subst (λ (k : ℕ). IsOnLink c.config (last_view c).epoch n k o.message) to on.0, on.1))
    (both_all (λ (o : Outgoing). IsOnLink c.config (last_view c).epoch n o.to o.message) (λ (o : Outgoing). o.message.epoch ≡ p.node.epoch) p.sends good.sends
    (sends_have_epoch_law s ev c.disk p good.step))
