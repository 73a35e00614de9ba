-- What comes to a node is of no earlier era than the one that serves.
use Rattle.std.proofs.Common.{◌≡◌, refl, ap, sym, subst, ◌∙◌, ℕ, ◌≤◌, ◌==◌, ◌&&◌, nat_lt, cond, Bool, true, false, List, [], ◌∷◌, ◌++◌, Option, Some, None, arith}
use Rattle.std.specs.List.{AllByRecursion, filter}
use Rattle.std.proofs.lemmas.Bool.Decides.{nat_tests}
use Rattle.pcl_base.specs.declared.message.Message.{Message}
use Rattle.run_rules.specs.Views.{View, since_of}
use Rattle.node_rules.specs.NodeState.{NodeState, partition}
use Rattle.node_rules.specs.Words.{pick}
use Rattle.node_laws.proofs.Lists.{all_append, all_weaker}
use Rattle.cluster_rules.specs.Clusters.{Cluster, node_at, is_up, last_view}
use Rattle.cluster_rules.specs.ClusterStep.{is_taken}
use Rattle.cluster_rules.specs.Links.{link_at, tail_of}
use Rattle.cluster_laws.specs.Sound.{IsMember, IsOnLink, IsCluster}
use Rattle.cluster_laws.proofs.Steps.{up_is_member_law}
use Rattle.cluster_laws.specs.Era.Counts.{counts_at, counts_in}
use Rattle.cluster_laws.specs.Era.Eras.{era_at}
use Rattle.cluster_laws.proofs.EraParts.Ages.{eras_never_fall_law}
use Rattle.cluster_laws.proofs.EraParts.Counted.{counting_is_of_view_law}
use Rattle.cluster_laws.proofs.EraParts.Lives.{members_know_eras_law, stands}
use Rattle.cluster_laws.specs.Link.Coming.{speaks_of, is_coming, sent_to, delivers}
use Rattle.cluster_laws.proofs.LinkParts.Linked.{sent_have}
use Rattle.page_relation.specs.Tables.{ReachedBy, ReachedIn}
use Rattle.page_relation.specs.Work.Landing.{land}
use Rattle.page_relation.proofs.WorkParts.Comings.{landed_coming}
use Rattle.page_relation.proofs.WorkParts.Framing.{reached_landed}
use Rattle.page_relation.proofs.WorkParts.Landed.{landing_is_seen_law}
use Rattle.settle_relation.specs.Counted.{ComingIsNotPast}

-- those that pass a test
pub filtered : (P : Message → Type 0) (f : Message → Bool) (ms : List Message) → AllByRecursion (λ m. f m ≡ true → P m) ms → AllByRecursion P (filter f ms)
filtered P f [] all = tt
filtered P f (m ∷ ms) all = by (f m) refl (filtered P f ms all.1)
  where
    by : (b : Bool) → f m ≡ b → AllByRecursion P (filter f ms) → AllByRecursion P (cond b (m ∷ filter f ms) (filter f ms))
    by true is rest = (all.0 is, rest)
    by false is rest = rest

both_right : (a b : Bool) → (a && b) ≡ true → b ≡ true
both_right true b e = e
both_right false b e = absurd (cc)

pub less_all : (P : Message → Type 0) (b : Bool) (ms : List Message) → AllByRecursion P ms → AllByRecursion P (pick b (tail_of ms) ms)
less_all P true [] all = tt
less_all P true (m ∷ ms) all = all.1
less_all P false ms all = all

pub sent_all : (P : Message → Type 0) (b : Bool) (ms : List Message) → AllByRecursion P ms → AllByRecursion P (pick b ms [])
sent_all P true ms all = all
sent_all P false ms all = tt

-- a message that counts at a node is of no earlier era than the one that it bounds
counted_low : (c : Cluster) (q to from era r k : ℕ) (s : NodeState) → IsCluster c → node_at c to ≡ Some s → ReachedBy c q era s s.view r → k ≤ (last_view c).epoch
    → counts_in (Some s) from q k ≡ true → era ≤ era_at c q k
counted_low c q to from era r k s i up reached upto counts = by s.view refl reached counts
  where
    member : IsMember c.config c.views to s
    member = (up_is_member_law c to s i up).1

    later : s.epoch ≤ k → era_at c q s.epoch ≤ era_at c q k
    later le = eras_never_fall_law c q s.epoch k i le upto

    own : (v : View) → s.view ≡ Some v → (r ≡ since_of v q) × (era ≤ r) → counts_at s (Some v) from q k ≡ true → (x : Bool) → nat_lt s.epoch k ≡ x → era ≤ era_at c q k
    own v is low count true le =
        let more = later (let under : s.epoch ≤ k = grind (arith, nat_tests, le) in under) in
        let known = (members_know_eras_law c to s v member is).eras q in
        let same = low.0 in
        let bound = low.1 in
        omega (arith, more, known, same, bound)
    own v is low count false le =
        let at = (stands c to s v member is).epoch in
        let within : k ≤ v.epoch = (let most : k ≤ s.epoch = grind (arith, nat_tests, le) in omega (arith, most, at)) in
        let known = (counting_is_of_view_law c to s v from q k i up is count within).era in
        let same = low.0 in
        let bound = low.1 in
        omega (arith, known, same, bound)

    by : (o : Option View) → s.view ≡ o → ReachedBy c q era s o r → counts_at s o from q k ≡ true → era ≤ era_at c q k
    by None is low count =
        let more = later (let under : s.epoch ≤ k = grind (arith, nat_tests, count) in under) in
        let bound = low.1 in
        omega (arith, more, bound)
    by (Some v) is low count = own v is low count (nat_lt s.epoch k) refl

pub coming_is_not_past_law : ComingIsNotPast
unfolding land
coming_is_not_past_law c e n p from to w a acts other sends is =
    subst (AllByRecursion P) (sym (landed_coming c e n p w from to acts))
    (filtered P test (before ++ after)
    (all_append Q before after
    (less_all Q (delivers e from to && is_taken w.replies) (link_at c.links from to)
    (all_weaker (IsOnLink c.config (last_view c).epoch from to) Q (λ k on. of k on.epoch) (link_at c.links from to) (acts.cluster.links.messages from to)))
    (sent_all Q (from == n && is_up c to) (sent_to to w.sends) (sent_have (λ o. o.message.epoch ≤ (last_view c).epoch) Q to w.sends (λ o low same. of o.message low) sends))))
  where
    q : ℕ
    q = partition c.config p

    P : Message → Type 0
    P k = a.era ≤ era_at c q k.epoch

    test : Message → Bool
    test = is_coming c.config p from (node_at (land c e n w) to)

    Q : Message → Type 0
    Q k = test k ≡ true → P k

    before : List Message
    before = pick (delivers e from to && is_taken w.replies) (tail_of (link_at c.links from to)) (link_at c.links from to)

    after : List Message
    after = pick (from == n && is_up c to) (sent_to to w.sends) []

    there : node_at (land c e n w) to ≡ node_at c to
    there = (landing_is_seen_law c e n w acts).others to other

    reached : ReachedIn c q a.era (node_at c to) (a.reached to)
    reached = subst (λ (o : Option NodeState). ReachedIn c q a.era o (a.reached to)) there ((reached_landed c e n w q a.era (a.reached to) (node_at (land c e n w) to)).0 (is.nodes.eras to))

    at : (o : Option NodeState) → node_at c to ≡ o → ReachedIn c q a.era o (a.reached to) → (k : Message) → k.epoch ≤ (last_view c).epoch → counts_in o from q k.epoch ≡ true → P k
    at None up low k upto counts = absurd (cc)
    at (Some s) up low k upto counts = counted_low c q to from a.era (a.reached to) k.epoch s acts.cluster up low upto counts

    of : (k : Message) → k.epoch ≤ (last_view c).epoch → Q k
    of k upto comes =
        at (node_at c to) refl reached k upto
        (ap (λ (o : Option NodeState). counts_in o from q k.epoch) (sym there) ∙ both_right (speaks_of c.config p k.body) (counts_in (node_at (land c e n w) to) from q k.epoch) comes)
