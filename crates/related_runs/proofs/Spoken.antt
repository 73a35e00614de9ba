-- Through every step each message has its parties, and living transactions alone wait in tables.
use Rattle.std.proofs.Common.{◌≡◌, refl, sym, ap, subst, ◌∙◌, ℕ, ◌+◌, ◌<◌, ◌≤◌, ◌==◌, not, Bool, true, false, List, [], ◌∷◌, Option, Some, None, is_some, option_map, replicate}
use Rattle.std.specs.Prelude.{IfSome}
use Rattle.std.specs.List.{AllByRecursion}
use Rattle.pcl_base.specs.Limits.{Sizes}
use Rattle.pcl_base.specs.declared.event.Event.{Event}
use Rattle.pcl_base.specs.declared.event.Event.TheVariants as event
use Rattle.pcl_base.specs.declared.lock.Verdict.TheVariants as verdict
use Rattle.pcl_base.specs.declared.message.Body.{Body}
use Rattle.pcl_base.specs.declared.message.Body.TheVariants as body
use Rattle.pcl_base.specs.declared.message.Message.{Message}
use Rattle.pcl_base.specs.declared.message.ReportWait.{ReportWait}
use Rattle.pcl_base.specs.declared.tx.TxId.{TxId}
use Rattle.run_rules.specs.Views.{View, is_live, owner_of, born_of, first}
use Rattle.rule_laws.specs.LaterViews.{IsBetween}
use Rattle.rule_laws.proofs.Successors.{taken_is_between_law}
use Rattle.node_rules.specs.Judging.{judge}
use Rattle.node_rules.specs.LockTable.{LockTable, open_table}
use Rattle.node_rules.specs.NodeState.{NodeState, NodeEvent, Outgoing, first_node, start_node, owner_in, partition, number_of, table_at}
use Rattle.node_rules.specs.NodeState as node
use Rattle.node_rules.specs.NodeStep.{Plan, partition_of, judge_in}
use Rattle.node_rules.specs.Words.{pick, head_of}
use Rattle.home_laws.proofs.Tests.{number_equal}
use Rattle.node_laws.specs.Nodes.{IsViewOf}
use Rattle.node_laws.proofs.Lists.{all_append, all_weaker, set_look}
use Rattle.node_laws.proofs.Steps.{steps_keep_numbers_law}
use Rattle.cluster_rules.specs.Clusters.{Cluster, opening, node_at, view_of_epoch, last_view}
use Rattle.cluster_rules.specs.ClusterStep.{step}
use Rattle.cluster_rules.specs.Links.{link_at, head_at, tail_of}
use Rattle.cluster_laws.specs.Handed.{IsHanded}
use Rattle.cluster_laws.specs.Laws.{IsGoodPlan}
use Rattle.cluster_laws.specs.Sound.{IsMember, IsOnLink, IsCluster}
use Rattle.cluster_laws.proofs.Lists.{look_counted, look_same}
use Rattle.cluster_laws.proofs.Steps.{up_is_member_law, plans_are_good_law}
use Rattle.cluster_laws.specs.Era.Counts.{is_dropped}
use Rattle.cluster_laws.specs.Era.CountLaws.{IsOfView}
use Rattle.cluster_laws.specs.Era.EraLaws.{AreKept}
use Rattle.cluster_laws.specs.Era.Eras.{born_in, owner_at, born_at}
use Rattle.cluster_laws.proofs.EraParts.Counted.{counting_is_of_view_law}
use Rattle.cluster_laws.proofs.EraParts.Epochs.{steps_keep_made_law}
use Rattle.cluster_laws.specs.Link.Coming.{sent_to}
use Rattle.cluster_laws.specs.Link.StepLaws.{IsPlanned, IsNodeStep, node_stays, node_acts, node_lost, node_starts, IsLinkStep, link_stays, link_gets, link_loses, link_cleared}
use Rattle.cluster_laws.proofs.LinkParts.Nodes.{nodes_step_law}
use Rattle.cluster_laws.proofs.LinkParts.Stepped.{sizes_stay_law, links_step_law}
use Rattle.page_relation.specs.Together.{IsOf, PartiesAre, IsParty}
use Rattle.related_runs.specs.Parties.{IsLiving, WaitLiving, TablesLiving, HaveLiving, HaveParties, OpeningHasLiving, StepsKeepParties}
use Rattle.related_runs.proofs.Talking.{PartiesIn}
use Rattle.related_runs.proofs.Waiters.{open_waits}
use Rattle.related_runs.proofs.TalkSteps.{MayTake, MayHear, IsSpoken, plans_speak}

-- the same parties, by the sizes alone
to_cluster : (k : Cluster) (v : View) (a b e : ℕ) (x : Body) → PartiesIn k.config v a b e x → PartiesAre k v a b e x
to_cluster k v a b e (body.Request r) is = is
to_cluster k v a b e (body.Grant g) is = is
to_cluster k v a b e (body.Release r) is = is
to_cluster k v a b e (body.Revoke p) is = is
to_cluster k v a b e (body.Return r) is = is
to_cluster k v a b e (body.Report r) is = is

from_cluster : (k : Cluster) (v : View) (a b e : ℕ) (x : Body) → PartiesAre k v a b e x → PartiesIn k.config v a b e x
from_cluster k v a b e (body.Request r) is = is
from_cluster k v a b e (body.Grant g) is = is
from_cluster k v a b e (body.Release r) is = is
from_cluster k v a b e (body.Revoke p) is = is
from_cluster k v a b e (body.Return r) is = is
from_cluster k v a b e (body.Report r) is = is

-- ---- the message that a node takes
head_all : (P : Message → Type 0) (ms : List Message) (m : Message) → AllByRecursion P ms → head_of ms ≡ Some m → P m
head_all P [] m all e = absurd (cc)
head_all P (x ∷ ms) m all e = let same : x ≡ m = cc in subst P same all.0

delivered : (c : Cluster) (e : Event) (n : ℕ) (s : NodeState) (from : ℕ) (m : Message) → IsHanded c e n s (node.Deliver from m) → head_at c.links from n ≡ Some m
delivered c (event.Begin k) n s from m h = let bad = h.event in absurd (cc)
delivered c (event.Read t p) n s from m h = let bad = h.event in absurd (cc)
delivered c (event.Write t p place bytes) n s from m h = let bad = h.event in absurd (cc)
delivered c (event.Commit t) n s from m h = let bad = h.event in absurd (cc)
delivered c (event.Abort t) n s from m h = let bad = h.event in absurd (cc)
delivered c (event.Evict k p) n s from m h = let bad = h.event in absurd (cc)
delivered c (event.Flush k p) n s from m h = let bad = h.event in absurd (cc)
delivered c (event.Crash k) n s from m h = let bad = h.event in absurd (cc)
delivered c (event.View live owners) n s from m h = let bad = h.event in absurd (cc)
delivered c event.Reopen n s from m h = let bad = h.event in absurd (cc)
delivered c (event.Arm k call stops) n s from m h = let bad = h.event in absurd (cc)
delivered c (event.Cut k) n s from m h = let bad = h.event in absurd (cc)
delivered c (event.Install k) n s from m h = by (view_of_epoch c.views (s.epoch + 1)) h.event
  where
    by : (o : Option View) → option_map node.Install o ≡ Some (node.Deliver from m) → head_at c.links from n ≡ Some m
    by None g = absurd (cc)
    by (Some v) g = absurd (cc)
delivered c (event.Deliver a b) n s from m h = by (is_some s.view) (head_at c.links a b) refl h.event
  where
    acts : Some b ≡ Some n
    acts = h.acts

    by : (x : Bool) (o : Option Message) → head_at c.links a b ≡ o → pick x (option_map (node.Deliver a) o) None ≡ Some (node.Deliver from m) → head_at c.links from n ≡ Some m
    by false o e g = absurd (cc)
    by true None e g = absurd (cc)
    by true (Some k) e g =
        let at : b ≡ n = cc in
        let sender : a ≡ from = cc in
        let same : k ≡ m = cc in
        ap (λ (j : ℕ). head_at c.links j n) (sym sender) ∙ ap (λ (j : ℕ). head_at c.links a j) (sym at) ∙ e ∙ ap Some same

module _ (c : Cluster) (i : IsCluster c) where
  -- a transaction of a message's sender is living where the message is taken
  module _ (n : ℕ) (s : NodeState) (v : View) (up : node_at c n ≡ Some s) (there : s.view ≡ Some v) (from q : ℕ) (m : Message) (taken : judge v (number_of s) from m.epoch q ≡ verdict.Taken) where
    between : IsBetween v (number_of s) from m.epoch q
    between = (taken_is_between_law v (number_of s) from m.epoch q).0 taken

    of_view : IsOfView c v n from q m.epoch
    of_view =
        counting_is_of_view_law c n s v from q m.epoch i up there (ap (λ x. not (is_dropped x)) taken) between.reached

    living : (w : View) → view_of_epoch c.views m.epoch ≡ Some w → (t : TxId) → IsOf w from t → IsLiving v t
    unfolding born_at
    living w made t is =
        record {
          live = ap (is_live v.live) is.node ∙ between.sender;
          born =
              is.born ∙ ap (λ o. born_in o from) (sym made) ∙ of_view.sender.born ∙ ap (born_of v) (sym is.node);
        }

    same_owner : (w : View) → view_of_epoch c.views m.epoch ≡ Some w → owner_of v q ≡ owner_of w q
    unfolding owner_at
    same_owner w made = sym of_view.owner ∙ ap (λ o. owner_in o q) made

  all_living : (w v : View) (from : ℕ) → ((t : TxId) → IsOf w from t → IsLiving v t) → (xs : List ReportWait) → AllByRecursion (λ (x : ReportWait). IsOf w from x.tx) xs
      → AllByRecursion (λ (x : ReportWait). IsLiving v x.tx) xs
  all_living w v from k xs all = all_weaker (λ (x : ReportWait). IsOf w from x.tx) (λ (x : ReportWait). IsLiving v x.tx) (λ x is. k x.tx is) xs all

  -- what it takes may be taken
  module _ (n : ℕ) (s : NodeState) (v : View) (up : node_at c n ≡ Some s) (there : s.view ≡ Some v) (config : s.home.config ≡ c.config) (from : ℕ) (m : Message) (party : IsParty c from n m) where
    may_take : (x : Body) → PartiesAre c party.view from n m.epoch x → judge v (number_of s) from m.epoch (partition_of s.home.config x) ≡ verdict.Taken → MayTake s.home.config v from x
    may_take (body.Request r) is taken = living n s v up there from (partition s.home.config r.page) m taken party.view party.made r.tx is.1
    may_take (body.Grant g) is taken = tt
    may_take (body.Release r) is taken = tt
    may_take (body.Revoke p) is taken =
        same_owner n s v up there from (partition s.home.config p) m taken party.view party.made ∙ ap (λ (k : Sizes). owner_of party.view (partition k p)) config ∙ is
    may_take (body.Return r) is taken = tt
    may_take (body.Report r) is taken =
        all_living party.view v from (λ t of. living n s v up there from r.partition m taken party.view party.made t of) r.waits is.3

  module _ (parties : HaveParties c) (e : Event) (n : ℕ) (s : NodeState) (handed_up : node_at c n ≡ Some s) (config : s.home.config ≡ c.config) where
    hear : (ev : NodeEvent) → IsHanded c e n s ev → (v : View) → s.view ≡ Some v → MayHear s v ev
    hear node.Begin h v there = tt
    hear (node.Read t p) h v there = tt
    hear (node.Write t p place bytes) h v there = tt
    hear (node.Commit t) h v there = tt
    hear (node.Abort t) h v there = tt
    hear (node.Evict p) h v there = tt
    hear (node.Flush p) h v there = tt
    hear (node.Install w) h v there = tt
    hear node.Cut h v there = tt
    hear (node.Deliver from m) h v there = λ taken.
        let party = head_all (IsParty c from n) (link_at c.links from n) m (parties from n) (delivered c e n s from m h) in
        may_take n s v handed_up there config from m party m.body party.parties
        (ap (λ (o : Option View). judge_in o (number_of s) from m.epoch (partition_of s.home.config m.body)) (sym there) ∙ taken)

-- ---- a step
none_sent : (P : Message → Type 0) (b : ℕ) (os : List Outgoing) → os ≡ [] → AllByRecursion P (sent_to b os)
unfolding sent_to
none_sent P b os none = subst (λ (xs : List Outgoing). AllByRecursion P (sent_to b xs)) (sym none) tt

all_with : {X : Type 0} (P Q R : X → Type 0) → ((x : X) → P x → Q x → R x) → (xs : List X) → AllByRecursion P xs → AllByRecursion Q xs → AllByRecursion R xs
all_with P Q R k [] ps qs = tt
all_with P Q R k (x ∷ xs) ps qs = (k x ps.0 qs.0, all_with P Q R k xs ps.1 qs.1)

all_tail : (P : Message → Type 0) (ms : List Message) → AllByRecursion P ms → AllByRecursion P (tail_of ms)
all_tail P [] all = tt
all_tail P (m ∷ ms) all = all.1

module _ (c : Cluster) (e : Event) (i : IsCluster c) (lives : HaveLiving c) (parties : HaveParties c) where
  member_of : (n : ℕ) (s : NodeState) → node_at c n ≡ Some s → IsMember c.config c.views n s
  member_of n s up = (up_is_member_law c n s i up).1

  module _ (n : ℕ) (s : NodeState) (ev : NodeEvent) (p : Plan) (planned : IsPlanned c e n s ev p) where
    good : IsGoodPlan c n s ev p
    good = plans_are_good_law c e n s ev p i planned.handed planned.goes

    config : s.home.config ≡ c.config
    config = (member_of n s planned.handed.up).config

    spoken : ((v : View) → p.node.view ≡ Some v → IsSpoken s.home.config (number_of s) v p) × (p.node.view ≡ None → p.sends ≡ [])
    spoken =
        plans_speak s ev c.disk p good.step (subst (λ (o : Option NodeState). IfSome o TablesLiving) planned.handed.up (lives n))
        (hear c i parties e n s planned.handed.up config ev planned.handed)

    acts_living : TablesLiving p.node
    acts_living = by p.node.view refl
      where
        by : (o : Option View) → p.node.view ≡ o → IfSome o (λ v. (q : ℕ) → q < p.node.home.config.nodes → IfSome (table_at p.node q) (WaitLiving v))
        by None view = tt
        by (Some v) view = λ q low. (spoken.0 v view).tables q (subst (λ (k : Sizes). q < k.nodes) ((steps_keep_numbers_law s ev c.disk p good.step).0) low)

    -- what it sends
    kept : AreKept c (step c e)
    kept = steps_keep_made_law c e i

    sent_party : (b : ℕ) (v : View) → p.node.view ≡ Some v → (os : List Outgoing) → AllByRecursion (λ (o : Outgoing). (o.message.epoch ≡ v.epoch) × PartiesIn s.home.config v (number_of s) o.to v.epoch o.message.body) os
        → AllByRecursion (IsParty (step c e) n b) (sent_to b os)
    unfolding sent_to
    sent_party b v view [] all = tt
    sent_party b v view (o ∷ os) all = by (o.to == b) refl (sent_party b v view os all.1)
      where
        is : IsViewOf p.node v
        is = subst (λ (x : Option View). IfSome x (IsViewOf p.node)) view good.member.sound.view

        at : view_of_epoch c.views p.node.epoch ≡ Some v
        at = subst (λ (x : Option View). IfSome x (λ w. view_of_epoch c.views p.node.epoch ≡ Some w)) view good.member.view

        epoch : o.message.epoch ≡ p.node.epoch
        epoch = all.0.0 ∙ is.epoch

        sizes : s.home.config ≡ (step c e).config
        sizes = config ∙ sym (sizes_stay_law c e)

        made : view_of_epoch (step c e).views o.message.epoch ≡ Some v
        made = ap (view_of_epoch (step c e).views) epoch ∙ kept.made p.node.epoch good.member.reached ∙ at

        of : (k : ℕ) → o.to ≡ k → PartiesIn (step c e).config v n k o.message.epoch o.message.body
        of k to =
            subst (λ (j : ℕ). PartiesIn (step c e).config v n k j o.message.body) (sym all.0.0)
            (subst (λ (j : ℕ). PartiesIn (step c e).config v n j v.epoch o.message.body) to
            (subst (λ (j : ℕ). PartiesIn (step c e).config v j o.to v.epoch o.message.body) (member_of n s planned.handed.up).number
            (subst (λ (k : Sizes). PartiesIn k v (number_of s) o.to v.epoch o.message.body) sizes all.0.1)))

        by : (x : Bool) → (o.to == b) ≡ x → AllByRecursion (IsParty (step c e) n b) (sent_to b os) → AllByRecursion (IsParty (step c e) n b) (pick x (o.message ∷ sent_to b os) (sent_to b os))
        by true same rest = (
          record {
            view = v;
            made = made;
            live = ap (is_live v.live) (sym good.member.number) ∙ is.live;
            parties = to_cluster (step c e) v n b o.message.epoch o.message.body (of b (number_equal o.to b same));
          },
          rest,
        )
        by false same rest = rest

    sent_parties : (b : ℕ) → AllByRecursion (IsParty (step c e) n b) (sent_to b p.sends)
    sent_parties b = by p.node.view refl
      where
        by : (o : Option View) → p.node.view ≡ o → AllByRecursion (IsParty (step c e) n b) (sent_to b p.sends)
        by None view = none_sent (IsParty (step c e) n b) b p.sends (spoken.1 view)
        by (Some v) view = sent_party b v view p.sends ((spoken.0 v view).said (subst (λ (k : Sizes). 1 ≤ k.nodes) (sym config) i.limits.some_nodes))

  -- a message that was there
  still_party : (a b : ℕ) (m : Message) → IsOnLink c.config (last_view c).epoch a b m → IsParty c a b m → IsParty (step c e) a b m
  still_party a b m on x =
      record {
        view = x.view;
        made = (steps_keep_made_law c e i).made m.epoch on.epoch ∙ x.made;
        live = x.live;
        parties =
            to_cluster (step c e) x.view a b m.epoch m.body
            (subst (λ (k : Sizes). PartiesIn k x.view a b m.epoch m.body) (sym (sizes_stay_law c e)) (from_cluster c x.view a b m.epoch m.body x.parties));
      }

  still : (a b : ℕ) → AllByRecursion (IsParty (step c e) a b) (link_at c.links a b)
  still a b = all_with (IsOnLink c.config (last_view c).epoch a b) (IsParty c a b) (IsParty (step c e) a b) (still_party a b) (link_at c.links a b) (i.links.messages a b) (parties a b)

  step_parties : HaveParties (step c e)
  step_parties a b = by (links_step_law c e a b i)
    where
      by : IsLinkStep c e a b (node_at (step c e) a) (node_at (step c e) b) (link_at (step c e).links a b) → AllByRecursion (IsParty (step c e) a b) (link_at (step c e).links a b)
      by (link_stays same) = subst (AllByRecursion (IsParty (step c e) a b)) (sym same) (still a b)
      by (link_gets s ev p planned up from now same) =
          subst (AllByRecursion (IsParty (step c e) a b)) (sym same)
          (all_append (IsParty (step c e) a b) (link_at c.links a b) (sent_to b p.sends) (still a b) (sent_parties a s ev p planned b))
      by (link_loses s ev p is planned taken now same) = subst (AllByRecursion (IsParty (step c e) a b)) (sym same) (all_tail (IsParty (step c e) a b) (link_at c.links a b) (still a b))
      by (link_cleared now same) = subst (AllByRecursion (IsParty (step c e) a b)) (sym same) tt

  step_living : HaveLiving (step c e)
  unfolding start_node
  step_living n = by (nodes_step_law c e n i)
    where
      by : IsNodeStep c e n (node_at (step c e) n) → IfSome (node_at (step c e) n) TablesLiving
      by (node_stays same) = subst (λ (o : Option NodeState). IfSome o TablesLiving) (sym same) (lives n)
      by (node_acts s ev p planned same) = subst (λ (o : Option NodeState). IfSome o TablesLiving) (sym same) (acts_living n s ev p planned)
      by (node_lost same) = subst (λ (o : Option NodeState). IfSome o TablesLiving) (sym same) tt
      by (node_starts same down) = subst (λ (o : Option NodeState). IfSome o TablesLiving) (sym same) tt

pub steps_keep_parties_law : StepsKeepParties
steps_keep_parties_law c e i lives parties = (step_living c e i lives parties, step_parties c e i lives parties)

-- in the opening cluster nobody waits
first_living : (c : Sizes) (k : ℕ) → TablesLiving (first_node c k)
unfolding first_node
first_living c k q low =
    set_look (λ (o : Option LockTable). IfSome o (WaitLiving (first c))) None (replicate c.nodes None) k q (Some (open_table c k true)) (λ same. open_waits (IsLiving (first c)) c k true)
    (subst (λ (o : Option LockTable). IfSome o (WaitLiving (first c))) (sym (look_same (λ (o : Option LockTable). o ≡ None) c.nodes q None None refl refl)) tt)

pub opening_has_living_law : OpeningHasLiving
unfolding opening first_node
opening_has_living_law c n =
    look_counted (λ j (o : Option NodeState). IfSome o TablesLiving) None (λ k. Some (first_node c k)) c.nodes 0 n (λ j low. first_living c (0 + j)) (λ j. tt)
