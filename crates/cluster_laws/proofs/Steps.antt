-- A step of a cluster keeps what holds of it.
use Rattle.std.proofs.Common.{◌≡◌, refl, ap, sym, subst, ◌∙◌, ℕ, zero, suc, ◌+◌, ◌-◌, ◌<◌, ◌&&◌, not, Bool, true, false, List, [], ◌∷◌, ◌++◌, length, Option, Some, None, is_some, option_map, cond, slice_index_or, Ok, arith}
use Rattle.std.specs.Prelude.{IfSome}
use Rattle.std.specs.List.{list_any, AllByRecursion, filter}
use Rattle.std.proofs.lemmas.List.{length-replicate, length-map}
use Rattle.pcl_base.specs.Limits.{Sizes, InLimits}
use Rattle.pcl_base.specs.declared.event.Event.{Event}
use Rattle.pcl_base.specs.declared.event.Event.TheVariants as event
use Rattle.pcl_base.specs.declared.message.Message.{Message}
use Rattle.pcl_base.specs.declared.reply.Reply.TheVariants as reply
use Rattle.text_rules.specs.MessageBytes.{IsMessage}
use Rattle.run_rules.specs.Views.{View, is_live, first, follows, next, reopen, anew, count_from}
use Rattle.node_rules.specs.Words.{pick, head_of}
use Rattle.node_rules.specs.NodeState.{NodeState, NodeEvent, start_node, number_of, first_node}
use Rattle.node_rules.specs.NodeState as node
use Rattle.node_rules.specs.Refusals.{may_begin}
use Rattle.rule_laws.specs.LaterViews.{IsWhole, IsNext, moves, reopens}
use Rattle.node_laws.specs.Nodes.{CanCome, IsOther}
use Rattle.node_laws.proofs.Disks.{fresh_fits_law}
use Rattle.rule_laws.proofs.Turns.{and_left, and_right, not_true}
use Rattle.cluster_rules.specs.Links.{head_at}
use Rattle.cluster_rules.specs.Clusters.{Cluster, node_at, is_up, opening, put_stop, lose, view_of_epoch, last_view}
use Rattle.cluster_rules.specs.ClusterStep.{named, all_nodes, returning, drops_up, add_view, make_view, make_reopened, step}
use Rattle.cluster_rules.specs.Run.{run_from, run}
use Rattle.cluster_laws.specs.Sound.{IsMember, IsOnLink, IsCluster}
use Rattle.cluster_laws.specs.Handed.{handed_to}
use Rattle.cluster_laws.specs.Laws.{OpeningIsCluster, StepKeepsClusters, RunsAreClusters, EventsCanCome, UpIsMember, PlansAreGood}
use Rattle.cluster_laws.proofs.Lists.{look_counted, length_counted, none_first, all_counted}
use Rattle.cluster_laws.proofs.Views.{IsFound, reopen_is, next_epoch, last_right, found_right, views_push, last_push}
use Rattle.cluster_laws.proofs.Moving.{next_follows}
use Rattle.cluster_laws.proofs.Linked.{links_later, links_empty, head_on}
use Rattle.cluster_laws.proofs.Members.{returns_with, reopens_with, live_anew, member_first, member_push, member_start}
use Rattle.cluster_laws.proofs.Changes.{noted, lost, with_stop, started}
use Rattle.cluster_laws.proofs.Nodes.{Comes, planned, stepped}
use Rattle.cluster_laws.proofs.Cases.{by_step}
use Rattle.node_rules.specs.DiskCalls.{Stop}

-- a node that is there
member_of : (c : Cluster) (n : ℕ) (s : NodeState) → IsCluster c → node_at c n ≡ Some s → IsMember c.config c.views n s
member_of c n s i up = subst (λ (o : Option NodeState). IfSome o (IsMember c.config c.views n)) up (i.members n)

-- a message that is handed to a node
head_comes : (c : Cluster) (from to : ℕ) (s : NodeState) (b : Bool) (o : Option Message) (ev : NodeEvent) → IsCluster c → IsMember c.config c.views to s → head_at c.links from to ≡ o
    → pick b (option_map (node.Deliver from) o) None ≡ Some ev → Comes c.views s ev
head_comes c from to s false o ev i is h e = absurd (cc)
head_comes c from to s true None ev i is h e = absurd (cc)
head_comes c from to s true (Some m) ev i is h e =
    let same : node.Deliver from m ≡ ev = cc in subst (Comes c.views s) same (record { can = can; next = λ v f. absurd (cc) })
  where
    on : IsOnLink c.config (last_view c).epoch from to m
    on = head_on c.config (last_view c).epoch c.links from to m i.links h

    can : CanCome s (node.Deliver from m)
    can = (
      subst (λ (k : Sizes). IsOther k (number_of s) from) (sym is.config)
          (subst (λ (k : ℕ). IsOther c.config k from) (sym is.number) (on.sender, on.others)),
      subst (λ (k : Sizes). IsMessage k m) (sym is.config) on.message,
    )

-- a view that is handed to a node
view_comes : (c : Cluster) (n : ℕ) (s : NodeState) (o : Option View) (ev : NodeEvent) → IsCluster c → IsMember c.config c.views n s → view_of_epoch c.views (s.epoch + 1) ≡ o
    → option_map node.Install o ≡ Some ev → Comes c.views s ev
view_comes c n s None ev i is h e = absurd (cc)
view_comes c n s (Some v) ev i is h e =
    let same : node.Install v ≡ ev = cc in subst (Comes c.views s) same (record { can = can; next = λ w f. (let alike : v ≡ w = cc in h ∙ ap (λ (x : View). Some x) alike) })
  where
    found : IsFound c.config (last_view c).epoch (s.epoch + 1) v
    found = found_right c.config c.views (s.epoch + 1) v i.views h

    can : CanCome s (node.Install v)
    can = (
      subst (λ (k : Sizes). IsWhole k v) (sym is.config) found.right.whole,
      subst (λ (k : ℕ). is_live v.live k ≡ true) (sym is.number)
          (subst (λ (x : Option View). IfSome x (λ w. is_live w.live n ≡ true)) h (is.kept (s.epoch + 1) (omega arith))),
      found.right.high,
    )

-- whatever is handed to a node can come to it
comes : (c : Cluster) (e : Event) (n : ℕ) (s : NodeState) (ev : NodeEvent) → IsCluster c → IsMember c.config c.views n s → head_of (named e) ≡ Some n → handed_to c s e ≡ Some ev → Comes c.views s ev
comes c (event.Begin m) n s ev i is a e = let same : node.Begin ≡ ev = cc in subst (Comes c.views s) same (record { can = tt; next = λ v f. absurd (cc) })
comes c (event.Read t p) n s ev i is a e = let same : node.Read t p ≡ ev = cc in subst (Comes c.views s) same (record { can = tt; next = λ v f. absurd (cc) })
comes c (event.Write t p place bytes) n s ev i is a e = let same : node.Write t p place bytes ≡ ev = cc in subst (Comes c.views s) same (record { can = tt; next = λ v f. absurd (cc) })
comes c (event.Commit t) n s ev i is a e = let same : node.Commit t ≡ ev = cc in subst (Comes c.views s) same (record { can = tt; next = λ v f. absurd (cc) })
comes c (event.Abort t) n s ev i is a e = let same : node.Abort t ≡ ev = cc in subst (Comes c.views s) same (record { can = tt; next = λ v f. absurd (cc) })
comes c (event.Deliver from to) n s ev i is a e =
    let same : n ≡ to = cc in
    head_comes c from to s (is_some s.view) (head_at c.links from to) ev i (subst (λ (k : ℕ). IsMember c.config c.views k s) same is) refl e
comes c (event.Evict m p) n s ev i is a e = let same : node.Evict p ≡ ev = cc in subst (Comes c.views s) same (record { can = tt; next = λ v f. absurd (cc) })
comes c (event.Flush m p) n s ev i is a e = let same : node.Flush p ≡ ev = cc in subst (Comes c.views s) same (record { can = tt; next = λ v f. absurd (cc) })
comes c (event.Crash m) n s ev i is a e = absurd (cc)
comes c (event.View live owners) n s ev i is a e = absurd (cc)
comes c (event.Install m) n s ev i is a e = view_comes c n s (view_of_epoch c.views (s.epoch + 1)) ev i is refl e
comes c event.Reopen n s ev i is a e = absurd (cc)
comes c (event.Arm m call kept) n s ev i is a e = absurd (cc)
comes c (event.Cut m) n s ev i is a e = let same : node.Cut ≡ ev = cc in subst (Comes c.views s) same (record { can = tt; next = λ v f. absurd (cc) })

-- a node that is up is one of the cluster
up_low : (ss : List (Option NodeState)) (n : ℕ) (s : NodeState) → slice_index_or ss n None ≡ Some s → n < length ss
up_low [] n s e = absurd (cc)
up_low (x ∷ ss) zero s e = omega arith
up_low (x ∷ ss) (suc n) s e = let rest = up_low ss n s e in omega (arith, rest)

-- what holds of those that pass a test
all_filtered : {X : Type 0} (P Q : X → Type 0) (p : X → Bool) → ((x : X) → p x ≡ true → Q x → P x) → (xs : List X) → AllByRecursion Q xs → AllByRecursion P (filter p xs)
all_filtered P Q p f [] all = tt
all_filtered P Q p f (x ∷ xs) all = by (p x) refl (all_filtered P Q p f xs all.1)
  where
    by : (b : Bool) → p x ≡ b → AllByRecursion P (filter p xs) → AllByRecursion P (cond b (x ∷ filter p xs) (filter p xs))
    by true e rest = (f x e all.0, rest)
    by false e rest = rest

-- a further view that keeps all nodes that are up
view_added : (c : Cluster) (v : View) → IsCluster c → IsNext c.config (last_view c) v → ((n : ℕ) (s : NodeState) → node_at c n ≡ Some s → (is_live v.live n ≡ true) × (follows c.config (last_view c) v ≡ true))
    → IsCluster (add_view v c)
view_added c v i is live =
    let at = (next_epoch c.config (last_view c) v is).0 in
    let last = ap (λ (x : View). x.epoch) (last_push (first c.config) c.views v) in
    record {
      limits = i.limits;
      views = views_push c.config c.views v i.views is;
      nodes = i.nodes;
      members = λ n. of n (node_at c n) refl (i.members n);
      links = links_later c.config (last_view c).epoch _ c.links (omega (arith, at, last)) i.links;
      disk = i.disk;
      stops = i.stops;
    }
  where
    of : (n : ℕ) (o : Option NodeState) → node_at c n ≡ o → IfSome o (IsMember c.config c.views n) → IfSome o (IsMember c.config (c.views ++ v ∷ []) n)
    of n None e is = tt
    of n (Some s) e member = member_push c.config c.views n v s i.views is (live n s e).0 (live n s e).1 member

-- a view, which brings some nodes back
view_made : (c : Cluster) (e : Event) (live : List Bool) (owners : List ℕ) (v : View) → IsCluster c → next c.config (last_view c) live owners ≡ Ok v → drops_up c v ≡ false
    → IsCluster (make_view false e v c)
view_made c e live owners v i made drops =
    noted e (reply.Viewed v.epoch ∷ []) [] None _
    (started (last_view c).epoch v (returning (last_view c) v (all_nodes c)) c
    (all_filtered (λ n. IsMember c.config (c.views ++ v ∷ []) n (start_node c.config n (last_view c).epoch)) (λ n. n < c.config.nodes)
    (λ n. is_live v.live n && not (is_live (last_view c).live n)) back (all_nodes c) (all_counted (λ n. n < c.config.nodes) c.config.nodes 0 (λ j low. omega (arith, low))))
    (view_added c v i is (keeps drops)))
  where
    is : IsNext c.config (last_view c) v
    is = moves live owners made

    keeps : drops_up c v ≡ false → (n : ℕ) (s : NodeState) → node_at c n ≡ Some s → (is_live v.live n ≡ true) × (follows c.config (last_view c) v ≡ true)
    keeps none n s up = (
      of (is_up c n) (is_live v.live n) (ap (λ (o : Option NodeState). is_some o) up)
          (none_first (λ k. is_up c k && not (is_live v.live k)) c.config.nodes n none (subst (λ (k : ℕ). n < k) i.nodes (up_low c.nodes n s up))),
      next_follows c.config (last_view c) v live owners made,
    )
      where
        of : (u b : Bool) → u ≡ true → u && not b ≡ false → b ≡ true
        of true true e f = refl
        of true false e f = absurd (cc)
        of false b e f = absurd (cc)

    back : (n : ℕ) → is_live v.live n && not (is_live (last_view c).live n) ≡ true → n < c.config.nodes → IsMember c.config (c.views ++ v ∷ []) n (start_node c.config n (last_view c).epoch)
    back n test low =
        let now : is_live v.live n ≡ true = and_left (is_live v.live n) (not (is_live (last_view c).live n)) test in
        let before : is_live (last_view c).live n ≡ false = not_true (is_live (last_view c).live n) (and_right (is_live v.live n) (not (is_live (last_view c).live n)) test) in
        member_start c.config c.views n v i.limits low i.views is now
        (returns_with c.config (last_view c) v live owners n (last_right c.config c.views i.views).whole made low now before)

-- a view in which all nodes begin anew
view_reopened : (c : Cluster) (e : Event) (v : View) → IsCluster c → reopen c.config (last_view c) ≡ Ok v → list_any (is_up c) (all_nodes c) ≡ false → IsCluster (make_reopened false e v c)
view_reopened c e v i made down =
    noted e (reply.Reopened v.epoch ∷ []) [] None _
    (started (last_view c).epoch v (all_nodes c) c (all_counted (λ n. IsMember c.config (c.views ++ v ∷ []) n (start_node c.config n (last_view c).epoch)) c.config.nodes 0 (λ j low. begun (0 + j) (omega (arith, low))))
    (view_added c v i (reopens made) (λ n s up. nobody n s up)))
  where
    same : anew c.config ((last_view c).epoch + 1) ≡ v
    same = (reopen_is c.config (last_view c) v made).0

    nobody : (n : ℕ) (s : NodeState) → node_at c n ≡ Some s → (is_live v.live n ≡ true) × (follows c.config (last_view c) v ≡ true)
    nobody n s up =
        let there : is_up c n ≡ true = ap (λ (o : Option NodeState). is_some o) up in
        let none : is_up c n ≡ false = none_first (is_up c) c.config.nodes n down (subst (λ (k : ℕ). n < k) i.nodes (up_low c.nodes n s up)) in
        let bad : true ≡ false = sym there ∙ none in
        absurd (cc)

    live : (n : ℕ) → n < c.config.nodes → is_live v.live n ≡ true
    live n low = subst (λ (x : View). is_live x.live n ≡ true) same (live_anew c.config ((last_view c).epoch + 1) n low)

    begun : (n : ℕ) → n < c.config.nodes → IsMember c.config (c.views ++ v ∷ []) n (start_node c.config n (last_view c).epoch)
    begun n low =
        member_start c.config c.views n v i.limits low i.views (reopens made) (live n low)
        (subst (λ (x : View). may_begin (start_node c.config n (last_view c).epoch) x ≡ true) same (reopens_with c.config (last_view c).epoch n low))

pub up_is_member_law : UpIsMember
up_is_member_law c n s i up = (subst (λ (k : ℕ). n < k) i.nodes (up_low c.nodes n s up), member_of c n s i up)

pub step_kept : (c : Cluster) (e : Event) → IsCluster c → IsCluster (step c e)
step_kept c e i =
    by_step IsCluster c e
    (record {
      refused = λ r. noted e (reply.Refused r ∷ []) [] None c i;
      crashed = λ n is. noted e (reply.Crashed ∷ []) [] None (lose n c) (lost n c i);
      armed = λ n call kept is.
          let stop : Option Stop = Some (record { before = call - 1; kept = kept }) in
          noted e (reply.Armed ∷ []) [] None (put_stop c n stop) (with_stop n stop c i);
      handed = λ n s ev h.
          let up = up_is_member_law c n s i h.up in
          stepped c e n s ev i up.0 up.1 (comes c e n s ev i up.1 h.acts h.event);
      viewed = λ live owners v made drops. view_made c e live owners v i made drops;
      reopened = λ v made down. view_reopened c e v i made down;
    })

pub opened : (c : Sizes) → InLimits c → IsCluster (opening c)
unfolding opening
opened c lim =
    record {
      limits = lim;
      views = (refl, tt);
      nodes = length-map (count_from 0 c.nodes) _ ∙ length_counted 0 c.nodes;
      members = λ n.
          look_counted (λ n o. IfSome o (IsMember c (first c ∷ []) n)) None (λ n. Some (first_node c n)) c.nodes 0 n
          (λ j low. subst (λ (k : ℕ). IsMember c (first c ∷ []) j (first_node c k)) (omega arith) (member_first c j lim low)) (λ j. tt);
      links = links_empty c 1;
      disk = fresh_fits_law c;
      stops = length-replicate c.nodes None;
    }

run_kept : (c : Cluster) (es : List Event) → IsCluster c → AllByRecursion IsCluster (run_from c es)
unfolding run_from
run_kept c [] i = (i, tt)
run_kept c (e ∷ es) i = (i, run_kept (step c e) es (step_kept c e i))

pub runs_kept : (c : Sizes) (es : List Event) → InLimits c → AllByRecursion IsCluster (run c es)
unfolding run
runs_kept c es lim = run_kept (opening c) es (opened c lim)

pub opening_is_cluster_law : OpeningIsCluster
opening_is_cluster_law c lim = opened c lim

pub step_keeps_clusters_law : StepKeepsClusters
step_keeps_clusters_law c e i = step_kept c e i

pub runs_are_clusters_law : RunsAreClusters
runs_are_clusters_law c es lim = runs_kept c es lim

pub events_can_come_law : EventsCanCome
events_can_come_law c e n s ev i h = (comes c e n s ev i (member_of c n s i h.up) h.acts h.event).can

pub plans_are_good_law : PlansAreGood
plans_are_good_law c e n s ev p i h goes =
    let up = up_is_member_law c n s i h.up in
    planned c n s ev p i up.0 up.1 (comes c e n s ev i up.1 h.acts h.event) goes
