-- What a step adds to the trace and to the links.
use Rattle.std.proofs.Common.{◌≡◌, ◌≢◌, refl, ap, sym, subst, ◌∙◌, inl, inr, ℕ, zero, suc, ◌+◌, ◌-◌, ◌≤◌, Bool, true, false, List, [], ◌∷◌, ◌++◌, length, length-append, map, Option, Some, None, slice_index_or, slice_set, arith}
use Rattle.std.proofs.lemmas.List.{length-map}
use Rattle.pcl_base.specs.declared.event.Event.{Event}
use Rattle.pcl_base.specs.declared.event.Event.TheVariants as event
use Rattle.pcl_base.specs.declared.message.Message.{Message}
use Rattle.pcl_base.specs.declared.reply.Reply.{Reply}
use Rattle.pcl_base.specs.declared.reply.Reply.TheVariants as reply
use Rattle.pcl_base.specs.declared.trace.Entry.{Entry}
use Rattle.node_rules.specs.Words.{pick}
use Rattle.node_rules.specs.NodeState.{NodeState, NodeEvent, Outgoing}
use Rattle.node_rules.specs.DiskCalls.{Left}
use Rattle.node_rules.specs.Work.{Outcome, Goes, Differs}
use Rattle.node_rules.specs.NodeStep.{Plan, nodestep}
use Rattle.step_laws.specs.Most.{most}
use Rattle.step_laws.proofs.Steps.{replies_at_most_law, sends_at_most_law}
use Rattle.cluster_rules.specs.Links.{Links, row_at, link_at, put_link, tail_of, take_head, send, send_all, clear_into}
use Rattle.cluster_rules.specs.Clusters.{Cluster, node_at, is_up, stop_at, put_stop, lose, last_view, answer, sent_by}
use Rattle.cluster_rules.specs.ClusterStep.{is_taken, links_after, made, made_or_halted, left_of, after_plan, node_step, start_one, start_all, all_nodes, returning}
use Rattle.cluster_laws.specs.Handed.{IsHanded}
use Rattle.cluster_laws.specs.Counting.{AddsOne, StepsAreCounted, LinkStays, same, taken, cleared, OtherLinksStay, LinksGrowByMost}
use Rattle.node_laws.proofs.Lists.{set_look}
use Rattle.cluster_laws.proofs.Linked.{row_cleared}
use Rattle.cluster_laws.proofs.Cases.{by_step, handed_is_stepped_law}

-- an entry that has no sends
quiet : (c : Cluster) (e : Event) (x : Entry) (d : Cluster) → d.trace ≡ c.trace ++ x ∷ [] → x.event ≡ e → x.sent ≡ [] → length x.replies ≤ 1 → AddsOne c e d
quiet c e x d added is none few = record { entry = x; added = added; event = is; few = inl (record { sent = none; replies = few }) }

-- nodes that start add nothing
same_trace : (k : ℕ) (ns : List ℕ) (c : Cluster) → (start_all k ns c).trace ≡ c.trace
same_trace k [] c = refl
same_trace k (n ∷ ns) c = same_trace k ns (start_one k c n)

same_links : (k : ℕ) (ns : List ℕ) (c : Cluster) → (start_all k ns c).links ≡ c.links
same_links k [] c = refl
same_links k (n ∷ ns) c = same_links k ns (start_one k c n)

-- an entry with one reply, behind the same entries
answered : (c : Cluster) (e : Event) (r : Reply) (d : Cluster) → d.trace ≡ c.trace → AddsOne c e (answer e r d)
answered c e r d is =
    let x : Entry = record { event = e; replies = r ∷ []; sent = []; halted = None } in
    quiet c e x (answer e r d) (ap (λ (t : List Entry). t ++ x ∷ []) is) refl refl (omega arith)

-- a node's step
stepped_adds : (c : Cluster) (e : Event) (n : ℕ) (s : NodeState) (ev : NodeEvent) → IsHanded c e n s ev → AddsOne c e (node_step e n s ev c)
unfolding node_step lose
stepped_adds c e n s ev h = by (nodestep s ev c.disk) refl
  where
    whole : (p : Plan) → nodestep s ev c.disk ≡ Goes p → (o : Option Left) → AddsOne c e (made_or_halted e n p o c)
    whole p goes None =
        let long = length-map p.sends (sent_by n) in
        let few = sends_at_most_law s ev c.disk p goes in
        record {
          entry = record { event = e; replies = p.replies; sent = map (sent_by n) p.sends; halted = None };
          added = refl;
          event = refl;
          few =
              inr (record {
                node = n;
                state = s;
                event = ev;
                handed = h;
                sent = omega (arith, long, few);
                replies = replies_at_most_law s ev c.disk p goes;
              });
        }
    whole p goes (Some l) = quiet c e (record { event = e; replies = []; sent = []; halted = Some (record { call = l.call; kept = l.kept }) }) _ refl refl refl (omega arith)

    by : (o : Outcome Plan) → nodestep s ev c.disk ≡ o → AddsOne c e (after_plan e n c o)
    by (Goes p) goes = whole p goes (left_of n c.disk p.calls (stop_at c n))
    by (Differs p expected found) goes = quiet c e (record { event = e; replies = []; sent = []; halted = None }) _ refl refl refl (omega arith)

lost_trace : (n : ℕ) (c : Cluster) → (lose n c).trace ≡ c.trace
unfolding lose
lost_trace n c = refl

pub steps_are_counted_law : StepsAreCounted
steps_are_counted_law c e =
    by_step (AddsOne c e) c e
    (record {
      refused = λ r. answered c e (reply.Refused r) c refl;
      crashed = λ n is. answered c e reply.Crashed (lose n c) (lost_trace n c);
      armed = λ n call kept is. answered c e reply.Armed (put_stop c n (Some (record { before = call - 1; kept = kept }))) refl;
      handed = λ n s ev h. stepped_adds c e n s ev h;
      viewed = λ live owners v made drops. answered c e (reply.Viewed v.epoch) _ (same_trace (last_view c).epoch (returning (last_view c) v (all_nodes c)) c);
      reopened = λ v made down. answered c e (reply.Reopened v.epoch) _ (same_trace (last_view c).epoch (all_nodes c) c);
    })

-- a link after a change of links
put_look : (P : List Message → Type 0) (ls : Links) (a b x y : ℕ) (ms : List Message) → (x ≡ a → y ≡ b → P ms) → P (link_at ls x y) → P (link_at (put_link ls a b ms) x y)
unfolding put_link link_at
put_look P ls a b x y ms new old =
    set_look (λ (r : List (List Message)). P (slice_index_or r y [])) [] ls a x (slice_set (row_at ls a) b ms)
    (λ f. set_look P [] (row_at ls a) b y ms (new f) (subst (λ (z : ℕ). P (slice_index_or (row_at ls z) y [])) f old)) old

clear_look : (P : List Message → Type 0) (ls : Links) (b x y : ℕ) → (y ≡ b → P []) → P (link_at ls x y) → P (link_at (clear_into ls b) x y)
unfolding link_at
clear_look P ls b x y new old =
    subst (λ (r : List (List Message)). P (slice_index_or r y [])) (sym (row_cleared ls b x)) (set_look P [] (row_at ls x) b y [] new old)

send_look : (up : ℕ → Bool) (n : ℕ) (os : List Outgoing) (ls : Links) (x y : ℕ) → x ≢ n → link_at (send_all up n ls os) x y ≡ link_at ls x y
unfolding send_all
send_look up n [] ls x y other = refl
send_look up n (o ∷ os) ls x y other = send_look up n os (send up n ls o) x y other ∙ by (up o.to)
  where
    by : (b : Bool) → link_at (pick b (put_link ls n o.to (link_at ls n o.to ++ o.message ∷ [])) ls) x y ≡ link_at ls x y
    by true = put_look (λ (ms : List Message). ms ≡ link_at ls x y) ls n o.to x y _ (λ f g. absurd (other f)) refl
    by false = refl

send_grows : (up : ℕ → Bool) (n : ℕ) (os : List Outgoing) (ls : Links) (x y : ℕ) → length (link_at (send_all up n ls os) x y) ≤ length (link_at ls x y) + length os
unfolding send_all
send_grows up n [] ls x y = omega arith
send_grows up n (o ∷ os) ls x y =
    let rest = send_grows up n os (send up n ls o) x y in
    let one = by (up o.to) in
    omega (arith, rest, one)
  where
    by : (b : Bool) → length (link_at (pick b (put_link ls n o.to (link_at ls n o.to ++ o.message ∷ [])) ls) x y) ≤ length (link_at ls x y) + 1
    by true =
        put_look (λ (ms : List Message). length ms ≤ length (link_at ls x y) + 1) ls n o.to x y (link_at ls n o.to ++ o.message ∷ [])
        (λ f g.
        let more = length-append (link_at ls n o.to) (o.message ∷ []) in
        let alike : link_at ls x y ≡ link_at ls n o.to = ap (λ (k : ℕ). link_at ls k y) f ∙ ap (link_at ls n) g in
        let long = ap (λ (ms : List Message). length ms) alike in
        omega (arith, more, long))
        (omega arith)
    by false = omega arith

-- the link from x to y once the head was taken, if it was
after_look : (P : List Message → Type 0) (e : Event) (rs : List Reply) (ls : Links) (x y : ℕ) → (e ≡ event.Deliver x y → P (tail_of (link_at ls x y))) → P (link_at ls x y) → P (link_at (links_after e rs ls) x y)
after_look P (event.Deliver from to) rs ls x y new old = by (is_taken rs)
  where
    by : (b : Bool) → P (link_at (pick b (take_head ls from to) ls) x y)
    by true =
        put_look P ls from to x y (tail_of (link_at ls from to))
        (λ f g.
        let alike : link_at ls x y ≡ link_at ls from to = ap (λ (k : ℕ). link_at ls k y) f ∙ ap (link_at ls from) g in
        let at : event.Deliver from to ≡ event.Deliver x y = ap (λ (k : ℕ). event.Deliver k to) (sym f) ∙ ap (event.Deliver x) (sym g) in
        subst (λ (ms : List Message). P (tail_of ms)) alike (new at))
        old
    by false = old
after_look P (event.Begin n) rs ls x y new old = old
after_look P (event.Read t p) rs ls x y new old = old
after_look P (event.Write t p place bytes) rs ls x y new old = old
after_look P (event.Commit t) rs ls x y new old = old
after_look P (event.Abort t) rs ls x y new old = old
after_look P (event.Evict n p) rs ls x y new old = old
after_look P (event.Flush n p) rs ls x y new old = old
after_look P (event.Crash n) rs ls x y new old = old
after_look P (event.View live owners) rs ls x y new old = old
after_look P (event.Install n) rs ls x y new old = old
after_look P event.Reopen rs ls x y new old = old
after_look P (event.Arm n call kept) rs ls x y new old = old
after_look P (event.Cut n) rs ls x y new old = old

none_set : (ss : List (Option NodeState)) (n : ℕ) → slice_index_or (slice_set ss n None) n None ≡ None
none_set [] n = refl
none_set (s ∷ ss) zero = refl
none_set (s ∷ ss) (suc n) = none_set ss n

none_at : (ss : List (Option NodeState)) (n b : ℕ) → b ≡ n → slice_index_or (slice_set ss n None) b None ≡ None
none_at ss n b at = subst (λ (k : ℕ). slice_index_or (slice_set ss n None) k None ≡ None) (sym at) (none_set ss n)

-- a link once a node is lost
lost_stays : (c d : Cluster) (e : Event) (n a b : ℕ) → ((now : Option NodeState) → LinkStays c e a b now (link_at d.links a b))
    → LinkStays c e a b (node_at (lose n d) b) (link_at (lose n d).links a b)
unfolding lose
lost_stays c d e n a b old =
    clear_look (LinkStays c e a b (node_at (lose n d) b)) d.links n a b (λ at. cleared (none_at d.nodes n b at) refl) (old (node_at (lose n d) b))

stepped_stays : (c : Cluster) (e : Event) (n : ℕ) (s : NodeState) (ev : NodeEvent) (a b : ℕ) → a ≢ n
    → LinkStays c e a b (node_at (node_step e n s ev c) b) (link_at (node_step e n s ev c).links a b)
unfolding node_step
stepped_stays c e n s ev a b other = by (nodestep s ev c.disk)
  where
    after : (rs : List Reply) (now : Option NodeState) → LinkStays c e a b now (link_at (links_after e rs c.links) a b)
    after rs now = after_look (LinkStays c e a b now) e rs c.links a b (λ is. taken is refl) (same refl)

    whole : (p : Plan) (o : Option Left) → LinkStays c e a b (node_at (made_or_halted e n p o c) b) (link_at (made_or_halted e n p o c).links a b)
    whole p None =
        subst (LinkStays c e a b (node_at (made e n p c) b)) (sym (send_look (is_up c) n p.sends (links_after e p.replies c.links) a b other)) (after p.replies (node_at (made e n p c) b))
    whole p (Some l) = lost_stays c (record c { disk = l.disk; links = links_after e [] c.links }) e n a b (after [])

    by : (o : Outcome Plan) → LinkStays c e a b (node_at (after_plan e n c o) b) (link_at (after_plan e n c o).links a b)
    by (Goes p) = whole p (left_of n c.disk p.calls (stop_at c n))
    by (Differs p expected found) = lost_stays c c e n a b (λ now. same refl)

pub other_links_stay_law : OtherLinksStay
other_links_stay_law c e a b other =
    by_step (λ d. LinkStays c e a b (node_at d b) (link_at d.links a b)) c e
    (record {
      refused = λ r. same refl;
      crashed = λ n is. lost_stays c c e n a b (λ now. same refl);
      armed = λ n call kept is. same refl;
      handed = λ n s ev h. stepped_stays c e n s ev a b (λ f. other (h.acts ∙ ap (λ (k : ℕ). Some k) (sym f)));
      viewed = λ live owners v made drops. same (ap (λ (ls : Links). link_at ls a b) (same_links (last_view c).epoch (returning (last_view c) v (all_nodes c)) c));
      reopened = λ v made down. same (ap (λ (ls : Links). link_at ls a b) (same_links (last_view c).epoch (all_nodes c) c));
    })

-- a link from the acting node
shorter : (ms : List Message) → length (tail_of ms) ≤ length ms
shorter [] = omega arith
shorter (m ∷ ms) = omega arith

stepped_grows : (c : Cluster) (e : Event) (n : ℕ) (s : NodeState) (ev : NodeEvent) (b : ℕ) → length (link_at (node_step e n s ev c).links n b) ≤ length (link_at c.links n b) + most s ev
unfolding node_step lose
stepped_grows c e n s ev b = by (nodestep s ev c.disk) refl
  where
    after : (rs : List Reply) → length (link_at (links_after e rs c.links) n b) ≤ length (link_at c.links n b)
    after rs = after_look (λ (ms : List Message). length ms ≤ length (link_at c.links n b)) e rs c.links n b (λ is. shorter (link_at c.links n b)) (omega arith)

    emptied : (ls : Links) → length (link_at ls n b) ≤ length (link_at c.links n b) → length (link_at (clear_into ls n) n b) ≤ length (link_at c.links n b) + most s ev
    emptied ls le = clear_look (λ (ms : List Message). length ms ≤ length (link_at c.links n b) + most s ev) ls n n b (λ at. omega arith) (omega (arith, le))

    whole : (p : Plan) → nodestep s ev c.disk ≡ Goes p → (o : Option Left) → length (link_at (made_or_halted e n p o c).links n b) ≤ length (link_at c.links n b) + most s ev
    whole p goes None =
        let more = send_grows (is_up c) n p.sends (links_after e p.replies c.links) n b in
        let sends = sends_at_most_law s ev c.disk p goes in
        let less = after p.replies in
        omega (arith, more, sends, less)
    whole p goes (Some l) = emptied (links_after e [] c.links) (after [])

    by : (o : Outcome Plan) → nodestep s ev c.disk ≡ o → length (link_at (after_plan e n c o).links n b) ≤ length (link_at c.links n b) + most s ev
    by (Goes p) goes = whole p goes (left_of n c.disk p.calls (stop_at c n))
    by (Differs p expected found) goes = emptied c.links (omega arith)

pub links_grow_by_most_law : LinksGrowByMost
links_grow_by_most_law c e n s ev b h =
    subst (λ (d : Cluster). length (link_at d.links n b) ≤ length (link_at c.links n b) + most s ev) (sym (handed_is_stepped_law c e n s ev h)) (stepped_grows c e n s ev b)
