-- No access is one of a page past the last.
use Rattle.std.proofs.Common.{◌≡◌, refl, sym, ap, subst, ◌∙◌, ℕ, ◌<◌, ◌≤◌, ◌==◌, Bool, true, false, List, [], ◌∷◌, ◌++◌, length, map, Option, Some, None, arith}
use Rattle.std.specs.Prelude.{⊤, IfSome}
use Rattle.std.specs.List.{AllByRecursion, fold, flat_map}
use Rattle.std.proofs.lemmas.Bool.Decides.{nat_tests}
use Rattle.pcl_base.specs.Limits.{Sizes}
use Rattle.pcl_base.specs.declared.event.Event.{Event}
use Rattle.pcl_base.specs.declared.reply.Reply.{Reply}
use Rattle.pcl_base.specs.declared.reply.Reply.TheVariants as reply
use Rattle.pcl_base.specs.declared.script.Step.TheVariants as step
use Rattle.pcl_base.specs.declared.trace.Entry.{Entry}
use Rattle.pcl_base.specs.declared.tx.TxId.{TxId}
use Rattle.run_rules.specs.Script.{Moment, Asks, Gets, Writes, Commits, asked, is_refused, told, kept, moments_of, moments, last_write, write_step, steps_at, script_from, script}
use Rattle.run_rules.specs.Words.{pick, same_tx}
use Rattle.node_rules.specs.DiskCalls.{Left}
use Rattle.node_rules.specs.NodeState.{NodeState, NodeEvent}
use Rattle.node_rules.specs.Work.{Outcome, Goes, Differs}
use Rattle.node_rules.specs.NodeStep.{Plan, nodestep}
use Rattle.node_laws.proofs.Lists.{all_append, all_weaker, set_same}
use Rattle.cluster_rules.specs.Clusters.{Cluster, opening, node_at, stop_at, sent_by, last_view, lose}
use Rattle.cluster_rules.specs.ClusterStep.{made, made_or_halted, left_of, after_plan, node_step, start_one, start_all, all_nodes, returning}
use Rattle.cluster_laws.specs.Handed.{IsHanded}
use Rattle.cluster_laws.specs.Sound.{IsMember, IsCluster}
use Rattle.cluster_laws.proofs.Cases.{by_step}
use Rattle.cluster_laws.proofs.Steps.{up_is_member_law, step_keeps_clusters_law, plans_are_good_law}
use Rattle.page_protocol.specs.Bytes.{Read, Write}
use Rattle.page_laws.specs.Moment.Looks.{accesses_of, accesses_in}
use Rattle.page_laws.proofs.MomentParts.Entries.{moments_more}
use Rattle.related_runs.specs.Granted.{StandsAt, Given, given_by, ReplyStands, RepliesStand}
use Rattle.related_runs.specs.Parts.{OpeningHasWithin, StepsHaveWithin}
use Rattle.related_runs.proofs.Entries.{quiet_asked, quiet_halt}
use Rattle.related_runs.proofs.Traces.{IsQuiet, script_joined, accesses_joined, no_moments}
use Rattle.related_runs.proofs.Stepped.{grants_stand_law}

-- a moment that accesses no page past the last
abbrev IsLow : ℕ → Moment → Type 0
IsLow k (Asks u w) = ⊤
IsLow k (Gets u q v bytes) = q < k
IsLow k (Writes u q v) = q < k
IsLow k (Commits u) = ⊤

quiet_low : (k : ℕ) (m : Moment) → IsQuiet m → IsLow k m
quiet_low k (Asks u w) quiet = tt
quiet_low k (Gets u q v bytes) quiet = absurd quiet
quiet_low k (Writes u q v) quiet = absurd quiet
quiet_low k (Commits u) quiet = tt

other_page : (k q p : ℕ) → q < k → k ≤ p → (q == p) ≡ false
other_page k q p low past = grind (arith, nat_tests, low, past)

read_past : (p q : ℕ) (bytes : List ℕ) (b : Bool) → (q == p) ≡ false → accesses_of p (pick b (step.Read q bytes ∷ []) []) ≡ []
unfolding accesses_of
read_past p q bytes true off = ap (λ x. pick x (Read bytes ∷ []) []) off
read_past p q bytes false off = refl

write_past : (p q : ℕ) (w : Option (ℕ × List ℕ)) (b : Bool) → (q == p) ≡ false → accesses_of p (pick b (write_step q w) []) ≡ []
unfolding accesses_of
write_past p q None true off = refl
write_past p q (Some w) true off = ap (λ x. pick x (Write w.0 w.1 ∷ []) []) off
write_past p q w false off = refl

nothing_past : (p : ℕ) → accesses_of p [] ≡ []
unfolding accesses_of
nothing_past p = refl

step_past : (k p : ℕ) → k ≤ p → (t : TxId) (w : Option (ℕ × List ℕ)) (m : Moment) → IsLow k m → accesses_of p (steps_at t w m) ≡ []
step_past k p past t w (Asks u v) low = nothing_past p
step_past k p past t w (Gets u q v bytes) low = read_past p q bytes (same_tx t u) (other_page k q p low past)
step_past k p past t w (Writes u q v) low = write_past p q w (same_tx t u) (other_page k q p low past)
step_past k p past t w (Commits u) low = nothing_past p

moments_past : (k p : ℕ) → k ≤ p → (t : TxId) (w : Option (ℕ × List ℕ)) (ms : List Moment) → AllByRecursion (IsLow k) ms → accesses_of p (script_from t w ms) ≡ []
unfolding script_from
moments_past k p past t w [] low = nothing_past p
moments_past k p past t w (m ∷ ms) low =
    accesses_joined p (steps_at t w m) (script_from t (last_write t w m) ms)
    ∙ ap (λ xs. xs ++ accesses_of p (script_from t (last_write t w m) ms)) (step_past k p past t w m low.0)
    ∙ moments_past k p past t (last_write t w m) ms low.1

-- an entry more
entry_past : (k p : ℕ) → k ≤ p → (t : TxId) (old : List Entry) (x : Entry) → AllByRecursion (IsLow k) (moments_of x) → accesses_in t p old ≡ [] → accesses_in t p (old ++ x ∷ []) ≡ []
unfolding accesses_in
entry_past k p past t old x low was =
    ap (λ ms. accesses_of p (script t ms)) (moments_more old x) ∙ ap (accesses_of p) (script_joined t None (moments old) (moments_of x))
    ∙ accesses_joined p (script t (moments old)) (script_from t (fold (last_write t) None (moments old)) (moments_of x))
    ∙ ap (λ xs. xs ++ accesses_of p (script_from t (fold (last_write t) None (moments old)) (moments_of x))) was
    ∙ moments_past k p past t (fold (last_write t) None (moments old)) (moments_of x) low

-- what a reply grants is no access of a page past the last
abbrev GrantsLow : ℕ → Reply → Type 0
GrantsLow k r = IfSome (given_by r) (λ (g : Given). g.page < k)

low_told : (k : ℕ) (r : Reply) → GrantsLow k r → AllByRecursion (IsLow k) (told r)
low_told k (reply.Begun t) low = tt
low_told k (reply.Committed t) low = (tt, tt)
low_told k (reply.Aborted t) low = tt
low_told k (reply.Value t p v bytes) low = (low, tt)
low_told k (reply.Done t p v) low = (low, tt)
low_told k (reply.Waits t p) low = tt
low_told k reply.Taken low = tt
low_told k reply.Held low = tt
low_told k reply.Dropped low = tt
low_told k reply.Evicted low = tt
low_told k reply.Flushed low = tt
low_told k reply.Crashed low = tt
low_told k reply.Armed low = tt
low_told k (reply.Cut count) low = tt
low_told k (reply.Viewed epoch) low = tt
low_told k (reply.Installed epoch) low = tt
low_told k (reply.Reopened epoch) low = tt
low_told k (reply.Serving q) low = tt
low_told k (reply.Refused reason) low = tt

low_replies : (k : ℕ) (rs : List Reply) → AllByRecursion (GrantsLow k) rs → AllByRecursion (IsLow k) (flat_map told rs)
low_replies k [] low = tt
low_replies k (r ∷ rs) low = all_append (IsLow k) (told r) (flat_map told rs) (low_told k r low.0) (low_replies k rs low.1)

low_moments : (k : ℕ) (x : Entry) → AllByRecursion (GrantsLow k) x.replies → AllByRecursion (IsLow k) (moments_of x)
unfolding moments_of
low_moments k x low =
    all_append (IsLow k) (pick (is_refused x) [] (asked x.event)) (flat_map told x.replies ++ kept x.halted)
    (all_weaker IsQuiet (IsLow k) (quiet_low k) (pick (is_refused x) [] (asked x.event)) (quiet_asked x.event (is_refused x)))
    (all_append (IsLow k) (flat_map told x.replies) (kept x.halted) (low_replies k x.replies low)
    (all_weaker IsQuiet (IsLow k) (quiet_low k) (kept x.halted) (quiet_halt x.halted)))

-- a trace without such accesses
abbrev IsWithin : ℕ → List Entry → Type 0
IsWithin k trace = (t : TxId) (p : ℕ) → k ≤ p → accesses_in t p trace ≡ []

low_entry : (k : ℕ) (old : List Entry) (x : Entry) → AllByRecursion (GrantsLow k) x.replies → IsWithin k old → IsWithin k (old ++ x ∷ [])
low_entry k old x low was t p past = entry_past k p past t old x (low_moments k x low) (was t p past)

-- replies that grant nothing
none_low : (k : ℕ) (r : Reply) → given_by r ≡ None → GrantsLow k r
none_low k r none = subst (λ (o : Option Given). IfSome o (λ (g : Given). g.page < k)) (sym none) tt

-- replies that stand at a home
stands_low : (d : Cluster) → IsCluster d → (n : ℕ) (m : NodeState) → node_at d n ≡ Some m → (r : Reply) → ReplyStands m.home r → GrantsLow d.config.pages r
stands_low d i n m up r stand = by (given_by r) stand.0
  where
    is : IsMember d.config d.views n m
    is = (up_is_member_law d n m i up).1

    by : (o : Option Given) → IfSome o (λ (g : Given). StandsAt m.home g.tx g.page g.version) → IfSome o (λ (g : Given). g.page < d.config.pages)
    by None a = tt
    by (Some g) a = subst (λ (c : Sizes). g.page < c.pages) is.config (is.sound.home.held g.tx g.page a.holds).0

all_low : (k : ℕ) (rs front rest : List Reply) → rs ≡ front ++ rest → AllByRecursion (λ r. given_by r ≡ None) front → AllByRecursion (GrantsLow k) rest → AllByRecursion (GrantsLow k) rs
all_low k rs front rest joined none low =
    subst (AllByRecursion (GrantsLow k)) (sym joined) (all_append (GrantsLow k) front rest (all_weaker (λ r. given_by r ≡ None) (GrantsLow k) (none_low k) front none) low)

-- a step of a node
stepped : (c : Cluster) (e : Event) (n : ℕ) (s : NodeState) (ev : NodeEvent) → IsCluster c → IsWithin c.config.pages c.trace → IsHanded c e n s ev → IsCluster (node_step e n s ev c)
    → IsWithin (node_step e n s ev c).config.pages (node_step e n s ev c).trace
unfolding node_step lose
stepped c e n s ev i was handed = by (nodestep s ev c.disk) refl
  where
    low : n < length c.nodes
    low = subst (λ k. n < k) (sym i.nodes) (up_is_member_law c n s i handed.up).0

    whole : (p : Plan) → nodestep s ev c.disk ≡ Goes p → IsCluster (made e n p c) → IsWithin c.config.pages (made e n p c).trace
    whole p goes j =
        let stand : RepliesStand p.node.home p.replies = grants_stand_law s ev c.disk p (plans_are_good_law c e n s ev p i handed goes).step in
        low_entry c.config.pages c.trace (record { event = e; replies = p.replies; sent = map (sent_by n) p.sends; halted = None })
        (all_low c.config.pages p.replies stand.front stand.rest stand.joined stand.none
        (all_weaker (ReplyStands p.node.home) (GrantsLow c.config.pages) (stands_low (made e n p c) j n p.node (set_same None c.nodes n (Some p.node) low)) stand.rest stand.stand))
        was

    ended : (p : Plan) → nodestep s ev c.disk ≡ Goes p → (o : Option Left) → IsCluster (made_or_halted e n p o c) → IsWithin (made_or_halted e n p o c).config.pages (made_or_halted e n p o c).trace
    ended p goes None j = whole p goes j
    ended p goes (Some l) j = low_entry c.config.pages c.trace _ tt was

    by : (o : Outcome Plan) → nodestep s ev c.disk ≡ o → IsCluster (after_plan e n c o) → IsWithin (after_plan e n c o).config.pages (after_plan e n c o).trace
    by (Goes p) goes j = ended p goes (left_of n c.disk p.calls (stop_at c n)) j
    by (Differs p expected found) goes j = low_entry c.config.pages c.trace _ tt was

-- nodes that start leave the trace
started : (k : ℕ) (ns : List ℕ) (c : Cluster) (x : Entry) → AllByRecursion (GrantsLow c.config.pages) x.replies → IsWithin c.config.pages c.trace
    → IsWithin (start_all k ns c).config.pages ((start_all k ns c).trace ++ x ∷ [])
started k [] c x low was = low_entry c.config.pages c.trace x low was
started k (n ∷ ns) c x low was = started k ns (start_one k c n) x low was

pub steps_have_within_law : StepsHaveWithin
unfolding lose
steps_have_within_law c e i was =
    by_step (λ d. IsCluster d → IsWithin d.config.pages d.trace) c e
    (record {
      refused = λ x j. low_entry c.config.pages c.trace _ (tt, tt) was;
      crashed = λ n is j. low_entry c.config.pages c.trace _ (tt, tt) was;
      armed = λ n call stops is j. low_entry c.config.pages c.trace _ (tt, tt) was;
      handed = λ n s ev handed j. stepped c e n s ev i was handed j;
      viewed = λ live owners v made drops j.
          started (last_view c).epoch (returning (last_view c) v (all_nodes c)) c (record { event = e; replies = reply.Viewed v.epoch ∷ []; sent = []; halted = None }) (tt, tt) was;
      reopened = λ v made down j.
          started (last_view c).epoch (all_nodes c) c (record { event = e; replies = reply.Reopened v.epoch ∷ []; sent = []; halted = None }) (tt, tt) was;
    })
    (step_keeps_clusters_law c e i)

pub opening_has_within_law : OpeningHasWithin
unfolding opening accesses_in accesses_of script_from
opening_has_within_law c t p past = ap (λ ms. accesses_of p (script t ms)) no_moments
