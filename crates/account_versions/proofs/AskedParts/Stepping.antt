-- Through every step each granted write was asked for.
use Rattle.std.proofs.Common.{◌≡◌, refl, ap, sym, subst, ◌∙◌, ℕ, Bool, true, false, List, [], ◌∷◌, ◌++◌, append-nil, append_assoc, map, Option, Some, None, is_some}
use Rattle.std.specs.List.{AllByRecursion, list_any, flat_map}
use Rattle.pcl_base.specs.declared.event.Event.{Event}
use Rattle.pcl_base.specs.declared.event.Event.TheVariants as event
use Rattle.pcl_base.specs.declared.reply.Reason.{Reason}
use Rattle.pcl_base.specs.declared.reply.Reply.{Reply}
use Rattle.pcl_base.specs.declared.reply.Reply.TheVariants as reply
use Rattle.pcl_base.specs.declared.trace.Entry.{Entry}
use Rattle.pcl_base.specs.declared.trace.Halt.{Halt}
use Rattle.pcl_base.specs.declared.tx.TxId.{TxId}
use Rattle.run_rules.specs.Script.{Moment, is_refused, is_refusal, asked, told, kept_tx, kept, moments_of, moments, last_write}
use Rattle.node_rules.specs.Words.{pick, same_tx}
use Rattle.node_rules.specs.DiskCalls.{Left}
use Rattle.node_rules.specs.NodeState.{NodeState, NodeEvent}
use Rattle.node_rules.specs.NodeStep.{Plan, nodestep}
use Rattle.node_rules.specs.Refusals.{refusal}
use Rattle.node_rules.specs.Work.{Outcome, Goes, Differs}
use Rattle.home_laws.proofs.Tests.{tx_equal}
use Rattle.cluster_rules.specs.Clusters.{Cluster, opening, stop_at, lose, last_view, sent_by}
use Rattle.cluster_rules.specs.ClusterStep.{made_or_halted, left_of, after_plan, node_step, start_one, start_all, all_nodes, returning}
use Rattle.cluster_laws.specs.Handed.{IsHanded}
use Rattle.cluster_laws.specs.Sound.{IsCluster}
use Rattle.cluster_laws.proofs.Cases.{by_step}
use Rattle.cluster_laws.specs.Ask.Asked.{asked_last, AllWaitAsAsked}
use Rattle.cluster_laws.proofs.AskParts.Acting.{asks}
use Rattle.cluster_laws.proofs.AskParts.Events.{refused_is}
use Rattle.account_versions.specs.Asked.{AreAskedFor, WritesAreAsked, HaveAskedWrites, OpeningHasAskedWrites, StepsHaveAskedWrites}
use Rattle.account_versions.proofs.AskedParts.Homes.{GrantsTo}
use Rattle.account_versions.proofs.AskedParts.Events.{steps_right, never_refused}
use Rattle.account_versions.proofs.AskedParts.Starting.{Starts, wants_now, starts}

-- ---- the moments of an entry

module _ (t : TxId) where
  -- some moments behind others
  asked_joined : (w : Option (ℕ × List ℕ)) (xs ys : List Moment) → AreAskedFor t w xs → AreAskedFor t (asked_last t w xs) ys → AreAskedFor t w (xs ++ ys)
  unfolding AreAskedFor asked_last
  asked_joined w [] ys a b = b
  asked_joined w (m ∷ xs) ys a b = (a.0, asked_joined (last_write t w m) xs ys a.1 b)

  kept_asked : (w : Option (ℕ × List ℕ)) (h : Option Halt) → AreAskedFor t w (kept h)
  unfolding AreAskedFor
  kept_asked w None = tt
  kept_asked w (Some h) = by h.kept
    where
      by : (o : Option TxId) → AreAskedFor t w (kept_tx o)
      by None = tt
      by (Some u) = (tt, tt)

  -- an event asks, and is granted nothing by that
  event_asked : (w : Option (ℕ × List ℕ)) (b : Bool) (e : Event) → AreAskedFor t w (pick b [] (asked e))
  unfolding AreAskedFor
  event_asked w true e = tt
  event_asked w false (event.Begin n) = tt
  event_asked w false (event.Read u p) = (tt, tt)
  event_asked w false (event.Write u p place bytes) = (tt, tt)
  event_asked w false (event.Commit u) = tt
  event_asked w false (event.Abort u) = tt
  event_asked w false (event.Deliver a b) = tt
  event_asked w false (event.Evict n p) = tt
  event_asked w false (event.Flush n p) = tt
  event_asked w false (event.Crash n) = tt
  event_asked w false (event.View live owners) = tt
  event_asked w false (event.Install n) = tt
  event_asked w false event.Reopen = tt
  event_asked w false (event.Arm n call stops) = tt
  event_asked w false (event.Cut n) = tt

  -- replies that grant writes to those who asked
  module _ (wants : TxId → Bool) (w : Option (ℕ × List ℕ)) (link : wants t ≡ is_some w) where
    grant_asked : (u : TxId) → wants u ≡ true → same_tx t u ≡ true → is_some w ≡ true
    grant_asked u is same = sym link ∙ ap wants (tx_equal t u same) ∙ is

    reply_asked : (r : Reply) (rest : List Moment) → GrantsTo wants r → AreAskedFor t w rest → AreAskedFor t w (told r ++ rest)
    unfolding AreAskedFor
    reply_asked (reply.Begun u) rest is ok = ok
    reply_asked (reply.Committed u) rest is ok = (tt, ok)
    reply_asked (reply.Aborted u) rest is ok = ok
    reply_asked (reply.Value u p v bytes) rest is ok = (tt, ok)
    reply_asked (reply.Done u p v) rest is ok = (grant_asked u is, ok)
    reply_asked (reply.Waits u p) rest is ok = ok
    reply_asked reply.Taken rest is ok = ok
    reply_asked reply.Held rest is ok = ok
    reply_asked reply.Dropped rest is ok = ok
    reply_asked reply.Evicted rest is ok = ok
    reply_asked reply.Flushed rest is ok = ok
    reply_asked reply.Crashed rest is ok = ok
    reply_asked reply.Armed rest is ok = ok
    reply_asked (reply.Cut n) rest is ok = ok
    reply_asked (reply.Viewed n) rest is ok = ok
    reply_asked (reply.Installed n) rest is ok = ok
    reply_asked (reply.Reopened n) rest is ok = ok
    reply_asked (reply.Serving q) rest is ok = ok
    reply_asked (reply.Refused x) rest is ok = ok

    replies_asked : (rs : List Reply) (rest : List Moment) → AllByRecursion (GrantsTo wants) rs → AreAskedFor t w rest → AreAskedFor t w (flat_map told rs ++ rest)
    replies_asked [] rest all ok = ok
    replies_asked (r ∷ rs) rest all ok =
        subst (AreAskedFor t w) (sym (append_assoc (told r) (flat_map told rs) rest)) (reply_asked r (flat_map told rs ++ rest) all.0 (replies_asked rs rest all.1 ok))

  -- what t asks for in an entry
  abbrev asked_in : Option (ℕ × List ℕ) → Entry → Option (ℕ × List ℕ)
  asked_in w x = asked_last t w (pick (is_refused x) [] (asked x.event))

  entry_asked : (w : Option (ℕ × List ℕ)) (x : Entry) (wants : TxId → Bool) → wants t ≡ is_some (asked_in w x) → AllByRecursion (GrantsTo wants) x.replies → AreAskedFor t w (moments_of x)
  unfolding moments_of
  entry_asked w x wants link all =
      asked_joined w (pick (is_refused x) [] (asked x.event)) (flat_map told x.replies ++ kept x.halted) (event_asked w (is_refused x) x.event)
      (replies_asked wants (asked_in w x) link x.replies (kept x.halted) all (kept_asked (asked_in w x) x.halted))

moments_more : (old : List Entry) (x : Entry) → moments (old ++ x ∷ []) ≡ moments old ++ moments_of x
unfolding moments
moments_more [] x = append-nil (moments_of x)
moments_more (e ∷ old) x = ap (λ ms. moments_of e ++ ms) (moments_more old x) ∙ sym (append_assoc (moments_of e) (moments old) (moments_of x))

-- a trace with a further entry
trace_asked : (old : List Entry) (x : Entry) → WritesAreAsked (moments old) → ((t : TxId) → AreAskedFor t (asked_last t None (moments old)) (moments_of x)) → WritesAreAsked (moments (old ++ x ∷ []))
trace_asked old x before entry t = subst (AreAskedFor t None) (sym (moments_more old x)) (asked_joined t None (moments old) (moments_of x) (before t) (entry t))

-- an entry that grants no write
quiet_asked : (old : List Entry) (x : Entry) → ((wants : TxId → Bool) → AllByRecursion (GrantsTo wants) x.replies) → WritesAreAsked (moments old) → WritesAreAsked (moments (old ++ x ∷ []))
quiet_asked old x quiet before = trace_asked old x before (λ t. entry_asked t (asked_last t None (moments old)) x (λ u. is_some (asked_last t (asked_last t None (moments old)) (pick (is_refused x) [] (asked x.event)))) refl (quiet _))

-- ---- a step

-- a step of a node
acted : (c : Cluster) (e : Event) (n : ℕ) (s : NodeState) (ev : NodeEvent) (p : Plan) → IsCluster c → AllWaitAsAsked c → HaveAskedWrites c → IsHanded c e n s ev → nodestep s ev c.disk ≡ Goes p
    → HaveAskedWrites (record c { trace = c.trace ++ record { event = e; replies = p.replies; sent = map (sent_by n) p.sends; halted = None } ∷ [] })
acted c e n s ev p i h before handed goes = by (refusal s ev) refl
  where
    by : (o : Option Reason) → refusal s ev ≡ o → WritesAreAsked (moments (c.trace ++ record { event = e; replies = p.replies; sent = map (sent_by n) p.sends; halted = None } ∷ []))
    by (Some r) refused =
        let is : p.replies ≡ reply.Refused r ∷ [] = (refused_is s ev c.disk p r refused goes).1 in
        quiet_asked c.trace (record { event = e; replies = p.replies; sent = map (sent_by n) p.sends; halted = None })
        (λ wants. subst (AllByRecursion (GrantsTo wants)) (sym is) (tt, tt)) before
    by None free =
        let start : Starts c e n s ev i h handed free = starts c e n s ev i h handed free in
        let all : AllByRecursion (GrantsTo start.known.wants) p.replies = steps_right start.known s ev c.disk p free start.suits start.home goes in
        let granted : AllByRecursion (GrantsTo (wants_now c e n s ev i h handed free)) p.replies = subst (λ (f : TxId → Bool). AllByRecursion (GrantsTo f) p.replies) start.wants all in
        let never : list_any is_refusal p.replies ≡ false = never_refused start.known s ev c.disk p free start.suits start.home goes in
        trace_asked c.trace (record { event = e; replies = p.replies; sent = map (sent_by n) p.sends; halted = None }) before
        (λ t.
        entry_asked t (asks c t) (record { event = e; replies = p.replies; sent = map (sent_by n) p.sends; halted = None }) (wants_now c e n s ev i h handed free)
        (ap (λ (b : Bool). is_some (asked_last t (asks c t) (pick b [] (asked e)))) (sym never)) granted)

stepped : (c : Cluster) (e : Event) (n : ℕ) (s : NodeState) (ev : NodeEvent) → IsCluster c → AllWaitAsAsked c → HaveAskedWrites c → IsHanded c e n s ev → HaveAskedWrites (node_step e n s ev c)
unfolding node_step lose
stepped c e n s ev i h before handed = by (nodestep s ev c.disk) refl
  where
    ended : (p : Plan) → nodestep s ev c.disk ≡ Goes p → (o : Option Left) → HaveAskedWrites (made_or_halted e n p o c)
    ended p goes None = acted c e n s ev p i h before handed goes
    ended p goes (Some l) = quiet_asked c.trace (record { event = e; replies = []; sent = []; halted = Some (record { call = l.call; kept = l.kept }) }) (λ wants. tt) before

    by : (o : Outcome Plan) → nodestep s ev c.disk ≡ o → HaveAskedWrites (after_plan e n c o)
    by (Goes p) goes = ended p goes (left_of n c.disk p.calls (stop_at c n))
    by (Differs p expected found) goes = quiet_asked c.trace (record { event = e; replies = []; sent = []; halted = None }) (λ wants. tt) before

-- nodes that start leave the trace
started : (k : ℕ) (ns : List ℕ) (c : Cluster) → (start_all k ns c).trace ≡ c.trace
started k [] c = refl
started k (n ∷ ns) c = started k ns (start_one k c n)

later : (c : Cluster) (e : Event) (k : ℕ) (ns : List ℕ) (r : Reply) → ((wants : TxId → Bool) → GrantsTo wants r) → HaveAskedWrites c
    → WritesAreAsked (moments ((start_all k ns c).trace ++ record { event = e; replies = r ∷ []; sent = []; halted = None } ∷ []))
later c e k ns r none before =
    quiet_asked (start_all k ns c).trace (record { event = e; replies = r ∷ []; sent = []; halted = None }) (λ wants. (none wants, tt)) (subst (λ (es : List Entry). WritesAreAsked (moments es)) (sym (started k ns c)) before)

pub steps_have_asked_writes_law : StepsHaveAskedWrites
unfolding lose
steps_have_asked_writes_law c e i h before =
    by_step HaveAskedWrites c e
    (record {
      refused = λ r. quiet_asked c.trace (record { event = e; replies = reply.Refused r ∷ []; sent = []; halted = None }) (λ wants. (tt, tt)) before;
      crashed = λ n is. quiet_asked c.trace (record { event = e; replies = reply.Crashed ∷ []; sent = []; halted = None }) (λ wants. (tt, tt)) before;
      armed = λ n call stops is. quiet_asked c.trace (record { event = e; replies = reply.Armed ∷ []; sent = []; halted = None }) (λ wants. (tt, tt)) before;
      handed = λ n s ev handed. stepped c e n s ev i h before handed;
      viewed = λ live owners v made drops. later c e (last_view c).epoch (returning (last_view c) v (all_nodes c)) (reply.Viewed v.epoch) (λ wants. tt) before;
      reopened = λ v made down. later c e (last_view c).epoch (all_nodes c) (reply.Reopened v.epoch) (λ wants. tt) before;
    })

pub opening_has_asked_writes_law : OpeningHasAskedWrites
unfolding opening moments AreAskedFor
opening_has_asked_writes_law c t = tt
