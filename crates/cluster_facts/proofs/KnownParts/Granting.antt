-- Who is granted an access of a page in a step holds it then.
use Rattle.std.proofs.Common.{◌≡◌, refl, sym, ap, subst, ◌∙◌, ℕ, ◌<◌, ◌==◌, ◌&&◌, Bool, true, false, List, [], ◌∷◌, ◌++◌, length, map, Option, Some, None, is_some}
use Rattle.std.specs.Prelude.{⊤, IfSome, ◌≢◌}
use Rattle.std.specs.List.{AllByRecursion, fold, flat_map}
use Rattle.pcl_base.specs.declared.event.Event.{Event}
use Rattle.pcl_base.specs.declared.reply.Reply.{Reply}
use Rattle.pcl_base.specs.declared.reply.Reply.TheVariants as reply
use Rattle.pcl_base.specs.declared.script.Step.TheVariants as step
use Rattle.pcl_base.specs.declared.trace.Entry.{Entry}
use Rattle.pcl_base.specs.declared.tx.TxId.{TxId}
use Rattle.run_rules.specs.Script.{Moment, Asks, Gets, Writes, Commits, asked, is_refused, told, kept, moments_of, moments, last_write, write_step, steps_at, script_from, script}
use Rattle.run_rules.specs.Words.{pick, same_tx}
use Rattle.node_rules.specs.DiskCalls.{Left}
use Rattle.node_rules.specs.NodeState.{NodeState, NodeEvent}
use Rattle.node_rules.specs.OpenTxs.{held_by}
use Rattle.node_rules.specs.Work.{Outcome, Goes, Differs}
use Rattle.node_rules.specs.NodeStep.{Plan, nodestep}
use Rattle.home_laws.proofs.Tests.{and_left, and_right, number_equal, tx_equal}
use Rattle.node_laws.proofs.Lists.{all_append, all_weaker, set_same}
use Rattle.cluster_rules.specs.Clusters.{Cluster, stop_at, sent_by, last_view, lose}
use Rattle.cluster_rules.specs.ClusterStep.{made, made_or_halted, left_of, after_plan, node_step, start_one, start_all, all_nodes, returning}
use Rattle.cluster_laws.specs.Handed.{IsHanded}
use Rattle.cluster_laws.specs.Sound.{IsCluster}
use Rattle.cluster_laws.proofs.Cases.{by_step}
use Rattle.cluster_laws.proofs.Steps.{up_is_member_law, plans_are_good_law}
use Rattle.page_protocol.specs.Bytes.{Read, Write}
use Rattle.page_laws.specs.Moment.Looks.{accesses_of, accesses_in}
use Rattle.page_laws.proofs.MomentParts.Entries.{moments_more}
use Rattle.related_runs.specs.Granted.{StandsAt, Given, given_by, ReplyStands, RepliesStand}
use Rattle.related_runs.proofs.Entries.{quiet_asked, quiet_halt}
use Rattle.related_runs.proofs.Traces.{IsQuiet, script_joined, accesses_joined}
use Rattle.related_runs.proofs.Stepped.{grants_stand_law}
use Rattle.cluster_facts.specs.Known.Accesses.{HoldsNow, NewAccessesAreHeld}
use Rattle.cluster_facts.proofs.KnownParts.Held.{some_there}

nothing : (p : ℕ) → accesses_of p [] ≡ []
unfolding accesses_of
nothing p = refl

module _ (t : TxId) (p : ℕ) where
  -- a moment that is no granted access of the page by the transaction
  abbrev IsOther : Moment → Type 0
  IsOther (Asks u w) = ⊤
  IsOther (Gets u q v bytes) = (same_tx t u && q == p) ≡ false
  IsOther (Writes u q v) = (same_tx t u && q == p) ≡ false
  IsOther (Commits u) = ⊤

  quiet_other : (m : Moment) → IsQuiet m → IsOther m
  quiet_other (Asks u w) quiet = tt
  quiet_other (Gets u q v bytes) quiet = absurd quiet
  quiet_other (Writes u q v) quiet = absurd quiet
  quiet_other (Commits u) quiet = tt

  read_other : (q : ℕ) (bytes : List ℕ) (b : Bool) → (b && q == p) ≡ false → accesses_of p (pick b (step.Read q bytes ∷ []) []) ≡ []
  unfolding accesses_of
  read_other q bytes true off = ap (λ x. pick x (Read bytes ∷ []) []) off
  read_other q bytes false off = refl

  write_other : (q : ℕ) (w : Option (ℕ × List ℕ)) (b : Bool) → (b && q == p) ≡ false → accesses_of p (pick b (write_step q w) []) ≡ []
  unfolding accesses_of
  write_other q None true off = refl
  write_other q (Some w) true off = ap (λ x. pick x (Write w.0 w.1 ∷ []) []) off
  write_other q w false off = refl

  step_other : (w : Option (ℕ × List ℕ)) (m : Moment) → IsOther m → accesses_of p (steps_at t w m) ≡ []
  step_other w (Asks u v) off = nothing p
  step_other w (Gets u q v bytes) off = read_other q bytes (same_tx t u) off
  step_other w (Writes u q v) off = write_other q w (same_tx t u) off
  step_other w (Commits u) off = nothing p

  moments_other : (w : Option (ℕ × List ℕ)) (ms : List Moment) → AllByRecursion IsOther ms → accesses_of p (script_from t w ms) ≡ []
  unfolding script_from
  moments_other w [] off = nothing p
  moments_other w (m ∷ ms) off =
      accesses_joined p (steps_at t w m) (script_from t (last_write t w m) ms)
      ∙ ap (λ xs. xs ++ accesses_of p (script_from t (last_write t w m) ms)) (step_other w m off.0)
      ∙ moments_other (last_write t w m) ms off.1

  -- an entry more
  entry_other : (old : List Entry) (x : Entry) → AllByRecursion IsOther (moments_of x) → accesses_in t p old ≡ [] → accesses_in t p (old ++ x ∷ []) ≡ []
  unfolding accesses_in
  entry_other old x off was =
      ap (λ ms. accesses_of p (script t ms)) (moments_more old x) ∙ ap (accesses_of p) (script_joined t None (moments old) (moments_of x))
      ∙ accesses_joined p (script t (moments old)) (script_from t (fold (last_write t) None (moments old)) (moments_of x))
      ∙ ap (λ xs. xs ++ accesses_of p (script_from t (fold (last_write t) None (moments old)) (moments_of x))) was
      ∙ moments_other (fold (last_write t) None (moments old)) (moments_of x) off

  -- a reply that grants no such access
  abbrev GrantsOther : Reply → Type 0
  GrantsOther r = IfSome (given_by r) (λ (g : Given). (same_tx t g.tx && g.page == p) ≡ false)

  told_other : (r : Reply) → GrantsOther r → AllByRecursion IsOther (told r)
  told_other (reply.Begun u) off = tt
  told_other (reply.Committed u) off = (tt, tt)
  told_other (reply.Aborted u) off = tt
  told_other (reply.Value u q v bytes) off = (off, tt)
  told_other (reply.Done u q v) off = (off, tt)
  told_other (reply.Waits u q) off = tt
  told_other reply.Taken off = tt
  told_other reply.Held off = tt
  told_other reply.Dropped off = tt
  told_other reply.Evicted off = tt
  told_other reply.Flushed off = tt
  told_other reply.Crashed off = tt
  told_other reply.Armed off = tt
  told_other (reply.Cut count) off = tt
  told_other (reply.Viewed epoch) off = tt
  told_other (reply.Installed epoch) off = tt
  told_other (reply.Reopened epoch) off = tt
  told_other (reply.Serving q) off = tt
  told_other (reply.Refused reason) off = tt

  replies_other : (rs : List Reply) → AllByRecursion GrantsOther rs → AllByRecursion IsOther (flat_map told rs)
  replies_other [] off = tt
  replies_other (r ∷ rs) off = all_append IsOther (told r) (flat_map told rs) (told_other r off.0) (replies_other rs off.1)

  stays : (old : List Entry) (x : Entry) → AllByRecursion GrantsOther x.replies → accesses_in t p old ≡ [] → accesses_in t p (old ++ x ∷ []) ≡ []
  unfolding moments_of
  stays old x off was =
      entry_other old x
      (all_append IsOther (pick (is_refused x) [] (asked x.event)) (flat_map told x.replies ++ kept x.halted)
      (all_weaker IsQuiet IsOther quiet_other (pick (is_refused x) [] (asked x.event)) (quiet_asked x.event (is_refused x)))
      (all_append IsOther (flat_map told x.replies) (kept x.halted) (replies_other x.replies off) (all_weaker IsQuiet IsOther quiet_other (kept x.halted) (quiet_halt x.halted)))) was

  none_other : (r : Reply) → given_by r ≡ None → GrantsOther r
  none_other r none = subst (λ (o : Option Given). IfSome o (λ (g : Given). (same_tx t g.tx && g.page == p) ≡ false)) (sym none) tt

  -- what a node that doesn't hold the page for the transaction grants
  stands_other : (m : NodeState) → is_some (held_by m.home.txs t p) ≡ false → (r : Reply) → ReplyStands m.home r → GrantsOther r
  stands_other m free r stand = by (given_by r) stand.0
    where
      off : (g : Given) → is_some (held_by m.home.txs g.tx g.page) ≡ true → (b : Bool) → (same_tx t g.tx && g.page == p) ≡ b → b ≡ false
      off g holds false e = refl
      off g holds true e =
          let tx : t ≡ g.tx = tx_equal t g.tx (and_left (same_tx t g.tx) (g.page == p) e) in
          let page : g.page ≡ p = number_equal g.page p (and_right (same_tx t g.tx) (g.page == p) e) in
          sym (subst (λ (k : ℕ). is_some (held_by m.home.txs t k) ≡ true) page (subst (λ (u : TxId). is_some (held_by m.home.txs u g.page) ≡ true) (sym tx) holds)) ∙ free

      by : (o : Option Given) → IfSome o (λ (g : Given). StandsAt m.home g.tx g.page g.version) → IfSome o (λ (g : Given). (same_tx t g.tx && g.page == p) ≡ false)
      by None a = tt
      by (Some g) a = off g a.holds (same_tx t g.tx && g.page == p) refl

  all_other : (m : NodeState) → is_some (held_by m.home.txs t p) ≡ false → (rs : List Reply) → RepliesStand m.home rs → AllByRecursion GrantsOther rs
  all_other m free rs stand =
      subst (AllByRecursion GrantsOther) (sym stand.joined)
      (all_append GrantsOther stand.front stand.rest (all_weaker (λ r. given_by r ≡ None) GrantsOther none_other stand.front stand.none)
      (all_weaker (ReplyStands m.home) GrantsOther (stands_other m free) stand.rest stand.stand))

  module _ (c : Cluster) (e : Event) (i : IsCluster c) (was : accesses_in t p c.trace ≡ []) where
    abbrev New : Cluster → Type 0
    New d = accesses_in t p d.trace ≢ [] → HoldsNow c e d t p

    -- a step of a node
    stepped : (n : ℕ) (s : NodeState) (ev : NodeEvent) → IsHanded c e n s ev → New (node_step e n s ev c)
    unfolding node_step lose
    stepped n s ev handed = by (nodestep s ev c.disk) refl
      where
        low : n < length c.nodes
        low = subst (λ k. n < k) (sym i.nodes) (up_is_member_law c n s i handed.up).0

        whole : (q : Plan) → nodestep s ev c.disk ≡ Goes q → (b : Bool) → is_some (held_by q.node.home.txs t p) ≡ b → New (made e n q c)
        whole q goes true holds new =
            record {
              node = n;
              state = s;
              event = ev;
              plan = q;
              planned = record { handed = handed; goes = goes };
              now = set_same None c.nodes n (Some q.node) low;
              holds = some_there (held_by q.node.home.txs t p) holds;
            }
        whole q goes false holds new =
            absurd (new (stays c.trace (record { event = e; replies = q.replies; sent = map (sent_by n) q.sends; halted = None })
            (all_other q.node holds q.replies (grants_stand_law s ev c.disk q (plans_are_good_law c e n s ev q i handed goes).step)) was))

        ended : (q : Plan) → nodestep s ev c.disk ≡ Goes q → (o : Option Left) → New (made_or_halted e n q o c)
        ended q goes None new = whole q goes (is_some (held_by q.node.home.txs t p)) refl new
        ended q goes (Some l) new = absurd (new (stays c.trace _ tt was))

        by : (o : Outcome Plan) → nodestep s ev c.disk ≡ o → New (after_plan e n c o)
        by (Goes q) goes new = ended q goes (left_of n c.disk q.calls (stop_at c n)) new
        by (Differs q expected found) goes new = absurd (new (stays c.trace _ tt was))

    -- nodes that start leave the trace
    started : (k : ℕ) (ns : List ℕ) (d : Cluster) → (start_all k ns d).trace ≡ d.trace
    started k [] d = refl
    started k (n ∷ ns) d = started k ns (start_one k d n)

    quiet : (x : Entry) → AllByRecursion GrantsOther x.replies → (old : List Entry) → old ≡ c.trace → accesses_in t p (old ++ x ∷ []) ≢ [] → ⊥
    quiet x off old same new = new (stays old x off (ap (accesses_in t p) same ∙ was))

pub new_accesses_are_held_law : NewAccessesAreHeld
unfolding lose
new_accesses_are_held_law c e t p i was =
    by_step (New t p c e i was) c e
    (record {
      refused = λ x new. absurd (quiet t p c e i was _ (tt, tt) c.trace refl new);
      crashed = λ n is new. absurd (quiet t p c e i was _ (tt, tt) c.trace refl new);
      armed = λ n call stops is new. absurd (quiet t p c e i was _ (tt, tt) c.trace refl new);
      handed = λ n s ev handed. stepped t p c e i was n s ev handed;
      viewed = λ live owners v made drops new.
          absurd (quiet t p c e i was _ (tt, tt) (start_all (last_view c).epoch (returning (last_view c) v (all_nodes c)) c).trace (started t p c e i was (last_view c).epoch (returning (last_view c) v (all_nodes c)) c) new);
      reopened = λ v made down new.
          absurd (quiet t p c e i was _ (tt, tt) (start_all (last_view c).epoch (all_nodes c) c).trace (started t p c e i was (last_view c).epoch (all_nodes c) c) new);
    })
