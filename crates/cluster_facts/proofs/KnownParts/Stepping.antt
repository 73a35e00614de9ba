-- From where a node has the locks and rights that a step leaves it.
use Rattle.std.proofs.Common.{◌≡◌, inl, refl, sym, ap, subst, ◌∙◌, ℕ, zero, suc, ◌+◌, ◌<◌, ◌≤◌, ◌==◌, ◌&&◌, not, Bool, true, false, List, [], ◌∷◌, length, Option, Some, None, is_some, arith}
use Rattle.std.specs.Prelude.{IfSome, ⊤}
use Rattle.std.proofs.lemmas.Bool.Decides.{nat_tests}
use Rattle.pcl_base.specs.declared.lock.Verdict.{Verdict}
use Rattle.pcl_base.specs.declared.lock.Verdict.TheVariants as verdict
use Rattle.pcl_base.specs.declared.message.Body.{Body}
use Rattle.pcl_base.specs.declared.message.Body.TheVariants as body
use Rattle.pcl_base.specs.declared.message.Message.{Message}
use Rattle.pcl_base.specs.declared.reply.Reason.{Reason}
use Rattle.pcl_base.specs.declared.reply.Reason.TheVariants as reason
use Rattle.pcl_base.specs.declared.reply.Reply.TheVariants as reply
use Rattle.pcl_base.specs.declared.tx.TxId.{TxId}
use Rattle.text_rules.specs.MessageBytes.{IsBody}
use Rattle.run_rules.specs.Disk.{Disk, log_at}
use Rattle.run_rules.specs.Views.{View, is_live, owner_of, since_of, born_of, count_from}
use Rattle.rule_laws.specs.LaterViews.{IsMoved}
use Rattle.node_rules.specs.Words.{pick, same_tx}
use Rattle.node_rules.specs.CutRule.{cuttable}
use Rattle.node_rules.specs.EndRule.{abort, commit}
use Rattle.node_rules.specs.InstallRule.{owned_before, install_partition, trim_if, born_at, begin_life, in_view, install_view}
use Rattle.node_rules.specs.LockRule.{ask, returned}
use Rattle.node_rules.specs.LockTable.{LockTable}
use Rattle.node_rules.specs.NodeState.{HomeState, NodeState, NodeEvent, Begin, Read, Write, Commit, Abort, Deliver, Evict, Flush, Install, Cut, number_of, table_at, table_of, is_serving}
use Rattle.node_rules.specs.NodeStep.{Plan, plan_of, begin_work, work_off, by_verdict, judge_in, partition_of, take_message, cut_if, cut_front, evict_copy, flush_copy, do_event, unless_refused, nodestep}
use Rattle.node_rules.specs.OpenTxs.{held_by, begin}
use Rattle.node_rules.specs.Refusals.{refusal, refusal_in_view, may_install}
use Rattle.node_rules.specs.Shelf.{Right, right_on}
use Rattle.node_rules.specs.Work.{Work, work_of_home, with_node, for_each, write_back, reply}
use Rattle.home_laws.specs.Refused.{access_refusal}
use Rattle.home_laws.specs.RefusedEnds.{commit_refusal, abort_refusal}
use Rattle.home_laws.proofs.EndNeeds.{commit_allowed, abort_allowed}
use Rattle.home_laws.proofs.Kept.{home_written}
use Rattle.home_laws.proofs.Tests.{not_false}
use Rattle.step_laws.proofs.Outcomes.{On, on_then, on_so, on_any}
use Rattle.node_laws.specs.Nodes.{IsViewOf, IsSound, CanCome, DiskFits}
use Rattle.node_laws.proofs.Events.{not_refused}
use Rattle.node_laws.proofs.Views.{moved_of}
use Rattle.page_laws.specs.Look.Ends.{version_of_right, IsWithoutTx}
use Rattle.page_laws.proofs.LookParts.Closing.{abort_is_seen_law, commit_is_seen_law}
use Rattle.related_runs.proofs.Stepped.{seen}
use Rattle.cluster_facts.proofs.KnownParts.Held.{begun_holds, begun_node, none_holds}
use Rattle.cluster_facts.proofs.KnownParts.Keeping.{IsFine, State, Goes, home_less, home_same}
use Rattle.cluster_facts.proofs.KnownParts.Redoing.{partition_goes}
use Rattle.cluster_facts.proofs.KnownParts.Ending.{Says, entered, access_says, end_says, release_says, grant_says, revoke_says, report_says}

-- what a message brings
abbrev pub Brings : (ℕ → Type 0) → Body → Type 0
Brings R (body.Grant g) = R g.page
Brings R _ = ⊤

-- the verdict on a message at a node
abbrev pub verdict_of : NodeState → ℕ → Message → Verdict
verdict_of n from m = judge_in n.view (number_of n) from m.epoch (partition_of n.home.config m.body)

-- what an event brings, of a message that is taken
abbrev pub Hears : NodeState → (ℕ → Type 0) → NodeEvent → Type 0
Hears n R (Deliver from m) = verdict_of n from m ≡ verdict.Taken → Brings R m.body
Hears n R event = ⊤

-- a right of the same version is there
version_there : (o u : Option Right) → version_of_right o ≡ version_of_right u → is_some o ≡ true → is_some u ≡ true
version_there None u e is = absurd (cc)
version_there (Some r) None e is = absurd (cc)
version_there (Some r) (Some x) e is = refl

module _ (n : NodeState) (d : Disk) (sound : IsSound n) (fits : DiskFits n.home.config d) (H : TxId → ℕ → Type 0) (R A S : ℕ → Type 0) (reads : (t : TxId) (p : ℕ) → R p → H t p)
    (held : (t : TxId) (p : ℕ) → is_some (held_by n.home.txs t p) ≡ true → H t p) (had : (p : ℕ) → is_some (right_on n.home.shelf p) ≡ true → R p) (answers : (p : ℕ) → is_some (right_on n.home.shelf p) ≡ true → A p)
    (serves : (q : ℕ) → S q → (q < n.home.config.nodes) × (is_serving (table_at n q) ≡ true)) where
  abbrev Now : Work → Type 0
  Now w = Says n.home.config sound.limits.some_nodes (number_of n) H R A S reads w

  fine_table : (q : ℕ) → S q → IsFine (table_at n q)
  fine_table q is = by (table_at n q) (serves q is).1
    where
      by : (o : Option LockTable) → is_serving o ≡ true → IsFine o
      by None e = tt
      by (Some t) e = e

  at_start : (k : ℕ) → Goes n.home.config (number_of n) H R A S k (begin_work n d)
  at_start k =
      record { config = refl; node = refl; places = sound.places; locks = λ t p is. inl (held t p is); rights = had; sends = tt; serving = λ q is. fine_table q is }

  start : Now (begin_work n d)
  start = at_start n.home.config.nodes

  -- ---- an event that installs no view
  closed : (t : TxId) (h : HomeState) → IsWithoutTx t n.home h → State n.home.config (number_of n) H R A S n.home.config.nodes h n.tables []
  closed t h without =
      home_less n.home.config (number_of n) H R A S n.home.config.nodes n.home h n.tables [] without.config without.named.0 (λ u p is. left (same_tx u t) (held_by n.home.txs u p) (subst (λ o. is_some o ≡ true) (without.held u p) is))
      (λ p is. version_there (right_on h.shelf p) (right_on n.home.shelf p) (without.rights p) is) start
    where
      left : {X : Type 0} (b : Bool) (o : Option X) → is_some (pick b None o) ≡ true → is_some o ≡ true
      left true o is = absurd (cc)
      left false o is = is

  commit_now : (t : TxId) → refusal_in_view n (Commit t) ≡ None → On Now (do_event d (Commit t) (begin_work n d))
  unfolding do_event commit_refusal
  commit_now t none =
      let may = commit_allowed t n.home none in
      end_says n.home.config sound.limits.some_nodes (number_of n) H R A S reads t (reply.Committed t) (begin_work n d) (commit t (work_of_home (begin_work n d)))
      (closed t (commit t (work_of_home (begin_work n d))).work.home (commit_is_seen_law t (work_of_home (begin_work n d)) sound.home may.0 may.1).home)

  abort_now : (t : TxId) → refusal_in_view n (Abort t) ≡ None → On Now (do_event d (Abort t) (begin_work n d))
  unfolding do_event abort_refusal
  abort_now t none =
      let may = abort_allowed t n.home none in
      end_says n.home.config sound.limits.some_nodes (number_of n) H R A S reads t (reply.Aborted t) (begin_work n d) (abort t (work_of_home (begin_work n d)))
      (closed t (abort t (work_of_home (begin_work n d))).work.home (abort_is_seen_law t (work_of_home (begin_work n d)) sound.home may).home)

  message_now : (from : ℕ) (m : Message) → IsBody n.home.config m.body → (verdict_of n from m ≡ verdict.Taken → Brings R m.body) → On Now (take_message d from m (begin_work n d))
  unfolding take_message
  message_now from m fit may = by (judge_in n.view (number_of n) from m.epoch (partition_of n.home.config m.body)) refl
    where
      off : (x : Body) → IsBody n.home.config x → Brings R x → On Now (work_off d from x (reply reply.Taken (begin_work n d)))
      off (body.Request r) i k =
          entered n.home.config sound.limits.some_nodes (number_of n) H R A S reads r.page (λ e. ask e (record { tx = r.tx; mode = r.mode; have = r.have })) (reply reply.Taken (begin_work n d)) start
      off (body.Grant g) i k = grant_says n.home.config sound.limits.some_nodes (number_of n) H R A S reads (table_of n g.page) g (reply reply.Taken (begin_work n d)) k start
      off (body.Release r) i k = release_says n.home.config sound.limits.some_nodes (number_of n) H R A S reads r (reply reply.Taken (begin_work n d)) start
      off (body.Revoke p) i k = revoke_says n.home.config sound.limits.some_nodes (number_of n) H R A S reads from p (reply reply.Taken (begin_work n d)) (answers p) start
      off (body.Return r) i k = entered n.home.config sound.limits.some_nodes (number_of n) H R A S reads r.page (λ e. returned e from r.readers) (reply reply.Taken (begin_work n d)) start
      off (body.Report r) i k = report_says n.home.config sound.limits.some_nodes (number_of n) H R A S reads d from r (reply reply.Taken (begin_work n d)) i.0 start

      by : (x : Verdict) → judge_in n.view (number_of n) from m.epoch (partition_of n.home.config m.body) ≡ x → On Now (by_verdict x d from m.body (begin_work n d))
      by verdict.Taken e = off m.body fit (may e)
      by verdict.Held e = start
      by verdict.Dropped e = start

  cut_now : On Now (do_event d Cut (begin_work n d))
  unfolding do_event
  cut_now =
      on_so (λ (k : ℕ). ⊤) Now (cuttable n.home.config d.pages (log_at d (number_of n))) (cut_front (begin_work n d)) (on_any (cuttable n.home.config d.pages (log_at d (number_of n))))
      (λ k any. by k (k == 0))
    where
      by : (k : ℕ) (x : Bool) → Now (reply (reply.Cut k) (cut_if x k (begin_work n d)))
      by k true = start
      by k false = start

  -- a copy that is written
  back_now : (p : ℕ) (h : HomeState) → h.config ≡ (write_back p (work_of_home (begin_work n d))).home.config → h.txs ≡ (write_back p (work_of_home (begin_work n d))).home.txs
      → h.shelf ≡ (write_back p (work_of_home (begin_work n d))).home.shelf → State n.home.config (number_of n) H R A S n.home.config.nodes h n.tables []
  back_now p h config txs shelf =
      let same = home_written p (work_of_home (begin_work n d)) in
      home_same n.home.config (number_of n) H R A S n.home.config.nodes n.home h n.tables [] (config ∙ ap (λ (x : HomeState). x.config) same) (txs ∙ ap (λ (x : HomeState). x.txs) same)
      (shelf ∙ ap (λ (x : HomeState). x.shelf) same) start

  begin_now : On Now (do_event d Begin (begin_work n d))
  unfolding do_event
  begin_now =
      home_less n.home.config (number_of n) H R A S n.home.config.nodes n.home (record (n.home) { txs = begin n.home.txs }) n.tables [] refl (begun_node n.home.txs) (λ t p is. begun_holds p n.home.txs t is) (λ p is. is) start

  -- ---- an install
  module _ (v : View) (live : is_live v.live (number_of n) ≡ true) (may : may_install n n.view v ≡ true) where
    no_item : {X : Type 0} (xs : List X) → length xs ≡ 0 → xs ≡ []
    no_item [] e = refl
    no_item (x ∷ xs) e = absurd (omega (arith, e))

    older : (u : View) → IsViewOf n u → IsMoved u v → born_of v (number_of n) < v.epoch
    older u is moved =
        let same : born_of v (number_of n) ≡ born_of u (number_of n) =
        moved.born (number_of n) (subst (λ (k : ℕ). number_of n < k) (sym is.whole.born) sound.home.txs.node)
        ∙ ap (λ (b : Bool). pick (is_live v.live (number_of n) && not b) v.epoch (born_of u (number_of n))) is.live
        ∙ ap (λ (b : Bool). pick (b && false) v.epoch (born_of u (number_of n))) live in
        let upto = is.whole.born_upto (number_of n) sound.home.txs.node in
        let next = moved.epoch in
        omega (arith, upto, next, same)

    -- a node that begins its life has no transaction
    idle : (born_of v (number_of n) == v.epoch) ≡ true → n.home.txs.txs ≡ []
    idle now = by n.view refl sound.view may
      where
        by : (o : Option View) → n.view ≡ o → IfSome o (IsViewOf n) → may_install n o v ≡ true → n.home.txs.txs ≡ []
        by None e is allowed = no_item n.home.txs.txs (sound.idle e)
        by (Some u) e is allowed = absurd (let low = older u is (moved_of n.home.config u v is.whole allowed) in grind (arith, nat_tests, now, low))

    -- a partition that was served isn't got anew
    fresh : (q : ℕ) → (owner_of v q == number_of n) ≡ true → (since_of v q == v.epoch) ≡ true → S q → ⊥
    fresh q own new is = by n.view refl sound.view may
      where
        low : q < n.home.config.nodes
        low = (serves q is).0

        there : (o : Option LockTable) → is_serving o ≡ true → is_some o ≡ true
        there None e = absurd (cc)
        there (Some t) e = refl

        owned : owned_before n.view q (number_of n) ≡ true
        owned = sym (sound.owned q low) ∙ there (table_at n q) (serves q is).1

        by : (o : Option View) → n.view ≡ o → IfSome o (IsViewOf n) → may_install n o v ≡ true → ⊥
        by None e of allowed = let bad : false ≡ true = ap (λ (x : Option View). owned_before x q (number_of n)) (sym e) ∙ owned in cc
        by (Some u) e of allowed =
            let moved = moved_of n.home.config u v of.whole allowed in
            let was : (owner_of u q == number_of n) ≡ true = ap (λ (x : Option View). owned_before x q (number_of n)) (sym e) ∙ owned in
            let same : (owner_of u q == owner_of v q) ≡ true = grind (arith, nat_tests, own, was) in
            let since : since_of v q ≡ since_of u q = moved.since q (subst (λ (k : ℕ). q < k) (sym of.whole.since) low) ∙ ap (λ (b : Bool). pick b (since_of u q) v.epoch) same in
            let upto = of.whole.since_upto q low in
            let next = moved.epoch in
            let last : since_of v q < v.epoch = omega (arith, since, upto, next) in
            grind (arith, nat_tests, new, last)

    abbrev Stage : ℕ → Work → Type 0
    Stage k w = Goes n.home.config (number_of n) H R A S k w

    trimmed : (y : Bool) (keep : ℕ) (w : Work) → Stage 0 w → Stage 0 (trim_if y keep w)
    trimmed true keep w i = i
    trimmed false keep w i = i

    begun : (x : Bool) → (x ≡ true → n.home.txs.txs ≡ []) → Stage 0 (begin_life x d v (reply (reply.Installed v.epoch) (with_node (begin_work n d) (in_view v n))))
    begun false none = at_start 0
    begun true none =
        trimmed _ _ (with_node (reply (reply.Installed v.epoch) (with_node (begin_work n d) (in_view v n))) (born_at v.epoch (in_view v n)))
        (record {
          config = refl;
          node = refl;
          places = sound.places;
          locks = λ t p is. absurd (none_holds p (record (n.home.txs) { born = v.epoch }) t (none refl) is);
          rights = had;
          sends = tt;
          serving = λ q is. fine_table q is;
        })

    partitions_go : (k q : ℕ) → q + k ≤ n.home.config.nodes → (w : Work) → Stage q w → On (Stage (q + k)) (for_each (install_partition d n.view v) (count_from q k) w)
    unfolding for_each count_from
    partitions_go zero q low w i = subst (λ (j : ℕ). Stage j w) (omega arith) i
    partitions_go (suc k) q low w i =
        subst (λ (j : ℕ). On (Stage j) (for_each (install_partition d n.view v) (count_from q (suc k)) w)) (omega arith)
        (on_then (Stage (q + 1)) (Stage (q + 1 + k)) (install_partition d n.view v q w) (for_each (install_partition d n.view v) (count_from (q + 1) k))
        (partition_goes n.home.config sound.limits.some_nodes (number_of n) H R A S q (omega (arith, low)) d n.view v (fresh q) w i) (λ x j. partitions_go k (q + 1) (omega (arith, low)) x j))

    install_now : On Now (install_view d v (begin_work n d))
    unfolding install_view
    install_now =
        subst (λ (j : ℕ). On (Stage j) (install_view d v (begin_work n d))) (omega arith)
        (partitions_go n.home.config.nodes 0 (omega arith) (begin_life (born_of v (number_of n) == v.epoch) d v (reply (reply.Installed v.epoch) (with_node (begin_work n d) (in_view v n))))
        (begun (born_of v (number_of n) == v.epoch) idle))

  event_now : (event : NodeEvent) → CanCome n event → Hears n R event → refusal n event ≡ None → On Now (do_event d event (begin_work n d))
  unfolding refusal do_event access_refusal
  event_now Begin can hear none = begin_now
  event_now (Read t p) can hear none = access_says n.home.config sound.limits.some_nodes (number_of n) H R A S reads (record { tx = t; page = p; write = None }) (begin_work n d) start
  event_now (Write t p place bytes) can hear none = access_says n.home.config sound.limits.some_nodes (number_of n) H R A S reads (record { tx = t; page = p; write = Some (place, bytes) }) (begin_work n d) start
  event_now (Commit t) can hear none = commit_now t (seen n (refusal_in_view n (Commit t)) none)
  event_now (Abort t) can hear none = abort_now t (seen n (refusal_in_view n (Abort t)) none)
  event_now (Deliver from m) can hear none = message_now from m can.1.body hear
  event_now (Evict p) can hear none = back_now p (evict_copy p (begin_work n d)).node.home refl refl refl
  event_now (Flush p) can hear none = back_now p (flush_copy p (begin_work n d)).node.home refl refl refl
  event_now (Install v) can hear none = install_now v can.1 (not_false (may_install n n.view v) (not_refused (not (may_install n n.view v)) reason.NoView None none).0)
  event_now Cut can hear none = cut_now

  abbrev After : Plan → Type 0
  After p = State n.home.config (number_of n) H R A S n.home.config.nodes p.node.home p.node.tables p.sends

  pub step_now : (event : NodeEvent) → CanCome n event → Hears n R event → On After (nodestep n event d)
  unfolding nodestep
  step_now event can hear = on_so Now After (unless_refused (refusal n event) d event (begin_work n d)) plan_of (by (refusal n event) refl) (λ w i. i)
    where
      by : (o : Option Reason) → refusal n event ≡ o → On Now (unless_refused o d event (begin_work n d))
      by (Some r) e = start
      by None e = event_now event can hear e
