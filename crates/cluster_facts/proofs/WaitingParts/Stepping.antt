-- Who waits in the tables of a node after a step.
use Rattle.std.proofs.Common.{◌≡◌, refl, sym, ap, subst, ◌∙◌, ℕ, zero, suc, ◌+◌, ◌<◌, ◌≤◌, ◌==◌, Bool, true, false, slice_index_or, Option, Some, None, is_some, arith}
use Rattle.std.specs.Prelude.{IfSome, ⊤}
use Rattle.std.specs.List.{AllByRecursion}
use Rattle.pcl_base.specs.Limits.{Sizes}
use Rattle.pcl_base.specs.declared.lock.Verdict.{Verdict}
use Rattle.pcl_base.specs.declared.lock.Verdict.TheVariants as verdict
use Rattle.pcl_base.specs.declared.message.Body.{Body}
use Rattle.pcl_base.specs.declared.message.Body.TheVariants as body
use Rattle.pcl_base.specs.declared.message.Message.{Message}
use Rattle.pcl_base.specs.declared.message.ReportWait.{ReportWait}
use Rattle.pcl_base.specs.declared.reply.Reason.{Reason}
use Rattle.pcl_base.specs.declared.reply.Reply.TheVariants as reply
use Rattle.pcl_base.specs.declared.tx.TxId.{TxId}
use Rattle.text_rules.specs.MessageBytes.{IsBody}
use Rattle.run_rules.specs.Disk.{Disk, log_at}
use Rattle.run_rules.specs.Views.{View, born_of, since_of, count_from}
use Rattle.node_rules.specs.AccessRule.{Access}
use Rattle.node_rules.specs.CutRule.{cuttable}
use Rattle.node_rules.specs.EndRule.{abort, commit}
use Rattle.node_rules.specs.InstallRule.{install_partition, trim_if, born_at, begin_life, in_view, install_view}
use Rattle.node_rules.specs.LockRule.{ask, returned}
use Rattle.node_rules.specs.LockTable.{LockTable}
use Rattle.node_rules.specs.NodeState.{HomeState, NodeState, NodeEvent, Begin, Read, Write, Commit, Abort, Deliver, Evict, Flush, Install, Cut, partition, number_of, table_at, table_of}
use Rattle.node_rules.specs.NodeStep.{Plan, plan_of, begin_work, work_off, by_verdict, judge_in, partition_of, take_message, cut_if, cut_front, do_event, unless_refused, nodestep}
use Rattle.node_rules.specs.OpenTxs.{OpenTxs, is_open, begin}
use Rattle.node_rules.specs.OwnerRule.{do_access}
use Rattle.node_rules.specs.Refusals.{refusal, refusal_in_view}
use Rattle.node_rules.specs.Work.{Work, work_of_home, with_node, for_each, write_back, reply}
use Rattle.home_laws.specs.Refused.{access_refusal}
use Rattle.home_laws.specs.RefusedEnds.{commit_refusal, abort_refusal}
use Rattle.home_laws.proofs.Allowed.{allowed}
use Rattle.home_laws.proofs.EndNeeds.{commit_allowed, abort_allowed}
use Rattle.home_laws.proofs.Kept.{home_written}
use Rattle.home_laws.proofs.Opens.{open_is_own}
use Rattle.home_laws.proofs.Tests.{and_left, number_equal}
use Rattle.step_laws.proofs.Outcomes.{On, on_then, on_so, on_more, on_any}
use Rattle.node_laws.specs.Nodes.{IsSound, CanCome, DiskFits}
use Rattle.node_laws.specs.Laws.{IsStep}
use Rattle.node_laws.proofs.Bases.{base_is, base_of, base_sound, begun_good}
use Rattle.node_laws.proofs.Ends.{abort_good, commit_good}
use Rattle.node_laws.proofs.Grants.{access_good}
use Rattle.node_laws.proofs.Works.{IsBase, IsHomeOf, IsHomeWork, part_of}
use Rattle.related_runs.proofs.Stepped.{seen}
use Rattle.related_runs.proofs.Waiters.{TableWaits, ask_waits, returned_waits}
use Rattle.cluster_facts.proofs.WaitingParts.Keeping.{IsHere, AreTables, Holds, here_home}
use Rattle.cluster_facts.proofs.WaitingParts.Redoing.{At, partition_holds, table_weaker}
use Rattle.cluster_facts.proofs.WaitingParts.Ending.{Goes, enter_goes, end_goes, access_goes, release_goes, grant_goes, revoke_goes, report_goes}

-- in each table of a node transactions wait of which P holds
abbrev pub NodeWaits : (ℕ → TxId → Type 0) → NodeState → Type 0
NodeWaits P n = (q : ℕ) → q < n.home.config.nodes → IfSome (table_at n q) (TableWaits (P q))

-- what a message brings to wait
abbrev pub Brings : Sizes → (ℕ → TxId → Type 0) → Body → Type 0
Brings c P (body.Request r) = P (partition c r.page) r.tx
Brings c P (body.Grant g) = ⊤
Brings c P (body.Release r) = ⊤
Brings c P (body.Revoke p) = ⊤
Brings c P (body.Return r) = ⊤
Brings c P (body.Report r) = AllByRecursion (λ (x : ReportWait). P r.partition x.tx) r.waits

-- the verdict on a message at a node
abbrev pub verdict_of : NodeState → ℕ → Message → Verdict
verdict_of n from m = judge_in n.view (number_of n) from m.epoch (partition_of n.home.config m.body)

-- what an event brings, of a message that is taken
abbrev pub Hears : NodeState → (ℕ → TxId → Type 0) → NodeEvent → Type 0
Hears n P (Deliver from m) = verdict_of n from m ≡ verdict.Taken → Brings n.home.config P m.body
Hears n P event = ⊤

-- of which partitions the tables stay: an install makes those of new ones anew
abbrev pub Stays : NodeEvent → ℕ → Type 0
Stays (Install v) q = (since_of v q == v.epoch) ≡ false
Stays event q = ⊤

-- ---- an event that installs no view
module _ (n : NodeState) (d : Disk) (sound : IsSound n) (fits : DiskFits n.home.config d) (Q : ℕ → TxId → Type 0) (own : (q : ℕ) (t : TxId) → t.node ≡ number_of n → Q q t) (tables : NodeWaits Q n) where
  abbrev Says : Work → Type 0
  Says w = Goes n.home.config sound.limits.some_nodes (number_of n) Q w

  base : IsBase (base_of n)
  base = base_is (base_of n) (base_sound n sound)

  part : IsHomeWork (base_of n) (work_of_home (begin_work n d))
  part = part_of (base_of n) base (begin_work n d) (begun_good n d sound fits)

  here_of : (h : HomeState) → IsHomeOf (base_of n) h → IsHere n.home.config sound.limits.some_nodes (number_of n) h
  here_of h of = record { config = of.config; node = of.number }

  start : Says (begin_work n d)
  start = (here_of n.home part.home, (sound.places, tables))

  own_tx : (t : TxId) → is_open n.home.txs t ≡ true → (q : ℕ) → Q q t
  own_tx t open_now q = own q t (number_equal t.node n.home.txs.node (and_left (t.node == n.home.txs.node) (t.born == n.home.txs.born) (open_is_own n.home.txs t open_now)))

  access_says : (a : Access) → access_refusal a n.home ≡ None → On Says (do_access a (begin_work n d))
  access_says a none =
      let may = allowed a n.home none in
      access_goes n.home.config sound.limits.some_nodes (number_of n) Q a (own_tx a.tx may.there) (begin_work n d)
      (here_of _ (access_good (base_of n) a _ (work_of_home (begin_work n d)) none may.page part).home) start

  commit_says : (t : TxId) → refusal_in_view n (Commit t) ≡ None → On Says (do_event d (Commit t) (begin_work n d))
  unfolding do_event commit_refusal
  commit_says t none =
      let may = commit_allowed t n.home none in
      end_goes n.home.config sound.limits.some_nodes (number_of n) Q t (reply.Committed t) (begin_work n d) (commit t (work_of_home (begin_work n d)))
      (here_of _ (commit_good (base_of n) t (work_of_home (begin_work n d)) may.0 may.1 part).work.home, start.1)

  abort_says : (t : TxId) → refusal_in_view n (Abort t) ≡ None → On Says (do_event d (Abort t) (begin_work n d))
  unfolding do_event abort_refusal
  abort_says t none =
      let may = abort_allowed t n.home none in
      end_goes n.home.config sound.limits.some_nodes (number_of n) Q t (reply.Aborted t) (begin_work n d) (abort t (work_of_home (begin_work n d)))
      (here_of _ (abort_good (base_of n) t (work_of_home (begin_work n d)) may part).work.home, start.1)

  message_says : (from : ℕ) (m : Message) → IsBody n.home.config m.body → (verdict_of n from m ≡ verdict.Taken → Brings n.home.config Q m.body) → On Says (take_message d from m (begin_work n d))
  unfolding take_message
  message_says from m fit may = by (judge_in n.view (number_of n) from m.epoch (partition_of n.home.config m.body)) refl
    where
      off : (x : Body) → IsBody n.home.config x → Brings n.home.config Q x → On Says (work_off d from x (reply reply.Taken (begin_work n d)))
      off (body.Request r) i k =
          enter_goes n.home.config sound.limits.some_nodes (number_of n) Q r.page (λ e. ask e (record { tx = r.tx; mode = r.mode; have = r.have }))
          (λ e all. ask_waits (Q (partition n.home.config r.page)) e (record { tx = r.tx; mode = r.mode; have = r.have }) k all) (reply reply.Taken (begin_work n d)) start
      off (body.Grant g) i k = grant_goes n.home.config sound.limits.some_nodes (number_of n) Q (table_of n g.page) g (reply reply.Taken (begin_work n d)) start
      off (body.Release r) i k = release_goes n.home.config sound.limits.some_nodes (number_of n) Q r (reply reply.Taken (begin_work n d)) start
      off (body.Revoke p) i k = revoke_goes n.home.config sound.limits.some_nodes (number_of n) Q from p (reply reply.Taken (begin_work n d)) start
      off (body.Return r) i k =
          enter_goes n.home.config sound.limits.some_nodes (number_of n) Q r.page (λ e. returned e from r.readers) (λ e all. returned_waits (Q (partition n.home.config r.page)) from r.readers e all)
          (reply reply.Taken (begin_work n d)) start
      off (body.Report r) i k = report_goes n.home.config sound.limits.some_nodes (number_of n) Q d from r (reply reply.Taken (begin_work n d)) i.0 k start

      by : (x : Verdict) → judge_in n.view (number_of n) from m.epoch (partition_of n.home.config m.body) ≡ x → On Says (by_verdict x d from m.body (begin_work n d))
      by verdict.Taken e = off m.body fit (may e)
      by verdict.Held e = start
      by verdict.Dropped e = start

  cut_says : On Says (do_event d Cut (begin_work n d))
  unfolding do_event
  cut_says =
      on_so (λ (k : ℕ). ⊤) Says (cuttable n.home.config d.pages (log_at d (number_of n))) (cut_front (begin_work n d)) (on_any (cuttable n.home.config d.pages (log_at d (number_of n))))
      (λ k any. by k (k == 0))
    where
      by : (k : ℕ) (x : Bool) → Says (reply (reply.Cut k) (cut_if x k (begin_work n d)))
      by k true = start
      by k false = start

  back_here : (p : ℕ) (h : HomeState) → h.config ≡ (write_back p (work_of_home (begin_work n d))).home.config → h.txs ≡ (write_back p (work_of_home (begin_work n d))).home.txs
      → IsHere n.home.config sound.limits.some_nodes (number_of n) h
  back_here p h config txs =
      let same = home_written p (work_of_home (begin_work n d)) in
      here_home n.home.config sound.limits.some_nodes (number_of n) n.home h (config ∙ ap (λ (x : HomeState). x.config) same) (ap (λ (s : OpenTxs). s.node) txs ∙ ap (λ (x : HomeState). x.txs.node) same) start.0

  pub event_says : (event : NodeEvent) → ((w : View) → event ≡ Install w → ⊥) → CanCome n event → Hears n Q event → refusal n event ≡ None → On Says (do_event d event (begin_work n d))
  unfolding refusal do_event access_refusal begin
  event_says Begin other can hear none = (record { config = refl; node = refl }, start.1)
  event_says (Read t p) other can hear none = access_says (record { tx = t; page = p; write = None }) (seen n (refusal_in_view n (Read t p)) none)
  event_says (Write t p place bytes) other can hear none = access_says (record { tx = t; page = p; write = Some (place, bytes) }) (seen n (refusal_in_view n (Write t p place bytes)) none)
  event_says (Commit t) other can hear none = commit_says t (seen n (refusal_in_view n (Commit t)) none)
  event_says (Abort t) other can hear none = abort_says t (seen n (refusal_in_view n (Abort t)) none)
  event_says (Deliver from m) other can hear none = message_says from m can.1.body hear
  event_says (Evict p) other can hear none = (back_here p _ refl refl, start.1)
  event_says (Flush p) other can hear none = (back_here p _ refl refl, start.1)
  event_says (Install w) other can hear none = absurd (other w refl)
  event_says Cut other can hear none = cut_says

-- ---- an install
module _ (n : NodeState) (d : Disk) (sound : IsSound n) (v : View) (P Q : ℕ → TxId → Type 0) (own : (q : ℕ) (t : TxId) → t.node ≡ number_of n → Q q t)
    (on : (q : ℕ) (t : TxId) → q < n.home.config.nodes → (since_of v q == v.epoch) ≡ false → P q t → Q q t) (tables : NodeWaits P n) where
  abbrev Stage : ℕ → Work → Type 0
  Stage k w = Holds n.home.config sound.limits.some_nodes (number_of n) (At n.home.config sound.limits.some_nodes (number_of n) P Q own n.view v on k) w

  first_tables : AreTables n.home.config sound.limits.some_nodes (number_of n) (At n.home.config sound.limits.some_nodes (number_of n) P Q own n.view v on 0) n.tables
  first_tables = (sound.places, each)
    where
      each : (q : ℕ) → q < n.home.config.nodes → IfSome (table_at n q) (At n.home.config sound.limits.some_nodes (number_of n) P Q own n.view v on 0 q)
      each q low = by (table_at n q) refl
        where
          by : (o : Option LockTable) → table_at n q ≡ o → IfSome o (At n.home.config sound.limits.some_nodes (number_of n) P Q own n.view v on 0 q)
          by None e = tt
          by (Some t) e = (
            (λ l. absurd (omega (arith, l))),
            (λ l. (
              sym (sound.owned q low) ∙ ap (λ (o : Option LockTable). is_some o) e,
              subst (λ (o : Option LockTable). IfSome o (TableWaits (P q))) e (tables q low),
            )),
          )

  trimmed : (y : Bool) (keep : ℕ) (w : Work) → Stage 0 w → Stage 0 (trim_if y keep w)
  trimmed true keep w i = i
  trimmed false keep w i = i

  begun : (x : Bool) → Stage 0 (begin_life x d v (reply (reply.Installed v.epoch) (with_node (begin_work n d) (in_view v n))))
  begun false = (record { config = refl; node = refl }, first_tables)
  begun true =
      trimmed _ _ (with_node (reply (reply.Installed v.epoch) (with_node (begin_work n d) (in_view v n))) (born_at v.epoch (in_view v n)))
      (record { config = refl; node = refl }, first_tables)

  partitions_say : (k q : ℕ) → q + k ≤ n.home.config.nodes → (w : Work) → Stage q w → On (Stage (q + k)) (for_each (install_partition d n.view v) (count_from q k) w)
  unfolding for_each count_from
  partitions_say zero q low w i = subst (λ (j : ℕ). Stage j w) (omega arith) i
  partitions_say (suc k) q low w i =
      subst (λ (j : ℕ). On (Stage j) (for_each (install_partition d n.view v) (count_from q (suc k)) w)) (omega arith)
      (on_then (Stage (q + 1)) (Stage (q + 1 + k)) (install_partition d n.view v q w) (for_each (install_partition d n.view v) (count_from (q + 1) k))
      (partition_holds n.home.config sound.limits.some_nodes (number_of n) P Q own n.view v on q (omega (arith, low)) d w i) (λ x j. partitions_say k (q + 1) (omega (arith, low)) x j))

  pub install_says : On (Stage (0 + n.home.config.nodes)) (install_view d v (begin_work n d))
  unfolding install_view
  install_says =
      partitions_say n.home.config.nodes 0 (omega arith) (begin_life (born_of v (number_of n) == v.epoch) d v (reply (reply.Installed v.epoch) (with_node (begin_work n d) (in_view v n))))
      (begun (born_of v (number_of n) == v.epoch))

-- ---- a step
module _ (n : NodeState) (d : Disk) (sound : IsSound n) (fits : DiskFits n.home.config d) (P Q : ℕ → TxId → Type 0) (own : (q : ℕ) (t : TxId) → t.node ≡ number_of n → Q q t) (tables : NodeWaits P n) where
  abbrev Waits : Work → Type 0
  Waits w = NodeWaits Q w.node

  -- the tables as they are
  weaker : ((q : ℕ) (t : TxId) → q < n.home.config.nodes → P q t → Q q t) → NodeWaits Q n
  weaker on q low = by (table_at n q) (tables q low)
    where
      by : (o : Option LockTable) → IfSome o (TableWaits (P q)) → IfSome o (TableWaits (Q q))
      by None is = tt
      by (Some t) is = table_weaker (P q) (Q q) (λ x k. on q x low k) t is

  going : (w : Work) → Goes n.home.config sound.limits.some_nodes (number_of n) Q w → Waits w
  going w i q low = i.1.1 q (subst (λ (k : Sizes). q < k.nodes) i.0.config low)

  plain : (event : NodeEvent) → ((w : View) → event ≡ Install w → ⊥) → ((q : ℕ) (t : TxId) → q < n.home.config.nodes → P q t → Q q t) → CanCome n event → Hears n Q event → refusal n event ≡ None
      → On Waits (do_event d event (begin_work n d))
  plain event other on can hear none =
      on_more (Goes n.home.config sound.limits.some_nodes (number_of n) Q) Waits (do_event d event (begin_work n d)) going
      (event_says n d sound fits Q own (weaker on) event other can hear none)

  installed : (v : View) → ((q : ℕ) (t : TxId) → q < n.home.config.nodes → (since_of v q == v.epoch) ≡ false → P q t → Q q t) → On Waits (do_event d (Install v) (begin_work n d))
  unfolding do_event
  installed v on =
      on_more (Holds n.home.config sound.limits.some_nodes (number_of n) (At n.home.config sound.limits.some_nodes (number_of n) P Q own n.view v on (0 + n.home.config.nodes))) Waits (install_view d v (begin_work n d))
      (λ w i q low. let below = subst (λ (k : Sizes). q < k.nodes) i.0.config low in by q below (slice_index_or w.node.tables q None) (i.1.1 q below))
      (install_says n d sound v P Q own on tables)
    where
      by : (q : ℕ) → q < n.home.config.nodes → (o : Option LockTable) → IfSome o (At n.home.config sound.limits.some_nodes (number_of n) P Q own n.view v on (0 + n.home.config.nodes) q) → IfSome o (TableWaits (Q q))
      by q low None is = tt
      by q low (Some t) is = is.0 (omega (arith, low))

  event_waits : (event : NodeEvent) → ((q : ℕ) (t : TxId) → q < n.home.config.nodes → Stays event q → P q t → Q q t) → CanCome n event → Hears n Q event → refusal n event ≡ None
      → On Waits (do_event d event (begin_work n d))
  event_waits Begin on can hear none = plain Begin (λ w e. absurd (cc)) (λ q t low. on q t low tt) can hear none
  event_waits (Read t p) on can hear none = plain (Read t p) (λ w e. absurd (cc)) (λ q t low. on q t low tt) can hear none
  event_waits (Write t p place bytes) on can hear none = plain (Write t p place bytes) (λ w e. absurd (cc)) (λ q t low. on q t low tt) can hear none
  event_waits (Commit t) on can hear none = plain (Commit t) (λ w e. absurd (cc)) (λ q t low. on q t low tt) can hear none
  event_waits (Abort t) on can hear none = plain (Abort t) (λ w e. absurd (cc)) (λ q t low. on q t low tt) can hear none
  event_waits (Deliver from m) on can hear none = plain (Deliver from m) (λ w e. absurd (cc)) (λ q t low. on q t low tt) can hear none
  event_waits (Evict p) on can hear none = plain (Evict p) (λ w e. absurd (cc)) (λ q t low. on q t low tt) can hear none
  event_waits (Flush p) on can hear none = plain (Flush p) (λ w e. absurd (cc)) (λ q t low. on q t low tt) can hear none
  event_waits (Install v) on can hear none = installed v on
  event_waits Cut on can hear none = plain Cut (λ w e. absurd (cc)) (λ q t low. on q t low tt) can hear none

  -- a refused event changes nothing; of an install the tables of new partitions stay too
  step_waits : (event : NodeEvent) → (refusal n event ≡ None → (q : ℕ) (t : TxId) → q < n.home.config.nodes → Stays event q → P q t → Q q t)
      → ((r : Reason) → refusal n event ≡ Some r → (q : ℕ) (t : TxId) → q < n.home.config.nodes → P q t → Q q t) → CanCome n event → Hears n Q event
      → On (λ (p : Plan). NodeWaits Q p.node) (nodestep n event d)
  unfolding nodestep
  step_waits event on refused can hear =
      on_so Waits (λ (p : Plan). NodeWaits Q p.node) (unless_refused (refusal n event) d event (begin_work n d)) plan_of (by (refusal n event) refl) (λ w i. i)
    where
      by : (o : Option Reason) → refusal n event ≡ o → On Waits (unless_refused o d event (begin_work n d))
      by (Some r) e = weaker (refused r e)
      by None e = event_waits event (on e) can hear e

pub plans_wait : (n : NodeState) (event : NodeEvent) (d : Disk) (p : Plan) → IsStep n event d p → (P Q : ℕ → TxId → Type 0) → ((q : ℕ) (t : TxId) → t.node ≡ number_of n → Q q t) → NodeWaits P n
    → (refusal n event ≡ None → (q : ℕ) (t : TxId) → q < n.home.config.nodes → Stays event q → P q t → Q q t)
    → ((r : Reason) → refusal n event ≡ Some r → (q : ℕ) (t : TxId) → q < n.home.config.nodes → P q t → Q q t) → Hears n Q event → NodeWaits Q p.node
plans_wait n event d p is P Q own tables on refused hear =
    subst (On (λ (x : Plan). NodeWaits Q x.node)) is.goes (step_waits n d is.sound is.fits P Q own tables event on refused is.can hear)
