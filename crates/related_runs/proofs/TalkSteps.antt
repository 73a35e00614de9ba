-- What a node sends in a step has its parties, and living transactions alone wait in its tables after it.
use Rattle.std.proofs.Common.{◌≡◌, refl, sym, ap, subst, ◌∙◌, ℕ, zero, suc, ◌+◌, ◌<◌, ◌≤◌, ◌==◌, ◌&&◌, not, nat_lt, Bool, true, false, [], slice_index_or, Option, Some, None, is_some, arith}
use Rattle.std.specs.Prelude.{IfSome, ⊤}
use Rattle.std.specs.List.{AllByRecursion, list_all}
use Rattle.pcl_base.specs.Limits.{Sizes}
use Rattle.pcl_base.specs.declared.lock.Verdict.{Verdict}
use Rattle.pcl_base.specs.declared.lock.Verdict.TheVariants as verdict
use Rattle.pcl_base.specs.declared.message.Body.{Body}
use Rattle.pcl_base.specs.declared.message.Body.TheVariants as body
use Rattle.pcl_base.specs.declared.message.Message.{Message}
use Rattle.pcl_base.specs.declared.message.ReportWait.{ReportWait}
use Rattle.pcl_base.specs.declared.reply.Reason.{Reason}
use Rattle.pcl_base.specs.declared.reply.Reason.TheVariants as reason
use Rattle.pcl_base.specs.declared.reply.Reply.TheVariants as reply
use Rattle.pcl_base.specs.declared.tx.TxId.{TxId}
use Rattle.text_rules.specs.MessageBytes.{IsBody}
use Rattle.run_rules.specs.Disk.{Disk, log_at}
use Rattle.run_rules.specs.Views.{View, is_live, born_of, owner_of, since_of, count_from}
use Rattle.rule_laws.specs.LaterViews.{IsWhole}
use Rattle.node_rules.specs.AccessRule.{Access}
use Rattle.node_rules.specs.CutRule.{cuttable}
use Rattle.node_rules.specs.EndRule.{abort, commit}
use Rattle.node_rules.specs.InstallRule.{install_partition, owned_before, trim_if, born_at, begin_life, in_view, install_view}
use Rattle.node_rules.specs.LockRule.{ask, returned}
use Rattle.node_rules.specs.LockTable.{LockTable}
use Rattle.node_rules.specs.NodeState.{HomeState, NodeState, NodeEvent, Begin, Read, Write, Commit, Abort, Deliver, Evict, Flush, Install, Cut, partition, number_of, table_at, table_of}
use Rattle.node_rules.specs.NodeStep.{Plan, plan_of, begin_work, work_off, by_verdict, judge_in, partition_of, take_message, cut_if, cut_front, do_event, unless_refused, nodestep}
use Rattle.node_rules.specs.OpenTxs.{OpenTxs, is_open, begin}
use Rattle.node_rules.specs.OwnerRule.{do_access}
use Rattle.node_rules.specs.Refusals.{owns_new, may_install, refuse_if, refusal, refusal_in_view}
use Rattle.node_rules.specs.Work.{Work, work_of_home, with_node, for_each, write_back, reply}
use Rattle.home_laws.specs.Refused.{access_refusal}
use Rattle.home_laws.specs.RefusedEnds.{commit_refusal, abort_refusal}
use Rattle.home_laws.proofs.Allowed.{allowed}
use Rattle.home_laws.proofs.EndNeeds.{commit_allowed, abort_allowed}
use Rattle.home_laws.proofs.Kept.{home_written}
use Rattle.home_laws.proofs.Opens.{open_is_own}
use Rattle.home_laws.proofs.Tests.{and_left, and_right, not_false, number_equal}
use Rattle.home_laws.proofs.Words.{and_true}
use Rattle.step_laws.proofs.Outcomes.{On, on_then, on_so, on_more, on_any}
use Rattle.node_laws.specs.Nodes.{IsViewOf, IsSound, CanCome, DiskFits}
use Rattle.node_laws.specs.Laws.{IsStep}
use Rattle.node_laws.proofs.Bases.{base_is, base_of, base_sound, begun_good}
use Rattle.node_laws.proofs.Ends.{abort_good, commit_good}
use Rattle.node_laws.proofs.Events.{not_refused}
use Rattle.node_laws.proofs.Grants.{access_good}
use Rattle.node_laws.proofs.Views.{KeepsOwners, moved_of, moved_keeps, begins_keep}
use Rattle.node_laws.proofs.Works.{IsBase, IsHomeOf, IsHomeWork, part_of}
use Rattle.cluster_laws.proofs.EraParts.Lives.{live_known}
use Rattle.cluster_laws.proofs.EraParts.Nexts.{follows_born}
use Rattle.page_relation.specs.Together.{IsOf}
use Rattle.related_runs.specs.Parties.{IsLiving, WaitLiving, TablesLiving}
use Rattle.related_runs.proofs.Stepped.{seen}
use Rattle.related_runs.proofs.TalkEnds.{Speaks, enter_speaks, end_speaks, access_speaks, release_speaks, grant_speaks, revoke_speaks, report_speaks}
use Rattle.related_runs.proofs.TalkRedo.{WasLiving, At, partition_talks}
use Rattle.related_runs.proofs.Talking.{IsFrame, IsSaid, AreTables, Talks, frame_home}
use Rattle.related_runs.proofs.Waiters.{TableWaits, ask_waits, returned_waits}

-- what a message that is taken needs
abbrev pub MayTake : Sizes → View → ℕ → Body → Type 0
MayTake c v from (body.Request r) = IsLiving v r.tx
MayTake c v from (body.Grant g) = ⊤
MayTake c v from (body.Release r) = ⊤
MayTake c v from (body.Revoke p) = owner_of v (partition c p) ≡ from
MayTake c v from (body.Return r) = ⊤
MayTake c v from (body.Report r) = AllByRecursion (λ (x : ReportWait). IsLiving v x.tx) r.waits

-- the verdict on a message at a node
abbrev pub verdict_of : NodeState → ℕ → Message → Verdict
verdict_of n from m = judge_in n.view (number_of n) from m.epoch (partition_of n.home.config m.body)

-- what an event needs of a node in a view: of a message that is taken
abbrev pub MayHear : NodeState → View → NodeEvent → Type 0
MayHear n v (Deliver from m) = verdict_of n from m ≡ verdict.Taken → MayTake n.home.config v from m.body
MayHear n v event = ⊤

-- what a step leaves: tables where living transactions wait, and what is sent has its parties
pub record IsSpoken (c : Sizes) (me : ℕ) (v : View) (p : Plan) : Type 0 where
  pub tables : (q : ℕ) → q < c.nodes → IfSome (table_at p.node q) (WaitLiving v)
  pub said : (some : 1 ≤ c.nodes) → AllByRecursion (IsSaid c some v me) p.sends

-- ---- a node in a view
module _ (n : NodeState) (d : Disk) (sound : IsSound n) (fits : DiskFits n.home.config d) (v : View) (there : n.view ≡ Some v)
    (tables : (q : ℕ) → q < n.home.config.nodes → IfSome (table_at n q) (WaitLiving v)) where
  some : 1 ≤ n.home.config.nodes
  some = sound.limits.some_nodes

  abbrev Says : Work → Type 0
  Says w = Speaks n.home.config sound.limits.some_nodes v (number_of n) w

  is : IsViewOf n v
  is = subst (λ (o : Option View). IfSome o (IsViewOf n)) there sound.view

  base : IsBase (base_of n)
  base = base_is (base_of n) (base_sound n sound)

  part : IsHomeWork (base_of n) (work_of_home (begin_work n d))
  part = part_of (base_of n) base (begin_work n d) (begun_good n d sound fits)

  frame_of : (h : HomeState) → IsHomeOf (base_of n) h → IsFrame n.home.config sound.limits.some_nodes v (number_of n) h n.view n.epoch
  frame_of h of = record { config = of.config; node = of.number; born = of.born ∙ sym is.born; view_is = there; epoch_is = sym is.epoch }

  owned : (q : ℕ) → q < n.home.config.nodes → (t : LockTable) → table_at n q ≡ Some t → owner_of v q ≡ number_of n
  owned q low t at =
      number_equal (owner_of v q) (number_of n)
      (ap (λ (o : Option View). owned_before o q (number_of n)) (sym there) ∙ sym (sound.owned q low) ∙ ap (λ (o : Option LockTable). is_some o) at)

  start : Says (begin_work n d)
  start = (frame_of n.home part.home, (sound.places, each), tt)
    where
      each : (q : ℕ) → q < n.home.config.nodes → IfSome (table_at n q) (λ t. (owner_of v q ≡ number_of n) × TableWaits (IsLiving v) t)
      each q low = by (table_at n q) refl (tables q low)
        where
          by : (o : Option LockTable) → table_at n q ≡ o → IfSome o (WaitLiving v) → IfSome o (λ t. (owner_of v q ≡ number_of n) × TableWaits (IsLiving v) t)
          by None e w = tt
          by (Some t) e w = (owned q low t e, w)

  own_tx : (t : TxId) → is_open n.home.txs t ≡ true → IsOf v (number_of n) t
  own_tx t open_now =
      let own = open_is_own n.home.txs t open_now in
      record {
        node = number_equal t.node n.home.txs.node (and_left (t.node == n.home.txs.node) (t.born == n.home.txs.born) own);
        born = number_equal t.born n.home.txs.born (and_right (t.node == n.home.txs.node) (t.born == n.home.txs.born) own) ∙ sym is.born;
      }

  living_tx : (t : TxId) → is_open n.home.txs t ≡ true → IsLiving v t
  living_tx t open_now =
      let own = own_tx t open_now in
      record { live = ap (is_live v.live) own.node ∙ is.live; born = own.born ∙ ap (born_of v) (sym own.node) }

  access_says : (a : Access) → access_refusal a n.home ≡ None → On Says (do_access a (begin_work n d))
  access_says a none =
      let may = allowed a n.home none in
      access_speaks n.home.config sound.limits.some_nodes v (number_of n) a (own_tx a.tx may.there) (living_tx a.tx may.there) (begin_work n d)
      (frame_of _ (access_good (base_of n) a _ (work_of_home (begin_work n d)) none may.page part).home) start

  commit_says : (t : TxId) → refusal_in_view n (Commit t) ≡ None → On Says (do_event d (Commit t) (begin_work n d))
  unfolding do_event commit_refusal
  commit_says t none =
      let may = commit_allowed t n.home none in
      end_speaks n.home.config sound.limits.some_nodes v (number_of n) t (own_tx t may.0) (living_tx t may.0) (reply.Committed t) (begin_work n d) (commit t (work_of_home (begin_work n d)))
      (frame_of _ (commit_good (base_of n) t (work_of_home (begin_work n d)) may.0 may.1 part).work.home, start.1, start.2)

  abort_says : (t : TxId) → refusal_in_view n (Abort t) ≡ None → On Says (do_event d (Abort t) (begin_work n d))
  unfolding do_event abort_refusal
  abort_says t none =
      let may = abort_allowed t n.home none in
      end_speaks n.home.config sound.limits.some_nodes v (number_of n) t (own_tx t may) (living_tx t may) (reply.Aborted t) (begin_work n d) (abort t (work_of_home (begin_work n d)))
      (frame_of _ (abort_good (base_of n) t (work_of_home (begin_work n d)) may part).work.home, start.1, start.2)

  message_says : (from : ℕ) (m : Message) → IsBody n.home.config m.body → (verdict_of n from m ≡ verdict.Taken → MayTake n.home.config v from m.body) → On Says (take_message d from m (begin_work n d))
  unfolding take_message
  message_says from m fit may = by (judge_in n.view (number_of n) from m.epoch (partition_of n.home.config m.body)) refl
    where
      off : (x : Body) → IsBody n.home.config x → MayTake n.home.config v from x → On Says (work_off d from x (reply reply.Taken (begin_work n d)))
      off (body.Request r) i k =
          enter_speaks n.home.config sound.limits.some_nodes v (number_of n) r.page (λ e. ask e (record { tx = r.tx; mode = r.mode; have = r.have }))
          (λ e all. ask_waits (IsLiving v) e (record { tx = r.tx; mode = r.mode; have = r.have }) k all) (reply reply.Taken (begin_work n d)) start
      off (body.Grant g) i k = grant_speaks n.home.config sound.limits.some_nodes v (number_of n) (table_of n g.page) g (reply reply.Taken (begin_work n d)) start
      off (body.Release r) i k = release_speaks n.home.config sound.limits.some_nodes v (number_of n) r (reply reply.Taken (begin_work n d)) start
      off (body.Revoke p) i k = revoke_speaks n.home.config sound.limits.some_nodes v (number_of n) from p (reply reply.Taken (begin_work n d)) k sound.home start
      off (body.Return r) i k =
          enter_speaks n.home.config sound.limits.some_nodes v (number_of n) r.page (λ e. returned e from r.readers) (λ e all. returned_waits (IsLiving v) from r.readers e all)
          (reply reply.Taken (begin_work n d)) start
      off (body.Report r) i k = report_speaks n.home.config sound.limits.some_nodes v (number_of n) d from r (reply reply.Taken (begin_work n d)) i.0 k start

      by : (x : Verdict) → judge_in n.view (number_of n) from m.epoch (partition_of n.home.config m.body) ≡ x → On Says (by_verdict x d from m.body (begin_work n d))
      by verdict.Taken e = off m.body fit (may e)
      by verdict.Held e = start
      by verdict.Dropped e = start

  cut_says : On Says (do_event d Cut (begin_work n d))
  unfolding do_event
  cut_says =
      on_so (λ (k : ℕ). ⊤) Says (cuttable n.home.config d.pages (log_at d (number_of n))) (cut_front (begin_work n d)) (on_any (cuttable n.home.config d.pages (log_at d (number_of n))))
      (λ k any. by k (k == 0))
    where
      by : (k : ℕ) (x : Bool) → Says (reply (reply.Cut k) (cut_if x k (begin_work n d)))
      by k true = start
      by k false = start

  back_frame : (p : ℕ) (h : HomeState) → h.config ≡ (write_back p (work_of_home (begin_work n d))).home.config → h.txs ≡ (write_back p (work_of_home (begin_work n d))).home.txs
      → IsFrame n.home.config sound.limits.some_nodes v (number_of n) h n.view n.epoch
  back_frame p h config txs =
      let same = home_written p (work_of_home (begin_work n d)) in
      frame_home n.home.config sound.limits.some_nodes v (number_of n) n.home h n.view n.epoch (config ∙ ap (λ (x : HomeState). x.config) same) (ap (λ (s : OpenTxs). s.node) txs ∙ ap (λ (x : HomeState). x.txs.node) same)
      (ap (λ (s : OpenTxs). s.born) txs ∙ ap (λ (x : HomeState). x.txs.born) same) start.0

  pub event_says : (event : NodeEvent) → ((w : View) → event ≡ Install w → ⊥) → CanCome n event → MayHear n v event → refusal n event ≡ None → On Says (do_event d event (begin_work n d))
  unfolding refusal do_event access_refusal begin
  event_says Begin other can hear none = (record { config = refl; node = refl; born = start.0.born; view_is = start.0.view_is; epoch_is = start.0.epoch_is }, start.1, start.2)
  event_says (Read t p) other can hear none = access_says (record { tx = t; page = p; write = None }) (seen n (refusal_in_view n (Read t p)) none)
  event_says (Write t p place bytes) other can hear none = access_says (record { tx = t; page = p; write = Some (place, bytes) }) (seen n (refusal_in_view n (Write t p place bytes)) none)
  event_says (Commit t) other can hear none = commit_says t (seen n (refusal_in_view n (Commit t)) none)
  event_says (Abort t) other can hear none = abort_says t (seen n (refusal_in_view n (Abort t)) none)
  event_says (Deliver from m) other can hear none = message_says from m can.1.body hear
  event_says (Evict p) other can hear none = (back_frame p _ refl refl, start.1, start.2)
  event_says (Flush p) other can hear none = (back_frame p _ refl refl, start.1, start.2)
  event_says (Install w) other can hear none = absurd (other w refl)
  event_says Cut other can hear none = cut_says

-- ---- an install
module _ (n : NodeState) (d : Disk) (sound : IsSound n) (v : View) (whole : IsWhole n.home.config v) (live : is_live v.live (number_of n) ≡ true) (may : may_install n n.view v ≡ true) (tables : TablesLiving n) where
  pub keeps : (q : ℕ) → q < n.home.config.nodes → (since_of v q == v.epoch) ≡ false → owned_before n.view q (number_of n) ≡ owned_before (Some v) q (number_of n)
  keeps = by n.view sound.view may
    where
      by : (o : Option View) → IfSome o (IsViewOf n) → may_install n o v ≡ true → KeepsOwners n.home.config.nodes o v (number_of n)
      by None w m =
          begins_keep v (number_of n) n.home.config.nodes
          (and_true (born_of v (number_of n) == v.epoch && nat_lt n.epoch v.epoch) (list_all (owns_new v (number_of n)) (count_from 0 n.home.config.nodes)) m).1
      by (Some u) w m = moved_keeps n.home.config u v (number_of n) w.whole (moved_of n.home.config u v w.whole m)

  pub goes_on : (u : View) (t : TxId) → n.view ≡ Some u → is_live v.live t.node ≡ true → IsLiving u t → IsLiving v t
  goes_on u t e now was =
      let w : IsViewOf n u = subst (λ (o : Option View). IfSome o (IsViewOf n)) e sound.view in
      let m : may_install n (Some u) v ≡ true = subst (λ (o : Option View). may_install n o v ≡ true) e may in
      record { live = now; born = was.born ∙ sym (follows_born n.home.config u v t.node w.whole m (live_known n.home.config u t.node w.whole was.live) was.live) }

  born_later : (born_of v (number_of n) == v.epoch) ≡ false → n.home.txs.born ≡ born_of v (number_of n)
  born_later e = by n.view sound.view may
    where
      by : (o : Option View) → IfSome o (IsViewOf n) → may_install n o v ≡ true → n.home.txs.born ≡ born_of v (number_of n)
      by None w m =
          let parts = and_true (born_of v (number_of n) == v.epoch && nat_lt n.epoch v.epoch) (list_all (owns_new v (number_of n)) (count_from 0 n.home.config.nodes)) m in
          let now = (and_true (born_of v (number_of n) == v.epoch) (nat_lt n.epoch v.epoch) parts.0).0 in
          let bad : true ≡ false = sym now ∙ e in absurd (cc)
      by (Some u) w m = sym w.born ∙ sym (follows_born n.home.config u v (number_of n) w.whole m (live_known n.home.config u (number_of n) w.whole w.live) w.live)

  abbrev Stage : ℕ → Work → Type 0
  Stage k w = Talks n.home.config sound.limits.some_nodes v (number_of n) (At n.home.config sound.limits.some_nodes v (number_of n) n.view live keeps goes_on k) w

  first_tables : AreTables n.home.config sound.limits.some_nodes v (number_of n) (At n.home.config sound.limits.some_nodes v (number_of n) n.view live keeps goes_on 0) n.tables
  first_tables = (sound.places, each)
    where
      was : (q : ℕ) → q < n.home.config.nodes → (t : LockTable) → table_at n q ≡ Some t → (o : Option View) → n.view ≡ o → IfSome o (λ u. (j : ℕ) → j < n.home.config.nodes → IfSome (table_at n j) (WaitLiving u))
          → (owned_before o q (number_of n) ≡ true) × TableWaits (WasLiving n.home.config sound.limits.some_nodes v (number_of n) n.view live keeps goes_on o) t
      was q low t at None e all =
          let bad : true ≡ false = ap (λ (o : Option LockTable). is_some o) (sym at) ∙ sound.owned q low ∙ ap (λ (o : Option View). owned_before o q (number_of n)) e in
          absurd (cc)
      was q low t at (Some u) e all = (
        ap (λ (o : Option View). owned_before o q (number_of n)) (sym e) ∙ sym (sound.owned q low) ∙ ap (λ (o : Option LockTable). is_some o) at,
        subst (λ (o : Option LockTable). IfSome o (WaitLiving u)) at (all q low),
      )

      each : (q : ℕ) → q < n.home.config.nodes → IfSome (table_at n q) (At n.home.config sound.limits.some_nodes v (number_of n) n.view live keeps goes_on 0 q)
      each q low = by (table_at n q) refl
        where
          by : (o : Option LockTable) → table_at n q ≡ o → IfSome o (At n.home.config sound.limits.some_nodes v (number_of n) n.view live keeps goes_on 0 q)
          by None e = tt
          by (Some t) e = ((λ l. absurd (omega (arith, l))), (λ l. was q low t e n.view refl tables))

  trimmed : (y : Bool) (keep : ℕ) (w : Work) → Stage 0 w → Stage 0 (trim_if y keep w)
  trimmed true keep w i = i
  trimmed false keep w i = i

  begun : (x : Bool) → (born_of v (number_of n) == v.epoch) ≡ x → Stage 0 (begin_life x d v (reply (reply.Installed v.epoch) (with_node (begin_work n d) (in_view v n))))
  begun false e = (record { config = refl; node = refl; born = born_later e; view_is = refl; epoch_is = refl }, first_tables, tt)
  begun true e =
      trimmed _ _ (with_node (reply (reply.Installed v.epoch) (with_node (begin_work n d) (in_view v n))) (born_at v.epoch (in_view v n)))
      (record { config = refl; node = refl; born = sym (number_equal (born_of v (number_of n)) v.epoch e); view_is = refl; epoch_is = refl }, first_tables, tt)

  partitions_say : (k q : ℕ) → q + k ≤ n.home.config.nodes → (w : Work) → Stage q w → On (Stage (q + k)) (for_each (install_partition d n.view v) (count_from q k) w)
  unfolding for_each count_from
  partitions_say zero q low w i = subst (λ (j : ℕ). Stage j w) (omega arith) i
  partitions_say (suc k) q low w i =
      subst (λ (j : ℕ). On (Stage j) (for_each (install_partition d n.view v) (count_from q (suc k)) w)) (omega arith)
      (on_then (Stage (q + 1)) (Stage (q + 1 + k)) (install_partition d n.view v q w) (for_each (install_partition d n.view v) (count_from (q + 1) k))
      (partition_talks n.home.config sound.limits.some_nodes v (number_of n) n.view live keeps goes_on q (omega (arith, low)) d w i) (λ x j. partitions_say k (q + 1) (omega (arith, low)) x j))

  pub install_says : On (Stage (0 + n.home.config.nodes)) (install_view d v (begin_work n d))
  unfolding install_view
  install_says =
      partitions_say n.home.config.nodes 0 (omega arith) (begin_life (born_of v (number_of n) == v.epoch) d v (reply (reply.Installed v.epoch) (with_node (begin_work n d) (in_view v n))))
      (begun (born_of v (number_of n) == v.epoch) refl)

-- ---- a step
abbrev IsSpokenAll : Sizes → ℕ → Plan → Type 0
IsSpokenAll c me p = ((v : View) → p.node.view ≡ Some v → IsSpoken c me v p) × (p.node.view ≡ None → p.sends ≡ [])

one_view : (v w : View) (o : Option View) → o ≡ Some v → o ≡ Some w → v ≡ w
one_view v w o e f = let both : Some v ≡ Some w = sym e ∙ f in cc

some_view : (v : View) (o : Option View) → o ≡ Some v → o ≡ None → ⊥
some_view v o e f = let bad : Some v ≡ None = sym e ∙ f in absurd (cc)

module _ (n : NodeState) (d : Disk) (sound : IsSound n) (fits : DiskFits n.home.config d) (tables : TablesLiving n) where
  silent : (r : Reason) (event : NodeEvent) → IsSpokenAll n.home.config (number_of n) (plan_of (reply (reply.Refused r) (begin_work n d)))
  silent r event = (λ v view. record { tables = subst (λ (o : Option View). IfSome o (λ u. (q : ℕ) → q < n.home.config.nodes → IfSome (table_at n q) (WaitLiving u))) view tables; said = λ some. tt }, λ none. refl)

  spoken_in : (v : View) → n.view ≡ Some v → (w : Work) → Speaks n.home.config sound.limits.some_nodes v (number_of n) w → IsSpokenAll n.home.config (number_of n) (plan_of w)
  spoken_in v there w i = (
    λ u view.
        subst (λ (x : View). IsSpoken n.home.config (number_of n) x (plan_of w)) (one_view v u w.node.view i.0.view_is view)
        (record { tables = λ q low. by q (slice_index_or w.node.tables q None) (i.1.1 q low); said = λ some. i.2 }),
    λ none. absurd (some_view v w.node.view i.0.view_is none),
  )
    where
      by : (q : ℕ) (o : Option LockTable) → IfSome o (λ t. (owner_of v q ≡ number_of n) × TableWaits (IsLiving v) t) → IfSome o (WaitLiving v)
      by q None held = tt
      by q (Some t) held = held.1

  abbrev Spoken : Work → Type 0
  Spoken w = IsSpokenAll n.home.config (number_of n) (plan_of w)

  -- an event of a node in a view that installs none
  plain : (event : NodeEvent) → ((w : View) → event ≡ Install w → ⊥) → CanCome n event → ((v : View) → n.view ≡ Some v → MayHear n v event) → refusal n event ≡ None → is_some n.view ≡ true
      → On Spoken (do_event d event (begin_work n d))
  plain event other can hear none inside = by n.view refl tables inside
    where
      by : (o : Option View) → n.view ≡ o → IfSome o (λ u. (q : ℕ) → q < n.home.config.nodes → IfSome (table_at n q) (WaitLiving u)) → is_some o ≡ true → On Spoken (do_event d event (begin_work n d))
      by None e living some = absurd (cc)
      by (Some v) e living some =
          on_more (Speaks n.home.config sound.limits.some_nodes v (number_of n)) Spoken (do_event d event (begin_work n d)) (spoken_in v e)
          (event_says n d sound fits v e living event other can (hear v e) none)

  inside : (further : Option Reason) → refuse_if (not (is_some n.view)) reason.NotInView further ≡ None → is_some n.view ≡ true
  inside further none = not_false (is_some n.view) (not_refused (not (is_some n.view)) reason.NotInView further none).0

  installed_by : (v : View) (whole : IsWhole n.home.config v) (live : is_live v.live (number_of n) ≡ true) (may : may_install n n.view v ≡ true) (q : ℕ) → q < n.home.config.nodes → (o : Option LockTable)
      → IfSome o (At n.home.config sound.limits.some_nodes v (number_of n) n.view live (keeps n d sound v whole live may tables) (goes_on n d sound v whole live may tables) (0 + n.home.config.nodes) q) → IfSome o (WaitLiving v)
  installed_by v whole live may q low None is = tt
  installed_by v whole live may q low (Some t) is = (is.0 (omega (arith, low))).1

  installed : (v : View) → IsWhole n.home.config v → is_live v.live (number_of n) ≡ true → may_install n n.view v ≡ true → On Spoken (do_event d (Install v) (begin_work n d))
  unfolding do_event
  installed v whole live may =
      on_more (Talks n.home.config sound.limits.some_nodes v (number_of n) (At n.home.config sound.limits.some_nodes v (number_of n) n.view live (keeps n d sound v whole live may tables) (goes_on n d sound v whole live may tables) (0 + n.home.config.nodes)))
      Spoken (install_view d v (begin_work n d)) (λ w i. (
        λ u view.
            subst (λ (x : View). IsSpoken n.home.config (number_of n) x (plan_of w)) (one_view v u w.node.view i.0.view_is view)
            (record { tables = λ q low. installed_by v whole live may q low (slice_index_or w.node.tables q None) (i.1.1 q low); said = λ some. i.2 }),
        λ none. absurd (some_view v w.node.view i.0.view_is none),
      ))
      (install_says n d sound v whole live may tables)

  event_spoken : (event : NodeEvent) → CanCome n event → ((v : View) → n.view ≡ Some v → MayHear n v event) → refusal n event ≡ None → On Spoken (do_event d event (begin_work n d))
  unfolding refusal
  event_spoken Begin can hear none = plain Begin (λ w e. absurd (cc)) can hear none (inside (refusal_in_view n Begin) none)
  event_spoken (Read t p) can hear none = plain (Read t p) (λ w e. absurd (cc)) can hear none (inside (refusal_in_view n (Read t p)) none)
  event_spoken (Write t p place bytes) can hear none = plain (Write t p place bytes) (λ w e. absurd (cc)) can hear none (inside (refusal_in_view n (Write t p place bytes)) none)
  event_spoken (Commit t) can hear none = plain (Commit t) (λ w e. absurd (cc)) can hear none (inside (refusal_in_view n (Commit t)) none)
  event_spoken (Abort t) can hear none = plain (Abort t) (λ w e. absurd (cc)) can hear none (inside (refusal_in_view n (Abort t)) none)
  event_spoken (Deliver from m) can hear none = plain (Deliver from m) (λ w e. absurd (cc)) can hear none (inside (refusal_in_view n (Deliver from m)) none)
  event_spoken (Evict p) can hear none = plain (Evict p) (λ w e. absurd (cc)) can hear none (inside (refusal_in_view n (Evict p)) none)
  event_spoken (Flush p) can hear none = plain (Flush p) (λ w e. absurd (cc)) can hear none (inside (refusal_in_view n (Flush p)) none)
  event_spoken Cut can hear none = plain Cut (λ w e. absurd (cc)) can hear none (inside (refusal_in_view n Cut) none)
  event_spoken (Install v) can hear none = installed v can.0 can.1 (not_false (may_install n n.view v) (not_refused (not (may_install n n.view v)) reason.NoView None none).0)

  step_spoken : (event : NodeEvent) → CanCome n event → ((v : View) → n.view ≡ Some v → MayHear n v event) → On (IsSpokenAll n.home.config (number_of n)) (nodestep n event d)
  unfolding nodestep
  step_spoken event can hear =
      on_so Spoken (IsSpokenAll n.home.config (number_of n)) (unless_refused (refusal n event) d event (begin_work n d)) plan_of (by (refusal n event) refl) (λ w i. i)
    where
      by : (o : Option Reason) → refusal n event ≡ o → On Spoken (unless_refused o d event (begin_work n d))
      by (Some r) e = silent r event
      by None e = event_spoken event can hear e

pub plans_speak : (n : NodeState) (event : NodeEvent) (d : Disk) (p : Plan) → IsStep n event d p → TablesLiving n → ((v : View) → n.view ≡ Some v → MayHear n v event)
    → ((v : View) → p.node.view ≡ Some v → IsSpoken n.home.config (number_of n) v p) × (p.node.view ≡ None → p.sends ≡ [])
plans_speak n event d p is tables hear = subst (On (IsSpokenAll n.home.config (number_of n))) is.goes (step_spoken n d is.sound is.fits tables event is.can hear)
