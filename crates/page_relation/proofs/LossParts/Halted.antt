-- A step that a stop ends keeps the cluster related.
use Rattle.std.proofs.Common.{◌≡◌, ◌≢◌, refl, sym, ap, subst, ◌∙◌, ℕ, ◌<◌, ◌==◌, Bool, false, List, [], ◌∷◌, ◌++◌, length, slice_set, Option, Some, None, append_assoc, append-nil}
use Rattle.std.specs.List.{AllByRecursion}
use Rattle.pcl_base.specs.declared.event.Event.{Event}
use Rattle.pcl_base.specs.declared.event.Event.TheVariants as event
use Rattle.pcl_base.specs.declared.reply.Reason.{Reason}
use Rattle.pcl_base.specs.declared.trace.Entry.{Entry}
use Rattle.pcl_base.specs.declared.trace.Halt.{Halt}
use Rattle.pcl_base.specs.declared.tx.TxId.{TxId}
use Rattle.text_rules.specs.LogRecord.{record_bytes}
use Rattle.run_rules.specs.Disk.{Disk}
use Rattle.run_rules.specs.Script.{Moment, Commits, asked, kept_tx, moments}
use Rattle.node_rules.specs.DiskCalls.{DiskCall, Force, Stop, Left, done, all_done, forced, left_by}
use Rattle.node_rules.specs.EndRule.{pages_written, commit_record}
use Rattle.node_rules.specs.NodeState.{NodeState, NodeEvent, Commit}
use Rattle.node_rules.specs.NodeStep.{Plan}
use Rattle.node_rules.specs.Refusals.{refusal}
use Rattle.node_rules.specs.Words.{pick}
use Rattle.cluster_rules.specs.Clusters.{Cluster, stop_at, lose, note_entry}
use Rattle.cluster_rules.specs.ClusterStep.{links_after, halted, made_or_halted, left_of, after_plan, node_step}
use Rattle.cluster_rules.specs.Links.{link_at, clear_into}
use Rattle.cluster_laws.specs.Handed.{handed_to, IsHanded}
use Rattle.cluster_laws.specs.Sound.{IsCluster}
use Rattle.cluster_laws.proofs.Cases.{handed_is_stepped_law}
use Rattle.cluster_laws.proofs.Changes.{noted, lost}
use Rattle.cluster_laws.proofs.Steps.{step_keeps_clusters_law}
use Rattle.cluster_laws.specs.Call.Calls.{IsWrite, call_unless, on_log, calls_unless_refused, log_calls, BeginsWith}
use Rattle.cluster_laws.proofs.CallParts.Disks.{stops_keep_other_logs_law}
use Rattle.cluster_laws.proofs.CallParts.Events.{steps_begin_with_logs_law}
use Rattle.cluster_laws.specs.Link.StepLaws.{IsPlanned}
use Rattle.cluster_laws.proofs.LinkParts.Linked.{cleared_links_law}
use Rattle.page_laws.specs.Moment.Looks.{asked_last, with_entry, with_halt, Adds}
use Rattle.page_laws.proofs.MomentParts.Entries.{event_adds_law, halt_adds_law}
use Rattle.page_laws.proofs.MomentParts.Growing.{commit_tells_law}
use Rattle.page_protocol.specs.State.{Page}
use Rattle.page_relation.specs.Together.{IsRelated}
use Rattle.page_laws.specs.Storage.Stored.{forced_by}
use Rattle.page_relation.specs.Loss.Laws.{HaltedIsRelated, DifferingIsRelated}
use Rattle.page_relation.specs.Loss.Leads.{LeadsTo}
use Rattle.page_relation.specs.Loss.Writes.{MayWrite, elsewhere, versions, PastForce, unforced, past, WriteVersions, ScriptsFit}
use Rattle.page_relation.proofs.LossParts.Beside.{asked_left, logs_left, order_left, parties_left}
use Rattle.page_relation.proofs.LossParts.Crashes.{loss_leads}
use Rattle.page_relation.proofs.LossParts.Halting.{halted_links, halt_adds_none, stop_leads}
use Rattle.page_relation.proofs.LossParts.Kept.{next_state, next_step, kept_leads}
use Rattle.page_relation.proofs.LossParts.Losing.{left_cluster}
use Rattle.page_relation.proofs.LossParts.Pages.{pages_lead}
use Rattle.page_relation.proofs.LossParts.Stops.{FirstCall, no_call, forces, trims, cuts_off, first_call, Halts, nothing, a_piece, some_writes, halts, all_front, none_forced}
use Rattle.page_relation.proofs.LossParts.Told.{TellsLittle, asked_told}

-- ---- the calls

-- what the first call forces, and then page writes
forced_front : (s : NodeState) (d : Disk) (ev : NodeEvent) (first front : List DiskCall) → FirstCall s d ev first → AllByRecursion IsWrite front → forced_by (first ++ front) ≡ forced_by first
forced_front s d ev first front no_call all = none_forced None front all
forced_front s d ev first front (forces t is allowed some) all = none_forced (Some t) front all
forced_front s d ev first front trims all = none_forced None front all
forced_front s d ev first front (cuts_off count goes) all = none_forced None front all

-- the first call writes no page
without_first : (s : NodeState) (d : Disk) (ev : NodeEvent) (first front : List DiskCall) (a : Page) (p n : ℕ) → FirstCall s d ev first → MayWrite a p n (first ++ front) → MayWrite a p n front
without_first s d ev first front a p n no_call may = may
without_first s d ev first front a p n (forces t is allowed some) (elsewhere none) = elsewhere none
without_first s d ev first front a p n (forces t is allowed some) (versions own rise) = versions own rise
without_first s d ev first front a p n trims (elsewhere none) = elsewhere none
without_first s d ev first front a p n trims (versions own rise) = versions own rise
without_first s d ev first front a p n (cuts_off count goes) (elsewhere none) = elsewhere none
without_first s d ev first front a p n (cuts_off count goes) (versions own rise) = versions own rise

-- no record was kept, or that of a commit
data IsKept (s : NodeState) (d : Disk) (ev : NodeEvent) (n : ℕ) (writes : List DiskCall) (l : Left) : Type 0 where
  kept_none : l.kept ≡ None → IsKept s d ev n writes l
  kept_one : (t : TxId) (front back : List DiskCall) → ev ≡ Commit t → refusal s ev ≡ None → (length (pages_written s.home t) == 0) ≡ false → writes ≡ front ++ back
      → l.disk ≡ all_done n (done n d (Force t (record_bytes (commit_record s.home t)))) front → l.kept ≡ Some t → IsKept s d ev n writes l

is_kept : (s : NodeState) (d : Disk) (ev : NodeEvent) (n : ℕ) (first writes : List DiskCall) (l : Left) → FirstCall s d ev first → Halts n d first writes l → IsKept s d ev n writes l
is_kept s d ev n first writes l at (nothing disk none) = kept_none none
is_kept s d ev n first writes l at (a_piece t bytes k is less disk none) = kept_none none
is_kept s d ev n first writes l no_call (some_writes front back parts disk forced) = kept_none forced
is_kept s d ev n first writes l (forces t is allowed some) (some_writes front back parts disk forced) = kept_one t front back is allowed some parts disk forced
is_kept s d ev n first writes l trims (some_writes front back parts disk forced) = kept_none forced
is_kept s d ev n first writes l (cuts_off count goes) (some_writes front back parts disk forced) = kept_none forced

-- the event of a commit
commit_asks : (c : Cluster) (s : NodeState) (e : Event) (t : TxId) → handed_to c s e ≡ Some (Commit t) → asked e ≡ []
commit_asks c s (event.Begin n) t h = refl
commit_asks c s (event.Read u p) t h = absurd (cc)
commit_asks c s (event.Write u p place bytes) t h = absurd (cc)
commit_asks c s (event.Commit u) t h = refl
commit_asks c s (event.Abort u) t h = refl
commit_asks c s (event.Deliver from to) t h = refl
commit_asks c s (event.Evict n p) t h = refl
commit_asks c s (event.Flush n p) t h = refl
commit_asks c s (event.Crash n) t h = refl
commit_asks c s (event.View live owners) t h = refl
commit_asks c s (event.Install n) t h = refl
commit_asks c s event.Reopen t h = refl
commit_asks c s (event.Arm n call kept) t h = refl
commit_asks c s (event.Cut n) t h = refl

-- a halt that kept a record
halt_adds_commit : (trace : List Entry) (e : Event) (halt : Halt) (t : TxId) → asked e ≡ [] → halt.kept ≡ Some t → Adds trace (Commits t ∷ []) (with_halt trace e [] halt)
halt_adds_commit trace e halt t quiet kept =
    subst (λ (o : Option TxId). Adds (with_entry trace e [] []) (kept_tx o) (with_halt trace e [] halt)) kept (halt_adds_law trace e halt [] [])
    ∙ ap (λ (ms : List Moment). ms ++ Commits t ∷ []) (subst (λ (ms : List Moment). Adds trace ms (with_entry trace e [] [])) quiet (event_adds_law trace e []) ∙ append-nil (moments trace))

-- ---- the whole

module _ (blank : List ℕ) (c : Cluster) (e : Event) (n : ℕ) (s : NodeState) (ev : NodeEvent) (plan : Plan) (l : Left) (r : IsRelated blank c) (planned : IsPlanned c e n s ev plan)
    (left : left_of n c.disk plan.calls (stop_at c n) ≡ Some l) (fit : ScriptsFit c r.pages.page) (write : WriteVersions r.pages.page c.config.pages n plan.calls) where
  abbrev halt : Halt
  halt = record { call = l.call; kept = l.kept }

  cluster_is : IsCluster (halted e n l c)
  unfolding node_step
  cluster_is =
      subst IsCluster
      (handed_is_stepped_law c e n s ev planned.handed
      ∙ ap (after_plan e n c) planned.goes
      ∙ ap (λ (o : Option Left). made_or_halted e n plan o c) left)
      (step_keeps_clusters_law c e r.cluster)

  begins : BeginsWith (log_calls s c.disk ev) plan.calls
  begins = steps_begin_with_logs_law s ev c.disk plan planned.goes

  stopped_at : (stop : Stop) × (left_by n c.disk plan.calls stop ≡ Some l)
  stopped_at = by (stop_at c n) left
    where
      by : (o : Option Stop) → left_of n c.disk plan.calls o ≡ Some l → (stop : Stop) × (left_by n c.disk plan.calls stop ≡ Some l)
      by None is = absurd (cc)
      by (Some stop) is = (stop, is)

  at_stop : Halts n c.disk (log_calls s c.disk ev) begins.writes l
  at_stop = halts n c.disk s ev (log_calls s c.disk ev) plan.calls stopped_at.0 l (first_call s c.disk ev) begins stopped_at.1

  cleared : (x y : ℕ) → link_at (clear_into (links_after e [] c.links) n) x y ≡ pick (y == n) [] (link_at c.links x y)
  cleared = halted_links c e n s ev r.cluster planned.handed

  -- what may have been written
  may_write : (p : ℕ) (b : Page) (front back : List DiskCall) → p < c.config.pages → begins.writes ≡ front ++ back → PastForce (r.pages.page p) (forced_by (log_calls s c.disk ev)) b → MayWrite b p n front
  may_write p b front back low parts at =
      without_first s c.disk ev (log_calls s c.disk ev) front b p n (first_call s c.disk ev)
      (write p (log_calls s c.disk ev ++ front) back b low (begins.joined ∙ ap (λ (xs : List DiskCall). log_calls s c.disk ev ++ xs) parts ∙ sym (append_assoc (log_calls s c.disk ev) front back))
      (subst (λ (o : Option TxId). PastForce (r.pages.page p) o b)
      (sym (forced_front s c.disk ev (log_calls s c.disk ev) front (first_call s c.disk ev) (all_front front back (subst (AllByRecursion IsWrite) parts begins.all)))) at))

  -- a stop in a step without a commit point
  stop_none : l.kept ≡ None → (p : ℕ) → p < c.config.pages → LeadsTo (r.pages.page p) (halted e n l c) p
  unfolding lose
  stop_none none p low =
      stop_leads c n p s ev (clear_into (links_after e [] c.links) n) (slice_set c.stops n None) (with_halt c.trace e [] halt) (r.pages.page p) r.cluster planned.handed.up r.logs low
      (log_calls s c.disk ev) begins.writes l (first_call s c.disk ev) at_stop begins.all none
      (λ front back parts off. may_write p (r.pages.page p) front back low parts (subst (λ (o : Option TxId). PastForce (r.pages.page p) o (r.pages.page p)) (sym off) unforced))
      (loss_leads blank c p n (clear_into (links_after e [] c.links) n) (slice_set c.stops n None) (with_halt c.trace e [] halt) (r.pages.page p) r.cluster (r.pages.reached p low) (r.pages.related p low)
      (asked_told c.config n c.trace (with_halt c.trace e [] halt) e planned.handed.acts (halt_adds_none c.trace e halt none)) cleared)

  -- a stop behind the commit point
  module _ (t : TxId) (front back : List DiskCall) (asked_for : ev ≡ Commit t) (allowed : refusal s ev ≡ None) (some : (length (pages_written s.home t) == 0) ≡ false) (parts : begins.writes ≡ front ++ back)
      (disk : l.disk ≡ all_done n (done n c.disk (Force t (record_bytes (commit_record s.home t)))) front) (kept : l.kept ≡ Some t) where
    open_tx : refusal s (Commit t) ≡ None
    open_tx = subst (λ (x : NodeEvent). refusal s x ≡ None) asked_for allowed

    first_is : log_calls s c.disk ev ≡ Force t (record_bytes (commit_record s.home t)) ∷ []
    unfolding log_calls
    first_is =
        ap (log_calls s c.disk) asked_for ∙ ap (λ (o : Option Reason). calls_unless_refused o (on_log s c.disk (Commit t))) open_tx
        ∙ ap (λ (b : Bool). call_unless b (Force t (record_bytes (commit_record s.home t)))) some

    adds : Adds c.trace (Commits t ∷ []) (with_halt c.trace e [] halt)
    adds = halt_adds_commit c.trace e halt t (commit_asks c s e t (planned.handed.event ∙ ap (λ (x : NodeEvent). Some x) asked_for)) kept

    stop_kept : (p : ℕ) → p < c.config.pages → LeadsTo (r.pages.page p) (halted e n l c) p
    unfolding lose
    stop_kept p low =
        subst (λ (d : Disk). LeadsTo (r.pages.page p) (left_cluster c n (clear_into (links_after e [] c.links) n) d (slice_set c.stops n None) (with_halt c.trace e [] halt)) p) (sym disk)
        (kept_leads blank c n s t r planned.handed.up open_tx some fit (with_halt c.trace e [] halt) adds p (clear_into (links_after e [] c.links) n) (slice_set c.stops n None) front low cleared
        (all_front front back (subst (AllByRecursion IsWrite) parts begins.all))
        (may_write p (next_state blank c n s t r planned.handed.up open_tx some fit p) front back low parts
        (subst (λ (o : Option TxId). PastForce (r.pages.page p) o (next_state blank c n s t r planned.handed.up open_tx some fit p)) (sym (ap forced_by first_is))
        (past t (next_state blank c n s t r planned.handed.up open_tx some fit p) (next_step blank c n s t r planned.handed.up open_tx some fit p low)))))

    asked_kept : (u : TxId) → u.node ≢ n → asked_last u (with_halt c.trace e [] halt) ≡ asked_last u c.trace
    asked_kept u other = (commit_tells_law c.config c.trace (with_halt c.trace e [] halt) t adds).asked u

  -- the whole of it
  halted_whole : ((p : ℕ) → p < c.config.pages → LeadsTo (r.pages.page p) (halted e n l c) p) → ((u : TxId) → u.node ≢ n → asked_last u (with_halt c.trace e [] halt) ≡ asked_last u c.trace) → IsRelated blank (halted e n l c)
  unfolding lose
  halted_whole leads asks =
      record {
        cluster = cluster_is;
        asked = asked_left c n (clear_into (links_after e [] c.links) n) l.disk (slice_set c.stops n None) (with_halt c.trace e [] halt) asks r.asked;
        logs = logs_left c n (clear_into (links_after e [] c.links) n) l.disk (slice_set c.stops n None) (with_halt c.trace e [] halt) (λ m other. stops_keep_other_logs_law n m c.disk plan.calls stopped_at.0 l other stopped_at.1) r.logs;
        order = order_left c n (clear_into (links_after e [] c.links) n) l.disk (slice_set c.stops n None) (with_halt c.trace e [] halt) cleared r.order;
        parties = parties_left c n (clear_into (links_after e [] c.links) n) l.disk (slice_set c.stops n None) (with_halt c.trace e [] halt) cleared r.parties;
        pages = pages_lead blank c (halted e n l c) r.pages refl leads;
      }

  halted_related : IsRelated blank (halted e n l c)
  halted_related = by (is_kept s c.disk ev n (log_calls s c.disk ev) begins.writes l (first_call s c.disk ev) at_stop)
    where
      by : IsKept s c.disk ev n begins.writes l → IsRelated blank (halted e n l c)
      by (kept_none none) =
          halted_whole (stop_none none)
          (λ u other. (asked_told c.config n c.trace (with_halt c.trace e [] halt) e planned.handed.acts (halt_adds_none c.trace e halt none)).asked u other)
      by (kept_one t front back is allowed some parts disk kept) = halted_whole (stop_kept t front back is allowed some parts disk kept) (asked_kept t front back is allowed some parts disk kept)

pub halted_is_related_law : HaltedIsRelated
halted_is_related_law blank c e n s ev plan l r planned left fit write = halted_related blank c e n s ev plan l r planned left fit write

-- ---- a page that differs

module _ (blank : List ℕ) (c : Cluster) (e : Event) (n : ℕ) (s : NodeState) (ev : NodeEvent) (r : IsRelated blank c) (h : IsHanded c e n s ev) where
  tells : TellsLittle c.config n c.trace (with_entry c.trace e [] [])
  tells = asked_told c.config n c.trace (with_entry c.trace e [] []) e h.acts (event_adds_law c.trace e [])

  differing : IsRelated blank (note_entry e [] [] None (lose n c))
  unfolding lose
  differing =
      record {
        cluster = noted e [] [] None (lose n c) (lost n c r.cluster);
        asked = asked_left c n (clear_into c.links n) c.disk (slice_set c.stops n None) (with_entry c.trace e [] []) tells.asked r.asked;
        logs = logs_left c n (clear_into c.links n) c.disk (slice_set c.stops n None) (with_entry c.trace e [] []) (λ m other. refl) r.logs;
        order = order_left c n (clear_into c.links n) c.disk (slice_set c.stops n None) (with_entry c.trace e [] []) (λ x y. cleared_links_law c.links n x y) r.order;
        parties = parties_left c n (clear_into c.links n) c.disk (slice_set c.stops n None) (with_entry c.trace e [] []) (λ x y. cleared_links_law c.links n x y) r.parties;
        pages = pages_lead blank c (note_entry e [] [] None (lose n c)) r.pages refl
            (λ p low.
            (let x = loss_leads blank c p n (clear_into c.links n) (slice_set c.stops n None) (with_entry c.trace e [] []) (r.pages.page p) r.cluster (r.pages.reached p low) (r.pages.related p low) tells (λ x y. cleared_links_law c.links n x y) in
            record { page = x.page; run = x.run; related = x.related }));
      }

pub differing_is_related_law : DifferingIsRelated
differing_is_related_law blank c e n s ev r h = differing blank c e n s ev r h
