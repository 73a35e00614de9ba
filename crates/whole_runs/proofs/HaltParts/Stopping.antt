-- A stop in a step that may redo pages.
use Rattle.std.proofs.Common.{◌≡◌, ◌≢◌, refl, sym, ap, subst, ◌∙◌, ℕ, List, [], ◌∷◌, ◌++◌, Option, Some, None}
use Rattle.std.specs.List.{AllByRecursion, fold}
use Rattle.pcl_base.specs.declared.event.Event.{Event}
use Rattle.pcl_base.specs.declared.message.Body.{Body}
use Rattle.pcl_base.specs.declared.message.Body.TheVariants as body
use Rattle.pcl_base.specs.declared.message.Message.{Message}
use Rattle.pcl_base.specs.declared.reply.Reason.{Reason}
use Rattle.pcl_base.specs.declared.tx.TxId.{TxId}
use Rattle.text_rules.specs.LogRecord.{whole_len}
use Rattle.run_rules.specs.Disk.{Disk}
use Rattle.node_rules.specs.DiskCalls.{DiskCall, WritePage, Force, TrimLog, CutLog, forced}
use Rattle.node_rules.specs.NodeState.{NodeState, NodeEvent, Begin, Read, Write, Commit, Abort, Deliver, Evict, Flush, Install, Cut}
use Rattle.node_rules.specs.NodeStep.{Plan, begin_work, do_event, unless_refused, plan_of, nodestep}
use Rattle.node_rules.specs.Refusals.{refusal}
use Rattle.node_rules.specs.Work.{Work, Goes}
use Rattle.step_laws.proofs.Outcomes.{On, on_so}
use Rattle.cluster_laws.specs.Call.Calls.{IsWrite, log_of_node, log_calls, BeginsWith}
use Rattle.cluster_laws.proofs.CallParts.Events.{steps_begin_with_logs_law}
use Rattle.cluster_rules.specs.Clusters.{Cluster}
use Rattle.cluster_laws.specs.Link.StepLaws.{IsPlanned}
use Rattle.page_protocol.specs.State.{Page}
use Rattle.page_relation.specs.Together.{IsRelated}
use Rattle.page_laws.specs.Storage.Stored.{forced_by}
use Rattle.page_relation.specs.Loss.Writes.{MayWrite, elsewhere, PastForce, unforced, past, WriteVersions, IsNoReport}
use Rattle.page_relation.proofs.LossParts.Dirty.{may_front}
use Rattle.page_relation.proofs.LossParts.Halted.{halted_is_related_law}
use Rattle.page_relation.proofs.LossParts.Ordinary.{steps_write_versions_law}
use Rattle.page_relation.proofs.LossParts.Stops.{FirstCall, no_call, forces, trims, cuts_off, first_call}
use Rattle.related_runs.proofs.BetweenParts.Losing.{halted_pages_are_left_law, scripts_fit}
use Rattle.whole_runs.specs.Halt.Stops.{ReportsWriteVersions, InstallsWriteVersions, AllWriteVersions, AllHaltsAreRelated, AllStopsAreRelated, AllStopsLeavePages}
use Rattle.whole_runs.proofs.HaltParts.Installed.{install_may}
use Rattle.whole_runs.proofs.HaltParts.Reported.{event_may}
use Rattle.whole_runs.proofs.HaltParts.Walked.{May}

-- ---- such a step forces nothing

writes_none : (was : Option TxId) (xs ys : List DiskCall) → AllByRecursion IsWrite (xs ++ ys) → fold forced was xs ≡ was
writes_none was [] ys all = refl
writes_none was (WritePage q bytes ∷ xs) ys all = writes_none was xs ys all.1
writes_none was (Force t bytes ∷ xs) ys all = absurd all.0
writes_none was (TrimLog keep ∷ xs) ys all = absurd all.0
writes_none was (CutLog count ∷ xs) ys all = absurd all.0

behind_none : (call : DiskCall) (writes front back : List DiskCall) → forced None call ≡ None → AllByRecursion IsWrite writes → call ∷ writes ≡ front ++ back → forced_by front ≡ None
behind_none call writes [] back quiet all parts = refl
behind_none call writes (y ∷ front) back quiet all parts =
    let one : call ≡ y = cc in
    let rest : writes ≡ front ++ back = cc in
    ap (λ (z : DiskCall). fold forced (forced None z) front) (sym one) ∙ ap (λ (o : Option TxId). fold forced o front) quiet ∙ writes_none None front back (subst (AllByRecursion IsWrite) rest all)

fronts_none : (s : NodeState) (d : Disk) (ev : NodeEvent) (first writes front back : List DiskCall) → ((t : TxId) → ev ≢ Commit t) → FirstCall s d ev first → AllByRecursion IsWrite writes → first ++ writes ≡ front ++ back
    → forced_by front ≡ None
fronts_none s d ev first writes front back other no_call all parts = writes_none None front back (subst (AllByRecursion IsWrite) parts all)
fronts_none s d ev first writes front back other (forces t is allowed some) all parts = absurd (other t is)
fronts_none s d ev first writes front back other trims all parts = behind_none (TrimLog (whole_len s.home.config (log_of_node s d))) writes front back refl all parts
fronts_none s d ev first writes front back other (cuts_off count goes) all parts = behind_none (CutLog count) writes front back refl all parts

past_none : (a b : Page) (o : Option TxId) → PastForce a o b → o ≡ None → b ≡ a
past_none a b None unforced e = refl
past_none a b (Some t) (past u k step) e = absurd (cc)

-- what a plan has
planned_may : (s : NodeState) (ev : NodeEvent) (d : Disk) (plan : Plan) (P : List DiskCall → Type 0) → nodestep s ev d ≡ Goes plan → P [] → On (λ (w : Work). P w.calls) (do_event d ev (begin_work s d)) → P plan.calls
unfolding nodestep
planned_may s ev d plan P goes none on =
    subst (On (λ (q : Plan). P q.calls)) goes
    (on_so (λ (w : Work). P w.calls) (λ (q : Plan). P q.calls) (unless_refused (refusal s ev) d ev (begin_work s d)) plan_of (by (refusal s ev)) (λ w x. x))
  where
    by : (o : Option Reason) → On (λ (w : Work). P w.calls) (unless_refused o d ev (begin_work s d))
    by (Some r) = none
    by None = on

-- each beginning of its calls writes as they do
pub beginnings_may : (s : NodeState) (ev : NodeEvent) (d : Disk) (plan : Plan) (p n : ℕ) (a b : Page) (front back : List DiskCall) → ((t : TxId) → ev ≢ Commit t) → nodestep s ev d ≡ Goes plan → plan.calls ≡ front ++ back
    → PastForce a (forced_by front) b → On (May a p n) (do_event d ev (begin_work s d)) → MayWrite b p n front
beginnings_may s ev d plan p n a b front back other goes parts at on =
    subst (λ (k : Page). MayWrite k p n front)
    (sym (past_none a b (forced_by front) at (fronts_none s d ev (log_calls s d ev) begins.writes front back other (first_call s d ev) begins.all (sym begins.joined ∙ parts))))
    (may_front a p n front back (subst (MayWrite a p n) parts (planned_may s ev d plan (MayWrite a p n) goes (elsewhere tt) on)))
  where
    begins : BeginsWith (log_calls s d ev) plan.calls
    begins = steps_begin_with_logs_law s ev d plan goes

pub reports_write_versions_law : ReportsWriteVersions
reports_write_versions_law blank c e n s from m x plan r planned body_is p front back b low parts at =
    beginnings_may s (Deliver from m) c.disk plan p n (r.pages.page p) b front back (λ t same. absurd (cc)) planned.goes parts at
    (event_may blank c e n p s from m x (r.pages.page p) r.cluster planned.handed (r.pages.reached p low) (r.pages.related p low) body_is)

pub installs_write_versions_law : InstallsWriteVersions
installs_write_versions_law blank c e n s v plan r planned p front back b low parts at =
    beginnings_may s (Install v) c.disk plan p n (r.pages.page p) b front back (λ t same. absurd (cc)) planned.goes parts at
    (install_may blank c e n p s v (r.pages.page p) r.cluster planned.handed (r.pages.reached p low) (r.pages.related p low))

module _ (blank : List ℕ) (c : Cluster) (e : Event) (n : ℕ) (s : NodeState) (plan : Plan) (r : IsRelated blank c) where
  delivers : (from : ℕ) (m : Message) (b : Body) → m.body ≡ b → IsPlanned c e n s (Deliver from m) plan → WriteVersions r.pages.page c.config.pages n plan.calls
  delivers from m (body.Report x) same planned = reports_write_versions_law blank c e n s from m x plan r planned same
  delivers from m (body.Request x) same planned = steps_write_versions_law blank c e n s (Deliver from m) plan r planned (subst IsNoReport (sym same) tt)
  delivers from m (body.Grant x) same planned = steps_write_versions_law blank c e n s (Deliver from m) plan r planned (subst IsNoReport (sym same) tt)
  delivers from m (body.Release x) same planned = steps_write_versions_law blank c e n s (Deliver from m) plan r planned (subst IsNoReport (sym same) tt)
  delivers from m (body.Revoke x) same planned = steps_write_versions_law blank c e n s (Deliver from m) plan r planned (subst IsNoReport (sym same) tt)
  delivers from m (body.Return x) same planned = steps_write_versions_law blank c e n s (Deliver from m) plan r planned (subst IsNoReport (sym same) tt)

  any : (ev : NodeEvent) → IsPlanned c e n s ev plan → WriteVersions r.pages.page c.config.pages n plan.calls
  any (Install v) planned = installs_write_versions_law blank c e n s v plan r planned
  any (Deliver from m) planned = delivers from m m.body refl planned
  any Begin planned = steps_write_versions_law blank c e n s Begin plan r planned tt
  any (Read t p) planned = steps_write_versions_law blank c e n s (Read t p) plan r planned tt
  any (Write t p place bytes) planned = steps_write_versions_law blank c e n s (Write t p place bytes) plan r planned tt
  any (Commit t) planned = steps_write_versions_law blank c e n s (Commit t) plan r planned tt
  any (Abort t) planned = steps_write_versions_law blank c e n s (Abort t) plan r planned tt
  any (Evict p) planned = steps_write_versions_law blank c e n s (Evict p) plan r planned tt
  any (Flush p) planned = steps_write_versions_law blank c e n s (Flush p) plan r planned tt
  any Cut planned = steps_write_versions_law blank c e n s Cut plan r planned tt

pub all_write_versions_law : AllWriteVersions
all_write_versions_law blank c e n s ev plan r planned = any blank c e n s plan r ev planned

pub all_halts_are_related_law : AllHaltsAreRelated
all_halts_are_related_law blank c e n s ev plan l r planned left fit =
    halted_is_related_law blank c e n s ev plan l r planned left fit (all_write_versions_law blank c e n s ev plan r planned)

pub all_stops_are_related_law : AllStopsAreRelated
all_stops_are_related_law blank c ev e n s p l is h goes stops =
    (all_halts_are_related_law blank c e n s ev p l is.related (record { handed = h; goes = goes }) stops (scripts_fit blank c is)).pages

pub all_stops_leave_pages_law : AllStopsLeavePages
all_stops_leave_pages_law blank c e n s ev p l is h goes stops = halted_pages_are_left_law blank c e n l is (all_stops_are_related_law blank c ev e n s p l is h goes stops)
