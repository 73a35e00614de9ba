-- What a step writes of a page where it redoes none.
use Rattle.std.proofs.Common.{◌≡◌, ◌≢◌, refl, sym, ap, subst, ◌∙◌, ℕ, ◌+◌, ◌==◌, Bool, true, false, List, [], ◌∷◌, ◌++◌, length, Option, Some, None, is_some, option_map}
use Rattle.std.specs.List.{AllByRecursion, fold}
use Rattle.pcl_base.specs.declared.event.Event.{Event}
use Rattle.pcl_base.specs.declared.lock.Verdict.{Verdict}
use Rattle.pcl_base.specs.declared.lock.Verdict.TheVariants as verdict
use Rattle.pcl_base.specs.declared.message.Body.{Body}
use Rattle.pcl_base.specs.declared.message.Body.TheVariants as body
use Rattle.pcl_base.specs.declared.message.Change.{Change}
use Rattle.pcl_base.specs.declared.message.Grant.{Grant}
use Rattle.pcl_base.specs.declared.message.Message.{Message}
use Rattle.pcl_base.specs.declared.message.Release.{Release}
use Rattle.pcl_base.specs.declared.message.ReturnRight.{ReturnRight}
use Rattle.pcl_base.specs.declared.reply.Reason.{Reason}
use Rattle.pcl_base.specs.declared.reply.Reply.{Reply}
use Rattle.pcl_base.specs.declared.reply.Reply.TheVariants as reply
use Rattle.pcl_base.specs.declared.tx.TxId.{TxId}
use Rattle.text_rules.specs.LogRecord.{record_bytes, whole_len}
use Rattle.run_rules.specs.Disk.{Disk, log_at}
use Rattle.run_rules.specs.Views.{View}
use Rattle.node_rules.specs.AccessRule.{Access, Arrived, Answered, take_frames, on_grant, on_revoke}
use Rattle.node_rules.specs.BufferRule.{place}
use Rattle.node_rules.specs.CutRule.{cuttable}
use Rattle.node_rules.specs.DiskCalls.{DiskCall, WritePage, Force, TrimLog, CutLog, forced}
use Rattle.node_rules.specs.EndRule.{pages_written, commit_record, force_if, commit, abort}
use Rattle.node_rules.specs.Judging.{judge}
use Rattle.node_rules.specs.LockRule.{returned, takes_change}
use Rattle.node_rules.specs.LockTable.{LockTable, entry_at}
use Rattle.node_rules.specs.NodeState.{NodeState, NodeEvent, Begin, Read, Write, Commit, Abort, Deliver, Evict, Flush, Install, Cut, number_of, partition, table_of}
use Rattle.node_rules.specs.NodeStep.{Plan, begin_work, after_grant, take_grant, send_answer, take_revoke, work_off, by_verdict, judge_in, partition_of, take_message, cut_if, cut_front, do_event, unless_refused, plan_of, nodestep}
use Rattle.node_rules.specs.OwnerRule.{do_access, version_of_change, put_taken, change_if_served, end_in, take_release, on_release_in, on_release}
use Rattle.node_rules.specs.Refusals.{refusal}
use Rattle.node_rules.specs.Words.{pick, head_of}
use Rattle.node_rules.specs.Work.{HomeWork, Work, Outcome, Goes, Differs, and_so, work_of_home, with_home, with_home_work, some_reply, reply, write_back}
use Rattle.step_laws.proofs.Outcomes.{On, on_more, on_so}
use Rattle.cluster_rules.specs.Clusters.{Cluster, view_of_epoch}
use Rattle.cluster_rules.specs.Links.{link_at, head_at, tail_of}
use Rattle.pcl_base.specs.declared.event.Event.TheVariants as event
use Rattle.cluster_rules.specs.ClusterStep.{named}
use Rattle.cluster_laws.specs.Handed.{handed_to, IsHanded}
use Rattle.cluster_laws.specs.Sound.{IsCluster}
use Rattle.cluster_laws.specs.Call.Calls.{IsWrite, log_of_node, log_calls, BeginsWith}
use Rattle.cluster_laws.proofs.CallParts.Events.{steps_begin_with_logs_law}
use Rattle.page_protocol.specs.Invariant.{Inv}
use Rattle.page_protocol.specs.State.{Page}
use Rattle.page_protocol.proofs.Keeps.{reached_holds}
use Rattle.page_relation.specs.Relation.{IsPageOf}
use Rattle.page_laws.specs.Storage.Stored.{forced_by}
use Rattle.page_relation.specs.Loss.Laws.{StepsWriteVersions, OrdinaryHaltsAreRelated}
use Rattle.page_relation.proofs.LossParts.Halted.{halted_is_related_law}
use Rattle.page_relation.specs.Loss.Writes.{NoWrites, MayWrite, elsewhere, PastForce, unforced, past, IsNoReport, RedoesNothing}
use Rattle.page_relation.proofs.LossParts.Dirty.{may_front, safe_writes, frames_safe, back_safe}
use Rattle.page_relation.proofs.LossParts.Same.{do_access_same, enter_same, end_same, arrived_same}
use Rattle.page_relation.proofs.LossParts.Stops.{FirstCall, no_call, forces, trims, cuts_off, first_call}
use Rattle.page_relation.proofs.LossParts.Releases.{changed_may, same_may, start_safe, release_ours}

-- ---- the whole of a step that forces no record

-- the head that is delivered
head_of_link : (c : Cluster) (e : Event) (n : ℕ) (s : NodeState) (from : ℕ) (m : Message) → head_of (named e) ≡ Some n → handed_to c s e ≡ Some (Deliver from m) → link_at c.links from n ≡ m ∷ tail_of (link_at c.links from n)
head_of_link c (event.Deliver f to) n s from m acts h = by (is_some s.view) (head_at c.links f to) refl h
  where
    at_head : (ms : List Message) (x : Message) → head_of ms ≡ Some x → ms ≡ x ∷ tail_of ms
    at_head [] x e = absurd (cc)
    at_head (y ∷ ys) x e = let same : y ≡ x = cc in ap (λ (z : Message). z ∷ ys) same

    by : (b : Bool) (o : Option Message) → head_at c.links f to ≡ o → pick b (option_map (Deliver f) o) None ≡ Some (Deliver from m) → link_at c.links from n ≡ m ∷ tail_of (link_at c.links from n)
    by false o at is = absurd (cc)
    by true None at is = absurd (cc)
    by true (Some x) at is =
        let sender : f ≡ from = cc in
        let message : x ≡ m = cc in
        let receiver : to ≡ n = cc in
        subst (λ (k : ℕ). link_at c.links k n ≡ m ∷ tail_of (link_at c.links k n)) sender
        (subst (λ (k : ℕ). link_at c.links f k ≡ m ∷ tail_of (link_at c.links f k)) receiver
        (subst (λ (y : Message). link_at c.links f to ≡ y ∷ tail_of (link_at c.links f to)) message (at_head (link_at c.links f to) x at)))
head_of_link c (event.Begin k) n s from m acts h = absurd (cc)
head_of_link c (event.Read t p) n s from m acts h = absurd (cc)
head_of_link c (event.Write t p place bytes) n s from m acts h = absurd (cc)
head_of_link c (event.Commit t) n s from m acts h = absurd (cc)
head_of_link c (event.Abort t) n s from m acts h = absurd (cc)
head_of_link c (event.Evict k p) n s from m acts h = absurd (cc)
head_of_link c (event.Flush k p) n s from m acts h = absurd (cc)
head_of_link c (event.Crash k) n s from m acts h = absurd (cc)
head_of_link c (event.View live owners) n s from m acts h = absurd (cc)
head_of_link c (event.Install k) n s from m acts h = by (view_of_epoch c.views (s.epoch + 1)) h
  where
    by : (o : Option View) → option_map Install o ≡ Some (Deliver from m) → link_at c.links from n ≡ m ∷ tail_of (link_at c.links from n)
    by None is = absurd (cc)
    by (Some v) is = absurd (cc)
head_of_link c event.Reopen n s from m acts h = absurd (cc)
head_of_link c (event.Arm k call kept) n s from m acts h = absurd (cc)
head_of_link c (event.Cut k) n s from m acts h = absurd (cc)

module _ (blank : List ℕ) (c : Cluster) (e : Event) (n p : ℕ) (s : NodeState) (ev : NodeEvent) (a : Page) (i : IsCluster c) (h : IsHanded c e n s ev) (inv : Inv blank a) (is : IsPageOf c p a) where
  none_may : MayWrite a p n []
  none_may = elsewhere tt

  -- a change that was taken
  put_may : (from : ℕ) (m : Message) (r : Release) (v : View) → ev ≡ Deliver from m → m.body ≡ body.Release r → s.view ≡ Some v → judge v (number_of s) from m.epoch (partition s.home.config r.page) ≡ verdict.Taken
      → (t : LockTable) → table_of s r.page ≡ Some t → (b : Bool) → t.serving ≡ b → (o : Option Change) → r.change ≡ o
      → MayWrite a p n (put_taken (takes_change (entry_at t r.page) r.tx (version_of_change (change_if_served b o))) r.page o (reply reply.Taken (begin_work s c.disk))).calls
  unfolding takes_change
  put_may from m r v asked body_is own judged t at false on o has = none_may
  put_may from m r v asked body_is own judged t at true on None has = none_may
  put_may from m r v asked body_is own judged t at true on (Some x) has = by (takes_change (entry_at t r.page) r.tx (Some x.version)) refl
    where
      by : (b : Bool) → takes_change (entry_at t r.page) r.tx (Some x.version) ≡ b → MayWrite a p n (put_taken b r.page (Some x) (reply reply.Taken (begin_work s c.disk))).calls
      by false taken = none_may
      by true taken =
          changed_may a p n r.page x (record { home = s.home; pages = c.disk.pages; calls = [] }) (start_safe blank c n p s a c.disk.pages inv is h.up) refl
          (λ here.
          release_ours blank c n p from s a i h.up inv is m (tail_of (link_at c.links from n)) r (head_of_link c e n s from m h.acts (h.event ∙ ap (λ (y : NodeEvent). Some y) asked)) body_is v own judged here t x at on has taken)

  release_may : (from : ℕ) (m : Message) (r : Release) (v : View) → ev ≡ Deliver from m → m.body ≡ body.Release r → s.view ≡ Some v → judge v (number_of s) from m.epoch (partition s.home.config r.page) ≡ verdict.Taken
      → On (λ (w : Work). MayWrite a p n w.calls) (on_release r (reply reply.Taken (begin_work s c.disk)))
  unfolding on_release
  release_may from m r v asked body_is own judged = by (table_of s r.page) refl
    where
      by : (o : Option LockTable) → table_of s r.page ≡ o → On (λ (w : Work). MayWrite a p n w.calls) (on_release_in r o (reply reply.Taken (begin_work s c.disk)))
      by None at = elsewhere tt
      by (Some t) at =
          same_may a p n (put_taken (takes_change (entry_at t r.page) r.tx (version_of_change (change_if_served t.serving r.change))) r.page r.change (reply reply.Taken (begin_work s c.disk))).calls
          (take_release r t (reply reply.Taken (begin_work s c.disk))) (put_may from m r v asked body_is own judged t at t.serving refl r.change refl)
          (enter_same _ (end_in r.tx (change_if_served t.serving r.change)) r.page _ refl)

  grant_may : (o : Option LockTable) (g : Grant) → On (λ (w : Work). MayWrite a p n w.calls) (take_grant o g (reply reply.Taken (begin_work s c.disk)))
  grant_may (Some t) g = elsewhere tt
  grant_may None g =
      on_so (λ (x : Arrived). x.work.calls ≡ []) (λ (w : Work). MayWrite a p n w.calls) (on_grant g false (work_of_home (reply reply.Taken (begin_work s c.disk)))) (after_grant (reply reply.Taken (begin_work s c.disk)))
      (arrived_same [] g false (work_of_home (reply reply.Taken (begin_work s c.disk))) refl) (λ x same. after x x.reply same)
    where
      after : (x : Arrived) (o : Option Reply) → x.work.calls ≡ [] → MayWrite a p n (some_reply o (with_home_work (reply reply.Taken (begin_work s c.disk)) x.work)).calls
      after x None same = subst (MayWrite a p n) (sym same) (elsewhere tt)
      after x (Some r) same = subst (MayWrite a p n) (sym same) (elsewhere tt)

  revoke_may : (from : ℕ) (x : Answered) → MayWrite a p n (take_revoke from (reply reply.Taken (begin_work s c.disk)) x).calls
  revoke_may from x = by x.answer
    where
      by : (o : Option ReturnRight) → MayWrite a p n (send_answer from o (with_home (reply reply.Taken (begin_work s c.disk)) x.home)).calls
      by None = elsewhere tt
      by (Some r) = elsewhere tt

  -- a message that is worked off
  off_may : (from : ℕ) (m : Message) (v : View) → ev ≡ Deliver from m → IsNoReport m.body → s.view ≡ Some v → (b : Body) → m.body ≡ b → judge v (number_of s) from m.epoch (partition_of s.home.config b) ≡ verdict.Taken
      → On (λ (w : Work). MayWrite a p n w.calls) (work_off c.disk from b (reply reply.Taken (begin_work s c.disk)))
  off_may from m v asked plain own (body.Request r) is_body judged = same_may a p n [] _ (elsewhere tt) (enter_same [] _ r.page _ refl)
  off_may from m v asked plain own (body.Grant g) is_body judged = grant_may (table_of s g.page) g
  off_may from m v asked plain own (body.Release r) is_body judged = release_may from m r v asked is_body own judged
  off_may from m v asked plain own (body.Revoke q) is_body judged = revoke_may from (on_revoke q s.home)
  off_may from m v asked plain own (body.Return r) is_body judged = same_may a p n [] _ (elsewhere tt) (enter_same [] (λ x. returned x from r.readers) r.page _ refl)
  off_may from m v asked plain own (body.Report r) is_body judged = absurd (subst IsNoReport is_body plain)

  message_may : (from : ℕ) (m : Message) → ev ≡ Deliver from m → IsNoReport m.body → On (λ (w : Work). MayWrite a p n w.calls) (take_message c.disk from m (begin_work s c.disk))
  unfolding take_message
  message_may from m asked plain = of s.view refl
    where
      of : (o : Option View) → s.view ≡ o → On (λ (w : Work). MayWrite a p n w.calls) (by_verdict (judge_in o (number_of s) from m.epoch (partition_of s.home.config m.body)) c.disk from m.body (begin_work s c.disk))
      of None own = elsewhere tt
      of (Some v) own = by (judge v (number_of s) from m.epoch (partition_of s.home.config m.body)) refl
        where
          by : (x : Verdict) → judge v (number_of s) from m.epoch (partition_of s.home.config m.body) ≡ x → On (λ (w : Work). MayWrite a p n w.calls) (by_verdict x c.disk from m.body (begin_work s c.disk))
          by verdict.Taken judged = off_may from m v asked plain own m.body refl judged
          by verdict.Held judged = elsewhere tt
          by verdict.Dropped judged = elsewhere tt

  access_may : (x : Access) → On (λ (w : Work). MayWrite a p n w.calls) (do_access x (begin_work s c.disk))
  access_may x =
      same_may a p n (take_frames x (record { home = s.home; pages = c.disk.pages; calls = [] })).calls (do_access x (begin_work s c.disk))
      (safe_writes a p n (take_frames x (record { home = s.home; pages = c.disk.pages; calls = [] })) (frames_safe a p n x (record { home = s.home; pages = c.disk.pages; calls = [] }) (start_safe blank c n p s a c.disk.pages inv is h.up)))
      (do_access_same (take_frames x (record { home = s.home; pages = c.disk.pages; calls = [] })).calls x (begin_work s c.disk) refl)

  back_may : (q : ℕ) → MayWrite a p n (write_back q (record { home = s.home; pages = c.disk.pages; calls = [] })).calls
  back_may q = safe_writes a p n _ (back_safe a p n q (record { home = s.home; pages = c.disk.pages; calls = [] }) (start_safe blank c n p s a c.disk.pages inv is h.up))

  cut_may : (o : Outcome ℕ) → On (λ (w : Work). MayWrite a p n w.calls) (and_so o (cut_front (begin_work s c.disk)))
  cut_may (Goes count) = by (count == 0)
    where
      by : (b : Bool) → MayWrite a p n (cut_if b count (begin_work s c.disk)).calls
      by true = elsewhere tt
      by false = elsewhere tt
  cut_may (Differs q expected found) = tt

  -- an event that forces nothing and redoes nothing
  event_may : (x : NodeEvent) → ev ≡ x → RedoesNothing x → ((t : TxId) → x ≢ Commit t) → On (λ (w : Work). MayWrite a p n w.calls) (do_event c.disk x (begin_work s c.disk))
  unfolding do_event abort
  event_may Begin asked plain other = elsewhere tt
  event_may (Read t q) asked plain other = access_may (record { tx = t; page = q; write = None })
  event_may (Write t q place bytes) asked plain other = access_may (record { tx = t; page = q; write = Some (place, bytes) })
  event_may (Commit t) asked plain other = absurd (other t refl)
  event_may (Abort t) asked plain other = same_may a p n [] _ (elsewhere tt) (end_same [] (reply.Aborted t) t (begin_work s c.disk) (abort t (work_of_home (begin_work s c.disk))) refl)
  event_may (Deliver from m) asked plain other = message_may from m asked plain
  event_may (Evict q) asked plain other = back_may q
  event_may (Flush q) asked plain other = back_may q
  event_may (Install v) asked plain other = absurd plain
  event_may Cut asked plain other = cut_may (cuttable s.home.config c.disk.pages (log_at c.disk (number_of s)))

  -- a commit writes no page
  forced_none : (b : Bool) (t : TxId) (bytes : List ℕ) (w : HomeWork) → w.calls ≡ [] → NoWrites p (force_if b t bytes w).calls
  forced_none true t bytes w none = subst (NoWrites p) (sym none) tt
  forced_none false t bytes w none = subst (λ (xs : List DiskCall). NoWrites p (xs ++ Force t bytes ∷ [])) (sym none) tt

  commit_none : (t : TxId) → On (λ (w : Work). NoWrites p w.calls) (do_event c.disk (Commit t) (begin_work s c.disk))
  unfolding do_event commit
  commit_none t =
      on_more (λ (w : Work). w.calls ≡ (commit t (work_of_home (begin_work s c.disk))).work.calls) (λ (w : Work). NoWrites p w.calls) _
      (λ w same. subst (NoWrites p) (sym same) (forced_none (length (pages_written s.home t) == 0) t (record_bytes (commit_record s.home t)) (work_of_home (begin_work s c.disk)) refl))
      (end_same _ (reply.Committed t) t (begin_work s c.disk) (commit t (work_of_home (begin_work s c.disk))) refl)

  -- what a plan has
  planned_may : (plan : Plan) (P : List DiskCall → Type 0) → nodestep s ev c.disk ≡ Goes plan → P [] → On (λ (w : Work). P w.calls) (do_event c.disk ev (begin_work s c.disk)) → P plan.calls
  unfolding nodestep
  planned_may plan P goes none on =
      subst (On (λ (q : Plan). P q.calls)) goes
      (on_so (λ (w : Work). P w.calls) (λ (q : Plan). P q.calls) (unless_refused (refusal s ev) c.disk ev (begin_work s c.disk)) plan_of (by (refusal s ev)) (λ w x. x))
    where
      by : (o : Option Reason) → On (λ (w : Work). P w.calls) (unless_refused o c.disk ev (begin_work s c.disk))
      by (Some r) = none
      by None = on

-- ---- the law

writes_none : (was : Option TxId) (xs ys : List DiskCall) → AllByRecursion IsWrite (xs ++ ys) → fold forced was xs ≡ was
writes_none was [] ys all = refl
writes_none was (WritePage q bytes ∷ xs) ys all = writes_none was xs ys all.1
writes_none was (Force t bytes ∷ xs) ys all = absurd all.0
writes_none was (TrimLog keep ∷ xs) ys all = absurd all.0
writes_none was (CutLog count ∷ xs) ys all = absurd all.0

-- a beginning of such calls forces nothing
fronts_none : (s : NodeState) (d : Disk) (ev : NodeEvent) (first writes front back : List DiskCall) → ((t : TxId) → ev ≢ Commit t) → FirstCall s d ev first → AllByRecursion IsWrite writes → first ++ writes ≡ front ++ back → forced_by front ≡ None
fronts_none s d ev first writes front back other no_call all parts = writes_none None front back (subst (AllByRecursion IsWrite) parts all)
fronts_none s d ev first writes front back other (forces t is allowed some) all parts = absurd (other t is)
fronts_none s d ev first writes [] back other trims all parts = refl
fronts_none s d ev first writes (x ∷ front) back other trims all parts =
    let one : TrimLog (whole_len s.home.config (log_of_node s d)) ≡ x = cc in
    let rest : writes ≡ front ++ back = cc in
    ap (λ (y : DiskCall). fold forced None (y ∷ front)) (sym one) ∙ writes_none None front back (subst (AllByRecursion IsWrite) rest all)
fronts_none s d ev first writes [] back other (cuts_off count goes) all parts = refl
fronts_none s d ev first writes (x ∷ front) back other (cuts_off count goes) all parts =
    let one : CutLog count ≡ x = cc in
    let rest : writes ≡ front ++ back = cc in
    ap (λ (y : DiskCall). fold forced None (y ∷ front)) (sym one) ∙ writes_none None front back (subst (AllByRecursion IsWrite) rest all)

past_none : (a b : Page) (o : Option TxId) → PastForce a o b → o ≡ None → b ≡ a
past_none a b None unforced e = refl
past_none a b (Some u) (past t k step) e = absurd (cc)

-- whether an event is a commit
data IsCommit : NodeEvent → Type 0 where
  commit_of : (t : TxId) → IsCommit (Commit t)
  another : {x : NodeEvent} → ((t : TxId) → x ≢ Commit t) → IsCommit x

is_commit : (x : NodeEvent) → IsCommit x
is_commit (Commit t) = commit_of t
is_commit Begin = another (λ t e. absurd (cc))
is_commit (Read u q) = another (λ t e. absurd (cc))
is_commit (Write u q place bytes) = another (λ t e. absurd (cc))
is_commit (Abort u) = another (λ t e. absurd (cc))
is_commit (Deliver from m) = another (λ t e. absurd (cc))
is_commit (Evict q) = another (λ t e. absurd (cc))
is_commit (Flush q) = another (λ t e. absurd (cc))
is_commit (Install v) = another (λ t e. absurd (cc))
is_commit Cut = another (λ t e. absurd (cc))

pub steps_write_versions_law : StepsWriteVersions
steps_write_versions_law blank c e n s ev plan r planned plain p front back b low parts at = by ev refl (is_commit ev)
  where
    inv : Inv blank (r.pages.page p)
    inv = reached_holds blank (r.pages.page p) (r.pages.reached p low)

    begins : BeginsWith (log_calls s c.disk ev) plan.calls
    begins = steps_begin_with_logs_law s ev c.disk plan planned.goes

    by : (x : NodeEvent) → ev ≡ x → IsCommit x → MayWrite b p n front
    by x same (commit_of t) =
        may_front b p n front back
        (subst (MayWrite b p n) parts
        (elsewhere
        (planned_may blank c e n p s ev (r.pages.page p) r.cluster planned.handed inv (r.pages.related p low) plan (NoWrites p) planned.goes tt
        (subst (λ (y : NodeEvent). On (λ (w : Work). NoWrites p w.calls) (do_event c.disk y (begin_work s c.disk))) (sym same)
        (commit_none blank c e n p s ev (r.pages.page p) r.cluster planned.handed inv (r.pages.related p low) t)))))
    by x same (another other) =
        subst (λ (y : Page). MayWrite y p n front)
        (sym (past_none (r.pages.page p) b (forced_by front) at
        (fronts_none s c.disk ev (log_calls s c.disk ev) begins.writes front back (λ t is. other t (sym same ∙ is)) (first_call s c.disk ev) begins.all (sym begins.joined ∙ parts))))
        (may_front (r.pages.page p) p n front back
        (subst (MayWrite (r.pages.page p) p n) parts
        (planned_may blank c e n p s ev (r.pages.page p) r.cluster planned.handed inv (r.pages.related p low) plan (MayWrite (r.pages.page p) p n) planned.goes (elsewhere tt)
        (event_may blank c e n p s ev (r.pages.page p) r.cluster planned.handed inv (r.pages.related p low) ev refl plain (λ t is. other t (sym same ∙ is))))))

pub ordinary_halts_are_related_law : OrdinaryHaltsAreRelated
ordinary_halts_are_related_law blank c e n s ev plan l r planned left plain fit =
    halted_is_related_law blank c e n s ev plan l r planned left fit (steps_write_versions_law blank c e n s ev plan r planned plain)
