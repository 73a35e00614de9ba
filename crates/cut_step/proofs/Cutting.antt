-- The cut of a log as the rules make it, from what its search and its call answer.
use Rattle.std.proofs.Common.{◌≡◌, refl, sym, ap, subst, ◌∙◌, ℕ, ◌==◌, ◌<◌, Bool, true, false, List, [], ◌∷◌, ◌++◌, length, Some, None, Result, Ok, Err, OnOk, IfErr, IfSome, append-nil, zero, suc, arith}
use Rattle.std.specs.Prelude.{slice_get, slice_index_or}
use Rattle.pcl_base.specs.declared.reply.Reply.TheVariants as reply
use Rattle.pcl_base.specs.declared.trace.Call.TheVariants as call
use Rattle.disk_model.specs.Disk.{Logs, told_at}
use Rattle.redo_log.specs.Told.{IsLog}
use Rattle.run_rules.specs.Disk.{Disk, log_at}
use Rattle.node_rules.specs.Words.{pick}
use Rattle.node_rules.specs.CutRule.{cuttable}
use Rattle.node_rules.specs.DiskCalls.{DiskCall, CutLog}
use Rattle.node_rules.specs.NodeState.{NodeState, number_of}
use Rattle.node_rules.specs.NodeStep.{cut_front, cut_if, cut_log}
use Rattle.node_rules.specs.Work.{Outcome, Work, Goes, Differs as differs, and_so, reply as replied}
use Rattle.page_store.specs.declared.fault.RedoFault.{RedoFault}
use Rattle.page_store.specs.declared.fault.RedoFault.TheVariants as redo
use Rattle.log_cut.specs.Cutting.{AnswersCut, IsCutFault}
use Rattle.home.specs.Device.{Told}
use Rattle.node_parts.specs.Comes.{Comes, work_of}
use Rattle.node_parts.specs.Outputs.{OutputsView}
use Rattle.node_parts.specs.declared.fault.StepFault.{StepFault}
use Rattle.node_parts.specs.declared.fault.StepFault.TheVariants.{NoMemory, Halted, Differs}
use Rattle.cut_step.specs.Cuts.{IsFrontFault, LeavesFront, counted, cut_calls, fault_of, front_of}

-- the log of a node that has one
pub log_there : (logs : List (List ℕ)) (n : ℕ) → n < length logs → slice_get logs n ≡ Some (slice_index_or logs n [])
log_there [] n there = absurd (omega arith)
log_there (x ∷ xs) zero there = refl
log_there (x ∷ xs) (suc n) there = log_there xs n (omega arith)

-- the log of the node, where the logs are told
pub own_log : (logs : Logs) (d : Disk) (me n nodes : ℕ) → logs ≡ Some d.logs → me ≡ n → n < nodes → IfSome logs (λ l. length l ≡ nodes) → IsLog logs me (log_at d n)
own_log logs d me n nodes told same below sizes =
    let long : length d.logs ≡ nodes = subst (λ (o : Logs). IfSome o (λ l. length l ≡ nodes)) told sizes in
    subst (λ k. told_at logs k ≡ Some (log_at d n)) (sym same)
    (subst (λ (o : Logs). told_at o n ≡ Some (log_at d n)) (sym told) (log_there d.logs n (omega (arith, long, below))))

-- so many bytes are found, and cut
pub front_comes : (T : Type 0) (d : Disk) (n : NodeState) (cs : List DiskCall) (old mid new : OutputsView) (count : ℕ) (r : Result T StepFault)
    → cuttable n.home.config d.pages (log_at d (number_of n)) ≡ Goes count → OnOk r (new.replies ≡ mid.replies ++ reply.Cut count ∷ []) → new.sends ≡ mid.sends
    → mid.replies ≡ old.replies → mid.sends ≡ old.sends → IfErr r (λ e. e ≡ Halted call.Cut None)
    → Comes (cut_log d (work_of n d.pages cs old)) r (work_of n d.pages (cs ++ cut_calls (front_of d n)) new)
front_comes T d n cs old mid new count r is replies sends same_replies same_sends fault =
    subst (λ (o : Outcome ℕ). Comes (and_so o (cut_front (work_of n d.pages cs old))) r (work_of n d.pages (cs ++ cut_calls (counted o)) new)) (sym is) (by r replies fault)
  where
    cut_so : (b : Bool) → new.replies ≡ old.replies ++ reply.Cut count ∷ []
        → replied (reply.Cut count) (cut_if b count (work_of n d.pages cs old)) ≡ work_of n d.pages (cs ++ pick b [] (CutLog count ∷ [])) new
    cut_so true e = λ i. record { node = n; pages = d.pages; calls = sym (append-nil cs) i; replies = sym e i; sends = sym (sends ∙ same_sends) i }
    cut_so false e = λ i. record { node = n; pages = d.pages; calls = cs ++ CutLog count ∷ []; replies = sym e i; sends = sym (sends ∙ same_sends) i }

    by : (r : Result T StepFault) → OnOk r (new.replies ≡ mid.replies ++ reply.Cut count ∷ []) → IfErr r (λ e. e ≡ Halted call.Cut None)
        → Comes (Goes (cut_front (work_of n d.pages cs old) count)) r (work_of n d.pages (cs ++ cut_calls count) new)
    by (Ok x) e f = cut_so (count == 0) (e ∙ ap (λ l. l ++ reply.Cut count ∷ []) same_replies)
    by (Err NoMemory) e f = tt
    by (Err (Halted k kept)) e f = tt
    by (Err (Differs p expected found)) e f = absurd (cc)

-- a page that differs is named, and other faults say nothing of the rule
pub fault_comes : (T : Type 0) (o : Outcome ℕ) (f : ℕ → Work) (fault : RedoFault) (after : Work) → AnswersCut o (Err fault) → Comes {T = T} (and_so o f) (Err (fault_of fault)) after
fault_comes T (Goes n) f (redo.Failed k) after is = tt
fault_comes T (differs p e g) f (redo.Failed k) after is = tt
fault_comes T o f (redo.BadPage p expected found) after is =
    subst (λ (o : Outcome ℕ). Comes {T = T} (and_so o f) (Err (Differs p expected found)) after) (sym is) (refl, refl, refl)
fault_comes T (Goes n) f redo.NoMemory after is = tt
fault_comes T (differs p e g) f redo.NoMemory after is = tt

-- a fault of the search is one of the step
pub fault_is : (fault : RedoFault) → IsCutFault fault → IsFrontFault (fault_of fault)
fault_is (redo.Failed call.Read) is = refl
fault_is (redo.Failed call.Log) is = refl
fault_is (redo.Failed call.Write) is = absurd is
fault_is (redo.Failed call.Force) is = absurd is
fault_is (redo.Failed call.Trim) is = absurd is
fault_is (redo.Failed call.Cut) is = absurd is
fault_is (redo.BadPage p expected found) is = λ same. is.1 (sym same)
fault_is redo.NoMemory is = absurd is

-- after it no call was made
pub fault_leaves : (T : Type 0) (me n : ℕ) (fault : RedoFault) (old new : Told) → IsCutFault fault → new ≡ old → LeavesFront {T = T} me n (Err (fault_of fault)) old new
fault_leaves T me n (redo.Failed call.Read) old new is same = same
fault_leaves T me n (redo.Failed call.Log) old new is same = same
fault_leaves T me n (redo.Failed call.Write) old new is same = absurd is
fault_leaves T me n (redo.Failed call.Force) old new is same = absurd is
fault_leaves T me n (redo.Failed call.Trim) old new is same = absurd is
fault_leaves T me n (redo.Failed call.Cut) old new is same = absurd is
fault_leaves T me n (redo.BadPage p expected found) old new is same = same
fault_leaves T me n redo.NoMemory old new is same = absurd is

-- a front of so many bytes is the one that the logs and pages tell
pub front_found : (T : Type 0) (me : ℕ) (d : Disk) (n : NodeState) (count : ℕ) (r : Result T StepFault) (old mid new : Told) → cuttable n.home.config d.pages (log_at d (number_of n)) ≡ Goes count
    → mid ≡ old → LeavesFront me count r mid new → LeavesFront me (front_of d n) r old new
front_found T me d n count r old mid new is same leaves =
    subst (λ (o : Outcome ℕ). LeavesFront me (counted o) r old new) (sym is) (subst (λ (t : Told). LeavesFront me count r t new) same leaves)
