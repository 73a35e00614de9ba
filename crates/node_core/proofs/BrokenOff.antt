-- What became of the changing calls of an install, and of a report that arrives.
use Rattle.std.proofs.Common.{◌≡◌, refl, ap, sym, subst, ◌∙◌, ℕ, ◌++◌, List, [], ◌∷◌, map, take, length, Option, Some, None, Result, Ok, Err}
use Rattle.std.proofs.Math.Seq.{take-append_seam}
use Rattle.std.specs.Prelude.{IfErr}
use Rattle.std.specs.List.{fold}
use Rattle.pcl_base.specs.declared.message.Report.{Report}
use Rattle.pcl_base.specs.declared.trace.Call.TheVariants as call
use Rattle.pcl_base.specs.declared.tx.TxId.{TxId}
use Rattle.run_rules.specs.Disk.{Disk}
use Rattle.run_rules.specs.Views.{View}
use Rattle.disk_model.specs.Stops.{Stops}
use Rattle.node_rules.specs.DiskCalls.{DiskCall, forced}
use Rattle.node_rules.specs.NodeState.{NodeState}
use Rattle.node_rules.specs.InstallRule.{in_view}
use Rattle.node_rules.specs.Work.{Outcome, Goes, Differs as differs}
use Rattle.home.specs.CallLaws.{told_on}
use Rattle.home.specs.Device.{Told, Made}
use Rattle.install_laws.specs.InstallPlans.{PageWrite, PartitionPlan, plan_install, plan_report}
use Rattle.node_parts.specs.declared.fault.StepFault.{StepFault}
use Rattle.node_parts.specs.declared.fault.StepFault.TheVariants.{NoMemory, Halted, Differs}
use Rattle.partition_steps.specs.Carried.{MadeSome, write_call}
use Rattle.install_steps.specs.Births.{is_born_in, kept_if, trim_calls}
use Rattle.install_steps.specs.Calls.{IsInstallFault, IsReportFault, LeavesCalls, calls_in, install_calls, report_calls, rule_calls, rules_calls}
use Rattle.step_ends.specs.Ran.{OthersStayArmed}
use Rattle.node_core.specs.Came.{BreaksOff}
use Rattle.node_core.specs.Steps.{IsStepFault}
use Rattle.node_core.proofs.Coming.{Ended, failed_at}
use Rattle.node_core.proofs.Fates.{IsQuiet}
use Rattle.node_core.proofs.Forceless.{ForceNone, none_forced}
use Rattle.node_core.proofs.Running.{Ends, NamesNone, others_of, others_same}

-- none of these calls forces a record
both_forceless : (xs ys : List DiskCall) → ForceNone xs → ForceNone ys → ForceNone (xs ++ ys)
both_forceless [] ys first rest = rest
both_forceless (x ∷ xs) ys first rest = (first.0, both_forceless xs ys first.1 rest)

front_forceless : (xs ys : List DiskCall) → ForceNone (xs ++ ys) → ForceNone xs
front_forceless [] ys both = tt
front_forceless (x ∷ xs) ys both = (both.0, front_forceless xs ys both.1)

trim_forceless : (keep : Option ℕ) → ForceNone (trim_calls keep)
trim_forceless None = tt
trim_forceless (Some keep) = (tt, tt)

written_forceless : (xs : List PageWrite) → ForceNone (map write_call xs)
written_forceless [] = tt
written_forceless (x ∷ xs) = (tt, written_forceless xs)

rules_forceless : (xs : List (ℕ × PartitionPlan)) → ForceNone (rules_calls xs)
rules_forceless [] = tt
rules_forceless (x ∷ xs) = both_forceless (rule_calls x.1) (rules_calls xs) (written_forceless x.1.writes) (rules_forceless xs)

pub install_forceless : (d : Disk) (v : View) (n : NodeState) → ForceNone (install_calls d v n)
install_forceless d v n =
    let plans = (plan_install d d.pages n.view v (in_view v n)).plans in
    both_forceless (trim_calls (kept_if (is_born_in v n) d n)) (rules_calls plans) (trim_forceless (kept_if (is_born_in v n) d n)) (rules_forceless plans)

pub report_forceless : (d : Disk) (from : ℕ) (r : Report) (n : NodeState) → ForceNone (report_calls d from r n)
report_forceless d from r n = by (plan_report d d.pages from r n)
  where
    by : (o : Outcome PartitionPlan) → ForceNone (calls_in o)
    by (Goes p) = written_forceless p.writes
    by (differs p expected found) = tt

-- a reading call failed behind a beginning of them
broke_within : (me : ℕ) (calls : List DiskCall) (kept : Option TxId) (old new : Told) → ForceNone calls → kept ≡ None → MadeSome me calls old new → BreaksOff me calls kept old new
broke_within me calls kept old new all names some = record {
  count = length some.first;
  made = subst (λ l. Made me l old None new) (sym front) some.made;
  names = names ∙ sym (ap (λ l. fold forced None l) front ∙ none_forced some.first (front_forceless some.first some.rest (subst ForceNone (sym some.all) all)));
}
  where
    front : take (length some.first) calls ≡ some.first
    front = ap (λ l. take (length some.first) l) (sym some.all) ∙ take-append_seam some.first some.rest

module _ (me : ℕ) (calls : List DiskCall) (old new : Told) where
  pub broken_ended : (d : Disk) (stops : Stops) → old ≡ told_on d stops → ForceNone calls → (r : Result (Unit {0}) StepFault) → LeavesCalls me r calls old new → NamesNone r → Ended me d r calls old new
  broken_ended d stops told all (Ok x) left names = left
  broken_ended d stops told all (Err NoMemory) left names = tt
  broken_ended d stops told all (Err (Differs p expected found)) left names = (left.first, left.made)
  broken_ended d stops told all (Err (Halted call.Read kept)) left names = broke_within me calls kept old new all names left
  broken_ended d stops told all (Err (Halted call.Log kept)) left names = broke_within me calls kept old new all names left
  broken_ended d stops told all (Err (Halted call.Write kept)) left names = failed_at me d calls call.Write kept stops old new told names left
  broken_ended d stops told all (Err (Halted call.Force kept)) left names = failed_at me d calls call.Force kept stops old new told names left
  broken_ended d stops told all (Err (Halted call.Trim kept)) left names = failed_at me d calls call.Trim kept stops old new told names left
  broken_ended d stops told all (Err (Halted call.Cut kept)) left names = failed_at me d calls call.Cut kept stops old new told names left

  pub broken_ends : (r : Result (Unit {0}) StepFault) → LeavesCalls me r calls old new → IsQuiet r → Ends me r calls old new
  broken_ends (Ok x) left quiet = left
  broken_ends (Err NoMemory) left quiet = tt
  broken_ends (Err (Differs p expected found)) left quiet = tt
  broken_ends (Err (Halted call.Read kept)) left quiet = absurd (quiet.0 refl)
  broken_ends (Err (Halted call.Log kept)) left quiet = absurd (quiet.1 refl)
  broken_ends (Err (Halted call.Write kept)) left quiet = left
  broken_ends (Err (Halted call.Force kept)) left quiet = left
  broken_ends (Err (Halted call.Trim kept)) left quiet = left
  broken_ends (Err (Halted call.Cut kept)) left quiet = left

  pub broken_others : (r : Result (Unit {0}) StepFault) → LeavesCalls me r calls old new → OthersStayArmed me old.stops new.stops
  broken_others (Ok x) left = others_of me calls old None new left
  broken_others (Err NoMemory) left = others_same me old new left
  broken_others (Err (Differs p expected found)) left = others_of me left.first old None new left.made
  broken_others (Err (Halted call.Read kept)) left = others_of me left.first old None new left.made
  broken_others (Err (Halted call.Log kept)) left = others_of me left.first old None new left.made
  broken_others (Err (Halted call.Write kept)) left = others_of me calls old (Some call.Write) new left
  broken_others (Err (Halted call.Force kept)) left = others_of me calls old (Some call.Force) new left
  broken_others (Err (Halted call.Trim kept)) left = others_of me calls old (Some call.Trim) new left
  broken_others (Err (Halted call.Cut kept)) left = others_of me calls old (Some call.Cut) new left

-- what their faults say
pub install_fault : (e : StepFault) → IsInstallFault e → IsStepFault e
install_fault NoMemory fault = tt
install_fault (Halted k kept) fault = tt
install_fault (Differs p expected found) fault = fault

pub report_fault : (e : StepFault) → IsReportFault e → IsStepFault e
report_fault NoMemory fault = tt
report_fault (Halted k kept) fault = tt
report_fault (Differs p expected found) fault = fault

pub install_names : (r : Result (Unit {0}) StepFault) → IfErr r IsInstallFault → NamesNone r
install_names (Ok x) fault = tt
install_names (Err NoMemory) fault = tt
install_names (Err (Differs p expected found)) fault = tt
install_names (Err (Halted call.Write kept)) fault = fault
install_names (Err (Halted call.Read kept)) fault = fault
install_names (Err (Halted call.Log kept)) fault = fault
install_names (Err (Halted call.Trim kept)) fault = fault
install_names (Err (Halted call.Force kept)) fault = absurd fault
install_names (Err (Halted call.Cut kept)) fault = absurd fault

pub report_names : (r : Result (Unit {0}) StepFault) → IfErr r IsReportFault → NamesNone r
report_names (Ok x) fault = tt
report_names (Err NoMemory) fault = tt
report_names (Err (Differs p expected found)) fault = tt
report_names (Err (Halted k kept)) fault = fault.1
