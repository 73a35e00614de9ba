-- The pages of which some logs have a newer version.
use Rattle.std.proofs.Common.{◌≡◌, ℕ, ◌==◌, nat_lt, true, false, cond, Option, Result, Ok, Err, List, [], ◌∷◌, length, refl, ap, sym, ◌∙◌, subst, arith}
use Rattle.std.specs.Prelude.{IsErrAnd}
use Rattle.std.proofs.lemmas.Bool.Decides.{nat_tests}
use Rattle.std.proofs.lemmas.List.{nil_from_length}
use Rattle.std.specs.List.{filter}
use Rattle.pcl_base.specs.Limits.{Sizes}
use Rattle.run_rules.specs.Disk.{Disk}
use Rattle.run_rules.specs.Redo.{entries_of, greatest, records_in}
use Rattle.node_rules.specs.LockTable.{LockTable, entry_at}
use Rattle.node_rules.specs.Work.{Outcome}
use Rattle.install_laws.specs.InstallPlans.{PartitionPlan, is_newer}
use Rattle.node_parts.specs.declared.fault.StepFault.{StepFault}
use Rattle.node_parts.specs.declared.fault.StepFault.TheVariants.{NoMemory, Halted, Differs}
use Rattle.install_plans.specs.declared.plan.PartitionPlan.{PartitionPlan as Made}
use Rattle.install_plans.specs.Plans.{IsCallFault, Plans}

none_passes : (t : LockTable) (ps : List ℕ) → [] ≡ filter (is_newer [] t) ps
unfolding greatest entries_of
none_passes t [] = refl
none_passes t (p ∷ ps) = none_passes t ps ∙ ap (λ b. cond b (p ∷ filter (is_newer [] t) ps) (filter (is_newer [] t) ps)) (sym (not_below (entry_at t p).version))
  where
    not_below : (v : ℕ) → nat_lt v 0 ≡ false
    not_below v = grind (arith, nat_tests)

-- where there are no logs, no page is newer
pub none_newer : (c : Sizes) (d : Disk) (logs : List ℕ) (t : LockTable) (ps : List ℕ) (n : ℕ) → length logs ≡ n → true ≡ (n == 0) → [] ≡ filter (is_newer (records_in c d logs) t) ps
unfolding records_in
none_newer c d logs t ps n count none =
    none_passes t ps ∙ ap (λ ls. filter (is_newer (records_in c d ls) t) ps) (sym (nil_from_length logs (count ∙ zero_of n none)))
  where
    zero_of : (n : ℕ) → true ≡ (n == 0) → n ≡ 0
    zero_of n is = grind (arith, nat_tests)

-- a call that failed, or memory that was wanted, ends the plan of a partition
pub untold : (o : Outcome PartitionPlan) (d : Disk) (before : Option LockTable) (e : StepFault) (r : Result Made StepFault)
    → IsCallFault e → IsErrAnd r (λ f. f ≡ e) → Plans o d before r
untold o d before e (Ok made) fault is = absurd is
untold o d before e (Err f) fault is = subst (λ x. Plans o d before (Err x)) (sym is) (by e fault)
  where
    by : (x : StepFault) → IsCallFault x → Plans o d before (Err x)
    by NoMemory fault = tt
    by (Halted call kept) fault = tt
    by (Differs page expected found) fault = absurd fault
