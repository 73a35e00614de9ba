-- Partitions that are planned one after the other.
use Rattle.std.proofs.Common.{◌≡◌, ℕ, suc, ◌+◌, ◌-◌, ◌<◌, ◌≤◌, Some, None, Result, Err, List, [], ◌∷◌, ◌++◌, map, Vec, Global, ap, sym, ◌∙◌, subst, arith}
use Rattle.std.specs.Prelude.{IfOk}
use Rattle.std.proofs.lemmas.List.{append_assoc, append-nil, map-append}
use Rattle.std.specs.List.{AllByRecursion}
use Rattle.pcl_base.specs.Limits.{Sizes}
use Rattle.run_rules.specs.Disk.{Disk}
use Rattle.run_rules.specs.Views.{count_from}
use Rattle.node_rules.specs.NodeState.{NodeState, table_at}
use Rattle.node_rules.specs.Work.{Outcome, Goes}
use Rattle.disk_model.specs.Disk.{Pages, Logs}
use Rattle.install_laws.specs.InstallPlans.{PartitionPlan, InstallPlan, before_others, plan_all}
use Rattle.node_parts.specs.declared.fault.StepFault.{StepFault}
use Rattle.node_parts.specs.declared.fault.StepFault.TheVariants.{NoMemory, Halted, Differs as differing}
use Rattle.install_plans.specs.declared.plan.PartitionPlan.{PartitionPlan as Made}
use Rattle.install_plans.specs.declared.plan.InstallPlan.{InstallPlan as AllMade}
use Rattle.install_plans.specs.Plans.{Fits, Plans, plan_of}
use Rattle.install_plans.specs.Installs.{FitsEach, ended_by, install_of}

-- a partition and its plan, in the words of the rules
abbrev pub seen_plan : Disk → NodeState → ℕ × Made → ℕ × PartitionPlan
seen_plan d n x = (x.0, plan_of d (table_at n x.0) x.1)

-- plans before others
abbrev pub before_all : List (ℕ × PartitionPlan) → InstallPlan → InstallPlan
before_all xs p = record p { plans = xs ++ p.plans }

module _ (d : Disk) (n : NodeState) (f : ℕ → Outcome PartitionPlan) (end : ℕ) where
  next : (q : ℕ) → q < end → plan_all f (count_from q (end - q)) ≡ before_others q (f q) (plan_all f (count_from (q + 1) (end - (q + 1))))
  unfolding plan_all count_from
  next q low =
      let rest : end - q ≡ suc (end - (q + 1)) = omega arith in
      ap (λ k. plan_all f (count_from q k)) rest

  -- one more partition is planned
  pub one_more : (ps more : List (ℕ × Made)) (q : ℕ) (p : Made) (whole : InstallPlan) → q < end → f q ≡ Goes (plan_of d (table_at n q) p) → more ≡ ps ++ (q, p) ∷ []
      → whole ≡ before_all (map (seen_plan d n) ps) (plan_all f (count_from q (end - q)))
      → whole ≡ before_all (map (seen_plan d n) more) (plan_all f (count_from (q + 1) (end - (q + 1))))
  one_more ps more q p whole low goes made is =
      is
      ∙ (ap (before_all (map (seen_plan d n) ps)) (next q low ∙ ap (λ o. before_others q o others) goes)
      ∙ (λ i. let x : InstallPlan = record others { plans = sym joined i } in x))
    where
      others : InstallPlan
      others = plan_all f (count_from (q + 1) (end - (q + 1)))

      joined : map (seen_plan d n) more ++ others.plans ≡ map (seen_plan d n) ps ++ seen_plan d n (q, p) ∷ others.plans
      joined =
          ap (λ l. map (seen_plan d n) l ++ others.plans) made
          ∙ (ap (λ l. l ++ others.plans) (map-append (seen_plan d n) ps ((q, p) ∷ []))
          ∙ append_assoc (map (seen_plan d n) ps) (seen_plan d n (q, p) ∷ []) others.plans)

  -- all are planned
  pub no_more : (ps : List (ℕ × Made)) (q : ℕ) (whole : InstallPlan) → end ≤ q → whole ≡ before_all (map (seen_plan d n) ps) (plan_all f (count_from q (end - q)))
      → whole ≡ record { plans = map (seen_plan d n) ps; differs = None }
  unfolding plan_all count_from
  no_more ps q whole past is =
      let none : end - q ≡ 0 = omega arith in
      is
      ∙ (ap (λ k. before_all (map (seen_plan d n) ps) (plan_all f (count_from q k))) none
      ∙ (λ i. record { plans = append-nil (map (seen_plan d n) ps) i; differs = None }))

  -- a partition that can't be planned ends the planning
  pub ended_planned : (ps : Vec (ℕ × Made) Global) (q : ℕ) (whole : InstallPlan) (e : StepFault) (r : Result AllMade StepFault) → q < end → Plans (f q) d (table_at n q) (Err e)
      → whole ≡ before_all (map (seen_plan d n) ps.items) (plan_all f (count_from q (end - q))) → r ≡ ended_by ps e → IfOk r (λ x. whole ≡ install_of d n x)
  ended_planned ps q whole e r low plans is ends = subst (λ x. IfOk x (λ y. whole ≡ install_of d n y)) (sym ends) (by e plans)
    where
      by : (x : StepFault) → Plans (f q) d (table_at n q) (Err x) → IfOk (ended_by ps x) (λ y. whole ≡ install_of d n y)
      by NoMemory differs = tt
      by (Halted call kept) differs = tt
      by (differing page expected found) differs =
          is
          ∙ (ap (before_all (map (seen_plan d n) ps.items)) (next q low ∙ ap (λ o. before_others q o (plan_all f (count_from (q + 1) (end - (q + 1))))) differs)
          ∙ (λ i. record { plans = append-nil (map (seen_plan d n) ps.items) i; differs = Some (record { page = page; expected = expected; found = found }) }))

pub ended_fits : (c : Sizes) (me : ℕ) (pages : Pages) (logs : Logs) (ps : Vec (ℕ × Made) Global) (e : StepFault) (r : Result AllMade StepFault)
    → AllByRecursion (λ x. Fits c me x.0 pages logs x.1) ps.items → r ≡ ended_by ps e → IfOk r (FitsEach c me pages logs)
ended_fits c me pages logs ps e r all ends = subst (λ x. IfOk x (FitsEach c me pages logs)) (sym ends) (by e)
  where
    by : (x : StepFault) → IfOk (ended_by ps x) (FitsEach c me pages logs)
    by NoMemory = tt
    by (Halted call kept) = tt
    by (differing page expected found) = all

-- the same plan fits at equal numbers, pages and logs
pub fits_same : (c k : Sizes) (me m q : ℕ) (pages ps : Pages) (logs ls : Logs) (p : Made) → c ≡ k → me ≡ m → pages ≡ ps → logs ≡ ls → Fits c me q pages logs p → Fits k m q ps ls p
fits_same c k me m q pages ps logs ls p config number stored told fits =
    subst (λ x. Fits x m q ps ls p) config (subst (λ x. Fits c x q ps ls p) number (subst (λ x. Fits c me q x ls p) stored (subst (λ x. Fits c me q pages x p) told fits)))
