-- An install from the node that is in the view: the trim, and then the plans.
use Rattle.std.proofs.Common.{inl, inr, ◌≡◌, ℕ, Bool, true, false, List, [], ◌∷◌, ◌++◌, map, Option, Some, None, Result, Ok, Err, refl, ap, sym, subst, ◌∙◌, append_assoc, append-nil}
use Rattle.std.specs.Prelude.{IfErr, IfSome, slice_index_or}
use Rattle.std.specs.List.{AllByRecursion}
use Rattle.pcl_base.specs.Limits.{Sizes}
use Rattle.pcl_base.specs.declared.reply.Reply.TheVariants as reply
use Rattle.pcl_base.specs.declared.trace.Call.TheVariants as call
use Rattle.text_rules.specs.LogRecord.{whole_len}
use Rattle.run_rules.specs.Disk.{Disk, log_at}
use Rattle.run_rules.specs.Views.{View}
use Rattle.node_rules.specs.DiskCalls.{DiskCall}
use Rattle.node_rules.specs.LockTable.{LockTable}
use Rattle.node_rules.specs.NodeState.{NodeState}
use Rattle.node_rules.specs.Work.{Outcome, Work, Goes, Differs as differs, for_each}
use Rattle.node_rules.specs.InstallRule.{in_view, install_view}
use Rattle.disk_model.specs.Disk.{Pages, Logs}
use Rattle.home.specs.Device.{Told, Made}
use Rattle.home.proofs.Making.{made_first}
use Rattle.install_laws.specs.InstallPlans.{Differing, InstallPlan as Planning, PartitionPlan as Planned, carry_install, end_with, plan_install}
use Rattle.install_laws.specs.Laws.{HasTables}
use Rattle.partition_redo.specs.Chains.{IsRedoCall}
use Rattle.node_parts.specs.Comes.{Comes, work_of}
use Rattle.node_parts.specs.Outputs.{OutputsView}
use Rattle.node_parts.specs.declared.fault.StepFault.{StepFault}
use Rattle.node_parts.specs.declared.fault.StepFault.TheVariants.{NoMemory, Halted, Differs}
use Rattle.page_owner.specs.Writes.{after_calls}
use Rattle.page_owner.proofs.Carrying.{and_done, and_failed}
use Rattle.install_plans.specs.declared.plan.InstallPlan.{InstallPlan}
use Rattle.install_plans.specs.declared.plan.PartitionPlan.{PartitionPlan}
use Rattle.install_plans.specs.Installs.{install_of}
use Rattle.install_plans.specs.Plans.{plan_of}
use Rattle.partition_steps.specs.Carried.{CanCarryEach, IsCarryFault, plan_calls}
use Rattle.partition_steps.proofs.Staying.{plans_stay_law}
use Rattle.install_steps.specs.Births.{KeepsRecords, LeavesTrim, entered, is_born_in, kept_if, trim_calls, trimmed, trimmed_logs}
use Rattle.install_steps.specs.Calls.{IsWorkFault, LeavesCalls, all_calls, end_of, install_calls, rules_calls}
use Rattle.install_steps.specs.Plans.{carry_seen, seen_plan}
use Rattle.install_steps.proofs.Beginning.{install_is}
use Rattle.install_steps.proofs.Carrying.{IsSameSeen, calls_same, made_more, seen_same}
use Rattle.install_steps.proofs.Trimming.{pages_trimmed, same_trimmed, stays_trimmed}

-- a fault says nothing of the work after it
pub fault_elsewhere : (X : Type 0) (o : Outcome Work) (f : StepFault) (w v : Work) → Comes {T = X} o (Err f) w → Comes {T = X} o (Err f) v
fault_elsewhere X (Goes k) NoMemory w v is = tt
fault_elsewhere X (Goes k) (Halted call kept) w v is = tt
fault_elsewhere X (Goes k) (Differs a b e) w v is = absurd is
fault_elsewhere X (differs a b e) NoMemory w v is = tt
fault_elsewhere X (differs a b e) (Halted call kept) w v is = tt
fault_elsewhere X (differs a b e) (Differs k l j) w v is = is

-- the calls of plans that were made are those of the rules' plans
pub rules_are_made : (d : Disk) (n : NodeState) (xs : List (ℕ × PartitionPlan)) → rules_calls (map (seen_plan d n) xs) ≡ all_calls d xs
rules_are_made d n [] = refl
rules_are_made d n (x ∷ xs) = ap (λ l. plan_calls d x.1 ++ l) (rules_are_made d n xs)

-- a node that is in the view has the tables that it had
entered_tables : (b : Bool) (v : View) (n : NodeState) → (entered b v n).tables ≡ n.tables
entered_tables true v n = refl
entered_tables false v n = refl

-- an install of which all is ready
pub record IsStarted (d : Disk) (v : View) (n : NodeState) (b : Bool) (keep : Option ℕ) (m : NodeState) (p : InstallPlan) (old mid : OutputsView) : Type 0 where
  pub tables : HasTables n
  pub none : is_born_in v n ≡ true → n.home.txs.txs ≡ []
  pub born : b ≡ is_born_in v n
  pub kept : keep ≡ kept_if (is_born_in v n) d n
  pub node : m ≡ entered b v n
  pub replies : mid.replies ≡ old.replies ++ reply.Installed v.epoch ∷ []
  pub sends : mid.sends ≡ old.sends
  pub planned : plan_install d d.pages n.view v (in_view v n) ≡ install_of d n p

module _ (d : Disk) (v : View) (n : NodeState) (b : Bool) (keep : Option ℕ) (m : NodeState) (p : InstallPlan) (old mid : OutputsView) (is : IsStarted d v n b keep m p old mid) where
  -- its calls
  pub started_calls : install_calls d v n ≡ trim_calls keep ++ all_calls d p.plans.items
  started_calls =
      ap (λ k. trim_calls k ++ rules_calls (plan_install d d.pages n.view v (in_view v n)).plans) (sym is.kept)
      ∙ ap (λ (l : List DiskCall). trim_calls keep ++ l) (ap (λ (x : Planning). rules_calls x.plans) is.planned ∙ rules_are_made d n p.plans.items)

  seen_there : map (seen_plan d n) p.plans.items ≡ map (seen_plan d m) p.plans.items
  seen_there =
      ap (λ (ts : List (Option LockTable)). map (λ (x : ℕ × PartitionPlan). (x.0, plan_of d (slice_index_or ts x.0 None) x.1)) p.plans.items) (sym (ap (λ (k : NodeState). k.tables) is.node ∙ entered_tables b v n))

  -- it goes on with the plans
  pub started_goes : (cs : List DiskCall) → install_view d v (work_of n d.pages cs old) ≡ carry_install (record { plans = map (seen_plan d m) p.plans.items; differs = p.differs }) (work_of m d.pages (cs ++ trim_calls keep) mid)
  started_goes cs =
      install_is d v n is.none (work_of n d.pages cs old) is.tables refl refl
      ∙ (λ i. carry_install (is.planned i)
      (let w : Work = record {
        node = (ap (λ k. entered k v n) (sym is.born) ∙ sym is.node) i;
        pages = d.pages;
        calls = cs ++ trim_calls (sym is.kept i);
        replies = sym is.replies i;
        sends = sym is.sends i;
      } in w))
      ∙ (λ i. carry_install (let x : Planning = record { plans = seen_there i; differs = p.differs } in x) (work_of m d.pages (cs ++ trim_calls keep) mid))

  pub started_comes : (X : Type 0) (cs : List DiskCall) (r : Result X StepFault) (last : NodeState) (new : OutputsView)
      → Comes (carry_install (record { plans = map (seen_plan d m) p.plans.items; differs = p.differs }) (work_of m d.pages (cs ++ trim_calls keep) mid)) r (work_of last (after_calls d.pages (trim_calls keep ++ all_calls d p.plans.items)) (cs ++ (trim_calls keep ++ all_calls d p.plans.items)) new)
      → Comes (install_view d v (work_of n d.pages cs old)) r (work_of last (after_calls d.pages (install_calls d v n)) (cs ++ install_calls d v n) new)
  started_comes X cs r last new comes =
      subst (λ (o : Outcome Work). Comes o r (work_of last (after_calls d.pages (install_calls d v n)) (cs ++ install_calls d v n) new)) (sym (started_goes cs))
      (subst (λ l. Comes (carry_install (record { plans = map (seen_plan d m) p.plans.items; differs = p.differs }) (work_of m d.pages (cs ++ trim_calls keep) mid)) r (work_of last (after_calls d.pages l) (cs ++ l) new)) (sym started_calls) comes)

-- plans that can be carried out can be so after a trim
pub can_trimmed : (c : Sizes) (me : ℕ) (keep : Option ℕ) (pages : Pages) (logs : Logs) (xs : List (ℕ × PartitionPlan)) → KeepsRecords c me keep logs → CanCarryEach c me pages logs xs → CanCarryEach c me pages (trimmed_logs me keep logs) xs
can_trimmed c me keep pages logs [] keeps can = tt
can_trimmed c me keep pages logs (x ∷ xs) keeps can =
    (plans_stay_law c me x.0 pages logs pages (trimmed_logs me keep logs) x.1 (stays_trimmed c me x.0 keep pages logs keeps) can.0, can_trimmed c me keep pages logs xs keeps can.1)

module _ (c : Sizes) (me : ℕ) (keep : Option ℕ) (pages : Pages) (logs : Logs) (d : Disk) (n : NodeState) (is : IfSome keep (λ k. k ≡ whole_len c (log_at d me))) where
  all_trimmed : (xs : List (ℕ × PartitionPlan)) → CanCarryEach c me pages logs xs → AllByRecursion (IsSameSeen c me pages logs d (trimmed me keep d) n n) xs
  all_trimmed [] can = tt
  all_trimmed (x ∷ xs) can = (record { fits = can.0.fits; disk = same_trimmed c me x.0 keep d is; table = refl }, all_trimmed xs can.1)

  trim_pages : (o : Option ℕ) (l : List DiskCall) → after_calls d.pages l ≡ after_calls d.pages (trim_calls o ++ l)
  trim_pages None l = refl
  trim_pages (Some k) l = refl

  -- the plans after a trim are those before it
  pub trimmed_comes : (X : Type 0) (xs : List (ℕ × PartitionPlan)) (o : Option Differing) (cs : List DiskCall) (old new : OutputsView) (r : Result X StepFault) (last : NodeState) → CanCarryEach c me pages logs xs
      → Comes (carry_install (record { plans = map (seen_plan (trimmed me keep d) n) xs; differs = o }) (work_of n (trimmed me keep d).pages (cs ++ trim_calls keep) old)) r (work_of last (after_calls (trimmed me keep d).pages (all_calls (trimmed me keep d) xs)) ((cs ++ trim_calls keep) ++ all_calls (trimmed me keep d) xs) new)
      → Comes (carry_install (record { plans = map (seen_plan d n) xs; differs = o }) (work_of n d.pages (cs ++ trim_calls keep) old)) r (work_of last (after_calls d.pages (trim_calls keep ++ all_calls d xs)) (cs ++ (trim_calls keep ++ all_calls d xs)) new)
  trimmed_comes X xs o cs old new r last can comes =
      let seen = seen_same c me pages logs d (trimmed me keep d) n n xs (all_trimmed xs can) in
      let calls = calls_same c me pages logs d (trimmed me keep d) n n xs (all_trimmed xs can) in
      let stored = pages_trimmed me keep d in
      subst (λ (ps : List (List ℕ)). Comes (carry_install (record { plans = map (seen_plan d n) xs; differs = o }) (work_of n d.pages (cs ++ trim_calls keep) old)) r (work_of last ps (cs ++ (trim_calls keep ++ all_calls d xs)) new)) (trim_pages keep (all_calls d xs))
      (subst (λ (l : List DiskCall). Comes (carry_install (record { plans = map (seen_plan d n) xs; differs = o }) (work_of n d.pages (cs ++ trim_calls keep) old)) r (work_of last (after_calls d.pages (all_calls d xs)) l new)) (append_assoc cs (trim_calls keep) (all_calls d xs))
      (let at : ℕ → Type 0 = λ i. ℕ in
      subst (λ (ps : List (List ℕ)). Comes (carry_install (record { plans = map (seen_plan d n) xs; differs = o }) (work_of n ps (cs ++ trim_calls keep) old)) r (work_of last (after_calls ps (all_calls d xs)) ((cs ++ trim_calls keep) ++ all_calls d xs) new)) stored
      (subst (λ (l : List DiskCall). Comes (carry_install (record { plans = map (seen_plan d n) xs; differs = o }) (work_of n (trimmed me keep d).pages (cs ++ trim_calls keep) old)) r (work_of last (after_calls (trimmed me keep d).pages l) ((cs ++ trim_calls keep) ++ l) new)) calls
      (subst (λ (l : List (ℕ × Planned)). Comes (carry_install (record { plans = l; differs = o }) (work_of n (trimmed me keep d).pages (cs ++ trim_calls keep) old)) r (work_of last (after_calls (trimmed me keep d).pages (all_calls (trimmed me keep d) xs)) ((cs ++ trim_calls keep) ++ all_calls (trimmed me keep d) xs) new)) seen comes))))

  pub trimmed_made : (X : Type 0) (xs : List (ℕ × PartitionPlan)) (r : Result X StepFault) (old mid new : Told) → CanCarryEach c me pages logs xs → LeavesTrim {T = Unit {0}} me keep (Ok (tt {0})) old mid → (r ≡ Err NoMemory → ⊥)
      → LeavesCalls me r (all_calls (trimmed me keep d) xs) mid new → LeavesCalls me r (trim_calls keep ++ all_calls d xs) old new
  trimmed_made X xs r old mid new can made never leaves =
      made_more X me (trim_calls keep) (all_calls d xs) r old mid new made never
      (subst (λ l. LeavesCalls me r l mid new) (calls_same c me pages logs d (trimmed me keep d) n n xs (all_trimmed xs can)) leaves)

-- a trim that failed is the first call
pub trim_failed : (X Y : Type 0) (me : ℕ) (keep : Option ℕ) (ys : List DiskCall) (f : StepFault) (old new : Told) → LeavesTrim {T = X} me keep (Err f) old new → LeavesCalls {T = Y} me (Err f) (trim_calls keep ++ ys) old new
trim_failed X Y me keep ys NoMemory old new leaves = absurd leaves
trim_failed X Y me keep ys (Differs a b e) old new leaves = absurd leaves
trim_failed X Y me keep ys (Halted call.Read kept) old new leaves = absurd leaves
trim_failed X Y me keep ys (Halted call.Log kept) old new leaves = absurd leaves
trim_failed X Y me keep ys (Halted call.Write kept) old new leaves = absurd leaves
trim_failed X Y me keep ys (Halted call.Force kept) old new leaves = absurd leaves
trim_failed X Y me keep ys (Halted call.Trim kept) old new leaves = made_first me (trim_calls keep) ys old call.Trim new leaves.1
trim_failed X Y me keep ys (Halted call.Cut kept) old new leaves = absurd leaves

-- a fault of carrying is one of the work
pub carry_is_work : (f : StepFault) → IsCarryFault f → IsWorkFault f
carry_is_work NoMemory is = absurd is
carry_is_work (Halted call.Read kept) is = is.1
carry_is_work (Halted call.Log kept) is = is.1
carry_is_work (Halted call.Write kept) is = is.1
carry_is_work (Halted call.Trim kept) is = is.1
carry_is_work (Halted call.Force kept) is = no_redo is.0
  where
    no_redo : IsRedoCall call.Force → ⊥
    no_redo (inl (inl e)) = absurd (cc)
    no_redo (inl (inr e)) = absurd (cc)
    no_redo (inr e) = absurd (cc)
carry_is_work (Halted call.Cut kept) is = no_redo is.0
  where
    no_redo : IsRedoCall call.Cut → ⊥
    no_redo (inl (inl e)) = absurd (cc)
    no_redo (inl (inr e)) = absurd (cc)
    no_redo (inr e) = absurd (cc)
carry_is_work (Differs p expected found) is = λ same. is (sym same)

-- the end of plans that are carried out
pub end_comes : (X : Type 0) (x : X) (xs : List (ℕ × Planned)) (o : Option Differing) (w last : Work) → Comes (for_each carry_seen xs w) (Ok x) last → Comes (carry_install (record { plans = xs; differs = o }) w) (end_of o) last
end_comes X x xs o w last done = subst (λ (k : Outcome Work). Comes k (end_of o) last) (sym (and_done (for_each carry_seen xs w) (end_with o) x last done)) (by o)
  where
    by : (o : Option Differing) → Comes (end_with o last) (end_of o) last
    by None = refl
    by (Some e) = (refl, refl, refl)

pub end_made : (me : ℕ) (calls : List DiskCall) (o : Option Differing) (old new : Told) → Made me calls old None new → LeavesCalls me (end_of o) calls old new
end_made me calls None old new made = made
end_made me calls (Some e) old new made = record { first = calls; rest = []; all = append-nil calls; made = made }

-- what carrying out to the end comes to
module _ (d : Disk) (n last : NodeState) (xs ys : List (ℕ × PartitionPlan)) (o : Option Differing) (cs : List DiskCall) (old new : OutputsView) (same : ys ≡ xs) where
  abbrev ToEnd : Result (Unit {0}) StepFault → Type 0
  ToEnd r = Comes (carry_install (record { plans = map (seen_plan d n) xs; differs = o }) (work_of n d.pages cs old)) r (work_of last (after_calls d.pages (all_calls d xs)) (cs ++ all_calls d xs) new)

  abbrev AllOf : Result (Unit {0}) StepFault → List (ℕ × PartitionPlan) → Type 0
  AllOf r l = Comes (for_each carry_seen (map (seen_plan d n) l) (work_of n d.pages cs old)) r (work_of last (after_calls d.pages (all_calls d l)) (cs ++ all_calls d l) new)

  pub ended_comes : (r : Result (Unit {0}) StepFault) → r ≡ end_of o → AllOf (Ok (tt {0})) ys → ToEnd r
  ended_comes r is done = subst ToEnd (sym is) (end_comes (Unit {0}) (tt {0}) (map (seen_plan d n) xs) o (work_of n d.pages cs old) (work_of last (after_calls d.pages (all_calls d xs)) (cs ++ all_calls d xs) new) (subst (AllOf (Ok (tt {0}))) same done))

  pub failed_comes : (f : StepFault) → AllOf (Err f) ys → ToEnd (Err f)
  failed_comes f failed =
      and_failed (Unit {0}) (Unit {0}) (for_each carry_seen (map (seen_plan d n) xs) (work_of n d.pages cs old)) (end_with o) f (work_of last (after_calls d.pages (all_calls d xs)) (cs ++ all_calls d xs) new) (subst (AllOf (Err f)) same failed)

-- and what becomes of its calls
pub ended_made : (me : ℕ) (d : Disk) (xs ys : List (ℕ × PartitionPlan)) (o : Option Differing) (r : Result (Unit {0}) StepFault) (old new : Told) → ys ≡ xs → r ≡ end_of o
    → LeavesCalls {T = Unit {0}} me (Ok (tt {0})) (all_calls d ys) old new → LeavesCalls me r (all_calls d xs) old new
ended_made me d xs ys o r old new same is made =
    subst (λ (k : Result (Unit {0}) StepFault). LeavesCalls me k (all_calls d xs) old new) (sym is)
    (end_made me (all_calls d xs) o old new (subst (λ (l : List (ℕ × PartitionPlan)). Made me (all_calls d l) old None new) same made))

-- a halt says nothing of the rule
pub halt_comes : (X : Type 0) (o : Outcome Work) (f : StepFault) (w : Work) → f ≡ Halted call.Trim None → Comes {T = X} o (Err f) w
halt_comes X o f w is = subst (λ (e : StepFault). Comes {T = X} o (Err e) w) (sym is) (by o)
  where
    by : (o : Outcome Work) → Comes {T = X} o (Err (Halted call.Trim None)) w
    by (Goes k) = tt
    by (differs a b e) = tt

-- a fault of the work isn't want of memory
pub never_wants : {X : Type 0} (r : Result X StepFault) → IfErr r IsWorkFault → r ≡ Err NoMemory → ⊥
never_wants (Ok x) is e = absurd (cc)
never_wants (Err NoMemory) is e = is
never_wants (Err (Halted k kept)) is e = absurd (cc)
never_wants (Err (Differs a b k)) is e = absurd (cc)
