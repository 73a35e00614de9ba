-- Plans that are carried out one after the other.
use Rattle.std.proofs.Common.{◌≡◌, ℕ, ◌+◌, ◌≤◌, List, [], ◌∷◌, ◌++◌, length, map, Option, Some, None, Result, Ok, Err, refl, ap, sym, subst, ◌∙◌, arith, append_assoc, append-nil}
use Rattle.std.specs.Prelude.{◌≢◌, IfErr, slice_set}
use Rattle.std.specs.List.{AllByRecursion}
use Rattle.std.proofs.lemmas.Grind.{fold-append}
use Rattle.std.proofs.lemmas.List.{get_or-set_other}
use Rattle.pcl_base.specs.Limits.{Sizes}
use Rattle.pcl_base.specs.declared.trace.Call.TheVariants as call
use Rattle.run_rules.specs.Disk.{Disk}
use Rattle.node_rules.specs.DiskCalls.{DiskCall}
use Rattle.node_rules.specs.LockTable.{LockTable}
use Rattle.node_rules.specs.NodeState.{NodeState, table_at}
use Rattle.node_rules.specs.Work.{Outcome, Work, Goes, Differs as differs, and_then, for_each}
use Rattle.disk_model.specs.Disk.{Pages, Logs}
use Rattle.home.specs.Device.{Told, Made}
use Rattle.home.proofs.Making.{made_both, made_first}
use Rattle.install_laws.specs.InstallPlans.{PartitionPlan as Planned}
use Rattle.lock_table.specs.Tables.{TableView}
use Rattle.node_parts.specs.Comes.{Comes, work_of}
use Rattle.node_parts.specs.Outputs.{OutputsView}
use Rattle.node_parts.specs.State.{PartsView, node_of}
use Rattle.node_parts.specs.Stock.{StockView}
use Rattle.node_parts.specs.Tables.{place_at}
use Rattle.node_parts.specs.declared.fault.StepFault.{StepFault}
use Rattle.node_parts.specs.declared.fault.StepFault.TheVariants.{NoMemory, Halted, Differs}
use Rattle.page_owner.specs.Carry.{SameNode}
use Rattle.page_owner.specs.Writes.{after_calls, page_done}
use Rattle.page_owner.proofs.Carrying.{and_done, and_failed}
use Rattle.install_plans.specs.declared.plan.PartitionPlan.{PartitionPlan}
use Rattle.install_plans.specs.Plans.{Fits, plan_of}
use Rattle.install_plans.proofs.Reading.{table_there}
use Rattle.partition_steps.specs.Carried.{CanCarryEach, IsCarryFault, LeavesWrites, plan_calls, write_call}
use Rattle.partition_steps.specs.Memory.{HasMemoryFor, UsesAtMost, needs_of, needs_of_all}
use Rattle.partition_steps.specs.Stays.{IsSameFor, StaysFor}
use Rattle.partition_steps.proofs.Staying.{plans_are_same_law, plans_stay_law}
use Rattle.install_steps.specs.Calls.{AreFrom, LeavesCalls, all_calls}
use Rattle.install_steps.specs.Plans.{carry_seen, seen_plan}

-- partitions that rise from a number on rise from a lower one on
pub from_lower : (nodes low high : ℕ) (xs : List (ℕ × PartitionPlan)) → low ≤ high → AreFrom nodes high xs → AreFrom nodes low xs
from_lower nodes low high [] less from = tt
from_lower nodes low high (x ∷ xs) less from = let first = from.0 in (omega (arith, less, first), from.1, from.2)

-- a disk is what is told of it
pub same_disk : (d e : Disk) → e.pages ≡ d.pages → e.logs ≡ d.logs → e ≡ d
same_disk d e pages logs = λ i. let x : Disk = record { pages = pages i; logs = logs i } in x

-- where pages and logs stay for a partition, a told disk does
pub disk_stays : (c : Sizes) (q : ℕ) (pages : Pages) (logs : Logs) (later : Pages) (more : Logs) (d e : Disk) → StaysFor c q pages logs later more
    → pages ≡ Some d.pages → logs ≡ Some d.logs → later ≡ Some e.pages → more ≡ Some e.logs → IsSameFor c q d e
disk_stays c q pages logs later more d e stays told written after left =
    let was = stays.for_disk e after left in
    let was_pages : was.d.pages ≡ d.pages = let a = was.pages_told in cc in
    let was_logs : was.d.logs ≡ d.logs = let a = was.logs_told in cc in
    subst (λ (x : Disk). IsSameFor c q x e) (same_disk d was.d was_pages was_logs) was.same

-- later plans can be carried out still
pub can_later : (c : Sizes) (me nodes q : ℕ) (pages : Pages) (logs : Logs) (later : Pages) (more : Logs) (xs : List (ℕ × PartitionPlan)) → AreFrom nodes (q + 1) xs
    → ((r : ℕ) → r ≢ q → StaysFor c r pages logs later more) → CanCarryEach c me pages logs xs → CanCarryEach c me later more xs
can_later c me nodes q pages logs later more xs from stays can = by q xs (omega arith) from can
  where
    by : (low : ℕ) (ys : List (ℕ × PartitionPlan)) → q ≤ low → AreFrom nodes (low + 1) ys → CanCarryEach c me pages logs ys → CanCarryEach c me later more ys
    by low [] less above all = tt
    by low (y ∷ ys) less above all =
        let high = above.0 in
        let other : y.0 ≢ q = λ same. absurd (omega (arith, same, high, less)) in (
          plans_stay_law c me y.0 pages logs later more y.1 (stays y.0 other) all.0,
          by y.0 ys (omega (arith, high, less)) above.2 all.1,
        )

-- a later plan is the same of a disk and a node, where it fits one disk and the other is the same for it
pub record IsSameSeen (c : Sizes) (me : ℕ) (pages : Pages) (logs : Logs) (d e : Disk) (n m : NodeState) (x : ℕ × PartitionPlan) : Type 0 where
  pub fits : Fits c me x.0 pages logs x.1
  pub disk : IsSameFor c x.0 d e
  pub table : table_at m x.0 ≡ table_at n x.0

module _ (c : Sizes) (me : ℕ) (pages : Pages) (logs : Logs) (d e : Disk) (n m : NodeState) where
  plan_same : (x : ℕ × PartitionPlan) → IsSameSeen c me pages logs d e n m x → seen_plan e m x ≡ seen_plan d n x
  plan_same x is =
      ap (λ (t : Option LockTable). (x.0, plan_of e t x.1)) is.table
      ∙ ap (λ (p : Planned). (x.0, p)) (plans_are_same_law c me x.0 pages logs x.1 d e (table_at n x.0) is.disk is.fits)

  pub seen_same : (xs : List (ℕ × PartitionPlan)) → AllByRecursion (IsSameSeen c me pages logs d e n m) xs → map (seen_plan e m) xs ≡ map (seen_plan d n) xs
  seen_same [] all = refl
  seen_same (x ∷ xs) all = λ i. plan_same x all.0 i ∷ seen_same xs all.1 i

  pub calls_same : (xs : List (ℕ × PartitionPlan)) → AllByRecursion (IsSameSeen c me pages logs d e n m) xs → all_calls e xs ≡ all_calls d xs
  calls_same [] all = refl
  calls_same (x ∷ xs) all =
      λ i. map write_call (plans_are_same_law c me x.0 pages logs x.1 d e (table_at n x.0) all.0.disk all.0.fits i).writes ++ calls_same xs all.1 i

-- other partitions have the same tables where one place was set
pub others_there : (v w : PartsView) (q r : ℕ) (x : Option TableView) → w.tables.places ≡ slice_set v.tables.places q x → r ≢ q → table_at (node_of w) r ≡ table_at (node_of v) r
others_there v w q r x set other =
    let here : place_at w.tables.places r ≡ place_at v.tables.places r = ap (λ l. place_at l r) set ∙ get_or-set_other v.tables.places q r x None other in
    table_there w r (place_at v.tables.places r) here ∙ sym (table_there v r (place_at v.tables.places r) refl)

-- later plans are the same where only another partition has changed
pub all_same : (c : Sizes) (me nodes q : ℕ) (pages : Pages) (logs : Logs) (d e : Disk) (n m : NodeState) (xs : List (ℕ × PartitionPlan)) → AreFrom nodes (q + 1) xs → CanCarryEach c me pages logs xs
    → ((r : ℕ) → r ≢ q → IsSameFor c r d e) → ((r : ℕ) → r ≢ q → table_at m r ≡ table_at n r) → AllByRecursion (IsSameSeen c me pages logs d e n m) xs
all_same c me nodes q pages logs d e n m xs from can disks tables = by q xs (omega arith) from can
  where
    by : (low : ℕ) (ys : List (ℕ × PartitionPlan)) → q ≤ low → AreFrom nodes (low + 1) ys → CanCarryEach c me pages logs ys → AllByRecursion (IsSameSeen c me pages logs d e n m) ys
    by low [] less above all = tt
    by low (y ∷ ys) less above all =
        let high = above.0 in
        let other : y.0 ≢ q = λ same. absurd (omega (arith, same, high, less)) in (
          record { fits = all.0.fits; disk = disks y.0 other; table = tables y.0 other },
          by y.0 ys (omega (arith, high, less)) above.2 all.1,
        )

-- pages after calls, and further ones
pub after_both : (pages : List (List ℕ)) (xs ys : List DiskCall) → after_calls (after_calls pages xs) ys ≡ after_calls pages (xs ++ ys)
after_both pages xs ys = sym (fold-append page_done pages xs ys)

-- one plan is carried out, and then the others
module _ (d : Disk) (n m last : NodeState) (q : ℕ) (plan : PartitionPlan) (xs : List (ℕ × PartitionPlan)) (cs : List DiskCall) (old mid new : OutputsView) where
  abbrev first : List DiskCall
  first = plan_calls d plan

  abbrev written : Disk
  written = record { pages = after_calls d.pages first; logs = d.logs }

  abbrev before : Work
  before = work_of n d.pages cs old

  pub carried_more : (X Y : Type 0) (x : X) (r : Result Y StepFault) → map (seen_plan written m) xs ≡ map (seen_plan d n) xs → all_calls written xs ≡ all_calls d xs
      → Comes (carry_seen (seen_plan d n (q, plan)) before) (Ok x) (work_of m (after_calls d.pages first) (cs ++ first) mid)
      → Comes (for_each carry_seen (map (seen_plan written m) xs) (work_of m written.pages (cs ++ first) mid)) r (work_of last (after_calls written.pages (all_calls written xs)) ((cs ++ first) ++ all_calls written xs) new)
      → Comes (for_each carry_seen (map (seen_plan d n) ((q, plan) ∷ xs)) before) r (work_of last (after_calls d.pages (first ++ all_calls d xs)) (cs ++ (first ++ all_calls d xs)) new)
  unfolding for_each
  carried_more X Y x r plans calls done rest =
      let goes : for_each carry_seen (map (seen_plan d n) ((q, plan) ∷ xs)) before ≡ for_each carry_seen (map (seen_plan written m) xs) (work_of m written.pages (cs ++ first) mid) =
      and_done (carry_seen (seen_plan d n (q, plan)) before) (for_each carry_seen (map (seen_plan d n) xs)) x (work_of m (after_calls d.pages first) (cs ++ first) mid) done
      ∙ sym (ap (λ l. for_each carry_seen l (work_of m written.pages (cs ++ first) mid)) plans) in
      let pages : after_calls written.pages (all_calls written xs) ≡ after_calls d.pages (first ++ all_calls d xs) =
      ap (after_calls written.pages) calls ∙ after_both d.pages first (all_calls d xs) in
      let made : (cs ++ first) ++ all_calls written xs ≡ cs ++ (first ++ all_calls d xs) =
      ap (λ l. (cs ++ first) ++ l) calls ∙ append_assoc cs first (all_calls d xs) in
      subst (λ (o : Outcome Work). Comes o r (work_of last (after_calls d.pages (first ++ all_calls d xs)) (cs ++ (first ++ all_calls d xs)) new)) (sym goes)
      (subst (λ (w : Work). Comes (for_each carry_seen (map (seen_plan written m) xs) (work_of m written.pages (cs ++ first) mid)) r w) (λ i. work_of last (pages i) (made i) new) rest)

  pub carried_failed : (X Y : Type 0) (f : StepFault) (w : Work) → Comes {T = X} (carry_seen (seen_plan d n (q, plan)) before) (Err f) w
      → Comes {T = Y} (for_each carry_seen (map (seen_plan d n) ((q, plan) ∷ xs)) before) (Err f) (work_of last (after_calls d.pages (first ++ all_calls d xs)) (cs ++ (first ++ all_calls d xs)) new)
  unfolding for_each
  carried_failed X Y f w failed =
      elsewhere (and_then (carry_seen (seen_plan d n (q, plan)) before) (for_each carry_seen (map (seen_plan d n) xs))) f w
      (and_failed X Y (carry_seen (seen_plan d n (q, plan)) before) (for_each carry_seen (map (seen_plan d n) xs)) f w failed)
    where
      elsewhere : (o : Outcome Work) (f : StepFault) (w : Work) → Comes {T = Y} o (Err f) w → Comes {T = Y} o (Err f) (work_of last (after_calls d.pages (first ++ all_calls d xs)) (cs ++ (first ++ all_calls d xs)) new)
      elsewhere (Goes k) NoMemory w is = tt
      elsewhere (Goes k) (Halted call kept) w is = tt
      elsewhere (Goes k) (Differs a b e) w is = absurd is
      elsewhere (differs a b e) NoMemory w is = tt
      elsewhere (differs a b e) (Halted call kept) w is = tt
      elsewhere (differs a b e) (Differs k l j) w is = is

-- nothing is left to be carried out
pub carried_none : (X : Type 0) (x : X) (d : Disk) (n : NodeState) (cs : List DiskCall) (old : OutputsView) → Comes (for_each carry_seen (map (seen_plan d n) []) (work_of n d.pages cs old)) (Ok x) (work_of n (after_calls d.pages []) (cs ++ []) old)
unfolding for_each
carried_none X x d n cs old = ap (λ l. work_of n d.pages l old) (sym (append-nil cs))

-- what became of calls of which the first were made
pub made_more : (X : Type 0) (n : ℕ) (xs ys : List DiskCall) (r : Result X StepFault) (old mid new : Told) → Made n xs old None mid → (r ≡ Err NoMemory → ⊥)
    → LeavesCalls n r ys mid new → LeavesCalls n r (xs ++ ys) old new
made_more X n xs ys (Ok x) old mid new made never leaves = made_both n xs ys old mid None new made leaves
made_more X n xs ys (Err NoMemory) old mid new made never leaves = absurd (never refl)
made_more X n xs ys (Err (Differs a b e)) old mid new made never leaves =
    record { first = xs ++ leaves.first; rest = leaves.rest; all = append_assoc xs leaves.first leaves.rest ∙ ap (λ l. xs ++ l) leaves.all; made = made_both n xs leaves.first old mid None new made leaves.made }
made_more X n xs ys (Err (Halted call.Read kept)) old mid new made never leaves =
    record { first = xs ++ leaves.first; rest = leaves.rest; all = append_assoc xs leaves.first leaves.rest ∙ ap (λ l. xs ++ l) leaves.all; made = made_both n xs leaves.first old mid None new made leaves.made }
made_more X n xs ys (Err (Halted call.Log kept)) old mid new made never leaves =
    record { first = xs ++ leaves.first; rest = leaves.rest; all = append_assoc xs leaves.first leaves.rest ∙ ap (λ l. xs ++ l) leaves.all; made = made_both n xs leaves.first old mid None new made leaves.made }
made_more X n xs ys (Err (Halted call.Write kept)) old mid new made never leaves = made_both n xs ys old mid (Some call.Write) new made leaves
made_more X n xs ys (Err (Halted call.Force kept)) old mid new made never leaves = made_both n xs ys old mid (Some call.Force) new made leaves
made_more X n xs ys (Err (Halted call.Trim kept)) old mid new made never leaves = made_both n xs ys old mid (Some call.Trim) new made leaves
made_more X n xs ys (Err (Halted call.Cut kept)) old mid new made never leaves = made_both n xs ys old mid (Some call.Cut) new made leaves

-- what became of calls where those of the first part broke off
pub made_failed : (X Y : Type 0) (n : ℕ) (xs ys : List DiskCall) (f : StepFault) (old new : Told) → IsCarryFault f → LeavesWrites {T = X} n (Err f) xs old new → LeavesCalls {T = Y} n (Err f) (xs ++ ys) old new
made_failed X Y n xs ys NoMemory old new fault leaves = absurd fault
made_failed X Y n xs ys (Differs a b e) old new fault leaves = record { first = xs; rest = ys; all = refl; made = leaves }
made_failed X Y n xs ys (Halted call.Read kept) old new fault leaves =
    record { first = leaves.first; rest = leaves.rest ++ ys; all = sym (append_assoc leaves.first leaves.rest ys) ∙ ap (λ l. l ++ ys) leaves.all; made = leaves.made }
made_failed X Y n xs ys (Halted call.Log kept) old new fault leaves =
    record { first = leaves.first; rest = leaves.rest ++ ys; all = sym (append_assoc leaves.first leaves.rest ys) ∙ ap (λ l. l ++ ys) leaves.all; made = leaves.made }
made_failed X Y n xs ys (Halted call.Write kept) old new fault leaves = made_first n xs ys old call.Write new leaves
made_failed X Y n xs ys (Halted call.Force kept) old new fault leaves = made_first n xs ys old call.Force new leaves
made_failed X Y n xs ys (Halted call.Trim kept) old new fault leaves = made_first n xs ys old call.Trim new leaves
made_failed X Y n xs ys (Halted call.Cut kept) old new fault leaves = made_first n xs ys old call.Cut new leaves

-- memory for the first plan, and for those behind it
pub memory_first : (x : ℕ × PartitionPlan) (xs : List (ℕ × PartitionPlan)) (stock : StockView) (out : OutputsView) → HasMemoryFor (needs_of_all (x ∷ xs)) stock out → HasMemoryFor (needs_of x.1) stock out
memory_first x xs stock out has =
    let i = has.images in
    let r = has.replies in
    let s = has.sends in
    record { images = omega (arith, i); replies = omega (arith, r); sends = omega (arith, s) }

pub memory_next : (x : ℕ × PartitionPlan) (xs : List (ℕ × PartitionPlan)) (stock later : StockView) (out after : OutputsView) → HasMemoryFor (needs_of_all (x ∷ xs)) stock out
    → UsesAtMost (needs_of x.1) stock later out after → HasMemoryFor (needs_of_all xs) later after
memory_next x xs stock later out after has used =
    let i = has.images in
    let r = has.replies in
    let s = has.sends in
    let ui = used.images in
    let ur = used.replies in
    let us = used.sends in
    record { images = omega (arith, i, ui); replies = omega (arith, r, ur); sends = omega (arith, s, us) }

-- the plans behind the first one, where that was carried out
module _ (v w : PartsView) (pages : Pages) (logs : Logs) (later : Pages) (more : Logs) (x : ℕ × PartitionPlan) (xs : List (ℕ × PartitionPlan)) (node : SameNode v.home w.home) (from : AreFrom v.home.config.nodes 0 (x ∷ xs))
    (stays : (r : ℕ) → r ≢ x.0 → StaysFor v.home.config r pages logs later more) (can : CanCarryEach v.home.config v.me pages logs (x ∷ xs)) where
  pub rest_from : AreFrom w.home.config.nodes 0 xs
  rest_from = subst (λ (c : Sizes). AreFrom c.nodes 0 xs) (sym node.config) (from_lower v.home.config.nodes 0 (x.0 + 1) xs (omega arith) from.2)

  pub rest_can : w.me ≡ v.me → CanCarryEach w.home.config w.me later more xs
  rest_can me =
      subst (λ (c : Sizes). CanCarryEach c w.me later more xs) (sym node.config)
      (subst (λ (k : ℕ). CanCarryEach v.home.config k later more xs) (sym me) (can_later v.home.config v.me v.home.config.nodes x.0 pages logs later more xs from.2 stays can.1))

  module _ (d : Disk) (o : Option TableView) (stored : pages ≡ Some d.pages) (told : logs ≡ Some d.logs) (after : later ≡ Some (after_calls d.pages (plan_calls d x.1))) (left : more ≡ logs)
      (places : w.tables.places ≡ slice_set v.tables.places x.0 o) where
    abbrev now : Disk
    now = record { pages = after_calls d.pages (plan_calls d x.1); logs = d.logs }

    rest_same : AllByRecursion (IsSameSeen v.home.config v.me pages logs d now (node_of v) (node_of w)) xs
    rest_same =
        all_same v.home.config v.me v.home.config.nodes x.0 pages logs d now (node_of v) (node_of w) xs from.2 can.1
        (λ r other. disk_stays v.home.config r pages logs later more d now (stays r other) stored told after (left ∙ told))
        (λ r other. others_there v w x.0 r o places other)

    -- what they come to
    pub rest_comes : (X Y : Type 0) (a : X) (r : Result Y StepFault) (all : List (ℕ × PartitionPlan)) (cs : List DiskCall) (old mid new : OutputsView) (last : NodeState) → all ≡ x ∷ xs
        → Comes (carry_seen (seen_plan d (node_of v) x) (work_of (node_of v) d.pages cs old)) (Ok a) (work_of (node_of w) (after_calls d.pages (plan_calls d x.1)) (cs ++ plan_calls d x.1) mid)
        → Comes (for_each carry_seen (map (seen_plan now (node_of w)) xs) (work_of (node_of w) now.pages (cs ++ plan_calls d x.1) mid)) r (work_of last (after_calls now.pages (all_calls now xs)) ((cs ++ plan_calls d x.1) ++ all_calls now xs) new)
        → Comes (for_each carry_seen (map (seen_plan d (node_of v)) all) (work_of (node_of v) d.pages cs old)) r (work_of last (after_calls d.pages (all_calls d all)) (cs ++ all_calls d all) new)
    rest_comes X Y a r all cs old mid new last items done rest =
        subst (λ (l : List (ℕ × PartitionPlan)). Comes (for_each carry_seen (map (seen_plan d (node_of v)) l) (work_of (node_of v) d.pages cs old)) r (work_of last (after_calls d.pages (all_calls d l)) (cs ++ all_calls d l) new)) (sym items)
        (carried_more d (node_of v) (node_of w) last x.0 x.1 xs cs old mid new X Y a r (seen_same v.home.config v.me pages logs d now (node_of v) (node_of w) xs rest_same)
        (calls_same v.home.config v.me pages logs d now (node_of v) (node_of w) xs rest_same) done rest)

    -- what became of their calls
    pub rest_made : (Y : Type 0) (r : Result Y StepFault) (all : List (ℕ × PartitionPlan)) (old mid new : Told) → all ≡ x ∷ xs → w.me ≡ v.me → IfErr r IsCarryFault
        → LeavesWrites {T = Unit {0}} v.me (Ok (tt {0})) (plan_calls d x.1) old mid → LeavesCalls w.me r (all_calls now xs) mid new → LeavesCalls v.me r (all_calls d all) old new
    rest_made Y r all old mid new items me fault made leaves =
        subst (λ (l : List (ℕ × PartitionPlan)). LeavesCalls v.me r (all_calls d l) old new) (sym items)
        (made_more Y v.me (plan_calls d x.1) (all_calls d xs) r old mid new made (never r fault)
        (subst (λ (k : ℕ). LeavesCalls k r (all_calls d xs) mid new) me (subst (λ (l : List DiskCall). LeavesCalls w.me r l mid new) (calls_same v.home.config v.me pages logs d now (node_of v) (node_of w) xs rest_same) leaves)))
      where
        never : (r : Result Y StepFault) → IfErr r IsCarryFault → r ≡ Err NoMemory → ⊥
        never (Ok y) is e = absurd (cc)
        never (Err NoMemory) is e = is
        never (Err (Halted call kept)) is e = absurd (cc)
        never (Err (Differs a b k)) is e = absurd (cc)

-- the first one failed
pub first_failed : (X Y : Type 0) (d : Disk) (n last : NodeState) (x : ℕ × PartitionPlan) (xs all : List (ℕ × PartitionPlan)) (cs : List DiskCall) (old new : OutputsView) (f : StepFault) (w : Work) → all ≡ x ∷ xs
    → Comes {T = X} (carry_seen (seen_plan d n x) (work_of n d.pages cs old)) (Err f) w
    → Comes {T = Y} (for_each carry_seen (map (seen_plan d n) all) (work_of n d.pages cs old)) (Err f) (work_of last (after_calls d.pages (all_calls d all)) (cs ++ all_calls d all) new)
first_failed X Y d n last x xs all cs old new f w items failed =
    subst (λ (l : List (ℕ × PartitionPlan)). Comes {T = Y} (for_each carry_seen (map (seen_plan d n) l) (work_of n d.pages cs old)) (Err f) (work_of last (after_calls d.pages (all_calls d l)) (cs ++ all_calls d l) new)) (sym items)
    (carried_failed d n n last x.0 x.1 xs cs old old new X Y f w failed)

pub first_broken : (X Y : Type 0) (d : Disk) (me : ℕ) (x : ℕ × PartitionPlan) (xs all : List (ℕ × PartitionPlan)) (f : StepFault) (old new : Told) → all ≡ x ∷ xs → IsCarryFault f
    → LeavesWrites {T = X} me (Err f) (plan_calls d x.1) old new → LeavesCalls {T = Y} me (Err f) (all_calls d all) old new
first_broken X Y d me x xs all f old new items fault leaves =
    subst (λ (l : List (ℕ × PartitionPlan)). LeavesCalls {T = Y} me (Err f) (all_calls d l) old new) (sym items) (made_failed X Y me (plan_calls d x.1) (all_calls d xs) f old new fault leaves)

-- nothing is left
pub none_comes : (X : Type 0) (x : X) (d : Disk) (n : NodeState) (all : List (ℕ × PartitionPlan)) (cs : List DiskCall) (old : OutputsView) → all ≡ []
    → Comes (for_each carry_seen (map (seen_plan d n) all) (work_of n d.pages cs old)) (Ok x) (work_of n (after_calls d.pages (all_calls d all)) (cs ++ all_calls d all) old)
none_comes X x d n all cs old none =
    subst (λ (l : List (ℕ × PartitionPlan)). Comes (for_each carry_seen (map (seen_plan d n) l) (work_of n d.pages cs old)) (Ok x) (work_of n (after_calls d.pages (all_calls d l)) (cs ++ all_calls d l) old)) (sym none)
    (carried_none X x d n cs old)

pub none_left : (all : List (ℕ × PartitionPlan)) → length all ≤ 0 → all ≡ []
none_left [] few = refl
none_left (x ∷ xs) few = absurd (omega (arith, few))
