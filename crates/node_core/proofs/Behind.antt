-- A step that is refused, and one whose replies and sends are put behind others.
use Rattle.std.proofs.Common.{◌≡◌, ◌≤◌, ◌<◌, ◌^◌, ◌-◌, ◌++◌, refl, ap, sym, subst, ◌∙◌, ℕ, List, [], ◌∷◌, Option, Some, None, option_map, Result, Ok, Err, inl, inr, length, arith, append-nil}
use Rattle.std.specs.Prelude.{IfErr, OnOk, OnErr, min}
use Rattle.pcl_base.specs.declared.reply.Reason.{Reason}
use Rattle.pcl_base.specs.declared.reply.Reply.TheVariants as reply
use Rattle.run_rules.specs.Disk.{Disk}
use Rattle.disk_model.specs.Disk.{HasSizes}
use Rattle.disk_model.specs.declared.stop.Stop.{Stop}
use Rattle.node_rules.specs.DiskCalls.{Left}
use Rattle.pcl_base.specs.declared.reply.Reply.{Reply}
use Rattle.node_rules.specs.NodeState.{NodeState, NodeEvent, Outgoing, number_of}
use Rattle.node_rules.specs.NodeStep.{Plan, begin_work, nodestep, plan_of}
use Rattle.node_rules.specs.Refusals.{refusal}
use Rattle.node_rules.specs.Work.{Outcome, Goes, Differs as differs, reply}
use Rattle.cluster_rules.specs.ClusterStep.{left_of}
use Rattle.home.specs.CallLaws.{rule_stop}
use Rattle.node_parts.specs.Outputs.{OutputsView}
use Rattle.node_parts.specs.declared.fault.StepFault.{StepFault}
use Rattle.node_parts.specs.declared.fault.StepFault.TheVariants.{NoMemory, Halted, Differs}
use Rattle.page_owner.specs.Carry.{HasSame}
use Rattle.step_ends.specs.Ran.{Ran, RanPlan, Stand, armed_at}
use Rattle.step_ends.proofs.Ends.{made_is_ran}
use Rattle.step_laws.specs.Most.{most}
use Rattle.step_laws.proofs.Steps.{replies_at_most_law, sends_at_most_law}
use Rattle.node_core.specs.Came.{Came}
use Rattle.node_core.specs.Steps.{IsMore, IsStep, Seen, stand}
use Rattle.node_core.proofs.Running.{others_same, refused_plan, told_is}
use Rattle.node_core.proofs.Stepping.{step_wants}

-- a refused event is answered, and changes nothing
pub refused_step : (n : NodeState) (event : NodeEvent) (out after : OutputsView) (old : Seen) (why : Reason) → refusal n event ≡ Some why → HasSizes n.home.config old.told.pages old.told.logs old.rooms
    → after.replies ≡ out.replies ++ reply.Refused why ∷ [] → after.sends ≡ out.sends → IsStep n event out old (Ok tt) n after old
refused_step n event out after old why some sizes replies sends = record {
  came = λ d pages logs.
      subst (λ o. Came (number_of n) d o (let y : Result (Unit {0}) StepFault = Ok tt in y) (stand n out old.told) (stand n after old.told)) (sym (refused_plan n event d why some))
      (record { node = refl; replies = replies; sends = sends ∙ none out.sends; made = refl });
  ran = λ d stops l pages logs armed calm.
      subst (λ o. Ran (number_of n) d stops o (let y : Result (Unit {0}) StepFault = Ok tt in y) (stand n out old.told) (stand n after old.told)) (sym (refused_plan n event d why some))
      (made_is_ran (number_of n) d stops (plan_of (reply (reply.Refused why) (begin_work n d))) (stand n out old.told) (stand n after old.told) refl replies (sends ∙ none out.sends)
      (told_is old.told d stops pages logs armed));
  memory = λ e. absurd (cc);
  config = refl;
  number = refl;
  fault = tt;
  sizes = sizes;
  others = λ d pages logs. others_same (number_of n) old.told old.told refl;
  calm = λ l is. is;
  quiet = λ l is. (λ e. absurd (cc), λ e. absurd (cc));
  counts = λ k. omega arith;
  cause = λ k e. absurd (cc);
}
  where
    none : {X : Type 0} (xs : List X) → xs ≡ xs ++ []
    none xs = sym (append-nil xs)

-- a refusal that may want memory
pub refused_any : (n : NodeState) (event : NodeEvent) (out after : OutputsView) (old : Seen) (why : Reason) (r : Result (Unit {0}) StepFault) → refusal n event ≡ Some why
    → HasSizes n.home.config old.told.pages old.told.logs old.rooms → OnOk r (after.replies ≡ out.replies ++ reply.Refused why ∷ []) → after.sends ≡ out.sends → OnErr r (HasSame out after)
    → IfErr r (λ e. e ≡ NoMemory) → IsStep n event out old r n after old
refused_any n event out after old why (Ok x) some sizes replies sends same fault = refused_step n event out after old why some sizes replies sends
refused_any n event out after old why (Err e) some sizes replies sends same fault =
    subst (λ (z : StepFault). IsStep n event out old (let y : Result (Unit {0}) StepFault = Err z in y) n after old) (sym fault) (step_wants n event out old sizes after same)

-- the replies and sends of a step that began with none are put behind those before
module _ (n later : NodeState) (event : NodeEvent) (out own before after : OutputsView) (old new : Seen) (r : Result (Unit {0}) StepFault) (replies : before.replies ≡ []) (sends : before.sends ≡ [])
    (ok : OnOk r ((after.replies ≡ out.replies ++ own.replies) × (after.sends ≡ out.sends ++ own.sends))) (err : OnErr r (HasSame out after)) where
  plan_behind : (me : ℕ) (d : Disk) (stops : List (Option Stop)) (p : Plan) (l : Option Left) (r : Result (Unit {0}) StepFault) → OnOk r ((after.replies ≡ out.replies ++ own.replies) × (after.sends ≡ out.sends ++ own.sends))
      → RanPlan me d stops p l r (stand n before old.told) (stand later own new.told) → RanPlan me d stops p l r (stand n out old.told) (stand later after new.told)
  plan_behind me d stops p None (Ok x) ok made = record {
    node = made.node;
    replies = ok.0 ∙ ap (λ l. out.replies ++ l) (made.replies ∙ ap (λ l. l ++ p.replies) replies);
    sends = ok.1 ∙ ap (λ l. out.sends ++ l) (made.sends ∙ ap (λ l. l ++ p.sends) sends);
    told = made.told;
  }
  plan_behind me d stops p (Some l) (Ok x) ok made = absurd made
  plan_behind me d stops p None (Err (Halted call kept)) ok made = absurd made
  plan_behind me d stops p (Some l) (Err (Halted call kept)) ok made = record { same_call = made.same_call; same_kept = made.same_kept; told = made.told }
  plan_behind me d stops p None (Err (Differs page expected found)) ok made = absurd made
  plan_behind me d stops p (Some l) (Err (Differs page expected found)) ok made = absurd made
  plan_behind me d stops p None (Err NoMemory) ok made = tt
  plan_behind me d stops p (Some l) (Err NoMemory) ok made = tt

  not_behind : (me : ℕ) (d : Disk) (stops : List (Option Stop)) (p e f : ℕ) (r : Result (Unit {0}) StepFault) → Ran me d stops (differs p e f) r (stand n before old.told) (stand later own new.told)
      → Ran me d stops (differs p e f) r (stand n out old.told) (stand later after new.told)
  not_behind me d stops p e f (Ok x) ran = ran
  not_behind me d stops p e f (Err (Halted call kept)) ran = ran
  not_behind me d stops p e f (Err (Differs page expected found)) ran = ran
  not_behind me d stops p e f (Err NoMemory) ran = ran

  ran_behind : (me : ℕ) (d : Disk) (stops : List (Option Stop)) (o : Outcome Plan) → Ran me d stops o r (stand n before old.told) (stand later own new.told) → Ran me d stops o r (stand n out old.told) (stand later after new.told)
  ran_behind me d stops (Goes p) ran = plan_behind me d stops p (left_of me d p.calls (option_map rule_stop (armed_at stops me))) r ok ran
  ran_behind me d stops (differs p e f) ran = not_behind me d stops p e f r ran

  came_behind : (me : ℕ) (d : Disk) (o : Outcome Plan) (r : Result (Unit {0}) StepFault) → OnOk r ((after.replies ≡ out.replies ++ own.replies) × (after.sends ≡ out.sends ++ own.sends))
      → Came me d o r (stand n before old.told) (stand later own new.told) → Came me d o r (stand n out old.told) (stand later after new.told)
  came_behind me d (Goes p) (Ok x) ok done = record {
    node = done.node;
    replies = ok.0 ∙ ap (λ l. out.replies ++ l) (done.replies ∙ ap (λ l. l ++ p.replies) replies);
    sends = ok.1 ∙ ap (λ l. out.sends ++ l) (done.sends ∙ ap (λ l. l ++ p.sends) sends);
    made = done.made;
  }
  came_behind me d (Goes p) (Err (Halted k kept)) ok came = came
  came_behind me d (Goes p) (Err (Differs page expected found)) ok came = absurd came
  came_behind me d (Goes p) (Err NoMemory) ok came = tt
  came_behind me d (differs p e f) (Ok x) ok came = absurd came
  came_behind me d (differs p e f) (Err (Halted k kept)) ok came = came
  came_behind me d (differs p e f) (Err (Differs page expected found)) ok came = came
  came_behind me d (differs p e f) (Err NoMemory) ok came = tt

  on_err : r ≡ Err NoMemory → HasSame out after
  on_err is = wanting r is err
    where
      wanting : (r : Result (Unit {0}) StepFault) → r ≡ Err NoMemory → OnErr r (HasSame out after) → HasSame out after
      wanting (Ok x) is err = absurd (cc)
      wanting (Err e) is err = err

  pub step_behind : IsStep n event before old r later own new → IsStep n event out old r later after new
  step_behind step = record {
    came = λ d pages logs. came_behind (number_of n) d (nodestep n event d) r ok (step.came d pages logs);
    ran = λ d stops l pages logs armed calm. ran_behind (number_of n) d stops (nodestep n event d) (step.ran d stops l pages logs armed calm);
    memory = λ is. ((step.memory is).0, on_err is, (step.memory is).2);
    config = step.config;
    number = step.number;
    fault = step.fault;
    sizes = step.sizes;
    others = step.others;
    calm = step.calm;
    quiet = step.quiet;
    counts = step.counts;
    cause = step.cause;
  }

-- a step that is done gives no more than its bound
module _ (n later : NodeState) (event : NodeEvent) (own before : OutputsView) (old new : Seen) (replies : before.replies ≡ []) (sends : before.sends ≡ []) (step : IsStep n event before old (Ok tt) later own new) where
  within : (d : Disk) (o : Outcome Plan) → nodestep n event d ≡ o → Came {T = Unit {0}} (number_of n) d o (Ok tt) (stand n before old.told) (stand later own new.told)
      → (length own.replies ≤ most n event) × (length own.sends ≤ most n event)
  within d (Goes p) plan done = (
    subst (λ (l : List Reply). length l ≤ most n event) (sym (done.replies ∙ ap (λ (l : List Reply). l ++ p.replies) replies)) (replies_at_most_law n event d p plan),
    subst (λ (l : List Outgoing). length l ≤ most n event) (sym (done.sends ∙ ap (λ (l : List Outgoing). l ++ p.sends) sends)) (sends_at_most_law n event d p plan),
  )
  within d (differs p e f) plan done = absurd done

  -- so no step gives more, where its storage tells its pages and logs
  never_more : (bound : ℕ) → bound ≡ min (most n event) (2 ^ 64 - 1) → IsMore bound own → (d : Disk) → old.told.pages ≡ Some d.pages → old.told.logs ≡ Some d.logs → ⊥
  never_more bound is more d pages logs =
      let few = within d (nodestep n event d) refl (step.came d pages logs) in
      by more few.0 few.1
    where
      past : (count : ℕ) → bound < count → count < 2 ^ 64 → count ≤ most n event → ⊥
      past count over short least = omega (arith, is, over, short, least)

      by : IsMore bound own → length own.replies ≤ most n event → length own.sends ≤ most n event → ⊥
      by (inl more) a b = past (length own.replies) more.0 more.1 a
      by (inr more) a b = past (length own.sends) more.0 more.1 b

  pub step_more : (bound : ℕ) → bound ≡ min (most n event) (2 ^ 64 - 1) → IsMore bound own → (out after : OutputsView) → IsStep n event out old (Err (Differs 0 0 1)) later after new
  step_more bound is more out after = record {
    came = λ d pages logs. absurd (never_more bound is more d pages logs);
    ran = λ d stops l pages logs armed calm. absurd (never_more bound is more d pages logs);
    memory = λ e. absurd (cc);
    config = step.config;
    number = step.number;
    fault = λ e. absurd (cc);
    sizes = step.sizes;
    others = step.others;
    calm = step.calm;
    quiet = λ l is. (λ e. absurd (cc), λ e. absurd (cc));
    counts = step.counts;
    cause = λ k e. absurd (cc);
  }

  -- a step that is put behind other outputs
  pub step_put : (bound : ℕ) → bound ≡ min (most n event) (2 ^ 64 - 1) → (out after : OutputsView) (r : Result (Unit {0}) StepFault)
      → OnOk r ((after.replies ≡ out.replies ++ own.replies) × (after.sends ≡ out.sends ++ own.sends)) → IfErr r (λ e. e ≡ Differs 0 0 1) → OnErr r (IsMore bound own) → IsStep n event out old r later after new
  step_put bound is out after (Ok x) ok fault more = step_behind n later event out own before after old new (Ok tt) replies sends ok tt step
  step_put bound is out after (Err e) ok fault more =
      subst (λ (z : StepFault). IsStep n event out old (let y : Result (Unit {0}) StepFault = Err z in y) later after new) (sym fault) (step_more bound is more out after)

-- outputs with the same replies and sends
pub step_from : (n later : NodeState) (event : NodeEvent) (out same after : OutputsView) (old new : Seen) (r : Result (Unit {0}) StepFault) → HasSame out same → IsStep n event same old r later after new
    → IsStep n event out old r later after new
step_from n later event out same after old new r is step = record {
  came = λ d pages logs. subst (λ (z : Stand). Came (number_of n) d (nodestep n event d) r z (stand later after new.told)) stands (step.came d pages logs);
  ran = λ d stops l pages logs armed calm. subst (λ (z : Stand). Ran (number_of n) d stops (nodestep n event d) r z (stand later after new.told)) stands (step.ran d stops l pages logs armed calm);
  memory = λ wants.
      let all = step.memory wants in
      (all.0, record { replies = all.1.replies ∙ is.replies; sends = all.1.sends ∙ is.sends }, all.2);
  config = step.config;
  number = step.number;
  fault = step.fault;
  sizes = step.sizes;
  others = step.others;
  calm = step.calm;
  quiet = step.quiet;
  counts = step.counts;
  cause = step.cause;
}
  where
    stands : stand n same old.told ≡ stand n out old.told
    stands = λ i. record { node = n; replies = is.replies i; sends = is.sends i; told = old.told }
