-- What a message that is taken comes to, from the plan of its page.
use Rattle.std.proofs.Common.{◌≡◌, ℕ, ◌++◌, Bool, List, [], ◌∷◌, Option, Some, None, IsSome, Result, Ok, Err, refl, ap, sym, subst, ◌∙◌}
use Rattle.std.specs.Option.{option_map}
use Rattle.std.specs.Result.{OnOk, IfErr}
use Rattle.pcl_base.specs.declared.reply.Reply.{Reply}
use Rattle.node_rules.specs.DiskCalls.{DiskCall}
use Rattle.node_rules.specs.LockRule.{LockEntry}
use Rattle.node_rules.specs.LockTable.{LockTable, entry_at}
use Rattle.node_rules.specs.NodeState.{NodeState, table_of, number_of}
use Rattle.node_rules.specs.Work.{Work, Outcome as Rule, Goes, Differs, reply}
use Rattle.node_rules.specs.OwnerRule.{carry_all, enter_in, enter}
use Rattle.authority.specs.Plans.{Plan, plan, settled}
use Rattle.authority.specs.declared.outcome.Outcome.{Outcome}
use Rattle.lock_table.specs.Tables.{TableView, table_of as seen}
use Rattle.node_parts.specs.declared.fault.StepFault.{StepFault}
use Rattle.node_parts.specs.declared.fault.StepFault.TheVariants.{NoMemory}
use Rattle.node_parts.specs.Comes.{Comes, work_of}
use Rattle.node_parts.specs.Outputs.{OutputsView}
use Rattle.page_owner.specs.Planned.{IsPlanFor, plan_of, settled_of}
use Rattle.node_parts.specs.State.{PartsView, node_of}
use Rattle.node_parts.specs.Tables.{table_for}
use Rattle.authority.proofs.Entering.{enter_as_plan}
use Rattle.page_owner.proofs.Planned.{table_of_page}

-- want of memory tells nothing of the rule
pub wants_memory : {X : Type 0} (o : Rule Work) (r : Result X StepFault) (w : Work) → r ≡ Err NoMemory → Comes o r w
wants_memory {X = X} o r w is = subst (λ z. Comes {T = X} o z w) (sym is) (by o)
  where
    by : (o : Rule Work) → Comes {T = X} o (Err NoMemory) w
    by (Goes k) = tt
    by (Differs p m n) = tt

-- a reply and nothing more is a further reply of the work
pub replied : (r : Reply) (n later : NodeState) (ps : List (List ℕ)) (cs : List DiskCall) (old new : OutputsView) → later ≡ n → new.replies ≡ old.replies ++ r ∷ [] → new.sends ≡ old.sends
    → reply r (work_of n ps cs old) ≡ work_of later ps cs new
replied r n later ps cs old new same replies sends =
    sym (λ i. record { node = same i; pages = ps; calls = cs; replies = replies i; sends = sends i })

-- a message that does nothing more than its rule, which does nothing
pub none_comes : (n : NodeState) (ps : List (List ℕ)) (cs : List DiskCall) (old new : OutputsView) (r : Reply) (o : Rule Work) (a : Result (Unit {0}) StepFault) → o ≡ Goes (reply r (work_of n ps cs old))
    → OnOk a (new.replies ≡ old.replies ++ r ∷ []) → new.sends ≡ old.sends → IfErr a (λ e. e ≡ NoMemory) → Comes o a (work_of n ps cs new)
none_comes n ps cs old new r o (Ok x) is replies sends fault =
    subst (λ z. Comes {T = Unit {0}} z (Ok x) (work_of n ps cs new)) (sym is) (replied r n n ps cs old new refl replies sends)
none_comes n ps cs old new r o (Err e) is replies sends fault = wants_memory {X = Unit {0}} o (Err e) (work_of n ps cs new) (λ i. Err (fault i))

module _ (v : PartsView) (p : ℕ) where
  -- without a table nothing is entered
  pub enter_none : (f : LockEntry → LockEntry) (plan : LockTable → Plan) (k : Option Outcome) (w : Work) → w.node ≡ node_of v → k ≡ None → IsPlanFor (table_of (node_of v) p) plan k → enter f p w ≡ Goes w
  unfolding enter
  enter_none f plan k w at is none = ap (λ o. enter_in f p o w) (ap (λ n. table_of n p) at ∙ by (table_of (node_of v) p) (subst (λ k. IsPlanFor (table_of (node_of v) p) plan k) is none))
    where
      by : (o : Option LockTable) → IsPlanFor o plan None → o ≡ None
      by None none = refl
      by (Some t) none = absurd none

  -- a plan is one for a table
  pub plan_owned : (plan : LockTable → Plan) (o : Outcome) → v.tables.config ≡ v.home.config → IsPlanFor (table_of (node_of v) p) plan (Some o) → IsSome (table_for v.tables p)
  plan_owned plan o same is = by (table_for v.tables p) (subst (λ t. IsPlanFor t plan (Some o)) (table_of_page v p same) is)
    where
      by : (t : Option TableView) → IsPlanFor (option_map seen t) plan (Some o) → IsSome t
      by None is = absurd is
      by (Some t) is = refl

  module _ (f : LockEntry → LockEntry) (changed : LockTable → Bool) (o : Outcome) (number : v.me ≡ number_of (node_of v))
      (is : IsPlanFor (table_of (node_of v) p) (λ t. plan t.serving (changed t) v.me (f (entry_at t p))) (Some o)) where
    -- what was planned is what the rule enters
    pub enter_plan : (w : Work) (t : LockTable) → w.node ≡ node_of v → table_of (node_of v) p ≡ Some t → enter f p w ≡ carry_all p t (settled_of o) w
    enter_plan w t at there =
        enter_as_plan p t w (ap (λ n. table_of n p) at ∙ there) f
        ∙ ap (λ k. carry_all p t (settled t.serving k (f (entry_at t p))) w) (ap number_of at ∙ sym number)
        ∙ ap (λ (x : Plan). carry_all p t (record { decisions = x.decisions; entry = x.entry }) w) (sym planned)
      where
        planned : plan_of o ≡ plan t.serving (changed t) v.me (f (entry_at t p))
        planned = subst (λ k. IsPlanFor k (λ t. plan t.serving (changed t) v.me (f (entry_at t p))) (Some o)) there is

    planned_comes : {X : Type 0} (r : Result X StepFault) (w after : Work) → w.node ≡ node_of v
        → ((t : LockTable) → table_of (node_of v) p ≡ Some t → Comes (carry_all p t (settled_of o) w) r after) → Comes (enter f p w) r after
    planned_comes r w after at comes = by (table_of (node_of v) p) refl
      where
        by : (k : Option LockTable) → table_of (node_of v) p ≡ k → Comes (enter f p w) r after
        by None none = absurd (subst (λ k. IsPlanFor k (λ t. plan t.serving (changed t) v.me (f (entry_at t p))) (Some o)) none is)
        by (Some t) there = subst (λ k. Comes k r after) (sym (enter_plan w t at there)) (comes t there)

  pub enter_comes : {X : Type 0} (f : LockEntry → LockEntry) (changed : LockTable → Bool) (o : Outcome) (k : Option Outcome) (number : v.me ≡ number_of (node_of v)) → k ≡ Some o
      → IsPlanFor (table_of (node_of v) p) (λ t. plan t.serving (changed t) v.me (f (entry_at t p))) k → (r : Result X StepFault) (w after : Work) → w.node ≡ node_of v
      → ((t : LockTable) → table_of (node_of v) p ≡ Some t → Comes (carry_all p t (settled_of o) w) r after) → Comes (enter f p w) r after
  enter_comes f changed o k number some is r w after at comes =
      planned_comes f changed o number (subst (λ k. IsPlanFor (table_of (node_of v) p) (λ t. plan t.serving (changed t) v.me (f (entry_at t p))) k) some is) r w after at comes
