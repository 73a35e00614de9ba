-- An access of an own page that isn't held: it goes into the page's entry, as was planned.
use Rattle.std.proofs.Common.{◌≡◌, ◌≢◌, ℕ, ◌++◌, Bool, true, false, List, Option, Some, None, is_some, ◌==◌, Result, Ok, Err, arith, refl, ap, sym, subst, ◌∙◌}
use Rattle.std.proofs.Math.Nat.{mod-lt}
use Rattle.pcl_base.specs.declared.lock.Waiter.{Waiter}
use Rattle.pcl_base.specs.declared.trace.Call.TheVariants as call
use Rattle.node_rules.specs.BufferRule.{find}
use Rattle.node_rules.specs.DiskCalls.{DiskCall}
use Rattle.node_rules.specs.LockTable.{LockTable}
use Rattle.node_rules.specs.NodeState.{HomeState, NodeState, number_of, page_owner, table_of}
use Rattle.node_rules.specs.Work.{Work}
use Rattle.node_rules.specs.AccessRule.{Access, AskOwn, access, is_held, mode_of_write}
use Rattle.node_rules.specs.OwnerRule.{carry_all, do_access, waits_first}
use Rattle.authority.specs.declared.outcome.Outcome.{Outcome as Planned}
use Rattle.home.specs.Device.{work_on}
use Rattle.home_laws.specs.Homes.{IsHome}
use Rattle.home_laws.specs.Refused.{access_refusal}
use Rattle.home_laws.proofs.Allowed.{allowed}
use Rattle.node_parts.specs.Comes.{Comes, work_of}
use Rattle.node_parts.specs.Outputs.{OutputsView}
use Rattle.node_parts.specs.State.{PartsView, AreParts, node_of}
use Rattle.node_parts.specs.declared.fault.StepFault.{StepFault}
use Rattle.node_parts.specs.declared.fault.StepFault.TheVariants as step
use Rattle.page_owner.specs.Carry.{SameNode, halted_by}
use Rattle.page_owner.specs.Planned.{IsPlanFor, plan_of, settled_of}
use Rattle.page_owner.specs.Writes.{after_calls}
use Rattle.own_steps.specs.Calls.{IsAccessFault, IsWriteFault, access_by, access_calls, own_calls, planned_request}
use Rattle.own_steps.proofs.Accessing.{entered_done, entered_failed, owned_is}
use Rattle.own_steps.proofs.Asked.{IsOwnNext, asked_own}
use Rattle.own_steps.proofs.Framed.{access_same}

-- a write that failed is a fault of an access, and isn't a read
pub write_access : (f : StepFault) → IsWriteFault f → IsAccessFault f
write_access step.NoMemory is = tt
write_access (step.Differs p m k) is = absurd is
write_access (step.Halted call.Write kept) is = is
write_access (step.Halted call.Read kept) is = absurd is
write_access (step.Halted call.Force kept) is = absurd is
write_access (step.Halted call.Log kept) is = absurd is
write_access (step.Halted call.Trim kept) is = absurd is
write_access (step.Halted call.Cut kept) is = absurd is

pub write_quiet : (X : Type 0) (f : StepFault) → IsWriteFault f → halted_by {X = X} (Err f) ≢ Some call.Read
write_quiet X step.NoMemory is same = absurd (cc)
write_quiet X (step.Differs p m k) is same = absurd (cc)
write_quiet X (step.Halted call.Write kept) is same = absurd (cc)
write_quiet X (step.Halted call.Read kept) is same = is
write_quiet X (step.Halted call.Force kept) is same = is
write_quiet X (step.Halted call.Log kept) is same = is
write_quiet X (step.Halted call.Trim kept) is same = is
write_quiet X (step.Halted call.Cut kept) is same = is

-- what isn't held is asked for
module _ (a : Access) (h : HomeState) (home : IsHome h) (free : is_held a h ≡ false) (none : access_refusal a h ≡ None) where
  abbrev pub asker : Waiter
  asker = record { tx = a.tx; mode = mode_of_write a.write; have = find h.pool a.page }

  pub next_own : (access a true (work_on h)).next ≡ AskOwn asker
  next_own = asked_own a h home (allowed a h none) free

  pub is_own : IsOwnNext (access a true (work_on h)).next ≡ true
  is_own = ap IsOwnNext next_own

-- the parts for which memory was taken are those of the node
module _ (v : PartsView) (n : NodeState) (node : node_of v ≡ n) (a : Access) (o : Planned) (k : HomeState) (ps : List (List ℕ)) (cs : List DiskCall) (old mid : OutputsView)
    (replies : mid.replies ≡ old.replies) (sends : mid.sends ≡ old.sends) (made : k ≡ (access a true (work_on n.home)).work.home)
    (home : IsHome n.home) (free : is_held a n.home ≡ false) (none : access_refusal a n.home ≡ None)
    (own : is_some (table_of n a.page) ≡ true) (plan : IsPlanFor (table_of n a.page) (planned_request a n.home.txs.node n.home) (Some o)) where
  abbrev calls : List DiskCall
  calls = access_calls true a n.home

  abbrev asked_work : Work
  asked_work = work_of (record (node_of v) { home = k }) (after_calls ps calls) (cs ++ calls) mid

  abbrev homed_work : Work
  homed_work = work_of (record n { home = k }) (after_calls ps calls) (cs ++ calls) old

  same_work : asked_work ≡ homed_work
  same_work = λ i. record { node = record (node i) { home = k }; pages = after_calls ps calls; calls = cs ++ calls; replies = replies i; sends = sends i }

  same : SameNode n.home k
  same = subst (λ z. SameNode n.home z) (sym made) (access_same a true n.home)

  abbrev Entered : {X : Type 0} → Result X StepFault → Work → Type 0
  Entered r after = (t : LockTable) → table_of (record (node_of v) { home = k }) a.page ≡ Some t → Comes (carry_all a.page t (settled_of o) asked_work) r after

  there_too : (t : LockTable) → table_of n a.page ≡ Some t → table_of (record (node_of v) { home = k }) a.page ≡ Some t
  there_too t there =
      ap (λ (z : NodeState). table_of (record z { home = k }) a.page) node
      ∙ ap (λ c. table_of (record n { home = record (n.home) { config = c } }) a.page) same.config ∙ there

  module _ (t : LockTable) (there : table_of n a.page ≡ Some t) where
    planned : plan_of o ≡ planned_request a n.home.txs.node n.home t
    planned = subst (λ x. IsPlanFor x (planned_request a n.home.txs.node n.home) (Some o)) there plan

    done_at : {X : Type 0} (y : X) (last after : Work) → Entered (Ok y) last → waits_first a.tx a.page last ≡ after → Comes (access_by true a (work_of n ps cs old)) (Ok (tt {0})) after
    done_at y last after entered is =
        entered_done true a n ps cs old (asker a n.home home free none) k (next_own a n.home home free none) made t o there planned y last after
        (subst (λ w. Comes (carry_all a.page t (settled_of o) w) (Ok y) last) same_work (entered t (there_too t there))) is

    failed_at : (X : Type 0) (f : StepFault) (last after : Work) → Entered {X = X} (Err f) last → Comes {T = Unit {0}} (access_by true a (work_of n ps cs old)) (Err f) after
    failed_at X f last after entered =
        entered_failed true a n ps cs old (asker a n.home home free none) k (next_own a n.home home free none) made t o there planned X f last after
        (subst (λ w. Comes {T = X} (carry_all a.page t (settled_of o) w) (Err f) last) same_work (entered t (there_too t there)))

  by_table : (Z : Type 0) → ((t : LockTable) → table_of n a.page ≡ Some t → Z) → Z
  by_table Z f = of (table_of n a.page) refl own
    where
      of : (x : Option LockTable) → table_of n a.page ≡ x → is_some x ≡ true → Z
      of None e there = absurd (cc)
      of (Some t) e there = f t e

  pub planned_done : {X : Type 0} (y : X) (last after : Work) → Entered (Ok y) last → waits_first a.tx a.page last ≡ after → Comes (access_by true a (work_of n ps cs old)) (Ok (tt {0})) after
  planned_done y last after entered is =
      by_table (Comes (access_by true a (work_of n ps cs old)) (Ok (tt {0})) after) (λ t there. done_at t there y last after entered is)

  pub planned_failed : (X : Type 0) (f : StepFault) (last after : Work) → Entered {X = X} (Err f) last → Comes {T = Unit {0}} (access_by true a (work_of n ps cs old)) (Err f) after
  planned_failed X f last after entered =
      by_table (Comes {T = Unit {0}} (access_by true a (work_of n ps cs old)) (Err f) after) (λ t there. failed_at t there X f last after entered)

-- an access is one by a node that owns the page or doesn't
pub access_owned : {X : Type 0} (b : Bool) (a : Access) (n later : NodeState) (ps : List (List ℕ)) (cs : List DiskCall) (old out : OutputsView) (r : Result X StepFault) → (page_owner n a.page == number_of n) ≡ b
    → Comes (access_by b a (work_of n ps cs old)) r (work_of later (after_calls ps (access_calls b a n.home)) (cs ++ access_calls b a n.home) out)
    → Comes (do_access a (work_of n ps cs old)) r (work_of later (after_calls ps (own_calls a n)) (cs ++ own_calls a n) out)
unfolding do_access
access_owned b a n later ps cs old out r is done =
    subst (λ o. Comes (access_by o a (work_of n ps cs old)) r (work_of later (after_calls ps (access_calls o a n.home)) (cs ++ access_calls o a n.home) out)) (sym is) done

pub owned_by : (v : PartsView) (p : ℕ) (b : Bool) → AreParts v → is_some v.view ≡ true → b ≡ is_some (table_of (node_of v) p) → (page_owner (node_of v) p == number_of (node_of v)) ≡ b
owned_by v p b is there owns =
    let number = is.node.number in
    owned_is v p is there (mod-lt p (omega (arith, number))) ∙ sym owns
