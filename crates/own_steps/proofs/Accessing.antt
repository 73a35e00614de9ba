-- What an access comes to, from what the home's call tells of it.
use Rattle.std.proofs.Common.{◌≡◌, ℕ, ◌%◌, ◌<◌, ◌==◌, ◌++◌, Bool, true, false, List, [], ◌∷◌, Option, Some, None, is_some, Result, Ok, Err, refl, ap, sym, subst, ◌∙◌}
use Rattle.std.specs.Prelude.{IfErr}
use Rattle.pcl_base.specs.Limits.{Sizes}
use Rattle.pcl_base.specs.declared.lock.Waiter.{Waiter}
use Rattle.pcl_base.specs.declared.message.Body.TheVariants as body
use Rattle.pcl_base.specs.declared.message.Request.{Request}
use Rattle.pcl_base.specs.declared.reply.Reply.{Reply}
use Rattle.pcl_base.specs.declared.reply.Reply.TheVariants as reply
use Rattle.pcl_base.specs.declared.trace.Call.{Call}
use Rattle.pcl_base.specs.declared.tx.TxId.{TxId}
use Rattle.disk_model.specs.Disk.{Pages}
use Rattle.run_rules.specs.Views.{View}
use Rattle.node_rules.specs.Words.{pick}
use Rattle.node_rules.specs.DiskCalls.{DiskCall, WritePage, Force, TrimLog, CutLog}
use Rattle.node_rules.specs.LockRule.{ask}
use Rattle.node_rules.specs.LockTable.{LockTable, entry_at}
use Rattle.node_rules.specs.NodeState.{HomeState, NodeState, number_of, owner_in, page_owner, partition, table_at, table_of}
use Rattle.node_rules.specs.OpenTxs.{pending_of}
use Rattle.node_rules.specs.Work.{Work, Outcome, Goes, Differs, and_so, reply, send, work_of_home}
use Rattle.node_rules.specs.AccessRule.{Access, Accessed, Now, AskOwn, AskOwner, access}
use Rattle.node_rules.specs.OwnerRule.{after_access, carry_all, enter, go_on, waits_first}
use Rattle.authority.specs.Plans.{Plan, plan, settled}
use Rattle.authority.specs.declared.outcome.Outcome.{Outcome as Planned}
use Rattle.home.specs.Device.{Told, Made, told_done, work_on}
use Rattle.node_parts.specs.Comes.{Comes, work_of}
use Rattle.node_parts.specs.Outputs.{OutputsView}
use Rattle.node_parts.specs.State.{PartsView, AreParts, node_of, owns}
use Rattle.node_parts.specs.declared.fault.StepFault.{StepFault}
use Rattle.node_parts.specs.declared.fault.StepFault.TheVariants as step
use Rattle.page_owner.specs.Carry.{IsReadHalt, SameNode}
use Rattle.page_owner.specs.Planned.{HasMade, plan_of, settled_of}
use Rattle.page_owner.specs.Writes.{after_calls}
use Rattle.authority.proofs.Entering.{enter_as_plan}
use Rattle.page_owner.proofs.Planned.{node_kept}
use Rattle.own_steps.specs.Calls.{IsAccessFault, LeavesCalls, access_by, access_calls}
use Rattle.own_steps.proofs.Framed.{access_framed, access_same}
use Rattle.own_steps.proofs.Made.{AreWrites}

-- whether the node owns a page, by its view
pub owned_is : (v : PartsView) (p : ℕ) → AreParts v → is_some v.view ≡ true → p % v.home.config.nodes < v.home.config.nodes
    → (page_owner (node_of v) p == number_of (node_of v)) ≡ is_some (table_of (node_of v) p)
owned_is v p is there within = by v.view refl there ∙ sym (is.node.owned (p % v.home.config.nodes) within)
  where
    by : (o : Option View) → v.view ≡ o → is_some o ≡ true → (page_owner (node_of v) p == v.home.txs.node) ≡ owns v.view v.home.txs.node (p % v.home.config.nodes)
    by None e there = absurd (cc)
    by (Some x) e there = ap (λ o. owner_in o (p % v.home.config.nodes) == v.home.txs.node) e ∙ sym (ap (λ o. owns o v.home.txs.node (p % v.home.config.nodes)) e)

-- the stored pages after page writes that are all made
pub made_pages : (n : ℕ) (calls : List DiskCall) (old new : Told) (ps : List (List ℕ)) → AreWrites calls → Made n calls old None new → old.pages ≡ Some ps → new.pages ≡ Some (after_calls ps calls)
made_pages n [] old new ps writes made told = ap (λ d. d.pages) made ∙ told
made_pages n (WritePage p bytes ∷ calls) old new ps writes made told =
    made_pages n calls (told_done n (WritePage p bytes) old) new _ writes made.1 (ap (λ (o : Pages). (told_done n (WritePage p bytes) (record old { pages = o })).pages) told)
made_pages n (Force t bytes ∷ calls) old new ps writes made told = absurd writes
made_pages n (TrimLog keep ∷ calls) old new ps writes made told = absurd writes
made_pages n (CutLog count ∷ calls) old new ps writes made told = absurd writes

-- a rule that goes on where nothing more can differ
pub so_done : {X Y : Type 0} (o : Outcome Work) (f : Work → Work) (x : X) (y : Y) (mid after : Work) → Comes o (Ok x) mid → f mid ≡ after → Comes (and_so o f) (Ok y) after
so_done (Goes k) f x y mid after done is = ap f done ∙ is
so_done (Differs p m n) f x y mid after done is = absurd done

pub so_failed : (X Y : Type 0) (o : Outcome Work) (f : Work → Work) (e : StepFault) (mid after : Work) → Comes {T = X} o (Err e) mid → Comes {T = Y} (and_so o f) (Err e) after
so_failed X Y (Goes k) f (step.Differs p m n) mid after failed = absurd failed
so_failed X Y (Goes k) f (step.Halted c kept) mid after failed = tt
so_failed X Y (Goes k) f step.NoMemory mid after failed = tt
so_failed X Y (Differs p m n) f (step.Differs q a b) mid after failed = failed
so_failed X Y (Differs p m n) f (step.Halted c kept) mid after failed = tt
so_failed X Y (Differs p m n) f step.NoMemory mid after failed = tt

-- the parts with room for a page's entry, and another home of the node
pub made_kept : (p : ℕ) (v : PartsView) (h : HomeState) → HasMade p v → SameNode v.home h → HasMade p (record v { home = h })
made_kept p v h is same = record {
  node = node_kept (node_of v) h is.node same (node_of v).tables refl (λ q. refl);
  number = is.number ∙ sym same.node;
  config = is.config ∙ sym same.config;
  made = is.made;
  tidy = is.tidy;
}

module _ (owned : Bool) (a : Access) (n : NodeState) (ps : List (List ℕ)) (cs : List DiskCall) (old : OutputsView) where
  abbrev x : Accessed
  x = access a owned (work_on n.home)

  abbrev w : Work
  w = work_of n ps cs old

  abbrev pub homed : HomeState → OutputsView → Work
  homed h out = work_of (record n { home = h }) (after_calls ps x.work.calls) (cs ++ x.work.calls) out

  access_work : access_by owned a w ≡ go_on a.tx a.page x.next (homed x.work.home old)
  access_work = ap (after_access a w) (access_framed a owned (work_of_home w))

  pub access_now : (r : Reply) (h : HomeState) (later : OutputsView) → Now r ≡ x.next → h ≡ x.work.home → later.replies ≡ old.replies ++ r ∷ [] → later.sends ≡ old.sends
      → access_by owned a w ≡ Goes (homed h later)
  access_now r h later next home replies sends =
      access_work ∙ ap (λ k. go_on a.tx a.page k (homed x.work.home old)) (sym next)
      ∙ ap Goes
      (sym (λ i. record { node = record n { home = home i }; pages = after_calls ps x.work.calls; calls = cs ++ x.work.calls; replies = replies i; sends = sends i }))

  pub access_sent : (r : Request) (h : HomeState) (to : ℕ) (later : OutputsView) → AskOwner r ≡ x.next → h ≡ x.work.home → to ≡ page_owner n a.page
      → later.replies ≡ old.replies ++ reply.Waits a.tx a.page ∷ [] → later.sends ≡ old.sends ++ record { to = to; message = record { epoch = n.epoch; body = body.Request r } } ∷ []
      → access_by owned a w ≡ Goes (homed h later)
  access_sent r h to later next home owner replies sends =
      access_work ∙ ap (λ k. go_on a.tx a.page k (homed x.work.home old)) (sym next)
      ∙ ap (λ k. Goes (send k (body.Request r) (reply (reply.Waits a.tx a.page) (homed x.work.home old)))) (ap (λ (c : Sizes). owner_in n.view (partition c a.page)) (access_same a owned n.home).config ∙ sym owner)
      ∙ ap Goes
      (sym (λ i. record { node = record n { home = home i }; pages = after_calls ps x.work.calls; calls = cs ++ x.work.calls; replies = replies i; sends = sends i }))

  -- the access goes into the entry of its page
  module _ (e : Waiter) (h : HomeState) (next : x.next ≡ AskOwn e) (home : h ≡ x.work.home) where
    entered_work : access_by owned a w ≡ and_so (enter (λ k. ask k e) a.page (homed h old)) (waits_first a.tx a.page)
    entered_work =
        access_work ∙ ap (λ k. go_on a.tx a.page k (homed x.work.home old)) next
        ∙ ap (λ (k : HomeState). and_so (enter (λ y. ask y e) a.page (homed k old)) (waits_first a.tx a.page)) (sym home)

    module _ (t : LockTable) (o : Planned) (there : table_of n a.page ≡ Some t) (planned : plan_of o ≡ plan t.serving false n.home.txs.node (ask (entry_at t a.page) e)) where
      same : SameNode n.home h
      same = subst (λ k. SameNode n.home k) (sym home) (access_same a owned n.home)

      as_plan : enter (λ k. ask k e) a.page (homed h old) ≡ carry_all a.page t (settled_of o) (homed h old)
      as_plan =
          enter_as_plan a.page t (homed h old) (ap (λ (c : Sizes). table_at n (partition c a.page)) same.config ∙ there) (λ k. ask k e)
          ∙ ap (λ m. carry_all a.page t (settled t.serving m (ask (entry_at t a.page) e)) (homed h old)) same.node
          ∙ ap (λ (y : Plan). carry_all a.page t (record { decisions = y.decisions; entry = y.entry }) (homed h old)) (sym planned)

      pub entered_done : {X : Type 0} (y : X) (mid after : Work) → Comes (carry_all a.page t (settled_of o) (homed h old)) (Ok y) mid → waits_first a.tx a.page mid ≡ after
          → Comes (access_by owned a w) (Ok (tt {0})) after
      entered_done y mid after done is =
          subst (λ k. Comes k (Ok (tt {0})) after) (sym entered_work)
          (so_done (enter (λ k. ask k e) a.page (homed h old)) (waits_first a.tx a.page) y (tt {0}) mid after (subst (λ k. Comes k (Ok y) mid) (sym as_plan) done) is)

      pub entered_failed : (X : Type 0) (f : StepFault) (mid after : Work) → Comes {T = X} (carry_all a.page t (settled_of o) (homed h old)) (Err f) mid
          → Comes {T = Unit {0}} (access_by owned a w) (Err f) after
      entered_failed X f mid after failed =
          subst (λ k. Comes {T = Unit {0}} k (Err f) after) (sym entered_work)
          (so_failed X (Unit {0}) (enter (λ k. ask k e) a.page (homed h old)) (waits_first a.tx a.page) f mid after (subst (λ k. Comes {T = X} k (Err f) mid) (sym as_plan) failed))

-- the waiting access is told first
pub told_first : (t : TxId) (p : ℕ) (n : NodeState) (ps : List (List ℕ)) (cs : List DiskCall) (old later : OutputsView)
    → later.replies ≡ pick (is_some (pending_of n.home.txs t)) (reply.Waits t p ∷ old.replies) old.replies → later.sends ≡ old.sends
    → waits_first t p (work_of n ps cs old) ≡ work_of n ps cs later
told_first t p n ps cs old later replies sends = by (is_some (pending_of n.home.txs t)) replies
  where
    by : (b : Bool) → later.replies ≡ pick b (reply.Waits t p ∷ old.replies) old.replies
        → pick b (record (work_of n ps cs old) { replies = reply.Waits t p ∷ old.replies }) (work_of n ps cs old) ≡ work_of n ps cs later
    by true is = sym (λ i. record { node = n; pages = ps; calls = cs; replies = is i; sends = sends i })
    by false is = sym (λ i. record { node = n; pages = ps; calls = cs; replies = is i; sends = sends i })

-- what is left where an entry was put in after all calls were made
pub entered_leaves : {X : Type 0} (n : ℕ) (r : Result X StepFault) (calls : List DiskCall) (old mid new : Told) → IfErr r IsReadHalt → Made n calls old None mid → new ≡ mid
    → LeavesCalls n r calls old new
entered_leaves n (Ok x) calls old mid new fault made is = subst (λ d. Made n calls old None d) (sym is) made
entered_leaves n (Err step.NoMemory) calls old mid new fault made is = absurd fault
entered_leaves n (Err (step.Differs p m k)) calls old mid new fault made is = subst (λ d. Made n calls old None d) (sym is) made
entered_leaves {X = X} n (Err (step.Halted c kept)) calls old mid new fault made is =
    subst (λ (z : Call). LeavesCalls {T = X} n (Err (step.Halted z kept)) calls old new) (sym fault.0) (subst (λ d. Made n calls old None d) (sym is) made)

pub read_access : (f : StepFault) → IsReadHalt f → IsAccessFault f
read_access step.NoMemory fault = tt
read_access (step.Differs p m k) fault = fault
read_access (step.Halted c kept) fault = subst (λ (z : Call). IsAccessFault (step.Halted z kept)) (sym fault.0) fault.1

-- what is put behind a list that was the same
pub put_behind : {X : Type 0} (old mid new : List X) (x : X) → new ≡ mid ++ x ∷ [] → mid ≡ old → new ≡ old ++ x ∷ []
put_behind old mid new x put same = put ∙ ap (λ l. l ++ x ∷ []) same

pub false_true : false ≡ true → ⊥
false_true e = absurd (cc)

-- an access of the parts as they are seen, and as they are given
module _ (u v : PartsView) (is : u ≡ v) (owned : Bool) (a : Access) (ps : List (List ℕ)) (cs : List DiskCall) (old later : OutputsView) (h : HomeState) where
  abbrev pub left_work : List DiskCall → Work
  left_work calls = work_of (record (node_of u) { home = h }) (after_calls ps calls) (cs ++ calls) later

  pub comes_seen : {X : Type 0} (r : Result X StepFault) → Comes (access_by owned a (work_of (node_of u) ps cs old)) r (left_work (access_calls owned a u.home))
      → Comes (access_by owned a (work_of (node_of v) ps cs old)) r (left_work (access_calls owned a v.home))
  comes_seen r done = subst (λ (z : PartsView). Comes (access_by owned a (work_of (node_of z) ps cs old)) r (left_work (access_calls owned a z.home))) is done

-- an answer by another name
pub comes_as : {X : Type 0} (r s : Result X StepFault) (o : Outcome Work) (after : Work) → r ≡ s → Comes o s after → Comes o r after
comes_as r s o after is done = subst (λ z. Comes o z after) (sym is) done

pub goes : {X : Type 0} (o : Outcome Work) (w : Work) (x : X) → o ≡ Goes w → Comes o (Ok x) w
goes o w x is = subst (λ z. Comes z (Ok x) w) (sym is) refl

pub leaves_as : {X : Type 0} (r s : Result X StepFault) (n : ℕ) (calls : List DiskCall) (old new : Told) → r ≡ s → LeavesCalls n s calls old new → LeavesCalls n r calls old new
leaves_as r s n calls old new is left = subst (λ z. LeavesCalls n z calls old new) (sym is) left
