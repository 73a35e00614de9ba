-- What a release comes to, whose change is taken or not.
use Rattle.std.specs.Prelude.{⊤}
use Rattle.std.proofs.Common.{◌≡◌, ℕ, ◌++◌, ◌==◌, nat_lt, inl, inr, Bool, true, false, List, [], ◌∷◌, Option, Some, None, Result, Ok, Err, refl, ap, sym, subst, ◌∙◌, append-nil}
use Rattle.pcl_base.specs.declared.message.Change.{Change}
use Rattle.pcl_base.specs.declared.message.Release.{Release}
use Rattle.pcl_base.specs.declared.reply.Reply.TheVariants.{Taken as taken}
use Rattle.pcl_base.specs.declared.trace.Call.{Call}
use Rattle.pcl_base.specs.declared.trace.Call.TheVariants as call
use Rattle.disk_model.specs.Disk.{with_page}
use Rattle.node_rules.specs.Words.{pick}
use Rattle.node_rules.specs.DiskCalls.{DiskCall, WritePage, Force, TrimLog, CutLog, word_of}
use Rattle.node_rules.specs.LockRule.{LockEntry, Settled, takes_change, end_tx}
use Rattle.node_rules.specs.LockTable.{LockTable, entry_at}
use Rattle.node_rules.specs.BufferRule.{Slot, Copy, copy_at, has_slot, free_frames, victim, place, clean}
use Rattle.node_rules.specs.NodeState.{HomeState, NodeState, number_of, table_of}
use Rattle.node_rules.specs.Work.{HomeWork, Work, Goes, with_pool, work_of_home, with_home_work, write_page, write_copy, write_back, reply}
use Rattle.node_rules.specs.AccessRule.{on_pool, let_go, make_room}
use Rattle.node_rules.specs.OwnerRule.{carry_all, enter, put_change, into_slot, has_room, put_taken, on_release_in, on_release, end_in, change_if_served, version_of_change}
use Rattle.authority.specs.Plans.{Plan, plan, plan_release, version_if, settled}
use Rattle.authority.specs.declared.outcome.Outcome.{Outcome as Planned}
use Rattle.home.specs.declared.fault.HomeFault.{HomeFault}
use Rattle.home.specs.declared.fault.HomeFault.TheVariants as fault
use Rattle.home.specs.Answers.{Leaves}
use Rattle.home.specs.Device.{work_on, Told, told_done, told_left, told_undone, Made}
use Rattle.node_parts.specs.declared.fault.StepFault.{StepFault}
use Rattle.node_parts.specs.declared.fault.StepFault.TheVariants.{NoMemory}
use Rattle.std.specs.Result.{OnOk, IfErr}
use Rattle.disk_model.specs.Stops.{pick as choose}
use Rattle.page_owner.specs.Carry.{SameNode}
use Rattle.node_parts.specs.Comes.{Comes, work_of}
use Rattle.node_parts.specs.Outputs.{OutputsView}
use Rattle.page_owner.specs.Planned.{IsPlanFor, plan_of, settled_of}
use Rattle.page_owner.specs.Released.{put_calls, home_put, is_taken, release_calls}
use Rattle.page_owner.specs.Writes.{page_done, after_calls}
use Rattle.node_parts.specs.State.{PartsView, node_of}
use Rattle.authority.proofs.Entering.{enter_as_plan}
use Rattle.page_owner.proofs.Frames.{put_change_frames}
use Rattle.page_owner.proofs.Taken.{none_comes}

-- a change goes into the buffer alone
module _ (h : HomeState) where
  copy_keeps : (p : ℕ) (o : Option Copy) (w : HomeWork) → SameNode h w.home → SameNode h (write_copy p o w).home
  copy_keeps p None w same = same
  copy_keeps p (Some c) w same = by c.dirty
    where
      by : (d : Bool) → SameNode h (pick d (record (write_page p (record { version = c.version; bytes = c.bytes }) w) { home = with_pool w.home (clean w.home.pool p) }) w).home
      by true = record { config = same.config; node = same.node; born = same.born }
      by false = same

  back_keeps : (p : ℕ) (w : HomeWork) → SameNode h w.home → SameNode h (write_back p w).home
  unfolding write_back
  back_keeps p w same = copy_keeps p (copy_at w.home.pool p) w same

  room_keeps : (p : ℕ) (w : HomeWork) → SameNode h w.home → SameNode h (make_room p w).home
  unfolding make_room
  room_keeps p w same = by (nat_lt 0 (free_frames w.home.pool)) (victim w.home.pool p)
    where
      by : (d : Bool) (o : Option Slot) → SameNode h (pick d w (let_go o w)).home
      by true o = same
      by false None = same
      by false (Some s) = let back = back_keeps s.page w same in record { config = back.config; node = back.node; born = back.born }

  put_keeps : (p : ℕ) (c : Change) (w : HomeWork) → SameNode h w.home → SameNode h (put_change p c w).home
  put_keeps p c w same = by (has_slot w.home.pool p) (free_frames w.home.pool == 0) (has_room p w)
    where
      by : (slot none room : Bool)
          → SameNode h (pick slot (into_slot p c w) (pick none (pick room (into_slot p c (on_pool (λ b. place b p) (make_room p w))) (write_page p (record { version = c.version; bytes = c.image }) w)) (into_slot p c (on_pool (λ b. place b p) w)))).home
      by true none room = record { config = same.config; node = same.node; born = same.born }
      by false true true = let back = room_keeps p w same in record { config = back.config; node = back.node; born = back.born }
      by false true false = same
      by false false room = record { config = same.config; node = same.node; born = same.born }

  pub home_put_keeps : (b : Bool) (p : ℕ) (o : Option Change) → SameNode h (home_put b p o h)
  home_put_keeps true p (Some c) = put_keeps p c (work_on h) (record { config = refl; node = refl; born = refl })
  home_put_keeps true p None = record { config = refl; node = refl; born = refl }
  home_put_keeps false p o = record { config = refl; node = refl; born = refl }

-- the work with the change put in
abbrev pub put_work : Bool → ℕ → Option Change → Work → Work
put_work b p o w =
    record w {
      node = record (w.node) { home = home_put b p o w.node.home };
      pages = after_calls w.pages (put_calls b p o w.node.home);
      calls = w.calls ++ put_calls b p o w.node.home;
    }

same_put : (w : Work) → w ≡ record w { calls = w.calls ++ [] }
same_put w = ap (λ l. record w { calls = l }) (sym (append-nil w.calls))

pub put_taken_work : (b : Bool) (p : ℕ) (o : Option Change) (w : Work) → put_taken b p o w ≡ put_work b p o w
put_taken_work true p (Some c) w = ap (with_home_work w) (put_change_frames p c (work_of_home w))
put_taken_work true p None w = same_put w
put_taken_work false p o w = same_put w

-- the stored pages with the change put in
one_done : (n : ℕ) (call : DiskCall) (old : Told) (ps : List (List ℕ)) → old.pages ≡ Some ps → (told_done n call old).pages ≡ Some (page_done ps call)
one_done n (WritePage p bytes) old ps told = ap (λ o. with_page o p bytes) told
one_done n (Force t bytes) old ps told = told
one_done n (TrimLog keep) old ps told = told
one_done n (CutLog count) old ps told = told

pub made_pages : (n : ℕ) (calls : List DiskCall) (old new : Told) (ps : List (List ℕ)) → Made n calls old None new → old.pages ≡ Some ps → new.pages ≡ Some (after_calls ps calls)
made_pages n [] old new ps made told = ap (λ (d : Told). d.pages) made ∙ told
made_pages n (call ∷ calls) old new ps made told = made_pages n calls (told_done n call old) new (page_done ps call) made.1 (one_done n call old ps told)

-- a version counts where its change does
same_version : (b : Bool) (c : Option Change) → version_if b (version_of_change c) ≡ version_of_change (change_if_served b c)
same_version true c = refl
same_version false c = refl

module _ (v : PartsView) (r : Release) (number : v.me ≡ number_of (node_of v)) where
  abbrev p : ℕ
  p = r.page

  abbrev rule_plan : LockTable → Plan
  rule_plan t = plan_release t v.me r.page r.tx (version_of_change r.change)

  module _ (t : LockTable) (there : table_of (node_of v) r.page ≡ Some t) (o : Planned) (is : IsPlanFor (table_of (node_of v) r.page) rule_plan (Some o)) where
    planned : plan_of o ≡ rule_plan t
    planned = subst (λ k. IsPlanFor k rule_plan (Some o)) there is

    -- what the plan says of the change
    pub taken_is : o.changed ≡ is_taken r (table_of (node_of v) r.page)
    taken_is =
        ap (λ (x : Plan). x.changed) planned
        ∙ ap (λ c. takes_change (entry_at t r.page) r.tx c) (same_version t.serving r.change)
        ∙ ap (is_taken r) (sym there)

    pub calls_are : put_calls o.changed r.page r.change v.home ≡ release_calls r (table_of (node_of v) r.page) v.home
    calls_are = ap (λ b. put_calls b r.page r.change v.home) taken_is

    abbrev ended : LockEntry → LockEntry
    ended e = end_in r.tx (change_if_served t.serving r.change) e

    settled_is : settled t.serving v.me (ended (entry_at t r.page)) ≡ settled_of o
    settled_is =
        ap (λ c. settled t.serving v.me (end_tx (entry_at t r.page) r.tx c)) (sym (same_version t.serving r.change))
        ∙ ap (λ (x : Plan). record { decisions = x.decisions; entry = x.entry }) (sym planned)

    -- the release is the change put in, and then the plan
    pub release_as_plan : (w : Work) → w.node ≡ node_of v → on_release r w ≡ carry_all r.page t (settled_of o) (put_taken o.changed r.page r.change w)
    unfolding on_release
    release_as_plan w at =
        ap (λ k. on_release_in r k w) table
        ∙ ap (λ b. enter ended r.page (put_taken b r.page r.change w)) (sym taken)
        ∙ ap (enter ended r.page) (put_taken_work o.changed r.page r.change w)
        ∙ enter_as_plan r.page t (put_work o.changed r.page r.change w) later ended
        ∙ ap (λ k. carry_all r.page t (settled t.serving k (ended (entry_at t r.page))) (put_work o.changed r.page r.change w)) me
        ∙ ap (λ s. carry_all r.page t s (put_work o.changed r.page r.change w)) settled_is
        ∙ ap (carry_all r.page t (settled_of o)) (sym (put_taken_work o.changed r.page r.change w))
      where
        table : table_of w.node r.page ≡ Some t
        table = ap (λ n. table_of n r.page) at ∙ there

        taken : o.changed ≡ takes_change (entry_at t r.page) r.tx (version_of_change (change_if_served t.serving r.change))
        taken = ap (λ (x : Plan). x.changed) planned ∙ ap (λ c. takes_change (entry_at t r.page) r.tx c) (same_version t.serving r.change)

        keeps : SameNode w.node.home (home_put o.changed r.page r.change w.node.home)
        keeps = home_put_keeps w.node.home o.changed r.page r.change

        later : table_of (put_work o.changed r.page r.change w).node r.page ≡ Some t
        later = ap (λ c. table_of (record (w.node) { home = record (w.node.home) { config = c } }) r.page) keeps.config ∙ table

        me : number_of (put_work o.changed r.page r.change w).node ≡ v.me
        me = keeps.node ∙ ap number_of at ∙ sym number

-- without a table nothing is released
pub release_none : (v : PartsView) (r : Release) (plan : LockTable → Plan) (w : Work) → w.node ≡ node_of v → IsPlanFor (table_of (node_of v) r.page) plan None → on_release r w ≡ Goes w
unfolding on_release
release_none v r plan w at none = ap (λ o. on_release_in r o w) (ap (λ n. table_of n r.page) at ∙ by (table_of (node_of v) r.page) none)
  where
    by : (o : Option LockTable) → IsPlanFor o plan None → o ≡ None
    by None none = refl
    by (Some t) none = absurd none

-- the calls of a change are page writes
abbrev IsWrite : DiskCall → Type 0
IsWrite (WritePage p bytes) = ⊤
IsWrite (Force t bytes) = ⊥
IsWrite (TrimLog keep) = ⊥
IsWrite (CutLog count) = ⊥

abbrev AreWrites : List DiskCall → Type 0
AreWrites [] = ⊤
AreWrites (c ∷ cs) = IsWrite c × AreWrites cs

copy_writes : (p : ℕ) (o : Option Copy) (h : HomeState) → AreWrites (write_copy p o (work_on h)).calls
copy_writes p None h = tt
copy_writes p (Some c) h = by c.dirty
  where
    by : (d : Bool) → AreWrites (pick d (record (write_page p (record { version = c.version; bytes = c.bytes }) (work_on h)) { home = with_pool h (clean h.pool p) }) (work_on h)).calls
    by true = (tt, tt)
    by false = tt

back_writes : (p : ℕ) (h : HomeState) → AreWrites (write_back p (work_on h)).calls
unfolding write_back
back_writes p h = copy_writes p (copy_at h.pool p) h

room_writes : (p : ℕ) (h : HomeState) → AreWrites (make_room p (work_on h)).calls
unfolding make_room
room_writes p h = by (nat_lt 0 (free_frames h.pool)) (victim h.pool p)
  where
    by : (d : Bool) (o : Option Slot) → AreWrites (pick d (work_on h) (let_go o (work_on h))).calls
    by true o = tt
    by false None = tt
    by false (Some s) = back_writes s.page h

put_writes : (p : ℕ) (c : Change) (h : HomeState) → AreWrites (put_change p c (work_on h)).calls
put_writes p c h = by (has_slot h.pool p) (free_frames h.pool == 0) (has_room p (work_on h))
  where
    by : (slot none room : Bool)
        → AreWrites
        (pick slot (into_slot p c (work_on h))
        (pick none (pick room (into_slot p c (on_pool (λ b. place b p) (make_room p (work_on h)))) (write_page p (record { version = c.version; bytes = c.image }) (work_on h)))
        (into_slot p c (on_pool (λ b. place b p) (work_on h))))).calls
    by true none room = tt
    by false true true = room_writes p h
    by false true false = (tt, tt)
    by false false room = tt

-- page writes leave the logs, and only a write fails among them
undone_logs : (b : Bool) (x y : Told) → x.logs ≡ y.logs → (choose b x y).logs ≡ y.logs
undone_logs true x y same = same
undone_logs false x y same = refl

left_logs : (n : ℕ) (call : DiskCall) (kept : ℕ) (old : Told) → IsWrite call → (told_left n call kept old).logs ≡ old.logs
left_logs n (WritePage p bytes) kept old is = undone_logs (kept == 0) (told_undone n old) (told_done n (WritePage p bytes) old) refl
left_logs n (Force t bytes) kept old is = absurd is
left_logs n (TrimLog keep) kept old is = absurd is
left_logs n (CutLog count) kept old is = absurd is

done_logs : (n : ℕ) (call : DiskCall) (old : Told) → IsWrite call → (told_done n call old).logs ≡ old.logs
done_logs n (WritePage p bytes) old is = refl
done_logs n (Force t bytes) old is = absurd is
done_logs n (TrimLog keep) old is = absurd is
done_logs n (CutLog count) old is = absurd is

writes_logs : (n : ℕ) (calls : List DiskCall) (old : Told) (o : Option Call) (new : Told) → AreWrites calls → Made n calls old o new → new.logs ≡ old.logs
writes_logs n [] old None new are made = ap (λ (d : Told). d.logs) made
writes_logs n [] old (Some k) new are made = absurd made
writes_logs n (c ∷ cs) old None new are made = writes_logs n cs (told_done n c old) None new are.1 made.1 ∙ done_logs n c old are.0
writes_logs n (c ∷ cs) old (Some k) new are (inl fails) = ap (λ (d : Told). d.logs) fails.1.same ∙ left_logs n c fails.1.kept old are.0
writes_logs n (c ∷ cs) old (Some k) new are (inr rest) = writes_logs n cs (told_done n c old) (Some k) new are.1 rest.1 ∙ done_logs n c old are.0

write_word : (c : DiskCall) → IsWrite c → word_of c ≡ call.Write
write_word (WritePage p bytes) is = refl
write_word (Force t bytes) is = absurd is
write_word (TrimLog keep) is = absurd is
write_word (CutLog count) is = absurd is

write_failed : (n : ℕ) (calls : List DiskCall) (old : Told) (k : Call) (new : Told) → AreWrites calls → Made n calls old (Some k) new → k ≡ call.Write
write_failed n [] old k new are made = absurd made
write_failed n (c ∷ cs) old k new are (inl fails) = fails.0 ∙ write_word c are.0
write_failed n (c ∷ cs) old k new are (inr rest) = write_failed n cs (told_done n c old) k new are.1 rest.1

-- what a change that was taken leaves
module _ (n p : ℕ) (c : Change) (h : HomeState) (old new : Told) where
  pub put_logs : Leaves {T = Unit {0}} n (Ok (tt {0})) (put_change p c (work_on h)).calls old new → new.logs ≡ old.logs
  put_logs made = writes_logs n (put_change p c (work_on h)).calls old None new (put_writes p c h) made

  module _ (r : Result (Unit {0}) HomeFault) (k : Call) (kept : Bool) (is : r ≡ Err (fault.Failed k kept)) (leaves : Leaves n r (put_change p c (work_on h)).calls old new) where
    failed_made : Made n (put_change p c (work_on h)).calls old (Some k) new
    failed_made = (subst (λ z. Leaves {T = Unit {0}} n z (put_change p c (work_on h)).calls old new) is leaves).1

    pub failed_write : k ≡ call.Write
    failed_write = write_failed n (put_change p c (work_on h)).calls old k new (put_writes p c h) failed_made

    pub failed_logs : new.logs ≡ old.logs
    failed_logs = writes_logs n (put_change p c (work_on h)).calls old (Some k) new (put_writes p c h) failed_made

    pub failed_as_write : Made n (put_change p c (work_on h)).calls old (Some call.Write) new
    failed_as_write = subst (λ k. Made n (put_change p c (work_on h)).calls old (Some k) new) failed_write failed_made

-- a plan that is put in after its change
module _ (b : Bool) (p : ℕ) (o : Option Change) (t : LockTable) (s : Settled) (n m after : NodeState) (h : HomeState) (ps : List (List ℕ)) (cs : List DiskCall) (old mid later : OutputsView) (r : Result (Unit {0}) StepFault) where
  put_replied : h ≡ home_put b p o n.home → mid.replies ≡ old.replies ++ taken ∷ [] → mid.sends ≡ old.sends
      → put_taken b p o (reply taken (work_of n ps cs old)) ≡ work_of (record n { home = h }) (after_calls ps (put_calls b p o n.home)) (cs ++ put_calls b p o n.home) mid
  put_replied home replies sends =
      put_taken_work b p o (reply taken (work_of n ps cs old))
      ∙ sym
      (λ i. record {
        node = record n { home = home i };
        pages = after_calls ps (put_calls b p o n.home);
        calls = cs ++ put_calls b p o n.home;
        replies = replies i;
        sends = sends i;
      })

  pub put_comes : n ≡ m → h ≡ home_put b p o n.home → mid.replies ≡ old.replies ++ taken ∷ [] → mid.sends ≡ old.sends
      → Comes (carry_all p t s (work_of (record n { home = h }) (after_calls ps (put_calls b p o n.home)) (cs ++ put_calls b p o n.home) mid)) r (work_of after (after_calls ps (put_calls b p o n.home)) (cs ++ put_calls b p o n.home) later)
      → Comes (carry_all p t s (put_taken b p o (reply taken (work_of m ps cs old)))) r (work_of after (after_calls ps (put_calls b p o m.home)) (cs ++ put_calls b p o m.home) later)
  put_comes same home replies sends comes =
      subst (λ (k : NodeState). Comes (carry_all p t s (put_taken b p o (reply taken (work_of k ps cs old)))) r (work_of after (after_calls ps (put_calls b p o k.home)) (cs ++ put_calls b p o k.home) later)) same
      (subst (λ w. Comes (carry_all p t s w) r (work_of after (after_calls ps (put_calls b p o n.home)) (cs ++ put_calls b p o n.home) later)) (sym (put_replied home replies sends)) comes)

-- a release that is taken comes to its plan
module _ (v : PartsView) (r : Release) (number : v.me ≡ number_of (node_of v)) (k : Option Planned) (is : IsPlanFor (table_of (node_of v) r.page) (λ t. plan_release t v.me r.page r.tx (version_of_change r.change)) k)
    (after : NodeState) (ps : List (List ℕ)) (cs : List DiskCall) (old later : OutputsView) (a : Result (Unit {0}) StepFault) where
  abbrev With : List DiskCall → Type 0
  With calls = Comes (on_release r (reply taken (work_of (node_of v) ps cs old))) a (work_of after (after_calls ps calls) (cs ++ calls) later)

  pub released : (o : Planned) → k ≡ Some o
      → ((t : LockTable) → table_of (node_of v) r.page ≡ Some t
      → Comes (carry_all r.page t (settled_of o) (put_taken o.changed r.page r.change (reply taken (work_of (node_of v) ps cs old)))) a
      (work_of after (after_calls ps (put_calls o.changed r.page r.change v.home)) (cs ++ put_calls o.changed r.page r.change v.home) later))
      → With (release_calls r (table_of (node_of v) r.page) v.home)
  released o some comes = by (table_of (node_of v) r.page) refl
    where
      mine : IsPlanFor (table_of (node_of v) r.page) (λ t. plan_release t v.me r.page r.tx (version_of_change r.change)) (Some o)
      mine = subst (λ k. IsPlanFor (table_of (node_of v) r.page) (λ t. plan_release t v.me r.page r.tx (version_of_change r.change)) k) some is

      by : (x : Option LockTable) → table_of (node_of v) r.page ≡ x → With (release_calls r (table_of (node_of v) r.page) v.home)
      by None none = absurd (subst (λ x. IsPlanFor x (λ t. plan_release t v.me r.page r.tx (version_of_change r.change)) (Some o)) none mine)
      by (Some t) there =
          subst With (calls_are v r number t there o mine)
          (subst (λ x. Comes x a (work_of after (after_calls ps (put_calls o.changed r.page r.change v.home)) (cs ++ put_calls o.changed r.page r.change v.home) later))
          (sym (release_as_plan v r number t there o mine (reply taken (work_of (node_of v) ps cs old)) refl)) (comes t there))

  pub released_none : after ≡ node_of v → k ≡ None → OnOk a (later.replies ≡ old.replies ++ taken ∷ []) → later.sends ≡ old.sends → IfErr a (λ e. e ≡ NoMemory) → With (release_calls r (table_of (node_of v) r.page) v.home)
  released_none same none replies sends fault =
      subst With (sym no_calls)
      (subst (λ l. Comes (on_release r (reply taken (work_of (node_of v) ps cs old))) a (work_of after ps l later)) (sym (append-nil cs))
      (subst (λ n. Comes (on_release r (reply taken (work_of (node_of v) ps cs old))) a (work_of n ps cs later)) (sym same)
      (none_comes (node_of v) ps cs old later taken (on_release r (reply taken (work_of (node_of v) ps cs old))) a (release_none v r (λ t. plan_release t v.me r.page r.tx (version_of_change r.change)) (reply taken (work_of (node_of v) ps cs old)) refl mine) replies sends fault)))
    where
      mine : IsPlanFor (table_of (node_of v) r.page) (λ t. plan_release t v.me r.page r.tx (version_of_change r.change)) None
      mine = subst (λ k. IsPlanFor (table_of (node_of v) r.page) (λ t. plan_release t v.me r.page r.tx (version_of_change r.change)) k) none is

      by : (x : Option LockTable) → IsPlanFor x (λ t. plan_release t v.me r.page r.tx (version_of_change r.change)) None → release_calls r x v.home ≡ []
      by None is = refl
      by (Some t) is = absurd is

      no_calls : release_calls r (table_of (node_of v) r.page) v.home ≡ []
      no_calls = by (table_of (node_of v) r.page) mine
