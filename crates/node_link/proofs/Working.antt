-- What a step of the node comes to, in the words of serving.
use Rattle.std.proofs.Common.{◌≡◌, refl, sym, ap, subst, ◌∙◌, ◌⊎◌, inl, inr, ℕ, true, false, List, [], ◌∷◌, ◌++◌, append-nil, take, length, slice_set, Option, Some, None, option_map, Result, Ok, Err}
use Rattle.std.specs.Prelude.{IsSome, IfErr, OnOk}
use Rattle.pcl_base.specs.declared.reply.Reply.{Reply}
use Rattle.pcl_base.specs.declared.reply.Reply.TheVariants.{Refused}
use Rattle.pcl_base.specs.declared.reply.Reason.TheVariants.{NoNode}
use Rattle.pcl_base.specs.declared.trace.Call.{Call}
use Rattle.pcl_base.specs.declared.trace.Call.TheVariants as call
use Rattle.pcl_base.specs.declared.tx.TxId.{TxId}
use Rattle.run_rules.specs.Disk.{Disk}
use Rattle.disk_model.specs.declared.stop.Stop.{Stop}
use Rattle.node_rules.specs.DiskCalls.{DiskCall, Left, all_done}
use Rattle.node_rules.specs.NodeState.{NodeState, NodeEvent, number_of}
use Rattle.node_rules.specs.NodeStep.{Plan, nodestep}
use Rattle.node_rules.specs.Work.{Outcome, Goes, Differs as differs}
use Rattle.cluster_rules.specs.ClusterStep.{left_of}
use Rattle.redo_log.specs.Told.{NoneFails}
use Rattle.home.specs.CallLaws.{told_on, rule_stop, nearer}
use Rattle.home.specs.Device.{Told, told_by, Made}
use Rattle.home.proofs.Stopping.{done_are_all}
use Rattle.node_parts.specs.Outputs.{OutputsView}
use Rattle.node_parts.specs.declared.fault.StepFault.{StepFault}
use Rattle.node_parts.specs.declared.fault.StepFault.TheVariants.{NoMemory, Halted, Differs}
use Rattle.page_owner.specs.Carry.{halted_by}
use Rattle.step_ends.specs.Ran.{Stand, Ran, RanPlan, armed_at, stops_after}
use Rattle.step_ends.proofs.Armed.{put_same}
use Rattle.frame_rules.specs.WrittenFrames.{step_frames, halted_text, differs_text}
use Rattle.frame_rules.specs.Serving.{Going, Served, ends, by_plan, by_step}
use Rattle.frame_rules.specs.Halting.{Halts, MayPlan}
use Rattle.node_core.specs.Came.{BreaksOff, FailsAt, Breaks, Came}
use Rattle.node_core.specs.Steps.{stand}
use Rattle.serving_parts.specs.Sides.{Store, Tells}
use Rattle.serving_parts.specs.Outcome.{Alike, status_in}
use Rattle.serving_parts.specs.Works.{EndsBy}
use Rattle.serving_parts.specs.Worked.{Worked}

-- what changing calls change of what a storage tells
abbrev pub told_in : Store → Told
told_in s = told_by s.pages s.logs s.stops

told_is : (s : Store) (d : Disk) → Tells s d → told_in s ≡ told_on d s.stops
told_is s d t = ap (λ p. told_by p s.logs s.stops) t.pages ∙ ap (λ l. told_by (Some d.pages) l s.stops) t.logs

tells_of : (s : Store) (d : Disk) → told_in s ≡ told_on d s.stops → Tells s d
tells_of s d same = record { pages = ap (λ (t : Told). t.pages) same; logs = ap (λ (t : Told). t.logs) same }

-- a halt, with what is on disk then
record HaltsOn (n : ℕ) (d : Disk) (calls : List DiskCall) (k : Call) (kept : Option TxId) (new : Store) : Type 0 where
  after : Disk
  tells : Tells new after
  halts : Halts n d calls (ends after (halted_text (record { call = k; kept = kept })) 6)

module _ (n : ℕ) (d : Disk) (calls : List DiskCall) (old new : Store) (tells : Tells old d) where
  read_broke : (k : Call) (kept : Option TxId) → (k ≡ call.Read) ⊎ (k ≡ call.Log) → BreaksOff n calls kept (told_in old) (told_in new) → HaltsOn n d calls k kept new
  read_broke k kept reading b =
      let front = take b.count calls in
      let made = subst (λ t. Made n front t None (told_in new)) (told_is old d tells) b.made in
      record {
        after = all_done n d front;
        tells = tells_of new (all_done n d front) (done_are_all n front d old.stops (told_in new) made);
        halts =
            record {
              halt = record { call = k; kept = kept };
              after = all_done n d front;
              line = refl;
              failed = inl (record { reading = reading; count = b.count; disk = refl; kept = b.names });
            };
      }

  change_failed : (k : Call) (kept : Option TxId) → FailsAt n d calls k kept (told_in old) (told_in new) → HaltsOn n d calls k kept new
  change_failed k kept f =
      record {
        after = f.left.disk;
        tells = tells_of new f.left.disk f.disk;
        halts =
            record {
              halt = record { call = k; kept = kept };
              after = f.left.disk;
              line = refl;
              failed = inr (record { stop = f.stop; left = f.left; leaves = f.leaves; disk = refl; call = sym f.same_call; kept = f.names });
            };
      }

  breaks_halt : (k : Call) (kept : Option TxId) → Breaks n d calls k kept (told_in old) (told_in new) → HaltsOn n d calls k kept new
  breaks_halt call.Read kept b = read_broke call.Read kept (inl refl) b
  breaks_halt call.Log kept b = read_broke call.Log kept (inr refl) b
  breaks_halt call.Write kept b = change_failed call.Write kept b
  breaks_halt call.Force kept b = change_failed call.Force kept b
  breaks_halt call.Trim kept b = change_failed call.Trim kept b
  breaks_halt call.Cut kept b = change_failed call.Cut kept b

-- a plan that is carried out, and what is on disk then
record PlanGoes (n : NodeState) (d : Disk) (o : Outcome Plan) (text : List ℕ) (later : NodeState) (new : Store) : Type 0 where
  after : Disk
  tells : Tells new after
  step : by_plan n d o ≡ record { written = text; progress = Going later after }

-- a plan that ends serving
record PlanEnds (n : NodeState) (d : Disk) (o : Outcome Plan) (line : List ℕ) (status : ℕ) (new : Store) : Type 0 where
  after : Disk
  tells : Tells new after
  may : MayPlan n d o (ends after line status)

module _ (X : Type 0) (n later : NodeState) (d : Disk) (out outs : OutputsView) (old new : Store) (tells : Tells old d) where
  comes_on : (x : X) (o : Outcome Plan) → out.replies ≡ [] → out.sends ≡ [] → Came {T = X} (number_of n) d o (Ok x) (stand n out (told_in old)) (stand later outs (told_in new))
      → PlanGoes n d o (step_frames outs.replies outs.sends) later new
  comes_on x (Goes p) no_reply no_send c =
      let after = all_done (number_of n) d p.calls in
      let made = subst (λ t. Made (number_of n) p.calls t None (told_in new)) (told_is old d tells) c.made in
      let replies : outs.replies ≡ p.replies = c.replies ∙ ap (λ l. l ++ p.replies) no_reply in
      let sends : outs.sends ≡ p.sends = c.sends ∙ ap (λ l. l ++ p.sends) no_send in
      record {
        after = after;
        tells = tells_of new after (done_are_all (number_of n) p.calls d old.stops (told_in new) made);
        step =
            ap (λ r. record { written = step_frames r p.sends; progress = Going p.node after }) (sym replies)
            ∙ ap (λ s. record { written = step_frames outs.replies s; progress = Going p.node after }) (sym sends)
            ∙ ap (λ m. record { written = step_frames outs.replies outs.sends; progress = Going m after }) (sym c.node);
      }
  comes_on x (differs page expected found) no_reply no_send c = absurd c

  comes_halted : (k : Call) (kept : Option TxId) (o : Outcome Plan) → Came {T = X} (number_of n) d o (Err (Halted k kept)) (stand n out (told_in old)) (stand later outs (told_in new))
      → PlanEnds n d o (halted_text (record { call = k; kept = kept })) 6 new
  comes_halted k kept (Goes p) c =
      let h = breaks_halt (number_of n) d p.calls old new tells k kept c in
      record { after = h.after; tells = h.tells; may = inr h.halts }
  comes_halted k kept (differs page expected found) (calls, c) =
      let h = breaks_halt (number_of n) d calls old new tells k kept c in
      record { after = h.after; tells = h.tells; may = (calls, inr h.halts) }

  comes_differing : (p e f : ℕ) (o : Outcome Plan) → Came {T = X} (number_of n) d o (Err (Differs p e f)) (stand n out (told_in old)) (stand later outs (told_in new))
      → PlanEnds n d o (differs_text p e f) 10 new
  comes_differing p e f (Goes plan) c = absurd c
  comes_differing p e f (differs page expected found) c =
      let same = c.0 in
      let calls = c.1.0 in
      let made = subst (λ t. Made (number_of n) calls t None (told_in new)) (told_is old d tells) c.1.1 in
      let after = all_done (number_of n) d calls in
      let line : differs_text p e f ≡ differs_text page expected found =
      sym (ap (λ x. differs_text x expected found) same.0 ∙ ap (λ x. differs_text p x found) same.1 ∙ ap (λ x. differs_text p e x) same.2) in
      record {
        after = after;
        tells = tells_of new after (done_are_all (number_of n) calls d old.stops (told_in new) made);
        may = (calls, inl (ap (λ l. ends after l 10) line));
      }

  comes_otherwise : (p e f : ℕ) (o : Outcome Plan) → Came {T = X} (number_of n) d o (Err (Differs p e f)) (stand n out (told_in old)) (stand later outs (told_in new))
      → by_plan n d o ≡ ends d (differs_text p e f) 10
  comes_otherwise p e f (Goes plan) c = absurd c
  comes_otherwise p e f (differs page expected found) c =
      let same = c.0 in
      ap (λ x. ends d (differs_text x expected found) 10) same.0
      ∙ ap (λ x. ends d (differs_text p x found) 10) same.1
      ∙ ap (λ x. ends d (differs_text p e x) 10) same.2

-- without an armed stop
module _ (T : Type 0) (me : ℕ) (d : Disk) (stops : List (Option Stop)) (before after : Stand) (unarmed : armed_at stops me ≡ None) where
  same_stops : (count : ℕ) → stops_after stops me count ≡ stops
  same_stops count =
      ap (λ (o : Option Stop). slice_set stops me (option_map (λ s. nearer s count) o)) unarmed
      ∙ ap (λ (o : Option Stop). slice_set stops me o) (sym unarmed)
      ∙ put_same None stops me

  no_left : (p : Plan) → left_of me d p.calls (option_map rule_stop (armed_at stops me)) ≡ None
  no_left p = ap (λ (o : Option Stop). left_of me d p.calls (option_map rule_stop o)) unarmed

  plan_stops : (x : T) (p : Plan) (l : Option Left) → RanPlan {T = T} me d stops p l (Ok x) before after → after.told.stops ≡ Some stops
  plan_stops x p None r = ap (λ (t : Told). t.stops) r.told ∙ ap (λ (l : List (Option Stop)). Some l) (same_stops (length p.calls))
  plan_stops x p (Some l) r = absurd r

  stops_stay : (x : T) (o : Outcome Plan) → Ran {T = T} me d stops o (Ok x) before after → after.told.stops ≡ Some stops
  stops_stay x (Goes p) r = plan_stops x p (left_of me d p.calls (option_map rule_stop (armed_at stops me))) r
  stops_stay x (differs page expected found) r = absurd r

  plan_halts : (k : Call) (kept : Option TxId) (p : Plan) (l : Option Left) → l ≡ None → RanPlan {T = T} me d stops p l (Err (Halted k kept)) before after → ⊥
  plan_halts k kept p None none r = r
  plan_halts k kept p (Some l) none r = cc

  never_halts : (k : Call) (kept : Option TxId) (o : Outcome Plan) → Ran {T = T} me d stops o (Err (Halted k kept)) before after → ⊥
  never_halts k kept (Goes p) r = plan_halts k kept p (left_of me d p.calls (option_map rule_stop (armed_at stops me))) (no_left p) r
  never_halts k kept (differs page expected found) r = let bad : false ≡ true = subst IsSome unarmed r in cc

-- a page that differs is told as the rules tell it; what is on disk may be another
alike_differing : (n : NodeState) (d after : Disk) (asked : Option NodeEvent) (line : List ℕ) → by_step n d asked ≡ ends d line 10 → Alike (ends after line 10) (by_step n d asked)
alike_differing n d after asked line is =
    let status : status_in ((by_step n d asked).progress) ≡ Some 10 = ap (λ (s : Served). status_in s.progress) is in
    record {
      written = sym (ap (λ (s : Served). s.written) is);
      status = sym status;
      same = λ other. absurd (other status);
    }

-- what a step on an event comes to
pub worked_some : {X : Type 0} (n later : NodeState) (d : Disk) (event : NodeEvent) (out outs : OutputsView) (old new : Store) (result : Result X StepFault)
    → Tells old d → out.replies ≡ [] → out.sends ≡ []
    → Came {T = X} (number_of n) d (nodestep n event d) result (stand n out (told_in old)) (stand later outs (told_in new))
    → ((stops : List (Option Stop)) (l : List (Option ℕ)) → old.stops ≡ Some stops → NoneFails old.failing (number_of n) l → Ran {T = X} (number_of n) d stops (nodestep n event d) result (stand n out (told_in old)) (stand later outs (told_in new)))
    → ((l : List (Option ℕ)) → NoneFails old.failing (number_of n) l → NoneFails new.failing (number_of n) l)
    → Worked (number_of n) n d (Some event) (step_frames outs.replies outs.sends) later old new result
worked_some {X = X} n later d event out outs old new (Ok x) tells no_reply no_send came ran calm =
    let g = comes_on X n later d out outs old new tells x (nodestep n event d) no_reply no_send came in
    record {
      after = g.after;
      tells = g.tells;
      step = g.step;
      calm =
          λ c.
          record {
            stops = c.stops;
            told = stops_stay X (number_of n) d c.stops (stand n out (told_in old)) (stand later outs (told_in new)) c.unarmed x (nodestep n event d) (ran c.stops c.reads c.told c.calm);
            unarmed = c.unarmed;
            reads = c.reads;
            calm = calm c.reads c.calm;
          };
    }
worked_some n later d event out outs old new (Err NoMemory) tells no_reply no_send came ran calm = tt
worked_some {X = X} n later d event out outs old new (Err (Halted k kept)) tells no_reply no_send came ran calm =
    let e = comes_halted X n later d out outs old new tells k kept (nodestep n event d) came in
    record {
      after = e.after;
      tells = e.tells;
      may = e.may;
      exact = λ c. absurd (never_halts X (number_of n) d c.stops (stand n out (told_in old)) (stand later outs (told_in new)) c.unarmed k kept (nodestep n event d) (ran c.stops c.reads c.told c.calm));
    }
worked_some {X = X} n later d event out outs old new (Err (Differs p e f)) tells no_reply no_send came ran calm =
    let g = comes_differing X n later d out outs old new tells p e f (nodestep n event d) came in
    record {
      after = g.after;
      tells = g.tells;
      may = g.may;
      exact = λ c. alike_differing n d g.after (Some event) (differs_text p e f) (comes_otherwise X n later d out outs old new tells p e f (nodestep n event d) came);
    }

-- the same of a node of a number, and of what a frame asks
pub worked_asked : {X : Type 0} (me : ℕ) (n later : NodeState) (d : Disk) (event : NodeEvent) (asked : Option NodeEvent) (text : List ℕ) (old new : Store) (result : Result X StepFault)
    → number_of n ≡ me → Some event ≡ asked → Worked (number_of n) n d (Some event) text later old new result → Worked me n d asked text later old new result
worked_asked me n later d event asked text old new result is same w =
    subst (λ a. Worked me n d a text later old new result) same (subst (λ m. Worked m n d (Some event) text later old new result) is w)

-- a line that names another node
pub worked_none : {X : Type 0} (x : X) (me : ℕ) (n : NodeState) (d : Disk) (asked : Option NodeEvent) (out outs : OutputsView) (s : Store) → None ≡ asked → Tells s d
    → out.replies ≡ [] → out.sends ≡ [] → outs.replies ≡ out.replies ++ Refused NoNode ∷ [] → outs.sends ≡ out.sends
    → Worked {X = X} me n d asked (step_frames outs.replies outs.sends) n s s (Ok x)
worked_none x me n d asked out outs s none tells no_reply no_send replies sends =
    let answer : List Reply = Refused NoNode ∷ [] in
    let one : outs.replies ≡ answer = replies ∙ ap (λ l. l ++ answer) no_reply in
    let text : step_frames outs.replies outs.sends ≡ step_frames answer [] = ap (λ r. step_frames r outs.sends) one ∙ ap (λ l. step_frames answer l) (sends ∙ no_send) in
    record {
      after = d;
      tells = tells;
      step =
          ap (λ a. by_step n d a) (sym none)
          ∙ ap (λ w. record { written = w; progress = Going n d }) (sym (append-nil _))
          ∙ ap (λ w. record { written = w; progress = Going n d }) (sym text);
      calm = λ c. c;
    }

pub worked_refused : {X : Type 0} (me : ℕ) (n : NodeState) (d : Disk) (asked : Option NodeEvent) (out outs : OutputsView) (s : Store) (result : Result X StepFault) → None ≡ asked → Tells s d
    → out.replies ≡ [] → out.sends ≡ [] → OnOk result (outs.replies ≡ out.replies ++ Refused NoNode ∷ []) → OnOk result (outs.sends ≡ out.sends) → IfErr result (λ e. e ≡ NoMemory)
    → Worked {X = X} me n d asked (step_frames outs.replies outs.sends) n s s result
worked_refused me n d asked out outs s (Ok x) none tells no_reply no_send replies sends fault = worked_none x me n d asked out outs s none tells no_reply no_send replies sends
worked_refused {X = X} me n d asked out outs s (Err e) none tells no_reply no_send replies sends fault =
    subst (λ f. Worked {X = X} me n d asked (step_frames outs.replies outs.sends) n s s (Err f)) (sym fault) tt

pub refused_never_halts : {X : Type 0} (A : Type 0) (k : Call) (result : Result X StepFault) → IfErr result (λ e. e ≡ NoMemory) → halted_by result ≡ Some k → A
refused_never_halts A k (Ok x) fault halted = absurd (cc)
refused_never_halts {X = X} A k (Err e) fault halted =
    let bad : None ≡ Some k = subst (λ f. halted_by {X = X} (Err f) ≡ Some k) fault halted in absurd (cc)

-- what is told of a step by its fault
pub worked_halted : (X : Type 0) (me : ℕ) (n : NodeState) (d : Disk) (asked : Option NodeEvent) (text : List ℕ) (later : NodeState) (old new : Store) (fault : StepFault) (k : Call) (kept : Option TxId) → fault ≡ Halted k kept
    → Worked {X = X} me n d asked text later old new (Err fault) → EndsBy me n d asked (halted_text (record { call = k; kept = kept })) 6 old new
worked_halted X me n d asked text later old new fault k kept is w = subst (λ f. Worked {X = X} me n d asked text later old new (Err f)) is w

pub worked_differs : (X : Type 0) (me : ℕ) (n : NodeState) (d : Disk) (asked : Option NodeEvent) (text : List ℕ) (later : NodeState) (old new : Store) (fault : StepFault) (p e f : ℕ) → fault ≡ Differs p e f
    → Worked {X = X} me n d asked text later old new (Err fault) → EndsBy me n d asked (differs_text p e f) 10 old new
worked_differs X me n d asked text later old new fault p e f is w = subst (λ x. Worked {X = X} me n d asked text later old new (Err x)) is w

pub halted_at : (X : Type 0) (fault : StepFault) (k : Call) (kept : Option TxId) → fault ≡ Halted k kept → halted_by {X = X} (Err fault) ≡ Some k
halted_at X fault k kept is = ap (λ f. halted_by {X = X} (Err f)) is
