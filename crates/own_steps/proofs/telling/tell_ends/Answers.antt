use Rattle.std.proofs.Common.{◌≡◌, ◌∷◌, [], List, length, map, Err, ap, sym, subst, ◌∙◌, arith}
use Rattle.std.specs.Vec.Iter.{into_iter_items, into_iter_len}
use Rattle.redo_log.specs.Told.{NoneFails}
use Rattle.node_rules.specs.EndRule.{Ending}
use Rattle.node_rules.specs.OwnerRule.{tell_end}
use Rattle.node_rules.specs.Work.{for_each}
use Rattle.node_parts.specs.Comes.{Comes, work_of}
use Rattle.node_parts.specs.State.{node_of}
use Rattle.page_owner.proofs.Planned.{same_then}
use Rattle.own_steps.specs.Ends.{AwaitsEnds, HasMemoryFor, due}
use Rattle.own_steps.proofs.Accessing.{goes}
use Rattle.own_steps.proofs.EndsReady.{plans_below}
use Rattle.own_steps.proofs.EndsTold.{all_told_parts, awaits_but, awaits_next, each_done, each_failed, ends_over, memory_next, none_left, told_over}
use Rattle.own_steps.proofs.MadeRooms.{view_then}
use Rattle.own_steps.proofs.telling.tell_ends.Goals as goal

pub give_up_rooms-requires-clause-parts : goal.give_up_rooms-requires-clause-parts
give_up_rooms-requires-clause-parts g c =
    let plans : into_iter_items c.loop-plan.plans ≡ c.in-Some.plan ∷ into_iter_items c.next.new.self = c.in-Some.ensures.items in
    let ends : into_iter_items c.loop-plan.ends ≡ c.in-Some-next.end ∷ into_iter_items c.next-in-Some.new.self = c.in-Some-next.ensures.items in
    let es : List Ending = into_iter_items c.next-in-Some.new.self in
    let awaits : AwaitsEnds c.loop-plan.parts c.args.tx (due c.in-Some-next.end ∷ map due es) (c.in-Some.plan ∷ into_iter_items c.next.new.self) =
    subst (λ l. AwaitsEnds c.loop-plan.parts c.args.tx (map due l) (c.in-Some.plan ∷ into_iter_items c.next.new.self)) ends
    (subst (λ l. AwaitsEnds c.loop-plan.parts c.args.tx (map due (into_iter_items c.loop-plan.ends)) l) plans c.loop-plan.invariant.awaits) in
    let next : AwaitsEnds c.tell_one.new.parts c.args.tx (map due es) (into_iter_items c.next.new.self) =
    awaits_next c.loop-plan.parts c.tell_one.new.parts c.args.tx (due c.in-Some-next.end) (map due es) c.in-Some.plan (into_iter_items c.next.new.self) awaits
    c.tell_one.ensures.parts c.tell_one.ensures.others c.tell_one.ensures.entries c.tell_one.ensures.view c.tell_one.ensures.same in
    awaits_but c.tell_one.new.parts c.args.tx (map due es) (into_iter_items c.next.new.self) next

pub give_up_rooms-requires-clause-below : goal.give_up_rooms-requires-clause-below
give_up_rooms-requires-clause-below g c =
    let plans : into_iter_items c.loop-plan.plans ≡ c.in-Some.plan ∷ into_iter_items c.next.new.self = c.in-Some.ensures.items in
    let ends : into_iter_items c.loop-plan.ends ≡ c.in-Some-next.end ∷ into_iter_items c.next-in-Some.new.self = c.in-Some-next.ensures.items in
    let es : List Ending = into_iter_items c.next-in-Some.new.self in
    let awaits : AwaitsEnds c.loop-plan.parts c.args.tx (due c.in-Some-next.end ∷ map due es) (c.in-Some.plan ∷ into_iter_items c.next.new.self) =
    subst (λ l. AwaitsEnds c.loop-plan.parts c.args.tx (map due l) (c.in-Some.plan ∷ into_iter_items c.next.new.self)) ends
    (subst (λ l. AwaitsEnds c.loop-plan.parts c.args.tx (map due (into_iter_items c.loop-plan.ends)) l) plans c.loop-plan.invariant.awaits) in
    let next : AwaitsEnds c.tell_one.new.parts c.args.tx (map due es) (into_iter_items c.next.new.self) =
    awaits_next c.loop-plan.parts c.tell_one.new.parts c.args.tx (due c.in-Some-next.end) (map due es) c.in-Some.plan (into_iter_items c.next.new.self) awaits
    c.tell_one.ensures.parts c.tell_one.ensures.others c.tell_one.ensures.entries c.tell_one.ensures.view c.tell_one.ensures.same in
    plans_below (node_of c.tell_one.new.parts) c.tell_one.new.parts.me c.args.tx c.tell_one.new.parts.home.config (map due es) (into_iter_items c.next.new.self) next.plans next.below

pub returns-in-Err-clause-comes : goal.returns-in-Err-clause-comes
returns-in-Err-clause-comes g c = λ ps cs told.
    let plans : into_iter_items c.loop-plan.plans ≡ c.in-Some.plan ∷ into_iter_items c.next.new.self = c.in-Some.ensures.items in
    let ends : into_iter_items c.loop-plan.ends ≡ c.in-Some-next.end ∷ into_iter_items c.next-in-Some.new.self = c.in-Some-next.ensures.items in
    let es : List Ending = into_iter_items c.next-in-Some.new.self in
    let awaits : AwaitsEnds c.loop-plan.parts c.args.tx (due c.in-Some-next.end ∷ map due es) (c.in-Some.plan ∷ into_iter_items c.next.new.self) =
    subst (λ l. AwaitsEnds c.loop-plan.parts c.args.tx (map due l) (c.in-Some.plan ∷ into_iter_items c.next.new.self)) ends
    (subst (λ l. AwaitsEnds c.loop-plan.parts c.args.tx (map due (into_iter_items c.loop-plan.ends)) l) plans c.loop-plan.invariant.awaits) in
    let next : AwaitsEnds c.tell_one.new.parts c.args.tx (map due es) (into_iter_items c.next.new.self) =
    awaits_next c.loop-plan.parts c.tell_one.new.parts c.args.tx (due c.in-Some-next.end) (map due es) c.in-Some.plan (into_iter_items c.next.new.self) awaits
    c.tell_one.ensures.parts c.tell_one.ensures.others c.tell_one.ensures.entries c.tell_one.ensures.view c.tell_one.ensures.same in
    subst (λ n. Comes {T = Unit {0}} (for_each (tell_end c.args.tx) c.args.ends.items (work_of (node_of c.args.parts.now) ps cs c.args.out.now)) (Err c.in-Err.fault) (work_of n ps cs c.tell_one.new.out)) (sym c.give_up_rooms.ensures.node)
    (subst (λ o. Comes {T = Unit {0}} o (Err c.in-Err.fault) (work_of (node_of c.tell_one.new.parts) ps cs c.tell_one.new.out))
    (sym (ap (λ l. for_each (tell_end c.args.tx) l (work_of (node_of c.loop-plan.parts) ps cs c.loop-plan.out)) ends) ∙ c.loop-plan.invariant.rest ps cs told)
    (each_failed (tell_end c.args.tx) c.in-Some-next.end es (work_of (node_of c.loop-plan.parts) ps cs c.loop-plan.out) (work_of (node_of c.tell_one.new.parts) ps cs c.tell_one.new.out) (Unit {0}) (Unit {0}) c.in-Err.fault (c.in-Err.ensures.comes ps cs (c.loop-plan.invariant.pages ∙ told))))

pub loop-plan-preserved : goal.loop-plan-preserved
loop-plan-preserved g c =
    let plans : into_iter_items c.loop-plan.plans ≡ c.in-Some.plan ∷ into_iter_items c.next.new.self = c.in-Some.ensures.items in
    let ends : into_iter_items c.loop-plan.ends ≡ c.in-Some-next.end ∷ into_iter_items c.next-in-Some.new.self = c.in-Some-next.ensures.items in
    let es : List Ending = into_iter_items c.next-in-Some.new.self in
    let awaits : AwaitsEnds c.loop-plan.parts c.args.tx (due c.in-Some-next.end ∷ map due es) (c.in-Some.plan ∷ into_iter_items c.next.new.self) =
    subst (λ l. AwaitsEnds c.loop-plan.parts c.args.tx (map due l) (c.in-Some.plan ∷ into_iter_items c.next.new.self)) ends
    (subst (λ l. AwaitsEnds c.loop-plan.parts c.args.tx (map due (into_iter_items c.loop-plan.ends)) l) plans c.loop-plan.invariant.awaits) in
    let next : AwaitsEnds c.tell_one.new.parts c.args.tx (map due es) (into_iter_items c.next.new.self) =
    awaits_next c.loop-plan.parts c.tell_one.new.parts c.args.tx (due c.in-Some-next.end) (map due es) c.in-Some.plan (into_iter_items c.next.new.self) awaits
    c.tell_one.ensures.parts c.tell_one.ensures.others c.tell_one.ensures.entries c.tell_one.ensures.view c.tell_one.ensures.same in
    let e = c.tell_one.ensures in
    let inv = c.loop-plan.invariant in
    let pl = c.in-Some.ensures.len in
    let pw = inv.plans_len in
    let ps = ap length plans in
    let el = c.in-Some-next.ensures.len in
    let ew = inv.ends_len in
    let er = ap length ends in
    let used = c.in-Ok.ensures.used in
    record {
      awaits = next;
      view = view_then c.args.parts.now c.loop-plan.parts c.tell_one.new.parts inv.view e.view;
      same = same_then c.args.parts.now.home c.loop-plan.parts.home c.tell_one.new.parts.home inv.same e.same;
      memory = memory_next c.in-Some.plan (into_iter_items c.next.new.self) c.loop-plan.stock c.tell_one.new.stock c.loop-plan.out c.tell_one.new.out (subst (λ l. HasMemoryFor l c.loop-plan.stock c.loop-plan.out) plans inv.memory) used;
      size = used.size ∙ inv.size;
      pages = e.pages ∙ inv.pages;
      logs = e.logs ∙ inv.logs;
      rooms = e.rooms ∙ inv.rooms;
      stops = e.stops ∙ inv.stops;
      calm = λ f none.
          subst (λ m. NoneFails (g.S.Storage.failing c.tell_one.new.s) m f) inv.view.me (e.calm f (subst (λ m. NoneFails (g.S.Storage.failing c.loop-plan.s) m f) (sym inv.view.me) (inv.calm f none)));
      counts = λ k. let a = e.counts k in let b = inv.counts k in omega (arith, a, b);
      plans_len = omega (arith, pl, pw, ps);
      ends_len = omega (arith, el, ew, er);
      rest = λ ps cs told.
          sym (each_done (tell_end c.args.tx) c.in-Some-next.end es (work_of (node_of c.loop-plan.parts) ps cs c.loop-plan.out) (work_of (node_of c.tell_one.new.parts) ps cs c.tell_one.new.out) _ (c.in-Ok.ensures.comes ps cs (inv.pages ∙ told)))
          ∙ sym (ap (λ l. for_each (tell_end c.args.tx) l (work_of (node_of c.loop-plan.parts) ps cs c.loop-plan.out)) ends) ∙ inv.rest ps cs told;
    }

pub returns-clause-comes : goal.returns-clause-comes
returns-clause-comes g c = λ ps cs told.
    let gone : into_iter_len c.loop-plan.plans ≡ 0 = c.in_default.ensures.cases.0 in
    let was = c.loop-plan.invariant.plans_len in
    let empty : into_iter_items c.loop-plan.plans ≡ [] = none_left _ (omega (arith, gone, was)) in
    let over = ends_over (node_of c.loop-plan.parts) c.loop-plan.parts.me c.args.tx (into_iter_items c.loop-plan.ends) (into_iter_items c.loop-plan.plans) empty c.loop-plan.invariant.awaits.plans in
    goes (for_each (tell_end c.args.tx) c.args.ends.items (work_of (node_of c.args.parts.now) ps cs c.args.out.now)) (work_of (node_of c.loop-plan.parts) ps cs c.loop-plan.out) (tt {0})
    (sym (c.loop-plan.invariant.rest ps cs told) ∙ told_over (tell_end c.args.tx) (into_iter_items c.loop-plan.ends) (work_of (node_of c.loop-plan.parts) ps cs c.loop-plan.out) over)

pub returns-clause-parts : goal.returns-clause-parts
returns-clause-parts g c =
    let gone : into_iter_len c.loop-plan.plans ≡ 0 = c.in_default.ensures.cases.0 in
    let was = c.loop-plan.invariant.plans_len in
    let empty : into_iter_items c.loop-plan.plans ≡ [] = none_left _ (omega (arith, gone, was)) in
    let over = ends_over (node_of c.loop-plan.parts) c.loop-plan.parts.me c.args.tx (into_iter_items c.loop-plan.ends) (into_iter_items c.loop-plan.plans) empty c.loop-plan.invariant.awaits.plans in
    all_told_parts c.loop-plan.parts c.args.tx (map due (into_iter_items c.loop-plan.ends)) (into_iter_items c.loop-plan.plans) (ap (map due) over) c.loop-plan.invariant.awaits
