use Rattle.std.proofs.Common.{rules, ◌≡◌, Ok, Err, sym, subst, ◌∙◌, arith}
use Rattle.node_rules.specs.Work.{for_each}
use Rattle.install_laws.specs.InstallPlans.{carry_due}
use Rattle.node_parts.specs.Comes.{Comes}
use Rattle.page_owner.specs.Carry.{work_with}
use Rattle.page_owner.proofs.Carrying.{each_step, each_failed, each_done}
use Rattle.page_owner.proofs.Planned.{same_then}
use Rattle.partition_steps.proofs.dues.carry_dues.Goals as goal

pub loop-due-preserved : goal.loop-due-preserved
loop-due-preserved g c =
    let l = c.loop-due in
    let e = c.carry.ensures in
    let used = e.used in
    let memory = l.invariant.memory in
    let i = used.images in
    let r = used.replies in
    let s = used.sends in
    let mi = memory.images in
    let mr = memory.replies in
    let ms = memory.sends in
    record {
      same = same_then c.args.home.now l.home c.carry.new.home l.invariant.same e.same;
      listed = λ list is. e.listed list (l.invariant.listed list is);
      pages = e.pages ∙ l.invariant.pages;
      logs = e.logs ∙ l.invariant.logs;
      rooms = e.rooms ∙ l.invariant.rooms;
      stops = e.stops ∙ l.invariant.stops;
      calm = λ f none. e.calm f (l.invariant.calm f none);
      counts = λ k. let a = e.counts k in let b = l.invariant.counts k in omega (arith, a, b);
      size = used.size ∙ l.invariant.size;
      memory = record { images = omega (arith, i, mi); replies = omega (arith, r, mr); sends = omega (arith, s, ms) };
      within = let inside = c.loop-due-test.true in omega (arith, inside);
      used = let before = l.invariant.used in
          let bi = before.images in
          let br = before.replies in
          let bs = before.sends in
          record { size = used.size ∙ before.size; images = omega (arith, i, bi); replies = omega (arith, r, br); sends = omega (arith, s, bs) };
      rest = λ n ps cs epoch told.
          each_step carry_due c.args.dues.now l.due-index
          (work_with n c.args.home.now ps cs c.args.out.now) (work_with n l.home ps cs l.out) (work_with n c.carry.new.home ps cs c.carry.new.out)
          (l.invariant.rest n ps cs epoch told) c.due-item.result c.in_ok-carry.field-0 c.loop-due-test.true
          (subst (λ x. Comes {T = Unit {0}} (carry_due x (work_with n l.home ps cs l.out)) (Ok c.in_ok-carry.field-0) (work_with n c.carry.new.home ps cs c.carry.new.out)) (c.due.view_is ∙ c.due-item.is)
          (c.in_ok-carry.ensures.told n ps cs epoch (l.invariant.pages ∙ told)));
    }

pub returns-clause-told : goal.returns-clause-told
returns-clause-told g c = λ n ps cs epoch told.
    let l = c.loop-due in
    each_done carry_due c.args.dues.now l.due-index
    (work_with n c.args.home.now ps cs c.args.out.now) (work_with n l.home ps cs l.out) (work_with n l.home ps cs l.out)
    (l.invariant.rest n ps cs epoch told) (tt {0}) (let out = c.loop-due-test.false in omega (arith, out))

pub returns-in_err-carry-clause-told : goal.returns-in_err-carry-clause-told
returns-in_err-carry-clause-told g c = λ n ps cs epoch told.
    let l = c.loop-due in
    let same : c.from_residual.result ≡ Err c.in_err-carry.field-0.0 = search rules in
    subst (λ r. Comes {T = Unit {0}} (for_each carry_due c.args.dues.now (work_with n c.args.home.now ps cs c.args.out.now)) r (work_with n c.carry.new.home ps cs c.carry.new.out)) (sym same)
    (each_failed carry_due c.args.dues.now l.due-index
    (work_with n c.args.home.now ps cs c.args.out.now) (work_with n l.home ps cs l.out) (work_with n c.carry.new.home ps cs c.carry.new.out)
    (l.invariant.rest n ps cs epoch told) (Unit {0}) (Unit {0}) c.due-item.result c.in_err-carry.field-0.0 c.loop-due-test.true
    (subst (λ x. Comes {T = Unit {0}} (carry_due x (work_with n l.home ps cs l.out)) (Err c.in_err-carry.field-0.0) (work_with n c.carry.new.home ps cs c.carry.new.out)) (c.due.view_is ∙ c.due-item.is)
    (c.in_err-carry.ensures.told n ps cs epoch (l.invariant.pages ∙ told))))

pub returns-in_err-carry-clause-listed : goal.returns-in_err-carry-clause-listed
returns-in_err-carry-clause-listed g c = λ list is. c.carry.ensures.listed list (c.loop-due.invariant.listed list is)
