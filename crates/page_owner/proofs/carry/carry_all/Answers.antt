use Rattle.std.proofs.Common.{rules, ◌≡◌, Err, sym, subst, ◌∙◌, arith}
use Rattle.node_rules.specs.Work.{for_each}
use Rattle.node_rules.specs.OwnerRule.{carry_out}
use Rattle.node_parts.specs.Comes.{Comes}
use Rattle.page_owner.specs.Carry.{work_with}
use Rattle.page_owner.proofs.Carrying.{each_step, each_failed, each_done}
use Rattle.page_owner.proofs.carry.carry_all.Goals as goal

pub returns-in_err-carry-clause-told : goal.returns-in_err-carry-clause-told
returns-in_err-carry-clause-told g c = λ n ps cs epoch told.
    let l = c.loop-decision in
    let same : c.from_residual.result ≡ Err c.in_err-carry.field-0.0 = search rules in
    subst (λ r. Comes {T = Unit {0}} (for_each (carry_out c.args.at.page c.args.at.version) c.args.decisions.now (work_with n c.args.home.now ps cs c.args.out.now)) r (work_with n c.carry.new.home ps cs c.carry.new.out)) (sym same)
    (each_failed (carry_out c.args.at.page c.args.at.version) c.args.decisions.now l.decision-index
    (work_with n c.args.home.now ps cs c.args.out.now) (work_with n l.home ps cs l.out) (work_with n c.carry.new.home ps cs c.carry.new.out)
    (l.invariant.rest n ps cs epoch told) (Unit {0}) (Unit {0}) _ _ c.loop-decision-test.true (c.in_err-carry.ensures.told n ps cs epoch (l.invariant.pages ∙ told)))

pub loop-decision-preserved : goal.loop-decision-preserved
loop-decision-preserved g c =
    let l = c.loop-decision in
    let e = c.carry.ensures in
    let used = e.used in
    let memory = l.invariant.memory in
    let i = used.images in
    let r = used.replies in
    let s = used.sends in
    let mi = memory.images in
    let mr = memory.replies in
    let ms = memory.sends in
    record {
      same = record { config = e.same.config ∙ l.invariant.same.config; node = e.same.node ∙ l.invariant.same.node; born = e.same.born ∙ l.invariant.same.born };
      pages = e.pages ∙ l.invariant.pages;
      logs = e.logs ∙ l.invariant.logs;
      rooms = e.rooms ∙ l.invariant.rooms;
      stops = e.stops ∙ l.invariant.stops;
      calm = λ f none. e.calm f (l.invariant.calm f none);
      counts = λ k. let a = e.counts k in let b = l.invariant.counts k in omega (arith, a, b);
      size = used.size ∙ l.invariant.size;
      memory = record { images = omega (arith, i, mi); replies = omega (arith, r, mr); sends = omega (arith, s, ms) };
      within = let inside = c.loop-decision-test.true in omega (arith, inside);
      used = let before = l.invariant.used in
          let bi = before.images in
          let br = before.replies in
          let bs = before.sends in
          record { size = used.size ∙ before.size; images = omega (arith, i, bi); replies = omega (arith, r, br); sends = omega (arith, s, bs) };
      rest = λ n ps cs epoch told.
          each_step (carry_out c.args.at.page c.args.at.version) c.args.decisions.now l.decision-index
          (work_with n c.args.home.now ps cs c.args.out.now) (work_with n l.home ps cs l.out) (work_with n c.carry.new.home ps cs c.carry.new.out)
          (l.invariant.rest n ps cs epoch told) _ _ c.loop-decision-test.true (c.in_ok-carry.ensures.told n ps cs epoch (l.invariant.pages ∙ told));
    }

pub returns-clause-told : goal.returns-clause-told
returns-clause-told g c = λ n ps cs epoch told.
    let l = c.loop-decision in
    each_done (carry_out c.args.at.page c.args.at.version) c.args.decisions.now l.decision-index
    (work_with n c.args.home.now ps cs c.args.out.now) (work_with n l.home ps cs l.out) (work_with n l.home ps cs l.out)
    (l.invariant.rest n ps cs epoch told) (tt {0}) (let out = c.loop-decision-test.false in omega (arith, out))
