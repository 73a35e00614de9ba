use Rattle.std.proofs.Common.{◌++◌, ap, ◌∙◌, arith}
use Rattle.std.proofs.lemmas.List.{append-nil}
use Rattle.pcl_cli.specs.MakeText.{lines_of}
use Rattle.pcl_cli.proofs.PassLemmas.{passes_more, passes_on, passed_all, stopped}
use Rattle.pcl_cli.proofs.make.write_events.Goals as goal

pub loop-text-preserved : goal.loop-text-preserved
loop-text-preserved g c =
    let first = passes_more _ _ _ _ _ c.loop-text.invariant.passes c.in_ok-put_next.ensures.lines in
    record {
      later = omega (arith, c.loop-text.invariant.later, c.pass_on.ensures.later);
      passes = passes_on _ _ _ _ c.put_next.new.text.items c.pass_on.new.text.items (lines_of c.put_next.new.maker) first c.in_default.ensures.ok;
    }

pub returns-in-Err : goal.returns-in-Err
returns-in-Err g c =
    let first = passes_more _ _ _ _ _ c.loop-text.invariant.passes c.in_ok-put_next.ensures.lines in
    stopped _ _ _ _ _ _ _ c.put_next.new.text.items c.pass_on.new.text.items (lines_of c.put_next.new.maker) c.in-Err.stop first c.loop-text.invariant.later c.in-Err.ensures

pub returns : goal.returns
returns g c =
    let first = passes_more _ _ _ _ _ c.loop-text.invariant.passes c.in_ok-put_next.ensures.lines in
    passed_all _ _ _ _ _ _ _ c.put_next.new.text.items c.flush.result
    (passes_more _ _ _ _ _ first (ap (λ events. c.put_next.new.text.items ++ lines_of events) (c.in_ok-put_next.ensures.last c.if-branch.false) ∙ append-nil c.put_next.new.text.items))
    c.loop-text.invariant.later c.flush.ensures.passed
