use Rattle.std.proofs.Common.{◌≤◌, length, Err, ap, sym, subst, ◌∙◌, arith}
use Rattle.node_parts.specs.State.{PartsView, node_of}
use Rattle.own_steps.proofs.Refusing.{begin_few, begin_serial, begin_view}
use Rattle.own_steps.proofs.Worked.{begun_same, parts_seen, same_seen}
use Rattle.own_steps.proofs.open.begin.Goals as goal

pub begin-requires : goal.begin-requires
begin-requires c =
    subst (λ (v : PartsView). 1 ≤ v.home.txs.born) (sym c.parts.view_is)
    (c.requires.parts.node.born (begin_view (node_of c.args.parts.now) c.requires.none))

pub unreachable-requires : goal.unreachable-requires
unreachable-requires c =
    begin_serial (node_of c.args.parts.now) c.requires.none
    (ap (λ (v : PartsView). v.home.txs.last) (sym c.parts.view_is) ∙ c.in-Err-SerialEnd.ensures.serial_end.0 (ap Err c.in-Err-SerialEnd.field-0-is))

pub unreachable-requires-in-Err-TooMany : goal.unreachable-requires-in-Err-TooMany
unreachable-requires-in-Err-TooMany c =
    let few = begin_few (node_of c.args.parts.now) c.requires.none in
    let many = c.in-Err-TooMany.ensures.too_many (ap Err c.in-Err-TooMany.field-0-is) in
    let same = ap (λ (v : PartsView). length v.home.txs.txs) c.parts.view_is in
    omega (arith, few, many, same)

pub returns-clause-parts : goal.returns-clause-parts
returns-clause-parts c =
    parts_seen _ c.args.parts.now c.begin.new.self c.parts.view_is c.requires.parts
    (begun_same c.begin.result c.parts.inside.home c.begin.new.self c.begin.ensures.ok c.begin.ensures.err)

pub returns-clause-same : goal.returns-clause-same
returns-clause-same c =
    same_seen _ c.args.parts.now c.begin.new.self c.parts.view_is
    (begun_same c.begin.result c.parts.inside.home c.begin.new.self c.begin.ensures.ok c.begin.ensures.err)
