use Rattle.std.proofs.Common.{◌≤◌, ◌+◌, ap, arith}
use Rattle.redo_log.proofs.reader.Reader.ready.Goals as goal

pub returns-clause-there : goal.returns-clause-there
returns-clause-there g c =
    let place = ap (λ v. v.place) c.self.view_is in
    let end = ap (λ v. v.end) c.self.view_is in
    let within : c.args.self.now.place + c.args.count ≤ c.args.self.now.end = omega (arith, place, end, c.self.invariant.0, c.self.invariant.1) in
    omega (arith, c.in_ok-fill.ensures.enough c.args.count c.requires.small within, c.in_ok-fill.ensures.from)
