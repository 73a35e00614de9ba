-- The cells made hold the first base.
use Rattle.std.proofs.Common.{◌≡◌, replicate, rules, arith}
use Rattle.pcl_model.proofs.CellLemmas.{kept-first}
use Rattle.pcl_model.proofs.base.Base.open.Goals as goal

pub returns-clause-pages : goal.returns-clause-pages
returns-clause-pages c =
    let zeros : c.in_ok-zeros.zeros.items ≡ replicate c.args.config.now.size 0 = search rules in
    let pages : c.loop.counter ≡ c.args.config.now.pages = omega arith in
    kept-first c.args.config.now c.in_ok-zeros.zeros.items c.loop.cells.items c.loop.counter zeros c.loop.invariant.made pages
