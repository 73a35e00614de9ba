-- The pages between scripts stay.
use Rattle.pcl_model.proofs.CellLemmas.{kept-set}
use Rattle.pcl_model.proofs.work.forget_step.Goals as goal

pub returns-in-Write-clause-kept : goal.returns-in-Write-clause-kept
returns-in-Write-clause-kept c zeros =
    kept-set zeros c.args.cells.now c.in-Write.page c.index-cells-page.result c.forget.new.self (c.forget.ensures.kept zeros)
