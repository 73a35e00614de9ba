-- What the commit leaves stays.
use Rattle.pcl_model.proofs.CellLemmas.{next-set}
use Rattle.pcl_model.proofs.work.keep_step.Goals as goal

pub returns-in-Write-clause-next : goal.returns-in-Write-clause-next
returns-in-Write-clause-next c zeros =
    next-set zeros c.args.cells.now c.in-Write.page c.index-cells-page.result c.keep.new.self c.keep.ensures.idle (c.keep.ensures.next zeros)
