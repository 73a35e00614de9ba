use Rattle.std.proofs.Common.{◌≡◌, drop}
use Rattle.partition_steps.specs.Carried.{cleaned}
use Rattle.partition_steps.proofs.redo.clean_all.Given as goal

abbrev pub invariant-loop-page : goal.invariant-loop-page
invariant-loop-page l = record { rest : cleaned l.home (drop l.page-index l.pages) ≡ cleaned l.fn.home l.pages }
