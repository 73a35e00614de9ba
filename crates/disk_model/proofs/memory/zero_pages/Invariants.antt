use Rattle.std.proofs.Common.{◌≡◌, replicate}
use Rattle.disk_model.proofs.memory.zero_pages.Given as goal

abbrev pub invariant-loop-page : goal.invariant-loop-page
invariant-loop-page l = l.pages.items ≡ replicate l._page (replicate l.size 0)
