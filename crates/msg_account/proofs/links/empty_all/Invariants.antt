use Rattle.std.proofs.Common.{◌≡◌, ◌++◌, List, map, take, drop, set, []}
use Rattle.pcl_base.specs.declared.trace.Note.{Note}
use Rattle.msg_account.proofs.links.empty_all.Given as goal

-- the rows so far, and what becomes of the others
abbrev pub invariant-loop-row : goal.invariant-loop-row
invariant-loop-row l =
    take l.row-index l.rows ++ map (λ (row : List (List Note)). set row l.to []) (drop l.row-index l.rows)
    ≡ map (λ (row : List (List Note)). set row l.to []) l.initial.rows
