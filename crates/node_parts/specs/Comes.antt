-- What the answer of a part of a step says of the rule that it carries out.
use Rattle.std.specs.Prelude.{◌≡◌, ℕ, List, Result, Ok, Err, ⊤}
use Rattle.node_rules.specs.DiskCalls.{DiskCall}
use Rattle.node_rules.specs.NodeState.{NodeState}
use Rattle.node_rules.specs.Work.{Work, Outcome, Goes, Differs as differs}
use Rattle.node_parts.specs.Outputs.{OutputsView}
use Rattle.node_parts.specs.declared.fault.StepFault.{StepFault}
use Rattle.node_parts.specs.declared.fault.StepFault.TheVariants.{NoMemory, Halted, Differs}

-- a step in the making, with the pages and calls so far
abbrev pub work_of : NodeState → List (List ℕ) → List DiskCall → OutputsView → Work
work_of n pages calls out =
    record { node = n; pages = pages; calls = calls; replies = out.replies; sends = out.sends }

-- a part of a step comes to what its rule comes to; where it wants memory or halts, other clauses tell
-- what is left
abbrev pub Comes : {T : Type 0} → Outcome Work → Result T StepFault → Work → Type 0
Comes (Goes w) (Ok x) after = w ≡ after
Comes (Goes w) (Err (Differs page expected found)) after = ⊥
Comes (differs p e f) (Ok x) after = ⊥
Comes (differs p e f) (Err (Differs page expected found)) after = (p ≡ page) × (e ≡ expected) × (f ≡ found)
Comes _ (Err NoMemory) after = ⊤
Comes _ (Err (Halted call kept)) after = ⊤
