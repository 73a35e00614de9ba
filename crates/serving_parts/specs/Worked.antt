-- What a step comes to over a disk.
use Rattle.std.specs.Prelude.{ℕ, List, Option, Result, Ok, Err, ⊤}
use Rattle.run_rules.specs.Disk.{Disk}
use Rattle.node_rules.specs.NodeState.{NodeState, NodeEvent}
use Rattle.node_parts.specs.declared.fault.StepFault.{StepFault}
use Rattle.node_parts.specs.declared.fault.StepFault.TheVariants.{NoMemory, Halted, Differs}
use Rattle.frame_rules.specs.WrittenFrames.{halted_text, differs_text}
use Rattle.serving_parts.specs.Sides.{Store}
use Rattle.serving_parts.specs.Works.{GoesOn, EndsBy}

-- what a step comes to, where its replies and sends give a text
abbrev pub Worked : {X : Type 0} → ℕ → NodeState → Disk → Option NodeEvent → List ℕ → NodeState → Store → Store → Result X StepFault → Type 0
Worked me n d asked text later old new (Ok x) = GoesOn me n d asked text later old new
Worked me n d asked text later old new (Err NoMemory) = ⊤
Worked me n d asked text later old new (Err (Halted call kept)) =
    EndsBy me n d asked (halted_text (record { call = call; kept = kept })) 6 old new
Worked me n d asked text later old new (Err (Differs page expected found)) =
    EndsBy me n d asked (differs_text page expected found) 10 old new
