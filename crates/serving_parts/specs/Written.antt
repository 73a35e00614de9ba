-- What writing leaves of the sink, by how it ends.
use Rattle.std.specs.Prelude.{◌≡◌, ℕ, List, Option, Result, Ok, Err}
use Rattle.std.specs.Io.KnownBytes.{Appends}
use Rattle.pcl_base.specs.Faults.{Rose}
use Rattle.node_frames.specs.Written.{AppendsPart}
use Rattle.serving_parts.specs.declared.end.End.{End}
use Rattle.serving_parts.specs.declared.end.End.TheVariants.{Decided, Source, Sink, Memory}

-- the whole text was written, or a beginning of it: then the sink failed, or memory is wanted
abbrev pub Wrote : {X : Type 0} → Option (List ℕ) → Option (List ℕ) → ℕ → ℕ → List ℕ → Result X End → Type 0
Wrote old new sink sink' text (Ok x) = Appends old new text
Wrote old new sink sink' text (Err (Decided status)) = ⊥
Wrote old new sink sink' text (Err Source) = ⊥
Wrote old new sink sink' text (Err Sink) = Rose sink sink' × AppendsPart old new text
Wrote old new sink sink' text (Err Memory) = AppendsPart old new text

-- the same of the last text, which comes with a status
abbrev pub WroteLast : ℕ → Option (List ℕ) → Option (List ℕ) → ℕ → ℕ → List ℕ → End → Type 0
WroteLast status old new sink sink' text (Decided s) = (s ≡ status) × Appends old new text
WroteLast status old new sink sink' text Source = ⊥
WroteLast status old new sink sink' text Sink = Rose sink sink' × AppendsPart old new text
WroteLast status old new sink sink' text Memory = AppendsPart old new text
