use Rattle.std.proofs.Common.{◌≡◌, length}
use Rattle.trace_entries.specs.Blanks.{AreReady}
use Rattle.trace_entries.proofs.notes.Notes.open.Given as goal

abbrev pub invariant-loop : goal.invariant-loop
invariant-loop l = record { ready : AreReady l.size l.blanks.items; count : length l.blanks.items ≡ l.counter }
