use Rattle.std.proofs.Common.{◌≡◌, ◌++◌, map, drop}
use Rattle.cluster_rules.specs.Clusters.{sent_by}
use Rattle.trace_entries.specs.Notes.{HasMemory}
use Rattle.trace_entries.proofs.notes.Notes.of.Given as goal

-- the notes so far before those of what is left are all notes, and there is memory for what is left
abbrev pub invariant-loop-outgoing : goal.invariant-loop-outgoing
invariant-loop-outgoing l = record {
  sent : l.notes.sent ++ map (sent_by l.from) (drop l.outgoing-index l.sends) ≡ l.fn.self.sent ++ map (sent_by l.from) l.sends;
  memory : HasMemory l.notes (drop l.outgoing-index l.sends);
}
