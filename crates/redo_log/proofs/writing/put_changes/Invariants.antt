use Rattle.std.proofs.Common.{◌≡◌, ◌++◌, map, drop}
use Rattle.std.specs.List.{concat}
use Rattle.text_rules.specs.LogRecord.{logged_bytes}
use Rattle.redo_log.proofs.writing.put_changes.Given as goal

-- what was written before what is left to be written is all of it
abbrev pub invariant-loop-logged : goal.invariant-loop-logged
invariant-loop-logged l =
    l.out.items ++ concat (map logged_bytes (drop l.logged-index l.changes)) ≡ l.initial.out.items ++ concat (map logged_bytes l.changes)
