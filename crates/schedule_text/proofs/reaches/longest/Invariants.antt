use Rattle.std.proofs.Common.{◌≡◌, ◌≤◌}
use Rattle.text_rules.specs.LineForms.{longest as longest_spec}
use Rattle.schedule_text.proofs.reaches.longest.Given as goal

-- no front above the count is a number
abbrev pub invariant-loop-count : goal.invariant-loop-count
invariant-loop-count l =
    record {
      most : l.count ≤ l.most;
      value : longest_spec l.high l.count l.bytes ≡ longest_spec l.high l.most l.bytes;
    }

abbrev pub decreases-loop-count : goal.decreases-loop-count
decreases-loop-count l = l.count
