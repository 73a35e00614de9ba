use Rattle.std.proofs.Common.{◌≡◌, ◌≤◌, ◌+◌, ◌-◌, length, drop}
use Rattle.text_rules.specs.LineForms.{shared as shared_spec}
use Rattle.schedule_text.proofs.reaches.shared.Given as goal

-- what is shared so far, and what behind it
abbrev pub invariant-loop-count : goal.invariant-loop-count
invariant-loop-count l =
    record {
      word : l.count ≤ length l.word;
      bytes : l.count ≤ length l.bytes;
      value : l.count + shared_spec (drop l.count l.word) (drop l.count l.bytes) ≡ shared_spec l.word l.bytes;
    }

abbrev pub decreases-loop-count : goal.decreases-loop-count
decreases-loop-count l = length l.word - l.count
