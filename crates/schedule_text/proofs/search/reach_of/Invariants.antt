use Rattle.std.proofs.Common.{◌≡◌, ◌≤◌, length, drop}
use Rattle.text_rules.specs.LineForms.{reach_of as reach_spec, behind}
use Rattle.schedule_text.specs.Pieces.{form_of}
use Rattle.schedule_text.proofs.search.reach_of.Given as goal

-- the pieces so far were whole, and the others go on behind them
abbrev pub invariant-loop-piece : goal.invariant-loop-piece
invariant-loop-piece l =
    record {
      most : l.count ≤ length l.bytes;
      rest : behind l.count (reach_spec (form_of (drop l.piece-index l.form)) (drop l.count l.bytes)) ≡ reach_spec (form_of l.form) l.bytes;
    }
