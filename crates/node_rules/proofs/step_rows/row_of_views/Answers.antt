use mathlib.Core.Path.{refl}
use Rattle.node_rules.proofs.Opened.{node_rules}
use Rattle.node_rules.proofs.step_rows.row_of_views.Goals as goal

pub returns : goal.returns
unfolding node_rules
returns c =
    record {
      redoes = refl;
      serves_what_was_redone = refl;
      waits_for_a_report = refl;
      grants_nothing_before = refl;
      late_grant = refl;
    }
