use mathlib.Core.Path.{refl}
use Rattle.cluster_rules.proofs.Opened.{cluster_rules}
use Rattle.cluster_laws.specs.Call.Calls.{log_calls}
use Rattle.cluster_laws.proofs.call.call_rows.row_of_calls.Goals as goal

pub returns : goal.returns
unfolding cluster_rules log_calls
returns c =
    record {
      written = refl;
      read = refl;
      torn_rest = refl;
      no_rest = refl;
      no_birth = refl;
      on_disk = refl;
      not_on_disk = refl;
      refused = refl;
    }
