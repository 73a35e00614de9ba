use Rattle.std.proofs.Common.{◌≡◌, Option, Some, None, ap, slice_index_or}
use Rattle.disk_model.specs.declared.stop.Stop.{Stop}
use Rattle.pcl_base.specs.declared.trace.Call.TheVariants.{Write, Force}
use Rattle.disk_model.specs.Stops.{Stops}
use Rattle.home.specs.Device.{Told}
use Rattle.step_ends.specs.Rows.{stop}
use Rattle.step_ends.proofs.rows.row_of_ends.Goals as goal

-- the first stop that is told
abbrev first_of : Stops → Option Stop
first_of None = None
first_of (Some l) = slice_index_or l 0 None

pub returns : goal.returns
returns c =
    record {
      not_well = λ bad. absurd bad;
      other_numbers = λ same. let bad : 3 ≡ 4 = same.2 in absurd (cc);
      no_stop = λ bad. absurd (cc);
      no_halt = λ bad. absurd bad;
      no_page = λ bad. absurd bad;
      was_stopped = λ bad. absurd bad;
      other_call = λ h. let bad : Force ≡ Write = h.same_call in absurd (cc);
      stop_stays = λ h. let bad : Some (stop 1) ≡ None = ap (λ (t : Told). first_of t.stops) h.told in absurd (cc);
    }
