-- The laws are lemmas.
use Rattle.replay_laws.proofs.LineSizes.{event_fits, header_fits}
use Rattle.replay_laws.proofs.laws.lines_are_short.Goals as goal

pub returns : goal.returns
returns c =
    record {
      event_length = λ e has. (event_fits e has).0;
      event_newline = λ e has. (event_fits e has).1;
      header_length = λ h has. (header_fits h has).0;
      header_newline = λ h has. (header_fits h has).1;
    }
