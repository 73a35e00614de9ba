-- The laws are lemmas.
use Rattle.replay_laws.proofs.GoodLines.{input_read}
use Rattle.replay_laws.proofs.BadEnds.{all_ended, headless_told, outside_told}
use Rattle.replay_laws.proofs.laws.endings_are_told.Goals as goal

pub returns : goal.returns
returns c =
    record {
      run = λ t h s es rest ending header numbers has few ends. input_read t h s es rest ending header numbers has few ends (all_ended rest ending);
      headless = headless_told;
      outside = outside_told;
    }
