-- The laws are lemmas.
use Rattle.replay_rules.specs.Due.{first_place}
use Rattle.replay_laws.proofs.Reading.{read-append}
use Rattle.replay_laws.proofs.WholeRuns.{begun_text}
use Rattle.replay_laws.proofs.laws.beginnings_are_kept.Goals as goal

pub returns : goal.returns
returns c = record { read = λ t a b. read-append t first_place a b; text = begun_text }
