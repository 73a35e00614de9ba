use Rattle.settle_relation.proofs.Turns.{settle_keeps}
use Rattle.settle_relation.proofs.settling.settling_keeps.Goals as goal

pub returns : goal.returns
returns c = λ b d e n p r acts order low inside. settle_keeps b d e n p acts order low r inside
