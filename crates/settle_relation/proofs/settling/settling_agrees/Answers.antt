use Rattle.settle_relation.proofs.Agreeing.{settle_agrees}
use Rattle.settle_relation.proofs.settling.settling_agrees.Goals as goal

pub returns : goal.returns
returns c = λ b d e n p blank w a k expected found acts order low reached related midway entered. settle_agrees b d e n p acts order low blank w a reached related (midway, entered) k expected found
