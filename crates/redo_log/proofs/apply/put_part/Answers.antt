use Rattle.std.proofs.Common.{arith}
use Rattle.std.proofs.lemmas.List.{length-drop}
use Rattle.redo_log.proofs.PuttingLemmas.{image_at}
use Rattle.redo_log.proofs.apply.put_part.Goals as goal

pub returns-then-whole-clause-ok : goal.returns-then-whole-clause-ok
returns-then-whole-clause-ok g c = λ log told.
    rw c.if-whole.true (image_at c.args.size _ _ _ _ c.copy.new.out c.args.raw.now (c.in_ok-copy.ensures.ok log told) (omega (arith, length-drop 16 c.args.raw.now)) (omega arith) c.requires.size)
