use Rattle.std.proofs.Common.{rules}
use Rattle.std.proofs.lemmas.Fn.{filter_same}
use Rattle.read_right.proofs.right.end_reader.Goals as goal

pub returns-clause-readers : goal.returns-clause-readers
returns-clause-readers c = filter_same _ _ _ (λ x b f call. search rules) _ _ c.retain.ensures.filtered
