use Rattle.std.proofs.Common.{◌+◌, ◌≤◌}
use Rattle.cluster_rules.specs.Links.{tail_of}
use Rattle.link_model.proofs.RowLemmas.{link_messages, link_spares, link_spare}
use Rattle.link_model.proofs.row.Row.take.Goals as goal

pub returns-clause-rest : goal.returns-clause-rest
returns-clause-rest c = link_messages _ _ c.self.view_is c.args.to c.index_mut-link.result.now c.take.new.self tail_of c.requires c.index_mut-link.ensures.value c.take.ensures.rest

pub returns-clause-others : goal.returns-clause-others
returns-clause-others c = link_spares _ _ c.self.view_is c.args.to c.take.new.self c.requires

pub returns-clause-one : goal.returns-clause-one
returns-clause-one c = λ some. link_spare _ _ c.self.view_is (λ x y. x + 1 ≤ y) c.args.to c.index_mut-link.result.now c.take.new.self c.requires c.index_mut-link.ensures.value (c.take.ensures.spare some)
