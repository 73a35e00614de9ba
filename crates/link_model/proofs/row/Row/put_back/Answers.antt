use Rattle.std.proofs.Common.{◌∷◌, ◌+◌, ◌≤◌}
use Rattle.link_model.proofs.RowLemmas.{link_messages, link_spares, link_spare}
use Rattle.link_model.proofs.row.Row.put_back.Goals as goal

pub returns-clause-messages : goal.returns-clause-messages
returns-clause-messages c = link_messages _ _ c.self.view_is c.args.to c.index_mut-link.result.now c.put_back.new.self (λ v. c.args.m ∷ v) c.requires.inside c.index_mut-link.ensures.value c.put_back.ensures.messages

pub returns-clause-others : goal.returns-clause-others
returns-clause-others c = link_spares _ _ c.self.view_is c.args.to c.put_back.new.self c.requires.inside

pub returns-clause-one : goal.returns-clause-one
returns-clause-one c = link_spare _ _ c.self.view_is (λ x y. x ≤ y + 1) c.args.to c.index_mut-link.result.now c.put_back.new.self c.requires.inside c.index_mut-link.ensures.value c.put_back.ensures.spare
