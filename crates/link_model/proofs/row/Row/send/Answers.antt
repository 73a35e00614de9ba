use Rattle.std.proofs.Common.{◌++◌, ◌∷◌, [], ◌+◌, ◌≤◌}
use Rattle.link_model.proofs.RowLemmas.{on_ok, on_err, link_messages, link_kept, link_spares, link_spare}
use Rattle.link_model.proofs.row.Row.send.Goals as goal

pub returns-clause-ok : goal.returns-clause-ok
returns-clause-ok c =
    on_ok c.send.result (λ h. link_messages _ _ c.self.view_is c.args.to c.index_mut-link.result.now c.send.new.self (λ v. v ++ c.args.m ∷ []) c.requires c.index_mut-link.ensures.value h) c.send.ensures.ok

pub returns-clause-others : goal.returns-clause-others
returns-clause-others c = link_spares _ _ c.self.view_is c.args.to c.send.new.self c.requires

pub returns-clause-one : goal.returns-clause-one
returns-clause-one c = link_spare _ _ c.self.view_is (λ x y. x ≤ y + 1) c.args.to c.index_mut-link.result.now c.send.new.self c.requires c.index_mut-link.ensures.value c.send.ensures.spare

pub returns-clause-err : goal.returns-clause-err
returns-clause-err c =
    on_err c.send.result (λ h. link_kept _ _ c.self.view_is c.args.to c.index_mut-link.result.now c.send.new.self c.index_mut-link.ensures.value h) c.send.ensures.err
