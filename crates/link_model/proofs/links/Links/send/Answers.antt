use Rattle.std.proofs.Common.{◌++◌, ◌∷◌, [], ◌+◌, ◌≤◌}
use Rattle.link_model.proofs.RowLemmas.{on_ok, on_err}
use Rattle.link_model.proofs.LinksLemmas.{changed_links, links_kept, changed_spares, changed_spare}
use Rattle.link_model.proofs.links.Links.send.Goals as goal

pub returns-clause-ok : goal.returns-clause-ok
returns-clause-ok c =
    on_ok c.send.result (λ h. changed_links _ _ c.self.view_is c.args.from c.args.to c.index_mut-row.result.now c.send.new.self (λ v. v ++ c.args.m ∷ []) c.requires.sender c.index_mut-row.ensures.value h) c.send.ensures.ok

pub returns-clause-spares : goal.returns-clause-spares
returns-clause-spares c =
    record {
      others = changed_spares _ _ c.self.view_is c.args.from c.args.to c.index_mut-row.result.now c.send.new.self c.requires.sender c.index_mut-row.ensures.value c.send.ensures.others;
      one = changed_spare _ _ c.self.view_is (λ x y. x ≤ y + 1) c.args.from c.args.to c.index_mut-row.result.now c.send.new.self c.requires.sender c.index_mut-row.ensures.value c.send.ensures.one;
    }

pub returns-clause-err : goal.returns-clause-err
returns-clause-err c =
    on_err c.send.result (λ h. links_kept _ _ c.self.view_is c.args.from c.index_mut-row.result.now c.send.new.self c.index_mut-row.ensures.value h) c.send.ensures.err
