use Rattle.std.proofs.Common.{◌∷◌, ◌+◌, ◌≤◌}
use Rattle.link_model.proofs.LinksLemmas.{changed_links, changed_spares, changed_spare}
use Rattle.link_model.proofs.links.Links.put_back.Goals as goal

pub returns-clause-links : goal.returns-clause-links
returns-clause-links c = changed_links _ _ c.self.view_is c.args.from c.args.to c.index_mut-row.result.now c.put_back.new.self (λ v. c.args.m ∷ v) c.requires.sender c.index_mut-row.ensures.value c.put_back.ensures.messages

pub returns-clause-spares : goal.returns-clause-spares
returns-clause-spares c =
    record {
      others = changed_spares _ _ c.self.view_is c.args.from c.args.to c.index_mut-row.result.now c.put_back.new.self c.requires.sender c.index_mut-row.ensures.value c.put_back.ensures.others;
      one = changed_spare _ _ c.self.view_is (λ x y. x ≤ y + 1) c.args.from c.args.to c.index_mut-row.result.now c.put_back.new.self c.requires.sender c.index_mut-row.ensures.value c.put_back.ensures.one;
    }
