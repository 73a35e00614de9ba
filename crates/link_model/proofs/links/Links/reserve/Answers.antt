use Rattle.link_model.proofs.LinksLemmas.{kept_links, lower_in_none, spares_of_row}
use Rattle.link_model.proofs.links.Links.reserve.Goals as goal

pub returns-in_err-reserve-clause-links : goal.returns-in_err-reserve-clause-links
returns-in_err-reserve-clause-links c = kept_links _ _ c.self.view_is c.args.from c.index_mut-row.result.now c.reserve.new.self c.requires c.index_mut-row.ensures.value c.reserve.ensures.messages

pub returns-in_err-reserve-clause-spares : goal.returns-in_err-reserve-clause-spares
returns-in_err-reserve-clause-spares c = lower_in_none _ _ c.self.view_is c.args.from c.index_mut-row.result.now c.reserve.new.self c.requires c.index_mut-row.ensures.value c.reserve.ensures.spares

pub returns-clause-links : goal.returns-clause-links
returns-clause-links c = kept_links _ _ c.self.view_is c.args.from c.index_mut-row.result.now c.reserve.new.self c.requires c.index_mut-row.ensures.value c.reserve.ensures.messages

pub returns-clause-ok : goal.returns-clause-ok
returns-clause-ok c = λ b below. spares_of_row _ _ c.self.view_is c.args.from b c.index_mut-row.result.now c.reserve.new.self c.args.n c.requires c.index_mut-row.ensures.value c.in_ok-reserve.ensures.ok below

pub returns-clause-spares : goal.returns-clause-spares
returns-clause-spares c = lower_in_none _ _ c.self.view_is c.args.from c.index_mut-row.result.now c.reserve.new.self c.requires c.index_mut-row.ensures.value c.reserve.ensures.spares
