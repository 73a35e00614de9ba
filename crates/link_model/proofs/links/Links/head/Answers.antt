use Rattle.std.proofs.Common.{◌∙◌, ap}
use Rattle.node_rules.specs.Words.{head_of}
use Rattle.link_model.proofs.LinksLemmas.{link_is}
use Rattle.link_model.proofs.links.Links.head.Goals as goal

pub returns : goal.returns
returns c = c.head.ensures ∙ ap head_of (link_is _ _ c.self.view_is c.args.from c.args.to c.index.result.now c.requires.sender c.index.ensures)
