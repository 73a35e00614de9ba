use Rattle.std.proofs.Common.{ap, ◌∙◌}
use Rattle.node_rules.specs.OpenTxs.{locks_of}
use Rattle.home.specs.Parts.{PartsView}
use Rattle.home.proofs.Committing.{pages_are}
use Rattle.home.proofs.parts.Parts.pages_written.Goals as goal

pub returns : goal.returns
returns c =
    pages_are c.args.self.now.home c.args.tx _ _ _ c.requires.home c.requires.none (c.locks.ensures.value ∙ ap (λ (v : PartsView). locks_of v.home.txs c.args.tx) c.self.view_is) c.in_ok-pages.ensures
    c.sort_unstable.ensures.sorted c.sort_unstable.ensures.permutation
