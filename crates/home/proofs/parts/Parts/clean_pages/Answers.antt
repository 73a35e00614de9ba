use Rattle.std.proofs.Common.{◌∙◌, ◌<◌, length, ap, sym, subst}
use Rattle.std.specs.List.{All}
use Rattle.node_rules.specs.BufferRule.{Pool}
use Rattle.node_rules.specs.InstallRule.{clean_slots}
use Rattle.home.specs.Parts.{PartsView, parts_of}
use Rattle.home.proofs.parts.Parts.clean_pages.Goals as goal

pub clean_pages-requires : goal.clean_pages-requires
clean_pages-requires c = subst (λ (v : PartsView). All (λ s. s.page < v.home.config.pages) v.home.pool.slots) (sym c.self.view_is) c.requires

pub returns : goal.returns
returns c =
    ap (λ (b : Pool). parts_of c.self.inside.config c.self.inside.me c.self.inside.txs c.self.inside.shelf b c.self.inside.written (length c.self.inside.replies.items)) c.clean_pages.ensures
    ∙ ap (λ (v : PartsView). let w : PartsView = record v { home = record (v.home) { pool = record (v.home.pool) { slots = clean_slots v.home.config c.args.partition v.home.pool.slots } } } in w) c.self.view_is
