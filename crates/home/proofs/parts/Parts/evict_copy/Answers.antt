use Rattle.std.proofs.Common.{ap, ◌∙◌, is_some}
use Rattle.node_rules.specs.BufferRule.{copy_at, pinned, dirty}
use Rattle.home.specs.Device.{work_on}
use Rattle.home.proofs.Victims.{written_back}
use Rattle.home.proofs.Kept.{evict_allowed}
use Rattle.home.proofs.parts.Parts.evict_copy.Goals as goal

pub evict-requires-clause-copy : goal.evict-requires-clause-copy
evict-requires-clause-copy g c =
    ap (λ v. is_some (copy_at v.home.pool c.args.page)) c.write_back-written.ensures.home
    ∙ (written_back c.args.page (work_on c.args.self.now.home)).copy
    ∙ (evict_allowed c.args.page c.args.self.now.home c.requires.none).0

pub evict-requires-clause-unpinned : goal.evict-requires-clause-unpinned
evict-requires-clause-unpinned g c =
    ap (λ v. pinned v.home.pool c.args.page) c.write_back-written.ensures.home
    ∙ (written_back c.args.page (work_on c.args.self.now.home)).pinned
    ∙ (evict_allowed c.args.page c.args.self.now.home c.requires.none).1

pub evict-requires-clause-clean : goal.evict-requires-clause-clean
evict-requires-clause-clean g c =
    ap (λ v. dirty v.home.pool c.args.page) c.write_back-written.ensures.home
    ∙ (written_back c.args.page (work_on c.args.self.now.home)).clean
