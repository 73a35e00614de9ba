use Rattle.std.proofs.Common.{ap, sym, ◌∙◌, map}
use Rattle.home.specs.Commits.{told}
use Rattle.home.proofs.Recorded.{commit_leaves, commit_endings}
use Rattle.home.proofs.parts.Parts.commit.Goals as goal

pub returns-clause-endings : goal.returns-clause-endings
returns-clause-endings g c = c.in_ok-ends.ensures ∙ ap (map told) (sym (commit_endings c.args.self.now.home c.args.tx))

pub returns-clause-home : goal.returns-clause-home
returns-clause-home g c = c.finish_commit.ensures.home ∙ sym (commit_leaves c.args.self.now.home c.args.tx)
