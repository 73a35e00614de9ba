use Rattle.std.proofs.Common.{refl}
use Rattle.page_protocol.specs.Authority.{granting}
use Rattle.page_protocol.specs.Homes.{asking, accepting, writing, committing}
use Rattle.page_protocol.proofs.rows.a_commit_is_logged_at_its_node.Goals as goal

pub returns-clause-log : goal.returns-clause-log
unfolding asking granting accepting writing committing
returns-clause-log c = refl

pub returns-clause-others : goal.returns-clause-others
unfolding asking granting accepting writing committing
returns-clause-others c = refl

pub returns-clause-home : goal.returns-clause-home
unfolding asking granting accepting writing committing
returns-clause-home c = refl

pub returns-clause-entry : goal.returns-clause-entry
unfolding asking granting accepting writing committing
returns-clause-entry c = refl
