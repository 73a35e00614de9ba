use Rattle.std.proofs.Common.{refl}
use Rattle.page_protocol.specs.Authority.{granting, giving, releasing_change}
use Rattle.page_protocol.specs.Eras.{crashing, falling, reporting, joining, completing}
use Rattle.page_protocol.specs.Homes.{asking, accepting, taking_right, reading, writing, committing}
use Rattle.page_protocol.proofs.MoreRuns.{anew_run}
use Rattle.page_protocol.proofs.more_rows.a_node_comes_back.Goals as goal

pub returns-clause-run : goal.returns-clause-run
returns-clause-run c = (1, 1, anew_run)

pub returns-clause-page : goal.returns-clause-page
unfolding granting giving releasing_change crashing falling reporting joining completing asking accepting taking_right reading writing committing
returns-clause-page c = refl

pub returns-clause-read : goal.returns-clause-read
unfolding granting giving releasing_change crashing falling reporting joining completing asking accepting taking_right reading writing committing
returns-clause-read c = refl

pub returns-clause-entry : goal.returns-clause-entry
unfolding granting giving releasing_change crashing falling reporting joining completing asking accepting taking_right reading writing committing
returns-clause-entry c = refl

pub returns-clause-right : goal.returns-clause-right
unfolding granting giving releasing_change crashing falling reporting joining completing asking accepting taking_right reading writing committing
returns-clause-right c = refl

pub returns-clause-owner : goal.returns-clause-owner
unfolding granting giving releasing_change crashing falling reporting joining completing asking accepting taking_right reading writing committing
returns-clause-owner c = refl

pub returns-clause-era : goal.returns-clause-era
unfolding granting giving releasing_change crashing falling reporting joining completing asking accepting taking_right reading writing committing
returns-clause-era c = refl

pub returns-clause-log : goal.returns-clause-log
unfolding granting giving releasing_change crashing falling reporting joining completing asking accepting taking_right reading writing committing
returns-clause-log c = refl
