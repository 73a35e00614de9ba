use Rattle.std.proofs.Common.{refl}
use Rattle.page_protocol.specs.Authority.{granting, releasing, losing}
use Rattle.page_protocol.specs.Eras.{crashing, falling, reporting, completing}
use Rattle.page_protocol.specs.Homes.{asking, accepting, reading, writing, committing_reads, committing}
use Rattle.page_protocol.proofs.MoreRuns.{survivor_run}
use Rattle.page_protocol.proofs.more_rows.a_survivor_commits_before_its_report.Goals as goal

pub returns-clause-run : goal.returns-clause-run
returns-clause-run c = (1, 1, survivor_run)

pub returns-clause-page : goal.returns-clause-page
unfolding granting releasing losing crashing falling reporting completing asking accepting reading writing committing_reads committing
returns-clause-page c = refl

pub returns-clause-read : goal.returns-clause-read
unfolding granting releasing losing crashing falling reporting completing asking accepting reading writing committing_reads committing
returns-clause-read c = refl

pub returns-clause-entry : goal.returns-clause-entry
unfolding granting releasing losing crashing falling reporting completing asking accepting reading writing committing_reads committing
returns-clause-entry c = refl

pub returns-clause-disk : goal.returns-clause-disk
unfolding granting releasing losing crashing falling reporting completing asking accepting reading writing committing_reads committing
returns-clause-disk c = refl

pub returns-clause-log : goal.returns-clause-log
unfolding granting releasing losing crashing falling reporting completing asking accepting reading writing committing_reads committing
returns-clause-log c = refl

pub returns-clause-writer : goal.returns-clause-writer
unfolding granting releasing losing crashing falling reporting completing asking accepting reading writing committing_reads committing
returns-clause-writer c = refl
