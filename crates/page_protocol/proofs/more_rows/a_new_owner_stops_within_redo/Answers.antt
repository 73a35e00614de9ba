use Rattle.std.proofs.Common.{refl}
use Rattle.page_protocol.specs.Authority.{granting, releasing, losing}
use Rattle.page_protocol.specs.Eras.{crashing, falling, reporting, completing}
use Rattle.page_protocol.specs.Homes.{asking, accepting, reading, writing, committing_reads, committing}
use Rattle.page_protocol.specs.Storage.{restoring}
use Rattle.page_protocol.proofs.MoreRuns.{written_run, unwritten_run}
use Rattle.page_protocol.proofs.more_rows.a_new_owner_stops_within_redo.Goals as goal

pub returns-clause-written : goal.returns-clause-written
returns-clause-written c = (1, 1, written_run 5)

pub returns-clause-unwritten : goal.returns-clause-unwritten
returns-clause-unwritten c = (1, 1, unwritten_run 6)

pub returns-clause-early : goal.returns-clause-early
unfolding granting releasing losing crashing falling reporting completing asking accepting reading writing committing_reads committing restoring
returns-clause-early c = refl

pub returns-clause-late : goal.returns-clause-late
unfolding granting releasing losing crashing falling reporting completing asking accepting reading writing committing_reads committing restoring
returns-clause-late c = refl

pub returns-clause-nobody : goal.returns-clause-nobody
unfolding granting releasing losing crashing falling reporting completing asking accepting reading writing committing_reads committing restoring
returns-clause-nobody c = refl

pub returns-clause-page : goal.returns-clause-page
unfolding granting releasing losing crashing falling reporting completing asking accepting reading writing committing_reads committing restoring
returns-clause-page c = refl

pub returns-clause-other : goal.returns-clause-other
unfolding granting releasing losing crashing falling reporting completing asking accepting reading writing committing_reads committing restoring
returns-clause-other c = refl

pub returns-clause-read : goal.returns-clause-read
unfolding granting releasing losing crashing falling reporting completing asking accepting reading writing committing_reads committing restoring
returns-clause-read c = refl

pub returns-clause-read_other : goal.returns-clause-read_other
unfolding granting releasing losing crashing falling reporting completing asking accepting reading writing committing_reads committing restoring
returns-clause-read_other c = refl

pub returns-clause-disk : goal.returns-clause-disk
unfolding granting releasing losing crashing falling reporting completing asking accepting reading writing committing_reads committing restoring
returns-clause-disk c = refl

pub returns-clause-writer : goal.returns-clause-writer
unfolding granting releasing losing crashing falling reporting completing asking accepting reading writing committing_reads committing restoring
returns-clause-writer c = refl
