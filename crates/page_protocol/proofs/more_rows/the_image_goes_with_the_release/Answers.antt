use Rattle.std.proofs.Common.{refl}
use Rattle.page_protocol.specs.Authority.{granting, releasing, releasing_change}
use Rattle.page_protocol.specs.Homes.{asking, accepting, reading, writing, committing_reads, committing}
use Rattle.page_protocol.proofs.MoreRuns.{image_run}
use Rattle.page_protocol.proofs.more_rows.the_image_goes_with_the_release.Goals as goal

pub returns-clause-run : goal.returns-clause-run
returns-clause-run c = (1, 1, image_run)

pub returns-clause-page : goal.returns-clause-page
unfolding granting releasing releasing_change asking accepting reading writing committing_reads committing
returns-clause-page c = refl

pub returns-clause-read : goal.returns-clause-read
unfolding granting releasing releasing_change asking accepting reading writing committing_reads committing
returns-clause-read c = refl

pub returns-clause-entry : goal.returns-clause-entry
unfolding granting releasing releasing_change asking accepting reading writing committing_reads committing
returns-clause-entry c = refl

pub returns-clause-disk : goal.returns-clause-disk
unfolding granting releasing releasing_change asking accepting reading writing committing_reads committing
returns-clause-disk c = refl

pub returns-clause-reader : goal.returns-clause-reader
unfolding granting releasing releasing_change asking accepting reading writing committing_reads committing
returns-clause-reader c = refl

pub returns-clause-writer : goal.returns-clause-writer
unfolding granting releasing releasing_change asking accepting reading writing committing_reads committing
returns-clause-writer c = refl
