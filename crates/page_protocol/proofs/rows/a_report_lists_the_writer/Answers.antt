use Rattle.std.proofs.Common.{refl}
use Rattle.page_protocol.specs.Authority.{granting}
use Rattle.page_protocol.specs.Eras.{reporting}
use Rattle.page_protocol.specs.Homes.{asking, accepting, writing}
use Rattle.page_protocol.proofs.rows.a_report_lists_the_writer.Goals as goal

pub returns : goal.returns
unfolding asking granting accepting writing reporting
returns c = refl
