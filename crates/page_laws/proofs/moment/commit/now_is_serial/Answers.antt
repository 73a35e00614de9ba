use Rattle.page_laws.proofs.MomentParts.Committing.{now_is_serial_law}
use Rattle.page_laws.proofs.moment.commit.now_is_serial.Goals as goal

pub returns : goal.returns
returns c = now_is_serial_law
