use Rattle.page_protocol.proofs.Keeps.{reached_holds}
use Rattle.page_protocol.proofs.Promises.{logged_law}
use Rattle.page_protocol.proofs.laws.each_version_is_logged_once.Goals as goal

pub returns : goal.returns
returns c = λ blank a r. logged_law blank a (reached_holds blank a r)
