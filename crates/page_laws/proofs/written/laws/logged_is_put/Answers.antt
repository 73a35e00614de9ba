use Rattle.page_laws.proofs.WrittenParts.Differing.{logged_is_put_law}
use Rattle.page_laws.proofs.written.laws.logged_is_put.Goals as goal

pub returns : goal.returns
returns c = logged_is_put_law
