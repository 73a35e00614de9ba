use Rattle.page_laws.proofs.WrittenParts.Logging.{commit_is_logged_law}
use Rattle.page_laws.proofs.written.record.commit_is_logged.Goals as goal

pub returns : goal.returns
returns c = commit_is_logged_law
