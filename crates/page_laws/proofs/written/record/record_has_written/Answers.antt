use Rattle.page_laws.proofs.WrittenParts.Logging.{record_has_written_law}
use Rattle.page_laws.proofs.written.record.record_has_written.Goals as goal

pub returns : goal.returns
returns c = record_has_written_law
