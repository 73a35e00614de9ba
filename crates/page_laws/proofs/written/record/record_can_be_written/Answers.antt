use Rattle.page_laws.proofs.WrittenParts.Logging.{record_can_be_written_law}
use Rattle.page_laws.proofs.written.record.record_can_be_written.Goals as goal

pub returns : goal.returns
returns c = record_can_be_written_law
