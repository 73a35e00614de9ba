use Rattle.page_protocol.proofs.Keeps.{reached_holds}
use Rattle.page_protocol.proofs.Promises.{alone_law}
use Rattle.page_protocol.proofs.laws.one_writer_or_readers.Goals as goal

pub returns : goal.returns
returns c = λ blank a r t. alone_law blank a (reached_holds blank a r) t
