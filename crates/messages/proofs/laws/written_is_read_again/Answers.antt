use Rattle.messages.proofs.ReadAgain.{read_again}
use Rattle.messages.proofs.laws.written_is_read_again.Goals as goal

pub returns : goal.returns
returns c = read_again
