use Rattle.page_protocol.proofs.Used.{named_used}
use Rattle.page_protocol.proofs.laws.answers_name_who_accessed.Goals as goal

pub returns : goal.returns
returns c = named_used
