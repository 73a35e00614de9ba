use Rattle.page_protocol.proofs.Used.{later_used}
use Rattle.page_protocol.proofs.laws.later_eras_list_who_accessed.Goals as goal

pub returns : goal.returns
returns c = later_used
