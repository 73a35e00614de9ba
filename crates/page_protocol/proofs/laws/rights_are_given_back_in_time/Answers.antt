use Rattle.page_protocol.proofs.GivenBack.{in_time}
use Rattle.page_protocol.proofs.laws.rights_are_given_back_in_time.Goals as goal

pub returns : goal.returns
returns c = in_time
