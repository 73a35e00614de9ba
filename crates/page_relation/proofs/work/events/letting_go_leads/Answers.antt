use Rattle.page_relation.proofs.WorkParts.Letting.{letting_go_leads_law}
use Rattle.page_relation.proofs.work.events.letting_go_leads.Goals as goal

pub returns : goal.returns
returns c = letting_go_leads_law
