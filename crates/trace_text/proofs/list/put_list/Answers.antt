use Rattle.trace_text.proofs.ListLemmas.{list_written, on_ok}
use Rattle.trace_text.proofs.list.put_list.Goals as goal

pub returns-in_ok-put-in-Some : goal.returns-in_ok-put-in-Some
returns-in_ok-put-in-Some g c =
    on_ok c.put_others.result c.put_others.ensures (λ others. list_written g.T.Item.text _ _ _ _ _ _ c.in-Some.ensures.cases.0 c.in_ok-put-in-Some.ensures others)
