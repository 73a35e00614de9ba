use Rattle.node_parts.proofs.Places.{made_again, is_ok}
use Rattle.node_parts.proofs.tables.make_in.Goals as goal

pub returns-clause-made : goal.returns-clause-made
returns-clause-made c =
    made_again c.args.table.now _ c.args.page c.in_ok-_entry._entry.now c.in_ok-_entry.ensures.value
    (c.entry.follows.holds c.in_ok-_entry._entry.now (is_ok c.entry.result c.in_ok-_entry._entry c.in_ok-_entry.was))
