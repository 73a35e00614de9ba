use Rattle.page_laws.proofs.EntryParts.Decided.{locked_is_seen_law, given_is_seen_law, marked_is_seen_law}
use Rattle.page_laws.proofs.entry.settling.decisions_are_seen.Goals as goal

pub returns-clause-locked : goal.returns-clause-locked
returns-clause-locked c = locked_is_seen_law

pub returns-clause-given : goal.returns-clause-given
returns-clause-given c = given_is_seen_law

pub returns-clause-marked : goal.returns-clause-marked
returns-clause-marked c = marked_is_seen_law
