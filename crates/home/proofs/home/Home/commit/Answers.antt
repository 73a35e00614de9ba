use Rattle.std.proofs.Common.{sym, ◌∙◌}
use Rattle.home_laws.proofs.EndNeeds.{commit_allowed}
use Rattle.home.proofs.Recorded.{logs_of_home, decided_of_home, commit_kept}
use Rattle.home.proofs.home.Home.commit.Goals as goal

pub commit-requires-clause-open : goal.commit-requires-clause-open
commit-requires-clause-open g c = (commit_allowed c.args.tx c.self.inside.parts.home (sym c.commit_refusal.ensures.answer ∙ c.in-None.is)).0

pub commit-requires-clause-waits : goal.commit-requires-clause-waits
commit-requires-clause-waits g c = (commit_allowed c.args.tx c.self.inside.parts.home (sym c.commit_refusal.ensures.answer ∙ c.in-None.is)).1

pub invariant_of-self : goal.invariant_of-self
invariant_of-self g c =
    let allowed = commit_allowed c.args.tx c.self.inside.parts.home (sym c.commit_refusal.ensures.answer ∙ c.in-None.is) in
    commit_kept c.commit.result c.self.inside.parts c.commit.new.self c.args.tx c.self.invariant allowed.0 allowed.1 c.commit.ensures.home c.commit.ensures.err c.commit.ensures.prepared

pub returns-in-None-clause-logs : goal.returns-in-None-clause-logs
returns-in-None-clause-logs g c = logs_of_home _ _ c.args.tx _ _ _ _ _ _ c.self.view_is c.commit.ensures.logs

pub returns-in-None-clause-decided : goal.returns-in-None-clause-decided
returns-in-None-clause-decided g c = decided_of_home _ _ c.args.tx _ _ _ _ _ c.self.view_is c.commit.ensures.decided
