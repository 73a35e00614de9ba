use Rattle.std.proofs.Common.{ap, ◌∙◌}
use Rattle.std.specs.List.{list_all}
use Rattle.run_rules.specs.Causes.{writer_waits}
use Rattle.msg_account.specs.Kept.{Once}
use Rattle.msg_account.proofs.ListLemmas.{all_reverse}
use Rattle.msg_account.proofs.once.Once.all_wait.Goals as goal

pub returns : goal.returns
returns c =
    c.all_wait.ensures
    ∙ ap (list_all (writer_waits c.args.ledger.now c.args.n)) c.as_slice.ensures.value
    ∙ all_reverse (writer_waits c.args.ledger.now c.args.n) c.self.inside.revoked.items
    ∙ ap (λ (o : Once). list_all (writer_waits c.args.ledger.now c.args.n) o.revoked) c.self.view_is
