use Rattle.std.proofs.Common.{ap, sym, ◌∙◌}
use Rattle.node_rules.specs.OpenTxs.{pending_of, waits_on, add}
use Rattle.node_rules.specs.NodeState.{HomeState}
use Rattle.node_rules.specs.AccessRule.{write_of}
use Rattle.home.proofs.Ended.{locked_after, locked_answer, performed_txs}
use Rattle.home.proofs.parts.Parts.finish.Goals as goal

pub lock-requires : goal.lock-requires
lock-requires c =
    ap (λ v. waits_on (pending_of v.home.txs c.args.tx) c.args.lock.page) c.do_waiting-reply.ensures.home
    ∙ ap (λ s. waits_on (pending_of s c.args.tx) c.args.lock.page) (performed_txs c.args.tx c.args.lock.page (write_of (pending_of c.args.self.now.home.txs c.args.tx)) c.args.self.now.home)
    ∙ c.requires.may.waits

pub returns-clause-home : goal.returns-clause-home
returns-clause-home c =
    ap (λ v. v.home) c.lock.ensures
    ∙ ap (λ v. let k : HomeState = v.home in record k { txs = add k.txs c.args.tx c.args.lock }) c.do_waiting-reply.ensures.home
    ∙ sym (locked_after c.args.tx c.args.lock (write_of (pending_of c.args.self.now.home.txs c.args.tx)) c.args.self.now.home)

pub returns-clause-reply : goal.returns-clause-reply
returns-clause-reply c =
    c.do_waiting-reply.ensures.reply ∙ sym (locked_answer c.args.tx c.args.lock (write_of (pending_of c.args.self.now.home.txs c.args.tx)) c.args.self.now.home)
