use Rattle.std.specs.Result.{result_err}
use Rattle.std.proofs.Common.{ap, sym, refl, ◌∙◌}
use Rattle.home.specs.Commits.{logs_done, stops_done, failing_done}
use Rattle.home.proofs.Recorded.{no_calls, none_written, some_written, logs_as, stops_as, failing_as}
use Rattle.home.proofs.parts.Parts.log_commit.Goals as goal

pub returns-then-is_empty-clause-logs : goal.returns-then-is_empty-clause-logs
returns-then-is_empty-clause-logs g c =
    let none = none_written c.args.self.now.home c.args.tx c.args.pages.now c.requires.pages (sym c.is_empty.ensures ∙ c.if-is_empty.true) in
    sym (ap (logs_done c.args.self.now.home.txs.node _) (no_calls c.args.self.now.home c.args.tx none))

pub returns-then-is_empty-clause-stops : goal.returns-then-is_empty-clause-stops
returns-then-is_empty-clause-stops g c =
    let none = none_written c.args.self.now.home c.args.tx c.args.pages.now c.requires.pages (sym c.is_empty.ensures ∙ c.if-is_empty.true) in
    sym (ap (stops_done c.args.self.now.home.txs.node _) (no_calls c.args.self.now.home c.args.tx none))

pub returns-then-is_empty-clause-failing : goal.returns-then-is_empty-clause-failing
returns-then-is_empty-clause-failing g c =
    let none = none_written c.args.self.now.home c.args.tx c.args.pages.now c.requires.pages (sym c.is_empty.ensures ∙ c.if-is_empty.true) in
    sym (ap (failing_done c.args.self.now.home.txs.node _) (no_calls c.args.self.now.home c.args.tx none))

pub returns-clause-logs : goal.returns-clause-logs
returns-clause-logs g c =
    let some = some_written c.args.self.now.home c.args.tx c.args.pages.now c.requires.pages (sym c.is_empty.ensures ∙ c.if-is_empty.false) in
    logs_as c.args.self.now.home c.args.tx _ _ _ _ _ _ some refl c.force_record.ensures.logs

pub returns-clause-stops : goal.returns-clause-stops
returns-clause-stops g c =
    let some = some_written c.args.self.now.home c.args.tx c.args.pages.now c.requires.pages (sym c.is_empty.ensures ∙ c.if-is_empty.false) in
    c.force_record.ensures.stops ∙ stops_as c.args.self.now.home c.args.tx (result_err c.force_record.result) c.args.self.now.home.txs.node _ some

pub returns-clause-failing : goal.returns-clause-failing
returns-clause-failing g c =
    let some = some_written c.args.self.now.home c.args.tx c.args.pages.now c.requires.pages (sym c.is_empty.ensures ∙ c.if-is_empty.false) in
    c.force_record.ensures.failing ∙ failing_as c.args.self.now.home c.args.tx (result_err c.force_record.result) c.args.self.now.home.txs.node _ some
