use Rattle.std.proofs.Common.{rules, ◌≡◌, refl}
use Rattle.pcl_base.specs.declared.message.Body.TheVariants.{Request, Return}
use Rattle.pcl_base.specs.declared.reply.Reply.TheVariants.{Taken as taken}
use Rattle.node_rules.specs.Work.{reply}
use Rattle.node_parts.specs.Comes.{work_of}
use Rattle.node_parts.specs.State.{node_of}
use Rattle.page_owner.proofs.Delivering.{off_without}
use Rattle.page_owner.proofs.deliver.work_off.Goals as goal

pub returns-in-Request-clause-comes : goal.returns-in-Request-clause-comes
returns-in-Request-clause-comes g c = λ d ps cs told.
    let is : c.args.body.now ≡ Request c.in-Request.r = search rules in
    off_without d c.args.from (node_of c.args.parts.now) (node_of c.take_request.new.parts) (reply taken (work_of (node_of c.args.parts.now) ps cs c.args.out.now)) ps cs c.take_request.new.out c.take_request.result
    c.args.body.now (Request c.in-Request.r) is refl (c.take_request.ensures.comes ps cs told)

pub returns-in-Return-clause-comes : goal.returns-in-Return-clause-comes
returns-in-Return-clause-comes g c = λ d ps cs told.
    let is : c.args.body.now ≡ Return c.in-Return.r = search rules in
    off_without d c.args.from (node_of c.args.parts.now) (node_of c.take_return.new.parts) (reply taken (work_of (node_of c.args.parts.now) ps cs c.args.out.now)) ps cs c.take_return.new.out c.take_return.result
    c.args.body.now (Return c.in-Return.r) is refl (c.take_return.ensures.comes ps cs told)
