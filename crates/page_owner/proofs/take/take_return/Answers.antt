use Rattle.std.proofs.Common.{rules, false, refl}
use Rattle.pcl_base.specs.declared.reply.Reply.TheVariants.{Taken as taken}
use Rattle.node_rules.specs.LockRule.{returned}
use Rattle.node_rules.specs.Work.{reply}
use Rattle.node_parts.specs.Comes.{work_of}
use Rattle.node_parts.specs.State.{node_of}
use Rattle.page_owner.proofs.Taken.{none_comes, enter_none, enter_comes}
use Rattle.page_owner.proofs.take.take_return.Goals as goal

pub returns-in-Ok-None-clause-comes : goal.returns-in-Ok-None-clause-comes
returns-in-Ok-None-clause-comes g c = λ ps cs told.
    none_comes (node_of c.args.parts.now) ps cs c.args.out.now c.take_none.new.out taken _ c.take_none.result
    (enter_none c.args.parts.now c.args.r.now.page (λ e. returned e c.args.from c.args.r.now.readers) _ c.in-Ok-None.field-0 (reply taken (work_of (node_of c.args.parts.now) ps cs c.args.out.now)) refl (search rules) c.in-Ok-None.ensures)
    c.take_none.ensures.replies c.take_none.ensures.sends c.take_none.ensures.fault

pub returns-in-Ok-Some-clause-comes : goal.returns-in-Ok-Some-clause-comes
returns-in-Ok-Some-clause-comes g c = λ ps cs told.
    enter_comes c.args.parts.now c.args.r.now.page (λ e. returned e c.args.from c.args.r.now.readers) (λ t. false) c.in-Ok-Some.planned c.in-Ok-Some.field-0 c.requires.parts.number (search rules) c.in-Ok-Some.ensures
    c.take_planned.result _ _ refl (λ t there. c.take_planned.ensures.comes t ps cs there told)
