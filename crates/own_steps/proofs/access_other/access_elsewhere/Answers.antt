use Rattle.std.proofs.Common.{false, Ok, Err, IfErr, ap, sym, subst, ◌∙◌}
use Rattle.pcl_base.specs.declared.reply.Reply.TheVariants as reply
use Rattle.node_rules.specs.NodeState.{page_owner}
use Rattle.home.specs.Asked.{asked, next_as}
use Rattle.home.specs.Device.{told_by, work_on}
use Rattle.home.specs.declared.access.Next.{Next}
use Rattle.home_laws.proofs.Allowed.{allowed}
use Rattle.node_parts.specs.Comes.{work_of}
use Rattle.node_parts.specs.State.{PartsView, node_of}
use Rattle.node_parts.specs.contracts.parts.Parts
use Rattle.own_steps.specs.Calls.{IsWriteFault, access_by, access_calls}
use Rattle.own_steps.proofs.Accessing.{access_now, access_sent, comes_as, comes_seen, false_true, goes, leaves_as, left_work, put_behind}
use Rattle.own_steps.proofs.Asked.{IsOwnNext, never_own}
use Rattle.own_steps.proofs.Framed.{access_same, access_writes}
use Rattle.own_steps.proofs.Made.{step_fault, step_leaves}
use Rattle.own_steps.proofs.Worked.{after_same, early, leaves_seen, parts_seen, same_seen}
use Rattle.own_steps.proofs.access_other.access_elsewhere.Goals.{in-Err, in-Ok-Now, in-Ok-Send}
use Rattle.own_steps.proofs.access_other.access_elsewhere.Goals as goal

pub page_owner-to-requires-clause-page : goal.page_owner-to-requires-clause-page
page_owner-to-requires-clause-page g c = (allowed (asked c.args.a.now) c.args.parts.now.home c.requires.none).page

pub unreachable-requires : goal.unreachable-requires
unreachable-requires g c =
    false_true
    (sym (never_own (asked c.args.a.now) (work_on c.parts.inside.home))
    ∙ ap IsOwnNext (sym (ap next_as (sym c.in-Ok-AskOwn.field-0-is) ∙ c.in-Ok-AskOwn.ensures.next)))

pub returns-clause-comes : goal.returns-clause-comes
returns-clause-comes g c = λ ps cs told.
    comes_seen _ c.args.parts.now c.parts.view_is false (asked c.args.a.now) ps cs c.args.out.now c.match-access.out c.access.new.self c.match-access.result
    (elim c.match-access.branch [
      | in-Err w ↦
          comes_as c.match-access.result (Err w.halt.result) (access_by false (asked c.args.a.now) (work_of (node_of (Parts.the_view c.parts.inside)) ps cs c.args.out.now)) (left_work _ c.args.parts.now c.parts.view_is false (asked c.args.a.now) ps cs c.args.out.now c.match-access.out c.access.new.self (access_calls false (asked c.args.a.now) c.parts.inside.home)) w.result-is
          (early Next (Unit {0}) c.parts.inside.home.txs.node (access_calls false (asked c.args.a.now) c.parts.inside.home) (told_by (g.S.Storage.pages c.args.s.now) (g.S.Storage.logs c.args.s.now) (g.S.Storage.stops c.args.s.now)) (told_by (g.S.Storage.pages c.access.new.s) (g.S.Storage.logs c.access.new.s) (g.S.Storage.stops c.access.new.s)) w.in-Err.fault w.halt.result (access_by false (asked c.args.a.now) (work_of (node_of (Parts.the_view c.parts.inside)) ps cs c.args.out.now)) (left_work _ c.args.parts.now c.parts.view_is false (asked c.args.a.now) ps cs c.args.out.now c.match-access.out c.access.new.self (access_calls false (asked c.args.a.now) c.parts.inside.home)) w.halt.ensures w.in-Err.ensures.made)
      | in-Ok-Now w ↦
          comes_as c.match-access.result (Ok (tt {0})) (access_by false (asked c.args.a.now) (work_of (node_of (Parts.the_view c.parts.inside)) ps cs c.args.out.now)) (left_work _ c.args.parts.now c.parts.view_is false (asked c.args.a.now) ps cs c.args.out.now c.match-access.out c.access.new.self (access_calls false (asked c.args.a.now) c.parts.inside.home)) w.result-is
          (goes (access_by false (asked c.args.a.now) (work_of (node_of (Parts.the_view c.parts.inside)) ps cs c.args.out.now)) (left_work _ c.args.parts.now c.parts.view_is false (asked c.args.a.now) ps cs c.args.out.now c.match-access.out c.access.new.self (access_calls false (asked c.args.a.now) c.parts.inside.home)) (tt {0})
          (access_now false (asked c.args.a.now) (node_of (Parts.the_view c.parts.inside)) ps cs c.args.out.now w.in-Ok-Now.reply c.access.new.self c.match-access.out
          (ap next_as (sym w.in-Ok-Now.field-0-is) ∙ w.in-Ok-Now.ensures.next) w.in-Ok-Now.ensures.home
          (ap (λ o. o.replies) w.out-is ∙ put_behind c.args.out.now.replies _ _ w.in-Ok-Now.reply w.reply.ensures.replies c.in_ok-reserve.ensures.replies)
          (ap (λ o. o.sends) w.out-is ∙ w.reply.ensures.sends ∙ c.in_ok-reserve.ensures.sends)))
      | in-Ok-Send w ↦
          comes_as c.match-access.result (Ok (tt {0})) (access_by false (asked c.args.a.now) (work_of (node_of (Parts.the_view c.parts.inside)) ps cs c.args.out.now)) (left_work _ c.args.parts.now c.parts.view_is false (asked c.args.a.now) ps cs c.args.out.now c.match-access.out c.access.new.self (access_calls false (asked c.args.a.now) c.parts.inside.home)) w.result-is
          (goes (access_by false (asked c.args.a.now) (work_of (node_of (Parts.the_view c.parts.inside)) ps cs c.args.out.now)) (left_work _ c.args.parts.now c.parts.view_is false (asked c.args.a.now) ps cs c.args.out.now c.match-access.out c.access.new.self (access_calls false (asked c.args.a.now) c.parts.inside.home)) (tt {0})
          (access_sent false (asked c.args.a.now) (node_of (Parts.the_view c.parts.inside)) ps cs c.args.out.now w.in-Ok-Send.request c.access.new.self c.page_owner-to.result c.match-access.out
          (ap next_as (sym w.in-Ok-Send.field-0-is) ∙ w.in-Ok-Send.ensures.next) w.in-Ok-Send.ensures.home
          (c.page_owner-to.ensures ∙ ap (λ (z : PartsView). page_owner (node_of z) c.args.a.now.page) (sym c.parts.view_is))
          (ap (λ o. o.replies) w.out-is ∙ w.send.ensures.replies ∙ put_behind c.args.out.now.replies _ _ (reply.Waits c.args.a.now.tx c.args.a.now.page) w.reply-in-Ok-Send.ensures.replies c.in_ok-reserve.ensures.replies)
          (ap (λ o. o.sends) w.out-is ∙ put_behind c.args.out.now.sends _ _ _ w.send.ensures.sends (w.reply-in-Ok-Send.ensures.sends ∙ c.in_ok-reserve.ensures.sends))))
    ])

pub returns-clause-made : goal.returns-clause-made
returns-clause-made g c =
    leaves_seen _ c.args.parts.now c.match-access.result (access_calls false (asked c.args.a.now)) (told_by (g.S.Storage.pages c.args.s.now) (g.S.Storage.logs c.args.s.now) (g.S.Storage.stops c.args.s.now)) (told_by (g.S.Storage.pages c.access.new.s) (g.S.Storage.logs c.access.new.s) (g.S.Storage.stops c.access.new.s)) c.parts.view_is
    (elim c.match-access.branch [
      | in-Err w ↦
          leaves_as c.match-access.result (Err w.halt.result) c.parts.inside.home.txs.node (access_calls false (asked c.args.a.now) c.parts.inside.home) (told_by (g.S.Storage.pages c.args.s.now) (g.S.Storage.logs c.args.s.now) (g.S.Storage.stops c.args.s.now)) (told_by (g.S.Storage.pages c.access.new.s) (g.S.Storage.logs c.access.new.s) (g.S.Storage.stops c.access.new.s)) w.result-is
          (step_leaves Next (Unit {0}) c.parts.inside.home.txs.node (access_calls false (asked c.args.a.now) c.parts.inside.home) (told_by (g.S.Storage.pages c.args.s.now) (g.S.Storage.logs c.args.s.now) (g.S.Storage.stops c.args.s.now)) (told_by (g.S.Storage.pages c.access.new.s) (g.S.Storage.logs c.access.new.s) (g.S.Storage.stops c.access.new.s)) (access_writes (asked c.args.a.now) false c.parts.inside.home) w.in-Err.fault w.halt.result w.halt.ensures w.in-Err.ensures.made)
      | in-Ok-Now w ↦ leaves_as c.match-access.result (Ok (tt {0})) c.parts.inside.home.txs.node (access_calls false (asked c.args.a.now) c.parts.inside.home) (told_by (g.S.Storage.pages c.args.s.now) (g.S.Storage.logs c.args.s.now) (g.S.Storage.stops c.args.s.now)) (told_by (g.S.Storage.pages c.access.new.s) (g.S.Storage.logs c.access.new.s) (g.S.Storage.stops c.access.new.s)) w.result-is w.in-Ok-Now.ensures.made
      | in-Ok-Send w ↦ leaves_as c.match-access.result (Ok (tt {0})) c.parts.inside.home.txs.node (access_calls false (asked c.args.a.now) c.parts.inside.home) (told_by (g.S.Storage.pages c.args.s.now) (g.S.Storage.logs c.args.s.now) (g.S.Storage.stops c.args.s.now)) (told_by (g.S.Storage.pages c.access.new.s) (g.S.Storage.logs c.access.new.s) (g.S.Storage.stops c.access.new.s)) w.result-is w.in-Ok-Send.ensures.made
    ])

pub returns-clause-parts : goal.returns-clause-parts
returns-clause-parts g c =
    parts_seen _ c.args.parts.now c.access.new.self c.parts.view_is c.requires.parts
    (after_same c.access.result c.parts.inside.home _ c.access.new.self c.access.ensures.home (access_same (asked c.args.a.now) false c.parts.inside.home))

pub returns-clause-same : goal.returns-clause-same
returns-clause-same g c =
    same_seen _ c.args.parts.now c.access.new.self c.parts.view_is
    (after_same c.access.result c.parts.inside.home _ c.access.new.self c.access.ensures.home (access_same (asked c.args.a.now) false c.parts.inside.home))

pub returns-clause-fault : goal.returns-clause-fault
returns-clause-fault g c =
    elim c.match-access.branch [
      | in-Err w ↦
          subst (λ r. IfErr r IsWriteFault) (sym w.result-is)
          (step_fault Next (Unit {0}) c.parts.inside.home.txs.node (access_calls false (asked c.args.a.now) c.parts.inside.home) (told_by (g.S.Storage.pages c.args.s.now) (g.S.Storage.logs c.args.s.now) (g.S.Storage.stops c.args.s.now)) (told_by (g.S.Storage.pages c.access.new.s) (g.S.Storage.logs c.access.new.s) (g.S.Storage.stops c.access.new.s)) (access_writes (asked c.args.a.now) false c.parts.inside.home) w.in-Err.fault w.halt.result w.halt.ensures w.in-Err.ensures.made)
      | in-Ok-Now w ↦ subst (λ r. IfErr r IsWriteFault) (sym w.result-is) tt
      | in-Ok-Send w ↦ subst (λ r. IfErr r IsWriteFault) (sym w.result-is) tt
    ]
