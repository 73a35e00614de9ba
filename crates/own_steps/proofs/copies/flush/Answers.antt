use Rattle.std.proofs.Common.{◌++◌, ◌∷◌, [], IfErr, ap, sym, subst, ◌∙◌}
use Rattle.pcl_base.specs.declared.reply.Reply.TheVariants as reply
use Rattle.home.specs.Device.{told_by, work_on}
use Rattle.node_rules.specs.NodeStep.{flush_copy}
use Rattle.node_rules.specs.Work.{Goes}
use Rattle.node_parts.specs.Comes.{Comes, work_of}
use Rattle.node_parts.specs.State.{node_of}
use Rattle.own_steps.specs.Calls.{IsWriteFault, LeavesCalls, flush_calls}
use Rattle.own_steps.proofs.Made.{back_writes, step_fault, step_leaves}
use Rattle.own_steps.proofs.Worked.{after_same, done_work, early, flush_done, flush_same, leaves_seen, parts_seen, same_seen}
use Rattle.own_steps.proofs.copies.flush.Goals.{in-Ok, in-Err}
use Rattle.own_steps.proofs.copies.flush.Goals as goal

pub returns-clause-comes : goal.returns-clause-comes
returns-clause-comes g c = λ ps cs.
    elim c.match-flush.branch [
      | in-Ok w ↦
          subst (λ r. Comes (Goes (flush_copy c.args.page (work_of (node_of c.args.parts.now) ps cs c.args.out.now))) r (done_work _ c.args.parts.now c.parts.view_is ps cs c.args.out.now c.match-flush.out c.flush.new.self (flush_calls c.args.page c.args.parts.now.home))) (sym w.result-is)
          (flush_done _ c.args.parts.now c.parts.view_is ps cs c.args.out.now c.match-flush.out c.flush.new.self c.args.page w.in-Ok.ensures.home
          (ap (λ o. o.replies) w.out-is ∙ w.reply.ensures.replies ∙ ap (λ l. l ++ reply.Flushed ∷ []) c.in_ok-reserve.ensures.replies)
          (ap (λ o. o.sends) w.out-is ∙ w.reply.ensures.sends ∙ c.in_ok-reserve.ensures.sends))
      | in-Err w ↦
          subst (λ r. Comes (Goes (flush_copy c.args.page (work_of (node_of c.args.parts.now) ps cs c.args.out.now))) r (done_work _ c.args.parts.now c.parts.view_is ps cs c.args.out.now c.match-flush.out c.flush.new.self (flush_calls c.args.page c.args.parts.now.home))) (sym w.result-is)
          (early (Unit {0}) (Unit {0}) c.parts.inside.home.txs.node (flush_calls c.args.page c.parts.inside.home) (told_by (g.S.Storage.pages c.args.s.now) (g.S.Storage.logs c.args.s.now) (g.S.Storage.stops c.args.s.now)) (told_by (g.S.Storage.pages c.flush.new.s) (g.S.Storage.logs c.flush.new.s) (g.S.Storage.stops c.flush.new.s)) w.in-Err.fault w.halt.result (Goes (flush_copy c.args.page (work_of (node_of c.args.parts.now) ps cs c.args.out.now)))
          (done_work _ c.args.parts.now c.parts.view_is ps cs c.args.out.now c.match-flush.out c.flush.new.self (flush_calls c.args.page c.args.parts.now.home)) w.halt.ensures w.in-Err.ensures.made)
    ]

pub returns-clause-made : goal.returns-clause-made
returns-clause-made g c =
    leaves_seen _ c.args.parts.now c.match-flush.result (flush_calls c.args.page) (told_by (g.S.Storage.pages c.args.s.now) (g.S.Storage.logs c.args.s.now) (g.S.Storage.stops c.args.s.now)) (told_by (g.S.Storage.pages c.flush.new.s) (g.S.Storage.logs c.flush.new.s) (g.S.Storage.stops c.flush.new.s)) c.parts.view_is
    (elim c.match-flush.branch [
      | in-Ok w ↦ subst (λ r. LeavesCalls c.parts.inside.home.txs.node r (flush_calls c.args.page c.parts.inside.home) (told_by (g.S.Storage.pages c.args.s.now) (g.S.Storage.logs c.args.s.now) (g.S.Storage.stops c.args.s.now)) (told_by (g.S.Storage.pages c.flush.new.s) (g.S.Storage.logs c.flush.new.s) (g.S.Storage.stops c.flush.new.s))) (sym w.result-is) w.in-Ok.ensures.made
      | in-Err w ↦
          subst (λ r. LeavesCalls c.parts.inside.home.txs.node r (flush_calls c.args.page c.parts.inside.home) (told_by (g.S.Storage.pages c.args.s.now) (g.S.Storage.logs c.args.s.now) (g.S.Storage.stops c.args.s.now)) (told_by (g.S.Storage.pages c.flush.new.s) (g.S.Storage.logs c.flush.new.s) (g.S.Storage.stops c.flush.new.s))) (sym w.result-is)
          (step_leaves (Unit {0}) (Unit {0}) c.parts.inside.home.txs.node (flush_calls c.args.page c.parts.inside.home) (told_by (g.S.Storage.pages c.args.s.now) (g.S.Storage.logs c.args.s.now) (g.S.Storage.stops c.args.s.now)) (told_by (g.S.Storage.pages c.flush.new.s) (g.S.Storage.logs c.flush.new.s) (g.S.Storage.stops c.flush.new.s)) (back_writes c.args.page (work_on c.parts.inside.home) tt) w.in-Err.fault w.halt.result w.halt.ensures w.in-Err.ensures.made)
    ])

pub returns-clause-parts : goal.returns-clause-parts
returns-clause-parts g c =
    parts_seen _ c.args.parts.now c.flush.new.self c.parts.view_is c.requires.parts
    (after_same c.flush.result c.parts.inside.home _ c.flush.new.self c.flush.ensures.home (flush_same c.args.page c.parts.inside.home))

pub returns-clause-same : goal.returns-clause-same
returns-clause-same g c =
    same_seen _ c.args.parts.now c.flush.new.self c.parts.view_is
    (after_same c.flush.result c.parts.inside.home _ c.flush.new.self c.flush.ensures.home (flush_same c.args.page c.parts.inside.home))

pub returns-clause-fault : goal.returns-clause-fault
returns-clause-fault g c =
    elim c.match-flush.branch [
      | in-Ok w ↦ subst (λ r. IfErr r IsWriteFault) (sym w.result-is) tt
      | in-Err w ↦
          subst (λ r. IfErr r IsWriteFault) (sym w.result-is)
          (step_fault (Unit {0}) (Unit {0}) _ _ _ _ (back_writes c.args.page (work_on c.parts.inside.home) tt) w.in-Err.fault w.halt.result w.halt.ensures w.in-Err.ensures.made)
    ]
