use Rattle.std.proofs.Common.{◌∙◌, ◌++◌, ◌+◌, ap, sym, drop}
use Rattle.pcl_base.specs.declared.lock.Held.{Held}
use Rattle.pcl_base.specs.declared.lock.Kind.TheVariants.{Own}
use Rattle.pcl_base.specs.declared.tx.Mode.TheVariants.{Shared}
use Rattle.node_rules.specs.Reports.{locks_in}
use Rattle.rebuild.proofs.Listed.{locks_listed, locks_past, locks_end}
use Rattle.rebuild.proofs.reporting.add_locks.Goals as goal
use Rattle.rebuild.proofs.reporting.add_locks.Goals.{then-lists+in_ok-push, else-lists}

pub loop-lock-preserved : goal.loop-lock-preserved
loop-lock-preserved c =
    let s = c.args.scope.now in
    let hs = c.args.held.now in
    let i = c.loop-lock.lock-index in
    let d : Held = record { page = 0; mode = Shared; kind = Own } in
    elim c.if-lists.branch [
      | then-lists+in_ok-push w ↦
          ap (λ l. l ++ locks_in s.config s.partition s.all c.args.tx (drop (i + 1) hs)) w.locks-is
          ∙ (locks_listed s.config s.partition s.all c.args.tx hs i d c.loop-lock.locks w.push.new.self c.loop-lock-test.true (sym c.lists.ensures ∙ w.if-lists.true) w.in_ok-push.ensures.ok
          ∙ c.loop-lock.invariant)
      | else-lists w ↦
          ap (λ l. l ++ locks_in s.config s.partition s.all c.args.tx (drop (i + 1) hs)) w.locks-is
          ∙ (locks_past s.config s.partition s.all c.args.tx hs i d c.loop-lock.locks c.loop-lock-test.true (sym c.lists.ensures ∙ w.if-lists.false)
          ∙ c.loop-lock.invariant)
    ]

pub returns : goal.returns
returns c =
    let s = c.args.scope.now in
    locks_end s.config s.partition s.all c.args.tx c.args.held.now c.loop-lock.lock-index c.loop-lock.locks c.loop-lock-test.false ∙ c.loop-lock.invariant
