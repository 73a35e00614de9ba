use Rattle.std.proofs.Common.{◌∙◌, [], ◌∷◌, None, ap, sym, is_some}
use Rattle.std.proofs.lemmas.List.{append-nil}
use Rattle.std.specs.Option.{option_copied}
use Rattle.pcl_base.specs.declared.lock.Kind.TheVariants.{Registered}
use Rattle.node_rules.specs.OpenTxs.{lock_on}
use Rattle.node_rules.specs.EndRule.{Ending}
use Rattle.home.specs.Parts.{PartsView}
use Rattle.home.proofs.Endings.{ends_whole, none_waits, waits_held, waits_free}
use Rattle.home.proofs.parts.Parts.endings.Goals as goal

pub returns-then-is_some : goal.returns-then-is_some
returns-then-is_some c =
    let waits = c.pending-waiting.ensures.value ∙ sym c.in-Some.ensures.value in
    let held = ap (λ l. is_some (lock_on l c.in-Some.access.now.page)) c.locks-locks.ensures.value ∙ (ap is_some (sym c.held.ensures) ∙ (sym c.is_some.ensures ∙ c.if-is_some.true)) in
    sym (append-nil c.loop-lock.ends.items)
    ∙ ends_whole c.args.self.now.home _ c.args.tx c.locks-locks.result.now (option_copied c.pending-waiting.result) c.loop-lock.lock-index c.loop-lock.ends.items []
    (ap (λ (v : PartsView). v.home) c.self.view_is) c.requires c.locks-locks.ensures.value c.pending-waiting.ensures.value c.loop-lock-test.false c.loop-lock.invariant
    (waits_held c.locks-locks.result.now (option_copied c.pending-waiting.result) c.in-Some.access.now waits held)

pub returns-in-None : goal.returns-in-None
returns-in-None c =
    let waits = c.pending-waiting.ensures.value ∙ sym c.in-None.ensures.value in
    sym (append-nil c.loop-lock.ends.items)
    ∙ ends_whole c.args.self.now.home _ c.args.tx c.locks-locks.result.now (option_copied c.pending-waiting.result) c.loop-lock.lock-index c.loop-lock.ends.items []
    (ap (λ (v : PartsView). v.home) c.self.view_is) c.requires c.locks-locks.ensures.value c.pending-waiting.ensures.value c.loop-lock-test.false c.loop-lock.invariant
    (none_waits c.locks-locks.result.now (option_copied c.pending-waiting.result) waits)

pub returns-in_ok-push-in-Some : goal.returns-in_ok-push-in-Some
returns-in_ok-push-in-Some c =
    let waits = c.pending-waiting.ensures.value ∙ sym c.in-Some.ensures.value in
    let held = ap (λ l. is_some (lock_on l c.in-Some.access.now.page)) c.locks-locks.ensures.value ∙ (ap is_some (sym c.held.ensures) ∙ (sym c.is_some.ensures ∙ c.if-is_some.false)) in
    let last : Ending = record { page = c.in-Some.access.now.page; kind = Registered; change = None } in
    c.in_ok-push-in-Some.ensures.items
    ∙ ends_whole c.args.self.now.home _ c.args.tx c.locks-locks.result.now (option_copied c.pending-waiting.result) c.loop-lock.lock-index c.loop-lock.ends.items (last ∷ [])
    (ap (λ (v : PartsView). v.home) c.self.view_is) c.requires c.locks-locks.ensures.value c.pending-waiting.ensures.value c.loop-lock-test.false c.loop-lock.invariant
    (waits_free c.locks-locks.result.now (option_copied c.pending-waiting.result) c.in-Some.access.now waits held)
