use Rattle.std.proofs.Common.{◌≡◌, ◌++◌, length, None, ap, sym, subst, ◌∙◌}
use Rattle.run_rules.specs.Views.{View}
use Rattle.home.specs.Device.{Told, told_by}
use Rattle.node_rules.specs.InstallRule.{install_view}
use Rattle.node_rules.specs.NodeState.{Install}
use Rattle.node_rules.specs.Refusals.{refusal}
use Rattle.node_rules.specs.Work.{Work}
use Rattle.node_parts.specs.Comes.{Comes, work_of}
use Rattle.node_parts.specs.State.{node_of}
use Rattle.page_owner.specs.Writes.{after_calls}
use Rattle.install_steps.specs.Calls.{LeavesCalls, install_calls}
use Rattle.install_steps.proofs.Answering.{call_comes, call_is_install, call_leaves, rooms_later, rooms_same, told_same, unless_known, work_is_install}
use Rattle.install_steps.proofs.Readying.{ready_kept}
use Rattle.install_steps.proofs.Started.{never_wants}
use Rattle.install_steps.proofs.installing.install.Goals as goal

pub carry_out-requires-clause-nodes : goal.carry_out-requires-clause-nodes
carry_out-requires-clause-nodes g c = ap (λ (v : View). length v.live) c.in-Ok.ensures.ready.view ∙ c.requires.nodes

pub carry_out-requires-clause-none : goal.carry_out-requires-clause-none
carry_out-requires-clause-none g c = subst (λ (v : View). refusal (node_of c.args.parts.now) (Install v) ≡ None) (sym c.in-Ok.ensures.ready.view) c.requires.none

pub carry_out-requires-clause-ready : goal.carry_out-requires-clause-ready
carry_out-requires-clause-ready g c = ready_kept c.args.parts.now c.args.view.now _ _ _ _ c.prepare.new.out c.in-Ok.ready c.prepare.ensures.pages c.prepare.ensures.logs c.in-Ok.ensures.ready

pub returns-in-Ok-clause-comes : goal.returns-in-Ok-clause-comes
returns-in-Ok-clause-comes g c = λ d cs stored told.
    let e = c.prepare.ensures in
    let n = node_of c.args.parts.now in
    subst (λ (v : View). Comes (install_view d v (work_of n d.pages cs c.args.out.now)) c.carry_out.result (work_of (node_of c.carry_out.new.parts) (after_calls d.pages (install_calls d v n)) (cs ++ install_calls d v n) c.carry_out.new.out)) c.in-Ok.ensures.ready.view
    (subst (λ r. Comes (install_view d c.in-Ok.ready.view r) c.carry_out.result (work_of (node_of c.carry_out.new.parts) (after_calls d.pages (install_calls d c.in-Ok.ready.view n)) (cs ++ install_calls d c.in-Ok.ready.view n) c.carry_out.new.out))
    (λ i. let w : Work = record { node = n; pages = d.pages; calls = cs; replies = e.lists.replies i; sends = e.lists.sends i } in w)
    (c.carry_out.ensures.comes d cs (e.pages ∙ stored) (e.logs ∙ told)))

pub returns-in-Ok-clause-made : goal.returns-in-Ok-clause-made
returns-in-Ok-clause-made g c = λ d stored told.
    let e = c.prepare.ensures in
    let n = node_of c.args.parts.now in
    subst (λ (v : View). LeavesCalls c.args.parts.now.me c.carry_out.result (install_calls d v n) (told_by (g.S.Storage.pages c.args.s.now) (g.S.Storage.logs c.args.s.now) (g.S.Storage.stops c.args.s.now)) (told_by (g.S.Storage.pages c.carry_out.new.s) (g.S.Storage.logs c.carry_out.new.s) (g.S.Storage.stops c.carry_out.new.s))) c.in-Ok.ensures.ready.view
    (subst (λ (t : Told). LeavesCalls c.args.parts.now.me c.carry_out.result (install_calls d c.in-Ok.ready.view n) t (told_by (g.S.Storage.pages c.carry_out.new.s) (g.S.Storage.logs c.carry_out.new.s) (g.S.Storage.stops c.carry_out.new.s)))
    (told_same _ _ _ _ _ _ e.pages e.logs e.stops) (c.carry_out.ensures.made d (e.pages ∙ stored) (e.logs ∙ told)))

pub returns-in-Ok-clause-node : goal.returns-in-Ok-clause-node
returns-in-Ok-clause-node g c = λ wants. absurd (never_wants c.carry_out.result c.carry_out.ensures.fault wants)

pub returns-in-Ok-clause-lists : goal.returns-in-Ok-clause-lists
returns-in-Ok-clause-lists g c = λ wants. absurd (never_wants c.carry_out.result c.carry_out.ensures.fault wants)

pub returns-in-Ok-clause-told : goal.returns-in-Ok-clause-told
returns-in-Ok-clause-told g c = λ wants. absurd (never_wants c.carry_out.result c.carry_out.ensures.fault wants)

pub returns-in-Ok-clause-unbegun : goal.returns-in-Ok-clause-unbegun
returns-in-Ok-clause-unbegun g c = unless_known c.carry_out.result _ c.in-Ok.ensures.unbegun

pub returns-in-Ok-clause-fault : goal.returns-in-Ok-clause-fault
returns-in-Ok-clause-fault g c = work_is_install c.carry_out.result c.carry_out.ensures.fault

pub returns-in-Ok-clause-rooms : goal.returns-in-Ok-clause-rooms
returns-in-Ok-clause-rooms g c = rooms_later _ _ _ c.prepare.ensures.rooms c.carry_out.ensures.rooms

pub returns-in-Err-clause-comes : goal.returns-in-Err-clause-comes
returns-in-Err-clause-comes g c = λ d cs stored told. call_comes (Unit {0}) _ c.in-Err.fault _ c.in-Err.ensures.fault

pub returns-in-Err-clause-made : goal.returns-in-Err-clause-made
returns-in-Err-clause-made g c = λ d stored told.
    let e = c.prepare.ensures in
    call_leaves (Unit {0}) c.args.parts.now.me c.in-Err.fault (install_calls d c.args.view.now (node_of c.args.parts.now)) _ _ c.in-Err.ensures.fault (told_same _ _ _ _ _ _ e.pages e.logs e.stops)

pub returns-in-Err-clause-told : goal.returns-in-Err-clause-told
returns-in-Err-clause-told g c = λ wants. let e = c.prepare.ensures in told_same _ _ _ _ _ _ e.pages e.logs e.stops

pub returns-in-Err-clause-fault : goal.returns-in-Err-clause-fault
returns-in-Err-clause-fault g c = call_is_install c.in-Err.fault c.in-Err.ensures.fault

pub returns-in-Err-clause-rooms : goal.returns-in-Err-clause-rooms
returns-in-Err-clause-rooms g c = rooms_same _ _ c.prepare.ensures.rooms
