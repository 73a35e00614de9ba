use Rattle.std.proofs.Common.{◌≡◌, is_some, ap, sym, ◌∙◌}
use Rattle.node_rules.specs.BufferRule.{private, private_in}
use Rattle.node_rules.specs.Work.{with_pool}
use Rattle.node_rules.specs.AccessRule.{take_private}
use Rattle.home.specs.Device.{work_on}
use Rattle.home.specs.Parts.{PartsView}
use Rattle.home.proofs.Making.{made_as, made_none}
use Rattle.home.proofs.Victims.{with_home_as}
use Rattle.home.proofs.Framing.{private_placed, private_none, room_there, room_privates}
use Rattle.home.proofs.parts.Parts.take_private.Goals as goal

pub private-requires-clause-free : goal.private-requires-clause-free
private-requires-clause-free g c =
    room_there c.args.page c.args.self.now c.make_room-written.new.self c.requires.sound (c.requires.room (ap is_some c.in-Some.is)) c.make_room-written.ensures.home

pub private-requires-clause-none : goal.private-requires-clause-none
private-requires-clause-none g c =
    ap (λ xs. is_some (private_in xs c.args.tx c.args.page)) (room_privates c.args.page c.args.self.now c.make_room-written.new.self c.requires.sound (c.requires.room (ap is_some c.in-Some.is)) c.make_room-written.ensures.home)
    ∙ c.requires.none

pub returns-in-None-clause-home : goal.returns-in-None-clause-home
returns-in-None-clause-home g c =
    let none : take_private c.args.tx c.args.page c.args.write.now (work_on c.args.self.now.home) ≡ work_on c.args.self.now.home =
    ap (λ o. take_private c.args.tx c.args.page o (work_on c.args.self.now.home)) c.in-None.is ∙ private_none c.args.tx c.args.page (work_on c.args.self.now.home) in
    with_home_as c.args.self.now _ _ (ap (λ w. w.home) (sym none))

pub returns-in-None-clause-made : goal.returns-in-None-clause-made
returns-in-None-clause-made g c =
    let none : take_private c.args.tx c.args.page c.args.write.now (work_on c.args.self.now.home) ≡ work_on c.args.self.now.home =
    ap (λ o. take_private c.args.tx c.args.page o (work_on c.args.self.now.home)) c.in-None.is ∙ private_none c.args.tx c.args.page (work_on c.args.self.now.home) in
    made_as _ c.args.going c.args.going _ _ _ _ (ap (λ w. w.calls) none) (made_none _ c.args.going _)

pub returns-in-Some-clause-home : goal.returns-in-Some-clause-home
returns-in-Some-clause-home g c =
    let placed =
    ap (λ o. take_private c.args.tx c.args.page o (work_on c.args.self.now.home)) c.in-Some.is ∙ private_placed c.args.tx c.args.page _ (work_on c.args.self.now.home) c.requires.none in
    c.private.ensures ∙ ap {A = PartsView} (λ v. record v { home = with_pool v.home (private v.home.pool c.args.tx c.args.page) }) c.make_room-written.ensures.home
    ∙ with_home_as c.args.self.now _ _ (ap (λ w. w.home) (sym placed))

pub returns-in-Some-clause-made : goal.returns-in-Some-clause-made
returns-in-Some-clause-made g c =
    let placed =
    ap (λ o. take_private c.args.tx c.args.page o (work_on c.args.self.now.home)) c.in-Some.is ∙ private_placed c.args.tx c.args.page _ (work_on c.args.self.now.home) c.requires.none in
    made_as _ c.args.going c.make_room-written.result _ _ _ _ (ap (λ w. w.calls) placed) c.make_room-written.ensures.made
