use Rattle.std.proofs.Common.{◌+◌, ◌≤◌, is_some, ap, sym, subst, ◌∙◌}
use Rattle.node_rules.specs.BufferRule.{place, free_frames, can_go, one_unless}
use Rattle.node_rules.specs.Work.{with_pool}
use Rattle.home.specs.Device.{work_on}
use Rattle.home.specs.Parts.{PartsView}
use Rattle.home.proofs.Making.{made_as, made_none}
use Rattle.home.proofs.Victims.{with_home_as}
use Rattle.home.proofs.Framing.{slot_had, slot_placed, room_there, room_page}
use Rattle.home.proofs.parts.Parts.take_slot.Goals as goal

pub returns-then-has_slot-clause-home : goal.returns-then-has_slot-clause-home
returns-then-has_slot-clause-home g c =
    let had = sym c.has_slot.ensures.value ∙ c.if-has_slot.true in
    with_home_as c.args.self.now _ _ (ap (λ w. w.home) (sym (slot_had c.args.page (work_on c.args.self.now.home) had)))

pub returns-then-has_slot-clause-made : goal.returns-then-has_slot-clause-made
returns-then-has_slot-clause-made g c =
    let had = sym c.has_slot.ensures.value ∙ c.if-has_slot.true in
    made_as _ c.args.going c.args.going _ _ _ _ (ap (λ w. w.calls) (slot_had c.args.page (work_on c.args.self.now.home) had)) (made_none _ c.args.going _)

pub make_room-written-requires-clause-room : goal.make_room-written-requires-clause-room
make_room-written-requires-clause-room g c =
    let none = sym c.has_slot.ensures.value ∙ c.if-has_slot.false in
    subst (λ d. one_unless d ≤ free_frames c.args.self.now.home.pool + can_go c.args.self.now.home.pool c.args.page) none c.requires.room

pub place-requires-clause-free : goal.place-requires-clause-free
place-requires-clause-free g c =
    let none = sym c.has_slot.ensures.value ∙ c.if-has_slot.false in
    room_there c.args.page c.args.self.now c.make_room-written.new.self c.has_slot.ensures.sound
    (subst (λ d. one_unless d ≤ free_frames c.args.self.now.home.pool + can_go c.args.self.now.home.pool c.args.page) none c.requires.room) c.make_room-written.ensures.home

pub place-requires-clause-none : goal.place-requires-clause-none
place-requires-clause-none g c =
    let none = sym c.has_slot.ensures.value ∙ c.if-has_slot.false in
    ap is_some (room_page c.args.page c.args.self.now c.make_room-written.new.self c.has_slot.ensures.sound
    (subst (λ d. one_unless d ≤ free_frames c.args.self.now.home.pool + can_go c.args.self.now.home.pool c.args.page) none c.requires.room) c.make_room-written.ensures.home) ∙ none

pub returns-clause-home : goal.returns-clause-home
returns-clause-home g c =
    let none = sym c.has_slot.ensures.value ∙ c.if-has_slot.false in
    c.place.ensures ∙ ap {A = PartsView} (λ v. record v { home = with_pool v.home (place v.home.pool c.args.page) }) c.make_room-written.ensures.home
    ∙ with_home_as c.args.self.now _ _ (ap (λ w. w.home) (sym (slot_placed c.args.page (work_on c.args.self.now.home) none)))

pub returns-clause-made : goal.returns-clause-made
returns-clause-made g c =
    let none = sym c.has_slot.ensures.value ∙ c.if-has_slot.false in
    made_as _ c.args.going c.make_room-written.result _ _ _ _ (ap (λ w. w.calls) (slot_placed c.args.page (work_on c.args.self.now.home) none)) c.make_room-written.ensures.made
