use Rattle.std.proofs.Common.{◌≡◌, true, refl, ap, sym, subst, ◌∙◌}
use Rattle.disk_model.specs.Disk.{HasSizes}
use Rattle.node_rules.specs.AccessRule.{Access, take_slot, take_private, pin_once}
use Rattle.home.specs.Asked.{asked}
use Rattle.home.specs.Device.{work_on}
use Rattle.home.specs.Parts.{PartsView, GoWell}
use Rattle.home.proofs.Making.{made_as, made_by, made_then}
use Rattle.home.proofs.Victims.{with_home_as}
use Rattle.home.proofs.Framing.{slot_config, slot_sound, slot_size, slot_none, slot_room, slot_go, last_slot, last_few}
use Rattle.home.proofs.Calling.{frames_have, frames_steps}
use Rattle.home.proofs.parts.Parts.take_frames.Goals as goal

pub take_private-written-requires-clause-sound : goal.take_private-written-requires-clause-sound
take_private-written-requires-clause-sound g c =
    slot_sound (asked c.args.a.now) c.args.self.now.home.config c.args.self.now c.take_slot-going.new.self c.requires.may c.take_slot-going.ensures.home

pub take_private-written-requires-clause-none : goal.take_private-written-requires-clause-none
take_private-written-requires-clause-none g c =
    slot_none (asked c.args.a.now) c.args.self.now.home.config c.args.self.now c.take_slot-going.new.self c.requires.may c.take_slot-going.ensures.home

pub take_private-written-requires-clause-room : goal.take_private-written-requires-clause-room
take_private-written-requires-clause-room g c =
    slot_room (asked c.args.a.now) c.args.self.now.home.config c.args.self.now c.take_slot-going.new.self c.requires.may c.take_slot-going.ensures.home

pub take_private-written-requires-clause-go : goal.take_private-written-requires-clause-go
take_private-written-requires-clause-go g c =
    let config = slot_config (asked c.args.a.now) c.args.self.now.home.config c.args.self.now c.take_slot-going.new.self c.requires.may c.take_slot-going.ensures.home in
    subst (λ k. GoWell c.args.a.now.page k c.take_slot-going.new.self.home.pool) (sym config)
    (slot_go (asked c.args.a.now) c.args.self.now.home.config c.args.self.now c.take_slot-going.new.self c.requires.may c.take_slot-going.ensures.home)

pub take_private-written-requires-clause-size : goal.take_private-written-requires-clause-size
take_private-written-requires-clause-size g c =
    let config = slot_config (asked c.args.a.now) c.args.self.now.home.config c.args.self.now c.take_slot-going.new.self c.requires.may c.take_slot-going.ensures.home in
    slot_size (asked c.args.a.now) c.args.self.now.home.config c.args.self.now c.take_slot-going.new.self c.requires.may c.take_slot-going.ensures.home
    ∙ ap (λ k. k.size) (sym config)

pub take_private-written-requires-clause-sizes : goal.take_private-written-requires-clause-sizes
take_private-written-requires-clause-sizes g c =
    let config = slot_config (asked c.args.a.now) c.args.self.now.home.config c.args.self.now c.take_slot-going.new.self c.requires.may c.take_slot-going.ensures.home in
    subst (λ k. HasSizes k (g.S.Storage.pages c.take_slot-going.new.s) (g.S.Storage.logs c.take_slot-going.new.s) (g.S.Storage.rooms c.take_slot-going.new.s)) (sym config) c.take_slot-going.ensures.sizes

pub pin_once-requires-clause-slot : goal.pin_once-requires-clause-slot
pin_once-requires-clause-slot g c =
    last_slot (asked c.args.a.now) c.args.self.now.home.config c.args.self.now c.take_slot-going.new.self c.requires.may c.take_slot-going.ensures.home
    c.take_private-written.new.self c.args.a.now.write c.take_private-written.ensures.home refl

pub pin_once-requires-clause-few : goal.pin_once-requires-clause-few
pin_once-requires-clause-few g c =
    last_few (asked c.args.a.now) c.args.self.now.home.config c.args.self.now c.take_slot-going.new.self c.requires.may c.take_slot-going.ensures.home
    c.take_private-written.new.self c.args.a.now.write c.take_private-written.ensures.home refl

pub returns-clause-home : goal.returns-clause-home
returns-clause-home g c =
    let a : Access = asked c.args.a.now in
    let slot : c.take_slot-going.new.self ≡ record (c.args.self.now) { home = (take_slot a.page (work_on c.args.self.now.home)).home } = c.take_slot-going.ensures.home in
    c.pin_once.ensures
    ∙ ap {A = PartsView} (λ v. record v { home = (pin_once a.tx a.page (work_on v.home)).home }) c.take_private-written.ensures.home
    ∙ ap {A = PartsView} (λ v. record v { home = (pin_once a.tx a.page (work_on (take_private a.tx a.page a.write (work_on v.home)).home)).home }) slot
    ∙ with_home_as c.args.self.now _ _ (frames_steps a c.args.self.now.home)

pub returns-clause-made : goal.returns-clause-made
returns-clause-made g c =
    let a : Access = asked c.args.a.now in
    let calls = ap (λ v. (take_private a.tx a.page a.write (work_on v.home)).calls) c.take_slot-going.ensures.home in
    let node = ap (λ v. v.node) c.take_slot-going.ensures.home in
    made_as _ true c.take_private-written.result _ _ _ _ (frames_have a (work_on c.args.self.now.home))
    (made_then _ c.take_slot-going.result c.take_private-written.result _ _ _ _ _ c.take_slot-going.ensures.made
    (made_by _ _ c.take_slot-going.result c.take_private-written.result _ _ _ (sym node)
    (made_as _ c.take_slot-going.result c.take_private-written.result _ _ _ _ (sym calls) c.take_private-written.ensures.made)))

pub returns-clause-sizes : goal.returns-clause-sizes
returns-clause-sizes g c =
    let config = slot_config (asked c.args.a.now) c.args.self.now.home.config c.args.self.now c.take_slot-going.new.self c.requires.may c.take_slot-going.ensures.home in
    subst (λ k. HasSizes k (g.S.Storage.pages c.take_private-written.new.s) (g.S.Storage.logs c.take_private-written.new.s) (g.S.Storage.rooms c.take_private-written.new.s)) config c.take_private-written.ensures.sizes
