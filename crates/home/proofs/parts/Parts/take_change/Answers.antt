use Rattle.std.proofs.Common.{true, length, ap, sym, ◌∙◌}
use Rattle.node_rules.specs.BufferRule.{install}
use Rattle.node_rules.specs.OwnerRule.{dirty_copy}
use Rattle.node_rules.specs.Work.{with_pool}
use Rattle.home.specs.Device.{Told, work_on, told_by}
use Rattle.home.specs.Parts.{PartsView}
use Rattle.home.proofs.Changing.{frame_room, put_frame, put_written, slot_ready, slot_long}
use Rattle.home.proofs.Making.{made_as}
use Rattle.home.proofs.Victims.{with_home_as}
use Rattle.home.proofs.parts.Parts.take_change.Goals as goal

pub take_slot-written-requires-clause-room : goal.take_slot-written-requires-clause-room
take_slot-written-requires-clause-room g c = frame_room c.args.page c.args.self.now.home.pool (sym c.has_frame.ensures ∙ c.if-has_frame.true)

pub install-requires-clause-slot : goal.install-requires-clause-slot
install-requires-clause-slot g c =
    slot_ready c.args.page c.args.self.now c.take_slot-written.new.self c.requires.sound (sym c.has_frame.ensures ∙ c.if-has_frame.true) c.take_slot-written.ensures.home

pub install-requires-clause-size : goal.install-requires-clause-size
install-requires-clause-size g c =
    ap (λ l. length l) c.as_slice.ensures ∙ c.requires.image ∙ sym c.requires.size
    ∙ sym (slot_long c.args.page c.args.self.now c.take_slot-written.new.self c.requires.sound (sym c.has_frame.ensures ∙ c.if-has_frame.true) c.take_slot-written.ensures.home)

pub returns-then-has_frame-clause-home : goal.returns-then-has_frame-clause-home
returns-then-has_frame-clause-home g c =
    let has = sym c.has_frame.ensures ∙ c.if-has_frame.true in
    c.install.ensures
    ∙ ap (λ l. record c.take_slot-written.new.self { home = with_pool c.take_slot-written.new.self.home (install c.take_slot-written.new.self.home.pool c.args.page (record { version = c.args.change.now.version; bytes = l; dirty = true })) }) c.as_slice.ensures
    ∙ ap {A = PartsView} (λ v. record v { home = with_pool v.home (install v.home.pool c.args.page (dirty_copy c.args.change.now)) }) c.take_slot-written.ensures.home
    ∙ with_home_as c.args.self.now _ _ (ap (λ w. w.home) (sym (put_frame c.args.page c.args.change.now (work_on c.args.self.now.home) has)))

pub returns-then-has_frame-clause-made : goal.returns-then-has_frame-clause-made
returns-then-has_frame-clause-made g c =
    let has = sym c.has_frame.ensures ∙ c.if-has_frame.true in
    let old : Told = told_by (g.S.Storage.pages c.args.s.now) (g.S.Storage.logs c.args.s.now) (g.S.Storage.stops c.args.s.now) in
    let new : Told = told_by (g.S.Storage.pages c.take_slot-written.new.s) (g.S.Storage.logs c.take_slot-written.new.s) (g.S.Storage.stops c.take_slot-written.new.s) in
    made_as _ true c.take_slot-written.result _ _ old new (ap (λ w. w.calls) (put_frame c.args.page c.args.change.now (work_on c.args.self.now.home) has)) c.take_slot-written.ensures.made

pub returns-clause-home : goal.returns-clause-home
returns-clause-home g c =
    let none = sym c.has_frame.ensures ∙ c.if-has_frame.false in
    c.write_change.ensures.same ∙ with_home_as c.args.self.now _ _ (ap (λ w. w.home) (sym (put_written c.args.page c.args.change.now (work_on c.args.self.now.home) none)))

pub returns-clause-made : goal.returns-clause-made
returns-clause-made g c =
    let none = sym c.has_frame.ensures ∙ c.if-has_frame.false in
    let old : Told = told_by (g.S.Storage.pages c.args.s.now) (g.S.Storage.logs c.args.s.now) (g.S.Storage.stops c.args.s.now) in
    let new : Told = told_by (g.S.Storage.pages c.write_change.new.s) (g.S.Storage.logs c.write_change.new.s) (g.S.Storage.stops c.write_change.new.s) in
    made_as _ true c.write_change.result _ _ old new (ap (λ w. w.calls) (put_written c.args.page c.args.change.now (work_on c.args.self.now.home) none)) c.write_change.ensures.made
