use Rattle.std.proofs.Common.{◌≡◌, ap, sym, ◌∙◌, nat_lt, false, is_some, refl, arith}
use Rattle.std.proofs.lemmas.Bool.Decides.{nat_tests}
use Rattle.node_rules.specs.BufferRule.{evict, free_frames, copy_at, pinned, dirty}
use Rattle.node_rules.specs.Work.{with_pool}
use Rattle.home.specs.Device.{work_on}
use Rattle.home.specs.Parts.{PartsView}
use Rattle.home.proofs.Making.{made_as, made_none}
use Rattle.home.proofs.Victims.{with_home_as, room_free, room_taken, one_goes, goes_below, goes_loose, goes_copy, written_back}
use Rattle.home.proofs.parts.Parts.make_room.Goals as goal

pub returns-then-free-gt0-clause-home : goal.returns-then-free-gt0-clause-home
returns-then-free-gt0-clause-home g c =
    let some = c.if-free-gt0.true in
    with_home_as c.args.self.now _ _ (ap (λ w. w.home) (sym (room_free c.args.keep (work_on c.args.self.now.home) (omega (arith, some, c.free.ensures.value)))))

pub returns-then-free-gt0-clause-made : goal.returns-then-free-gt0-clause-made
returns-then-free-gt0-clause-made g c =
    let some = c.if-free-gt0.true in
    made_as _ c.args.going c.args.going _ _ _ _ (ap (λ w. w.calls) (room_free c.args.keep (work_on c.args.self.now.home) (omega (arith, some, c.free.ensures.value)))) (made_none _ c.args.going _)

pub unreachable-requires : goal.unreachable-requires
unreachable-requires g c =
    let full = c.if-free-gt0.false in
    one_goes c.args.keep c.args.self.now.home.pool c.requires.room (omega (arith, full, c.free.ensures.value)) (sym c.in-None.is ∙ c.victim.ensures)

pub write_back-written-requires-clause-page : goal.write_back-written-requires-clause-page
write_back-written-requires-clause-page g c =
    goes_below c.args.keep c.in-Some.page c.args.self.now.home.config c.args.self.now.home.pool c.free.ensures.sound c.requires.go (sym c.in-Some.is ∙ c.victim.ensures)

pub evict-requires-clause-copy : goal.evict-requires-clause-copy
evict-requires-clause-copy g c =
    ap (λ v. is_some (copy_at v.home.pool c.in-Some.page)) c.write_back-written.ensures.home
    ∙ (written_back c.in-Some.page (work_on c.args.self.now.home)).copy
    ∙ goes_copy c.args.keep c.in-Some.page c.args.self.now.home.config c.args.self.now.home.pool c.free.ensures.sound c.requires.go (sym c.in-Some.is ∙ c.victim.ensures)

pub evict-requires-clause-unpinned : goal.evict-requires-clause-unpinned
evict-requires-clause-unpinned g c =
    ap (λ v. pinned v.home.pool c.in-Some.page) c.write_back-written.ensures.home
    ∙ (written_back c.in-Some.page (work_on c.args.self.now.home)).pinned
    ∙ goes_loose c.args.keep c.in-Some.page c.args.self.now.home.config c.args.self.now.home.pool c.free.ensures.sound c.requires.go (sym c.in-Some.is ∙ c.victim.ensures)

pub evict-requires-clause-clean : goal.evict-requires-clause-clean
evict-requires-clause-clean g c =
    ap (λ v. dirty v.home.pool c.in-Some.page) c.write_back-written.ensures.home
    ∙ (written_back c.in-Some.page (work_on c.args.self.now.home)).clean

pub returns-clause-home : goal.returns-clause-home
returns-clause-home g c =
    let full : nat_lt 0 (free_frames c.args.self.now.home.pool) ≡ false = (let none = c.if-free-gt0.false in let value = c.free.ensures.value in grind (arith, nat_tests)) in
    let taken = room_taken c.args.keep c.in-Some.page c.args.self.now.home.config c.args.self.now.home.pool c.free.ensures.sound c.requires.go (sym c.in-Some.is ∙ c.victim.ensures) (work_on c.args.self.now.home) refl full in
    c.evict.ensures ∙ ap {A = PartsView} (λ v. record v { home = with_pool v.home (evict v.home.pool c.in-Some.page) }) c.write_back-written.ensures.home
    ∙ with_home_as c.args.self.now _ _ (ap (λ w. w.home) (sym taken))

pub returns-clause-made : goal.returns-clause-made
returns-clause-made g c =
    let full : nat_lt 0 (free_frames c.args.self.now.home.pool) ≡ false = (let none = c.if-free-gt0.false in let value = c.free.ensures.value in grind (arith, nat_tests)) in
    let taken = room_taken c.args.keep c.in-Some.page c.args.self.now.home.config c.args.self.now.home.pool c.free.ensures.sound c.requires.go (sym c.in-Some.is ∙ c.victim.ensures) (work_on c.args.self.now.home) refl full in
    made_as _ c.args.going c.write_back-written.result _ _ _ _ (ap (λ w. w.calls) taken) c.write_back-written.ensures.made
