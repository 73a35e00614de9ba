use Rattle.std.proofs.Common.{◌+◌, ◌<◌, ◌≤◌, ℕ, List, length, subst, arith}
use Rattle.schedule_gen.specs.Machines.{IsStage}
use Rattle.schedule_gen.proofs.MachineLemmas.{gives_install, gives_last_install}
use Rattle.schedule_gen.proofs.machine.Machine.install.Goals as goal

pub returns-then-place-live : goal.returns-then-place-live
returns-then-place-live c =
    let more : c.args.place + 1 < length c.args.self.now.kept.live = subst (λ (l : List ℕ). c.args.place + 1 < length l) c.live-live.ensures.value c.if-place-live.true in
    rw (c.go_on.ensures, c.live-live.ensures.value) (gives_install c.args.self.now c.args.place c.requires more c.live-live.ensures.nodes)

pub returns : goal.returns
returns c =
    let inside : c.args.place < length c.args.self.now.kept.live = subst (λ st. IsStage st c.args.self.now.kept) c.requires.here c.requires.sound.stage in
    let none : length c.args.self.now.kept.live ≤ c.args.place + 1 = subst (λ (l : List ℕ). length l ≤ c.args.place + 1) c.live-live.ensures.value c.if-place-live.false in
    rw (c.go_on-2.ensures, c.start.ensures, c.live-live.ensures.value) (gives_last_install c.args.self.now c.args.place c.requires (omega (arith, inside, none)) c.live-live.ensures.nodes)
