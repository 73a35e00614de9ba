use Rattle.std.proofs.Common.{◌≡◌, ◌-◌, take, drop, length, sym, subst, arith}
use Rattle.std.specs.Io.KnownBytes.{Appends}
use Rattle.std.proofs.KnownBytes.{Appends-trans, Appends-kept}
use Rattle.std.proofs.Math.Seq.{take-add}
use Rattle.std.proofs.lemmas.List.{take-append-drop, length-drop, take_all}
use Rattle.node_frames.proofs.sink.write_frame.Goals as goal

pub loop-done-preserved : goal.loop-done-preserved
loop-done-preserved g c =
    let before = c.loop-done.invariant in
    let done = c.loop-done.done in
    let frame = c.args.frame.now in
    let left = length-drop done frame in
    let whole : take (length frame - done) (drop done frame) ≡ drop done frame = take_all (length frame - done) (drop done frame) (omega (arith, left)) in
    let piece : Appends (g.O.Sink.written c.loop-done.output) (g.O.Sink.written c.write.new.self) (take c.in-Ok.count (drop done frame)) =
    subst (λ p. Appends (g.O.Sink.written c.loop-done.output) (g.O.Sink.written c.write.new.self) (take c.in-Ok.count p)) whole c.in-Ok.ensures.bytes in
    record {
      within = omega (arith, before.within, c.in-Ok.ensures.most, left);
      later = omega (arith, before.later, c.in-Ok.ensures.cause.later);
      so_far =
          subst (Appends (g.O.Sink.written c.args.output.now) (g.O.Sink.written c.write.new.self)) (sym (take-add done c.in-Ok.count frame))
          (Appends-trans _ _ _ _ _ before.so_far piece);
    }

pub returns-in-Err-clause-written : goal.returns-in-Err-clause-written
returns-in-Err-clause-written g c =
    let done = c.loop-done.done in
    let frame = c.args.frame.now in
    (take done frame, drop done frame, sym (take-append-drop done frame), Appends-kept _ _ _ _ c.loop-done.invariant.so_far c.in-Err.ensures.bytes)
