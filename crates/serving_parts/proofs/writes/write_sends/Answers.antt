use Rattle.std.proofs.Common.{◌≡◌, ◌+◌, ◌++◌, Err, subst, drop, flat_map, arith}
use Rattle.std.specs.Result.{IfOk}
use Rattle.std.proofs.KnownBytes.{Appends-trans}
use Rattle.frame_rules.specs.WrittenFrames.{sent_frame}
use Rattle.serving_parts.proofs.Writing.{wrote_all, wrote_before, wrote_behind, sends_next}
use Rattle.serving_parts.proofs.writes.write_sends.Goals as goal

pub returns-in-Err-clause-wrote : goal.returns-in-Err-clause-wrote
returns-in-Err-clause-wrote g c =
    let old = c.args.output.now in
    let mid = c.loop-sent.output in
    let new = c.write_made.new.output in
    let before = c.loop-sent.invariant in
    let sent = c.sent-item.result in
    let frame = subst (λ s. IfOk c.encode_send.result (λ b. b.items ≡ sent_frame s)) c.sent.view_is c.encode_send.ensures in
    let rest = flat_map sent_frame (drop (c.loop-sent.sent-index + 1) c.args.sends.now) in
    let one =
    wrote_behind (Unit {0}) (g.O.Sink.written old) (g.O.Sink.written mid) (g.O.Sink.written new) (g.O.Sink.faults old) (g.O.Sink.faults mid) (g.O.Sink.faults new) before.text (sent_frame sent) (Err c.in-Err.end)
    before.so_far before.later (c.in-Err.ensures.wrote (sent_frame sent) frame) in
    wrote_all (Unit {0}) (g.O.Sink.written old) (g.O.Sink.written new) (g.O.Sink.faults old) (g.O.Sink.faults new) ((before.text ++ sent_frame sent) ++ rest) (flat_map sent_frame c.args.sends.now) (Err c.in-Err.end)
    (sends_next before.text c.args.sends.now c.loop-sent.sent-index sent c.sent-item.is c.loop-sent-test.true before.rest)
    (wrote_before (Unit {0}) (Unit {0}) (g.O.Sink.written old) (g.O.Sink.written new) (g.O.Sink.faults old) (g.O.Sink.faults new) (before.text ++ sent_frame sent) rest c.in-Err.end one)

pub loop-sent-preserved : goal.loop-sent-preserved
loop-sent-preserved g c =
    let before = c.loop-sent.invariant in
    let sent = c.sent-item.result in
    let frame = subst (λ s. IfOk c.encode_send.result (λ b. b.items ≡ sent_frame s)) c.sent.view_is c.encode_send.ensures in
    record {
      later = omega (arith, before.later, c.in-Ok.ensures.later);
      text = before.text ++ sent_frame sent;
      so_far = Appends-trans _ _ _ _ _ before.so_far (c.in-Ok.ensures.wrote (sent_frame sent) frame);
      rest = sends_next before.text c.args.sends.now c.loop-sent.sent-index sent c.sent-item.is c.loop-sent-test.true before.rest;
    }
