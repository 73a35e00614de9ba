use Rattle.std.proofs.Common.{◌≡◌, subst, flat_map}
use Rattle.std.specs.Result.{IfOk}
use Rattle.frame_rules.specs.WrittenFrames.{replies_frame, sent_frame}
use Rattle.serving_parts.specs.Written.{Wrote}
use Rattle.serving_parts.proofs.Writing.{wrote_before, wrote_behind}
use Rattle.serving_parts.proofs.writes.write_step.Goals as goal

pub returns-in-Err-clause-wrote : goal.returns-in-Err-clause-wrote
returns-in-Err-clause-wrote g c =
    let old = c.args.output.now in
    let new = c.write_made.new.output in
    let frame = subst (λ rs. IfOk c.encode_replies.result (λ b. b.items ≡ replies_frame rs)) c.replies.ensures c.encode_replies.ensures in
    wrote_before (Unit {0}) (Unit {0}) (g.O.Sink.written old) (g.O.Sink.written new) (g.O.Sink.faults old) (g.O.Sink.faults new) (replies_frame c.args.out.now.replies) (flat_map sent_frame c.args.out.now.sends) c.in-Err.end
    (c.in-Err.ensures.wrote (replies_frame c.args.out.now.replies) frame)

pub returns-in-Ok-clause-wrote : goal.returns-in-Ok-clause-wrote
returns-in-Ok-clause-wrote g c =
    let old = c.args.output.now in
    let mid = c.write_made.new.output in
    let new = c.write_sends.new.output in
    let frame = subst (λ rs. IfOk c.encode_replies.result (λ b. b.items ≡ replies_frame rs)) c.replies.ensures c.encode_replies.ensures in
    let sends = subst (λ xs. Wrote {X = Unit {0}} (g.O.Sink.written mid) (g.O.Sink.written new) (g.O.Sink.faults mid) (g.O.Sink.faults new) (flat_map sent_frame xs) c.write_sends.result) c.sends.ensures c.write_sends.ensures.wrote in
    wrote_behind (Unit {0}) (g.O.Sink.written old) (g.O.Sink.written mid) (g.O.Sink.written new) (g.O.Sink.faults old) (g.O.Sink.faults mid) (g.O.Sink.faults new) (replies_frame c.args.out.now.replies) (flat_map sent_frame c.args.out.now.sends) c.write_sends.result
    (c.in-Ok.ensures.wrote (replies_frame c.args.out.now.replies) frame) c.in-Ok.ensures.later sends
