use Rattle.std.proofs.Common.{inl, inr, refl, arith}
use Rattle.std.proofs.KnownBytes.{Appends-nil}
use Rattle.frame_rules.specs.Frames.{step_of}
use Rattle.frame_rules.specs.WrittenFrames.{step_frames, end_frame, halted_text, differs_text}
use Rattle.node_frames.specs.Seen.{frame_in}
use Rattle.serving_parts.specs.Sides.{Store, Outs, store_of, outs_of}
use Rattle.serving_parts.proofs.Giving.{gave_on, gave_last, wrote_cause, last_cause}
use Rattle.node_link.proofs.Working.{worked_halted, worked_differs, halted_at}
use Rattle.node_link.proofs.works.step_on.Goals as goal

pub returns-in-Ok-clause-gave : goal.returns-in-Ok-clause-gave
returns-in-Ok-clause-gave g c =
    let n = c.args.node.now in
    let asked = step_of c.args.me (frame_in c.args.frame) in
    let text = step_frames c.work.new.out.replies c.work.new.out.sends in
    let old : Outs = outs_of (g.O.Sink.written c.args.output.now) (g.O.Sink.faults c.args.output.now) (store_of (g.S.Storage.pages c.args.storage.now) (g.S.Storage.logs c.args.storage.now) (g.S.Storage.stops c.args.storage.now) (g.S.Storage.failing c.args.storage.now) (g.S.Storage.faults c.args.storage.now)) in
    let new : Outs = outs_of (g.O.Sink.written c.write_step.new.output) (g.O.Sink.faults c.write_step.new.output) (store_of (g.S.Storage.pages c.work.new.s) (g.S.Storage.logs c.work.new.s) (g.S.Storage.stops c.work.new.s) (g.S.Storage.failing c.work.new.s) (g.S.Storage.faults c.work.new.s)) in
    record {
      sink = c.write_step.ensures.later;
      counts = c.work.ensures.counts;
      cause = wrote_cause old new text c.write_step.result c.write_step.ensures.wrote;
      over = λ d tells. gave_on c.args.me n d asked c.work.new.node old new text c.write_step.result (c.in-Ok.ensures.worked d tells) c.write_step.ensures.wrote;
    }

pub returns-in-Err-NoMemory-clause-gave : goal.returns-in-Err-NoMemory-clause-gave
returns-in-Err-NoMemory-clause-gave g c =
    record {
      sink = omega arith;
      counts = c.work.ensures.counts;
      cause = tt;
      over = λ d tells. inl (Appends-nil (g.O.Sink.written c.args.output.now));
    }

pub returns-in-Err-Halted-clause-gave : goal.returns-in-Err-Halted-clause-gave
returns-in-Err-Halted-clause-gave g c =
    let n = c.args.node.now in
    let at = c.in-Err-Halted in
    let asked = step_of c.args.me (frame_in c.args.frame) in
    let text = step_frames c.work.new.out.replies c.work.new.out.sends in
    let line = halted_text (record { call = at.call; kept = at.kept }) in
    let before : Store = store_of (g.S.Storage.pages c.args.storage.now) (g.S.Storage.logs c.args.storage.now) (g.S.Storage.stops c.args.storage.now) (g.S.Storage.failing c.args.storage.now) (g.S.Storage.faults c.args.storage.now) in
    let after : Store = store_of (g.S.Storage.pages c.work.new.s) (g.S.Storage.logs c.work.new.s) (g.S.Storage.stops c.work.new.s) (g.S.Storage.failing c.work.new.s) (g.S.Storage.faults c.work.new.s) in
    let old : Outs = outs_of (g.O.Sink.written c.args.output.now) (g.O.Sink.faults c.args.output.now) before in
    let new : Outs = outs_of (g.O.Sink.written c.write_last.new.output) (g.O.Sink.faults c.write_last.new.output) after in
    let wrote = c.write_last.ensures.wrote (end_frame line) c.encode_halt-made.ensures in
    record {
      sink = c.write_last.ensures.later;
      counts = c.work.ensures.counts;
      cause = last_cause old new line 6 c.write_last.result (inl (refl, (at.call, at.ensures.cause at.call (halted_at (Unit {0}) at.field-0 at.call at.kept at.field-0-is)))) wrote;
      over =
          λ d tells.
          gave_last c.args.me n d asked c.work.new.node old new (Unit {0}) line 6 c.write_last.result
          (worked_halted (Unit {0}) c.args.me n d asked text c.work.new.node before after at.field-0 at.call at.kept at.field-0-is (at.ensures.worked d tells)) wrote;
    }

pub returns-clause-gave : goal.returns-clause-gave
returns-clause-gave g c =
    let n = c.args.node.now in
    let at = c.in-Err-Differs in
    let asked = step_of c.args.me (frame_in c.args.frame) in
    let text = step_frames c.work.new.out.replies c.work.new.out.sends in
    let line = differs_text at.page at.expected at.found in
    let before : Store = store_of (g.S.Storage.pages c.args.storage.now) (g.S.Storage.logs c.args.storage.now) (g.S.Storage.stops c.args.storage.now) (g.S.Storage.failing c.args.storage.now) (g.S.Storage.faults c.args.storage.now) in
    let after : Store = store_of (g.S.Storage.pages c.work.new.s) (g.S.Storage.logs c.work.new.s) (g.S.Storage.stops c.work.new.s) (g.S.Storage.failing c.work.new.s) (g.S.Storage.faults c.work.new.s) in
    let old : Outs = outs_of (g.O.Sink.written c.args.output.now) (g.O.Sink.faults c.args.output.now) before in
    let new : Outs = outs_of (g.O.Sink.written c.write_last-in-Err-Differs.new.output) (g.O.Sink.faults c.write_last-in-Err-Differs.new.output) after in
    let wrote = c.write_last-in-Err-Differs.ensures.wrote (end_frame line) c.encode_differs-made.ensures in
    record {
      sink = c.write_last-in-Err-Differs.ensures.later;
      counts = c.work.ensures.counts;
      cause = last_cause old new line 10 c.write_last-in-Err-Differs.result (inr refl) wrote;
      over =
          λ d tells.
          gave_last c.args.me n d asked c.work.new.node old new (Unit {0}) line 10 c.write_last-in-Err-Differs.result
          (worked_differs (Unit {0}) c.args.me n d asked text c.work.new.node before after at.field-0 at.page at.expected at.found at.field-0-is (at.ensures.worked d tells)) wrote;
    }
