use Rattle.std.proofs.Common.{◌<◌, ◌-◌, length, ap, sym, ◌∙◌, arith}
use Rattle.text_rules.specs.LogRecord.{record_field}
use Rattle.redo_log.proofs.ReadingLemmas.{record_read, record_torn}
use Rattle.redo_log.proofs.reading.scan.Goals as goal

pub returns-in-Err-Stopped-clause-records : goal.returns-in-Err-Stopped-clause-records
returns-in-Err-Stopped-clause-records c =
    let less : c.loop.counter < length c.args.log.now = omega arith in
    let err = rw c.in-Err-Stopped.field-0-is at c.in-Err-Stopped.ensures.err in
    let torn = record_torn c.args.config.now _ _ _ _ _ _ less c.loop.invariant (ap (λ s. record_field c.args.config.now s) (sym c.of-fields.ensures) ∙ err) in
    c.read_before.ensures.records ∙ sym (ap (λ l. l.records) torn)

pub returns-in-Err-Stopped-clause-whole : goal.returns-in-Err-Stopped-clause-whole
returns-in-Err-Stopped-clause-whole c =
    let less : c.loop.counter < length c.args.log.now = omega arith in
    let err = rw c.in-Err-Stopped.field-0-is at c.in-Err-Stopped.ensures.err in
    let torn = record_torn c.args.config.now _ _ _ _ _ _ less c.loop.invariant (ap (λ s. record_field c.args.config.now s) (sym c.of-fields.ensures) ∙ err) in
    c.read_before.ensures.whole ∙ sym (ap (λ l. length c.args.log.now - length l.rest) torn)

pub loop-preserved : goal.loop-preserved
loop-preserved c =
    let less : c.loop.counter < length c.args.log.now = omega arith in
    rw (c.in_ok-push-in-Ok.ensures.items, c.rest-rest.ensures)
    (record_read c.args.config.now _ _ _ _ _ _ _ less c.loop.invariant (ap (λ s. record_field c.args.config.now s) (sym c.of-fields.ensures) ∙ c.in-Ok.ensures.ok))
