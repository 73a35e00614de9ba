use Rattle.std.proofs.Common.{ap, ◌∙◌}
use Rattle.text_rules.specs.StoredPage.{stored_bytes}
use Rattle.home.proofs.Making.{write_made, write_failed}
use Rattle.home.proofs.stored.write_stored.Goals as goal

pub returns-in-Ok-clause-made : goal.returns-in-Ok-clause-made
returns-in-Ok-clause-made g c =
    let bytes = ap (λ b. stored_bytes c.args.page (record { version = c.args.version; bytes = b })) c.put_bytes.ensures.bytes in
    write_made c.args.by c.args.page _ _ _ _ _ _ _ _ c.in-Ok.ensures.written c.write.ensures.logs c.write.ensures.stops (c.write.ensures.raw ∙ bytes) (λ kept e. let bad = c.in-Ok.ensures.stopped kept e in absurd (cc))

pub returns-in-Err-clause-made : goal.returns-in-Err-clause-made
returns-in-Err-clause-made g c =
    let bytes = ap (λ b. stored_bytes c.args.page (record { version = c.args.version; bytes = b })) c.put_bytes.ensures.bytes in
    write_failed c.args.by c.args.page _ _ _ _ _ _ _ _ c.write.ensures.torn c.write.ensures.logs c.write.ensures.stops (c.write.ensures.raw ∙ bytes) (λ e. let bad = c.in-Err.ensures.done e in absurd (cc)) c.write.ensures.left
