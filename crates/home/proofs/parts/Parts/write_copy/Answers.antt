use Rattle.std.proofs.Common.{[], ◌∷◌, true, ap, sym, ◌∙◌}
use Rattle.text_rules.specs.StoredPage.{stored_bytes}
use Rattle.node_rules.specs.BufferRule.{copy_at, bytes_of_copy, find}
use Rattle.node_rules.specs.DiskCalls.{WritePage}
use Rattle.home.specs.Device.{work_on}
use Rattle.home.proofs.WriteBack.{written_calls}
use Rattle.home.proofs.Making.{made_as, made_by}
use Rattle.home.proofs.parts.Parts.write_copy.Goals as goal

pub returns-clause-made : goal.returns-clause-made
returns-clause-made g c =
    let pool = ap (λ v. v.home.pool) c.self.view_is in
    let bytes = c.bytes-bytes.ensures.value ∙ ap (λ b. bytes_of_copy (copy_at b c.args.page)) pool in
    let found = sym c.in-Some.is ∙ c.find.ensures ∙ ap (λ b. find b c.args.page) pool in
    let calls =
    written_calls c.args.page (work_on c.args.self.now.home) c.in-Some.version c.requires.dirty found
    ∙ ap (λ b. WritePage c.args.page (stored_bytes c.args.page (record { version = c.in-Some.version; bytes = b })) ∷ []) (sym bytes) in
    made_by _ _ true c.write_stored.result _ _ _ (sym (ap (λ v. v.node) c.self.view_is))
    (made_as _ true c.write_stored.result _ _ _ _ calls c.write_stored.ensures.made)
