use Rattle.std.proofs.Common.{[], ◌∷◌, true, ap, sym}
use Rattle.text_rules.specs.StoredPage.{stored_bytes}
use Rattle.node_rules.specs.DiskCalls.{WritePage}
use Rattle.home.proofs.Making.{made_as, made_by}
use Rattle.home.proofs.parts.Parts.write_change.Goals as goal

pub returns-clause-made : goal.returns-clause-made
returns-clause-made g c =
    let calls = ap (λ b. WritePage c.args.page (stored_bytes c.args.page (record { version = c.args.change.now.version; bytes = b })) ∷ []) (sym c.as_slice-bytes.ensures) in
    made_by _ _ true c.write_stored.result _ _ _ (sym (ap (λ v. v.node) c.self.view_is))
    (made_as _ true c.write_stored.result _ _ _ _ calls c.write_stored.ensures.made)
