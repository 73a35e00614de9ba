use Rattle.std.proofs.Common.{◌≡◌, ◌∙◌, sym, subst}
use Rattle.std.specs.List.{each_same}
use Rattle.lock_table.specs.Tables.{FitsConfig}
use Rattle.lock_table.proofs.table.Table.copy.Goals as goal

pub invariant_of-result : goal.invariant_of-result
invariant_of-result c =
    let versions : c.in_ok-clone.field-0.items ≡ c.self.inside.versions.items = each_same _ _ c.in_ok-clone.ensures.cases.0 in
    let reported : c.in_ok-clone-2.field-0.items ≡ c.self.inside.reported.items = each_same _ _ c.in_ok-clone-2.ensures.cases.0 in
    subst FitsConfig (λ i. record { config = c.self.inside.config; partition = c.self.inside.partition; serving = c.self.inside.serving; versions = sym versions i; entries = sym c.in_ok-copy_entries.ensures i; reported = sym reported i }) c.self.invariant

pub returns : goal.returns
returns c =
    let versions : c.in_ok-clone.field-0.items ≡ c.self.inside.versions.items = each_same _ _ c.in_ok-clone.ensures.cases.0 in
    let reported : c.in_ok-clone-2.field-0.items ≡ c.self.inside.reported.items = each_same _ _ c.in_ok-clone-2.ensures.cases.0 in
    (λ i. record { config = c.self.inside.config; partition = c.self.inside.partition; serving = c.self.inside.serving; versions = versions i; entries = c.in_ok-copy_entries.ensures i; reported = reported i }) ∙ c.self.view_is
