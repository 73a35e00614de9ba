use Rattle.std.proofs.Common.{◌≡◌, ◌∙◌, refl, sym, ap, nat_eq, Some, is_some}
use Rattle.std.specs.Map.{lookup, set_value}
use Rattle.std.specs.Option.{option_copied, option_copied_mut}
use Rattle.slab.proofs.SlabLemmas.{Updates-with_value}
use Rattle.tx_table.proofs.Placed.{rows_found, rows_set, slots_set, slot_there, key_there, some_of_copied, some_of_copied_mut}
use Rattle.tx_table.proofs.slots.Slots.at.Goals as goal

pub unwrap-key-requires : goal.unwrap-key-requires
unwrap-key-requires c =
    let n = c.args.serial in
    some_of_copied c.get.result
    (ap (λ o. is_some o) c.get.ensures.value
    ∙ key_there c.self.inside.slots.slots n c.self.inside.keys.entries (ap (λ l. is_some (lookup (nat_eq n) l)) c.self.view_is ∙ c.requires))

pub unwrap-requires : goal.unwrap-requires
unwrap-requires c =
    let n = c.args.serial in
    let es = c.self.inside.keys.entries in
    let k = c.unwrap-key.result.now in
    let found : lookup (nat_eq n) es ≡ Some k = sym c.get.ensures.value ∙ ap (λ o. option_copied o) c.unwrap-key.ensures in
    some_of_copied_mut c.get_mut.result
    (ap (λ o. is_some o) c.get_mut.ensures.value ∙ slot_there c.self.inside.slots.slots n k es c.self.invariant found)

pub invariant_of-self-lent : goal.invariant_of-self-lent
invariant_of-self-lent c = λ w.
    let n = c.args.serial in
    let es = c.self.inside.keys.entries in
    let k = c.unwrap-key.result.now in
    let found : lookup (nat_eq n) es ≡ Some k = sym c.get.ensures.value ∙ ap (λ o. option_copied o) c.unwrap-key.ensures in
    let updates = Updates-with_value c.self.inside.slots k w (slot_there c.self.inside.slots.slots n k es c.self.invariant found) in
    slots_set c.self.inside.slots.slots _ k es c.self.invariant (ap (λ o. is_some o) updates.changed) updates.others

pub returns : goal.returns
returns c =
    let n = c.args.serial in
    let es = c.self.inside.keys.entries in
    let slots = c.self.inside.slots.slots in
    let k = c.unwrap-key.result.now in
    let found : lookup (nat_eq n) es ≡ Some k = sym c.get.ensures.value ∙ ap (λ o. option_copied o) c.unwrap-key.ensures in
    let there = slot_there slots n k es c.self.invariant found in (
      (
        refl,
        λ w.
            let updates = Updates-with_value c.self.inside.slots k w there in
            rows_set slots _ n k w es c.self.invariant found updates.changed updates.others
            ∙ ap (λ l. set_value (nat_eq n) l w) c.self.view_is,
      ),
      record {
        writes_back = tt;
        value =
            sym (ap (λ o. option_copied_mut o) c.unwrap.ensures) ∙ (c.get_mut.ensures.value
            ∙ (sym (rows_found slots n k es c.self.invariant found) ∙ ap (λ l. lookup (nat_eq n) l) c.self.view_is));
      },
    )
