use Rattle.std.proofs.Common.{◌∙◌, sym, ap, subst, nat_eq, is_some, List, ℕ}
use Rattle.std.specs.Map.{lookup, remove_entry}
use Rattle.tx_table.specs.Slots.{rows, HasSlots}
use Rattle.tx_table.proofs.Placed.{rows_none, rows_found, rows_gone, slots_gone, slot_there, remove_absent, if_none_there}
use Rattle.tx_table.proofs.slots.Slots.remove.Goals as goal

pub invariant_of-self-in-Some : goal.invariant_of-self-in-Some
invariant_of-self-in-Some c =
    let n = c.args.serial in
    subst (λ (l : List (ℕ × ℕ)). HasSlots c.try_remove.new.self.slots l) (sym c.in-Some.ensures.entries)
    (slots_gone c.self.inside.slots.slots c.try_remove.new.self.slots n c.in-Some.key c.self.inside.keys.entries c.self.invariant
    (sym c.in-Some.ensures.value) c.try_remove.ensures.updates.others)

pub returns-in-None-clause-value : goal.returns-in-None-clause-value
returns-in-None-clause-value c =
    let n = c.args.serial in
    sym (rows_none c.self.inside.slots.slots n c.self.inside.keys.entries (sym c.in-None.ensures.value))
    ∙ ap (λ l. lookup (nat_eq n) l) c.self.view_is

pub returns-in-None-clause-rest : goal.returns-in-None-clause-rest
returns-in-None-clause-rest c =
    let n = c.args.serial in
    let es = c.self.inside.keys.entries in
    let slots = c.self.inside.slots.slots in
    let none = sym c.in-None.ensures.value in
    ap (λ l. rows slots l) (c.in-None.ensures.entries ∙ remove_absent n es none)
    ∙ (sym (remove_absent n (rows slots es) (rows_none slots n es none)) ∙ ap (λ l. remove_entry (nat_eq n) l) c.self.view_is)

pub returns-in-Some-clause-value : goal.returns-in-Some-clause-value
returns-in-Some-clause-value c =
    let n = c.args.serial in
    c.try_remove.ensures.value
    ∙ (sym (rows_found c.self.inside.slots.slots n c.in-Some.key c.self.inside.keys.entries c.self.invariant (sym c.in-Some.ensures.value))
    ∙ ap (λ l. lookup (nat_eq n) l) c.self.view_is)

pub returns-in-Some-clause-rest : goal.returns-in-Some-clause-rest
returns-in-Some-clause-rest c =
    let n = c.args.serial in
    ap (λ l. rows c.try_remove.new.self.slots l) c.in-Some.ensures.entries
    ∙ (rows_gone c.self.inside.slots.slots c.try_remove.new.self.slots n c.in-Some.key c.self.inside.keys.entries c.self.invariant
    (sym c.in-Some.ensures.value) c.try_remove.ensures.updates.others
    ∙ ap (λ l. remove_entry (nat_eq n) l) c.self.view_is)

pub returns-in-None-clause-none : goal.returns-in-None-clause-none
returns-in-None-clause-none c =
    ap (λ l. rows c.self.inside.slots.slots l) (c.in-None.ensures.entries ∙ remove_absent c.args.serial c.self.inside.keys.entries (sym c.in-None.ensures.value))
    ∙ c.self.view_is

pub returns-in-Some-clause-none : goal.returns-in-Some-clause-none
returns-in-Some-clause-none c =
    if_none_there c.try_remove.result _
    (ap (λ o. is_some o) c.try_remove.ensures.value
    ∙ slot_there c.self.inside.slots.slots c.args.serial c.in-Some.key c.self.inside.keys.entries c.self.invariant (sym c.in-Some.ensures.value))
