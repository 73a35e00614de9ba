use Rattle.std.proofs.Common.{◌≡◌, ◌∙◌, ◌++◌, ◌∷◌, [], sym, ap, subst, nat_eq, None, List, ℕ}
use Rattle.std.specs.Map.{lookup}
use Rattle.indexmap.proofs.CallerLemmas.{insert_entry-new}
use Rattle.tx_table.specs.Slots.{slot, rows, HasSlots}
use Rattle.tx_table.proofs.Placed.{no_slot, rows_pushed, slots_pushed}
use Rattle.tx_table.proofs.slots.Slots.push.Goals as goal

pub unreachable-requires : goal.unreachable-requires
unreachable-requires c =
    let n = c.args.serial in
    let absent : lookup (nat_eq n) c.reserve-2.new.self.entries ≡ None = ap (λ l. lookup (nat_eq n) l) c.reserve-2.ensures.entries ∙ no_slot c.self.inside.slots.slots n c.self.inside.keys.entries c.self.invariant (ap (λ l. lookup (nat_eq n) l) c.self.view_is ∙ c.requires) in
    let there = rw c.in-Some.ensures at c.insert.ensures.old in
    let bad = there ∙ absent in
    absurd (cc)

pub invariant_of-self-2 : goal.invariant_of-self-2
invariant_of-self-2 c =
    let n = c.args.serial in
    let k = c.insert_reserved-key.result in
    let es = c.self.inside.keys.entries in
    let slots = c.self.inside.slots.slots in
    let absent : lookup (nat_eq n) c.reserve-2.new.self.entries ≡ None = ap (λ l. lookup (nat_eq n) l) c.reserve-2.ensures.entries ∙ no_slot slots n es c.self.invariant (ap (λ l. lookup (nat_eq n) l) c.self.view_is ∙ c.requires) in
    let pushed : c.insert.new.self.entries ≡ es ++ (n, k) ∷ [] = (rw c.unwrap.ensures at c.insert.ensures.entries) ∙ (insert_entry-new nat_eq c.reserve-2.new.self n k absent ∙ ap (λ l. l ++ (n, k) ∷ []) c.reserve-2.ensures.entries) in
    let same : c.reserve.new.self.slots ≡ slots = ap (λ s. s.slots) c.reserve.ensures.rest_kept in
    let updates = c.insert_reserved-key.ensures.updates in
    subst (λ (l : List (ℕ × ℕ)). HasSlots c.insert_reserved-key.new.self.slots l) (sym pushed)
    (slots_pushed slots c.insert_reserved-key.new.self.slots n k c.args.transaction es c.self.invariant
    (ap (λ l. slot l k) (sym same) ∙ c.insert_reserved-key.ensures.was_vacant)
    updates.changed
    (λ j other. updates.others j other ∙ ap (λ l. slot l j) same))

pub returns-clause-ok : goal.returns-clause-ok
returns-clause-ok c =
    let n = c.args.serial in
    let k = c.insert_reserved-key.result in
    let es = c.self.inside.keys.entries in
    let slots = c.self.inside.slots.slots in
    let absent : lookup (nat_eq n) c.reserve-2.new.self.entries ≡ None = ap (λ l. lookup (nat_eq n) l) c.reserve-2.ensures.entries ∙ no_slot slots n es c.self.invariant (ap (λ l. lookup (nat_eq n) l) c.self.view_is ∙ c.requires) in
    let pushed : c.insert.new.self.entries ≡ es ++ (n, k) ∷ [] = (rw c.unwrap.ensures at c.insert.ensures.entries) ∙ (insert_entry-new nat_eq c.reserve-2.new.self n k absent ∙ ap (λ l. l ++ (n, k) ∷ []) c.reserve-2.ensures.entries) in
    let same : c.reserve.new.self.slots ≡ slots = ap (λ s. s.slots) c.reserve.ensures.rest_kept in
    let updates = c.insert_reserved-key.ensures.updates in
    ap (λ l. rows c.insert_reserved-key.new.self.slots l) pushed
    ∙ (rows_pushed slots c.insert_reserved-key.new.self.slots n k c.args.transaction es c.self.invariant
    (ap (λ l. slot l k) (sym same) ∙ c.insert_reserved-key.ensures.was_vacant)
    updates.changed
    (λ j other. updates.others j other ∙ ap (λ l. slot l j) same)
    ∙ ap (λ l. l ++ (n, c.args.transaction) ∷ []) c.self.view_is)
