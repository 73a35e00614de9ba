use Rattle.std.proofs.Common.{◌≡◌, ◌+◌, ◌≤◌, ◌++◌, ◌∷◌, [], Some, length, nat_eq, ap, subst, ◌∙◌, arith}
use Rattle.std.specs.List.{AllByRecursion}
use Rattle.std.specs.Map.{remove_entry}
use Rattle.indexmap.specs.IndexMap.{spare}
use Rattle.std.specs.Vec.{vec_capacity}
use Rattle.buffer_pool.specs.declared.uses.Use.TheVariants.{Free}
use Rattle.buffer_pool.specs.Entries.{is_loose, is_bare, use_at}
use Rattle.buffer_pool.proofs.Entries.{one}
use Rattle.buffer_pool.proofs.Changes.{all_last}
use Rattle.buffer_pool.proofs.Tables.{kept_brought, table_of_kept}
use Rattle.buffer_pool.proofs.Names.{count_within}
use Rattle.buffer_pool.proofs.table.Table.bring.Goals as goal

pub recount-self-inside-requires-clause-within : goal.recount-self-inside-requires-clause-within
recount-self-inside-requires-clause-within c = omega (arith, c.self.invariant.loose_number, c.self.invariant.frames, count_within is_loose c.self.inside.order.entries)

pub recount-self-inside-requires-in-Some-clause-within : goal.recount-self-inside-requires-in-Some-clause-within
recount-self-inside-requires-in-Some-clause-within c = omega (arith, c.self.invariant.bare_number, c.self.invariant.frames, count_within is_bare c.self.inside.order.entries)

pub invariant_of-self : goal.invariant_of-self
invariant_of-self c =
    let capacity : length c.self.inside.order.entries ≤ vec_capacity c.pop.new.self = omega (arith, c.in-Some.ensures.capacity, c.self.invariant.free_fits) in
    let loose : c.recount-self-inside.result ≡ c.self.inside.loose + one (is_loose c.args.used) = omega (arith, rw c.is_loose.ensures at c.recount-self-inside.ensures) in
    let bare : c.recount-self-inside-in-Some.result ≡ c.self.inside.bare + one (is_bare c.args.used) = omega (arith, rw c.is_bare.ensures at c.recount-self-inside-in-Some.ensures) in
    rw c.bring.ensures
    (kept_brought c.self.inside.order.entries c.self.inside.names.entries c.list.new.names.entries c.self.inside.free.items c.pop.new.self.items (spare c.self.inside.names) (spare c.list.new.names) (vec_capacity c.pop.new.self) (vec_capacity c.self.inside.free) c.self.inside.loose c.self.inside.bare c.recount-self-inside.result c.recount-self-inside-in-Some.result c.in-Some.frame c.args.used c.args.name
    c.self.invariant c.in-Some.ensures.items c.requires.name c.requires.used c.list.ensures.listed c.list.ensures.new c.list.ensures.room capacity loose bare)

pub returns-clause-brought : goal.returns-clause-brought
returns-clause-brought c =
    let frees : AllByRecursion (λ j. use_at c.self.inside.order.entries j ≡ Some Free) (c.pop.new.self.items ++ c.in-Some.frame ∷ []) = subst (AllByRecursion (λ j. use_at c.self.inside.order.entries j ≡ Some Free)) c.in-Some.ensures.items c.self.invariant.free_use in
    let here : use_at c.self.inside.order.entries c.in-Some.frame ≡ Some Free = all_last (λ j. use_at c.self.inside.order.entries j ≡ Some Free) c.pop.new.self.items c.in-Some.frame frees in (
      c.in-Some.frame,
      subst (λ es. use_at es c.in-Some.frame ≡ Some Free) c.self.view_is here,
      ap (λ v. v.entries) c.bring.ensures ∙ ap (λ es. (c.in-Some.frame, c.args.used) ∷ remove_entry (nat_eq c.in-Some.frame) es) c.self.view_is,
    )

pub returns-clause-sound : goal.returns-clause-sound
returns-clause-sound c = table_of_kept _ _ _ _ _ _ _ (invariant_of-self c)
