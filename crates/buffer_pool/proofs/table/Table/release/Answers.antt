use Rattle.std.proofs.Common.{◌≡◌, ◌+◌, true, false, Some, subst, arith}
use Rattle.buffer_pool.specs.Entries.{is_free, is_loose, is_bare, is_used, use_at}
use Rattle.buffer_pool.proofs.Entries.{one}
use Rattle.buffer_pool.proofs.Tables.{kept_released, table_of_kept}
use Rattle.buffer_pool.proofs.Freed.{used_if, counted, room_for_free}
use Rattle.buffer_pool.proofs.Names.{count_within}
use Rattle.buffer_pool.proofs.table.Table.release.Goals as goal

pub recount-self-inside-requires-clause-within : goal.recount-self-inside-requires-clause-within
recount-self-inside-requires-clause-within c = omega (arith, c.self.invariant.loose_number, c.self.invariant.frames, count_within is_loose c.self.inside.order.entries)

pub recount-self-inside-requires-clause-counted : goal.recount-self-inside-requires-clause-counted
recount-self-inside-requires-clause-counted c =
    rw (c.is_loose.ensures, c.self.invariant.loose_number) (counted is_loose c.args.frame c.replace-old.result c.self.inside.order.entries c.replace-old.ensures.old)

pub recount-self-inside-requires-2-clause-within : goal.recount-self-inside-requires-2-clause-within
recount-self-inside-requires-2-clause-within c = omega (arith, c.self.invariant.bare_number, c.self.invariant.frames, count_within is_bare c.self.inside.order.entries)

pub recount-self-inside-requires-2-clause-counted : goal.recount-self-inside-requires-2-clause-counted
recount-self-inside-requires-2-clause-counted c =
    rw (c.is_bare.ensures, c.self.invariant.bare_number) (counted is_bare c.args.frame c.replace-old.result c.self.inside.order.entries c.replace-old.ensures.old)

pub push_reserved-requires : goal.push_reserved-requires
push_reserved-requires c =
    let old_now : use_at c.args.self.now c.args.frame ≡ Some c.replace-old.result = subst (λ es. use_at es c.args.frame ≡ Some c.replace-old.result) c.self.view_is c.replace-old.ensures.old in
    let used : is_free c.replace-old.result ≡ false = used_if (is_free c.replace-old.result) (subst (λ o. is_used o ≡ true) old_now c.requires) in
    omega (arith, room_for_free c.args.frame c.replace-old.result c.self.inside.order.entries c.replace-old.ensures.old used, c.self.invariant.number, c.self.invariant.free_fits, c.self.inside.free.ok.0)

pub invariant_of-self : goal.invariant_of-self
invariant_of-self c =
    let old_now : use_at c.args.self.now c.args.frame ≡ Some c.replace-old.result = subst (λ es. use_at es c.args.frame ≡ Some c.replace-old.result) c.self.view_is c.replace-old.ensures.old in
    let used : is_free c.replace-old.result ≡ false = used_if (is_free c.replace-old.result) (subst (λ o. is_used o ≡ true) old_now c.requires) in
    let loose : c.recount-self-inside.result + one (is_loose c.replace-old.result) ≡ c.self.inside.loose = omega (arith, rw c.is_loose.ensures at c.recount-self-inside.ensures) in
    let bare : c.recount-self-inside-2.result + one (is_bare c.replace-old.result) ≡ c.self.inside.bare = omega (arith, rw c.is_bare.ensures at c.recount-self-inside-2.ensures) in
    rw (c.replace-old.ensures.replaced, c.push_reserved.ensures.items, c.push_reserved.ensures.capacity)
    (kept_released c.self.inside.order.entries c.self.inside.names.entries c.self.inside.free.items _ _ c.self.inside.loose c.self.inside.bare c.recount-self-inside.result c.recount-self-inside-2.result c.args.frame c.replace-old.result
    c.self.invariant c.replace-old.ensures.old used loose bare)

pub returns-clause-sound : goal.returns-clause-sound
returns-clause-sound c = table_of_kept _ _ _ _ _ _ _ (invariant_of-self c)
