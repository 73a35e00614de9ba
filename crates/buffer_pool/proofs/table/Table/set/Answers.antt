use Rattle.std.proofs.Common.{◌≡◌, ◌+◌, Some, IfSome, subst, arith}
use Rattle.buffer_pool.specs.Entries.{is_loose, is_bare, use_at}
use Rattle.buffer_pool.specs.Kept.{name_of}
use Rattle.buffer_pool.proofs.Entries.{one}
use Rattle.buffer_pool.proofs.Tables.{kept_set, table_of_kept}
use Rattle.buffer_pool.proofs.Freed.{named_used, counted}
use Rattle.buffer_pool.proofs.Names.{count_within}
use Rattle.buffer_pool.proofs.table.Table.set.Goals as goal

pub recount-self-inside-requires-clause-within : goal.recount-self-inside-requires-clause-within
recount-self-inside-requires-clause-within c = omega (arith, c.self.invariant.loose_number, c.self.invariant.frames, count_within is_loose c.self.inside.order.entries)

pub recount-self-inside-requires-clause-counted : goal.recount-self-inside-requires-clause-counted
recount-self-inside-requires-clause-counted c =
    rw (c.is_loose.ensures, c.self.invariant.loose_number) (counted is_loose c.args.frame c.replace-old.result c.self.inside.order.entries c.replace-old.ensures.old)

pub recount-self-inside-requires-2-clause-within : goal.recount-self-inside-requires-2-clause-within
recount-self-inside-requires-2-clause-within c = omega (arith, c.self.invariant.bare_number, c.self.invariant.frames, count_within is_bare c.self.inside.order.entries)

pub recount-self-inside-requires-2-clause-counted : goal.recount-self-inside-requires-2-clause-counted
recount-self-inside-requires-2-clause-counted c =
    rw (c.is_bare.ensures, c.self.invariant.bare_number) (counted is_bare c.args.frame c.replace-old.result c.self.inside.order.entries c.replace-old.ensures.old)

pub invariant_of-self : goal.invariant_of-self
invariant_of-self c =
    let old_now : use_at c.args.self.now c.args.frame ≡ Some c.replace-old.result = subst (λ es. use_at es c.args.frame ≡ Some c.replace-old.result) c.self.view_is c.replace-old.ensures.old in
    let named : name_of c.replace-old.result ≡ name_of c.args.used = subst (λ o. IfSome o (λ u. name_of u ≡ name_of c.args.used)) old_now c.requires.same in
    let loose : c.recount-self-inside.result + one (is_loose c.replace-old.result) ≡ c.self.inside.loose + one (is_loose c.args.used) = rw (c.is_loose.ensures, c.is_loose-2.ensures) at c.recount-self-inside.ensures in
    let bare : c.recount-self-inside-2.result + one (is_bare c.replace-old.result) ≡ c.self.inside.bare + one (is_bare c.args.used) = rw (c.is_bare.ensures, c.is_bare-2.ensures) at c.recount-self-inside-2.ensures in
    rw c.replace-old.ensures.replaced
    (kept_set c.self.inside.order.entries c.self.inside.names.entries c.self.inside.free.items _ _ c.self.inside.loose c.self.inside.bare c.recount-self-inside.result c.recount-self-inside-2.result c.args.frame c.replace-old.result c.args.used
    c.self.invariant c.replace-old.ensures.old (named_used c.replace-old.result c.args.used named c.requires.used) c.requires.used named loose bare)

pub returns-clause-sound : goal.returns-clause-sound
returns-clause-sound c = table_of_kept _ _ _ _ _ _ _ (invariant_of-self c)
