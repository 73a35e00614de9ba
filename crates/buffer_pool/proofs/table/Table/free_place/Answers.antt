use Rattle.std.proofs.Common.{◌≡◌, None, true, false, nat_eq, sym, ap, subst, ◌∙◌}
use Rattle.std.proofs.lemmas.Map.Steps.{set_value_same}
use Rattle.std.specs.Map.{set_value}
use Rattle.buffer_pool.specs.Entries.{is_bare, freed_if, use_at}
use Rattle.buffer_pool.specs.Kept.{freed_at}
use Rattle.buffer_pool.proofs.Freed.{freed_set, freed_none_at}
use Rattle.buffer_pool.proofs.Names.{table_now}
use Rattle.buffer_pool.proofs.table.Table.free_place.Goals as goal

pub returns-in-None-clause-freed : goal.returns-in-None-clause-freed
returns-in-None-clause-freed c =
    let none : use_at c.args.self.now c.args.frame ≡ None = subst (λ es. use_at es c.args.frame ≡ None) c.self.view_is (sym c.in-None.ensures) in
    sym (freed_none_at c.args.frame c.args.self.now none)

pub returns-in-None-clause-sound : goal.returns-in-None-clause-sound
returns-in-None-clause-sound c = table_now _ _ _ _ _ _ _ _ c.self.invariant c.self.view_is

pub returns-then-is_bare-clause-freed : goal.returns-then-is_bare-clause-freed
returns-then-is_bare-clause-freed c =
    let bare : is_bare c.in-Some.used.now ≡ true = sym c.is_bare.ensures ∙ c.if-is_bare.true in
    c.release.ensures.released
    ∙ ap (λ b. set_value (nat_eq c.args.frame) c.args.self.now (freed_if b c.in-Some.used.now)) (sym bare)
    ∙ ap (λ es. set_value (nat_eq c.args.frame) es (freed_if (is_bare c.in-Some.used.now) c.in-Some.used.now)) (sym c.self.view_is)
    ∙ sym (freed_set c.args.frame c.in-Some.used.now c.self.inside.order.entries c.self.invariant.distinct (sym c.in-Some.ensures))
    ∙ ap (freed_at c.args.frame) c.self.view_is

pub returns-else-is_bare-clause-freed : goal.returns-else-is_bare-clause-freed
returns-else-is_bare-clause-freed c =
    let bare : is_bare c.in-Some.used.now ≡ false = sym c.is_bare.ensures ∙ c.if-is_bare.false in
    sym c.self.view_is
    ∙ sym (set_value_same (nat_eq c.args.frame) c.self.inside.order.entries c.in-Some.used.now (sym c.in-Some.ensures))
    ∙ ap (λ b. set_value (nat_eq c.args.frame) c.self.inside.order.entries (freed_if b c.in-Some.used.now)) (sym bare)
    ∙ sym (freed_set c.args.frame c.in-Some.used.now c.self.inside.order.entries c.self.invariant.distinct (sym c.in-Some.ensures))
    ∙ ap (freed_at c.args.frame) c.self.view_is

pub returns-else-is_bare-clause-sound : goal.returns-else-is_bare-clause-sound
returns-else-is_bare-clause-sound c = table_now _ _ _ _ _ _ _ _ c.self.invariant c.self.view_is
