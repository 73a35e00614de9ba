use Rattle.std.proofs.Common.{◌≡◌, ◌+◌, ℕ, [], ◌∷◌, Some, None, length, sym, ap, subst, ◌∙◌, arith}
use Rattle.std.specs.List.{AllByRecursion}
use Rattle.std.specs.Map.{lookup}
use Rattle.buffer_pool.specs.declared.uses.Use.{Use}
use Rattle.buffer_pool.specs.Kept.{IsListed, name_of, same_name}
use Rattle.buffer_pool.proofs.Entries.{apart_head, apart_tail, Apart}
use Rattle.buffer_pool.proofs.Names.{IsPartly, relisted, relisted_listed, with_name, partly_absent, partly_next, partly_skip}
use Rattle.buffer_pool.proofs.order.list_all.Goals as goal

pub loop-frame-preserved-in-Ok-1 : goal.loop-frame-preserved-in-Ok-1
loop-frame-preserved-in-Ok-1 c =
    let step : c.loop-frame.frame-iterator ≡ (c.in-Some.frame.now, c.in-Some.used.now) ∷ c.next.new.self = c.in-Some.ensures.steps in
    let listed : AllByRecursion (λ (e : ℕ × Use). IsListed c.args.names.now.entries e.0 (name_of e.1)) ((c.in-Some.frame.now, c.in-Some.used.now) ∷ c.next.new.self) = subst (AllByRecursion (λ (e : ℕ × Use). IsListed c.args.names.now.entries e.0 (name_of e.1))) step c.loop-frame.invariant.listed in
    let named : lookup (same_name c.in-Some-name.name) c.args.names.now.entries ≡ Some c.in-Some.frame.now = subst (IsListed c.args.names.now.entries c.in-Some.frame.now) (sym c.in-Some-name.ensures) listed.0 in
    let partly : IsPartly c.args.names.now.entries c.loop-frame.names.entries ((c.in-Some.frame.now, c.in-Some.used.now) ∷ c.next.new.self) = subst (IsPartly c.args.names.now.entries c.loop-frame.names.entries) step c.loop-frame.invariant.partly in
    let apart : Apart ((c.in-Some.frame.now, c.in-Some.used.now) ∷ c.next.new.self) = subst Apart step c.loop-frame.invariant.distinct in
    let none : c.in-Ok._none ≡ None = c.in-Ok.ensures.old ∙ partly_absent c.args.names.now.entries c.loop-frame.names.entries c.in-Some.frame.now c.in-Some.used.now c.next.new.self c.in-Some-name.name partly named in
    let more : length c.insert.new.self.entries ≡ length c.loop-frame.names.entries + 1 = rw none at c.in-Ok.ensures.len in
    let left : length c.loop-frame.frame-iterator ≡ length c.next.new.self + 1 = omega (arith, ap length step) in
    record {
      rest = ap (λ l. relisted l c.next.new.self) (c.in-Ok.ensures.entries ∙ ap (λ o. with_name o c.in-Some.frame.now c.loop-frame.names.entries) c.in-Some-name.ensures) ∙ ap (relisted c.loop-frame.names.entries) (sym step) ∙ c.loop-frame.invariant.rest;
      partly = partly_next c.args.names.now.entries c.loop-frame.names.entries c.insert.new.self.entries c.in-Some.frame.now c.in-Some.used.now c.next.new.self c.in-Some-name.name partly (apart_head (c.in-Some.frame.now, c.in-Some.used.now) c.next.new.self apart) named c.in-Ok.ensures.updates.0;
      listed = listed.1;
      distinct = apart_tail (c.in-Some.frame.now, c.in-Some.used.now) c.next.new.self apart;
      room = omega (arith, c.in-Ok.ensures.spare, c.loop-frame.invariant.room);
      all = omega (arith, c.in-Ok.ensures.spare, c.loop-frame.invariant.all);
    }

pub loop-frame-preserved : goal.loop-frame-preserved
loop-frame-preserved c =
    let step : c.loop-frame.frame-iterator ≡ (c.in-Some.frame.now, c.in-Some.used.now) ∷ c.next.new.self = c.in-Some.ensures.steps in
    let listed : AllByRecursion (λ (e : ℕ × Use). IsListed c.args.names.now.entries e.0 (name_of e.1)) ((c.in-Some.frame.now, c.in-Some.used.now) ∷ c.next.new.self) = subst (AllByRecursion (λ (e : ℕ × Use). IsListed c.args.names.now.entries e.0 (name_of e.1))) step c.loop-frame.invariant.listed in
    let partly : IsPartly c.args.names.now.entries c.loop-frame.names.entries ((c.in-Some.frame.now, c.in-Some.used.now) ∷ c.next.new.self) = subst (IsPartly c.args.names.now.entries c.loop-frame.names.entries) step c.loop-frame.invariant.partly in
    let apart : Apart ((c.in-Some.frame.now, c.in-Some.used.now) ∷ c.next.new.self) = subst Apart step c.loop-frame.invariant.distinct in
    let left : length c.loop-frame.frame-iterator ≡ length c.next.new.self + 1 = omega (arith, ap length step) in
    let none : name_of c.in-Some.used.now ≡ None = sym c.name.ensures ∙ c.in_default.is in
    record {
      rest = ap (λ l. relisted l c.next.new.self) (sym (ap (λ o. with_name o c.in-Some.frame.now c.loop-frame.names.entries) none)) ∙ ap (relisted c.loop-frame.names.entries) (sym step) ∙ c.loop-frame.invariant.rest;
      partly = partly_skip c.args.names.now.entries c.loop-frame.names.entries c.in-Some.frame.now c.in-Some.used.now c.next.new.self partly;
      listed = listed.1;
      distinct = apart_tail (c.in-Some.frame.now, c.in-Some.used.now) c.next.new.self apart;
      room = omega (arith, c.loop-frame.invariant.room);
      all = c.loop-frame.invariant.all;
    }

pub returns-clause-listed : goal.returns-clause-listed
returns-clause-listed c =
    let all : c.loop-frame.names.entries ≡ relisted [] c.args.order.now.entries = ap (relisted c.loop-frame.names.entries) (sym c.in-None.ensures.steps.0) ∙ c.loop-frame.invariant.rest in
    subst (λ l. AllByRecursion (λ e. IsListed l e.0 (name_of e.1)) c.args.order.now.entries) (sym all) (relisted_listed c.args.names.now.entries [] c.args.order.now.entries c.requires.listed)
