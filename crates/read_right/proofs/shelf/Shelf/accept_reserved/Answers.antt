use Rattle.std.proofs.Common.{rules, ◌≡◌, ◌≤◌, ◌+◌, nat_eq, true, Some, None, IsSome, [], ◌∷◌, ◌++◌, length, is_some, vec_capacity, refl, ap, sym, subst, ◌∙◌, arith}
use Rattle.std.proofs.lemmas.List.Elements.{All-pop}
use Rattle.std.specs.Map.{lookup}
use Rattle.indexmap.specs.IndexMap.{spare}
use Rattle.node_rules.specs.Shelf.{right_on}
use Rattle.read_right.specs.declared.right.ReadRight.{ReadRight}
use Rattle.read_right.specs.Seen.{HasRoom, one_if}
use Rattle.read_right.proofs.Entries.{accept_there, accepted_now, found_now, kept_now, others_now, pushed_here, pushed_there, ready_now, right_made}
use Rattle.read_right.proofs.Sound.{room_found, sound_pushed, sound_set}
use Rattle.read_right.proofs.shelf.Shelf.accept_reserved.Goals as goal

pub invariant_of-self : goal.invariant_of-self
invariant_of-self c =
    let es = c.self.inside.rights.entries in
    let r = c.in-Some.right.now in
    let w = c.make_ready.new.right in
    let there : lookup (nat_eq c.args.page) es ≡ Some r = sym c.in-Some.ensures.value in
    let some : IsSome (lookup (nat_eq c.args.page) es) = subst IsSome (sym there) refl in
    let writes = c.get_mut.follows.holds w in
    let less : length c.self.inside.stock.items ≡ length c.pop.new.self.items + 1 = search rules in
    let empty = All-pop (λ v. length v.items ≡ 0) c.self.inside.stock.items c.pop.new.self.items c.pop.result c.pop.ensures.items c.self.invariant.empty in
    let wide = All-pop (λ v. c.self.inside.room ≤ vec_capacity v) c.self.inside.stock.items c.pop.new.self.items c.pop.result c.pop.ensures.items c.self.invariant.wide in
    let had = room_found c.args.page es r c.self.inside.longest c.self.invariant.rights there in
    let long : length w.readers.items ≡ length r.readers.items = ap length c.make_ready.ensures.readers in
    let has : HasRoom c.max-self-inside.result w = record {
      short = omega (arith, long, c.len.ensures, r.readers.ok.0, c.max-self-inside.ensures, ap one_if c.make_ready.ensures.ready);
      room = omega (arith, long, c.make_ready.ensures.room, ap one_if c.make_ready.ensures.ready);
    } in
    sound_set c.args.page w es _ _ _ c.self.inside.longest c.max-self-inside.result c.self.inside.room _ _ c.self.invariant writes.0 (omega (arith, c.max-self-inside.ensures)) has empty.0 wide.0
    (omega (arith, c.self.invariant.enough, less, had.short, c.len.ensures, r.readers.ok.0, c.max-self-inside.ensures)) (omega (arith, c.self.invariant.places, less, writes.6))

pub invariant_of-self-in-None : goal.invariant_of-self-in-None
invariant_of-self-in-None c =
    let es = c.self.inside.rights.entries in
    let w : ReadRight = record { version = c.args.version; readers = c.unwrap-readers.result; ready = true } in
    let none : lookup (nat_eq c.args.page) es ≡ None = sym c.in-None.ensures.value in
    let pushed : c.insert.new.rights.entries ≡ es ++ (c.args.page, w) ∷ [] = c.insert.ensures.entries ∙ ap (λ m. m.entries ++ (c.args.page, w) ∷ []) c.get_mut.follows.holds-at-none in
    let less : length c.self.inside.stock.items ≡ length c.pop.new.self.items + 1 = search rules in
    let empty = All-pop (λ v. length v.items ≡ 0) c.self.inside.stock.items c.pop.new.self.items c.pop.result c.pop.ensures.items c.self.invariant.empty in
    let wide = All-pop (λ v. c.self.inside.room ≤ vec_capacity v) c.self.inside.stock.items c.pop.new.self.items c.pop.result c.pop.ensures.items c.self.invariant.wide in
    let fresh : length w.readers.items ≡ 0 = search (rules, empty.1) in
    let roomy : c.self.inside.room ≤ vec_capacity w.readers = search (rules, wide.1) in
    let has : HasRoom c.max-self-inside-in-None.result w = record {
      short = omega (arith, fresh, c.max-self-inside-in-None.ensures);
      room = omega (arith, fresh, roomy, c.self.invariant.enough, less);
    } in
    sound_pushed c.args.page w es _ _ _ c.self.inside.longest c.max-self-inside-in-None.result c.self.inside.room _ _ c.self.invariant pushed (omega (arith, c.max-self-inside-in-None.ensures)) has empty.0 wide.0
    (omega (arith, c.self.invariant.enough, less, c.max-self-inside-in-None.ensures)) (omega (arith, c.self.invariant.places, less, c.insert.ensures.spare, ap spare c.get_mut.follows.holds-at-none))

pub returns-in-Some-clause-answer : goal.returns-in-Some-clause-answer
returns-in-Some-clause-answer c =
    rw (found_now c.args.page c.self.inside.rights.entries (Some c.in-Some.right.now) c.args.self.now.rights (ap (λ v. v.rights) c.self.view_is) (sym c.in-Some.ensures.value)) refl

pub returns-in-Some-clause-rights : goal.returns-in-Some-clause-rights
returns-in-Some-clause-rights c =
    let es = c.self.inside.rights.entries in
    let r = c.in-Some.right.now in
    let w = c.make_ready.new.right in
    let there : lookup (nat_eq c.args.page) es ≡ Some r = sym c.in-Some.ensures.value in
    let some : IsSome (lookup (nat_eq c.args.page) es) = subst IsSome (sym there) refl in
    let writes = c.get_mut.follows.holds w in
    let is : IsSome (right_on c.args.self.now.rights c.args.page) = ap is_some (found_now c.args.page es (Some r) c.args.self.now.rights (ap (λ v. v.rights) c.self.view_is) there) in
    kept_now c.args.page r w es _ c.args.self.now.rights (ap (λ v. v.rights) c.self.view_is) c.in-Some.ensures.unique there
    (right_made c.args.page w.version r.version w.readers.items r.readers.items c.make_ready.ensures.version c.make_ready.ensures.readers) writes.0
    ∙ sym (accept_there c.args.page c.args.version c.args.self.now.rights is)

pub returns-in-Some-clause-ready : goal.returns-in-Some-clause-ready
returns-in-Some-clause-ready c =
    let es = c.self.inside.rights.entries in
    let r = c.in-Some.right.now in
    let w = c.make_ready.new.right in
    let there : lookup (nat_eq c.args.page) es ≡ Some r = sym c.in-Some.ensures.value in
    let some : IsSome (lookup (nat_eq c.args.page) es) = subst IsSome (sym there) refl in
    let writes = c.get_mut.follows.holds w in
    ready_now c.args.page _ (Some w) _ refl (writes.3 some).1 ∙ c.make_ready.ensures.ready

pub returns-in-Some-clause-others : goal.returns-in-Some-clause-others
returns-in-Some-clause-others c =
    let es = c.self.inside.rights.entries in
    let r = c.in-Some.right.now in
    let w = c.make_ready.new.right in
    let there : lookup (nat_eq c.args.page) es ≡ Some r = sym c.in-Some.ensures.value in
    let some : IsSome (lookup (nat_eq c.args.page) es) = subst IsSome (sym there) refl in
    let writes = c.get_mut.follows.holds w in
    others_now c.args.page es _ c.args.self.now.marks (ap (λ v. v.marks) c.self.view_is) (writes.3 some).2

pub returns-in-None-clause-answer : goal.returns-in-None-clause-answer
returns-in-None-clause-answer c =
    rw (found_now c.args.page c.self.inside.rights.entries None c.args.self.now.rights (ap (λ v. v.rights) c.self.view_is) (sym c.in-None.ensures.value)) refl

pub returns-in-None-clause-rights : goal.returns-in-None-clause-rights
returns-in-None-clause-rights c =
    let es = c.self.inside.rights.entries in
    let w : ReadRight = record { version = c.args.version; readers = c.unwrap-readers.result; ready = true } in
    let none : lookup (nat_eq c.args.page) es ≡ None = sym c.in-None.ensures.value in
    let pushed : c.insert.new.rights.entries ≡ es ++ (c.args.page, w) ∷ [] = c.insert.ensures.entries ∙ ap (λ m. m.entries ++ (c.args.page, w) ∷ []) c.get_mut.follows.holds-at-none in
    let empty = All-pop (λ v. length v.items ≡ 0) c.self.inside.stock.items c.pop.new.self.items c.pop.result c.pop.ensures.items c.self.invariant.empty in
    let fresh : length w.readers.items ≡ 0 = search (rules, empty.1) in
    accepted_now c.args.page c.args.version w es _ c.args.self.now.rights (ap (λ v. v.rights) c.self.view_is) none pushed refl fresh

pub returns-in-None-clause-ready : goal.returns-in-None-clause-ready
returns-in-None-clause-ready c =
    let es = c.self.inside.rights.entries in
    let w : ReadRight = record { version = c.args.version; readers = c.unwrap-readers.result; ready = true } in
    let none : lookup (nat_eq c.args.page) es ≡ None = sym c.in-None.ensures.value in
    let pushed : c.insert.new.rights.entries ≡ es ++ (c.args.page, w) ∷ [] = c.insert.ensures.entries ∙ ap (λ m. m.entries ++ (c.args.page, w) ∷ []) c.get_mut.follows.holds-at-none in
    ready_now c.args.page _ (Some w) _ refl (pushed_here c.args.page w es _ pushed none)

pub returns-in-None-clause-others : goal.returns-in-None-clause-others
returns-in-None-clause-others c =
    let es = c.self.inside.rights.entries in
    let w : ReadRight = record { version = c.args.version; readers = c.unwrap-readers.result; ready = true } in
    let none : lookup (nat_eq c.args.page) es ≡ None = sym c.in-None.ensures.value in
    let pushed : c.insert.new.rights.entries ≡ es ++ (c.args.page, w) ∷ [] = c.insert.ensures.entries ∙ ap (λ m. m.entries ++ (c.args.page, w) ∷ []) c.get_mut.follows.holds-at-none in
    others_now c.args.page es _ c.args.self.now.marks (ap (λ v. v.marks) c.self.view_is) (pushed_there c.args.page w es _ pushed)

pub returns-in-Some-clause-there : goal.returns-in-Some-clause-there
returns-in-Some-clause-there c =
    let es = c.self.inside.rights.entries in
    let r = c.in-Some.right.now in
    let w = c.make_ready.new.right in
    let there : lookup (nat_eq c.args.page) es ≡ Some r = sym c.in-Some.ensures.value in
    let some : IsSome (lookup (nat_eq c.args.page) es) = subst IsSome (sym there) refl in
    let writes = c.get_mut.follows.holds w in
    ap is_some (found_now c.args.page _ (Some w) _ refl (writes.3 some).1)

pub returns-in-None-clause-there : goal.returns-in-None-clause-there
returns-in-None-clause-there c =
    let es = c.self.inside.rights.entries in
    let w : ReadRight = record { version = c.args.version; readers = c.unwrap-readers.result; ready = true } in
    let none : lookup (nat_eq c.args.page) es ≡ None = sym c.in-None.ensures.value in
    let pushed : c.insert.new.rights.entries ≡ es ++ (c.args.page, w) ∷ [] = c.insert.ensures.entries ∙ ap (λ m. m.entries ++ (c.args.page, w) ∷ []) c.get_mut.follows.holds-at-none in
    ap is_some (found_now c.args.page _ (Some w) _ refl (pushed_here c.args.page w es _ pushed none))
