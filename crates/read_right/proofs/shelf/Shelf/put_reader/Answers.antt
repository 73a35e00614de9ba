use Rattle.std.proofs.Common.{is_some, ◌≡◌, nat_eq, true, false, Some, None, IsSome, refl, ap, sym, subst, ◌∙◌, arith}
use Rattle.std.specs.Map.{lookup}
use Rattle.node_rules.specs.Shelf.{add_reader, with_one_reader}
use Rattle.read_right.specs.Seen.{HasRoom, one_if}
use Rattle.read_right.proofs.Entries.{found_now, changed_now, others_now, ready_now, right_put}
use Rattle.read_right.proofs.Sound.{room_found, sound_set}
use Rattle.read_right.proofs.shelf.Shelf.put_reader.Goals as goal

pub put_reader-requires : goal.put_reader-requires
put_reader-requires c =
    let es = c.self.inside.rights.entries in
    let r = c.in-Some.right.now in
    let there : lookup (nat_eq c.args.page) es ≡ Some r = sym c.in-Some.ensures.value in
    let had = room_found c.args.page es r c.self.inside.longest c.self.invariant.rights there in
    let ready : r.ready ≡ true = sym (ready_now c.args.page es (Some r) c.args.self.now.marks (ap (λ v. v.marks) c.self.view_is) there) ∙ c.requires in
    omega (arith, had.room, ap one_if ready)

pub unreachable-requires : goal.unreachable-requires
unreachable-requires c =
    let bad : false ≡ true = sym (ready_now c.args.page c.self.inside.rights.entries None c.args.self.now.marks (ap (λ v. v.marks) c.self.view_is) (sym c.in-None.ensures.value)) ∙ c.requires in
    cc

pub invariant_of-self : goal.invariant_of-self
invariant_of-self c =
    let es = c.self.inside.rights.entries in
    let r = c.in-Some.right.now in
    let w = c.put_reader.new.right in
    let there : lookup (nat_eq c.args.page) es ≡ Some r = sym c.in-Some.ensures.value in
    let some : IsSome (lookup (nat_eq c.args.page) es) = subst IsSome (sym there) refl in
    let writes = c.get_mut.follows.holds w in
    let had = room_found c.args.page es r c.self.inside.longest c.self.invariant.rights there in
    let ready : r.ready ≡ true = sym (ready_now c.args.page es (Some r) c.args.self.now.marks (ap (λ v. v.marks) c.self.view_is) there) ∙ c.requires in
    let has : HasRoom c.self.inside.longest w = record {
      short = omega (arith, had.short, c.put_reader.ensures.short, ap one_if ready, ap one_if c.put_reader.ensures.ready);
      room = omega (arith, had.room, c.put_reader.ensures.room, c.put_reader.ensures.short, ap one_if ready, ap one_if c.put_reader.ensures.ready);
    } in
    sound_set c.args.page w es _ _ _ c.self.inside.longest c.self.inside.longest c.self.inside.room _ _ c.self.invariant writes.0 (omega arith) has c.self.invariant.empty c.self.invariant.wide c.self.invariant.enough (omega (arith, c.self.invariant.places, writes.6))

pub returns-in-Some-clause-rights : goal.returns-in-Some-clause-rights
unfolding add_reader
returns-in-Some-clause-rights c =
    let es = c.self.inside.rights.entries in
    let r = c.in-Some.right.now in
    let w = c.put_reader.new.right in
    let there : lookup (nat_eq c.args.page) es ≡ Some r = sym c.in-Some.ensures.value in
    let some : IsSome (lookup (nat_eq c.args.page) es) = subst IsSome (sym there) refl in
    let writes = c.get_mut.follows.holds w in
    changed_now (with_one_reader c.args.tx) c.args.page r w es _ c.args.self.now.rights (ap (λ v. v.rights) c.self.view_is) c.in-Some.ensures.unique there
    (right_put c.args.page w.version r.version w.readers.items r.readers.items c.args.tx c.put_reader.ensures.version c.put_reader.ensures.readers) writes.0

pub returns-in-Some-clause-ready : goal.returns-in-Some-clause-ready
returns-in-Some-clause-ready c =
    let es = c.self.inside.rights.entries in
    let r = c.in-Some.right.now in
    let w = c.put_reader.new.right in
    let there : lookup (nat_eq c.args.page) es ≡ Some r = sym c.in-Some.ensures.value in
    let some : IsSome (lookup (nat_eq c.args.page) es) = subst IsSome (sym there) refl in
    let writes = c.get_mut.follows.holds w in
    ready_now c.args.page _ (Some w) _ refl (writes.3 some).1 ∙ c.put_reader.ensures.ready

pub returns-in-Some-clause-others : goal.returns-in-Some-clause-others
returns-in-Some-clause-others c =
    let es = c.self.inside.rights.entries in
    let r = c.in-Some.right.now in
    let w = c.put_reader.new.right in
    let there : lookup (nat_eq c.args.page) es ≡ Some r = sym c.in-Some.ensures.value in
    let some : IsSome (lookup (nat_eq c.args.page) es) = subst IsSome (sym there) refl in
    let writes = c.get_mut.follows.holds w in
    others_now c.args.page es _ c.args.self.now.marks (ap (λ v. v.marks) c.self.view_is) (writes.3 some).2

pub returns-in-Some-clause-there : goal.returns-in-Some-clause-there
returns-in-Some-clause-there c =
    let es = c.self.inside.rights.entries in
    let r = c.in-Some.right.now in
    let w = c.put_reader.new.right in
    let there : lookup (nat_eq c.args.page) es ≡ Some r = sym c.in-Some.ensures.value in
    let some : IsSome (lookup (nat_eq c.args.page) es) = subst IsSome (sym there) refl in
    let writes = c.get_mut.follows.holds w in
    ap is_some (found_now c.args.page _ (Some w) _ refl (writes.3 some).1)
