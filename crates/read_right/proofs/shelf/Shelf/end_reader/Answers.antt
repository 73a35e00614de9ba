use Rattle.std.proofs.Common.{◌≡◌, nat_eq, Some, IsSome, not, refl, ap, sym, subst, ◌∙◌, arith}
use Rattle.std.specs.List.{filter}
use Rattle.std.specs.Map.{lookup}
use Rattle.node_rules.specs.Words.{same_tx}
use Rattle.node_rules.specs.Shelf.{end_reader}
use Rattle.read_right.specs.Seen.{HasRoom, one_if, rights_of}
use Rattle.read_right.proofs.Entries.{all_now, change-none, changed_now, right_made}
use Rattle.read_right.proofs.Sound.{room_found, sound_set}
use Rattle.read_right.proofs.shelf.Shelf.end_reader.Goals as goal

pub invariant_of-self : goal.invariant_of-self
invariant_of-self c =
    let es = c.self.inside.rights.entries in
    let r = c.in-Some.right.now in
    let w = c.end_reader.new.right in
    let there : lookup (nat_eq c.args.page) es ≡ Some r = sym c.in-Some.ensures.value in
    let some : IsSome (lookup (nat_eq c.args.page) es) = subst IsSome (sym there) refl in
    let writes = c.get_mut.follows.holds w in
    let had = room_found c.args.page es r c.self.inside.longest c.self.invariant.rights there in
    let has : HasRoom c.self.inside.longest w = record {
      short = omega (arith, had.short, c.end_reader.ensures.short, ap one_if c.end_reader.ensures.ready);
      room = omega (arith, had.room, c.end_reader.ensures.room, c.end_reader.ensures.short, ap one_if c.end_reader.ensures.ready);
    } in
    sound_set c.args.page w es _ _ _ c.self.inside.longest c.self.inside.longest c.self.inside.room _ _ c.self.invariant writes.0 (omega arith) has c.self.invariant.empty c.self.invariant.wide c.self.invariant.enough (omega (arith, c.self.invariant.places, writes.6))

pub returns-in-Some-clause-rights : goal.returns-in-Some-clause-rights
unfolding end_reader
returns-in-Some-clause-rights c =
    let es = c.self.inside.rights.entries in
    let r = c.in-Some.right.now in
    let w = c.end_reader.new.right in
    let there : lookup (nat_eq c.args.page) es ≡ Some r = sym c.in-Some.ensures.value in
    let some : IsSome (lookup (nat_eq c.args.page) es) = subst IsSome (sym there) refl in
    let writes = c.get_mut.follows.holds w in
    changed_now (λ x. record x { readers = filter (λ u. not (same_tx u c.args.tx)) x.readers }) c.args.page r w es _ c.args.self.now.rights (ap (λ v. v.rights) c.self.view_is) c.in-Some.ensures.unique there
    (right_made c.args.page w.version r.version w.readers.items (filter (λ u. not (same_tx u c.args.tx)) r.readers.items) c.end_reader.ensures.version c.end_reader.ensures.readers) writes.0

pub returns-in-Some-clause-ready : goal.returns-in-Some-clause-ready
returns-in-Some-clause-ready c =
    let es = c.self.inside.rights.entries in
    let r = c.in-Some.right.now in
    let w = c.end_reader.new.right in
    let there : lookup (nat_eq c.args.page) es ≡ Some r = sym c.in-Some.ensures.value in
    let some : IsSome (lookup (nat_eq c.args.page) es) = subst IsSome (sym there) refl in
    let writes = c.get_mut.follows.holds w in
    all_now c.args.page r w es _ c.args.self.now.marks (ap (λ v. v.marks) c.self.view_is) there (writes.3 some).1 c.end_reader.ensures.ready (writes.3 some).2

pub returns-in-None-clause-rights : goal.returns-in-None-clause-rights
unfolding end_reader
returns-in-None-clause-rights c =
    let view : rights_of c.self.inside.rights.entries ≡ c.args.self.now.rights = ap (λ v. v.rights) c.self.view_is in
    ap (λ m. rights_of m.entries) c.get_mut.follows.holds-at-none ∙ sym (change-none (λ x. record x { readers = filter (λ u. not (same_tx u c.args.tx)) x.readers }) c.args.page c.self.inside.rights.entries (sym c.in-None.ensures.value))
    ∙ ap (λ l. end_reader l c.args.page c.args.tx) view
