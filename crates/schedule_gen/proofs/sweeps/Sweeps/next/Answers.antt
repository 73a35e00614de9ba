use Rattle.std.proofs.Common.{◌≡◌, ◌∙◌, ◌≤◌, ◌<◌, ◌+◌, ◌-◌, suc, [], length, sym, subst, ap, arith, Some, drop}
use Rattle.schedule_gen.specs.Links.{SweepsView, first_of, rest_of, repeated, IsLink}
use Rattle.schedule_gen.proofs.LinkLemmas.{no_sweep_due, no_link_due, none_first, none_left, first_due, going_on, next_sweep, all_get, is_inside}
use Rattle.schedule_gen.proofs.sweeps.Sweeps.next.Goals as goal

pub returns-then-self-eq0 : goal.returns-then-self-eq0
returns-then-self-eq0 c =
    let none : c.args.self.now.due ≡ [] = sym (ap (λ (s : SweepsView). s.due) c.self.view_is) ∙ no_sweep_due c.self.inside.count c.self.inside.made c.self.inside.links.items c.if-self-eq0.true in
    record { first = none_first c.args.self.now none; rest = none_left c.args.self.now none; link = tt }

pub returns-then-is_empty : goal.returns-then-is_empty
returns-then-is_empty c =
    let none : length c.self.inside.links.items ≡ 0 = grind (arith, c.if-is_empty.ensures, c.self.inside.links.ok.0) in
    let nothing : c.args.self.now.due ≡ [] = sym (ap (λ (s : SweepsView). s.due) c.self.view_is) ∙ no_link_due c.self.inside.count c.self.inside.made c.self.inside.links.items none in
    record { first = none_first c.args.self.now nothing; rest = none_left c.args.self.now nothing; link = tt }

pub returns-then-self-len : goal.returns-then-self-len
returns-then-self-len c =
    let inside : c.self.inside.made < length c.self.inside.links.items = omega (arith, c.if-self-len.true, c.len.ensures, c.self.inside.links.ok.0) in
    let first = first_due c.self.inside.count c.self.inside.made c.self.inside.links.items c.index-link.result.now c.if-self-eq0.false inside c.index-link.ensures in
    record {
      first = subst (λ (s : SweepsView). Some c.index-link.result.now ≡ first_of s.due) c.self.view_is first;
      rest =
          subst (λ (s : SweepsView). record { sweep = c.self.inside.links.items; due = drop (c.self.inside.made + 1) (repeated c.self.inside.count c.self.inside.links.items) } ≡ record s { due = rest_of s.due }) c.self.view_is
          (ap (λ d. record { sweep = c.self.inside.links.items; due = d }) (going_on c.self.inside.made (repeated c.self.inside.count c.self.inside.links.items)));
      link = all_get IsLink c.self.inside.links.items c.self.inside.made c.index-link.result.now inside c.index-link.ensures c.self.invariant.1;
    }

pub returns : goal.returns
returns c =
    let some : 1 ≤ length c.self.inside.links.items = grind (arith, c.if-is_empty.ensures, c.self.inside.links.ok.0) in
    let inside : c.self.inside.made < length c.self.inside.links.items = is_inside c.self.inside.made (length c.self.inside.links.items) some c.self.invariant.0 in
    let last : suc c.self.inside.made ≡ length c.self.inside.links.items = omega (arith, inside, c.if-self-len.false, c.len.ensures, c.self.inside.links.ok.0) in
    let more : c.self.inside.count ≡ suc (c.self.inside.count - 1) = omega (arith, c.if-self-eq0.false) in
    let first = first_due c.self.inside.count c.self.inside.made c.self.inside.links.items c.index-link.result.now c.if-self-eq0.false inside c.index-link.ensures in
    record {
      first = subst (λ (s : SweepsView). Some c.index-link.result.now ≡ first_of s.due) c.self.view_is first;
      rest =
          subst (λ (s : SweepsView). record { sweep = c.self.inside.links.items; due = repeated (c.self.inside.count - 1) c.self.inside.links.items } ≡ record s { due = rest_of s.due }) c.self.view_is
          (ap (λ d. record { sweep = c.self.inside.links.items; due = d }) (next_sweep c.self.inside.count (c.self.inside.count - 1) c.self.inside.made c.self.inside.links.items more last));
      link = all_get IsLink c.self.inside.links.items c.self.inside.made c.index-link.result.now inside c.index-link.ensures c.self.invariant.1;
    }
