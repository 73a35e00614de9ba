use Rattle.std.proofs.Common.{◌≡◌, ◌+◌, ◌==◌, false, ap, sym, subst, ◌∙◌, arith}
use Rattle.std.proofs.lemmas.Bool.Decides.{nat_tests}
use Rattle.buffer_pool.specs.Entries.{count, goes_for, is_loose}
use Rattle.buffer_pool.proofs.Entries.{one}
use Rattle.buffer_pool.proofs.Names.{go_count, loose_row}
use Rattle.buffer_pool.proofs.table.Table.can_go.Goals as goal

pub overflow_sub-result : goal.overflow_sub-result
overflow_sub-result c =
    let all : c.self.inside.loose ≡ count is_loose c.args.self.now = c.self.invariant.loose_number ∙ ap (count is_loose) c.self.view_is in
    let parts : count (goes_for c.args.keep) c.args.self.now + one (c.in-Some.slot.pins == 0) ≡ count is_loose c.args.self.now =
    subst (λ o. count (goes_for c.args.keep) c.args.self.now + loose_row o ≡ count is_loose c.args.self.now) (sym c.in-Some.ensures.found) (go_count c.args.keep c.args.self.now (c.slot.ensures.sound.one_slot c.args.keep)) in
    let own : count (goes_for c.args.keep) c.args.self.now + 1 ≡ count is_loose c.args.self.now = rw c.if-slot-eq0.true at parts in
    omega (arith, all, own)

pub returns-then-slot-eq0 : goal.returns-then-slot-eq0
returns-then-slot-eq0 c =
    let all : c.self.inside.loose ≡ count is_loose c.args.self.now = c.self.invariant.loose_number ∙ ap (count is_loose) c.self.view_is in
    let parts : count (goes_for c.args.keep) c.args.self.now + one (c.in-Some.slot.pins == 0) ≡ count is_loose c.args.self.now =
    subst (λ o. count (goes_for c.args.keep) c.args.self.now + loose_row o ≡ count is_loose c.args.self.now) (sym c.in-Some.ensures.found) (go_count c.args.keep c.args.self.now (c.slot.ensures.sound.one_slot c.args.keep)) in
    let own : count (goes_for c.args.keep) c.args.self.now + 1 ≡ count is_loose c.args.self.now = rw c.if-slot-eq0.true at parts in
    omega (arith, all, own)

pub returns-else-slot-eq0 : goal.returns-else-slot-eq0
returns-else-slot-eq0 c =
    let all : c.self.inside.loose ≡ count is_loose c.args.self.now = c.self.invariant.loose_number ∙ ap (count is_loose) c.self.view_is in
    let parts : count (goes_for c.args.keep) c.args.self.now + one (c.in-Some.slot.pins == 0) ≡ count is_loose c.args.self.now =
    subst (λ o. count (goes_for c.args.keep) c.args.self.now + loose_row o ≡ count is_loose c.args.self.now) (sym c.in-Some.ensures.found) (go_count c.args.keep c.args.self.now (c.slot.ensures.sound.one_slot c.args.keep)) in
    let pinned : (c.in-Some.slot.pins == 0) ≡ false = grind (arith, nat_tests, c.if-slot-eq0.false) in
    let own : count (goes_for c.args.keep) c.args.self.now + 0 ≡ count is_loose c.args.self.now = rw pinned at parts in
    omega (arith, all, own)

pub returns-in-None : goal.returns-in-None
returns-in-None c =
    let all : c.self.inside.loose ≡ count is_loose c.args.self.now = c.self.invariant.loose_number ∙ ap (count is_loose) c.self.view_is in
    let parts : count (goes_for c.args.keep) c.args.self.now + 0 ≡ count is_loose c.args.self.now =
    subst (λ o. count (goes_for c.args.keep) c.args.self.now + loose_row o ≡ count is_loose c.args.self.now) (sym c.in-None.ensures.found) (go_count c.args.keep c.args.self.now (c.slot.ensures.sound.one_slot c.args.keep)) in
    omega (arith, all, parts)
