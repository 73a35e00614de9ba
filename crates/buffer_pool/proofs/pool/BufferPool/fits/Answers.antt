use Rattle.std.proofs.Common.{rules, ◌≡◌, nat_le, ◌+◌, ◌≤◌, length, sym, ap, subst, ◌∙◌, arith}
use Rattle.std.specs.List.{filter}
use Rattle.node_rules.specs.BufferRule.{Pool, fits, need, free_frames, can_go, may_go}
use Rattle.buffer_pool.specs.Buffer.{IsBuffer}
use Rattle.buffer_pool.specs.Entries.{count, is_free, goes_for}
use Rattle.buffer_pool.proofs.Names.{count_within}
use Rattle.buffer_pool.proofs.Totals.{buffer_from_sound, goes}
use Rattle.buffer_pool.proofs.Pools.{some_free}
use Rattle.buffer_pool.proofs.pool.BufferPool.fits.Goals as goal

pub overflow_add-result-2 : goal.overflow_add-result-2
overflow_add-result-2 c =
    let few : c.free.result ≤ 4096 = omega (arith, c.free.ensures.value, c.self.invariant.table.frames, count_within is_free c.self.inside.table) in
    let some : c.can_go.result ≤ 4096 = omega (arith, c.can_go.ensures, c.self.invariant.table.frames, count_within (goes_for c.args.page) c.self.inside.table) in
    search rules

pub returns-clause-answer : goal.returns-clause-answer
unfolding fits
returns-clause-answer c =
    let free : free_frames c.args.self.now ≡ count is_free c.self.inside.table = some_free c.self.inside.images c.self.inside.table c.args.self.now c.self.view_is in
    let going : can_go c.args.self.now c.args.page ≡ count (goes_for c.args.page) c.self.inside.table = ap (λ (b : Pool). length (filter (may_go c.args.page) b.slots)) (sym c.self.view_is) ∙ goes c.args.page c.self.inside.images.images c.self.inside.table in
    rw (c.slot_need.ensures, c.private_need.ensures, c.free.ensures.value, c.can_go.ensures)
    (ap (λ n. nat_le (need c.args.self.now c.args.tx c.args.page c.args.write) (n + count (goes_for c.args.page) c.self.inside.table)) (sym free) ∙ ap (λ n. nat_le (need c.args.self.now c.args.tx c.args.page c.args.write) (free_frames c.args.self.now + n)) (sym going))

pub returns-clause-sound : goal.returns-clause-sound
returns-clause-sound c = subst IsBuffer c.self.view_is (buffer_from_sound c.self.inside.images c.self.inside.table c.self.invariant)
