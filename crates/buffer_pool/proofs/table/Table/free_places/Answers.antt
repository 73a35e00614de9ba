use Rattle.std.proofs.Common.{◌≡◌, ◌<◌, length, ap, subst, ◌∙◌, arith}
use Rattle.std.specs.List.{AllByRecursion}
use Rattle.buffer_pool.specs.Kept.{freed_at}
use Rattle.buffer_pool.proofs.Freed.{freed_none, freed_next, freed_all, freed_length, freed_below}
use Rattle.buffer_pool.proofs.Names.{table_now}
use Rattle.buffer_pool.proofs.table.Table.free_places.Goals as goal

pub loop-frame-init : goal.loop-frame-init
loop-frame-init c = record {
  done = freed_none c.args.self.now;
  sound = table_now _ _ _ _ _ _ _ _ c.self.invariant c.self.view_is;
}

pub loop-frame-preserved : goal.loop-frame-preserved
loop-frame-preserved c = record {
  done = c.free_place.ensures.freed ∙ ap (freed_at c.loop-frame.frame) c.loop-frame.invariant.done ∙ freed_next c.loop-frame.frame c.args.self.now;
  sound = c.free_place.ensures.sound;
}

pub returns-clause-freed : goal.returns-clause-freed
returns-clause-freed c =
    let many : c.len-frame-end.result ≡ length c.args.self.now = c.len-frame-end.ensures.len ∙ ap length c.self.view_is in
    let end : c.loop-frame.frame ≡ length c.args.self.now = omega (arith, c.loop-frame-test.false, c.loop-frame.auto.frame-end) in
    let below : AllByRecursion (λ e. e.0 < length c.args.self.now) c.args.self.now = subst (λ es. AllByRecursion (λ e. e.0 < length es) es) c.self.view_is c.self.invariant.below in
    c.loop-frame.invariant.done ∙ ap (λ n. freed_below n c.args.self.now) end ∙ freed_all (length c.args.self.now) c.args.self.now below

pub free_place-requires : goal.free_place-requires
free_place-requires c =
    let many : c.len-frame-end.result ≡ length c.args.self.now = c.len-frame-end.ensures.len ∙ ap length c.self.view_is in
    let same : length c.loop-frame.self ≡ length c.args.self.now = ap length c.loop-frame.invariant.done ∙ freed_length c.loop-frame.frame c.args.self.now in
    omega (arith, c.loop-frame-test.true)
