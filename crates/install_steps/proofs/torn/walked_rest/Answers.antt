use Rattle.std.proofs.Common.{◌≡◌, refl, sym, ap, subst, ◌∙◌, ◌*◌, Some, arith}
use Rattle.disk_model.specs.Disk.{told_at}
use Rattle.partition_redo.proofs.Walking.{sizes_kept}
use Rattle.redo_log.specs.Told.{IsLog}
use Rattle.redo_log.specs.Walks.{node_of, to_come, first_seen}
use Rattle.redo_log.proofs.Rising.{RisesFrom, rises_lower, placed_rises, rise_step}
use Rattle.install_steps.proofs.torn.walked_rest.Goals as goal

pub loop-init : goal.loop-init
loop-init g c = record {
  sizes = c.requires.sizes;
  own = ap node_of c.open-walk.ensures.value;
  config = ap (λ w. w.config) c.open-walk.ensures.value;
  pages = refl;
  logs = refl;
  rooms = refl;
  stops = refl;
  calm = λ f quiet. quiet;
  later = λ k. omega arith;
  stands = λ log told. c.open-walk.ensures.stands log;
  rises = λ log told. subst (RisesFrom (2 * 0)) (sym (c.open-walk.ensures.all log)) (rises_lower (2 * 0) 0 _ (omega arith) (placed_rises c.args.config.now log));
  few = λ log told. omega arith;
}

pub next-requires-clause-stands : goal.next-requires-clause-stands
next-requires-clause-stands g c = λ log told. c.loop.invariant.stands log (subst (λ o. IsLog o c.args.me log) c.loop.invariant.logs (subst (λ n. IsLog (g.S.Storage.logs c.loop.s) n log) c.loop.invariant.own told))

pub loop-preserved : goal.loop-preserved
loop-preserved g c = record {
  sizes = sizes_kept _ _ _ _ _ _ _ c.in-Ok-Some.ensures.pages c.in-Ok-Some.ensures.logs c.in-Ok-Some.ensures.rooms c.loop.invariant.sizes;
  own = c.in-Ok-Some.ensures.node ∙ c.loop.invariant.own;
  config = c.in-Ok-Some.ensures.config ∙ c.loop.invariant.config;
  pages = c.in-Ok-Some.ensures.pages ∙ c.loop.invariant.pages;
  logs = c.in-Ok-Some.ensures.logs ∙ c.loop.invariant.logs;
  rooms = c.in-Ok-Some.ensures.rooms ∙ c.loop.invariant.rooms;
  stops = c.in-Ok-Some.ensures.stops ∙ c.loop.invariant.stops;
  calm = λ f quiet. c.in-Ok-Some.ensures.calm f (c.loop.invariant.calm f quiet);
  later = λ k. let first = c.loop.invariant.later k in let then = c.in-Ok-Some.ensures.cause.later k in omega arith;
  stands = λ log told.
      let now : told_at (g.S.Storage.logs c.loop.s) c.loop.walk.reading.node ≡ Some log = rw (c.loop.invariant.logs, c.loop.invariant.own) told in
      c.in-Ok-Some.ensures.stands log now;
  rises = λ log told.
      let now : told_at (g.S.Storage.logs c.loop.s) c.loop.walk.reading.node ≡ Some log = rw (c.loop.invariant.logs, c.loop.invariant.own) told in
      let found : Some c.in-Ok-Some.seen ≡ first_seen (to_come c.loop.walk log) = sym c.in-Ok-Some.field-0-is ∙ c.in-Ok-Some.ensures.value log now in
      (rise_step c.loop.counter _ _ c.in-Ok-Some.seen found (c.in-Ok-Some.ensures.rest log now) (c.loop.invariant.rises log told)).1;
  few = λ log told.
      let now : told_at (g.S.Storage.logs c.loop.s) c.loop.walk.reading.node ≡ Some log = rw (c.loop.invariant.logs, c.loop.invariant.own) told in
      let found : Some c.in-Ok-Some.seen ≡ first_seen (to_come c.loop.walk log) = sym c.in-Ok-Some.field-0-is ∙ c.in-Ok-Some.ensures.value log now in
      let low = (rise_step c.loop.counter _ _ c.in-Ok-Some.seen found (c.in-Ok-Some.ensures.rest log now) (c.loop.invariant.rises log told)).0 in
      omega (arith, low, c.place_of-place.ensures.small);
}
