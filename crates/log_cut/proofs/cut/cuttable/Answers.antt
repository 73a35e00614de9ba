use Rattle.std.proofs.Common.{◌≡◌, refl, sym, ap, subst, ◌∙◌, ℕ, ◌*◌, ◌≤◌, length, Some, None, Err, arith}
use Rattle.disk_model.specs.Disk.{told_at, HasLength}
use Rattle.node_rules.specs.Work.{Outcome, Goes}
use Rattle.redo_log.specs.Told.{IsLog}
use Rattle.redo_log.specs.Walks.{node_of, to_come, first_seen}
use Rattle.redo_log.proofs.Rising.{RisesFrom, rises_lower, placed_rises, rise_step}
use Rattle.log_cut.specs.Cutting.{cut_if, cut_from}
use Rattle.log_cut.proofs.CuttingLemmas.{cut_of_log, cut_next, cut_ended, cut_faulted, page_is_long, sizes_kept, err_same}
use Rattle.log_cut.proofs.WithinLemmas.{EndBy, log_ends_of, next_ends}
use Rattle.log_cut.proofs.cut.cuttable.Goals as goal

pub loop-init : goal.loop-init
loop-init g c = record {
  sizes = c.requires.sizes;
  own = ap node_of c.open-walk.ensures.value;
  config = ap (λ w. w.config) c.open-walk.ensures.value;
  raw = c.requires.raw;
  pages = refl;
  logs = refl;
  rooms = refl;
  stops = refl;
  calm = λ f quiet. quiet;
  later = λ k. omega arith;
  stands = λ log told. c.open-walk.ensures.stands log;
  cut = λ pages log p told.
      ap (λ k. cut_from pages k (to_come c.open-walk.result log)) (ap (λ w. w.whole) c.open-walk.ensures.value)
      ∙ ap (cut_from pages 0) (c.open-walk.ensures.all log)
      ∙ cut_of_log c.args.config.now pages log;
  rises = λ log told. subst (RisesFrom (2 * 0)) (sym (c.open-walk.ensures.all log)) (rises_lower (2 * 0) 0 _ (omega arith) (placed_rises c.args.config.now log));
  within = λ log told. (
    subst (λ k. k ≤ length log) (sym (ap (λ w. w.whole) c.open-walk.ensures.value)) (omega arith),
    subst (EndBy (length log)) (sym (c.open-walk.ensures.all log)) (log_ends_of c.args.config.now log),
  );
  few = λ log told. omega arith;
}

pub next-requires-clause-stands : goal.next-requires-clause-stands
next-requires-clause-stands g c = λ log told. c.loop.invariant.stands log (subst (λ o. IsLog o c.args.node log) c.loop.invariant.logs (subst (λ n. IsLog (g.S.Storage.logs c.loop.s) n log) c.loop.invariant.own told))

pub returns-in-Ok-None-clause-value : goal.returns-in-Ok-None-clause-value
returns-in-Ok-None-clause-value g c = λ pages log p told.
    let now : told_at (g.S.Storage.logs c.loop.s) c.loop.walk.reading.node ≡ Some log = rw (c.loop.invariant.logs, c.loop.invariant.own) told in
    let none : None ≡ first_seen (to_come c.loop.walk log) = sym c.in-Ok-None.field-0-is ∙ c.in-Ok-None.ensures.value log now in
    sym (c.loop.invariant.cut pages log p told)
    ∙ cut_ended pages c.loop.walk.whole (to_come c.loop.walk log) none
    ∙ ap (λ (k : ℕ). Goes k) (sym c.whole-whole.ensures)

pub is_on_disk-requires-clause-length : goal.is_on_disk-requires-clause-length
is_on_disk-requires-clause-length g c =
    subst (λ x. HasLength (told_at x c.in-Ok-Some.seen.page) (length c.loop.raw)) (sym c.in-Ok-Some.ensures.pages)
    (page_is_long c.args.config.now (g.S.Storage.pages c.loop.s) (g.S.Storage.logs c.loop.s) (g.S.Storage.rooms c.loop.s) c.in-Ok-Some.seen.page (length c.loop.raw) c.loop.invariant.sizes c.loop.invariant.raw)

pub returns-in-Ok-false-clause-value : goal.returns-in-Ok-false-clause-value
returns-in-Ok-false-clause-value g c = λ pages log p told.
    let now : told_at (g.S.Storage.logs c.loop.s) c.loop.walk.reading.node ≡ Some log = rw (c.loop.invariant.logs, c.loop.invariant.own) told in
    let some = c.in-Ok-Some.ensures in
    let found : Some c.in-Ok-Some.seen ≡ first_seen (to_come c.loop.walk log) = sym c.in-Ok-Some.field-0-is ∙ some.value log now in
    let next = cut_next pages c.loop.walk.whole c.next.new.self.whole (to_come c.loop.walk log) (to_come c.next.new.self log) c.in-Ok-Some.seen found (some.rest log now) (some.whole log now) in
    let at : g.S.Storage.pages c.next.new.s ≡ Some pages = some.pages ∙ c.loop.invariant.pages ∙ p in
    let further : Outcome ℕ = cut_from pages c.next.new.self.whole (to_come c.next.new.self log) in
    sym (c.loop.invariant.cut pages log p told)
    ∙ next
    ∙ c.in-Ok-false.ensures.value pages at c.loop.walk.whole further
    ∙ ap (λ b. cut_if b c.loop.walk.whole further) c.in-Ok-false.field-0-test
    ∙ ap (λ (k : ℕ). Goes k) (sym c.whole-whole.ensures)

pub returns-in-Err-is_on_disk-clause-value : goal.returns-in-Err-is_on_disk-clause-value
returns-in-Err-is_on_disk-clause-value g c = λ pages log p told.
    let now : told_at (g.S.Storage.logs c.loop.s) c.loop.walk.reading.node ≡ Some log = rw (c.loop.invariant.logs, c.loop.invariant.own) told in
    let some = c.in-Ok-Some.ensures in
    let found : Some c.in-Ok-Some.seen ≡ first_seen (to_come c.loop.walk log) = sym c.in-Ok-Some.field-0-is ∙ some.value log now in
    let next = cut_next pages c.loop.walk.whole c.next.new.self.whole (to_come c.loop.walk log) (to_come c.next.new.self log) c.in-Ok-Some.seen found (some.rest log now) (some.whole log now) in
    let at : g.S.Storage.pages c.next.new.s ≡ Some pages = some.pages ∙ c.loop.invariant.pages ∙ p in
    let further : Outcome ℕ = cut_from pages c.next.new.self.whole (to_come c.next.new.self log) in
    cut_faulted pages c.in-Ok-Some.seen.page c.in-Ok-Some.seen.version c.loop.walk.whole _ further c.in-Err-is_on_disk.fault (sym (c.loop.invariant.cut pages log p told) ∙ next) c.in-Err-is_on_disk.ensures.fault (c.in-Err-is_on_disk.ensures.value pages at)

pub returns-in-Err-is_on_disk-clause-quiet : goal.returns-in-Err-is_on_disk-clause-quiet
returns-in-Err-is_on_disk-clause-quiet g c = λ f k none e.
    let same = err_same c.in-Err-is_on_disk.fault _ (Err c.in-Err-is_on_disk.fault) refl e in
    c.in-Err-is_on_disk.ensures.quiet f k (c.in-Ok-Some.ensures.calm f (c.loop.invariant.calm f none)) (ap (λ x. Err x) same)

pub loop-preserved : goal.loop-preserved
loop-preserved g c = record {
  sizes = sizes_kept _ _ _ _ _ _ _ (c.in-Ok-true.ensures.pages ∙ c.in-Ok-Some.ensures.pages) (c.in-Ok-true.ensures.logs ∙ c.in-Ok-Some.ensures.logs) (c.in-Ok-true.ensures.rooms ∙ c.in-Ok-Some.ensures.rooms) c.loop.invariant.sizes;
  own = c.in-Ok-Some.ensures.node ∙ c.loop.invariant.own;
  config = c.in-Ok-Some.ensures.config ∙ c.loop.invariant.config;
  raw = omega (arith, c.loop.invariant.raw);
  pages = c.in-Ok-true.ensures.pages ∙ c.in-Ok-Some.ensures.pages ∙ c.loop.invariant.pages;
  logs = c.in-Ok-true.ensures.logs ∙ c.in-Ok-Some.ensures.logs ∙ c.loop.invariant.logs;
  rooms = c.in-Ok-true.ensures.rooms ∙ c.in-Ok-Some.ensures.rooms ∙ c.loop.invariant.rooms;
  stops = c.in-Ok-true.ensures.stops ∙ c.in-Ok-Some.ensures.stops ∙ c.loop.invariant.stops;
  calm = λ f quiet. c.in-Ok-true.ensures.calm f (c.in-Ok-Some.ensures.calm f (c.loop.invariant.calm f quiet));
  later = λ k.
      let first = c.loop.invariant.later k in
      let then = c.in-Ok-Some.ensures.cause.later k in
      let last = c.in-Ok-true.ensures.counts k in
      omega arith;
  stands = λ log told.
      let now : told_at (g.S.Storage.logs c.loop.s) c.loop.walk.reading.node ≡ Some log = rw (c.loop.invariant.logs, c.loop.invariant.own) told in
      c.in-Ok-Some.ensures.stands log now;
  cut = λ pages log p told.
      let now : told_at (g.S.Storage.logs c.loop.s) c.loop.walk.reading.node ≡ Some log = rw (c.loop.invariant.logs, c.loop.invariant.own) told in
      let some = c.in-Ok-Some.ensures in
      let found : Some c.in-Ok-Some.seen ≡ first_seen (to_come c.loop.walk log) = sym c.in-Ok-Some.field-0-is ∙ some.value log now in
      let next = cut_next pages c.loop.walk.whole c.next.new.self.whole (to_come c.loop.walk log) (to_come c.next.new.self log) c.in-Ok-Some.seen found (some.rest log now) (some.whole log now) in
      let at : g.S.Storage.pages c.next.new.s ≡ Some pages = some.pages ∙ c.loop.invariant.pages ∙ p in
      let further : Outcome ℕ = cut_from pages c.next.new.self.whole (to_come c.next.new.self log) in
      sym (next ∙ c.in-Ok-true.ensures.value pages at c.loop.walk.whole further ∙ ap (λ b. cut_if b c.loop.walk.whole further) c.in-Ok-true.field-0-test)
      ∙ c.loop.invariant.cut pages log p told;
  rises = λ log told.
      let now : told_at (g.S.Storage.logs c.loop.s) c.loop.walk.reading.node ≡ Some log = rw (c.loop.invariant.logs, c.loop.invariant.own) told in
      let found : Some c.in-Ok-Some.seen ≡ first_seen (to_come c.loop.walk log) = sym c.in-Ok-Some.field-0-is ∙ c.in-Ok-Some.ensures.value log now in
      (rise_step c.loop.counter _ _ c.in-Ok-Some.seen found (c.in-Ok-Some.ensures.rest log now) (c.loop.invariant.rises log told)).1;
  within = λ log told.
      let now : told_at (g.S.Storage.logs c.loop.s) c.loop.walk.reading.node ≡ Some log = rw (c.loop.invariant.logs, c.loop.invariant.own) told in
      let found : Some c.in-Ok-Some.seen ≡ first_seen (to_come c.loop.walk log) = sym c.in-Ok-Some.field-0-is ∙ c.in-Ok-Some.ensures.value log now in
      let next = next_ends (length log) c.loop.walk.whole (to_come c.loop.walk log) c.in-Ok-Some.seen found (c.loop.invariant.within log told).1 in (
        subst (λ k. k ≤ length log) (sym (c.in-Ok-Some.ensures.whole log now)) next.0,
        subst (EndBy (length log)) (sym (c.in-Ok-Some.ensures.rest log now)) next.1,
      );
  few = λ log told.
      let now : told_at (g.S.Storage.logs c.loop.s) c.loop.walk.reading.node ≡ Some log = rw (c.loop.invariant.logs, c.loop.invariant.own) told in
      let found : Some c.in-Ok-Some.seen ≡ first_seen (to_come c.loop.walk log) = sym c.in-Ok-Some.field-0-is ∙ c.in-Ok-Some.ensures.value log now in
      let low = (rise_step c.loop.counter _ _ c.in-Ok-Some.seen found (c.in-Ok-Some.ensures.rest log now) (c.loop.invariant.rises log told)).0 in
      omega (arith, low, c.in-Ok-true.ensures.place);
}
