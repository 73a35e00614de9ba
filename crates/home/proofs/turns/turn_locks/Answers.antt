use Rattle.std.proofs.Common.{◌≡◌, true, is_some, length, map, get_or, refl, ap, sym, subst, ◌∙◌, arith}
use Rattle.pcl_base.specs.declared.lock.Held.{Held}
use Rattle.pcl_base.specs.declared.lock.Kind.TheVariants.{Own}
use Rattle.pcl_base.specs.declared.tx.Mode.TheVariants.{Shared}
use Rattle.node_rules.specs.OpenTxs.{held_by, locks_of}
use Rattle.home.specs.Moves.{kind_if}
use Rattle.home.proofs.Turning.{page_held, in_part, as_many, lock_there, locks_kept, turn_next, turn_over, kinds_all}
use Rattle.home.proofs.turns.turn_locks.Goals as goal

abbrev first_lock : Held
first_lock = record { page = 0; mode = Shared; kind = Own }

pub loop-place-init : goal.loop-place-init
loop-place-init c = record { rest = refl; pages = refl; end = ap (λ l. length l) c.locks-place-end.ensures.value }

pub bounds-locks-place : goal.bounds-locks-place
bounds-locks-place c =
    let long = as_many (locks_of c.loop-place.txs c.args.tx) (locks_of c.args.txs.now c.args.tx) c.loop-place.invariant.pages in
    let here = ap (λ l. length l) c.locks.ensures.value in
    omega (arith, long, here, c.loop-place.invariant.end, c.loop-place-test.true)

pub turn_lock-requires : goal.turn_lock-requires
turn_lock-requires c =
    let long = as_many (locks_of c.loop-place.txs c.args.tx) (locks_of c.args.txs.now c.args.tx) c.loop-place.invariant.pages in
    subst (λ l. is_some (held_by c.loop-place.txs c.args.tx (get_or l c.loop-place.place first_lock).page) ≡ true) (sym c.locks.ensures.value)
    (lock_there (locks_of c.loop-place.txs c.args.tx) c.loop-place.place first_lock (omega (arith, long, c.loop-place.invariant.end, c.loop-place-test.true)))

pub loop-place-preserved : goal.loop-place-preserved
loop-place-preserved c =
    let long = as_many (locks_of c.loop-place.txs c.args.tx) (locks_of c.args.txs.now c.args.tx) c.loop-place.invariant.pages in
    let page = (get_or (locks_of c.loop-place.txs c.args.tx) c.loop-place.place first_lock).page in
    let changed =
    c.turn_lock.ensures
    ∙ ap (λ l. kind_if (in_part c.args.config.now c.args.partition (get_or l c.loop-place.place first_lock).page) c.loop-place.txs c.args.tx (get_or l c.loop-place.place first_lock).page c.args.kind) c.locks.ensures.value in
    record {
      rest =
          turn_next c.args.config.now c.args.partition c.args.kind c.loop-place.txs c.turn_lock.new.txs c.args.tx c.loop-place.place first_lock (omega (arith, long, c.loop-place.invariant.end, c.loop-place-test.true)) changed
          ∙ c.loop-place.invariant.rest;
      pages =
          ap (λ s. map page_held (locks_of s c.args.tx)) changed
          ∙ locks_kept (in_part c.args.config.now c.args.partition page) c.loop-place.txs c.args.tx page c.args.kind ∙ c.loop-place.invariant.pages;
      end = c.loop-place.invariant.end;
    }

pub returns : goal.returns
returns c =
    let long = as_many (locks_of c.loop-place.txs c.args.tx) (locks_of c.args.txs.now c.args.tx) c.loop-place.invariant.pages in
    sym (turn_over c.args.config.now c.args.partition c.args.kind c.loop-place.txs c.args.tx c.loop-place.place (omega (arith, long, c.loop-place.invariant.end, c.loop-place-test.false)))
    ∙ c.loop-place.invariant.rest ∙ kinds_all c.args.config.now c.args.partition c.args.kind c.args.txs.now c.args.tx c.requires.own c.requires.serials
