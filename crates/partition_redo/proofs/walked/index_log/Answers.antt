use Rattle.std.proofs.Common.{rules, ◌≡◌, ◌*◌, ◌<◌, ◌^◌, sym, ap, subst, ◌∙◌, arith, List, Some, []}
use Rattle.std.specs.List.{AllByRecursion}
use Rattle.disk_model.specs.Disk.{IsIn}
use Rattle.run_rules.specs.Disk.{Disk, log_at}
use Rattle.redo_log.specs.Told.{IsLog}
use Rattle.redo_log.specs.Placed.{Placed}
use Rattle.redo_log.specs.Walks.{node_of, to_come, first_seen}
use Rattle.partition_redo.specs.Index.{known, next_known, known_all}
use Rattle.partition_redo.proofs.Noted.{known_step, version_step}
use Rattle.partition_redo.proofs.Walking.{RisesFrom, rises_lower, placed_rises, log_walked, rise_step, no_more}
use Rattle.partition_redo.proofs.walked.index_log.Goals as goal

pub loop-init : goal.loop-init
loop-init g c =
    let own : node_of c.open-walk.result ≡ c.args.node = ap node_of c.open-walk.ensures.value in
    record {
      by = c.requires.by;
      node = subst (IsIn (g.S.Storage.logs c.args.s.now)) (sym own) c.requires.node;
      own = own;
      pages = search rules;
      logs = search rules;
      rooms = search rules;
      stops = search rules;
      calm = search rules;
      later = search rules;
      stands = λ log told. c.open-walk.ensures.stands log;
      known = λ d p v told. ap (λ (xs : List Placed). known_all p v c.args.node xs (known c.args.index.now p v)) (c.open-walk.ensures.all (log_at d c.args.node));
      versions = λ d told all. subst (AllByRecursion (λ x. x.entry.version < 2 ^ 64)) (c.open-walk.ensures.all (log_at d c.args.node)) all;
      rises = λ d told. subst (RisesFrom (2 * 0)) (sym (c.open-walk.ensures.all (log_at d c.args.node))) (rises_lower (2 * 0) 0 _ (omega arith) (placed_rises c.args.config.now (log_at d c.args.node)));
      few = λ d told. omega arith;
    }

pub returns-in-Ok-None-clause-known : goal.returns-in-Ok-None-clause-known
returns-in-Ok-None-clause-known g c = λ d p v told.
    let now : g.S.Storage.logs c.loop.s ≡ Some d.logs = c.loop.invariant.logs ∙ told in
    let log = log_walked d (g.S.Storage.logs c.loop.s) c.args.node (node_of c.loop.walk) c.loop.invariant.own c.loop.invariant.node now in
    let value = rw c.in-Ok-None.field-0-is at (c.in-Ok-None.ensures.value (log_at d c.args.node) log) in
    let none : to_come c.loop.walk (log_at d c.args.node) ≡ [] = no_more _ value in
    sym (ap (λ (xs : List Placed). known_all p v c.args.node xs (known c.loop.index p v)) none) ∙ c.loop.invariant.known d p v now

pub returns-in-Ok-None-clause-versions : goal.returns-in-Ok-None-clause-versions
returns-in-Ok-None-clause-versions g c = λ d told.
    let now : g.S.Storage.logs c.loop.s ≡ Some d.logs = c.loop.invariant.logs ∙ told in
    let log = log_walked d (g.S.Storage.logs c.loop.s) c.args.node (node_of c.loop.walk) c.loop.invariant.own c.loop.invariant.node now in
    let value = rw c.in-Ok-None.field-0-is at (c.in-Ok-None.ensures.value (log_at d c.args.node) log) in
    let none : to_come c.loop.walk (log_at d c.args.node) ≡ [] = no_more _ value in
    c.loop.invariant.versions d now (subst (AllByRecursion (λ x. x.entry.version < 2 ^ 64)) (sym none) tt)

pub loop-preserved : goal.loop-preserved
loop-preserved g c =
    let inv = c.loop.invariant in
    let next = c.in-Ok-Some.ensures in
    let own : node_of c.next.new.self ≡ node_of c.loop.walk = next.node in
    let back = λ (d : Disk) (t : g.S.Storage.logs c.next.new.s ≡ Some d.logs). let u : g.S.Storage.logs c.loop.s ≡ Some d.logs = sym next.logs ∙ t in u in
    let log = λ (d : Disk) (t : g.S.Storage.logs c.next.new.s ≡ Some d.logs). log_walked d (g.S.Storage.logs c.loop.s) c.args.node (node_of c.loop.walk) inv.own inv.node (back d t) in
    let found = λ (d : Disk) (t : g.S.Storage.logs c.next.new.s ≡ Some d.logs). let u : Some c.in-Ok-Some.seen ≡ first_seen (to_come c.loop.walk (log_at d c.args.node)) = sym c.in-Ok-Some.field-0-is ∙ next.value (log_at d c.args.node) (log d t) in u in
    let step = λ (d : Disk) (t : g.S.Storage.logs c.next.new.s ≡ Some d.logs).
    rise_step c.loop.counter _ _ c.in-Ok-Some.seen (found d t) (next.rest (log_at d c.args.node) (log d t)) (inv.rises d (back d t)) in
    record {
      by = subst (λ o. IsIn o c.args.by) (sym next.logs) inv.by;
      node = subst (λ o. IsIn o (node_of c.next.new.self)) (sym next.logs) (subst (IsIn (g.S.Storage.logs c.loop.s)) (sym own) inv.node);
      own = own ∙ inv.own;
      pages = next.pages ∙ inv.pages;
      logs = next.logs ∙ inv.logs;
      rooms = next.rooms ∙ inv.rooms;
      stops = next.stops ∙ inv.stops;
      calm = λ f quiet. next.calm f (inv.calm f quiet);
      later = λ k. let first = inv.later k in let more = next.cause.later k in omega arith;
      stands = λ l told. next.stands l (subst (λ o. IsLog o (node_of c.loop.walk) l) next.logs (subst (λ n. IsLog (g.S.Storage.logs c.next.new.s) n l) own told));
      known = λ d p v t.
          let is : known c.see.new.self p v ≡ next_known p v c.args.node c.in-Ok-Some.seen (known c.loop.index p v) =
          (λ i. record { base = c.in_ok-see-in-Ok-Some.ensures.bases p i; ranges = c.in_ok-see-in-Ok-Some.ensures.ranges p v i }) in
          known_step p v c.args.node _ _ c.in-Ok-Some.seen _ _ (found d t) (next.rest (log_at d c.args.node) (log d t)) is ∙ inv.known d p v (back d t);
      versions = λ d t all. inv.versions d (back d t) (version_step _ _ c.in-Ok-Some.seen (found d t) (next.rest (log_at d c.args.node) (log d t)) c.see.ensures.version all);
      rises = λ d t. (step d t).1;
      few = λ d t. let low = (step d t).0 in let fits = c.see.ensures.place in omega arith;
    }
