use Rattle.std.proofs.Common.{rules, ◌≡◌, ◌*◌, sym, ap, subst, ◌∙◌, arith, nat_eq, List, Some, []}
use Rattle.std.specs.Map.{lookup}
use Rattle.disk_model.specs.Disk.{IsIn}
use Rattle.run_rules.specs.Disk.{Disk, log_at}
use Rattle.redo_log.specs.Told.{IsLog}
use Rattle.redo_log.specs.Placed.{Placed}
use Rattle.redo_log.specs.Walks.{node_of, to_come, first_seen}
use Rattle.partition_redo.specs.Newest.{seen_all}
use Rattle.partition_redo.proofs.Walking.{RisesFrom, rises_lower, placed_rises, log_walked, rise_step, seen_step, no_more}
use Rattle.partition_redo.proofs.versions.see_log.Goals as goal

pub loop-init : goal.loop-init
loop-init g c =
    let own : node_of c.open-walk.result ≡ c.args.node = ap node_of c.open-walk.ensures.value in
    record {
      by = c.requires.by;
      node = subst (IsIn (g.S.Storage.logs c.args.s.now)) (sym own) c.requires.node;
      own = own;
      pages = search rules;
      logs = search rules;
      rooms = search rules;
      stops = search rules;
      calm = search rules;
      later = search rules;
      stands = λ log told. c.open-walk.ensures.stands log;
      seen = λ d p told. ap (λ (xs : List Placed). seen_all p xs (lookup (nat_eq p) c.args.greatest.now)) (c.open-walk.ensures.all (log_at d c.args.node));
      rises = λ d told. subst (RisesFrom (2 * 0)) (sym (c.open-walk.ensures.all (log_at d c.args.node))) (rises_lower (2 * 0) 0 _ (omega arith) (placed_rises c.args.config.now (log_at d c.args.node)));
      few = λ d told. omega arith;
    }

pub returns-in-None-clause-seen : goal.returns-in-None-clause-seen
returns-in-None-clause-seen g c = λ d p told.
    let now : g.S.Storage.logs c.loop.s ≡ Some d.logs = c.loop.invariant.logs ∙ told in
    let log = log_walked d (g.S.Storage.logs c.loop.s) c.args.node (node_of c.loop.walk) c.loop.invariant.own c.loop.invariant.node now in
    let value = rw c.in-None.is at (c.in_ok-seen.ensures.value (log_at d c.args.node) log) in
    let none : to_come c.loop.walk (log_at d c.args.node) ≡ [] = no_more _ value in
    sym (ap (λ (xs : List Placed). seen_all p xs (lookup (nat_eq p) c.loop.greatest)) none) ∙ c.loop.invariant.seen d p now

pub loop-preserved : goal.loop-preserved
loop-preserved g c =
    let inv = c.loop.invariant in
    let next = c.in_ok-seen.ensures in
    let own : node_of c.next.new.self ≡ node_of c.loop.walk = next.node in
    let back = λ (d : Disk) (t : g.S.Storage.logs c.next.new.s ≡ Some d.logs). let u : g.S.Storage.logs c.loop.s ≡ Some d.logs = sym next.logs ∙ t in u in
    let log = λ (d : Disk) (t : g.S.Storage.logs c.next.new.s ≡ Some d.logs). log_walked d (g.S.Storage.logs c.loop.s) c.args.node (node_of c.loop.walk) inv.own inv.node (back d t) in
    let found = λ (d : Disk) (t : g.S.Storage.logs c.next.new.s ≡ Some d.logs). let u : Some c.in-Some.seen ≡ first_seen (to_come c.loop.walk (log_at d c.args.node)) = sym c.in-Some.is ∙ next.value (log_at d c.args.node) (log d t) in u in
    let step = λ (d : Disk) (t : g.S.Storage.logs c.next.new.s ≡ Some d.logs).
    rise_step c.loop.counter _ _ c.in-Some.seen (found d t) (next.rest (log_at d c.args.node) (log d t)) (inv.rises d (back d t)) in
    record {
      by = subst (λ o. IsIn o c.args.by) (sym next.logs) inv.by;
      node = subst (λ o. IsIn o (node_of c.next.new.self)) (sym next.logs) (subst (IsIn (g.S.Storage.logs c.loop.s)) (sym own) inv.node);
      own = own ∙ inv.own;
      pages = next.pages ∙ inv.pages;
      logs = next.logs ∙ inv.logs;
      rooms = next.rooms ∙ inv.rooms;
      stops = next.stops ∙ inv.stops;
      calm = λ f quiet. next.calm f (inv.calm f quiet);
      later = λ k. let first = inv.later k in let more = next.cause.later k in omega arith;
      stands = λ l told. next.stands l (subst (λ o. IsLog o (node_of c.loop.walk) l) next.logs (subst (λ n. IsLog (g.S.Storage.logs c.next.new.s) n l) own told));
      seen = λ d p t. seen_step p _ _ c.in-Some.seen _ _ (found d t) (next.rest (log_at d c.args.node) (log d t)) (c.see.ensures.noted p) ∙ inv.seen d p (back d t);
      rises = λ d t. (step d t).1;
      few = λ d t. let low = (step d t).0 in let fits = c.see.ensures.place in omega arith;
    }
