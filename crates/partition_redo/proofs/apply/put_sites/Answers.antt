use Rattle.std.proofs.Common.{◌≡◌, ℕ, ◌+◌, ◌≤◌, ◌∷◌, sym, subst, ◌∙◌, arith, drop, length, slice_index_or, false, List, Some, drop-cons, add-one}
use Rattle.std.specs.List.{AllByRecursion}
use Rattle.std.proofs.Math.ListN.{drop_of_length-le}
use Rattle.run_rules.specs.Disk.{Disk}
use Rattle.disk_model.specs.Disk.{IsIn}
use Rattle.partition_redo.specs.declared.site.Site.{Site}
use Rattle.partition_redo.specs.Chains.{IsSite, Leads}
use Rattle.partition_redo.proofs.Walking.{sizes_kept}
use Rattle.partition_redo.proofs.Applying.{AreSitesOn, site_node, site_answered, put_lead}
use Rattle.partition_redo.proofs.apply.put_sites.Goals as goal

pub apply_at-requires-clause-node : goal.apply_at-requires-clause-node
apply_at-requires-clause-node g c =
    let none : Site = record { node = 0; place = 0; whole = false } in
    let i : ℕ = c.loop-site.site-index in
    let split : drop i c.args.sites.now ≡ slice_index_or c.args.sites.now i none ∷ drop (i + 1) c.args.sites.now = rw (add-one) (drop-cons c.args.sites.now i none c.loop-site-test.true) in
    let all : AreSitesOn c.args.config.now (g.S.Storage.logs c.loop-site.s) (slice_index_or c.args.sites.now i none ∷ drop (i + 1) c.args.sites.now) =
    λ d told. subst (AllByRecursion (IsSite c.args.config.now d)) split (c.loop-site.invariant.stand d told) in
    site_node c.args.config.now _ (g.S.Storage.logs c.loop-site.s) _ (slice_index_or c.args.sites.now i none) (drop (i + 1) c.args.sites.now) c.loop-site.invariant.sizes all

pub apply_at-requires-clause-answered : goal.apply_at-requires-clause-answered
apply_at-requires-clause-answered g c = λ log told.
    let none : Site = record { node = 0; place = 0; whole = false } in
    let i : ℕ = c.loop-site.site-index in
    let split : drop i c.args.sites.now ≡ slice_index_or c.args.sites.now i none ∷ drop (i + 1) c.args.sites.now = rw (add-one) (drop-cons c.args.sites.now i none c.loop-site-test.true) in
    let all : AreSitesOn c.args.config.now (g.S.Storage.logs c.loop-site.s) (slice_index_or c.args.sites.now i none ∷ drop (i + 1) c.args.sites.now) =
    λ d t. subst (AllByRecursion (IsSite c.args.config.now d)) split (c.loop-site.invariant.stand d t) in
    site_answered c.args.config.now (g.S.Storage.logs c.loop-site.s) (slice_index_or c.args.sites.now i none) (drop (i + 1) c.args.sites.now) log all told

pub returns-clause-put : goal.returns-clause-put
returns-clause-put g c = λ d to told lead.
    let inv = c.loop-site.invariant in
    let rest = inv.rest d to (inv.logs ∙ told) lead in
    let past : length c.args.sites.now ≤ c.loop-site.site-index = omega arith in
    subst (λ (ss : List Site). Leads c.args.config.now d ss (drop 16 c.loop-site.raw) to) (drop_of_length-le c.args.sites.now past) rest

pub loop-site-preserved : goal.loop-site-preserved
loop-site-preserved g c =
    let inv = c.loop-site.invariant in
    let next = c.in_ok-apply_at.ensures in
    let none : Site = record { node = 0; place = 0; whole = false } in
    let i : ℕ = c.loop-site.site-index in
    let site : Site = slice_index_or c.args.sites.now i none in
    let more : List Site = drop (i + 1) c.args.sites.now in
    let split : drop i c.args.sites.now ≡ site ∷ more = rw (add-one) (drop-cons c.args.sites.now i none c.loop-site-test.true) in
    let back = λ (d : Disk) (t : g.S.Storage.logs c.apply_at.new.s ≡ Some d.logs). let u : g.S.Storage.logs c.loop-site.s ≡ Some d.logs = sym next.logs ∙ t in u in
    let long : 16 ≤ length c.loop-site.raw = let count = inv.length in omega arith in
    let all : AreSitesOn c.args.config.now (g.S.Storage.logs c.loop-site.s) (site ∷ more) = λ d t. subst (AllByRecursion (IsSite c.args.config.now d)) split (inv.stand d t) in
    let inside : IsIn (g.S.Storage.logs c.loop-site.s) site.node = site_node c.args.config.now _ (g.S.Storage.logs c.loop-site.s) _ site more inv.sizes all in
    record {
      sizes = sizes_kept _ _ _ _ _ _ _ next.pages next.logs next.rooms inv.sizes;
      length = let kept = c.apply_at.auto.raw in let before = inv.length in omega arith;
      pages = next.pages ∙ inv.pages;
      logs = next.logs ∙ inv.logs;
      rooms = next.rooms ∙ inv.rooms;
      stops = next.stops ∙ inv.stops;
      calm = λ f quiet. next.calm f (inv.calm f quiet);
      later = λ k. let first = inv.later k in let later = next.cause.later k in omega arith;
      stand = λ d t. (all d (back d t)).1;
      rest = λ d to t lead.
          put_lead c.args.config.now d (g.S.Storage.logs c.loop-site.s) site more c.loop-site.raw c.apply_at.new.raw to inside (back d t) long
          (subst (λ (ss : List Site). Leads c.args.config.now d ss (drop 16 c.loop-site.raw) to) split (inv.rest d to (back d t) lead)) next.applied;
    }
