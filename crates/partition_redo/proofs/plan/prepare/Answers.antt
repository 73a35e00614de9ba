use Rattle.std.proofs.Common.{◌≡◌, ℕ, ◌<◌, ap, sym, subst, ◌∙◌, map, length, slice_index, List, Some, arith}
use Rattle.run_rules.specs.Views.{count_from}
use Rattle.partition_redo.specs.Index.{IndexView, NotedView, base_of, ranges_of, noted_in, known}
use Rattle.partition_redo.specs.Chains.{AreAll, AreChains, IsGiven, IsListed, IsRedone, IsStoredOne}
use Rattle.partition_redo.proofs.Leading.{by_recursion}
use Rattle.partition_redo.proofs.Standing.{AreSites, first_sites, log_sites, given_stand, given_pages, pages_below}
use Rattle.partition_redo.proofs.Plans.{IsFull, count_all, given_are_chains, given_are_newer, are_all_chains, are_chains, chains_redone, versions_named}
use Rattle.partition_redo.proofs.plan.prepare.Goals as goal

pub returns-in-Ok-clause-chains : goal.returns-in-Ok-clause-chains
returns-in-Ok-clause-chains g c = λ d pages logs.
    let i : IndexView = c.list_pages.new.index in
    let j : IndexView = c.index_logs.new.index in
    let told : g.S.Storage.logs c.list_pages.new.s ≡ Some d.logs = c.in_ok-list_pages.ensures.logs ∙ logs in
    let full : IsFull c.args.config.now d i j =
    record {
      known_is = λ p v. c.in_ok-index_logs.ensures.known d p v told;
      none_yet = λ p v. ap (λ (r : NotedView). noted_in r p v) c.in_ok-list_pages.ensures.ranges ∙ c.new-index.ensures.ranges p v;
      versions = λ n less. c.in_ok-index_logs.ensures.versions d n told less;
    } in
    let first : c.as_slice.result.now ≡ c.args.pages.now.items = c.as_slice.ensures.value in
    let listed = subst (λ (ps : List ℕ). (k : ℕ) → k < length ps → IsListed d i (slice_index ps k)) first (λ k inside. c.in_ok-list_pages.ensures.listed d k pages inside) in
    let given : AreAll (IsGiven j) c.args.pages.now.items c.in-Ok.plan.chains = subst (λ (ps : List ℕ). AreAll (IsGiven j) ps c.in-Ok.plan.chains) c.as_slice-2.ensures.value c.in-Ok.ensures.given in
    are_all_chains c.args.config.now d c.args.pages.now.items c.in-Ok.plan.chains (given_are_chains c.args.config.now d i j c.args.pages.now.items c.in-Ok.plan.chains full listed given)

pub returns-in-Ok-clause-newer : goal.returns-in-Ok-clause-newer
returns-in-Ok-clause-newer g c = λ d pages logs.
    let i : IndexView = c.list_pages.new.index in
    let j : IndexView = c.index_logs.new.index in
    let told : g.S.Storage.logs c.list_pages.new.s ≡ Some d.logs = c.in_ok-list_pages.ensures.logs ∙ logs in
    let full : IsFull c.args.config.now d i j =
    record {
      known_is = λ p v. c.in_ok-index_logs.ensures.known d p v told;
      none_yet = λ p v. ap (λ (r : NotedView). noted_in r p v) c.in_ok-list_pages.ensures.ranges ∙ c.new-index.ensures.ranges p v;
      versions = λ n less. c.in_ok-index_logs.ensures.versions d n told less;
    } in
    let first : c.as_slice.result.now ≡ c.args.pages.now.items = c.as_slice.ensures.value in
    let listed = subst (λ (ps : List ℕ). (k : ℕ) → k < length ps → IsListed d i (slice_index ps k)) first (λ k inside. c.in_ok-list_pages.ensures.listed d k pages inside) in
    let given : AreAll (IsGiven j) c.args.pages.now.items c.in-Ok.plan.chains = subst (λ (ps : List ℕ). AreAll (IsGiven j) ps c.in-Ok.plan.chains) c.as_slice-2.ensures.value c.in-Ok.ensures.given in
    given_are_newer c.args.config.now d i j c.args.pages.now.items c.in-Ok.plan.chains full listed given

pub returns-in-Ok-clause-listed : goal.returns-in-Ok-clause-listed
returns-in-Ok-clause-listed g c = given_pages c.index_logs.new.index c.as_slice-2.result.now c.in-Ok.plan.chains c.in-Ok.ensures.given ∙ c.as_slice-2.ensures.value

pub returns-in-Ok-clause-named : goal.returns-in-Ok-clause-named
returns-in-Ok-clause-named g c =
    ap (λ (vs : List (ℕ × ℕ)). map (λ (v : ℕ × ℕ). v.0) vs) c.in-Ok.ensures.versions
    ∙ versions_named c.in-Ok.plan.chains
    ∙ returns-in-Ok-clause-listed g c

pub returns-in-Ok-clause-redone : goal.returns-in-Ok-clause-redone
returns-in-Ok-clause-redone g c = λ d pages logs.
    let chains : AreChains c.args.config.now d c.args.pages.now.items c.in-Ok.plan.chains = are_chains c.args.config.now d c.args.pages.now.items c.in-Ok.plan.chains (returns-in-Ok-clause-listed g c) (returns-in-Ok-clause-chains g c d pages logs) in
    subst (AreAll (IsRedone c.args.config.now d) c.args.pages.now.items) (sym c.in-Ok.ensures.versions) (chains_redone c.args.config.now d c.args.pages.now.items c.in-Ok.plan.chains chains)

pub returns-in-Ok-clause-stand : goal.returns-in-Ok-clause-stand
returns-in-Ok-clause-stand g c = λ d logs.
    let i : IndexView = c.list_pages.new.index in
    let j : IndexView = c.index_logs.new.index in
    let told : g.S.Storage.logs c.list_pages.new.s ≡ Some d.logs = c.in_ok-list_pages.ensures.logs ∙ logs in
    let nodes : List ℕ = count_from 0 c.args.config.now.nodes in
    let below = count_all (λ n. n < c.args.config.now.nodes) 0 c.args.config.now.nodes (λ n less. let r : n < c.args.config.now.nodes = omega arith in r) in
    let known_first = λ (p v : ℕ).
    let plain : IsStoredOne (base_of i p) = c.in_ok-list_pages.ensures.plain p (subst IsStoredOne (sym (c.new-index.ensures.bases p)) tt) in
    first_sites c.args.config.now d (base_of i p) (ranges_of i p v) plain (ap (λ (r : NotedView). noted_in r p v) c.in_ok-list_pages.ensures.ranges ∙ c.new-index.ensures.ranges p v) in
    let known_last = λ (p v : ℕ).
    subst (AreSites c.args.config.now d) (sym (c.in_ok-index_logs.ensures.known d p v told)) (log_sites c.args.config.now d p v nodes (known i p v) below (known_first p v)) in
    given_stand c.args.config.now d j c.as_slice-2.result.now c.in-Ok.plan.chains known_last c.in-Ok.ensures.given

pub returns-in-Ok-clause-below : goal.returns-in-Ok-clause-below
returns-in-Ok-clause-below g c =
    pages_below c.args.config.now.pages c.args.pages.now.items c.in-Ok.plan.chains (returns-in-Ok-clause-listed g c) (by_recursion (λ p. p < c.args.config.now.pages) c.args.pages.now.items c.requires.below)
