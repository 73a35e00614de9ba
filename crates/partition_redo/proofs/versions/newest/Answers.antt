use Rattle.std.proofs.Common.{◌≡◌, sym, ap, subst, ◌∙◌, ℕ, ◌<◌, List, map, length, nat_eq, slice_index, Some}
use Rattle.std.specs.Map.{lookup}
use Rattle.run_rules.specs.Redo.{greatest, records_in}
use Rattle.partition_redo.specs.Newest.{seen_logs}
use Rattle.partition_redo.proofs.SeenVersions.{seen_is_greatest}
use Rattle.partition_redo.proofs.versions.newest.Goals as goal

pub returns-in-Ok-clause-versions : goal.returns-in-Ok-clause-versions
returns-in-Ok-clause-versions g c = λ d told.
    let same : c.as_slice-in-Ok.result.now ≡ c.as_slice.result.now = c.as_slice-in-Ok.ensures.value ∙ sym c.as_slice.ensures.value in
    let nodes : c.as_slice-2.result.now ≡ c.args.logs.now.items = c.as_slice-2.ensures.value in
    let found = λ (k : ℕ) (inside : k < length c.as_slice-in-Ok.result.now).
    let at : ℕ = slice_index c.as_slice-in-Ok.result.now k in
    let first : lookup (nat_eq at) c.in_ok-greatest.greatest ≡ Some 0 =
    ap (λ (xs : List ℕ). lookup (nat_eq (slice_index xs k)) c.in_ok-greatest.greatest) same ∙ c.in_ok-greatest.ensures.zero k (subst (λ (xs : List ℕ). k < length xs) same inside) in
    c.in-Ok.ensures.seen d at told
    ∙ ap (λ (ns : List ℕ). seen_logs c.args.config.now d at ns (lookup (nat_eq at) c.in_ok-greatest.greatest)) nodes
    ∙ ap (seen_logs c.args.config.now d at c.args.logs.now.items) first
    ∙ seen_is_greatest c.args.config.now d at c.args.logs.now.items in
    c.in_ok-versions-in-Ok.ensures.all (greatest (records_in c.args.config.now d c.args.logs.now.items)) found
    ∙ ap (map (greatest (records_in c.args.config.now d c.args.logs.now.items))) c.as_slice-in-Ok.ensures.value
