use Rattle.std.proofs.Common.{ℕ, nat_lt, map, ap, sym, ◌∙◌}
use Rattle.std.specs.List.{filter}
use Rattle.run_rules.specs.Redo.{greatest, records_in}
use Rattle.node_rules.specs.LockTable.{entry_at, pages_of}
use Rattle.lock_table.specs.Tables.{table_of}
use Rattle.install_plans.proofs.Words.{table_pages}
use Rattle.install_plans.proofs.Lost.{none_newer}
use Rattle.install_plans.proofs.newer.newer_pages.Goals as goal

pub returns-then-is_empty-clause-newer : goal.returns-then-is_empty-clause-newer
returns-then-is_empty-clause-newer g c = λ d logs.
    c.new.ensures.items
    ∙ none_newer c.args.by.now.config d c.args.logs.now.items (table_of c.args.t.now) (pages_of c.args.by.now.config c.args.t.now.partition) _ (sym c.args.logs.now.ok.0) c.if-is_empty.ensures

pub newer_of-requires-clause-pages : goal.newer_of-requires-clause-pages
newer_of-requires-clause-pages g c =
    let k = c.args.by.now.config in
    table_pages k c.args.t.now c.as_slice.result.now c.requires.table.config c.requires.table.partition
    (c.as_slice.ensures.value ∙ (c.in_ok-pages.ensures ∙ ap (pages_of k) c.partition.ensures))

pub returns-clause-newer : goal.returns-clause-newer
returns-clause-newer g c = λ d logs.
    let k = c.args.by.now.config in
    let t = c.args.t.now in
    let f : ℕ → ℕ = greatest (records_in k d c.args.logs.now.items) in
    c.in_ok-newer_of.ensures.newer f (c.as_slice-2.ensures.value ∙ (c.in_ok-versions.ensures.versions d logs ∙ ap (map f) (sym c.as_slice.ensures.value)))
    ∙ ap (filter (λ p. nat_lt (entry_at (table_of t) p).version (f p))) (c.as_slice.ensures.value ∙ (c.in_ok-pages.ensures ∙ ap (pages_of k) c.partition.ensures))
