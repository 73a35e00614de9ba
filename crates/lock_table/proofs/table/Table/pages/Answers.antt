use Rattle.std.proofs.Common.{rules, ◌≡◌, ◌∙◌, sym, subst, nat_eq, ap}
use Rattle.std.specs.List.{IsDistinct}
use Rattle.std.specs.List.Sorted.{IsPermutation, IsSorted}
use Rattle.std.specs.Ordering.{nat_cmp}
use Rattle.std.specs.Map.{keys_of}
use Rattle.lock_table.specs.Tables.{FitsConfig}
use Rattle.lock_table.proofs.Listed.{keys_listed}
use Rattle.lock_table.proofs.table.Table.pages.Goals as goal

pub returns-clause-listed : goal.returns-clause-listed
returns-clause-listed c =
    let t = c.args.self.now in
    let fits = subst FitsConfig c.self.view_is c.self.invariant in
    let apart : IsDistinct nat_eq (keys_of t.entries) = subst (λ u. IsDistinct nat_eq (keys_of u.entries)) c.self.view_is c.keys.ensures.unique in
    let moved : IsPermutation (keys_of t.entries) c.sort_unstable.new.self.items = search rules in
    let sorted : IsSorted nat_cmp c.sort_unstable.new.self.items = search rules in
    keys_listed t c.sort_unstable.new.self.items fits apart moved sorted
