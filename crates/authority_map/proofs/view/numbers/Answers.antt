use Rattle.std.proofs.Common.{ℕ, ◌≡◌, List, IfOk, refl, subst, arith}
use Rattle.std.proofs.lemmas.Iterator.{items_from_collect, YieldsList-from_range}
use Rattle.authority_map.proofs.Made.{count-range}
use Rattle.authority_map.proofs.view.numbers.Goals as goal

pub returns : goal.returns
returns c =
    let P : List ℕ → Type 0 = λ l. IfOk c.collect.result (λ v. v.items ≡ l) in
    subst P (count-range 0 c.args.nodes) (items_from_collect c.collect.result c.collect.ensures.ran (YieldsList-from_range 0 c.args.nodes c.args.nodes refl (omega arith)))
