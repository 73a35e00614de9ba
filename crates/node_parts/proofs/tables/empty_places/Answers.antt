use Rattle.std.proofs.Common.{◌≡◌, ◌∙◌, ◌++◌, ◌-◌, ◌+◌, ◌∷◌, [], suc, None, replicate, ap, sym, arith}
use Rattle.std.proofs.lemmas.List.{append_assoc}
use Rattle.node_parts.proofs.tables.empty_places.Goals as goal

pub loop-preserved : goal.loop-preserved
loop-preserved c =
    let n = c.args.nodes in
    let k = c.loop.counter in
    let next : n - k ≡ suc (n - (k + 1)) = omega (arith, c.loop-test.true) in
    ap (λ l. l ++ replicate (n - (k + 1)) None) c.in_ok-push.ensures.items
    ∙ (append_assoc c.loop.places.items (None ∷ []) (replicate (n - (k + 1)) None)
    ∙ (ap (λ m. c.loop.places.items ++ replicate m None) (sym next) ∙ c.loop.invariant))
