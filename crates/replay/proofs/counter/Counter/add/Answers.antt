use Rattle.std.proofs.Common.{◌≡◌, ◌+◌, ◌∷◌, [], ◌<◌, ◌^◌, sym, subst, arith}
use Rattle.text_rules.specs.Totals.{totals_of}
use Rattle.msg_account.specs.Counting.{counted, plus}
use Rattle.replay.specs.ReaderView.{AreWithin}
use Rattle.replay.proofs.Counts.{items_of, one_within, more_within, within_countable}
use Rattle.replay.proofs.counter.Counter.add.Goals as goal

pub add-requires : goal.add-requires
add-requires c =
    let e = c.args.e.now in
    let sum : c.in-Some.items ≡ c.self.inside.items + items_of e = let more = c.in-Some.ensures.value in omega (arith, more) in
    let within : AreWithin (plus (counted c.self.inside.tally) (totals_of (e ∷ []))) (c.self.inside.items + items_of e) =
    more_within (counted c.self.inside.tally) (totals_of (e ∷ [])) c.self.inside.items (items_of e) c.self.invariant (one_within e) in
    within_countable (plus (counted c.self.inside.tally) (totals_of (e ∷ []))) (c.self.inside.items + items_of e) within
    (subst (λ n. n < 2 ^ 64) sum c.in-Some.ensures.bound)

pub invariant_of-self : goal.invariant_of-self
invariant_of-self c =
    let e = c.args.e.now in
    let sum : c.self.inside.items + items_of e ≡ c.in-Some.items = let more = c.in-Some.ensures.value in omega (arith, more) in
    let within : AreWithin (plus (counted c.self.inside.tally) (totals_of (e ∷ []))) (c.self.inside.items + items_of e) =
    more_within (counted c.self.inside.tally) (totals_of (e ∷ [])) c.self.inside.items (items_of e) c.self.invariant (one_within e) in
    subst (λ t. AreWithin t c.in-Some.items) (sym c.add.ensures.added) (subst (AreWithin (plus (counted c.self.inside.tally) (totals_of (e ∷ [])))) sum within)
