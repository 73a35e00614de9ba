-- The order of messages, and those that pass a test.
use Rattle.std.proofs.Common.{◌≡◌, refl, ap, sym, subst, ◌∙◌, ℕ, suc, ◌+◌, ◌≤◌, cond, Bool, true, false, List, [], ◌∷◌, ◌++◌, length, length-append, arith}
use Rattle.std.specs.List.{filter}
use Rattle.pcl_base.specs.declared.message.Message.{Message}
use Rattle.node_rules.specs.Words.{pick}
use Rattle.cluster_rules.specs.Links.{tail_of}
use Rattle.cluster_laws.specs.Link.Orders.{is_report, how_many, AreOrdered, OrderedFromLower, OrderedAtTheEnd, OrderedWithoutHead, OrderedAmongSome, NumbersAtTheEnd, NumbersWithHead, NumbersAmongSome, SomeAtTheEnd, SomeWithoutHead, SomeOfFewer, SomeOfTheSame}

above : (b : Bool) (low k e : ℕ) → k ≤ low → pick b (suc low) low ≤ e → pick b (suc k) k ≤ e
above true low k e le up = omega (arith, le, up)
above false low k e le up = omega (arith, le, up)

below : (b : Bool) (low e : ℕ) → pick b (suc low) low ≤ e → low ≤ e
below true low e up = omega (arith, up)
below false low e up = up

pub ordered_from_lower_law : OrderedFromLower
ordered_from_lower_law low k [] le o = tt
ordered_from_lower_law low k (m ∷ ms) le o = (above (is_report m.body) low k m.epoch le o.0, o.1)

pub ordered_at_the_end_law : OrderedAtTheEnd
ordered_at_the_end_law low [] ns o more = more
ordered_at_the_end_law low (m ∷ ms) ns o more = (o.0, ordered_at_the_end_law m.epoch ms ns o.1 more)

pub ordered_without_head_law : OrderedWithoutHead
ordered_without_head_law low [] o = tt
ordered_without_head_law low (m ∷ ms) o = ordered_from_lower_law m.epoch low ms (below (is_report m.body) low m.epoch o.0) o.1

pub ordered_among_some_law : OrderedAmongSome
ordered_among_some_law low [] f o = tt
ordered_among_some_law low (m ∷ ms) f o = by (f m) (ordered_among_some_law m.epoch ms f o.1)
  where
    by : (b : Bool) → AreOrdered m.epoch (filter f ms) → AreOrdered low (cond b (m ∷ filter f ms) (filter f ms))
    by true rest = (o.0, rest)
    by false rest = ordered_from_lower_law m.epoch low (filter f ms) (below (is_report m.body) low m.epoch o.0) rest

pub some_at_the_end_law : SomeAtTheEnd
some_at_the_end_law f [] ns = refl
some_at_the_end_law f (m ∷ ms) ns = by (f m) (some_at_the_end_law f ms ns)
  where
    by : (b : Bool) → filter f (ms ++ ns) ≡ filter f ms ++ filter f ns → cond b (m ∷ filter f (ms ++ ns)) (filter f (ms ++ ns)) ≡ cond b (m ∷ filter f ms) (filter f ms) ++ filter f ns
    by true e = ap (λ (xs : List Message). m ∷ xs) e
    by false e = e

pub some_without_head_law : SomeWithoutHead
some_without_head_law f m ms = by (f m)
  where
    by : (b : Bool) → filter f ms ≡ pick b (tail_of (cond b (m ∷ filter f ms) (filter f ms))) (cond b (m ∷ filter f ms) (filter f ms))
    by true = refl
    by false = refl

pub some_of_fewer_law : SomeOfFewer
some_of_fewer_law f g [] all = refl
some_of_fewer_law f g (m ∷ ms) all = by (f m) (g m) refl all.0 (some_of_fewer_law f g ms all.1)
  where
    by : (a b : Bool) → g m ≡ b → (b ≡ true → a ≡ true) → filter g ms ≡ filter g (filter f ms) → cond b (m ∷ filter g ms) (filter g ms) ≡ filter g (cond a (m ∷ filter f ms) (filter f ms))
    by true true t h e = ap (λ (xs : List Message). m ∷ xs) e ∙ ap (λ (x : Bool). cond x (m ∷ filter g (filter f ms)) (filter g (filter f ms))) (sym t)
    by true false t h e = e ∙ ap (λ (x : Bool). cond x (m ∷ filter g (filter f ms)) (filter g (filter f ms))) (sym t)
    by false true t h e = (let bad : false ≡ true = h refl in absurd (cc))
    by false false t h e = e

pub some_of_the_same_law : SomeOfTheSame
some_of_the_same_law f g [] all = refl
some_of_the_same_law f g (m ∷ ms) all =
    ap (λ (b : Bool). cond b (m ∷ filter g ms) (filter g ms)) all.0
    ∙ ap (λ (xs : List Message). cond (f m) (m ∷ xs) xs) (some_of_the_same_law f g ms all.1)

pub numbers_at_the_end_law : NumbersAtTheEnd
numbers_at_the_end_law is ms ns =
    ap (λ (xs : List Message). length xs) (some_at_the_end_law (λ m. is m.body) ms ns)
    ∙ length-append (filter (λ (m : Message). is m.body) ms) (filter (λ (m : Message). is m.body) ns)

pub numbers_with_head_law : NumbersWithHead
numbers_with_head_law is m ms = by (is m.body)
  where
    rest : List Message
    rest = filter (λ (x : Message). is x.body) ms

    by : (b : Bool) → length (cond b (m ∷ rest) rest) ≡ pick b 1 0 + length rest
    by true = omega arith
    by false = omega arith

pub numbers_among_some_law : NumbersAmongSome
numbers_among_some_law is [] f = omega arith
numbers_among_some_law is (m ∷ ms) f = by (f m) (is m.body) refl (numbers_among_some_law is ms f)
  where
    some : List Message
    some = filter f ms

    by : (a b : Bool) → is m.body ≡ b → how_many is some ≤ how_many is ms → how_many is (cond a (m ∷ some) some) ≤ length (cond b (m ∷ filter (λ (x : Message). is x.body) ms) (filter (λ (x : Message). is x.body) ms))
    by true true t le = subst (λ (b : Bool). length (cond b (m ∷ filter (λ (x : Message). is x.body) some) (filter (λ (x : Message). is x.body) some)) ≤ suc (how_many is ms)) (sym t) (omega (arith, le))
    by true false t le = subst (λ (b : Bool). length (cond b (m ∷ filter (λ (x : Message). is x.body) some) (filter (λ (x : Message). is x.body) some)) ≤ how_many is ms) (sym t) le
    by false true t le = omega (arith, le)
    by false false t le = le
