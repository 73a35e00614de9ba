-- The order of messages on a link, and how many of a kind there are.
use Rattle.std.specs.Prelude.{◌≡◌, ℕ, ◌+◌, ◌≤◌, Bool, true, false, List, [], ◌∷◌, ◌++◌, length, ⊤}
use Rattle.std.specs.List.{filter, AllByRecursion}
use Rattle.std.proofs.Common.{suc}
use Rattle.pcl_base.specs.declared.message.Body.{Body}
use Rattle.pcl_base.specs.declared.message.Body.TheVariants as body
use Rattle.pcl_base.specs.declared.message.Message.{Message}
use Rattle.node_rules.specs.Words.{pick}
use Rattle.cluster_rules.specs.Links.{tail_of}

-- whether a body is a report
abbrev pub is_report : Body → Bool
is_report (body.Report r) = true
is_report _ = false

-- how many messages of a kind there are
abbrev pub how_many : (Body → Bool) → List Message → ℕ
how_many is ms = length (filter (λ (m : Message). is m.body) ms)

-- Epochs don't fall along a link, and a report is the first message of its epoch.
abbrev pub AreOrdered : ℕ → List Message → Type 0
AreOrdered low [] = ⊤
AreOrdered low (m ∷ ms) = (pick (is_report m.body) (suc low) low ≤ m.epoch) × AreOrdered m.epoch ms

-- the epoch of the last message, or a lower bound
abbrev pub last_epoch : ℕ → List Message → ℕ
last_epoch low [] = low
last_epoch low (m ∷ ms) = last_epoch m.epoch ms

-- ordered messages are so above each lower bound
abbrev pub OrderedFromLower : Type 0
OrderedFromLower = (low k : ℕ) (ms : List Message) → k ≤ low → AreOrdered low ms → AreOrdered k ms

-- further messages at the end
abbrev pub OrderedAtTheEnd : Type 0
OrderedAtTheEnd =
    (low : ℕ) (ms ns : List Message) → AreOrdered low ms → AreOrdered (last_epoch low ms) ns → AreOrdered low (ms ++ ns)

-- without the head
abbrev pub OrderedWithoutHead : Type 0
OrderedWithoutHead = (low : ℕ) (ms : List Message) → AreOrdered low ms → AreOrdered low (tail_of ms)

-- those that pass a test
abbrev pub OrderedAmongSome : Type 0
OrderedAmongSome = (low : ℕ) (ms : List Message) (f : Message → Bool) → AreOrdered low ms → AreOrdered low (filter f ms)

-- numbers of messages: at the end, without the head, and of those that pass a test
abbrev pub NumbersAtTheEnd : Type 0
NumbersAtTheEnd = (is : Body → Bool) (ms ns : List Message) → how_many is (ms ++ ns) ≡ how_many is ms + how_many is ns

-- the head counts for itself
abbrev pub NumbersWithHead : Type 0
NumbersWithHead = (is : Body → Bool) (m : Message) (ms : List Message) → how_many is (m ∷ ms) ≡ pick (is m.body) 1 0 + how_many is ms

-- those that pass a test are no more
abbrev pub NumbersAmongSome : Type 0
NumbersAmongSome = (is : Body → Bool) (ms : List Message) (f : Message → Bool) → how_many is (filter f ms) ≤ how_many is ms

-- A test of messages through the changes of a link: at the end, without the head, and of fewer.
abbrev pub SomeAtTheEnd : Type 0
SomeAtTheEnd = (f : Message → Bool) (ms ns : List Message) → filter f (ms ++ ns) ≡ filter f ms ++ filter f ns

-- the head is among those that pass, or isn't
abbrev pub SomeWithoutHead : Type 0
SomeWithoutHead =
    (f : Message → Bool) (m : Message) (ms : List Message) → filter f ms ≡ pick (f m) (tail_of (filter f (m ∷ ms))) (filter f (m ∷ ms))

-- a narrower test
abbrev pub SomeOfFewer : Type 0
SomeOfFewer =
    (f g : Message → Bool) (ms : List Message) → AllByRecursion (λ m. g m ≡ true → f m ≡ true) ms → filter g ms ≡ filter g (filter f ms)

-- the same test
abbrev pub SomeOfTheSame : Type 0
SomeOfTheSame =
    (f g : Message → Bool) (ms : List Message) → AllByRecursion (λ m. g m ≡ f m) ms → filter g ms ≡ filter f ms
