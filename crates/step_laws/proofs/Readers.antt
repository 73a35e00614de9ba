-- How many readers a right has.
use Rattle.std.proofs.Common.{◌≡◌, ℕ, suc, ◌+◌, ◌≤◌, ◌==◌, ◌||◌, not, cond, Bool, true, false, List, [], ◌∷◌, length, slice_index_or, Some, None, refl, ap, ◌∙◌, arith}
use Rattle.std.specs.List.{AllByRecursion, filter}
use Rattle.std.proofs.lemmas.Bool.Decides.{nat_tests}
use Rattle.std.proofs.lemmas.List.Elements.{recursion_from_All, All-weaker}
use Rattle.pcl_base.specs.Limits.{Sizes}
use Rattle.pcl_base.specs.declared.tx.TxId.{TxId}
use Rattle.pcl_base.specs.declared.message.Body.TheVariants as body
use Rattle.run_rules.specs.Disk.{fresh_disk}
use Rattle.run_rules.specs.Views.{count_from}
use Rattle.node_rules.specs.Words.{pick, same_tx, among}
use Rattle.node_rules.specs.LockTable.{open_table, pages_from}
use Rattle.node_rules.specs.Judging.{judge}
use Rattle.node_rules.specs.OpenTxs.{OpenTx, OpenTxs, is_own, with_serial, pages_of_open, locks_of, change_open, set_kind}
use Rattle.node_rules.specs.Shelf.{Right, right_on, spend}
use Rattle.node_rules.specs.NodeState.{NodeState, NodeEvent, Deliver, first_node}
use Rattle.node_rules.specs.AccessRule.{kinds_on, on_revoke}
use Rattle.node_rules.specs.Refusals.{refusal}
use Rattle.node_rules.specs.NodeStep.{Plan, take_message, do_event, nodestep}
use Rattle.step_laws.proofs.Outcomes.{value_or}
use Rattle.step_laws.specs.Most.{sum_of, locks, AreApart, AreReaders, ReadersAreFew, ReadersAreNeeded}

-- one node, one page, no transaction, and a right of six readers
abbrev one : Sizes
one = record { nodes = 1; pages = 1; size = 8; frames = 2 }

abbrev reader : TxId
reader = record { node = 0; born = 1; serial = 1 }

abbrev read_by_six : NodeState
read_by_six =
    let n : NodeState = first_node one 0 in
    record n {
      home =
          record (n.home) {
            shelf = record { page = 0; version = 0; readers = reader ∷ reader ∷ reader ∷ reader ∷ reader ∷ reader ∷ [] } ∷ [];
          };
    }

abbrev revoked : NodeEvent
revoked = Deliver 0 (record { epoch = 1; body = body.Revoke 0 })

abbrev given_plan : Plan
given_plan = value_or (record { node = read_by_six; replies = []; sends = []; calls = [] }) (nodestep read_by_six revoked (fresh_disk one))

pub readers_are_needed_law : ReadersAreNeeded
unfolding nodestep do_event take_message refusal judge first_node open_table pages_from count_from right_on on_revoke kinds_on set_kind change_open spend
readers_are_needed_law = (read_by_six, revoked, fresh_disk one, given_plan, refl, omega arith)

-- different transactions of one node and birth have different serials
differ : (s : OpenTxs) (u t : TxId) (n : ℕ) → is_own s u ≡ true → is_own s t ≡ true → same_tx u t ≡ false → (n == t.serial) ≡ true → (n == u.serial) ≡ false
differ s u t n ours own other here = grind (arith, nat_tests)

or_first : (a b : Bool) → a || b ≡ false → a ≡ false
or_first true b e = absurd (cc)
or_first false b e = refl

or_second : (a b : Bool) → a || b ≡ false → b ≡ false
or_second true b e = absurd (cc)
or_second false b e = e

-- without the transaction of a serial
abbrev others : ℕ → List TxId → List TxId
others n ts = filter (λ t. not (n == t.serial)) ts

others_among : (n : ℕ) (ts : List TxId) (t : TxId) → among ts t ≡ false → among (others n ts) t ≡ false
unfolding among
others_among n [] t e = refl
others_among n (u ∷ ts) t e = by (n == u.serial) (others_among n ts t (or_second (same_tx u t) (among ts t) e)) (or_first (same_tx u t) (among ts t) e)
  where
    by : (b : Bool) → among (others n ts) t ≡ false → same_tx u t ≡ false → among (cond (not b) (u ∷ others n ts) (others n ts)) t ≡ false
    by true rest here = rest
    by false rest here = ap (λ b. b || among (others n ts) t) here ∙ rest

others_apart : (n : ℕ) (ts : List TxId) → AreApart ts → AreApart (others n ts)
others_apart n [] apart = tt
others_apart n (u ∷ ts) apart = by (n == u.serial) (others_among n ts u apart.0) (others_apart n ts apart.1)
  where
    by : (b : Bool) → among (others n ts) u ≡ false → AreApart (others n ts) → AreApart (cond (not b) (u ∷ others n ts) (others n ts))
    by true here rest = rest
    by false here rest = (here, rest)

module _ (s : OpenTxs) where
  -- a transaction of the node that holds a lock
  abbrev Holds : List OpenTx → TxId → Type 0
  Holds xs t = (is_own s t ≡ true) × (1 ≤ length (pages_of_open (with_serial xs t.serial)))

  others_hold : (x : OpenTx) (xs : List OpenTx) (ts : List TxId) → AllByRecursion (Holds (x ∷ xs)) ts → AllByRecursion (Holds xs) (others x.serial ts)
  unfolding with_serial
  others_hold x xs [] all = tt
  others_hold x xs (t ∷ ts) all = by (x.serial == t.serial) all.0.1 (others_hold x xs ts all.1)
    where
      by : (b : Bool) → 1 ≤ length (pages_of_open (pick b (Some x) (with_serial xs t.serial))) → AllByRecursion (Holds xs) (others x.serial ts)
          → AllByRecursion (Holds xs) (cond (not b) (t ∷ others x.serial ts) (others x.serial ts))
      by true here rest = rest
      by false here rest = ((all.0.0, here), rest)

  -- no other transaction has its serial
  all_others : (xs : List OpenTx) (t : TxId) (n : ℕ) → is_own s t ≡ true → (n == t.serial) ≡ true → (ts : List TxId) → AllByRecursion (Holds xs) ts → among ts t ≡ false
      → length (others n ts) ≡ length ts
  unfolding among
  all_others xs t n own here [] all e = refl
  all_others xs t n own here (u ∷ ts) all e =
      by (n == u.serial) (differ s u t n all.0.0 own (or_first (same_tx u t) (among ts t) e) here) (all_others xs t n own here ts all.1 (or_second (same_tx u t) (among ts t) e))
    where
      by : (b : Bool) → b ≡ false → length (others n ts) ≡ length ts → length (cond (not b) (u ∷ others n ts) (others n ts)) ≡ suc (length ts)
      by true f rest = absurd (cc)
      by false f rest = ap suc rest

  one_less : (x : OpenTx) (xs : List OpenTx) (ts : List TxId) → AreApart ts → AllByRecursion (Holds (x ∷ xs)) ts → length ts ≤ length x.pages + length (others x.serial ts)
  unfolding with_serial
  one_less x xs [] apart all = omega arith
  one_less x xs (t ∷ ts) apart all =
      by (x.serial == t.serial) refl all.0.1 (one_less x xs ts apart.1 all.1) (λ here. all_others (x ∷ xs) t x.serial all.0.0 here ts all.1 apart.0)
    where
      by : (b : Bool) → (x.serial == t.serial) ≡ b → 1 ≤ length (pages_of_open (pick b (Some x) (with_serial xs t.serial))) → length ts ≤ length x.pages + length (others x.serial ts)
          → ((x.serial == t.serial) ≡ true → length (others x.serial ts) ≡ length ts) → suc (length ts) ≤ length x.pages + length (cond (not b) (t ∷ others x.serial ts) (others x.serial ts))
      by true e here rest same = let whole = same e in omega (arith, here, whole)
      by false e here rest same = omega (arith, rest)

  few_holders : (xs : List OpenTx) (ts : List TxId) → AreApart ts → AllByRecursion (Holds xs) ts → length ts ≤ sum_of (λ x. length x.pages) xs
  unfolding with_serial
  few_holders [] [] apart all = omega arith
  few_holders [] (t ∷ ts) apart all = let here = all.0.1 in omega (arith, here)
  few_holders (x ∷ xs) ts apart all =
      let here = one_less x xs ts apart all in
      let rest = few_holders xs (others x.serial ts) (others_apart x.serial ts apart) (others_hold x xs ts all) in
      omega (arith, here, rest)

  holds_lock : (t : TxId) → 1 ≤ length (locks_of s t) → Holds s.txs t
  holds_lock t some = by (is_own s t) refl some
    where
      by : (b : Bool) → is_own s t ≡ b → 1 ≤ length (pages_of_open (pick b (with_serial s.txs t.serial) None)) → Holds s.txs t
      by true e h = (e, h)
      by false e h = absurd (omega (arith, h))

readers_few : (n : NodeState) (r : Right) → AreReaders n r → length r.readers ≤ locks n
readers_few n r are =
    few_holders n.home.txs n.home.txs.txs r.readers are.apart
    (recursion_from_All (Holds n.home.txs n.home.txs.txs) r.readers
    (All-weaker (λ t. 1 ≤ length (locks_of n.home.txs t)) (Holds n.home.txs n.home.txs.txs) (holds_lock n.home.txs) r.readers are.hold))

pub readers_are_few_law : ReadersAreFew
readers_are_few_law n readers = λ k d lt. let few = readers_few n (slice_index_or n.home.shelf k d) (readers k d lt) in omega (arith, few)
