-- The accesses that wait, as a report lists them.
use Rattle.std.proofs.Common.{◌≡◌, refl, ap, ◌∙◌, ℕ, ◌<◌, ◌==◌, Bool, true, false, List, [], ◌∷◌, Option, Some, None, arith}
use Rattle.std.specs.List.{AllByRecursion}
use Rattle.std.proofs.lemmas.Bool.Decides.{nat_tests}
use Rattle.pcl_base.specs.Limits.{Sizes}
use Rattle.pcl_base.specs.declared.lock.Pending.{Pending}
use Rattle.pcl_base.specs.declared.message.ReportWait.{ReportWait}
use Rattle.pcl_base.specs.declared.tx.TxId.{TxId}
use Rattle.node_rules.specs.BufferRule.{Pool, find}
use Rattle.node_rules.specs.NodeState.{partition}
use Rattle.node_rules.specs.OpenTxs.{OpenTx, OpenTxs, name_of, is_own, with_serial, waiting_of_open, pending_of}
use Rattle.node_rules.specs.Reports.{wait_in, all_waits}
use Rattle.node_rules.specs.Words.{pick}
use Rattle.node_laws.proofs.Lists.{all_append, all_weaker}
use Rattle.home_laws.specs.Homes.{AreSerials}

-- each open transaction stands under its serial
pub record Under (low : ℕ) (all : List OpenTx) (x : OpenTx) : Type 0 where
  pub above : low < x.serial
  pub there : with_serial all x.serial ≡ Some x

under_serials : (low last : ℕ) (xs : List OpenTx) → AreSerials low last xs → AllByRecursion (Under low xs) xs
unfolding with_serial
under_serials low last [] s = tt
under_serials low last (x ∷ xs) s = (
  record { above = s.0; there = ap (λ (b : Bool). pick b (Some x) (with_serial xs x.serial)) (let same : (x.serial == x.serial) ≡ true = grind (arith, nat_tests) in same) },
  all_weaker (Under x.serial xs) (Under low (x ∷ xs))
      (λ y is. (
      let first = s.0 in
      let above = is.above in
      record {
        above = omega (arith, first, above);
        there = ap (λ (b : Bool). pick b (Some x) (with_serial xs y.serial)) (let other : (x.serial == y.serial) ≡ false = grind (arith, nat_tests, above) in other) ∙ is.there;
      }))
      xs (under_serials x.serial last xs s.1),
)

-- an access that waits, as it is listed
abbrev pub wait_of : Pool → TxId → Pending → ReportWait
wait_of b t w = record { tx = t; page = w.page; mode = w.mode; have = find b w.page }

module _ (c : Sizes) (q : ℕ) (b : Pool) (s : OpenTxs) (P : ReportWait → Type 0) (each : (t : TxId) (w : Pending) → t.node ≡ s.node → pending_of s t ≡ Some w → P (wait_of b t w)) where
  one_wait : (t : TxId) (o : Option Pending) → t.node ≡ s.node → pending_of s t ≡ o → AllByRecursion P (wait_in c q b t o)
  one_wait t None node is = tt
  one_wait t (Some w) node is = by (partition c w.page == q)
    where
      by : (k : Bool) → AllByRecursion P (pick k (wait_of b t w ∷ []) [])
      by true = (each t w node is, tt)
      by false = tt

  waits_in : (xs : List OpenTx) → AllByRecursion (Under 0 s.txs) xs → AllByRecursion P (all_waits c q b s xs)
  unfolding all_waits
  waits_in [] all = tt
  waits_in (x ∷ xs) all =
      all_append P (wait_in c q b (name_of s x.serial) x.waiting) (all_waits c q b s xs)
      (one_wait (name_of s x.serial) x.waiting refl
      (ap (λ (k : Bool). waiting_of_open (pick k (with_serial s.txs x.serial) None)) (let own : is_own s (name_of s x.serial) ≡ true = grind (arith, nat_tests) in own)
      ∙ ap waiting_of_open all.0.there))
      (waits_in xs all.1)

  pub waits_listed : (last : ℕ) → AreSerials 0 last s.txs → AllByRecursion P (all_waits c q b s s.txs)
  waits_listed last serials = waits_in s.txs (under_serials 0 last s.txs serials)
