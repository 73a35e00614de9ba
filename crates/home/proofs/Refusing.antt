-- A call is refused exactly for the first reason that holds.
use Rattle.std.proofs.Common.{◌≡◌, true, false, not, Option, Some, None, Result, Err, refl, ap, sym, ◌∙◌}
use Rattle.pcl_base.specs.declared.tx.TxId.{TxId}
use Rattle.pcl_base.specs.declared.reply.Reason.{Reason}
use Rattle.pcl_base.specs.declared.reply.Reason.TheVariants as reason
use Rattle.node_rules.specs.OpenTxs.{is_open}
use Rattle.node_rules.specs.NodeState.{HomeState}
use Rattle.node_rules.specs.Refusals.{refuse_if}
use Rattle.node_rules.specs.EndRule.{abort, closed, endings}
use Rattle.home_laws.specs.RefusedEnds.{abort_refusal}
use Rattle.home.specs.Device.{work_on}
use Rattle.home.specs.declared.fault.HomeFault.{HomeFault}
use Rattle.home.specs.declared.fault.HomeFault.TheVariants as fault

-- a reason is refused where it is the first one
pub refused_iff : {X : Type 0} (why r : Reason) (o : Option Reason) → o ≡ Some why
    → ((let x : Result X HomeFault = Err (fault.Refused why) in x) ≡ Err (fault.Refused r) → o ≡ Some r)
    × (o ≡ Some r → (let x : Result X HomeFault = Err (fault.Refused why) in x) ≡ Err (fault.Refused r))
refused_iff why r o first = (
  λ e. first ∙ ap Some (same e),
  λ e. ap (λ (w : Reason). Err (fault.Refused w)) (some_same (sym first ∙ e)),
)
  where
    same : {Y : Type 0} → (let x : Result Y HomeFault = Err (fault.Refused why) in x) ≡ Err (fault.Refused r) → why ≡ r
    same e = cc

    some_same : Some why ≡ Some r → why ≡ r
    some_same e = cc

-- nothing is refused where there is no reason
pub allowed_iff : {X : Type 0} (x : Result X HomeFault) (r : Reason) (o : Option Reason) → o ≡ None → (x ≡ Err (fault.Refused r) → ⊥)
    → (x ≡ Err (fault.Refused r) → o ≡ Some r) × (o ≡ Some r → x ≡ Err (fault.Refused r))
allowed_iff x r o none never = (λ e. absurd (never e), λ e. absurd (some_none (sym none ∙ e)))
  where
    some_none : None ≡ Some r → ⊥
    some_none e = cc

-- an abort of a transaction that isn't open, and of one that is
pub abort_no_tx : (t : TxId) (h : HomeState) → is_open h.txs t ≡ false → abort_refusal t h ≡ Some reason.NoTx
unfolding abort_refusal
abort_no_tx t h none = ap (λ b. refuse_if (not b) reason.NoTx None) none

pub abort_open : (t : TxId) (h : HomeState) → is_open h.txs t ≡ true → abort_refusal t h ≡ None
unfolding abort_refusal
abort_open t h there = ap (λ b. refuse_if (not b) reason.NoTx None) there

-- what an abort tells and leaves
pub abort_tells : (t : TxId) (h : HomeState) → (abort t (work_on h)).endings ≡ endings h t false
unfolding abort
abort_tells t h = refl

pub abort_leaves : (t : TxId) (h : HomeState) → (abort t (work_on h)).work.home ≡ closed h t h.pool
unfolding abort
abort_leaves t h = refl
