-- What a home has of a transaction that waits for a page, whatever its rights are.
use Rattle.std.proofs.Common.{◌≡◌, refl, ap, sym, subst, ◌∙◌, ℕ, ◌==◌, ◌&&◌, Bool, true, false, List, [], Option, Some, None, is_some}
use Rattle.std.specs.Prelude.{IfSome}
use Rattle.pcl_base.specs.declared.lock.Held.{Held}
use Rattle.pcl_base.specs.declared.lock.Kind.TheVariants as kind
use Rattle.pcl_base.specs.declared.lock.Pending.{Pending}
use Rattle.pcl_base.specs.declared.tx.Mode.{Mode}
use Rattle.pcl_base.specs.declared.tx.Mode.TheVariants.{Shared, Exclusive}
use Rattle.pcl_base.specs.declared.tx.TxId.{TxId}
use Rattle.node_rules.specs.AccessRule.{mode_of_write}
use Rattle.node_rules.specs.BufferRule.{has_private, has_slot}
use Rattle.node_rules.specs.NodeState.{HomeState, Run, runs_at}
use Rattle.node_rules.specs.OpenTxs.{held_by, is_open, mode_held, pending_of, waits_as}
use Rattle.node_rules.specs.Words.{covers, is_exclusive}
use Rattle.home_laws.specs.Homes.{AreWrittenRuns, IsHome, IsWithin, is_exclusive_lock, is_write_of}
use Rattle.home_laws.proofs.Covering.{uncovered_exclusive}
use Rattle.home_laws.proofs.Granted.{IsAwaited, awaited}
use Rattle.home_laws.proofs.GrantNeeds.{granted_open, granted_slot}
use Rattle.home_laws.proofs.Needs.{waiting_private}
use Rattle.home_laws.proofs.Tests.{number_same}

-- it waits in this mode, which isn't covered by what it holds; the page has its slot, and a write its frame
pub record IsReady (p : ℕ) (t : TxId) (m : Mode) (h : HomeState) : Type 0 where
  pub access : Pending
  pub waits : pending_of h.txs t ≡ Some access
  pub page : access.page ≡ p
  pub mode : access.mode ≡ m
  pub asks : m ≡ mode_of_write access.write
  pub inside : IfSome access.write (IsWithin h.config.size)
  pub uncovered : covers (mode_held (held_by h.txs t p)) m ≡ false
  pub opened : is_open h.txs t ≡ true
  pub slot : has_slot h.pool p ≡ true
  pub private : is_some access.write ≡ true → has_private h.pool t p ≡ true
  pub runs : runs_at h.written t p ≡ []

-- the mode of a write
asked_mode : (m : Mode) (write : Option (ℕ × List ℕ)) → is_exclusive m ≡ is_some write → m ≡ mode_of_write write
asked_mode Shared None e = refl
asked_mode Shared (Some x) e = absurd (cc)
asked_mode Exclusive None e = absurd (cc)
asked_mode Exclusive (Some x) e = refl

no_runs : (size : ℕ) (b : Bool) (runs : List Run) → b ≡ false → AreWrittenRuns size b runs → runs ≡ []
no_runs size true runs e is = absurd (cc)
no_runs size false runs e is = is

pub ready : (p : ℕ) (t : TxId) (m : Mode) (h : HomeState) → IsHome h → waits_as (pending_of h.txs t) p m ≡ true → IsReady p t m h
ready p t m h home waits =
    record {
      access = is.access;
      waits = is.waits;
      page = is.page;
      mode = same;
      asks = asked_mode m is.access.write is.mode;
      inside = is.may.inside;
      uncovered = subst (λ (k : Mode). covers (mode_held (held_by h.txs t p)) k ≡ false) same is.uncovered;
      opened = granted_open h t l home waits;
      slot = granted_slot h t l home waits;
      private = λ some.
          waiting_private h t p home
          (ap (λ o. is_write_of o p) is.waits ∙ ap (λ (k : ℕ). k == p && is_some is.access.write) is.page ∙ ap (λ (b : Bool). b && is_some is.access.write) (number_same p) ∙ some);
      runs = no_runs h.config.size (is_exclusive_lock (held_by h.txs t p)) (runs_at h.written t p) (uncovered_exclusive (held_by h.txs t p) is.access.mode is.uncovered) (home.runs t p);
    }
  where
    l : Held
    l = record { page = p; mode = m; kind = kind.Registered }

    is : IsAwaited h t l
    is = awaited h t l home waits

    same : is.access.mode ≡ m
    same = is.may.mode ∙ sym (asked_mode m is.access.write is.mode)
