-- What holds of a home and its memory, kept by changes of the parts.
use Rattle.std.proofs.Common.{◌≡◌, ℕ, ◌+◌, ◌<◌, ◌≤◌, [], length, not, nat_le, Bool, true, false, Option, Some, None, is_some, refl, ap, sym, subst, ◌∙◌, arith}
use Rattle.std.specs.Prelude.{Result, Ok, Err, OnOk, OnErr}
use Rattle.node_rules.specs.OpenTxs.{OpenTxs, begin}
use Rattle.node_rules.specs.NodeState.{HomeState}
use Rattle.node_rules.specs.BufferRule.{Copy, copy_at, version_of_copy, dirty, pinned}
use Rattle.node_rules.specs.Work.{HomeWork, write_back}
use Rattle.node_rules.specs.Refusals.{refuse_if}
use Rattle.pcl_base.specs.declared.reply.Reason.TheVariants as reason
use Rattle.tx_table.specs.Counts.{wait_count, waits_in}
use Rattle.tx_table.proofs.Counting.{total_pushed}
use Rattle.home_laws.specs.Homes.{IsHome}
use Rattle.home_laws.proofs.Ends.{begin_is_sound_law}
use Rattle.home_laws.proofs.Leaves.{write_back_is_sound_law, evict_is_sound_law}
use Rattle.home.specs.Parts.{PartsView, HasMemory, IsPrepared}
use Rattle.home.specs.Device.{work_on}
use Rattle.home.specs.Answers.{evict_refusal, evict_copy}
use Rattle.home.proofs.WriteBack.{written_home, unwritten}

-- a transaction that begins doesn't wait
begun_waits : (s : OpenTxs) → wait_count (begin s).txs ≡ wait_count s.txs
unfolding begin
begun_waits s = let sum = total_pushed waits_in (record { serial = s.last + 1; pages = []; waiting = None }) s.txs in sum ∙ omega arith

begun_node : (s : OpenTxs) → (begin s).node ≡ s.node
unfolding begin
begun_node s = refl

pub begin_kept : {T E : Type 0} (old new : PartsView) (r : Result T E) → IsHome old.home × IsPrepared old → 1 ≤ old.home.txs.born
    → OnOk r (new ≡ record old { home = record (old.home) { txs = begin old.home.txs } }) → OnOk r (length old.home.txs.txs < 1024) → OnErr r (new ≡ old)
    → IsHome new.home × IsPrepared new
begin_kept old new (Err e) kept born done few same = subst (λ v. IsHome v.home × IsPrepared v) (sym same) kept
begin_kept old new (Ok x) kept born done few same =
    let begun : PartsView = record old { home = record (old.home) { txs = begin old.home.txs } } in
    let memory : HasMemory (wait_count (begin old.home.txs).txs) begun =
    subst (λ n. HasMemory n begun) (sym (begun_waits old.home.txs)) (record { rights = kept.1.0.rights; places = kept.1.0.places; replies = kept.1.0.replies }) in
    subst (λ v. IsHome v.home × IsPrepared v) (sym done) (begin_is_sound_law old.home kept.0 few born, (memory, kept.1.1 ∙ sym (begun_node old.home.txs)))

-- a change that keeps the open transactions
pub kept_as : (old new : PartsView) (h : HomeState) → IsPrepared old → new ≡ record old { home = h } → h.txs ≡ old.home.txs → IsHome h → IsHome new.home × IsPrepared new
kept_as old new h prepared same txs home =
    let now : PartsView = record old { home = h } in
    let memory : HasMemory (wait_count h.txs.txs) now =
    subst (λ n. HasMemory n now) (ap (λ s. wait_count s.txs) (sym txs)) (record { rights = prepared.0.rights; places = prepared.0.places; replies = prepared.0.replies }) in
    subst (λ v. IsHome v.home × IsPrepared v) (sym same) (home, (memory, prepared.1 ∙ ap (λ s. s.node) (sym txs)))

-- writing back and evicting keep them
written_txs : (p : ℕ) (w : HomeWork) → (write_back p w).home.txs ≡ w.home.txs
written_txs p w = by_case (dirty w.home.pool p) refl
  where
    by_case : (d : Bool) → dirty w.home.pool p ≡ d → (write_back p w).home.txs ≡ w.home.txs
    by_case true e = ap (λ h. h.txs) (written_home p w e)
    by_case false e = ap (λ x. x.home.txs) (unwritten p w e)

pub flush_kept : (old new : PartsView) (p : ℕ) → IsHome old.home × IsPrepared old → new ≡ record old { home = (write_back p (work_on old.home)).home } → IsHome new.home × IsPrepared new
flush_kept old new p kept same =
    kept_as old new (write_back p (work_on old.home)).home kept.1 same (written_txs p (work_on old.home)) (write_back_is_sound_law p (work_on old.home) kept.0)

pub evict_kept : (old new : PartsView) (p : ℕ) → IsHome old.home × IsPrepared old → pinned old.home.pool p ≡ false → new ≡ record old { home = (evict_copy p (work_on old.home)).home } → IsHome new.home × IsPrepared new
evict_kept old new p kept loose same =
    kept_as old new (evict_copy p (work_on old.home)).home kept.1 same (written_txs p (work_on old.home)) (evict_is_sound_law p (work_on old.home) kept.0 loose)

-- what an eviction that isn't refused needs
pub evict_allowed : (p : ℕ) (h : HomeState) → evict_refusal p h ≡ None → (is_some (copy_at h.pool p) ≡ true) × (pinned h.pool p ≡ false)
evict_allowed p h none = by_case (nat_le h.config.pages p) (copy_at h.pool p) (pinned h.pool p) none
  where
    by_case : (b : Bool) (o : Option Copy) (d : Bool) → refuse_if b reason.NoPage (refuse_if (not (is_some (version_of_copy o))) reason.NoCopy (refuse_if d reason.Pinned None)) ≡ None → (is_some o ≡ true) × (d ≡ false)
    by_case true o d e = absurd (cc)
    by_case false None d e = absurd (cc)
    by_case false (Some c) true e = absurd (cc)
    by_case false (Some c) false e = (refl, refl)
