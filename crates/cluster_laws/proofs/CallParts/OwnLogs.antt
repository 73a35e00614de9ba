-- The log of a node through an event.
use Rattle.std.proofs.Common.{◌≡◌, ◌⊎◌, ⊎_elim, refl, ap, sym, subst, ◌∙◌, ℕ, ◌==◌, ◌&&◌, not, nat_lt, Bool, true, false, List, [], ◌∷◌, ◌++◌, length, drop, Option, Some, None, is_some, arith, ltb-false}
use Rattle.std.specs.List.{AllByRecursion, fold, list_all}
use Rattle.std.proofs.Math.Seq.{drop-append_seam}
use Rattle.std.proofs.lemmas.Bool.Decides.{nat_tests}
use Rattle.pcl_base.specs.Limits.{Sizes, InLimits}
use Rattle.pcl_base.specs.declared.lock.Pending.{Pending}
use Rattle.pcl_base.specs.declared.reply.Reason.{Reason}
use Rattle.pcl_base.specs.declared.reply.Reason.TheVariants as reason
use Rattle.pcl_base.specs.declared.tx.TxId.{TxId}
use Rattle.text_rules.specs.LogRecord.{log_of, record_bytes, whole_len}
use Rattle.run_rules.specs.Disk.{Disk}
use Rattle.run_rules.specs.Views.{View, born_of, count_from}
use Rattle.node_rules.specs.Words.{pick}
use Rattle.node_rules.specs.CutRule.{cuttable}
use Rattle.node_rules.specs.DiskCalls.{DiskCall, WritePage, Force, TrimLog, CutLog}
use Rattle.node_rules.specs.EndRule.{pages_written, commit_record, at_version_end}
use Rattle.node_rules.specs.NodeState.{NodeState, NodeEvent, Begin, Read, Write, Commit, Abort, Deliver, Evict, Flush, Install, Cut, number_of}
use Rattle.node_rules.specs.OpenTxs.{is_open, pending_of}
use Rattle.node_rules.specs.Refusals.{owns_new, may_install, not_open, waits, refuse_if, refusal_in_view, refusal}
use Rattle.node_rules.specs.Work.{Outcome, Goes, Differs}
use Rattle.home_laws.specs.Homes.{IsHome}
use Rattle.home_laws.proofs.Records.{record_is_sound_law}
use Rattle.log_cut.proofs.FrontLemmas.{front_up_to}
use Rattle.node_laws.proofs.Events.{not_refused}
use Rattle.redo_laws.specs.Words.{IsWhole, HasNumbers}
use Rattle.redo_laws.proofs.Changes.{appended_is_whole_law, trimmed_is_whole_law}
use Rattle.redo_laws.proofs.Logs.{rest_joined}
use Rattle.rule_laws.proofs.Turns.{and_left}
use Rattle.cluster_laws.specs.Epochs.{HasInstalled}
use Rattle.cluster_laws.specs.Call.Calls.{IsWrite, call_unless, log_of_node, trimmed, cut_by, on_log, calls_unless_refused, log_calls, log_by}

-- page writes leave a log
written_log : (log : List ℕ) (calls : List DiskCall) → AllByRecursion IsWrite calls → fold log_by log calls ≡ log
written_log log [] all = refl
written_log log (WritePage p bytes ∷ calls) all = written_log log calls all.1
written_log log (Force t bytes ∷ calls) all = absurd all.0
written_log log (TrimLog keep ∷ calls) all = absurd all.0
written_log log (CutLog count ∷ calls) all = absurd all.0

pub joined_log : (log : List ℕ) (front calls : List DiskCall) → AllByRecursion IsWrite calls → fold log_by log (front ++ calls) ≡ fold log_by log front
joined_log log [] calls all = written_log log calls all
joined_log log (x ∷ front) calls all = joined_log (log_by log x) front calls all

-- a log without a torn rest is whole
no_rest : (rest : List ℕ) → length rest ≡ 0 → rest ≡ []
no_rest [] e = refl
no_rest (x ∷ xs) e = absurd (omega (arith, e))

whole_if : (c : Sizes) (log : List ℕ) → nat_lt (whole_len c log) (length log) ≡ false → IsWhole c log
whole_if c [] e = refl
whole_if c (x ∷ log) e =
    let le = ltb-false (whole_len c (x ∷ log)) (length (x ∷ log)) e in
    no_rest (log_of c (x ∷ log)).rest (omega (arith, le))

-- a node that begins its life with the view that it installs
pub record IsBorn (n : NodeState) (event : NodeEvent) : Type 0 where
  pub view : View
  pub asked : event ≡ Install view
  pub born : (born_of view (number_of n) == view.epoch) ≡ true
  pub allowed : refusal n event ≡ None

pub born_with : (n : NodeState) (event : NodeEvent) (m : NodeState) → HasInstalled n event m → n.view ≡ None → IsBorn n event
unfolding refusal
born_with n event m has own =
    record {
      view = has.next;
      asked = has.asked;
      born = and_left (born_of has.next (number_of n) == has.next.epoch) (nat_lt n.epoch has.next.epoch) (and_left (born_of has.next (number_of n) == has.next.epoch && nat_lt n.epoch has.next.epoch) (list_all (owns_new has.next (number_of n)) (count_from 0 n.home.config.nodes)) begins);
      allowed = ap (refusal n) has.asked ∙ ap (λ (b : Bool). refuse_if (not b) reason.NoView None) has.allowed;
    }
  where
    begins : may_install n None has.next ≡ true
    begins = subst (λ (o : Option View). may_install n o has.next ≡ true) own has.allowed

-- a node that may change its log: the log is whole, or the node is born
pub record IsReady (n : NodeState) (d : Disk) (event : NodeEvent) : Type 0 where
  pub limits : InLimits n.home.config
  pub home : IsHome n.home
  pub numbers : (t : TxId) → event ≡ Commit t → HasNumbers (commit_record n.home t)
  pub whole : IsWhole n.home.config (log_of_node n d) ⊎ IsBorn n event

-- what may be cut leaves a whole log
cut_whole : (c : Sizes) (pages : List (List ℕ)) (log : List ℕ) (count : ℕ) → IsWhole c log → cuttable c pages log ≡ Goes count → IsWhole c (drop count log)
unfolding cuttable
cut_whole c pages log count whole is =
    let f = front_up_to c pages (length log) log count (omega arith) is in
    let left : drop count log ≡ f.rest =
    ap (λ (k : ℕ). drop k log) (sym f.long) ∙ ap (drop (length f.front)) f.same ∙ drop-append_seam f.front f.rest in
    let rest : (log_of c f.rest).rest ≡ [] = sym (rest_joined c f.front f.rest f.whole) ∙ ap (λ (bs : List ℕ). (log_of c bs).rest) (sym f.same) ∙ whole in
    ap (λ (bs : List ℕ). (log_of c bs).rest) left ∙ rest

-- a transaction that may commit
may_commit : (n : NodeState) (t : TxId) → refusal n (Commit t) ≡ None → (is_open n.home.txs t ≡ true) × (pending_of n.home.txs t ≡ None)
unfolding refusal
may_commit n t none =
    let one = (not_refused (not (is_some n.view)) reason.NotInView (refusal_in_view n (Commit t)) none).1 in
    let two = not_refused (not_open n t) reason.NoTx (refuse_if (waits n t) reason.TxWaits (refuse_if (at_version_end n.home t) reason.VersionEnd None)) one in
    let three = not_refused (waits n t) reason.TxWaits (refuse_if (at_version_end n.home t) reason.VersionEnd None) two.1 in
    (not_false (is_open n.home.txs t) two.0, nothing (pending_of n.home.txs t) three.0)
  where
    not_false : (b : Bool) → not b ≡ false → b ≡ true
    not_false true e = refl
    not_false false e = absurd (cc)

    nothing : (o : Option Pending) → is_some o ≡ false → o ≡ None
    nothing None e = refl
    nothing (Some x) e = absurd (cc)

module _ (n : NodeState) (d : Disk) where
  was_whole : (event : NodeEvent) → IsReady n d event → ((v : View) → event ≡ Install v → ⊥) → IsWhole n.home.config (log_of_node n d)
  was_whole event ready other = ⊎_elim (λ w. w) (λ b. absurd (other b.view b.asked)) ready.whole

  committed : (t : TxId) → refusal n (Commit t) ≡ None → IsReady n d (Commit t) → IsWhole n.home.config (fold log_by (log_of_node n d) (on_log n d (Commit t)))
  committed t none ready = by (length (pages_written n.home t) == 0) refl
    where
      whole : IsWhole n.home.config (log_of_node n d)
      whole = was_whole (Commit t) ready (λ v e. absurd (cc))

      by : (b : Bool) → (length (pages_written n.home t) == 0) ≡ b → IsWhole n.home.config (fold log_by (log_of_node n d) (call_unless b (Force t (record_bytes (commit_record n.home t)))))
      by true e = whole
      by false e =
          let may = may_commit n t none in
          appended_is_whole_law n.home.config (log_of_node n d) (commit_record n.home t) whole
          (record { limits = ready.limits; shape = record_is_sound_law n.home t ready.home may.0 may.1 (grind (arith, nat_tests, e)); numbers = ready.numbers t refl })

  installed : (v : View) → IsReady n d (Install v) → IsWhole n.home.config (fold log_by (log_of_node n d) (on_log n d (Install v)))
  installed v ready = by (born_of v (number_of n) == v.epoch) refl
    where
      trim : (b : Bool) → nat_lt (whole_len n.home.config (log_of_node n d)) (length (log_of_node n d)) ≡ b
          → IsWhole n.home.config (fold log_by (log_of_node n d) (pick b (TrimLog (whole_len n.home.config (log_of_node n d)) ∷ []) []))
      trim true e = trimmed_is_whole_law n.home.config (log_of_node n d)
      trim false e = whole_if n.home.config (log_of_node n d) e

      of : IsBorn n (Install v) → (born_of v (number_of n) == v.epoch) ≡ false → ⊥
      of b off =
          let alike : v ≡ b.view = let asked = b.asked in cc in
          let on : (born_of v (number_of n) == v.epoch) ≡ true = subst (λ (w : View). (born_of w (number_of n) == w.epoch) ≡ true) (sym alike) b.born in
          let bad : true ≡ false = sym on ∙ off in
          absurd (cc)

      by : (b : Bool) → (born_of v (number_of n) == v.epoch) ≡ b → IsWhole n.home.config (fold log_by (log_of_node n d) (pick b (trimmed n d) []))
      by true e = trim (nat_lt (whole_len n.home.config (log_of_node n d)) (length (log_of_node n d))) refl
      by false e = ⊎_elim (λ w. w) (λ b. absurd (of b e)) ready.whole

  cut : IsReady n d Cut → IsWhole n.home.config (fold log_by (log_of_node n d) (on_log n d Cut))
  cut ready = by (cuttable n.home.config d.pages (log_of_node n d)) refl
    where
      whole : IsWhole n.home.config (log_of_node n d)
      whole = was_whole Cut ready (λ v e. absurd (cc))

      some : (count : ℕ) → cuttable n.home.config d.pages (log_of_node n d) ≡ Goes count → (b : Bool) → IsWhole n.home.config (fold log_by (log_of_node n d) (call_unless b (CutLog count)))
      some count is true = whole
      some count is false = cut_whole n.home.config d.pages (log_of_node n d) count whole is

      by : (o : Outcome ℕ) → cuttable n.home.config d.pages (log_of_node n d) ≡ o → IsWhole n.home.config (fold log_by (log_of_node n d) (cut_by o))
      by (Goes count) is = some count is (count == 0)
      by (Differs p expected found) is = whole

  done_whole : (event : NodeEvent) → refusal n event ≡ None → IsReady n d event → IsWhole n.home.config (fold log_by (log_of_node n d) (on_log n d event))
  done_whole Begin none ready = was_whole Begin ready (λ v e. absurd (cc))
  done_whole (Read t p) none ready = was_whole (Read t p) ready (λ v e. absurd (cc))
  done_whole (Write t p place bytes) none ready = was_whole (Write t p place bytes) ready (λ v e. absurd (cc))
  done_whole (Commit t) none ready = committed t none ready
  done_whole (Abort t) none ready = was_whole (Abort t) ready (λ v e. absurd (cc))
  done_whole (Deliver from m) none ready = was_whole (Deliver from m) ready (λ v e. absurd (cc))
  done_whole (Evict p) none ready = was_whole (Evict p) ready (λ v e. absurd (cc))
  done_whole (Flush p) none ready = was_whole (Flush p) ready (λ v e. absurd (cc))
  done_whole (Install v) none ready = installed v ready
  done_whole Cut none ready = cut ready

  pub step_whole : (event : NodeEvent) → IsReady n d event → IsWhole n.home.config (fold log_by (log_of_node n d) (log_calls n d event))
  unfolding log_calls
  step_whole event ready = by (refusal n event) refl
    where
      by : (o : Option Reason) → refusal n event ≡ o → IsWhole n.home.config (fold log_by (log_of_node n d) (calls_unless_refused o (on_log n d event)))
      by None e = done_whole event e ready
      by (Some r) e = ⊎_elim (λ w. w) (λ b. (let bad : Some r ≡ None = sym e ∙ b.allowed in absurd (cc))) ready.whole
