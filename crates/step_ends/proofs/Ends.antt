-- How a step ends.
use Rattle.std.proofs.Common.{◌≡◌, refl, ap, sym, ◌∙◌, ℕ, List, ◌++◌, Option, Some, None, option_map, length, slice_set, Ok, Err}
use Rattle.std.specs.Prelude.{IsSome, IfSome}
use Rattle.pcl_base.specs.declared.trace.Call.{Call}
use Rattle.pcl_base.specs.declared.tx.TxId.{TxId}
use Rattle.run_rules.specs.Disk.{Disk}
use Rattle.disk_model.specs.declared.stop.Stop.{Stop}
use Rattle.node_rules.specs.DiskCalls.{DiskCall, Left, all_done}
use Rattle.node_rules.specs.NodeStep.{Plan}
use Rattle.cluster_rules.specs.ClusterStep.{left_of}
use Rattle.home.specs.CallLaws.{told_on, rule_stop, nearer}
use Rattle.home.specs.Device.{Told, Made}
use Rattle.home.proofs.Stopping.{unstopped_are_done, armed_are_done, armed_are_stopped}
use Rattle.node_parts.specs.declared.fault.StepFault.TheVariants.{Halted}
use Rattle.step_ends.specs.Ran.{Stand, RanPlan, armed_at, stops_after}
use Rattle.step_ends.specs.Laws.{MadeIsRan, FailedIsHalted, FailedIsArmed}
use Rattle.step_ends.proofs.Armed.{put_same}

module _ (T : Type 0) (x : T) (me : ℕ) (d : Disk) (stops : List (Option Stop)) (p : Plan) (before after : Stand) where
  carried : after.node ≡ p.node → after.replies ≡ before.replies ++ p.replies → after.sends ≡ before.sends ++ p.sends → (l : Option Left) → l ≡ None
      → after.told ≡ told_on (all_done me d p.calls) (Some (stops_after stops me (length p.calls))) → RanPlan {T = T} me d stops p l (Ok x) before after
  carried node replies sends None left told = record { node = node; replies = replies; sends = sends; told = told }
  carried node replies sends (Some l) left told = absurd (cc)

  by_stop : after.node ≡ p.node → after.replies ≡ before.replies ++ p.replies → after.sends ≡ before.sends ++ p.sends → Made me p.calls (told_on d (Some stops)) None after.told
      → (s : Option Stop) → armed_at stops me ≡ s → RanPlan {T = T} me d stops p (left_of me d p.calls (option_map rule_stop (armed_at stops me))) (Ok x) before after
  by_stop node replies sends made None none =
      let all = unstopped_are_done me p.calls d stops None after.told none made in
      let same : stops_after stops me (length p.calls) ≡ stops =
      ap (λ (o : Option Stop). slice_set stops me (option_map (λ s. nearer s (length p.calls)) o)) none ∙ ap (λ (o : Option Stop). slice_set stops me o) (sym none) ∙ put_same None stops me in
      carried node replies sends (left_of me d p.calls (option_map rule_stop (armed_at stops me))) (ap (λ (o : Option Stop). left_of me d p.calls (option_map rule_stop o)) none)
      (all.1 ∙ ap (λ (l : List (Option Stop)). told_on (all_done me d p.calls) (Some l)) (sym same))
  by_stop node replies sends made (Some s) armed =
      let all = armed_are_done me p.calls d stops s after.told armed made in
      let same : stops_after stops me (length p.calls) ≡ slice_set stops me (Some (nearer s (length p.calls))) =
      ap (λ (o : Option Stop). slice_set stops me (option_map (λ s. nearer s (length p.calls)) o)) armed in
      carried node replies sends (left_of me d p.calls (option_map rule_stop (armed_at stops me))) (ap (λ (o : Option Stop). left_of me d p.calls (option_map rule_stop o)) armed ∙ all.0)
      (all.1 ∙ ap (λ (l : List (Option Stop)). told_on (all_done me d p.calls) (Some l)) (sym same))

pub made_is_ran : MadeIsRan
made_is_ran me d stops p before after node replies sends made = by_stop (Unit {0}) tt me d stops p before after node replies sends made (armed_at stops me) refl

unarmed : (me : ℕ) (calls : List DiskCall) (d : Disk) (stops : List (Option Stop)) (k : Call) (new : Told) → Made me calls (told_on d (Some stops)) (Some k) new
    → (s : Option Stop) → armed_at stops me ≡ s → IsSome s
unarmed me calls d stops k new made None none =
    let bad : Some k ≡ None = (unstopped_are_done me calls d stops (Some k) new none made).0 in
    absurd (cc)
unarmed me calls d stops k new made (Some s) armed = refl

pub failed_is_armed : FailedIsArmed
failed_is_armed me calls d stops k new made = unarmed me calls d stops k new made (armed_at stops me) refl

module _ (T : Type 0) (me : ℕ) (d : Disk) (stops : List (Option Stop)) (p : Plan) (k : Call) (kept : Option TxId) (before after : Stand) where
  halted : (o : Option Left) (l : Left) → o ≡ Some l → l.call ≡ k → after.told ≡ told_on l.disk (Some (slice_set stops me None)) → IfSome o (λ l. kept ≡ l.kept)
      → RanPlan {T = T} me d stops p o (Err (Halted k kept)) before after
  halted None l is call told keeps = absurd (cc)
  halted (Some m) l is call told keeps =
      let same : m ≡ l = cc in
      record {
        same_call = sym call ∙ ap (λ (y : Left). y.call) (sym same);
        same_kept = keeps;
        told = told ∙ ap (λ (y : Left). told_on y.disk (Some (slice_set stops me None))) (sym same);
      }

  by_armed : Made me p.calls (told_on d (Some stops)) (Some k) after.told → (s : Option Stop) → armed_at stops me ≡ s
      → IfSome (left_of me d p.calls (option_map rule_stop (armed_at stops me))) (λ l. kept ≡ l.kept)
      → RanPlan {T = T} me d stops p (left_of me d p.calls (option_map rule_stop (armed_at stops me))) (Err (Halted k kept)) before after
  by_armed made None none keeps =
      let bad : Some k ≡ None = (unstopped_are_done me p.calls d stops (Some k) after.told none made).0 in
      absurd (cc)
  by_armed made (Some s) armed keeps =
      let l = armed_are_stopped me p.calls d stops s k after.told armed made in
      halted (left_of me d p.calls (option_map rule_stop (armed_at stops me))) l.0
      (ap (λ (o : Option Stop). left_of me d p.calls (option_map rule_stop o)) armed ∙ l.1) l.2 l.3 keeps

pub failed_is_halted : FailedIsHalted
failed_is_halted me d stops p k kept before after made keeps = by_armed (Unit {0}) me d stops p k kept before after made (armed_at stops me) refl keeps
