-- The transaction that a halt names is the one whose whole record the armed stop leaves.
use Rattle.std.proofs.Common.{◌≡◌, ℕ, ◌+◌, ◌-◌, ◌<◌, ◌≤◌, ◌==◌, ◌⊎◌, nat_le, Bool, true, false, List, [], ◌∷◌, ◌++◌, length, take, slice_index_or, Option, Some, None, Result, Err, refl, ap, sym, subst, ◌∙◌, arith, inl, inr}
use Rattle.std.specs.Prelude.{IfSome, min}
use Rattle.std.proofs.lemmas.Bool.Decides.{nat_tests}
use Rattle.std.proofs.lemmas.List.{length-append, length-take-le}
use Rattle.pcl_base.specs.declared.trace.Call.TheVariants as call
use Rattle.pcl_base.specs.declared.tx.TxId.{TxId}
use Rattle.disk_model.specs.declared.stop.Stop.{Stop}
use Rattle.disk_model.specs.Disk.{Logs, with_appended}
use Rattle.disk_model.specs.Stops.{Stops, Failing, Fate, change_fate, kept_bytes, reading_fate, stop_fate, pick as chosen}
use Rattle.redo_log.specs.Told.{NoneFails}
use Rattle.run_rules.specs.Disk.{Disk}
use Rattle.node_rules.specs.DiskCalls.{Force, Left, left_at, left_by, stopped_in}
use Rattle.node_rules.specs.EndRule.{commit, pages_written}
use Rattle.node_rules.specs.NodeState.{HomeState}
use Rattle.home.specs.CallLaws.{rule_stop}
use Rattle.home.specs.Commits.{CommitDecided, IsDecided, IsTorn, LogsLeft, Unasked, commit_bytes, commit_calls, logs_done}
use Rattle.home.specs.Ends.{IsAbortFault}
use Rattle.home.specs.declared.fault.HomeFault.{HomeFault}
use Rattle.home.specs.declared.fault.HomeFault.TheVariants as fault
use Rattle.node_parts.specs.declared.fault.StepFault.{StepFault}
use Rattle.own_steps.specs.Forced.{NamesKept, commit_fault, named_if}
use Rattle.own_steps.proofs.Forcing.{calls_if, log_asked, none_there, put_there, read_done, some_there, unread}

-- the length of a node's log
abbrev length_at : Logs → ℕ → ℕ
length_at None n = 0
length_at (Some l) n = length (slice_index_or l n [])

appended_at : (l : List (List ℕ)) (n : ℕ) (more : List ℕ) → n < length l → length_at (with_appended (Some l) n more) n ≡ length (slice_index_or l n []) + length more
appended_at l n more within = ap length (put_there l n [] (slice_index_or l n [] ++ more) within) ∙ length-append (slice_index_or l n []) more

-- as many bytes were appended as the stop keeps
same_count : (l : List (List ℕ)) (n : ℕ) (bytes : List ℕ) (count kept : ℕ) → n < length l → count ≤ length bytes
    → with_appended (Some l) n (take count bytes) ≡ with_appended (Some l) n (kept_bytes kept bytes) → count ≡ min kept (length bytes)
same_count l n bytes count kept within most same =
    let first = appended_at l n (take count bytes) within in
    let second = appended_at l n (kept_bytes kept bytes) within in
    let lengths = ap (λ o. length_at o n) same in
    let one = length-take-le count bytes most in
    let least : min kept (length bytes) ≤ length bytes = omega arith in
    let other = length-take-le (min kept (length bytes)) bytes least in
    omega (arith, first, second, lengths, one, other)

is_below : (a b : ℕ) → a ≤ b → nat_le a b ≡ true
is_below a b most = grind (arith, nat_tests)

is_above : (a b : ℕ) → b < a → nat_le a b ≡ false
is_above a b more = grind (arith, nat_tests)

all_kept : (count kept all : ℕ) → count ≡ min kept all → count ≡ all → all ≤ kept
all_kept count kept all least whole = omega (arith, least, whole)

some_kept : (count kept all : ℕ) → count ≡ min kept all → count < all → kept < all
some_kept count kept all least part = omega (arith, least, part)

-- the transaction that is left
abbrev left_tx : Option Left → Option TxId
left_tx None = None
left_tx (Some l) = l.kept

module _ {X : Type 0} (r : Result X HomeFault) (h : HomeState) (t : TxId) (logs later : Logs) (stops : Stops) (failing : Failing) (before now : ℕ) where
  abbrev n : ℕ
  n = h.txs.node

  abbrev bytes : List ℕ
  bytes = commit_bytes h t

  abbrev unasked : Type 0
  unasked = Unasked before now failing n

  abbrev Decides : HomeFault → Type 0
  Decides f = 1 ≤ length (pages_written h t) → CommitDecided h t (Some f) stops failing logs later

  abbrev Silent : HomeFault → Type 0
  Silent f = pages_written h t ≡ [] → IsAbortFault {X = X} (Err f)

  module _ (d : Disk) (ss : List (Option Stop)) (l : List (Option ℕ)) (told : logs ≡ Some d.logs) (armed : stops ≡ Some ss) (none : NoneFails failing n l) (within : n < length d.logs) where
    module _ (kept : Bool) (torn : IsTorn kept n bytes unasked logs later) (decided : IsDecided (Some (fault.Failed call.Force kept)) n bytes stops failing logs later) (s : Stop) (at : slice_index_or ss n None ≡ Some s) where
      fate_is : (b : Bool) → nat_le s.call 1 ≡ b → change_fate stops n ≡ chosen b (Fate.Stopped s.kept) Fate.Done
      fate_is b e = ap (λ o. change_fate o n) armed ∙ ap stop_fate at ∙ ap (λ c. chosen c (Fate.Stopped s.kept) Fate.Done) e

      comes_due : nat_le s.call 1 ≡ true
      comes_due = by (nat_le s.call 1) refl
        where
          by : (b : Bool) → nat_le s.call 1 ≡ b → b ≡ true
          by true e = refl
          by false e = absurd (decided.forced kept (fate_is false e) refl)

      none_before : s.call - 1 ≡ 0
      none_before = let due = comes_due in let less : s.call ≤ 1 = grind (arith, nat_tests) in omega (arith, less)

      count_is : torn.count ≡ min s.kept (length bytes)
      count_is =
          same_count d.logs n bytes torn.count s.kept within torn.most
          (sym (ap (λ o. with_appended o n (take torn.count bytes)) told) ∙ sym torn.same ∙ decided.left s.kept kept (fate_is true comes_due) refl
          ∙ ap (λ o. with_appended o n (kept_bytes s.kept bytes)) told)

      flag_is : (b : Bool) → kept ≡ b → b ≡ nat_le (length bytes) s.kept
      flag_is true e =
          let whole : torn.count ≡ length bytes = subst (λ o. IfSome o (λ x. torn.count ≡ length bytes)) told (torn.whole e) in
          sym (is_below (length bytes) s.kept (all_kept torn.count s.kept (length bytes) count_is whole))
      flag_is false e = by (subst (λ o. IfSome o (λ x. (torn.count < length bytes) ⊎ unasked)) told (torn.part e))
        where
          by : (torn.count < length bytes) ⊎ unasked → false ≡ nat_le (length bytes) s.kept
          by (inl part) = sym (is_above (length bytes) s.kept (some_kept torn.count s.kept (length bytes) count_is part))
          by (inr gone) = absurd (gone.1 (ap (λ f. reading_fate f n) (unread failing n l none) ∙ read_done failing n l none))

      force_named : (x : Left) → left_by n d (Force t bytes ∷ []) (rule_stop s) ≡ Some x → named_if kept t ≡ x.kept
      unfolding stopped_in
      force_named x left =
          let first : Some (left_at n d None (Force t bytes) s.kept) ≡ Some x = sym (ap (λ c. stopped_in n d None (Force t bytes ∷ []) c s.kept) none_before) ∙ left in
          ap (λ b. named_if b t) (flag_is kept refl) ∙ ap left_tx first

    force_kept : (kept : Bool) → IsTorn kept n bytes unasked logs later → Decides (fault.Failed call.Force kept) → Silent (fault.Failed call.Force kept)
        → NamesKept n d (commit_calls h t) ss (commit_fault t (fault.Failed call.Force kept))
    unfolding commit
    force_kept kept torn decided silent s x at left = by (length (pages_written h t) == 0) refl left
      where
        by : (b : Bool) → (length (pages_written h t) == 0) ≡ b → left_by n d (calls_if h t b) (rule_stop s) ≡ Some x → named_if kept t ≡ x.kept
        by true e left = absurd (silent (none_there (pages_written h t) e))
        by false e left = force_named kept torn (decided (some_there (length (pages_written h t)) e)) s at x left

    kept_named : (f : HomeFault) → LogsLeft (Some f) (logs_done n logs (commit_calls h t)) n bytes unasked logs later → Decides f → Silent f
        → NamesKept n d (commit_calls h t) ss (commit_fault t f)
    kept_named (fault.Refused why) ls decided silent = tt
    kept_named (fault.Failed call.Log kept) ls decided silent =
        λ s x at left. absurd (log_asked r h t logs later stops failing l kept none decided silent)
    kept_named (fault.Failed call.Force kept) ls decided silent = force_kept kept ls decided silent
    kept_named (fault.Failed call.Read kept) ls decided silent = absurd ls
    kept_named (fault.Failed call.Write kept) ls decided silent = absurd ls
    kept_named (fault.Failed call.Trim kept) ls decided silent = absurd ls
    kept_named (fault.Failed call.Cut kept) ls decided silent = absurd ls
    kept_named (fault.Differs p e f) ls decided silent = absurd ls
    kept_named fault.NoMemory ls decided silent = tt

    pub commit_names : (f : HomeFault) (e : StepFault) → e ≡ commit_fault t f → LogsLeft (Some f) (logs_done n logs (commit_calls h t)) n bytes unasked logs later → Decides f → Silent f
        → NamesKept n d (commit_calls h t) ss e
    commit_names f e is ls decided silent = subst (NamesKept n d (commit_calls h t) ss) (sym is) (kept_named f ls decided silent)
