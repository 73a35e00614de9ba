-- What a stop leaves of a step: nothing of its first call, a piece of a record, or the first call and some page writes.
use Rattle.std.proofs.Common.{◌≡◌, refl, sym, ap, subst, ◌∙◌, ℕ, ◌<◌, ◌==◌, Bool, true, false, List, [], ◌∷◌, ◌++◌, length, Option, Some, None, append_assoc}
use Rattle.std.specs.List.{AllByRecursion, fold}
use Rattle.pcl_base.specs.declared.reply.Reason.{Reason}
use Rattle.pcl_base.specs.declared.tx.TxId.{TxId}
use Rattle.text_rules.specs.LogRecord.{record_bytes, whole_len}
use Rattle.run_rules.specs.Disk.{Disk}
use Rattle.run_rules.specs.Views.{View, born_of}
use Rattle.node_rules.specs.CutRule.{cuttable}
use Rattle.node_rules.specs.DiskCalls.{DiskCall, WritePage, Force, TrimLog, CutLog, Stop, Left, done, all_done, stopped, kept_of, forced, left_by}
use Rattle.node_rules.specs.EndRule.{pages_written, commit_record}
use Rattle.node_rules.specs.NodeState.{NodeState, NodeEvent, Begin, Read, Write, Commit, Abort, Deliver, Evict, Flush, Install, Cut, number_of}
use Rattle.node_rules.specs.Refusals.{refusal}
use Rattle.node_rules.specs.Words.{pick, or_else}
use Rattle.node_rules.specs.Work.{Outcome, Goes, Differs}
use Rattle.cluster_laws.specs.Call.Calls.{IsWrite, call_unless, log_of_node, cut_by, on_log, calls_unless_refused, log_calls, BeginsWith}
use Rattle.page_laws.specs.Storage.Stored.{StopLeaves, undone, whole, torn, forced_by, IsLeft}
use Rattle.page_laws.proofs.StorageParts.Stops.{stops_leave_law, stopped_leaves_law}

-- ---- the first call

pub data FirstCall (s : NodeState) (d : Disk) (ev : NodeEvent) : List DiskCall → Type 0 where
  no_call : FirstCall s d ev []
  forces : (t : TxId) → ev ≡ Commit t → refusal s ev ≡ None → (length (pages_written s.home t) == 0) ≡ false → FirstCall s d ev (Force t (record_bytes (commit_record s.home t)) ∷ [])
  trims : FirstCall s d ev (TrimLog (whole_len s.home.config (log_of_node s d)) ∷ [])
  cuts_off : (count : ℕ) → cuttable s.home.config d.pages (log_of_node s d) ≡ Goes count → FirstCall s d ev (CutLog count ∷ [])

module _ (s : NodeState) (d : Disk) where
  forced_first : (t : TxId) (b : Bool) → refusal s (Commit t) ≡ None → (length (pages_written s.home t) == 0) ≡ b
      → FirstCall s d (Commit t) (call_unless b (Force t (record_bytes (commit_record s.home t))))
  forced_first t true allowed e = no_call
  forced_first t false allowed e = forces t refl allowed e

  trimmed_first : (v : View) (b x : Bool) → FirstCall s d (Install v) (pick b (pick x (TrimLog (whole_len s.home.config (log_of_node s d)) ∷ []) []) [])
  trimmed_first v true true = trims
  trimmed_first v true false = no_call
  trimmed_first v false x = no_call

  cut_first : (o : Outcome ℕ) → cuttable s.home.config d.pages (log_of_node s d) ≡ o → FirstCall s d Cut (cut_by o)
  cut_first (Goes count) goes = by (count == 0)
    where
      by : (b : Bool) → FirstCall s d Cut (call_unless b (CutLog count))
      by true = no_call
      by false = cuts_off count goes
  cut_first (Differs p expected found) goes = no_call

  on_log_first : (ev : NodeEvent) → refusal s ev ≡ None → FirstCall s d ev (on_log s d ev)
  on_log_first (Commit t) allowed = forced_first t (length (pages_written s.home t) == 0) allowed refl
  on_log_first (Install v) allowed = trimmed_first v (born_of v (number_of s) == v.epoch) _
  on_log_first Cut allowed = cut_first (cuttable s.home.config d.pages (log_of_node s d)) refl
  on_log_first Begin allowed = no_call
  on_log_first (Read t p) allowed = no_call
  on_log_first (Write t p place bytes) allowed = no_call
  on_log_first (Abort t) allowed = no_call
  on_log_first (Deliver from m) allowed = no_call
  on_log_first (Evict p) allowed = no_call
  on_log_first (Flush p) allowed = no_call

  -- the call of a step on its node's log
  pub first_call : (ev : NodeEvent) → FirstCall s d ev (log_calls s d ev)
  unfolding log_calls
  first_call ev = by (refusal s ev) refl
    where
      by : (o : Option Reason) → refusal s ev ≡ o → FirstCall s d ev (calls_unless_refused o (on_log s d ev))
      by None allowed = on_log_first ev allowed
      by (Some r) shut = no_call

-- ---- a stop

-- what a stop leaves, by the first call and the page writes behind it
pub data Halts (n : ℕ) (d : Disk) (first writes : List DiskCall) (l : Left) : Type 0 where
  nothing : l.disk ≡ d → l.kept ≡ None → Halts n d first writes l
  a_piece : (t : TxId) (bytes : List ℕ) (kept : ℕ) → first ≡ Force t bytes ∷ [] → kept < length bytes → l.disk ≡ stopped n d (Force t bytes) kept → l.kept ≡ None → Halts n d first writes l
  some_writes : (front back : List DiskCall) → writes ≡ front ++ back → l.disk ≡ all_done n (all_done n d first) front → l.kept ≡ forced_by first → Halts n d first writes l

-- page writes force nothing
pub none_forced : (was : Option TxId) (calls : List DiskCall) → AllByRecursion IsWrite calls → fold forced was calls ≡ was
none_forced was [] all = refl
none_forced was (WritePage p bytes ∷ calls) all = none_forced was calls all.1
none_forced was (Force t bytes ∷ calls) all = absurd all.0
none_forced was (TrimLog keep ∷ calls) all = absurd all.0
none_forced was (CutLog count ∷ calls) all = absurd all.0

done_more : (n : ℕ) (d : Disk) (xs ys : List DiskCall) → all_done n d (xs ++ ys) ≡ all_done n (all_done n d xs) ys
done_more n d [] ys = refl
done_more n d (x ∷ xs) ys = done_more n (done n d x) xs ys

pub all_front : (xs ys : List DiskCall) → AllByRecursion IsWrite (xs ++ ys) → AllByRecursion IsWrite xs
all_front [] ys all = tt
all_front (x ∷ xs) ys all = (all.0, all_front xs ys all.1)

all_back : (xs ys : List DiskCall) → AllByRecursion IsWrite (xs ++ ys) → AllByRecursion IsWrite ys
all_back [] ys all = all
all_back (x ∷ xs) ys all = all_back xs ys all.1

write_kept : (call : DiskCall) (k : ℕ) → IsWrite call → kept_of call k ≡ None
write_kept (WritePage p bytes) k is = refl
write_kept (Force t bytes) k is = absurd is
write_kept (TrimLog keep) k is = absurd is
write_kept (CutLog count) k is = absurd is

no_force : (call : DiskCall) (t : TxId) (bytes : List ℕ) → IsWrite call → call ≡ Force t bytes → ⊥
no_force (WritePage p b) t bytes is e = absurd (cc)
no_force (Force u b) t bytes is e = is
no_force (TrimLog keep) t bytes is e = is
no_force (CutLog count) t bytes is e = is

or_none : (o : Option TxId) → or_else o None ≡ o
or_none None = refl
or_none (Some t) = refl

-- a stop at a page write, which is done or not
at_write : (n : ℕ) (d : Disk) (first front : List DiskCall) (call : DiskCall) (back writes : List DiskCall) (kept : ℕ) (l : Left) → writes ≡ front ++ call ∷ back → AllByRecursion IsWrite writes
    → l.disk ≡ stopped n (all_done n (all_done n d first) front) call kept → l.kept ≡ forced_by first → Halts n d first writes l
at_write n d first front call back writes kept l parts all disk same = by (stopped_leaves_law n (all_done n (all_done n d first) front) call kept)
  where
    is : IsWrite call
    is = (all_back front (call ∷ back) (subst (AllByRecursion IsWrite) parts all)).0

    by : StopLeaves n (all_done n (all_done n d first) front) call kept → Halts n d first writes l
    by (undone e none) = some_writes front (call ∷ back) parts (disk ∙ e) same
    by (whole e none) = some_writes (front ++ call ∷ []) back (parts ∙ sym (append_assoc front (call ∷ []) back)) (disk ∙ e ∙ sym (done_more n (all_done n d first) front (call ∷ []))) same
    by (torn t bytes e less none) = absurd (no_force call t bytes is e)

module _ (n : ℕ) (d : Disk) (writes : List DiskCall) (stop : Stop) (l : Left) (all : AllByRecursion IsWrite writes) where
  -- a stop of page writes alone
  halts_writes : IsLeft n d writes stop l → Halts n d [] writes l
  halts_writes left =
      at_write n d [] left.front left.call left.back writes stop.kept l left.parts all left.disk
      (left.kept ∙ ap (λ (o : Option TxId). or_else o (kept_of left.call stop.kept)) (none_forced None left.front (all_front left.front (left.call ∷ left.back) (subst (AllByRecursion IsWrite) left.parts all)))
      ∙ write_kept left.call stop.kept (all_back left.front (left.call ∷ left.back) (subst (AllByRecursion IsWrite) left.parts all)).0)

  -- a stop at the first call, or behind it
  halts_first : (x : DiskCall) → IsLeft n d (x ∷ writes) stop l → Halts n d (x ∷ []) writes l
  halts_first x left = of left.front left.parts left.disk left.kept
    where
      at_first : StopLeaves n d x stop.kept → l.disk ≡ stopped n d x stop.kept → l.kept ≡ kept_of x stop.kept → Halts n d (x ∷ []) writes l
      at_first (undone e none) disk same = nothing (disk ∙ e) (same ∙ none)
      at_first (whole e kept) disk same = some_writes [] writes refl (disk ∙ e) (same ∙ kept)
      at_first (torn t bytes e less none) disk same = a_piece t bytes stop.kept (ap (λ (y : DiskCall). y ∷ []) e) less (disk ∙ ap (λ (y : DiskCall). stopped n d y stop.kept) e) (same ∙ none)

      of : (front : List DiskCall) → x ∷ writes ≡ front ++ left.call ∷ left.back → l.disk ≡ stopped n (all_done n d front) left.call stop.kept → l.kept ≡ or_else (forced_by front) (kept_of left.call stop.kept)
          → Halts n d (x ∷ []) writes l
      of [] parts disk same =
          let call : left.call ≡ x = cc in
          at_first (stopped_leaves_law n d x stop.kept) (disk ∙ ap (λ (y : DiskCall). stopped n d y stop.kept) call) (same ∙ ap (λ (y : DiskCall). kept_of y stop.kept) call)
      of (y ∷ front) parts disk same =
          let first : y ≡ x = cc in
          let rest : writes ≡ front ++ left.call ∷ left.back = cc in
          at_write n d (x ∷ []) front left.call left.back writes stop.kept l rest all
          (disk ∙ ap (λ (z : DiskCall). stopped n (all_done n d (z ∷ front)) left.call stop.kept) first)
          (same
          ∙ ap (λ (z : DiskCall). or_else (forced_by (z ∷ front)) (kept_of left.call stop.kept)) first
          ∙ ap (λ (o : Option TxId). or_else o (kept_of left.call stop.kept)) (none_forced (forced None x) front (all_front front (left.call ∷ left.back) (subst (AllByRecursion IsWrite) rest all)))
          ∙ ap (or_else (forced None x)) (write_kept left.call stop.kept (all_back front (left.call ∷ left.back) (subst (AllByRecursion IsWrite) rest all)).0)
          ∙ or_none (forced None x))

-- what a stop leaves of the calls of a step
pub halts : (n : ℕ) (d : Disk) (s : NodeState) (ev : NodeEvent) (first calls : List DiskCall) (stop : Stop) (l : Left) → FirstCall s d ev first → (b : BeginsWith first calls) → left_by n d calls stop ≡ Some l
    → Halts n d first b.writes l
halts n d s ev first calls stop l at b e = by at (subst (λ (cs : List DiskCall). IsLeft n d cs stop l) b.joined (stops_leave_law n d calls stop l e))
  where
    by : {xs : List DiskCall} → FirstCall s d ev xs → IsLeft n d (xs ++ b.writes) stop l → Halts n d xs b.writes l
    by no_call left = halts_writes n d b.writes stop l b.all left
    by (forces t is allowed some) left = halts_first n d b.writes stop l b.all _ left
    by trims left = halts_first n d b.writes stop l b.all _ left
    by (cuts_off count goes) left = halts_first n d b.writes stop l b.all _ left
