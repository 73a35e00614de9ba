-- The force of a commit: what becomes of it and of the logs, from what the home's call tells of it.
use Rattle.std.proofs.Common.{◌≡◌, ◌≢◌, ℕ, zero, suc, ◌<◌, ◌≤◌, ◌==◌, ◌⊎◌, Bool, true, false, List, [], ◌∷◌, length, take, slice_set, slice_index_or, Option, Some, None, is_some, Result, Err, refl, ap, sym, subst, ◌∙◌, arith, inl, inr}
use Rattle.std.specs.Prelude.{min}
use Rattle.std.proofs.lemmas.Bool.Decides.{nat_tests}
use Rattle.pcl_base.specs.declared.trace.Call.{Call}
use Rattle.pcl_base.specs.declared.trace.Call.TheVariants as call
use Rattle.pcl_base.specs.declared.tx.TxId.{TxId}
use Rattle.disk_model.specs.Disk.{Pages, Logs, with_appended}
use Rattle.disk_model.specs.Stops.{Stops, Failing, Fate, after_change, after_read, kept_bytes, read_after, read_fate, reading_fate}
use Rattle.redo_log.specs.Told.{NoneFails}
use Rattle.node_rules.specs.DiskCalls.{DiskCall, Force}
use Rattle.node_rules.specs.EndRule.{commit, force_if, pages_written}
use Rattle.node_rules.specs.NodeState.{HomeState}
use Rattle.home.specs.Commits.{CommitDecided, IsDecided, IsTorn, LogsLeft, Unasked, commit_bytes, commit_calls, failing_done, failing_left, logs_done, stops_done, stops_left}
use Rattle.home.specs.Device.{CallFails, Made, Told, told_by, work_on}
use Rattle.home.specs.Ends.{IsAbortFault}
use Rattle.home.specs.declared.fault.HomeFault.{HomeFault}
use Rattle.home.specs.declared.fault.HomeFault.TheVariants as fault
use Rattle.node_parts.specs.declared.fault.StepFault.{StepFault}
use Rattle.page_owner.specs.Carry.{halted_by}
use Rattle.own_steps.specs.Calls.{LeavesCalls}
use Rattle.own_steps.specs.Forced.{IsForceFault, LeavesRecord, commit_fault, named_if}

-- a list without items, and one with some
pub none_there : {X : Type 0} (xs : List X) → (length xs == 0) ≡ true → xs ≡ []
none_there [] e = refl
none_there (x ∷ xs) e = let zero : length (x ∷ xs) ≡ 0 = grind (arith, nat_tests) in absurd (omega (arith, zero))

pub some_there : (n : ℕ) → (n == 0) ≡ false → 1 ≤ n
some_there n e = grind (arith, nat_tests)

-- what stands at a place can be put there
put_same : {X : Type 0} (l : List X) (n : ℕ) (d : X) → slice_set l n (slice_index_or l n d) ≡ l
put_same [] n d = refl
put_same (x ∷ l) zero d = refl
put_same (x ∷ l) (suc n) d = ap (λ xs. x ∷ xs) (put_same l n d)

pub put_there : {X : Type 0} (l : List X) (n : ℕ) (d x : X) → n < length l → slice_index_or (slice_set l n x) n d ≡ x
put_there [] n d x within = absurd (omega (arith, within))
put_there (y ∷ l) zero d x within = refl
put_there (y ∷ l) (suc n) d x within = put_there l n d x (omega (arith, within))

-- where no reading call is to fail, the next one is done, and none is nearer after it
pub read_done : (failing : Failing) (n : ℕ) (l : List (Option ℕ)) → NoneFails failing n l → reading_fate failing n ≡ Fate.Done
read_done failing n l none = ap (λ f. reading_fate f n) none.0 ∙ ap read_fate none.1

pub unread : (failing : Failing) (n : ℕ) (l : List (Option ℕ)) → NoneFails failing n l → after_read failing n ≡ failing
unread failing n l none =
    ap (λ f. after_read f n) none.0
    ∙ ap (λ (x : List (Option ℕ)). Some x) (ap (λ o. slice_set l n (read_after o)) none.1 ∙ ap (λ o. slice_set l n o) (sym none.1) ∙ put_same l n None)
    ∙ sym none.0

-- the call of a commit, by whether no page was written
abbrev pub calls_if : HomeState → TxId → Bool → List DiskCall
calls_if h t b = (force_if b t (commit_bytes h t) (work_on h)).calls

-- no reading call is to fail after a commit either
pub commit_calm : (h : HomeState) (t : TxId) (o : Option HomeFault) (failing later : Failing) (l : List (Option ℕ))
    → later ≡ failing_left o (failing_done h.txs.node failing (commit_calls h t)) h.txs.node failing → NoneFails failing h.txs.node l → NoneFails later h.txs.node l
unfolding commit
commit_calm h t o failing later l is none = (is ∙ by o ∙ none.0, none.1)
  where
    one : after_read failing h.txs.node ≡ failing
    one = unread failing h.txs.node l none

    all : (b : Bool) → failing_done h.txs.node failing (calls_if h t b) ≡ failing
    all true = refl
    all false = one

    by : (o : Option HomeFault) → failing_left o (failing_done h.txs.node failing (calls_if h t (length (pages_written h t) == 0))) h.txs.node failing ≡ failing
    by None = all (length (pages_written h t) == 0)
    by (Some (fault.Refused why)) = refl
    by (Some (fault.Failed call.Log kept)) = one
    by (Some (fault.Failed call.Force kept)) = ap (λ f. after_read f h.txs.node) one ∙ one
    by (Some (fault.Failed call.Read kept)) = refl
    by (Some (fault.Failed call.Write kept)) = refl
    by (Some (fault.Failed call.Trim kept)) = refl
    by (Some (fault.Failed call.Cut kept)) = refl
    by (Some (fault.Differs p e f)) = refl
    by (Some fault.NoMemory) = refl

-- the length of the log can be asked where no reading call is to fail
pub log_asked : {X : Type 0} (r : Result X HomeFault) (h : HomeState) (t : TxId) (logs later : Logs) (stops : Stops) (failing : Failing) (l : List (Option ℕ)) (kept : Bool) → NoneFails failing h.txs.node l
    → (1 ≤ length (pages_written h t) → CommitDecided h t (Some (fault.Failed call.Log kept)) stops failing logs later)
    → (pages_written h t ≡ [] → IsAbortFault {X = X} (Err (fault.Failed call.Log kept))) → ⊥
log_asked {X = X} r h t logs later stops failing l kept none decided silent = by (length (pages_written h t) == 0) refl
  where
    by : (b : Bool) → (length (pages_written h t) == 0) ≡ b → ⊥
    by true e = silent (none_there (pages_written h t) e)
    by false e = (decided (some_there (length (pages_written h t)) e)).asked kept (read_done failing h.txs.node l none) refl

module _ {X : Type 0} (r : Result X HomeFault) (h : HomeState) (t : TxId) (pages after : Pages) (logs later : Logs) (stops next : Stops) (failing : Failing) (before now : ℕ) (same : after ≡ pages) where
  abbrev n : ℕ
  n = h.txs.node

  abbrev bytes : List ℕ
  bytes = commit_bytes h t

  abbrev old : Told
  old = told_by pages logs stops

  abbrev new : Told
  new = told_by after later next

  abbrev unasked : Type 0
  unasked = Unasked before now failing n

  -- what the home's call tells of logs, stops and its fault
  abbrev LogsAre : Option HomeFault → Type 0
  LogsAre o = LogsLeft o (logs_done n logs (commit_calls h t)) n bytes unasked logs later

  abbrev StopsAre : Option HomeFault → Type 0
  StopsAre o = next ≡ stops_left o (stops_done n stops (commit_calls h t)) n stops

  abbrev Decides : Option HomeFault → Type 0
  Decides o = 1 ≤ length (pages_written h t) → CommitDecided h t o stops failing logs later

  abbrev Silent : HomeFault → Type 0
  Silent f = pages_written h t ≡ [] → IsAbortFault {X = X} (Err f)

  -- the record is forced
  pub commit_made : LogsAre None → StopsAre None → Decides None → Made n (commit_calls h t) old None new
  unfolding commit
  commit_made ls ss decided = by (length (pages_written h t) == 0) refl ls ss
    where
      by : (b : Bool) → (length (pages_written h t) == 0) ≡ b → later ≡ logs_done n logs (calls_if h t b) → next ≡ stops_done n stops (calls_if h t b) → Made n (calls_if h t b) old None new
      by true e ls ss = λ i. told_by (same i) (ls i) (ss i)
      by false e ls ss = ((λ k stopped. (decided (some_there (length (pages_written h t)) e)).stopped k stopped refl), (λ i. told_by (same i) (ls i) (ss i)))

  -- its force failed
  call_fails : (kept : Bool) → IsTorn kept n bytes unasked logs later → next ≡ after_change stops n → IsDecided (Some (fault.Failed call.Force kept)) n bytes stops failing logs later
      → CallFails n (Force t bytes) old new
  call_fails kept torn ss decided = record {
    kept = torn.count;
    same = λ i. told_by (same i) ((torn.same ∙ ap (λ l. with_appended logs n l) (sym whole)) i) (ss i);
    fate = λ done. decided.forced kept done refl;
    stopped = λ k stopped. λ i. told_by (same i) (decided.left k kept stopped refl i) (ss i);
  }
    where
      whole : kept_bytes torn.count bytes ≡ take torn.count bytes
      whole = let most = torn.most in let all : min torn.count (length bytes) ≡ torn.count = omega (arith, most) in ap (λ k. take k bytes) all

  force_fails : (kept : Bool) → IsTorn kept n bytes unasked logs later → next ≡ after_change stops n → Decides (Some (fault.Failed call.Force kept)) → Silent (fault.Failed call.Force kept)
      → Made n (commit_calls h t) old (Some call.Force) new
  unfolding commit
  force_fails kept torn ss decided silent = by (length (pages_written h t) == 0) refl
    where
      by : (b : Bool) → (length (pages_written h t) == 0) ≡ b → Made n (calls_if h t b) old (Some call.Force) new
      by true e = absurd (silent (none_there (pages_written h t) e))
      by false e = inl (refl, call_fails kept torn ss (decided (some_there (length (pages_written h t)) e)))

  commit_left : (f : HomeFault) → LogsAre (Some f) → StopsAre (Some f) → Decides (Some f) → Silent f → LeavesCalls {T = X} n (Err (commit_fault t f)) (commit_calls h t) old new
  commit_left (fault.Refused why) ls ss decided silent = λ i. told_by (same i) (ls i) (ss i)
  commit_left (fault.Failed call.Log kept) ls ss decided silent = λ i. told_by (same i) (ls.1 i) (ss i)
  commit_left (fault.Failed call.Force kept) ls ss decided silent = force_fails kept ls ss decided silent
  commit_left (fault.Failed call.Read kept) ls ss decided silent = absurd ls
  commit_left (fault.Failed call.Write kept) ls ss decided silent = absurd ls
  commit_left (fault.Failed call.Trim kept) ls ss decided silent = absurd ls
  commit_left (fault.Failed call.Cut kept) ls ss decided silent = absurd ls
  commit_left (fault.Differs p e f) ls ss decided silent = absurd ls
  commit_left fault.NoMemory ls ss decided silent = λ i. told_by (same i) (ls i) (ss i)

  pub commit_leaves : (f : HomeFault) (e : StepFault) → e ≡ commit_fault t f → LogsAre (Some f) → StopsAre (Some f) → Decides (Some f) → Silent f
      → LeavesCalls {T = X} n (Err e) (commit_calls h t) old new
  commit_leaves f e is ls ss decided silent = subst (λ (z : StepFault). LeavesCalls {T = X} n (Err z) (commit_calls h t) old new) (sym is) (commit_left f ls ss decided silent)

  -- which faults come
  commit_kind : (f : HomeFault) → LogsAre (Some f) → IsForceFault t (commit_fault t f)
  commit_kind (fault.Refused why) ls = tt
  commit_kind (fault.Failed call.Log kept) ls = ap (λ b. named_if b t) ls.0
  commit_kind (fault.Failed call.Force kept) ls = by kept
    where
      by : (b : Bool) → (named_if b t ≡ None) ⊎ (named_if b t ≡ Some t)
      by true = inr refl
      by false = inl refl
  commit_kind (fault.Failed call.Read kept) ls = absurd ls
  commit_kind (fault.Failed call.Write kept) ls = absurd ls
  commit_kind (fault.Failed call.Trim kept) ls = absurd ls
  commit_kind (fault.Failed call.Cut kept) ls = absurd ls
  commit_kind (fault.Differs p e f) ls = absurd ls
  commit_kind fault.NoMemory ls = tt

  pub commit_faults : (f : HomeFault) (e : StepFault) → e ≡ commit_fault t f → LogsAre (Some f) → IsForceFault t e
  commit_faults f e is ls = subst (IsForceFault t) (sym is) (commit_kind f ls)

  -- what a halt says of the logs
  commit_record : (f : HomeFault) → LogsAre (Some f) → LeavesRecord h t unasked logs later (commit_fault t f)
  commit_record (fault.Refused why) ls = tt
  commit_record (fault.Failed call.Log kept) ls = tt
  commit_record (fault.Failed call.Force kept) ls = subst (λ b. IsTorn b n bytes unasked logs later) (by kept) ls
    where
      by : (b : Bool) → b ≡ is_some (named_if b t)
      by true = refl
      by false = refl
  commit_record (fault.Failed call.Read kept) ls = tt
  commit_record (fault.Failed call.Write kept) ls = tt
  commit_record (fault.Failed call.Trim kept) ls = tt
  commit_record (fault.Failed call.Cut kept) ls = tt
  commit_record (fault.Differs p e f) ls = tt
  commit_record fault.NoMemory ls = tt

  pub commit_records : (f : HomeFault) (e : StepFault) → e ≡ commit_fault t f → LogsAre (Some f) → LeavesRecord h t unasked logs later e
  commit_records f e is ls = subst (LeavesRecord h t unasked logs later) (sym is) (commit_record f ls)

  not_log : (l : List (Option ℕ)) (f : HomeFault) → NoneFails failing n l → Decides (Some f) → Silent f → halted_by {X = X} (Err (commit_fault t f)) ≢ Some call.Log
  not_log l (fault.Refused why) none decided silent = λ e. absurd (cc)
  not_log l (fault.Failed call.Log kept) none decided silent = λ e. log_asked r h t logs later stops failing l kept none decided silent
  not_log l (fault.Failed call.Force kept) none decided silent = λ e. absurd (cc)
  not_log l (fault.Failed call.Read kept) none decided silent = λ e. absurd (cc)
  not_log l (fault.Failed call.Write kept) none decided silent = λ e. absurd (cc)
  not_log l (fault.Failed call.Trim kept) none decided silent = λ e. absurd (cc)
  not_log l (fault.Failed call.Cut kept) none decided silent = λ e. absurd (cc)
  not_log l (fault.Differs p e f) none decided silent = λ e. absurd (cc)
  not_log l fault.NoMemory none decided silent = λ e. absurd (cc)

  pub commit_quiet : (l : List (Option ℕ)) (f : HomeFault) (e : StepFault) → e ≡ commit_fault t f → NoneFails failing n l → Decides (Some f) → Silent f → halted_by {X = X} (Err e) ≢ Some call.Log
  commit_quiet l f e is none decided silent = subst (λ (z : StepFault). halted_by {X = X} (Err z) ≢ Some call.Log) (sym is) (not_log l f none decided silent)

-- the call that halted a commit failed at home
pub commit_halted : {X : Type 0} (r : Result X HomeFault) (t : TxId) (f : HomeFault) (e : StepFault) (k : Call) → e ≡ commit_fault t f → halted_by {X = X} (Err e) ≡ Some k
    → (kept : Bool) × ((let z : Result X HomeFault = Err f in z) ≡ Err (fault.Failed k kept))
commit_halted {X = X} r t f e k is halted = by f (ap (λ (z : StepFault). halted_by {X = X} (Err z)) (sym is) ∙ halted)
  where
    by : (f : HomeFault) → halted_by {X = X} (Err (commit_fault t f)) ≡ Some k → (kept : Bool) × ((let z : Result X HomeFault = Err f in z) ≡ Err (fault.Failed k kept))
    by (fault.Refused why) halted = absurd (cc)
    by (fault.Failed c kept) halted = (kept, cc)
    by (fault.Differs p m c) halted = absurd (cc)
    by fault.NoMemory halted = absurd (cc)
