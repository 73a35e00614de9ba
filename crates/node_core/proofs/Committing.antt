-- The step that commits a transaction, from what its part says.
use Rattle.std.proofs.Common.{arith, ◌≡◌, ◌≢◌, ◌⊎◌, inl, inr, refl, ap, sym, subst, ◌∙◌, ℕ, ◌==◌, ◌≤◌, ◌++◌, ◌||◌, not, cond, nat_le, Bool, true, false, List, [], ◌∷◌, length, take, map, Option, Some, None, is_some, option_map, IfSome, Result, Ok, Err}
use Rattle.std.specs.Prelude.{IfErr}
use Rattle.std.specs.List.{filter, list_any}
use Rattle.std.proofs.lemmas.Bool.Decides.{nat_tests}
use Rattle.pcl_base.specs.declared.lock.Held.{Held}
use Rattle.pcl_base.specs.declared.reply.Reply.TheVariants as reply
use Rattle.pcl_base.specs.declared.trace.Call.{Call}
use Rattle.pcl_base.specs.declared.trace.Call.TheVariants as call
use Rattle.pcl_base.specs.declared.tx.TxId.{TxId}
use Rattle.run_rules.specs.Disk.{Disk}
use Rattle.disk_model.specs.Disk.{HasSizes, with_appended}
use Rattle.disk_model.specs.declared.stop.Stop.{Stop}
use Rattle.redo_log.specs.Told.{NoneFails}
use Rattle.node_rules.specs.DiskCalls.{DiskCall, Force, Left, left_at, left_by, stopped, stopped_in}
use Rattle.node_rules.specs.EndRule.{commit, pages_written}
use Rattle.node_rules.specs.NodeState.{HomeState, NodeState, Commit, number_of}
use Rattle.node_rules.specs.NodeStep.{do_event}
use Rattle.node_rules.specs.OpenTxs.{locks_of, pending_of}
use Rattle.node_rules.specs.OwnerRule.{end_work}
use Rattle.node_rules.specs.Refusals.{refusal}
use Rattle.node_rules.specs.Words.{is_exclusive, pick}
use Rattle.node_rules.specs.Work.{Work, Outcome, Goes, Differs as differs, work_of_home}
use Rattle.cluster_rules.specs.ClusterStep.{left_of}
use Rattle.home_laws.specs.Homes.{IsHome}
use Rattle.home_laws.proofs.EndNeeds.{times_held}
use Rattle.home_laws.proofs.Opens.{locks_once}
use Rattle.home_laws.proofs.Rising.{exclusive_pages, times_exclusive}
use Rattle.home_laws.proofs.Serials.{one_if}
use Rattle.home_laws.proofs.Unpins.{times}
use Rattle.home_laws.proofs.Words.{self_test}
use Rattle.home_laws.proofs.Written.{times_more}
use Rattle.home.specs.CallLaws.{rule_stop, told_on}
use Rattle.home.specs.Commits.{IsTorn, commit_bytes, commit_calls}
use Rattle.home.specs.Device.{Made, Told, told_by}
use Rattle.node_parts.specs.Comes.{Comes, work_of}
use Rattle.node_parts.specs.Outputs.{OutputsView}
use Rattle.node_parts.specs.State.{PartsView, AreParts, node_of}
use Rattle.node_parts.specs.declared.fault.StepFault.{StepFault}
use Rattle.node_parts.specs.declared.fault.StepFault.TheVariants.{NoMemory, Halted, Differs}
use Rattle.page_owner.specs.Carry.{HasSame, SameNode, halted_by}
use Rattle.own_steps.specs.Calls.{LeavesCalls}
use Rattle.own_steps.specs.Forced.{IsCommitFault, LeavesRecord, NamesKept}
use Rattle.own_steps.proofs.Forcing.{calls_if}
use Rattle.step_ends.specs.Laws.{KeepsTx}
use Rattle.step_ends.specs.Ran.{armed_at}
use Rattle.node_core.specs.Came.{FailsAt}
use Rattle.node_core.specs.Named.{forced_by, names_forced}
use Rattle.node_core.specs.Steps.{IsStep, IsStepFault, Seen}
use Rattle.node_core.proofs.Coming.{Ended, broke_after, broke_before, failed_at}
use Rattle.node_core.proofs.EventCalls.{committed_calls}
use Rattle.node_core.proofs.Fates.{differ_sym, own_ends, own_others}
use Rattle.node_core.proofs.OwnParts.{Calm, Counted, Quiet, left_same}
use Rattle.node_core.proofs.Running.{KeepsAs}
use Rattle.node_core.proofs.Stepping.{step_of}

-- a list with an item, and one that has the same items, by their number
some_items : (x : ℕ) (xs : List ℕ) → (length (x ∷ xs) == 0) ≡ false
some_items x xs = let one : 1 ≤ length (x ∷ xs) = omega arith in grind (arith, nat_tests)

there : (x : ℕ) (xs : List ℕ) → times x (x ∷ xs) ≡ 0 → ⊥
there x xs none =
    let more = times_more x x xs in
    let self : one_if (x == x) ≡ 1 = ap one_if (self_test x) in
    absurd (omega (arith, none, more, self))

same_items : (xs ys : List ℕ) → ((p : ℕ) → times p xs ≡ times p ys) → (length xs == 0) ≡ (length ys == 0)
same_items [] [] same = refl
same_items [] (y ∷ ys) same = absurd (there y ys (sym (same y)))
same_items (x ∷ xs) [] same = absurd (there x xs (same x))
same_items (x ∷ xs) (y ∷ ys) same = some_items x xs ∙ sym (some_items y ys)

-- whether a lock is exclusive, by the number of their pages
any_page : (hs : List Held) → not (list_any (λ (l : Held). is_exclusive l.mode) hs) ≡ (length (exclusive_pages hs) == 0)
any_page [] = refl
any_page (h ∷ hs) = by (is_exclusive h.mode) (any_page hs)
  where
    by : (b : Bool) → not (list_any (λ (l : Held). is_exclusive l.mode) hs) ≡ (length (exclusive_pages hs) == 0)
        → not (b || list_any (λ (l : Held). is_exclusive l.mode) hs) ≡ (length (map (λ (g : Held). g.page) (cond b (h ∷ filter (λ (g : Held). is_exclusive g.mode) hs) (filter (λ (g : Held). is_exclusive g.mode) hs))) == 0)
    by true rest = sym (some_items h.page (exclusive_pages hs))
    by false rest = rest

-- a commit forces its record where the transaction has an exclusive lock
pub forced_is : (h : HomeState) (t : TxId) → IsHome h → pending_of h.txs t ≡ None
    → forced_by (commit_calls h t) ≡ pick (list_any (λ (l : Held). is_exclusive l.mode) (locks_of h.txs t)) (Some t) None
unfolding commit
forced_is h t is waits = ap (λ b. forced_by (calls_if h t b)) (sym wrote) ∙ by (list_any (λ (l : Held). is_exclusive l.mode) (locks_of h.txs t))
  where
    wrote : not (list_any (λ (l : Held). is_exclusive l.mode) (locks_of h.txs t)) ≡ (length (pages_written h t) == 0)
    wrote =
        any_page (locks_of h.txs t)
        ∙ same_items (exclusive_pages (locks_of h.txs t)) (pages_written h t) (λ p. times_exclusive (locks_of h.txs t) p (locks_once h.txs t is.txs.once) ∙ sym (times_held h t p is waits))

    by : (b : Bool) → forced_by (calls_if h t (not b)) ≡ pick b (Some t) None
    by true = refl
    by false = refl

-- the same, where the test of the locks of an equal home is known
pub forced_where : (h k : HomeState) (t : TxId) (locks : List Held) (r b : Bool) → h ≡ k → IsHome h → pending_of k.txs t ≡ None → r ≡ list_any (λ (l : Held). is_exclusive l.mode) locks → locks ≡ locks_of h.txs t → r ≡ b
    → pick b (Some t) None ≡ forced_by (commit_calls k t)
forced_where h k t locks r b same is waits any listed test =
    ap (λ (c : Bool). pick c (Some t) None) (sym test ∙ any ∙ ap (λ (x : List Held). list_any (λ (l : Held). is_exclusive l.mode) x) (listed ∙ ap (λ (g : HomeState). locks_of g.txs t) same))
    ∙ sym (forced_is k t (subst IsHome same is) waits)

-- an answer that names who was forced says the same of the rule and of the calls
module _ (f : Option TxId) where
  comes_named : (o : Outcome Work) (r : Result (Unit {0}) StepFault) (w : Work) → Comes o r w → Comes o (names_forced f r) w
  comes_named (Goes x) (Ok u) w comes = comes
  comes_named (Goes x) (Err NoMemory) w comes = tt
  comes_named (Goes x) (Err (Halted k kept)) w comes = tt
  comes_named (Goes x) (Err (Differs p e g)) w comes = comes
  comes_named (differs a b c) (Ok u) w comes = comes
  comes_named (differs a b c) (Err NoMemory) w comes = tt
  comes_named (differs a b c) (Err (Halted k kept)) w comes = tt
  comes_named (differs a b c) (Err (Differs p e g)) w comes = comes

  left_named : (me : ℕ) (calls : List DiskCall) (old new : Told) (r : Result (Unit {0}) StepFault) → LeavesCalls me r calls old new → LeavesCalls me (names_forced f r) calls old new
  left_named me calls old new (Ok u) left = left
  left_named me calls old new (Err NoMemory) left = left
  left_named me calls old new (Err (Halted k kept)) left = left
  left_named me calls old new (Err (Differs p e g)) left = left

  halted_named : (r : Result (Unit {0}) StepFault) → halted_by (names_forced f r) ≡ halted_by r
  halted_named (Ok u) = refl
  halted_named (Err NoMemory) = refl
  halted_named (Err (Halted k kept)) = refl
  halted_named (Err (Differs p e g)) = refl

  wants_named : (r : Result (Unit {0}) StepFault) → names_forced f r ≡ Err NoMemory → r ≡ Err NoMemory
  wants_named (Ok u) e = absurd (cc)
  wants_named (Err NoMemory) e = refl
  wants_named (Err (Halted k kept)) e = absurd (cc)
  wants_named (Err (Differs p e g)) is = absurd (cc)

  fault_named : (t : TxId) (r : Result (Unit {0}) StepFault) → IfErr r (IsCommitFault t) → IfErr (names_forced f r) IsStepFault
  fault_named t (Ok u) fault = tt
  fault_named t (Err NoMemory) fault = tt
  fault_named t (Err (Halted k kept)) fault = tt
  fault_named t (Err (Differs p e g)) fault = differ_sym g e fault

-- an armed stop leaves the transaction that the halt names
keeps_tx : (me : ℕ) (d : Disk) (calls : List DiskCall) (stops : List (Option Stop)) (k : Call) (kept : Option TxId) → NamesKept me d calls stops (Halted k kept) → KeepsTx me d calls stops kept
keeps_tx me d calls stops k kept names = by (armed_at stops me) refl
  where
    one : (s : Stop) → armed_at stops me ≡ Some s → (o : Option Left) → left_by me d calls (rule_stop s) ≡ o → IfSome o (λ l. kept ≡ l.kept)
    one s armed None is = tt
    one s armed (Some l) is = names s l armed is

    by : (o : Option Stop) → armed_at stops me ≡ o → IfSome (left_of me d calls (option_map rule_stop o)) (λ l. kept ≡ l.kept)
    by None none = tt
    by (Some s) armed = one s armed (left_by me d calls (rule_stop s)) refl

keeps_named : (me : ℕ) (d : Disk) (calls : List DiskCall) (stops : List (Option Stop)) (f : Option TxId) (r : Result (Unit {0}) StepFault) → IfErr r (NamesKept me d calls stops) → halted_by r ≢ Some call.Read
    → KeepsAs me d stops (names_forced f r) calls
keeps_named me d calls stops f (Ok u) names quiet = tt
keeps_named me d calls stops f (Err NoMemory) names quiet = tt
keeps_named me d calls stops f (Err (Differs p e g)) names quiet = tt
keeps_named me d calls stops f (Err (Halted call.Read kept)) names quiet = absurd (quiet refl)
keeps_named me d calls stops f (Err (Halted call.Log kept)) names quiet = keeps_tx me d calls stops call.Log kept names
keeps_named me d calls stops f (Err (Halted call.Write kept)) names quiet = keeps_tx me d calls stops call.Write kept names
keeps_named me d calls stops f (Err (Halted call.Force kept)) names quiet = keeps_tx me d calls stops call.Force kept names
keeps_named me d calls stops f (Err (Halted call.Trim kept)) names quiet = keeps_tx me d calls stops call.Trim kept names
keeps_named me d calls stops f (Err (Halted call.Cut kept)) names quiet = keeps_tx me d calls stops call.Cut kept names

self_below : (n : ℕ) → nat_le n n ≡ true
self_below n = grind (arith, nat_tests)

-- what became of the force of a commit
module _ (h : HomeState) (t : TxId) (d : Disk) (unasked : Type 0) (old new : Told) (pages : old.pages ≡ Some d.pages) (logs : old.logs ≡ Some d.logs) (same : new.pages ≡ old.pages) where
  abbrev me : ℕ
  me = h.txs.node

  abbrev bytes : List ℕ
  bytes = commit_bytes h t

  -- the whole record was appended though the force failed
  whole : Made me (commit_calls h t) old (Some call.Force) new → IsTorn true me bytes unasked old.logs new.logs → FailsAt me d (commit_calls h t) call.Force (Some t) old new
  unfolding commit stopped_in stopped
  whole made torn = by (length (pages_written h t) == 0) made
    where
      all : torn.count ≡ length bytes
      all = subst (λ o. IfSome o (λ l. torn.count ≡ length bytes)) logs (torn.whole refl)

      appended : new.logs ≡ with_appended (Some d.logs) me (take (length bytes) bytes)
      appended = torn.same ∙ ap (λ o. with_appended o me (take torn.count bytes)) logs ∙ ap (λ c. with_appended (Some d.logs) me (take c bytes)) all

      by : (b : Bool) → Made me (calls_if h t b) old (Some call.Force) new → FailsAt me d (calls_if h t b) call.Force (Some t) old new
      by true made = absurd made
      by false made = record {
        made = made;
        stop = record { before = 0; kept = length bytes };
        left = left_at me d None (Force t bytes) (length bytes);
        leaves = refl;
        same_call = refl;
        disk = λ i. told_by ((same ∙ pages) i) (appended i) new.stops;
        names = inl (sym (ap (λ b. pick b (Some t) None) (self_below (length bytes))));
      }

  force_ended : (kept : Option TxId) → (kept ≡ None) ⊎ (kept ≡ Some t) → Made me (commit_calls h t) old (Some call.Force) new → IsTorn (is_some kept) me bytes unasked old.logs new.logs → old ≡ told_on d old.stops
      → FailsAt me d (commit_calls h t) call.Force kept old new
  force_ended kept (inl none) made torn told = failed_at me d (commit_calls h t) call.Force kept old.stops old new told none made
  force_ended kept (inr some) made torn told =
      subst (λ z. FailsAt me d (commit_calls h t) call.Force z old new) (sym some) (whole made (subst (λ z. IsTorn (is_some z) me bytes unasked old.logs new.logs) some torn))

  ended_named : (r : Result (Unit {0}) StepFault) → LeavesCalls me r (commit_calls h t) old new → IfErr r (IsCommitFault t) → IfErr r (LeavesRecord h t unasked old.logs new.logs) → old ≡ told_on d old.stops
      → Ended me d (names_forced (forced_by (commit_calls h t)) r) (commit_calls h t) old new
  ended_named (Ok u) left fault torn told = left
  ended_named (Err NoMemory) left fault torn told = tt
  ended_named (Err (Differs p e g)) left fault torn told = (commit_calls h t, left)
  ended_named (Err (Halted call.Read kept)) left fault torn told = broke_after me (commit_calls h t) (forced_by (commit_calls h t)) old new left refl
  ended_named (Err (Halted call.Log kept)) left fault torn told = broke_before me (commit_calls h t) kept old new left fault
  ended_named (Err (Halted call.Force kept)) left fault torn told = force_ended kept fault left torn told
  ended_named (Err (Halted call.Write kept)) left fault torn told = absurd fault
  ended_named (Err (Halted call.Trim kept)) left fault torn told = absurd fault
  ended_named (Err (Halted call.Cut kept)) left fault torn told = absurd fault

module _ (v later : PartsView) (out after : OutputsView) (old new : Seen) (r : Result (Unit {0}) StepFault) (parts : AreParts v) (replies : out.replies ≡ []) (sends : out.sends ≡ []) where
  abbrev n : NodeState
  n = node_of v

  abbrev m : NodeState
  m = node_of later

  pub commit_step : (t : TxId) → refusal n (Commit t) ≡ None
      → ((ps : List (List ℕ)) (cs : List DiskCall) → old.told.pages ≡ Some ps → Comes (end_work (reply.Committed t) t (work_of n ps cs out) (commit t (work_of_home (work_of n ps cs out)))) r (work_of m ps (cs ++ commit_calls v.home t) after))
      → LeavesCalls (number_of n) r (commit_calls v.home t) old.told new.told → (r ≡ Err NoMemory → m ≡ n) → (r ≡ Err NoMemory → HasSame out after) → SameNode v.home later.home → IfErr r (IsCommitFault t)
      → (unasked : Type 0) → IfErr r (LeavesRecord v.home t unasked old.told.logs new.told.logs)
      → ((d : Disk) (stops : List (Option Stop)) (l : List (Option ℕ)) → old.told.logs ≡ Some d.logs → old.told.stops ≡ Some stops → NoneFails old.failing v.me l → IfErr r (NamesKept (number_of n) d (commit_calls v.home t) stops))
      → new.told.pages ≡ old.told.pages → HasSizes n.home.config new.told.pages new.told.logs new.rooms
      → Calm v later out after old new r parts replies sends → Quiet v later out after old new r parts replies sends → Counted v later out after old new r parts replies sends
      → IsStep n (Commit t) out old (names_forced (forced_by (commit_calls v.home t)) r) m after new
  unfolding do_event
  commit_step t none comes left node lists kept fault unasked torn names pages sizes calm quiet counted =
      step_of v later out after old new q parts replies sends (Commit t) (λ d. calls) (λ d. d.pages) none
      (λ d told logs. comes_named f (end_work (reply.Committed t) t (work_of n d.pages [] out) (commit t (work_of_home (work_of n d.pages [] out)))) r (work_of m d.pages calls after) (comes d.pages [] told))
      (λ d told logs is. ended_named v.home t d unasked old.told new.told told logs pages r left fault torn is)
      (λ d l told logs is. own_ends (number_of n) calls old.told new.told q mine (silent l is)) (committed_calls t n)
      (λ d stops l logs armed is. keeps_named (number_of n) d calls stops f r (names d stops l logs armed is) (quiet l is).0)
      (λ is. (node (wants_named f r is), lists (wants_named f r is), left_same (number_of n) calls old.told new.told q mine is)) (kept.config, kept.node) (fault_named f t r fault) sizes
      (λ d told logs. own_others (number_of n) calls old.told new.told q mine) calm silent counted.0 (λ k is. counted.1 k (sym (halted_named f r) ∙ is))
    where
      calls : List DiskCall
      calls = commit_calls v.home t

      f : Option TxId
      f = forced_by calls

      q : Result (Unit {0}) StepFault
      q = names_forced f r

      mine : LeavesCalls (number_of n) q calls old.told new.told
      mine = left_named f (number_of n) calls old.told new.told r left

      silent : (l : List (Option ℕ)) → NoneFails old.failing v.me l → (halted_by q ≢ Some call.Read) × (halted_by q ≢ Some call.Log)
      silent l is = (λ e. (quiet l is).0 (sym (halted_named f r) ∙ e), λ e. (quiet l is).1 (sym (halted_named f r) ∙ e))
