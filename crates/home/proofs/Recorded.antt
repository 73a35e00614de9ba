-- The calls of a commit: one force of its record where it wrote a page, else none.
use Rattle.std.proofs.Common.{◌≡◌, ℕ, ◌≤◌, ◌==◌, true, false, List, [], ◌∷◌, length, map, Option, None, refl, ap, sym, subst, ◌∙◌, arith}
use Rattle.std.proofs.lemmas.Bool.Decides.{nat_tests}
use Rattle.std.specs.Prelude.{Result, Ok, Err, OnOk, OnErr}
use Rattle.pcl_base.specs.Limits.{Sizes}
use Rattle.pcl_base.specs.declared.tx.TxId.{TxId}
use Rattle.pcl_base.specs.declared.log.Record.{Record}
use Rattle.disk_model.specs.Disk.{Logs, Rooms, NotLowered, LoweredAtMost, with_appended}
use Rattle.disk_model.specs.Stops.{Stops, Failing, after_change, after_read}
use Rattle.text_rules.specs.LogRecord.{record_bytes, IsRecord}
use Rattle.node_rules.specs.NodeState.{HomeState}
use Rattle.node_rules.specs.DiskCalls.{Force}
use Rattle.node_rules.specs.OpenTxs.{is_open, pending_of}
use Rattle.node_rules.specs.EndRule.{commit, commit_record, logged, force_if, pages_written, closed, publish_all, endings}
use Rattle.home_laws.specs.Homes.{IsHome}
use Rattle.home_laws.proofs.Words.{not_both}
use Rattle.home_laws.proofs.Ends.{commit_is_sound_law}
use Rattle.home_laws.proofs.Records.{record_is_sound_law}
use Rattle.home.specs.declared.fault.HomeFault.{HomeFault}
use Rattle.home.specs.Commits.{LogsLeft, IsDecided, Unasked, stops_left, failing_left, logs_done, stops_done, failing_done, CommitLogs, CommitDecided}
use Rattle.home.specs.Device.{work_on}
use Rattle.home.specs.Parts.{PartsView, IsPrepared}
use Rattle.home.proofs.Forced.{lowered_after}

calls_of : (h : HomeState) (t : TxId) (ps : List ℕ) → pages_written h t ≡ ps → (commit t (work_on h)).work.calls ≡ (force_if (length ps == 0) t (record_bytes (commit_record h t)) (work_on h)).calls
unfolding commit
calls_of h t ps written = ap (λ l. (force_if (length l == 0) t (record_bytes (commit_record h t)) (work_on h)).calls) written

pub no_calls : (h : HomeState) (t : TxId) → pages_written h t ≡ [] → (commit t (work_on h)).work.calls ≡ []
no_calls h t none = calls_of h t [] none

not_none : (n : ℕ) → 1 ≤ n → (n == 0) ≡ false
not_none n some = grind (arith, nat_tests)

pub one_force : (h : HomeState) (t : TxId) → 1 ≤ length (pages_written h t) → (commit t (work_on h)).work.calls ≡ Force t (record_bytes (commit_record h t)) ∷ []
one_force h t some =
    calls_of h t (pages_written h t) refl
    ∙ ap (λ b. (force_if b t (record_bytes (commit_record h t)) (work_on h)).calls) (not_none (length (pages_written h t)) some)

-- what a commit leaves of the home, and what it tells
pub commit_leaves : (h : HomeState) (t : TxId) → (commit t (work_on h)).work.home ≡ closed h t (publish_all h t)
unfolding commit
commit_leaves h t = refl

pub commit_endings : (h : HomeState) (t : TxId) → (commit t (work_on h)).endings ≡ endings h t true
unfolding commit
commit_endings h t = refl

-- the storage after a force is that after the calls
pub logs_as : (h : HomeState) (t : TxId) (fault : Option HomeFault) (n : ℕ) (bytes : List ℕ) (unasked : Type 0) (old new : Logs) → 1 ≤ length (pages_written h t) → bytes ≡ record_bytes (commit_record h t)
    → LogsLeft fault (with_appended old n bytes) n bytes unasked old new → LogsLeft fault (logs_done n old (commit t (work_on h)).work.calls) n bytes unasked old new
logs_as h t fault n bytes unasked old new some same left =
    subst (λ d. LogsLeft fault d n bytes unasked old new) (ap (with_appended old n) same ∙ sym (ap (logs_done n old) (one_force h t some))) left

pub stops_as : (h : HomeState) (t : TxId) (fault : Option HomeFault) (n : ℕ) (old : Stops) → 1 ≤ length (pages_written h t) → stops_left fault (after_change old n) n old ≡ stops_left fault (stops_done n old (commit t (work_on h)).work.calls) n old
stops_as h t fault n old some = ap (λ d. stops_left fault d n old) (sym (ap (stops_done n old) (one_force h t some)))

pub failing_as : (h : HomeState) (t : TxId) (fault : Option HomeFault) (n : ℕ) (old : Failing) → 1 ≤ length (pages_written h t) → failing_left fault (after_read old n) n old ≡ failing_left fault (failing_done n old (commit t (work_on h)).work.calls) n old
failing_as h t fault n old some = ap (λ d. failing_left fault d n old) (sym (ap (failing_done n old) (one_force h t some)))

-- whether a page was written, by the number of them
pub none_written : (h : HomeState) (t : TxId) (ps : List ℕ) → ps ≡ pages_written h t → (length ps == 0) ≡ true → pages_written h t ≡ []
none_written h t [] same e = sym same
none_written h t (p ∷ ps) same e = absurd (not_both (length (p ∷ ps) == 0) e (not_none (length (p ∷ ps)) (omega arith)))

pub some_written : (h : HomeState) (t : TxId) (ps : List ℕ) → ps ≡ pages_written h t → (length ps == 0) ≡ false → 1 ≤ length (pages_written h t)
some_written h t [] same e = absurd (cc)
some_written h t (p ∷ ps) same e = subst (λ l. 1 ≤ length l) same (omega arith)

-- the record of the pages that were written is that of the commit
pub record_is : (h : HomeState) (t : TxId) (ps : List ℕ) (r : Record) → r ≡ record { tx = t; changes = map (logged h t) ps } → ps ≡ pages_written h t → r ≡ commit_record h t
unfolding commit_record
record_is h t ps r made same = made ∙ (λ i. record { tx = t; changes = map (logged h t) (same i) })

pub record_sound : (h : HomeState) (t : TxId) (ps : List ℕ) (c : Sizes) (r : Record) → IsHome h → is_open h.txs t ≡ true → pending_of h.txs t ≡ None → ps ≡ pages_written h t → 1 ≤ length ps → c ≡ h.config
    → r ≡ record { tx = t; changes = map (logged h t) ps } → IsRecord c r
record_sound h t ps c r is there waits same some config made =
    subst (λ d. IsRecord d r) (sym config)
    (subst (IsRecord h.config) (sym (record_is h t ps r made same)) (record_is_sound_law h t is there waits (subst (λ l. 1 ≤ length l) same some)))

-- what a force leaves, in the words of the home and of the storage before its room was made
pub moved_logs : (fault : Option HomeFault) (n m : ℕ) (bytes whole : List ℕ) (mid old new : Logs) (before was now : ℕ) (f g : Failing) → n ≡ m → bytes ≡ whole → mid ≡ old → before ≡ was → f ≡ g
    → LogsLeft fault (with_appended mid n bytes) n bytes (Unasked before now f n) mid new → LogsLeft fault (with_appended old m whole) m whole (Unasked was now g m) old new
moved_logs fault n m bytes whole mid old new before was now f g node same logs count failing left =
    subst {A = ℕ × List ℕ × Logs × ℕ × Failing} (λ x. LogsLeft fault (with_appended x.2 x.0 x.1) x.0 x.1 (Unasked x.3 now x.4 x.0) x.2 new) (λ i. (node i, same i, logs i, count i, failing i)) left

pub moved_decided : (fault : Option HomeFault) (n m : ℕ) (bytes whole : List ℕ) (mid old new : Logs) (s u : Stops) (f g : Failing) → n ≡ m → bytes ≡ whole → mid ≡ old → s ≡ u → f ≡ g
    → IsDecided fault n bytes s f mid new → IsDecided fault m whole u g old new
moved_decided fault n m bytes whole mid old new s u f g node same logs stops failing decided =
    subst {A = ℕ × List ℕ × Logs × Stops × Failing} (λ x. IsDecided fault x.0 x.1 x.3 x.4 x.2 new) (λ i. (node i, same i, logs i, stops i, failing i)) decided

pub moved_rooms : (a b c : Rooms) (n m : ℕ) (bytes whole : List ℕ) → n ≡ m → bytes ≡ whole → NotLowered a b → LoweredAtMost b c n (length bytes) → LoweredAtMost a c m (length whole)
moved_rooms a b c n m bytes whole node same grown lowered =
    lowered_after a b c m (length whole) grown (subst {A = ℕ × List ℕ} (λ x. LoweredAtMost b c x.0 (length x.1)) (λ i. (node i, same i)) lowered)

-- the same of a home that is equal
pub logs_of_home : (h k : HomeState) (t : TxId) (fault : Option HomeFault) (before now : ℕ) (failing : Failing) (old new : Logs) → h ≡ k → CommitLogs h t fault before now failing old new → CommitLogs k t fault before now failing old new
logs_of_home h k t fault before now failing old new same left = subst (λ g. CommitLogs g t fault before now failing old new) same left

pub decided_of_home : (h k : HomeState) (t : TxId) (fault : Option HomeFault) (stops : Stops) (failing : Failing) (old new : Logs) → h ≡ k
    → (1 ≤ length (pages_written h t) → CommitDecided h t fault stops failing old new) → 1 ≤ length (pages_written k t) → CommitDecided k t fault stops failing old new
decided_of_home h k t fault stops failing old new same decided =
    subst (λ g. 1 ≤ length (pages_written g t) → CommitDecided g t fault stops failing old new) same decided

-- what holds of a home and its memory holds after a commit
pub commit_kept : {T E : Type 0} (r : Result T E) (old new : PartsView) (t : TxId) → IsHome old.home × IsPrepared old → is_open old.home.txs t ≡ true → pending_of old.home.txs t ≡ None
    → OnOk r (new.home ≡ (commit t (work_on old.home)).work.home) → OnErr r (new ≡ old) → (IsPrepared old → IsPrepared new) → IsHome new.home × IsPrepared new
commit_kept (Ok x) old new t kept there waits home same prepared = (subst IsHome (sym home) (commit_is_sound_law t (work_on old.home) kept.0 there waits), prepared kept.1)
commit_kept (Err e) old new t kept there waits home same prepared = subst (λ v. IsHome v.home × IsPrepared v) (sym same) kept
