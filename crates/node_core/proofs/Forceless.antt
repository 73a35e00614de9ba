-- A stop at calls that force no record keeps no transaction.
use Rattle.std.proofs.Common.{◌≡◌, refl, sym, ℕ, zero, suc, ◌==◌, ◌++◌, Bool, true, false, List, [], ◌∷◌, Option, Some, None, option_map}
use Rattle.std.specs.Prelude.{⊤, IfSome}
use Rattle.std.specs.List.{AllByRecursion, fold}
use Rattle.pcl_base.specs.declared.lock.Verdict.{Verdict}
use Rattle.pcl_base.specs.declared.lock.Verdict.TheVariants as verdict
use Rattle.pcl_base.specs.declared.message.Body.{Body}
use Rattle.pcl_base.specs.declared.message.Body.TheVariants as body
use Rattle.pcl_base.specs.declared.message.Change.{Change}
use Rattle.pcl_base.specs.declared.message.Message.{Message}
use Rattle.pcl_base.specs.declared.tx.TxId.{TxId}
use Rattle.run_rules.specs.Disk.{Disk}
use Rattle.disk_model.specs.declared.stop.Stop.{Stop}
use Rattle.node_rules.specs.Words.{pick}
use Rattle.node_rules.specs.AccessRule.{make_room, on_pool}
use Rattle.node_rules.specs.BufferRule.{free_frames, has_slot, place}
use Rattle.node_rules.specs.DiskCalls.{DiskCall, WritePage, Force, TrimLog, CutLog, Left, done, forced, left_by, stopped_in}
use Rattle.node_rules.specs.NodeState.{HomeState, NodeState, number_of, table_of}
use Rattle.node_rules.specs.NodeStep.{judge_in, partition_of}
use Rattle.node_rules.specs.OwnerRule.{has_room, into_slot, put_change}
use Rattle.node_rules.specs.Work.{HomeWork, write_page}
use Rattle.cluster_rules.specs.ClusterStep.{left_of}
use Rattle.home.specs.CallLaws.{rule_stop}
use Rattle.home.specs.Device.{work_on}
use Rattle.page_owner.specs.Released.{body_calls, calls_by, is_taken, message_calls, put_calls}
use Rattle.own_steps.proofs.Made.{AreWrites, room_writes}
use Rattle.cut_step.specs.Cuts.{cut_calls}
use Rattle.step_ends.specs.Laws.{KeepsTx}
use Rattle.step_ends.specs.Ran.{armed_at}

-- a call that forces no record
abbrev pub IsNoForce : DiskCall → Type 0
IsNoForce (Force t bytes) = ⊥
IsNoForce _ = ⊤

-- the same of some calls
abbrev pub ForceNone : List DiskCall → Type 0
ForceNone calls = AllByRecursion IsNoForce calls

-- page writes are such calls, and so is a cut
pub writes_forceless : (calls : List DiskCall) → AreWrites calls → ForceNone calls
writes_forceless [] writes = tt
writes_forceless (WritePage p bytes ∷ calls) writes = (tt, writes_forceless calls writes)
writes_forceless (Force t bytes ∷ calls) writes = absurd writes
writes_forceless (TrimLog keep ∷ calls) writes = absurd writes
writes_forceless (CutLog count ∷ calls) writes = absurd writes

pub cut_forceless : (count : ℕ) → ForceNone (cut_calls count)
cut_forceless count = by (count == 0)
  where
    by : (b : Bool) → ForceNone (pick b [] (CutLog count ∷ []))
    by true = tt
    by false = (tt, tt)

-- a change that is taken is written, if at all
change_writes : (p : ℕ) (c : Change) (w : HomeWork) → AreWrites w.calls → w.calls ≡ [] → AreWrites (put_change p c w).calls
change_writes p c w writes none = by (has_slot w.home.pool p) (free_frames w.home.pool == 0) (has_room p w)
  where
    one : (calls : List DiskCall) (bytes : List ℕ) → calls ≡ [] → AreWrites (calls ++ WritePage p bytes ∷ [])
    one [] bytes none = tt
    one (x ∷ calls) bytes none = absurd (cc)

    by : (x y z : Bool)
        → AreWrites (pick x (into_slot p c w) (pick y (pick z (into_slot p c (on_pool (λ b. place b p) (make_room p w))) (write_page p (record { version = c.version; bytes = c.image }) w)) (into_slot p c (on_pool (λ b. place b p) w)))).calls
    by true y z = writes
    by false true true = room_writes p w writes
    by false true false = one w.calls _ none
    by false false z = writes

put_forceless : (b : Bool) (p : ℕ) (c : Option Change) (h : HomeState) → ForceNone (put_calls b p c h)
put_forceless true p (Some c) h = writes_forceless (put_change p c (work_on h)).calls (change_writes p c (work_on h) tt refl)
put_forceless true p None h = tt
put_forceless false p c h = tt

body_forceless : (b : Body) (n : NodeState) → ForceNone (body_calls b n)
body_forceless (body.Request r) n = tt
body_forceless (body.Grant g) n = tt
body_forceless (body.Release r) n = put_forceless (is_taken r (table_of n r.page)) r.page r.change n.home
body_forceless (body.Revoke p) n = tt
body_forceless (body.Return r) n = tt
body_forceless (body.Report r) n = tt

-- a message that is taken forces none
pub messages_forceless : (from : ℕ) (m : Message) (n : NodeState) → ForceNone (message_calls from m n)
messages_forceless from m n = by (judge_in n.view (number_of n) from m.epoch (partition_of n.home.config m.body))
  where
    by : (x : Verdict) → ForceNone (calls_by x m.body n)
    by verdict.Taken = body_forceless m.body n
    by verdict.Held = tt
    by verdict.Dropped = tt

-- the transaction that a stop keeps
abbrev kept_in : Option Left → Option TxId
kept_in None = None
kept_in (Some l) = l.kept

none_kept : (n : ℕ) (calls : List DiskCall) (d : Disk) (before kept : ℕ) → ForceNone calls → kept_in (stopped_in n d None calls before kept) ≡ None
unfolding stopped_in
none_kept n [] d before kept all = refl
none_kept n (Force t bytes ∷ calls) d before kept all = absurd all.0
none_kept n (WritePage p bytes ∷ calls) d zero kept all = refl
none_kept n (TrimLog keep ∷ calls) d zero kept all = refl
none_kept n (CutLog count ∷ calls) d zero kept all = refl
none_kept n (WritePage p bytes ∷ calls) d (suc before) kept all = none_kept n calls (done n d (WritePage p bytes)) before kept all.1
none_kept n (TrimLog keep ∷ calls) d (suc before) kept all = none_kept n calls (done n d (TrimLog keep)) before kept all.1
none_kept n (CutLog count ∷ calls) d (suc before) kept all = none_kept n calls (done n d (CutLog count)) before kept all.1

-- so the armed stop keeps none
pub keeps_none : (me : ℕ) (d : Disk) (calls : List DiskCall) (stops : List (Option Stop)) → ForceNone calls → KeepsTx me d calls stops None
keeps_none me d calls stops all = by_stop (armed_at stops me)
  where
    of : (o : Option Left) → kept_in o ≡ None → IfSome o (λ l. None ≡ l.kept)
    of None none = tt
    of (Some l) none = sym none

    by_stop : (s : Option Stop) → IfSome (left_of me d calls (option_map rule_stop s)) (λ l. None ≡ l.kept)
    by_stop None = tt
    by_stop (Some s) = of (left_by me d calls (rule_stop s)) (none_kept me calls d (rule_stop s).before (rule_stop s).kept all)

-- and none is appended by them
pub none_forced : (calls : List DiskCall) → ForceNone calls → fold forced None calls ≡ None
none_forced [] all = refl
none_forced (WritePage p bytes ∷ calls) all = none_forced calls all.1
none_forced (TrimLog keep ∷ calls) all = none_forced calls all.1
none_forced (CutLog count ∷ calls) all = none_forced calls all.1
none_forced (Force t bytes ∷ calls) all = absurd all.0
