-- Which flags of tables a report sets, and that an event which installs no view leaves the others.
use Rattle.std.proofs.Common.{◌≡◌, refl, ap, ◌∙◌, ℕ, zero, suc, ◌<◌, ◌==◌, Bool, true, List, [], ◌∷◌, length, slice_index_or, slice_set, Option, Some, None, option_map, arith}
use Rattle.std.specs.Prelude.{⊤}
use Rattle.pcl_base.specs.declared.lock.Verdict.{Verdict}
use Rattle.pcl_base.specs.declared.lock.Verdict.TheVariants as verdict
use Rattle.pcl_base.specs.declared.message.Body.{Body}
use Rattle.pcl_base.specs.declared.message.Body.TheVariants as body
use Rattle.pcl_base.specs.declared.message.Message.{Message}
use Rattle.pcl_base.specs.declared.message.Report.{Report}
use Rattle.pcl_base.specs.declared.message.ReportLock.{ReportLock}
use Rattle.pcl_base.specs.declared.message.ReportRight.{ReportRight}
use Rattle.pcl_base.specs.declared.message.ReportWait.{ReportWait}
use Rattle.node_rules.specs.LockRule.{ask, reported, reported_right}
use Rattle.node_rules.specs.LockTable.{LockTable, entry_at, put_entry, mark}
use Rattle.node_rules.specs.NodeState.{NodeState, NodeEvent, Deliver, number_of, table_at}
use Rattle.node_rules.specs.NodeStep.{judge_in, partition_of}
use Rattle.node_rules.specs.Reports.{gather_locks, gather_rights, gather_waits, gather}
use Rattle.node_rules.specs.Words.{pick}
use Rattle.cluster_facts.proofs.ReportsParts.Walking.{GoesOnAs}

-- ---- tables that may be missing
abbrev pub TableGoesOn : Option LockTable → Option LockTable → Type 0
TableGoesOn None None = ⊤
TableGoesOn (Some t) (Some u) = GoesOnAs t u
TableGoesOn _ _ = ⊥

pub table_same : (o : Option LockTable) → TableGoesOn o o
table_same None = tt
table_same (Some t) = record { reported = refl; serving = λ e. e }

pub table_further : (o : Option LockTable) (t u : LockTable) → GoesOnAs t u → TableGoesOn o (Some t) → TableGoesOn o (Some u)
table_further None t u on is = absurd is
table_further (Some x) t u on is = record { reported = on.reported ∙ is.reported; serving = λ e. on.serving (is.serving e) }

-- ---- the verdict on a message at a node
abbrev pub verdict_of : NodeState → ℕ → Message → Verdict
verdict_of n from m = judge_in n.view (number_of n) from m.epoch (partition_of n.home.config m.body)

-- a table that is being rebuilt, with the flag of a node that reports
abbrev pub flagged : ℕ → LockTable → LockTable
flagged from t = pick t.serving t (mark t from)

-- what a body that is taken makes of the flags of a table
abbrev pub heard_body : ℕ → ℕ → Body → Option LockTable → Option LockTable
heard_body from q (body.Report r) o = pick (r.partition == q) (option_map (flagged from) o) o
heard_body from q _ o = o

-- and by its verdict
abbrev pub heard_by : Verdict → ℕ → ℕ → Body → Option LockTable → Option LockTable
heard_by verdict.Taken from q b o = heard_body from q b o
heard_by _ from q b o = o

-- and an event
abbrev pub heard : NodeState → NodeEvent → ℕ → Option LockTable
heard n (Deliver from m) q = heard_by (verdict_of n from m) from q m.body (table_at n q)
heard n ev q = table_at n q

-- ---- gathering
locks_flags : (t : LockTable) (xs : List ReportLock) → ((gather_locks t xs).reported ≡ t.reported) × ((gather_locks t xs).serving ≡ t.serving)
unfolding gather_locks
locks_flags t [] = (refl, refl)
locks_flags t (x ∷ xs) = locks_flags (put_entry t x.page (reported (entry_at t x.page) x.tx x.mode)) xs

rights_flags : (t : LockTable) (n : ℕ) (xs : List ReportRight) → ((gather_rights t n xs).reported ≡ t.reported) × ((gather_rights t n xs).serving ≡ t.serving)
unfolding gather_rights
rights_flags t n [] = (refl, refl)
rights_flags t n (x ∷ xs) = rights_flags (put_entry t x.page (reported_right (entry_at t x.page) n)) n xs

waits_flags : (t : LockTable) (xs : List ReportWait) → ((gather_waits t xs).reported ≡ t.reported) × ((gather_waits t xs).serving ≡ t.serving)
unfolding gather_waits
waits_flags t [] = (refl, refl)
waits_flags t (x ∷ xs) = waits_flags (put_entry t x.page (ask (entry_at t x.page) (record { tx = x.tx; mode = x.mode; have = x.have }))) xs

pub gather_flags : (t : LockTable) (n : ℕ) (r : Report) → ((gather t n r).reported ≡ slice_set t.reported n true) × ((gather t n r).serving ≡ t.serving)
unfolding gather
gather_flags t n r =
    let a = locks_flags t r.locks in
    let b = rights_flags (gather_locks t r.locks) n r.rights in
    let d = waits_flags (gather_rights (gather_locks t r.locks) n r.rights) r.waits in
    (ap (λ (xs : List Bool). slice_set xs n true) (d.0 ∙ b.0 ∙ a.0), d.1 ∙ b.1 ∙ a.1)

pub gathered_on : (t : LockTable) (n : ℕ) (r : Report) → GoesOnAs (mark t n) (gather t n r)
gathered_on t n r = let is = gather_flags t n r in record { reported = is.0; serving = λ s. is.1 ∙ s }

-- a place where there is something
pub there_below : (ts : List (Option LockTable)) (q : ℕ) (t : LockTable) → slice_index_or ts q None ≡ Some t → q < length ts
there_below [] q t e = absurd (cc)
there_below (x ∷ xs) zero t e = omega arith
there_below (x ∷ xs) (suc q) t e = let low = there_below xs q t e in omega (arith, low)
