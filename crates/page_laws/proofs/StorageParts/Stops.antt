-- What a stop within some calls leaves.
use Rattle.std.proofs.Common.{◌≡◌, refl, sym, ap, ℕ, zero, suc, ◌==◌, nat_le, Bool, true, false, List, [], ◌∷◌, ◌++◌, length, Option, Some, None, arith, take_all}
use Rattle.std.specs.List.{fold}
use Rattle.std.proofs.lemmas.Bool.Decides.{nat_tests}
use Rattle.pcl_base.specs.declared.tx.TxId.{TxId}
use Rattle.run_rules.specs.Disk.{Disk, log_at}
use Rattle.node_rules.specs.DiskCalls.{DiskCall, WritePage, Force, TrimLog, CutLog, with_log, done, all_done, stopped, kept_of, forced, Left, left_at, stopped_in}
use Rattle.node_rules.specs.Words.{pick, or_else}
use Rattle.page_laws.specs.Storage.Stored.{StopLeaves, undone, whole, torn, StoppedLeaves, StopsLeave}

pub stopped_leaves_law : StoppedLeaves
unfolding stopped done
stopped_leaves_law n d (WritePage p bytes) kept = by (kept == 0) refl
  where
    by : (b : Bool) → (kept == 0) ≡ b → StopLeaves n d (WritePage p bytes) kept
    by true e = undone (ap (λ x. pick x d (done n d (WritePage p bytes))) e) refl
    by false e = whole (ap (λ x. pick x d (done n d (WritePage p bytes))) e) refl
stopped_leaves_law n d (TrimLog keep) kept = by (kept == 0) refl
  where
    by : (b : Bool) → (kept == 0) ≡ b → StopLeaves n d (TrimLog keep) kept
    by true e = undone (ap (λ x. pick x d (done n d (TrimLog keep))) e) refl
    by false e = whole (ap (λ x. pick x d (done n d (TrimLog keep))) e) refl
stopped_leaves_law n d (CutLog count) kept = by (kept == 0) refl
  where
    by : (b : Bool) → (kept == 0) ≡ b → StopLeaves n d (CutLog count) kept
    by true e = undone (ap (λ x. pick x d (done n d (CutLog count))) e) refl
    by false e = whole (ap (λ x. pick x d (done n d (CutLog count))) e) refl
stopped_leaves_law n d (Force t bytes) kept = by (nat_le (length bytes) kept) refl
  where
    by : (b : Bool) → nat_le (length bytes) kept ≡ b → StopLeaves n d (Force t bytes) kept
    by true e = whole (ap (λ bs. with_log d n (log_at d n ++ bs)) (take_all kept bytes (grind (arith, nat_tests)))) (ap (λ x. pick x (Some t) None) e)
    by false e = torn t bytes refl (grind (arith, nat_tests)) (ap (λ x. pick x (Some t) None) e)

-- the rest of a stop, where some record may have been forced before
left_in : (n : ℕ) (d : Disk) (old : Option TxId) (calls : List DiskCall) (before kept : ℕ) (l : Left) → stopped_in n d old calls before kept ≡ Some l
    → (front : List DiskCall) × ((call : DiskCall) × ((back : List DiskCall) × ((calls ≡ front ++ call ∷ back) × ((length front ≡ before) × ((l.disk ≡ stopped n (all_done n d front) call kept) × (l.kept ≡ or_else (fold forced old front) (kept_of call kept)))))))
unfolding stopped_in
left_in n d old [] before kept l e = absurd (cc)
left_in n d None (call ∷ calls) zero kept l e =
    let same : (let x : Left = left_at n d None call kept in x) ≡ l = cc in
    ([], (call, (calls, (refl, (refl, (ap (λ (x : Left). x.disk) (sym same), ap (λ (x : Left). x.kept) (sym same)))))))
left_in n d (Some t) (call ∷ calls) zero kept l e =
    let same : (let x : Left = left_at n d (Some t) call kept in x) ≡ l = cc in
    ([], (call, (calls, (refl, (refl, (ap (λ (x : Left). x.disk) (sym same), ap (λ (x : Left). x.kept) (sym same)))))))
left_in n d old (first ∷ calls) (suc before) kept l e =
    let rest = left_in n (done n d first) (forced old first) calls before kept l e in
    (first ∷ rest.0, (rest.1.0, (rest.1.1.0, (ap (λ cs. first ∷ cs) rest.1.1.1.0, (ap suc rest.1.1.1.1.0, (rest.1.1.1.1.1.0, rest.1.1.1.1.1.1))))))

pub stops_leave_law : StopsLeave
stops_leave_law n d calls s l e =
    let left = left_in n d None calls s.before s.kept l e in
    record {
      front = left.0;
      call = left.1.0;
      back = left.1.1.0;
      parts = left.1.1.1.0;
      count = left.1.1.1.1.0;
      disk = left.1.1.1.1.1.0;
      kept = left.1.1.1.1.1.1;
    }
