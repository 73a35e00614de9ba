-- A force that failed: how many bytes it appended, by the lengths of the log before and after it.
use Rattle.std.proofs.Common.{◌≡◌, ◌≢◌, ℕ, zero, suc, ◌+◌, ◌<◌, ◌≤◌, ◌⊎◌, Bool, true, false, List, [], ◌∷◌, ◌++◌, length, take, slice_get, slice_set, slice_index_or, Some, None, IfSome, refl, ap, sym, subst, ◌∙◌, arith, inl, inr}
use Rattle.std.proofs.lemmas.List.{length-append, length-take-le}
use Rattle.std.proofs.lemmas.Option.{slice_get-get_or}
use Rattle.pcl_base.specs.Faults.{Rose}
use Rattle.disk_model.specs.Disk.{Logs, Rooms, AppendsPrefix, HasLength, IsIn, NotLowered, LoweredAtMost, told_at}
use Rattle.disk_model.specs.Stops.{Failing, Done, reading_fate, after_read}
use Rattle.home.specs.Commits.{IsTorn, Unasked}

set_there : {X : Type 0} (l : List X) (n : ℕ) (x : X) → n < length l → slice_get (slice_set l n x) n ≡ Some x
set_there [] n x within = absurd (omega (arith, within))
set_there (y ∷ ys) zero x within = refl
set_there (y ∷ ys) (suc n) x within = set_there ys n x (omega (arith, within))

-- what a force that failed appended
pub torn : (old new : Logs) (node : ℕ) (bytes : List ℕ) (before : ℕ) (kept : Bool) (unasked : Type 0) → IsIn old node → HasLength (told_at old node) before → AppendsPrefix old new node bytes
    → (kept ≡ true → IfSome (told_at new node) (λ log. before + length bytes ≤ length log))
    → (kept ≡ false → IfSome (told_at new node) (λ log. length log < before + length bytes) ⊎ unasked)
    → IsTorn kept node bytes unasked old new
torn None new node bytes before kept unasked within long appends grown short =
    record { count = appends.count; most = appends.most; same = appends.same; whole = λ e. tt; part = λ e. tt }
torn (Some l) new node bytes before kept unasked within long appends grown short =
    record { count = appends.count; most = appends.most; same = appends.same; whole = λ e. all (grown e); part = λ e. some (short e) }
  where
    log : List ℕ
    log = slice_index_or l node []

    at : told_at new node ≡ Some (log ++ take appends.count bytes)
    at = ap (λ o. told_at o node) appends.same ∙ set_there l node (log ++ take appends.count bytes) within

    start : length log ≡ before
    start = subst (λ o. HasLength o before) (slice_get-get_or l node [] within) long

    sum : length (log ++ take appends.count bytes) ≡ before + appends.count
    sum = let joined = length-append log (take appends.count bytes) in let prefix = length-take-le appends.count bytes appends.most in omega (arith, joined, prefix, start)

    all : IfSome (told_at new node) (λ x. before + length bytes ≤ length x) → appends.count ≡ length bytes
    all f = let reached : before + length bytes ≤ length (log ++ take appends.count bytes) = subst (λ o. IfSome o (λ x. before + length bytes ≤ length x)) at f in let most = appends.most in omega (arith, reached, sum, most)

    some : IfSome (told_at new node) (λ x. length x < before + length bytes) ⊎ unasked → (appends.count < length bytes) ⊎ unasked
    some (inl f) = let short : length (log ++ take appends.count bytes) < before + length bytes = subst (λ o. IfSome o (λ x. length x < before + length bytes)) at f in inl (omega (arith, short, sum))
    some (inr g) = inr g

-- a count that rose later rose since before
pub rose_since : (a b c : ℕ) → a ≤ b → Rose b c → Rose a c
rose_since a b c later (inl up) = inl (omega (arith, later, up))
rose_since a b c later (inr full) = inr full

pub lowered_after : (a b c : Rooms) (n k : ℕ) → NotLowered a b → LoweredAtMost b c n k → LoweredAtMost a c n k
lowered_after a b c n k grown lowered =
    record {
      many = λ m all. lowered.many m (grown.many m all);
      named = λ m has. lowered.named m (grown.kept n (m + k) has);
      others = λ o m other has. lowered.others o m other (grown.kept o m has);
    }

-- a force that failed, after which the length of the log was asked
pub torn_known : (old mid left new : Logs) (node : ℕ) (bytes : List ℕ) (before count : ℕ) (kept : Bool) (c0 c1 c2 c3 : ℕ) (f0 f1 f2 : Failing) → IsIn old node → HasLength (told_at old node) before → mid ≡ old
    → AppendsPrefix mid left node bytes → new ≡ left → count ≡ length bytes
    → (kept ≡ true → IfSome (told_at left node) (λ log. before + count ≤ length log))
    → (kept ≡ false → IfSome (told_at left node) (λ log. length log < before + count) ⊎ (Rose c2 c3 × (reading_fate f2 node ≢ Done)))
    → c0 ≤ c1 → c1 ≤ c2 → f2 ≡ f1 → f1 ≡ after_read f0 node → IsTorn kept node bytes (Unasked c0 c3 f0 node) old new
torn_known old mid left new node bytes before count kept c0 c1 c2 c3 f0 f1 f2 within long same appends ended long_is grown short early later f g =
    subst (IsTorn kept node bytes (Unasked c0 c3 f0 node) old) (sym ended)
    (torn old left node bytes before kept (Unasked c0 c3 f0 node) within long (subst (λ l. AppendsPrefix l left node bytes) same appends)
    (λ e. subst (λ n. IfSome (told_at left node) (λ log. before + n ≤ length log)) long_is (grown e)) (λ e. unasked (short e)))
  where
    unasked : IfSome (told_at left node) (λ log. length log < before + count) ⊎ (Rose c2 c3 × (reading_fate f2 node ≢ Done)) → IfSome (told_at left node) (λ log. length log < before + length bytes) ⊎ Unasked c0 c3 f0 node
    unasked (inl less) = inl (subst (λ n. IfSome (told_at left node) (λ log. length log < before + n)) long_is less)
    unasked (inr gone) = inr (rose_since c0 c2 c3 (omega (arith, early, later)) gone.0, subst (λ x. reading_fate x node ≢ Done) (f ∙ g) gone.1)
