-- Revocations one by one.
use Rattle.std.proofs.Common.{◌≡◌, ℕ, zero, suc, ◌+◌, ◌<◌, Bool, true, false, List, [], ◌∷◌, ◌++◌, length, get_or, set, drop, ◌≤◌, drop-cons, append_assoc, append-nil, refl, ap, sym, ◌∙◌, arith}
use Rattle.lock_entry.proofs.Lists.{drop_past}
use Rattle.pcl_base.specs.declared.lock.RightMark.{RightMark}
use Rattle.pcl_base.specs.declared.lock.Decision.{Decision}
use Rattle.pcl_base.specs.declared.lock.Decision.TheVariants.{Revoke}
use Rattle.node_rules.specs.Words.{pick}
use Rattle.node_rules.specs.LockRule.{revocations, all_revoked}

revocations-of : (b : Bool) (d : Decision) (ds : List Decision) → pick b ds (d ∷ ds) ≡ pick b [] (d ∷ []) ++ ds
revocations-of true d ds = refl
revocations-of false d ds = refl

-- the revocations are that of the first right and those of the rest
pub revocations_first : (r : RightMark) (rs : List RightMark) → revocations (r ∷ rs) ≡ revocations (r ∷ []) ++ revocations rs
unfolding revocations
revocations_first r rs = revocations-of r.revoked (Revoke r.node) (revocations rs)

-- the first n rights are marked revoked
pub marked : ℕ → List RightMark → List RightMark
marked zero rs = rs
marked (suc n) [] = []
marked (suc n) (r ∷ rs) = record { node = r.node; revoked = true } ∷ marked n rs

-- one more right is marked
pub marked_more : (n : ℕ) (rs : List RightMark) (d : RightMark) → n < length rs
    → set (marked n rs) n (record { node = (get_or (marked n rs) n d).node; revoked = true }) ≡ marked (suc n) rs
unfolding marked
marked_more zero [] d within = absurd (omega arith)
marked_more zero (r ∷ rs) d within = refl
marked_more (suc n) [] d within = absurd (omega arith)
marked_more (suc n) (r ∷ rs) d within =
    ap (λ l. record { node = r.node; revoked = true } ∷ l) (marked_more n rs d (omega arith))

pub marked_none : (rs : List RightMark) → marked 0 rs ≡ rs
unfolding marked
marked_none rs = refl

-- all are marked
pub marked_all : (rs : List RightMark) → marked (length rs) rs ≡ all_revoked rs
unfolding marked
marked_all [] = refl
marked_all (r ∷ rs) = ap (λ l. record { node = r.node; revoked = true } ∷ l) (marked_all rs)

pub length-marked : (n : ℕ) (rs : List RightMark) → length (marked n rs) ≡ length rs
unfolding marked
length-marked zero rs = refl
length-marked (suc n) [] = refl
length-marked (suc n) (r ∷ rs) = ap (λ k. suc k) (length-marked n rs)

-- the same for rights of which the first n are marked
pub marked_step : (rs first : List RightMark) (n : ℕ) (d : RightMark) → rs ≡ marked n first → n < length first
    → set rs n (record { node = (get_or rs n d).node; revoked = true }) ≡ marked (n + 1) first
marked_step rs first n d same within =
    let next : suc n ≡ n + 1 = omega arith in
    ap (λ l. set l n (record { node = (get_or l n d).node; revoked = true })) same ∙ (marked_more n first d within ∙ ap (λ k. marked k first) next)

-- rights of which as many are marked as there are
pub marked_end : (rs first : List RightMark) (n : ℕ) → rs ≡ marked n first → n ≡ length first → rs ≡ all_revoked first
marked_end rs first n same whole = same ∙ (ap (λ k. marked k first) whole ∙ marked_all first)

-- one more revocation is decided
pub revoke_step : (ds later : List Decision) (rs : List RightMark) (i : ℕ) (d : RightMark) → i < length rs
    → later ≡ ds ++ revocations (get_or rs i d ∷ [])
    → later ++ revocations (drop (i + 1) rs) ≡ ds ++ revocations (drop i rs)
revoke_step ds later rs i d within pushed =
    let r = get_or rs i d in
    let next : suc i ≡ i + 1 = omega arith in
    let front : drop i rs ≡ r ∷ drop (i + 1) rs = drop-cons rs i d within ∙ ap (λ k. r ∷ drop k rs) next in
    ap (λ l. l ++ revocations (drop (i + 1) rs)) pushed
    ∙ (append_assoc ds (revocations (r ∷ [])) (revocations (drop (i + 1) rs))
    ∙ (ap (λ l. ds ++ l) (sym (revocations_first r (drop (i + 1) rs))) ∙ ap (λ l. ds ++ revocations l) (sym front)))

-- all are decided
pub revoke_end : (ds : List Decision) (rs : List RightMark) (i : ℕ) → length rs ≤ i → ds ≡ ds ++ revocations (drop i rs)
unfolding revocations
revoke_end ds rs i past = sym (append-nil ds) ∙ ap (λ l. ds ++ revocations l) (sym (drop_past rs i past))
