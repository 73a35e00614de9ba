-- What the index knows after a note.
use Rattle.std.proofs.Common.{◌≡◌, refl, sym, ap, subst, ◌∙◌, ℕ, ◌<◌, ◌^◌, Bool, true, false, ◌==◌, ◌&&◌, List, [], ◌∷◌, ◌++◌, ◌+◌, arith, Option, Some, None, cond}
use Rattle.std.specs.Option.{is_some}
use Rattle.std.proofs.lemmas.Bool.Decides.{nat_tests}
use Rattle.run_rules.specs.Words.{pick}
use Rattle.partition_redo.specs.declared.site.Site.{Site}
use Rattle.std.specs.List.{AllByRecursion}
use Rattle.pcl_base.specs.declared.log.Seen.{Seen}
use Rattle.redo_log.specs.Placed.{Placed, seen_of}
use Rattle.redo_log.specs.Walks.{first_seen, after_first}
use Rattle.partition_redo.specs.Chains.{AreNext}
use Rattle.partition_redo.specs.Index.{Known, or_else, noted_at, next_known, known_all}

-- what isn't there
not_some : {X : Type 0} (o : Option X) → is_some o ≡ false → o ≡ None
not_some None e = refl
not_some (Some x) e = absurd (cc)

and_parts : (a b : Bool) → (a && b) ≡ true → (a ≡ true) × (b ≡ true)
and_parts true b e = (refl, e)
and_parts false b e = absurd (cc)

-- of the page and the version themselves
same_entry : (f : ℕ → ℕ → Option Site) (page version p v : ℕ) → f page version ≡ None → (page == p && version == v) ≡ true → f p v ≡ None
same_entry f page version p v none is =
    let parts = and_parts (page == p) (version == v) is in
    let one = parts.0 in
    let two = parts.1 in
    let first : page ≡ p = grind (arith, nat_tests) in
    let second : version ≡ v = grind (arith, nat_tests) in
    sym (ap (λ (q : ℕ). f q version) first ∙ ap (λ (w : ℕ). f p w) second) ∙ none

chosen : (b : Bool) (o n : Option Site) (s : Site) → (b ≡ true → o ≡ None) → (b ≡ true → n ≡ None) → or_else (cond b (Some s) o) n ≡ or_else (or_else o n) (pick b (Some s) None)
chosen true None None s far near = refl
chosen true None (Some x) s far near = let bad = near refl in absurd (cc)
chosen true (Some x) n s far near = let bad = far refl in absurd (cc)
chosen false None None s far near = refl
chosen false None (Some x) s far near = refl
chosen false (Some x) n s far near = refl

pub noted_far : (far near : ℕ → ℕ → Option Site) (page version p v : ℕ) (s : Site) → is_some (far page version) ≡ false → near page version ≡ None
    → or_else (cond (page == p && version == v) (Some s) (far p v)) (near p v) ≡ or_else (or_else (far p v) (near p v)) (noted_at page version s p v)
noted_far far near page version p v s none none_near =
    chosen (page == p && version == v) (far p v) (near p v) s (same_entry far page version p v (not_some _ none)) (same_entry near page version p v none_near)

-- one more answer
pub known_step : (p v n : ℕ) (xs ys : List Placed) (seen : Seen) (k w : Known) → Some seen ≡ first_seen xs → ys ≡ after_first xs → w ≡ next_known p v n seen k → known_all p v n ys w ≡ known_all p v n xs k
known_step p v n [] ys seen k w some rest is = absurd (cc)
known_step p v n (x ∷ xs) ys seen k w some rest is =
    let same : seen ≡ seen_of x = cc in
    ap (λ (zs : List Placed). known_all p v n zs w) rest ∙ ap (known_all p v n xs) (is ∙ ap (λ (s : Seen). next_known p v n s k) same)

pub version_step : (xs ys : List Placed) (seen : Seen) → Some seen ≡ first_seen xs → ys ≡ after_first xs → seen.version < 2 ^ 64 → AllByRecursion (λ x. x.entry.version < 2 ^ 64) ys → AllByRecursion (λ x. x.entry.version < 2 ^ 64) xs
version_step [] ys seen some rest fits all = tt
version_step (x ∷ xs) ys seen some rest fits all =
    let same : seen ≡ seen_of x = cc in
    let version = ap (λ (s : Seen). s.version) same in
    (omega arith, subst (AllByRecursion (λ x. x.entry.version < 2 ^ 64)) rest all)

-- one more version
pub next_more : (ranges : ℕ → Option Site) (ss : List Site) (s : Site) (v w : ℕ) → AreNext ranges ss v w → ranges (w + 1) ≡ Some s → AreNext ranges (ss ++ s ∷ []) v (w + 1)
next_more ranges [] s v w next found = (ap (λ (u : ℕ). ranges (u + 1)) next ∙ found, ap (λ (u : ℕ). u + 1) next)
next_more ranges (t ∷ ss) s v w next found = (next.0, next_more ranges ss s (v + 1) w next.1 found)
