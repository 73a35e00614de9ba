-- Versions rise by one a script at most, and one script more is one step of the run.
use Rattle.std.proofs.Common.{◌≡◌, refl, sym, ap, subst, ◌∙◌, ℕ, zero, suc, ◌+◌, ◌-◌, ◌^◌, ◌<◌, ◌≤◌, Bool, true, false, ◌&&◌, nat_lt, List, [], ◌∷◌, slice_set, Ok, Err, replicate, arith}
use Rattle.std.specs.Prelude.{Result}
use Rattle.std.specs.List.{list_all}
use Rattle.std.proofs.lemmas.Bool.Decides.{nat_tests}
use Rattle.pcl_base.specs.Limits.{Sizes}
use Rattle.pcl_base.specs.declared.script.Step.{Step}
use Rattle.pcl_base.specs.declared.script.Step.TheVariants.{Read, Write}
use Rattle.run_rules.specs.Words.{pick, same_bytes}
use Rattle.run_rules.specs.Base.{Base, first_base, version_at, bytes_at, put_over, put_into}
use Rattle.run_rules.specs.Running.{Difference, worked, raised_from, with_versions, run_script, go_on, run_from, is_below_last}
use Rattle.pcl_model.specs.Serial.{AtMost}

-- a write leaves the versions
version-put : (pages : Base) (q : ℕ) (bytes : List ℕ) (p : ℕ)
    → version_at (slice_set pages q (record { version = version_at pages q; bytes = bytes })) p ≡ version_at pages p
version-put [] q bytes p = refl
version-put (page ∷ pages) zero bytes zero = refl
version-put (page ∷ pages) zero bytes (suc p) = refl
version-put (page ∷ pages) (suc q) bytes zero = refl
version-put (page ∷ pages) (suc q) bytes (suc p) = version-put pages q bytes p

-- the base of a run that went well
base_of : Result Base Difference → Base
base_of (Ok base) = base
base_of (Err d) = []

ok_same : {a b : Base} → (let r : Result Base Difference = Ok a in r) ≡ Ok b → a ≡ b
unfolding base_of
ok_same e = ap base_of e

picked : (b : Bool) (ran : Result Base Difference) (d : Difference) (out : Base) → pick b ran (Err d) ≡ Ok out → ran ≡ Ok out
picked true ran d out e = e
picked false ran d out e = absurd (cc)

-- so do all steps
version-worked : (steps : List Step) (pages : Base) (k : ℕ) (out : Base) → worked pages k steps ≡ Ok out
    → (p : ℕ) → version_at out p ≡ version_at pages p
unfolding worked
version-worked [] pages k out ran p = ap (λ (b : Base). version_at b p) (sym (ok_same ran))
version-worked (Read page bytes ∷ steps) pages k out ran p =
    version-worked steps pages (k + 1) out (picked (same_bytes bytes (bytes_at pages page)) _ _ out ran) p
version-worked (Write page place bytes ∷ steps) pages k out ran p =
    version-worked steps (put_into pages page place bytes) (k + 1) out ran p
    ∙ version-put pages page (put_over place bytes (bytes_at pages page)) p

-- a version is raised by one at most
raised_one : (b : Bool) (v : ℕ) → pick b (v + 1) v ≤ v + 1
raised_one true v = omega arith
raised_one false v = omega arith

version-raised : (steps : List Step) (k : ℕ) (pages : Base) (p : ℕ) → version_at (raised_from steps k pages) p ≤ version_at pages p + 1
unfolding raised_from
version-raised steps k [] p = omega arith
version-raised steps k (page ∷ pages) zero = raised_one _ page.version
version-raised steps k (page ∷ pages) (suc p) = version-raised steps (k + 1) pages p

-- the base that was worked on, behind a run that went well
worked_of : (steps : List Step) (ran : Result Base Difference) (out : Base) → with_versions steps ran ≡ Ok out
    → (pages : Base) × (ran ≡ Ok pages) × (raised_from steps 0 pages ≡ out)
worked_of steps (Ok pages) out e = (pages, refl, ok_same e)
worked_of steps (Err d) out e = absurd (cc)

-- no version is above the number of scripts that were run
pub AtMost-run : (k : ℕ) (base : Base) (steps : List Step) (out : Base) → run_script base steps ≡ Ok out → AtMost k base → AtMost (k + 1) out
AtMost-run k base steps out ran most p =
    let w : (pages : Base) × (worked base 0 steps ≡ Ok pages) × (raised_from steps 0 pages ≡ out) = worked_of steps (worked base 0 steps) out ran in
    let same : version_at w.0 p ≡ version_at base p = version-worked steps base 0 w.0 w.1 p in
    let one : version_at (raised_from steps 0 w.0) p ≤ version_at w.0 p + 1 = version-raised steps 0 w.0 p in
    let bound : version_at base p ≤ k = most p in
    subst (λ (b : Base). version_at b p ≤ k + 1) w.2 (omega arith)

version-replicate : (n : ℕ) (bytes : List ℕ) (p : ℕ) → version_at (replicate n (record { version = 0; bytes = bytes })) p ≡ 0
version-replicate zero bytes p = refl
version-replicate (suc n) bytes zero = refl
version-replicate (suc n) bytes (suc p) = version-replicate n bytes p

pub AtMost-first : (c : Sizes) → AtMost 0 (first_base c)
AtMost-first c p = let e : version_at (first_base c) p ≡ 0 = version-replicate c.pages (replicate c.size 0) p in omega arith

both : (a b : Bool) → a ≡ true → b ≡ true → (a && b) ≡ true
both true b h k = k
both false b h k = h

-- so each page may be written once more
pub below-AtMost : (k : ℕ) (base : Base) (steps : List Step) → AtMost k base → k < 2 ^ 64 - 1 → list_all (is_below_last base) steps ≡ true
below-AtMost k base [] most h = refl
below-AtMost k base (Read page bytes ∷ steps) most h = below-AtMost k base steps most h
below-AtMost k base (Write page place bytes ∷ steps) most h =
    let bound : version_at base page ≤ k = most page in
    both (nat_lt (version_at base page) (2 ^ 64 - 1)) (list_all (is_below_last base) steps) (grind (arith, nat_tests)) (below-AtMost k base steps most h)

-- a script that went well, and one that didn't
pub run_from-ok : (k : ℕ) (steps : List Step) (base out : Base) → run_script base steps ≡ Ok out
    → (rest : List (List Step)) → run_from k (steps ∷ rest) base ≡ run_from (k + 1) rest out
unfolding run_from
run_from-ok k steps base out ran rest = ap (λ (r : Result Base Difference). go_on k r (run_from (k + 1) rest)) ran

pub run_from-differs : (k : ℕ) (steps : List Step) (base : Base) (place : ℕ) (expected : List ℕ)
    → run_script base steps ≡ Err (record { place = place; expected = expected })
    → (rest : List (List Step)) → run_from k (steps ∷ rest) base ≡ Err (record { script = k; place = place })
unfolding run_from
run_from-differs k steps base place expected ran rest =
    ap (λ (r : Result Base Difference). go_on k r (run_from (k + 1) rest)) ran
