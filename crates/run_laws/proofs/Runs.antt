-- What the steps of a script leave.
use Rattle.std.proofs.Common.{◌≡◌, refl, sym, ap, ◌∙◌, ℕ, zero, suc, ◌+◌, ◌<◌, Bool, true, false, List, [], ◌∷◌, ◌++◌, length, nat_eq, slice_set, Ok, Err, arith}
use Rattle.std.specs.Prelude.{Result}
use Rattle.std.specs.List.{list_any}
use Rattle.std.proofs.lemmas.Bool.Decides.{nat_tests}
use Rattle.std.proofs.lemmas.Grind.{get_or-set_at}
use Rattle.std.proofs.lemmas.List.{ext_get_or, get_or-set_other, length-set}
use Rattle.pcl_base.specs.declared.script.Step.{Step}
use Rattle.pcl_base.specs.declared.script.Step.TheVariants.{Read, Write}
use Rattle.run_rules.specs.Words.{pick, same_bytes}
use Rattle.run_rules.specs.Base.{BasePage, Base, page_at, version_at, bytes_at, put_over, put_into}
use Rattle.run_rules.specs.Running.{Difference, worked, writes, raised, raised_from, with_versions}
use Rattle.run_rules.specs.Fresh.{written_over}
use Rattle.run_laws.specs.Laws.{RunGoesOn, AreWritten, WorkIsWritten, RunIsRaised}

-- the base of a run that went well
base_of : Result Base Difference → Base
base_of (Ok base) = base
base_of (Err d) = []

ok_same : {a b : Base} → (let r : Result Base Difference = Ok a in r) ≡ Ok b → a ≡ b
unfolding base_of
ok_same e = ap base_of e

-- a read that went well found its bytes
found : (b : Bool) (ran : Result Base Difference) (d : Difference) (out : Base) → pick b ran (Err d) ≡ Ok out → b ≡ true
found true ran d out e = refl
found false ran d out e = absurd (cc)

picked : (b : Bool) (ran : Result Base Difference) (d : Difference) (out : Base) → pick b ran (Err d) ≡ Ok out → ran ≡ Ok out
picked true ran d out e = e
picked false ran d out e = absurd (cc)

-- a read that found its bytes goes on
pub worked-read : (pages : Base) (k page : ℕ) (bytes : List ℕ) (steps : List Step) → same_bytes bytes (bytes_at pages page) ≡ true
    → worked pages k (Read page bytes ∷ steps) ≡ worked pages (k + 1) steps
unfolding worked
worked-read pages k page bytes steps same =
    ap (λ (b : Bool). pick b (worked pages (k + 1) steps) (Err (record { place = k; expected = bytes_at pages page }))) same

pub worked-append : RunGoesOn
unfolding worked
worked-append [] more pages k work ran =
    ap (λ (b : Base). worked b k more) (ok_same ran) ∙ ap (λ (n : ℕ). worked work n more) (let e : k ≡ k + 0 = omega arith in e)
worked-append (Read page bytes ∷ steps) more pages k work ran =
    let same : same_bytes bytes (bytes_at pages page) ≡ true = found _ _ _ work ran in
    worked-read pages k page bytes (steps ++ more) same
    ∙ worked-append steps more pages (k + 1) work (picked _ _ _ work ran)
    ∙ ap (λ (n : ℕ). worked work n more) (let e : k + 1 + length steps ≡ k + suc (length steps) = omega arith in e)
worked-append (Write page place bytes ∷ steps) more pages k work ran =
    worked-append steps more (put_into pages page place bytes) (k + 1) work ran
    ∙ ap (λ (n : ℕ). worked work n more) (let e : k + 1 + length steps ≡ k + suc (length steps) = omega arith in e)

-- page p once some bytes were put into page q
put_at : (pages : Base) (q place : ℕ) (bytes : List ℕ) (p : ℕ) (b : Bool) → nat_eq q p ≡ b → p < length pages
    → bytes_at (put_into pages q place bytes) p ≡ pick b (put_over place bytes (bytes_at pages p)) (bytes_at pages p)
put_at pages q place bytes p true same h =
    let e : p ≡ q = grind (arith, nat_tests) in
    let at : page_at (put_into pages q place bytes) p ≡ record { version = version_at pages q; bytes = put_over place bytes (bytes_at pages q) }
    = get_or-set_at pages q p _ _ e (omega arith) in
    ap (λ (page : BasePage). page.bytes) at ∙ ap (λ (n : ℕ). put_over place bytes (bytes_at pages n)) (sym e)
put_at pages q place bytes p false other h =
    ap (λ (page : BasePage). page.bytes) (get_or-set_other pages q p _ _ (grind (arith, nat_tests)))

version-put : (pages : Base) (q : ℕ) (bytes : List ℕ) (p : ℕ)
    → version_at (slice_set pages q (record { version = version_at pages q; bytes = bytes })) p ≡ version_at pages p
version-put [] q bytes p = refl
version-put (page ∷ pages) zero bytes zero = refl
version-put (page ∷ pages) zero bytes (suc p) = refl
version-put (page ∷ pages) (suc q) bytes zero = refl
version-put (page ∷ pages) (suc q) bytes (suc p) = version-put pages q bytes p

pub worked-written : WorkIsWritten
unfolding worked written_over
worked-written [] pages k w ran =
    let e : w ≡ pages = sym (ok_same ran) in
    record {
      count = ap length e;
      versions = λ p. ap (λ (b : Base). version_at b p) e;
      bytes = λ p h. ap (λ (b : Base). bytes_at b p) e;
    }
worked-written (Read page bytes ∷ steps) pages k w ran =
    let rest : AreWritten steps pages w = worked-written steps pages (k + 1) w (picked _ _ _ w ran) in
    record { count = rest.count; versions = rest.versions; bytes = rest.bytes }
worked-written (Write page place bytes ∷ steps) pages k w ran =
    let rest : AreWritten steps (put_into pages page place bytes) w = worked-written steps (put_into pages page place bytes) (k + 1) w ran in
    let count : length (put_into pages page place bytes) ≡ length pages = length-set pages page _ in
    record {
      count = rest.count ∙ count;
      versions = λ p. rest.versions p ∙ version-put pages page (put_over place bytes (bytes_at pages page)) p;
      bytes = λ p h.
          let inside : p < length (put_into pages page place bytes) = omega arith in
          rest.bytes p inside ∙ ap (written_over steps p) (put_at pages page place bytes p (nat_eq page p) refl h);
    }

-- page p with its next version
raised_at : (steps : List Step) (k : ℕ) (pages : Base) (p : ℕ) → p < length pages
    → page_at (raised_from steps k pages) p ≡ raised steps (k + p) (page_at pages p)
unfolding raised_from
raised_at steps k [] p h = absurd (omega arith)
raised_at steps k (page ∷ pages) zero h = ap (λ (n : ℕ). raised steps n page) (let e : k ≡ k + 0 = omega arith in e)
raised_at steps k (page ∷ pages) (suc p) h =
    raised_at steps (k + 1) pages p (omega arith)
    ∙ ap (λ (n : ℕ). raised steps n (page_at pages p)) (let e : k + 1 + p ≡ k + suc p = omega arith in e)

length-raised : (steps : List Step) (k : ℕ) (pages : Base) → length (raised_from steps k pages) ≡ length pages
unfolding raised_from
length-raised steps k [] = refl
length-raised steps k (page ∷ pages) = ap suc (length-raised steps (k + 1) pages)

-- one page of the working pages, raised
raised_page : (steps : List Step) (p v : ℕ) (page : BasePage) (bytes : List ℕ) → page.version ≡ v → page.bytes ≡ bytes
    → raised steps p page ≡ record { version = pick (list_any (writes p) steps) (v + 1) v; bytes = bytes }
raised_page steps p v page bytes version same =
    ap (λ (n : ℕ). let q : BasePage = record { version = pick (list_any (writes p) steps) (n + 1) n; bytes = page.bytes } in q) version
    ∙ ap (λ (bs : List ℕ). let q : BasePage = record { version = pick (list_any (writes p) steps) (v + 1) v; bytes = bs } in q) same

pub run-raised : RunIsRaised
run-raised steps pages w out ran count same =
    let written : AreWritten steps pages w = worked-written steps pages 0 w ran in
    let lengths : length (raised_from steps 0 w) ≡ length out = length-raised steps 0 w ∙ written.count ∙ sym count in
    let all : raised_from steps 0 w ≡ out =
    ext_get_or (record { version = 0; bytes = [] }) (raised_from steps 0 w) out lengths
    (λ p h.
    let in_w : p < length w = omega (arith, length-raised steps 0 w) in
    let inside : p < length pages = omega (arith, written.count) in
    raised_at steps 0 w p in_w
    ∙ ap (λ (n : ℕ). raised steps n (page_at w p)) (let e : 0 + p ≡ p = omega arith in e)
    ∙ raised_page steps p (version_at pages p) (page_at w p) (written_over steps p (bytes_at pages p)) (written.versions p) (written.bytes p inside)
    ∙ sym (same p inside)) in
    ap (with_versions steps) ran ∙ ap (λ (b : Base). let r : Result Base Difference = Ok b in r) all
