-- A script that goes well page by page goes well.
use Rattle.std.proofs.Common.{◌≡◌, refl, sym, ap, subst, ◌∙◌, ℕ, zero, suc, ◌+◌, ◌<◌, ◌≤◌, ◌==◌, ◌||◌, nat_lt, cond, Bool, true, false, List, [], ◌∷◌, length, take, drop, Ok, arith, append_assoc}
use Rattle.std.specs.List.{list_any}
use Rattle.std.specs.Cmp.Lexicographic.{bytes_decides}
use Rattle.std.proofs.lemmas.Bool.Decides.{nat_tests}
use Rattle.std.proofs.lemmas.Grind.{get_or-set_at}
use Rattle.std.proofs.lemmas.List.{get_or-set_other, length-set}
use Rattle.pcl_base.specs.declared.script.Step.{Step}
use Rattle.pcl_base.specs.declared.script.Step.TheVariants as step
use Rattle.run_rules.specs.Base.{Base, BasePage, page_at, version_at, bytes_at, put_over, put_into}
use Rattle.run_rules.specs.Fresh.{written_over}
use Rattle.run_rules.specs.Running.{worked, run_script, writes}
use Rattle.run_rules.specs.Words.{pick}
use Rattle.run_laws.specs.Laws.{page_after}
use Rattle.run_laws.proofs.Runs.{worked-read, run-raised}
use Rattle.page_protocol.specs.Bytes.{Copy, Access, Read, Write, Leaves, put, version_after}
use Rattle.page_protocol.specs.Bytes as machine
use Rattle.page_laws.specs.Moment.Looks.{accesses_of}
use Rattle.page_laws.specs.Moment.Commit.{WritesAreLeft}

put_same : (place : ℕ) (piece bytes : List ℕ) → put_over place piece bytes ≡ put place piece bytes
put_same place piece bytes = append_assoc (take place bytes) piece (drop (place + length piece) bytes)

pub writes_are_left_law : WritesAreLeft
unfolding accesses_of written_over
writes_are_left_law [] p old new left = left
writes_are_left_law (step.Read q bytes ∷ steps) p old new left = by (q == p) left (writes_are_left_law steps p old new)
  where
    by : (b : Bool) → Leaves (pick b (Read bytes ∷ accesses_of p steps) (accesses_of p steps)) old new → (Leaves (accesses_of p steps) old new → written_over steps p old ≡ new) → written_over steps p old ≡ new
    by true l go = go l.1
    by false l go = go l
writes_are_left_law (step.Write q place piece ∷ steps) p old new left = by (q == p) left (λ x. writes_are_left_law steps p x new)
  where
    by : (b : Bool) → Leaves (pick b (Write place piece ∷ accesses_of p steps) (accesses_of p steps)) old new
        → ((x : List ℕ) → Leaves (accesses_of p steps) x new → written_over steps p x ≡ new) → written_over steps p (pick b (put_over place piece old) old) ≡ new
    by true l go = ap (written_over steps p) (put_same place piece old) ∙ go (put place piece old) l
    by false l go = go old l

-- whether a script writes a page
pub writes_same : (steps : List Step) (p : ℕ) → list_any (writes p) steps ≡ machine.writes (accesses_of p steps)
unfolding accesses_of
writes_same [] p = refl
writes_same (step.Read q bytes ∷ steps) p = writes_same steps p ∙ by (q == p)
  where
    by : (b : Bool) → machine.writes (accesses_of p steps) ≡ machine.writes (pick b (Read bytes ∷ accesses_of p steps) (accesses_of p steps))
    by true = refl
    by false = refl
writes_same (step.Write q place piece ∷ steps) p = by (q == p) (writes_same steps p)
  where
    by : (b : Bool) → list_any (writes p) steps ≡ machine.writes (accesses_of p steps) → (b || list_any (writes p) steps) ≡ machine.writes (pick b (Write place piece ∷ accesses_of p steps) (accesses_of p steps))
    by true ih = refl
    by false ih = ih

-- ---- the steps go well

abbrev pub GoesWell : List Step → Base → (ℕ → List ℕ) → Type 0
GoesWell steps base left = (p : ℕ) → p < length base → Leaves (accesses_of p steps) (bytes_at base p) (left p)

abbrev pub StaysWithin : List Step → Base → Type 0
StaysWithin steps base = (p : ℕ) → length base ≤ p → accesses_of p steps ≡ []

own_page : (q : ℕ) → (q == q) ≡ true
own_page q = grind (arith, nat_tests)

-- the page of a first step is one of the base
inside : (a : Access) (q : ℕ) (steps : List Step) (s : Step) (base : Base) → accesses_of q (s ∷ steps) ≡ a ∷ accesses_of q steps → StaysWithin (s ∷ steps) base → q < length base
inside a q steps s base first within = by (nat_lt q (length base)) refl
  where
    by : (b : Bool) → nat_lt q (length base) ≡ b → q < length base
    by true e = grind (arith, nat_tests)
    by false e = let none : a ∷ accesses_of q steps ≡ [] = sym first ∙ within q (grind (arith, nat_tests)) in absurd (cc)

first_read : (q p : ℕ) (bytes : List ℕ) (steps : List Step) (b : Bool) → (q == p) ≡ b → accesses_of p (step.Read q bytes ∷ steps) ≡ pick b (Read bytes ∷ accesses_of p steps) (accesses_of p steps)
unfolding accesses_of
first_read q p bytes steps b e = ap (λ x. pick x (Read bytes ∷ accesses_of p steps) (accesses_of p steps)) e

first_write : (q place p : ℕ) (bytes : List ℕ) (steps : List Step) (b : Bool) → (q == p) ≡ b
    → accesses_of p (step.Write q place bytes ∷ steps) ≡ pick b (Write place bytes ∷ accesses_of p steps) (accesses_of p steps)
unfolding accesses_of
first_write q place p bytes steps b e = ap (λ x. pick x (Write place bytes ∷ accesses_of p steps) (accesses_of p steps)) e

rest_within : (a : Access) (b : Bool) (xs : List Access) → pick b (a ∷ xs) xs ≡ [] → xs ≡ []
rest_within a true xs e = absurd (cc)
rest_within a false xs e = e

pub goes_well : (steps : List Step) (base : Base) (left : ℕ → List ℕ) (k : ℕ) → GoesWell steps base left → StaysWithin steps base → (w : Base) × (worked base k steps ≡ Ok w)
unfolding worked
goes_well [] base left k well within = (base, refl)
goes_well (step.Read q bytes ∷ steps) base left k well within =
    let low : q < length base = inside (Read bytes) q steps (step.Read q bytes) base (first_read q q bytes steps true (own_page q)) within in
    let own : Leaves (Read bytes ∷ accesses_of q steps) (bytes_at base q) (left q) = subst (λ xs. Leaves xs (bytes_at base q) (left q)) (first_read q q bytes steps true (own_page q)) (well q low) in
    let rest = goes_well steps base left (k + 1) (λ p inside. less p (q == p) refl (well p inside)) (λ p past. rest_within (Read bytes) (q == p) (accesses_of p steps) (sym (first_read q p bytes steps (q == p) refl) ∙ within p past)) in
    (rest.0, worked-read base k q bytes steps ((bytes_decides bytes (bytes_at base q)).1 own.0) ∙ rest.1)
  where
    less : (p : ℕ) (b : Bool) → (q == p) ≡ b → Leaves (accesses_of p (step.Read q bytes ∷ steps)) (bytes_at base p) (left p) → Leaves (accesses_of p steps) (bytes_at base p) (left p)
    less p true e l = (subst (λ xs. Leaves xs (bytes_at base p) (left p)) (first_read q p bytes steps true e) l).1
    less p false e l = subst (λ xs. Leaves xs (bytes_at base p) (left p)) (first_read q p bytes steps false e) l
goes_well (step.Write q place piece ∷ steps) base left k well within =
    let low : q < length base = inside (Write place piece) q steps (step.Write q place piece) base (first_write q place q piece steps true (own_page q)) within in
    let count : length (put_into base q place piece) ≡ length base = length-set base q _ in
    goes_well steps (put_into base q place piece) left (k + 1) (λ p inside. less low p (q == p) refl (well p (omega (arith, inside, count))))
    (λ p past. rest_within (Write place piece) (q == p) (accesses_of p steps) (sym (first_write q place p piece steps (q == p) refl) ∙ within p (omega (arith, past, count))))
  where
    page_there : (p : ℕ) → (q == p) ≡ false → bytes_at (put_into base q place piece) p ≡ bytes_at base p
    page_there p e = ap (λ (x : BasePage). x.bytes) (get_or-set_other base q p _ _ (λ same. absurd (grind (arith, nat_tests))))

    page_here : q < length base → (p : ℕ) → (q == p) ≡ true → bytes_at (put_into base q place piece) p ≡ put place piece (bytes_at base p)
    page_here low p e =
        let same : p ≡ q = grind (arith, nat_tests) in
        let at : page_at (put_into base q place piece) p ≡ record { version = version_at base q; bytes = put_over place piece (bytes_at base q) } = get_or-set_at base q p _ _ same low in
        ap (λ (x : BasePage). x.bytes) at ∙ put_same place piece (bytes_at base q) ∙ ap (λ n. put place piece (bytes_at base n)) (sym same)

    less : q < length base → (p : ℕ) (b : Bool) → (q == p) ≡ b → Leaves (accesses_of p (step.Write q place piece ∷ steps)) (bytes_at base p) (left p)
        → Leaves (accesses_of p steps) (bytes_at (put_into base q place piece) p) (left p)
    less low p true e l =
        subst (λ bytes. Leaves (accesses_of p steps) bytes (left p)) (sym (page_here low p e)) (subst (λ xs. Leaves xs (bytes_at base p) (left p)) (first_write q place p piece steps true e) l)
    less low p false e l =
        subst (λ bytes. Leaves (accesses_of p steps) bytes (left p)) (sym (page_there p e)) (subst (λ xs. Leaves xs (bytes_at base p) (left p)) (first_write q place p piece steps false e) l)

-- ---- the base that they leave

-- each page as the steps leave it
pub left_from : List Step → ℕ → Base → Base
left_from steps k [] = []
left_from steps k (page ∷ pages) =
    record { version = pick (list_any (writes k) steps) (page.version + 1) page.version; bytes = written_over steps k page.bytes } ∷ left_from steps (k + 1) pages

left_length : (steps : List Step) (k : ℕ) (base : Base) → length (left_from steps k base) ≡ length base
unfolding left_from
left_length steps k [] = refl
left_length steps k (page ∷ pages) = ap suc (left_length steps (k + 1) pages)

abbrev left_at : List Step → ℕ → BasePage → BasePage
left_at steps p page = record { version = pick (list_any (writes p) steps) (page.version + 1) page.version; bytes = written_over steps p page.bytes }

left_page : (steps : List Step) (k : ℕ) (base : Base) (p : ℕ) → p < length base → page_at (left_from steps k base) p ≡ left_at steps (k + p) (page_at base p)
unfolding left_from
left_page steps k [] p low = absurd (omega (arith, low))
left_page steps k (page ∷ pages) zero low = ap (λ n. left_at steps n page) (let e : k ≡ k + 0 = omega arith in e)
left_page steps k (page ∷ pages) (suc p) low =
    left_page steps (k + 1) pages p (omega (arith, low)) ∙ ap (λ n. left_at steps n (page_at pages p)) (let e : k + 1 + p ≡ k + suc p = omega arith in e)

first_left : (steps : List Step) (base : Base) (p : ℕ) → p < length base → page_at (left_from steps 0 base) p ≡ page_after steps base p
first_left steps base p low = left_page steps 0 base p low ∙ ap (λ n. left_at steps n (page_at base p)) (let e : 0 + p ≡ p = omega arith in e)

-- running the script leaves it
pub runs_well : (steps : List Step) (base : Base) (left : ℕ → List ℕ) → GoesWell steps base left → StaysWithin steps base → run_script base steps ≡ Ok (left_from steps 0 base)
runs_well steps base left well within =
    let w = goes_well steps base left 0 well within in
    run-raised steps base w.0 (left_from steps 0 base) w.1 (left_length steps 0 base) (first_left steps base)

pub runs_length : (steps : List Step) (base : Base) → length (left_from steps 0 base) ≡ length base
runs_length steps base = left_length steps 0 base

-- its pages
pub runs_page : (steps : List Step) (base : Base) (left : ℕ → List ℕ) (p version : ℕ) (bytes : List ℕ) → GoesWell steps base left → p < length base → page_at base p ≡ record { version = version; bytes = bytes }
    → page_at (left_from steps 0 base) p ≡ record { version = version_after (accesses_of p steps) version; bytes = left p }
runs_page steps base left p version bytes well low was =
    first_left steps base p low
    ∙ ap (λ b. let x : BasePage = record { version = pick b (version_at base p + 1) (version_at base p); bytes = written_over steps p (bytes_at base p) } in x) (writes_same steps p)
    ∙ ap (λ v. let x : BasePage = record { version = pick (machine.writes (accesses_of p steps)) (v + 1) v; bytes = written_over steps p (bytes_at base p) } in x) (ap (λ (x : BasePage). x.version) was)
    ∙ ap (λ v. let x : BasePage = record { version = v; bytes = written_over steps p (bytes_at base p) } in x) (by (machine.writes (accesses_of p steps)))
    ∙ ap (λ bs. let x : BasePage = record { version = version_after (accesses_of p steps) version; bytes = bs } in x) (writes_are_left_law steps p (bytes_at base p) (left p) (well p low))
  where
    by : (b : Bool) → pick b (version + 1) version ≡ cond b (suc version) version
    by true = let e : version + 1 ≡ suc version = omega arith in e
    by false = refl
