-- A step over the cells is that step over the pages that they show.
use Rattle.std.proofs.Common.{◌≡◌, refl, sym, ap, subst, ◌∙◌, ℕ, zero, suc, ◌+◌, ◌-◌, ◌^◌, ◌<◌, Bool, true, false, ◌||◌, ◌&&◌, nat_lt, List, [], ◌∷◌, length, nat_eq, slice_index_or, slice_set, Ok, Err, None, Some, is_some, replicate, arith}
use Rattle.std.specs.Prelude.{Result, Option}
use Rattle.std.specs.List.{list_any, list_all}
use Rattle.std.specs.Global.{Vec}
use Rattle.std.proofs.lemmas.Bool.Decides.{nat_tests}
use Rattle.std.proofs.lemmas.Grind.{get_or-set_at}
use Rattle.std.proofs.lemmas.List.{get_or-map, map-set, get_or-set_other}
use Rattle.std.proofs.Math.Seq.{map-set_same}
use Rattle.pcl_base.specs.Limits.{Sizes}
use Rattle.pcl_base.specs.declared.script.Step.{Step}
use Rattle.pcl_base.specs.declared.script.Step.TheVariants.{Read, Write}
use Rattle.pcl_model.specs.declared.cell.Cell.{Cell}
use Rattle.run_rules.specs.Words.{pick, same_bytes}
use Rattle.run_rules.specs.Base.{BasePage, Base, first_base, page_at, version_at, put_over, put_into}
use Rattle.run_rules.specs.Running.{Difference, worked, writes, raised_from, with_versions, run_script, step_fits, is_below_last}
use Rattle.pcl_model.specs.Cells.{new_cell, cell_at, bytes_or, kept, kept_page, kept_bytes, working, work_page, work_bytes, next, next_page, is_worked, IsIdle, IsWorkOf, IsWorkUpTo, MayRise, writes_within}
use Rattle.pcl_model.specs.declared.fault.ApplyFault.{ApplyFault}
use Rattle.pcl_model.specs.declared.fault.ApplyFault.TheVariants.{Differs, NoMemory}
use Rattle.pcl_model.specs.Faults.{IsNamed}

-- the page that a cell shows
pub page-working : (zeros : List ℕ) (cells : List Cell) (p : ℕ) (d : Cell) → p < length cells
    → page_at (working zeros cells) p ≡ work_page zeros (slice_index_or cells p d)
page-working zeros cells p d h = get_or-map (work_page zeros) cells p d (record { version = 0; bytes = [] }) h

-- the two ways that a read goes
read_at : (pages : Base) (k p : ℕ) (bytes : List ℕ) (page : BasePage) (rest : List Step) (b : Bool)
    → page_at pages p ≡ page → same_bytes bytes page.bytes ≡ b
    → worked pages k (Read p bytes ∷ rest) ≡ pick b (worked pages (k + 1) rest) (Err (record { place = k; expected = page.bytes }))
unfolding worked
read_at pages k p bytes page rest b at same =
    ap (λ (q : BasePage). pick (same_bytes bytes q.bytes) (worked pages (k + 1) rest) (Err (record { place = k; expected = q.bytes }))) at
    ∙ ap (λ (t : Bool). pick t (worked pages (k + 1) rest) (Err (record { place = k; expected = page.bytes }))) same

-- a read of the bytes that a cell shows goes on
pub worked-same : (zeros : List ℕ) (cells : List Cell) (k p : ℕ) (d : Cell) (bytes : List ℕ) → p < length cells
    → same_bytes bytes (work_bytes zeros (slice_index_or cells p d)) ≡ true
    → (rest : List Step) → worked (working zeros cells) k (Read p bytes ∷ rest) ≡ worked (working zeros cells) (k + 1) rest
worked-same zeros cells k p d bytes h same rest =
    read_at (working zeros cells) k p bytes (work_page zeros (slice_index_or cells p d)) rest true (page-working zeros cells p d h) same

-- a read of others is the difference
pub worked-differs : (zeros : List ℕ) (cells : List Cell) (k p : ℕ) (d : Cell) (bytes : List ℕ) → p < length cells
    → same_bytes bytes (work_bytes zeros (slice_index_or cells p d)) ≡ false
    → (rest : List Step) → worked (working zeros cells) k (Read p bytes ∷ rest)
    ≡ Err (record { place = k; expected = work_bytes zeros (slice_index_or cells p d) })
worked-differs zeros cells k p d bytes h same rest =
    read_at (working zeros cells) k p bytes (work_page zeros (slice_index_or cells p d)) rest false (page-working zeros cells p d h) same

-- two pages with one version and the same bytes
page-same : {v w : ℕ} {xs ys : List ℕ} → v ≡ w → xs ≡ ys
    → (let a : BasePage = record { version = v; bytes = xs } in a) ≡ record { version = w; bytes = ys }
page-same e f = cc

-- a write into a cell is that write into the page that it shows
pub put-working : (zeros : List ℕ) (cells : List Cell) (p : ℕ) (d : Cell) (place : ℕ) (piece : List ℕ) (new : Cell) → p < length cells
    → kept_page zeros new ≡ kept_page zeros (slice_index_or cells p d)
    → work_bytes zeros new ≡ put_over place piece (work_bytes zeros (slice_index_or cells p d))
    → put_into (working zeros cells) p place piece ≡ working zeros (slice_set cells p new)
put-working zeros cells p d place piece new h kept bytes =
    ap (λ (q : BasePage). slice_set (working zeros cells) p (record { version = q.version; bytes = put_over place piece q.bytes })) (page-working zeros cells p d h)
    ∙ ap (λ (q : BasePage). slice_set (working zeros cells) p q) (page-same (sym (ap (λ (q : BasePage). q.version) kept)) (sym bytes))
    ∙ sym (map-set (work_page zeros) cells p new)

-- a write goes on with the page that it leaves
pub worked-write : (zeros : List ℕ) (cells : List Cell) (k p : ℕ) (d : Cell) (place : ℕ) (piece : List ℕ) (new : Cell) → p < length cells
    → kept_page zeros new ≡ kept_page zeros (slice_index_or cells p d)
    → work_bytes zeros new ≡ put_over place piece (work_bytes zeros (slice_index_or cells p d))
    → (rest : List Step) → worked (working zeros cells) k (Write p place piece ∷ rest) ≡ worked (working zeros (slice_set cells p new)) (k + 1) rest
unfolding worked
worked-write zeros cells k p d place piece new h kept bytes rest =
    ap (λ (b : Base). worked b (k + 1) rest) (put-working zeros cells p d place piece new h kept bytes)

-- the pages between scripts stay where that of the cell stays
pub kept-set : (zeros : List ℕ) (cells : List Cell) (p : ℕ) (d new : Cell)
    → kept_page zeros new ≡ kept_page zeros (slice_index_or cells p d)
    → kept zeros (slice_set cells p new) ≡ kept zeros cells
kept-set zeros cells p d new same = map-set_same (kept_page zeros) cells p new d same

-- the cell at a place once that at p is another
at-set : (cells : List Cell) (p : ℕ) (new : Cell) (q : ℕ) (b : Bool) → nat_eq p q ≡ b → p < length cells
    → cell_at (slice_set cells p new) q ≡ pick b new (cell_at cells q)
at-set cells p new q true same h = grind (arith, nat_tests, get_or-set_at)
at-set cells p new q false other h = grind (arith, nat_tests, get_or-set_other)

none_of : (w : Option (Vec ℕ)) → is_some w ≡ false → w ≡ None
none_of None e = refl
none_of (Some v) e = absurd (cc)

not_true : (b : Bool) → (b ≡ true → false ≡ true) → b ≡ false
not_true true h = sym (h refl)
not_true false h = refl

or_assoc : (a b c : Bool) → (a || (b || c)) ≡ ((a || b) || c)
or_assoc true b c = refl
or_assoc false b c = refl

-- a cell that is taken back is none that the rest of the steps must write
work_left : (rest : List Step) (cells : List Cell) (p : ℕ) (new : Cell) (q : ℕ) (b : Bool) → nat_eq p q ≡ b → p < length cells
    → new.work ≡ None → (is_worked cells q ≡ true → (b || list_any (writes q) rest) ≡ true)
    → is_worked (slice_set cells p new) q ≡ true → list_any (writes q) rest ≡ true
work_left rest cells p new q true same h idle within worked =
    let none : is_worked (slice_set cells p new) q ≡ false = ap (λ (c : Cell). is_some c.work) (at-set cells p new q true same h) ∙ ap is_some idle in
    absurd (cc)
work_left rest cells p new q false other h idle within worked =
    within (sym (ap (λ (c : Cell). is_some c.work) (at-set cells p new q false other h)) ∙ worked)

pub IsWorkOf-write : (rest : List Step) (cells : List Cell) (p place : ℕ) (piece : List ℕ) (new : Cell) → p < length cells
    → new.work ≡ None → IsWorkOf (Write p place piece ∷ rest) cells → IsWorkOf rest (slice_set cells p new)
IsWorkOf-write rest cells p place piece new h idle within q worked =
    work_left rest cells p new q (nat_eq p q) refl h idle (within q) worked

rise_left : (cells : List Cell) (p : ℕ) (new : Cell) (q : ℕ) (b : Bool) → nat_eq p q ≡ b → p < length cells → new.work ≡ None
    → MayRise cells → is_worked (slice_set cells p new) q ≡ true → (cell_at (slice_set cells p new) q).version < 2 ^ 64 - 1
rise_left cells p new q true same h idle rise worked =
    let none : is_worked (slice_set cells p new) q ≡ false = ap (λ (c : Cell). is_some c.work) (at-set cells p new q true same h) ∙ ap is_some idle in
    absurd (cc)
rise_left cells p new q false other h idle rise worked =
    let e : cell_at (slice_set cells p new) q ≡ cell_at cells q = at-set cells p new q false other h in
    subst (λ (c : Cell). c.version < 2 ^ 64 - 1) (sym e) (rise q (sym (ap (λ (c : Cell). is_some c.work) e) ∙ worked))

-- the pages that may rise, once one cell is taken back
pub MayRise-set : (cells : List Cell) (p : ℕ) (new : Cell) → p < length cells → new.work ≡ None → MayRise cells → MayRise (slice_set cells p new)
MayRise-set cells p new h idle rise q worked = rise_left cells p new q (nat_eq p q) refl h idle rise worked

-- where the script has not written, the commit leaves the page
pub next-idle : (zeros : List ℕ) (c : Cell) → c.work ≡ None → next_page zeros c ≡ kept_page zeros c
next-idle zeros c idle =
    ap (λ (w : Option (Vec ℕ)). let page : BasePage = record { version = pick (is_some w) (c.version + 1) c.version; bytes = bytes_or w (kept_bytes zeros c) } in page) idle

pub next-set : (zeros : List ℕ) (cells : List Cell) (p : ℕ) (d new : Cell) → new.work ≡ None
    → kept_page zeros new ≡ next_page zeros (slice_index_or cells p d)
    → next zeros (slice_set cells p new) ≡ next zeros cells
next-set zeros cells p d new idle same = map-set_same (next_page zeros) cells p new d (next-idle zeros new idle ∙ same)

-- nothing is left to be written
pub IsIdle-all : (cells : List Cell) → IsWorkOf [] cells → IsIdle cells
IsIdle-all cells within p = not_true (is_worked cells p) (within p)

pub kept-next : (zeros : List ℕ) (cells : List Cell) → IsIdle cells → kept zeros cells ≡ next zeros cells
kept-next zeros [] idle = refl
kept-next zeros (c ∷ cells) idle =
    ap (λ (q : BasePage). q ∷ kept zeros cells) (sym (next-idle zeros c (none_of c.work (idle 0))))
    ∙ ap (λ (qs : Base). next_page zeros c ∷ qs) (kept-next zeros cells (λ p. idle (suc p)))

-- the pages that all steps write, before the first and after one more
pub IsWorkUpTo-idle : (steps : List Step) (cells : List Cell) → IsIdle cells → IsWorkUpTo steps steps cells
IsWorkUpTo-idle steps cells idle p = sym (ap (λ (b : Bool). b || list_any (writes p) steps) (idle p))

pub IsWorkUpTo-step : (all rest : List Step) (step : Step) (old new : List Cell) → IsWorkUpTo all (step ∷ rest) old
    → ((p : ℕ) → is_worked new p ≡ (is_worked old p || writes p step)) → IsWorkUpTo all rest new
IsWorkUpTo-step all rest step old new upto written p =
    upto p ∙ or_assoc (is_worked old p) (writes p step) (list_any (writes p) rest)
    ∙ ap (λ (b : Bool). b || list_any (writes p) rest) (sym (written p))

pub IsWorkOf-upto : (all rest : List Step) (cells : List Cell) → IsWorkUpTo all rest cells → IsWorkOf all cells
IsWorkOf-upto all rest cells upto p worked = upto p ∙ ap (λ (b : Bool). b || list_any (writes p) rest) worked

work-idle : (zeros : List ℕ) (c : Cell) → c.work ≡ None → work_page zeros c ≡ kept_page zeros c
work-idle zeros c idle =
    ap (λ (w : Option (Vec ℕ)). let page : BasePage = record { version = c.version; bytes = bytes_or w (kept_bytes zeros c) } in page) idle

first_true : (a b : Bool) → (a && b) ≡ true → a ≡ true
first_true true b h = refl
first_true false b h = h

second_true : (a b : Bool) → (a && b) ≡ true → b ≡ true
second_true true b h = h
second_true false b h = absurd (cc)

and_true : (a b : Bool) → a ≡ true → b ≡ true → (a && b) ≡ true
and_true true b h k = k
and_true false b h k = h

or_false : (b : Bool) → (b || false) ≡ b
or_false true = refl
or_false false = refl

-- without work the pages that the script works on are those between scripts
pub kept-working : (zeros : List ℕ) (cells : List Cell) → IsIdle cells → kept zeros cells ≡ working zeros cells
kept-working zeros [] idle = refl
kept-working zeros (c ∷ cells) idle =
    ap (λ (q : BasePage). q ∷ kept zeros cells) (sym (work-idle zeros c (none_of c.work (idle 0))))
    ∙ ap (λ (qs : Base). work_page zeros c ∷ qs) (kept-working zeros cells (λ p. idle (suc p)))

-- the version of a page is that of its cell
version-kept : (zeros : List ℕ) (cells : List Cell) (p : ℕ) → version_at (kept zeros cells) p ≡ (cell_at cells p).version
version-kept zeros [] p = refl
version-kept zeros (c ∷ cells) zero = refl
version-kept zeros (c ∷ cells) (suc p) = version-kept zeros cells p

-- a page that some step writes is below the last version
written_below : (base : Base) (page p : ℕ) (rest : List Step) (b : Bool) → nat_eq page p ≡ b
    → nat_lt (version_at base page) (2 ^ 64 - 1) ≡ true → (b || list_any (writes p) rest) ≡ true
    → (list_any (writes p) rest ≡ true → version_at base p < 2 ^ 64 - 1) → version_at base p < 2 ^ 64 - 1
written_below base page p rest true same below written later =
    let e : page ≡ p = grind (arith, nat_tests) in
    subst (λ (q : ℕ). version_at base q < 2 ^ 64 - 1) e (grind (arith, nat_tests))
written_below base page p rest false same below written later = later written

pub below_of : (base : Base) (steps : List Step) (p : ℕ) → list_all (is_below_last base) steps ≡ true
    → list_any (writes p) steps ≡ true → version_at base p < 2 ^ 64 - 1
below_of base [] p below written = absurd (cc)
below_of base (Read page bytes ∷ steps) p below written = below_of base steps p below written
below_of base (Write page place bytes ∷ steps) p below written =
    written_below base page p steps (nat_eq page p) refl (first_true _ _ below) written (below_of base steps p (second_true _ _ below))

-- what a script has written may rise
pub MayRise-of : (zeros : List ℕ) (old cells : List Cell) (steps : List Step) → list_all (is_below_last (kept zeros old)) steps ≡ true
    → kept zeros cells ≡ kept zeros old → IsWorkOf steps cells → MayRise cells
MayRise-of zeros old cells steps below same within p worked =
    let e : version_at (kept zeros old) p ≡ (cell_at cells p).version
    = ap (λ (b : Base). version_at b p) (sym same) ∙ version-kept zeros cells p in
    subst (λ (v : ℕ). v < 2 ^ 64 - 1) e (below_of (kept zeros old) steps p below (within p worked))

-- steps that fit write pages that are there
pub within-fits : (pages size : ℕ) (steps : List Step) → list_all (step_fits pages size) steps ≡ true → list_all (writes_within pages) steps ≡ true
within-fits pages size [] fits = refl
within-fits pages size (Read page bytes ∷ steps) fits = within-fits pages size steps (second_true _ _ fits)
within-fits pages size (Write page place bytes ∷ steps) fits =
    and_true (nat_lt page pages) _ (first_true _ _ (first_true _ _ fits)) (within-fits pages size steps (second_true _ _ fits))

-- the pages that were worked on, with their next versions
raised-next : (zeros : List ℕ) (steps : List Step) (k : ℕ) (cells : List Cell)
    → ((p : ℕ) → list_any (writes (k + p)) steps ≡ (is_worked cells p || false))
    → raised_from steps k (working zeros cells) ≡ next zeros cells
unfolding raised_from
raised-next zeros steps k [] written = refl
raised-next zeros steps k (c ∷ cells) written =
    let here : list_any (writes k) steps ≡ is_some c.work
    = ap (λ (n : ℕ). list_any (writes n) steps) (let e : k ≡ k + 0 = omega arith in e) ∙ written 0 ∙ or_false (is_some c.work) in
    ap (λ (b : Bool). let page : BasePage = record { version = pick b (c.version + 1) c.version; bytes = work_bytes zeros c } in page ∷ raised_from steps (k + 1) (working zeros cells)) here
    ∙ ap (λ (qs : Base). next_page zeros c ∷ qs)
    (raised-next zeros steps (k + 1) cells (λ p. ap (λ (n : ℕ). list_any (writes n) steps) (let e : k + 1 + p ≡ k + suc p = omega arith in e) ∙ written (suc p)))

-- a run that was worked through and kept
pub run-kept : (zeros : List ℕ) (steps : List Step) (old worked_on cells : List Cell) → IsIdle old
    → worked (working zeros old) 0 steps ≡ Ok (working zeros worked_on) → IsWorkUpTo steps [] worked_on
    → kept zeros cells ≡ next zeros worked_on → run_script (kept zeros old) steps ≡ Ok (kept zeros cells)
run-kept zeros steps old worked_on cells idle ran upto same =
    ap (λ (b : Base). run_script b steps) (kept-working zeros old idle)
    ∙ ap (with_versions steps) ran
    ∙ ap (λ (b : Base). let r : Result Base Difference = Ok b in r)
    (raised-next zeros steps 0 worked_on (λ p. ap (λ (n : ℕ). list_any (writes n) steps) (let e : 0 + p ≡ p = omega arith in e) ∙ upto p) ∙ sym same)

-- the fault of the work is that of the run
pub run-named : (zeros : List ℕ) (steps : List Step) (old : List Cell) (f : ApplyFault) → IsIdle old
    → IsNamed f (worked (working zeros old) 0 steps) → IsNamed f (run_script (kept zeros old) steps)
run-named zeros steps old (Differs place expected) idle named =
    ap (λ (b : Base). run_script b steps) (kept-working zeros old idle) ∙ ap (with_versions steps) named
run-named zeros steps old NoMemory idle named = tt

kept-replicate : (zeros : List ℕ) (n : ℕ) → kept zeros (replicate n new_cell) ≡ replicate n (record { version = 0; bytes = zeros })
kept-replicate zeros zero = refl
kept-replicate zeros (suc n) = ap (λ (qs : Base). kept_page zeros new_cell ∷ qs) (kept-replicate zeros n)

-- cells of pages never written hold the first base
pub kept-first : (c : Sizes) (zeros : List ℕ) (cells : List Cell) (n : ℕ) → zeros ≡ replicate c.size 0 → cells ≡ replicate n new_cell
    → n ≡ c.pages → kept zeros cells ≡ first_base c
kept-first c zeros cells n zeros_are cells_are pages =
    ap (kept zeros) cells_are ∙ kept-replicate zeros n
    ∙ ap (λ (k : ℕ). replicate k (let page : BasePage = record { version = 0; bytes = zeros } in page)) pages
    ∙ ap (λ (bytes : List ℕ). replicate c.pages (let page : BasePage = record { version = 0; bytes = bytes } in page)) zeros_are
