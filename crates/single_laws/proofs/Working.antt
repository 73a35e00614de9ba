-- The open transaction at work: its steps so far go well over the base, and leave each page as the
-- transaction sees it.
use Rattle.std.proofs.Common.{◌≡◌, refl, sym, ap, subst, ◌∙◌, ℕ, zero, suc, ◌+◌, ◌<◌, ◌≤◌, ◌==◌, Bool, true, false, ◌||◌, List, [], ◌∷◌, ◌++◌, length, None, Some, is_some, Ok, arith}
use Rattle.std.specs.Prelude.{Option}
use Rattle.std.specs.List.{list_any}
use Rattle.std.proofs.lemmas.List.Folds.{list_any-append}
use Rattle.std.specs.Cmp.Lexicographic.{bytes_decides}
use Rattle.pcl_base.specs.declared.script.Step.{Step}
use Rattle.pcl_base.specs.declared.script.Step.TheVariants.{Read, Write}
use Rattle.run_rules.specs.Words.{pick, same_bytes}
use Rattle.run_rules.specs.Base.{BasePage, Base, page_at, bytes_at, put_over, put_into}
use Rattle.run_rules.specs.Running.{worked, run_script, writes}
use Rattle.run_rules.specs.Fresh.{written_over}
use Rattle.run_laws.specs.Laws.{AreWritten}
use Rattle.run_laws.proofs.Runs.{worked-append, worked-read, worked-written, run-raised}
use Rattle.node_rules.specs.AccessRule.{bytes_or}
use Rattle.home_laws.proofs.Tests.{number_equal}

-- the written pages of a transaction, each as it left it
abbrev pub Look : Type 0
Look = ℕ → Option (List ℕ)

-- the steps go well, and leave each page as the transaction sees it
pub record Working (steps : List Step) (base : Base) (look : Look) : Type 0 where
  pub work : Base
  pub ran : worked base 0 steps ≡ Ok work
  pub over : (p : ℕ) → written_over steps p (bytes_at base p) ≡ bytes_or (look p) (bytes_at base p)
  pub which : (p : ℕ) → list_any (writes p) steps ≡ is_some (look p)

written_over-append : (steps more : List Step) (p : ℕ) (bytes : List ℕ) → written_over (steps ++ more) p bytes ≡ written_over more p (written_over steps p bytes)
unfolding written_over
written_over-append [] more p bytes = refl
written_over-append (Read page read ∷ steps) more p bytes = written_over-append steps more p bytes
written_over-append (Write page place piece ∷ steps) more p bytes = written_over-append steps more p _

or_false : (b : Bool) → (b || false) ≡ b
or_false true = refl
or_false false = refl

pub same_test : (xs ys : List ℕ) → xs ≡ ys → same_bytes xs ys ≡ true
same_test xs ys e = (bytes_decides xs ys).1 e

-- no steps
pub nothing : (base : Base) (look : Look) → ((p : ℕ) → look p ≡ None) → Working [] base look
unfolding worked written_over
nothing base look none = record { work = base; ran = refl; over = λ p. sym (ap (λ o. bytes_or o (bytes_at base p)) (none p)); which = λ p. sym (ap is_some (none p)) }

-- the same pages seen otherwise
pub seen_same : (steps : List Step) (base : Base) (look new : Look) → ((p : ℕ) → new p ≡ look p) → Working steps base look → Working steps base new
seen_same steps base look new same w =
    record {
      work = w.work;
      ran = w.ran;
      over = λ p. w.over p ∙ sym (ap (λ o. bytes_or o (bytes_at base p)) (same p));
      which = λ p. w.which p ∙ sym (ap is_some (same p));
    }

one_read : (work : Base) (k p : ℕ) (bytes : List ℕ) → same_bytes bytes (bytes_at work p) ≡ true → worked work k (Read p bytes ∷ []) ≡ Ok work
unfolding worked
one_read work k p bytes same = worked-read work k p bytes [] same

one_write : (work : Base) (k p place : ℕ) (piece : List ℕ) → worked work k (Write p place piece ∷ []) ≡ Ok (put_into work p place piece)
unfolding worked
one_write work k p place piece = refl

over_read : (p q : ℕ) (read bytes : List ℕ) → written_over (Read p read ∷ []) q bytes ≡ bytes
unfolding written_over
over_read p q read bytes = refl

over_write : (p place q : ℕ) (piece bytes : List ℕ) → written_over (Write p place piece ∷ []) q bytes ≡ pick (p == q) (put_over place piece bytes) bytes
unfolding written_over
over_write p place q piece bytes = refl

-- a read of what is seen
pub reads : (steps : List Step) (base : Base) (look : Look) (p : ℕ) (bytes : List ℕ) → Working steps base look
    → p < length base → bytes ≡ bytes_or (look p) (bytes_at base p) → Working (steps ++ Read p bytes ∷ []) base look
reads steps base look p bytes w h same =
    let written : AreWritten steps base w.work = worked-written steps base 0 w.work w.ran in
    record {
      work = w.work;
      ran = worked-append steps (Read p bytes ∷ []) base 0 w.work w.ran
          ∙ one_read w.work (0 + length steps) p bytes (same_test bytes (bytes_at w.work p) (same ∙ sym (w.over p) ∙ sym (written.bytes p h)));
      over = λ q. written_over-append steps (Read p bytes ∷ []) q (bytes_at base q) ∙ over_read p q bytes _ ∙ w.over q;
      which = λ q. list_any-append (writes q) steps (Read p bytes ∷ []) ∙ or_false _ ∙ w.which q;
    }

-- a page of which the bytes of a write are seen, and the others as before
pub record Puts (base : Base) (look new : Look) (p place : ℕ) (piece : List ℕ) : Type 0 where
  pub here : new p ≡ Some (put_over place piece (bytes_or (look p) (bytes_at base p)))
  pub there : (q : ℕ) → (p == q) ≡ false → new q ≡ look q

-- a write
pub writes_more : (steps : List Step) (base : Base) (look new : Look) (p place : ℕ) (piece : List ℕ) → Working steps base look
    → Puts base look new p place piece → Working (steps ++ Write p place piece ∷ []) base new
writes_more steps base look new p place piece w puts =
    record {
      work = put_into w.work p place piece;
      ran = worked-append steps (Write p place piece ∷ []) base 0 w.work w.ran ∙ one_write w.work (0 + length steps) p place piece;
      over = λ q. written_over-append steps (Write p place piece ∷ []) q (bytes_at base q) ∙ over_write p place q piece _
          ∙ ap (λ (bytes : List ℕ). pick (p == q) (put_over place piece bytes) bytes) (w.over q)
          ∙ over_case q (p == q) refl;
      which = λ q. list_any-append (writes q) steps (Write p place piece ∷ []) ∙ ap (λ b. b || (p == q || false)) (w.which q) ∙ which_case q (p == q) refl;
    }
  where
    same : (q : ℕ) → (p == q) ≡ true → p ≡ q
    same q e = number_equal p q e

    over_case : (q : ℕ) (b : Bool) → (p == q) ≡ b
        → pick b (put_over place piece (bytes_or (look q) (bytes_at base q))) (bytes_or (look q) (bytes_at base q)) ≡ bytes_or (new q) (bytes_at base q)
    over_case q true e =
        subst (λ n. put_over place piece (bytes_or (look n) (bytes_at base n)) ≡ bytes_or (new n) (bytes_at base n)) (same q e)
        (sym (ap (λ o. bytes_or o (bytes_at base p)) puts.here))
    over_case q false e = sym (ap (λ o. bytes_or o (bytes_at base q)) (puts.there q e))

    some_or : (b : Bool) → (b || true) ≡ true
    some_or true = refl
    some_or false = refl

    which_case : (q : ℕ) (b : Bool) → (p == q) ≡ b → (is_some (look q) || (b || false)) ≡ is_some (new q)
    which_case q true e = some_or (is_some (look q)) ∙ sym (subst (λ n. is_some (new n) ≡ true) (same q e) (ap is_some puts.here))
    which_case q false e = or_false (is_some (look q)) ∙ sym (ap is_some (puts.there q e))

-- a page once the transaction has committed
abbrev pub after_look : Option (List ℕ) → BasePage → BasePage
after_look None page = page
after_look (Some bytes) page = record { version = page.version + 1; bytes = bytes }

-- the base once the transaction has committed, from page k on
pub next_from : Look → ℕ → Base → Base
next_from look k [] = []
next_from look k (page ∷ pages) = after_look (look k) page ∷ next_from look (k + 1) pages

pub next_length : (look : Look) (k : ℕ) (base : Base) → length (next_from look k base) ≡ length base
unfolding next_from
next_length look k [] = refl
next_length look k (page ∷ pages) = ap suc (next_length look (k + 1) pages)

next_at : (look : Look) (k : ℕ) (base : Base) (p : ℕ) → p < length base → page_at (next_from look k base) p ≡ after_look (look (k + p)) (page_at base p)
unfolding next_from
next_at look k [] p h = absurd (omega arith)
next_at look k (page ∷ pages) zero h = ap (λ n. after_look (look n) page) (let e : k ≡ k + 0 = omega arith in e)
next_at look k (page ∷ pages) (suc p) h =
    next_at look (k + 1) pages p (omega arith) ∙ ap (λ n. after_look (look n) (page_at pages p)) (let e : k + 1 + p ≡ k + suc p = omega arith in e)

-- nothing stands past its end
pub next_past : (look : Look) (k : ℕ) (base : Base) (p : ℕ) → length base ≤ p → page_at (next_from look k base) p ≡ page_at base p
unfolding next_from
next_past look k [] p h = refl
next_past look k (page ∷ pages) zero h = absurd (omega arith)
next_past look k (page ∷ pages) (suc p) h = next_past look (k + 1) pages p (omega arith)

-- the whole base
abbrev pub next_base : Look → Base → Base
next_base look base = next_from look 0 base

pub next_page : (look : Look) (base : Base) (p : ℕ) → p < length base → page_at (next_base look base) p ≡ after_look (look p) (page_at base p)
next_page look base p h = next_at look 0 base p h ∙ ap (λ n. after_look (look n) (page_at base p)) (let e : 0 + p ≡ p = omega arith in e)

abbrev page_with : Bool → BasePage → List ℕ → BasePage
page_with b page bytes = record { version = pick b (page.version + 1) page.version; bytes = bytes }

page_raised : (o : Option (List ℕ)) (page : BasePage) (b : Bool) (bytes : List ℕ) → b ≡ is_some o → bytes ≡ bytes_or o page.bytes
    → after_look o page ≡ record { version = pick b (page.version + 1) page.version; bytes = bytes }
page_raised None page b bytes e f = sym (ap (λ (x : Bool). page_with x page bytes) e ∙ ap (page_with false page) f)
page_raised (Some x) page b bytes e f = sym (ap (λ (x : Bool). page_with x page bytes) e ∙ ap (page_with true page) f)

-- the script runs to it
pub ran_to : (steps : List Step) (base : Base) (look : Look) → Working steps base look → run_script base steps ≡ Ok (next_base look base)
ran_to steps base look w =
    run-raised steps base w.work (next_base look base) w.ran (next_length look 0 base)
    (λ p h. next_page look base p h ∙ page_raised (look p) (page_at base p) (list_any (writes p) steps) (written_over steps p (bytes_at base p)) (w.which p) (w.over p))
