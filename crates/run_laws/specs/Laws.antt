-- Laws of scripts and of running them.
use Rattle.std.specs.Prelude.{◌≡◌, ℕ, ◌+◌, ◌<◌, List, [], ◌∷◌, ◌++◌, length, Option, None, Ok}
use Rattle.std.specs.List.{fold, list_any}
use Rattle.pcl_base.specs.declared.tx.TxId.{TxId}
use Rattle.pcl_base.specs.declared.script.Step.{Step}
use Rattle.run_rules.specs.Words.{pick}
use Rattle.run_rules.specs.Base.{BasePage, Base, page_at, version_at, bytes_at}
use Rattle.run_rules.specs.Script.{Moment, last_write, steps_at, script}
use Rattle.run_rules.specs.Running.{worked, run_script, writes}
use Rattle.run_rules.specs.Fresh.{written_over}

-- the write that t asked for last in some moments
abbrev pub pending : TxId → List Moment → Option (ℕ × List ℕ)
pending t ms = fold (last_write t) None ms

abbrev pub ScriptGrows : Type 0
ScriptGrows = (t : TxId) (ms : List Moment) (m : Moment) → script t (ms ++ m ∷ []) ≡ script t ms ++ steps_at t (pending t ms) m

abbrev pub RunGoesOn : Type 0
RunGoesOn =
    (steps more : List Step) (pages : Base) (k : ℕ) (work : Base) → worked pages k steps ≡ Ok work
    → worked pages k (steps ++ more) ≡ worked work (k + length steps) more

-- the working pages w of some steps over pages: as many, of the same versions, each with the
-- writes of the steps put over it
pub record AreWritten (steps : List Step) (pages w : Base) : Type 0 where
  pub count : length w ≡ length pages
  pub versions : (p : ℕ) → version_at w p ≡ version_at pages p
  pub bytes : (p : ℕ) → p < length pages → bytes_at w p ≡ written_over steps p (bytes_at pages p)

abbrev pub WorkIsWritten : Type 0
WorkIsWritten = (steps : List Step) (pages : Base) (k : ℕ) (w : Base) → worked pages k steps ≡ Ok w → AreWritten steps pages w

-- page p once the steps have been run
abbrev pub page_after : List Step → Base → ℕ → BasePage
page_after steps pages p =
    record {
      version = pick (list_any (writes p) steps) (version_at pages p + 1) (version_at pages p);
      bytes = written_over steps p (bytes_at pages p);
    }

abbrev pub RunIsRaised : Type 0
RunIsRaised =
    (steps : List Step) (pages w out : Base) → worked pages 0 steps ≡ Ok w → length out ≡ length pages
    → ((p : ℕ) → p < length pages → page_at out p ≡ page_after steps pages p) → run_script pages steps ≡ Ok out
