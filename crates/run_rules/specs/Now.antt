-- What the committed transactions have made of the one copy, at each place of a trace.
use Rattle.std.specs.Prelude.{ℕ, ◌+◌, Bool, List, [], ◌∷◌, ◌++◌}
use Rattle.std.specs.List.{fold}
use Rattle.std.specs.Prelude.{Option, None, Some}
use Rattle.std.specs.Result.{result_ok}
use Rattle.pcl_base.specs.Limits.{Sizes}
use Rattle.pcl_base.specs.declared.script.Step.{Step}
use Rattle.pcl_base.specs.declared.trace.Entry.{Entry}
use Rattle.run_rules.specs.Words.{pick}
use Rattle.run_rules.specs.Base.{Base, first_base}
use Rattle.run_rules.specs.Script.{Moment, Commits, moments_of, moments, script}
use Rattle.run_rules.specs.Running.{run_script}

-- What is known at a place: the moments before it, and the base that the commit points among them
-- have made; none once the script of a commit point had a read that differs.
pub record Story : Type 0 where
  pub seen : List Moment
  pub base : Option Base

-- what is known before the first entry
abbrev pub first_story : Sizes → Story
first_story c = record { seen = []; base = Some (first_base c) }

-- a base, if there is one, after running a script on it
unfoldable pub ran_on : Option Base → List Step → Option Base
ran_on None steps = None
ran_on (Some base) steps = result_ok (run_script base steps)

-- a commit point runs the script of its transaction; nothing else changes the base
abbrev pub base_after : Story → Moment → Option Base
base_after s (Commits tx) = ran_on s.base (script tx s.seen)
base_after s _ = s.base

-- what is known after a moment, and after an entry
unfoldable pub after : Story → Moment → Story
after s m = record { seen = s.seen ++ m ∷ []; base = base_after s m }

abbrev pub after_all : Story → List Moment → Story
after_all s ms = fold after s ms

abbrev pub after_entry : Story → Entry → Story
after_entry s e = after_all s (moments_of e)

-- what is known after a trace
abbrev pub story : Sizes → List Entry → Story
story c trace = after_all (first_story c) (moments trace)

-- Now: the base that the commit points of a trace have made, one after the other
abbrev pub now : Sizes → List Entry → Option Base
now c trace = (story c trace).base

-- the first entry that doesn't pass a test, where s is known before the entries and the first of
-- them has number n
unfoldable pub first_fault : (Story → Entry → Bool) → ℕ → Story → List Entry → Option ℕ
first_fault passes n s [] = None
first_fault passes n s (e ∷ es) = pick (passes s e) (first_fault passes (n + 1) (after_entry s e) es) (Some n)
