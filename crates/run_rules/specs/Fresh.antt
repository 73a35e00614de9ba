-- Each granted access finds its page as the transactions committed so far and its own earlier
-- writes leave it.
use Rattle.std.specs.Prelude.{◌≡◌, ℕ, Bool, true, ◌==◌, ◌&&◌, List, [], ◌∷◌}
use Rattle.std.specs.Prelude.{Option, None, Some}
use Rattle.pcl_base.specs.Limits.{Sizes}
use Rattle.pcl_base.specs.declared.script.Step.{Step}
use Rattle.pcl_base.specs.declared.script.Step.TheVariants.{Read, Write}
use Rattle.pcl_base.specs.declared.trace.Entry.{Entry}
use Rattle.run_rules.specs.Words.{pick, same_bytes}
use Rattle.run_rules.specs.Base.{Base, version_at, bytes_at, put_over}
use Rattle.run_rules.specs.Script.{Moment, Gets, Writes, moments_of, script}
use Rattle.run_rules.specs.Now.{Story, first_story, after, first_fault}

-- the bytes of page p once the writes of some steps are put over them in order
unfoldable pub written_over : List Step → ℕ → List ℕ → List ℕ
written_over [] p bytes = bytes
written_over (Read page read ∷ steps) p bytes = written_over steps p bytes
written_over (Write page place piece ∷ steps) p bytes =
    written_over steps p (pick (page == p) (put_over place piece bytes) bytes)

-- Whether a granted access has the version of its page, and a read its bytes with the earlier
-- writes of its transaction over them.
abbrev pub is_current : Base → List Moment → Moment → Bool
is_current base seen (Gets tx page version bytes) =
    version == version_at base page
    && same_bytes bytes (written_over (script tx seen) page (bytes_at base page))
is_current base seen (Writes tx page version) = version == version_at base page
is_current base seen _ = true

-- the same where the base is known; where it isn't, nothing is asked
abbrev pub is_current_in : Option Base → List Moment → Moment → Bool
is_current_in None seen m = true
is_current_in (Some base) seen m = is_current base seen m

-- whether each granted access among some moments is current at its place
unfoldable pub all_current : Story → List Moment → Bool
all_current s [] = true
all_current s (m ∷ ms) = is_current_in s.base s.seen m && all_current (after s m) ms

abbrev pub is_fresh : Story → Entry → Bool
is_fresh s e = all_current s (moments_of e)

-- the first entry, counted from 1, with a granted access that isn't current
abbrev pub fresh_fault : Sizes → List Entry → Option ℕ
fresh_fault c trace = first_fault is_fresh 1 (first_story c) trace

-- Fresh: each granted access is current at its place
abbrev pub IsFresh : Sizes → List Entry → Type 0
IsFresh c trace = fresh_fault c trace ≡ None
