-- Which words are a form, and what is written where they are none.
use Rattle.std.specs.Prelude.{◌≡◌, ℕ, ◌≤◌, ◌==◌, ◌⊎◌, Bool, true, false, List, [], ◌∷◌, ◌++◌, codes, Option, Some, None}
use Rattle.std.specs.Cmp.Lexicographic.{pointwise}
use Rattle.std.specs.Io.KnownBytes.{Appends}
use Rattle.pcl_base.specs.Faults.{Rose}
use Rattle.replay_rules.specs.Outcome.{AppendsPart}

-- x at true, else y
abbrev pub pick : {X : Type 0} → Bool → X → X → X
pick true x y = x
pick false x y = y

-- whether the word asks for the totals of a run, or for its trace, or for neither
abbrev pub totals_of_word : List ℕ → Option Bool
totals_of_word word =
    pick (pointwise ◌==◌ word (codes "replay")) (Some false)
    (pick (pointwise ◌==◌ word (codes "summary")) (Some true) None)

-- the same of words: `replay` or `summary` alone
abbrev pub totals_of : List (List ℕ) → Option Bool
totals_of [] = None
totals_of (word ∷ []) = totals_of_word word
totals_of (word ∷ other ∷ words) = None

abbrev pub usage_line : List ℕ
usage_line =
    codes "usage: replay | summary | make SEED LINES NODES PAGES SIZE FRAMES | node NODE NODES PAGES SIZE FRAMES" ++ 10 ∷ []

-- the usage line was written and the status is 2, or the sink failed
pub record IsRefused (written written' : Option (List ℕ)) (sink sink' status : ℕ) : Type 0 where
  pub later : sink ≤ sink'
  pub told : (status ≡ 2 × Appends written written' usage_line) ⊎ (status ≡ 5 × Rose sink sink' × AppendsPart written written' usage_line)
