-- Worked inputs: the bytes that are read, the text that is due to them, and the status.
use Rattle.std.specs.Prelude.{◌≡◌, ℕ, Bool, true, false, List, [], ◌∷◌, ◌++◌}
use Rattle.replay_rules.specs.Due.{Place, Told, due}
use Rattle.replay_rules.specs.Due.Place.{Stopped}

pub record Row : Type 0 where
  pub input : List ℕ
  pub output : List ℕ
  pub status : ℕ

-- lines as bytes, each with its newline
abbrev pub text : List (List ℕ) → List ℕ
text [] = []
text (l ∷ ls) = l ++ 10 ∷ text ls

-- what is seen of the program: its text, and how it ended
abbrev pub seen : Told → List ℕ × Place
seen told = (told.text, told.place)

-- the text and the status are due to the input, of `replay` and of `summary`
abbrev pub IsDue : Bool → Row → Type 0
IsDue totals r = seen (due totals r.input) ≡ (r.output, Stopped r.status)

abbrev pub Replays : Row → Type 0
Replays r = IsDue false r

abbrev pub Sums : Row → Type 0
Sums r = IsDue true r
