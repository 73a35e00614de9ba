-- What a run leaves of the input and of the output, by its status.
use Rattle.std.specs.Prelude.{◌≡◌, ℕ, ◌==◌, ◌||◌, ◌⊎◌, Bool, List, ◌++◌, Option, IsTrue}
use Rattle.std.specs.Io.KnownBytes.{Appends, Consumes, IsAtEnd}
use Rattle.pcl_base.specs.Faults.{Rose}
use Rattle.replay_rules.specs.Due.{Reading, Told, first_place, read_from, due}
use Rattle.replay_rules.specs.Due.Place.{Going, Stopped}

-- the statuses that a line decides, and those that the bytes of an input decide
abbrev pub is_stop : ℕ → Bool
is_stop status = status == 3 || status == 7

abbrev pub is_judged : ℕ → Bool
is_judged status = status == 0 || is_stop status

-- what the bytes that were taken give, with no regard to an end of the input
abbrev pub so_far : Bool → List ℕ → Told
so_far totals taken = read_from totals first_place taken

-- reading is over: a line of the bytes that were taken has decided, or nothing is left of the input
abbrev pub IsOver : Bool → List ℕ → Option (List ℕ) → ℕ → Type 0
IsOver totals taken left status = ((so_far totals taken).place ≡ Stopped status) ⊎ IsAtEnd left

-- no line of the bytes that were taken has decided
abbrev pub GoesOn : Bool → List ℕ → Type 0
GoesOn totals taken = (r : Reading) × ((so_far totals taken).place ≡ Going r)

-- a beginning of the text was appended
abbrev pub AppendsPart : Option (List ℕ) → Option (List ℕ) → List ℕ → Type 0
AppendsPart old new text = (part : List ℕ) × (rest : List ℕ) × (text ≡ part ++ rest) × Appends old new part

-- a run that is decided: reading is over, and its status and its whole text are due to the bytes taken
pub record IsJudged (totals : Bool) (taken : List ℕ) (left written written' : Option (List ℕ)) (status : ℕ) : Type 0 where
  pub place : (due totals taken).place ≡ Stopped status
  pub text : Appends written written' (due totals taken).text
  pub over : IsOver totals taken left status

-- a run in which the source failed: it did so before a line decided, and the text of the lines that
-- were read whole is written
pub record IsUnread (totals : Bool) (taken : List ℕ) (source source' : ℕ) (written written' : Option (List ℕ)) : Type 0 where
  pub rose : Rose source source'
  pub first : GoesOn totals taken
  pub text : Appends written written' (so_far totals taken).text

-- a beginning is written of what the bytes taken give, and of the last lines only at the end of the input
abbrev pub WritesPart : Bool → List ℕ → Option (List ℕ) → Option (List ℕ) → Option (List ℕ) → Type 0
WritesPart totals taken left written written' =
    AppendsPart written written' (so_far totals taken).text
    ⊎ (IsAtEnd left × AppendsPart written written' (due totals taken).text)

-- The outcome of a run, of which `taken` are the bytes that the source gave, and `totals` tells whether
-- the totals are written in place of the trace. 0, 3 and 7 are due to these bytes, and their whole text
-- is written; 4 comes only where the source failed, 5 only where the sink failed, and 9 is want of
-- memory; at 5 and at 9 a beginning of the text is written. No other status comes.
pub record Outcome (totals : Bool) (left left' written written' : Option (List ℕ)) (source source' sink sink' status : ℕ) : Type 0 where
  pub taken : List ℕ
  pub consumed : Consumes left left' taken
  pub known : IsTrue (is_judged status || (status == 4 || (status == 5 || status == 9)))
  pub judged : IsTrue (is_judged status) → IsJudged totals taken left' written written' status
  pub failed_source : status ≡ 4 → IsUnread totals taken source source' written written'
  pub failed_sink : status ≡ 5 → Rose sink sink'
  pub part : (status ≡ 5) ⊎ (status ≡ 9) → WritesPart totals taken left' written written'
