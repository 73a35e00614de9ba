-- The length that may be cut of a log, page by page of its whole records.
use Rattle.std.specs.Prelude.{◌≡◌, ◌≢◌, ℕ, ◌+◌, nat_le, Bool, true, false, List, [], ◌∷◌, Result, Ok, Err, ⊤}
use Rattle.pcl_base.specs.declared.trace.Call.TheVariants as call
use Rattle.page_store.specs.declared.fault.RedoFault.{RedoFault}
use Rattle.page_store.specs.declared.fault.RedoFault.TheVariants.{Failed, BadPage, NoMemory}
use Rattle.node_rules.specs.Work.{Outcome, Goes, Differs, and_then, read_page}
use Rattle.redo_log.specs.Placed.{Placed}

-- it goes on where the disk has the page
abbrev pub cut_if : Bool → ℕ → Outcome ℕ → Outcome ℕ
cut_if true whole further = further
cut_if false whole further = Goes whole

-- a page at a version, where so much is whole before it
abbrev pub cut_step : List (List ℕ) → ℕ → ℕ → ℕ → Outcome ℕ → Outcome ℕ
cut_step pages page version whole further =
    and_then (read_page pages page) (λ at. cut_if (nat_le version at.version) whole further)

-- the length that may be cut, where so much is whole before some changed pages
unfoldable pub cut_from : List (List ℕ) → ℕ → List Placed → Outcome ℕ
cut_from pages whole [] = Goes whole
cut_from pages whole (x ∷ xs) = cut_step pages x.entry.page x.entry.version whole (cut_from pages x.whole xs)

-- what is answered of it: the length, or the first page with a wrong number
abbrev pub AnswersCut : Outcome ℕ → Result ℕ RedoFault → Type 0
AnswersCut o (Ok n) = o ≡ Goes n
AnswersCut o (Err (Failed k)) = ⊤
AnswersCut o (Err (BadPage page expected found)) = o ≡ Differs page expected found
AnswersCut o (Err NoMemory) = ⊤

-- what is answered of one page
abbrev pub AnswersStep : List (List ℕ) → ℕ → ℕ → Result Bool RedoFault → Type 0
AnswersStep pages page version (Ok is) = (whole : ℕ) (further : Outcome ℕ) → cut_step pages page version whole further ≡ cut_if is whole further
AnswersStep pages page version (Err (Failed k)) = ⊤
AnswersStep pages page version (Err (BadPage p expected found)) = (whole : ℕ) (further : Outcome ℕ) → cut_step pages page version whole further ≡ Differs p expected found
AnswersStep pages page version (Err NoMemory) = ⊤

-- a page or the log couldn't be read, or a page has another number than it must have; it is no want of
-- memory
abbrev pub IsCutFault : RedoFault → Type 0
IsCutFault (Failed call.Read) = ⊤
IsCutFault (Failed call.Log) = ⊤
IsCutFault (Failed k) = ⊥
IsCutFault (BadPage page expected found) = (expected ≡ page + 1) × (found ≢ expected)
IsCutFault NoMemory = ⊥
