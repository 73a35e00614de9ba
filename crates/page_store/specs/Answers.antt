-- What reading a stored page answers.
use Rattle.std.specs.Prelude.{◌≡◌, ◌≢◌, ℕ, List, Result, Ok, Err, ⊤}
use Rattle.text_rules.specs.StoredPage.{PageAt, BadNumber}
use Rattle.page_store.specs.declared.fault.PageFault.{PageFault}
use Rattle.page_store.specs.declared.fault.PageFault.TheVariants.{Failed, BadPage}

-- the version and the bytes are those of the stored page, or its numbers are named
abbrev pub AnswersPage : Result ℕ PageFault → List ℕ → Result PageAt BadNumber → Type 0
AnswersPage (Ok version) bytes stored = stored ≡ Ok (record { version = version; bytes = bytes })
AnswersPage (Err Failed) bytes stored = ⊤
AnswersPage (Err (BadPage expected found)) bytes stored = stored ≡ Err (record { expected = expected; found = found })

-- a page that is named bad has another number than it must
abbrev pub NamesOther : Result ℕ PageFault → ℕ → Type 0
NamesOther (Ok version) must = ⊤
NamesOther (Err Failed) must = ⊤
NamesOther (Err (BadPage expected found)) must = (expected ≡ must) × (found ≢ must)
