-- Text that is held back before it is written.
use Rattle.std.specs.Prelude.{◌⊎◌, ℕ, List, ◌++◌, Option, Result, Ok, Err}
use Rattle.std.specs.Io.KnownBytes.{Appends, append_known}
use Rattle.replay_rules.specs.Outcome.{AppendsPart}
use Rattle.replay.specs.declared.ends.Fault.{Fault}
use Rattle.replay.specs.ReaderView.{ReaderView}
use Rattle.replay.specs.Wrote.{Went, Broke}

-- something was appended
abbrev pub Grew : Option (List ℕ) → Option (List ℕ) → Type 0
Grew a b = (more : List ℕ) × Appends a b more

-- what one has appended the other has
abbrev pub HasSame : Option (List ℕ) → Option (List ℕ) → Type 0
HasSame b c = (a : Option (List ℕ)) (text : List ℕ) → Appends a b text → Appends a c text

-- A text was put behind what was held back: some of both was written and the rest is held back; or a beginning of both
-- was written, and then there was a fault.
abbrev pub Stored : {X : Type 0} → Option (List ℕ) → List ℕ → List ℕ → Option (List ℕ) → List ℕ → Result X Fault → Type 0
Stored a held text b held' (Ok x) = Grew a b × HasSame (append_known a (held ++ text)) (append_known b held')
Stored a held text b held' (Err fault) = AppendsPart a b (held ++ text)

-- What became of some bytes while a text is held back.
abbrev pub Held : ReaderView → List ℕ → Option (List ℕ) → List ℕ → Option (List ℕ) → List ℕ → Result (Option ℕ) Fault → ReaderView → Type 0
Held v bytes a held b held' (Ok status) w = Grew a b × Went v bytes (append_known a held) (append_known b held') status w
Held v bytes a held b held' (Err fault) w = AppendsPart a b held ⊎ Broke v bytes (append_known a held) b

-- The same where nothing was held back before.
abbrev pub HeldAll : ReaderView → List ℕ → Option (List ℕ) → Option (List ℕ) → List ℕ → Result (Option ℕ) Fault → ReaderView → Type 0
HeldAll v bytes a b held' (Ok status) w = Grew a b × Went v bytes a (append_known b held') status w
HeldAll v bytes a b held' (Err fault) w = Broke v bytes a b
