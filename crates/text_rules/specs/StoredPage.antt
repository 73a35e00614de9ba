-- A stored page: its number plus one, its version, and its bytes.
use Rattle.std.specs.Prelude.{ℕ, ◌+◌, ◌-◌, ◌==◌, List, ◌++◌, length, take, drop, replicate, Result, Ok, Err}
use Rattle.std.specs.Int.{w64, to_be_bytes, from_be_bytes}
use Rattle.text_rules.specs.FieldBytes.{pick}

-- the version and the bytes of a page
pub record PageAt : Type 0 where
  pub version : ℕ
  pub bytes : List ℕ

-- a stored page whose first number is wrong: the one that should stand there, and the one that does
pub record BadNumber : Type 0 where
  pub expected : ℕ
  pub found : ℕ

-- the bytes of a stored page
abbrev pub stored_bytes : ℕ → PageAt → List ℕ
stored_bytes page p = to_be_bytes w64 (page + 1) ++ to_be_bytes w64 p.version ++ p.bytes

-- the number at the front of a stored page
abbrev pub first_number : List ℕ → ℕ
first_number raw = from_be_bytes w64 (take 8 raw)

-- a page that was never written: version 0 with zero bytes, whatever else stands there
abbrev pub unwritten : List ℕ → PageAt
unwritten raw = record { version = 0; bytes = replicate (length raw - 16) 0 }

-- a page that was written
abbrev pub written : List ℕ → PageAt
written raw = record { version = from_be_bytes w64 (take 8 (drop 8 raw)); bytes = drop 16 raw }

-- what the bytes of a stored page say
abbrev pub stored_page : ℕ → List ℕ → Result PageAt BadNumber
stored_page page raw =
    pick (first_number raw == 0) (Ok (unwritten raw))
    (pick (first_number raw == page + 1) (Ok (written raw))
    (Err (record { expected = page + 1; found = first_number raw })))
