-- Lines to compute the grammar on.
use Rattle.std.specs.Prelude.{ℕ, List, [], ◌∷◌, codes}
use Rattle.text_rules.specs.BadLine.{Why, Byte, Short}

-- a line, the column at which it is bad, and why
pub record Judged : Type 0 where
  pub line : List ℕ
  pub column : ℕ
  pub why : Why

abbrev pub at : List ℕ → ℕ → Why → Judged
at line column why = record { line = line; column = column; why = why }

-- lines of events
abbrev pub good_lines : List (List ℕ)
good_lines =
    codes "begin 0"
    ∷ codes "read 0.1.4294967295 1"
    ∷ codes "write 0.1.1 0 0 -"
    ∷ codes "abort 15.1.10"
    ∷ codes "deliver 3 15"
    ∷ codes "evict 0 65535"
    ∷ codes "view 01 0,1"
    ∷ codes "view 0000000000000000 0"
    ∷ codes "view 1 0,0,0,0,0,0,0,0,0,0,0,0,0,0,0,15"
    ∷ codes "install 10"
    ∷ codes "reopen"
    ∷ codes "arm 0 1 0"
    ∷ codes "cut 1"
    ∷ []

-- lines of events that are bad
abbrev pub bad_lines : List Judged
bad_lines =
    at (codes "begin 16") 8 Byte
    ∷ at (codes "begin 00") 8 Byte
    ∷ at (codes "begin") 6 Short
    ∷ at (codes "begin 0 ") 8 Byte
    ∷ at (codes "beg") 4 Short
    ∷ at (codes "") 1 Short
    ∷ at (codes "x") 1 Byte
    ∷ at (codes "read 0.1.1 65536") 16 Byte
    ∷ at (codes "read 0.1.1") 11 Short
    ∷ at (codes "read 0.1.1 01") 13 Byte
    ∷ at (codes "read 0.0.1 1") 8 Byte
    ∷ at (codes "read 0.1.4294967296 1") 19 Byte
    ∷ at (codes "write 0.1.1 0 0 abc") 20 Short
    ∷ at (codes "write 0.1.1 0 0 -a") 18 Byte
    ∷ at (codes "write 0.1.1 0 0 aB") 18 Byte
    ∷ at (codes "write 0.1.1 0 4096 00") 18 Byte
    ∷ at (codes "write 0.1.1 0 0 ") 17 Short
    ∷ at (codes "commit 0.1.1.") 13 Byte
    ∷ at (codes "deliver 0 16") 12 Byte
    ∷ at (codes "flush 1 70000") 13 Byte
    ∷ at (codes "crash 7x") 8 Byte
    ∷ at (codes "view 012 0") 8 Byte
    ∷ at (codes "view 00000000000000000 0") 22 Byte
    ∷ at (codes "view 1 0,0,0,0,0,0,0,0,0,0,0,0,0,0,0,15,") 40 Byte
    ∷ at (codes "view 1 0,") 10 Short
    ∷ at (codes "view 1 ,") 8 Byte
    ∷ at (codes "view 1 0,16") 11 Byte
    ∷ at (codes "reopen ") 7 Byte
    ∷ at (codes "arm 0 0 1") 7 Byte
    ∷ at (codes "arm 0 1 4294967296") 18 Byte
    ∷ at (codes "cut") 4 Short
    ∷ []
