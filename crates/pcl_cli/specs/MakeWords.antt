-- The words that ask for a generated schedule.
use Rattle.std.specs.Prelude.{ℕ, ◌+◌, ◌==◌, ◌&&◌, Bool, nat_le, List, [], length, slice_index_or, codes, Option, Some}
use Rattle.std.specs.List.{list_all}
use Rattle.std.specs.Char.{is_ascii_digit}
use Rattle.std.specs.Cmp.Lexicographic.{pointwise}
use Rattle.std.specs.Str.Parse.{digits_value}
use Rattle.pcl_base.specs.Limits.{Sizes, config_of}
use Rattle.text_rules.specs.ReadLine.{◌>>=◌, where_true, value_of, is_numeral}

-- a schedule that is asked for: its configuration, its seed, and its lines behind the header
pub record Job : Type 0 where
  pub sizes : Sizes
  pub seed : ℕ
  pub lines : ℕ

-- one to ten digits, the first of them a 0 only where it is the only one
abbrev pub is_plain : List ℕ → Bool
is_plain word = list_all is_ascii_digit word && is_numeral word

-- the number that a word writes, within two limits
abbrev pub number_of_word : ℕ → ℕ → List ℕ → Option ℕ
number_of_word low high word =
    where_true (is_plain word && (nat_le low (digits_value 10 word) && nat_le (digits_value 10 word) high)) (digits_value 10 word)

-- the word at a place
abbrev pub word_at : List (List ℕ) → ℕ → List ℕ
word_at words place = slice_index_or words place []

-- whether the words are seven and the first of them is `make`
abbrev pub is_make : List (List ℕ) → Bool
is_make words = length words == 7 && pointwise ◌==◌ (word_at words 0) (codes "make")

-- the configuration that the four words from a place on write
abbrev pub sizes_at : List (List ℕ) → ℕ → Option Sizes
sizes_at words place = do
  nodes ← number_of_word 0 65536 (word_at words place)
  pages ← number_of_word 0 65536 (word_at words (place + 1))
  size ← number_of_word 0 65536 (word_at words (place + 2))
  frames ← number_of_word 0 65536 (word_at words (place + 3))
  value_of (config_of nodes pages size frames)

-- the numbers behind the word `make`: the last four are a configuration
abbrev pub numbers_of : List (List ℕ) → Option Job
numbers_of words = do
  seed ← number_of_word 0 65535 (word_at words 1)
  lines ← number_of_word 1 199999 (word_at words 2)
  sizes ← sizes_at words 3
  Some (record { sizes = sizes; seed = seed; lines = lines })

-- the schedule that the words ask for, where they are this form
abbrev pub job_of : List (List ℕ) → Option Job
job_of words = do
  form ← where_true (is_make words) words
  numbers_of form
