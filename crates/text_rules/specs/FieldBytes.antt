-- Fields in bytes, read one by one from the left. Numbers are unsigned, the highest byte first.
use Rattle.std.specs.Prelude.{ℕ, zero, suc, ◌&&◌, ◌==◌, Bool, true, false, nat_le, List, [], ◌∷◌, length, take, drop, Result, Ok, Err}
use Rattle.std.specs.Int.{Width, byte_len, from_be_bytes}

infixr 10 ◌>>=◌
-- what is wrong with a field: it isn't whole, its kind or its value isn't allowed, or bytes follow
-- where nothing more may stand
pub data Fault : Type 0 where
  Short : Fault
  BadKind : Fault
  BadField : Fault
  TooLong : Fault

-- the fault, and how many bytes are left where the field begins
pub record Stop : Type 0 where
  pub fault : Fault
  pub left : ℕ

-- reading gives a value and the bytes behind it, or stops at the first fault
abbrev pub Reader : Type 0 → Type 0
Reader X = List ℕ → Result (X × List ℕ) Stop

-- x at true, else y
abbrev pub pick : {X : Type 0} → Bool → X → X → X
pick true x y = x
pick false x y = y

-- a value that takes no bytes
abbrev pub give : {X : Type 0} → X → Reader X
give x bytes = Ok (x, bytes)

-- a stop at the field that begins where these bytes are left
abbrev pub stop : {X : Type 0} → Fault → List ℕ → Result X Stop
stop fault bytes = Err (record { fault = fault; left = length bytes })

-- what follows a field, once that is read
abbrev pub after : {X Y : Type 0} → Result (X × List ℕ) Stop → (X → Reader Y) → Result (Y × List ℕ) Stop
after (Ok p) next = next p.0 p.1
after (Err s) next = Err s

-- one field and then what follows it
abbrev pub ◌>>=◌ : {X Y : Type 0} → Reader X → (X → Reader Y) → Reader Y
(read >>= next) bytes = after (read bytes) next

-- a field as it was read from the bytes, where its value is allowed
abbrev pub judged : {X : Type 0} → Fault → (X → Bool) → List ℕ → Result (X × List ℕ) Stop → Result (X × List ℕ) Stop
judged fault is_allowed bytes (Ok p) = pick (is_allowed p.0) (Ok p) (stop fault bytes)
judged fault is_allowed bytes (Err s) = Err s

-- a field whose value is one of those that are allowed
abbrev pub allowed : {X : Type 0} → Fault → (X → Bool) → Reader X → Reader X
allowed fault is_allowed read bytes = judged fault is_allowed bytes (read bytes)

-- n bytes
abbrev pub piece : ℕ → Reader (List ℕ)
piece n bytes = pick (nat_le n (length bytes)) (Ok (take n bytes, drop n bytes)) (stop Short bytes)

-- a number
abbrev pub number : Width → Reader ℕ
number w = do
  bytes ← piece (byte_len w)
  give (from_be_bytes w bytes)

-- a number within two limits
abbrev pub number_from : ℕ → ℕ → Width → Reader ℕ
number_from low high w = allowed BadField (λ n. nat_le low n && nat_le n high) (number w)

-- a number that isn't below a limit
abbrev pub at_least : ℕ → Width → Reader ℕ
at_least low w = allowed BadField (nat_le low) (number w)

-- n items, one after the other
abbrev pub items : {X : Type 0} → ℕ → Reader X → Reader (List X)
items zero read = give []
items (suc n) read = do
  x ← read
  xs ← items n read
  give (x ∷ xs)

-- the value of bytes that had to be read to their end
abbrev pub whole : {X : Type 0} → Result (X × List ℕ) Stop → Result X Stop
whole (Ok p) = pick (length p.1 == 0) (Ok p.0) (stop TooLong p.1)
whole (Err s) = Err s

-- a value with the bytes behind it
abbrev pub before_rest : {X : Type 0} → List ℕ → Result X Stop → Result (X × List ℕ) Stop
before_rest rest (Ok x) = Ok (x, rest)
before_rest rest (Err s) = Err s

-- what `bytes` are, all of them; no byte behind them is read
abbrev pub within : {X : Type 0} → Reader X → List ℕ → Reader X
within read bytes rest = before_rest rest (whole (read bytes))
