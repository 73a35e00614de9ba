-- A log as its first record and a log behind it.
use Rattle.std.proofs.Common.{◌≡◌, refl, ap, ◌∙◌, ℕ, zero, suc, ◌+◌, ◌<◌, ◌≤◌, List, [], ◌∷◌, length, None, Result, Ok, Err, arith}
use Rattle.pcl_base.specs.Limits.{Sizes}
use Rattle.pcl_base.specs.declared.log.Record.{Record}
use Rattle.text_rules.specs.FieldBytes.{Stop}
use Rattle.text_rules.specs.LogRecord.{Log, before, log_at, log_up_to, log_of, records_of, whole_len, record_field, record_bytes}
use Rattle.redo_log.specs.Walks.{rest_of}
use Rattle.redo_log.proofs.LengthLemmas.{record_long}

-- the number of steps doesn't matter where it is at least the number of bytes
steps : (c : Sizes) (n m : ℕ) (bytes : List ℕ) → length bytes ≤ n → length bytes ≤ m → log_up_to c n bytes ≡ log_up_to c m bytes
steps c zero zero bytes p q = refl
steps c zero (suc m) [] p q = refl
steps c zero (suc m) (x ∷ bytes) p q = absurd (omega arith)
steps c (suc n) zero [] p q = refl
steps c (suc n) zero (x ∷ bytes) p q = absurd (omega arith)
steps c (suc n) (suc m) bytes p q = one (steps c n m) (record_field c bytes) refl
  where
    one : ((rest : List ℕ) → length rest ≤ n → length rest ≤ m → log_up_to c n rest ≡ log_up_to c m rest) → (r : Result (Record × List ℕ) Stop) → record_field c bytes ≡ r → log_at bytes (log_up_to c n) r ≡ log_at bytes (log_up_to c m) r
    one further (Err s) e = refl
    one further (Ok x) e =
        let long = record_long c bytes x.0 x.1 e in
        ap (before x.0) (further x.1 (omega arith) (omega arith))

-- the torn rest is no longer than the log
rest_short : (c : Sizes) (n : ℕ) (bytes : List ℕ) → length (log_up_to c n bytes).rest ≤ length bytes
rest_short c zero bytes = omega arith
rest_short c (suc n) bytes = one (rest_short c n) (record_field c bytes) refl
  where
    one : ((rest : List ℕ) → length (log_up_to c n rest).rest ≤ length rest) → (r : Result (Record × List ℕ) Stop) → record_field c bytes ≡ r → length (log_at bytes (log_up_to c n) r).rest ≤ length bytes
    one further (Err s) e = omega arith
    one further (Ok x) e = omega (arith, record_long c bytes x.0 x.1 e, further x.1)

-- a log that begins with a record
pub record Begins (c : Sizes) (bytes : List ℕ) (r : Record) (rest : List ℕ) : Type 0 where
  pub records : records_of c bytes ≡ r ∷ records_of c rest
  pub long : length bytes ≡ length (record_bytes r) + length rest
  pub whole : whole_len c bytes ≡ length (record_bytes r) + whole_len c rest

pub begins : (c : Sizes) (bytes : List ℕ) (r : Record) (rest : List ℕ) → record_field c bytes ≡ Ok (r, rest) → Begins c bytes r rest
begins c bytes r rest e =
    let long = record_long c bytes r rest e in
    let log : log_of c bytes ≡ before r (log_of c rest) = at (length bytes) (omega arith) (omega arith) in
    record {
      records = ap (λ (l : Log). l.records) log;
      long = long;
      whole =
          let same = ap (λ (l : Log). length l.rest) log in
          omega (arith, same, long, rest_short c (length rest) rest);
    }
  where
    at : (n : ℕ) → length rest < n → length bytes ≤ n → log_up_to c n bytes ≡ before r (log_of c rest)
    at zero p q = absurd (omega arith)
    at (suc n) p q = ap (log_at bytes (log_up_to c n)) e ∙ ap (before r) (steps c n (length rest) rest (omega arith) (omega arith))

-- a log that begins with no record
pub ends : (c : Sizes) (bytes : List ℕ) → rest_of (record_field c bytes) ≡ None → (records_of c bytes ≡ []) × (whole_len c bytes ≡ 0)
ends c bytes e =
    let log : log_of c bytes ≡ record { records = []; rest = bytes } = at (length bytes) in
    (ap (λ (l : Log). l.records) log, omega (arith, ap (λ (l : Log). length l.rest) log))
  where
    one : (n : ℕ) (r : Result (Record × List ℕ) Stop) → rest_of r ≡ None → log_at bytes (log_up_to c n) r ≡ record { records = []; rest = bytes }
    one n (Err s) f = refl
    one n (Ok x) f = absurd (cc)

    at : (n : ℕ) → log_up_to c n bytes ≡ record { records = []; rest = bytes }
    at zero = refl
    at (suc n) = one n (record_field c bytes) e
