-- Logs record by record: whole records in front, and the torn rest.
use Rattle.std.proofs.Common.{◌≡◌, refl, sym, ap, ◌∙◌, ℕ, zero, suc, ◌+◌, ◌≤◌, List, [], ◌∷◌, ◌++◌, length, take, Result, Ok, Err, arith, length-append, append_assoc}
use Rattle.std.proofs.Math.Seq.{take-append_seam}
use Rattle.pcl_base.specs.Limits.{Sizes}
use Rattle.pcl_base.specs.declared.log.Record.{Record}
use Rattle.text_rules.specs.FieldBytes.{Stop}
use Rattle.text_rules.specs.LogRecord.{Log, record_field, log_at, log_up_to, log_of, records_of, whole_len, before}
use Rattle.redo_laws.specs.Words.{IsWhole}
use Rattle.redo_laws.proofs.Reading.{record_read}

-- no bytes are no record
log_up_to_nothing : (c : Sizes) (n : ℕ) → log_up_to c n [] ≡ record { records = []; rest = [] }
log_up_to_nothing c zero = refl
log_up_to_nothing c (suc n) = refl

-- as many records as bytes are enough
up_to_enough : (c : Sizes) (n m : ℕ) (bytes : List ℕ) → length bytes ≤ n → length bytes ≤ m → log_up_to c n bytes ≡ log_up_to c m bytes
up_to_enough c zero m [] f g = sym (log_up_to_nothing c m)
up_to_enough c zero m (b ∷ bs) f g = absurd (omega arith)
up_to_enough c (suc n) zero [] f g = log_up_to_nothing c (suc n)
up_to_enough c (suc n) zero (b ∷ bs) f g = absurd (omega arith)
up_to_enough c (suc n) (suc m) bytes f g = one (record_field c bytes) refl (up_to_enough c n m)
  where
    one : (x : Result (Record × List ℕ) Stop) → record_field c bytes ≡ x
        → ((rest : List ℕ) → length rest ≤ n → length rest ≤ m → log_up_to c n rest ≡ log_up_to c m rest)
        → log_at bytes (log_up_to c n) x ≡ log_at bytes (log_up_to c m) x
    one (Err s) e again = refl
    one (Ok p) e again =
        let read = record_read c bytes p.0 p.1 e in
        let parts = ap length read.same ∙ length-append read.front p.1 in
        let long = read.long in
        ap (before p.0) (again p.1 (omega arith) (omega arith))

-- a log is a record before a log, or torn rest
pub log_step : (c : Sizes) (bytes : List ℕ) → log_of c bytes ≡ log_at bytes (log_of c) (record_field c bytes)
log_step c [] = refl
log_step c (b ∷ bs) = one (record_field c (b ∷ bs)) refl
  where
    one : (x : Result (Record × List ℕ) Stop) → record_field c (b ∷ bs) ≡ x → log_at (b ∷ bs) (log_up_to c (length bs)) x ≡ log_at (b ∷ bs) (log_of c) x
    one (Err s) e = refl
    one (Ok p) e =
        let read = record_read c (b ∷ bs) p.0 p.1 e in
        let parts : suc (length bs) ≡ length read.front + length p.1 = ap length read.same ∙ length-append read.front p.1 in
        let long = read.long in
        ap (before p.0) (up_to_enough c (length bs) (length p.1) p.1 (omega arith) (omega arith))

-- a log whose first record was read
pub log_read : (c : Sizes) (bytes : List ℕ) (r : Record) (rest : List ℕ) → record_field c bytes ≡ Ok (r, rest) → log_of c bytes ≡ before r (log_of c rest)
log_read c bytes r rest e = log_step c bytes ∙ ap (λ (x : Result (Record × List ℕ) Stop). log_at bytes (log_of c) x) e

-- a log that begins with no record
pub log_torn : (c : Sizes) (bytes : List ℕ) (s : Stop) → record_field c bytes ≡ Err s → log_of c bytes ≡ record { records = []; rest = bytes }
log_torn c bytes s e = log_step c bytes ∙ ap (λ (x : Result (Record × List ℕ) Stop). log_at bytes (log_of c) x) e

-- records before those of another log
pub behind : List Record → Log → Log
behind rs log = record log { records = rs ++ log.records }

-- what stands behind whole records is a log of its own
up_to_joined : (c : Sizes) (n : ℕ) (a b : List ℕ) → length a ≤ n → IsWhole c a → log_of c (a ++ b) ≡ behind (records_of c a) (log_of c b)
unfolding behind
up_to_joined c n [] b few whole = refl
up_to_joined c zero (x ∷ a) b few whole = absurd (omega arith)
up_to_joined c (suc n) (x ∷ a) b few whole = one (record_field c (x ∷ a)) refl (up_to_joined c n)
  where
    one : (y : Result (Record × List ℕ) Stop) → record_field c (x ∷ a) ≡ y
        → ((a b : List ℕ) → length a ≤ n → IsWhole c a → log_of c (a ++ b) ≡ behind (records_of c a) (log_of c b))
        → log_of c ((x ∷ a) ++ b) ≡ behind (records_of c (x ∷ a)) (log_of c b)
    one (Err s) e again =
        let torn : x ∷ a ≡ [] = sym (ap (λ (l : Log). l.rest) (log_torn c (x ∷ a) s e)) ∙ whole in absurd (cc)
    one (Ok p) e again =
        let read = record_read c (x ∷ a) p.0 p.1 e in
        let parts : suc (length a) ≡ length read.front + length p.1 = ap length read.same ∙ length-append read.front p.1 in
        let long = read.long in
        let first = log_read c (x ∷ a) p.0 p.1 e in
        let rest : IsWhole c p.1 = sym (ap (λ (l : Log). l.rest) first) ∙ whole in
        let joined : (x ∷ a) ++ b ≡ read.front ++ (p.1 ++ b) = ap (λ (bs : List ℕ). bs ++ b) read.same ∙ append_assoc read.front p.1 b in
        let found : record_field c ((x ∷ a) ++ b) ≡ Ok (p.0, p.1 ++ b) = ap (record_field c) joined ∙ read.again (p.1 ++ b) in
        log_read c ((x ∷ a) ++ b) p.0 (p.1 ++ b) found
        ∙ ap (before p.0) (again p.1 b (omega arith) rest)
        ∙ sym (ap (λ (l : Log). behind l.records (log_of c b)) first)

pub log_joined : (c : Sizes) (a b : List ℕ) → IsWhole c a → log_of c (a ++ b) ≡ behind (records_of c a) (log_of c b)
log_joined c a b whole = up_to_joined c (length a) a b (omega arith) whole

pub records_joined : (c : Sizes) (a b : List ℕ) → IsWhole c a → records_of c (a ++ b) ≡ records_of c a ++ records_of c b
unfolding behind
records_joined c a b whole = ap (λ (l : Log). l.records) (log_joined c a b whole)

pub rest_joined : (c : Sizes) (a b : List ℕ) → IsWhole c a → (log_of c (a ++ b)).rest ≡ (log_of c b).rest
unfolding behind
rest_joined c a b whole = ap (λ (l : Log). l.rest) (log_joined c a b whole)

-- a log is its whole records and its torn rest
pub record AreParts (c : Sizes) (bytes : List ℕ) : Type 0 where
  pub front : List ℕ
  pub same : bytes ≡ front ++ (log_of c bytes).rest
  pub whole : IsWhole c front
  pub records : records_of c front ≡ records_of c bytes

parts_up_to : (c : Sizes) (n : ℕ) (bytes : List ℕ) → length bytes ≤ n → AreParts c bytes
parts_up_to c n [] few = record { front = []; same = refl; whole = refl; records = refl }
parts_up_to c zero (x ∷ a) few = absurd (omega arith)
parts_up_to c (suc n) (x ∷ a) few = one (record_field c (x ∷ a)) refl (parts_up_to c n)
  where
    one : (y : Result (Record × List ℕ) Stop) → record_field c (x ∷ a) ≡ y → ((a : List ℕ) → length a ≤ n → AreParts c a) → AreParts c (x ∷ a)
    one (Err s) e again =
        let torn = log_torn c (x ∷ a) s e in
        record {
          front = [];
          same = sym (ap (λ (l : Log). l.rest) torn);
          whole = refl;
          records = sym (ap (λ (l : Log). l.records) torn);
        }
    one (Ok p) e again =
        let read = record_read c (x ∷ a) p.0 p.1 e in
        let parts : suc (length a) ≡ length read.front + length p.1 = ap length read.same ∙ length-append read.front p.1 in
        let long = read.long in
        let first = log_read c (x ∷ a) p.0 p.1 e in
        let inner = again p.1 (omega arith) in
        let outer = log_read c (read.front ++ inner.front) p.0 inner.front (read.again inner.front) in
        record {
          front = read.front ++ inner.front;
          same =
              read.same
              ∙ ap (λ (bs : List ℕ). read.front ++ bs) inner.same
              ∙ sym (append_assoc read.front inner.front (log_of c p.1).rest)
              ∙ ap (λ (l : Log). (read.front ++ inner.front) ++ l.rest) (sym first);
          whole = ap (λ (l : Log). l.rest) outer ∙ inner.whole;
          records =
              ap (λ (l : Log). l.records) outer
              ∙ ap (λ (rs : List Record). p.0 ∷ rs) inner.records
              ∙ sym (ap (λ (l : Log). l.records) first);
        }

pub log_parts : (c : Sizes) (bytes : List ℕ) → AreParts c bytes
log_parts c bytes = parts_up_to c (length bytes) bytes (omega arith)

-- the whole records of a log are its first bytes
pub whole_front : (c : Sizes) (bytes : List ℕ) → take (whole_len c bytes) bytes ≡ (log_parts c bytes).front
whole_front c bytes =
    let parts = log_parts c bytes in
    let lengths = ap length parts.same ∙ length-append parts.front (log_of c bytes).rest in
    let count : whole_len c bytes ≡ length parts.front = omega arith in
    ap (λ (n : ℕ). take n bytes) count
    ∙ ap (λ (bs : List ℕ). take (length parts.front) bs) parts.same
    ∙ take-append_seam parts.front (log_of c bytes).rest

-- the whole records of a trimmed log are those of the log
pub records_trimmed : (c : Sizes) (bytes : List ℕ) → records_of c (take (whole_len c bytes) bytes) ≡ records_of c bytes
records_trimmed c bytes = ap (records_of c) (whole_front c bytes) ∙ (log_parts c bytes).records

pub whole_trimmed : (c : Sizes) (bytes : List ℕ) → IsWhole c (take (whole_len c bytes) bytes)
whole_trimmed c bytes = ap (λ (bs : List ℕ). (log_of c bs).rest) (whole_front c bytes) ∙ (log_parts c bytes).whole
