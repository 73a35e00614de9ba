-- Reading items one by one, and records one by one.
use Rattle.std.proofs.Common.{◌≡◌, ℕ, suc, ◌+◌, ◌-◌, ◌<◌, List, [], ◌∷◌, ◌++◌, Option, Some, None, IfSome, Result, Ok, Err, refl, ap, sym, ◌∙◌, arith, append_assoc, append-nil}
use Rattle.pcl_base.specs.Limits.{Sizes}
use Rattle.pcl_base.specs.declared.log.Record.{Record}
use Rattle.text_rules.specs.FieldBytes.{Stop, after, give}
use Rattle.text_rules.specs.LogRecord.{Log, log_up_to, log_at, record_field}
use Rattle.redo_log.specs.Stopping.{prefixed}
use Rattle.redo_log.specs.Scan.{joined}

-- one more item before those that are left
prefixed_one : {X : Type 0} (made : List X) (x : X) (r : Result (List X × List ℕ) Stop) → prefixed made (after r (λ xs. give (x ∷ xs))) ≡ prefixed (made ++ x ∷ []) r
prefixed_one made x (Ok p) = ap (λ xs. Ok (xs, p.1)) (sym (append_assoc made (x ∷ []) p.0))
prefixed_one made x (Err s) = refl

-- an item that was read, with what follows it
pub item_read : {X : Type 0} (F G : ℕ → List ℕ → Result (List X × List ℕ) Stop) (n i : ℕ) (made : List X) (x : X) (s t : List ℕ) (all : Result (List X × List ℕ) Stop) → i < n → all ≡ prefixed made (F (n - i) s) → ((m : ℕ) → F (suc m) s ≡ after (G m t) (λ xs. give (x ∷ xs))) → all ≡ prefixed (made ++ x ∷ []) (G (n - (i + 1)) t)
item_read F G n i made x s t all less whole is =
    let more : n - i ≡ suc (n - (i + 1)) = omega arith in
    whole ∙ ap (λ m. prefixed made (F m s)) more ∙ ap (λ r. prefixed made r) (is (n - (i + 1))) ∙ prefixed_one made x (G (n - (i + 1)) t)

-- an item that stopped the reading
pub item_stopped : {X : Type 0} (F : ℕ → List ℕ → Result (List X × List ℕ) Stop) (o : Option Stop) (n i : ℕ) (made : List X) (s : List ℕ) (all : Result (List X × List ℕ) Stop) → i < n → all ≡ prefixed made (F (n - i) s) → IfSome o (λ e. (m : ℕ) → F (suc m) s ≡ Err e) → IfSome o (λ e. all ≡ Err e)
item_stopped F None n i made s all less whole is = is
item_stopped F (Some e) n i made s all less whole is =
    let more : n - i ≡ suc (n - (i + 1)) = omega arith in
    whole ∙ ap (λ m. prefixed made (F m s)) more ∙ ap (λ r. prefixed made r) (is (n - (i + 1)))

joined_one : (made : List Record) (r : Record) (log : Log) → joined made (record log { records = r ∷ log.records }) ≡ joined (made ++ r ∷ []) log
joined_one made r log = ap (λ rs. record log { records = rs }) (sym (append_assoc made (r ∷ []) log.records))

-- a record that was read from a log
pub record_read : (c : Sizes) (n i : ℕ) (made : List Record) (r : Record) (s t : List ℕ) (all : Log) → i < n → all ≡ joined made (log_up_to c (n - i) s) → record_field c s ≡ Ok (r, t) → all ≡ joined (made ++ r ∷ []) (log_up_to c (n - (i + 1)) t)
record_read c n i made r s t all less whole is =
    let more : n - i ≡ suc (n - (i + 1)) = omega arith in
    whole
    ∙ ap (λ m. joined made (log_up_to c m s)) more
    ∙ ap (λ x. joined made (log_at s (log_up_to c (n - (i + 1))) x)) is
    ∙ joined_one made r (log_up_to c (n - (i + 1)) t)

-- the torn rest of a log
pub record_torn : (c : Sizes) (n i : ℕ) (made : List Record) (s : List ℕ) (e : Stop) (all : Log) → i < n → all ≡ joined made (log_up_to c (n - i) s) → record_field c s ≡ Err e → all ≡ record { records = made; rest = s }
record_torn c n i made s e all less whole is =
    let more : n - i ≡ suc (n - (i + 1)) = omega arith in
    whole
    ∙ ap (λ m. joined made (log_up_to c m s)) more
    ∙ ap (λ x. joined made (log_at s (log_up_to c (n - (i + 1))) x)) is
    ∙ ap (λ rs. record { records = rs; rest = s }) (append-nil made)
