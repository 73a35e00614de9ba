-- Logs as bytes: a record is read from its own bytes alone, and whole records stand before what follows.
use Rattle.std.proofs.Common.{◌≡◌, refl, sym, ap, ◌∙◌, ℕ, ◌-◌, ◌<◌, ◌≤◌, Bool, true, false, nat_le, List, ◌++◌, length, take, drop, Result, Ok, Err, arith, length-append, append_assoc}
use Rattle.std.specs.Int.{w32, from_be_bytes}
use Rattle.std.proofs.lemmas.Bool.Decides.{nat_tests}
use Rattle.std.proofs.lemmas.List.{take-append-drop, length-take}
use Rattle.std.proofs.Math.Seq.{drop-append_seam, take-append_seam}
use Rattle.pcl_base.specs.Limits.{Sizes}
use Rattle.pcl_base.specs.declared.log.Record.{Record}
use Rattle.text_rules.specs.FieldBytes.{Short, Stop, Reader, pick, stop, after, whole, before_rest, within}
use Rattle.text_rules.specs.LogRecord.{body_field, record_field}

-- what the first four bytes say
length_field : List ℕ → ℕ
length_field bytes = from_be_bytes w32 (take 4 bytes)

-- what is read behind them
behind_length : Sizes → ℕ → List ℕ → Result (Record × List ℕ) Stop
behind_length c count bytes =
    pick (nat_le (count - 4) (length bytes)) (before_rest (drop (count - 4) bytes) (whole (body_field c (take (count - 4) bytes)))) (stop Short bytes)

after_pick : {X Y : Type 0} (b : Bool) (x : X) (rest bytes : List ℕ) (next : X → Reader Y) → after (pick b (Ok (x, rest)) (stop Short bytes)) next ≡ pick b (next x rest) (stop Short bytes)
after_pick true x rest bytes next = refl
after_pick false x rest bytes next = refl

-- a record, test by test
record_is : (c : Sizes) (bytes : List ℕ) → record_field c bytes ≡ pick (nat_le 4 (length bytes)) (behind_length c (length_field bytes) (drop 4 bytes)) (stop Short bytes)
unfolding behind_length length_field
record_is c bytes = one (nat_le 4 (length bytes)) refl
  where
    one : (b : Bool) → nat_le 4 (length bytes) ≡ b → record_field c bytes ≡ pick (nat_le 4 (length bytes)) (behind_length c (length_field bytes) (drop 4 bytes)) (stop Short bytes)
    one true e = rw e (after_pick (nat_le (length_field bytes - 4) (length (drop 4 bytes))) _ _ _ (within (body_field c)))
    one false e = rw e refl

-- four bytes and what they count
pub record_made : (c : Sizes) (head body more : List ℕ) (r : Record) → length head ≡ 4 → from_be_bytes w32 head - 4 ≡ length body → whole (body_field c body) ≡ Ok r
    → record_field c (head ++ (body ++ more)) ≡ Ok (r, more)
unfolding behind_length length_field
record_made c head body more r four count is =
    let all = length-append head (body ++ more) in
    let rest = length-append body more in
    let long : nat_le 4 (length (head ++ (body ++ more))) ≡ true = grind (arith, nat_tests) in
    let front : take 4 (head ++ (body ++ more)) ≡ head = ap (λ (n : ℕ). take n (head ++ (body ++ more))) (sym four) ∙ take-append_seam head (body ++ more) in
    let back : drop 4 (head ++ (body ++ more)) ≡ body ++ more = ap (λ (n : ℕ). drop n (head ++ (body ++ more))) (sym four) ∙ drop-append_seam head (body ++ more) in
    let enough : nat_le (length body) (length (body ++ more)) ≡ true = grind (arith, nat_tests) in
    record_is c (head ++ (body ++ more))
    ∙ ap (λ (b : Bool). pick b (behind_length c (length_field (head ++ (body ++ more))) (drop 4 (head ++ (body ++ more)))) (stop Short (head ++ (body ++ more)))) long
    ∙ ap (λ (bs : List ℕ). behind_length c (from_be_bytes w32 bs) (drop 4 (head ++ (body ++ more)))) front
    ∙ ap (λ (bs : List ℕ). behind_length c (from_be_bytes w32 head) bs) back
    ∙ ap (λ (n : ℕ). let x : Result (Record × List ℕ) Stop = pick (nat_le n (length (body ++ more))) (before_rest (drop n (body ++ more)) (whole (body_field c (take n (body ++ more))))) (stop Short (body ++ more)) in x) count
    ∙ ap (λ (b : Bool). let x : Result (Record × List ℕ) Stop = pick b (before_rest (drop (length body) (body ++ more)) (whole (body_field c (take (length body) (body ++ more))))) (stop Short (body ++ more)) in x) enough
    ∙ ap (λ (bs : List ℕ). before_rest bs (whole (body_field c (take (length body) (body ++ more))))) (drop-append_seam body more)
    ∙ ap (λ (bs : List ℕ). before_rest more (whole (body_field c bs))) (take-append_seam body more)
    ∙ ap (λ (x : Result Record Stop). before_rest more x) is

-- what was read, and what is left
record_in : Record → Result (Record × List ℕ) Stop → Record
record_in r (Ok p) = p.0
record_in r (Err s) = r

rest_in : List ℕ → Result (Record × List ℕ) Stop → List ℕ
rest_in rest (Ok p) = p.1
rest_in rest (Err s) = rest

-- a record at the front of some bytes, which is read from its own bytes alone
pub record IsRead (c : Sizes) (bytes : List ℕ) (r : Record) (rest : List ℕ) : Type 0 where
  pub front : List ℕ
  pub same : bytes ≡ front ++ rest
  pub long : 4 ≤ length front
  pub again : (more : List ℕ) → record_field c (front ++ more) ≡ Ok (r, more)

pub record_read : (c : Sizes) (bytes : List ℕ) (r : Record) (rest : List ℕ) → record_field c bytes ≡ Ok (r, rest) → IsRead c bytes r rest
unfolding behind_length length_field record_in rest_in
record_read c bytes r rest e = at_length (nat_le 4 (length bytes)) refl (sym (record_is c bytes) ∙ e)
  where
    in_body : (w : Result Record Stop) → nat_le 4 (length bytes) ≡ true → nat_le (length_field bytes - 4) (length (drop 4 bytes)) ≡ true
        → whole (body_field c (take (length_field bytes - 4) (drop 4 bytes))) ≡ w → before_rest (drop (length_field bytes - 4) (drop 4 bytes)) w ≡ Ok (r, rest) → IsRead c bytes r rest
    in_body (Err s) long enough is f = absurd (cc)
    in_body (Ok q) long enough is f =
        let n : ℕ = length_field bytes - 4 in
        let body : List ℕ = take n (drop 4 bytes) in
        let made : q ≡ r = ap (record_in r) f in
        let left : drop n (drop 4 bytes) ≡ rest = ap (rest_in rest) f in
        let four : length (take 4 bytes) ≡ 4 = length-take 4 bytes ∙ grind (arith, nat_tests) in
        let count : length body ≡ n = length-take n (drop 4 bytes) ∙ grind (arith, nat_tests) in
        let total = length-append (take 4 bytes) body in
        record {
          front = take 4 bytes ++ body;
          same =
              sym (take-append-drop 4 bytes)
              ∙ ap (λ (bs : List ℕ). take 4 bytes ++ bs) (sym (take-append-drop n (drop 4 bytes)) ∙ ap (λ (bs : List ℕ). body ++ bs) left)
              ∙ sym (append_assoc (take 4 bytes) body rest);
          long = omega arith;
          again = λ more.
              ap (record_field c) (append_assoc (take 4 bytes) body more)
              ∙ record_made c (take 4 bytes) body more r four (sym count) (is ∙ ap Ok made);
        }

    at_body : (b : Bool) → nat_le 4 (length bytes) ≡ true → nat_le (length_field bytes - 4) (length (drop 4 bytes)) ≡ b → pick b (before_rest (drop (length_field bytes - 4) (drop 4 bytes)) (whole (body_field c (take (length_field bytes - 4) (drop 4 bytes))))) (stop Short (drop 4 bytes)) ≡ Ok (r, rest) → IsRead c bytes r rest
    at_body true long is f = in_body _ long is refl f
    at_body false long is f = absurd (cc)

    at_length : (b : Bool) → nat_le 4 (length bytes) ≡ b → pick b (behind_length c (length_field bytes) (drop 4 bytes)) (stop Short bytes) ≡ Ok (r, rest) → IsRead c bytes r rest
    at_length true is f = at_body (nat_le (length_field bytes - 4) (length (drop 4 bytes))) is refl f
    at_length false is f = absurd (cc)

-- too few bytes for a length
pub record_short : (c : Sizes) (bytes : List ℕ) → length bytes < 4 → record_field c bytes ≡ Err (record { fault = Short; left = length bytes })
record_short c bytes few =
    let short : nat_le 4 (length bytes) ≡ false = grind (arith, nat_tests) in
    record_is c bytes ∙ ap (λ (b : Bool). pick b (behind_length c (length_field bytes) (drop 4 bytes)) (stop Short bytes)) short

-- fewer bytes than the length counts
pub record_cut : (c : Sizes) (head body : List ℕ) → length head ≡ 4 → length body < from_be_bytes w32 head - 4 → record_field c (head ++ body) ≡ Err (record { fault = Short; left = length body })
unfolding behind_length length_field
record_cut c head body four few =
    let all = length-append head body in
    let long : nat_le 4 (length (head ++ body)) ≡ true = grind (arith, nat_tests) in
    let front : take 4 (head ++ body) ≡ head = ap (λ (n : ℕ). take n (head ++ body)) (sym four) ∙ take-append_seam head body in
    let back : drop 4 (head ++ body) ≡ body = ap (λ (n : ℕ). drop n (head ++ body)) (sym four) ∙ drop-append_seam head body in
    let short : nat_le (from_be_bytes w32 head - 4) (length body) ≡ false = grind (arith, nat_tests) in
    record_is c (head ++ body)
    ∙ ap (λ (b : Bool). pick b (behind_length c (length_field (head ++ body)) (drop 4 (head ++ body))) (stop Short (head ++ body))) long
    ∙ ap (λ (bs : List ℕ). behind_length c (from_be_bytes w32 bs) (drop 4 (head ++ body))) front
    ∙ ap (λ (bs : List ℕ). behind_length c (from_be_bytes w32 head) bs) back
    ∙ ap (λ (b : Bool). let x : Result (Record × List ℕ) Stop = pick b (before_rest (drop (from_be_bytes w32 head - 4) body) (whole (body_field c (take (from_be_bytes w32 head - 4) body)))) (stop Short body) in x) short
