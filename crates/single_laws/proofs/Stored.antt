-- A page that was stored is read as it was.
use Rattle.std.proofs.Common.{◌≡◌, refl, ap, ◌∙◌, ℕ, ◌+◌, ◌<◌, ◌==◌, Bool, true, false, length, take, Ok, Err, arith}
use Rattle.std.specs.Prelude.{Result}
use Rattle.std.specs.Int.{w64, to_be_bytes, from_be_bytes}
use Rattle.std.proofs.lemmas.Bool.Decides.{nat_tests}
use Rattle.std.proofs.lemmas.Nat.{from_be_bytes-to_be_bytes_8}
use Rattle.text_rules.specs.FieldBytes.{pick}
use Rattle.text_rules.specs.StoredPage.{PageAt, BadNumber, stored_bytes, stored_page, first_number, written, unwritten}

-- the first eight bytes
pub number_back : (p : ℕ) (at : PageAt) → p + 1 < 18446744073709551616 → first_number (stored_bytes p at) ≡ p + 1
number_back p at h = ap (from_be_bytes w64) front ∙ from_be_bytes-to_be_bytes_8 (p + 1) h
  where
    front : take 8 (stored_bytes p at) ≡ to_be_bytes w64 (p + 1)
    front = refl

written_back : (p : ℕ) (at : PageAt) → at.version < 18446744073709551616 → written (stored_bytes p at) ≡ at
written_back p at h = ap (λ (v : ℕ). let x : PageAt = record { version = v; bytes = at.bytes } in x) (from_be_bytes-to_be_bytes_8 at.version h)

-- a page that was stored
pub stored_back : (p : ℕ) (at : PageAt) → p + 1 < 18446744073709551616 → at.version < 18446744073709551616 → stored_page p (stored_bytes p at) ≡ Ok at
stored_back p at page version =
    let number : first_number (stored_bytes p at) ≡ p + 1 = number_back p at page in
    by (first_number (stored_bytes p at) == 0) (grind (arith, nat_tests)) (first_number (stored_bytes p at) == p + 1) (grind (arith, nat_tests))
    ∙ ap (λ (x : PageAt). let r : Result PageAt BadNumber = Ok x in r) (written_back p at version)
  where
    by : (b : Bool) → b ≡ false → (c : Bool) → c ≡ true
        → pick {X = Result PageAt BadNumber} b (Ok (unwritten (stored_bytes p at))) (pick {X = Result PageAt BadNumber} c (Ok (written (stored_bytes p at))) (Err (record { expected = p + 1; found = first_number (stored_bytes p at) })))
        ≡ Ok (written (stored_bytes p at))
    by false e true f = refl
    by true e c f = absurd (cc)
    by false e false f = absurd (cc)

pub stored_length : (p : ℕ) (at : PageAt) → length (stored_bytes p at) ≡ length at.bytes + 16
stored_length p at = omega arith
