-- How far bytes follow a piece, step by step.
use Rattle.std.proofs.Common.{◌≡◌, ℕ, zero, suc, ◌+◌, ◌-◌, ◌≤◌, ◌==◌, true, false, List, [], ◌∷◌, length, drop, get_or, codes, refl, sym, ap, ◌∙◌, arith}
use Rattle.std.proofs.lemmas.List.{drop_all}
use Rattle.text_rules.specs.FieldBytes.{pick}
use Rattle.text_rules.specs.LineForms.{Reach, shared, shared_with, behind, and_then, and_then_if, or_none, reach_of_number, reach_of_more}

-- nothing is shared with no bytes
pub shared_none : (word : List ℕ) → shared word [] ≡ 0
shared_none [] = refl
shared_none (w ∷ word) = refl

pub shared_end : (word bytes : List ℕ) (n : ℕ) → length bytes ≤ n → n + shared (drop n word) (drop n bytes) ≡ n
shared_end word bytes n end =
    let e : shared (drop n word) (drop n bytes) ≡ 0 = ap (shared (drop n word)) (drop_all n bytes end) ∙ shared_none (drop n word) in
    omega (arith, e)

-- one reach behind another that is whole
pub and_then_whole : (r : Reach) (further : ℕ → Reach) → r.is_whole ≡ true → and_then r further ≡ behind r.count (further r.count)
and_then_whole r further whole = ap (λ b. and_then_if b r further) whole

pub and_then_broken : (r : Reach) (further : ℕ → Reach) → r.is_whole ≡ false → and_then r further ≡ r
and_then_broken r further broken = ap (λ b. and_then_if b r further) broken

-- owners
pub owners_whole : (further : ℕ) (bytes : List ℕ) (r m : Reach) (n k : ℕ) → r ≡ reach_of_number 0 15 bytes → r.is_whole ≡ true → n ≡ r.count → k ≡ r.count
    → m ≡ reach_of_more further (drop n bytes) → behind k m ≡ and_then (reach_of_number 0 15 bytes) (λ x. reach_of_more further (drop x bytes))
owners_whole further bytes r m n k read whole first second more =
    let all : m ≡ reach_of_more further (drop r.count bytes) = more ∙ ap (λ x. reach_of_more further (drop x bytes)) first in
    (λ i. behind (second i) (all i))
    ∙ (sym (and_then_whole r (λ x. reach_of_more further (drop x bytes)) whole) ∙ ap (λ q. and_then q (λ x. reach_of_more further (drop x bytes))) read)

-- no comma begins further owners
pub no_comma : (bytes : List ℕ) → (1 ≤ length bytes → (get_or bytes 0 0 == 44) ≡ false) → shared (codes ",") bytes ≡ 0
no_comma [] other = refl
no_comma (b ∷ bytes) other =
    let e : (44 == b) ≡ false = grind (arith, other (omega arith)) in
    ap (λ t. shared_with t 0) e

pub more_none : (n : ℕ) (bytes : List ℕ) → shared (codes ",") bytes ≡ 0 → reach_of_more n bytes ≡ record { count = 0; is_whole = true }
more_none zero bytes none = refl
more_none (suc n) bytes none = rw none refl

pub more_ends : (n : ℕ) (bytes : List ℕ) → (1 ≤ length bytes → (get_or bytes 0 0 == 44) ≡ false) → reach_of_more n bytes ≡ record { count = 0; is_whole = true }
more_ends n bytes other = more_none n bytes (no_comma bytes other)

-- behind a comma there is more than none
pub some_reach : (r : Reach) → or_none (behind 1 r) ≡ behind 1 r
some_reach r =
    let e : (1 + r.count == 0) ≡ false = grind arith in
    ap (λ t. pick t (record { count = 0; is_whole = true }) (behind 1 r)) e

pub comma_step : (n : ℕ) (bs : List ℕ) → reach_of_more (suc n) (44 ∷ bs) ≡ behind 1 (and_then (reach_of_number 0 15 bs) (λ m. reach_of_more n (drop (1 + m) (44 ∷ bs))))
comma_step n bs = some_reach (and_then (reach_of_number 0 15 bs) (λ m. reach_of_more n (drop (1 + m) (44 ∷ bs))))

more_step : (n : ℕ) (bytes : List ℕ) → 1 ≤ n → 1 ≤ length bytes → get_or bytes 0 0 ≡ 44
    → reach_of_more n bytes ≡ behind 1 (and_then (reach_of_number 0 15 (drop 1 bytes)) (λ m. reach_of_more (n - 1) (drop (1 + m) bytes)))
more_step zero bytes some full comma = absurd (omega (arith, some))
more_step (suc n) [] some full comma = absurd (omega (arith, full))
more_step (suc n) (b ∷ bs) some full comma =
    let e : n ≡ suc n - 1 = omega arith in
    ap (λ x. reach_of_more (suc n) (x ∷ bs)) comma
    ∙ (comma_step n bs
    ∙ (ap (λ x. behind 1 (and_then (reach_of_number 0 15 bs) (λ m. reach_of_more x (drop (1 + m) (44 ∷ bs))))) e
    ∙ ap (λ x. behind 1 (and_then (reach_of_number 0 15 bs) (λ m. reach_of_more (suc n - 1) (drop (1 + m) (x ∷ bs))))) (sym comma)))

pub more_broken : (n : ℕ) (bytes : List ℕ) (r : Reach) → 1 ≤ n → 1 ≤ length bytes → get_or bytes 0 0 ≡ 44 → r ≡ reach_of_number 0 15 (drop 1 bytes)
    → r.is_whole ≡ false → behind 1 r ≡ reach_of_more n bytes
more_broken n bytes r some full comma read broken =
    let further : ℕ → Reach = λ m. reach_of_more (n - 1) (drop (1 + m) bytes) in
    sym
    (more_step n bytes some full comma
    ∙ (ap (λ q. behind 1 (and_then q further)) (sym read) ∙ ap (behind 1) (and_then_broken r further broken)))

pub behind_behind : (a b : ℕ) (r : Reach) → behind a (behind b r) ≡ behind (a + b) r
behind_behind a b r =
    let e : a + (b + r.count) ≡ a + b + r.count = omega arith in
    ap (λ n. record { count = n; is_whole = r.is_whole }) e

pub more_whole : (n : ℕ) (bytes : List ℕ) (r m : Reach) (k : ℕ) → 1 ≤ n → 1 ≤ length bytes → get_or bytes 0 0 ≡ 44
    → r ≡ reach_of_number 0 15 (drop 1 bytes) → r.is_whole ≡ true → k ≡ 1 + r.count → m ≡ reach_of_more (n - 1) (drop k bytes)
    → behind k m ≡ reach_of_more n bytes
more_whole n bytes r m k some full comma read whole at more =
    let further : ℕ → Reach = λ m. reach_of_more (n - 1) (drop (1 + m) bytes) in
    let all : m ≡ further r.count = more ∙ ap (λ x. reach_of_more (n - 1) (drop x bytes)) at in
    (λ i. behind (at i) (all i))
    ∙ sym
    (more_step n bytes some full comma
    ∙ (ap (λ q. behind 1 (and_then q further)) (sym read)
    ∙ (ap (behind 1) (and_then_whole r further whole) ∙ behind_behind 1 r.count (further r.count))))
