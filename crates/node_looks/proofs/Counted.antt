-- Whether numbers in a row all pass, number by number.
use Rattle.std.proofs.Common.{◌≡◌, ℕ, suc, ◌+◌, ◌-◌, ◌<◌, ◌≤◌, ◌&&◌, Bool, true, false, ap, ◌∙◌, arith}
use Rattle.std.specs.List.{list_all}
use Rattle.run_rules.specs.Views.{count_from}

-- the next number, then those after it
count_next : (f : ℕ → Bool) (n end : ℕ) → n < end
    → list_all f (count_from n (end - n)) ≡ (f n && list_all f (count_from (n + 1) (end - (n + 1))))
unfolding count_from
count_next f n end below =
    let rest : end - n ≡ suc (end - (n + 1)) = omega (arith, below) in
    ap (λ k. list_all f (count_from n k)) rest

-- a number that fails, one that passes, and none that is left
pub count_failed : (f : ℕ → Bool) (n end : ℕ) → n < end → f n ≡ false → list_all f (count_from n (end - n)) ≡ false
count_failed f n end below fails = count_next f n end below ∙ ap (λ b. b && list_all f (count_from (n + 1) (end - (n + 1)))) fails

pub count_past : (f : ℕ → Bool) (n end : ℕ) → n < end → f n ≡ true
    → list_all f (count_from n (end - n)) ≡ list_all f (count_from (n + 1) (end - (n + 1)))
count_past f n end below passes = count_next f n end below ∙ ap (λ b. b && list_all f (count_from (n + 1) (end - (n + 1)))) passes

pub count_end : (f : ℕ → Bool) (n end : ℕ) → end ≤ n → list_all f (count_from n (end - n)) ≡ true
unfolding count_from
count_end f n end past =
    let none : end - n ≡ 0 = omega (arith, past) in
    ap (λ k. list_all f (count_from n k)) none
