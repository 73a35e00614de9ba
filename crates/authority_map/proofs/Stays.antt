-- Views stay sound.
use Rattle.std.proofs.Common.{◌≡◌, ℕ, zero, suc, ◌+◌, ◌<◌, ◌≤◌, Bool, true, false, ◌==◌, ◌&&◌, not, nat_lt, nat_le, List, [], ◌∷◌, length, replicate, Option, Some, None, Ok, refl, ap, sym, subst, ◌∙◌, arith}
use Rattle.std.proofs.lemmas.Bool.Decides.{nat_tests}
use Rattle.std.proofs.lemmas.List.{get_or-replicate, length-replicate}
use Rattle.std.specs.List.{list_all}
use Rattle.pcl_base.specs.Limits.{Sizes, is_between}
use Rattle.run_rules.specs.Words.{pick}
use Rattle.run_rules.specs.Views.{View, anew, count_from, since_after, born_after, first_broken, is_live, moved, next, follows, same_flags, same_numbers, keeps_one, keeps_two, keeps_four, keeps_six}
use Rattle.authority_map.specs.Sound.{IsSound, is_among, of_nodes}
use Rattle.authority_map.proofs.Made.{length-since, length-born}

-- two tests that both pass
both : (a b : Bool) → (a && b) ≡ true → (a ≡ true) × (b ≡ true)
both true true h = (refl, refl)
both true false h = absurd (cc)
both false b h = absurd (cc)

all_replicate : (p : ℕ → Bool) (n x : ℕ) → p x ≡ true → list_all p (replicate n x) ≡ true
all_replicate p zero x h = refl
all_replicate p (suc n) x h = rw h (all_replicate p n x h)

length-count : (a n : ℕ) → length (count_from a n) ≡ n
unfolding count_from
length-count a zero = refl
length-count a (suc n) = omega (arith, length-count (a + 1) n)

among_all : (n m : ℕ) → m < n → is_among (replicate n true) m ≡ true
among_all n m h =
    let long : length (replicate n true) ≡ n = length-replicate n true in
    let less : nat_lt m (length (replicate n true)) ≡ true = grind (arith, nat_tests) in
    let is : is_live (replicate n true) m ≡ true = get_or-replicate n m true false h in
    rw less (rw is refl)

all_among : (n a m : ℕ) → a + m ≤ n → list_all (is_among (replicate n true)) (count_from a m) ≡ true
unfolding count_from
all_among n a zero h = refl
all_among n a (suc m) h = rw (among_all n a (omega (arith, h))) (all_among n (a + 1) m (omega (arith, h)))

within_one : (e : ℕ) → 1 ≤ e → is_between 1 e e ≡ true
within_one e h = let low : nat_le 1 e ≡ true = grind (arith, nat_tests) in let high : nat_le e e ≡ true = grind (arith, nat_tests) in rw low (rw high refl)

-- a view in which everything begins anew
pub sound_anew : (c : Sizes) (e : ℕ) → 1 ≤ c.nodes → c.nodes ≤ 16 → 1 ≤ e → IsSound (anew c e)
sound_anew c e a b h =
    let n = c.nodes in
    record {
      some_nodes = omega (arith, a, length-replicate n true);
      most_nodes = omega (arith, b, length-replicate n true);
      each_owner = length-count 0 n ∙ sym (length-replicate n true);
      each_since = length-replicate n e ∙ sym (length-replicate n true);
      each_born = length-replicate n e ∙ sym (length-replicate n true);
      live_owners = all_among n 0 n (omega arith);
      since_within = all_replicate (is_between 1 e) n e (within_one e h);
      born_within = all_replicate (is_between 1 e) n e (within_one e h);
    }

-- the first of four rules that is broken
abbrev broken_of : Bool → Bool → Bool → Bool → Option ℕ
broken_of a b d e = pick (not a) (Some 1) (pick (not b) (Some 2) (pick (not d) (Some 4) (pick (not e) (Some 6) None)))

-- no rule is broken
none_parts : (a b d e : Bool) → broken_of a b d e ≡ None
    → (a ≡ true) × (b ≡ true) × (d ≡ true) × (e ≡ true)
none_parts true true true true h = (refl, refl, refl, refl)
none_parts true true true false h = absurd (cc)
none_parts true true false e h = absurd (cc)
none_parts true false d e h = absurd (cc)
none_parts false b d e h = absurd (cc)

within_next : (e x : ℕ) → is_between 1 e x ≡ true → is_between 1 (e + 1) x ≡ true
within_next e x h =
    let parts = both (nat_le 1 x) (nat_le x e) h in
    let low : nat_le 1 x ≡ true = parts.0 in
    let high : nat_le x (e + 1) ≡ true = (let old : nat_le x e ≡ true = parts.1 in grind (arith, nat_tests)) in
    rw low (rw high refl)

within_pick : (e s : ℕ) (b : Bool) → is_between 1 e s ≡ true → is_between 1 (e + 1) (pick b s (e + 1)) ≡ true
within_pick e s true h = within_next e s h
within_pick e s false h = within_one (e + 1) (omega arith)

within_born : (e s : ℕ) (b : Bool) → is_between 1 e s ≡ true → is_between 1 (e + 1) (pick b (e + 1) s) ≡ true
within_born e s false h = within_next e s h
within_born e s true h = within_one (e + 1) (omega arith)

since_stays : (e : ℕ) (old new since : List ℕ) → list_all (is_between 1 e) since ≡ true → list_all (is_between 1 (e + 1)) (since_after (e + 1) old new since) ≡ true
unfolding since_after
since_stays e (o ∷ old) (n ∷ new) (s ∷ since) h =
    let parts = both (is_between 1 e s) (list_all (is_between 1 e) since) h in
    rw (within_pick e s (o == n) parts.0) (since_stays e old new since parts.1)
since_stays e _ _ _ h = refl

born_stays : (e : ℕ) (old new : List Bool) (born : List ℕ) → list_all (is_between 1 e) born ≡ true → list_all (is_between 1 (e + 1)) (born_after (e + 1) old new born) ≡ true
unfolding born_after
born_stays e (o ∷ old) (n ∷ new) (s ∷ born) h =
    let parts = both (is_between 1 e s) (list_all (is_between 1 e) born) h in
    rw (within_born e s (n && not o) parts.0) (born_stays e old new born parts.1)
born_stays e _ _ _ h = refl

-- the next view
pub sound_moved : (v : View) (live : List Bool) (owners : List ℕ) → IsSound v → first_broken (of_nodes (length v.live)) v live owners ≡ None → IsSound (moved v live owners)
sound_moved v live owners s h =
    let n = length v.live in
    let parts = none_parts (keeps_one (of_nodes n) live owners) (keeps_two live) (keeps_four (of_nodes n) live owners) (keeps_six v) h in
    let ones = both (length live == n) (length owners == n) parts.0 in
    let many : length live ≡ n = (let t : (length live == n) ≡ true = ones.0 in grind (arith, nat_tests)) in
    let each : length owners ≡ n = (let t : (length owners == n) ≡ true = ones.1 in grind (arith, nat_tests)) in
    record {
      some_nodes = omega (arith, many, s.some_nodes);
      most_nodes = omega (arith, many, s.most_nodes);
      each_owner = each ∙ sym many;
      each_since = length-since (v.epoch + 1) v.owners owners v.since (s.each_owner ∙ sym each) (s.each_since ∙ sym each) ∙ each ∙ sym many;
      each_born = length-born (v.epoch + 1) v.live live v.born (sym many) (s.each_born ∙ sym many);
      live_owners = (let P : ℕ → Type 0 = λ k. list_all (λ o. nat_lt o k && is_live live o) owners ≡ true in subst P (sym many) parts.2);
      since_within = since_stays v.epoch v.owners owners v.since s.since_within;
      born_within = born_stays v.epoch v.live live v.born s.born_within;
    }

-- the next view has as many nodes
pub nodes_kept : (c : Sizes) (v : View) (live : List Bool) (owners : List ℕ) → first_broken c v live owners ≡ None → length live ≡ c.nodes
nodes_kept c v live owners h =
    let parts = none_parts (keeps_one c live owners) (keeps_two live) (keeps_four c live owners) (keeps_six v) h in
    let ones = both (length live == c.nodes) (length owners == c.nodes) parts.0 in
    let t : (length live == c.nodes) ≡ true = ones.0 in grind (arith, nat_tests)

-- the rules depend on the number of nodes alone
pub broken_nodes : (c : Sizes) (v : View) (live : List Bool) (owners : List ℕ) → c.nodes ≡ length v.live → first_broken (of_nodes (length v.live)) v live owners ≡ first_broken c v live owners
broken_nodes c v live owners e = sym (ap (λ n. first_broken (of_nodes n) v live owners) e)

pub next_none : (c : Sizes) (v : View) (live : List Bool) (owners : List ℕ) → first_broken c v live owners ≡ None → next c v live owners ≡ Ok (moved v live owners)
unfolding next
next_none c v live owners h = rw h refl

same_all : (l : List ℕ) → same_numbers l l ≡ true
unfolding same_numbers
same_all [] = refl
same_all (x ∷ xs) = let e : (x == x) ≡ true = grind (arith, nat_tests) in rw e (same_all xs)

flags_all : (l : List Bool) → same_flags l l ≡ true
unfolding same_flags
flags_all [] = refl
flags_all (true ∷ xs) = flags_all xs
flags_all (false ∷ xs) = flags_all xs

pub follows_none : (c : Sizes) (b v : View) → first_broken c b v.live v.owners ≡ None
    → follows c b v ≡ (b.epoch + 1 == v.epoch && same_numbers (since_after (b.epoch + 1) b.owners v.owners b.since) v.since && same_numbers (born_after (b.epoch + 1) b.live v.live b.born) v.born)
unfolding follows next
follows_none c b v h = rw h (rw (flags_all v.live) (rw (same_all v.owners) (tidy (b.epoch + 1 == v.epoch) _ _)))
  where
    tidy : (x y z : Bool) → (x && true && true && y && z) ≡ (x && y && z)
    tidy true y z = refl
    tidy false y z = refl

pub follows_some : (c : Sizes) (b v : View) (r : ℕ) → first_broken c b v.live v.owners ≡ Some r → follows c b v ≡ false
unfolding follows next
follows_some c b v r h = rw h refl
