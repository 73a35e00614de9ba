-- Flags, owners and the bytes of a write, printed and read: each way gives back what the other took.
use Rattle.std.proofs.Common.{◌≡◌, ℕ, zero, suc, ◌+◌, ◌≤◌, ◌==◌, ◌&&◌, Bool, true, false, cond, nat_le, List, [], ◌∷◌, ◌++◌, length, map, take, drop, codes, refl, sym, ap, ◌∙◌, subst, Some, arith, append-nil}
use Rattle.std.specs.List.{prefix_len, AllByRecursion}
use Rattle.std.specs.Fmt.{decimal}
use Rattle.std.proofs.lemmas.Bool.{and_parts, eqb-true}
use Rattle.std.proofs.lemmas.List.{take-append-drop, take_at, drop_at, length-map}
use Rattle.std.proofs.lemmas.List.Folds.{length-prefix_len}
use Rattle.text_rules.specs.ScheduleLine.{flag_text, numbers_text, HasNode}
use Rattle.text_rules.specs.ReadLine.{◌>>=◌, where_true, after_word, number_at}
use Rattle.text_rules.specs.ReadEvent.{is_flag, flags_before, flags_at, more_owners, owners_of}
use Rattle.line_laws.proofs.Words.{word_after}
use Rattle.line_laws.proofs.FieldsBack.{bind_some, some_same, where_some, number_back, number_forth, Ends}

-- flags
pub flag_back : (b : ℕ) → is_flag b ≡ true → flag_text (b == 49) ≡ b
flag_back b h = by (b == 49) refl
  where
    by : (t : Bool) → (b == 49) ≡ t → flag_text t ≡ b
    by true e = sym (eqb-true b 49 e)
    by false e = grind (arith, h, e)

flags_text : (bs : List ℕ) → map flag_text (map (λ b. b == 49) (take (prefix_len is_flag bs) bs)) ≡ take (prefix_len is_flag bs) bs
flags_text [] = refl
flags_text (b ∷ bs) = by (is_flag b) refl (flags_text bs)
  where
    by : (t : Bool) → is_flag b ≡ t → map flag_text (map (λ b. b == 49) (take (prefix_len is_flag bs) bs)) ≡ take (prefix_len is_flag bs) bs
        → map flag_text (map (λ b. b == 49) (take (cond t (1 + prefix_len is_flag bs) 0) (b ∷ bs))) ≡ take (cond t (1 + prefix_len is_flag bs) 0) (b ∷ bs)
    by true h rest =
        let e : suc (prefix_len is_flag bs) ≡ 1 + prefix_len is_flag bs = omega arith in
        let first = flag_back b h in
        let all : map flag_text (map (λ b. b == 49) (take (suc (prefix_len is_flag bs)) (b ∷ bs))) ≡ take (suc (prefix_len is_flag bs)) (b ∷ bs) = (λ i. first i ∷ rest i) in
        subst (λ n. map flag_text (map (λ b. b == 49) (take n (b ∷ bs))) ≡ take n (b ∷ bs)) e all
    by false h rest = refl

pub flags_back : (bs : List ℕ) (p : List Bool × List ℕ) → flags_at bs ≡ Some p
    → (bs ≡ map flag_text p.0 ++ p.1) × (1 ≤ length p.0) × (length p.0 ≤ 16)
unfolding flags_at
flags_back bs p h =
    let n : ℕ = prefix_len is_flag bs in
    let flags : List Bool = map (λ b. b == 49) (take n bs) in
    let found = where_some (nat_le 1 n && nat_le n 16) (flags, drop n bs) p h in
    let parts = and_parts (nat_le 1 n) (nat_le n 16) found.0 in
    let len : length flags ≡ n = length-map (take n bs) (λ b. b == 49) ∙ length-prefix_len is_flag bs in
    let text : bs ≡ map flag_text flags ++ drop n bs = sym (take-append-drop n bs) ∙ ap (λ l. l ++ drop n bs) (sym (flags_text bs)) in
    let some : 1 ≤ length flags = grind (arith, len, parts.0) in
    let most : length flags ≤ 16 = grind (arith, len, parts.1) in
    subst (λ (q : List Bool × List ℕ). (bs ≡ map flag_text q.0 ++ q.1) × (1 ≤ length q.0) × (length q.0 ≤ 16)) found.1 (text, some, most)

ends_flags : (bs : List ℕ) → Ends bs → prefix_len is_flag bs ≡ 0
ends_flags [] ends = refl
ends_flags (b ∷ bs) ends =
    let e : is_flag b ≡ false = grind (arith, ends) in
    ap (λ t. cond t (1 + prefix_len is_flag bs) 0) e

flags_then : (fs : List Bool) (rest : List ℕ) → Ends rest → prefix_len is_flag (map flag_text fs ++ rest) ≡ length fs
flags_then [] rest ends = ends_flags rest ends
flags_then (true ∷ fs) rest ends = let more = flags_then fs rest ends in omega (arith, more)
flags_then (false ∷ fs) rest ends = let more = flags_then fs rest ends in omega (arith, more)

flags_again : (fs : List Bool) → map (λ b. b == 49) (map flag_text fs) ≡ fs
flags_again [] = refl
flags_again (true ∷ fs) = ap (λ l. true ∷ l) (flags_again fs)
flags_again (false ∷ fs) = ap (λ l. false ∷ l) (flags_again fs)

pub flags_forth : (fs : List Bool) (rest : List ℕ) → 1 ≤ length fs → length fs ≤ 16 → Ends rest → flags_at (map flag_text fs ++ rest) ≡ Some (fs, rest)
unfolding flags_at
flags_forth fs rest some most ends =
    let text : List ℕ = map flag_text fs in
    let n : prefix_len is_flag (text ++ rest) ≡ length fs = flags_then fs rest ends in
    let len : length text ≡ length fs = length-map fs flag_text in
    let test : (nat_le 1 (length fs) && nat_le (length fs) 16) ≡ true = grind (arith, some, most) in
    let front : take (length fs) (text ++ rest) ≡ text = take_at text rest (length fs) len in
    let back : drop (length fs) (text ++ rest) ≡ rest = drop_at text rest (length fs) len in
    let pair : (map (λ b. b == 49) (take (length fs) (text ++ rest)), drop (length fs) (text ++ rest)) ≡ (fs, rest) =
    (λ i. ((ap (λ l. map (λ b. b == 49) l) front ∙ flags_again fs) i, back i)) in
    ap (λ k. flags_before k (text ++ rest)) n
    ∙ (ap (λ t. where_true t (map (λ b. b == 49) (take (length fs) (text ++ rest)), drop (length fs) (text ++ rest))) test ∙ ap Some pair)

-- further owners, each after a comma
abbrev more_text : List ℕ → List ℕ
more_text [] = []
more_text (n ∷ ns) = 44 ∷ (decimal n ++ more_text ns)

numbers_from : (n : ℕ) (ns : List ℕ) → numbers_text (n ∷ ns) ≡ decimal n ++ more_text ns
numbers_from n [] = sym (append-nil (decimal n))
numbers_from n (m ∷ ns) = ap (λ l. decimal n ++ (44 ∷ l)) (numbers_from m ns)

-- owners that were read
record OwnersRead (most : ℕ) (ns : List ℕ) : Type 0 where
  len : length ns ≤ most
  nodes : AllByRecursion HasNode ns

more_back : (n : ℕ) (bs ns : List ℕ) → more_owners n bs ≡ Some ns → (bs ≡ more_text ns) × OwnersRead n ns
unfolding more_owners
more_back n [] ns h = subst (λ l. ([] ≡ more_text l) × OwnersRead n l) (some_same [] ns h) (refl, record { len = omega arith; nodes = tt })
more_back zero (b ∷ bs) ns h = absurd (cc)
more_back (suc n) (b ∷ bs) ns h =
    let comma = bind_some (after_word (codes ",") (b ∷ bs)) (λ rest. number_at 0 15 rest >>= (λ owner. more_owners n owner.1 >>= (λ owners. Some (owner.0 ∷ owners)))) ns h in
    let owner = bind_some (number_at 0 15 comma.0) (λ owner. more_owners n owner.1 >>= (λ owners. Some (owner.0 ∷ owners))) ns comma.2 in
    let more = bind_some (more_owners n (owner.0).1) (λ owners. Some ((owner.0).0 ∷ owners)) ns owner.2 in
    let number = number_back 0 15 comma.0 owner.0 owner.1 in
    let rest = more_back n (owner.0).1 more.0 more.1 in
    let len = rest.1.len in
    let text : b ∷ bs ≡ more_text ((owner.0).0 ∷ more.0) =
    word_after (codes ",") (b ∷ bs) comma.0 comma.1 ∙ (ap (λ l. 44 ∷ l) number.text ∙ ap (λ l. 44 ∷ (decimal (owner.0).0 ++ l)) rest.0) in
    subst (λ l. (b ∷ bs ≡ more_text l) × OwnersRead (suc n) l) (some_same ((owner.0).0 ∷ more.0) ns more.2)
    (text, record { len = omega (arith, len); nodes = (number.most, rest.1.nodes) })

pub owners_back : (bs ns : List ℕ) → owners_of bs ≡ Some ns → (numbers_text ns ≡ bs) × (1 ≤ length ns) × (length ns ≤ 16) × AllByRecursion HasNode ns
unfolding owners_of
owners_back bs ns h =
    let owner = bind_some (number_at 0 15 bs) (λ owner. more_owners 15 owner.1 >>= (λ owners. Some (owner.0 ∷ owners))) ns h in
    let more = bind_some (more_owners 15 (owner.0).1) (λ owners. Some ((owner.0).0 ∷ owners)) ns owner.2 in
    let number = number_back 0 15 bs owner.0 owner.1 in
    let rest = more_back 15 (owner.0).1 more.0 more.1 in
    let len = rest.1.len in
    let text : numbers_text ((owner.0).0 ∷ more.0) ≡ bs =
    numbers_from (owner.0).0 more.0 ∙ (ap (λ l. decimal (owner.0).0 ++ l) (sym rest.0) ∙ sym number.text) in
    subst (λ l. (numbers_text l ≡ bs) × (1 ≤ length l) × (length l ≤ 16) × AllByRecursion HasNode l) (some_same ((owner.0).0 ∷ more.0) ns more.2)
    (text, omega arith, omega (arith, len), (number.most, rest.1.nodes))

more_ends : (ns : List ℕ) → Ends (more_text ns)
more_ends [] = omega arith
more_ends (n ∷ ns) = omega arith

more_forth : (n : ℕ) (ns : List ℕ) → length ns ≤ n → AllByRecursion HasNode ns → more_owners n (more_text ns) ≡ Some ns
unfolding more_owners
more_forth n [] most nodes = refl
more_forth zero (m ∷ ns) most nodes = absurd (omega (arith, most))
more_forth (suc n) (m ∷ ns) most nodes =
    let node = nodes.0 in
    ap (λ o. o >>= (λ owner. more_owners n owner.1 >>= (λ owners. Some (owner.0 ∷ owners))))
    (number_forth 0 15 m (more_text ns) (omega arith) (omega (arith, node)) (omega arith) (more_ends ns))
    ∙ ap (λ o. o >>= (λ owners. Some (m ∷ owners))) (more_forth n ns (omega (arith, most)) nodes.1)

pub owners_forth : (ns : List ℕ) → 1 ≤ length ns → length ns ≤ 16 → AllByRecursion HasNode ns → owners_of (numbers_text ns) ≡ Some ns
unfolding owners_of
owners_forth [] some most nodes = absurd (omega (arith, some))
owners_forth (m ∷ ns) some most nodes =
    let node = nodes.0 in
    ap (λ l. number_at 0 15 l >>= (λ owner. more_owners 15 owner.1 >>= (λ owners. Some (owner.0 ∷ owners)))) (numbers_from m ns)
    ∙ (ap (λ o. o >>= (λ owner. more_owners 15 owner.1 >>= (λ owners. Some (owner.0 ∷ owners))))
    (number_forth 0 15 m (more_text ns) (omega arith) (omega (arith, node)) (omega arith) (more_ends ns))
    ∙ ap (λ o. o >>= (λ owners. Some (m ∷ owners))) (more_forth 15 ns (omega (arith, most)) nodes.1))
