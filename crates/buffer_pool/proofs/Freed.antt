-- Places that are freed, a new table, and counts.
use Rattle.std.proofs.Common.{◌≡◌, ℕ, zero, suc, ◌+◌, ◌-◌, ◌*◌, ◌<◌, ◌≤◌, ◌==◌, take, add-one, ◌&&◌, nat_eq, nat_lt, cond, not, Bool, true, false, List, [], ◌∷◌, ◌++◌, length, map, Option, Some, None, is_some, IsSome, refl, ap, sym, subst, ◌∙◌, arith, length-append}
use Rattle.std.proofs.lemmas.Bool.Decides.{nat_tests}
use Rattle.std.proofs.lemmas.Map.{length-set_value}
use Rattle.std.specs.List.{AllByRecursion, IsDistinct, range_with_len}
use Rattle.std.specs.Option.{option_map_or}
use Rattle.std.proofs.lemmas.List.{take_all}
use Rattle.std.proofs.lemmas.List.FromFn.{length-range_with_len}
use Rattle.std.specs.Map.{lookup, set_value, remove_entry, keys_of}
use Rattle.lru.specs.LruCache.{promoted, put_entries, lru_cache}
use Rattle.indexmap.specs.IndexMap.{insert_entry}
use Rattle.pcl_base.specs.declared.tx.TxId.{TxId}
use Rattle.node_rules.specs.Words.{same_tx, or_else}
use Rattle.buffer_pool.specs.declared.uses.Use.{Use}
use Rattle.buffer_pool.specs.declared.uses.Use.TheVariants.{Free, Slot, Private}
use Rattle.buffer_pool.specs.declared.uses.SlotUse.{SlotUse}
use Rattle.buffer_pool.specs.declared.uses.PrivateUse.{PrivateUse}
use Rattle.buffer_pool.specs.declared.uses.Name.{Name}
use Rattle.buffer_pool.specs.declared.uses.Name.TheVariants.{Slot as SlotName, Private as PrivateName}
use Rattle.buffer_pool.specs.Entries.{Entries, IsTable, freed, freed_if, fresh, count, use_at, first_row, slot_here, private_here, is_free, is_loose, is_bare, is_slot_of, is_private_of, goes_for, slot_in_use, slot_if, private_in_use, private_if}
use Rattle.buffer_pool.specs.Kept.{IsKept, IsListed, freed_at, name_of, private_name, same_name, named_here, named_use}
use Rattle.buffer_pool.proofs.Entries.{equal, same, apart, one, Absent, Apart, absent_none, entry_found, entry_absent, apart_head, apart_tail, absent_as, Points, PointsIf, through, first_row_at, count_set, count_removed, length_removed, count_one, each_set, each_removed, each_weaker, each_at, apart_set, apart_front, promoted_found, promoted_absent}
use Rattle.buffer_pool.proofs.Changes.{use_set_other, use_set_same, use_removed_other, all_push, all_front, all_last, all_weaker, all_both, distinct_front, distinct_last, distinct_push}
use Rattle.buffer_pool.proofs.Names.{count_within}

-- places without a pin are freed, one number after another
abbrev pub freed_until : ℕ → ℕ × Use → ℕ × Use
freed_until n e = cond (nat_lt e.0 n) (freed e) e

abbrev pub freed_below : ℕ → Entries → Entries
freed_below n es = map (freed_until n) es

pub freed_none : (es : Entries) → es ≡ freed_below 0 es
freed_none [] = refl
freed_none (e ∷ es) = let t : nat_lt e.0 0 ≡ false = grind (arith, nat_tests) in rw t (ap (λ l. e ∷ l) (freed_none es))

pub freed_next : (n : ℕ) (es : Entries) → freed_at n (freed_below n es) ≡ freed_below (n + 1) es
freed_next n [] = refl
freed_next n (e ∷ es) = by_case (nat_lt e.0 n) refl (nat_eq n e.0) refl (freed_next n es)
  where
    by_case : (b : Bool) → nat_lt e.0 n ≡ b → (c : Bool) → nat_eq n e.0 ≡ c → freed_at n (freed_below n es) ≡ freed_below (n + 1) es → freed_at n (freed_below n (e ∷ es)) ≡ freed_below (n + 1) (e ∷ es)
    by_case true t true u ih = absurd (let q : n ≡ e.0 = equal n e.0 u in let l : e.0 < n = grind (arith, nat_tests) in omega arith)
    by_case true t false u ih = let l : nat_lt e.0 (n + 1) ≡ true = grind (arith, nat_tests) in rw (t, l) (rw u (ap (λ r. freed e ∷ r) ih))
    by_case false t true u ih = let l : nat_lt e.0 (n + 1) ≡ true = grind (arith, nat_tests) in rw (t, l) (rw u (ap (λ r. freed e ∷ r) ih))
    by_case false t false u ih = let l : nat_lt e.0 (n + 1) ≡ false = grind (arith, nat_tests) in rw (t, l) (rw u (ap (λ r. e ∷ r) ih))

pub freed_all : (n : ℕ) (es : Entries) → AllByRecursion (λ e. e.0 < n) es → freed_below n es ≡ map freed es
freed_all n [] a = refl
freed_all n (e ∷ es) a = let l : nat_lt e.0 n ≡ true = grind (arith, nat_tests, a.0) in rw l (ap (λ r. freed e ∷ r) (freed_all n es a.1))

pub freed_length : (n : ℕ) (es : Entries) → length (freed_below n es) ≡ length es
freed_length n [] = refl
freed_length n (e ∷ es) = ap (λ k. suc k) (freed_length n es)

-- one frame
pub freed_absent : (k : ℕ) (es : Entries) → Absent k es → freed_at k es ≡ es
freed_absent k [] a = refl
freed_absent k (e ∷ es) a = let t : nat_eq k e.0 ≡ false = a.0 in rw t (ap (λ r. e ∷ r) (freed_absent k es a.1))

pub freed_set : (k : ℕ) (u : Use) (es : Entries) → Apart es → use_at es k ≡ Some u → freed_at k es ≡ set_value (nat_eq k) es (freed_if (is_bare u) u)
freed_set k u [] d h = cc
freed_set k u (e ∷ es) d h = by_case (nat_eq k e.0) refl (freed_set k u es (apart_tail e es d))
  where
    by_case : (b : Bool) → nat_eq k e.0 ≡ b → (use_at es k ≡ Some u → freed_at k es ≡ set_value (nat_eq k) es (freed_if (is_bare u) u))
        → freed_at k (e ∷ es) ≡ set_value (nat_eq k) (e ∷ es) (freed_if (is_bare u) u)
    by_case true t ih =
        let g : Some e.1 ≡ Some u = rw t at h in
        let q : e.1 ≡ u = cc in
        let rest : freed_at k es ≡ es = freed_absent k es (absent_as k e.0 es t (apart_head e es d)) in
        rw t (ap (λ v. (e.0, freed_if (is_bare v) v) ∷ freed_at k es) q ∙ ap (λ r. (e.0, freed_if (is_bare u) u) ∷ r) rest)
    by_case false t ih = let g : use_at es k ≡ Some u = rw t at h in rw t (ap (λ r. e ∷ r) (ih g))

pub freed_none_at : (k : ℕ) (es : Entries) → use_at es k ≡ None → freed_at k es ≡ es
freed_none_at k [] h = refl
freed_none_at k (e ∷ es) h = by_case (nat_eq k e.0) refl (freed_none_at k es)
  where
    by_case : (b : Bool) → nat_eq k e.0 ≡ b → (use_at es k ≡ None → freed_at k es ≡ es) → freed_at k (e ∷ es) ≡ e ∷ es
    by_case true t ih = let bad : Some e.1 ≡ None = rw t at h in cc
    by_case false t ih = rw t (ap (λ r. e ∷ r) (ih (rw t at h)))

-- a new table
pub fresh_length : (n : ℕ) → length (fresh n) ≡ n
unfolding fresh
fresh_length zero = refl
fresh_length (suc n) = ap (λ k. suc k) (fresh_length n)

pub fresh_absent : (k n : ℕ) → n ≤ k → Absent k (fresh n)
unfolding fresh
fresh_absent k zero l = tt
fresh_absent k (suc n) l = (apart k n (λ q. absurd (omega arith)), fresh_absent k n (omega arith))

pub fresh_apart : (n : ℕ) → Apart (fresh n)
unfolding fresh IsDistinct
fresh_apart zero = tt
fresh_apart (suc n) = (fresh_absent n n (omega arith), fresh_apart n)

pub fresh_below : (m n : ℕ) → n ≤ m → AllByRecursion (λ e. e.0 < m) (fresh n)
unfolding fresh
fresh_below m zero l = tt
fresh_below m (suc n) l = (omega arith, fresh_below m n (omega arith))

pub fresh_listed : (names : List (Name × ℕ)) (n : ℕ) → AllByRecursion (λ e. IsListed names e.0 (name_of e.1)) (fresh n)
unfolding fresh
fresh_listed names zero = tt
fresh_listed names (suc n) = (tt, fresh_listed names n)

pub fresh_count : (test : Use → Bool) (b : Bool) (n : ℕ) → test Free ≡ b → count test (fresh n) ≡ cond b n 0
unfolding fresh count
fresh_count test true zero h = refl
fresh_count test false zero h = refl
fresh_count test true (suc n) h = rw h (omega (arith, fresh_count test true n h))
fresh_count test false (suc n) h = rw h (omega (arith, fresh_count test false n h))

pub fresh_use : (k n : ℕ) → k < n → use_at (fresh n) k ≡ Some Free
unfolding fresh
fresh_use k zero l = absurd (omega arith)
fresh_use k (suc n) l = by_case (nat_eq k n) refl (λ m. fresh_use k n m)
  where
    by_case : (b : Bool) → nat_eq k n ≡ b → (k < n → use_at (fresh n) k ≡ Some Free) → use_at (fresh (suc n)) k ≡ Some Free
    by_case true t ih = rw t refl
    by_case false t ih = rw t (ih (let o : k ≡ n → ⊥ = λ q. let s : nat_eq k n ≡ true = subst (λ m. nat_eq k m ≡ true) q (same k) in let bad : true ≡ false = sym s ∙ t in cc in grind (arith, nat_tests)))

pub all_range : (a count n : ℕ) → a + count ≤ n → AllByRecursion (λ j. use_at (fresh n) j ≡ Some Free) (range_with_len a count)
all_range a zero n l = tt
all_range a (suc count) n l = (fresh_use a n (omega arith), all_range (a + 1) count n (omega arith))

pub range_above : (x a count : ℕ) → x < a → AllByRecursion (λ y. nat_eq x y ≡ false) (range_with_len a count)
range_above x a zero l = tt
range_above x a (suc count) l = (apart x a (λ q. absurd (omega arith)), range_above x (a + 1) count (omega arith))

pub distinct_range : (a count : ℕ) → IsDistinct nat_eq (range_with_len a count)
unfolding IsDistinct
distinct_range a zero = tt
distinct_range a (suc count) = (range_above a (a + 1) count (omega arith), distinct_range (a + 1) count)

pub kept_opened : (n name_room room : ℕ) → 1 ≤ n → n ≤ 4096 → 2 * n ≤ name_room → n ≤ room → IsKept (fresh n) [] (range_with_len 0 n) name_room room 0 0
kept_opened n name_room room a b c d =
    let long : length (fresh n) ≡ n = fresh_length n in
    record {
      distinct = fresh_apart n;
      below = subst (λ m. AllByRecursion (λ e. e.0 < m) (fresh n)) (sym long) (fresh_below n n (omega arith));
      frames = (omega (arith, long), omega (arith, long));
      listed = fresh_listed [] n;
      free_use = all_range 0 n n (omega arith);
      once = distinct_range 0 n;
      number = length-range_with_len 0 n ∙ sym (fresh_count is_free true n refl);
      names_fit = omega (arith, long);
      free_fits = omega (arith, long);
      loose_number = sym (fresh_count is_loose false n refl);
      bare_number = sym (fresh_count is_bare false n refl);
    }

pub put_fresh : (k n : ℕ) → k < n → put_entries nat_eq (lru_cache (fresh k) n) k Free ≡ fresh (k + 1)
unfolding fresh
put_fresh k n l =
    let long : length (fresh k) ≤ n - 1 = omega (arith, fresh_length k) in
    ap (λ o. option_map_or (λ e. (e.0, Free) ∷ remove_entry (nat_eq k) (fresh k)) o ((k, Free) ∷ take (n - 1) (fresh k))) (entry_absent k (fresh k) (absent_none k (fresh k) (fresh_absent k k (omega arith))))
    ∙ ap (λ r. (k, Free) ∷ r) (take_all (n - 1) (fresh k) long)
    ∙ rw add-one refl

pub put_by : (es : Entries) (n k : ℕ) (w : Use) (o : Option Use) → use_at es k ≡ o → IsSome o → put_entries nat_eq (lru_cache es n) k w ≡ (k, w) ∷ remove_entry (nat_eq k) es
put_by es n k w None h s = cc
put_by es n k w (Some u) h s = ap (λ o. option_map_or (λ e. (e.0, w) ∷ remove_entry (nat_eq k) es) o ((k, w) ∷ take (n - 1) es)) (entry_found k u es h)

pub put_found : (es : Entries) (n k : ℕ) (w : Use) → IsSome (use_at es k) → put_entries nat_eq (lru_cache es n) k w ≡ (k, w) ∷ remove_entry (nat_eq k) es
put_found es n k w s = put_by es n k w (use_at es k) refl s

pub named_used : (u w : Use) → name_of u ≡ name_of w → is_free w ≡ false → is_free u ≡ false
named_used Free Free n f = f
named_used Free (Slot s) n f = cc
named_used Free (Private x) n f = cc
named_used (Slot s) w n f = refl
named_used (Private x) w n f = refl

pub used_if : (b : Bool) → not b ≡ true → b ≡ false
used_if true h = sym h
used_if false h = refl

pub counted : (test : Use → Bool) (k : ℕ) (u : Use) (es : Entries) → use_at es k ≡ Some u → one (test u) ≤ count test es
counted test k u es h = omega (arith, count_removed test k u es h)

-- one more free frame has room
pub room_for_free : (k : ℕ) (u : Use) (es : Entries) → use_at es k ≡ Some u → is_free u ≡ false → count is_free es + 1 ≤ length es
room_for_free k u es h f =
    let c : count is_free (set_value (nat_eq k) es Free) + one (is_free u) ≡ count is_free es + 1 = count_set is_free k u Free es h in
    let c2 : count is_free (set_value (nat_eq k) es Free) + 0 ≡ count is_free es + 1 = rw f at c in
    omega (arith, count_within is_free (set_value (nat_eq k) es Free), length-set_value (nat_eq k) es Free)
