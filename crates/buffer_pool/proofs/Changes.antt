-- What a change of one frame leaves of the others, and facts of each item of a list.
use Rattle.std.proofs.Common.{◌≡◌, ℕ, ◌+◌, ◌≤◌, nat_eq, cond, Bool, true, false, List, [], ◌∷◌, ◌++◌, length, Option, Some, None, is_some, refl, ap, sym, subst, ◌∙◌, arith}
use Rattle.std.proofs.lemmas.Bool.Decides.{nat_tests}
use Rattle.std.proofs.lemmas.Map.{keys-set_value}
use Rattle.std.specs.List.{AllByRecursion, IsDistinct}
use Rattle.std.specs.Option.{option_map_or}
use Rattle.std.specs.Map.{lookup_entry, set_value, remove_entry, keys_of}
use Rattle.lru.specs.LruCache.{promoted}
use Rattle.node_rules.specs.Words.{or_else}
use Rattle.buffer_pool.specs.declared.uses.Use.{Use}
use Rattle.buffer_pool.specs.Entries.{Entries, count, use_at, first_row, last_row}
use Rattle.buffer_pool.proofs.Entries.{equal, one}

-- other frames keep their use
pub use_set_other : (j k : ℕ) (w : Use) (es : Entries) → nat_eq j k ≡ false → use_at (set_value (nat_eq k) es w) j ≡ use_at es j
use_set_other j k w [] f = refl
use_set_other j k w (e ∷ es) f = by_case (nat_eq k e.0) refl (use_set_other j k w es f)
  where
    by_case : (b : Bool) → nat_eq k e.0 ≡ b → use_at (set_value (nat_eq k) es w) j ≡ use_at es j → use_at (set_value (nat_eq k) (e ∷ es) w) j ≡ use_at (e ∷ es) j
    by_case true t ih =
        let n : nat_eq j e.0 ≡ false = subst (λ m. nat_eq j m ≡ false) (equal k e.0 t) f in
        rw (t, n) refl
    by_case false t ih = rw t (ap (λ o. cond (nat_eq j e.0) (Some e.1) o) ih)

pub use_set_same : (k : ℕ) (u w : Use) (es : Entries) → use_at es k ≡ Some u → use_at (set_value (nat_eq k) es w) k ≡ Some w
use_set_same k u w [] h = cc
use_set_same k u w (e ∷ es) h = by_case (nat_eq k e.0) refl (use_set_same k u w es)
  where
    by_case : (b : Bool) → nat_eq k e.0 ≡ b → (use_at es k ≡ Some u → use_at (set_value (nat_eq k) es w) k ≡ Some w) → use_at (set_value (nat_eq k) (e ∷ es) w) k ≡ Some w
    by_case true t ih = rw t (rw t refl)
    by_case false t ih = rw t (rw t (ih (rw t at h)))

pub use_removed_other : (j k : ℕ) (es : Entries) → nat_eq j k ≡ false → use_at (remove_entry (nat_eq k) es) j ≡ use_at es j
use_removed_other j k [] f = refl
use_removed_other j k (e ∷ es) f = by_case (nat_eq k e.0) refl (use_removed_other j k es f)
  where
    by_case : (b : Bool) → nat_eq k e.0 ≡ b → use_at (remove_entry (nat_eq k) es) j ≡ use_at es j → use_at (remove_entry (nat_eq k) (e ∷ es)) j ≡ use_at (e ∷ es) j
    by_case true t ih =
        let n : nat_eq j e.0 ≡ false = subst (λ m. nat_eq j m ≡ false) (equal k e.0 t) f in
        rw (t, n) refl
    by_case false t ih = rw t (ap (λ o. cond (nat_eq j e.0) (Some e.1) o) ih)

-- facts of each item of a list whose last one is named
pub all_push : {X : Type 0} (P : X → Type 0) (xs : List X) (x : X) → AllByRecursion P xs → P x → AllByRecursion P (xs ++ x ∷ [])
all_push P [] x a p = (p, tt)
all_push P (y ∷ xs) x a p = (a.0, all_push P xs x a.1 p)

pub all_front : {X : Type 0} (P : X → Type 0) (xs : List X) (x : X) → AllByRecursion P (xs ++ x ∷ []) → AllByRecursion P xs
all_front P [] x a = tt
all_front P (y ∷ xs) x a = (a.0, all_front P xs x a.1)

pub all_last : {X : Type 0} (P : X → Type 0) (xs : List X) (x : X) → AllByRecursion P (xs ++ x ∷ []) → P x
all_last P [] x a = a.0
all_last P (y ∷ xs) x a = all_last P xs x a.1

pub all_weaker : {X : Type 0} (P Q : X → Type 0) → ((x : X) → P x → Q x) → (xs : List X) → AllByRecursion P xs → AllByRecursion Q xs
all_weaker P Q f [] a = tt
all_weaker P Q f (x ∷ xs) a = (f x a.0, all_weaker P Q f xs a.1)

pub all_both : {X : Type 0} (P Q : X → Type 0) (xs : List X) → AllByRecursion P xs → AllByRecursion Q xs → AllByRecursion (λ x. P x × Q x) xs
all_both P Q [] a b = tt
all_both P Q (x ∷ xs) a b = ((a.0, b.0), all_both P Q xs a.1 b.1)

pub distinct_front : (xs : List ℕ) (x : ℕ) → IsDistinct nat_eq (xs ++ x ∷ []) → IsDistinct nat_eq xs
unfolding IsDistinct
distinct_front [] x d = tt
distinct_front (y ∷ xs) x d = (all_front (λ z. nat_eq y z ≡ false) xs x d.0, distinct_front xs x d.1)

pub distinct_last : (xs : List ℕ) (x : ℕ) → IsDistinct nat_eq (xs ++ x ∷ []) → AllByRecursion (λ y. nat_eq y x ≡ false) xs
unfolding IsDistinct
distinct_last [] x d = tt
distinct_last (y ∷ xs) x d = (all_last (λ z. nat_eq y z ≡ false) xs x d.0, distinct_last xs x d.1)

pub distinct_push : (xs : List ℕ) (x : ℕ) → IsDistinct nat_eq xs → AllByRecursion (λ y. nat_eq y x ≡ false) xs → IsDistinct nat_eq (xs ++ x ∷ [])
unfolding IsDistinct
distinct_push [] x d a = (tt, tt)
distinct_push (y ∷ xs) x d a = (all_push (λ z. nat_eq y z ≡ false) xs x d.0 a.0, distinct_push xs x d.1 a.1)
