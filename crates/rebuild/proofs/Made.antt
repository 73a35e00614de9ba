-- Which pages have an entry, after entries are made or changed.
use Rattle.std.proofs.Common.{◌≡◌, ℕ, ◌+◌, ◌<◌, ◌≤◌, ◌||◌, nat_eq, Bool, true, false, cond, if◌then◌else◌, Option, Some, None, is_some, List, [], ◌∷◌, length, get_or, take, refl, ap, sym, ◌∙◌}
use Rattle.std.proofs.lemmas.List.{take_all}
use Rattle.std.proofs.lemmas.List.Folds.{list_any_more}
use Rattle.std.specs.List.{list_any}
use Rattle.std.specs.Map.{lookup}
use Rattle.indexmap.specs.IndexMap.{insert_entry}
use Rattle.node_rules.specs.Words.{pick}
use Rattle.node_rules.specs.LockRule.{LockEntry, idle}
use Rattle.lock_table.specs.Tables.{TableView, found, kept_version, with_made, with_entry}
use Rattle.lock_table.proofs.Places.{made_set}
use Rattle.rebuild.proofs.Entries.{none_rest, none_of, same_number}

first_some : (b : Bool) (e : LockEntry) → is_some (cond b (Some e) None) ≡ (b || false)
first_some true e = refl
first_some false e = refl

or_true : (b : Bool) → true ≡ (b || true)
or_true true = refl
or_true false = refl

later_some : (b c : Bool) (e : LockEntry) (l m : Option LockEntry) → is_some l ≡ (c || is_some m)
    → is_some (cond b (Some e) l) ≡ (c || is_some (cond b (Some e) m))
later_some true c e l m more = or_true c
later_some false c e l m more = more

inserted_some : (x p : ℕ) (e : LockEntry) (es : List (ℕ × LockEntry)) → lookup (nat_eq p) es ≡ None
    → is_some (lookup (nat_eq x) (insert_entry nat_eq es p e)) ≡ (nat_eq x p || is_some (lookup (nat_eq x) es))
inserted_some x p e [] none = first_some (nat_eq x p) e
inserted_some x p e (y ∷ es) none =
    let parts = none_rest (nat_eq p y.0) y.1 (lookup (nat_eq p) es) none in
    ap (λ b. is_some (lookup (nat_eq x) (if b then (y.0, e) ∷ es else y ∷ insert_entry nat_eq es p e))) parts.0
    ∙ later_some (nat_eq x y.0) (nat_eq x p) y.1 _ _ (inserted_some x p e es parts.1)

there_case : (t : TableView) (page x : ℕ) (b : Bool) → nat_eq x page ≡ b → is_some (found t page) ≡ true
    → is_some (found t x) ≡ (b || is_some (found t x))
there_case t page x true is there = ap (λ p. is_some (found t p)) (same_number x page is) ∙ there
there_case t page x false is there = refl

made_case : (t : TableView) (page x : ℕ) (e : LockEntry) (b : Bool) → is_some (found t page) ≡ b
    → is_some (lookup (nat_eq x) (pick b t.entries (insert_entry nat_eq t.entries page e))) ≡ (nat_eq x page || is_some (found t x))
made_case t page x e true there = there_case t page x (nat_eq x page) refl there
made_case t page x e false none = inserted_some x page e t.entries (none_of (found t page) none)

-- a page has an entry where one is written for it, and where it had one
pub made_at : (t later : TableView) (page : ℕ) (e w : LockEntry) → Some e ≡ found (with_made t page) page
    → later ≡ with_entry (with_made t page) page w
    → (x : ℕ) → is_some (found later x) ≡ (nat_eq x page || is_some (found t x))
made_at t later page e w lent is x =
    ap (λ u. is_some (found u x)) is
    ∙ (made_set (with_made t page) page x e w lent ∙ made_case t page x (idle (kept_version t page)) (is_some (found t page)) refl)

or_moved : (l b o : Bool) → (b || (l || o)) ≡ ((l || b) || o)
or_moved true true o = refl
or_moved true false o = refl
or_moved false true o = refl
or_moved false false o = refl

-- one more page has an entry, and all have theirs
pub made_step : {X : Type 0} (f : X → Bool) (xs : List X) (i : ℕ) (d : X) (old now later : Bool) → i < length xs
    → later ≡ (f (get_or xs i d) || now) → now ≡ (list_any f (take i xs) || old) → later ≡ (list_any f (take (i + 1) xs) || old)
made_step f xs i d old now later within one done =
    one
    ∙ (ap (λ b. f (get_or xs i d) || b) done
    ∙ (or_moved (list_any f (take i xs)) (f (get_or xs i d)) old
    ∙ sym (ap (λ b. b || old) (list_any_more f xs i d within))))

pub made_end : {X : Type 0} (f : X → Bool) (xs : List X) (i : ℕ) (old now : Bool) → length xs ≤ i
    → now ≡ (list_any f (take i xs) || old) → now ≡ (list_any f xs || old)
made_end f xs i old now past done = done ∙ ap (λ l. list_any f l || old) (take_all i xs past)
