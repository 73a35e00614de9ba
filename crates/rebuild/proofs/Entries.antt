-- The entries of a table's pages, under a change of one of them.
use Rattle.std.proofs.Common.{◌≡◌, ℕ, ◌==◌, nat_eq, Bool, true, false, cond, if◌then◌else◌, Option, Some, None, is_some, unwrap_or, Result, Ok, Err, List, [], ◌∷◌, map, refl, ap, sym, ◌∙◌, subst, arith}
use Rattle.std.proofs.lemmas.Bool.Decides.{nat_tests}
use Rattle.std.proofs.lemmas.Map.Steps.{set_value_same}
use Rattle.std.specs.Result.{IsOk, OnOk}
use Rattle.std.specs.Map.{lookup, set_value}
use Rattle.indexmap.specs.IndexMap.{insert_entry}
use Rattle.node_rules.specs.Words.{pick}
use Rattle.node_rules.specs.LockRule.{LockEntry, idle}
use Rattle.node_rules.specs.LockTable.{PageEntry, pages_of, entry_in, entries_with, entry_at, put_entry}
use Rattle.lock_table.specs.Tables.{TableView, found, kept_version, entry_of, table_of, with_made, with_entry}

pub none_rest : (b : Bool) (x : LockEntry) (l : Option LockEntry) → cond b (Some x) l ≡ None → (b ≡ false) × (l ≡ None)
none_rest true x l none = absurd (cc)
none_rest false x l none = (refl, none)

pub same_number : (m n : ℕ) → nat_eq m n ≡ true → m ≡ n
same_number m n is = grind (arith, nat_tests)

equals_itself : (n : ℕ) → (n == n) ≡ true
equals_itself n = grind (arith, nat_tests)

-- an entry with empty lists, made where there is none, is the page's entry already
first_case : (x p : ℕ) (g : ℕ → ℕ) (b : Bool) → nat_eq x p ≡ b → unwrap_or (cond b (Some (idle (g p))) None) (idle (g x)) ≡ idle (g x)
first_case x p g true is = ap (λ k. idle (g k)) (sym (same_number x p is))
first_case x p g false is = refl

later_case : (b : Bool) (e d : LockEntry) (l m : Option LockEntry) → unwrap_or l d ≡ unwrap_or m d → unwrap_or (cond b (Some e) l) d ≡ unwrap_or (cond b (Some e) m) d
later_case true e d l m same = refl
later_case false e d l m same = same

inserted_same : (x p : ℕ) (g : ℕ → ℕ) (es : List (ℕ × LockEntry)) → lookup (nat_eq p) es ≡ None
    → unwrap_or (lookup (nat_eq x) (insert_entry nat_eq es p (idle (g p)))) (idle (g x)) ≡ unwrap_or (lookup (nat_eq x) es) (idle (g x))
inserted_same x p g [] none = first_case x p g (nat_eq x p) refl
inserted_same x p g (e ∷ es) none =
    let parts = none_rest (nat_eq p e.0) e.1 (lookup (nat_eq p) es) none in
    ap (λ b. unwrap_or (lookup (nat_eq x) (if b then (e.0, idle (g p)) ∷ es else e ∷ insert_entry nat_eq es p (idle (g p)))) (idle (g x))) parts.0
    ∙ later_case (nat_eq x e.0) e.1 (idle (g x)) _ _ (inserted_same x p g es parts.1)

pub none_of : (o : Option LockEntry) → is_some o ≡ false → o ≡ None
none_of None none = refl
none_of (Some x) none = absurd (cc)

made_case : (t : TableView) (page x : ℕ) (b : Bool) → is_some (found t page) ≡ b
    → unwrap_or (lookup (nat_eq x) (pick b t.entries (insert_entry nat_eq t.entries page (idle (kept_version t page))))) (idle (kept_version t x)) ≡ entry_of t x
made_case t page x true there = refl
made_case t page x false none = inserted_same x page (kept_version t) t.entries (none_of (found t page) none)

-- an entry that is made, where there was none, changes no page's entry
pub made_same : (t : TableView) (page x : ℕ) → entry_of (with_made t page) x ≡ entry_of t x
made_same t page x = made_case t page x (is_some (found t page)) refl

table_made : (t : TableView) (page : ℕ) → table_of (with_made t page) ≡ table_of t
table_made t page =
    λ i. record { serving = t.serving; entries = map (λ p. record { page = p; entry = made_same t page p i }) (pages_of t.config t.partition); reported = t.reported }

put_case : (x : PageEntry) (xs : List PageEntry) (p : ℕ) (e : LockEntry) (b : Bool) → (x.page == p) ≡ b → entry_in (entries_with xs p e) p ≡ e
    → entry_in (pick b (record { page = p; entry = e } ∷ xs) (x ∷ entries_with xs p e)) p ≡ e
unfolding entry_in
put_case x xs p e true here later = ap (λ b. pick b e (entry_in xs p)) (equals_itself p)
put_case x xs p e false past later = ap (λ b. pick b x.entry (entry_in (entries_with xs p e) p)) past ∙ later

-- what is put at a page is its entry
put_found : (xs : List PageEntry) (p : ℕ) (e : LockEntry) → entry_in (entries_with xs p e) p ≡ e
unfolding entry_in entries_with
put_found [] p e = ap (λ b. pick b e (idle 0)) (equals_itself p)
put_found (x ∷ xs) p e = put_case x xs p e (x.page == p) refl (put_found xs p e)

-- what is lent of a page is its entry in the rules' table
pub lent_is : (t : TableView) (page : ℕ) (e : LockEntry) → Some e ≡ found (with_made t page) page
    → ((x : LockEntry) → table_of (with_entry (with_made t page) page x) ≡ put_entry (table_of t) page x)
    → e ≡ entry_at (table_of t) page
lent_is t page e lent tables =
    let made = with_made t page in
    let entries : set_value (nat_eq page) made.entries e ≡ made.entries = set_value_same (nat_eq page) made.entries e (sym lent) in
    let kept : table_of (with_entry made page e) ≡ table_of t = ap (λ l. table_of (record made { entries = l })) entries ∙ table_made t page in
    let same : put_entry (table_of t) page e ≡ table_of t = sym (tables e) ∙ kept in
    sym (put_found (table_of t).entries page e) ∙ ap (λ u. entry_at u page) same

-- what is written through the loan is put into the rules' table
pub lent_put : (f : LockEntry → LockEntry) (t later : TableView) (page : ℕ) (e w : LockEntry) → Some e ≡ found (with_made t page) page
    → ((x : LockEntry) → table_of (with_entry (with_made t page) page x) ≡ put_entry (table_of t) page x)
    → later ≡ with_entry (with_made t page) page w → w ≡ f e
    → table_of later ≡ put_entry (table_of t) page (f (entry_at (table_of t) page))
lent_put f t later page e w lent tables is changed =
    ap table_of is ∙ (tables w ∙ ap (put_entry (table_of t) page) (changed ∙ ap f (lent_is t page e lent tables)))

pub is_ok : {X E : Type 0} (r : Result X E) (x : X) → r ≡ Ok x → IsOk r
is_ok r x ok = subst IsOk (sym ok) refl

pub on_ok : {X E : Type 0} (P Q : Type 0) (r : Result X E) → (P → Q) → OnOk r P → OnOk r Q
on_ok P Q (Ok x) f p = f p
on_ok P Q (Err e) f p = p
