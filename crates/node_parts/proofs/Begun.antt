-- What holds of a node that is begun.
use Rattle.std.proofs.Common.{◌≡◌, ◌≢◌, ℕ, zero, suc, ◌+◌, ◌<◌, ◌==◌, nat_eq, Bool, true, false, Option, Some, None, is_some, List, [], ◌∷◌, length, get_or, set, replicate, refl, ap, sym, ◌∙◌, subst, Bor, arith}
use Rattle.std.proofs.lemmas.Bool.Decides.{nat_tests}
use Rattle.std.proofs.lemmas.List.{get_or-set_same, get_or-set_other, length-set, length-replicate}
use Rattle.std.specs.Option.{IfSome, option_copied}
use Rattle.std.specs.Map.{lookup}
use Rattle.pcl_base.specs.Limits.{Sizes}
use Rattle.run_rules.specs.Views.{View, count_from, first}
use Rattle.node_rules.specs.LockTable.{LockTable, open_table}
use Rattle.node_rules.specs.NodeState.{HomeState, NodeState, first_node, open_home, start_node}
use Rattle.node_rules.specs.LockRule.{LockEntry}
use Rattle.lock_table.specs.Tables.{TableView, found, is_idle, table_of}
use Rattle.node_parts.specs.Tables.{TablesView, lock_tables, place_at, found_in, is_unused, IsTidyBut, AreTidyBut}
use Rattle.node_parts.specs.State.{AreParts, IsNode, PartsView, node_of}

-- the number at a place of numbers in a row
counted_at : (a n q : ℕ) → q < n → get_or (count_from a n) q 0 ≡ a + q
unfolding count_from
counted_at a zero q within = absurd (omega (arith, within))
counted_at a (suc n) zero within = omega arith
counted_at a (suc n) (suc q) within =
    let next : get_or (count_from (a + 1) n) q 0 ≡ (a + 1) + q = counted_at (a + 1) n q (omega (arith, within)) in
    next ∙ omega arith

none_at : (n q : ℕ) → is_some (get_or (replicate n (let x : Option LockTable = None in x)) q None) ≡ false
none_at zero q = refl
none_at (suc n) zero = refl
none_at (suc n) (suc q) = none_at n q

-- a node that is started
pub start_is_node : (c : Sizes) (me epoch : ℕ) → me < c.nodes → IsNode (start_node c me epoch)
unfolding start_node
start_is_node c me epoch within =
    record { number = within; view = tt; born = λ some. absurd (cc); places = length-replicate c.nodes None; owned = λ q low. none_at c.nodes q }

-- a node at view 1
pub first_is_node : (c : Sizes) (me : ℕ) → me < c.nodes → IsNode (first_node c me)
unfolding first_node
first_is_node c me within =
    record {
      number = within;
      view = record { each = length-replicate c.nodes true; now = refl };
      born = λ some. omega arith;
      places = length-set (replicate c.nodes None) me _ ∙ length-replicate c.nodes None;
      owned = λ q low. by_test q low (nat_eq q me) refl;
    }
  where
    table : LockTable
    table = open_table c me true

    place : (q : ℕ) → q < c.nodes → get_or (count_from 0 c.nodes) q 0 ≡ q
    place q low = let none : 0 + q ≡ q = omega arith in counted_at 0 c.nodes q low ∙ none

    by_test : (q : ℕ) → q < c.nodes → (b : Bool) → nat_eq q me ≡ b
        → is_some (get_or (set (replicate c.nodes None) me (Some table)) q None) ≡ (get_or (count_from 0 c.nodes) q 0 == me)
    by_test q low true is =
        let same : q ≡ me = grind (arith, nat_tests) in
        let long : me < length (replicate c.nodes (let x : Option LockTable = None in x)) = subst (λ n. me < n) (sym (length-replicate c.nodes None)) within in
        let mine : (q == me) ≡ true = is in
        ap (λ k. is_some (get_or (set (replicate c.nodes None) me (Some table)) k None)) same
        ∙ (ap is_some (get_or-set_same (replicate c.nodes None) me (Some table) None long)
        ∙ (sym mine ∙ sym (ap (λ k. k == me) (place q low))))
    by_test q low false is =
        let other : q ≢ me = λ same. grind (arith, nat_tests) in
        let not_mine : (q == me) ≡ false = is in
        ap is_some (get_or-set_other (replicate c.nodes None) me q (Some table) None other)
        ∙ (none_at c.nodes q ∙ (sym not_mine ∙ sym (ap (λ k. k == me) (place q low))))

-- a table without entries is tidy, and so are no tables
pub tidy_new : (c : Sizes) (q : ℕ) (t : TableView) → t.entries ≡ [] → IsTidyBut [] c q (Some t)
tidy_new c q t none p unused =
    let nothing : found t p ≡ None = ap (λ es. lookup (nat_eq p) es) none in
    let never : is_unused (found t p) ≡ false = ap is_unused nothing in
    absurd (cc)

pub tidy_none : (c : Sizes) (n : ℕ) → AreTidyBut [] (record { config = c; places = replicate n None })
tidy_none c n q p unused =
    let never : is_unused (found_in (place_at (replicate n None) q) p) ≡ false = nothing n q in
    absurd (cc)
  where
    nothing : (n q : ℕ) → is_unused (found_in (place_at (replicate n None) q) p) ≡ false
    nothing zero q = refl
    nothing (suc n) zero = refl
    nothing (suc n) (suc q) = nothing n q

-- no tables are none in the rules
pub tables_none : (n : ℕ) → lock_tables (replicate n None) ≡ replicate n None
tables_none zero = refl
tables_none (suc n) = ap (λ l. None ∷ l) (tables_none n)

-- an entry of tidy tables is in use
used_one : (o : Option LockEntry) → (is_unused o ≡ true → false ≡ true) → IfSome o (λ e. is_idle e ≡ false)
used_one None never = tt
used_one (Some e) never = by (is_idle e) refl
  where
    by : (b : Bool) → is_idle e ≡ b → is_idle e ≡ false
    by true is = let bad : false ≡ true = never is in absurd (cc)
    by false is = is

pub used_in : (v : TablesView) (q : ℕ) (r : Option (Bor TableView)) → AreTidyBut [] v → option_copied r ≡ place_at v.places q
    → IfSome r (λ t. (p : ℕ) → IfSome (found t.now p) (λ e. is_idle e ≡ false))
used_in v q None tidy read = tt
used_in v q (Some t) tidy read = λ p.
    let here : is_unused (found_in (place_at v.places q) p) ≡ is_unused (found t.now p) = ap (λ o. is_unused (found_in o p)) (sym read) in
    used_one (found t.now p) (λ unused. (tidy q p (here ∙ unused)).0)

-- what a node at view 1 is made of
pub record FirstParts (c : Sizes) (me : ℕ) (h : HomeState) (v : View) (t : TableView) (before now : TablesView) : Type 0 where
  pub home : h ≡ open_home c me 1
  pub view : v ≡ first c
  pub table : table_of t ≡ open_table c me true
  pub empty : before ≡ record { config = c; places = replicate c.nodes None }
  pub put : lock_tables now.places ≡ set (lock_tables before.places) me (Some (table_of t))

-- the parts of a node at an epoch, in a view or in none
abbrev pub parts_at : ℕ → HomeState → ℕ → Option View → TablesView → PartsView
parts_at me h epoch view tables = record { me = me; home = h; epoch = epoch; view = view; tables = tables }

-- a node of these parts
abbrev made_of : HomeState → ℕ → Option View → List (Option LockTable) → NodeState
made_of h epoch view tables = record { home = h; epoch = epoch; view = view; tables = tables }

pub first_made : (c : Sizes) (me : ℕ) (h : HomeState) (v : View) (t : TableView) (before now : TablesView) → FirstParts c me h v t before now
    → node_of (parts_at me h 1 (Some v) now) ≡ first_node c me
unfolding first_node
first_made c me h v t before now is =
    let tables : lock_tables now.places ≡ set (replicate c.nodes None) me (Some (open_table c me true)) =
    is.put
    ∙ (ap (λ (x : TablesView). set (lock_tables x.places) me (Some (table_of t))) is.empty
    ∙ (ap (λ l. set l me (Some (table_of t))) (tables_none c.nodes)
    ∙ ap (λ x. set (replicate c.nodes None) me (Some x)) is.table)) in
    ap (λ x. made_of x 1 (Some v) (lock_tables now.places)) is.home
    ∙ (ap (λ x. made_of (open_home c me 1) 1 (Some x) (lock_tables now.places)) is.view
    ∙ ap (λ x. made_of (open_home c me 1) 1 (Some (first c)) x) tables)

pub first_sound : (c : Sizes) (me : ℕ) (h : HomeState) (v : View) (t : TableView) (before now : TablesView) → FirstParts c me h v t before now
    → me < c.nodes → now ≡ record before { places = set before.places me (Some t) } → t.entries ≡ []
    → (AreTidyBut [] before → IsTidyBut [] before.config me (Some t) → AreTidyBut [] now) → AreParts (parts_at me h 1 (Some v) now)
first_sound c me h v t before now is within put none tidy =
    record {
      node = subst IsNode (sym (first_made c me h v t before now is)) (first_is_node c me within);
      number = sym (ap (λ (x : HomeState). x.txs.node) is.home);
      config = ap (λ (x : TablesView). x.config) put ∙ (ap (λ (x : TablesView). x.config) is.empty ∙ sym (ap (λ (x : HomeState). x.config) is.home));
      tidy = tidy (subst (AreTidyBut []) (sym is.empty) (tidy_none c c.nodes)) (tidy_new before.config me t none);
    }

pub start_made : (c : Sizes) (me epoch : ℕ) (h : HomeState) (ts : TablesView) → h ≡ open_home c me epoch
    → ts ≡ record { config = c; places = replicate c.nodes None } → node_of (parts_at me h epoch None ts) ≡ start_node c me epoch
unfolding start_node
start_made c me epoch h ts home none =
    ap (λ x. made_of x epoch None (lock_tables ts.places)) home
    ∙ ap (λ x. made_of (open_home c me epoch) epoch None x) (ap (λ (x : TablesView). lock_tables x.places) none ∙ tables_none c.nodes)

pub start_sound : (c : Sizes) (me epoch : ℕ) (h : HomeState) (ts : TablesView) → me < c.nodes → h ≡ open_home c me epoch
    → ts ≡ record { config = c; places = replicate c.nodes None } → AreParts (parts_at me h epoch None ts)
start_sound c me epoch h ts within home none =
    record {
      node = subst IsNode (sym (start_made c me epoch h ts home none)) (start_is_node c me epoch within);
      number = sym (ap (λ (x : HomeState). x.txs.node) home);
      config = ap (λ (x : TablesView). x.config) none ∙ sym (ap (λ (x : HomeState). x.config) home);
      tidy = subst (AreTidyBut []) (sym none) (tidy_none c c.nodes);
    }
