-- A node with the planned entry of a page put in.
use Rattle.std.proofs.Common.{◌≡◌, ℕ, zero, suc, ◌%◌, ◌<◌, ◌≤◌, List, [], ◌∷◌, length, get_or, set, Option, Some, None, IsSome, is_some, refl, ap, sym, subst, ◌∙◌}
use Rattle.std.proofs.Math.ListN.{get_or-map}
use Rattle.std.proofs.lemmas.List.{length-set}
use Rattle.std.specs.Option.{option_map, IfSome}
use Rattle.pcl_base.specs.Limits.{Sizes}
use Rattle.node_rules.specs.DiskCalls.{DiskCall}
use Rattle.node_rules.specs.LockRule.{LockEntry}
use Rattle.node_rules.specs.LockTable.{LockTable, put_entry}
use Rattle.node_rules.specs.NodeState.{HomeState, NodeState, table_of}
use Rattle.node_rules.specs.OwnerRule.{with_table}
use Rattle.lock_table.specs.Tables.{table_of as seen}
use Rattle.page_owner.specs.Carry.{SameNode}
use Rattle.node_parts.specs.Comes.{work_of}
use Rattle.node_parts.specs.Outputs.{OutputsView}
use Rattle.node_parts.specs.State.{PartsView, IsNode, IsViewAt, AreParts, node_of, owns}
use Rattle.node_parts.specs.Tables.{TablesView, lock_tables, place_at, table_for, made_at, with_entry_at, AreTidyBut}
use Rattle.page_owner.specs.Planned.{ArePartsBut, HasMade, MayEnter}

-- the rules' table of a page is that in its place
pub table_of_page : (v : PartsView) (p : ℕ) → v.tables.config ≡ v.home.config → table_of (node_of v) p ≡ option_map seen (table_for v.tables p)
table_of_page v p same =
    get_or-map (option_map seen) v.tables.places (p % v.home.config.nodes) None
    ∙ ap (λ (c : Sizes). option_map seen (place_at v.tables.places (p % c.nodes))) (sym same)

-- a changed table stands where one stood
still_some : (f : LockTable → LockTable) (l : List (Option LockTable)) (q r : ℕ) → is_some (get_or (set l q (option_map f (get_or l q None))) r None) ≡ is_some (get_or l r None)
still_some f [] q r = refl
still_some f (x ∷ l) zero zero = of x
  where
    of : (o : Option LockTable) → is_some (option_map f o) ≡ is_some o
    of None = refl
    of (Some t) = refl
still_some f (x ∷ l) zero (suc r) = refl
still_some f (x ∷ l) (suc q) zero = refl
still_some f (x ∷ l) (suc q) (suc r) = still_some f l q r

-- a node stays one with another home of its own, and with changed tables
module _ (n : NodeState) (h : HomeState) (is : IsNode n) (same : SameNode n.home h) where
  pub node_kept : (tables : List (Option LockTable)) → length tables ≡ length n.tables → ((q : ℕ) → is_some (get_or tables q None) ≡ is_some (get_or n.tables q None))
      → IsNode (record n { home = h; tables = tables })
  node_kept tables many each = record {
    number = subst (λ (c : Sizes). h.txs.node < c.nodes) (sym same.config) (subst (λ k. k < n.home.config.nodes) (sym same.node) is.number);
    view = subst (λ (c : Sizes). IfSome n.view (IsViewAt c.nodes n.epoch)) (sym same.config) is.view;
    born = λ there. subst (λ b. 1 ≤ b) (sym same.born) (is.born there);
    places = many ∙ is.places ∙ ap (λ (c : Sizes). c.nodes) (sym same.config);
    owned = λ q within. each q ∙ is.owned q (subst (λ (c : Sizes). q < c.nodes) same.config within) ∙ ap (λ k. owns n.view k q) (sym same.node);
  }

  pub node_entered : (q p : ℕ) (e : LockEntry) → IsNode (record n { home = h; tables = with_entry_at n.tables q p e })
  node_entered q p e = node_kept (with_entry_at n.tables q p e) (length-set n.tables q (option_map (λ t. put_entry t p e) (get_or n.tables q None))) (still_some (λ t. put_entry t p e) n.tables q)

-- the work with the entry put in
module _ (v : PartsView) (p : ℕ) (e : LockEntry) (tables : TablesView) (config : v.tables.config ≡ v.home.config)
    (put : lock_tables tables.places ≡ with_entry_at (lock_tables v.tables.places) (p % v.tables.config.nodes) p e) where
  pub entered_work : (t : LockTable) (ps : List (List ℕ)) (cs : List DiskCall) (out : OutputsView) → table_of (node_of v) p ≡ Some t
      → with_table p (put_entry t p e) (work_of (node_of v) ps cs out) ≡ work_of (record (node_of v) { tables = lock_tables tables.places }) ps cs out
  entered_work t ps cs out there =
      ap (λ l. work_of (record (node_of v) { tables = l }) ps cs out)
      (sym
      (put ∙ ap (λ (c : Sizes). with_entry_at (lock_tables v.tables.places) (p % c.nodes) p e) config
      ∙ ap (λ o. set (lock_tables v.tables.places) (p % v.home.config.nodes) (option_map (λ t. put_entry t p e) o)) there))

  pub entered_node : (h : HomeState) → IsNode (node_of v) → SameNode v.home h → IsNode (record (node_of v) { home = h; tables = lock_tables tables.places })
  entered_node h is same =
      subst (λ l. IsNode (record (node_of v) { home = h; tables = l })) (sym put) (node_entered (node_of v) h is same (p % v.tables.config.nodes) p e)

-- room was made for the entry of a page
pub has_made : (v : PartsView) (p : ℕ) (tables : TablesView) → AreParts v → lock_tables tables.places ≡ lock_tables v.tables.places → tables.config ≡ v.tables.config → IsSome (made_at tables p) → AreTidyBut (p ∷ []) tables
    → HasMade p (record v { tables = tables })
has_made v p tables is same config made tidy = record {
  node = subst (λ l. IsNode (record (node_of v) { tables = l })) (sym same) is.node;
  number = is.number;
  config = config ∙ is.config;
  made = made;
  tidy = tidy;
}

-- what was made of a page may be entered, among others or alone
pub may_enter : (p : ℕ) (v : PartsView) → HasMade p v → MayEnter p v
may_enter p v had = record { node = had.node; number = had.number; config = had.config; made = had.made }

pub all_tidy : (v : PartsView) → ArePartsBut [] v → AreParts v
all_tidy v is = record { node = is.node; number = is.number; config = is.config; tidy = is.tidy }

-- the parts with the entry put in, and with a later home
pub entered_among : (v : PartsView) (p : ℕ) (e : LockEntry) (tables : TablesView) (h : HomeState) (ps : List ℕ) → MayEnter p v → SameNode v.home h
    → lock_tables tables.places ≡ with_entry_at (lock_tables v.tables.places) (p % v.tables.config.nodes) p e → tables.config ≡ v.tables.config → AreTidyBut ps tables
    → ArePartsBut ps (record v { home = h; tables = tables })
entered_among v p e tables h ps had same put config tidy = record {
  node = entered_node v p e tables had.config put h had.node same;
  number = had.number ∙ sym same.node;
  config = config ∙ had.config ∙ sym same.config;
  tidy = tidy;
}

-- one home after another is still of the node
pub same_then : (a b c : HomeState) → SameNode a b → SameNode b c → SameNode a c
same_then a b c first second = record { config = second.config ∙ first.config; node = second.node ∙ first.node; born = second.born ∙ first.born }

-- parts with a later home, and with tables in which nothing changed for the rules
module _ (v : PartsView) (h : HomeState) (same : SameNode v.home h) where
  node_with : IsNode (node_of v) → (tables : TablesView) → lock_tables tables.places ≡ lock_tables v.tables.places → IsNode (record (node_of v) { home = h; tables = lock_tables tables.places })
  node_with is tables all =
      subst (λ l. IsNode (record (node_of v) { home = h; tables = l })) (sym all) (node_kept (node_of v) h is same (lock_tables v.tables.places) refl (λ q. refl))

  pub home_parts : AreParts v → AreParts (record v { home = h })
  home_parts is = record {
    node = node_with is.node v.tables refl;
    number = is.number ∙ sym same.node;
    config = is.config ∙ sym same.config;
    tidy = is.tidy;
  }

  pub home_made : (p : ℕ) → HasMade p v → HasMade p (record v { home = h })
  home_made p had = record {
    node = node_with had.node v.tables refl;
    number = had.number ∙ sym same.node;
    config = had.config ∙ sym same.config;
    made = had.made;
    tidy = had.tidy;
  }

  pub given_parts : (p : ℕ) (tables : TablesView) → HasMade p v → lock_tables tables.places ≡ lock_tables v.tables.places → tables.config ≡ v.tables.config → AreTidyBut [] tables → AreParts (record v { home = h; tables = tables })
  given_parts p tables had all config tidy = record {
    node = node_with had.node tables all;
    number = had.number ∙ sym same.node;
    config = config ∙ had.config ∙ sym same.config;
    tidy = tidy;
  }
