-- What a node has: the table of a page's partition, and its view.
use Rattle.std.proofs.Common.{◌≡◌, ℕ, ◌%◌, ◌<◌, ◌==◌, ◌&&◌, nat_lt, Bool, List, length, get_or, Option, Some, None, ap, sym, subst, ◌∙◌}
use Rattle.std.proofs.Math.ListN.{get_or-map}
use Rattle.std.specs.List.{list_all}
use Rattle.std.specs.Option.{IfSome, option_map}
use Rattle.pcl_base.specs.Limits.{Sizes}
use Rattle.run_rules.specs.Views.{View, born_of, count_from, follows}
use Rattle.node_rules.specs.NodeState.{table_of as table_for}
use Rattle.node_rules.specs.Refusals.{may_install, owns_new}
use Rattle.lock_table.specs.Tables.{IsPageOf, TableView, table_of}
use Rattle.node_parts.specs.State.{AreParts, IsViewAt, PartsView, node_of}
use Rattle.node_parts.specs.Tables.{IsTableAt, lock_tables, place_at}

-- the table of the rules in a place
pub place_table : (places : List (Option TableView)) (q : ℕ) (o : Option TableView) → place_at places q ≡ o → get_or (lock_tables places) q None ≡ option_map table_of o
place_table places q o there = get_or-map (option_map table_of) places q None ∙ ap (option_map table_of) there

-- the table of a page that was looked up
pub table_seen : (now : PartsView) (places : List (Option TableView)) (c : Sizes) (p q : ℕ) (o : Option TableView) → places ≡ now.tables.places → c ≡ now.home.config
    → q ≡ p % c.nodes → o ≡ place_at places q → table_for (node_of now) p ≡ option_map table_of o
table_seen now places c p q o same config place read =
    place_table now.tables.places (p % now.home.config.nodes) o
    (sym (read ∙ (ap (place_at places) place ∙ (ap (λ (x : Sizes). place_at places (p % x.nodes)) config ∙ ap (λ l. place_at l (p % now.home.config.nodes)) same))))

-- a page is one of its partition's table
pub page_of_table : (k c : Sizes) (p q : ℕ) (t : TableView) → IsTableAt k q t → k ≡ c → p < c.pages → q ≡ p % c.nodes → IsPageOf t p
page_of_table k c p q t at same low place =
    record {
      below = subst (λ (x : Sizes). p < x.pages) (sym (at.config ∙ same)) low;
      own = ap (λ (x : Sizes). p % x.nodes) (at.config ∙ same) ∙ (sym place ∙ sym at.partition);
    }

-- whether a view may be the first one, by the number that is kept
abbrev pub begins : PartsView → View → ℕ → ℕ → Bool
begins now view me nodes =
    (born_of view me == view.epoch && nat_lt now.epoch view.epoch) && list_all (owns_new view me) (count_from 0 nodes)

pub begins_in : (now : PartsView) (view : View) (r : Bool) → AreParts now → length view.live ≡ now.home.config.nodes → now.view ≡ None
    → r ≡ begins now view now.me (length view.live) → r ≡ may_install (node_of now) now.view view
begins_in now view r are nodes none made =
    made
    ∙ (ap (λ me. begins now view me (length view.live)) are.number
    ∙ (ap (begins now view now.home.txs.node) nodes ∙ ap (λ o. may_install (node_of now) o view) (sym none)))

pub follows_in : (now : PartsView) (view before : View) (r : Bool) → AreParts now → now.view ≡ Some before
    → ((c : Sizes) → c.nodes ≡ length before.live → r ≡ follows c before view) → r ≡ may_install (node_of now) now.view view
follows_in now view before r are there made =
    let at : IsViewAt now.home.config.nodes now.epoch before = subst (λ o. IfSome o (IsViewAt now.home.config.nodes now.epoch)) there are.node.view in
    made now.home.config (sym at.each) ∙ ap (λ o. may_install (node_of now) o view) (sym there)
