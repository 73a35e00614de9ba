-- Copies that are clean where their partition isn't served.
use Rattle.std.proofs.Common.{◌≡◌, refl, sym, ap, ◌∙◌, ℕ, ◌==◌, ◌&&◌, ◌||◌, Bool, true, false, List, [], ◌∷◌, slice_index_or, Option, Some, None, is_some}
use Rattle.pcl_base.specs.declared.tx.TxId.{TxId}
use Rattle.node_rules.specs.AccessRule.{on_pool}
use Rattle.node_rules.specs.BufferRule.{Copy, copy_at, cleaned, clean}
use Rattle.node_rules.specs.EndRule.{Ending}
use Rattle.node_rules.specs.LockTable.{LockTable}
use Rattle.node_rules.specs.NodeState.{HomeState, partition, table_of}
use Rattle.node_rules.specs.OwnerRule.{is_unserved, keep_dirty, clean_unserved}
use Rattle.node_rules.specs.Shelf.{readers_of}
use Rattle.node_rules.specs.Words.{pick, among}
use Rattle.node_rules.specs.Work.{Work, with_pool, work_of_home, with_home_work}
use Rattle.home_laws.proofs.Tests.{number_equal}
use Rattle.page_laws.specs.Look.Buffers.{IsCleaned}
use Rattle.page_laws.specs.Look.Ends.{version_of_right, IsWithoutTx}
use Rattle.page_laws.specs.Look.Parts.{SameBesideCopies}
use Rattle.page_laws.proofs.LookParts.Alike.{beside_self, beside_then}
use Rattle.page_laws.proofs.LookParts.Copies.{cleaning_is_seen_law}
use Rattle.end_relation.specs.Over.{changes}

-- what is seen of a work where the changed copies of partitions that aren't served are clean
pub record AreClean (es : List Ending) (w y : Work) : Type 0 where
  pub rest : SameBesideCopies w.node.home y.node.home
  pub copies : (q : ℕ) → copy_at y.node.home.pool q ≡ pick (changes q es && is_unserved (table_of w.node q)) (cleaned (copy_at w.node.home.pool q)) (copy_at w.node.home.pool q)
  pub epoch : y.node.epoch ≡ w.node.epoch
  pub view : y.node.view ≡ w.node.view
  pub tables : y.node.tables ≡ w.node.tables
  pub pages : y.pages ≡ w.pages
  pub calls : y.calls ≡ w.calls
  pub replies : y.replies ≡ w.replies
  pub sends : y.sends ≡ w.sends

twice : (o : Option Copy) → cleaned (cleaned o) ≡ cleaned o
twice None = refl
twice (Some x) = refl

-- one copy after the other
combined : (c d u : Bool) (o : Option Copy) → pick (d && u) (cleaned (pick (c && u) (cleaned o) o)) (pick (c && u) (cleaned o) o) ≡ pick ((c || d) && u) (cleaned o) o
combined true true true o = twice o
combined true true false o = refl
combined true false true o = refl
combined true false false o = refl
combined false true true o = refl
combined false true false o = refl
combined false false u o = refl

-- the table of a page is the same
same_owned : (w y : Work) (q : ℕ) → y.node.home.config ≡ w.node.home.config → y.node.tables ≡ w.node.tables → table_of y.node q ≡ table_of w.node q
same_owned w y q config tables = (λ i. slice_index_or (tables i) (partition (config i) q) None)

none_clean : (w : Work) → AreClean [] w w
none_clean w =
    record { rest = beside_self w.node.home; copies = λ q. refl; epoch = refl; view = refl; tables = refl; pages = refl; calls = refl; replies = refl; sends = refl }

clean_then : (x : Ending) (es : List Ending) (w m y : Work) → AreClean (x ∷ []) w m → AreClean es m y → AreClean (x ∷ es) w y
clean_then x es w m y a b =
    record {
      rest = beside_then w.node.home m.node.home y.node.home a.rest b.rest;
      copies = λ q.
          b.copies q
          ∙ ap (λ (o : Option LockTable). pick (changes q es && is_unserved o) (cleaned (copy_at m.node.home.pool q)) (copy_at m.node.home.pool q)) (same_owned w m q a.rest.life.config a.tables)
          ∙ ap (λ (o : Option Copy). pick (changes q es && is_unserved (table_of w.node q)) (cleaned o) o) (a.copies q)
          ∙ ap (λ (c : Bool). pick (changes q es && is_unserved (table_of w.node q)) (cleaned (pick (c && is_unserved (table_of w.node q)) (cleaned (copy_at w.node.home.pool q)) (copy_at w.node.home.pool q))) (pick (c && is_unserved (table_of w.node q)) (cleaned (copy_at w.node.home.pool q)) (copy_at w.node.home.pool q))) (alone (is_some x.change && x.page == q))
          ∙ combined (is_some x.change && x.page == q) (changes q es) (is_unserved (table_of w.node q)) (copy_at w.node.home.pool q);
      epoch = b.epoch ∙ a.epoch;
      view = b.view ∙ a.view;
      tables = b.tables ∙ a.tables;
      pages = b.pages ∙ a.pages;
      calls = b.calls ∙ a.calls;
      replies = b.replies ∙ a.replies;
      sends = b.sends ∙ a.sends;
    }
  where
    alone : (c : Bool) → (c || false) ≡ c
    alone true = refl
    alone false = refl

-- a copy that is kept dirty or not
one_clean : (x : Ending) (w : Work) → AreClean (x ∷ []) w (pick (is_some x.change) (keep_dirty w x.page) w)
one_clean x w = by (is_some x.change) refl
  where
    same : (o : Option Copy) → o ≡ pick false (cleaned o) o
    same o = refl

    as_is : ((q : ℕ) → (changes q (x ∷ []) && is_unserved (table_of w.node q)) ≡ false) → AreClean (x ∷ []) w w
    as_is none =
        record {
          rest = beside_self w.node.home;
          copies = λ q. sym (ap (λ (c : Bool). pick c (cleaned (copy_at w.node.home.pool q)) (copy_at w.node.home.pool q)) (none q));
          epoch = refl;
          view = refl;
          tables = refl;
          pages = refl;
          calls = refl;
          replies = refl;
          sends = refl;
        }

    seen : IsCleaned x.page w.node.home (with_pool w.node.home (clean w.node.home.pool x.page))
    seen = cleaning_is_seen_law x.page w.node.home

    unserved : is_some x.change ≡ true → (u : Bool) → is_unserved (table_of w.node x.page) ≡ u → AreClean (x ∷ []) w (pick u (with_home_work w (on_pool (λ b. clean b x.page) (work_of_home w))) w)
    unserved some true off =
        record {
          rest = seen.rest;
          copies = λ q. seen.copies q ∙ at q (x.page == q) refl;
          epoch = refl;
          view = refl;
          tables = refl;
          pages = refl;
          calls = refl;
          replies = refl;
          sends = refl;
        }
      where
        same_page : (q : ℕ) → (x.page == q) ≡ true → is_unserved (table_of w.node q) ≡ true
        same_page q is = ap (λ (k : ℕ). is_unserved (table_of w.node k)) (sym (number_equal x.page q is)) ∙ off

        at : (q : ℕ) (b : Bool) → (x.page == q) ≡ b → pick b (cleaned (copy_at w.node.home.pool q)) (copy_at w.node.home.pool q)
            ≡ pick (((is_some x.change && x.page == q) || false) && is_unserved (table_of w.node q)) (cleaned (copy_at w.node.home.pool q)) (copy_at w.node.home.pool q)
        at q true is = sym (λ i. pick (((some i && is i) || false) && same_page q is i) (cleaned (copy_at w.node.home.pool q)) (copy_at w.node.home.pool q))
        at q false is = sym (λ i. pick (((some i && is i) || false) && is_unserved (table_of w.node q)) (cleaned (copy_at w.node.home.pool q)) (copy_at w.node.home.pool q))
    unserved some false on = as_is (λ q. at q (x.page == q) refl)
      where
        at : (q : ℕ) (b : Bool) → (x.page == q) ≡ b → (((is_some x.change && x.page == q) || false) && is_unserved (table_of w.node q)) ≡ false
        at q true is = (λ i. ((some i && is i) || false) && is_unserved (table_of w.node q)) ∙ ap (λ (k : ℕ). is_unserved (table_of w.node k)) (sym (number_equal x.page q is)) ∙ on
        at q false is = (λ i. ((some i && is i) || false) && is_unserved (table_of w.node q))

    by : (b : Bool) → is_some x.change ≡ b → AreClean (x ∷ []) w (pick b (keep_dirty w x.page) w)
    by true some = unserved some (is_unserved (table_of w.node x.page)) refl
    by false none = as_is (λ q. ap (λ (c : Bool). ((c && x.page == q) || false) && is_unserved (table_of w.node q)) none)

-- all of them
pub all_clean : (es : List Ending) (w : Work) → AreClean es w (clean_unserved es w)
unfolding clean_unserved
all_clean [] w = none_clean w
all_clean (x ∷ es) w =
    clean_then x es w (pick (is_some x.change) (keep_dirty w x.page) w) (clean_unserved es (pick (is_some x.change) (keep_dirty w x.page) w)) (one_clean x w)
    (all_clean es (pick (is_some x.change) (keep_dirty w x.page) w))

-- a home without a transaction, whose copies change
pub without_beside : (t : TxId) (h m g : HomeState) → IsWithoutTx t h m → SameBesideCopies m g → IsWithoutTx t h g
without_beside t h m g is rest =
    record {
      config = rest.life.config ∙ is.config;
      named = (rest.life.node ∙ is.named.0, rest.life.born ∙ is.named.1, rest.life.last ∙ is.named.2);
      alive = λ u. rest.life.alive u ∙ is.alive u;
      held = λ u q. rest.locks.held u q ∙ is.held u q;
      waits = λ u. rest.locks.waits u ∙ is.waits u;
      bytes = λ u q. rest.privates.bytes u q ∙ is.bytes u q;
      runs = λ u q. rest.privates.runs u q ∙ is.runs u q;
      rights = λ q. ap version_of_right (rest.rights q) ∙ is.rights q;
      readers = λ u q other. ap (λ o. among (readers_of o) u) (rest.rights q) ∙ is.readers u q other;
    }
