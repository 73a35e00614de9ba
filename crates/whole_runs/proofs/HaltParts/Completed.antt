-- What redo and completion write of a page.
use Rattle.std.proofs.Common.{◌≡◌, ◌≢◌, refl, sym, ap, subst, ◌∙◌, ℕ, ◌<◌, ◌≤◌, ◌==◌, Bool, true, false, List, arith, eqb-true}
use Rattle.std.specs.Prelude.{⊤}
use Rattle.std.specs.List.{AllByRecursion}
use Rattle.std.proofs.lemmas.Bool.Decides.{nat_tests}
use Rattle.pcl_base.specs.Limits.{Sizes}
use Rattle.text_rules.specs.MessageBytes as bytes
use Rattle.run_rules.specs.Redo.{redone, all_records}
use Rattle.node_rules.specs.InstallRule.{redo_page, settle_all, begin_serving, complete_if, is_complete, complete}
use Rattle.node_rules.specs.LockTable.{pages_of}
use Rattle.node_rules.specs.NodeState.{partition, table_at}
use Rattle.node_rules.specs.Work.{Work, Outcome, for_each}
use Rattle.step_laws.proofs.Outcomes.{On, on_more, on_then, on_each}
use Rattle.node_laws.proofs.Lists.{all_weaker}
use Rattle.node_laws.proofs.Tables.{pages_are}
use Rattle.cluster_rules.specs.Clusters.{Cluster}
use Rattle.cluster_laws.specs.Sound.{IsCluster}
use Rattle.cluster_laws.proofs.Lists.{all_any}
use Rattle.page_protocol.specs.Invariant.{Inv}
use Rattle.page_protocol.specs.State.{Page, current}
use Rattle.page_protocol.specs.Steps.{Reached}
use Rattle.page_protocol.proofs.Keeps.{reached_holds}
use Rattle.page_protocol.proofs.Promises.{durable_law}
use Rattle.page_relation.specs.Relation.{IsPageOf}
use Rattle.page_laws.specs.Storage.Looks.{page_of}
use Rattle.page_laws.proofs.StorageParts.ReadPages.{stored_is_read_law}
use Rattle.page_laws.proofs.StorageParts.Redos.{redone_is_current_law}
use Rattle.related_runs.proofs.PageLists.{ArePages, partition_once}
use Rattle.page_relation.specs.Loss.Writes.{MayWrite, elsewhere}
use Rattle.whole_runs.proofs.HaltParts.Resting.{all_settle}
use Rattle.whole_runs.proofs.HaltParts.Walked.{Untouched, May, Redoable, away_untouched, away_may, here_may, walked}

module _ (blank : List ℕ) (c : Cluster) (n p : ℕ) (a : Page) (i : IsCluster c) (reached : Reached blank a) (is : IsPageOf c p a) (k : Sizes) (sizes : k ≡ c.config) where
  inv : Inv blank a
  inv = reached_holds blank a reached

  -- redo writes the current page
  pub able : (a.served ≡ true → a.owner ≡ n) → Redoable c.disk a p n (all_records k c.disk)
  able own =
      record {
        read = stored_is_read_law c.config c.disk p a.disk a.log is.stored;
        comes =
            subst (λ (x : Sizes). redone (all_records x c.disk) p (page_of a.disk) ≡ page_of (current a)) (sym sizes)
            (redone_is_current_law c.config c.disk p a i.disk.logs is.stored (durable_law blank a inv)).0;
        low = inv.stores_hold.disk_is.old;
        own = own;
      }

  pub others : (q : ℕ) → q < k.nodes → (q == partition k p) ≡ false → AllByRecursion (λ (x : ℕ). x ≢ p) (pages_of k q)
  others q low differs =
      all_weaker (bytes.IsPageOf k q) (λ (x : ℕ). x ≢ p)
      (λ x of same.
      (let here : q ≡ partition k p = sym of.1 ∙ ap (partition k) same in
      let bad : (q == partition k p) ≡ true = grind (arith, nat_tests, here) in
      absurd (cc)))
      (pages_of k q) (pages_are k q low)

  -- each page of the database is once in its partition
  pub pages_once : (q : ℕ) → ArePages (pages_of k q)
  pages_once q = partition_once k q (subst (λ (x : Sizes). 1 ≤ x.nodes) (sym sizes) i.limits.some_nodes)

  -- redo of a partition
  module _ (q : ℕ) (low : q < k.nodes) where
    abbrev each : ℕ → Work → Outcome Work
    each = redo_page (all_records k c.disk) q

    redone_may : (q ≡ partition k p → a.served ≡ true → a.owner ≡ n) → (w : Work) → Untouched c.disk p w → On (May a p n) (for_each each (pages_of k q) w)
    redone_may own w u = by (q == partition k p) refl
      where
        by : (b : Bool) → (q == partition k p) ≡ b → On (May a p n) (for_each each (pages_of k q) w)
        by true e =
            walked (λ (x : ℕ). ⊤) (Untouched c.disk p) (May a p n) p each (λ y v. elsewhere v.none) (λ x y any. away_untouched c.disk p (all_records k c.disk) q x y)
            (λ x y any. away_may c.disk p (all_records k c.disk) q a n x y) (λ y v. here_may c.disk p (all_records k c.disk) q a n y (able (own (eqb-true q (partition k p) e))) v)
            (pages_of k q) (all_any (pages_of k q)) (pages_once q) w u
        by false e =
            on_more (Untouched c.disk p) (May a p n) (for_each each (pages_of k q) w) (λ y v. elsewhere v.none)
            (on_each (Untouched c.disk p) (λ (x : ℕ). x ≢ p) each (λ x y other v. away_untouched c.disk p (all_records k c.disk) q x y other v) (pages_of k q) (others q low e) w u)

  -- settling writes nothing
  pub settled_may : (q : ℕ) (w : Work) → May a p n w → On (May a p n) (settle_all q w)
  settled_may q w may =
      all_settle (λ calls pages tables config number view. MayWrite a p n calls) q (λ (x : ℕ). ⊤) (λ y m. all_any (pages_of y.node.home.config q)) (λ x t y f m. m) w may

-- a table that is complete is redone and served
pub complete_may : (blank : List ℕ) (c : Cluster) (n p : ℕ) (a : Page) → IsCluster c → Reached blank a → IsPageOf c p a → (q : ℕ) (w : Work) → w.node.home.config ≡ c.config → q < c.config.nodes → Untouched c.disk p w
    → (is_complete w.node.view q (table_at w.node q) ≡ true → q ≡ partition c.config p → a.served ≡ true → a.owner ≡ n) → On (May a p n) (complete c.disk q w)
unfolding complete
complete_may blank c n p a i reached is q w sizes low u own = by (is_complete w.node.view q (table_at w.node q)) refl
  where
    by : (b : Bool) → is_complete w.node.view q (table_at w.node q) ≡ b → On (May a p n) (complete_if b c.disk q w)
    by false e = elsewhere u.none
    by true e =
        on_then (May a p n) (May a p n) (for_each (redo_page (all_records w.node.home.config c.disk) q) (pages_of w.node.home.config q) w) (begin_serving q)
        (redone_may blank c n p a i reached is w.node.home.config sizes q (subst (λ (x : Sizes). q < x.nodes) (sym sizes) low)
        (λ at. own e (at ∙ ap (λ (x : Sizes). partition x p) sizes)) w u)
        (λ y may. settled_may blank c n p a i reached is w.node.home.config sizes q _ may)
