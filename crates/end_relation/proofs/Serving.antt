-- Whether the acting node serves the page.
use Rattle.std.proofs.Common.{◌≡◌, refl, sym, ap, subst, ◌∙◌, ℕ, ◌==◌, ◌&&◌, Bool, true, false, Option, Some, None, arith, eqb-true}
use Rattle.std.proofs.lemmas.Bool.Decides.{nat_tests}
use Rattle.node_rules.specs.LockTable.{LockTable}
use Rattle.node_rules.specs.NodeState.{NodeState, partition, table_at, is_serving}
use Rattle.cluster_rules.specs.Clusters.{Cluster, node_at}
use Rattle.cluster_laws.specs.Era.Eras.{era_in}
use Rattle.page_protocol.specs.State.{Page}
use Rattle.page_relation.specs.Relation.{IsPageOf}
use Rattle.page_relation.specs.Tables.{TableIs, TableIn, TableOf, serves_in}

-- a node serves the page where it is the owner that serves
pub serving_is : (d : Cluster) (n p : ℕ) (s : NodeState) (a : Page) → node_at d n ≡ Some s → IsPageOf d p a → is_serving (table_at s (partition d.config p)) ≡ (a.served && n == a.owner)
serving_is d n p s a up r = by (table_at s (partition d.config p)) refl
  where
    off : is_serving (table_at s (partition d.config p)) ≡ false → false ≡ (a.served && n == a.owner)
    off none = of a.served (n == a.owner) refl refl
      where
        of : (x y : Bool) → a.served ≡ x → (n == a.owner) ≡ y → false ≡ (x && y)
        of true true on here =
            let same : n ≡ a.owner = eqb-true n a.owner here in
            let serves : is_serving (table_at s (partition d.config p)) ≡ true =
            sym (ap (λ (o : Option NodeState). serves_in o (partition d.config p)) (ap (node_at d) (sym same) ∙ up)) ∙ r.tables.serving on in
            let bad : true ≡ false = sym serves ∙ none in
            absurd (cc)
        of true false on here = refl
        of false y on here = refl

    mine : TableOf a p (partition d.config p) n (Some s)
    mine = subst (TableOf a p (partition d.config p) n) up (r.tables.tables n)

    table : (b : LockTable) → table_at s (partition d.config p) ≡ Some b → (x : Bool) → b.serving ≡ x → x ≡ (a.served && n == a.owner)
    table b there true on =
        let is : TableIs a p n (era_in s.view (partition d.config p)) true b =
        subst (λ (x : Bool). TableIs a p n (era_in s.view (partition d.config p)) x b) on (subst (TableIn a p n (era_in s.view (partition d.config p))) there mine) in
        let at = is.here in
        let here : (n == a.owner) ≡ true = grind (arith, nat_tests, at) in
        sym (λ i. is.serves i && here i)
    table b there false none = off (ap is_serving there ∙ none)

    by : (o : Option LockTable) → table_at s (partition d.config p) ≡ o → is_serving o ≡ (a.served && n == a.owner)
    by None none = off (ap is_serving none)
    by (Some b) there = table b there b.serving refl
