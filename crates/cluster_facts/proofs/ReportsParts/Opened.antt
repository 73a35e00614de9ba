-- What is known of reports holds in the opening cluster.
use Rattle.std.proofs.Common.{◌≡◌, inl, inr, refl, sym, ap, subst, ◌∙◌, ℕ, zero, suc, ◌+◌, ◌<◌, true, false, List, [], map, replicate, slice_index, slice_index_or, Option, Some, None, arith}
use Rattle.std.proofs.lemmas.List.{length-replicate}
use Rattle.std.specs.Prelude.{IfSome}
use Rattle.std.specs.List.{filter}
use Rattle.pcl_base.specs.Limits.{Sizes}
use Rattle.pcl_base.specs.declared.message.Message.{Message}
use Rattle.run_rules.specs.Views.{first, count_from}
use Rattle.node_rules.specs.LockTable.{LockTable, open_table}
use Rattle.node_rules.specs.NodeState.{NodeState, first_node, table_at}
use Rattle.node_laws.proofs.Lists.{set_look, set_same}
use Rattle.cluster_rules.specs.Clusters.{opening, node_at, view_of_epoch}
use Rattle.cluster_rules.specs.Links.{link_at}
use Rattle.cluster_laws.proofs.Lists.{look_counted, look_same}
use Rattle.cluster_laws.specs.Era.Eras.{era_at, owner_at}
use Rattle.cluster_laws.specs.Link.Coming.{Stands}
use Rattle.cluster_laws.specs.Link.Orders.{AreOrdered}
use Rattle.cluster_laws.proofs.LinkParts.Linked.{empty_links_law}
use Rattle.cluster_facts.specs.Reports.Reported.{asks_of, HasTaken, TakenIn, IsOwed, IsReported}
use Rattle.cluster_facts.specs.Reports.ReportLaws.{OpeningHasReports}

counted : (n a q : ℕ) → q < n → slice_index (count_from a n) q ≡ a + q
unfolding count_from
counted zero a q low = absurd (omega (arith, low))
counted (suc n) a zero low = omega arith
counted (suc n) a (suc q) low = let rest = counted n (a + 1) q (omega (arith, low)) in omega (arith, rest)

made_at : {X : Type 0} (f : ℕ → X) (d : X) (n a i : ℕ) → i < n → slice_index_or (map f (count_from a n)) i d ≡ f (a + i)
unfolding count_from
made_at f d zero a i low = absurd (omega (arith, low))
made_at f d (suc n) a zero low = ap f (omega arith)
made_at f d (suc n) a (suc i) low = made_at f d n (a + 1) i (omega (arith, low)) ∙ ap f (omega arith)

module _ (c : Sizes) where
  no_links : (a b : ℕ) → link_at (opening c).links a b ≡ []
  unfolding opening
  no_links a b = empty_links_law c.nodes a b

  -- each node is at view 1, and what tables it has serve
  pub first_all : (Q : NodeState → Type 0) → ((k : ℕ) → Q (first_node c k)) → (n : ℕ) → IfSome (node_at (opening c) n) Q
  unfolding opening
  first_all Q all n = look_counted (λ j (o : Option NodeState). IfSome o Q) None (λ k. Some (first_node c k)) c.nodes 0 n (λ j low. all (0 + j)) (λ j. tt)

  pub all_serve : (n q : ℕ) (s : NodeState) (t : LockTable) → node_at (opening c) n ≡ Some s → table_at s q ≡ Some t → t.serving ≡ true
  unfolding first_node open_table
  all_serve n q s t up there =
      subst (λ (o : Option LockTable). IfSome o (λ t. t.serving ≡ true)) there
      (subst (λ (o : Option NodeState). IfSome o (λ s. IfSome (table_at s q) (λ t. t.serving ≡ true))) up (first_all (λ s. IfSome (table_at s q) (λ t. t.serving ≡ true)) each n))
    where
      each : (k : ℕ) → IfSome (table_at (first_node c k) q) (λ t. t.serving ≡ true)
      each k =
          set_look (λ (o : Option LockTable). IfSome o (λ t. t.serving ≡ true)) None (replicate c.nodes None) k q (Some (open_table c k true)) (λ same. refl)
          (look_same (λ (o : Option LockTable). IfSome o (λ t. t.serving ≡ true)) c.nodes q None None tt tt)

  at_first : (n : ℕ) (s : NodeState) → node_at (opening c) n ≡ Some s → s.epoch ≡ 1
  unfolding first_node
  at_first n s up = subst (λ (o : Option NodeState). IfSome o (λ s. s.epoch ≡ 1)) up (first_all (λ s. s.epoch ≡ 1) (λ k. refl) n)

  opening_up : (n : ℕ) → n < c.nodes → node_at (opening c) n ≡ Some (first_node c n)
  unfolding opening
  opening_up n low = made_at (λ n. Some (first_node c n)) None c.nodes 0 n low ∙ ap (λ n. Some (first_node c n)) (omega arith)

  owner_one : (q : ℕ) → q < c.nodes → owner_at (opening c) q 1 ≡ q
  unfolding owner_at opening view_of_epoch
  owner_one q low = let is = counted c.nodes 0 q low in omega (arith, is)

  served : (q a : ℕ) → q < c.nodes → HasTaken q (era_at (opening c) q 1) a (first_node c q)
  unfolding first_node open_table era_at opening view_of_epoch
  served q a low =
      record {
        view = first c;
        there = refl;
        now = refl;
        table = open_table c q true;
        at = set_same None (replicate c.nodes None) q (Some (open_table c q true)) (subst (λ (k : ℕ). q < k) (sym (length-replicate c.nodes None)) low);
        marks = inl refl;
      }

  sizes : (opening c).config ≡ c
  unfolding opening
  sizes = refl

  reported : (a b q : ℕ) → IsOwed (opening c) a b q 1 → IsReported (opening c) a b q (era_at (opening c) q 1)
  reported a b q owed =
      let low : q < c.nodes = subst (λ (k : Sizes). q < k.nodes) sizes owed.low in
      let at : q ≡ b = sym (owner_one q low) ∙ owed.owner in
      inr (subst (λ (k : ℕ). TakenIn q (era_at (opening c) q 1) a (node_at (opening c) k)) at (subst (TakenIn q (era_at (opening c) q 1) a) (sym (opening_up q low)) (served q a low)))

  rebuilds : (n q : ℕ) (s : NodeState) (t : LockTable) → node_at (opening c) n ≡ Some s → table_at s q ≡ Some t → t.serving ≡ false → ⊥
  rebuilds n q s t up there rebuilt = let bad : true ≡ false = sym (all_serve n q s t up there) ∙ rebuilt in absurd (cc)

pub opening_has_reports_law : OpeningHasReports
opening_has_reports_law c =
    record {
      first = λ a b q. subst (λ (ms : List Message). AreOrdered 0 (filter (λ (m : Message). asks_of (opening c).config q m.body) ms)) (sym (no_links c a b)) tt;
      reached = λ n s v q t up view low there rebuilt. absurd (rebuilds c n q s t up there rebuilt);
      awaited = λ n s v q t m up view low there rebuilt has. absurd (rebuilds c n q s t up there rebuilt);
      viewed = λ a b q s up seen owed.
          subst (λ (k : ℕ). IsReported (opening c) a b q (era_at (opening c) q k)) (sym (at_first c a s up)) (reported c a b q (subst (IsOwed (opening c) a b q) (at_first c a s up) owed));
      sent = λ a b q m at owed. absurd (subst (λ (ms : List Message). Stands ms m) (no_links c a b) at);
    }
