-- Where a table misses no report, nobody else serves.
use Rattle.std.proofs.Common.{◌≡◌, ◌≢◌, refl, sym, ap, subst, ◌∙◌, ℕ, ◌<◌, ◌≤◌, ◌==◌, not, Bool, true, false, Option, Some, None, is_some, arith, eqb-true}
use Rattle.std.proofs.lemmas.Bool.Decides.{nat_tests}
use Rattle.pcl_base.specs.Limits.{Sizes}
use Rattle.run_rules.specs.Views.{View, since_of}
use Rattle.node_rules.specs.InstallRule.{owned_before, is_complete}
use Rattle.node_rules.specs.LockTable.{LockTable, marked}
use Rattle.node_rules.specs.NodeState.{NodeState, number_of, partition, table_at, is_serving}
use Rattle.node_rules.specs.Reports.{missing}
use Rattle.rule_laws.proofs.Turns.{and_right}
use Rattle.cluster_rules.specs.Clusters.{Cluster, node_at}
use Rattle.cluster_laws.specs.Sound.{IsMember}
use Rattle.cluster_laws.proofs.Steps.{up_is_member_law}
use Rattle.cluster_laws.specs.Era.Eras.{era_in, era_at}
use Rattle.cluster_laws.proofs.EraParts.Lives.{members_know_eras_law}
use Rattle.page_protocol.specs.State.{Page}
use Rattle.page_relation.specs.Relation.{IsPageOf}
use Rattle.page_relation.specs.Tables.{TableIs, TableIn, TableOf, ReachedBy, ReachedIn, serves_in}
use Rattle.page_relation.specs.Work.Landing.{Acts}
use Rattle.report_relation.specs.Completing.{HasAll}
use Rattle.report_relation.proofs.Reaching.{up_have_reached_law}

not_is : (b : Bool) → not b ≡ true → b ≡ false
not_is true e = absurd (cc)
not_is false e = refl

-- a table that is complete misses no report
pub misses_none : (o : Option View) (k : Option LockTable) (v : View) (t : LockTable) (q : ℕ) → o ≡ Some v → k ≡ Some t → is_complete o q k ≡ true → missing t v q ≡ false
misses_none o k v t q own there on =
    not_is (missing t v q)
    (and_right (not t.serving) (not (missing t v q))
    (sym (ap (λ (x : Option View). is_complete x q k) own ∙ ap (is_complete (Some v) q) there) ∙ on))

module _ (c : Cluster) (n p epoch : ℕ) (v : View) (t : LockTable) (a : Page) (acts : Acts c n) (low : partition c.config p < c.config.nodes) (is : IsPageOf c p a)
    (all : HasAll c n (partition c.config p) epoch v t) (later : a.era < since_of v (partition c.config p)) (marks : a.owner ≢ n → marked t a.owner ≡ true → a.era < a.reached a.owner) where
  abbrev q : ℕ
  q = partition c.config p

  member_of : (s : NodeState) → node_at c a.owner ≡ Some s → IsMember c.config c.views a.owner s
  member_of s up = (up_is_member_law c a.owner s acts.cluster up).1

  pub serves_alone : a.served ≡ true → a.owner ≡ n
  serves_alone on = by (a.owner == n) refl
    where
      -- the era of who serves is that of its view
      viewed : (s : NodeState) → node_at c a.owner ≡ Some s → (u : View) → s.view ≡ Some u → era_in s.view q ≡ a.era → a.reached a.owner ≡ since_of u q → a.owner ≢ n → ⊥
      viewed s up u own now reached other =
          let knows : era_at c q s.epoch ≡ since_of u q = (members_know_eras_law c a.owner s u (member_of s up) own).eras q in
          let era : era_in s.view q ≡ since_of u q = ap (λ (o : Option View). era_in o q) own in
          let high : since_of v q ≤ era_at c q s.epoch =
          up_have_reached_law c n q epoch v t a.owner s acts low all other up (λ on. (let more = marks other on in absurd (omega (arith, more, reached, era, now)))) in
          absurd (omega (arith, knows, era, now, high, later))

      served : (s : NodeState) → node_at c a.owner ≡ Some s → (u : LockTable) → table_at s q ≡ Some u → (b : Bool) → b ≡ true → TableIs a p a.owner (era_in s.view q) b u → (o : Option View) → s.view ≡ o
          → ReachedBy c q a.era s o (a.reached a.owner) → a.owner ≢ n → ⊥
      served s up u at true on table (Some k) own reached other = viewed s up k own table.now reached.0 other
      served s up u at true on table None own reached other =
          let none : is_some (table_at s q) ≡ false =
          (member_of s up).sound.owned q (subst (λ (x : Sizes). q < x.nodes) (sym (member_of s up).config) low) ∙ ap (λ (x : Option View). owned_before x q (number_of s)) own in
          let some : is_some (table_at s q) ≡ true = ap (λ (x : Option LockTable). is_some x) at in
          absurd (cc)
      served s up u at false on table o own reached other = absurd (cc)

      tabled : (s : NodeState) → node_at c a.owner ≡ Some s → (k : Option LockTable) → table_at s q ≡ k → is_serving k ≡ true → TableIn a p a.owner (era_in s.view q) k → ReachedBy c q a.era s s.view (a.reached a.owner)
          → a.owner ≢ n → ⊥
      tabled s up None at on table reached other = absurd (cc)
      tabled s up (Some u) at on table reached other = served s up u at u.serving on table s.view refl reached other

      there : (o : Option NodeState) → node_at c a.owner ≡ o → serves_in o q ≡ true → TableOf a p q a.owner o → ReachedIn c q a.era o (a.reached a.owner) → a.owner ≢ n → ⊥
      there None up on table reached other = absurd (cc)
      there (Some s) up on table reached other = tabled s up (table_at s q) refl on table reached other

      by : (b : Bool) → (a.owner == n) ≡ b → a.owner ≡ n
      by true same = eqb-true a.owner n same
      by false differs =
          absurd
          (there (node_at c a.owner) refl (is.tables.serving on) (is.tables.tables a.owner) (is.nodes.eras a.owner) (λ same. (let bad : (a.owner == n) ≡ true = grind (arith, nat_tests, same) in absurd (cc))))
