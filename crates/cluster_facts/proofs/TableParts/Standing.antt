-- Who holds a page in a table, and who has a right there, in a related cluster.
use Rattle.std.proofs.Common.{◌≡◌, refl, sym, ap, subst, ◌∙◌, ℕ, ◌<◌, ◌==◌, ◌||◌, Bool, true, false, List, [], ◌∷◌, Option, Some, None}
use Rattle.std.specs.Prelude.{◌≢◌, IfSome}
use Rattle.std.specs.List.{AllByRecursion}
use Rattle.std.proofs.lemmas.Nat.{mod_below}
use Rattle.pcl_base.specs.Limits.{Sizes}
use Rattle.pcl_base.specs.declared.lock.Holder.{Holder}
use Rattle.pcl_base.specs.declared.lock.RightMark.{RightMark}
use Rattle.pcl_base.specs.declared.tx.TxId.{TxId}
use Rattle.run_rules.specs.Views.{View, is_live, since_of}
use Rattle.node_rules.specs.LockRule.{mode_of, has_right}
use Rattle.node_rules.specs.LockTable.{PageEntry, LockTable, entry_in, entry_at}
use Rattle.node_rules.specs.NodeState.{NodeState, table_at, partition}
use Rattle.node_rules.specs.Words.{pick, same_tx}
use Rattle.home_laws.proofs.Tests.{number_equal, tx_equal}
use Rattle.cluster_rules.specs.Clusters.{Cluster}
use Rattle.cluster_laws.specs.Sound.{IsMember, IsCluster}
use Rattle.cluster_laws.proofs.Steps.{up_is_member_law}
use Rattle.cluster_laws.specs.Era.Eras.{era_in}
use Rattle.page_protocol.specs.State.{Page}
use Rattle.page_relation.specs.Relation.{IsPageOf}
use Rattle.page_relation.specs.Tables.{IsServed, IsRebuilt, TableIs, TableIn, TableOf}
use Rattle.related_runs.specs.Parties.{IsLiving}
use Rattle.cluster_facts.specs.Table.Lives.{EntryLives, TableLives, TablesHaveLives, HaveTableLives, IsTableOf, HoldersAreLiving, RightsAreLiving, ListedAreLiving, GatheredAreLiving}

-- who holds is among the holders, and who has a right among the rights
held_one : (P : TxId → Type 0) (hs : List Holder) (u : TxId) → AllByRecursion (λ (h : Holder). P h.tx) hs → mode_of hs u ≢ None → P u
unfolding mode_of
held_one P [] u all some = absurd (some refl)
held_one P (h ∷ hs) u all some = by (same_tx h.tx u) refl some (held_one P hs u all.1)
  where
    by : (b : Bool) → same_tx h.tx u ≡ b → pick b (Some h.mode) (mode_of hs u) ≢ None → (mode_of hs u ≢ None → P u) → P u
    by true e there rest = subst P (tx_equal h.tx u e) all.0
    by false e there rest = rest there

right_one : (R : ℕ → Type 0) (rs : List RightMark) (m : ℕ) → AllByRecursion (λ (r : RightMark). R r.node) rs → has_right rs m ≡ true → R m
right_one R [] m all has = absurd (cc)
right_one R (r ∷ rs) m all has = by (r.node == m) refl has (right_one R rs m all.1)
  where
    by : (b : Bool) → (r.node == m) ≡ b → b || has_right rs m ≡ true → (has_right rs m ≡ true → R m) → R m
    by true e there rest = subst R (number_equal r.node m e) all.0
    by false e there rest = rest there

entry_one : (v : View) (xs : List PageEntry) (p : ℕ) → AllByRecursion (λ (x : PageEntry). EntryLives v x.entry) xs → EntryLives v (entry_in xs p)
unfolding entry_in
entry_one v [] p all = (tt, tt)
entry_one v (x ∷ xs) p all = by (x.page == p) (entry_one v xs p all.1)
  where
    by : (b : Bool) → EntryLives v (entry_in xs p) → EntryLives v (pick b x.entry (entry_in xs p))
    by true rest = all.0
    by false rest = rest

module _ (c : Cluster) (p n : ℕ) (s : NodeState) (v : View) (t : LockTable) (i : IsCluster c) (lives : HaveTableLives c) (is : IsTableOf c p n s v t) where
  member : IsMember c.config c.views n s
  member = (up_is_member_law c n s i is.up).1

  low : partition c.config p < s.home.config.nodes
  low =
      subst (λ (k : Sizes). partition k p < s.home.config.nodes) member.config (mod_below p s.home.config.nodes member.sound.limits.some_nodes)

  tables : TablesHaveLives s
  tables = subst (λ (o : Option NodeState). IfSome o TablesHaveLives) is.up (lives n)

  table : TableLives v t
  table =
      subst (λ (o : Option LockTable). IfSome o (TableLives v)) is.table
      ((subst (λ (o : Option View). IfSome o (λ u. (q : ℕ) → q < s.home.config.nodes → IfSome (table_at s q) (TableLives u))) is.view tables) (partition c.config p) low)

  entry : EntryLives v (entry_at t p)
  entry = entry_one v t.entries p table

pub holders_are_living_law : HoldersAreLiving
holders_are_living_law c p n s v t i lives is u some = held_one (IsLiving v) (entry_at t p).holders u (entry c p n s v t i lives is).0 some

pub rights_are_living_law : RightsAreLiving
rights_are_living_law c p n s v t i lives is m has =
    right_one (λ (k : ℕ). is_live v.live k ≡ true) (entry_at t p).rights m (entry c p n s v t i lives is).1 has

-- what the relation says of the table
table_is : (c : Cluster) (p : ℕ) (a : Page) (n : ℕ) (s : NodeState) (v : View) (t : LockTable) → IsPageOf c p a → IsTableOf c p n s v t → (b : Bool) → t.serving ≡ b
    → TableIs a p n (since_of v (partition c.config p)) b t
table_is c p a n s v t page is b serves =
    subst (λ (x : Bool). TableIs a p n (since_of v (partition c.config p)) x t) serves
    (subst (λ (o : Option View). TableIs a p n (era_in o (partition c.config p)) t.serving t) is.view
    (subst (TableIn a p n (era_in s.view (partition c.config p))) is.table
    (subst (TableOf a p (partition c.config p) n) is.up (page.tables.tables n))))

pub listed_are_living_law : ListedAreLiving
listed_are_living_law c p a n s v t i lives page is serves u listed =
    holders_are_living_law c p n s v t i lives is u (λ none. listed (sym (served.holders u) ∙ none))
  where
    served : IsServed a.served a.owner a.era a.entry a.listed a.right a.reached a.home n (since_of v (partition c.config p)) (entry_at t p)
    served = table_is c p a n s v t page is true serves

pub gathered_are_living_law : GatheredAreLiving
gathered_are_living_law c p a n s v t i lives page is serves u reported listed =
    holders_are_living_law c p n s v t i lives is u (λ none. listed (sym same ∙ none))
  where
    rebuilt : IsRebuilt a.era a.listed a.right a.reached a.home (since_of v (partition c.config p)) t (entry_at t p)
    rebuilt = table_is c p a n s v t page is false serves

    same : mode_of (entry_at t p).holders u ≡ a.listed u (since_of v (partition c.config p))
    same = rebuilt.holders u ∙ ap (λ (b : Bool). pick b (a.listed u (since_of v (partition c.config p))) None) reported
