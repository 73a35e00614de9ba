-- Births that are known before the turn of the page's partition.
use Rattle.std.proofs.Common.{◌≡◌, inl, inr, refl, ap, sym, subst, ◌∙◌, ℕ, ◌+◌, ◌<◌, ◌≤◌, ◌==◌, Bool, true, false, List, Option, Some, None, is_some, arith, eqb-true}
use Rattle.std.specs.Prelude.{◌⊎◌}
use Rattle.pcl_base.specs.declared.event.Event.{Event}
use Rattle.pcl_base.specs.declared.tx.TxId.{TxId}
use Rattle.run_rules.specs.Views.{View, born_of, since_of}
use Rattle.node_rules.specs.LockTable.{LockTable}
use Rattle.node_rules.specs.NodeState.{NodeState, number_of, partition, table_at}
use Rattle.node_rules.specs.Shelf as shelf
use Rattle.node_rules.specs.Shelf.{right_on}
use Rattle.node_rules.specs.Words.{pick}
use Rattle.node_rules.specs.Work.{Work}
use Rattle.cluster_rules.specs.Clusters.{Cluster, node_at}
use Rattle.cluster_laws.specs.Era.Eras.{era_at, era_in, life_in, life_of}
use Rattle.cluster_laws.proofs.EraParts.Ages.{era_is, eras_are_reached_law, eras_never_fall_law, since_upto}
use Rattle.cluster_laws.proofs.EraParts.Nexts.{order}
use Rattle.cluster_facts.specs.Known.Births.{KnownBirth}
use Rattle.page_laws.specs.Look.Ends.{version_of_right}
use Rattle.page_laws.specs.Moment.Looks.{accesses_in}
use Rattle.page_relation.specs.Looks.{shelf_in}
use Rattle.settle_relation.specs.Midway.{IsMidway}
use Rattle.page_relation.specs.Work.Landing.{land, trace_of}
use Rattle.page_relation.proofs.WorkParts.Landed.{landing_is_seen_law}
use Rattle.report_relation.specs.Bury.Whole.{ReadersAreBorn, UsersAreBorn}
use Rattle.install_relation.specs.Installing.{numbers_at}
use Rattle.install_relation.proofs.Begun as begun
use Rattle.whole_runs.specs.Install.Turns.{IsTurn}
use Rattle.whole_runs.proofs.InstallParts.Entering.{enters_as}
use Rattle.whole_runs.proofs.InstallParts.Standing.{acts, cluster, epoch, old_epoch, old_whole, since_stays, there}

-- the life of a node in a view
life_viewed : (r : NodeState) → is_some r.view ≡ true → life_of r ≡ r.home.txs.born
life_viewed r on = by r.view on
  where
    by : (o : Option View) → is_some o ≡ true → life_in r o ≡ r.home.txs.born
    by None on = absurd (cc)
    by (Some v) on = refl

some_viewed : (o : Option View) → is_some o ≡ true → (u : View) × (o ≡ Some u)
some_viewed None on = absurd (cc)
some_viewed (Some u) on = (u, refl)

module _ (blank : List ℕ) (c : Cluster) (e : Event) (n p : ℕ) (s : NodeState) (v : View) (w : Work) (i : IsTurn blank c e n p s v w) where
  abbrev q : ℕ
  q = partition c.config p

  late : v.epoch ≡ s.epoch + 1
  late = epoch blank c e n p s v w i

  -- known births are below a new era
  pub new_bound : (since_of v q == v.epoch) ≡ true → (b : ℕ) → KnownBirth c q b → b < v.epoch
  new_bound new b known = by (order b v.epoch)
    where
      by : (b < v.epoch) ⊎ (v.epoch ≤ b) → b < v.epoch
      by (inl less) = less
      by (inr most) =
          let rises = eras_never_fall_law c q v.epoch b (cluster blank c e n p s v w i) most known.made in
          let own : era_at c q v.epoch ≡ v.epoch = era_is c v.epoch v (there blank c e n p s v w i) q ∙ eqb-true (since_of v q) v.epoch new in
          let near = known.reached n s i.install.handed.up in
          let below = eras_are_reached_law c q s.epoch (cluster blank c e n p s v w i) in
          let next = late in
          absurd (omega (arith, rises, own, near, below, next))

  -- and below the new epoch, where the node goes on with its table
  pub kept_bound : (old : View) → s.view ≡ Some old → (t : LockTable) → table_at s q ≡ Some t → (b : ℕ) → KnownBirth c q b → b < v.epoch
  kept_bound old view t at b known = by t.serving refl
    where
      next : v.epoch ≡ s.epoch + 1
      next = late

      by : (d : Bool) → t.serving ≡ d → b < v.epoch
      by true on = let upto = known.served n s t i.install.handed.up at on in omega (arith, upto, next)
      by false off =
          let less : b < since_of old q = subst (λ (o : Option View). b < era_in o q) view (known.rebuilt n s t i.install.handed.up at off) in
          let upto = since_upto c.config old q (old_whole blank c e n p s v w i old view) in
          let same = old_epoch blank c e n p s v w i old view in
          omega (arith, less, upto, same, next)

  -- and below its era, where that is being rebuilt
  pub early_bound : (old : View) → s.view ≡ Some old → (since_of v q == v.epoch) ≡ false → (t : LockTable) → table_at s q ≡ Some t → t.serving ≡ false → (b : ℕ) → KnownBirth c q b → b < since_of v q
  early_bound old view older t at off b known =
      subst (λ (k : ℕ). b < k) (sym (since_stays blank c e n p s v w i old view older))
      (subst (λ (o : Option View). b < era_in o q) view (known.rebuilt n s t i.install.handed.up at off))

  -- ---- a work of the step

  module _ (x : Work) (era : ℕ) (bound : (b : ℕ) → KnownBirth c q b → b < era) where
    pub users_born : ((t : TxId) → accesses_in t p (trace_of c e n x) ≡ accesses_in t p c.trace) → UsersAreBorn c e n p x era
    users_born told t used =
        bound t.born
        (i.facts.births.accessed t p i.low
        (λ none. used (ap (accesses_in t p) (landing_is_seen_law c e n x (acts blank c e n p s v w i)).trace ∙ (told t ∙ none))))

    pub readers_born : ((shelf_in (Some x.node) p ≡ None → ⊥) → life_of x.node < era) → ReadersAreBorn c e n p x era
    readers_born own m r up shelf = by (m == n) refl
      where
        by : (b : Bool) → (m == n) ≡ b → life_of r < era
        by true test =
            let same : m ≡ n = eqb-true m n test in
            let both : Some x.node ≡ Some r = sym (landing_is_seen_law c e n x (acts blank c e n p s v w i)).node ∙ subst (λ (k : ℕ). node_at (land c e n x) k ≡ Some r) same up in
            let node : x.node ≡ r = cc in
            subst (λ (k : NodeState). life_of k < era) node (own (λ none. shelf (sym (ap (λ (k : NodeState). shelf_in (Some k) p) node) ∙ none)))
        by false other =
            let has = i.facts.births.shelves m r p (sym ((landing_is_seen_law c e n x (acts blank c e n p s v w i)).others m other) ∙ up) i.low (λ none. shelf (ap version_of_right none)) in
            subst (λ (k : ℕ). k < era) (sym (life_viewed r has.0)) (bound r.home.txs.born has.1)

  -- the node itself, with the shelf that it had
  pub own_born : (k era : ℕ) → IsMidway (numbers_at s v k) c e n w → ((b : ℕ) → KnownBirth c q b → b < era) → (shelf_in (Some w.node) p ≡ None → ⊥) → life_of w.node < era
  own_born k era m bound some =
      subst (λ (b : ℕ). b < era) (sym (life_viewed w.node (ap (λ (o : Option View). is_some o) m.good.view) ∙ (m.good.home.born ∙ ap (λ (t : Bool). pick t v.epoch s.home.txs.born) (goes_on viewed.0 viewed.1))))
      (bound s.home.txs.born has.1)
    where
      right : version_of_right (right_on w.node.home.shelf p) ≡ version_of_right (right_on s.home.shelf p)
      right = i.waits.unseen.page.right ∙ ap (λ (rs : List shelf.Right). version_of_right (right_on rs p)) (enters_as c s v).shelf

      has : (is_some s.view ≡ true) × KnownBirth c q s.home.txs.born
      has = i.facts.births.shelves n s p i.install.handed.up i.low (λ none. some (right ∙ ap version_of_right none))

      viewed : (u : View) × (s.view ≡ Some u)
      viewed = some_viewed s.view has.0

      goes_on : (u : View) → s.view ≡ Some u → (born_of v (number_of s) == v.epoch) ≡ false
      goes_on = (begun.installs c e n s v i.install).goes_on
