-- What holds of every node, once a view is installed, and of one that may only be lost.
use Rattle.std.proofs.Common.{◌≡◌, ℕ, suc, zero, ◌+◌, ◌<◌, ◌≤◌, ◌==◌, ◌&&◌, not, Bool, true, false, List, [], ◌∷◌, length, replicate, Option, Some, None, refl, ap, sym, subst, ◌∙◌, arith, is_some}
use Rattle.std.specs.Prelude.{◌≢◌, IfSome, slice_index_or, slice_set, nat_lt}
use Rattle.std.specs.Option.{option_map}
use Rattle.std.proofs.lemmas.Bool.Decides.{nat_tests}
use Rattle.std.proofs.lemmas.List.{get_or-set_other, length-map}
use Rattle.pcl_base.specs.Limits.{Sizes}
use Rattle.pcl_base.specs.declared.reply.Reason.TheVariants as reason
use Rattle.run_rules.specs.Views.{View, owner_of}
use Rattle.node_rules.specs.LockTable.{LockTable}
use Rattle.node_rules.specs.NodeState.{NodeState, Install, number_of, start_node}
use Rattle.node_rules.specs.Refusals.{may_install, refusal, refuse_if}
use Rattle.lock_table.specs.Tables.{TableView, table_of}
use Rattle.node_parts.specs.State.{AreParts, IsNode, IsViewAt, PartsView, node_of, owns}
use Rattle.node_parts.specs.Tables.{TablesView, lock_tables, place_at}
use Rattle.node_parts.proofs.Begun.{start_is_node, tables_none, tidy_none}
use Rattle.page_owner.specs.Carry.{SameNode}
use Rattle.page_owner.specs.Planned.{SameView}
use Rattle.install_plans.specs.declared.plan.InstallPlan.{InstallPlan}
use Rattle.install_plans.specs.declared.plan.PartitionPlan.{PartitionPlan}
use Rattle.install_plans.specs.declared.plan.TableAfter.{TableAfter}
use Rattle.install_plans.specs.declared.plan.TableAfter.TheVariants.{AsBefore, Is, Gone}
use Rattle.install_plans.proofs.Reading.{table_there}
use Rattle.partition_steps.specs.Carried.{AreTurning, place_after}
use Rattle.install_steps.specs.Births.{entered, is_born_in}
use Rattle.install_steps.specs.Calls.{places_after}
use Rattle.install_steps.specs.Ready.{IsApt}
use Rattle.install_steps.specs.Views.{AreAptFrom, ends_with_table, stands_after}

-- what holds of every node holds while its partitions are turned over
pub parts_turning : (v : PartsView) → AreParts v → AreTurning v
parts_turning v parts = record { number = parts.number; below = let low = parts.node.number in let me = parts.number in omega (arith, low, me); config = parts.config; tidy = parts.tidy }

-- a node in no view without a table
module _ (v : PartsView) (e : ℕ) (turning : AreTurning v) where
  abbrev pub left : PartsView
  left = record { me = v.me; home = v.home; epoch = e; view = None; tables = record { config = v.home.config; places = replicate v.home.config.nodes None } }

  left_node : IsNode (node_of left)
  unfolding start_node
  left_node =
      let low = turning.below in
      let me = turning.number in
      let start : IsNode (start_node v.home.config v.me e) = start_is_node v.home.config v.me e low in
      let none : lock_tables (replicate v.home.config.nodes None) ≡ replicate v.home.config.nodes None = tables_none v.home.config.nodes in
      record {
        number = omega (arith, low, me);
        view = tt;
        born = λ is. absurd (cc);
        places = ap length none ∙ start.places;
        owned = λ q within. ap (λ (ts : List (Option LockTable)). is_some (slice_index_or ts q None)) none ∙ start.owned q within;
      }

  pub left_parts : AreParts left
  left_parts = record { node = left_node; number = turning.number; config = refl; tidy = tidy_none v.home.config v.home.config.nodes }

-- whether a table stands in a place after a plan
stands_there : (t : TableAfter) (o : Option TableView) → is_some (place_after t o) ≡ stands_after t (is_some o)
stands_there AsBefore o = refl
stands_there (Is u) o = refl
stands_there Gone o = refl

set_long : {X : Type 0} (xs : List X) (n : ℕ) (x : X) → length (slice_set xs n x) ≡ length xs
set_long [] n x = refl
set_long (y ∷ xs) zero x = refl
set_long (y ∷ xs) (suc n) x = ap suc (set_long xs n x)

set_there : {X : Type 0} (xs : List X) (n : ℕ) (x d : X) → n < length xs → slice_index_or (slice_set xs n x) n d ≡ x
set_there [] n x d within = absurd (omega arith)
set_there (y ∷ xs) zero x d within = refl
set_there (y ∷ xs) (suc n) x d within = set_there xs n x d (omega arith)

-- the places after plans are as many
pub places_long : (xs : List (ℕ × PartitionPlan)) (places : List (Option TableView)) → length (places_after xs places) ≡ length places
places_long [] places = refl
places_long (x ∷ xs) places = places_long xs (slice_set places x.0 (place_after x.1.table (place_at places x.0))) ∙ set_long places x.0 (place_after x.1.table (place_at places x.0))

module _ (v : PartsView) (w : View) where
  -- partitions before those of the plans have the place that they had
  before_plans : (k q : ℕ) (xs : List (ℕ × PartitionPlan)) (places : List (Option TableView)) → q < k → AreAptFrom v w k xs → place_at (places_after xs places) q ≡ place_at places q
  before_plans k q [] places less apt = refl
  before_plans k q (x ∷ xs) places less apt =
      let number = apt.0.number in
      let other : q ≢ x.0 = λ same. absurd (omega (arith, same, number, less)) in
      before_plans (k + 1) q xs (slice_set places x.0 (place_after x.1.table (place_at places x.0))) (omega arith) apt.1
      ∙ get_or-set_other places x.0 q (place_after x.1.table (place_at places x.0)) None other

  -- each partition of the plans has a table where the node owns it
  pub after_plans : (k q : ℕ) (xs : List (ℕ × PartitionPlan)) (places : List (Option TableView)) → length places ≡ v.home.config.nodes → ((r : ℕ) → k ≤ r → place_at places r ≡ place_at v.tables.places r)
      → k ≤ q → q < k + length xs → AreAptFrom v w k xs → is_some (place_at (places_after xs places) q) ≡ (owner_of w q == v.me)
  after_plans k q [] places long same low high apt = absurd (omega arith)
  after_plans k q (x ∷ xs) places long same low high apt = by (q == k) refl (after_plans (k + 1) q xs (slice_set places x.0 (place_after x.1.table (place_at places x.0))))
    where
      later : List (Option TableView)
      later = slice_set places x.0 (place_after x.1.table (place_at places x.0))

      here : q ≡ k → is_some (place_at (places_after xs later) q) ≡ (owner_of w q == v.me)
      here is =
          let number = apt.0.number in
          let below = apt.0.below in
          let at : x.0 ≡ q = omega (arith, number, is) in
          let within : x.0 < length places = omega (arith, number, below, long) in
          ap is_some (before_plans (k + 1) q xs later (omega (arith, is)) apt.1 ∙ ap (place_at later) (sym at) ∙ set_there places x.0 (place_after x.1.table (place_at places x.0)) None within)
          ∙ stands_there x.1.table (place_at places x.0)
          ∙ ap (λ (o : Option TableView). stands_after x.1.table (is_some o)) (same x.0 (omega (arith, number)) ∙ ap (place_at v.tables.places) number)
          ∙ apt.0.table
          ∙ ap (λ (n : ℕ). owner_of w n == v.me) (sym is)

      by : (b : Bool) → (q == k) ≡ b
          → (length later ≡ v.home.config.nodes → ((r : ℕ) → k + 1 ≤ r → place_at later r ≡ place_at v.tables.places r) → k + 1 ≤ q → q < k + 1 + length xs → AreAptFrom v w (k + 1) xs → is_some (place_at (places_after xs later) q) ≡ (owner_of w q == v.me))
          → is_some (place_at (places_after xs later) q) ≡ (owner_of w q == v.me)
      by true is again = here (grind (arith, nat_tests))
      by false is again =
          let number = apt.0.number in
          let apart : q ≢ k = grind (arith, nat_tests) in
          again (set_long places x.0 (place_after x.1.table (place_at places x.0)) ∙ long)
          (λ r above. get_or-set_other places x.0 r (place_after x.1.table (place_at places x.0)) None (λ at. absurd (omega (arith, at, number, above))) ∙ same r (omega arith))
          (omega (arith, apart, low)) (omega (arith, high)) apt.1

-- a node in no view is born in the first view that it installs
pub first_is_birth : (n : NodeState) (w : View) → refusal n (Install w) ≡ None → n.view ≡ None → is_born_in w n ≡ true
unfolding refusal
first_is_birth n w none view = both (is_born_in w n) (nat_lt n.epoch w.epoch) _ (ap (λ o. may_install n o w) (sym view) ∙ allowed (may_install n n.view w) none)
  where
    allowed : (b : Bool) → refuse_if (not b) reason.NoView None ≡ None → b ≡ true
    allowed true is = refl
    allowed false is = absurd (cc)

    both : (a b c : Bool) → ((a && b) && c) ≡ true → a ≡ true
    both true b c is = refl
    both false b c is = absurd (cc)

-- a view that was installed: the parts before, once the node is in it, and then
pub record IsInstalled (v m w : PartsView) (view : View) (b : Bool) (p : InstallPlan) : Type 0 where
  pub parts : AreParts v
  pub nodes : length view.live ≡ v.home.config.nodes
  pub none : refusal (node_of v) (Install view) ≡ None
  pub born : b ≡ is_born_in view (node_of v)
  pub later : 1 ≤ view.epoch
  pub entering : node_of m ≡ entered b view (node_of v)
  pub me : m.me ≡ v.me
  pub epoch : m.epoch ≡ view.epoch
  pub viewed : m.view ≡ Some view
  pub tables : m.tables ≡ v.tables
  pub turning : AreTurning w
  pub places : w.tables.places ≡ places_after p.plans.items m.tables.places
  pub same_view : SameView m w
  pub same_node : SameNode m.home w.home
  pub apt : IsApt v view p
  pub whole : p.differs ≡ None

module _ (v m w : PartsView) (view : View) (b : Bool) (p : InstallPlan) (is : IsInstalled v m w view b p) where
  entered_config : (k : Bool) (n : NodeState) → (entered k view n).home.config ≡ n.home.config
  entered_config true n = refl
  entered_config false n = refl

  same_config : w.home.config ≡ v.home.config
  same_config = is.same_node.config ∙ (ap (λ (n : NodeState). n.home.config) is.entering ∙ entered_config b (node_of v))

  view_is : w.view ≡ Some view
  view_is = is.same_view.view ∙ is.viewed

  me_is : w.me ≡ v.me
  me_is = is.same_view.me ∙ is.me

  there_before : length v.tables.places ≡ v.home.config.nodes
  there_before = sym (length-map v.tables.places (option_map table_of)) ∙ is.parts.node.places

  places_are : w.tables.places ≡ places_after p.plans.items v.tables.places
  places_are = is.places ∙ ap (λ (t : TablesView). places_after p.plans.items t.places) is.tables

  born_later : (k : Bool) → b ≡ k → 1 ≤ (entered k view (node_of v)).home.txs.born
  born_later true at = is.later
  born_later false at = by v.view refl
    where
      by : (o : Option View) → v.view ≡ o → 1 ≤ v.home.txs.born
      by (Some u) there = is.parts.node.born (ap is_some there)
      by None there = let yes = first_is_birth (node_of v) view is.none there in let born = is.born in absurd (cc)

  mapped : (o : Option TableView) → is_some (option_map table_of o) ≡ is_some o
  mapped None = refl
  mapped (Some t) = refl

  installed_node : IsNode (node_of w)
  installed_node = record {
    number = let low = is.turning.below in let number = is.turning.number in omega (arith, low, number);
    view = subst (λ (o : Option View). IfSome o (IsViewAt w.home.config.nodes w.epoch)) (sym view_is)
        (record { each = is.nodes ∙ ap (λ (c : Sizes). c.nodes) (sym same_config); now = sym (is.same_view.epoch ∙ is.epoch) });
    born = λ some. subst (λ k. 1 ≤ k) (sym (is.same_node.born ∙ ap (λ (n : NodeState). n.home.txs.born) is.entering)) (born_later b refl);
    places = length-map w.tables.places (option_map table_of) ∙ (ap length places_are ∙ (places_long p.plans.items v.tables.places ∙ (there_before ∙ ap (λ (c : Sizes). c.nodes) (sym same_config))));
    owned = λ q low.
        let few : length p.plans.items ≡ v.home.config.nodes = is.apt.all is.whole in
        let nodes : w.home.config.nodes ≡ v.home.config.nodes = ap (λ (c : Sizes). c.nodes) same_config in
        let number : w.me ≡ number_of (node_of w) = is.turning.number in
        ap is_some (table_there w q (place_at w.tables.places q) refl)
        ∙ (mapped (place_at w.tables.places q)
        ∙ (ap (λ l. is_some (place_at l q)) places_are
        ∙ (after_plans v view 0 q p.plans.items v.tables.places there_before (λ r above. refl) (omega arith) (omega (arith, few, nodes, low)) is.apt.apt
        ∙ (ap (λ (n : ℕ). owner_of view q == n) (sym me_is ∙ number) ∙ ap (λ (o : Option View). owns o (number_of (node_of w)) q) (sym view_is)))));
  }

  -- what holds of every node holds then
  pub installed_parts : AreParts w
  installed_parts = record { node = installed_node; number = is.turning.number; config = is.turning.config; tidy = is.turning.tidy }

-- the same where the plan of a report was carried out
pub record IsReported (v w : PartsView) (q : ℕ) (p : PartitionPlan) : Type 0 where
  pub parts : AreParts v
  pub turning : AreTurning w
  pub places : w.tables.places ≡ slice_set v.tables.places q (place_after p.table (place_at v.tables.places q))
  pub same_view : SameView v w
  pub same_node : SameNode v.home w.home
  pub low : q < v.home.config.nodes
  pub keeps : ends_with_table v q p ≡ is_some (place_at v.tables.places q)

module _ (v w : PartsView) (q : ℕ) (p : PartitionPlan) (is : IsReported v w q p) where
  kept_places : length v.tables.places ≡ v.home.config.nodes
  kept_places = sym (length-map v.tables.places (option_map table_of)) ∙ is.parts.node.places

  stands_same : (r : ℕ) → is_some (place_at w.tables.places r) ≡ is_some (place_at v.tables.places r)
  stands_same r = ap (λ l. is_some (place_at l r)) is.places ∙ by (r == q) refl
    where
      after : Option TableView
      after = place_after p.table (place_at v.tables.places q)

      by : (b : Bool) → (r == q) ≡ b → is_some (place_at (slice_set v.tables.places q after) r) ≡ is_some (place_at v.tables.places r)
      by true at =
          let same : r ≡ q = grind (arith, nat_tests) in
          let low = is.low in
          let many = kept_places in
          ap (λ k. is_some (place_at (slice_set v.tables.places q after) k)) same
          ∙ (ap is_some (set_there v.tables.places q after None (omega (arith, low, many)))
          ∙ (stands_there p.table (place_at v.tables.places q) ∙ (is.keeps ∙ ap (λ k. is_some (place_at v.tables.places k)) (sym same))))
      by false at =
          let other : r ≢ q = grind (arith, nat_tests) in
          ap is_some (get_or-set_other v.tables.places q r after None other)

  same_table : (o : Option TableView) → is_some (option_map table_of o) ≡ is_some o
  same_table None = refl
  same_table (Some t) = refl

  reported_node : IsNode (node_of w)
  reported_node = record {
    number = let low = is.turning.below in let number = is.turning.number in omega (arith, low, number);
    view = subst (λ (o : Option View). IfSome o (IsViewAt w.home.config.nodes w.epoch)) (sym is.same_view.view)
        (subst (λ (k : ℕ). IfSome v.view (IsViewAt w.home.config.nodes k)) (sym is.same_view.epoch)
        (subst (λ (c : Sizes). IfSome v.view (IsViewAt c.nodes v.epoch)) (sym is.same_node.config) is.parts.node.view));
    born = λ some. subst (λ k. 1 ≤ k) (sym is.same_node.born) (is.parts.node.born (ap is_some (sym is.same_view.view) ∙ some));
    places = length-map w.tables.places (option_map table_of) ∙ (ap length is.places ∙ (set_long v.tables.places q (place_after p.table (place_at v.tables.places q)) ∙ (kept_places ∙ ap (λ (c : Sizes). c.nodes) (sym is.same_node.config))));
    owned = λ r low.
        let nodes : w.home.config.nodes ≡ v.home.config.nodes = ap (λ (c : Sizes). c.nodes) is.same_node.config in
        ap is_some (table_there w r (place_at w.tables.places r) refl)
        ∙ (same_table (place_at w.tables.places r)
        ∙ (stands_same r
        ∙ (sym (same_table (place_at v.tables.places r))
        ∙ (sym (ap is_some (table_there v r (place_at v.tables.places r) refl))
        ∙ (is.parts.node.owned r (omega (arith, low, nodes))
        ∙ (ap (λ (k : ℕ). owns v.view k r) (sym is.same_node.node) ∙ ap (λ (o : Option View). owns o (number_of (node_of w)) r) (sym is.same_view.view)))))));
  }

  pub reported_parts : AreParts w
  reported_parts = record { node = reported_node; number = is.turning.number; config = is.turning.config; tidy = is.turning.tidy }

-- the same of parts that are so
pub left_parts_of : (v w : PartsView) → AreTurning v → w ≡ (record { me = v.me; home = v.home; epoch = v.epoch; view = None; tables = record { config = v.home.config; places = replicate v.home.config.nodes None } }) → AreParts w
left_parts_of v w turning is = subst AreParts (sym is) (left_parts v v.epoch turning)
