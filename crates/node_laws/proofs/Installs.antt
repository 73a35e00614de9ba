-- A view that is installed, partition by partition, and a report that arrives.
use Rattle.std.proofs.Common.{◌≡◌, refl, ap, subst, ◌∙◌, sym, ℕ, zero, suc, ◌+◌, ◌<◌, ◌≤◌, ◌==◌, nat_lt, not, Bool, true, false, List, length, Option, Some, None, is_some, arith, slice_set}
use Rattle.std.specs.Prelude.{IfSome, ◌≢◌}
use Rattle.std.proofs.lemmas.Bool.Decides.{nat_tests}
use Rattle.pcl_base.specs.Limits.{Sizes, InLimits}
use Rattle.pcl_base.specs.declared.message.Body.TheVariants as body
use Rattle.pcl_base.specs.declared.message.Report.{Report}
use Rattle.text_rules.specs.MessageBytes.{IsBody}
use Rattle.run_rules.specs.Disk.{Disk}
use Rattle.run_rules.specs.Views.{View, owner_of, since_of, count_from}
use Rattle.rule_laws.specs.LaterViews.{IsWhole}
use Rattle.node_rules.specs.Words.{pick}
use Rattle.node_rules.specs.LockTable.{LockTable, open_table}
use Rattle.node_rules.specs.NodeState.{NodeState, HomeState, number_of, partition, table_at, put_table}
use Rattle.node_rules.specs.Reports.{gather, report, own_report}
use Rattle.node_rules.specs.Work.{Work, for_each, with_node}
use Rattle.node_rules.specs.InstallRule.{take_over, new_table, get_partition, owned_before, left_if, send_report, tell_new_owner, install_by, install_partition, take_report, on_report_in, on_report}
use Rattle.home_laws.specs.Homes.{IsHome}
use Rattle.home_laws.proofs.Partitions.{take_over_is_sound_law}
use Rattle.home_laws.proofs.Given.{give_up_is_sound_law}
use Rattle.step_laws.proofs.Outcomes.{On, on_then}
use Rattle.node_laws.specs.Nodes.{AreRights, IsTable, IsOther}
use Rattle.node_laws.proofs.Lists.{set_at, set_length}
use Rattle.node_laws.proofs.Tables.{open_is, gather_is, gather_own_is}
use Rattle.node_laws.proofs.Shelves.{left_are}
use Rattle.node_laws.proofs.Listed.{own_locks, own_waits, own_rights, report_is}
use Rattle.node_laws.proofs.Works.{Base, IsBase, IsHomeOf, AreTables, IsGood, has_table, good_table, good_send}
use Rattle.node_laws.proofs.Redoing.{complete_good, keep_good}
use Rattle.node_laws.proofs.Views.{KeepsOwners}

-- the numbers of a node that has tables elsewhere
abbrev pub at : Base → (ℕ → Bool) → Base
at b g = record b { has = g }

-- where a node has tables when the partitions below k are done
abbrev pub upto : Option View → View → ℕ → ℕ → ℕ → Bool
upto before v me k j = pick (nat_lt j k) (owned_before (Some v) j me) (owned_before before j me)

low_test : (j q : ℕ) → (j == q) ≡ false → nat_lt j q ≡ nat_lt j (q + 1)
low_test j q e = by (nat_lt j q) refl (nat_lt j (q + 1)) refl
  where
    by : (a : Bool) → nat_lt j q ≡ a → (b : Bool) → nat_lt j (q + 1) ≡ b → a ≡ b
    by true f true g = refl
    by true f false g = absurd (grind (arith, nat_tests, f, g))
    by false f true g = absurd (grind (arith, nat_tests, e, f, g))
    by false f false g = refl

not_below : (q : ℕ) → nat_lt q q ≡ false
not_below q = grind (arith, nat_tests)

just_below : (q : ℕ) → nat_lt q (q + 1) ≡ true
just_below q = grind (arith, nat_tests)

module _ (before : Option View) (v : View) (me : ℕ) where
  elsewhere : (q j : ℕ) → (j == q) ≡ false → upto before v me q j ≡ upto before v me (q + 1) j
  elsewhere q j e = ap (λ (b : Bool). pick b (owned_before (Some v) j me) (owned_before before j me)) (low_test j q e)

  here_old : (q : ℕ) → upto before v me q q ≡ owned_before before q me
  here_old q = ap (λ (b : Bool). pick b (owned_before (Some v) q me) (owned_before before q me)) (not_below q)

  here_new : (q : ℕ) → upto before v me (q + 1) q ≡ owned_before (Some v) q me
  here_new q = ap (λ (b : Bool). pick b (owned_before (Some v) q me) (owned_before before q me)) (just_below q)

  unchanged : (q : ℕ) → owned_before before q me ≡ owned_before (Some v) q me → (j : ℕ) → upto before v me q j ≡ upto before v me (q + 1) j
  unchanged q same j = by (j == q) refl
    where
      by : (b : Bool) → (j == q) ≡ b → upto before v me q j ≡ upto before v me (q + 1) j
      by true e =
          let is : j ≡ q = grind (arith, nat_tests, e) in
          subst (λ (n : ℕ). upto before v me q n ≡ upto before v me (q + 1) n) (sym is) (here_old q ∙ same ∙ sym (here_new q))
      by false e = elsewhere q j e

module _ (b : Base) where
  pub home_at : (g h : ℕ → Bool) (x : HomeState) → IsHomeOf (at b g) x → IsHomeOf (at b h) x
  home_at g h x of = record { config = of.config; number = of.number; born = of.born; home = of.home; rights = of.rights }

  -- tables at the same places
  pub good_at : (g h : ℕ → Bool) (w : Work) → ((j : ℕ) → g j ≡ h j) → IsGood (at b g) w → IsGood (at b h) w
  good_at g h w same good =
      record {
        home = home_at g h w.node.home good.home;
        epoch = good.epoch;
        view = good.view;
        tables = record { places = good.tables.places; owned = λ j low. good.tables.owned j low ∙ same j; tables = good.tables.tables };
        stored = good.stored;
        sends = good.sends;
      }

  tables_at : (g h : ℕ → Bool) (q : ℕ) (o : Option LockTable) (ts : List (Option LockTable)) → q < b.config.nodes → ((j : ℕ) → (j == q) ≡ false → g j ≡ h j) → is_some o ≡ h q
      → IfSome o (IsTable b.config b.number q) → AreTables (at b g) ts → AreTables (at b h) (slice_set ts q o)
  tables_at g h q o ts low same has is are =
      let room : q < length ts = subst (λ (n : ℕ). q < n) (sym are.places) low in
      record {
        places = set_length ts q o ∙ are.places;
        owned =
            λ j below.
            set_at (λ (x : Option LockTable). is_some x ≡ h j) None ts q j o room (λ e. subst (λ (n : ℕ). is_some o ≡ h n) (sym e) has)
            (λ other. are.owned j below ∙ same j other);
        tables =
            λ j below.
            set_at (λ (x : Option LockTable). IfSome x (IsTable b.config b.number j)) None ts q j o room (λ e. subst (λ (n : ℕ). IfSome o (IsTable b.config b.number n)) (sym e) is)
            (λ other. are.tables j below);
      }

module _ (b : Base) (limits : InLimits b.config) (number : b.number < b.config.nodes) (epoch : 1 ≤ b.epoch) (before : Option View) (v : View) (whole : IsWhole b.config v)
    (keeps : KeepsOwners b.config.nodes before v b.number) where
  base_at : (g : ℕ → Bool) → IsBase (at b g)
  base_at g = record { number = number; epoch = epoch }

  -- the numbers when the partitions below k are done
  abbrev pub done : ℕ → Base
  done k = at b (upto before v b.number k)

  module _ (q : ℕ) (low : q < b.config.nodes) where
    taken_over : (w : Work) → IsGood (done q) w → IsHomeOf (done (q + 1)) (take_over q w.node.home)
    taken_over w good =
        let of = good.home in
        record {
          config = of.config;
          number = of.number;
          born = of.born;
          home = take_over_is_sound_law q w.node.home of.home;
          rights = left_are b.config (λ r. not (partition w.node.home.config r.page == q)) w.node.home.shelf of.rights;
        }

    new_is : (h : HomeState) (n : ℕ) → h.config ≡ b.config → IsHome h → IsTable b.config b.number q (new_table q n h)
    new_is h n same is =
        subst (λ (c : Sizes). IsTable c b.number q (new_table q n h)) same
        (gather_own_is h.config b.number q (open_table h.config q false) n (own_report q h) (own_rights h b.number q is) (own_waits h b.number q is) (own_locks h b.number q is)
        (open_is h.config b.number q false (subst (λ (c : Sizes). q < c.nodes) (sym same) low)))

    get_good : (d : Disk) (w : Work) → owned_before (Some v) q b.number ≡ true → IsGood (done q) w → On (IsGood (done (q + 1))) (get_partition d q w)
    unfolding get_partition
    get_good d w owns good =
        let home : HomeState = take_over q w.node.home in
        let table : LockTable = new_table q (number_of w.node) home in
        let node : NodeState = put_table (record (w.node) { home = home }) q (Some table) in
        let of = taken_over w good in
        complete_good (done (q + 1)) (base_at (upto before v b.number (q + 1))) q low d (with_node w node)
        (record {
          home = of;
          epoch = good.epoch;
          view = good.view;
          tables =
              tables_at b (upto before v b.number q) (upto before v b.number (q + 1)) q (Some table) w.node.tables low (elsewhere before v b.number q) (sym (here_new before v b.number q ∙ owns))
              (new_is home (number_of w.node) of.config of.home) good.tables;
          stored = good.stored;
          sends = good.sends;
        })

    owner_apart : (m : ℕ) → m ≡ b.number → (owner_of v q == m) ≡ false → IsOther b.config b.number (owner_of v q)
    owner_apart m same e = (whole.owner_known q low, differs)
      where
        differs : owner_of v q ≢ b.number
        differs = grind (arith, nat_tests, same, e)

    reported_good : (w : Work) → (owner_of v q == b.number) ≡ false → IsGood (done (q + 1)) w → IsGood (done (q + 1)) (send_report q (owner_of v q) w)
    reported_good w e good =
        let of = good.home in
        good_send (done (q + 1)) (base_at (upto before v b.number (q + 1))) (owner_of v q) (body.Report (report q w.node.home)) w (owner_apart b.number refl e)
        (subst (λ (c : Sizes). IsBody c (body.Report (report q w.node.home))) of.config
        (report_is w.node.home b.number q of.home (subst InLimits (sym of.config) limits) (subst (λ (c : Sizes). AreRights c w.node.home.shelf) (sym of.config) of.rights)
        (subst (λ (c : Sizes). q < c.nodes) (sym of.config) low)))
        good

    left_good : (w : Work) (x : Bool) → owned_before before q b.number ≡ x → (owner_of v q == b.number) ≡ false → IsGood (done q) w → IsGood (done (q + 1)) (with_node w (left_if x q w.node))
    left_good w false e apart good = good_at b (upto before v b.number q) (upto before v b.number (q + 1)) w (unchanged before v b.number q (e ∙ sym apart)) good
    left_good w true e apart good =
        let of = good.home in
        record {
          home = record { config = of.config; number = of.number; born = of.born; home = (give_up_is_sound_law q w.node of.home).1; rights = of.rights };
          epoch = good.epoch;
          view = good.view;
          tables =
              tables_at b (upto before v b.number q) (upto before v b.number (q + 1)) q None w.node.tables low (elsewhere before v b.number q) (sym (here_new before v b.number q ∙ apart)) tt good.tables;
          stored = good.stored;
          sends = good.sends;
        }

    tell_good : (w : Work) → (owner_of v q == b.number) ≡ false → IsGood (done q) w → IsGood (done (q + 1)) (tell_new_owner before v q w)
    tell_good w apart good =
        reported_good (with_node w (left_if (owned_before before q (number_of w.node)) q w.node)) apart
        (left_good w (owned_before before q (number_of w.node)) (ap (λ (m : ℕ). owned_before before q m) (sym good.home.number)) apart good)

    same_good : (w : Work) → (since_of v q == v.epoch) ≡ false → IsGood (done q) w → IsGood (done (q + 1)) w
    same_good w old good = good_at b (upto before v b.number q) (upto before v b.number (q + 1)) w (unchanged before v b.number q (keeps q low old)) good

    partition_good : (d : Disk) (w : Work) → IsGood (done q) w → On (IsGood (done (q + 1))) (install_partition d before v q w)
    unfolding install_partition
    partition_good d w good = by (owner_of v q == number_of w.node) refl (since_of v q == v.epoch) refl
      where
        number_same : (x : Bool) → (owner_of v q == number_of w.node) ≡ x → (owner_of v q == b.number) ≡ x
        number_same x e = ap (λ (m : ℕ). owner_of v q == m) (sym good.home.number) ∙ e

        by : (x : Bool) → (owner_of v q == number_of w.node) ≡ x → (y : Bool) → (since_of v q == v.epoch) ≡ y → On (IsGood (done (q + 1))) (install_by x y d before v q w)
        by true e true f = get_good d w (number_same true e) good
        by true e false f = keep_good (done (q + 1)) (base_at (upto before v b.number (q + 1))) q low (table_at w.node q) d before v w (same_good w f good)
        by false e true f = tell_good w (number_same false e) good
        by false e false f = same_good w f good

  -- all partitions that are left
  pub partitions_good : (d : Disk) (n q : ℕ) → q + n ≤ b.config.nodes → (w : Work) → IsGood (done q) w → On (IsGood (done (q + n))) (for_each (install_partition d before v) (count_from q n) w)
  unfolding for_each count_from
  partitions_good d zero q low w good = subst (λ (m : ℕ). IsGood (done m) w) (omega arith) good
  partitions_good d (suc n) q low w good =
      subst (λ (m : ℕ). On (IsGood (done m)) (for_each (install_partition d before v) (count_from q (suc n)) w)) (omega arith)
      (on_then (IsGood (done (q + 1))) (IsGood (done (q + 1 + n))) (install_partition d before v q w) (for_each (install_partition d before v) (count_from (q + 1) n))
      (partition_good q (omega arith) d w good) (λ x next. partitions_good d n (q + 1) (omega arith) x next))

-- a report that arrives
pub report_good : (b : Base) (base : IsBase b) (d : Disk) (from : ℕ) (r : Report) (w : Work) → IsOther b.config b.number from → IsBody b.config (body.Report r) → IsGood b w → On (IsGood b) (on_report d from r w)
unfolding on_report
report_good b base d from r w other is good = by (table_at w.node r.partition) refl
  where
    taken : (t : LockTable) → table_at w.node r.partition ≡ Some t → (x : Bool) → On (IsGood b) (take_report x d from r t w)
    taken t there true = good
    taken t there false =
        let has = has_table b base r.partition t w is.0 there good in
        complete_good b base r.partition is.0 d (with_node w (put_table w.node r.partition (Some (gather t from r))))
        (good_table b base r.partition (gather t from r) w has.0 (gather_is b.config b.number r.partition t from r other is.2 is.4 is.6 has.1) good)

    by : (o : Option LockTable) → table_at w.node r.partition ≡ o → On (IsGood b) (on_report_in d from r o w)
    by None there = good
    by (Some t) there = taken t there t.serving
