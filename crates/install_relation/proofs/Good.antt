-- A partition that a node gets, tells of or keeps leaves a good work: the parts of an install of which node_laws has the whole.
use Rattle.std.proofs.Common.{◌≡◌, refl, ap, subst, ◌∙◌, sym, ℕ, ◌+◌, ◌<◌, ◌≤◌, ◌==◌, nat_lt, not, Bool, true, false, List, length, Option, Some, None, is_some, arith, slice_set}
use Rattle.std.specs.Prelude.{IfSome, ◌≢◌}
use Rattle.std.proofs.lemmas.Bool.Decides.{nat_tests}
use Rattle.pcl_base.specs.Limits.{Sizes, InLimits}
use Rattle.pcl_base.specs.declared.message.Body.TheVariants as body
use Rattle.text_rules.specs.MessageBytes.{IsBody}
use Rattle.run_rules.specs.Views.{View, owner_of, since_of}
use Rattle.rule_laws.specs.LaterViews.{IsWhole}
use Rattle.node_rules.specs.Words.{pick}
use Rattle.node_rules.specs.LockTable.{LockTable, open_table}
use Rattle.node_rules.specs.NodeState.{HomeState, number_of, partition}
use Rattle.node_rules.specs.Reports.{report, own_report}
use Rattle.node_rules.specs.Work.{Work, with_node}
use Rattle.node_rules.specs.InstallRule.{take_over, new_table, owned_before, left_if, send_report, tell_new_owner}
use Rattle.home_laws.specs.Homes.{IsHome}
use Rattle.home_laws.proofs.Partitions.{take_over_is_sound_law}
use Rattle.home_laws.proofs.Given.{give_up_is_sound_law}
use Rattle.node_laws.specs.Nodes.{AreRights, IsTable, IsOther}
use Rattle.node_laws.proofs.Installs.{at, upto, good_at}
use Rattle.node_laws.proofs.Lists.{set_at, set_length}
use Rattle.node_laws.proofs.Tables.{open_is, gather_own_is}
use Rattle.node_laws.proofs.Shelves.{left_are}
use Rattle.node_laws.proofs.Listed.{own_locks, own_waits, own_rights, report_is}
use Rattle.node_laws.proofs.Works.{Base, IsBase, IsHomeOf, AreTables, IsGood, good_send}
use Rattle.node_laws.proofs.Views.{KeepsOwners}
use Rattle.install_relation.specs.Taking.{taken}

low_test : (j q : ℕ) → (j == q) ≡ false → nat_lt j q ≡ nat_lt j (q + 1)
low_test j q e = by (nat_lt j q) refl (nat_lt j (q + 1)) refl
  where
    by : (a : Bool) → nat_lt j q ≡ a → (b : Bool) → nat_lt j (q + 1) ≡ b → a ≡ b
    by true f true g = refl
    by true f false g = absurd (grind (arith, nat_tests, f, g))
    by false f true g = absurd (grind (arith, nat_tests, e, f, g))
    by false f false g = refl

not_below : (q : ℕ) → nat_lt q q ≡ false
not_below q = grind (arith, nat_tests)

just_below : (q : ℕ) → nat_lt q (q + 1) ≡ true
just_below q = grind (arith, nat_tests)

module _ (before : Option View) (v : View) (me : ℕ) where
  elsewhere : (q j : ℕ) → (j == q) ≡ false → upto before v me q j ≡ upto before v me (q + 1) j
  elsewhere q j e = ap (λ (b : Bool). pick b (owned_before (Some v) j me) (owned_before before j me)) (low_test j q e)

  pub here_old : (q : ℕ) → upto before v me q q ≡ owned_before before q me
  here_old q = ap (λ (b : Bool). pick b (owned_before (Some v) q me) (owned_before before q me)) (not_below q)

  pub here_new : (q : ℕ) → upto before v me (q + 1) q ≡ owned_before (Some v) q me
  here_new q = ap (λ (b : Bool). pick b (owned_before (Some v) q me) (owned_before before q me)) (just_below q)

  unchanged : (q : ℕ) → owned_before before q me ≡ owned_before (Some v) q me → (j : ℕ) → upto before v me q j ≡ upto before v me (q + 1) j
  unchanged q same j = by (j == q) refl
    where
      by : (b : Bool) → (j == q) ≡ b → upto before v me q j ≡ upto before v me (q + 1) j
      by true e =
          let is : j ≡ q = grind (arith, nat_tests, e) in
          subst (λ (n : ℕ). upto before v me q n ≡ upto before v me (q + 1) n) (sym is) (here_old q ∙ same ∙ sym (here_new q))
      by false e = elsewhere q j e

module _ (b : Base) where
  tables_at : (g h : ℕ → Bool) (q : ℕ) (o : Option LockTable) (ts : List (Option LockTable)) → q < b.config.nodes → ((j : ℕ) → (j == q) ≡ false → g j ≡ h j) → is_some o ≡ h q
      → IfSome o (IsTable b.config b.number q) → AreTables (at b g) ts → AreTables (at b h) (slice_set ts q o)
  tables_at g h q o ts low same has is are =
      let room : q < length ts = subst (λ (n : ℕ). q < n) (sym are.places) low in
      record {
        places = set_length ts q o ∙ are.places;
        owned =
            λ j below.
            set_at (λ (x : Option LockTable). is_some x ≡ h j) None ts q j o room (λ e. subst (λ (n : ℕ). is_some o ≡ h n) (sym e) has)
            (λ other. are.owned j below ∙ same j other);
        tables =
            λ j below.
            set_at (λ (x : Option LockTable). IfSome x (IsTable b.config b.number j)) None ts q j o room (λ e. subst (λ (n : ℕ). IfSome o (IsTable b.config b.number n)) (sym e) is)
            (λ other. are.tables j below);
      }

module _ (b : Base) (limits : InLimits b.config) (number : b.number < b.config.nodes) (epoch : 1 ≤ b.epoch) (before : Option View) (v : View) (whole : IsWhole b.config v)
    (keeps : KeepsOwners b.config.nodes before v b.number) where
  pub base_at : (g : ℕ → Bool) → IsBase (at b g)
  base_at g = record { number = number; epoch = epoch }

  -- the numbers when the partitions below k are done
  abbrev pub done : ℕ → Base
  done k = at b (upto before v b.number k)

  module _ (q : ℕ) (low : q < b.config.nodes) where
    taken_over : (w : Work) → IsGood (done q) w → IsHomeOf (done (q + 1)) (take_over q w.node.home)
    taken_over w good =
        let of = good.home in
        record {
          config = of.config;
          number = of.number;
          born = of.born;
          home = take_over_is_sound_law q w.node.home of.home;
          rights = left_are b.config (λ r. not (partition w.node.home.config r.page == q)) w.node.home.shelf of.rights;
        }

    new_is : (h : HomeState) (n : ℕ) → h.config ≡ b.config → IsHome h → IsTable b.config b.number q (new_table q n h)
    new_is h n same is =
        subst (λ (c : Sizes). IsTable c b.number q (new_table q n h)) same
        (gather_own_is h.config b.number q (open_table h.config q false) n (own_report q h) (own_rights h b.number q is) (own_waits h b.number q is) (own_locks h b.number q is)
        (open_is h.config b.number q false (subst (λ (c : Sizes). q < c.nodes) (sym same) low)))

    pub taken_good : (w : Work) → owned_before (Some v) q b.number ≡ true → IsGood (done q) w → IsGood (done (q + 1)) (taken q w)
    taken_good w owns good =
        let home : HomeState = take_over q w.node.home in
        let of = taken_over w good in
        record {
          home = of;
          epoch = good.epoch;
          view = good.view;
          tables =
              tables_at b (upto before v b.number q) (upto before v b.number (q + 1)) q (Some (new_table q (number_of w.node) home)) w.node.tables low (elsewhere before v b.number q)
              (sym (here_new before v b.number q ∙ owns)) (new_is home (number_of w.node) of.config of.home) good.tables;
          stored = good.stored;
          sends = good.sends;
        }

    owner_apart : (m : ℕ) → m ≡ b.number → (owner_of v q == m) ≡ false → IsOther b.config b.number (owner_of v q)
    owner_apart m same e = (whole.owner_known q low, differs)
      where
        differs : owner_of v q ≢ b.number
        differs = grind (arith, nat_tests, same, e)

    reported_good : (w : Work) → (owner_of v q == b.number) ≡ false → IsGood (done (q + 1)) w → IsGood (done (q + 1)) (send_report q (owner_of v q) w)
    reported_good w e good =
        let of = good.home in
        good_send (done (q + 1)) (base_at (upto before v b.number (q + 1))) (owner_of v q) (body.Report (report q w.node.home)) w (owner_apart b.number refl e)
        (subst (λ (c : Sizes). IsBody c (body.Report (report q w.node.home))) of.config
        (report_is w.node.home b.number q of.home (subst InLimits (sym of.config) limits) (subst (λ (c : Sizes). AreRights c w.node.home.shelf) (sym of.config) of.rights)
        (subst (λ (c : Sizes). q < c.nodes) (sym of.config) low)))
        good

    left_good : (w : Work) (x : Bool) → owned_before before q b.number ≡ x → (owner_of v q == b.number) ≡ false → IsGood (done q) w → IsGood (done (q + 1)) (with_node w (left_if x q w.node))
    left_good w false e apart good = good_at b (upto before v b.number q) (upto before v b.number (q + 1)) w (unchanged before v b.number q (e ∙ sym apart)) good
    left_good w true e apart good =
        let of = good.home in
        record {
          home = record { config = of.config; number = of.number; born = of.born; home = (give_up_is_sound_law q w.node of.home).1; rights = of.rights };
          epoch = good.epoch;
          view = good.view;
          tables =
              tables_at b (upto before v b.number q) (upto before v b.number (q + 1)) q None w.node.tables low (elsewhere before v b.number q) (sym (here_new before v b.number q ∙ apart)) tt good.tables;
          stored = good.stored;
          sends = good.sends;
        }

    pub tell_good : (w : Work) → (owner_of v q == b.number) ≡ false → IsGood (done q) w → IsGood (done (q + 1)) (tell_new_owner before v q w)
    tell_good w apart good =
        reported_good (with_node w (left_if (owned_before before q (number_of w.node)) q w.node)) apart
        (left_good w (owned_before before q (number_of w.node)) (ap (λ (m : ℕ). owned_before before q m) (sym good.home.number)) apart good)

    pub same_good : (w : Work) → (since_of v q == v.epoch) ≡ false → IsGood (done q) w → IsGood (done (q + 1)) w
    same_good w old good = good_at b (upto before v b.number q) (upto before v b.number (q + 1)) w (unchanged before v b.number q (keeps q low old)) good
