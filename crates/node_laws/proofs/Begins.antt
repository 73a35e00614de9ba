-- An install, from a sound node to what it leaves.
use Rattle.std.proofs.Common.{◌≡◌, refl, ap, subst, ◌∙◌, sym, ℕ, ◌+◌, ◌^◌, ◌<◌, ◌≤◌, ◌==◌, ◌&&◌, not, nat_lt, Bool, true, false, length, Option, Some, None, arith}
use Rattle.std.specs.Prelude.{IfSome}
use Rattle.std.specs.List.{list_all}
use Rattle.std.proofs.lemmas.Bool.Decides.{nat_tests}
use Rattle.pcl_base.specs.declared.reply.Reply.TheVariants as reply
use Rattle.text_rules.specs.LogRecord.{whole_len}
use Rattle.run_rules.specs.Disk.{Disk}
use Rattle.run_rules.specs.Views.{View, is_live, born_of, count_from}
use Rattle.rule_laws.specs.LaterViews.{IsWhole, IsMoved}
use Rattle.node_rules.specs.Words.{pick}
use Rattle.node_rules.specs.NodeState.{NodeState, number_of}
use Rattle.node_rules.specs.DiskCalls.{TrimLog}
use Rattle.node_rules.specs.Work.{Work, with_node, reply}
use Rattle.node_rules.specs.InstallRule.{owned_before, own_log, trim_if, born_at, begin_life, in_view, install_view}
use Rattle.node_rules.specs.NodeStep.{begin_work}
use Rattle.node_rules.specs.Refusals.{owns_new, may_begin, may_install}
use Rattle.home_laws.proofs.Given.{born_at_is_sound_law}
use Rattle.home_laws.proofs.Words.{and_true}
use Rattle.step_laws.proofs.Outcomes.{On, on_more}
use Rattle.node_laws.specs.Nodes.{IsSound, IsViewOf, DiskFits}
use Rattle.node_laws.proofs.Stored.{called}
use Rattle.node_laws.proofs.Works.{Base, IsGood}
use Rattle.node_laws.proofs.Bases.{IsSoundBase, IsDone, begun_good, good_done}
use Rattle.node_laws.proofs.Installs.{at, upto, good_at, partitions_good}
use Rattle.node_laws.proofs.Views.{KeepsOwners, moved_of, moved_keeps, begins_keep}

-- what is known of a view that isn't refused: where its partitions' owners stay, and when the node was born
record MayInstall (n : NodeState) (v : View) : Type 0 where
  keeps : KeepsOwners n.home.config.nodes n.view v (number_of n)
  first : (born_of v (number_of n) == v.epoch) ≡ true → length n.home.txs.txs ≡ 0
  later : (born_of v (number_of n) == v.epoch) ≡ false → born_of v (number_of n) ≡ n.home.txs.born

moved_may : (n : NodeState) (u v : View) → n.home.txs.node < n.home.config.nodes → IsViewOf n u → is_live v.live (number_of n) ≡ true → IsMoved u v → n.view ≡ Some u → MayInstall n v
moved_may n u v low is live moved in_view =
    record {
      keeps = subst (λ (o : Option View). KeepsOwners n.home.config.nodes o v (number_of n)) (sym in_view) (moved_keeps n.home.config u v (number_of n) is.whole moved);
      first = λ e. absurd (grind (arith, nat_tests, e, older));
      later = λ e. same;
    }
  where
    same : born_of v (number_of n) ≡ n.home.txs.born
    same =
        moved.born (number_of n) (subst (λ (k : ℕ). number_of n < k) (sym is.whole.born) low)
        ∙ ap (λ (b : Bool). pick (is_live v.live (number_of n) && not b) v.epoch (born_of u (number_of n))) is.live
        ∙ ap (λ (b : Bool). pick (b && false) v.epoch (born_of u (number_of n))) live
        ∙ is.born

    older : born_of v (number_of n) < v.epoch
    older =
        let born = is.whole.born_upto (number_of n) low in
        let next = moved.epoch in
        let here = same in
        let there = is.born in
        omega (arith, born, next, here, there)

begins_may : (n : NodeState) (v : View) → length n.home.txs.txs ≡ 0 → may_begin n v ≡ true → n.view ≡ None → MayInstall n v
begins_may n v idle may none =
    let parts = and_true (born_of v (number_of n) == v.epoch && nat_lt n.epoch v.epoch) (list_all (owns_new v (number_of n)) (count_from 0 n.home.config.nodes)) may in
    let now = and_true (born_of v (number_of n) == v.epoch) (nat_lt n.epoch v.epoch) parts.0 in
    record {
      keeps = subst (λ (o : Option View). KeepsOwners n.home.config.nodes o v (number_of n)) (sym none) (begins_keep v (number_of n) n.home.config.nodes parts.1);
      first = λ e. idle;
      later = λ e. other (born_of v (number_of n) == v.epoch) now.0 e;
    }
  where
    other : (b : Bool) → b ≡ true → b ≡ false → born_of v (number_of n) ≡ n.home.txs.born
    other true e f = absurd (cc)
    other false e f = absurd (cc)

may_of : (n : NodeState) (v : View) → IsSound n → is_live v.live (number_of n) ≡ true → may_install n n.view v ≡ true → MayInstall n v
may_of n v sound live may = by n.view refl sound.view may
  where
    by : (o : Option View) → n.view ≡ o → IfSome o (IsViewOf n) → may_install n o v ≡ true → MayInstall n v
    by None e is may = begins_may n v (sound.idle e) may e
    by (Some u) e is may = moved_may n u v sound.home.txs.node is live (moved_of n.home.config u v is.whole may) e

module _ (n : NodeState) (d : Disk) (v : View) (sound : IsSound n) (can : IsWhole n.home.config v × (is_live v.live (number_of n) ≡ true) × (v.epoch < 2 ^ 32)) (fits : DiskFits n.home.config d) (may : may_install n n.view v ≡ true) where
  fact : MayInstall n v
  fact = may_of n v sound can.1 may

  epoch_some : 1 ≤ v.epoch
  epoch_some =
      let from = can.0.born_from (number_of n) sound.home.txs.node in
      let upto = can.0.born_upto (number_of n) sound.home.txs.node in
      omega (arith, from, upto)

  -- the numbers in the new view
  abbrev numbers : Bool → Base
  numbers x =
      record {
        config = n.home.config;
        number = number_of n;
        born = pick x v.epoch n.home.txs.born;
        epoch = v.epoch;
        view = Some v;
        has = λ q. owned_before n.view q (number_of n);
      }

  abbrev answered : Work
  answered = reply (reply.Installed v.epoch) (with_node (begin_work n d) (in_view v n))

  trimmed : (x : Bool) (keep : ℕ) (w : Work) (b : Base) → IsGood b w → IsGood b (trim_if x keep w)
  trimmed true keep w b good =
      record {
        home = good.home;
        epoch = good.epoch;
        view = good.view;
        tables = good.tables;
        stored = called b.config (TrimLog keep) w.pages w.calls tt good.stored;
        sends = good.sends;
      }
  trimmed false keep w b good = good

  life_good : (x : Bool) → (x ≡ true → length n.home.txs.txs ≡ 0) → IsGood (numbers x) (begin_life x d v answered)
  life_good false first =
      let good = begun_good n d sound fits in
      record {
        home = record { config = refl; number = refl; born = refl; home = sound.home; rights = sound.rights };
        epoch = refl;
        view = refl;
        tables = record { places = sound.places; owned = sound.owned; tables = sound.tables };
        stored = good.stored;
        sends = tt;
      }
  life_good true first =
      let good = begun_good n d sound fits in
      let born : Work = with_node answered (born_at v.epoch answered.node) in
      trimmed (nat_lt (whole_len born.node.home.config (own_log d born)) (length (own_log d born))) (whole_len born.node.home.config (own_log d born)) born (numbers true)
      (record {
        home = record { config = refl; number = refl; born = refl; home = born_at_is_sound_law v.epoch answered.node sound.home (first refl); rights = sound.rights };
        epoch = refl;
        view = refl;
        tables = record { places = sound.places; owned = sound.owned; tables = sound.tables };
        stored = good.stored;
        sends = tt;
      })

  -- the numbers when all partitions are done
  numbers_sound : (x : Bool) → (born_of v (number_of n) == v.epoch) ≡ x → IsSoundBase (at (numbers x) (upto n.view v (number_of n) n.home.config.nodes))
  numbers_sound x e =
      record {
        limits = sound.limits;
        number = sound.home.txs.node;
        born = some x;
        epoch = (epoch_some, can.2);
        view = record { whole = can.0; epoch = refl; live = can.1; born = birth x e };
        owned = λ q low. ap (λ (b : Bool). pick b (owned_before (Some v) q (number_of n)) (owned_before n.view q (number_of n))) (below q low);
      }
    where
      some : (x : Bool) → 1 ≤ (let k : ℕ = pick x v.epoch n.home.txs.born in k)
      some true = epoch_some
      some false = sound.born

      birth : (x : Bool) → (born_of v (number_of n) == v.epoch) ≡ x → born_of v (number_of n) ≡ pick x v.epoch n.home.txs.born
      birth true f = grind (arith, nat_tests, f)
      birth false f = fact.later f

      below : (q : ℕ) → q < n.home.config.nodes → nat_lt q n.home.config.nodes ≡ true
      below q low = grind (arith, nat_tests, low)

  start_good : (x : Bool) → (x ≡ true → length n.home.txs.txs ≡ 0) → IsGood (at (numbers x) (upto n.view v (number_of n) 0)) (begin_life x d v answered)
  start_good x first =
      good_at (numbers x) (λ q. owned_before n.view q (number_of n)) (upto n.view v (number_of n) 0) (begin_life x d v answered)
      (λ j. sym (ap (λ (b : Bool). pick b (owned_before (Some v) j (number_of n)) (owned_before n.view j (number_of n))) (none j))) (life_good x first)
    where
      none : (j : ℕ) → nat_lt j 0 ≡ false
      none j = grind (arith, nat_tests)

  -- a view that isn't refused
  pub install_done : On (IsDone n.home.config (number_of n)) (install_view d v (begin_work n d))
  unfolding install_view
  install_done =
      let x : Bool = born_of v (number_of n) == v.epoch in
      let b : Base = numbers x in
      on_more (IsGood (at b (upto n.view v (number_of n) (0 + n.home.config.nodes)))) (IsDone n.home.config (number_of n)) (install_view d v (begin_work n d))
      (λ w good.
      good_done (at b (upto n.view v (number_of n) n.home.config.nodes)) w (numbers_sound x refl) (λ none. absurd (cc))
      (good_at b (upto n.view v (number_of n) (0 + n.home.config.nodes)) (upto n.view v (number_of n) n.home.config.nodes) w (λ j. ap (λ (k : ℕ). upto n.view v (number_of n) k j) (omega arith)) good))
      (partitions_good b sound.limits sound.home.txs.node epoch_some n.view v can.0 fact.keeps d n.home.config.nodes 0 (omega arith) (begin_life x d v answered) (start_good x fact.first))
