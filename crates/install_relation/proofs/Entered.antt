-- An install that isn't refused begins with a good work.
use Rattle.std.proofs.Common.{◌≡◌, refl, ap, subst, ◌∙◌, sym, ℕ, ◌^◌, ◌<◌, ◌≤◌, ◌==◌, ◌&&◌, not, nat_lt, Bool, true, false, length, Option, Some, None, arith}
use Rattle.std.specs.Prelude.{IfSome}
use Rattle.std.specs.List.{list_all}
use Rattle.std.proofs.lemmas.Bool.Decides.{nat_tests}
use Rattle.pcl_base.specs.declared.reply.Reply.TheVariants as reply
use Rattle.text_rules.specs.LogRecord.{whole_len}
use Rattle.run_rules.specs.Disk.{Disk}
use Rattle.run_rules.specs.Views.{View, is_live, owner_of, since_of, born_of, count_from}
use Rattle.rule_laws.specs.LaterViews.{IsWhole, IsMoved}
use Rattle.node_rules.specs.Words.{pick}
use Rattle.node_rules.specs.NodeState.{NodeState, number_of}
use Rattle.node_rules.specs.DiskCalls.{TrimLog}
use Rattle.node_rules.specs.Work.{Work, with_node, reply}
use Rattle.node_rules.specs.InstallRule.{owned_before, own_log, trim_if, born_at, begin_life, in_view}
use Rattle.node_rules.specs.NodeStep.{begin_work}
use Rattle.node_rules.specs.Refusals.{owns_new, may_begin, may_install}
use Rattle.home_laws.proofs.Given.{born_at_is_sound_law}
use Rattle.home_laws.proofs.Words.{and_true}
use Rattle.node_laws.specs.Nodes.{IsSound, IsViewOf, DiskFits}
use Rattle.node_laws.proofs.Stored.{called}
use Rattle.node_laws.proofs.Works.{Base, IsGood}
use Rattle.node_laws.proofs.Bases.{begun_good}
use Rattle.node_laws.proofs.Installs.{at, upto, good_at}
use Rattle.node_laws.proofs.Views.{KeepsOwners, moved_of, moved_keeps, begins_keep}

-- what is known of a view that isn't refused: where its partitions' owners stay, and when the node was born
pub record MayInstall (n : NodeState) (v : View) : Type 0 where
  pub keeps : KeepsOwners n.home.config.nodes n.view v (number_of n)
  pub first : (born_of v (number_of n) == v.epoch) ≡ true → length n.home.txs.txs ≡ 0
  pub goes_on : (u : View) → n.view ≡ Some u → (born_of v (number_of n) == v.epoch) ≡ false
  pub begins : n.view ≡ None → (born_of v (number_of n) == v.epoch) ≡ true
  pub stays : (u : View) (q : ℕ) → q < n.home.config.nodes → n.view ≡ Some u → (since_of v q == v.epoch) ≡ false → since_of v q ≡ since_of u q
  pub moves : (q : ℕ) → q < n.home.config.nodes → (since_of v q == v.epoch) ≡ true → owned_before n.view q (number_of n) ≡ true → (owner_of v q == number_of n) ≡ false

moved_may : (n : NodeState) (u v : View) → n.home.txs.node < n.home.config.nodes → IsViewOf n u → is_live v.live (number_of n) ≡ true → IsMoved u v → n.view ≡ Some u → MayInstall n v
moved_may n u v low is live moved in_view =
    record {
      keeps = subst (λ (o : Option View). KeepsOwners n.home.config.nodes o v (number_of n)) (sym in_view) (moved_keeps n.home.config u v (number_of n) is.whole moved);
      first = λ e. absurd (grind (arith, nat_tests, e, older));
      goes_on = λ w at. born_now;
      begins = λ none. absurd (apart u none);
      stays = λ w q below at old. stays q below old ∙ ap (λ (x : View). since_of x q) (same_view w at);
      moves = λ q below new owned. moves q below new (subst (λ (o : Option View). owned_before o q (number_of n) ≡ true) in_view owned);
    }
  where
    same : born_of v (number_of n) ≡ n.home.txs.born
    same =
        moved.born (number_of n) (subst (λ (k : ℕ). number_of n < k) (sym is.whole.born) low)
        ∙ ap (λ (b : Bool). pick (is_live v.live (number_of n) && not b) v.epoch (born_of u (number_of n))) is.live
        ∙ ap (λ (b : Bool). pick (b && false) v.epoch (born_of u (number_of n))) live
        ∙ is.born

    older : born_of v (number_of n) < v.epoch
    older =
        let born = is.whole.born_upto (number_of n) low in
        let next = moved.epoch in
        let here = same in
        let there = is.born in
        omega (arith, born, next, here, there)

    born_now : (born_of v (number_of n) == v.epoch) ≡ false
    born_now = grind (arith, nat_tests, older)

    apart : (w : View) → n.view ≡ None → ⊥
    apart w none = (let bad : (let o : Option View = None in o) ≡ Some u = sym none ∙ in_view in absurd (cc))

    same_view : (w : View) → n.view ≡ Some w → u ≡ w
    same_view w at = (let same : Some u ≡ Some w = sym in_view ∙ at in cc)

    since : (q : ℕ) → q < n.home.config.nodes → since_of v q ≡ pick (owner_of u q == owner_of v q) (since_of u q) v.epoch
    since q below = moved.since q (subst (λ (k : ℕ). q < k) (sym is.whole.since) below)

    stays : (q : ℕ) → q < n.home.config.nodes → (since_of v q == v.epoch) ≡ false → since_of v q ≡ since_of u q
    stays q below old = by (owner_of u q == owner_of v q) (since q below)
      where
        by : (b : Bool) → since_of v q ≡ pick b (since_of u q) v.epoch → since_of v q ≡ since_of u q
        by true is = is
        by false is = absurd (grind (arith, nat_tests, old, is))

    moves : (q : ℕ) → q < n.home.config.nodes → (since_of v q == v.epoch) ≡ true → (owner_of u q == number_of n) ≡ true → (owner_of v q == number_of n) ≡ false
    moves q below new owned = by (owner_of u q == owner_of v q) refl
      where
        by : (b : Bool) → (owner_of u q == owner_of v q) ≡ b → (owner_of v q == number_of n) ≡ false
        by true e =
            let now : since_of v q ≡ since_of u q = since q below ∙ ap (λ (b : Bool). pick b (since_of u q) v.epoch) e in
            let upto = is.whole.since_upto q below in
            let next = moved.epoch in
            absurd (grind (arith, nat_tests, new, now, upto, next))
        by false e = grind (arith, nat_tests, e, owned)

begins_may : (n : NodeState) (v : View) → length n.home.txs.txs ≡ 0 → may_begin n v ≡ true → n.view ≡ None → MayInstall n v
begins_may n v idle may none =
    let parts = and_true (born_of v (number_of n) == v.epoch && nat_lt n.epoch v.epoch) (list_all (owns_new v (number_of n)) (count_from 0 n.home.config.nodes)) may in
    let now = and_true (born_of v (number_of n) == v.epoch) (nat_lt n.epoch v.epoch) parts.0 in
    record {
      keeps = subst (λ (o : Option View). KeepsOwners n.home.config.nodes o v (number_of n)) (sym none) (begins_keep v (number_of n) n.home.config.nodes parts.1);
      first = λ e. idle;
      goes_on = λ u at. absurd (apart u at);
      begins = λ at. now.0;
      stays = λ u q below at old. absurd (apart u at);
      moves = λ q below new owned. (let bad : false ≡ true = sym (ap (λ (o : Option View). owned_before o q (number_of n)) none) ∙ owned in absurd (cc));
    }
  where
    apart : (u : View) → n.view ≡ Some u → ⊥
    apart u at = (let bad : (let o : Option View = None in o) ≡ Some u = sym none ∙ at in absurd (cc))

pub may_of : (n : NodeState) (v : View) → IsSound n → is_live v.live (number_of n) ≡ true → may_install n n.view v ≡ true → MayInstall n v
may_of n v sound live may = by n.view refl sound.view may
  where
    by : (o : Option View) → n.view ≡ o → IfSome o (IsViewOf n) → may_install n o v ≡ true → MayInstall n v
    by None e is may = begins_may n v (sound.idle e) may e
    by (Some u) e is may = moved_may n u v sound.home.txs.node is live (moved_of n.home.config u v is.whole may) e

module _ (n : NodeState) (d : Disk) (v : View) (sound : IsSound n) (can : IsWhole n.home.config v × (is_live v.live (number_of n) ≡ true) × (v.epoch < 2 ^ 32)) (fits : DiskFits n.home.config d) (may : may_install n n.view v ≡ true) where
  pub fact : MayInstall n v
  fact = may_of n v sound can.1 may

  pub epoch_some : 1 ≤ v.epoch
  epoch_some =
      let from = can.0.born_from (number_of n) sound.home.txs.node in
      let upto = can.0.born_upto (number_of n) sound.home.txs.node in
      omega (arith, from, upto)

  abbrev numbered : Bool → Base
  numbered x =
      record {
        config = n.home.config;
        number = number_of n;
        born = pick x v.epoch n.home.txs.born;
        epoch = v.epoch;
        view = Some v;
        has = λ q. owned_before n.view q (number_of n);
      }

  abbrev answered : Work
  answered = reply (reply.Installed v.epoch) (with_node (begin_work n d) (in_view v n))

  trimmed : (x : Bool) (keep : ℕ) (w : Work) (b : Base) → IsGood b w → IsGood b (trim_if x keep w)
  trimmed true keep w b good =
      record {
        home = good.home;
        epoch = good.epoch;
        view = good.view;
        tables = good.tables;
        stored = called b.config (TrimLog keep) w.pages w.calls tt good.stored;
        sends = good.sends;
      }
  trimmed false keep w b good = good

  life_good : (x : Bool) → (x ≡ true → length n.home.txs.txs ≡ 0) → IsGood (numbered x) (begin_life x d v answered)
  life_good false first =
      let good = begun_good n d sound fits in
      record {
        home = record { config = refl; number = refl; born = refl; home = sound.home; rights = sound.rights };
        epoch = refl;
        view = refl;
        tables = record { places = sound.places; owned = sound.owned; tables = sound.tables };
        stored = good.stored;
        sends = tt;
      }
  life_good true first =
      let good = begun_good n d sound fits in
      let born : Work = with_node answered (born_at v.epoch answered.node) in
      trimmed (nat_lt (whole_len born.node.home.config (own_log d born)) (length (own_log d born))) (whole_len born.node.home.config (own_log d born)) born (numbered true)
      (record {
        home = record { config = refl; number = refl; born = refl; home = born_at_is_sound_law v.epoch answered.node sound.home (first refl); rights = sound.rights };
        epoch = refl;
        view = refl;
        tables = record { places = sound.places; owned = sound.owned; tables = sound.tables };
        stored = good.stored;
        sends = tt;
      })

  pub start_good : (x : Bool) → (x ≡ true → length n.home.txs.txs ≡ 0) → IsGood (at (numbered x) (upto n.view v (number_of n) 0)) (begin_life x d v answered)
  start_good x first =
      good_at (numbered x) (λ q. owned_before n.view q (number_of n)) (upto n.view v (number_of n) 0) (begin_life x d v answered)
      (λ j. sym (ap (λ (b : Bool). pick b (owned_before (Some v) j (number_of n)) (owned_before n.view j (number_of n))) (none j))) (life_good x first)
    where
      none : (j : ℕ) → nat_lt j 0 ≡ false
      none j = grind (arith, nat_tests)
