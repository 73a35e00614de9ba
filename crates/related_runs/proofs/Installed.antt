-- What is granted while a view is installed stands at its home.
use Rattle.std.proofs.Common.{◌≡◌, ◌≢◌, inl, inr, refl, subst, ℕ, zero, suc, ◌+◌, ◌<◌, ◌≤◌, ◌==◌, Bool, true, false, List, [], ◌∷◌, length, Option, Some, None, arith}
use Rattle.std.specs.Prelude.{IfSome, ⊤}
use Rattle.std.proofs.lemmas.Bool.Decides.{nat_tests}
use Rattle.pcl_base.specs.declared.reply.Reply.{Reply}
use Rattle.pcl_base.specs.declared.reply.Reply.TheVariants as reply
use Rattle.run_rules.specs.Disk.{Disk}
use Rattle.run_rules.specs.Views.{View, is_live, born_of, owner_of, since_of, count_from}
use Rattle.rule_laws.specs.LaterViews.{IsWhole}
use Rattle.node_rules.specs.Words.{pick}
use Rattle.node_rules.specs.DiskCalls.{TrimLog}
use Rattle.node_rules.specs.InstallRule.{install_by, install_partition, trim_if, born_at, begin_life, in_view, install_view}
use Rattle.node_rules.specs.NodeState.{NodeState, number_of, partition, table_at}
use Rattle.node_rules.specs.NodeStep.{begin_work}
use Rattle.node_rules.specs.Refusals.{may_install}
use Rattle.node_rules.specs.Work.{Work, work_of_home, for_each, with_node, reply}
use Rattle.home_laws.proofs.Given.{born_at_is_sound_law}
use Rattle.step_laws.proofs.Outcomes.{On, on_then, on_more}
use Rattle.node_laws.specs.Nodes.{IsSound, IsViewOf, DiskFits}
use Rattle.node_laws.proofs.Bases.{begun_good}
use Rattle.node_laws.proofs.Stored.{called}
use Rattle.node_laws.proofs.Views.{moved_of}
use Rattle.node_laws.proofs.Works.{Base, IsHomeWork}
use Rattle.cluster_laws.proofs.EraParts.Lives.{live_known}
use Rattle.cluster_laws.proofs.EraParts.Nexts.{follows_born}
use Rattle.related_runs.proofs.Redone.{Here, get_fine, keep_fine, tell_fine}
use Rattle.related_runs.proofs.Told.{AreTold, Fine, fine_weaker}

module _ (front : List Reply) (last : ℕ) (b : Base) (some : 1 ≤ b.config.nodes) where
  -- when the partitions below k are done
  abbrev Below : ℕ → ℕ → Type 0
  Below k p = partition b.config p < k

  none_there : (q p : ℕ) → Below q p → partition b.config p ≢ q
  none_there q p low same = absurd (omega (arith, low, same))

  partition_fine : (d : Disk) (before : Option View) (v : View) (q : ℕ) (low : q < b.config.nodes) (w : Work) → Fine front last b (λ p x. Below q p) w
      → On (Fine front last b (λ p x. Below (q + 1) p)) (install_partition d before v q w)
  unfolding install_partition
  partition_fine d before v q low w f =
      on_more (Fine front last b (λ p x. Here front last b some q low (Below q) (none_there q) p)) (Fine front last b (λ p x. Below (q + 1) p)) (install_partition d before v q w)
      (λ x g. fine_weaker front last b (λ p x. Here front last b some q low (Below q) (none_there q) p) (λ p x. Below (q + 1) p) (λ p v d. next p d) x g)
      (by (owner_of v q == number_of w.node) (since_of v q == v.epoch))
    where
      next : (p : ℕ) → Here front last b some q low (Below q) (none_there q) p → Below (q + 1) p
      next p (inl e) = omega (arith, e)
      next p (inr e) = omega (arith, e)

      by : (x y : Bool) → On (Fine front last b (λ p x. Here front last b some q low (Below q) (none_there q) p)) (install_by x y d before v q w)
      by true true = get_fine front last b some q low (Below q) (none_there q) d w f
      by true false = keep_fine front last b some q low (Below q) (none_there q) (table_at w.node q) d before v w f
      by false true = tell_fine front last b some q low (Below q) (none_there q) before v w f
      by false false = fine_weaker front last b (λ p x. Below q p) (λ p x. Here front last b some q low (Below q) (none_there q) p) (λ p v d. inl d) w f

  partitions_fine : (d : Disk) (before : Option View) (v : View) (n q : ℕ) → q + n ≤ b.config.nodes → (w : Work) → Fine front last b (λ p x. Below q p) w
      → On (Fine front last b (λ p x. Below (q + n) p)) (for_each (install_partition d before v) (count_from q n) w)
  unfolding for_each count_from
  partitions_fine d before v zero q low w f = subst (λ (k : ℕ). Fine front last b (λ p x. Below k p) w) (omega arith) f
  partitions_fine d before v (suc n) q low w f =
      subst (λ (k : ℕ). On (Fine front last b (λ p x. Below k p)) (for_each (install_partition d before v) (count_from q (suc n)) w)) (omega arith)
      (on_then (Fine front last b (λ p x. Below (q + 1) p)) (Fine front last b (λ p x. Below (q + 1 + n) p)) (install_partition d before v q w)
      (for_each (install_partition d before v) (count_from (q + 1) n))
      (partition_fine d before v q (omega (arith, low)) w f) (λ x g. partitions_fine d before v n (q + 1) (omega (arith, low)) x g))

  pub all_partitions : (d : Disk) (before : Option View) (v : View) (w : Work) → IsHomeWork b (work_of_home w) → AreTold front last (λ p x. ⊥) w.node.home w.replies
      → On (λ (x : Work). AreTold front last (λ p y. ⊤) x.node.home x.replies) (for_each (install_partition d before v) (count_from 0 b.config.nodes) w)
  all_partitions d before v w part told =
      on_more (Fine front last b (λ p x. Below (0 + b.config.nodes) p)) (λ (x : Work). AreTold front last (λ p y. ⊤) x.node.home x.replies)
      (for_each (install_partition d before v) (count_from 0 b.config.nodes) w)
      (λ x g. (fine_weaker front last b (λ p x. Below (0 + b.config.nodes) p) (λ p x. ⊤) (λ p v d. tt) x g).1)
      (partitions_fine d before v b.config.nodes 0 (omega arith) w (fine_weaker front last b (λ p x. ⊥) (λ p x. Below 0 p) (λ p v d. absurd d) w (part, told)))

-- a node that is born with a view had no transaction
born_idle : (n : NodeState) (v : View) → IsSound n → is_live v.live (number_of n) ≡ true → may_install n n.view v ≡ true → (born_of v (number_of n) == v.epoch) ≡ true → length n.home.txs.txs ≡ 0
born_idle n v sound live may first = by n.view refl sound.view may
  where
    by : (o : Option View) → n.view ≡ o → IfSome o (IsViewOf n) → may_install n o v ≡ true → length n.home.txs.txs ≡ 0
    by None e is m = sound.idle e
    by (Some u) e is m =
        let low = live_known n.home.config u (number_of n) is.whole is.live in
        let same = follows_born n.home.config u v (number_of n) is.whole m low is.live in
        let moved = moved_of n.home.config u v is.whole m in
        let next = moved.epoch in
        let upto = is.whole.born_upto (number_of n) low in
        absurd (grind (arith, nat_tests, first, same, next, upto))

module _ (n : NodeState) (d : Disk) (v : View) (sound : IsSound n) (can : IsWhole n.home.config v × (is_live v.live (number_of n) ≡ true)) (fits : DiskFits n.home.config d) (may : may_install n n.view v ≡ true) where
  -- the numbers of the node in the new view
  abbrev numbers : Bool → Base
  numbers x =
      record {
        config = n.home.config;
        number = number_of n;
        born = pick x v.epoch n.home.txs.born;
        epoch = v.epoch;
        view = Some v;
        has = λ q. false;
      }

  abbrev answered : Work
  answered = reply (reply.Installed v.epoch) (with_node (begin_work n d) (in_view v n))

  -- the work of a node before its partitions
  record Begins (x : Bool) (w : Work) : Type 0 where
    part : IsHomeWork (numbers x) (work_of_home w)
    last : w.node.home.txs.last ≡ n.home.txs.last
    replies : w.replies ≡ reply.Installed v.epoch ∷ []
    config : w.node.home.config ≡ n.home.config

  trimmed : (x y : Bool) (keep : ℕ) (w : Work) → Begins x w → Begins x (trim_if y keep w)
  trimmed x true keep w i =
      record {
        part = record { home = i.part.home; stored = called n.home.config (TrimLog keep) w.pages w.calls tt i.part.stored };
        last = i.last;
        replies = i.replies;
        config = i.config;
      }
  trimmed x false keep w i = i

  lives : (x : Bool) → (born_of v (number_of n) == v.epoch) ≡ x → Begins x (begin_life x d v answered)
  lives false e =
      let good = begun_good n d sound fits in
      record {
        part = record { home = record { config = refl; number = refl; born = refl; home = sound.home; rights = sound.rights }; stored = good.stored };
        last = refl;
        replies = refl;
        config = refl;
      }
  lives true e =
      let good = begun_good n d sound fits in
      let born : Work = with_node answered (born_at v.epoch answered.node) in
      trimmed true _ _ born
      (record {
        part = record {
          home = record { config = refl; number = refl; born = refl; home = born_at_is_sound_law v.epoch answered.node sound.home (born_idle n v sound can.1 may e); rights = sound.rights };
          stored = good.stored;
        };
        last = refl;
        replies = refl;
        config = refl;
      })

  pub install_told : On (λ (x : Work). AreTold [] n.home.txs.last (λ p y. ⊤) x.node.home x.replies) (install_view d v (begin_work n d))
  unfolding install_view
  install_told =
      let x : Bool = born_of v (number_of n) == v.epoch in
      let i : Begins x (begin_life x d v answered) = lives x refl in
      all_partitions [] n.home.txs.last (numbers x) sound.limits.some_nodes d n.view v (begin_life x d v answered) i.part
      (record { rest = reply.Installed v.epoch ∷ []; joined = i.replies; told = ((tt, refl), tt); last_same = i.last })
