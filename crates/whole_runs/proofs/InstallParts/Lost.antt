-- Redo of the pages of a partition, and the nodes that a view drops.
use Rattle.std.proofs.Common.{◌≡◌, refl, ap, sym, subst, ◌∙◌, ℕ, zero, suc, ◌+◌, ◌<◌, ◌≤◌, ◌==◌, ◌||◌, nat_lt, cond, Bool, true, false, List, [], ◌∷◌, length, Some, arith}
use Rattle.std.specs.List.{AllByRecursion, filter, list_any}
use Rattle.std.proofs.lemmas.Bool.Decides.{nat_tests}
use Rattle.pcl_base.specs.Limits.{Sizes}
use Rattle.pcl_base.specs.declared.event.Event.{Event}
use Rattle.pcl_base.specs.declared.log.Record.{Record}
use Rattle.text_rules.specs.MessageBytes.{IsPageOf}
use Rattle.run_rules.specs.Redo.{greatest}
use Rattle.run_rules.specs.Views.{View, count_from, is_live}
use Rattle.node_rules.specs.InstallRule.{lost_nodes, redo_if, redo_lost, version_of_page}
use Rattle.node_rules.specs.NodeState.{table_at}
use Rattle.node_rules.specs.Work.{Differs, Goes, Outcome, Work, and_then, for_each}
use Rattle.node_laws.proofs.Works.{Base}
use Rattle.cluster_rules.specs.Clusters.{Cluster}
use Rattle.kept_relation.specs.Known.{gone_in}
use Rattle.report_relation.specs.Redoing.{records}
use Rattle.report_relation.proofs.RedoMidway.{redo_midway}
use Rattle.settle_relation.specs.Midway.{IsMidway}
use Rattle.page_laws.specs.Storage.Looks.{is_among}
use Rattle.install_relation.proofs.Beside.{purge_midway}
use Rattle.whole_runs.specs.Install.Stays.{LostIsMidway, PurgeIsMidway}

-- ---- numbers that pass a test are found

or_true : (a b : Bool) → b ≡ true → (a || b) ≡ true
or_true true b e = refl
or_true false b e = e

found : (f : ℕ → Bool) (m : ℕ) (a n : ℕ) → f m ≡ true → a ≤ m → m < a + n → list_any (λ k. k == m) (filter f (count_from a n)) ≡ true
unfolding count_from
found f m a zero is low high = absurd (omega (arith, low, high))
found f m a (suc n) is low high = by (a == m) refl (λ other. found f m (a + 1) n is other (omega (arith, high)))
  where
    here_it_is : (b : Bool) → b ≡ true → (xs : List ℕ) → (a == m) ≡ true → list_any (λ k. k == m) (cond b (a ∷ xs) xs) ≡ true
    here_it_is true e xs same = ap (λ (x : Bool). x || list_any (λ k. k == m) xs) same
    here_it_is false e xs same = absurd (cc)

    later : (b : Bool) (xs : List ℕ) → list_any (λ k. k == m) xs ≡ true → list_any (λ k. k == m) (cond b (a ∷ xs) xs) ≡ true
    later true xs rest = or_true (a == m) (list_any (λ k. k == m) xs) rest
    later false xs rest = rest

    by : (b : Bool) → (a == m) ≡ b → (a + 1 ≤ m → list_any (λ k. k == m) (filter f (count_from (a + 1) n)) ≡ true) → list_any (λ k. k == m) (cond (f a) (a ∷ filter f (count_from (a + 1) n)) (filter f (count_from (a + 1) n))) ≡ true
    by true same rest =
        let at : m ≡ a = grind (arith, nat_tests, same) in
        here_it_is (f a) (ap f (sym at) ∙ is) (filter f (count_from (a + 1) n)) same
    by false other rest = later (f a) (filter f (count_from (a + 1) n)) (rest (grind (arith, nat_tests, other, low)))

-- the nodes that a view drops are lost
pub among_lost : (old v : View) (m : ℕ) → m < length v.live → gone_in (is_live old.live) v m ≡ true → is_among (lost_nodes (Some old) v) m ≡ true
among_lost old v m low is = found (gone_in (is_live old.live) v) m 0 (length v.live) is (omega arith) (omega (arith, low))

-- ---- what is known of the work through redo

module _ (b : Base) (c : Cluster) (e : Event) (n q : ℕ) (low : q < c.config.nodes) (lost : List Record) where
  lost_midway : (r : ℕ) (w x : Work) → IsPageOf c.config q r → IsMidway b c e n w → redo_lost lost (records c) q r w ≡ Goes x → IsMidway b c e n x
  lost_midway r w x of i goes = by (nat_lt (version_of_page (table_at w.node q) r) (greatest lost r)) goes
    where
      by : (d : Bool) → redo_if d (records c) q r w ≡ Goes x → IsMidway b c e n x
      by false done = let same : w ≡ x = cc in subst (IsMidway b c e n) same i
      by true done =
          redo_midway b c e n q r w x (subst (λ (k : Sizes). q < k.nodes) (sym i.config) low) (subst (λ (k : Sizes). IsPageOf k q r) (sym i.config) of) i done

  pub all_lost_midway : (rs : List ℕ) → AllByRecursion (IsPageOf c.config q) rs → (w x : Work) → IsMidway b c e n w → for_each (redo_lost lost (records c) q) rs w ≡ Goes x → IsMidway b c e n x
  unfolding for_each
  all_lost_midway [] all w x i goes = let same : w ≡ x = cc in subst (IsMidway b c e n) same i
  all_lost_midway (r ∷ rs) all w x i goes = by (redo_lost lost (records c) q r w) refl goes (λ y z. all_lost_midway rs all.1 y z)
    where
      by : (o : Outcome Work) → redo_lost lost (records c) q r w ≡ o → and_then o (for_each (redo_lost lost (records c) q) rs) ≡ Goes x
          → ((y z : Work) → IsMidway b c e n y → for_each (redo_lost lost (records c) q) rs y ≡ Goes z → IsMidway b c e n z) → IsMidway b c e n x
      by (Goes y) is done rest = rest y x (lost_midway r w y all.0 i is) done
      by (Differs k expected was) is done rest = absurd (cc)

pub lost_is_midway_law : LostIsMidway
lost_is_midway_law b c e n q lost r w x low of i goes = lost_midway b c e n q low lost r w x of i goes

pub purge_is_midway_law : PurgeIsMidway
purge_is_midway_law b c e n q v w low i = purge_midway b c e n q v w (subst (λ (k : Sizes). q < k.nodes) (sym i.config) low) i
