-- No page differs that is read for a whole install.
use Rattle.std.proofs.Common.{◌≡◌, inl, inr, ap, sym, subst, ◌∙◌, ℕ, zero, suc, ◌+◌, ◌*◌, ◌%◌, ◌≤◌, ◌<◌, ◌==◌, false, List, arith}
use Rattle.std.proofs.lemmas.Bool.Decides.{nat_tests}
use Rattle.std.proofs.lemmas.Nat.{mod-mul-add}
use Rattle.pcl_base.specs.Limits.{Sizes}
use Rattle.pcl_base.specs.declared.event.Event.{Event}
use Rattle.run_rules.specs.Views.{View, count_from}
use Rattle.node_rules.specs.InstallRule.{install_partition, install_view}
use Rattle.node_rules.specs.NodeState.{Install, NodeState, partition}
use Rattle.node_rules.specs.NodeStep.{do_event}
use Rattle.node_rules.specs.Work.{Differs, Goes, Work, for_each}
use Rattle.cluster_rules.specs.Clusters.{Cluster}
use Rattle.page_protocol.specs.State.{Page}
use Rattle.related_runs.specs.RunLaws.{IsOfRun}
use Rattle.page_relation.specs.Work.StepEnds.{start_of}
use Rattle.install_relation.specs.Installing.{IsInstall, IsInstalling, IsWaiting}
use Rattle.install_relation.specs.Unseen.{entered}
use Rattle.install_relation.specs.Whole.{IsInstallOf, MayOwn}
use Rattle.install_relation.proofs.Begun as begun
use Rattle.install_relation.proofs.Whole as installs
use Rattle.install_relation.proofs.Whole.{others_are_unseen_law}
use Rattle.cluster_facts.specs.Facts.{HaveFacts}
use Rattle.whole_runs.specs.Install.Installs.{NoInstallDiffers}
use Rattle.whole_runs.proofs.InstallParts.Agreeing.{differs_in}
use Rattle.whole_runs.proofs.InstallParts.Installed.{is_install, may_own}
use Rattle.whole_runs.proofs.InstallParts.TurnAgreed.{turn_agrees}

small : (a k : ℕ) → a < k → a % k ≡ a
small a k low = ap (λ (x : ℕ). x % k) (let same : a ≡ 0 * k + a = omega arith in same) ∙ mod-mul-add 0 k a low

module _ (blank : List ℕ) (c : Cluster) (e : Event) (n : ℕ) (s : NodeState) (v : View) (run : IsOfRun blank c) (facts : HaveFacts c) (install : IsInstall c e n s v) where
  abbrev page : ℕ → Page
  page = run.related.pages.page

  of : (p : ℕ) → p < c.config.pages → IsInstallOf c e n p s v blank (page p)
  of p low = is_install blank c e n p s v (page p) run facts install low (run.related.pages.reached p low) (run.between.entered p low) (run.related.pages.related p low)

  own : (p : ℕ) → p < c.config.pages → MayOwn c e n p s v blank (page p)
  own p low = may_own blank c e n p s v (page p) run facts install low (run.related.pages.reached p low) (run.between.entered p low) (run.related.pages.related p low)

  -- when k partitions are done: what is known of the work, and of each page
  record Stages (k : ℕ) (w : Work) : Type 0 where
    installing : IsInstalling c e n s v k w
    pages : (p : ℕ) (low : p < c.config.pages) → installs.Stage c e n p s v blank (page p) (of p low) (own p low) k w

  first : Stages 0 (entered c.disk v s (start_of c s))
  first = record { installing = begun.begins_installing c e n s v install; pages = λ p low. installs.begins_stage c e n p s v blank (page p) (of p low) (own p low) }

  -- before the last partition
  further : (k : ℕ) → k + 1 < c.config.nodes → (w x : Work) → Stages k w → install_partition c.disk s.view v k w ≡ Goes x → Stages (k + 1) x
  further k low w x stages goes =
      record {
        installing = (others_are_unseen_law c e n (k + 1) k s v w x install (omega (arith, low)) other stages.installing goes).0;
        pages = λ p below. installs.turn c e n p s v blank (page p) (of p below) (own p below) k (omega (arith, low)) w x (stages.pages p below) goes;
      }
    where
      other : (k == partition c.config (k + 1)) ≡ false
      other = (let same = small (k + 1) c.config.nodes low in grind (arith, nat_tests, same))

  one_agrees : (k : ℕ) → k < c.config.nodes → (w : Work) → Stages k w → (r expected found : ℕ) → install_partition c.disk s.view v k w ≡ Differs r expected found → ⊥
  one_agrees k low w stages r expected found is =
      turn_agrees blank c e n k s v w run facts install low stages.installing (λ p below same. by p below same (stages.pages p below)) r expected found is
    where
      by : (p : ℕ) (below : p < c.config.pages) → partition c.config p ≡ k → installs.Stage c e n p s v blank (page p) (of p below) (own p below) k w → IsWaiting c e n p s v (partition c.config p) w
      by p below same (inl (le, waits)) = subst (λ (j : ℕ). IsWaiting c e n p s v j w) (sym same) waits
      by p below same (inr (less, led)) = absurd (omega (arith, less, same))

  walk : (m k : ℕ) → k + m ≤ c.config.nodes → (w : Work) → Stages k w → (r expected found : ℕ) → for_each (install_partition c.disk s.view v) (count_from k m) w ≡ Differs r expected found → ⊥
  unfolding for_each count_from
  walk zero k upto w stages r expected found is = absurd (cc)
  walk (suc m) k upto w stages r expected found is =
      differs_in (install_partition c.disk s.view v k w) (for_each (install_partition c.disk s.view v) (count_from (k + 1) m)) r expected found is
      (one_agrees k (omega (arith, upto)) w stages) (λ x goes more. rest m upto x goes more (walk m (k + 1)))
    where
      rest : (j : ℕ) → k + suc j ≤ c.config.nodes → (x : Work) → install_partition c.disk s.view v k w ≡ Goes x → for_each (install_partition c.disk s.view v) (count_from (k + 1) j) x ≡ Differs r expected found
          → (k + 1 + j ≤ c.config.nodes → (y : Work) → Stages (k + 1) y → (r expected found : ℕ) → for_each (install_partition c.disk s.view v) (count_from (k + 1) j) y ≡ Differs r expected found → ⊥) → ⊥
      rest zero high x goes more next = absurd (cc)
      rest (suc j) high x goes more next = next (omega (arith, high)) x (further k (omega (arith, high)) w x stages goes) r expected found more

  pub none_differs : (r expected found : ℕ) → do_event c.disk (Install v) (start_of c s) ≡ Differs r expected found → ⊥
  unfolding install_view do_event
  none_differs r expected found is =
      walk c.config.nodes 0 (omega arith) (entered c.disk v s (start_of c s)) first r expected found
      (sym (ap (λ (k : Sizes). for_each (install_partition c.disk s.view v) (count_from 0 k.nodes) (entered c.disk v s (start_of c s))) (begun.member c e n s v install).config) ∙ is)

pub no_install_differs_law : NoInstallDiffers
no_install_differs_law blank c e n s v r expected found run facts handed free is =
    none_differs blank c e n s v run facts (record { cluster = run.related.cluster; asks = run.related.asked; handed = handed; free = free }) r expected found is
