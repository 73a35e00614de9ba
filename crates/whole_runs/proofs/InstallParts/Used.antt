-- Before the turn of the page's partition each lock of the node was used.
use Rattle.std.proofs.Common.{◌≡◌, inl, inr, refl, ap, ◌∙◌, ℕ, ◌==◌, Bool, true, false, List, [], Option, is_some}
use Rattle.pcl_base.specs.declared.event.Event.{Event}
use Rattle.run_rules.specs.Views.{View, born_of}
use Rattle.node_rules.specs.NodeState.{NodeState, number_of}
use Rattle.node_rules.specs.OpenTxs.{OpenTx}
use Rattle.node_rules.specs.Work.{Work}
use Rattle.cluster_rules.specs.Clusters.{Cluster}
use Rattle.kept_relation.specs.Turn.Standing.{as_before}
use Rattle.kept_relation.proofs.TurnParts.Unborn.{none_open}
use Rattle.related_runs.proofs.LocksParts.Stands.{works_are_used_law}
use Rattle.page_relation.specs.Work.StepEnds.{start_of}
use Rattle.page_relation.specs.Work.Unseen.{IsUnseen}
use Rattle.page_relation.proofs.WorkParts.Framing.{unseen_then}
use Rattle.install_relation.specs.Unseen.{KeepsBirth, entered}
use Rattle.install_relation.proofs.Before.{entering_is_unseen_law, unseen_before_law}
use Rattle.install_relation.proofs.Begun.{acts, installs, member}
use Rattle.whole_runs.specs.Install.Turns.{IsTurn, TurnsAreUsed}
use Rattle.whole_runs.proofs.InstallParts.Entering.{empty_of, enters_as, enters_on, none_left}

module _ (blank : List ℕ) (c : Cluster) (e : Event) (n p : ℕ) (s : NodeState) (v : View) (w : Work) (i : IsTurn blank c e n p s v w) where
  abbrev begun : Work
  begun = entered c.disk v s (start_of c s)

  -- the node's births
  births : KeepsBirth s begun w
  births = by (born_of v (number_of s) == v.epoch) refl
    where
      by : (b : Bool) → (born_of v (number_of s) == v.epoch) ≡ b → KeepsBirth s begun w
      by false old = inl (enters_on c s v old)
      by true new = inr (none, none_left w.node.home.txs (λ t. i.waits.unseen.life.alive t ∙ ap (λ (o : Option OpenTx). is_some o) (none_open begun.node.home.txs t none)))
        where
          none : begun.node.home.txs.txs ≡ []
          none = (enters_as c s v).txs ∙ empty_of s.home.txs.txs ((installs c e n s v i.install).first new)

  -- with the old view nothing was seen of the page since the step began
  pub unseen_since : IsUnseen c e n p (start_of c s) (as_before s w)
  unseen_since =
      let is = member c e n s v i.install in
      unseen_then c e n p (start_of c s) (as_before s begun) (as_before s w) (entering_is_unseen_law c e n p s v is.config is.number)
      (unseen_before_law c e n p s begun w births i.waits.unseen)

pub turns_are_used_law : TurnsAreUsed
turns_are_used_law blank c e n p s v w a i related t own =
    works_are_used_law c e n p s (as_before s w) a
    (record {
      acts = acts c e n s v i.install;
      up = i.install.handed.up;
      used = i.run.used;
      holds = λ u held none. held ((unseen_since blank c e n p s v w i).page.uses.held u ∙ none);
      related = related;
    }) t
