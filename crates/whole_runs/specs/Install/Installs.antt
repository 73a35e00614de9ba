-- Whole installs from clusters of a run.
use Rattle.std.specs.Prelude.{◌≡◌, ℕ, ◌<◌, List, None}
use Rattle.pcl_base.specs.declared.event.Event.{Event}
use Rattle.run_rules.specs.Views.{View}
use Rattle.node_rules.specs.NodeState.{Install, NodeState}
use Rattle.node_rules.specs.NodeStep.{do_event}
use Rattle.node_rules.specs.Refusals.{refusal}
use Rattle.node_rules.specs.Work.{Differs}
use Rattle.cluster_rules.specs.Clusters.{Cluster}
use Rattle.cluster_laws.specs.Handed.{IsHanded}
use Rattle.page_protocol.specs.State.{Page}
use Rattle.page_protocol.specs.Steps.{Reached}
use Rattle.page_relation.specs.Relation.{IsPageOf}
use Rattle.page_relation.specs.Work.Events.{IsEntered}
use Rattle.page_relation.specs.Work.StepEnds.{start_of}
use Rattle.related_runs.specs.RunLaws.{IsOfRun}
use Rattle.related_runs.specs.Between.Events.{ActsOn}
use Rattle.install_relation.specs.Installing.{IsInstall}
use Rattle.install_relation.specs.Whole.{IsInstallOf, MayOwn}
use Rattle.cluster_facts.specs.Facts.{HaveFacts}

-- What a whole install needs beside the relation of a page is known of it.
abbrev pub InstallsAreKnown : Type 0
InstallsAreKnown =
    (blank : List ℕ) (c : Cluster) (e : Event) (n p : ℕ) (s : NodeState) (v : View) (a : Page) → IsOfRun blank c → HaveFacts c → IsInstall c e n s v → p < c.config.pages → Reached blank a
    → IsEntered a → IsPageOf c p a → IsInstallOf c e n p s v blank a × MayOwn c e n p s v blank a

-- So each whole install keeps the relation of each page.
abbrev pub InstallsActOn : Type 0
InstallsActOn = (blank : List ℕ) (c : Cluster) (v : View) → HaveFacts c → ActsOn blank c (Install v)

-- And no page differs that is read for it.
abbrev pub NoInstallDiffers : Type 0
NoInstallDiffers =
    (blank : List ℕ) (c : Cluster) (e : Event) (n : ℕ) (s : NodeState) (v : View) (page expected found : ℕ) → IsOfRun blank c → HaveFacts c → IsHanded c e n s (Install v)
    → refusal s (Install v) ≡ None → do_event c.disk (Install v) (start_of c s) ≡ Differs page expected found → ⊥
