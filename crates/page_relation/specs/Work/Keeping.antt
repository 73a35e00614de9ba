-- Operations of a step that keep the relation of a page. (How they are put together: proofs/Kept.)
use Rattle.std.specs.Prelude.{◌≡◌, ℕ, List}
use Rattle.pcl_base.specs.declared.event.Event.{Event}
use Rattle.node_rules.specs.Work.{Work, Outcome, Goes}
use Rattle.cluster_rules.specs.Clusters.{Cluster}
use Rattle.page_protocol.specs.State.{Page}
use Rattle.page_protocol.specs.Steps.{Run, Reached}
use Rattle.page_relation.specs.Relation.{IsPageOf}
use Rattle.page_relation.specs.Work.Landing.{land}

-- page p of the cluster as if the step of node n on an event had ended with this work is this state of the machine
abbrev pub IsWorkOf : Cluster → Event → ℕ → ℕ → Work → Page → Type 0
IsWorkOf c e n p w a = IsPageOf (land c e n w) p a

-- a run of the machine from a state to one that the work has, of which something is known
pub record Leads (c : Cluster) (e : Event) (n p : ℕ) (Known : Work → Page → Type 0) (a : Page) (x : Work) : Type 0 where
  pub page : Page
  pub run : Run a page
  pub related : IsWorkOf c e n p x page
  pub known : Known x page

-- An operation of a step keeps the relation of page p: from each state that the machine reaches and that is related
-- to the work, where this is known of both, a run leads to one that is related to the work after it, and that is
-- known of them.
abbrev pub Keeps : Cluster → Event → ℕ → ℕ → (Work → Page → Type 0) → (Work → Outcome Work) → (Work → Page → Type 0) → Type 0
Keeps c e n p Before op After =
    (blank : List ℕ) (w x : Work) (a : Page) → Reached blank a → IsWorkOf c e n p w a → Before w a → op w ≡ Goes x → Leads c e n p After a x
