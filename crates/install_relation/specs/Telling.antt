-- A node tells the new owner of the page's partition what it has.
use Rattle.std.specs.Prelude.{◌≡◌, ℕ, ◌==◌, false, List}
use Rattle.pcl_base.specs.declared.event.Event.{Event}
use Rattle.run_rules.specs.Views.{View, owner_of}
use Rattle.node_rules.specs.InstallRule.{tell_new_owner}
use Rattle.node_rules.specs.NodeState.{NodeState, partition}
use Rattle.node_rules.specs.Work.{Work}
use Rattle.cluster_rules.specs.Clusters.{Cluster}
use Rattle.page_protocol.specs.State.{Page}
use Rattle.page_relation.specs.Work.Events.{IsEntered}
use Rattle.page_relation.specs.Work.Keeping.{IsWorkOf, Leads}
use Rattle.page_relation.specs.Work.Landing.{Acts}
use Rattle.kept_relation.specs.Turn.Standing.{as_before}
use Rattle.kept_relation.specs.Turn.Telling.{GoesOn, Begins, HasNone, HasTable}
use Rattle.install_relation.specs.Taking.{MayTurnTo}

-- One that didn't own it before.
abbrev pub TellsOn : Type 0
TellsOn =
    (c : Cluster) (e : Event) (n p : ℕ) (s : NodeState) (old v : View) (w : Work) (a : Page) (blank : List ℕ) → Acts c n → MayTurnTo c n p s v w a blank
    → (owner_of v (partition c.config p) == n) ≡ false → GoesOn s old w → HasNone c n p s w
    → IsWorkOf c e n p (as_before s w) a → Leads c e n p (λ x b. IsEntered a → IsEntered b) a (tell_new_owner s.view v (partition c.config p) w)

-- The owner before.
abbrev pub TellsAsOwner : Type 0
TellsAsOwner =
    (c : Cluster) (e : Event) (n p : ℕ) (s : NodeState) (old v : View) (w : Work) (a : Page) (blank : List ℕ) → Acts c n → MayTurnTo c n p s v w a blank
    → (owner_of v (partition c.config p) == n) ≡ false → GoesOn s old w → HasTable c n p s w
    → IsWorkOf c e n p (as_before s w) a → Leads c e n p (λ x b. IsEntered a → IsEntered b) a (tell_new_owner s.view v (partition c.config p) w)

-- One that begins its life.
abbrev pub TellsFirst : Type 0
TellsFirst =
    (c : Cluster) (e : Event) (n p : ℕ) (s : NodeState) (v : View) (w : Work) (a : Page) (blank : List ℕ) → Acts c n → MayTurnTo c n p s v w a blank
    → (owner_of v (partition c.config p) == n) ≡ false → Begins c p s w
    → IsWorkOf c e n p (as_before s w) a → Leads c e n p (λ x b. IsEntered a → IsEntered b) a (tell_new_owner s.view v (partition c.config p) w)
