-- What the end of a transaction leaves to be told of a page.
use Rattle.std.specs.Prelude.{◌≡◌, ℕ, ◌==◌, ◌&&◌, Bool, true, false, List, [], ◌∷◌, Option, Some, is_some}
use Rattle.std.specs.List.{AllByRecursion}
use Rattle.pcl_base.specs.declared.event.Event.{Event}
use Rattle.pcl_base.specs.declared.lock.Kind.{Kind}
use Rattle.pcl_base.specs.declared.lock.Kind.TheVariants as kind
use Rattle.pcl_base.specs.declared.message.Change.{Change}
use Rattle.pcl_base.specs.declared.tx.TxId.{TxId}
use Rattle.node_rules.specs.EndRule.{Ending}
use Rattle.node_rules.specs.Work.{Work}
use Rattle.cluster_rules.specs.Clusters.{Cluster, version_of_change}
use Rattle.cluster_laws.specs.Link.Coming.{coming}
use Rattle.page_protocol.specs.State.{Ended, Page}
use Rattle.page_relation.specs.Messages.{ChangeHas}
use Rattle.page_relation.specs.Work.Events.{IsEntered}
use Rattle.page_relation.specs.Work.Landing.{land}

-- The end of t is still to be told of a page, with this change, to the table of the era that its node has reached. The owner's
-- dirty copy is newer than the entry only where it is the change of the own page that the node serves.
pub record OwesEnd (n : ℕ) (t : TxId) (change : Option Change) (a : Page) : Type 0 where
  pub mine : t.node ≡ n
  pub ended : a.home t ≡ Ended (version_of_change change) (a.reached n)
  pub image : ChangeHas a.hist change
  pub entered : (is_some change && (a.served && n == a.owner)) ≡ false → IsEntered a
  pub copy : (x : Change) → change ≡ Some x → a.served ≡ true → n ≡ a.owner → (a.dirty ≡ true) × (a.slot n ≡ Some (record { version = x.version; bytes = x.image }))

-- What is owed of a page by the kind of its lock: nothing where it was held under a right, and then it isn't an own one.
abbrev pub IsOwed : Bool → ℕ → TxId → Kind → Option Change → Page → Type 0
IsOwed owned n t kind.Right change a = (owned ≡ false) × IsEntered a
IsOwed owned n t kind.Own change a = OwesEnd n t change a
IsOwed owned n t kind.Registered change a = OwesEnd n t change a

-- one of two types
abbrev pub choose : Bool → Type 0 → Type 0 → Type 0
choose true X Y = X
choose false X Y = Y

-- no ending of the page
abbrev pub IsAbsent : ℕ → List Ending → Type 0
IsAbsent p es = AllByRecursion (λ (x : Ending). (x.page == p) ≡ false) es

-- What is owed of the page where these endings are still to be told: by the one that is of the page, which then is the
-- only one; else nothing. As long as something is owed, this holds besides.
abbrev pub AreOwed : Type 0 → Bool → ℕ → TxId → ℕ → List Ending → Page → Type 0
AreOwed Before owned n t p [] a = IsEntered a
AreOwed Before owned n t p (x ∷ es) a =
    choose (x.page == p) (IsOwed owned n t x.kind x.change a × IsAbsent p es × Before) (AreOwed Before owned n t p es a)

-- what comes is what came before the step
abbrev pub SameComing : Cluster → Event → ℕ → ℕ → Work → Type 0
SameComing c e n p w = (y z : ℕ) → coming (land c e n w) p y z ≡ coming c p y z
