-- A grant without a right that is carried out at its home.
use Rattle.std.specs.Prelude.{◌≡◌, ℕ, ◌<◌, true, false, List, Option, Some, None, IfSome}
use Rattle.pcl_base.specs.declared.event.Event.{Event}
use Rattle.pcl_base.specs.declared.lock.Kind.{Kind}
use Rattle.pcl_base.specs.declared.lock.Kind.TheVariants as kind
use Rattle.pcl_base.specs.declared.lock.Pending.{Pending}
use Rattle.node_rules.specs.AccessRule.{Granted, granted}
use Rattle.node_rules.specs.BufferRule.{find}
use Rattle.node_rules.specs.EndRule.{is_own_kind}
use Rattle.node_rules.specs.InstallRule.{owned_before}
use Rattle.node_rules.specs.NodeState.{number_of, partition}
use Rattle.node_rules.specs.OpenTxs.{pending_of, waits_as}
use Rattle.node_rules.specs.OwnerRule.{grant_own, told}
use Rattle.node_rules.specs.Work.{Differs, Goes, Work, work_of_home}
use Rattle.home_laws.specs.Homes.{IsHome, is_right_kind}
use Rattle.cluster_rules.specs.Clusters.{Cluster}
use Rattle.page_laws.specs.Moment.Looks.{asked_last}
use Rattle.page_protocol.specs.State.{Image, In, Page, Sent}
use Rattle.page_protocol.specs.Steps.{Reached}
use Rattle.page_relation.specs.Work.Events.{IsEntered}
use Rattle.page_relation.specs.Work.Keeping.{IsWorkOf, Leads}
use Rattle.page_relation.specs.Work.Landing.{Acts, trace_of}
use Rattle.page_relation.specs.Work.Letting.{CalledBy}

-- A transaction of the acting node waits for the page, its grant was sent, and the node hasn't left the era that serves;
-- the lock has the kind of the node's locks on the page, and an image is the grant's.
pub record MayCarry (c : Cluster) (e : Event) (n p : ℕ) (g : Sent) (k : Kind) (image : Option (List ℕ)) (w : Work) (a : Page) : Type 0 where
  pub mine : g.tx.node ≡ n
  pub home : IsHome w.node.home
  pub waits : waits_as (pending_of w.node.home.txs g.tx) p g.mode ≡ true
  pub asked : IfSome (pending_of w.node.home.txs g.tx) (λ (x : Pending). x.write ≡ asked_last g.tx (trace_of c e n w))
  pub called : CalledBy n c.disk (work_of_home w)
  pub config : w.node.home.config ≡ c.config
  pub kind : is_own_kind k ≡ owned_before w.node.view (partition w.node.home.config p) (number_of w.node)
  pub registered : is_right_kind k ≡ false
  pub sent : In g a.sent
  pub takes : a.reached n ≡ a.era
  pub image_is : (bytes : List ℕ) → image ≡ Some bytes → g.word ≡ Image bytes
  pub entered : IsEntered a

-- It is carried out: the machine's acceptance, and then its read or write.
abbrev pub CarryLeads : Type 0
CarryLeads =
    (c : Cluster) (e : Event) (n p : ℕ) (g : Sent) (k : Kind) (image : Option (List ℕ)) (blank : List ℕ) (w : Work) (a : Page) (y : Granted) → Acts c n
    → p < c.config.pages → Reached blank a → MayCarry c e n p g k image w a → IsWorkOf c e n p w a
    → granted g.tx (record { page = p; mode = g.mode; kind = k }) g.version image (work_of_home w) ≡ Goes y → Leads c e n p (λ x b. IsEntered b) a (told w y)

-- A copy that isn't sent along with an image that the grant tells of is the node's own.
abbrev pub HasOwnImage : ℕ → Sent → Option (List ℕ) → Work → Type 0
HasOwnImage p g image w = (bytes : List ℕ) → image ≡ None → g.word ≡ Image bytes → find w.node.home.pool p ≡ Some g.version

-- The page that is read for it doesn't differ.
abbrev pub CarryGoes : Type 0
CarryGoes =
    (c : Cluster) (e : Event) (n p : ℕ) (g : Sent) (k : Kind) (image : Option (List ℕ)) (blank : List ℕ) (w : Work) (a : Page) (q expected found : ℕ) → Acts c n
    → p < c.config.pages → Reached blank a → MayCarry c e n p g k image w a → HasOwnImage p g image w → IsWorkOf c e n p w a
    → granted g.tx (record { page = p; mode = g.mode; kind = k }) g.version image (work_of_home w) ≡ Differs q expected found → ⊥

-- The same of a grant of an owner to a transaction of its own, from the work whose entry has it.
abbrev pub OwnGrantLeads : Type 0
OwnGrantLeads =
    (c : Cluster) (e : Event) (n p : ℕ) (g : Sent) (blank : List ℕ) (w x : Work) (a : Page) → Acts c n → p < c.config.pages → Reached blank a
    → MayCarry c e n p g kind.Own None w a → IsWorkOf c e n p w a → grant_own true g.tx g.mode p g.version w ≡ Goes x → Leads c e n p (λ y b. IsEntered b) a x

-- And it doesn't differ.
abbrev pub OwnGrantGoes : Type 0
OwnGrantGoes =
    (c : Cluster) (e : Event) (n p : ℕ) (g : Sent) (blank : List ℕ) (w : Work) (a : Page) (q expected found : ℕ) → Acts c n → p < c.config.pages → Reached blank a
    → MayCarry c e n p g kind.Own None w a → HasOwnImage p g None w → IsWorkOf c e n p w a → grant_own true g.tx g.mode p g.version w ≡ Differs q expected found → ⊥
