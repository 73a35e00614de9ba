-- Copies that are let go for frames, and the pages that a home's calls leave.
use Rattle.std.specs.Prelude.{◌≡◌, ℕ, ◌<◌, List, None}
use Rattle.pcl_base.specs.declared.event.Event.{Event}
use Rattle.run_rules.specs.Disk.{Disk}
use Rattle.node_rules.specs.AccessRule.{Access, take_frames}
use Rattle.node_rules.specs.DiskCalls.{all_done}
use Rattle.node_rules.specs.Work.{HomeWork, Work, Goes, work_of_home, with_home_work}
use Rattle.cluster_rules.specs.Clusters.{Cluster}
use Rattle.cluster_laws.specs.Call.Calls.{BeginsWith}
use Rattle.home_laws.specs.Homes.{IsHome}
use Rattle.home_laws.specs.Refused.{access_refusal}
use Rattle.page_laws.specs.Look.Buffers.{LetsGo}
use Rattle.page_protocol.specs.State.{Page}
use Rattle.page_protocol.specs.Steps.{Reached}
use Rattle.page_relation.specs.Work.Events.{IsEntered}
use Rattle.page_relation.specs.Work.Keeping.{IsWorkOf, Leads, Keeps}
use Rattle.page_relation.specs.Work.Landing.{Acts}

-- the pages of a home's work are those that its calls leave of a disk
abbrev pub CalledBy : ℕ → Disk → HomeWork → Type 0
CalledBy n d w = w.pages ≡ (all_done n d w.calls).pages

-- Copies of pages that nobody uses leave, one after the other, each written back where it is dirty: the machine's
-- flushes and evictions.
abbrev pub LettingGoLeads : Type 0
LettingGoLeads =
    (c : Cluster) (e : Event) (n p r : ℕ) (w : Work) (x : HomeWork) (blank : List ℕ) (a : Page) → Acts c n → p < c.config.pages → Reached blank a
    → IsWorkOf c e n p w a → IsEntered a → LetsGo r (work_of_home w) x → BeginsWith w.calls x.calls → CalledBy n c.disk (work_of_home w) → CalledBy n c.disk x
    → Leads c e n p (λ y b. IsEntered b) a (with_home_work w x)

-- what is known of a work before an access that isn't refused
pub record MayTake (c : Cluster) (n : ℕ) (access : Access) (w : Work) (a : Page) : Type 0 where
  pub entered : IsEntered a
  pub home : IsHome w.node.home
  pub allowed : access_refusal access w.node.home ≡ None
  pub called : CalledBy n c.disk (work_of_home w)

-- the frames of an access
abbrev pub FramesKeep : Type 0
FramesKeep =
    (c : Cluster) (e : Event) (n p : ℕ) (access : Access) → Acts c n → p < c.config.pages
    → Keeps c e n p (MayTake c n access) (λ w. Goes (with_home_work w (take_frames access (work_of_home w)))) (λ w a. IsEntered a)
