-- The state of the work in which a table without a missing report has all of its era.
use Rattle.std.proofs.Common.{◌≡◌, sym, subst, ◌∙◌, ℕ, ◌<◌, ◌≤◌, Bool, List, Some, arith}
use Rattle.pcl_base.specs.declared.event.Event.{Event}
use Rattle.run_rules.specs.Views.{View, since_of}
use Rattle.node_rules.specs.LockTable.{LockTable}
use Rattle.node_rules.specs.NodeState.{partition, table_at}
use Rattle.node_rules.specs.Work.{Work}
use Rattle.cluster_rules.specs.Clusters.{Cluster}
use Rattle.page_protocol.specs.State.{Page}
use Rattle.page_protocol.specs.Steps.{Reached}
use Rattle.page_protocol.proofs.Used.{later_used, named_used}
use Rattle.page_relation.specs.Work.Events.{IsEntered}
use Rattle.page_relation.specs.Work.Keeping.{IsWorkOf, Leads}
use Rattle.report_relation.specs.Completing.{IsReady}
use Rattle.report_relation.specs.Serving.{HasWhole}
use Rattle.page_relation.specs.Work.Landing.{land, Acts}
use Rattle.page_relation.proofs.WorkParts.Kept.{leads_on}
use Rattle.report_relation.specs.Bury.Burying.{burial, lowered, MayBury}
use Rattle.report_relation.specs.Bury.Running.{AreBounded}
use Rattle.report_relation.specs.Bury.Past.{HoldersLive, past_in}
use Rattle.report_relation.specs.Bury.Whole.{IsKnown, KnownIsWhole}
use Rattle.report_relation.proofs.BuryParts.Bounds.{rights_are_bounded_law}
use Rattle.report_relation.proofs.BuryParts.Burials.{burying_is_related_law}
use Rattle.report_relation.proofs.BuryParts.Closed.{past_are_closed_law}
use Rattle.report_relation.proofs.BuryParts.Lowered.{lowering_is_related_law}
use Rattle.report_relation.proofs.BuryParts.Naming.{past_may_be_buried_law}
use Rattle.report_relation.proofs.BuryParts.Reports.{reports}
use Rattle.report_relation.proofs.BuryParts.Runs.{burial_is_run_law, lowering_is_run_law}
use Rattle.report_relation.proofs.BuryParts.Wholes.{gone, later, listed, over, rights}

-- who is past may be buried for an era from the owner's on
pub burial_is_work : (c : Cluster) (e : Event) (n p low : ℕ) (v : View) (w : Work) (a : Page) → a.era < low → MayBury (land c e n w) p low (past_in v) → IsWorkOf c e n p w a
    → IsWorkOf c e n p w (burial a low (past_in v))
burial_is_work c e n p low v w a before may is = burying_is_related_law (land c e n w) p low (past_in v) a before may is

pub lowered_is_work : (c : Cluster) (e : Event) (n p low : ℕ) (gone : ℕ → Bool) (w : Work) (a : Page) → a.era < low → IsWorkOf c e n p w a → IsWorkOf c e n p w (lowered a low gone)
lowered_is_work c e n p low gone w a before is = lowering_is_related_law (land c e n w) p low gone a before is

module _ (c : Cluster) (e : Event) (n p : ℕ) (v : View) (t : LockTable) (blank : List ℕ) (w : Work) (a : Page) (acts : Acts c n) (low : partition c.config p < c.config.nodes) (ready : IsReady c n (partition c.config p) w v t) (known : IsKnown c e n p v w t) (reached : Reached blank a) (is : IsWorkOf c e n p w a) (entered : IsEntered a) where
  abbrev q : ℕ
  q = partition c.config p

  abbrev era : ℕ
  era = since_of v q

  abbrev b : Page
  b = burial a era (past_in v)

  abbrev off : ℕ → Bool
  off m = gone c e n p v t w a acts ready known (later_used blank a reached) (named_used blank a reached) is m

  abbrev z : Page
  z = lowered b era off

  before : a.era < era
  before = later c e n p v t w a acts ready known (later_used blank a reached) (named_used blank a reached) is

  may : MayBury (land c e n w) p era (past_in v)
  may = past_may_be_buried_law c e n p era v w acts low known.owner known.others (let le : era ≤ era = omega arith in le) same
    where
      same : (k : LockTable) → table_at w.node q ≡ Some k → era ≤ since_of v q → HoldersLive v k p
      same k at upto = let both : Some t ≡ Some k = sym ready.there ∙ at in let one : t ≡ k = cc in subst (λ (x : LockTable). HoldersLive v x p) one known.holders

  bounded : AreBounded b
  bounded = let old = rights_are_bounded_law blank a reached in record { bound = old.bound; none = old.none }

  leads : Leads c e n p (λ x k. IsEntered k × HasWhole c e n p q era x t k) a w
  leads =
      leads_on c e n p (λ x k. IsEntered k × HasWhole c e n p q era x t k) a b w (burial_is_run_law a era (past_in v) before (λ u past. past_are_closed_law c e n p v w a u acts known.owner is past))
      (record {
        page = z;
        run = lowering_is_run_law b era off before bounded (over c e n p v t w a acts ready known (later_used blank a reached) (named_used blank a reached) is);
        related = lowered_is_work c e n p era off w b before (burial_is_work c e n p era v w a before may is);
        known = (
          entered,
          record {
            listed = listed c e n p v t w a acts ready known (later_used blank a reached) (named_used blank a reached) is;
            rights = rights c e n p v t w a acts ready known (later_used blank a reached) (named_used blank a reached) is;
            reports = reports c e n p v t w a acts low ready known is;
          },
        );
      })

pub known_is_whole_law : KnownIsWhole
known_is_whole_law c e n p v t blank w a acts low ready known reached is entered = leads c e n p v t blank w a acts low ready known reached is entered
