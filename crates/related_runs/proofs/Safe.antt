-- The commits of a related cluster are serial, and its storage is durable.
use Rattle.std.proofs.Common.{ℕ, List}
use Rattle.cluster_rules.specs.Clusters.{Cluster}
use Rattle.page_protocol.specs.State.{current}
use Rattle.page_protocol.proofs.Keeps.{reached_holds}
use Rattle.page_protocol.proofs.Promises.{durable_law}
use Rattle.page_laws.proofs.StorageParts.Durables.{kept_is_durable_law}
use Rattle.page_laws.specs.Moment.Looks.{IsNow}
use Rattle.page_laws.proofs.MomentParts.Committing.{pages_are_now_law, now_is_serial_law}
use Rattle.page_relation.specs.Together.{IsRelated}
use Rattle.related_runs.specs.RelatedLaws.{RelatedIsSerial, RelatedIsDurable}

-- what the commits have made of all pages
pub now_of : (blank : List ℕ) (c : Cluster) (r : IsRelated blank c) → IsNow c.config c.trace (λ p. current (r.pages.page p))
now_of blank c r =
    pages_are_now_law c.config c.trace (λ p. current (r.pages.page p)) r.cluster.limits.some_pages (λ p low. (r.pages.related p low).history.now_same)

pub related_is_serial_law : RelatedIsSerial
related_is_serial_law blank c r = let now = now_of blank c r in now_is_serial_law c.config c.trace now.base now.known

pub related_is_durable_law : RelatedIsDurable
related_is_durable_law blank c r =
    let now = now_of blank c r in
    kept_is_durable_law c.config c.trace c.disk now.base r.cluster.disk.logs now.known
    (λ p low.
    record {
      page = r.pages.page p;
      stored = (r.pages.related p low).stored;
      durable = durable_law blank (r.pages.page p) (reached_holds blank (r.pages.page p) (r.pages.reached p low));
      current_is = now.pages p low;
    })
