-- From the pages that a step leaves to the cluster that it comes to.
use Rattle.std.proofs.Common.{◌≡◌, Bool, true, false}
use Rattle.pcl_base.specs.declared.tx.Mode.TheVariants.{Exclusive}
use Rattle.cluster_rules.specs.Clusters.{opening}
use Rattle.cluster_laws.proofs.Steps.{step_keeps_clusters_law}
use Rattle.cluster_laws.proofs.LinkParts.Rising.{steps_keep_order_law}
use Rattle.node_rules.specs.NodeState.{partition}
use Rattle.page_protocol.specs.State.{Home, Fresh, Holding}
use Rattle.page_protocol.specs.Steps.{here as no_step}
use Rattle.page_relation.specs.Laws.{blank, opening_page}
use Rattle.page_relation.proofs.Opening.{opening_is_related_law, opening_is_whole_law}
use Rattle.related_runs.proofs.LocksParts.Stepped.{opening_has_used_law, steps_have_used_law}
use Rattle.related_runs.specs.RunLaws.{OpeningIsOfRun, StepsGoOn}
use Rattle.related_runs.proofs.Asked.{steps_have_asked_law, opening_has_serials_law, steps_have_serials_law}
use Rattle.related_runs.proofs.Within.{opening_has_within_law, steps_have_within_law}
use Rattle.related_runs.proofs.KeptLogs.{related_keeps_logs_law}
use Rattle.related_runs.proofs.Spoken.{opening_has_living_law, steps_keep_parties_law}

pub steps_go_on_law : StepsGoOn
steps_go_on_law blank c e left is =
    let r = is.related in
    let talks = steps_keep_parties_law c e r.cluster is.living r.parties in
    record {
      related =
          record {
            cluster = step_keeps_clusters_law c e r.cluster;
            asked = steps_have_asked_law c e r.cluster r.asked;
            logs = related_keeps_logs_law blank c e r is.serials;
            order = steps_keep_order_law c e r.cluster r.order;
            parties = talks.1;
            pages = left.pages;
          };
      between = left.between;
      serials = steps_have_serials_law c e r.cluster is.serials;
      living = talks.0;
      within = steps_have_within_law c e r.cluster is.within;
      used = steps_have_used_law c e r.cluster r.asked is.used;
    }

pub opening_is_of_run_law : OpeningIsOfRun
unfolding opening
opening_is_of_run_law c limits =
    let whole = opening_is_whole_law c limits in
    record {
      related =
          record {
            cluster = whole.cluster;
            asked = whole.asked;
            logs = whole.logs;
            order = whole.order;
            parties = whole.parties;
            pages =
                record {
                  page = opening_page c;
                  reached = λ p below. (1, partition c p, no_step);
                  related = λ p below. opening_is_related_law c p limits below;
                };
          };
      between = record { entered = λ p below x dirty. absurd (clean dirty); wrote = λ p below t held. absurd (idle held) };
      serials = opening_has_serials_law c;
      living = opening_has_living_law c;
      within = opening_has_within_law c;
      used = opening_has_used_law c;
    }
  where
    clean : (let b : Bool = false in b) ≡ true → ⊥
    clean e = cc

    idle : (let h : Home = Fresh in h) ≡ Holding Exclusive → ⊥
    idle e = cc
