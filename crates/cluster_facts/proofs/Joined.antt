-- All facts of clusters together.
use Rattle.cluster_facts.proofs.WaitingParts.Carried.{opening_has_reached_law, steps_keep_reached_law}
use Rattle.cluster_facts.proofs.TableParts.Carried.{opening_has_table_lives_law, steps_have_table_lives_law}
use Rattle.cluster_facts.proofs.KnownParts.Joined.{opening_has_known_births_law, steps_have_known_births_law}
use Rattle.cluster_facts.proofs.ReportsParts.NoRights.{opening_has_no_rights_law, steps_keep_unviewed_law}
use Rattle.cluster_facts.proofs.ReportsParts.Opened.{opening_has_reports_law}
use Rattle.cluster_facts.proofs.ReportsParts.Awaited.{steps_keep_reports_law}
use Rattle.cluster_facts.proofs.ReportsParts.Waiting.{opening_has_marked_law, steps_keep_marked_law}
use Rattle.cluster_facts.specs.Facts.{HaveFacts, OpeningHasFacts, StepsHaveFacts}

pub opening_has_facts_law : OpeningHasFacts
opening_has_facts_law c =
    record {
      reached = opening_has_reached_law c;
      tables = opening_has_table_lives_law c;
      unviewed = opening_has_no_rights_law c;
      reports = opening_has_reports_law c;
      marked = opening_has_marked_law c;
      births = opening_has_known_births_law c;
    }

pub steps_have_facts_law : StepsHaveFacts
steps_have_facts_law blank c e is next f =
    let r = is.related in
    record {
      reached = steps_keep_reached_law c e r.cluster r.order r.parties f.reached;
      tables = steps_have_table_lives_law c e r.cluster is.living r.parties f.tables;
      unviewed = steps_keep_unviewed_law c e r.cluster f.unviewed;
      reports = steps_keep_reports_law c e r.cluster r.order f.reports;
      marked = steps_keep_marked_law c e r.cluster r.order r.parties f.reports f.marked;
      births = steps_have_known_births_law blank c e r.cluster r.order r.parties is.used r.pages next f.births;
    }
