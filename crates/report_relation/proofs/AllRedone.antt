-- All pages of a partition are redone, so the page is.
use Rattle.std.proofs.Common.{refl, inr}
use Rattle.node_rules.specs.LockTable.{pages_of}
use Rattle.node_rules.specs.NodeState.{partition}
use Rattle.report_relation.specs.AllRedone.{AllAreRedone}
use Rattle.report_relation.proofs.Each.{redo_is_related_law}
use Rattle.report_relation.proofs.Listed.{page_is_listed}

pub all_are_redone_law : AllAreRedone
all_are_redone_law c e n p blank w x a acts low reached may is goes =
    let redo = redo_is_related_law c e n p (pages_of c.config (partition c.config p)) blank w x a acts low reached may is goes in
    record {
      page = redo.page;
      run = redo.run;
      same = redo.same;
      related = redo.related;
      may = redo.may;
      done = λ u. redo.done (inr (page_is_listed c.config (partition c.config p) p (low, refl)));
    }
