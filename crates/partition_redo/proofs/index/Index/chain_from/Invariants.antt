use Rattle.std.proofs.Common.{◌≡◌, ◌++◌, List}
use Rattle.partition_redo.specs.declared.site.Site.{Site}
use Rattle.partition_redo.specs.Index.{ranges_of}
use Rattle.partition_redo.specs.Chains.{AreNext}
use Rattle.partition_redo.proofs.index.Index.chain_from.Given as goal

abbrev pub invariant-loop-version : goal.invariant-loop-version
invariant-loop-version l = record {
  more : List Site;
  same : l.sites ≡ l.fn.sites ++ more;
  next : AreNext (ranges_of l.self l.page) more l.from l.version;
}
