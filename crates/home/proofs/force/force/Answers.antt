use Rattle.std.proofs.Common.{refl}
use Rattle.home.proofs.Forced.{torn_known}
use Rattle.pcl_base.specs.declared.trace.Call.TheVariants.{Log}
use Rattle.home.proofs.force.force.Goals as goal

pub returns-in-Err-commit-clause-logs : goal.returns-in-Err-commit-clause-logs
returns-in-Err-commit-clause-logs g c =
    torn_known _ _ _ _ _ _ _ _ _ _ _ _ _ _ _ _ c.requires.node c.in-Ok.ensures.value c.log_len.ensures.logs c.commit.ensures.torn c.has_grown-kept.ensures.logs refl c.has_grown-kept.ensures.yes c.has_grown-kept.ensures.no
    (c.log_len.ensures.cause.later Log) (c.commit.ensures.cause.later Log) c.commit.ensures.failing c.log_len.ensures.failing
