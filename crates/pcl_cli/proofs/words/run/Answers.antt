use Rattle.std.proofs.Common.{sym}
use Rattle.pcl_cli.proofs.words.run.Goals as goal

-- the storage has the sizes of the configuration that the words write
pub serve-requires-clause-sizes : goal.serve-requires-clause-sizes
serve-requires-clause-sizes g c =
    c.requires.sizes (record { me = c.in-Some-node_job_of.job.me; sizes = c.in-Some-node_job_of.job.config }) (sym c.in-Some-node_job_of.ensures.job)
