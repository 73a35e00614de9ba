use Rattle.std.proofs.Common.{Some, sym, subst}
use Rattle.pcl_base.specs.Limits.{Sizes}
use Rattle.disk_model.specs.Disk.{HasSizes}
use Rattle.disk_model.specs.Memory.{bytes_in, rooms_in}
use Rattle.node_core.proofs.tests.takes.Goals as goal

pub returns : goal.returns
returns c = record {
  sizes = subst (λ (z : Sizes). HasSizes z (Some c.step.new.s.pages) (Some (bytes_in c.step.new.s.logs)) (Some (rooms_in c.step.new.s.logs))) (sym c.step.ensures.config) c.step.ensures.sizes;
}
