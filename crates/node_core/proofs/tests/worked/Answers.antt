use Rattle.std.proofs.Common.{Some, sym, subst}
use Rattle.disk_model.specs.Disk.{HasSizes}
use Rattle.disk_model.specs.Memory.{Disk, bytes_in, rooms_in}
use Rattle.node_rules.specs.NodeState.{NodeState, first_node}
use Rattle.node_core.proofs.Opened.{first_sizes}
use Rattle.node_core.proofs.tests.worked.Goals as goal

pub works-done-requires : goal.works-done-requires
works-done-requires c = record {
  sizes =
      subst (λ (n : NodeState). HasSizes n.home.config (Some c.in_ok-s.s.pages) (Some (bytes_in c.in_ok-s.s.logs)) (Some (rooms_in c.in_ok-s.s.logs))) (sym c.in_ok-node.ensures)
      (subst (λ (d : Disk). HasSizes (first_node c.unwrap-config.result 0).home.config (Some d.pages) (Some (bytes_in d.logs)) (Some (rooms_in d.logs))) (sym c.in_ok-s.ensures) (first_sizes c.unwrap-config.result 0));
}
