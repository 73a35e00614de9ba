-- A fresh storage in memory has the sizes of its configuration, as the first node has.
use Rattle.std.proofs.Common.{◌≡◌, ◌+◌, ℕ, List, length, replicate, Some, refl, sym, subst, ◌∙◌}
use Rattle.std.proofs.lemmas.List.{length-replicate, length-map}
use Rattle.std.proofs.lemmas.List.Elements.{All-replicate}
use Rattle.pcl_base.specs.Limits.{Sizes}
use Rattle.disk_model.specs.Disk.{HasSizes}
use Rattle.disk_model.specs.Memory.{LogDisk, bytes_in, no_log, opened, rooms_in}
use Rattle.node_rules.specs.NodeState.{first_node}

opened_sizes : (c : Sizes) → HasSizes c (Some (opened c).pages) (Some (bytes_in (opened c).logs)) (Some (rooms_in (opened c).logs))
opened_sizes c = record {
  pages_told = (length-replicate c.pages (replicate (c.size + 16) 0), All-replicate (λ (b : List ℕ). length b ≡ c.size + 16) c.pages (replicate (c.size + 16) 0) (length-replicate (c.size + 16) 0));
  logs_told = length-map (opened c).logs (λ (l : LogDisk). l.bytes) ∙ length-replicate c.nodes no_log;
  rooms_told = length-map (opened c).logs (λ (l : LogDisk). l.room) ∙ length-replicate c.nodes no_log;
}

first_config : (c : Sizes) (me : ℕ) → (first_node c me).home.config ≡ c
unfolding first_node
first_config c me = refl

pub first_sizes : (c : Sizes) (me : ℕ) → HasSizes (first_node c me).home.config (Some (opened c).pages) (Some (bytes_in (opened c).logs)) (Some (rooms_in (opened c).logs))
first_sizes c me = subst (λ (z : Sizes). HasSizes z (Some (opened c).pages) (Some (bytes_in (opened c).logs)) (Some (rooms_in (opened c).logs))) (sym (first_config c me)) (opened_sizes c)
