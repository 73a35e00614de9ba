-- The worked install, by computing.
use Rattle.std.proofs.Common.{refl}
use Rattle.node_rules.proofs.Opened.{node_rules}
use Rattle.install_laws.specs.InstallPlans.{plan_pages, plan_settling, plan_rebuilt, plan_get, plan_partition, plan_all}
use Rattle.install_laws.specs.InstallRows.{AnInstallIsWorked}

pub install_row : AnInstallIsWorked
unfolding node_rules plan_pages plan_settling plan_rebuilt plan_get plan_partition plan_all
install_row = refl
