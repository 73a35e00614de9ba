-- Why no run comes to these.
use Rattle.std.proofs.Common.{◌≡◌, refl, true, false, Some, None, arith}
use Rattle.run_rules.specs.Views.{first}
use Rattle.node_rules.specs.NodeState.{first_node, start_node}
use Rattle.cluster_rules.specs.Clusters.{view_of_epoch}
use Rattle.cluster_rules.specs.ClusterRows.{two}
use Rattle.cluster_laws.specs.SoundRows.{NoMessageIsAhead, NoMessageToItself, NoViewTwice, NoNodeIsDropped, NoNodeStartsAlone, NoNodeElsewhere}
use Rattle.cluster_laws.proofs.Views.{next_epoch}

pub no_message_is_ahead_law : NoMessageIsAhead
no_message_is_ahead_law on = let late = on.epoch in absurd (omega (arith, late))

pub no_message_to_itself_law : NoMessageToItself
no_message_to_itself_law on = absurd (on.others refl)

pub no_view_twice_law : NoViewTwice
no_view_twice_law are = let at = (next_epoch two (first two) (first two) are.1.0).0 in absurd (omega (arith, at))

pub no_node_is_dropped_law : NoNodeIsDropped
unfolding first_node view_of_epoch
no_node_is_dropped_law is = let live : false ≡ true = is.kept 2 (omega arith) in absurd (cc)

pub no_node_starts_alone_law : NoNodeStartsAlone
unfolding start_node view_of_epoch
no_node_starts_alone_law is = let there : None ≡ Some (is.begins refl).next = (is.begins refl).there in absurd (cc)

pub no_node_elsewhere_law : NoNodeElsewhere
unfolding first_node
no_node_elsewhere_law is = let at : 1 ≡ 0 = is.number in absurd (omega (arith, at))
