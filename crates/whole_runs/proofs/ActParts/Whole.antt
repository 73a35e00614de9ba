-- All events that redo no page.
use Rattle.node_rules.specs.NodeState.{Begin, Read, Write, Commit, Abort, Deliver, Evict, Flush, Install, Cut}
use Rattle.whole_runs.specs.Act.Acted.{ActedIsKept}
use Rattle.whole_runs.proofs.ActParts.Accesses.{read_acts, write_acts}
use Rattle.whole_runs.proofs.ActParts.Ends.{abort_acts, commit_acts}
use Rattle.whole_runs.proofs.ActParts.Messages.{message_acts}
use Rattle.whole_runs.proofs.ActParts.Simple.{begin_acts, evict_acts, flush_acts, cut_acts}

pub acted_is_kept_law : ActedIsKept
acted_is_kept_law blank Begin plain = begin_acts blank
acted_is_kept_law blank (Read t q) plain = read_acts blank t q
acted_is_kept_law blank (Write t q place piece) plain = write_acts blank t q place piece
acted_is_kept_law blank (Commit t) plain = commit_acts blank t
acted_is_kept_law blank (Abort t) plain = abort_acts blank t
acted_is_kept_law blank (Deliver from m) plain = message_acts blank from m plain
acted_is_kept_law blank (Evict q) plain = evict_acts blank q
acted_is_kept_law blank (Flush q) plain = flush_acts blank q
acted_is_kept_law blank (Install v) plain = absurd plain
acted_is_kept_law blank Cut plain = cut_acts blank
