use Rattle.std.proofs.Common.{Option, sym, ap, ◌∙◌}
use Rattle.std.specs.Option.{option_map}
use Rattle.text_rules.specs.Totals.{totals_of}
use Rattle.cluster_rules.specs.Clusters.{Cluster}
use Rattle.cluster_parts.specs.State.{ClusterView, cluster_of}
use Rattle.replay.specs.ReaderView.{ReaderView, trace_of}
use Rattle.replay.proofs.Telling.{opened_trace}
use Rattle.replay.proofs.reader.Reader.start.Goals as goal

pub returns-clause-counts : goal.returns-clause-counts
returns-clause-counts c = λ k.
    ap (λ (v : ReaderView). v.counts) c.self.view_is
    ∙ (k ∙ ap (λ o. totals_of (trace_of o)) c.requires.none)
    ∙ sym (ap (λ (o : Option ClusterView). totals_of (trace_of (option_map cluster_of o))) c.replace.ensures.after
    ∙ (ap (λ (d : Cluster). totals_of d.trace) c.in_ok-cluster.ensures ∙ ap totals_of (opened_trace _)))
