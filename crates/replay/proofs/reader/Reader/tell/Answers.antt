use Rattle.std.proofs.Common.{◌≡◌, ℕ, ◌+◌, ◌++◌, ◌∷◌, [], List, Option, refl, sym, ap, ◌∙◌}
use Rattle.std.specs.Option.{option_map}
use Rattle.pcl_base.specs.declared.trace.Entry.{Entry}
use Rattle.text_rules.specs.TraceText.{entry_text}
use Rattle.text_rules.specs.Totals.{totals_of}
use Rattle.cluster_rules.specs.Clusters.{Cluster}
use Rattle.cluster_parts.specs.State.{ClusterView, cluster_of}
use Rattle.trace_model.specs.Seen.{TraceView}
use Rattle.replay_rules.specs.Due.{Reading, in_trace}
use Rattle.replay.specs.ReaderView.{ReaderView, trace_of}
use Rattle.replay.proofs.Telling.{later_some}
use Rattle.replay.proofs.reader.Reader.tell.Goals as goal

abbrev reading_of : ℕ → List ℕ → Option Cluster → Reading
reading_of lines part cluster = record { lines = lines; part = part; cluster = cluster }

pub returns-in_ok-add-in-Some-added-clause-last : goal.returns-in_ok-add-in-Some-added-clause-last
returns-in_ok-add-in-Some-added-clause-last c = λ e before trace is.
    let entries =
    c.entries.ensures ∙ (ap (λ (t : TraceView). t.entries) c.trace.ensures.value
    ∙ (sym (ap (λ (o : Option ClusterView). trace_of (option_map cluster_of o)) c.in-Some.is) ∙ ap (λ (v : ReaderView). trace_of v.reading.cluster) c.self.view_is)) in
    let same : c.in-Some-added.entry.now ≡ e = c.in-Some-added.ensures.there before e (entries ∙ trace) is in
    record {
      text =
          c.in_ok-entry-in-Some-added.ensures
          ∙ (ap (λ (x : Entry). c.args.text.now ++ in_trace c.self.inside.totals (entry_text x)) same
          ∙ ap (λ (v : ReaderView). c.args.text.now ++ in_trace v.totals (entry_text e)) c.self.view_is);
      none = refl;
      reading =
          ap (λ p. reading_of (c.self.inside.lines + 1) p (option_map cluster_of c.self.inside.cluster)) c.clear.ensures.items
          ∙ ap (λ (v : ReaderView). reading_of (v.reading.lines + 1) [] v.reading.cluster) c.self.view_is;
      totals = ap (λ (v : ReaderView). v.totals) c.self.view_is;
      counts = λ k.
          c.in_ok-add-in-Some-added.ensures before (ap (λ (v : ReaderView). v.counts) c.self.view_is ∙ k)
          ∙ ap (λ (x : Entry). totals_of (before ++ x ∷ [])) same;
    }

pub returns-in-None-clause-some : goal.returns-in-None-clause-some
returns-in-None-clause-some c = later_some c.args.text.now c.stop.new.text (c.args.self.now.reading.lines + 1) c.stop.result c.stop.ensures.text
