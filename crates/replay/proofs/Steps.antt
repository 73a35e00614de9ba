-- What is told of a step.
use Rattle.std.proofs.Common.{◌≡◌, ℕ, ◌+◌, ◌⊎◌, Bool, List, [], ◌∷◌, ◌++◌, append-nil, Option, Some, refl, sym, ap, subst, ◌∙◌, inl, inr}
use Rattle.std.specs.Prelude.{flat_map}
use Rattle.pcl_base.specs.declared.event.Event.{Event}
use Rattle.text_rules.specs.ReadEvent.{event_of}
use Rattle.text_rules.specs.TraceText.{entry_text}
use Rattle.text_rules.specs.Totals.{totals_of}
use Rattle.cluster_rules.specs.Clusters.{Cluster}
use Rattle.cluster_rules.specs.ClusterStep.{step}
use Rattle.cluster_parts.specs.Ends.{StepDiffers, IsCutShort}
use Rattle.replay_rules.specs.Due.{Reading, added, in_trace}
use Rattle.replay_rules.specs.Due.Place.{Going}
use Rattle.replay_rules.specs.StepTrace.{AddsOne}
use Rattle.replay_rules.proofs.StepTraces.{step_adds}
use Rattle.replay_laws.proofs.Courses.{one_added}
use Rattle.replay.specs.ReaderView.{ReaderView, place_of, trace_of}
use Rattle.replay.specs.Outcome.{later_text}
use Rattle.replay.specs.Told.{IsRuleStop, IsTold, Tells, TellsLast, TellsSome, IsEntryTold, line_told}

-- a reader whose cluster has made a step
abbrev pub stepped : ReaderView → Cluster → ReaderView
stepped v d = record v { reading = record v.reading { cluster = Some d } }

-- the text of the one entry that is added
added_text : (t : Bool) (c : Cluster) (e : Event) (a : AddsOne c e (step c e))
    → in_trace t (entry_text a.entry) ≡ in_trace t (flat_map entry_text (added c (step c e)))
added_text t c e a =
    ap (in_trace t) (sym (ap (flat_map entry_text) (one_added c e a) ∙ append-nil (entry_text a.entry)))

-- the step of the rules, of which the entry was told
step_told : (v w : ReaderView) (c d : Cluster) (e : Event) (old new : List ℕ) (s : Option ℕ) (a : AddsOne c e (step c e)) → v.reading.cluster ≡ Some c → d ≡ step c e
    → IsEntryTold a.entry c.trace (stepped v d) old new s w → IsTold (line_told v (Some c) (Some e)) v old new s w
step_told v w c d e old new s a here same told =
    record {
      text = told.text ∙ ap (λ t. old ++ t) (added_text v.totals c e a);
      place =
          ap (λ k. Going (record { lines = v.reading.lines + 1; part = []; cluster = Some k })) (sym same)
          ∙ (ap Going (sym told.reading) ∙ ap (λ o. place_of o w.reading) (sym told.none));
      stop = subst IsRuleStop (sym told.none) tt;
      totals = told.totals;
      counts = λ k.
          told.counts (k ∙ ap (λ o. totals_of (trace_of o)) here)
          ∙ ap totals_of (sym a.trace ∙ (ap (λ (x : Cluster). x.trace) (sym same) ∙ ap (λ (r : Reading). trace_of r.cluster) (sym told.reading)));
    }

-- the step was made, and what it has added was told
pub step_tells : (v w : ReaderView) (c d : Cluster) (e : Event) (old new : List ℕ) (s : Option ℕ) → v.reading.cluster ≡ Some c → event_of v.reading.part ≡ Some e
    → (d ≡ step c e) ⊎ IsCutShort c e → TellsLast e (stepped v d) old new s w → TellsSome old new s
    → Tells (line_told v v.reading.cluster (Some e)) v old new s w
step_tells v w c d e old new s here line (inl same) told some =
    let a : AddsOne c e (step c e) = step_adds c e in
    let trace : d.trace ≡ c.trace ++ a.entry ∷ [] = ap (λ (x : Cluster). x.trace) same ∙ a.trace in
    inl (subst (λ o. IsTold (line_told v o (Some e)) v old new s w) (sym here)
    (step_told v w c d e old new s a here same (told a.entry c.trace trace a.event)))
step_tells v w c d e old new s here line (inr cut) told some =
    inr (record {
      differs =
          record { cluster = c; event = e; page = cut.page; expected = cut.expected; found = cut.found; here = here; line = line; step = cut.step };
      more = some.more;
      text = some.text;
      last = some.last;
    })

-- the step reads a page that differs, and the last line says what is left
pub step_left : (v w : ReaderView) (c : Cluster) (e : Event) (page expected found : ℕ) (old new : List ℕ) (s : Option ℕ) → v.reading.cluster ≡ Some c
    → event_of v.reading.part ≡ Some e → StepDiffers c e page expected found → new ≡ old ++ later_text (v.reading.lines + 1)
    → Tells (line_told v v.reading.cluster (Some e)) v old new s w
step_left v w c e page expected found old new s here line differs text =
    inr (record {
      differs = record { cluster = c; event = e; page = page; expected = expected; found = found; here = here; line = line; step = differs };
      more = later_text (v.reading.lines + 1);
      text = text;
      last = λ e. ([], v.reading.lines + 1, refl);
    })
