-- The outcome of a run that comes to the end of its input.
use Rattle.std.proofs.Common.{◌≡◌, ℕ, ◌≤◌, Bool, true, false, List, [], ◌++◌, append-nil, Option, Some, None, Result, Ok, Err, refl, sym, ap, subst, ◌∙◌, inl, inr}
use Rattle.std.specs.Prelude.{IsTrue, IfOk, unwrap_or}
use Rattle.std.specs.Io.KnownBytes.{Appends, Consumes, IsAtEnd}
use Rattle.replay_rules.specs.Due.{first_place, at_end, due}
use Rattle.replay_rules.specs.Due.Place.{Going, Stopped}
use Rattle.replay_rules.specs.Outcome.{AppendsPart, so_far, is_judged}
use Rattle.replay_rules.specs.Outcome.{Outcome as OutcomeOfRules}
use Rattle.replay.specs.declared.ends.Fault.{Fault}
use Rattle.replay.specs.ReaderView.{ReaderView, first_reader}
use Rattle.replay.specs.Outcome.{OutcomeOrDifference}
use Rattle.replay.specs.Wrote.{Closes, HasBlame, GoesOn, Went, Reached, IsWriteFault, status_of}
use Rattle.replay.proofs.Alone.{traced_run}
use Rattle.replay.proofs.EndLemmas.{appends_both, consumes_both}
use Rattle.replay.proofs.Going.{Further, differed_more, part_after, fault_earlier}
use Rattle.replay.proofs.Reaching.{judged_is_known}
use Rattle.replay.proofs.Outcomes.{fault_outcome}

-- what is due to the whole, behind bytes that were read
due_then : (t : Bool) (taken : List ℕ) (r : ReaderView) → (so_far t taken).place ≡ Going r.reading → r.totals ≡ t
    → ((due t taken).place ≡ (at_end r.totals (Going r.reading)).place)
    × ((due t taken).text ≡ (so_far t taken).text ++ (at_end r.totals (Going r.reading)).text)
unfolding due
due_then t taken r place totals = (
  ap (λ p. (at_end t p).place) place ∙ ap (λ x. (at_end x (Going r.reading)).place) (sym totals),
  ap (λ p. (so_far t taken).text ++ (at_end t p).text) place ∙ ap (λ x. (so_far t taken).text ++ (at_end x (Going r.reading)).text) (sym totals),
)

end_by_rules : (t : Bool) (left left' a b c : Option (List ℕ)) (source source' sink sink' : ℕ) (taken text : List ℕ) (status : ℕ) (r : ReaderView) → Consumes left left' taken
    → IsAtEnd left' → GoesOn (first_reader t) taken a b None r → (at_end r.totals (Going r.reading)).place ≡ Stopped status → IsTrue (is_judged status)
    → text ≡ (at_end r.totals (Going r.reading)).text → Appends b c text → OutcomeOfRules t left left' a c source source' sink sink' status
end_by_rules t left left' a b c source source' sink sink' taken text status r consumed end g place judged same written =
    let given = due_then t taken r g.place g.totals in
    record {
      taken = taken;
      consumed = consumed;
      known = judged_is_known (is_judged status) _ judged;
      judged = λ h.
          record {
            place = given.0 ∙ place;
            text = subst (Appends a c) (ap (λ l. (so_far t taken).text ++ l) same ∙ sym given.1) (appends_both a b c _ text g.text written);
            over = inr end;
          };
      failed_source = λ four. let bad : false ≡ true = subst (λ n. IsTrue (is_judged n)) four judged in absurd (cc);
      failed_sink = λ five. let bad : false ≡ true = subst (λ n. IsTrue (is_judged n)) five judged in absurd (cc);
      part = λ either.
          elim either [
            | inl five ↦ let bad : false ≡ true = subst (λ n. IsTrue (is_judged n)) five judged in absurd (cc)
            | inr nine ↦ let bad : false ≡ true = subst (λ n. IsTrue (is_judged n)) nine judged in absurd (cc)
          ];
    }

-- a status that was judged is not 8
judged_further : (a b : Option (List ℕ)) (text : List ℕ) (status : ℕ) → IsTrue (is_judged status) → Appends a b text → Further (Some status) a b
judged_further a b text status judged written =
    record {
      text = text;
      written = written;
      last = λ e.
          let eight : status ≡ 8 = ap (λ s. unwrap_or s 0) e in
          let bad : false ≡ true = subst (λ n. IsTrue (is_judged n)) eight judged in absurd (cc);
    }

end_runs : (t : Bool) (left left' a b c : Option (List ℕ)) (source source' sink sink' : ℕ) (taken : List ℕ) (status : ℕ) (r : ReaderView) → Consumes left left' taken
    → IsAtEnd left' → Went (first_reader t) taken a b None r → (at_end r.totals (Going r.reading)).place ≡ Stopped status → IsTrue (is_judged status)
    → Closes r b c (Ok status) → OutcomeOrDifference t left left' a c source source' sink sink' status
end_runs t left left' a b c source source' sink sink' taken status r consumed end went place judged closes =
    record {
      taken = taken;
      consumed = consumed;
      known = judged_is_known (is_judged status) _ judged;
      failed_source = λ four. let bad : false ≡ true = subst (λ n. IsTrue (is_judged n)) four judged in absurd (cc);
      failed_sink = λ five. let bad : false ≡ true = subst (λ n. IsTrue (is_judged n)) five judged in absurd (cc);
      runs = elim went [
        | inl g ↦
            let outcome : OutcomeOfRules t left left' a c source source' sink sink' status =
            end_by_rules t left left' a b c source source' sink sink' taken closes.text status r consumed end g place judged (closes.due (g.counts refl)) closes.wrote.whole in
            inl (record {
              outcome = outcome;
              traced = λ zero. traced_run t left left' a c source source' sink sink' (subst (OutcomeOfRules t left left' a c source source' sink sink') zero outcome);
            })
        | inr d ↦ inr (differed_more t first_place taken a b c None (Some status) d (judged_further b c closes.text status judged closes.wrote.whole))
      ];
    }

end_fails : (t : Bool) (left left' a b c : Option (List ℕ)) (source source' sink sink' : ℕ) (taken : List ℕ) (fault : Fault) (r : ReaderView) → Consumes left left' taken
    → IsAtEnd left' → IsWriteFault sink sink' fault → Closes r b c (Err fault) → Went (first_reader t) taken a b None r
    → OutcomeOrDifference t left left' a c source source' sink sink' (status_of (Err fault))
end_fails t left left' a b c source source' sink sink' taken fault r consumed end cause closes went =
    fault_outcome t left left' a c source source' sink sink' taken fault consumed cause
    (elim went [
      | inl g ↦
          let given = due_then t taken r g.place g.totals in
          let same : (due t taken).text ≡ (so_far t taken).text ++ closes.text = given.1 ∙ ap (λ l. (so_far t taken).text ++ l) (sym (closes.due (g.counts refl))) in
          inl (inr (end, subst (AppendsPart a c) (sym same) (part_after a b c _ closes.text g.text closes.wrote.part)))
      | inr d ↦
          let part = closes.wrote.part in
          inr (differed_more t first_place taken a b c None None d (record { text = part.0; written = part.3; last = λ e. absurd (cc) }))
    ])

closes_case : (t : Bool) (r : ReaderView) (left left' a b c : Option (List ℕ)) (source source' sink sink1 sink' : ℕ) (taken : List ℕ) (result : Result ℕ Fault)
    → Consumes left left' taken → IsAtEnd left' → Went (first_reader t) taken a b None r → Closes r b c result → sink ≤ sink1 → HasBlame sink1 sink' result
    → IfOk result (λ s. (at_end r.totals (Going r.reading)).place ≡ Stopped s) → IfOk result (λ s. IsTrue (is_judged s))
    → OutcomeOrDifference t left left' a c source source' sink sink' (status_of result)
closes_case t r left left' a b c source source' sink sink1 sink' taken (Ok status) consumed end went closes later blame place judged =
    end_runs t left left' a b c source source' sink sink' taken status r consumed end went place judged closes
closes_case t r left left' a b c source source' sink sink1 sink' taken (Err fault) consumed end went closes later blame place judged =
    end_fails t left left' a b c source source' sink sink' taken fault r consumed end (fault_earlier sink sink1 sink' fault later blame.cause) closes went

pub finished : (t : Bool) (r : ReaderView) (left left1 left2 a b c : Option (List ℕ)) (source source1 source2 sink sink1 sink2 : ℕ) (result : Result ℕ Fault)
    → Reached (first_reader t) left left1 a b source source1 sink sink1 r → Consumes left1 left2 [] → IsAtEnd left2 → Closes r b c result → HasBlame sink1 sink2 result
    → IfOk result (λ s. (at_end r.totals (Going r.reading)).place ≡ Stopped s) → IfOk result (λ s. IsTrue (is_judged s))
    → OutcomeOrDifference t left left2 a c source source2 sink sink2 (status_of result)
finished t r left left1 left2 a b c source source1 source2 sink sink1 sink2 result here nothing end closes blame place judged =
    closes_case t r left left2 a b c source source2 sink sink1 sink2 here.taken result
    (subst (Consumes left left2) (append-nil here.taken) (consumes_both left left1 left2 here.taken [] here.consumed nothing)) end here.went closes here.later_sink blame place judged
