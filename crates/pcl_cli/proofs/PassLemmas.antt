-- A text that is passed on piece by piece.
use Rattle.std.proofs.Common.{◌≡◌, ℕ, ◌≤◌, inl, inr, arith, Result, Ok, Err, List, [], ◌∷◌, ◌++◌, Option, Some, None, refl, sym, ap, ◌∙◌, append_assoc}
use Rattle.std.proofs.lemmas.List.{append-nil}
use Rattle.std.specs.Io.KnownBytes.{Appends}
use Rattle.pcl_base.specs.declared.event.Event.{Event}
use Rattle.text_rules.specs.ScheduleLine.{header_line}
use Rattle.text_rules.specs.Generator.{made_events, made_text}
use Rattle.pcl_base.specs.Limits.{Sizes}
use Rattle.text_rules.specs.TraceText.{ended}
use Rattle.replay_rules.specs.Outcome.{AppendsPart}
use Rattle.schedule_gen.specs.Links.{first_of, rest_of}
use Rattle.pcl_cli.specs.MakeText.{lines_of, Passes, Passed, IsCause}
use Rattle.pcl_cli.specs.declared.make.Stop.{Stop}
use Rattle.pcl_cli.specs.declared.make.Stop.TheVariants.{Sink, Memory}

some_same : (x y : Event) → Some x ≡ Some y → x ≡ y
some_same x y same = cc

-- one after the other
appends_both : (a b c : Option (List ℕ)) (x y : List ℕ) → Appends a b x → Appends b c y → Appends a c (x ++ y)
appends_both None b c x y first second = tt
appends_both (Some xs) None c x y first second = absurd first
appends_both (Some xs) (Some ys) None x y first second = absurd second
appends_both (Some xs) (Some ys) (Some zs) x y first second = second ∙ ap (λ q. q ++ y) first ∙ append_assoc xs x y

appends_nothing : (a : Option (List ℕ)) → Appends a a []
appends_nothing None = tt
appends_nothing (Some xs) = sym (append-nil xs)

-- nothing is passed on yet
pub passes_nothing : (a : Option (List ℕ)) (text : List ℕ) → Passes a a text text
passes_nothing a text = record { piece = []; written = appends_nothing a; whole = refl }

-- a beginning was written
pub part_of : (a b : Option (List ℕ)) (text rest : List ℕ) → Passes a b text rest → AppendsPart a b text
part_of a b text rest passes = (passes.piece, rest, passes.whole, passes.written)

-- some lines more are kept
pub passes_more : (a b : Option (List ℕ)) (all kept kept' : List ℕ) → Passes a b all kept → kept ≡ kept' → Passes a b all kept'
passes_more a b all kept kept' passes same = record { piece = passes.piece; written = passes.written; whole = passes.whole ∙ ap (λ l. passes.piece ++ l) same }

-- a beginning of what is kept is passed on
pub passes_on : (a b c : Option (List ℕ)) (all text text' lines : List ℕ) → Passes a b all (text ++ lines) → Passes b c text text' → Passes a c all (text' ++ lines)
passes_on a b c all text text' lines first second =
    record {
      piece = first.piece ++ second.piece;
      written = appends_both a b c first.piece second.piece first.written second.written;
      whole =
          first.whole
          ∙ (ap (λ l. first.piece ++ l) (ap (λ l. l ++ lines) second.whole ∙ append_assoc second.piece text' lines)
          ∙ sym (append_assoc first.piece second.piece (text' ++ lines)));
    }

-- a part of what is kept was written
pub part_more : (a b c : Option (List ℕ)) (all text more rest : List ℕ) → Passes a b all text → text ≡ more ++ rest → AppendsPart b c more → AppendsPart a c all
part_more a b c all text more rest first split part = (
  first.piece ++ part.0,
  part.1 ++ rest,
  first.whole
      ∙ (ap (λ l. first.piece ++ l) (split ∙ (ap (λ l. l ++ rest) part.2 ∙ append_assoc part.0 part.1 rest))
      ∙ sym (append_assoc first.piece part.0 (part.1 ++ rest))),
  appends_both a b c first.piece part.0 first.written part.3,
)

-- all that was kept was passed on
pub passes_all : (a b c : Option (List ℕ)) (all text : List ℕ) → Passes a b all text → Passes b c text [] → Passes a c all []
passes_all a b c all text first second =
    record {
      piece = first.piece ++ second.piece;
      written = appends_both a b c first.piece second.piece first.written second.written;
      whole = first.whole ∙ (ap (λ l. first.piece ++ l) second.whole ∙ sym (append_assoc first.piece second.piece []));
    }

-- the events that are still to come
pub come : (l l' : List Event) (e : Event) → Some e ≡ first_of l → l' ≡ rest_of l → l ≡ e ∷ l'
come [] l' e first rest = absurd (cc)
come (x ∷ l) l' e first rest = ap (λ y. y ∷ l) (some_same x e (sym first)) ∙ ap (λ q. e ∷ q) (sym rest)

-- nothing was written
pub nothing_written : (a : Option (List ℕ)) (sink : ℕ) (text : List ℕ) → Passed {X = Unit {0}} a a sink sink text [] (Err Memory)
nothing_written a sink text =
    record {
      later = omega arith;
      ok = tt;
      err = ([], text, refl, appends_nothing a);
      cause = tt;
    }

raised : (stop : Stop) (a b c : ℕ) → a ≤ b → IsCause b c stop → IsCause a c stop
raised Sink a b c later (inl less) = inl (omega (arith, later, less))
raised Sink a b c later (inr last) = inr last
raised Memory a b c later cause = tt

-- all was passed on, or a beginning was written
pub passed_all : (a b c : Option (List ℕ)) (sink sink' sink'' : ℕ) (all text : List ℕ) (result : Result (Unit {0}) Stop)
    → Passes a b all text → sink ≤ sink' → Passed b c sink' sink'' text [] result → Passed a c sink sink'' all [] result
passed_all a b c sink sink' sink'' all text (Ok x) first later second =
    record {
      later = omega (arith, later, second.later);
      ok = passes_all a b c all text first second.ok;
      err = tt;
      cause = tt;
    }
passed_all a b c sink sink' sink'' all text (Err stop) first later second =
    record {
      later = omega (arith, later, second.later);
      ok = tt;
      err = part_more a b c all text text [] first (sym (append-nil text)) second.err;
      cause = raised stop sink sink' sink'' later second.cause;
    }

-- a fault while more is passed on
pub stopped : (a b c : Option (List ℕ)) (sink sink' sink'' : ℕ) (all text rest lines : List ℕ) (stop : Stop)
    → Passes a b all (text ++ lines) → sink ≤ sink' → Passed {X = Unit {0}} b c sink' sink'' text rest (Err stop) → Passed {X = Unit {0}} a c sink sink'' all [] (Err stop)
stopped a b c sink sink' sink'' all text rest lines stop first later second =
    record {
      later = omega (arith, later, second.later);
      ok = tt;
      err = part_more a b c all (text ++ lines) text lines first refl second.err;
      cause = raised stop sink sink' sink'' later second.cause;
    }

-- the header and the lines of all events are the whole text
pub whole_text : (c : Sizes) (seed lines : ℕ) (text : List ℕ) (events : List Event)
    → text ≡ ended (header_line (record { nodes = c.nodes; pages = c.pages; size = c.size; frames = c.frames })) → events ≡ made_events c seed lines → text ++ lines_of events ≡ made_text c seed lines
whole_text c seed lines text events first second = rw (first, second) refl
