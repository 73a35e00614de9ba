-- Worked schedules whose runs have one line changed, left out or written twice: what the headline's
-- words say of such a trace.
use Rattle.std.specs.Prelude.{◌≡◌, ℕ, ◌+◌, List, [], ◌∷◌, ◌++◌, map, take, drop, codes, Option, Some, slice_set}
use Rattle.pcl_base.specs.Limits.{Sizes}
use Rattle.pcl_base.specs.declared.reply.Reply.TheVariants.{Taken, Value}
use Rattle.pcl_base.specs.declared.trace.Entry.{Entry}
use Rattle.text_rules.specs.TraceText.{trace_text}
use Rattle.run_rules.specs.Account.{account_fault}
use Rattle.run_rules.specs.Fresh.{fresh_fault}
use Rattle.cluster_rules.specs.Run.{last}
use Rattle.rules_rows.specs.Schedules.{Row, tx, text, header_of_sizes}
use Rattle.rules_rows.specs.Paths2.{image_goes_with_release}
use Rattle.rules_rows.specs.Rights.{revocation_with_open_reader}

-- a run, the entry of its trace that is changed, counted from 0, and the lines of the changed trace
pub record Altered : Type 0 where
  pub row : Row
  pub place : ℕ
  pub change : Entry → Entry
  pub output : List (List ℕ)

-- the changed trace
abbrev pub trace_of : Altered → List Entry
trace_of a =
    let es = (last a.row.sizes a.row.events).trace in take a.place es ++ map a.change (take 1 (drop a.place es)) ++ drop (a.place + 1) es

-- its text is these lines
abbrev pub PrintsAltered : Altered → Type 0
PrintsAltered a = trace_text (header_of_sizes a.row.sizes) (trace_of a) ≡ text a.output

-- the first entry that isn't fresh, and the first with a send outside the account
abbrev pub first_stale : Altered → Option ℕ
first_stale a = fresh_fault a.row.sizes (trace_of a)

abbrev pub first_uncaused : Altered → Option ℕ
first_uncaused a = account_fault a.row.sizes (trace_of a)

-- changed value: the reader is given another byte than the one that was committed
abbrev pub changed_value : Altered
changed_value =
    record {
      row = image_goes_with_release;
      place = 7;
      change = λ e. record e { replies = Taken ∷ Value (tx 1 1 1) 1 1 (8 ∷ 0 ∷ 0 ∷ 0 ∷ 0 ∷ 0 ∷ 0 ∷ 0 ∷ []) ∷ [] };
      output = slice_set image_goes_with_release.output 21 (codes "value 1.1.1 1 1 0800000000000000");
    }

-- missing revocation: a right is given back that nobody asked back
abbrev pub missing_revocation : Altered
missing_revocation =
    record {
      row = revocation_with_open_reader;
      place = 5;
      change = λ e. record e { sent = [] };
      output = take 16 revocation_with_open_reader.output ++ drop 17 revocation_with_open_reader.output;
    }

-- release twice: a lock is released a second time
abbrev pub release_twice : Altered
release_twice =
    record {
      row = image_goes_with_release;
      place = 4;
      change = λ e. record e { sent = e.sent ++ e.sent };
      output = take 15 image_goes_with_release.output ++ drop 14 image_goes_with_release.output;
    }
