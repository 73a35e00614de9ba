-- What the other steps of a walk do to what is to come.
use Rattle.std.proofs.Common.{◌≡◌, refl, sym, ap, subst, ◌∙◌, ℕ, ◌+◌, ◌-◌, ◌≤◌, true, false, List, [], ◌∷◌, ◌++◌, length, drop, take, slice_range, Some, None, Result, Ok, Err, OnOk, IfOk, arith}
use Rattle.std.proofs.lemmas.List.{take_rest, length-drop}
use Rattle.pcl_base.specs.Limits.{Sizes}
use Rattle.pcl_base.specs.declared.log.Record.{Record}
use Rattle.text_rules.specs.FieldBytes.{Stop}
use Rattle.text_rules.specs.LogRecord.{record_bytes, records_of, whole_len, changes_field, record_field}
use Rattle.redo_log.specs.Placed.{placed_in, placed_from, placed_of}
use Rattle.redo_log.specs.Walks.{Reading, Reads, Standing, Stands, opened, left_of, rest_of, changes_in, to_come}
use Rattle.redo_log.specs.Steps.{Enters, Ends}
use Rattle.redo_log.specs.declared.entries.Opening.{Opening}
use Rattle.redo_log.proofs.PieceLemmas.{slice_long}
use Rattle.redo_log.proofs.LogLemmas.{begins, ends}

-- all that is left of a log
pub slice_all : (log : List ℕ) (p : ℕ) → slice_range log p (length log) ≡ drop p log
slice_all log p = take_rest log p

-- a walk that has answered nothing has all to come
pub opened_all : (c : Sizes) (node : ℕ) (log : List ℕ) → to_come (opened c node) log ≡ placed_of c log
unfolding to_come placed_of
opened_all c node log = refl

pub entered : (w v : Standing) (log : List ℕ) (o : Opening) → Stands w log → w.is_measured ≡ true → w.pending ≡ 0
    → Reads v.reading log → v.reading.place ≡ w.whole + 17
    → record_field w.config (slice_range log w.whole w.reading.end) ≡ Ok (record { tx = o.tx; changes = changes_in (changes_field w.config o.whole 0 o.count (left_of v.reading log)) }, slice_range log v.reading.limit w.reading.end)
    → rest_of (changes_field w.config o.whole 0 o.count (left_of v.reading log)) ≡ Some []
    → 1 ≤ o.count
    → v ≡ record w { reading = v.reading; pending = o.count; low = 0; format = o.whole }
    → Enters w v log
unfolding to_come
entered w v log o stands measured none reads place read all some is =
    let r : Record = record { tx = o.tx; changes = changes_in (changes_field w.config o.whole 0 o.count (left_of v.reading log)) } in
    let start : ℕ = w.whole in
    let end : ℕ = v.reading.limit in
    let here : w.whole ≡ w.reading.limit = stands.between none in
    let full = (stands.reads measured).end in
    let front : slice_range log start w.reading.end ≡ drop start log = ap (λ (e : ℕ). slice_range log start e) full ∙ slice_all log start in
    let back : slice_range log end w.reading.end ≡ drop end log = ap (λ (e : ℕ). slice_range log end e) full ∙ slice_all log end in
    let field : record_field w.config (drop start log) ≡ Ok (r, drop end log) =
    ap (record_field w.config) (sym front) ∙ (read ∙ ap (λ (d : List ℕ). let q : Result (Record × List ℕ) Stop = Ok (r, d) in q) back) in
    let b = begins w.config (drop start log) r (drop end log) field in
    let far : end ≡ start + length (record_bytes r) = omega (arith, b.long, reads.within, length-drop start log, length-drop end log, (stands.reads measured).within, here) in
    let to : Standing = record w { reading = v.reading; pending = o.count; low = 0; format = o.whole } in
    let old : to_come w log ≡ placed_from start (records_of w.config (drop start log)) =
    ap (λ (k : ℕ). placed_in w.whole w.reading.limit w.reading.place (changes_in (changes_field w.config w.format w.low k (left_of w.reading log))) ++ placed_from w.reading.limit (records_of w.config (drop w.reading.limit log))) none
    ∙ ap (λ (p : ℕ). placed_from p (records_of w.config (drop p log))) (sym here) in
    let new : to_come to log ≡ placed_from start (r ∷ records_of w.config (drop end log)) =
    ap (λ (p : ℕ). placed_in start end p r.changes ++ placed_from end (records_of w.config (drop end log))) place
    ∙ ap (λ (l : ℕ). placed_in start l (start + 17) r.changes ++ placed_from l (records_of w.config (drop end log))) far in
    subst (λ (t : Standing). Enters w t log) (sym is)
    (record {
      stands = record {
        fresh = λ e. absurd (cc);
        reads = λ _. reads;
        pending = all;
        between = λ e. absurd (omega arith);
        whole =
            let before : whole_len w.config log ≡ start + whole_len w.config (drop start log) = subst (λ (l : ℕ). whole_len w.config log ≡ l + whole_len w.config (drop l log)) (sym here) stands.whole in
            omega (arith, before, b.whole, far);
      };
      come = new ∙ (ap (placed_from start) (sym b.records) ∙ sym old);
      whole = refl;
    })

pub ended : (w v : Standing) (log : List ℕ) → Stands w log → w.is_measured ≡ true → w.pending ≡ 0
    → Reads v.reading log → v.reading.limit ≡ w.whole → v.reading.place ≡ w.whole
    → rest_of (record_field w.config (slice_range log w.whole w.reading.end)) ≡ None
    → v ≡ record w { reading = v.reading }
    → Ends w v log
unfolding to_come
ended w v log stands measured none reads limit place torn is =
    let start : ℕ = w.whole in
    let here : w.whole ≡ w.reading.limit = stands.between none in
    let full = (stands.reads measured).end in
    let front : slice_range log start w.reading.end ≡ drop start log = ap (λ (e : ℕ). slice_range log start e) full ∙ slice_all log start in
    let field : rest_of (record_field w.config (drop start log)) ≡ None = ap (λ (d : List ℕ). rest_of (record_field w.config d)) (sym front) ∙ torn in
    let e = ends w.config (drop start log) field in
    let to : Standing = record w { reading = v.reading } in
    let before : whole_len w.config log ≡ start + whole_len w.config (drop start log) = subst (λ (l : ℕ). whole_len w.config log ≡ l + whole_len w.config (drop l log)) (sym here) stands.whole in
    let come : (x : Standing) → x.config ≡ w.config → x.pending ≡ 0 → x.reading.limit ≡ start → to_come x log ≡ [] =
    (λ x c p l.
    ap (λ (k : ℕ). placed_in x.whole x.reading.limit x.reading.place (changes_in (changes_field x.config x.format x.low k (left_of x.reading log))) ++ placed_from x.reading.limit (records_of x.config (drop x.reading.limit log))) p
    ∙ (ap (λ (q : ℕ). placed_from q (records_of x.config (drop q log))) l
    ∙ (ap (λ (k : Sizes). placed_from start (records_of k (drop start log))) c ∙ ap (placed_from start) e.0))) in
    subst (λ (t : Standing). Ends w t log) (sym is)
    (record {
      none = come w refl none (sym here);
      stands = record {
        fresh = λ f. absurd (cc);
        reads = λ _. reads;
        pending = ap (λ (k : ℕ). rest_of (changes_field w.config w.format w.low k (left_of v.reading log))) none ∙ ap (λ (d : List ℕ). Some d) (empty (left_of v.reading log) (omega (arith, slice_long log v.reading.place v.reading.limit reads.within, limit, place)));
        between = λ f. sym limit;
        whole = subst (λ (l : ℕ). whole_len w.config log ≡ l + whole_len w.config (drop l log)) (sym limit) before;
      };
      come = come to refl none limit;
      same = refl;
      whole = omega (arith, before, e.1);
    })
  where
    empty : (d : List ℕ) → length d ≡ 0 → d ≡ []
    empty [] f = refl
    empty (x ∷ d) f = absurd (omega arith)

-- a record that is entered, by a walk that was opened
pub entered_at : (u w v : Standing) (r : Reading) (log : List ℕ) (o : Opening) → u ≡ w → Stands w log → w.is_measured ≡ true → w.pending ≡ 0
    → r.place ≡ u.whole → r.limit ≡ u.reading.end
    → Reads v.reading log → v.reading.place ≡ r.place + 17
    → record_field u.config (left_of r log) ≡ Ok (record { tx = o.tx; changes = changes_in (changes_field u.config o.whole 0 o.count (left_of v.reading log)) }, slice_range log v.reading.limit r.limit)
    → rest_of (changes_field u.config o.whole 0 o.count (left_of v.reading log)) ≡ Some []
    → 1 ≤ o.count
    → v ≡ record u { reading = v.reading; pending = o.count; low = 0; format = o.whole }
    → Enters w v log
entered_at u w v r log o e stands measured none place limit reads far read all some is =
    let started : Stands u log = subst (λ (t : Standing). Stands t log) (sym e) stands in
    let known : u.is_measured ≡ true = ap (λ (t : Standing). t.is_measured) e ∙ measured in
    let between : u.pending ≡ 0 = ap (λ (t : Standing). t.pending) e ∙ none in
    let made : Record = record { tx = o.tx; changes = changes_in (changes_field u.config o.whole 0 o.count (left_of v.reading log)) } in
    let field : record_field u.config (slice_range log u.whole u.reading.end) ≡ Ok (made, slice_range log v.reading.limit u.reading.end) =
    ap (λ (p : ℕ). record_field u.config (slice_range log p u.reading.end)) (sym place)
    ∙ ap (λ (l : ℕ). record_field u.config (slice_range log r.place l)) (sym limit)
    ∙ read
    ∙ ap (λ (l : ℕ). let q : Result (Record × List ℕ) Stop = Ok (made, slice_range log v.reading.limit l) in q) limit in
    subst (λ (t : Standing). Enters t v log) e (entered u v log o started known between reads (far ∙ ap (λ (p : ℕ). p + 17) place) field all some is)

-- a reader without a piece
pub stands_reading : (r : Reading) (log : List ℕ) (p : ℕ) → r.end ≡ length log → p ≤ r.end → Reads (record r { place = p; limit = p; from = 0; piece = [] }) log
stands_reading r log p end within = record { within = omega (arith, end); end = end; piece_within = omega arith; piece = refl }

-- the end of a walk that was opened
pub ended_at : (u w v : Standing) (r : Reading) (log : List ℕ) → u ≡ w → Stands w log → w.is_measured ≡ true → w.pending ≡ 0
    → r.place ≡ u.whole → r.limit ≡ u.reading.end
    → v.reading.end ≡ u.reading.end → u.whole ≤ u.reading.end
    → v.reading ≡ record (v.reading) { place = u.whole; limit = u.whole; from = 0; piece = [] }
    → rest_of (record_field u.config (left_of r log)) ≡ None
    → v ≡ record u { reading = v.reading }
    → Ends w v log
ended_at u w v r log e stands measured none place limit end within empty torn is =
    let started : Stands u log = subst (λ (t : Standing). Stands t log) (sym e) stands in
    let known : u.is_measured ≡ true = ap (λ (t : Standing). t.is_measured) e ∙ measured in
    let between : u.pending ≡ 0 = ap (λ (t : Standing). t.pending) e ∙ none in
    let full : v.reading.end ≡ length log = end ∙ (started.reads known).end in
    let reads : Reads v.reading log = subst (λ (t : Reading). Reads t log) (sym empty) (stands_reading v.reading log u.whole full (omega (arith, end))) in
    let field : rest_of (record_field u.config (slice_range log u.whole u.reading.end)) ≡ None =
    ap (λ (p : ℕ). rest_of (record_field u.config (slice_range log p u.reading.end))) (sym place)
    ∙ ap (λ (l : ℕ). rest_of (record_field u.config (slice_range log r.place l))) (sym limit)
    ∙ torn in
    subst (λ (t : Standing). Ends t v log) e (ended u v log started known between reads (ap (λ (t : Reading). t.limit) empty) (ap (λ (t : Reading). t.place) empty) field is)

-- a walk that comes to know its log
pub measured_at : (u w v : Standing) (log : List ℕ) → u ≡ w → Stands w log → u.is_measured ≡ false
    → v.reading.place ≡ 0 → v.reading.limit ≡ 0 → v.reading.from ≡ u.reading.from → v.reading.piece ≡ u.reading.piece → v.reading.end ≡ length log
    → v ≡ record u { reading = v.reading; is_measured = true }
    → Enters w v log
unfolding to_come
measured_at u w v log e stands fresh place limit from piece end is =
    let started : Stands u log = subst (λ (t : Standing). Stands t log) (sym e) stands in
    let first = started.fresh fresh in
    let no_piece : v.reading.piece ≡ [] = piece ∙ ap (λ (t : Standing). t.reading.piece) first in
    let no_from : v.reading.from ≡ 0 = from ∙ ap (λ (t : Standing). t.reading.from) first in
    let old_place : u.reading.place ≡ 0 = ap (λ (t : Standing). t.reading.place) first in
    let old_limit : u.reading.limit ≡ 0 = ap (λ (t : Standing). t.reading.limit) first in
    let to : Standing = record u { reading = v.reading; is_measured = true } in
    let come : to_come to log ≡ to_come u log =
    ap (λ (p : ℕ). placed_in u.whole v.reading.limit p (changes_in (changes_field u.config u.format u.low u.pending (slice_range log p v.reading.limit))) ++ placed_from v.reading.limit (records_of u.config (drop v.reading.limit log))) (place ∙ sym old_place)
    ∙ ap (λ (l : ℕ). placed_in u.whole l u.reading.place (changes_in (changes_field u.config u.format u.low u.pending (slice_range log u.reading.place l))) ++ placed_from l (records_of u.config (drop l log))) (limit ∙ sym old_limit) in
    subst (λ (t : Standing). Enters t v log) e
    (subst (λ (t : Standing). Enters u t log) (sym is)
    (record {
      stands = record {
        fresh = λ f. absurd (cc);
        reads = λ _. record {
          within = omega (arith, limit);
          end = end;
          piece_within = omega (arith, no_from, ap length no_piece);
          piece = no_piece ∙ sym (ap (λ (k : ℕ). take (k - v.reading.from) (drop v.reading.from log)) (omega (arith, no_from, ap length no_piece)) ∙ ap (λ (k : ℕ). take (0 - k) (drop k log)) no_from);
        };
        pending =
            ap (λ (p : ℕ). rest_of (changes_field u.config u.format u.low u.pending (slice_range log p v.reading.limit))) (place ∙ sym old_place)
            ∙ ap (λ (l : ℕ). rest_of (changes_field u.config u.format u.low u.pending (slice_range log u.reading.place l))) (limit ∙ sym old_limit)
            ∙ started.pending;
        between = λ f. started.between f ∙ (old_limit ∙ sym limit);
        whole = subst (λ (l : ℕ). whole_len u.config log ≡ l + whole_len u.config (drop l log)) (old_limit ∙ sym limit) started.whole;
      };
      come = come;
      whole = refl;
    }))

-- what follows from what holds of an answer
pub carried : {X E : Type 0} (r : Result X E) (A B : X → Type 0) → IfOk r A → ((x : X) → A x → B x) → IfOk r B
carried (Ok x) A B a f = f x a
carried (Err e) A B a f = a

pub carried_on : {X E : Type 0} (r : Result X E) (A B : Type 0) → OnOk r A → (A → B) → OnOk r B
carried_on (Ok x) A B a f = f a
carried_on (Err e) A B a f = a
