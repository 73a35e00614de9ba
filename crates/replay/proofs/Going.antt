-- Bytes behind bytes, as the rules say or with a page that differs.
use Rattle.std.proofs.Common.{◌≡◌, ℕ, ◌≤◌, Bool, true, false, List, [], ◌∷◌, ◌++◌, append_assoc, append-nil, inl, inr, arith, refl, sym, ap, subst, ◌∙◌, Option, Some, None}
use Rattle.std.specs.Io.KnownBytes.{Appends}
use Rattle.pcl_base.specs.Faults.{Rose}
use Rattle.replay_rules.specs.Due.{Reading, Place, silent, joined, fed, read_from}
use Rattle.replay_rules.specs.Due.Place.{Going, Stopped}
use Rattle.replay_rules.specs.Outcome.{AppendsPart}
use Rattle.replay_laws.proofs.Reading.{read-append}
use Rattle.replay_laws.proofs.Outcomes.{stays}
use Rattle.replay.specs.declared.ends.Fault.{Fault}
use Rattle.replay.specs.declared.ends.Fault.TheVariants.{Source, Sink, Memory}
use Rattle.replay.specs.ReaderView.{ReaderView}
use Rattle.replay.specs.Outcome.{HasDiffered, IsLast, later_text}
use Rattle.replay.specs.Told.{IsRuleStop, IsTold, IsOff, Feeds}
use Rattle.replay.specs.Wrote.{Went, Broke, IsWriteFault}
use Rattle.replay.proofs.EndLemmas.{appends_both, appends_nothing}

-- ---- one part after the other

pub place-append : (t : Bool) (p : Place) (xs ys : List ℕ) → (read_from t p (xs ++ ys)).place ≡ (read_from t (read_from t p xs).place ys).place
place-append t p xs ys = ap (λ x. x.place) (read-append t p xs ys)

pub text-append : (t : Bool) (p : Place) (xs ys : List ℕ)
    → (read_from t p (xs ++ ys)).text ≡ (read_from t p xs).text ++ (read_from t (read_from t p xs).place ys).text
text-append t p xs ys = ap (λ x. x.text) (read-append t p xs ys)

-- nothing, and one byte
read_nothing : (t : Bool) (p : Place) → read_from t p [] ≡ silent p
unfolding read_from
read_nothing t p = refl

read_one : (t : Bool) (r : Reading) (b : ℕ) → read_from t (Going r) (b ∷ []) ≡ joined (fed t r b) (silent (fed t r b).place)
unfolding read_from
read_one t r b = refl

place_of_one : (t : Bool) (r : Reading) (b : ℕ) → (read_from t (Going r) (b ∷ [])).place ≡ (fed t r b).place
place_of_one t r b = ap (λ x. x.place) (read_one t r b)

text_of_one : (t : Bool) (r : Reading) (b : ℕ) → (read_from t (Going r) (b ∷ [])).text ≡ (fed t r b).text
text_of_one t r b = ap (λ x. x.text) (read_one t r b) ∙ append-nil (fed t r b).text

-- what stopped writes nothing more
pub silence : (t : Bool) (status : ℕ) (bs : List ℕ) → (read_from t (Stopped status) bs).text ≡ []
unfolding read_from
silence t status [] = refl
silence t status (b ∷ bs) = silence t status bs

-- ---- texts that are appended

-- a beginning of a text is one of a longer text
pub part_within : (a b : Option (List ℕ)) (text more : List ℕ) → AppendsPart a b text → AppendsPart a b (text ++ more)
part_within a b text more (part, rest, same, written) = (part, rest ++ more, ap (λ t. t ++ more) same ∙ append_assoc part rest more, written)

-- a text and then a beginning of another
pub part_after : (a b c : Option (List ℕ)) (x text : List ℕ) → Appends a b x → AppendsPart b c text → AppendsPart a c (x ++ text)
part_after a b c x text before (part, rest, same, written) =
    (x ++ part, rest, ap (λ t. x ++ t) same ∙ sym (append_assoc x part rest), appends_both a b c x part before written)

-- nothing of a text
pub part_nothing : (a : Option (List ℕ)) (text : List ℕ) → AppendsPart a a text
part_nothing a text = ([], text, refl, appends_nothing a)

-- the whole of a text is a beginning of it
pub part_whole : (a b : Option (List ℕ)) (text : List ℕ) → Appends a b text → AppendsPart a b text
part_whole a b text written = (text, [], sym (append-nil text), written)

-- ---- some text, whose end at status 8 is the line that says what is left

pub record Further (status : Option ℕ) (a b : Option (List ℕ)) : Type 0 where
  pub text : List ℕ
  pub written : Appends a b text
  pub last : IsLast status text

pub no_last : (status : Option ℕ) (text : List ℕ) → IsRuleStop status → IsLast status text
no_last status text stop = λ e. let bad : false ≡ true = subst IsRuleStop e stop in absurd (cc)

pub not_ended : (text : List ℕ) → IsLast None text
not_ended text = λ e. absurd (cc)

last_behind : (status : Option ℕ) (x y : List ℕ) → IsLast status y → IsLast status (x ++ y)
last_behind status x y last = λ e. (x ++ (last e).0, (last e).1, ap (λ t. x ++ t) (last e).2 ∙ sym (append_assoc x (last e).0 (later_text (last e).1)))

went_text : (v w : ReaderView) (xs : List ℕ) (a b : Option (List ℕ)) (s : Option ℕ) → Went v xs a b s w → Further s a b
went_text v w xs a b s (inl g) =
    record { text = (read_from v.totals (Going v.reading) xs).text; written = g.text; last = no_last s _ g.stop }
went_text v w xs a b s (inr d) =
    let front : List ℕ = (read_from v.totals (Going v.reading) d.front).text in
    record { text = front ++ d.more; written = d.text; last = last_behind s front d.more d.last }

part_text : (a b : Option (List ℕ)) (text : List ℕ) → AppendsPart a b text → Further None a b
part_text a b text part = record { text = part.0; written = part.3; last = not_ended part.0 }

broke_text : (v : ReaderView) (xs : List ℕ) (a b : Option (List ℕ)) → Broke v xs a b → Further None a b
broke_text v xs a b (inl part) = part_text a b _ part
broke_text v xs a b (inr d) = record { text = _; written = d.text; last = not_ended _ }

-- ---- a page that differs

-- more bytes behind it
pub differed_within : (t : Bool) (p : Place) (xs ys : List ℕ) (a b : Option (List ℕ)) (s : Option ℕ) → HasDiffered t p xs a b s → HasDiffered t p (xs ++ ys) a b s
differed_within t p xs ys a b s d =
    record {
      front = d.front;
      rest = d.rest ++ ys;
      reading = d.reading;
      more = d.more;
      split = ap (λ l. l ++ ys) d.split ∙ append_assoc d.front (10 ∷ d.rest) ys;
      place = d.place;
      differs = d.differs;
      text = d.text;
      last = d.last;
    }

-- more text behind it
pub differed_more : (t : Bool) (p : Place) (xs : List ℕ) (a b c : Option (List ℕ)) (r s : Option ℕ) → HasDiffered t p xs a b r → Further s b c → HasDiffered t p xs a c s
differed_more t p xs a b c r s d further =
    let front : List ℕ = (read_from t p d.front).text in
    record {
      front = d.front;
      rest = d.rest;
      reading = d.reading;
      more = d.more ++ further.text;
      split = d.split;
      place = d.place;
      differs = d.differs;
      text = subst (Appends a c) (append_assoc front d.more further.text) (appends_both a b c (front ++ d.more) further.text d.text further.written);
      last = last_behind s d.more further.text further.last;
    }

-- behind other bytes
pub differed_behind : (t : Bool) (p : Place) (xs ys : List ℕ) (a b c : Option (List ℕ)) (s : Option ℕ) (r : Reading) → (read_from t p xs).place ≡ Going r
    → Appends a b (read_from t p xs).text → HasDiffered t (Going r) ys b c s → HasDiffered t p (xs ++ ys) a c s
differed_behind t p xs ys a b c s r place text d =
    let first : List ℕ = (read_from t p xs).text in
    let second : List ℕ = (read_from t (Going r) d.front).text in
    record {
      front = xs ++ d.front;
      rest = d.rest;
      reading = d.reading;
      more = d.more;
      split = ap (λ l. xs ++ l) d.split ∙ sym (append_assoc xs d.front (10 ∷ d.rest));
      place = place-append t p xs d.front ∙ (ap (λ q. (read_from t q d.front).place) place ∙ d.place);
      differs = d.differs;
      text =
          subst (Appends a c)
          (sym (append_assoc first second d.more)
          ∙ ap (λ l. l ++ d.more) (sym (text-append t p xs d.front ∙ ap (λ q. first ++ (read_from t q d.front).text) place)))
          (appends_both a b c first (second ++ d.more) text d.text);
      last = d.last;
    }

-- ---- what became of bytes, and of more bytes

-- the text and the place behind bytes that were read
text_then : (v w : ReaderView) (xs ys : List ℕ) → (read_from v.totals (Going v.reading) xs).place ≡ Going w.reading → w.totals ≡ v.totals
    → (read_from v.totals (Going v.reading) (xs ++ ys)).text
    ≡ (read_from v.totals (Going v.reading) xs).text ++ (read_from w.totals (Going w.reading) ys).text
text_then v w xs ys place totals =
    let first : List ℕ = (read_from v.totals (Going v.reading) xs).text in
    text-append v.totals (Going v.reading) xs ys
    ∙ (ap (λ q. first ++ (read_from v.totals q ys).text) place ∙ ap (λ t. first ++ (read_from t (Going w.reading) ys).text) (sym totals))

place_then : (v w : ReaderView) (xs ys : List ℕ) → (read_from v.totals (Going v.reading) xs).place ≡ Going w.reading → w.totals ≡ v.totals
    → (read_from v.totals (Going v.reading) (xs ++ ys)).place ≡ (read_from w.totals (Going w.reading) ys).place
place_then v w xs ys place totals =
    place-append v.totals (Going v.reading) xs ys
    ∙ (ap (λ q. (read_from v.totals q ys).place) place ∙ ap (λ t. (read_from t (Going w.reading) ys).place) (sym totals))

pub both_went : (v w z : ReaderView) (xs ys : List ℕ) (a b c : Option (List ℕ)) (s : Option ℕ) → Went v xs a b None w → Went w ys b c s z → Went v (xs ++ ys) a c s z
both_went v w z xs ys a b c s (inl g) (inl h) =
    inl (record {
      place = place_then v w xs ys g.place g.totals ∙ h.place;
      text = subst (Appends a c) (sym (text_then v w xs ys g.place g.totals)) (appends_both a b c _ _ g.text h.text);
      stop = h.stop;
      totals = h.totals ∙ g.totals;
      counts = λ k. h.counts (g.counts k);
    })
both_went v w z xs ys a b c s (inl g) (inr d) =
    inr (differed_behind v.totals (Going v.reading) xs ys a b c s w.reading g.place g.text
    (subst (λ t. HasDiffered t (Going w.reading) ys b c s) g.totals d))
both_went v w z xs ys a b c s (inr d) second =
    inr (differed_within v.totals (Going v.reading) xs ys a c s
    (differed_more v.totals (Going v.reading) xs a b c None s d (went_text w z ys b c s second)))

pub went_broke : (v w : ReaderView) (xs ys : List ℕ) (a b c : Option (List ℕ)) → Went v xs a b None w → Broke w ys b c → Broke v (xs ++ ys) a c
went_broke v w xs ys a b c (inl g) (inl part) =
    inl (subst (AppendsPart a c) (sym (text_then v w xs ys g.place g.totals)) (part_after a b c _ _ g.text part))
went_broke v w xs ys a b c (inl g) (inr d) =
    inr (differed_behind v.totals (Going v.reading) xs ys a b c None w.reading g.place g.text
    (subst (λ t. HasDiffered t (Going w.reading) ys b c None) g.totals d))
went_broke v w xs ys a b c (inr d) second =
    inr (differed_within v.totals (Going v.reading) xs ys a c None
    (differed_more v.totals (Going v.reading) xs a b c None None d (broke_text w ys b c second)))

-- bytes behind a status or a fault aren't looked at
pub went_within : (v w : ReaderView) (xs ys : List ℕ) (a b : Option (List ℕ)) (status : ℕ) → Went v xs a b (Some status) w → Went v (xs ++ ys) a b (Some status) w
went_within v w xs ys a b status (inl g) =
    let first : List ℕ = (read_from v.totals (Going v.reading) xs).text in
    inl (record {
      place = place-append v.totals (Going v.reading) xs ys ∙ (ap (λ q. (read_from v.totals q ys).place) g.place ∙ stays v.totals status ys);
      text =
          subst (Appends a b)
          (sym (text-append v.totals (Going v.reading) xs ys
          ∙ (ap (λ q. first ++ (read_from v.totals q ys).text) g.place ∙ (ap (λ t. first ++ t) (silence v.totals status ys) ∙ append-nil first))))
          g.text;
      stop = g.stop;
      totals = g.totals;
      counts = g.counts;
    })
went_within v w xs ys a b status (inr d) = inr (differed_within v.totals (Going v.reading) xs ys a b (Some status) d)

pub broke_within : (v : ReaderView) (xs ys : List ℕ) (a b : Option (List ℕ)) → Broke v xs a b → Broke v (xs ++ ys) a b
broke_within v xs ys a b (inl part) =
    inl (subst (AppendsPart a b) (sym (text-append v.totals (Going v.reading) xs ys)) (part_within a b _ _ part))
broke_within v xs ys a b (inr d) = inr (differed_within v.totals (Going v.reading) xs ys a b None d)

-- ---- nothing, and one byte

pub went_nothing : (v : ReaderView) (a : Option (List ℕ)) → Went v [] a a None v
went_nothing v a =
    inl (record {
      place = ap (λ x. x.place) (read_nothing v.totals (Going v.reading));
      text = subst (Appends a a) (sym (ap (λ x. x.text) (read_nothing v.totals (Going v.reading)))) (appends_nothing a);
      stop = tt;
      totals = refl;
      counts = λ k. k;
    })

off_byte : (v : ReaderView) (b : ℕ) (old new : List ℕ) (a c : Option (List ℕ)) (r s : Option ℕ) → old ≡ [] → b ≡ 10 → IsOff v.reading old new r → Further s a c
    → HasDiffered v.totals (Going v.reading) (b ∷ []) a c s
off_byte v b old new a c r s empty newline off further =
    record {
      front = [];
      rest = [];
      reading = v.reading;
      more = further.text;
      split = ap (λ x. x ∷ []) newline;
      place = ap (λ x. x.place) (read_nothing v.totals (Going v.reading));
      differs = off.differs;
      text = subst (λ l. Appends a c (l ++ further.text)) (sym (ap (λ x. x.text) (read_nothing v.totals (Going v.reading)))) further.written;
      last = further.last;
    }

told_text : (v : ReaderView) (b : ℕ) (old new : List ℕ) (s : Option ℕ) (w : ReaderView) → old ≡ [] → IsTold (fed v.totals v.reading b) v old new s w
    → new ≡ (read_from v.totals (Going v.reading) (b ∷ [])).text
told_text v b old new s w empty told =
    told.text ∙ (ap (λ l. l ++ (fed v.totals v.reading b).text) empty ∙ sym (text_of_one v.totals v.reading b))

off_text : (v : ReaderView) (old new : List ℕ) (a c : Option (List ℕ)) (s : Option ℕ) → old ≡ [] → IsOff v.reading old new s → Appends a c new → Further s a c
off_text v old new a c s empty off written =
    record { text = off.more; written = subst (Appends a c) (off.text ∙ ap (λ l. l ++ off.more) empty) written; last = off.last }

pub went_byte : (v w : ReaderView) (b : ℕ) (old new : List ℕ) (a c : Option (List ℕ)) (s : Option ℕ) → old ≡ [] → Feeds (fed v.totals v.reading b) v b old new s w
    → Appends a c new → Went v (b ∷ []) a c s w
went_byte v w b old new a c s empty (inl told) written =
    inl (record {
      place = place_of_one v.totals v.reading b ∙ told.place;
      text = subst (Appends a c) (told_text v b old new s w empty told) written;
      stop = told.stop;
      totals = told.totals;
      counts = told.counts;
    })
went_byte v w b old new a c s empty (inr off) written =
    inr (off_byte v b old new a c s s empty off.0 off.1 (off_text v old new a c s empty off.1 written))

pub broke_byte : (v w : ReaderView) (b : ℕ) (old new : List ℕ) (a c : Option (List ℕ)) (s : Option ℕ) → old ≡ [] → Feeds (fed v.totals v.reading b) v b old new s w
    → AppendsPart a c new → Broke v (b ∷ []) a c
broke_byte v w b old new a c s empty (inl told) part = inl (subst (AppendsPart a c) (told_text v b old new s w empty told) part)
broke_byte v w b old new a c s empty (inr off) part = inr (off_byte v b old new a c s None empty off.0 off.1 (part_text a c new part))

-- ---- counts of faults

-- a count that rose later rose
pub rose_earlier : (a b c : ℕ) → a ≤ b → Rose b c → Rose a c
rose_earlier a b c before (inl rose) = inl (omega (arith, before, rose))
rose_earlier a b c before (inr last) = inr last

pub fault_earlier : (a b c : ℕ) (fault : Fault) → a ≤ b → IsWriteFault b c fault → IsWriteFault a c fault
fault_earlier a b c Source before h = h
fault_earlier a b c Sink before h = rose_earlier a b c before h
fault_earlier a b c Memory before h = tt
