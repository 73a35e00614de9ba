-- Text that is held back before it is written.
use Rattle.std.proofs.Common.{◌≡◌, ◌⊎◌, inl, inr, ℕ, ◌<◌, List, [], ◌∷◌, ◌++◌, length, take, drop, get_or, append_assoc, append-nil, refl, sym, ap, subst, ◌∙◌, Option, Some, None}
use Rattle.std.specs.Io.KnownBytes.{Appends, append_known}
use Rattle.std.proofs.lemmas.List.{take-append-drop}
use Rattle.replay_rules.specs.Due.{fed, read_from}
use Rattle.replay_rules.specs.Due.Place.{Going}
use Rattle.replay_rules.specs.Outcome.{AppendsPart}
use Rattle.replay.specs.Held.{Grew, HasSame}
use Rattle.replay.specs.ReaderView.{ReaderView}
use Rattle.replay.specs.Told.{Feeds}
use Rattle.replay.specs.Wrote.{Went, Broke}
use Rattle.replay.proofs.EndLemmas.{appends_both, appends_nothing}
use Rattle.replay.proofs.Going.{text-append, part_within, not_ended, went_nothing, went_byte, broke_byte, broke_within}
use Rattle.replay.proofs.Pieces.{next_broke}

-- ---- lists

-- a list behind another one is known by both
behind : (xs ys zs : List ℕ) → xs ++ ys ≡ xs ++ zs → ys ≡ zs
behind [] ys zs e = e
behind (x ∷ xs) ys zs e = behind xs ys zs (cc)

-- of two beginnings of a list one goes on with the other
record Longer (xs more ys rest : List ℕ) : Type 0 where
  between : List ℕ
  goes_on : ys ≡ xs ++ between
  left : more ≡ between ++ rest

compared : (xs more ys rest : List ℕ) → xs ++ more ≡ ys ++ rest → Longer xs more ys rest ⊎ Longer ys rest xs more
compared [] more ys rest e = inl (record { between = ys; goes_on = refl; left = e })
compared (x ∷ xs) more [] rest e = inr (record { between = x ∷ xs; goes_on = refl; left = sym e })
compared (x ∷ xs) more (y ∷ ys) rest e = by (compared xs more ys rest (cc))
  where
    same : x ≡ y
    same = cc

    by : Longer xs more ys rest ⊎ Longer ys rest xs more → Longer (x ∷ xs) more (y ∷ ys) rest ⊎ Longer (y ∷ ys) rest (x ∷ xs) more
    by (inl l) = inl (record { between = l.between; goes_on = let on = l.goes_on in cc; left = l.left })
    by (inr l) = inr (record { between = l.between; goes_on = let on = l.goes_on in cc; left = l.left })

-- ---- what was written with what is held back

-- nothing is held back
pub nothing_held : (a b : Option (List ℕ)) (text : List ℕ) → Appends a b text → Appends a (append_known b []) text
nothing_held None b text e = tt
nothing_held (Some x) None text e = absurd e
nothing_held (Some x) (Some y) text e = append-nil y ∙ e

-- a text behind what is held back
pub more_held : (a : Option (List ℕ)) (held text : List ℕ) → Appends (append_known a held) (append_known a (held ++ text)) text
more_held None held text = tt
more_held (Some x) held text = sym (append_assoc x held text)

-- what is held back is written
pub held_written : (b c : Option (List ℕ)) (held : List ℕ) → Appends b c held → HasSame (append_known b held) c
held_written b c held e None text f = tt
held_written None c held e (Some x) text f = absurd f
held_written (Some y) None held e (Some x) text f = absurd e
held_written (Some y) (Some z) held e (Some x) text f = e ∙ f

-- a beginning of what goes on from what is held back
pub part_past : (a b : Option (List ℕ)) (held text : List ℕ) → Appends a b (held ++ text) → Appends (append_known a held) b text
part_past None b held text e = tt
part_past (Some x) None held text e = absurd e
part_past (Some x) (Some y) held text e = e ∙ sym (append_assoc x held text)

-- a beginning of what was held back, or all of that and a beginning of what stands behind it
pub part_split : (a b : Option (List ℕ)) (held text : List ℕ) → AppendsPart a b (held ++ text) → AppendsPart a b held ⊎ AppendsPart (append_known a held) b text
part_split a b held text (part, rest, same, written) = by (compared held text part rest same)
  where
    by : Longer held text part rest ⊎ Longer part rest held text → AppendsPart a b held ⊎ AppendsPart (append_known a held) b text
    by (inl l) = inr (l.between, rest, l.left, part_past a b held l.between (subst (Appends a b) l.goes_on written))
    by (inr l) = inl (part, l.between, l.goes_on, written)

-- a beginning of what is held back is one of the whole text
part_of_all : (a b c : Option (List ℕ)) (held text : List ℕ) → Appends a (append_known b held) text → Grew a b → AppendsPart b c held → AppendsPart a c text
part_of_all None b c held text all grew part = ([], text, refl, tt)
part_of_all (Some x) None c held text all grew part = absurd all
part_of_all (Some x) (Some y) None held text all grew (part, rest, same, written) = absurd written
part_of_all (Some x) (Some y) (Some z) held text all (more, e) (part, rest, same, written) =
    let long : x ++ text ≡ x ++ (more ++ held) = sym all ∙ ap (λ l. l ++ held) e ∙ append_assoc x more held in (
      more ++ part,
      rest,
      behind x text (more ++ held) long ∙ ap (λ l. more ++ l) same ∙ sym (append_assoc more part rest),
      written ∙ ap (λ l. l ++ part) e ∙ append_assoc x more part,
    )

-- ---- bytes

-- bytes were read, and of what they gave a beginning was written
pub cut_short : (v w : ReaderView) (xs : List ℕ) (a b c : Option (List ℕ)) (held : List ℕ) (s : Option ℕ) → Went v xs a (append_known b held) s w → Grew a b → AppendsPart b c held → Broke v xs a c
cut_short v w xs a b c held s (inl g) grew part = inl (part_of_all a b c held _ g.text grew part)
cut_short v w xs a b c held s (inr d) grew part = by (part_of_all a b c held (front ++ d.more) d.text grew part)
  where
    front : List ℕ
    front = (read_from v.totals (Going v.reading) d.front).text

    by : AppendsPart a c (front ++ d.more) → Broke v xs a c
    by (beginning, rest, same, written) = at (compared front d.more beginning rest same)
      where
        at : Longer front d.more beginning rest ⊎ Longer beginning rest front d.more → Broke v xs a c
        at (inl l) =
            inr (record {
              front = d.front;
              rest = d.rest;
              reading = d.reading;
              more = l.between;
              split = d.split;
              place = d.place;
              differs = d.differs;
              text = subst (Appends a c) l.goes_on written;
              last = not_ended l.between;
            })
        at (inr l) =
            inl (subst (AppendsPart a c)
            (sym (ap (λ bs. (read_from v.totals (Going v.reading) bs).text) d.split ∙ text-append v.totals (Going v.reading) d.front (10 ∷ d.rest)))
            (part_within a c front _ (beginning, l.between, l.goes_on, written)))

-- what was read stays where the same was written in the end
pub went_same : (v w : ReaderView) (xs : List ℕ) (a b c : Option (List ℕ)) (s : Option ℕ) → HasSame b c → Went v xs a b s w → Went v xs a c s w
went_same v w xs a b c s same (inl g) =
    inl (record { place = g.place; text = same a _ g.text; stop = g.stop; totals = g.totals; counts = g.counts })
went_same v w xs a b c s same (inr d) =
    inr (record {
      front = d.front;
      rest = d.rest;
      reading = d.reading;
      more = d.more;
      split = d.split;
      place = d.place;
      differs = d.differs;
      text = same a _ d.text;
      last = d.last;
    })

-- before the first byte
pub held_first : (v : ReaderView) (a : Option (List ℕ)) → Went v [] a (append_known a []) None v
held_first v a = went_same v v [] a a (append_known a []) None (λ z text e. nothing_held z a text e) (went_nothing v a)

-- one byte
pub held_byte : (v w : ReaderView) (byte : ℕ) (old new : List ℕ) (a b : Option (List ℕ)) (held held' : List ℕ) (s : Option ℕ) → old ≡ [] → Feeds (fed v.totals v.reading byte) v byte old new s w
    → HasSame (append_known a (held ++ new)) (append_known b held') → Went v (byte ∷ []) (append_known a held) (append_known b held') s w
held_byte v w byte old new a b held held' s empty feeds same =
    went_same v w (byte ∷ []) (append_known a held) (append_known a (held ++ new)) (append_known b held') s same
    (went_byte v w byte old new (append_known a held) (append_known a (held ++ new)) s empty feeds (more_held a held new))

-- one byte whose text was not written whole
pub broken_byte : (v w : ReaderView) (byte : ℕ) (old new : List ℕ) (a b : Option (List ℕ)) (held : List ℕ) (s : Option ℕ) → old ≡ [] → Feeds (fed v.totals v.reading byte) v byte old new s w
    → AppendsPart a b (held ++ new) → AppendsPart a b held ⊎ Broke v (byte ∷ []) (append_known a held) b
broken_byte v w byte old new a b held s empty feeds part = by (part_split a b held new part)
  where
    by : AppendsPart a b held ⊎ AppendsPart (append_known a held) b new → AppendsPart a b held ⊎ Broke v (byte ∷ []) (append_known a held) b
    by (inl p) = inl p
    by (inr p) = inr (broke_byte v w byte old new (append_known a held) b s empty feeds p)

-- the next byte of a piece ends it with a fault
pub next_held_broke : (v w : ReaderView) (piece : List ℕ) (i : ℕ) (a b c : Option (List ℕ)) (held : List ℕ) → i < length piece → Went v (take i piece) a (append_known b held) None w → Grew a b
    → AppendsPart b c held ⊎ Broke w (get_or piece i 0 ∷ []) (append_known b held) c → Broke v piece a c
next_held_broke v w piece i a b c held inside before grew (inl part) =
    subst (λ l. Broke v l a c) (take-append-drop i piece) (broke_within v (take i piece) (drop i piece) a c (cut_short v w (take i piece) a b c held None before grew part))
next_held_broke v w piece i a b c held inside before grew (inr broke) = next_broke v w piece i a (append_known b held) c inside before broke

-- one after the other
pub grew_both : (a b c : Option (List ℕ)) → Grew a b → Grew b c → Grew a c
grew_both a b c (x, first) (y, second) = (x ++ y, appends_both a b c x y first second)

pub grew_nothing : (a : Option (List ℕ)) → Grew a a
grew_nothing a = ([], appends_nothing a)
