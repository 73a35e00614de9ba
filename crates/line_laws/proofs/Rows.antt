-- The fourteen words of events, and which line begins with which.
use Rattle.std.proofs.Common.{◌≡◌, ℕ, ◌||◌, Bool, true, false, List, [], ◌∷◌, ◌++◌, length, map, codes, refl, ap, ◌∙◌, Option, Some, None, arith}
use Rattle.pcl_base.specs.declared.event.Event.{Event}
use Rattle.text_rules.specs.LineForms.{Piece, Word, Number, Bytes, Flags, Owners, reach_of}
use Rattle.text_rules.specs.BadLine.{tx_form, spaced_form, is_all, is_line, event_forms, header_forms}
use Rattle.text_rules.specs.ReadLine.{after_word, event_after, begin_of, read_of, write_of, commit_of, header_of}
use Rattle.text_rules.specs.ReadEvent.{abort_of, deliver_of, evict_of, flush_of, crash_of, view_of, install_of, reopen_of, arm_of, cut_of, event_of}
use Rattle.line_laws.proofs.Words.{word_after}
use Rattle.line_laws.proofs.FieldByField.{reads, if_rest, is_read, IsForm}
use Rattle.line_laws.proofs.FormRead.{form_read}
use Rattle.line_laws.proofs.EventRead.{begin_read, read_read, write_read, commit_read, abort_read, deliver_read, evict_read, flush_read, crash_read, view_read, install_read, reopen_read, arm_read, cut_read, header_read}

-- a word, the pieces behind it, and how what is behind it is read
pub record Row : Type 0 where
  pub word : List ℕ
  pub tail : List Piece
  pub read : List ℕ → Option Event

abbrev pub form_of : Row → List Piece
form_of r = Word r.word ∷ r.tail

-- the first row whose word the bytes begin with reads them
abbrev pub chain : List Row → List ℕ → Option Event
chain [] bs = None
chain (r ∷ rs) bs = event_after (after_word r.word bs) r.read (chain rs bs)

-- the reader of a row reads the lines of its form
pub record IsGood (r : Row) : Type 0 where
  pub form : IsForm (form_of r)
  pub same : (bs : List ℕ) → reads r.tail bs ≡ is_read (r.read bs)

-- no line begins with the word and with that of a row
abbrev pub IsApart : List ℕ → List Row → Type 0
IsApart w [] = Unit {0}
IsApart w (r ∷ rs) = ((rest : List ℕ) → after_word r.word (w ++ rest) ≡ None) × IsApart w rs

abbrev pub AreGood : List Row → Type 0
AreGood [] = Unit {0}
AreGood (r ∷ rs) = IsGood r × IsApart r.word rs × AreGood rs

-- a line of another word is of none of the rows
none_apart : (w rest : List ℕ) (rs : List Row) → IsApart w rs → AreGood rs → is_line (map form_of rs) (w ++ rest) ≡ false
none_apart w rest [] apart good = refl
none_apart w rest (r ∷ rs) apart good =
    ap (λ t. t || is_line (map form_of rs) (w ++ rest)) (form_read (form_of r) (w ++ rest) good.0.form ∙ ap (λ o. if_rest o (reads r.tail)) (apart.0 rest))
    ∙ none_apart w rest rs apart.1 good.2

or_none : (t : Bool) → (t || false) ≡ t
or_none true = refl
or_none false = refl

-- a line is one of the rows exactly where it is read
pub rows_read : (rs : List Row) (bs : List ℕ) → AreGood rs → is_line (map form_of rs) bs ≡ is_read (chain rs bs)
rows_read [] bs good = refl
rows_read (r ∷ rs) bs good =
    ap (λ t. t || is_line (map form_of rs) bs) (form_read (form_of r) bs good.0.form) ∙ by (after_word r.word bs) refl (rows_read rs bs good.2)
  where
    by : (o : Option (List ℕ)) → after_word r.word bs ≡ o → is_line (map form_of rs) bs ≡ is_read (chain rs bs)
        → (if_rest o (reads r.tail) || is_line (map form_of rs) bs) ≡ is_read (event_after o r.read (chain rs bs))
    by None h rest = rest
    by (Some left) h rest =
        ap (λ t. reads r.tail left || t) (ap (is_line (map form_of rs)) (word_after r.word bs left h) ∙ none_apart r.word left rs good.1 good.2)
        ∙ (or_none (reads r.tail left) ∙ good.0.same left)

-- the rows
abbrev pub begin_row : Row
begin_row = record { word = codes "begin "; tail = Number 0 15 ∷ []; read = begin_of }

abbrev pub read_row : Row
read_row = record { word = codes "read "; tail = tx_form ++ spaced_form 0 65535; read = read_of }

abbrev pub write_row : Row
write_row = record { word = codes "write "; tail = tx_form ++ spaced_form 0 65535 ++ spaced_form 0 4095 ++ Word (codes " ") ∷ Bytes ∷ []; read = write_of }

abbrev pub commit_row : Row
commit_row = record { word = codes "commit "; tail = tx_form; read = commit_of }

abbrev pub abort_row : Row
abort_row = record { word = codes "abort "; tail = tx_form; read = abort_of }

abbrev pub deliver_row : Row
deliver_row = record { word = codes "deliver "; tail = Number 0 15 ∷ spaced_form 0 15; read = deliver_of }

abbrev pub evict_row : Row
evict_row = record { word = codes "evict "; tail = Number 0 15 ∷ spaced_form 0 65535; read = evict_of }

abbrev pub flush_row : Row
flush_row = record { word = codes "flush "; tail = Number 0 15 ∷ spaced_form 0 65535; read = flush_of }

abbrev pub crash_row : Row
crash_row = record { word = codes "crash "; tail = Number 0 15 ∷ []; read = crash_of }

abbrev pub view_row : Row
view_row = record { word = codes "view "; tail = Flags ∷ Word (codes " ") ∷ Owners ∷ []; read = view_of }

abbrev pub install_row : Row
install_row = record { word = codes "install "; tail = Number 0 15 ∷ []; read = install_of }

abbrev pub reopen_row : Row
reopen_row = record { word = codes "reopen"; tail = []; read = reopen_of }

abbrev pub arm_row : Row
arm_row = record { word = codes "arm "; tail = Number 0 15 ∷ spaced_form 1 4294967295 ++ spaced_form 0 4294967295; read = arm_of }

abbrev pub cut_row : Row
cut_row = record { word = codes "cut "; tail = Number 0 15 ∷ []; read = cut_of }

abbrev pub later_rows : List Row
later_rows =
    read_row
    ∷ write_row
    ∷ commit_row
    ∷ abort_row
    ∷ deliver_row
    ∷ evict_row
    ∷ flush_row
    ∷ crash_row
    ∷ view_row
    ∷ install_row
    ∷ reopen_row
    ∷ arm_row
    ∷ cut_row
    ∷ []

abbrev pub rows : List Row
rows = begin_row ∷ later_rows

good_begin : IsGood begin_row
good_begin = record { form = (omega arith, omega arith, omega arith, tt, tt); same = begin_read }

good_read : IsGood read_row
good_read = record { form = (omega arith, omega arith, omega arith, omega arith, (omega arith, omega arith, omega arith, omega arith, (omega arith, omega arith, omega arith, omega arith, (omega arith, omega arith, omega arith, tt, tt)))); same = read_read }

good_write : IsGood write_row
good_write = record { form = (omega arith, omega arith, omega arith, omega arith, (omega arith, omega arith, omega arith, omega arith, (omega arith, omega arith, omega arith, omega arith, (omega arith, omega arith, omega arith, omega arith, (omega arith, omega arith, omega arith, omega arith, tt))))); same = write_read }

good_commit : IsGood commit_row
good_commit = record { form = (omega arith, omega arith, omega arith, omega arith, (omega arith, omega arith, omega arith, omega arith, (omega arith, omega arith, omega arith, tt, tt))); same = commit_read }

good_abort : IsGood abort_row
good_abort = record { form = (omega arith, omega arith, omega arith, omega arith, (omega arith, omega arith, omega arith, omega arith, (omega arith, omega arith, omega arith, tt, tt))); same = abort_read }

good_deliver : IsGood deliver_row
good_deliver = record { form = (omega arith, omega arith, omega arith, omega arith, (omega arith, omega arith, omega arith, tt, tt)); same = deliver_read }

good_evict : IsGood evict_row
good_evict = record { form = (omega arith, omega arith, omega arith, omega arith, (omega arith, omega arith, omega arith, tt, tt)); same = evict_read }

good_flush : IsGood flush_row
good_flush = record { form = (omega arith, omega arith, omega arith, omega arith, (omega arith, omega arith, omega arith, tt, tt)); same = flush_read }

good_crash : IsGood crash_row
good_crash = record { form = (omega arith, omega arith, omega arith, tt, tt); same = crash_read }

good_view : IsGood view_row
good_view = record { form = (omega arith, tt); same = view_read }

good_install : IsGood install_row
good_install = record { form = (omega arith, omega arith, omega arith, tt, tt); same = install_read }

good_reopen : IsGood reopen_row
good_reopen = record { form = tt; same = reopen_read }

good_arm : IsGood arm_row
good_arm = record { form = (omega arith, omega arith, omega arith, omega arith, (omega arith, omega arith, omega arith, omega arith, (omega arith, omega arith, omega arith, tt, tt))); same = arm_read }

good_cut : IsGood cut_row
good_cut = record { form = (omega arith, omega arith, omega arith, tt, tt); same = cut_read }

begin_apart : IsApart (codes "begin ") (read_row ∷ write_row ∷ commit_row ∷ abort_row ∷ deliver_row ∷ evict_row ∷ flush_row ∷ crash_row ∷ view_row ∷ install_row ∷ reopen_row ∷ arm_row ∷ cut_row ∷ [])
begin_apart = ((λ rest. refl), ((λ rest. refl), ((λ rest. refl), ((λ rest. refl), ((λ rest. refl), ((λ rest. refl), ((λ rest. refl), ((λ rest. refl), ((λ rest. refl), ((λ rest. refl), ((λ rest. refl), ((λ rest. refl), ((λ rest. refl), tt)))))))))))))

read_apart : IsApart (codes "read ") (write_row ∷ commit_row ∷ abort_row ∷ deliver_row ∷ evict_row ∷ flush_row ∷ crash_row ∷ view_row ∷ install_row ∷ reopen_row ∷ arm_row ∷ cut_row ∷ [])
read_apart = ((λ rest. refl), ((λ rest. refl), ((λ rest. refl), ((λ rest. refl), ((λ rest. refl), ((λ rest. refl), ((λ rest. refl), ((λ rest. refl), ((λ rest. refl), ((λ rest. refl), ((λ rest. refl), ((λ rest. refl), tt))))))))))))

write_apart : IsApart (codes "write ") (commit_row ∷ abort_row ∷ deliver_row ∷ evict_row ∷ flush_row ∷ crash_row ∷ view_row ∷ install_row ∷ reopen_row ∷ arm_row ∷ cut_row ∷ [])
write_apart = ((λ rest. refl), ((λ rest. refl), ((λ rest. refl), ((λ rest. refl), ((λ rest. refl), ((λ rest. refl), ((λ rest. refl), ((λ rest. refl), ((λ rest. refl), ((λ rest. refl), ((λ rest. refl), tt)))))))))))

commit_apart : IsApart (codes "commit ") (abort_row ∷ deliver_row ∷ evict_row ∷ flush_row ∷ crash_row ∷ view_row ∷ install_row ∷ reopen_row ∷ arm_row ∷ cut_row ∷ [])
commit_apart = ((λ rest. refl), ((λ rest. refl), ((λ rest. refl), ((λ rest. refl), ((λ rest. refl), ((λ rest. refl), ((λ rest. refl), ((λ rest. refl), ((λ rest. refl), ((λ rest. refl), tt))))))))))

abort_apart : IsApart (codes "abort ") (deliver_row ∷ evict_row ∷ flush_row ∷ crash_row ∷ view_row ∷ install_row ∷ reopen_row ∷ arm_row ∷ cut_row ∷ [])
abort_apart = ((λ rest. refl), ((λ rest. refl), ((λ rest. refl), ((λ rest. refl), ((λ rest. refl), ((λ rest. refl), ((λ rest. refl), ((λ rest. refl), ((λ rest. refl), tt)))))))))

deliver_apart : IsApart (codes "deliver ") (evict_row ∷ flush_row ∷ crash_row ∷ view_row ∷ install_row ∷ reopen_row ∷ arm_row ∷ cut_row ∷ [])
deliver_apart = ((λ rest. refl), ((λ rest. refl), ((λ rest. refl), ((λ rest. refl), ((λ rest. refl), ((λ rest. refl), ((λ rest. refl), ((λ rest. refl), tt))))))))

evict_apart : IsApart (codes "evict ") (flush_row ∷ crash_row ∷ view_row ∷ install_row ∷ reopen_row ∷ arm_row ∷ cut_row ∷ [])
evict_apart = ((λ rest. refl), ((λ rest. refl), ((λ rest. refl), ((λ rest. refl), ((λ rest. refl), ((λ rest. refl), ((λ rest. refl), tt)))))))

flush_apart : IsApart (codes "flush ") (crash_row ∷ view_row ∷ install_row ∷ reopen_row ∷ arm_row ∷ cut_row ∷ [])
flush_apart = ((λ rest. refl), ((λ rest. refl), ((λ rest. refl), ((λ rest. refl), ((λ rest. refl), ((λ rest. refl), tt))))))

crash_apart : IsApart (codes "crash ") (view_row ∷ install_row ∷ reopen_row ∷ arm_row ∷ cut_row ∷ [])
crash_apart = ((λ rest. refl), ((λ rest. refl), ((λ rest. refl), ((λ rest. refl), ((λ rest. refl), tt)))))

view_apart : IsApart (codes "view ") (install_row ∷ reopen_row ∷ arm_row ∷ cut_row ∷ [])
view_apart = ((λ rest. refl), ((λ rest. refl), ((λ rest. refl), ((λ rest. refl), tt))))

install_apart : IsApart (codes "install ") (reopen_row ∷ arm_row ∷ cut_row ∷ [])
install_apart = ((λ rest. refl), ((λ rest. refl), ((λ rest. refl), tt)))

reopen_apart : IsApart (codes "reopen") (arm_row ∷ cut_row ∷ [])
reopen_apart = ((λ rest. refl), ((λ rest. refl), tt))

arm_apart : IsApart (codes "arm ") (cut_row ∷ [])
arm_apart = ((λ rest. refl), tt)

cut_apart : IsApart (codes "cut ") ([])
cut_apart = tt

pub all_good : AreGood rows
all_good = (good_begin, begin_apart, (good_read, read_apart, (good_write, write_apart, (good_commit, commit_apart, (good_abort, abort_apart, (good_deliver, deliver_apart, (good_evict, evict_apart, (good_flush, flush_apart, (good_crash, crash_apart, (good_view, view_apart, (good_install, install_apart, (good_reopen, reopen_apart, (good_arm, arm_apart, (good_cut, cut_apart, tt))))))))))))))

-- an event has its line by its form exactly where it is read
pub event_lines : (bs : List ℕ) → is_line event_forms bs ≡ is_read (event_of bs)
unfolding event_of
event_lines bs = rows_read rows bs all_good

pub header_good : IsForm (Word (codes "pcl 1") ∷ [] ++ spaced_form 0 65536 ++ spaced_form 0 65536 ++ spaced_form 0 65536 ++ spaced_form 0 65536)
header_good = (omega arith, omega arith, omega arith, omega arith, (omega arith, omega arith, omega arith, omega arith, (omega arith, omega arith, omega arith, omega arith, (omega arith, omega arith, omega arith, tt, tt))))

pub header_lines : (bs : List ℕ) → is_line header_forms bs ≡ is_read (header_of bs)
header_lines bs =
    let form : List Piece = Word (codes "pcl 1") ∷ [] ++ spaced_form 0 65536 ++ spaced_form 0 65536 ++ spaced_form 0 65536 ++ spaced_form 0 65536 in
    or_none (is_all (length bs) (reach_of form bs)) ∙ (form_read form bs header_good ∙ header_read bs)
