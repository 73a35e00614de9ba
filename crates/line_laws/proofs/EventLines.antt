-- The events of lines and the lines of events: each way gives back what the other took.
use Rattle.std.proofs.Common.{◌≡◌, ℕ, ◌≤◌, List, [], ◌∷◌, ◌++◌, codes, refl, sym, ap, ◌∙◌, subst, Option, Some, None, arith, append_assoc}
use Rattle.std.specs.Fmt.{decimal}
use Rattle.pcl_base.specs.declared.tx.TxId.{TxId}
use Rattle.pcl_base.specs.declared.event.Header.{Header}
use Rattle.pcl_base.specs.declared.event.Event.{Event}
use Rattle.pcl_base.specs.declared.event.Event.TheVariants.{Begin, Read, Write, Commit, Abort, Deliver, Evict, Flush, Crash, View, Install, Reopen, Arm, Cut}
use Rattle.text_rules.specs.ScheduleLine.{spaced, tx_text, header_line, line_of, HasNode, HasTx, HasHeader, HasLine}
use Rattle.text_rules.specs.ReadLine.{◌>>=◌, after_word, at_end, spaced_at, event_after, begin_of, commit_of, header_of}
use Rattle.text_rules.specs.ReadEvent.{abort_of, deliver_of, evict_of, flush_of, crash_of, install_of, reopen_of, cut_of, event_of}
use Rattle.line_laws.proofs.Words.{word_after}
use Rattle.line_laws.proofs.FieldsBack.{bind_some, at_end_some, spaced_back, spaced_forth}
use Rattle.line_laws.proofs.Rows.{Row, chain, rows}
use Rattle.line_laws.proofs.EventFields.{IsLineOf, spaced_last_back, spaced_last, node_back, node_forth, two_back, two_forth, tx_end_back, tx_end_forth, read_back, read_forth, write_line, write_back, write_forth, view_line, view_back, view_forth, arm_line, arm_back, arm_forth, reopen_back}

begin_back : (rest : List ℕ) (e : Event) → begin_of rest ≡ Some e → IsLineOf e (codes "begin " ++ rest)
unfolding begin_of
begin_back rest e h = node_back Begin (codes "begin ") rest e (λ n has. (has, refl)) h

begin_forth : (n : ℕ) → HasNode n → begin_of (decimal n) ≡ Some (Begin n)
unfolding begin_of
begin_forth n has = node_forth Begin n has

crash_back : (rest : List ℕ) (e : Event) → crash_of rest ≡ Some e → IsLineOf e (codes "crash " ++ rest)
unfolding crash_of
crash_back rest e h = node_back Crash (codes "crash ") rest e (λ n has. (has, refl)) h

crash_forth : (n : ℕ) → HasNode n → crash_of (decimal n) ≡ Some (Crash n)
unfolding crash_of
crash_forth n has = node_forth Crash n has

install_back : (rest : List ℕ) (e : Event) → install_of rest ≡ Some e → IsLineOf e (codes "install " ++ rest)
unfolding install_of
install_back rest e h = node_back Install (codes "install ") rest e (λ n has. (has, refl)) h

install_forth : (n : ℕ) → HasNode n → install_of (decimal n) ≡ Some (Install n)
unfolding install_of
install_forth n has = node_forth Install n has

cut_back : (rest : List ℕ) (e : Event) → cut_of rest ≡ Some e → IsLineOf e (codes "cut " ++ rest)
unfolding cut_of
cut_back rest e h = node_back Cut (codes "cut ") rest e (λ n has. (has, refl)) h

cut_forth : (n : ℕ) → HasNode n → cut_of (decimal n) ≡ Some (Cut n)
unfolding cut_of
cut_forth n has = node_forth Cut n has

deliver_back : (rest : List ℕ) (e : Event) → deliver_of rest ≡ Some e → IsLineOf e (codes "deliver " ++ rest)
unfolding deliver_of
deliver_back rest e h = two_back Deliver 15 (codes "deliver ") rest e (λ m n has most. ((has, most), refl)) h

deliver_forth : (m n : ℕ) → HasNode m → n ≤ 15 → deliver_of (decimal m ++ spaced n) ≡ Some (Deliver m n)
unfolding deliver_of
deliver_forth m n has most = two_forth Deliver 15 m n (omega arith) has most

evict_back : (rest : List ℕ) (e : Event) → evict_of rest ≡ Some e → IsLineOf e (codes "evict " ++ rest)
unfolding evict_of
evict_back rest e h = two_back Evict 65535 (codes "evict ") rest e (λ m n has most. ((has, most), refl)) h

evict_forth : (m n : ℕ) → HasNode m → n ≤ 65535 → evict_of (decimal m ++ spaced n) ≡ Some (Evict m n)
unfolding evict_of
evict_forth m n has most = two_forth Evict 65535 m n (omega arith) has most

flush_back : (rest : List ℕ) (e : Event) → flush_of rest ≡ Some e → IsLineOf e (codes "flush " ++ rest)
unfolding flush_of
flush_back rest e h = two_back Flush 65535 (codes "flush ") rest e (λ m n has most. ((has, most), refl)) h

flush_forth : (m n : ℕ) → HasNode m → n ≤ 65535 → flush_of (decimal m ++ spaced n) ≡ Some (Flush m n)
unfolding flush_of
flush_forth m n has most = two_forth Flush 65535 m n (omega arith) has most

commit_back : (rest : List ℕ) (e : Event) → commit_of rest ≡ Some e → IsLineOf e (codes "commit " ++ rest)
unfolding commit_of
commit_back rest e h = tx_end_back Commit (codes "commit ") rest e (λ t has. (has, refl)) h

commit_forth : (t : TxId) → HasTx t → commit_of (tx_text t) ≡ Some (Commit t)
unfolding commit_of
commit_forth t has = tx_end_forth Commit t has

abort_back : (rest : List ℕ) (e : Event) → abort_of rest ≡ Some e → IsLineOf e (codes "abort " ++ rest)
unfolding abort_of
abort_back rest e h = tx_end_back Abort (codes "abort ") rest e (λ t has. (has, refl)) h

abort_forth : (t : TxId) → HasTx t → abort_of (tx_text t) ≡ Some (Abort t)
unfolding abort_of
abort_forth t has = tx_end_forth Abort t has

-- the events that the rows read have these lines
abbrev AreBack : List Row → Type 0
AreBack [] = Unit {0}
AreBack (r ∷ rs) = ((rest : List ℕ) (e : Event) → r.read rest ≡ Some e → IsLineOf e (r.word ++ rest)) × AreBack rs

chain_back : (rs : List Row) (bs : List ℕ) (e : Event) → AreBack rs → chain rs bs ≡ Some e → IsLineOf e bs
chain_back [] bs e back h = absurd (cc)
chain_back (r ∷ rs) bs e back h = by (after_word r.word bs) refl h (chain_back rs bs e back.1)
  where
    by : (o : Option (List ℕ)) → after_word r.word bs ≡ o → event_after o r.read (chain rs bs) ≡ Some e → (chain rs bs ≡ Some e → IsLineOf e bs) → IsLineOf e bs
    by None a f rest = rest f
    by (Some left) a f rest = subst (IsLineOf e) (sym (word_after r.word bs left a)) (back.0 left e f)

all_back : AreBack rows
all_back = (begin_back, (read_back, (write_back, (commit_back, (abort_back, (deliver_back, (evict_back, (flush_back, (crash_back, (view_back, (install_back, (reopen_back, (arm_back, (cut_back, tt))))))))))))))

-- what is read has the line, and what has a line is read from it
pub event_back : (line : List ℕ) (e : Event) → event_of line ≡ Some e → IsLineOf e line
unfolding event_of
event_back line e h = chain_back rows line e all_back h

pub event_forth : (e : Event) → HasLine e → event_of (line_of e) ≡ Some e
unfolding event_of reopen_of
event_forth (Begin n) has = begin_forth n has
event_forth (Read t p) has = read_forth t p has.0 has.1
event_forth (Write t p k bytes) has = ap event_of (write_line t p k bytes) ∙ write_forth t p k bytes has.0 has.1 has.2 has.3 has.4
event_forth (Commit t) has = commit_forth t has
event_forth (Abort t) has = abort_forth t has
event_forth (Deliver x y) has = deliver_forth x y has.0 has.1
event_forth (Evict n p) has = evict_forth n p has.0 has.1
event_forth (Flush n p) has = flush_forth n p has.0 has.1
event_forth (Crash n) has = crash_forth n has
event_forth (View live owners) has = ap event_of (view_line live owners) ∙ view_forth live owners has.0 has.1 has.2 has.3 has.4
event_forth (Install n) has = install_forth n has
event_forth Reopen has = refl
event_forth (Arm n k j) has = ap event_of (arm_line n k j) ∙ arm_forth n k j has.0 has.1 has.2 has.3
event_forth (Cut n) has = cut_forth n has

-- the first line
header_parts : (a b d f g : List ℕ) → (((a ++ b) ++ d) ++ f) ++ g ≡ a ++ (b ++ (d ++ (f ++ g)))
header_parts a b d f g = simp append_assoc

pub header_back : (line : List ℕ) (h : Header) → header_of line ≡ Some h → HasHeader h × (header_line h ≡ line)
unfolding header_of
header_back line h e =
    let rest = bind_some (after_word (codes "pcl 1") line) (λ r. spaced_at 0 65536 r >>= (λ n. spaced_at 0 65536 n.1 >>= (λ p. spaced_at 0 65536 p.1 >>= (λ s. spaced_at 0 65536 s.1 >>= (λ f. at_end (record { nodes = n.0; pages = p.0; size = s.0; frames = f.0 }) f.1))))) h e in
    let nodes = bind_some (spaced_at 0 65536 rest.0) (λ n. spaced_at 0 65536 n.1 >>= (λ p. spaced_at 0 65536 p.1 >>= (λ s. spaced_at 0 65536 s.1 >>= (λ f. at_end (record { nodes = n.0; pages = p.0; size = s.0; frames = f.0 }) f.1)))) h rest.2 in
    let pages = bind_some (spaced_at 0 65536 (nodes.0).1) (λ p. spaced_at 0 65536 p.1 >>= (λ s. spaced_at 0 65536 s.1 >>= (λ f. at_end (record { nodes = (nodes.0).0; pages = p.0; size = s.0; frames = f.0 }) f.1))) h nodes.2 in
    let size = bind_some (spaced_at 0 65536 (pages.0).1) (λ s. spaced_at 0 65536 s.1 >>= (λ f. at_end (record { nodes = (nodes.0).0; pages = (pages.0).0; size = s.0; frames = f.0 }) f.1)) h pages.2 in
    let frames = bind_some (spaced_at 0 65536 (size.0).1) (λ f. at_end (record { nodes = (nodes.0).0; pages = (pages.0).0; size = (size.0).0; frames = f.0 }) f.1) h size.2 in
    let made : Header = record { nodes = (nodes.0).0; pages = (pages.0).0; size = (size.0).0; frames = (frames.0).0 } in
    let end = at_end_some made h (frames.0).1 frames.2 in
    let w = word_after (codes "pcl 1") line rest.0 rest.1 in
    let a = spaced_back 0 65536 rest.0 nodes.0 nodes.1 in
    let b = spaced_back 0 65536 (nodes.0).1 pages.0 pages.1 in
    let d = spaced_back 0 65536 (pages.0).1 size.0 size.1 in
    let f = spaced_last_back 0 65536 (size.0).1 frames.0 frames.1 end.1 in
    let text : line ≡ codes "pcl 1" ++ (spaced made.nodes ++ (spaced made.pages ++ (spaced made.size ++ spaced made.frames))) =
    w
    ∙ (ap (λ l. codes "pcl 1" ++ l) a.0
    ∙ (ap (λ l. codes "pcl 1" ++ (spaced made.nodes ++ l)) b.0
    ∙ (ap (λ l. codes "pcl 1" ++ (spaced made.nodes ++ (spaced made.pages ++ l))) d.0
    ∙ ap (λ l. codes "pcl 1" ++ (spaced made.nodes ++ (spaced made.pages ++ (spaced made.size ++ l)))) f.0))) in
    subst (λ x. HasHeader x × (header_line x ≡ line)) end.0
    (record { nodes = a.2; pages = b.2; size = d.2; frames = f.2 }, header_parts (codes "pcl 1") (spaced made.nodes) (spaced made.pages) (spaced made.size) (spaced made.frames) ∙ sym text)

pub header_forth : (h : Header) → HasHeader h → header_of (header_line h) ≡ Some h
unfolding header_of
header_forth h has =
    ap header_of (header_parts (codes "pcl 1") (spaced h.nodes) (spaced h.pages) (spaced h.size) (spaced h.frames))
    ∙ (ap (λ o. o >>= (λ n. spaced_at 0 65536 n.1 >>= (λ p. spaced_at 0 65536 p.1 >>= (λ s. spaced_at 0 65536 s.1 >>= (λ f. at_end (record { nodes = n.0; pages = p.0; size = s.0; frames = f.0 }) f.1)))))
    (spaced_forth 0 65536 h.nodes (spaced h.pages ++ (spaced h.size ++ spaced h.frames)) (omega arith) has.nodes (omega arith) (omega arith))
    ∙ (ap (λ o. o >>= (λ p. spaced_at 0 65536 p.1 >>= (λ s. spaced_at 0 65536 s.1 >>= (λ f. at_end (record { nodes = h.nodes; pages = p.0; size = s.0; frames = f.0 }) f.1))))
    (spaced_forth 0 65536 h.pages (spaced h.size ++ spaced h.frames) (omega arith) has.pages (omega arith) (omega arith))
    ∙ (ap (λ o. o >>= (λ s. spaced_at 0 65536 s.1 >>= (λ f. at_end (record { nodes = h.nodes; pages = h.pages; size = s.0; frames = f.0 }) f.1)))
    (spaced_forth 0 65536 h.size (spaced h.frames) (omega arith) has.size (omega arith) (omega arith))
    ∙ ap (λ o. o >>= (λ f. at_end (record { nodes = h.nodes; pages = h.pages; size = h.size; frames = f.0 }) f.1))
    (spaced_last 0 65536 h.frames (omega arith) has.frames (omega arith)))))
