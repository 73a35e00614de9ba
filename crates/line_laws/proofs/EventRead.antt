-- The events of a line: reading one by its word and fields, and reading the fields of its form.
use Rattle.std.proofs.Common.{◌≡◌, ℕ, Bool, List, [], ◌∷◌, ◌++◌, codes, refl, ◌∙◌, Option, Some, None, arith}
use Rattle.pcl_base.specs.declared.tx.TxId.{TxId}
use Rattle.pcl_base.specs.declared.event.Header.{Header}
use Rattle.pcl_base.specs.declared.event.Event.{Event}
use Rattle.pcl_base.specs.declared.event.Event.TheVariants.{Begin, Read, Write, Commit, Abort, Deliver, Evict, Flush, Crash, View, Install, Reopen, Arm, Cut}
use Rattle.text_rules.specs.LineForms.{Piece, Word, Number, Bytes, Flags, Owners}
use Rattle.text_rules.specs.BadLine.{tx_form, spaced_form}
use Rattle.text_rules.specs.ReadLine.{◌>>=◌, after_word, at_end, number_at, spaced_at, pointed_at, tx_at, bytes_of, begin_of, read_of, write_of, commit_of, header_of}
use Rattle.text_rules.specs.ReadEvent.{flags_at, owners_of, abort_of, deliver_of, evict_of, flush_of, crash_of, view_of, install_of, reopen_of, arm_of, cut_of}
use Rattle.line_laws.proofs.FieldByField.{reads, if_read, if_rest, is_read}

-- the end of the bytes
end_read : {X : Type 0} (x : X) (bs : List ℕ) → reads [] bs ≡ is_read (at_end x bs)
end_read x [] = refl
end_read x (b ∷ bs) = grind arith

-- a field, and what is read behind it
field_read : {X Y : Type 0} (o : Option (X × List ℕ)) (f : X × List ℕ → Option Y) (next : List ℕ → Bool) → ((p : X × List ℕ) → next p.1 ≡ is_read (f p))
    → if_read o next ≡ is_read (o >>= f)
field_read None f next h = refl
field_read (Some p) f next h = h p

rest_read : {Y : Type 0} (o : Option (List ℕ)) (f : List ℕ → Option Y) (next : List ℕ → Bool) → ((r : List ℕ) → next r ≡ is_read (f r))
    → if_rest o next ≡ is_read (o >>= f)
rest_read None f next h = refl
rest_read (Some r) f next h = h r

-- a field of several
parts_read : {X Y : Type 0} (o : Option (X × List ℕ)) (f : X × List ℕ → Option (Y × List ℕ)) (g next : List ℕ → Bool)
    → ((p : X × List ℕ) → g p.1 ≡ if_read (f p) next) → if_read o g ≡ if_read (o >>= f) next
parts_read None f g next h = refl
parts_read (Some p) f g next h = h p

word_read : (o : Option (List ℕ)) (f : List ℕ → Option (ℕ × List ℕ)) (next : List ℕ → Bool) → if_rest o (λ r. if_read (f r) next) ≡ if_read (o >>= f) next
word_read None f next = refl
word_read (Some r) f next = refl

spaced_read : (low high : ℕ) (ps : List Piece) (bs : List ℕ) → reads (Word (codes " ") ∷ Number low high ∷ ps) bs ≡ if_read (spaced_at low high bs) (reads ps)
unfolding spaced_at
spaced_read low high ps bs = word_read (after_word (codes " ") bs) (number_at low high) (reads ps)

pointed_read : (ps : List Piece) (bs : List ℕ) → reads (Word (codes ".") ∷ Number 1 4294967295 ∷ ps) bs ≡ if_read (pointed_at bs) (reads ps)
unfolding pointed_at
pointed_read ps bs = word_read (after_word (codes ".") bs) (number_at 1 4294967295) (reads ps)

tx_read : (ps : List Piece) (bs : List ℕ) → reads (tx_form ++ ps) bs ≡ if_read (tx_at bs) (reads ps)
unfolding tx_at
tx_read ps bs =
    parts_read (number_at 0 15 bs) (λ node. pointed_at node.1 >>= (λ born. pointed_at born.1 >>= (λ serial. Some (record { node = node.0; born = born.0; serial = serial.0 }, serial.1))))
    (reads (Word (codes ".") ∷ Number 1 4294967295 ∷ Word (codes ".") ∷ Number 1 4294967295 ∷ ps)) (reads ps)
    (λ node. pointed_read (Word (codes ".") ∷ Number 1 4294967295 ∷ ps) node.1
    ∙ parts_read (pointed_at node.1) (λ born. pointed_at born.1 >>= (λ serial. Some (record { node = node.0; born = born.0; serial = serial.0 }, serial.1)))
    (reads (Word (codes ".") ∷ Number 1 4294967295 ∷ ps)) (reads ps)
    (λ born. pointed_read ps born.1
    ∙ parts_read (pointed_at born.1) (λ serial. Some (record { node = node.0; born = born.0; serial = serial.0 }, serial.1)) (reads ps) (reads ps) (λ serial. refl)))

-- a node at the end
node_read : (made : ℕ → Event) (bs : List ℕ) → reads (Number 0 15 ∷ []) bs ≡ is_read (number_at 0 15 bs >>= (λ node. at_end (made node.0) node.1))
node_read made bs = field_read (number_at 0 15 bs) (λ node. at_end (made node.0) node.1) (reads []) (λ node. end_read (made node.0) node.1)

-- a number behind a space at the end
last_read : {X : Type 0} (made : ℕ → X) (low high : ℕ) (bs : List ℕ) → reads (spaced_form low high) bs ≡ is_read (spaced_at low high bs >>= (λ n. at_end (made n.0) n.1))
last_read made low high bs =
    spaced_read low high [] bs ∙ field_read (spaced_at low high bs) (λ n. at_end (made n.0) n.1) (reads []) (λ n. end_read (made n.0) n.1)

two_read : (made : ℕ → ℕ → Event) (high : ℕ) (bs : List ℕ)
    → reads (Number 0 15 ∷ spaced_form 0 high) bs ≡ is_read (number_at 0 15 bs >>= (λ m. spaced_at 0 high m.1 >>= (λ n. at_end (made m.0 n.0) n.1)))
two_read made high bs =
    field_read (number_at 0 15 bs) (λ m. spaced_at 0 high m.1 >>= (λ n. at_end (made m.0 n.0) n.1)) (reads (spaced_form 0 high)) (λ m. last_read (made m.0) 0 high m.1)

tx_end_read : (made : TxId → Event) (bs : List ℕ) → reads tx_form bs ≡ is_read (tx_at bs >>= (λ t. at_end (made t.0) t.1))
tx_end_read made bs = tx_read [] bs ∙ field_read (tx_at bs) (λ t. at_end (made t.0) t.1) (reads []) (λ t. end_read (made t.0) t.1)

-- the fourteen events
pub begin_read : (bs : List ℕ) → reads (Number 0 15 ∷ []) bs ≡ is_read (begin_of bs)
unfolding begin_of
begin_read bs = node_read Begin bs

pub read_read : (bs : List ℕ) → reads (tx_form ++ spaced_form 0 65535) bs ≡ is_read (read_of bs)
unfolding read_of
read_read bs =
    tx_read (spaced_form 0 65535) bs
    ∙ field_read (tx_at bs) (λ t. spaced_at 0 65535 t.1 >>= (λ p. at_end (Read t.0 p.0) p.1)) (reads (spaced_form 0 65535)) (λ t. last_read (Read t.0) 0 65535 t.1)

pub write_read : (bs : List ℕ) → reads (tx_form ++ spaced_form 0 65535 ++ spaced_form 0 4095 ++ Word (codes " ") ∷ Bytes ∷ []) bs ≡ is_read (write_of bs)
unfolding write_of
write_read bs =
    tx_read (spaced_form 0 65535 ++ spaced_form 0 4095 ++ Word (codes " ") ∷ Bytes ∷ []) bs
    ∙ field_read (tx_at bs)
    (λ t. spaced_at 0 65535 t.1 >>= (λ p. spaced_at 0 4095 p.1 >>= (λ k. after_word (codes " ") k.1 >>= (λ text. bytes_of text >>= (λ b. Some (Write t.0 p.0 k.0 b))))))
    (reads (spaced_form 0 65535 ++ spaced_form 0 4095 ++ Word (codes " ") ∷ Bytes ∷ []))
    (λ t. spaced_read 0 65535 (spaced_form 0 4095 ++ Word (codes " ") ∷ Bytes ∷ []) t.1
    ∙ field_read (spaced_at 0 65535 t.1) (λ p. spaced_at 0 4095 p.1 >>= (λ k. after_word (codes " ") k.1 >>= (λ text. bytes_of text >>= (λ b. Some (Write t.0 p.0 k.0 b)))))
    (reads (spaced_form 0 4095 ++ Word (codes " ") ∷ Bytes ∷ []))
    (λ p. spaced_read 0 4095 (Word (codes " ") ∷ Bytes ∷ []) p.1
    ∙ field_read (spaced_at 0 4095 p.1) (λ k. after_word (codes " ") k.1 >>= (λ text. bytes_of text >>= (λ b. Some (Write t.0 p.0 k.0 b))))
    (reads (Word (codes " ") ∷ Bytes ∷ []))
    (λ k. rest_read (after_word (codes " ") k.1) (λ text. bytes_of text >>= (λ b. Some (Write t.0 p.0 k.0 b))) (reads (Bytes ∷ []))
    (λ text. bytes_end (bytes_of text) (λ b. Write t.0 p.0 k.0 b)))))
  where
    bytes_end : (o : Option (List ℕ)) (made : List ℕ → Event) → is_read o ≡ is_read (o >>= (λ b. Some (made b)))
    bytes_end None made = refl
    bytes_end (Some b) made = refl

pub commit_read : (bs : List ℕ) → reads tx_form bs ≡ is_read (commit_of bs)
unfolding commit_of
commit_read bs = tx_end_read Commit bs

pub abort_read : (bs : List ℕ) → reads tx_form bs ≡ is_read (abort_of bs)
unfolding abort_of
abort_read bs = tx_end_read Abort bs

pub deliver_read : (bs : List ℕ) → reads (Number 0 15 ∷ spaced_form 0 15) bs ≡ is_read (deliver_of bs)
unfolding deliver_of
deliver_read bs = two_read Deliver 15 bs

pub evict_read : (bs : List ℕ) → reads (Number 0 15 ∷ spaced_form 0 65535) bs ≡ is_read (evict_of bs)
unfolding evict_of
evict_read bs = two_read Evict 65535 bs

pub flush_read : (bs : List ℕ) → reads (Number 0 15 ∷ spaced_form 0 65535) bs ≡ is_read (flush_of bs)
unfolding flush_of
flush_read bs = two_read Flush 65535 bs

pub crash_read : (bs : List ℕ) → reads (Number 0 15 ∷ []) bs ≡ is_read (crash_of bs)
unfolding crash_of
crash_read bs = node_read Crash bs

pub view_read : (bs : List ℕ) → reads (Flags ∷ Word (codes " ") ∷ Owners ∷ []) bs ≡ is_read (view_of bs)
unfolding view_of
view_read bs =
    field_read (flags_at bs) (λ live. after_word (codes " ") live.1 >>= (λ rest. owners_of rest >>= (λ owners. Some (View live.0 owners)))) (reads (Word (codes " ") ∷ Owners ∷ []))
    (λ live. rest_read (after_word (codes " ") live.1) (λ rest. owners_of rest >>= (λ owners. Some (View live.0 owners))) (reads (Owners ∷ []))
    (λ rest. owners_end (owners_of rest) (λ owners. View live.0 owners)))
  where
    owners_end : (o : Option (List ℕ)) (made : List ℕ → Event) → is_read o ≡ is_read (o >>= (λ b. Some (made b)))
    owners_end None made = refl
    owners_end (Some b) made = refl

pub install_read : (bs : List ℕ) → reads (Number 0 15 ∷ []) bs ≡ is_read (install_of bs)
unfolding install_of
install_read bs = node_read Install bs

pub reopen_read : (bs : List ℕ) → reads [] bs ≡ is_read (reopen_of bs)
unfolding reopen_of
reopen_read bs = end_read Reopen bs

pub arm_read : (bs : List ℕ) → reads (Number 0 15 ∷ spaced_form 1 4294967295 ++ spaced_form 0 4294967295) bs ≡ is_read (arm_of bs)
unfolding arm_of
arm_read bs =
    field_read (number_at 0 15 bs) (λ n. spaced_at 1 4294967295 n.1 >>= (λ k. spaced_at 0 4294967295 k.1 >>= (λ j. at_end (Arm n.0 k.0 j.0) j.1)))
    (reads (spaced_form 1 4294967295 ++ spaced_form 0 4294967295))
    (λ n. spaced_read 1 4294967295 (spaced_form 0 4294967295) n.1
    ∙ field_read (spaced_at 1 4294967295 n.1) (λ k. spaced_at 0 4294967295 k.1 >>= (λ j. at_end (Arm n.0 k.0 j.0) j.1)) (reads (spaced_form 0 4294967295))
    (λ k. last_read (Arm n.0 k.0) 0 4294967295 k.1))

pub cut_read : (bs : List ℕ) → reads (Number 0 15 ∷ []) bs ≡ is_read (cut_of bs)
unfolding cut_of
cut_read bs = node_read Cut bs

-- the first line
abbrev header : ℕ → ℕ → ℕ → ℕ → Header
header nodes pages size frames = record { nodes = nodes; pages = pages; size = size; frames = frames }

pub header_read : (bs : List ℕ)
    → reads (Word (codes "pcl 1") ∷ [] ++ spaced_form 0 65536 ++ spaced_form 0 65536 ++ spaced_form 0 65536 ++ spaced_form 0 65536) bs ≡ is_read (header_of bs)
unfolding header_of
header_read bs =
    rest_read (after_word (codes "pcl 1") bs)
    (λ r. spaced_at 0 65536 r >>= (λ n. spaced_at 0 65536 n.1 >>= (λ p. spaced_at 0 65536 p.1 >>= (λ s. spaced_at 0 65536 s.1 >>= (λ f. at_end (record { nodes = n.0; pages = p.0; size = s.0; frames = f.0 }) f.1)))))
    (reads (spaced_form 0 65536 ++ spaced_form 0 65536 ++ spaced_form 0 65536 ++ spaced_form 0 65536))
    (λ r. spaced_read 0 65536 (spaced_form 0 65536 ++ spaced_form 0 65536 ++ spaced_form 0 65536) r
    ∙ field_read (spaced_at 0 65536 r) (λ n. spaced_at 0 65536 n.1 >>= (λ p. spaced_at 0 65536 p.1 >>= (λ s. spaced_at 0 65536 s.1 >>= (λ f. at_end (header n.0 p.0 s.0 f.0) f.1))))
    (reads (spaced_form 0 65536 ++ spaced_form 0 65536 ++ spaced_form 0 65536))
    (λ n. spaced_read 0 65536 (spaced_form 0 65536 ++ spaced_form 0 65536) n.1
    ∙ field_read (spaced_at 0 65536 n.1) (λ p. spaced_at 0 65536 p.1 >>= (λ s. spaced_at 0 65536 s.1 >>= (λ f. at_end (header n.0 p.0 s.0 f.0) f.1))) (reads (spaced_form 0 65536 ++ spaced_form 0 65536))
    (λ p. spaced_read 0 65536 (spaced_form 0 65536) p.1
    ∙ field_read (spaced_at 0 65536 p.1) (λ s. spaced_at 0 65536 s.1 >>= (λ f. at_end (header n.0 p.0 s.0 f.0) f.1)) (reads (spaced_form 0 65536))
    (λ s. last_read (header n.0 p.0 s.0) 0 65536 s.1))))
