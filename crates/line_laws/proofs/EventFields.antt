-- The events with more fields, and fields at the end of a line, printed and read.
use Rattle.std.proofs.Common.{◌≡◌, ℕ, ◌<◌, ◌≤◌, Bool, List, [], ◌∷◌, ◌++◌, length, map, codes, sym, ap, ◌∙◌, subst, Some, arith, append_assoc, append-nil}
use Rattle.std.specs.List.{AllByRecursion}
use Rattle.std.specs.Fmt.{decimal}
use Rattle.pcl_base.specs.declared.tx.TxId.{TxId}
use Rattle.pcl_base.specs.declared.event.Event.{Event}
use Rattle.pcl_base.specs.declared.event.Event.TheVariants.{Read, Write, View, Reopen, Arm}
use Rattle.text_rules.specs.ScheduleLine.{spaced, tx_text, bytes_text, flag_text, numbers_text, line_of, HasNode, HasPage, HasTx, HasLine}
use Rattle.text_rules.specs.ReadLine.{◌>>=◌, after_word, at_end, number_at, spaced_at, tx_at, bytes_of, read_of, write_of}
use Rattle.text_rules.specs.ReadEvent.{flags_at, owners_of, view_of, reopen_of, arm_of}
use Rattle.line_laws.proofs.Words.{word_after, after_word_is}
use Rattle.line_laws.proofs.FieldsBack.{bind_some, some_same, at_end_some, number_back, number_forth, spaced_back, spaced_forth, tx_back, tx_forth}
use Rattle.line_laws.proofs.ListsBack.{flags_back, flags_forth, owners_back, owners_forth}
use Rattle.line_laws.proofs.BytesBack.{bytes_back, bytes_forth}

-- the event has a line, and it is this one
abbrev pub IsLineOf : Event → List ℕ → Type 0
IsLineOf e line = HasLine e × (line_of e ≡ line)

-- fields at the end
pub number_last_back : (low high : ℕ) (bs : List ℕ) (p : ℕ × List ℕ) → number_at low high bs ≡ Some p → p.1 ≡ [] → (bs ≡ decimal p.0) × (low ≤ p.0) × (p.0 ≤ high)
number_last_back low high bs p h end =
    let number = number_back low high bs p h in
    (number.text ∙ (ap (λ l. decimal p.0 ++ l) end ∙ append-nil (decimal p.0)), number.least, number.most)

pub spaced_last_back : (low high : ℕ) (bs : List ℕ) (p : ℕ × List ℕ) → spaced_at low high bs ≡ Some p → p.1 ≡ [] → (bs ≡ spaced p.0) × (low ≤ p.0) × (p.0 ≤ high)
spaced_last_back low high bs p h end =
    let number = spaced_back low high bs p h in
    (number.0 ∙ (ap (λ l. spaced p.0 ++ l) end ∙ append-nil (spaced p.0)), number.1, number.2)

pub number_last : (low high v : ℕ) → low ≤ v → v ≤ high → high < 10000000000 → number_at low high (decimal v) ≡ Some (v, [])
number_last low high v least most small =
    ap (number_at low high) (sym (append-nil (decimal v))) ∙ number_forth low high v [] least most small (omega arith)

pub spaced_last : (low high v : ℕ) → low ≤ v → v ≤ high → high < 10000000000 → spaced_at low high (spaced v) ≡ Some (v, [])
spaced_last low high v least most small =
    ap (spaced_at low high) (sym (append-nil (spaced v))) ∙ spaced_forth low high v [] least most small (omega arith)

-- a word and a node
pub node_back : (made : ℕ → Event) (word rest : List ℕ) (e : Event) → ((n : ℕ) → HasNode n → IsLineOf (made n) (word ++ decimal n))
    → (number_at 0 15 rest >>= (λ node. at_end (made node.0) node.1)) ≡ Some e → IsLineOf e (word ++ rest)
node_back made word rest e line h =
    let node = bind_some (number_at 0 15 rest) (λ node. at_end (made node.0) node.1) e h in
    let end = at_end_some (made (node.0).0) e (node.0).1 node.2 in
    let number = number_last_back 0 15 rest node.0 node.1 end.1 in
    subst (λ l. IsLineOf e (word ++ l)) (sym number.0) (subst (λ x. IsLineOf x (word ++ decimal (node.0).0)) end.0 (line (node.0).0 number.2))

pub node_forth : (made : ℕ → Event) (n : ℕ) → HasNode n → (number_at 0 15 (decimal n) >>= (λ node. at_end (made node.0) node.1)) ≡ Some (made n)
node_forth made n has = ap (λ o. o >>= (λ node. at_end (made node.0) node.1)) (number_last 0 15 n (omega arith) has (omega arith))

-- a word, a node and a number
pub two_back : (made : ℕ → ℕ → Event) (high : ℕ) (word rest : List ℕ) (e : Event)
    → ((m n : ℕ) → HasNode m → n ≤ high → IsLineOf (made m n) (word ++ (decimal m ++ spaced n)))
    → (number_at 0 15 rest >>= (λ m. spaced_at 0 high m.1 >>= (λ n. at_end (made m.0 n.0) n.1))) ≡ Some e → IsLineOf e (word ++ rest)
two_back made high word rest e line h =
    let m = bind_some (number_at 0 15 rest) (λ m. spaced_at 0 high m.1 >>= (λ n. at_end (made m.0 n.0) n.1)) e h in
    let n = bind_some (spaced_at 0 high (m.0).1) (λ n. at_end (made (m.0).0 n.0) n.1) e m.2 in
    let end = at_end_some (made (m.0).0 (n.0).0) e (n.0).1 n.2 in
    let first = number_back 0 15 rest m.0 m.1 in
    let second = spaced_last_back 0 high (m.0).1 n.0 n.1 end.1 in
    let text : rest ≡ decimal (m.0).0 ++ spaced (n.0).0 = first.text ∙ ap (λ l. decimal (m.0).0 ++ l) second.0 in
    subst (λ l. IsLineOf e (word ++ l)) (sym text)
    (subst (λ x. IsLineOf x (word ++ (decimal (m.0).0 ++ spaced (n.0).0))) end.0 (line (m.0).0 (n.0).0 first.most second.2))

pub two_forth : (made : ℕ → ℕ → Event) (high m n : ℕ) → high < 10000000000 → HasNode m → n ≤ high
    → (number_at 0 15 (decimal m ++ spaced n) >>= (λ m. spaced_at 0 high m.1 >>= (λ n. at_end (made m.0 n.0) n.1))) ≡ Some (made m n)
two_forth made high m n small has most =
    ap (λ o. o >>= (λ m. spaced_at 0 high m.1 >>= (λ n. at_end (made m.0 n.0) n.1))) (number_forth 0 15 m (spaced n) (omega arith) has (omega arith) (omega arith))
    ∙ ap (λ o. o >>= (λ n. at_end (made m n.0) n.1)) (spaced_last 0 high n (omega arith) most small)

-- a word and a transaction
pub tx_end_back : (made : TxId → Event) (word rest : List ℕ) (e : Event) → ((t : TxId) → HasTx t → IsLineOf (made t) (word ++ tx_text t))
    → (tx_at rest >>= (λ t. at_end (made t.0) t.1)) ≡ Some e → IsLineOf e (word ++ rest)
tx_end_back made word rest e line h =
    let tx = bind_some (tx_at rest) (λ t. at_end (made t.0) t.1) e h in
    let end = at_end_some (made (tx.0).0) e (tx.0).1 tx.2 in
    let name = tx_back rest tx.0 tx.1 in
    let text : rest ≡ tx_text (tx.0).0 = name.0 ∙ (ap (λ l. tx_text (tx.0).0 ++ l) end.1 ∙ append-nil (tx_text (tx.0).0)) in
    subst (λ l. IsLineOf e (word ++ l)) (sym text) (subst (λ x. IsLineOf x (word ++ tx_text (tx.0).0)) end.0 (line (tx.0).0 name.1))

pub tx_end_forth : (made : TxId → Event) (t : TxId) → HasTx t → (tx_at (tx_text t) >>= (λ t. at_end (made t.0) t.1)) ≡ Some (made t)
tx_end_forth made t has =
    ap (λ l. tx_at l >>= (λ t. at_end (made t.0) t.1)) (sym (append-nil (tx_text t)))
    ∙ ap (λ o. o >>= (λ t. at_end (made t.0) t.1)) (tx_forth t [] has (omega arith))

-- a read
pub read_back : (rest : List ℕ) (e : Event) → read_of rest ≡ Some e → IsLineOf e (codes "read " ++ rest)
unfolding read_of
read_back rest e h =
    let tx = bind_some (tx_at rest) (λ t. spaced_at 0 65535 t.1 >>= (λ p. at_end (Read t.0 p.0) p.1)) e h in
    let page = bind_some (spaced_at 0 65535 (tx.0).1) (λ p. at_end (Read (tx.0).0 p.0) p.1) e tx.2 in
    let end = at_end_some (Read (tx.0).0 (page.0).0) e (page.0).1 page.2 in
    let name = tx_back rest tx.0 tx.1 in
    let number = spaced_last_back 0 65535 (tx.0).1 page.0 page.1 end.1 in
    let text : rest ≡ tx_text (tx.0).0 ++ spaced (page.0).0 = name.0 ∙ ap (λ l. tx_text (tx.0).0 ++ l) number.0 in
    subst (λ x. IsLineOf x (codes "read " ++ rest)) end.0 ((name.1, number.2), ap (λ l. codes "read " ++ l) (sym text))

pub read_forth : (t : TxId) (p : ℕ) → HasTx t → HasPage p → read_of (tx_text t ++ spaced p) ≡ Some (Read t p)
unfolding read_of
read_forth t p has most =
    ap (λ o. o >>= (λ t. spaced_at 0 65535 t.1 >>= (λ p. at_end (Read t.0 p.0) p.1))) (tx_forth t (spaced p) has (omega arith))
    ∙ ap (λ o. o >>= (λ p. at_end (Read t p.0) p.1)) (spaced_last 0 65535 p (omega arith) most (omega arith))

-- a write
pub write_text : TxId → ℕ → ℕ → List ℕ → List ℕ
write_text t p k bytes = tx_text t ++ (spaced p ++ (spaced k ++ (32 ∷ bytes_text bytes)))

pub regroup : (a b d f g : List ℕ) → (((a ++ b) ++ d) ++ f) ++ g ≡ a ++ (b ++ (d ++ (f ++ g)))
regroup a b d f g = simp append_assoc

pub write_line : (t : TxId) (p k : ℕ) (bytes : List ℕ) → line_of (Write t p k bytes) ≡ codes "write " ++ write_text t p k bytes
unfolding write_text
write_line t p k bytes = ap (λ l. codes "write " ++ l) (regroup (tx_text t) (spaced p) (spaced k) (codes " ") (bytes_text bytes))

pub write_back : (rest : List ℕ) (e : Event) → write_of rest ≡ Some e → IsLineOf e (codes "write " ++ rest)
unfolding write_of write_text
write_back rest e h =
    let tx = bind_some (tx_at rest) (λ t. spaced_at 0 65535 t.1 >>= (λ p. spaced_at 0 4095 p.1 >>= (λ k. after_word (codes " ") k.1 >>= (λ text. bytes_of text >>= (λ b. Some (Write t.0 p.0 k.0 b)))))) e h in
    let page = bind_some (spaced_at 0 65535 (tx.0).1) (λ p. spaced_at 0 4095 p.1 >>= (λ k. after_word (codes " ") k.1 >>= (λ text. bytes_of text >>= (λ b. Some (Write (tx.0).0 p.0 k.0 b))))) e tx.2 in
    let place = bind_some (spaced_at 0 4095 (page.0).1) (λ k. after_word (codes " ") k.1 >>= (λ text. bytes_of text >>= (λ b. Some (Write (tx.0).0 (page.0).0 k.0 b)))) e page.2 in
    let digits = bind_some (after_word (codes " ") (place.0).1) (λ text. bytes_of text >>= (λ b. Some (Write (tx.0).0 (page.0).0 (place.0).0 b))) e place.2 in
    let bytes = bind_some (bytes_of digits.0) (λ b. Some (Write (tx.0).0 (page.0).0 (place.0).0 b)) e digits.2 in
    let t : TxId = (tx.0).0 in
    let p : ℕ = (page.0).0 in
    let k : ℕ = (place.0).0 in
    let name = tx_back rest tx.0 tx.1 in
    let a = spaced_back 0 65535 (tx.0).1 page.0 page.1 in
    let b = spaced_back 0 4095 (page.0).1 place.0 place.1 in
    let d = word_after (codes " ") (place.0).1 digits.0 digits.1 in
    let f = bytes_back digits.0 bytes.0 bytes.1 in
    let text : rest ≡ write_text t p k bytes.0 =
    name.0
    ∙ (ap (λ l. tx_text t ++ l) a.0
    ∙ (ap (λ l. tx_text t ++ (spaced p ++ l)) b.0
    ∙ (ap (λ l. tx_text t ++ (spaced p ++ (spaced k ++ l))) d ∙ ap (λ l. tx_text t ++ (spaced p ++ (spaced k ++ (32 ∷ l)))) (sym f.0)))) in
    subst (λ x. IsLineOf x (codes "write " ++ rest)) (some_same (Write t p k bytes.0) e bytes.2)
    ((name.1, a.2, b.2, f.1, f.2), write_line t p k bytes.0 ∙ ap (λ l. codes "write " ++ l) (sym text))

pub write_forth : (t : TxId) (p k : ℕ) (bytes : List ℕ) → HasTx t → HasPage p → k ≤ 4095 → length bytes ≤ 4096 → AllByRecursion (λ b. b < 256) bytes
    → write_of (write_text t p k bytes) ≡ Some (Write t p k bytes)
unfolding write_of write_text
write_forth t p k bytes has page place most small =
    ap (λ o. o >>= (λ t. spaced_at 0 65535 t.1 >>= (λ p. spaced_at 0 4095 p.1 >>= (λ k. after_word (codes " ") k.1 >>= (λ text. bytes_of text >>= (λ b. Some (Write t.0 p.0 k.0 b)))))))
    (tx_forth t (spaced p ++ (spaced k ++ (32 ∷ bytes_text bytes))) has (omega arith))
    ∙ (ap (λ o. o >>= (λ p. spaced_at 0 4095 p.1 >>= (λ k. after_word (codes " ") k.1 >>= (λ text. bytes_of text >>= (λ b. Some (Write t p.0 k.0 b))))))
    (spaced_forth 0 65535 p (spaced k ++ (32 ∷ bytes_text bytes)) (omega arith) page (omega arith) (omega arith))
    ∙ (ap (λ o. o >>= (λ k. after_word (codes " ") k.1 >>= (λ text. bytes_of text >>= (λ b. Some (Write t p k.0 b)))))
    (spaced_forth 0 4095 k (32 ∷ bytes_text bytes) (omega arith) place (omega arith) (omega arith))
    ∙ (ap (λ o. o >>= (λ text. bytes_of text >>= (λ b. Some (Write t p k b)))) (after_word_is (codes " ") (bytes_text bytes))
    ∙ ap (λ o. o >>= (λ b. Some (Write t p k b))) (bytes_forth bytes most small))))

-- a view
pub view_line : (live : List Bool) (owners : List ℕ) → line_of (View live owners) ≡ codes "view " ++ (map flag_text live ++ (32 ∷ numbers_text owners))
view_line live owners = ap (λ l. codes "view " ++ l) (append_assoc (map flag_text live) (codes " ") (numbers_text owners))

pub view_back : (rest : List ℕ) (e : Event) → view_of rest ≡ Some e → IsLineOf e (codes "view " ++ rest)
unfolding view_of
view_back rest e h =
    let live = bind_some (flags_at rest) (λ live. after_word (codes " ") live.1 >>= (λ rest. owners_of rest >>= (λ owners. Some (View live.0 owners)))) e h in
    let behind = bind_some (after_word (codes " ") (live.0).1) (λ rest. owners_of rest >>= (λ owners. Some (View (live.0).0 owners))) e live.2 in
    let owners = bind_some (owners_of behind.0) (λ owners. Some (View (live.0).0 owners)) e behind.2 in
    let a = flags_back rest live.0 live.1 in
    let b = word_after (codes " ") (live.0).1 behind.0 behind.1 in
    let d = owners_back behind.0 owners.0 owners.1 in
    let text : rest ≡ map flag_text (live.0).0 ++ (32 ∷ numbers_text owners.0) =
    a.0 ∙ (ap (λ l. map flag_text (live.0).0 ++ l) b ∙ ap (λ l. map flag_text (live.0).0 ++ (32 ∷ l)) (sym d.0)) in
    subst (λ x. IsLineOf x (codes "view " ++ rest)) (some_same (View (live.0).0 owners.0) e owners.2)
    ((a.1, a.2, d.1, d.2, d.3), view_line (live.0).0 owners.0 ∙ ap (λ l. codes "view " ++ l) (sym text))

pub view_forth : (live : List Bool) (owners : List ℕ) → 1 ≤ length live → length live ≤ 16 → 1 ≤ length owners → length owners ≤ 16 → AllByRecursion HasNode owners
    → view_of (map flag_text live ++ (32 ∷ numbers_text owners)) ≡ Some (View live owners)
unfolding view_of
view_forth live owners a b d f nodes =
    ap (λ o. o >>= (λ live. after_word (codes " ") live.1 >>= (λ rest. owners_of rest >>= (λ owners. Some (View live.0 owners))))) (flags_forth live (32 ∷ numbers_text owners) a b (omega arith))
    ∙ (ap (λ o. o >>= (λ rest. owners_of rest >>= (λ owners. Some (View live owners)))) (after_word_is (codes " ") (numbers_text owners))
    ∙ ap (λ o. o >>= (λ owners. Some (View live owners))) (owners_forth owners d f nodes))

-- an arming
pub arm_line : (n k j : ℕ) → line_of (Arm n k j) ≡ codes "arm " ++ (decimal n ++ (spaced k ++ spaced j))
arm_line n k j = ap (λ l. codes "arm " ++ l) (append_assoc (decimal n) (spaced k) (spaced j))

pub arm_back : (rest : List ℕ) (e : Event) → arm_of rest ≡ Some e → IsLineOf e (codes "arm " ++ rest)
unfolding arm_of
arm_back rest e h =
    let node = bind_some (number_at 0 15 rest) (λ n. spaced_at 1 4294967295 n.1 >>= (λ k. spaced_at 0 4294967295 k.1 >>= (λ j. at_end (Arm n.0 k.0 j.0) j.1))) e h in
    let call = bind_some (spaced_at 1 4294967295 (node.0).1) (λ k. spaced_at 0 4294967295 k.1 >>= (λ j. at_end (Arm (node.0).0 k.0 j.0) j.1)) e node.2 in
    let kept = bind_some (spaced_at 0 4294967295 (call.0).1) (λ j. at_end (Arm (node.0).0 (call.0).0 j.0) j.1) e call.2 in
    let end = at_end_some (Arm (node.0).0 (call.0).0 (kept.0).0) e (kept.0).1 kept.2 in
    let a = number_back 0 15 rest node.0 node.1 in
    let b = spaced_back 1 4294967295 (node.0).1 call.0 call.1 in
    let d = spaced_last_back 0 4294967295 (call.0).1 kept.0 kept.1 end.1 in
    let text : rest ≡ decimal (node.0).0 ++ (spaced (call.0).0 ++ spaced (kept.0).0) =
    a.text ∙ (ap (λ l. decimal (node.0).0 ++ l) b.0 ∙ ap (λ l. decimal (node.0).0 ++ (spaced (call.0).0 ++ l)) d.0) in
    subst (λ x. IsLineOf x (codes "arm " ++ rest)) end.0
    ((a.most, b.1, b.2, d.2), arm_line (node.0).0 (call.0).0 (kept.0).0 ∙ ap (λ l. codes "arm " ++ l) (sym text))

pub arm_forth : (n k j : ℕ) → HasNode n → 1 ≤ k → k ≤ 4294967295 → j ≤ 4294967295 → arm_of (decimal n ++ (spaced k ++ spaced j)) ≡ Some (Arm n k j)
unfolding arm_of
arm_forth n k j has some most kept =
    ap (λ o. o >>= (λ n. spaced_at 1 4294967295 n.1 >>= (λ k. spaced_at 0 4294967295 k.1 >>= (λ j. at_end (Arm n.0 k.0 j.0) j.1))))
    (number_forth 0 15 n (spaced k ++ spaced j) (omega arith) has (omega arith) (omega arith))
    ∙ (ap (λ o. o >>= (λ k. spaced_at 0 4294967295 k.1 >>= (λ j. at_end (Arm n k.0 j.0) j.1))) (spaced_forth 1 4294967295 k (spaced j) some most (omega arith) (omega arith))
    ∙ ap (λ o. o >>= (λ j. at_end (Arm n k j.0) j.1)) (spaced_last 0 4294967295 j (omega arith) kept (omega arith)))

pub reopen_back : (rest : List ℕ) (e : Event) → reopen_of rest ≡ Some e → IsLineOf e (codes "reopen" ++ rest)
unfolding reopen_of
reopen_back rest e h =
    let end = at_end_some Reopen e rest h in
    subst (λ x. IsLineOf x (codes "reopen" ++ rest)) end.0 (tt, ap (λ l. codes "reopen" ++ l) (sym end.1))
