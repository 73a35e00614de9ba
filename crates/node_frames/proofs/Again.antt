-- The frames of the grammar are read from their bytes.
use Rattle.std.proofs.Common.{◌≡◌, ◌∙◌, ℕ, suc, zero, ◌+◌, ◌<◌, ◌≤◌, ◌^◌, ◌&&◌, ◌==◌, Bool, true, false, nat_le, nat_lt, List, map, [], ◌∷◌, ◌++◌, length, Option, Some, None, Ok, refl, sym, ap, subst, arith, append_assoc, append-nil}
use Rattle.std.specs.Prelude.{IsSome, is_some}
use Rattle.std.specs.Int.{w8, w32, to_be_bytes}
use Rattle.std.specs.List.{list_all}
use Rattle.std.proofs.lemmas.Bool.{le-leb, lt-ltb, leb-true, eqb-true}
use Rattle.std.proofs.lemmas.Nat.{from_be_bytes-to_be_bytes_4}
use Rattle.pcl_base.specs.Limits.{Sizes, InLimits, is_between}
use Rattle.pcl_base.specs.declared.event.Event.{Event}
use Rattle.pcl_base.specs.declared.message.Message.{Message}
use Rattle.run_rules.specs.Views.{View, is_live}
use Rattle.text_rules.specs.ScheduleLine.{line_of, HasLine}
use Rattle.text_rules.specs.ReadEvent.{event_of}
use Rattle.text_rules.specs.BadLine.{bad_at, event_forms}
use Rattle.text_rules.specs.FieldBytes.{items, number, number_from, at_least}
use Rattle.text_rules.specs.MessageBytes.{flag_byte, message_bytes, IsMessage}
use Rattle.line_laws.proofs.EventLines.{event_forth}
use Rattle.line_laws.proofs.Columns.{good_line}
use Rattle.line_laws.proofs.Rows.{event_lines}
use Rattle.messages.specs.Laws.{IsBodyOfTypes, ReadAgain}
use Rattle.frame_rules.specs.Frames.{Frame, LineFrame, MessageFrame, ViewFrame, IsView, body_bytes, view_bytes, epochs_bytes, asked_by, is_live_node}
use Rattle.frame_rules.specs.ReadFrame.{line_frame, step_line, message_frame, sender_field, view_field, live_field, live_fields, owner_field, epoch_field}
use Rattle.node_frames.specs.Front.{IsHead}
use Rattle.node_frames.specs.Laws.{BodiesReadAgain, FramesReadAgain}
use Rattle.node_frames.proofs.ViewLemmas.{and_second}
use Rattle.node_frames.proofs.FrontLaws.{front_of_whole}

-- two numbers that differ
pub apart : (a b : ℕ) → ¬ (a ≡ b) → (a == b) ≡ false
apart a b differ = by (a == b) refl
  where
    by : (t : Bool) → (a == b) ≡ t → (a == b) ≡ false
    by true is = absurd (differ (eqb-true a b is))
    by false is = is

-- a byte, a byte within two limits, and numbers of four bytes
pub number_1 : (n : ℕ) (rest : List ℕ) → number w8 (n ∷ rest) ≡ Ok (n, rest)
number_1 n rest =
    let long : nat_le 1 (suc (length rest)) ≡ true = le-leb _ _ (omega arith) in rw long refl

pub byte_again : (low high n : ℕ) (rest : List ℕ) → low ≤ n → n ≤ high → number_from low high w8 (n ∷ rest) ≡ Ok (n, rest)
byte_again low high n rest above below =
    let is_above : nat_le low n ≡ true = le-leb _ _ above in
    let is_below : nat_le n high ≡ true = le-leb _ _ below in
    rw (number_1 n rest) (rw is_above (rw is_below refl))

pub number_4 : (n : ℕ) (rest : List ℕ) → n < 2 ^ 32 → number w32 (to_be_bytes w32 n ++ rest) ≡ Ok (n, rest)
number_4 n rest fits =
    let long : nat_le 4 (suc (suc (suc (suc (length rest))))) ≡ true = le-leb _ _ (omega arith) in
    rw long (ap (λ k. Ok (k, rest)) (from_be_bytes-to_be_bytes_4 n fits))

pub counted_4 : (n : ℕ) (rest : List ℕ) → 1 ≤ n → n < 2 ^ 32 → at_least 1 w32 (to_be_bytes w32 n ++ rest) ≡ Ok (n, rest)
counted_4 n rest least fits =
    let is : nat_le 1 n ≡ true = le-leb _ _ least in rw (number_4 n rest fits) (rw is refl)

-- the first of two that hold
pub and_first : (a b : Bool) → (a && b) ≡ true → a ≡ true
and_first true b both = refl
and_first false b both = absurd (cc)

-- a line
pub is_there : {X : Type 0} (o : Option X) → IsSome o → is_some o ≡ true
is_there (Some x) some = refl
is_there None some = some

pub line_again : (e : Event) → HasLine e → IsSome (asked_by e) → line_frame (bad_at true event_forms (line_of e)) (step_line (event_of (line_of e))) ≡ Ok (LineFrame e)
line_again e has asks =
    let read = event_forth e has in
    let good = good_line event_forms (line_of e) (event_lines (line_of e) ∙ rw read refl) in
    rw good (rw read (rw (is_there (asked_by e) asks) refl))

-- a message behind its sender
pub sender_again : (c : Sizes) (me from : ℕ) (rest : List ℕ) → from < c.nodes → ¬ (from ≡ me) → sender_field c me (from ∷ rest) ≡ Ok (from, rest)
sender_again c me from rest node other =
    let below : nat_lt from c.nodes ≡ true = lt-ltb from c.nodes node in
    rw (number_1 from rest) (rw below (rw (apart from me other) refl))

pub message_again : (again : ReadAgain) (c : Sizes) (me from : ℕ) (m : Message) → InLimits c → from < c.nodes → ¬ (from ≡ me) → IsMessage c m → m.epoch < 2 ^ 32 → IsBodyOfTypes m.body → message_frame c (sender_field c me (from ∷ message_bytes m)) ≡ Ok (MessageFrame from m)
message_again again c me from m limits node other is epoch types =
    rw (sender_again c me from (message_bytes m) node other) (rw (again c m limits is epoch types) refl)

-- the flag of a node
pub live_case : (own live : Bool) (me n : ℕ) (rest : List ℕ) → (n == me) ≡ own → (n ≡ me → live ≡ true) → live_field me n (flag_byte live ∷ rest) ≡ Ok (live, rest)
live_case true true me n rest is set = rw is (rw (byte_again 1 1 1 rest (omega arith) (omega arith)) refl)
live_case true false me n rest is set = let bad : false ≡ true = set (eqb-true n me is) in absurd (cc)
live_case false true me n rest is set = rw is (rw (byte_again 0 1 1 rest (omega arith) (omega arith)) refl)
live_case false false me n rest is set = rw is (rw (byte_again 0 1 0 rest (omega arith) (omega arith)) refl)

-- the flag of a node, where it is among those from node n on, is set
abbrev pub OwnSet : ℕ → ℕ → List Bool → Type 0
OwnSet me n [] = Unit {0}
OwnSet me n (live ∷ others) = (n ≡ me → live ≡ true) × OwnSet me (n + 1) others

pub own_before : (me n : ℕ) (live : List Bool) → me < n → OwnSet me n live
own_before me n [] less = tt
own_before me n (b ∷ live) less = ((λ e. absurd (omega (arith, e, less))), own_before me (n + 1) live (omega (arith, less)))

pub own_set : (me n k : ℕ) (live : List Bool) → is_live live k ≡ true → n + k ≡ me → OwnSet me n live
own_set me n k [] set at = tt
own_set me n zero (b ∷ live) set at = ((λ e. set), own_before me (n + 1) live (omega (arith, at)))
own_set me n (suc k) (b ∷ live) set at =
    ((λ e. absurd (omega (arith, e, at))), own_set me (n + 1) k live set (omega (arith, at)))

-- the flags of all nodes
pub flags_again : (me n : ℕ) (live : List Bool) (rest : List ℕ) → OwnSet me n live → live_fields me n (length live) (map flag_byte live ++ rest) ≡ Ok (live, rest)
flags_again me n [] rest set = refl
flags_again me n (b ∷ live) rest set =
    rw (live_case (n == me) b me n (map flag_byte live ++ rest) refl set.0)
    (rw (flags_again me (n + 1) live rest set.1) refl)

-- the owners
pub owners_again : (live : List Bool) (owners rest : List ℕ) → list_all (is_live_node live) owners ≡ true → items (length owners) (owner_field live) (owners ++ rest) ≡ Ok (owners, rest)
owners_again live [] rest all = refl
owners_again live (o ∷ owners) rest all =
    let first : is_live_node live o ≡ true = and_first (is_live_node live o) (list_all (is_live_node live) owners) all in
    let others = and_second (is_live_node live o) (list_all (is_live_node live) owners) all in
    rw (number_1 o (owners ++ rest)) (rw first (rw (owners_again live owners rest others) refl))

-- epochs up to that of the view
pub epochs_again : (most : ℕ) (epochs rest : List ℕ) → most < 2 ^ 32 → list_all (is_between 1 most) epochs ≡ true → items (length epochs) (epoch_field most) (epochs_bytes epochs ++ rest) ≡ Ok (epochs, rest)
epochs_again most [] rest small all = refl
epochs_again most (e ∷ epochs) rest small all =
    let first : is_between 1 most e ≡ true = and_first (is_between 1 most e) (list_all (is_between 1 most) epochs) all in
    let others = and_second (is_between 1 most e) (list_all (is_between 1 most) epochs) all in
    let most_of : e ≤ most = leb-true e most (and_second (nat_le 1 e) (nat_le e most) first) in
    rw (append_assoc (to_be_bytes w32 e) (epochs_bytes epochs) rest)
    (rw (number_4 e (epochs_bytes epochs ++ rest) (omega (arith, most_of, small))) (rw first (rw (epochs_again most epochs rest small others) refl)))

-- a view
pub view_again : (c : Sizes) (me : ℕ) (v : View) → IsView c me v → view_field c me (view_bytes v) ≡ Ok (v, [])
view_again c me v is =
    let small = is.four_bytes in
    let flags : live_fields me 0 c.nodes (map flag_byte v.live ++ (v.owners ++ (epochs_bytes v.since ++ epochs_bytes v.born))) ≡ Ok (v.live, v.owners ++ (epochs_bytes v.since ++ epochs_bytes v.born)) =
    subst (λ n. live_fields me 0 n (map flag_byte v.live ++ (v.owners ++ (epochs_bytes v.since ++ epochs_bytes v.born))) ≡ Ok (v.live, v.owners ++ (epochs_bytes v.since ++ epochs_bytes v.born))) is.each_live
    (flags_again me 0 v.live (v.owners ++ (epochs_bytes v.since ++ epochs_bytes v.born)) (own_set me 0 me v.live (and_second (nat_lt me (length v.live)) (is_live v.live me) is.me_live) (omega arith))) in
    let owners : items c.nodes (owner_field v.live) (v.owners ++ (epochs_bytes v.since ++ epochs_bytes v.born)) ≡ Ok (v.owners, epochs_bytes v.since ++ epochs_bytes v.born) =
    subst (λ n. items n (owner_field v.live) (v.owners ++ (epochs_bytes v.since ++ epochs_bytes v.born)) ≡ Ok (v.owners, epochs_bytes v.since ++ epochs_bytes v.born)) is.each_owner
    (owners_again v.live v.owners (epochs_bytes v.since ++ epochs_bytes v.born) is.live_owners) in
    let since : items c.nodes (epoch_field v.epoch) (epochs_bytes v.since ++ epochs_bytes v.born) ≡ Ok (v.since, epochs_bytes v.born) =
    subst (λ n. items n (epoch_field v.epoch) (epochs_bytes v.since ++ epochs_bytes v.born) ≡ Ok (v.since, epochs_bytes v.born)) is.each_since
    (epochs_again v.epoch v.since (epochs_bytes v.born) small is.since_within) in
    let born : items c.nodes (epoch_field v.epoch) (epochs_bytes v.born) ≡ Ok (v.born, []) =
    subst (λ n. items n (epoch_field v.epoch) (epochs_bytes v.born) ≡ Ok (v.born, [])) is.each_born
    (ap (items (length v.born) (epoch_field v.epoch)) (sym (append-nil (epochs_bytes v.born))) ∙ epochs_again v.epoch v.born [] small is.born_within) in
    let flag_bytes = map flag_byte v.live in
    let last = epochs_bytes v.since ++ epochs_bytes v.born in
    let bytes : view_bytes v ≡ to_be_bytes w32 v.epoch ++ (map flag_byte v.live ++ (v.owners ++ (epochs_bytes v.since ++ epochs_bytes v.born))) =
    append_assoc ((to_be_bytes w32 v.epoch ++ flag_bytes) ++ v.owners) (epochs_bytes v.since) (epochs_bytes v.born)
    ∙ append_assoc (to_be_bytes w32 v.epoch ++ flag_bytes) v.owners last
    ∙ append_assoc (to_be_bytes w32 v.epoch) flag_bytes (v.owners ++ last) in
    ap (view_field c me) bytes
    ∙ rw (counted_4 v.epoch (map flag_byte v.live ++ (v.owners ++ (epochs_bytes v.since ++ epochs_bytes v.born))) is.epoch small)
    (rw flags (rw owners (rw since (rw born refl))))

-- bodies
pub bodies_again : ReadAgain → BodiesReadAgain
bodies_again again c me (LineFrame e) limits node is types = line_again e is.0 is.1
bodies_again again c me (MessageFrame from m) limits node is types =
    message_again again c me from m limits is.0 is.1 is.2 types.0 types.1
bodies_again again c me (ViewFrame v) limits node is types = rw (view_again c me v is) refl

-- the length of a body, which isn't empty
pub some_body : (f : Frame) → 1 ≤ length (body_bytes f)
some_body (LineFrame e) = omega arith
some_body (MessageFrame from m) = omega arith
some_body (ViewFrame v) = omega arith

pub head_again : (n : ℕ) → 1 ≤ n → n ≤ 134217728 → IsHead (to_be_bytes w32 n) n
head_again n least most =
    record { four = refl; number = from_be_bytes-to_be_bytes_4 n (omega (arith, most)); least = least; most = most }

pub frames_again : FramesReadAgain
frames_again f rest small =
    front_of_whole (to_be_bytes w32 (length (body_bytes f))) (body_bytes f) rest (length (body_bytes f)) (head_again (length (body_bytes f)) (some_body f) small) refl
