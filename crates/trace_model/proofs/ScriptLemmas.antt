-- What the moments of an entry give to scripts and to the serial order.
use Rattle.std.proofs.Common.{◌≡◌, ℕ, List, [], ◌∷◌, ◌++◌, refl, ap, ◌∙◌, sym, append_assoc, flat_map, ◌+◌, ◌<◌, ◌≤◌, suc, length, drop, drop-cons, get_or, arith, Option, Some, None, Bool, true, false}
use Rattle.std.proofs.lemmas.List.{append-nil, drop_all}
use Rattle.std.proofs.lemmas.Grind.{flat_map-append}
use Rattle.pcl_base.specs.declared.tx.TxId.{TxId}
use Rattle.pcl_base.specs.declared.event.Event.{Event}
use Rattle.pcl_base.specs.declared.event.Event.TheVariants as event
use Rattle.pcl_base.specs.declared.reply.Reply.{Reply}
use Rattle.pcl_base.specs.declared.reply.Reply.TheVariants as reply
use Rattle.pcl_base.specs.declared.script.Step.{Step}
use Rattle.pcl_base.specs.declared.trace.Entry.{Entry}
use Rattle.pcl_base.specs.declared.trace.Halt.{Halt}
use Rattle.run_rules.specs.Words.{pick}
use Rattle.run_rules.specs.Script.{Moment, Gets, Writes, is_refused, asked, told, kept, kept_tx, moments_of, moments, steps_at, script_from}
use Rattle.run_rules.specs.Serial.{committed, serial}
use Rattle.trace_model.specs.Seen.{write_in, is_asked_by, asked_write}

-- a reply gives its steps, and asks for no write
told_script : (t : TxId) (w : Option (ℕ × List ℕ)) (r : Reply) (ms : List Moment)
    → script_from t w (told r ++ ms) ≡ flat_map (steps_at t w) (told r) ++ script_from t w ms
unfolding script_from
told_script t w (reply.Begun u) ms = refl
told_script t w (reply.Committed u) ms = refl
told_script t w (reply.Aborted u) ms = refl
told_script t w (reply.Value u p v bytes) ms = ap (λ (s : List Step). s ++ script_from t w ms) (sym (append-nil (steps_at t w (Gets u p v bytes))))
told_script t w (reply.Done u p v) ms = ap (λ (s : List Step). s ++ script_from t w ms) (sym (append-nil (steps_at t w (Writes u p v))))
told_script t w (reply.Waits u p) ms = refl
told_script t w reply.Taken ms = refl
told_script t w reply.Held ms = refl
told_script t w reply.Dropped ms = refl
told_script t w reply.Evicted ms = refl
told_script t w reply.Flushed ms = refl
told_script t w reply.Crashed ms = refl
told_script t w reply.Armed ms = refl
told_script t w (reply.Cut n) ms = refl
told_script t w (reply.Viewed n) ms = refl
told_script t w (reply.Installed n) ms = refl
told_script t w (reply.Reopened n) ms = refl
told_script t w (reply.Serving n) ms = refl
told_script t w (reply.Refused r) ms = refl

-- and so do replies
replies_script : (t : TxId) (w : Option (ℕ × List ℕ)) (rs : List Reply) (ms : List Moment)
    → script_from t w (flat_map told rs ++ ms) ≡ flat_map (steps_at t w) (flat_map told rs) ++ script_from t w ms
replies_script t w [] ms = refl
replies_script t w (r ∷ rs) ms =
    ap (script_from t w) (append_assoc (told r) (flat_map told rs) ms)
    ∙ told_script t w r (flat_map told rs ++ ms)
    ∙ ap (λ (s : List Step). flat_map (steps_at t w) (told r) ++ s) (replies_script t w rs ms)
    ∙ sym (append_assoc (flat_map (steps_at t w) (told r)) (flat_map (steps_at t w) (flat_map told rs)) (script_from t w ms))
    ∙ ap (λ (s : List Step). s ++ script_from t w ms) (sym (flat_map-append (steps_at t w) (told r) (flat_map told rs)))

-- a halt gives no step
kept_tx_script : (t : TxId) (w : Option (ℕ × List ℕ)) (o : Option TxId) (ms : List Moment) → script_from t w (kept_tx o ++ ms) ≡ script_from t w ms
unfolding script_from
kept_tx_script t w None ms = refl
kept_tx_script t w (Some u) ms = refl

kept_script : (t : TxId) (w : Option (ℕ × List ℕ)) (o : Option Halt) (ms : List Moment) → script_from t w (kept o ++ ms) ≡ script_from t w ms
kept_script t w None ms = refl
kept_script t w (Some halt) ms = kept_tx_script t w halt.kept ms

pick_same : {X : Type 0} (b : Bool) (x : X) → pick b x x ≡ x
pick_same true x = refl
pick_same false x = refl

-- an event gives no step, and asks for its write where it wasn't refused
asked_script : (t : TxId) (w : Option (ℕ × List ℕ)) (e : Event) (refused : Bool) (ms : List Moment)
    → script_from t w (pick refused [] (asked e) ++ ms) ≡ script_from t (pick (is_asked_by t e) (pick refused w (write_in e)) w) ms
unfolding script_from
asked_script t w e true ms = ap (λ (v : Option (ℕ × List ℕ)). script_from t v ms) (sym (pick_same (is_asked_by t e) w))
asked_script t w (event.Begin n) false ms = refl
asked_script t w (event.Read u p) false ms = refl
asked_script t w (event.Write u p place bytes) false ms = refl
asked_script t w (event.Commit u) false ms = refl
asked_script t w (event.Abort u) false ms = refl
asked_script t w (event.Deliver n m) false ms = refl
asked_script t w (event.Evict n p) false ms = refl
asked_script t w (event.Flush n p) false ms = refl
asked_script t w (event.Crash n) false ms = refl
asked_script t w (event.View l o) false ms = refl
asked_script t w (event.Install n) false ms = refl
asked_script t w event.Reopen false ms = refl
asked_script t w (event.Arm n k j) false ms = refl
asked_script t w (event.Cut n) false ms = refl

-- an entry gives the steps of its replies, after the write that its event asks for
pub entry_script : (t : TxId) (w : Option (ℕ × List ℕ)) (e : Entry) (es : List Entry)
    → script_from t w (moments (e ∷ es)) ≡ flat_map (steps_at t (asked_write t w e)) (flat_map told e.replies) ++ script_from t (asked_write t w e) (moments es)
unfolding moments moments_of
entry_script t w e es =
    ap (script_from t w) (append_assoc (pick (is_refused e) [] (asked e.event)) (flat_map told e.replies ++ kept e.halted) (flat_map moments_of es))
    ∙ asked_script t w e.event (is_refused e) ((flat_map told e.replies ++ kept e.halted) ++ flat_map moments_of es)
    ∙ ap (script_from t (asked_write t w e)) (append_assoc (flat_map told e.replies) (kept e.halted) (flat_map moments_of es))
    ∙ replies_script t (asked_write t w e) e.replies (kept e.halted ++ flat_map moments_of es)
    ∙ ap (λ (s : List Step). flat_map (steps_at t (asked_write t w e)) (flat_map told e.replies) ++ s) (kept_script t (asked_write t w e) e.halted (flat_map moments_of es))

-- an event commits nothing
asked_commits : (e : Event) (refused : Bool) → flat_map committed (pick refused [] (asked e)) ≡ []
asked_commits e true = refl
asked_commits (event.Begin n) false = refl
asked_commits (event.Read u p) false = refl
asked_commits (event.Write u p place bytes) false = refl
asked_commits (event.Commit u) false = refl
asked_commits (event.Abort u) false = refl
asked_commits (event.Deliver n m) false = refl
asked_commits (event.Evict n p) false = refl
asked_commits (event.Flush n p) false = refl
asked_commits (event.Crash n) false = refl
asked_commits (event.View l o) false = refl
asked_commits (event.Install n) false = refl
asked_commits event.Reopen false = refl
asked_commits (event.Arm n k j) false = refl
asked_commits (event.Cut n) false = refl

-- an entry gives the commit points of its replies and of its halt
pub entry_serial : (e : Entry) (es : List Entry) → serial (e ∷ es) ≡ (flat_map committed (flat_map told e.replies) ++ flat_map committed (kept e.halted)) ++ serial es
unfolding serial moments moments_of
entry_serial e es =
    flat_map-append committed (pick (is_refused e) [] (asked e.event) ++ (flat_map told e.replies ++ kept e.halted)) (flat_map moments_of es)
    ∙ ap (λ (s : List TxId). s ++ flat_map committed (flat_map moments_of es))
    (flat_map-append committed (pick (is_refused e) [] (asked e.event)) (flat_map told e.replies ++ kept e.halted)
    ∙ ap (λ (s : List TxId). s ++ flat_map committed (flat_map told e.replies ++ kept e.halted)) (asked_commits e.event (is_refused e))
    ∙ flat_map-append committed (flat_map told e.replies) (kept e.halted))

-- what is left of a list begins with the next item
drop_one : {X : Type 0} (xs : List X) (i : ℕ) (x : X) → i < length xs → x ≡ get_or xs i x → drop i xs ≡ x ∷ drop (i + 1) xs
drop_one xs i x within is =
    let next : suc i ≡ i + 1 = omega arith in
    drop-cons xs i x within ∙ ap (λ y. y ∷ drop (suc i) xs) (sym is) ∙ ap (λ k. x ∷ drop k xs) next

-- one entry more is taken
pub serial_more : (txs taken : List TxId) (es : List Entry) (i : ℕ) (e : Entry) → i < length es → e ≡ get_or es i e
    → taken ≡ txs ++ (flat_map committed (flat_map told e.replies) ++ flat_map committed (kept e.halted))
    → txs ++ serial (drop i es) ≡ serial es → taken ++ serial (drop (i + 1) es) ≡ serial es
serial_more txs taken es i e within is more before =
    ap (λ (s : List TxId). s ++ serial (drop (i + 1) es)) more
    ∙ append_assoc txs (flat_map committed (flat_map told e.replies) ++ flat_map committed (kept e.halted)) (serial (drop (i + 1) es))
    ∙ ap (λ (s : List TxId). txs ++ s) (sym (entry_serial e (drop (i + 1) es)) ∙ ap serial (sym (drop_one es i e within is)))
    ∙ before

pub script_more : (t : TxId) (w v : Option (ℕ × List ℕ)) (steps taken all : List Step) (es : List Entry) (i : ℕ) (e : Entry)
    → i < length es → e ≡ get_or es i e → v ≡ asked_write t w e → taken ≡ steps ++ flat_map (steps_at t v) (flat_map told e.replies)
    → steps ++ script_from t w (moments (drop i es)) ≡ all → taken ++ script_from t v (moments (drop (i + 1) es)) ≡ all
script_more t w v steps taken all es i e within is asked more before =
    ap (λ (s : List Step). s ++ script_from t v (moments (drop (i + 1) es))) more
    ∙ append_assoc steps (flat_map (steps_at t v) (flat_map told e.replies)) (script_from t v (moments (drop (i + 1) es)))
    ∙ ap (λ (u : Option (ℕ × List ℕ)). steps ++ (flat_map (steps_at t u) (flat_map told e.replies) ++ script_from t u (moments (drop (i + 1) es)))) asked
    ∙ ap (λ (s : List Step). steps ++ s)
    (sym (entry_script t w e (drop (i + 1) es)) ∙ ap (λ (l : List Entry). script_from t w (moments l)) (sym (drop_one es i e within is)))
    ∙ before

-- all entries are taken
pub serial_done : (txs : List TxId) (es : List Entry) (i : ℕ) → length es ≤ i → txs ++ serial (drop i es) ≡ serial es → txs ≡ serial es
unfolding serial moments
serial_done txs es i past before =
    sym (append-nil txs) ∙ ap (λ (l : List Entry). txs ++ serial l) (sym (drop_all i es past)) ∙ before

pub script_done : (t : TxId) (w : Option (ℕ × List ℕ)) (steps all : List Step) (es : List Entry) (i : ℕ) → length es ≤ i
    → steps ++ script_from t w (moments (drop i es)) ≡ all → steps ≡ all
unfolding script_from moments
script_done t w steps all es i past before =
    sym (append-nil steps) ∙ ap (λ (l : List Entry). steps ++ script_from t w (moments l)) (sym (drop_all i es past)) ∙ before
