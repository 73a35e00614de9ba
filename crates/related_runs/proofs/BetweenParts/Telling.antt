-- A reply that grants a write brings it into its transaction's accesses.
use Rattle.std.proofs.Common.{◌≡◌, inl, inr, refl, ap, ◌∙◌, ℕ, ◌==◌, true, false, List, [], ◌∷◌, ◌++◌, Option, Some, None, is_some, append_assoc, arith}
use Rattle.std.specs.List.{fold, flat_map}
use Rattle.std.proofs.lemmas.Bool.Decides.{nat_tests}
use Rattle.pcl_base.specs.declared.reply.Reply.{Reply}
use Rattle.pcl_base.specs.declared.reply.Reply.TheVariants as reply
use Rattle.pcl_base.specs.declared.script.Step.TheVariants as step
use Rattle.pcl_base.specs.declared.trace.Entry.{Entry}
use Rattle.pcl_base.specs.declared.tx.TxId.{TxId}
use Rattle.home_laws.proofs.Tests.{tx_same}
use Rattle.run_rules.specs.Script.{Moment, Writes, asked, is_refused, told, kept, moments_of, moments, last_write, script_from}
use Rattle.run_rules.specs.Words.{pick}
use Rattle.page_protocol.specs.Bytes.{Write, writes}
use Rattle.page_laws.specs.Moment.Looks.{accesses_of, accesses_in}
use Rattle.related_runs.proofs.Traces.{script_joined, accesses_joined}
use Rattle.related_runs.proofs.BetweenParts.Leaving.{writes_front, writes_back, accesses_grow}
use Rattle.related_runs.proofs.BetweenParts.Marks.{IsDoneOf, HasDone}

own_page : (q : ℕ) → (q == q) ≡ true
own_page q = grind (arith, nat_tests)

own_writes : (t : TxId) (q v : ℕ) (w : Option (ℕ × List ℕ)) → is_some w ≡ true → writes (accesses_of q (script_from t w (Writes t q v ∷ []))) ≡ true
unfolding script_from accesses_of
own_writes t q v None some = absurd (cc)
own_writes t q v (Some x) some =
    ap (λ b. writes (accesses_of q (pick b (step.Write q x.0 x.1 ∷ []) [] ++ []))) (tx_same t)
    ∙ ap (λ b. writes (pick b (Write x.0 x.1 ∷ []) [])) (own_page q)

reply_writes : (t : TxId) (q : ℕ) (w : Option (ℕ × List ℕ)) → is_some w ≡ true → (r : Reply) → IsDoneOf t q r → writes (accesses_of q (script_from t w (told r))) ≡ true
reply_writes t q w some (reply.Done u p v) d =
    ap (λ (x : TxId). writes (accesses_of q (script_from t w (Writes x p v ∷ [])))) d.0
    ∙ ap (λ (x : ℕ). writes (accesses_of q (script_from t w (Writes t x v ∷ [])))) d.1 ∙ own_writes t q v w some
reply_writes t q w some (reply.Begun u) d = absurd d
reply_writes t q w some (reply.Committed u) d = absurd d
reply_writes t q w some (reply.Aborted u) d = absurd d
reply_writes t q w some (reply.Value u p v bytes) d = absurd d
reply_writes t q w some (reply.Waits u p) d = absurd d
reply_writes t q w some reply.Taken d = absurd d
reply_writes t q w some reply.Held d = absurd d
reply_writes t q w some reply.Dropped d = absurd d
reply_writes t q w some reply.Evicted d = absurd d
reply_writes t q w some reply.Flushed d = absurd d
reply_writes t q w some reply.Crashed d = absurd d
reply_writes t q w some reply.Armed d = absurd d
reply_writes t q w some (reply.Cut k) d = absurd d
reply_writes t q w some (reply.Viewed e) d = absurd d
reply_writes t q w some (reply.Installed e) d = absurd d
reply_writes t q w some (reply.Reopened e) d = absurd d
reply_writes t q w some (reply.Serving p) d = absurd d
reply_writes t q w some (reply.Refused r) d = absurd d

-- a reply asks for nothing
told_same : (t : TxId) (w : Option (ℕ × List ℕ)) (r : Reply) → fold (last_write t) w (told r) ≡ w
told_same t w (reply.Done u p v) = refl
told_same t w (reply.Begun u) = refl
told_same t w (reply.Committed u) = refl
told_same t w (reply.Aborted u) = refl
told_same t w (reply.Value u p v bytes) = refl
told_same t w (reply.Waits u p) = refl
told_same t w reply.Taken = refl
told_same t w reply.Held = refl
told_same t w reply.Dropped = refl
told_same t w reply.Evicted = refl
told_same t w reply.Flushed = refl
told_same t w reply.Crashed = refl
told_same t w reply.Armed = refl
told_same t w (reply.Cut k) = refl
told_same t w (reply.Viewed e) = refl
told_same t w (reply.Installed e) = refl
told_same t w (reply.Reopened e) = refl
told_same t w (reply.Serving p) = refl
told_same t w (reply.Refused r) = refl

-- the moments of two parts
parts : (t : TxId) (q : ℕ) (w : Option (ℕ × List ℕ)) (xs ys : List Moment)
    → accesses_of q (script_from t w (xs ++ ys)) ≡ accesses_of q (script_from t w xs) ++ accesses_of q (script_from t (fold (last_write t) w xs) ys)
parts t q w xs ys = ap (accesses_of q) (script_joined t w xs ys) ∙ accesses_joined q (script_from t w xs) (script_from t (fold (last_write t) w xs) ys)

done_told : (t : TxId) (q : ℕ) (w : Option (ℕ × List ℕ)) → is_some w ≡ true → (rs : List Reply) (rest : List Moment) → HasDone t q rs
    → writes (accesses_of q (script_from t w (flat_map told rs ++ rest))) ≡ true
done_told t q w some [] rest h = absurd h
done_told t q w some (r ∷ rs) rest (inl d) =
    ap (λ ms. writes (accesses_of q (script_from t w ms))) (append_assoc (told r) (flat_map told rs) rest)
    ∙ ap writes (parts t q w (told r) (flat_map told rs ++ rest))
    ∙ writes_front (accesses_of q (script_from t w (told r))) (accesses_of q (script_from t (fold (last_write t) w (told r)) (flat_map told rs ++ rest))) (reply_writes t q w some r d)
done_told t q w some (r ∷ rs) rest (inr h) =
    ap (λ ms. writes (accesses_of q (script_from t w ms))) (append_assoc (told r) (flat_map told rs) rest)
    ∙ ap writes (parts t q w (told r) (flat_map told rs ++ rest))
    ∙ writes_back (accesses_of q (script_from t w (told r))) (accesses_of q (script_from t (fold (last_write t) w (told r)) (flat_map told rs ++ rest)))
    (ap (λ (x : Option (ℕ × List ℕ)). writes (accesses_of q (script_from t x (flat_map told rs ++ rest)))) (told_same t w r) ∙ done_told t q w some rs rest h)

-- an entry whose replies grant the write that its transaction asked for last
moments_write : (t : TxId) (q : ℕ) (w : Option (ℕ × List ℕ)) (x : Entry) → is_refused x ≡ false → is_some (fold (last_write t) w (asked x.event)) ≡ true → HasDone t q x.replies
    → writes (accesses_of q (script_from t w (moments_of x))) ≡ true
unfolding moments_of
moments_write t q w x fine some done =
    ap (λ b. writes (accesses_of q (script_from t w (pick b [] (asked x.event) ++ (flat_map told x.replies ++ kept x.halted))))) fine
    ∙ ap writes (parts t q w (asked x.event) (flat_map told x.replies ++ kept x.halted))
    ∙ writes_back (accesses_of q (script_from t w (asked x.event))) (accesses_of q (script_from t (fold (last_write t) w (asked x.event)) (flat_map told x.replies ++ kept x.halted)))
    (done_told t q (fold (last_write t) w (asked x.event)) some x.replies (kept x.halted) done)

pub entry_writes : (t : TxId) (q : ℕ) (old : List Entry) (x : Entry) → is_refused x ≡ false → is_some (fold (last_write t) (fold (last_write t) None (moments old)) (asked x.event)) ≡ true
    → HasDone t q x.replies → writes (accesses_in t q (old ++ x ∷ [])) ≡ true
entry_writes t q old x fine some done =
    ap writes (accesses_grow t q old x)
    ∙ writes_back (accesses_in t q old) (accesses_of q (script_from t (fold (last_write t) None (moments old)) (moments_of x)))
    (moments_write t q (fold (last_write t) None (moments old)) x fine some done)
