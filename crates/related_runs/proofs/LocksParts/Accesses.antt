-- What a trace tells of a transaction's accesses of a page once it grows, and the replies that bring one.
use Rattle.std.proofs.Common.{◌≡◌, ◌≢◌, ◌⊎◌, inl, inr, refl, ap, sym, ◌∙◌, ℕ, ◌==◌, Bool, true, false, List, [], ◌∷◌, ◌++◌, Option, Some, None, is_some, append_assoc, arith}
use Rattle.std.specs.List.{fold, flat_map}
use Rattle.std.proofs.lemmas.Bool.Decides.{nat_tests}
use Rattle.pcl_base.specs.declared.reply.Reply.{Reply}
use Rattle.pcl_base.specs.declared.reply.Reply.TheVariants as reply
use Rattle.pcl_base.specs.declared.script.Step.{Step}
use Rattle.pcl_base.specs.declared.script.Step.TheVariants as step
use Rattle.pcl_base.specs.declared.trace.Entry.{Entry}
use Rattle.pcl_base.specs.declared.tx.TxId.{TxId}
use Rattle.home_laws.proofs.Tests.{tx_same}
use Rattle.run_rules.specs.Script.{Moment, Gets, Writes, asked, is_refused, told, kept, moments_of, moments, last_write, steps_at, script_from, script}
use Rattle.run_rules.specs.Words.{pick}
use Rattle.page_protocol.specs.Bytes.{Access, Read, Write}
use Rattle.page_laws.specs.Moment.Looks.{accesses_of, accesses_in}
use Rattle.page_laws.proofs.MomentParts.Entries.{moments_more}

-- ---- some accesses

pub one_some : (x : Access) (xs : List Access) → x ∷ xs ≢ []
one_some x xs e = cc

pub some_same : (xs ys : List Access) → ys ≡ xs → xs ≢ [] → ys ≢ []
some_same xs ys same some e = some (sym same ∙ e)

pub front_some : (xs ys : List Access) → xs ≢ [] → xs ++ ys ≢ []
front_some [] ys some e = some refl
front_some (x ∷ xs) ys some e = one_some x (xs ++ ys) e

pub back_some : (xs ys : List Access) → ys ≢ [] → xs ++ ys ≢ []
back_some [] ys some e = some e
back_some (x ∷ xs) ys some e = one_some x (xs ++ ys) e

-- ---- a trace that grows

script_joined : (t : TxId) (w : Option (ℕ × List ℕ)) (xs ys : List Moment) → script_from t w (xs ++ ys) ≡ script_from t w xs ++ script_from t (fold (last_write t) w xs) ys
unfolding script_from
script_joined t w [] ys = refl
script_joined t w (m ∷ xs) ys =
    ap (λ s. steps_at t w m ++ s) (script_joined t (last_write t w m) xs ys)
    ∙ sym (append_assoc (steps_at t w m) (script_from t (last_write t w m) xs) (script_from t (fold (last_write t) (last_write t w m) xs) ys))

accesses_joined : (p : ℕ) (xs ys : List Step) → accesses_of p (xs ++ ys) ≡ accesses_of p xs ++ accesses_of p ys
unfolding accesses_of
accesses_joined p [] ys = refl
accesses_joined p (step.Read q bytes ∷ xs) ys = by (q == p) (accesses_joined p xs ys)
  where
    by : (b : Bool) → accesses_of p (xs ++ ys) ≡ accesses_of p xs ++ accesses_of p ys
        → pick b (Read bytes ∷ accesses_of p (xs ++ ys)) (accesses_of p (xs ++ ys)) ≡ pick b (Read bytes ∷ accesses_of p xs) (accesses_of p xs) ++ accesses_of p ys
    by true ih = ap (λ zs. Read bytes ∷ zs) ih
    by false ih = ih
accesses_joined p (step.Write q place bytes ∷ xs) ys = by (q == p) (accesses_joined p xs ys)
  where
    by : (b : Bool) → accesses_of p (xs ++ ys) ≡ accesses_of p xs ++ accesses_of p ys
        → pick b (Write place bytes ∷ accesses_of p (xs ++ ys)) (accesses_of p (xs ++ ys)) ≡ pick b (Write place bytes ∷ accesses_of p xs) (accesses_of p xs) ++ accesses_of p ys
    by true ih = ap (λ zs. Write place bytes ∷ zs) ih
    by false ih = ih

-- the moments of two parts
parts : (t : TxId) (q : ℕ) (w : Option (ℕ × List ℕ)) (xs ys : List Moment)
    → accesses_of q (script_from t w (xs ++ ys)) ≡ accesses_of q (script_from t w xs) ++ accesses_of q (script_from t (fold (last_write t) w xs) ys)
parts t q w xs ys = ap (accesses_of q) (script_joined t w xs ys) ∙ accesses_joined q (script_from t w xs) (script_from t (fold (last_write t) w xs) ys)

-- a further entry brings the accesses of its moments
accesses_grow : (t : TxId) (p : ℕ) (old : List Entry) (x : Entry)
    → accesses_in t p (old ++ x ∷ []) ≡ accesses_in t p old ++ accesses_of p (script_from t (fold (last_write t) None (moments old)) (moments_of x))
unfolding accesses_in
accesses_grow t p old x = ap (λ ms. accesses_of p (script t ms)) (moments_more old x) ∙ parts t p None (moments old) (moments_of x)

-- so what was accessed is accessed
pub ever_accessed : (old : List Entry) (x : Entry) (t : TxId) (p : ℕ) → accesses_in t p old ≢ [] → accesses_in t p (old ++ x ∷ []) ≢ []
ever_accessed old x t p some =
    some_same (accesses_in t p old ++ accesses_of p (script_from t (fold (last_write t) None (moments old)) (moments_of x))) (accesses_in t p (old ++ x ∷ [])) (accesses_grow t p old x)
    (front_some (accesses_in t p old) (accesses_of p (script_from t (fold (last_write t) None (moments old)) (moments_of x))) some)

-- ---- replies

-- a reply that grants the transaction an access of the page; a write is the one that it asked for last
abbrev pub IsGrantOf : TxId → Option (ℕ × List ℕ) → ℕ → Reply → Type 0
IsGrantOf t w q (reply.Value u p v bytes) = (u ≡ t) × (p ≡ q)
IsGrantOf t w q (reply.Done u p v) = ((u ≡ t) × (p ≡ q)) × (is_some w ≡ true)
IsGrantOf t w q _ = ⊥

-- one of some replies does
abbrev pub HasGrant : TxId → Option (ℕ × List ℕ) → ℕ → List Reply → Type 0
HasGrant t w q [] = ⊥
HasGrant t w q (r ∷ rs) = IsGrantOf t w q r ⊎ HasGrant t w q rs

pub grant_front : (t : TxId) (w : Option (ℕ × List ℕ)) (q : ℕ) (rs ss : List Reply) → HasGrant t w q rs → HasGrant t w q (rs ++ ss)
grant_front t w q [] ss h = absurd h
grant_front t w q (r ∷ rs) ss (inl h) = inl h
grant_front t w q (r ∷ rs) ss (inr h) = inr (grant_front t w q rs ss h)

pub grant_last : (t : TxId) (w : Option (ℕ × List ℕ)) (q : ℕ) (rs : List Reply) (r : Reply) → IsGrantOf t w q r → HasGrant t w q (rs ++ r ∷ [])
grant_last t w q [] r h = inl h
grant_last t w q (x ∷ rs) r h = inr (grant_last t w q rs r h)

own_page : (q : ℕ) → (q == q) ≡ true
own_page q = grind (arith, nat_tests)

own_reads : (t : TxId) (q v : ℕ) (bytes : List ℕ) (w : Option (ℕ × List ℕ)) → accesses_of q (script_from t w (Gets t q v bytes ∷ [])) ≡ Read bytes ∷ []
unfolding script_from accesses_of
own_reads t q v bytes w =
    ap (λ b. accesses_of q (pick b (step.Read q bytes ∷ []) [] ++ [])) (tx_same t)
    ∙ ap (λ b. pick b (Read bytes ∷ []) []) (own_page q)

own_writes : (t : TxId) (q v : ℕ) (w : Option (ℕ × List ℕ)) → is_some w ≡ true → accesses_of q (script_from t w (Writes t q v ∷ [])) ≢ []
unfolding script_from accesses_of
own_writes t q v None some = absurd (cc)
own_writes t q v (Some x) some =
    some_same (Write x.0 x.1 ∷ []) (accesses_of q (script_from t (Some x) (Writes t q v ∷ [])))
    (ap (λ b. accesses_of q (pick b (step.Write q x.0 x.1 ∷ []) [] ++ [])) (tx_same t) ∙ ap (λ b. pick b (Write x.0 x.1 ∷ []) []) (own_page q))
    (one_some (Write x.0 x.1) [])

reply_uses : (t : TxId) (q : ℕ) (w : Option (ℕ × List ℕ)) (r : Reply) → IsGrantOf t w q r → accesses_of q (script_from t w (told r)) ≢ []
reply_uses t q w (reply.Value u p v bytes) g =
    some_same (Read bytes ∷ []) (accesses_of q (script_from t w (Gets u p v bytes ∷ [])))
    (ap (λ (x : TxId). accesses_of q (script_from t w (Gets x p v bytes ∷ []))) g.0
    ∙ ap (λ (x : ℕ). accesses_of q (script_from t w (Gets t x v bytes ∷ []))) g.1 ∙ own_reads t q v bytes w)
    (one_some (Read bytes) [])
reply_uses t q w (reply.Done u p v) g =
    some_same (accesses_of q (script_from t w (Writes t q v ∷ []))) (accesses_of q (script_from t w (Writes u p v ∷ [])))
    (ap (λ (x : TxId). accesses_of q (script_from t w (Writes x p v ∷ []))) g.0.0
    ∙ ap (λ (x : ℕ). accesses_of q (script_from t w (Writes t x v ∷ []))) g.0.1)
    (own_writes t q v w g.1)
reply_uses t q w (reply.Begun u) g = absurd g
reply_uses t q w (reply.Committed u) g = absurd g
reply_uses t q w (reply.Aborted u) g = absurd g
reply_uses t q w (reply.Waits u p) g = absurd g
reply_uses t q w reply.Taken g = absurd g
reply_uses t q w reply.Held g = absurd g
reply_uses t q w reply.Dropped g = absurd g
reply_uses t q w reply.Evicted g = absurd g
reply_uses t q w reply.Flushed g = absurd g
reply_uses t q w reply.Crashed g = absurd g
reply_uses t q w reply.Armed g = absurd g
reply_uses t q w (reply.Cut k) g = absurd g
reply_uses t q w (reply.Viewed e) g = absurd g
reply_uses t q w (reply.Installed e) g = absurd g
reply_uses t q w (reply.Reopened e) g = absurd g
reply_uses t q w (reply.Serving p) g = absurd g
reply_uses t q w (reply.Refused r) g = absurd g

-- a reply asks for nothing
told_same : (t : TxId) (w : Option (ℕ × List ℕ)) (r : Reply) → fold (last_write t) w (told r) ≡ w
told_same t w (reply.Done u p v) = refl
told_same t w (reply.Begun u) = refl
told_same t w (reply.Committed u) = refl
told_same t w (reply.Aborted u) = refl
told_same t w (reply.Value u p v bytes) = refl
told_same t w (reply.Waits u p) = refl
told_same t w reply.Taken = refl
told_same t w reply.Held = refl
told_same t w reply.Dropped = refl
told_same t w reply.Evicted = refl
told_same t w reply.Flushed = refl
told_same t w reply.Crashed = refl
told_same t w reply.Armed = refl
told_same t w (reply.Cut k) = refl
told_same t w (reply.Viewed e) = refl
told_same t w (reply.Installed e) = refl
told_same t w (reply.Reopened e) = refl
told_same t w (reply.Serving p) = refl
told_same t w (reply.Refused r) = refl

-- two parts of which the first tells an access, or the second
front_part : (t : TxId) (q : ℕ) (w : Option (ℕ × List ℕ)) (xs ys : List Moment) → accesses_of q (script_from t w xs) ≢ [] → accesses_of q (script_from t w (xs ++ ys)) ≢ []
front_part t q w xs ys some =
    some_same (accesses_of q (script_from t w xs) ++ accesses_of q (script_from t (fold (last_write t) w xs) ys)) (accesses_of q (script_from t w (xs ++ ys))) (parts t q w xs ys)
    (front_some (accesses_of q (script_from t w xs)) (accesses_of q (script_from t (fold (last_write t) w xs) ys)) some)

back_part : (t : TxId) (q : ℕ) (w : Option (ℕ × List ℕ)) (xs ys : List Moment) → accesses_of q (script_from t (fold (last_write t) w xs) ys) ≢ [] → accesses_of q (script_from t w (xs ++ ys)) ≢ []
back_part t q w xs ys some =
    some_same (accesses_of q (script_from t w xs) ++ accesses_of q (script_from t (fold (last_write t) w xs) ys)) (accesses_of q (script_from t w (xs ++ ys))) (parts t q w xs ys)
    (back_some (accesses_of q (script_from t w xs)) (accesses_of q (script_from t (fold (last_write t) w xs) ys)) some)

replies_use : (t : TxId) (q : ℕ) (w : Option (ℕ × List ℕ)) (rs : List Reply) (rest : List Moment) → HasGrant t w q rs → accesses_of q (script_from t w (flat_map told rs ++ rest)) ≢ []
replies_use t q w [] rest h = absurd h
replies_use t q w (r ∷ rs) rest (inl g) =
    some_same (accesses_of q (script_from t w (told r ++ (flat_map told rs ++ rest)))) (accesses_of q (script_from t w ((told r ++ flat_map told rs) ++ rest)))
    (ap (λ ms. accesses_of q (script_from t w ms)) (append_assoc (told r) (flat_map told rs) rest))
    (front_part t q w (told r) (flat_map told rs ++ rest) (reply_uses t q w r g))
replies_use t q w (r ∷ rs) rest (inr h) =
    some_same (accesses_of q (script_from t w (told r ++ (flat_map told rs ++ rest)))) (accesses_of q (script_from t w ((told r ++ flat_map told rs) ++ rest)))
    (ap (λ ms. accesses_of q (script_from t w ms)) (append_assoc (told r) (flat_map told rs) rest))
    (back_part t q w (told r) (flat_map told rs ++ rest)
    (some_same (accesses_of q (script_from t w (flat_map told rs ++ rest))) (accesses_of q (script_from t (fold (last_write t) w (told r)) (flat_map told rs ++ rest)))
    (ap (λ (x : Option (ℕ × List ℕ)). accesses_of q (script_from t x (flat_map told rs ++ rest))) (told_same t w r))
    (replies_use t q w rs rest h)))

-- an entry whose replies grant an access, of which a write is the one that its transaction asked for last
moments_use : (t : TxId) (q : ℕ) (w : Option (ℕ × List ℕ)) (x : Entry) → is_refused x ≡ false → HasGrant t (fold (last_write t) w (asked x.event)) q x.replies
    → accesses_of q (script_from t w (moments_of x)) ≢ []
unfolding moments_of
moments_use t q w x fine grants =
    some_same (accesses_of q (script_from t w (asked x.event ++ (flat_map told x.replies ++ kept x.halted)))) (accesses_of q (script_from t w (moments_of x)))
    (ap (λ b. accesses_of q (script_from t w (pick b [] (asked x.event) ++ (flat_map told x.replies ++ kept x.halted)))) fine)
    (back_part t q w (asked x.event) (flat_map told x.replies ++ kept x.halted)
    (replies_use t q (fold (last_write t) w (asked x.event)) x.replies (kept x.halted) grants))

pub entry_accesses : (t : TxId) (q : ℕ) (old : List Entry) (x : Entry) → is_refused x ≡ false
    → HasGrant t (fold (last_write t) (fold (last_write t) None (moments old)) (asked x.event)) q x.replies → accesses_in t q (old ++ x ∷ []) ≢ []
entry_accesses t q old x fine grants =
    some_same (accesses_in t q old ++ accesses_of q (script_from t (fold (last_write t) None (moments old)) (moments_of x))) (accesses_in t q (old ++ x ∷ [])) (accesses_grow t q old x)
    (back_some (accesses_in t q old) (accesses_of q (script_from t (fold (last_write t) None (moments old)) (moments_of x)))
    (moments_use t q (fold (last_write t) None (moments old)) x fine grants))
