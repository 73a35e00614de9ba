-- One send and one entry more.
use Rattle.std.proofs.Common.{◌≡◌, ℕ, ◌+◌, ◌<◌, ◌≤◌, List, ◌∷◌, ap, ◌∙◌, sym, suc, length, drop, drop-cons, get_or, arith, Option, Some, None, Bool, true, false}
use Rattle.std.proofs.lemmas.List.{drop_all}
use Rattle.pcl_base.specs.declared.trace.Entry.{Entry}
use Rattle.pcl_base.specs.declared.trace.Sent.{Sent}
use Rattle.run_rules.specs.Ledger.{Ledger}
use Rattle.run_rules.specs.Taking.{From}
use Rattle.run_rules.specs.Causes.{Sending, still_wait}
use Rattle.run_rules.specs.Account.{one_send, all_sends, and_then, after_entry, account_from, go_on}
use Rattle.msg_account.specs.Kept.{Once, sending, if_caused, if_left}

-- what is left of a list begins with the next item
drop_one : {X : Type 0} (xs : List X) (i : ℕ) (x : X) → i < length xs → x ≡ get_or xs i x → drop i xs ≡ x ∷ drop (i + 1) xs
drop_one xs i x within is =
    let next : suc i ≡ i + 1 = omega arith in
    drop-cons xs i x within ∙ ap (λ y. y ∷ drop (suc i) xs) (sym is) ∙ ap (λ k. x ∷ drop k xs) next

-- a send with a cause
pub sent_one : (e : Entry) (f : Option From) (n : Option ℕ) (xs : List Sent) (i : ℕ) (x : Sent) (s : Sending) (b : Bool) (l : Ledger) (o : Once)
    → i < length xs → x ≡ get_or xs i x → b ≡ true → if_caused b l o ≡ one_send e f n x s
    → all_sends e f n (drop (i + 1) xs) (sending l o) ≡ all_sends e f n (drop i xs) s
unfolding all_sends
sent_one e f n xs i x s b l o within is yes-b h =
    sym
    (ap (λ ys. all_sends e f n ys s) (drop_one xs i x within is)
    ∙ ap (λ r. and_then r (all_sends e f n (drop (i + 1) xs))) (sym h ∙ ap (λ k. if_caused k l o) yes-b))

-- a send without one
pub sent_none : (e : Entry) (f : Option From) (n : Option ℕ) (xs : List Sent) (i : ℕ) (x : Sent) (s : Sending) (b : Bool) (l : Ledger) (o : Once)
    → i < length xs → x ≡ get_or xs i x → b ≡ false → if_caused b l o ≡ one_send e f n x s → None ≡ all_sends e f n (drop i xs) s
unfolding all_sends
sent_none e f n xs i x s b l o within is no-b h =
    sym
    (ap (λ ys. all_sends e f n ys s) (drop_one xs i x within is)
    ∙ ap (λ r. and_then r (all_sends e f n (drop (i + 1) xs))) (sym h ∙ ap (λ k. if_caused k l o) no-b))

-- all were sent
pub sent_all : (e : Entry) (f : Option From) (n : Option ℕ) (xs : List Sent) (i : ℕ) (s : Sending) → length xs ≤ i → all_sends e f n (drop i xs) s ≡ still_wait n s
unfolding all_sends
sent_all e f n xs i s past = ap (λ ys. all_sends e f n ys s) (drop_all i xs past)

pub entered_one : (n : ℕ) (es : List Entry) (i : ℕ) (e : Entry) (l k : Ledger) (b : Bool) → i < length es → e ≡ get_or es i e → b ≡ true
    → if_left b k ≡ after_entry e l → account_from (n + 1) (drop (i + 1) es) k ≡ account_from n (drop i es) l
unfolding account_from
entered_one n es i e l k b within is yes-b h =
    sym
    (ap (λ xs. account_from n xs l) (drop_one es i e within is)
    ∙ ap (λ r. go_on n r (account_from (n + 1) (drop (i + 1) es))) (sym h ∙ ap (λ c. if_left c k) yes-b))

pub entered_none : (n : ℕ) (es : List Entry) (i : ℕ) (e : Entry) (l k : Ledger) (b : Bool) → i < length es → e ≡ get_or es i e → b ≡ false
    → if_left b k ≡ after_entry e l → Some n ≡ account_from n (drop i es) l
unfolding account_from
entered_none n es i e l k b within is no-b h =
    sym
    (ap (λ xs. account_from n xs l) (drop_one es i e within is)
    ∙ ap (λ r. go_on n r (account_from (n + 1) (drop (i + 1) es))) (sym h ∙ ap (λ c. if_left c k) no-b))

pub entered_all : (n : ℕ) (es : List Entry) (i : ℕ) (l : Ledger) → length es ≤ i → None ≡ account_from n (drop i es) l
unfolding account_from
entered_all n es i l past = sym (ap (λ xs. account_from n xs l) (drop_all i es past))
