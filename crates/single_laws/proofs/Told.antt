-- What an entry of one event adds to what is known, and to the scripts.
use Rattle.std.proofs.Common.{◌≡◌, refl, ap, ◌∙◌, ℕ, ◌+◌, ◌<◌, Bool, true, false, ◌&&◌, List, [], ◌∷◌, ◌++◌, None, Some, is_some, Ok, arith}
use Rattle.std.specs.Prelude.{Option}
use Rattle.std.specs.List.{fold}
use Rattle.std.specs.Result.{result_ok}
use Rattle.std.proofs.lemmas.Bool.Decides.{nat_tests}
use Rattle.std.proofs.lemmas.List.{append-nil}
use Rattle.std.proofs.lemmas.List.Sums.{fold-append}
use Rattle.pcl_base.specs.declared.tx.TxId.{TxId}
use Rattle.pcl_base.specs.declared.event.Event.{Event}
use Rattle.pcl_base.specs.declared.event.Event.TheVariants as event
use Rattle.pcl_base.specs.declared.reply.Reason.{Reason}
use Rattle.pcl_base.specs.declared.reply.Reply.{Reply}
use Rattle.pcl_base.specs.declared.reply.Reply.TheVariants as reply
use Rattle.pcl_base.specs.declared.script.Step.{Step}
use Rattle.pcl_base.specs.declared.script.Step.TheVariants as step
use Rattle.pcl_base.specs.declared.trace.Entry.{Entry}
use Rattle.pcl_base.specs.declared.trace.Sent.{Sent}
use Rattle.run_rules.specs.Words.{pick, same_tx}
use Rattle.run_rules.specs.Base.{Base}
use Rattle.run_rules.specs.Script.{Moment, Asks, Gets, Writes, Commits, moments_of, last_write, steps_at, write_step, script}
use Rattle.run_rules.specs.Running.{run_script}
use Rattle.run_rules.specs.Now.{Story, after, after_entry, ran_on, first_fault}
use Rattle.run_rules.specs.Serial.{is_serial}
use Rattle.run_rules.specs.Fresh.{is_current, is_current_in, all_current, is_fresh}
use Rattle.run_rules.specs.Ledger.{Ledger, actor}
use Rattle.run_rules.specs.Taking.{taken_of}
use Rattle.run_rules.specs.Causes.{before_sends, still_wait}
use Rattle.run_rules.specs.Account.{all_sends, is_lost, lose_if, heard, after_sends, after_entry as account_entry, go_on, account_from}
use Rattle.run_laws.specs.Laws.{pending}
use Rattle.run_laws.proofs.Scripts.{script-grows}
use Rattle.home_laws.proofs.Tests.{tx_same}

-- the entry of an event that no stop ended
abbrev pub entry : Event → List Reply → List Sent → Entry
entry e rs sent = record { event = e; replies = rs; sent = sent; halted = None }

-- an entry is fresh and serial, and what is known after it has a property
pub record Fits (s : Story) (x : Entry) (next : Story → Type 0) : Type 0 where
  pub fresh : is_fresh s x ≡ true
  pub serial : is_serial s x ≡ true
  pub then : next (after_entry s x)

-- the transaction of node 0 with a serial
abbrev pub tx : ℕ → TxId
tx serial = record { node = 0; born = 1; serial = serial }

pub tx_other : (k n : ℕ) → n < k → same_tx (tx k) (tx n) ≡ false
tx_other k n h = grind (arith, nat_tests)

-- ---- entries

-- a reply that tells of no access and no commit point
pub refused_fits : (s : Story) (base : Base) (e : Event) (r : Reason) (sent : List Sent) (next : Story → Type 0) → s.base ≡ Some base → next s → Fits s (entry e (reply.Refused r ∷ []) sent) next
unfolding moments_of all_current
refused_fits s base e r sent next known go = record { fresh = refl; serial = ap is_some known; then = go }

pub begun_fits : (s : Story) (base : Base) (n : ℕ) (t : TxId) (sent : List Sent) (next : Story → Type 0) → s.base ≡ Some base → next s → Fits s (entry (event.Begin n) (reply.Begun t ∷ []) sent) next
unfolding moments_of all_current
begun_fits s base n t sent next known go = record { fresh = refl; serial = ap is_some known; then = go }

pub aborted_fits : (s : Story) (base : Base) (t : TxId) (sent : List Sent) (next : Story → Type 0) → s.base ≡ Some base → next s → Fits s (entry (event.Abort t) (reply.Aborted t ∷ []) sent) next
unfolding moments_of all_current
aborted_fits s base t sent next known go = record { fresh = refl; serial = ap is_some known; then = go }

pub evicted_fits : (s : Story) (base : Base) (n p : ℕ) (sent : List Sent) (next : Story → Type 0) → s.base ≡ Some base → next s → Fits s (entry (event.Evict n p) (reply.Evicted ∷ []) sent) next
unfolding moments_of all_current
evicted_fits s base n p sent next known go = record { fresh = refl; serial = ap is_some known; then = go }

pub flushed_fits : (s : Story) (base : Base) (n p : ℕ) (sent : List Sent) (next : Story → Type 0) → s.base ≡ Some base → next s → Fits s (entry (event.Flush n p) (reply.Flushed ∷ []) sent) next
unfolding moments_of all_current
flushed_fits s base n p sent next known go = record { fresh = refl; serial = ap is_some known; then = go }

pub cut_fits : (s : Story) (base : Base) (m n : ℕ) (sent : List Sent) (next : Story → Type 0) → s.base ≡ Some base → next s → Fits s (entry (event.Cut m) (reply.Cut n ∷ []) sent) next
unfolding moments_of all_current
cut_fits s base m n sent next known go = record { fresh = refl; serial = ap is_some known; then = go }

-- a granted access behind the moment in which it was asked for
fresh_two : (s : Story) (base : Base) (u : TxId) (w : Option (ℕ × List ℕ)) (m : Moment) → s.base ≡ Some base
    → is_current base (s.seen ++ Asks u w ∷ []) m ≡ true → all_current s (Asks u w ∷ m ∷ []) ≡ true
unfolding all_current after
fresh_two s base u w m known current =
    ap (λ (o : Option Base). is_current_in o s.seen (Asks u w) && (is_current_in o (s.seen ++ Asks u w ∷ []) m && true)) known
    ∙ ap (λ (x : Bool). x && true) current

-- what is known after it
abbrev pub seen_read : Story → TxId → ℕ → ℕ → List ℕ → Story
seen_read s t p v bytes = record s { seen = (s.seen ++ Asks t None ∷ []) ++ Gets t p v bytes ∷ [] }

abbrev pub seen_write : Story → TxId → ℕ → ℕ → ℕ × List ℕ → Story
seen_write s t p v w = record s { seen = (s.seen ++ Asks t (Some w) ∷ []) ++ Writes t p v ∷ [] }

pub read_fits : (s : Story) (base : Base) (t : TxId) (p v : ℕ) (bytes : List ℕ) (sent : List Sent) (next : Story → Type 0) → s.base ≡ Some base
    → is_current base (s.seen ++ Asks t None ∷ []) (Gets t p v bytes) ≡ true → next (seen_read s t p v bytes)
    → Fits s (entry (event.Read t p) (reply.Value t p v bytes ∷ []) sent) next
unfolding moments_of after
read_fits s base t p v bytes sent next known current go = record { fresh = fresh_two s base t None _ known current; serial = ap is_some known; then = go }

pub write_fits : (s : Story) (base : Base) (t : TxId) (p v : ℕ) (w : ℕ × List ℕ) (sent : List Sent) (next : Story → Type 0) → s.base ≡ Some base
    → is_current base (s.seen ++ Asks t (Some w) ∷ []) (Writes t p v) ≡ true → next (seen_write s t p v w)
    → Fits s (entry (event.Write t p w.0 w.1) (reply.Done t p v ∷ []) sent) next
unfolding moments_of after
write_fits s base t p v w sent next known current go = record { fresh = fresh_two s base t (Some w) _ known current; serial = ap is_some known; then = go }

-- a commit point
abbrev pub seen_commit : Story → TxId → Story
seen_commit s t = record { seen = s.seen ++ Commits t ∷ []; base = ran_on s.base (script t s.seen) }

fresh_commit : (s : Story) (base : Base) (t : TxId) → s.base ≡ Some base → all_current s (Commits t ∷ []) ≡ true
unfolding all_current
fresh_commit s base t known = ap (λ (o : Option Base). is_current_in o s.seen (Commits t) && true) known

pub ran_some : (o : Option Base) (base out : Base) (steps : List Step) → o ≡ Some base → run_script base steps ≡ Ok out → ran_on o steps ≡ Some out
unfolding ran_on
ran_some o base out steps e ran = ap (λ (x : Option Base). ran_on x steps) e ∙ ap result_ok ran

pub commit_fits : (s : Story) (base out : Base) (t : TxId) (sent : List Sent) (next : Story → Type 0) → s.base ≡ Some base → run_script base (script t s.seen) ≡ Ok out
    → next (seen_commit s t) → Fits s (entry (event.Commit t) (reply.Committed t ∷ []) sent) next
unfolding moments_of after
commit_fits s base out t sent next known ran go =
    record { fresh = fresh_commit s base t known; serial = ap is_some (ran_some s.base base out (script t s.seen) known ran); then = go }

-- ---- scripts

pub script-asks : (t u : TxId) (w : Option (ℕ × List ℕ)) (ms : List Moment) → script t (ms ++ Asks u w ∷ []) ≡ script t ms
script-asks t u w ms = script-grows t ms (Asks u w) ∙ append-nil (script t ms)

pending-asks : (t u : TxId) (w : Option (ℕ × List ℕ)) (ms : List Moment) → pending t (ms ++ Asks u w ∷ []) ≡ pick (same_tx t u) w (pending t ms)
pending-asks t u w ms = fold-append (last_write t) None ms (Asks u w ∷ [])

pub script-reads : (t u : TxId) (b : Bool) (ms : List Moment) (p v : ℕ) (bytes : List ℕ) → same_tx t u ≡ b
    → script t ((ms ++ Asks u None ∷ []) ++ Gets u p v bytes ∷ []) ≡ script t ms ++ pick b (step.Read p bytes ∷ []) []
script-reads t u b ms p v bytes same =
    script-grows t (ms ++ Asks u None ∷ []) (Gets u p v bytes)
    ∙ ap (λ (x : Bool). script t (ms ++ Asks u None ∷ []) ++ pick x (step.Read p bytes ∷ []) []) same
    ∙ ap (λ (steps : List Step). steps ++ pick b (step.Read p bytes ∷ []) []) (script-asks t u None ms)

pub own_read : (t : TxId) (ms : List Moment) (p v : ℕ) (bytes : List ℕ) → script t ((ms ++ Asks t None ∷ []) ++ Gets t p v bytes ∷ []) ≡ script t ms ++ step.Read p bytes ∷ []
own_read t ms p v bytes = script-reads t t true ms p v bytes (tx_same t)

pub other_read : (t u : TxId) (ms : List Moment) (p v : ℕ) (bytes : List ℕ) → same_tx t u ≡ false → script t ((ms ++ Asks u None ∷ []) ++ Gets u p v bytes ∷ []) ≡ script t ms
other_read t u ms p v bytes other = script-reads t u false ms p v bytes other ∙ append-nil (script t ms)

pub own_write : (t : TxId) (ms : List Moment) (p v : ℕ) (w : ℕ × List ℕ) → script t ((ms ++ Asks t (Some w) ∷ []) ++ Writes t p v ∷ []) ≡ script t ms ++ step.Write p w.0 w.1 ∷ []
own_write t ms p v w =
    script-grows t (ms ++ Asks t (Some w) ∷ []) (Writes t p v)
    ∙ ap (λ (x : Option (ℕ × List ℕ)). script t (ms ++ Asks t (Some w) ∷ []) ++ steps_at t x (Writes t p v))
    (pending-asks t t (Some w) ms ∙ ap (λ (x : Bool). pick x (Some w) (pending t ms)) (tx_same t))
    ∙ ap (λ (x : Bool). script t (ms ++ Asks t (Some w) ∷ []) ++ pick x (step.Write p w.0 w.1 ∷ []) []) (tx_same t)
    ∙ ap (λ (steps : List Step). steps ++ step.Write p w.0 w.1 ∷ []) (script-asks t t (Some w) ms)

pub other_write : (t u : TxId) (ms : List Moment) (p v : ℕ) (w : ℕ × List ℕ) → same_tx t u ≡ false → script t ((ms ++ Asks u (Some w) ∷ []) ++ Writes u p v ∷ []) ≡ script t ms
other_write t u ms p v w other =
    script-grows t (ms ++ Asks u (Some w) ∷ []) (Writes u p v)
    ∙ ap (λ (x : Bool). script t (ms ++ Asks u (Some w) ∷ []) ++ pick x (write_step p (pending t (ms ++ Asks u (Some w) ∷ []))) []) other
    ∙ append-nil (script t (ms ++ Asks u (Some w) ∷ []))
    ∙ script-asks t u (Some w) ms

pub script-commits : (t u : TxId) (ms : List Moment) → script t (ms ++ Commits u ∷ []) ≡ script t ms
script-commits t u ms = script-grows t ms (Commits u) ∙ append-nil (script t ms)

-- ---- traces

-- an entry that sends nothing has nothing to account for
quiet_entry : (x : Entry) (l : Ledger) → x.sent ≡ [] → (m : Ledger) × (account_entry x l ≡ Some m)
unfolding account_entry all_sends
quiet_entry x l quiet = by (actor x.event) refl
  where
    by : (n : Option ℕ) → actor x.event ≡ n → (m : Ledger) × (account_entry x l ≡ Some m)
    by None e = (
      lose_if (is_lost x) (actor x.event) (heard x l),
      ap (λ xs. after_sends x (all_sends x (taken_of x.event x.replies l) (actor x.event) xs (before_sends (heard x l)))) quiet
          ∙ ap (λ o. after_sends x (still_wait o (before_sends (heard x l)))) e,
    )
    by (Some n) e = (
      lose_if (is_lost x) (actor x.event) (heard x l),
      ap (λ xs. after_sends x (all_sends x (taken_of x.event x.replies l) (actor x.event) xs (before_sends (heard x l)))) quiet
          ∙ ap (λ o. after_sends x (still_wait o (before_sends (heard x l)))) e,
    )

pub account_more : (n : ℕ) (l : Ledger) (es : List Entry) (x : Entry) → account_from n es l ≡ None → x.sent ≡ [] → account_from n (es ++ x ∷ []) l ≡ None
unfolding account_from
account_more n l [] x none quiet = let m = quiet_entry x l quiet in ap (λ o. go_on n o (account_from (n + 1) [])) m.1
account_more n l (e ∷ es) x none quiet = by (account_entry e l) none (λ m rest. account_more (n + 1) m es x rest quiet)
  where
    by : (o : Option Ledger) → go_on n o (account_from (n + 1) es) ≡ None → ((m : Ledger) → account_from (n + 1) es m ≡ None → account_from (n + 1) (es ++ x ∷ []) m ≡ None)
        → go_on n o (account_from (n + 1) (es ++ x ∷ [])) ≡ None
    by None none go = absurd (cc)
    by (Some m) none go = go m none

-- what is known after some entries
abbrev pub known_after : Story → List Entry → Story
known_after s es = fold after_entry s es

pub known_more : (s : Story) (es : List Entry) (x : Entry) → known_after s (es ++ x ∷ []) ≡ after_entry (known_after s es) x
known_more s es x = fold-append after_entry s es (x ∷ [])

-- one entry more that passes
pub no_fault_more : (passes : Story → Entry → Bool) (n : ℕ) (s : Story) (es : List Entry) (x : Entry) → first_fault passes n s es ≡ None → passes (known_after s es) x ≡ true
    → first_fault passes n s (es ++ x ∷ []) ≡ None
unfolding first_fault
no_fault_more passes n s [] x none ok = ap (λ (b : Bool). pick b None (Some n)) ok
no_fault_more passes n s (e ∷ es) x none ok = by (passes s e) none (λ rest. no_fault_more passes (n + 1) (after_entry s e) es x rest ok)
  where
    by : (b : Bool) → pick b (first_fault passes (n + 1) (after_entry s e) es) (Some n) ≡ None
        → (first_fault passes (n + 1) (after_entry s e) es ≡ None → first_fault passes (n + 1) (after_entry s e) (es ++ x ∷ []) ≡ None)
        → pick b (first_fault passes (n + 1) (after_entry s e) (es ++ x ∷ [])) (Some n) ≡ None
    by true none go = go none
    by false none go = absurd (cc)
