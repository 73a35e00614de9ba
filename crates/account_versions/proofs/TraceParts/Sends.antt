-- Sends with their causes leave the granted writes and the versions of a ledger.
use Rattle.std.proofs.Common.{◌≡◌, refl, ap, sym, ◌∙◌, ℕ, ◌==◌, ◌&&◌, not, Bool, true, false, List, [], ◌∷◌, ◌++◌, Option, Some, None}
use Rattle.std.specs.List.{list_all}
use Rattle.pcl_base.specs.Limits.{Sizes}
use Rattle.pcl_base.specs.declared.trace.Entry.{Entry}
use Rattle.pcl_base.specs.declared.trace.Note.{Note}
use Rattle.pcl_base.specs.declared.trace.Note.TheVariants as note
use Rattle.pcl_base.specs.declared.trace.Sent.{Sent}
use Rattle.run_rules.specs.Words.{pick}
use Rattle.run_rules.specs.Ledger.{Ledger, first_ledger, view_at, is_up, lose, link_at, put_link, actor}
use Rattle.run_rules.specs.Taking.{From, taken_of}
use Rattle.run_rules.specs.Causes.{Sending, before_sends, still_wait, writer_waits}
use Rattle.run_rules.specs.Account.{cause, on_link, then_on_link, cause_if, one_send, all_sends, is_lost, lose_if, heard, after_sends, after_entry}
use Rattle.run_rules.specs.Account as account
use Rattle.run_rules.specs.Script.{moments_of, moments}
use Rattle.account_relation.specs.Ledgers.{and_then, ledger_after, Leaves}
use Rattle.account_relation.proofs.Sending.{because_is}
use Rattle.account_versions.proofs.TraceParts.Cores.{core_of, cores_after, cores_joined, heard_core}

-- each cause
abbrev Keeps : Sending → Sending → Type 0
Keeps s y = core_of y.ledger ≡ core_of s.ledger

cause_core : (e : Entry) (f : Option From) (n to : ℕ) (x : Note) (s y : Sending) → cause e f n to x s ≡ Some y → Keeps s y
cause_core e f n to (note.Request t p m have) s y is = because_is (Keeps s) _ _ y is refl
cause_core e f n to (note.Grant t p m right v copy) s y is = because_is (Keeps s) _ _ y is refl
cause_core e f n to (note.Release t p change) s y is = because_is (Keeps s) _ _ y is refl
cause_core e f n to (note.Revoke p) s y is = because_is (Keeps s) _ _ y is refl
cause_core e f n to (note.Return p readers) s y is = because_is (Keeps s) _ _ y is refl
cause_core e f n to (note.Report q waits locks rights) s y is = because_is (Keeps s) _ _ y is refl

-- a send goes on its link
link_core : (x : Sent) (l : Ledger) → core_of (on_link x l) ≡ core_of l
link_core x l = by (is_up l x.to)
  where
    by : (b : Bool) → core_of (pick b (record l { links = put_link l.links x.from x.to (link_at l.links x.from x.to ++ x.note ∷ []) }) l) ≡ core_of l
    by true = refl
    by false = refl

send_core : (e : Entry) (f : Option From) (o : Option ℕ) (x : Sent) (s y : Sending) → one_send e f o x s ≡ Some y → Keeps s y
unfolding one_send
send_core e f None x s y is = absurd (cc)
send_core e f (Some n) x s y is = by ((x.from == n && not (x.to == n)) && x.epoch == (view_at s.ledger n).epoch) is
  where
    linked : (o : Option Sending) → cause e f n x.to x.note s ≡ o → then_on_link x o ≡ Some y → Keeps s y
    linked None c is = absurd (cc)
    linked (Some z) c is =
        let same : record z { ledger = on_link x z.ledger } ≡ y = cc in
        ap (λ (w : Sending). core_of w.ledger) (sym same) ∙ link_core x z.ledger ∙ cause_core e f n x.to x.note s z c

    by : (b : Bool) → cause_if b e f n x s ≡ Some y → Keeps s y
    by false is = absurd (cc)
    by true is = linked (cause e f n x.to x.note s) refl is

still_core : (o : Option ℕ) (s y : Sending) → still_wait o s ≡ Some y → Keeps s y
still_core None s y is = let same : s ≡ y = cc in ap (λ (w : Sending). core_of w.ledger) (sym same)
still_core (Some n) s y is = because_is (Keeps s) (list_all (writer_waits s.ledger n) s.revoked) s y is refl

pub sends_core : (e : Entry) (f : Option From) (o : Option ℕ) (xs : List Sent) (s y : Sending) → all_sends e f o xs s ≡ Some y → Keeps s y
unfolding all_sends
sends_core e f o [] s y is = still_core o s y is
sends_core e f o (x ∷ xs) s y is = by (one_send e f o x s) refl is (λ z. sends_core e f o xs z y)
  where
    by : (r : Option Sending) → one_send e f o x s ≡ r → account.and_then r (all_sends e f o xs) ≡ Some y → ((z : Sending) → all_sends e f o xs z ≡ Some y → Keeps z y) → Keeps s y
    by None first is rest = absurd (cc)
    by (Some z) first is rest = rest z is ∙ send_core e f o x s z first

-- a node that is lost
lost_core : (b : Bool) (o : Option ℕ) (l : Ledger) → core_of (lose_if b o l) ≡ core_of l
unfolding lose
lost_core true None l = refl
lost_core true (Some n) l = refl
lost_core false o l = refl

-- ---- an entry and a trace

pub entry_core : (x : Entry) (l m : Ledger) → after_entry x l ≡ Some m → core_of m ≡ cores_after (core_of l) (moments_of x)
unfolding after_entry
entry_core x l m is = by (all_sends x (taken_of x.event x.replies l) (actor x.event) x.sent (before_sends (heard x l))) refl is
  where
    by : (o : Option Sending) → all_sends x (taken_of x.event x.replies l) (actor x.event) x.sent (before_sends (heard x l)) ≡ o → after_sends x o ≡ Some m
        → core_of m ≡ cores_after (core_of l) (moments_of x)
    by None sent is = absurd (cc)
    by (Some y) sent is =
        let same : lose_if (is_lost x) (actor x.event) y.ledger ≡ m = cc in
        ap core_of (sym same) ∙ lost_core (is_lost x) (actor x.event) y.ledger
        ∙ sends_core x (taken_of x.event x.replies l) (actor x.event) x.sent (before_sends (heard x l)) y sent ∙ heard_core x l

trace_core : (es : List Entry) (l m : Ledger) → ledger_after es l ≡ Some m → core_of m ≡ cores_after (core_of l) (moments es)
unfolding ledger_after moments
trace_core [] l m is = let same : l ≡ m = cc in ap core_of (sym same)
trace_core (x ∷ es) l m is = by (after_entry x l) refl is (λ k. trace_core es k m)
  where
    by : (o : Option Ledger) → after_entry x l ≡ o → and_then o (ledger_after es) ≡ Some m → ((k : Ledger) → ledger_after es k ≡ Some m → core_of m ≡ cores_after (core_of k) (moments es))
        → core_of m ≡ cores_after (core_of l) (moments_of x ++ moments es)
    by None first is rest = absurd (cc)
    by (Some k) first is rest =
        rest k is ∙ ap (λ j. cores_after j (moments es)) (entry_core x l k first) ∙ sym (cores_joined (core_of l) (moments_of x) (moments es))

-- a ledger has what the moments of its trace make of the first one
pub leaves_core : (c : Sizes) (trace : List Entry) (l : Ledger) → Leaves c trace l → core_of l ≡ cores_after (core_of (first_ledger c)) (moments trace)
leaves_core c trace l leaves = trace_core trace (first_ledger c) l leaves
