-- No count of a trace is above the number of its entries, with their replies, messages and halts.
use Rattle.std.proofs.Common.{ℕ, ◌+◌, ◌≤◌, ◌<◌, ◌^◌, Bool, List, [], ◌∷◌, append-nil, length, Option, Some, None, arith, sym, subst}
use Rattle.std.specs.Prelude.{count_by, sum_by, is_some}
use Rattle.std.proofs.lemmas.List.Sums.{count_by-le-length, sum_by-cons}
use Rattle.pcl_base.specs.declared.reply.Reply.{Reply}
use Rattle.pcl_base.specs.declared.reply.Reply.TheVariants.{Committed}
use Rattle.pcl_base.specs.declared.trace.Entry.{Entry}
use Rattle.pcl_base.specs.declared.trace.Halt.{Halt}
use Rattle.pcl_base.specs.declared.trace.Note.{Note}
use Rattle.pcl_base.specs.declared.trace.Sent.{Sent}
use Rattle.pcl_base.specs.declared.tx.TxId.{TxId}
use Rattle.text_rules.specs.TraceText.{reply_commits, kept_commits, halt_commits, entry_commits}
use Rattle.text_rules.specs.Totals.{Totals, totals_of, replies_at, sends_at, is_begun, is_value, is_done, is_waiting, is_aborted, is_held, is_dropped, is_refused, is_request, is_grant, is_release, is_revocation, is_return, is_report, has_image}
use Rattle.msg_account.specs.Counting.{plus, IsCountable}
use Rattle.replay.specs.ReaderView.{AreWithin}

-- the items of an entry: its replies, its messages, its halt and itself
abbrev pub items_of : Entry → ℕ
items_of e = length e.replies + length e.sent + 2

few_replies : (test : Reply → Bool) (e : Entry) → replies_at test (e ∷ []) ≤ items_of e
few_replies test e =
    let few = count_by-le-length test e.replies in
    subst (λ l. count_by test l ≤ items_of e) (sym (append-nil e.replies)) (omega (arith, few))

few_sends : (test : Note → Bool) (e : Entry) → sends_at test (e ∷ []) ≤ items_of e
few_sends test e =
    let few = count_by-le-length (λ (s : Sent). test s.note) e.sent in
    subst (λ l. count_by (λ (s : Sent). test s.note) l ≤ items_of e) (sym (append-nil e.sent)) (omega (arith, few))

one_commit : (r : Reply) → reply_commits r ≤ 1
one_commit (Committed t) = omega arith
one_commit _ = omega arith

reply_points : (rs : List Reply) → sum_by reply_commits rs ≤ length rs
reply_points [] = omega arith
reply_points (r ∷ rs) =
    let one = one_commit r in
    let rest = reply_points rs in
    subst (λ n. n ≤ length (r ∷ rs)) (sym (sum_by-cons reply_commits r rs)) (omega (arith, one, rest))

kept_point : (t : Option TxId) → kept_commits t ≤ 1
kept_point (Some t) = omega arith
kept_point None = omega arith

halt_point : (h : Option Halt) → halt_commits h ≤ 1
halt_point (Some h) = kept_point h.kept
halt_point None = omega arith

few_points : (e : Entry) → sum_by entry_commits (e ∷ []) ≤ items_of e
few_points e =
    let replies = reply_points e.replies in
    let halt = halt_point e.halted in
    subst (λ n. n ≤ items_of e) (sym (sum_by-cons entry_commits e [])) (omega (arith, replies, halt))

few_halts : (e : Entry) → count_by (λ (x : Entry). is_some x.halted) (e ∷ []) ≤ items_of e
few_halts e = let few = count_by-le-length (λ (x : Entry). is_some x.halted) (e ∷ []) in omega (arith, few)

-- the counts of one entry
pub one_within : (e : Entry) → AreWithin (totals_of (e ∷ [])) (items_of e)
one_within e =
    record {
      events = omega arith;
      begun = few_replies is_begun e;
      values = few_replies is_value e;
      done = few_replies is_done e;
      waits = few_replies is_waiting e;
      committed = few_points e;
      aborted = few_replies is_aborted e;
      held = few_replies is_held e;
      dropped = few_replies is_dropped e;
      refused = few_replies is_refused e;
      halted = few_halts e;
      requests = few_sends is_request e;
      grants = few_sends is_grant e;
      releases = few_sends is_release e;
      revokes = few_sends is_revocation e;
      returns = few_sends is_return e;
      reports = few_sends is_report e;
      images = few_sends has_image e;
    }

-- no entry counts nothing
pub none_within : AreWithin (totals_of []) 0
none_within =
    record {
      events = omega arith;
      begun = omega arith;
      values = omega arith;
      done = omega arith;
      waits = omega arith;
      committed = omega arith;
      aborted = omega arith;
      held = omega arith;
      dropped = omega arith;
      refused = omega arith;
      halted = omega arith;
      requests = omega arith;
      grants = omega arith;
      releases = omega arith;
      revokes = omega arith;
      returns = omega arith;
      reports = omega arith;
      images = omega arith;
    }

add_le : (a b m n : ℕ) → a ≤ m → b ≤ n → a + b ≤ m + n
add_le a b m n h k = omega (arith, h, k)

-- the counts of one entry more
pub more_within : (t u : Totals) (m n : ℕ) → AreWithin t m → AreWithin u n → AreWithin (plus t u) (m + n)
more_within t u m n h k =
    record {
      events = add_le t.events u.events m n h.events k.events;
      begun = add_le t.begun u.begun m n h.begun k.begun;
      values = add_le t.values u.values m n h.values k.values;
      done = add_le t.done u.done m n h.done k.done;
      waits = add_le t.waits u.waits m n h.waits k.waits;
      committed = add_le t.committed u.committed m n h.committed k.committed;
      aborted = add_le t.aborted u.aborted m n h.aborted k.aborted;
      held = add_le t.held u.held m n h.held k.held;
      dropped = add_le t.dropped u.dropped m n h.dropped k.dropped;
      refused = add_le t.refused u.refused m n h.refused k.refused;
      halted = add_le t.halted u.halted m n h.halted k.halted;
      requests = add_le t.requests u.requests m n h.requests k.requests;
      grants = add_le t.grants u.grants m n h.grants k.grants;
      releases = add_le t.releases u.releases m n h.releases k.releases;
      revokes = add_le t.revokes u.revokes m n h.revokes k.revokes;
      returns = add_le t.returns u.returns m n h.returns k.returns;
      reports = add_le t.reports u.reports m n h.reports k.reports;
      images = add_le t.images u.images m n h.images k.images;
    }

below : (a n : ℕ) → a ≤ n → n < 2 ^ 64 → a < 2 ^ 64
below a n h k = omega (arith, h, k)

-- counts that are within a number of 64 bits
pub within_countable : (t : Totals) (n : ℕ) → AreWithin t n → n < 2 ^ 64 → IsCountable t
within_countable t n h k =
    record {
      events = below t.events n h.events k;
      begun = below t.begun n h.begun k;
      values = below t.values n h.values k;
      done = below t.done n h.done k;
      waits = below t.waits n h.waits k;
      committed = below t.committed n h.committed k;
      aborted = below t.aborted n h.aborted k;
      held = below t.held n h.held k;
      dropped = below t.dropped n h.dropped k;
      refused = below t.refused n h.refused k;
      halted = below t.halted n h.halted k;
      requests = below t.requests n h.requests k;
      grants = below t.grants n h.grants k;
      releases = below t.releases n h.releases k;
      revokes = below t.revokes n h.revokes k;
      returns = below t.returns n h.returns k;
      reports = below t.reports n h.reports k;
      images = below t.images n h.images k;
    }
