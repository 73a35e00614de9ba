-- What an event has that the rules don't refuse.
use Rattle.std.proofs.Common.{◌≡◌, ℕ, ◌<◌, ◌==◌, not, nat_le, Bool, true, false, List, length, Option, Some, None, is_some, refl, arith}
use Rattle.std.proofs.lemmas.Bool.Decides.{nat_tests}
use Rattle.pcl_base.specs.declared.reply.Reason.{Reason}
use Rattle.pcl_base.specs.declared.reply.Reason.TheVariants as reason
use Rattle.pcl_base.specs.declared.tx.TxId.{TxId}
use Rattle.node_rules.specs.EndRule.{at_version_end}
use Rattle.node_rules.specs.OpenTxs.{pending_of}
use Rattle.node_rules.specs.NodeState.{NodeState, Abort, Begin, Commit, Evict, Flush, Read, Write, is_serving, table_of}
use Rattle.node_rules.specs.Refusals.{refuse_if, refusal, refusal_in_view, no_copy, not_open, waits}
use Rattle.home_laws.specs.Refused.{access_refusal}
use Rattle.home_laws.specs.RefusedEnds.{commit_refusal}
use Rattle.home.specs.Answers.{evict_refusal, flush_refusal}

pub not_refused : (c : Bool) (r : Reason) (further : Option Reason) → refuse_if c r further ≡ None → (c ≡ false) × (further ≡ None)
not_refused true r further e = absurd (cc)
not_refused false r further e = (refl, e)

is_true : (b : Bool) → not b ≡ false → b ≡ true
is_true true e = refl
is_true false e = absurd (cc)

-- a transaction can begin: the node has a view, and there is a serial
pub begin_view : (n : NodeState) → refusal n Begin ≡ None → is_some n.view ≡ true
unfolding refusal
begin_view n none = is_true (is_some n.view) (not_refused (not (is_some n.view)) reason.NotInView (refusal_in_view n Begin) none).0

begin_rest : (n : NodeState) → refusal n Begin ≡ None → ((n.home.txs.last == 4294967295) ≡ false) × (nat_le 1024 (length n.home.txs.txs) ≡ false)
unfolding refusal
begin_rest n none =
    let first = (not_refused (not (is_some n.view)) reason.NotInView (refusal_in_view n Begin) none).1 in
    let many = nat_le 1024 (length n.home.txs.txs) in
    let second = not_refused (n.home.txs.last == 4294967295) reason.SerialEnd (refuse_if many reason.TooMany None) first in
    (second.0, (not_refused many reason.TooMany None second.1).0)

pub begin_serial : (n : NodeState) → refusal n Begin ≡ None → n.home.txs.last ≡ 4294967295 → ⊥
begin_serial n none last = let e = (begin_rest n none).0 in grind (arith, nat_tests)

pub begin_few : (n : NodeState) → refusal n Begin ≡ None → length n.home.txs.txs < 1024
begin_few n none = let e = (begin_rest n none).1 in grind (arith, nat_tests)

-- a copy can leave, or can be written
pub evict_allowed : (n : NodeState) (p : ℕ) → refusal n (Evict p) ≡ None → evict_refusal p n.home ≡ None
unfolding refusal
evict_allowed n p none = (not_refused (not (is_some n.view)) reason.NotInView (evict_refusal p n.home) none).1

pub flush_allowed : (n : NodeState) (p : ℕ) → refusal n (Flush p) ≡ None → flush_refusal p n.home ≡ None
unfolding refusal
flush_allowed n p none =
    let first = (not_refused (not (is_some n.view)) reason.NotInView (refusal_in_view n (Flush p)) none).1 in
    let serves = refuse_if (not (is_serving (table_of n p))) reason.NotOwner None in
    let second = not_refused (nat_le n.home.config.pages p) reason.NoPage (refuse_if (no_copy n p) reason.NoCopy serves) first in
    let third = not_refused (no_copy n p) reason.NoCopy serves second.1 in
    λ i. refuse_if (second.0 i) reason.NoPage (refuse_if (third.0 i) reason.NoCopy None)

-- a transaction can be given up, or committed: the node has a view, and it is open
pub abort_view : (n : NodeState) (t : TxId) → refusal n (Abort t) ≡ None → is_some n.view ≡ true
unfolding refusal
abort_view n t none = is_true (is_some n.view) (not_refused (not (is_some n.view)) reason.NotInView (refusal_in_view n (Abort t)) none).0

pub commit_view : (n : NodeState) (t : TxId) → refusal n (Commit t) ≡ None → is_some n.view ≡ true
unfolding refusal
commit_view n t none = is_true (is_some n.view) (not_refused (not (is_some n.view)) reason.NotInView (refusal_in_view n (Commit t)) none).0

none_of : {X : Type 0} (o : Option X) → is_some o ≡ false → o ≡ None
none_of None e = refl
none_of (Some x) e = absurd (cc)

commit_rest : (n : NodeState) (t : TxId) → refusal n (Commit t) ≡ None → (waits n t ≡ false) × (at_version_end n.home t ≡ false)
unfolding refusal
commit_rest n t none =
    let last = refuse_if (at_version_end n.home t) reason.VersionEnd None in
    let first = (not_refused (not (is_some n.view)) reason.NotInView (refusal_in_view n (Commit t)) none).1 in
    let second = not_refused (not_open n t) reason.NoTx (refuse_if (waits n t) reason.TxWaits last) first in
    let third = not_refused (waits n t) reason.TxWaits last second.1 in
    (third.0, (not_refused (at_version_end n.home t) reason.VersionEnd None third.1).0)

-- it doesn't wait, and wrote no page at the last version
pub commit_idle : (n : NodeState) (t : TxId) → refusal n (Commit t) ≡ None → pending_of n.home.txs t ≡ None
commit_idle n t none = none_of (pending_of n.home.txs t) (commit_rest n t none).0

pub commit_last : (n : NodeState) (t : TxId) → refusal n (Commit t) ≡ None → at_version_end n.home t ≡ false
commit_last n t none = (commit_rest n t none).1

pub commit_allowed : (n : NodeState) (t : TxId) → refusal n (Commit t) ≡ None → commit_refusal t n.home ≡ None
unfolding refusal commit_refusal
commit_allowed n t none = (not_refused (not (is_some n.view)) reason.NotInView (refusal_in_view n (Commit t)) none).1

-- a page can be read, or written
pub read_allowed : (n : NodeState) (t : TxId) (p : ℕ) → refusal n (Read t p) ≡ None → (is_some n.view ≡ true) × (access_refusal (record { tx = t; page = p; write = None }) n.home ≡ None)
unfolding refusal access_refusal
read_allowed n t p none =
    let both = not_refused (not (is_some n.view)) reason.NotInView (refusal_in_view n (Read t p)) none in
    (is_true (is_some n.view) both.0, both.1)

pub write_allowed : (n : NodeState) (t : TxId) (p place : ℕ) (bytes : List ℕ) → refusal n (Write t p place bytes) ≡ None
    → (is_some n.view ≡ true) × (access_refusal (record { tx = t; page = p; write = Some (place, bytes) }) n.home ≡ None)
unfolding refusal access_refusal
write_allowed n t p place bytes none =
    let both = not_refused (not (is_some n.view)) reason.NotInView (refusal_in_view n (Write t p place bytes)) none in
    (is_true (is_some n.view) both.0, both.1)
