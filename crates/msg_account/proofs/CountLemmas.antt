-- How counts add up.
use Rattle.std.proofs.Common.{◌≡◌, Bool, ◌+◌, List, ◌++◌, ap, ◌∙◌, flat_map}
use Rattle.std.proofs.lemmas.List.{length-append}
use Rattle.std.proofs.lemmas.List.Sums.{sum_by-append}
use Rattle.std.proofs.lemmas.Grind.{flat_map-append}
use Rattle.std.specs.Prelude.{count_by, cond, is_some}
use Rattle.pcl_base.specs.declared.reply.Reply.{Reply}
use Rattle.pcl_base.specs.declared.trace.Entry.{Entry}
use Rattle.pcl_base.specs.declared.trace.Note.{Note}
use Rattle.pcl_base.specs.declared.trace.Sent.{Sent}
use Rattle.text_rules.specs.TraceText.{entry_commits}
use Rattle.text_rules.specs.Totals.{totals_of, replies_at, sends_at, is_begun, is_value, is_done, is_waiting, is_aborted, is_held, is_dropped, is_refused, is_request, is_grant, is_release, is_revocation, is_return, is_report, has_image}
use Rattle.msg_account.specs.Counting.{plus}

replies_append : (test : Reply → Bool) (xs ys : List Entry) → replies_at test (xs ++ ys) ≡ replies_at test xs + replies_at test ys
replies_append test xs ys =
    ap (count_by test) (flat_map-append (λ (e : Entry). e.replies) xs ys)
    ∙ sum_by-append (λ r. cond (test r) 1 0) (flat_map (λ (e : Entry). e.replies) xs) (flat_map (λ (e : Entry). e.replies) ys)

sends_append : (test : Note → Bool) (xs ys : List Entry) → sends_at test (xs ++ ys) ≡ sends_at test xs + sends_at test ys
sends_append test xs ys =
    ap (count_by (λ (s : Sent). test s.note)) (flat_map-append (λ (e : Entry). e.sent) xs ys)
    ∙ sum_by-append (λ (s : Sent). cond (test s.note) 1 0) (flat_map (λ (e : Entry). e.sent) xs) (flat_map (λ (e : Entry). e.sent) ys)

-- the totals of two traces in a row
pub totals_append : (xs ys : List Entry) → totals_of (xs ++ ys) ≡ plus (totals_of xs) (totals_of ys)
totals_append xs ys =
    let events = length-append xs ys in
    let begun = replies_append is_begun xs ys in
    let values = replies_append is_value xs ys in
    let done = replies_append is_done xs ys in
    let waits = replies_append is_waiting xs ys in
    let committed = sum_by-append entry_commits xs ys in
    let aborted = replies_append is_aborted xs ys in
    let held = replies_append is_held xs ys in
    let dropped = replies_append is_dropped xs ys in
    let refused = replies_append is_refused xs ys in
    let halted = sum_by-append (λ (e : Entry). cond (is_some e.halted) 1 0) xs ys in
    let requests = sends_append is_request xs ys in
    let grants = sends_append is_grant xs ys in
    let releases = sends_append is_release xs ys in
    let revokes = sends_append is_revocation xs ys in
    let returns = sends_append is_return xs ys in
    let reports = sends_append is_report xs ys in
    let images = sends_append has_image xs ys in
    cc
