-- Which moments an entry adds.
use Rattle.std.proofs.Common.{◌≡◌, refl, sym, ap, ◌∙◌, Bool, true, false, ◌||◌, List, [], ◌∷◌, ◌++◌, None, append-nil, append_assoc}
use Rattle.std.specs.List.{flat_map, list_any}
use Rattle.std.proofs.lemmas.Grind.{flat_map-append}
use Rattle.std.proofs.lemmas.List.Folds.{list_any-append}
use Rattle.pcl_base.specs.declared.event.Event.{Event}
use Rattle.pcl_base.specs.declared.reply.Reply.{Reply}
use Rattle.pcl_base.specs.declared.trace.Entry.{Entry}
use Rattle.pcl_base.specs.declared.trace.Sent.{Sent}
use Rattle.run_rules.specs.Script.{asked, told, kept_tx, is_refusal, moments_of, moments}
use Rattle.run_rules.specs.Words.{pick}
use Rattle.page_laws.specs.Moment.Looks.{with_entry}
use Rattle.page_laws.specs.Moment.Adds.{EventAdds, ReplyAdds, SentAddsNothing, RefusedAddsNothing, HaltAdds}

-- the moments of a trace with an entry more
pub moments_more : (trace : List Entry) (x : Entry) → moments (trace ++ x ∷ []) ≡ moments trace ++ moments_of x
unfolding moments
moments_more [] x = append-nil (moments_of x)
moments_more (e ∷ trace) x = ap (λ ms. moments_of e ++ ms) (moments_more trace x) ∙ sym (append_assoc (moments_of e) (moments trace) (moments_of x))

pub event_adds_law : EventAdds
unfolding moments_of
event_adds_law trace e sent = moments_more trace _ ∙ ap (λ ms. moments trace ++ ms) (append-nil (asked e))

-- an entry tells the same with other messages
sent_same : (e : Event) (rs : List Reply) (sent more : List Sent)
    → moments_of (record { event = e; replies = rs; sent = more; halted = None }) ≡ moments_of (record { event = e; replies = rs; sent = sent; halted = None })
unfolding moments_of
sent_same e rs sent more = refl

pub sent_adds_nothing_law : SentAddsNothing
sent_adds_nothing_law trace e rs sent more =
    moments_more trace _ ∙ ap (λ ms. moments trace ++ ms) (sent_same e rs sent more) ∙ sym (moments_more trace _)
    ∙ sym (append-nil (moments (with_entry trace e rs sent)))

no_more : (b : Bool) → (b || false) ≡ b
no_more true = refl
no_more false = refl

-- an entry with a further reply
reply_more : (e : Event) (rs : List Reply) (r : Reply) (sent more : List Sent) → is_refusal r ≡ false
    → moments_of (record { event = e; replies = rs ++ r ∷ []; sent = more; halted = None }) ≡ moments_of (record { event = e; replies = rs; sent = sent; halted = None }) ++ told r
unfolding moments_of
reply_more e rs r sent more goes =
    let refused : list_any is_refusal (rs ++ r ∷ []) ≡ list_any is_refusal rs = list_any-append is_refusal rs (r ∷ []) ∙ ap (λ b. list_any is_refusal rs || (b || false)) goes ∙ no_more (list_any is_refusal rs) in
    let tells : flat_map told (rs ++ r ∷ []) ≡ flat_map told rs ++ told r = flat_map-append told rs (r ∷ []) ∙ ap (λ ms. flat_map told rs ++ ms) (append-nil (told r)) in
    ap (λ b. pick b [] (asked e) ++ (flat_map told (rs ++ r ∷ []) ++ [])) refused
    ∙ ap (λ ms. pick (list_any is_refusal rs) [] (asked e) ++ ms) (append-nil (flat_map told (rs ++ r ∷ [])) ∙ tells)
    ∙ sym (append_assoc (pick (list_any is_refusal rs) [] (asked e)) (flat_map told rs) (told r))
    ∙ ap (λ ms. (pick (list_any is_refusal rs) [] (asked e) ++ ms) ++ told r) (sym (append-nil (flat_map told rs)))

pub reply_adds_law : ReplyAdds
reply_adds_law trace e rs r sent more goes =
    moments_more trace _ ∙ ap (λ ms. moments trace ++ ms) (reply_more e rs r sent more goes)
    ∙ sym (append_assoc (moments trace) (moments_of (record { event = e; replies = rs; sent = sent; halted = None })) (told r))
    ∙ ap (λ ms. ms ++ told r) (sym (moments_more trace _))

pub refused_adds_nothing_law : RefusedAddsNothing
unfolding moments_of
refused_adds_nothing_law trace e reason sent = moments_more trace _

pub halt_adds_law : HaltAdds
unfolding moments_of
halt_adds_law trace e halt sent more =
    moments_more trace _
    ∙ sym (append_assoc (moments trace) (asked e) (kept_tx halt.kept))
    ∙ ap (λ ms. (moments trace ++ ms) ++ kept_tx halt.kept) (sym (append-nil (asked e)))
    ∙ ap (λ ms. ms ++ kept_tx halt.kept) (sym (moments_more trace _))
