-- What a transaction asked for last, over a trace with a further entry.
use Rattle.std.proofs.Common.{◌≡◌, refl, ap, sym, ◌∙◌, ℕ, Bool, true, false, List, [], ◌∷◌, ◌++◌, ◌||◌, append-nil, Option, Some, None}
use Rattle.std.specs.List.{AllByRecursion, list_any, flat_map}
use Rattle.pcl_base.specs.declared.reply.Reply.{Reply}
use Rattle.pcl_base.specs.declared.reply.Reply.TheVariants as reply
use Rattle.pcl_base.specs.declared.trace.Entry.{Entry}
use Rattle.pcl_base.specs.declared.trace.Halt.{Halt}
use Rattle.pcl_base.specs.declared.tx.TxId.{TxId}
use Rattle.run_rules.specs.Script.{Moment, is_refusal, is_refused, asked, told, kept_tx, kept, moments_of, moments, last_write}
use Rattle.run_rules.specs.Words.{pick}
use Rattle.cluster_laws.specs.Ask.Asked.{asked_last}

module _ (t : TxId) where
  asked_more : (w : Option (ℕ × List ℕ)) (ms ns : List Moment) → asked_last t w (ms ++ ns) ≡ asked_last t (asked_last t w ms) ns
  unfolding asked_last
  asked_more w [] ns = refl
  asked_more w (m ∷ ms) ns = asked_more (last_write t w m) ms ns

  -- replies and halts ask for nothing
  told_one : (w : Option (ℕ × List ℕ)) (r : Reply) → asked_last t w (told r) ≡ w
  unfolding asked_last
  told_one w (reply.Begun tx) = refl
  told_one w (reply.Committed tx) = refl
  told_one w (reply.Aborted tx) = refl
  told_one w (reply.Value tx page version bytes) = refl
  told_one w (reply.Done tx page version) = refl
  told_one w (reply.Waits tx page) = refl
  told_one w reply.Taken = refl
  told_one w reply.Held = refl
  told_one w reply.Dropped = refl
  told_one w reply.Evicted = refl
  told_one w reply.Flushed = refl
  told_one w reply.Crashed = refl
  told_one w reply.Armed = refl
  told_one w (reply.Cut n) = refl
  told_one w (reply.Viewed e) = refl
  told_one w (reply.Installed e) = refl
  told_one w (reply.Reopened e) = refl
  told_one w (reply.Serving q) = refl
  told_one w (reply.Refused r) = refl

  told_none : (w : Option (ℕ × List ℕ)) (rs : List Reply) → asked_last t w (flat_map told rs) ≡ w
  unfolding asked_last
  told_none w [] = refl
  told_none w (r ∷ rs) = asked_more w (told r) (flat_map told rs) ∙ ap (λ x. asked_last t x (flat_map told rs)) (told_one w r) ∙ told_none w rs

  halted_none : (w : Option (ℕ × List ℕ)) (h : Option Halt) → asked_last t w (kept h) ≡ w
  unfolding asked_last
  halted_none w None = refl
  halted_none w (Some h) = by h.kept
    where
      by : (o : Option TxId) → asked_last t w (kept_tx o) ≡ w
      by None = refl
      by (Some u) = refl

  -- what an entry asks for
  abbrev pub asks_of : Option (ℕ × List ℕ) → Entry → Option (ℕ × List ℕ)
  asks_of w x = asked_last t w (pick (is_refused x) [] (asked x.event))

  entry_asks : (w : Option (ℕ × List ℕ)) (x : Entry) → asked_last t w (moments_of x) ≡ asks_of w x
  unfolding moments_of
  entry_asks w x =
      asked_more w (pick (is_refused x) [] (asked x.event)) (flat_map told x.replies ++ kept x.halted)
      ∙ asked_more (asks_of w x) (flat_map told x.replies) (kept x.halted)
      ∙ ap (λ y. asked_last t y (kept x.halted)) (told_none (asks_of w x) x.replies)
      ∙ halted_none (asks_of w x) x.halted

  trace_from : (w : Option (ℕ × List ℕ)) (es : List Entry) (x : Entry) → asked_last t w (moments (es ++ x ∷ [])) ≡ asks_of (asked_last t w (moments es)) x
  unfolding moments asked_last
  trace_from w [] x = ap (asked_last t w) (append-nil (moments_of x)) ∙ entry_asks w x
  trace_from w (e ∷ es) x =
      asked_more w (moments_of e) (moments (es ++ x ∷ []))
      ∙ trace_from (asked_last t w (moments_of e)) es x
      ∙ ap (λ y. asks_of y x) (sym (asked_more w (moments_of e) (moments es)))

  -- what it asked for last once a further entry stands in the trace
  pub trace_more : (es : List Entry) (x : Entry) → asked_last t None (moments (es ++ x ∷ [])) ≡ asks_of (asked_last t None (moments es)) x
  trace_more es x = trace_from None es x

  pub asks_nothing : (w : Option (ℕ × List ℕ)) (x : Entry) → asked x.event ≡ [] → asks_of w x ≡ w
  unfolding asked_last
  asks_nothing w x none = ap (λ ms. asked_last t w (pick (is_refused x) [] ms)) none ∙ by (is_refused x)
    where
      by : (b : Bool) → asked_last t w (pick b [] []) ≡ w
      by true = refl
      by false = refl

  pub asks_refused : (w : Option (ℕ × List ℕ)) (x : Entry) → is_refused x ≡ true → asks_of w x ≡ w
  unfolding asked_last
  asks_refused w x refused = ap (λ b. asked_last t w (pick b [] (asked x.event))) refused

-- replies without a refusal
pub none_refused : (rs : List Reply) → AllByRecursion (λ (r : Reply). is_refusal r ≡ false) rs → list_any is_refusal rs ≡ false
none_refused [] all = refl
none_refused (r ∷ rs) all = by (is_refusal r) all.0 (none_refused rs all.1)
  where
    by : (b : Bool) → b ≡ false → list_any is_refusal rs ≡ false → b || list_any is_refusal rs ≡ false
    by true e rest = absurd (cc)
    by false e rest = rest
