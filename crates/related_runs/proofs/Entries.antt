-- An entry more keeps a trace fresh: where it grants nothing, and where what it grants is right in the end.
use Rattle.std.proofs.Common.{◌≡◌, sym, ap, ◌∙◌, Bool, true, false, List, [], ◌∷◌, ◌++◌, Option, Some, None, append-nil, append_assoc}
use Rattle.std.specs.Prelude.{IfSome}
use Rattle.std.specs.List.{AllByRecursion, flat_map}
use Rattle.std.proofs.lemmas.Grind.{flat_map-append}
use Rattle.pcl_base.specs.Limits.{Sizes}
use Rattle.pcl_base.specs.declared.event.Event.{Event}
use Rattle.pcl_base.specs.declared.event.Event.TheVariants as event
use Rattle.pcl_base.specs.declared.reply.Reply.{Reply}
use Rattle.pcl_base.specs.declared.reply.Reply.TheVariants as reply
use Rattle.pcl_base.specs.declared.trace.Entry.{Entry}
use Rattle.pcl_base.specs.declared.trace.Halt.{Halt}
use Rattle.pcl_base.specs.declared.tx.TxId.{TxId}
use Rattle.run_rules.specs.Base.{Base}
use Rattle.run_rules.specs.Fresh.{IsFresh}
use Rattle.run_rules.specs.Now.{now}
use Rattle.run_rules.specs.Script.{Moment, asked, is_refused, told, kept_tx, kept, moments_of, moments}
use Rattle.run_rules.specs.Words.{pick}
use Rattle.node_laws.proofs.Lists.{all_append}
use Rattle.page_laws.proofs.MomentParts.Entries.{moments_more}
use Rattle.related_runs.specs.Granted.{Given, given_by, is_commit}
use Rattle.related_runs.proofs.Traces.{IsQuiet, IsRightAt, IsRightIn, fresh_then}

-- what is asked for, and a commit point of a halt, are no granted accesses
pub quiet_asked : (e : Event) (b : Bool) → AllByRecursion IsQuiet (pick b [] (asked e))
quiet_asked e true = tt
quiet_asked (event.Begin n) false = tt
quiet_asked (event.Read t p) false = (tt, tt)
quiet_asked (event.Write t p place bytes) false = (tt, tt)
quiet_asked (event.Commit t) false = tt
quiet_asked (event.Abort t) false = tt
quiet_asked (event.Deliver from to) false = tt
quiet_asked (event.Evict n p) false = tt
quiet_asked (event.Flush n p) false = tt
quiet_asked (event.Crash n) false = tt
quiet_asked (event.View live owners) false = tt
quiet_asked (event.Install n) false = tt
quiet_asked event.Reopen false = tt
quiet_asked (event.Arm n call stops) false = tt
quiet_asked (event.Cut n) false = tt

pub quiet_halt : (o : Option Halt) → AllByRecursion IsQuiet (kept o)
quiet_halt None = tt
quiet_halt (Some h) = by h.kept
  where
    by : (o : Option TxId) → AllByRecursion IsQuiet (kept_tx o)
    by None = tt
    by (Some t) = (tt, tt)

-- replies that grant nothing
quiet_told : (r : Reply) → given_by r ≡ None → AllByRecursion IsQuiet (told r)
quiet_told (reply.Begun t) none = tt
quiet_told (reply.Committed t) none = (tt, tt)
quiet_told (reply.Aborted t) none = tt
quiet_told (reply.Value t p v bytes) none = absurd (cc)
quiet_told (reply.Done t p v) none = absurd (cc)
quiet_told (reply.Waits t p) none = tt
quiet_told reply.Taken none = tt
quiet_told reply.Held none = tt
quiet_told reply.Dropped none = tt
quiet_told reply.Evicted none = tt
quiet_told reply.Flushed none = tt
quiet_told reply.Crashed none = tt
quiet_told reply.Armed none = tt
quiet_told (reply.Cut count) none = tt
quiet_told (reply.Viewed epoch) none = tt
quiet_told (reply.Installed epoch) none = tt
quiet_told (reply.Reopened epoch) none = tt
quiet_told (reply.Serving q) none = tt
quiet_told (reply.Refused reason) none = tt

quiet_replies : (rs : List Reply) → AllByRecursion (λ r. given_by r ≡ None) rs → AllByRecursion IsQuiet (flat_map told rs)
quiet_replies [] none = tt
quiet_replies (r ∷ rs) none = all_append IsQuiet (told r) (flat_map told rs) (quiet_told r none.0) (quiet_replies rs none.1)

-- what a reply grants is right in the end, and it tells no commit point
abbrev pub IsRightReply : Option Base → List Moment → Reply → Type 0
IsRightReply o all r = IfSome (given_by r) (λ (g : Given). IsRightAt o all g.tx g.page g.version) × (is_commit r ≡ false)

right_told : (o : Option Base) (all : List Moment) (r : Reply) → IsRightReply o all r → AllByRecursion (IsRightIn o all) (told r)
right_told o all (reply.Begun t) right = tt
right_told o all (reply.Committed t) right = let bad = right.1 in absurd (cc)
right_told o all (reply.Aborted t) right = tt
right_told o all (reply.Value t p v bytes) right = (right.0, tt)
right_told o all (reply.Done t p v) right = (right.0, tt)
right_told o all (reply.Waits t p) right = tt
right_told o all reply.Taken right = tt
right_told o all reply.Held right = tt
right_told o all reply.Dropped right = tt
right_told o all reply.Evicted right = tt
right_told o all reply.Flushed right = tt
right_told o all reply.Crashed right = tt
right_told o all reply.Armed right = tt
right_told o all (reply.Cut count) right = tt
right_told o all (reply.Viewed epoch) right = tt
right_told o all (reply.Installed epoch) right = tt
right_told o all (reply.Reopened epoch) right = tt
right_told o all (reply.Serving q) right = tt
right_told o all (reply.Refused reason) right = tt

right_replies : (o : Option Base) (all : List Moment) (rs : List Reply) → AllByRecursion (IsRightReply o all) rs → AllByRecursion (IsRightIn o all) (flat_map told rs)
right_replies o all [] right = tt
right_replies o all (r ∷ rs) right = all_append (IsRightIn o all) (told r) (flat_map told rs) (right_told o all r right.0) (right_replies o all rs right.1)

quiet_moments : (x : Entry) → AllByRecursion (λ r. given_by r ≡ None) x.replies → AllByRecursion IsQuiet (moments_of x)
unfolding moments_of
quiet_moments x none =
    all_append IsQuiet (pick (is_refused x) [] (asked x.event)) (flat_map told x.replies ++ kept x.halted) (quiet_asked x.event (is_refused x))
    (all_append IsQuiet (flat_map told x.replies) (kept x.halted) (quiet_replies x.replies none) (quiet_halt x.halted))

-- an entry that grants nothing
pub quiet_entry : (c : Sizes) (old : List Entry) (x : Entry) → AllByRecursion (λ r. given_by r ≡ None) x.replies → IsFresh c old → IsFresh c (old ++ x ∷ [])
quiet_entry c old x none fresh =
    fresh_then c old (old ++ x ∷ []) (moments_of x) [] (moments_more old x ∙ ap (λ ms. moments old ++ ms) (sym (append-nil (moments_of x)))) (quiet_moments x none) tt fresh

-- an entry that grants accesses behind replies that don't
pub granted_entry : (c : Sizes) (old : List Entry) (x : Entry) (front rest : List Reply) → x.replies ≡ front ++ rest → x.halted ≡ None → AllByRecursion (λ r. given_by r ≡ None) front
    → AllByRecursion (IsRightReply (now c (old ++ x ∷ [])) (moments (old ++ x ∷ []))) rest → IsFresh c old → IsFresh c (old ++ x ∷ [])
unfolding moments_of
granted_entry c old x front rest joined none quiet right fresh =
    fresh_then c old (old ++ x ∷ []) (ask ++ flat_map told front) (flat_map told rest) (moments_more old x ∙ ap (λ ms. moments old ++ ms) parts)
    (all_append IsQuiet ask (flat_map told front) (quiet_asked x.event (is_refused x)) (quiet_replies front quiet))
    (right_replies (now c (old ++ x ∷ [])) (moments (old ++ x ∷ [])) rest right) fresh
  where
    ask : List Moment
    ask = pick (is_refused x) [] (asked x.event)

    parts : moments_of x ≡ (ask ++ flat_map told front) ++ flat_map told rest
    parts =
        ap (λ rs. ask ++ (flat_map told rs ++ kept x.halted)) joined
        ∙ ap (λ h. ask ++ (flat_map told (front ++ rest) ++ kept h)) none
        ∙ ap (λ ms. ask ++ ms) (append-nil (flat_map told (front ++ rest)) ∙ flat_map-append told front rest)
        ∙ sym (append_assoc ask (flat_map told front) (flat_map told rest))
