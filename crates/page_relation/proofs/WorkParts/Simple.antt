-- Events that keep the relation: evictions, flushes, cuts, and messages that aren't taken.
use Rattle.std.proofs.Common.{◌≡◌, refl, ap, sym, subst, ◌∙◌, ℕ, ◌<◌, ◌==◌, not, Bool, true, false, List, [], ◌∷◌, ◌++◌, length, Option, Some, None, is_some, arith}
use Rattle.std.proofs.lemmas.Bool.Decides.{nat_tests}
use Rattle.std.proofs.lemmas.List.Sums.{fold-append}
use Rattle.pcl_base.specs.Limits.{Sizes}
use Rattle.pcl_base.specs.declared.event.Event.{Event}
use Rattle.pcl_base.specs.declared.lock.Verdict.{Verdict}
use Rattle.pcl_base.specs.declared.lock.Verdict.TheVariants as verdict
use Rattle.pcl_base.specs.declared.message.Message.{Message}
use Rattle.pcl_base.specs.declared.reply.Reason.{Reason}
use Rattle.pcl_base.specs.declared.reply.Reason.TheVariants as reason
use Rattle.pcl_base.specs.declared.reply.Reply.{Reply}
use Rattle.pcl_base.specs.declared.reply.Reply.TheVariants as reply
use Rattle.pcl_base.specs.declared.trace.Entry.{Entry}
use Rattle.pcl_base.specs.declared.tx.TxId.{TxId}
use Rattle.run_rules.specs.Disk.{Disk, log_at}
use Rattle.run_rules.specs.Script.{is_refusal, told}
use Rattle.node_rules.specs.BufferRule.{Slot, slot_at, pinned_slot, pinned}
use Rattle.node_rules.specs.CutRule.{cuttable}
use Rattle.node_rules.specs.DiskCalls.{CutLog, done, all_done}
use Rattle.node_rules.specs.NodeState.{NodeState, NodeEvent, Deliver, Evict, Flush, Cut, number_of}
use Rattle.node_rules.specs.NodeStep.{by_verdict, cut_front, cut_if, do_event, evict_copy, flush_copy, judge_in, partition_of, take_message, unless_refused}
use Rattle.node_rules.specs.Refusals.{no_copy, no_page, refusal, refusal_in_view, refuse_if}
use Rattle.node_rules.specs.Work.{Work, Outcome, Goes, Differs, and_so, reply}
use Rattle.node_laws.proofs.Events.{not_refused}
use Rattle.home_laws.specs.Homes.{IsHome, pins_of, users}
use Rattle.home_laws.proofs.Users.{users_least}
use Rattle.cluster_rules.specs.Clusters.{Cluster, stop_at}
use Rattle.cluster_rules.specs.ClusterStep.{is_taken, step}
use Rattle.cluster_laws.specs.Handed.{IsHanded}
use Rattle.cluster_laws.specs.Sound.{IsMember, IsCluster}
use Rattle.cluster_laws.proofs.Steps.{up_is_member_law}
use Rattle.page_laws.specs.Look.Buffers.{is_used_by}
use Rattle.page_laws.proofs.LookParts.Alike.{beside_self}
use Rattle.page_laws.specs.Moment.Looks.{Adds, with_entry}
use Rattle.page_laws.proofs.MomentParts.Entries.{reply_adds_law}
use Rattle.page_protocol.specs.State.{Page}
use Rattle.page_protocol.specs.Steps.{cuts, here, then, Reached}
use Rattle.page_protocol.specs.Storage.{cutting}
use Rattle.page_relation.specs.Relation.{CopiesAre, IsPageOf}
use Rattle.page_laws.specs.Storage.Looks.{IsStored}
use Rattle.page_laws.specs.Storage.Machine.{IsCutting}
use Rattle.page_laws.proofs.StorageParts.AsSteps.{cuts_are_cutting_law}
use Rattle.page_relation.specs.Work.Events.{IsEntered, back, gone, EvictIsKept, FlushIsKept, CutIsKept, UntakenIsKept}
use Rattle.page_relation.specs.Work.Keeping.{IsWorkOf, Leads}
use Rattle.page_relation.specs.Work.Landing.{land, Acts, disk_of}
use Rattle.page_relation.specs.Work.Rest.{SameRest}
use Rattle.page_relation.specs.Work.StepEnds.{start_of, Follows}
use Rattle.page_relation.specs.Work.Unseen.{SameTold}
use Rattle.page_relation.proofs.WorkParts.Ended.{end_is_landed_law, goes_landed, no_calls, refused_is_kept_law}
use Rattle.page_relation.proofs.WorkParts.Framing.{copies_stay_law, unseen_is_kept_law}
use Rattle.page_relation.proofs.WorkParts.Quiet.{quiet_replies_law}
use Rattle.page_relation.proofs.WorkParts.Started.{acting, begun_is_related, event_told, quiet_told, start_is_related_law}
use Rattle.page_relation.proofs.WorkParts.Storing.{IsHere, back_leads, gone_leads, stored_alone, stored_is}

-- a step that was refused
refused_follows : (c : Cluster) (e : Event) (n p : ℕ) (s : NodeState) (ev : NodeEvent) (a : Page) → IsCluster c → IsHanded c e n s ev → IsEntered a → IsPageOf c p a
    → (r : Reason) → refusal s ev ≡ Some r → Follows p IsEntered a (step c e)
refused_follows c e n p s ev a i h entered is r refused =
    record { page = a; run = here; related = refused_is_kept_law c e n p s ev r a i h refused is; known = entered }

-- a step that ends with a reply that tells nothing, behind a work that leads to a state
replied_follows : (c : Cluster) (e : Event) (n p : ℕ) (r : Reply) (w : Work) (a : Page) → Acts c n → is_taken (r ∷ []) ≡ true → told r ≡ [] → step c e ≡ land c e n (reply r w)
    → Leads c e n p (λ x b. IsEntered b) a w → Follows p IsEntered a (step c e)
replied_follows c e n p r w a acts taken none is led =
    record {
      page = led.page;
      run = led.run;
      related =
          subst (λ (d : Cluster). IsPageOf d p led.page) (sym is)
          (unseen_is_kept_law c e n p w (reply r w) led.page acts (quiet_replies_law c e n p r w taken none) led.related);
      known = led.known;
    }

-- the start of a step and its state
at_start : (c : Cluster) (e : Event) (n p : ℕ) (s : NodeState) (ev : NodeEvent) (blank : List ℕ) (a : Page) → IsCluster c → IsHanded c e n s ev → p < c.config.pages
    → Reached blank a → IsEntered a → IsPageOf c p a → IsHere c e n p (start_of c s) a
at_start c e n p s ev blank a i h low reached entered is =
    record { acts = acting c e n s ev i h; low = low; blank = blank; reached = reached; related = start_is_related_law c e n p s ev a i h is; entered = entered }

-- ---- evictions

unpinned : (o : Option Slot) → pinned_slot o ≡ false → pins_of o ≡ 0
unpinned None e = refl
unpinned (Some s) e = grind (arith, nat_tests)

unused_page : (s : NodeState) (q : ℕ) (t : TxId) → IsHome s.home → pinned s.home.pool q ≡ false → is_used_by s.home.txs q t ≡ false
unused_page s q t is free = by (is_used_by s.home.txs q t) refl
  where
    nobody : users s.home.txs q ≡ 0
    nobody = sym (is.pins q) ∙ unpinned (slot_at s.home.pool q) free

    by : (b : Bool) → is_used_by s.home.txs q t ≡ b → b ≡ false
    by false f = refl
    by true f = let some = users_least s.home.txs t q f in absurd (omega (arith, some, nobody))

evict_unpinned : (s : NodeState) (q : ℕ) → refusal s (Evict q) ≡ None → pinned s.home.pool q ≡ false
unfolding refusal
evict_unpinned s q free =
    let first = not_refused (not (is_some s.view)) reason.NotInView (refusal_in_view s (Evict q)) free in
    let second = not_refused (no_page s q) reason.NoPage (refuse_if (no_copy s q) reason.NoCopy (refuse_if (pinned s.home.pool q) reason.Pinned None)) first.1 in
    let third = not_refused (no_copy s q) reason.NoCopy (refuse_if (pinned s.home.pool q) reason.Pinned None) second.1 in
    (not_refused (pinned s.home.pool q) reason.Pinned None third.1).0

evict_goes : (c : Cluster) (s : NodeState) (q : ℕ) → do_event c.disk (Evict q) (start_of c s) ≡ Goes (evict_copy q (start_of c s))
unfolding do_event
evict_goes c s q = refl

pub evict_is_kept_law : EvictIsKept
evict_is_kept_law c e n p q s blank a i h whole low reached entered is = by (refusal s (Evict q)) refl
  where
    by : (o : Option Reason) → refusal s (Evict q) ≡ o → Follows p IsEntered a (step c e)
    by (Some r) refused = refused_follows c e n p s (Evict q) a i h entered is r refused
    by None free =
        replied_follows c e n p reply.Evicted (gone q (start_of c s)) a (acting c e n s (Evict q) i h) refl refl
        (end_is_landed_law c e n s (Evict q) (evict_copy q (start_of c s)) h free (evict_goes c s q) (whole (evict_copy q (start_of c s)) (evict_goes c s q)))
        (gone_leads c e n p q (start_of c s) a (at_start c e n p s (Evict q) blank a i h low reached entered is)
        (λ t. unused_page s q t (up_is_member_law c n s i h.up).1.sound.home (evict_unpinned s q free)))

-- ---- flushes

flush_goes : (c : Cluster) (s : NodeState) (q : ℕ) → do_event c.disk (Flush q) (start_of c s) ≡ Goes (flush_copy q (start_of c s))
unfolding do_event
flush_goes c s q = refl

pub flush_is_kept_law : FlushIsKept
flush_is_kept_law c e n p q s blank a i h whole low reached entered is = by (refusal s (Flush q)) refl
  where
    by : (o : Option Reason) → refusal s (Flush q) ≡ o → Follows p IsEntered a (step c e)
    by (Some r) refused = refused_follows c e n p s (Flush q) a i h entered is r refused
    by None free =
        replied_follows c e n p reply.Flushed (back q (start_of c s)) a (acting c e n s (Flush q) i h) refl refl
        (end_is_landed_law c e n s (Flush q) (flush_copy q (start_of c s)) h free (flush_goes c s q) (whole (flush_copy q (start_of c s)) (flush_goes c s q)))
        (back_leads c e n p q (start_of c s) a (at_start c e n p s (Flush q) blank a i h low reached entered is))

-- ---- cuts

-- the log was cut, if there was something to cut
abbrev cut_work : ℕ → Work → Work
cut_work count w = cut_if (count == 0) count w

cutting_rest : (a : Page) (n upto : ℕ) → SameRest a (cutting a n upto)
unfolding cutting
cutting_rest a n upto =
    record { now = refl; hist = refl; reached = refl; right = refl; home = refl; script = refl; image = refl; era = refl; owner = refl; served = refl; entry = refl; sent = refl; listed = refl }

cutting_entered : (a : Page) (n upto : ℕ) → IsEntered a → IsEntered (cutting a n upto)
unfolding cutting
cutting_entered a n upto entered = entered

cutting_copies : (d : Cluster) (p n upto : ℕ) (a : Page) → CopiesAre d p a.slot a.owner a.dirty → CopiesAre d p (cutting a n upto).slot (cutting a n upto).owner (cutting a n upto).dirty
unfolding cutting
cutting_copies d p n upto a is = is

-- a cut of a work without calls
cut_leads : (c : Cluster) (e : Event) (n p count : ℕ) (w : Work) (a : Page) → Acts c n → IsWorkOf c e n p w a → IsEntered a → w.calls ≡ []
    → cuttable c.config c.disk.pages (log_at c.disk n) ≡ Goes count → Leads c e n p (λ x b. IsEntered b) a (cut_work count w)
cut_leads c e n p count w a acts is entered none found = by (count == 0)
  where
    x : Work
    x = record w { calls = w.calls ++ CutLog count ∷ [] }

    low : n < length c.disk.logs
    low = subst (λ (k : ℕ). n < k) (sym acts.cluster.disk.logs) acts.known

    before : disk_of c n w ≡ c.disk
    before = ap (all_done n c.disk) none

    cut : IsCutting c.config (done n c.disk (CutLog count)) n p a
    cut = cuts_are_cutting_law c.config c.disk n p count a low found (subst (λ (d : Disk). IsStored c.config d p a.disk a.log) before (stored_is c e n p w a is))

    after : disk_of c n x ≡ done n c.disk (CutLog count)
    after = fold-append (done n) c.disk w.calls (CutLog count ∷ []) ∙ ap (λ (d : Disk). done n d (CutLog count)) before

    by : (b : Bool) → Leads c e n p (λ y b. IsEntered b) a (cut_if b count w)
    by true = record { page = a; run = here; related = is; known = entered }
    by false =
        record {
          page = cutting a n cut.upto;
          run = then here (cuts n cut.upto cut.on_disk);
          related =
              stored_alone c e n p w x a (cutting a n cut.upto) acts is (cutting_rest a n cut.upto) refl refl refl refl refl (beside_self w.node.home)
              (subst (λ (d : Disk). IsStored c.config d p (cutting a n cut.upto).disk (cutting a n cut.upto).log) (sym after) cut.left)
              (cutting_copies (land c e n x) p n cut.upto a (copies_stay_law c e n p w x a.slot a.owner a.dirty acts refl is.copies));
          known = cutting_entered a n cut.upto entered;
        }

cut_goes : (c : Cluster) (s : NodeState) (w : Work) → do_event c.disk Cut (start_of c s) ≡ Goes w
    → (count : ℕ) × (cuttable s.home.config c.disk.pages (log_at c.disk (number_of s)) ≡ Goes count) × (w ≡ cut_front (start_of c s) count)
unfolding do_event
cut_goes c s w goes = by (cuttable s.home.config c.disk.pages (log_at c.disk (number_of s))) refl goes
  where
    by : (o : Outcome ℕ) → cuttable s.home.config c.disk.pages (log_at c.disk (number_of s)) ≡ o → and_so o (cut_front (start_of c s)) ≡ Goes w
        → (count : ℕ) × (cuttable s.home.config c.disk.pages (log_at c.disk (number_of s)) ≡ Goes count) × (w ≡ cut_front (start_of c s) count)
    by (Goes count) is g = let same : cut_front (start_of c s) count ≡ w = cc in (count, is, sym same)
    by (Differs q expected found) is g = absurd (cc)

pub cut_is_kept_law : CutIsKept
cut_is_kept_law c e n p s w a i h whole goes entered is = by (refusal s Cut) refl
  where
    member : IsMember c.config c.views n s
    member = (up_is_member_law c n s i h.up).1

    cut : (count : ℕ) × (cuttable s.home.config c.disk.pages (log_at c.disk (number_of s)) ≡ Goes count) × (w ≡ cut_front (start_of c s) count)
    cut = cut_goes c s w goes

    found : cuttable c.config c.disk.pages (log_at c.disk n) ≡ Goes cut.0
    found =
        ap (λ (k : Sizes). cuttable k c.disk.pages (log_at c.disk n)) (sym member.config)
        ∙ ap (λ (k : ℕ). cuttable s.home.config c.disk.pages (log_at c.disk k)) (sym member.number) ∙ cut.1

    by : (o : Option Reason) → refusal s Cut ≡ o → Follows p IsEntered a (step c e)
    by (Some r) refused = refused_follows c e n p s Cut a i h entered is r refused
    by None free =
        replied_follows c e n p (reply.Cut cut.0) (cut_work cut.0 (start_of c s)) a (acting c e n s Cut i h) refl refl
        (end_is_landed_law c e n s Cut w h free goes (whole w goes) ∙ ap (land c e n) cut.2)
        (cut_leads c e n p cut.0 (start_of c s) a (acting c e n s Cut i h) (start_is_related_law c e n p s Cut a i h is) entered refl found)

-- ---- messages that aren't taken

-- an entry with one reply that tells nothing
one_told : (c : Sizes) (p : ℕ) (trace : List Entry) (e : Event) (r : Reply) → is_refusal r ≡ false → told r ≡ [] → SameTold c p trace (with_entry trace e (r ∷ []) [])
one_told c p trace e r goes none =
    let first = event_told c p trace e in
    let second =
    quiet_told c p (with_entry trace e [] []) (with_entry trace e (r ∷ []) [])
    (subst (λ ms. Adds (with_entry trace e [] []) ms (with_entry trace e (r ∷ []) [])) none (reply_adds_law trace e [] r [] [] goes)) in
    record { accesses = λ t. second.accesses t ∙ first.accesses t; now_same = second.now_same ∙ first.now_same }

-- a step that gives one such reply alone
one_reply : (c : Cluster) (e : Event) (n p : ℕ) (s : NodeState) (ev : NodeEvent) (r : Reply) (a : Page) → IsCluster c → IsHanded c e n s ev → is_refusal r ≡ false → told r ≡ []
    → unless_refused (refusal s ev) c.disk ev (start_of c s) ≡ Goes (reply r (start_of c s)) → IsPageOf c p a → IsPageOf (step c e) p a
one_reply c e n p s ev r a i h goes none is_work is =
    subst (λ (d : Cluster). IsPageOf d p a) (sym (goes_landed c e n s ev (reply r (start_of c s)) h is_work (no_calls n c.disk (stop_at c n))))
    (begun_is_related c e n p s ev i h (r ∷ []) a (one_told c.config p c.trace e r goes none) is)

delivered_as : (c : Cluster) (s : NodeState) (from : ℕ) (m : Message) (v : Verdict) → judge_in s.view (number_of s) from m.epoch (partition_of s.home.config m.body) ≡ v
    → do_event c.disk (Deliver from m) (start_of c s) ≡ by_verdict v c.disk from m.body (start_of c s)
unfolding do_event take_message
delivered_as c s from m v is = ap (λ (x : Verdict). by_verdict x c.disk from m.body (start_of c s)) is

pub untaken_is_kept_law : UntakenIsKept
untaken_is_kept_law c e n p from m s a i h untaken is = by (refusal s (Deliver from m)) refl
  where
    quiet : refusal s (Deliver from m) ≡ None → (r : Reply) → is_refusal r ≡ false → told r ≡ [] → do_event c.disk (Deliver from m) (start_of c s) ≡ Goes (reply r (start_of c s)) → IsPageOf (step c e) p a
    quiet free r goes none does =
        one_reply c e n p s (Deliver from m) r a i h goes none (ap (λ (o : Option Reason). unless_refused o c.disk (Deliver from m) (start_of c s)) free ∙ does) is

    judged : refusal s (Deliver from m) ≡ None → (v : Verdict) → judge_in s.view (number_of s) from m.epoch (partition_of s.home.config m.body) ≡ v → IsPageOf (step c e) p a
    judged free verdict.Taken v = absurd (untaken v)
    judged free verdict.Held v = quiet free reply.Held refl refl (delivered_as c s from m verdict.Held v)
    judged free verdict.Dropped v = quiet free reply.Dropped refl refl (delivered_as c s from m verdict.Dropped v)

    by : (o : Option Reason) → refusal s (Deliver from m) ≡ o → IsPageOf (step c e) p a
    by (Some r) refused = refused_is_kept_law c e n p s (Deliver from m) r a i h refused is
    by None free = judged free (judge_in s.view (number_of s) from m.epoch (partition_of s.home.config m.body)) refl
