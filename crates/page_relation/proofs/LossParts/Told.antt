-- Entries of a trace that tell no access and no commit.
use Rattle.std.proofs.Common.{◌≡◌, ◌≢◌, refl, subst, ◌∙◌, ℕ, false, List, [], ◌∷◌, Option, Some, None, append-nil}
use Rattle.pcl_base.specs.Limits.{Sizes}
use Rattle.pcl_base.specs.declared.event.Event.{Event}
use Rattle.pcl_base.specs.declared.event.Event.TheVariants as event
use Rattle.pcl_base.specs.declared.reply.Reply.{Reply}
use Rattle.pcl_base.specs.declared.trace.Entry.{Entry}
use Rattle.pcl_base.specs.declared.tx.TxId.{TxId}
use Rattle.run_rules.specs.Now.{now}
use Rattle.run_rules.specs.Script.{Moment, Asks, asked, told, is_refusal, moments}
use Rattle.node_rules.specs.Words.{head_of}
use Rattle.cluster_rules.specs.ClusterStep.{named}
use Rattle.page_protocol.proofs.Basics.{by_tx_else}
use Rattle.page_laws.specs.Moment.Looks.{accesses_in, asked_last, with_entry, Adds}
use Rattle.page_laws.specs.Moment.Tells.{TellsAsked}
use Rattle.page_laws.proofs.MomentParts.Entries.{event_adds_law, reply_adds_law}
use Rattle.page_laws.proofs.MomentParts.Growing.{nothing_tells_law, ask_tells_law}

-- The accesses and what commits made are as before, and who isn't of node n asked for the same last.
pub record TellsLittle (c : Sizes) (n : ℕ) (before after : List Entry) : Type 0 where
  pub accesses : (t : TxId) (p : ℕ) → accesses_in t p after ≡ accesses_in t p before
  pub now_same : now c after ≡ now c before
  pub asked : (t : TxId) → t.node ≢ n → asked_last t after ≡ asked_last t before

pub adds_none : (one two three : List Entry) → Adds one [] two → Adds two [] three → Adds one [] three
adds_none one two three first second = second ∙ append-nil (moments two) ∙ first

-- an event that asks for nothing, with a reply that tells nothing
pub reply_adds_none : (trace : List Entry) (e : Event) (r : Reply) → asked e ≡ [] → told r ≡ [] → is_refusal r ≡ false → Adds trace [] (with_entry trace e (r ∷ []) [])
reply_adds_none trace e r quiet silent goes =
    adds_none trace (with_entry trace e [] []) (with_entry trace e (r ∷ []) [])
    (subst (λ (ms : List Moment). Adds trace ms (with_entry trace e [] [])) quiet (event_adds_law trace e []))
    (subst (λ (ms : List Moment). Adds (with_entry trace e [] []) ms (with_entry trace e (r ∷ []) [])) silent (reply_adds_law trace e [] r [] [] goes))

pub little_told : (c : Sizes) (n : ℕ) (before after : List Entry) → Adds before [] after → TellsLittle c n before after
little_told c n before after adds =
    let same = nothing_tells_law c before after adds in record { accesses = same.accesses; now_same = same.now_same; asked = λ t other. same.asked t }

-- one of node n asks
one_asked : (c : Sizes) (n : ℕ) (before after : List Entry) (u : TxId) (w : Option (ℕ × List ℕ)) → u.node ≡ n → Adds before (Asks u w ∷ []) after → TellsLittle c n before after
one_asked c n before after u w here adds =
    record {
      accesses = same.accesses;
      now_same = same.now_same;
      asked = λ t other. same.asked t ∙ by_tx_else (λ v x. v.node ≢ n → x ≡ asked_last v before) u t w (asked_last t before) (λ out. absurd (out here)) (λ e out. refl) other;
    }
  where
    same : TellsAsked c before after u w
    same = ask_tells_law c before after u w adds

-- what an event of node n asks for
pub asked_told : (c : Sizes) (n : ℕ) (before after : List Entry) (e : Event) → head_of (named e) ≡ Some n → Adds before (asked e) after → TellsLittle c n before after
asked_told c n before after (event.Read t p) acts adds = one_asked c n before after t None (let same : t.node ≡ n = cc in same) adds
asked_told c n before after (event.Write t p place bytes) acts adds = one_asked c n before after t (Some (place, bytes)) (let same : t.node ≡ n = cc in same) adds
asked_told c n before after (event.Begin m) acts adds = little_told c n before after adds
asked_told c n before after (event.Commit t) acts adds = little_told c n before after adds
asked_told c n before after (event.Abort t) acts adds = little_told c n before after adds
asked_told c n before after (event.Deliver from to) acts adds = little_told c n before after adds
asked_told c n before after (event.Evict m p) acts adds = little_told c n before after adds
asked_told c n before after (event.Flush m p) acts adds = little_told c n before after adds
asked_told c n before after (event.Crash m) acts adds = little_told c n before after adds
asked_told c n before after (event.View live owners) acts adds = little_told c n before after adds
asked_told c n before after (event.Install m) acts adds = little_told c n before after adds
asked_told c n before after event.Reopen acts adds = little_told c n before after adds
asked_told c n before after (event.Arm m call kept) acts adds = little_told c n before after adds
asked_told c n before after (event.Cut m) acts adds = little_told c n before after adds
