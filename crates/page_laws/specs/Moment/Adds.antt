-- Which moments an entry adds to a trace, reply by reply.
use Rattle.std.specs.Prelude.{◌≡◌, false, List, [], ◌∷◌, ◌++◌}
use Rattle.pcl_base.specs.declared.event.Event.{Event}
use Rattle.pcl_base.specs.declared.reply.Reason.{Reason}
use Rattle.pcl_base.specs.declared.reply.Reply.{Reply}
use Rattle.pcl_base.specs.declared.reply.Reply.TheVariants.{Refused}
use Rattle.pcl_base.specs.declared.trace.Entry.{Entry}
use Rattle.pcl_base.specs.declared.trace.Halt.{Halt}
use Rattle.pcl_base.specs.declared.trace.Sent.{Sent}
use Rattle.run_rules.specs.Script.{asked, is_refusal, kept_tx, told}
use Rattle.page_laws.specs.Moment.Looks.{with_entry, with_halt, Adds}

-- An entry without replies adds the access that its event asks for.
abbrev pub EventAdds : Type 0
EventAdds = (trace : List Entry) (e : Event) (sent : List Sent) → Adds trace (asked e) (with_entry trace e [] sent)

-- A further reply that is no refusal adds what it tells.
abbrev pub ReplyAdds : Type 0
ReplyAdds =
    (trace : List Entry) (e : Event) (rs : List Reply) (r : Reply) (sent more : List Sent) → is_refusal r ≡ false
    → Adds (with_entry trace e rs sent) (told r) (with_entry trace e (rs ++ r ∷ []) more)

-- What is sent adds nothing.
abbrev pub SentAddsNothing : Type 0
SentAddsNothing =
    (trace : List Entry) (e : Event) (rs : List Reply) (sent more : List Sent) → Adds (with_entry trace e rs sent) [] (with_entry trace e rs more)

-- A refused event adds nothing.
abbrev pub RefusedAddsNothing : Type 0
RefusedAddsNothing =
    (trace : List Entry) (e : Event) (reason : Reason) (sent : List Sent) → Adds trace [] (with_entry trace e (Refused reason ∷ []) sent)

-- A halt adds the commit point of the record that was kept, behind the access that the event asks for.
abbrev pub HaltAdds : Type 0
HaltAdds =
    (trace : List Entry) (e : Event) (halt : Halt) (sent more : List Sent) → Adds (with_entry trace e [] sent) (kept_tx halt.kept) (with_halt trace e more halt)
