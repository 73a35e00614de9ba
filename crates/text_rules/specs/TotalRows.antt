-- A trace to compute totals on.
use Rattle.std.specs.Prelude.{List, [], ◌∷◌, ◌++◌, replicate, false, true, Option, Some, None}
use Rattle.pcl_base.specs.declared.tx.Mode.TheVariants.{Shared, Exclusive}
use Rattle.pcl_base.specs.declared.event.Event.TheVariants.{Begin}
use Rattle.pcl_base.specs.declared.reply.Reason.TheVariants.{TooMany}
use Rattle.pcl_base.specs.declared.reply.Reply.{Reply}
use Rattle.pcl_base.specs.declared.reply.Reply.TheVariants.{Begun, Committed, Aborted, Value, Done, Waits, Taken, Held, Dropped, Refused}
use Rattle.pcl_base.specs.declared.trace.Call.TheVariants.{Read as read_call, Force as force_call}
use Rattle.pcl_base.specs.declared.trace.Halt.{Halt}
use Rattle.pcl_base.specs.declared.trace.CopyKind.TheVariants.{Current, Image, OnDisk}
use Rattle.pcl_base.specs.declared.trace.Note.{Note}
use Rattle.pcl_base.specs.declared.trace.Note.TheVariants.{Request, Grant, Release, Revoke, Return, Report}
use Rattle.pcl_base.specs.declared.trace.Sent.{Sent}
use Rattle.pcl_base.specs.declared.trace.Entry.{Entry}
use Rattle.text_rules.specs.Totals.{Totals}
use Rattle.text_rules.specs.LineRows.{first_tx}

abbrev pub sent : Note → Sent
sent note = record { from = 0; to = 1; epoch = 1; note = note }

-- an entry with these replies, messages and halt
abbrev pub entry : List Reply → List Note → Option Halt → Entry
entry replies notes halted = record { event = Begin 0; replies = replies; sent = sents notes; halted = halted }
  where
    sents : List Note → List Sent
    sents [] = []
    sents (n ∷ ns) = sent n ∷ sents ns

-- each reply and message as often as no other one
abbrev pub a_trace : List Entry
a_trace =
    entry (replicate 2 (Begun first_tx) ++ replicate 3 (Value first_tx 0 1 []) ++ replicate 4 (Done first_tx 0 1)) [] None
    ∷ entry (replicate 5 (Waits first_tx 0) ++ replicate 6 (Committed first_tx) ++ replicate 8 (Aborted first_tx)) [] None
    ∷ entry (replicate 9 Held ++ replicate 10 Dropped ++ replicate 11 (Refused TooMany) ++ Taken ∷ []) [] None
    ∷ entry [] (replicate 12 (Request first_tx 0 Shared None) ++ replicate 13 (Grant first_tx 0 Shared true 1 Current)) (Some (record { call = force_call; kept = Some first_tx }))
    ∷ entry [] (Grant first_tx 0 Exclusive false 1 Image ∷ Grant first_tx 0 Exclusive false 1 OnDisk ∷ []) (Some (record { call = read_call; kept = None }))
    ∷ entry [] (replicate 14 (Release first_tx 0 None) ++ replicate 3 (Release first_tx 0 (Some 2))) None
    ∷ entry [] (replicate 19 (Revoke 0) ++ replicate 20 (Return 0 []) ++ replicate 21 (Report 0 [] [] [])) None
    ∷ []

-- its totals
abbrev pub of_every_count : Totals
of_every_count =
    record {
      events = 7;
      begun = 2;
      values = 3;
      done = 4;
      waits = 5;
      committed = 7;
      aborted = 8;
      held = 9;
      dropped = 10;
      refused = 11;
      halted = 2;
      requests = 12;
      grants = 15;
      releases = 17;
      revokes = 19;
      returns = 20;
      reports = 21;
      images = 4;
    }
