-- What a trace tells of a transaction and of a page, in the words of the machine of one page.
use Rattle.std.specs.Prelude.{◌≡◌, ℕ, ◌<◌, ◌==◌, List, [], ◌∷◌, ◌++◌, Option, Some, None}
use Rattle.pcl_base.specs.Limits.{Sizes}
use Rattle.pcl_base.specs.declared.event.Event.{Event}
use Rattle.pcl_base.specs.declared.reply.Reply.{Reply}
use Rattle.pcl_base.specs.declared.script.Step.{Step}
use Rattle.pcl_base.specs.declared.script.Step.TheVariants as step
use Rattle.pcl_base.specs.declared.trace.Entry.{Entry}
use Rattle.pcl_base.specs.declared.trace.Halt.{Halt}
use Rattle.pcl_base.specs.declared.trace.Sent.{Sent}
use Rattle.pcl_base.specs.declared.tx.TxId.{TxId}
use Rattle.run_rules.specs.Base.{Base, page_at}
use Rattle.run_rules.specs.Now.{now}
use Rattle.run_rules.specs.Script.{Moment, moments, script}
use Rattle.run_rules.specs.Words.{pick}
use Rattle.run_laws.specs.Laws.{pending}
use Rattle.page_protocol.specs.Bytes.{Copy, Access, Read, Write}

-- the steps of a script on one page
unfoldable pub accesses_of : ℕ → List Step → List Access
accesses_of p [] = []
accesses_of p (step.Read page bytes ∷ steps) = pick (page == p) (Read bytes ∷ accesses_of p steps) (accesses_of p steps)
accesses_of p (step.Write page place bytes ∷ steps) = pick (page == p) (Write place bytes ∷ accesses_of p steps) (accesses_of p steps)

-- the granted accesses of a page by a transaction, as a trace tells them
unfoldable pub accesses_in : TxId → ℕ → List Entry → List Access
accesses_in t p trace = accesses_of p (script t (moments trace))

-- the write of the access that a transaction asked for last, where that was a write
unfoldable pub asked_last : TxId → List Entry → Option (ℕ × List ℕ)
asked_last t trace = pending t (moments trace)

-- a base has this copy of the page
abbrev pub HasPage : Option Base → ℕ → Copy → Type 0
HasPage None p cur = ⊥
HasPage (Some base) p cur = page_at base p ≡ record { version = cur.version; bytes = cur.bytes }

-- what the commit points of a trace have made of each page
pub record IsNow (c : Sizes) (trace : List Entry) (page : ℕ → Copy) : Type 0 where
  pub base : Base
  pub known : now c trace ≡ Some base
  pub pages : (p : ℕ) → p < c.pages → page_at base p ≡ record { version = (page p).version; bytes = (page p).bytes }

-- a trace with the entry of an event that no stop ended
abbrev pub with_entry : List Entry → Event → List Reply → List Sent → List Entry
with_entry trace e replies sent = trace ++ record { event = e; replies = replies; sent = sent; halted = None } ∷ []

-- a trace with the entry of an event that a stop ended
abbrev pub with_halt : List Entry → Event → List Sent → Halt → List Entry
with_halt trace e sent halt = trace ++ record { event = e; replies = []; sent = sent; halted = Some halt } ∷ []

-- a trace tells what another tells, and then these moments
abbrev pub Adds : List Entry → List Moment → List Entry → Type 0
Adds before ms after = moments after ≡ moments before ++ ms
