-- What a trace tells of transactions: their granted accesses, and their commit points.
use Rattle.std.specs.Prelude.{ℕ, Bool, true, false, List, [], ◌∷◌, ◌++◌}
use Rattle.std.specs.List.{list_any, flat_map}
use Rattle.std.specs.Prelude.{Option, None, Some}
use Rattle.pcl_base.specs.declared.tx.TxId.{TxId}
use Rattle.pcl_base.specs.declared.event.Event.{Event}
use Rattle.pcl_base.specs.declared.event.Event.TheVariants as event
use Rattle.pcl_base.specs.declared.reply.Reply.{Reply}
use Rattle.pcl_base.specs.declared.reply.Reply.TheVariants as reply
use Rattle.pcl_base.specs.declared.script.Step.{Step}
use Rattle.pcl_base.specs.declared.script.Step.TheVariants as step
use Rattle.pcl_base.specs.declared.trace.Entry.{Entry}
use Rattle.pcl_base.specs.declared.trace.Halt.{Halt}
use Rattle.run_rules.specs.Words.{pick, same_tx}

-- what happens to a transaction at one place of a trace: it asks for an access, with the place and
-- the bytes of a write; it gets a page; it has written a page; or it commits
pub data Moment : Type 0 where
  Asks : TxId → Option (ℕ × List ℕ) → Moment
  Gets : TxId → (page version : ℕ) → List ℕ → Moment
  Writes : TxId → (page version : ℕ) → Moment
  Commits : TxId → Moment

-- whether the event was refused
abbrev pub is_refusal : Reply → Bool
is_refusal (reply.Refused reason) = true
is_refusal _ = false

abbrev pub is_refused : Entry → Bool
is_refused e = list_any is_refusal e.replies

-- the access that an event asks for
abbrev pub asked : Event → List Moment
asked (event.Read tx page) = Asks tx None ∷ []
asked (event.Write tx page place bytes) = Asks tx (Some (place, bytes)) ∷ []
asked _ = []

-- what a reply tells: the granted accesses and the commit points
abbrev pub told : Reply → List Moment
told (reply.Value tx page version bytes) = Gets tx page version bytes ∷ []
told (reply.Done tx page version) = Writes tx page version ∷ []
told (reply.Committed tx) = Commits tx ∷ []
told _ = []

-- a halt that kept the whole record of a commit is a commit point
abbrev pub kept_tx : Option TxId → List Moment
kept_tx None = []
kept_tx (Some tx) = Commits tx ∷ []

abbrev pub kept : Option Halt → List Moment
kept None = []
kept (Some halt) = kept_tx halt.kept

-- the moments of an entry: an access that wasn't refused, then the replies, then the halt
unfoldable pub moments_of : Entry → List Moment
moments_of e = pick (is_refused e) [] (asked e.event) ++ (flat_map told e.replies ++ kept e.halted)

-- the moments of a trace in order
unfoldable pub moments : List Entry → List Moment
moments trace = flat_map moments_of trace

-- the write of the access that t asked for last, so far w, once m has happened
abbrev pub last_write : TxId → Option (ℕ × List ℕ) → Moment → Option (ℕ × List ℕ)
last_write t w (Asks u v) = pick (same_tx t u) v w
last_write t w _ = w

-- the step of a granted write: the page, and the place and the bytes that were asked for
abbrev pub write_step : ℕ → Option (ℕ × List ℕ) → List Step
write_step page None = []
write_step page (Some w) = step.Write page w.0 w.1 ∷ []

-- the steps that m gives the script of t, where t asked for the write w last
abbrev pub steps_at : TxId → Option (ℕ × List ℕ) → Moment → List Step
steps_at t w (Gets u page version bytes) = pick (same_tx t u) (step.Read page bytes ∷ []) []
steps_at t w (Writes u page version) = pick (same_tx t u) (write_step page w) []
steps_at t w _ = []

-- the steps of t in some moments, where t asked for the write w last before them
unfoldable pub script_from : TxId → Option (ℕ × List ℕ) → List Moment → List Step
script_from t w [] = []
script_from t w (m ∷ ms) = steps_at t w m ++ script_from t (last_write t w m) ms

-- the script of t: its granted accesses in the order of the trace
abbrev pub script : TxId → List Moment → List Step
script t ms = script_from t None ms
