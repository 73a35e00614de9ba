-- Runs of the machine of one page that remove what is dead and gone.
use Rattle.std.specs.Prelude.{◌≡◌, ℕ, ◌<◌, ◌≤◌, Bool, true, List, None}
use Rattle.pcl_base.specs.declared.tx.TxId.{TxId}
use Rattle.page_protocol.specs.State.{has, NoRight, Returning, Page, IsClosed}
use Rattle.page_protocol.specs.Steps.{Run, Reached}
use Rattle.report_relation.specs.Bury.Burying.{burial, lowered}

-- eras after the one that serves lose their dead
abbrev pub BurialIsRun : Type 0
BurialIsRun = (a : Page) (low : ℕ) (dead : TxId → Bool) → a.era < low → ((t : TxId) → dead t ≡ true → IsClosed (a.home t)) → Run a (burial a low dead)

-- readers whom a right of such a node names that was given back later are no more, and later eras have nothing of them
abbrev pub AreOver : Page → ℕ → (ℕ → Bool) → Type 0
AreOver a low gone =
    (m upto : ℕ) (readers : List TxId) → gone m ≡ true → a.right m ≡ Returning upto readers → low < upto → (t : TxId) → t.node ≡ m → has t readers ≡ true
    → IsClosed (a.home t) × ((f : ℕ) → low < f → a.listed t f ≡ None)

-- no more than some nodes have a right
pub record AreBounded (a : Page) : Type 0 where
  pub bound : ℕ
  pub none : (m : ℕ) → bound ≤ m → a.right m ≡ NoRight

-- so in each state that is reached
abbrev pub RightsAreBounded : Type 0
RightsAreBounded = (blank : List ℕ) (a : Page) → Reached blank a → AreBounded a

-- and rights of some nodes come to count for fewer eras
abbrev pub LoweringIsRun : Type 0
LoweringIsRun = (a : Page) (low : ℕ) (gone : ℕ → Bool) → a.era < low → AreBounded a → AreOver a low gone → Run a (lowered a low gone)
