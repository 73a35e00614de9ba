-- What a grant of an owner says of the copy.
use Rattle.std.specs.Prelude.{◌≡◌, ℕ, ◌==◌, false, Option}
use Rattle.pcl_base.specs.declared.event.Event.{Event}
use Rattle.pcl_base.specs.declared.tx.TxId.{TxId}
use Rattle.node_rules.specs.BufferRule.{Pool, bytes_of_copy, copy_at, find}
use Rattle.node_rules.specs.CopyRule.{is_version, copy_for}
use Rattle.node_rules.specs.OwnerRule.{copy_part}
use Rattle.node_rules.specs.Words.{pick}
use Rattle.node_rules.specs.Work.{Work}
use Rattle.cluster_rules.specs.Clusters.{Cluster}
use Rattle.page_protocol.specs.Authority.{WordFits}
use Rattle.page_protocol.specs.State.{Word, Image, OnDisk, Page}
use Rattle.page_relation.specs.Messages.{word_of, HasAsked}
use Rattle.page_relation.specs.Work.Keeping.{IsWorkOf}
use Rattle.page_relation.specs.Work.Landing.{Acts}

-- a grant to another node, which told this version, of a page at version v
abbrev pub word_sent : Pool → ℕ → Option ℕ → ℕ → Word
word_sent b p have v = word_of (copy_part (copy_for have v (find b p)) (bytes_of_copy (copy_at b p)))

-- one to an own transaction: what the owner's copy is to it, or the disk
abbrev pub word_own : Pool → ℕ → ℕ → Word
word_own b p v = pick (is_version (find b p) v) (Image (bytes_of_copy (copy_at b p))) OnDisk

-- At the owner each says what the machine has, where the entry's version is this.
abbrev pub WordsFit : Type 0
WordsFit =
    (c : Cluster) (e : Event) (n p v : ℕ) (t : TxId) (w : Work) (a : Page) → Acts c n → n ≡ a.owner → v ≡ a.entry → IsWorkOf c e n p w a
    → ((have : Option ℕ) → (t.node == n) ≡ false → HasAsked (a.reached t.node) a.era (a.home t) have → WordFits a t (word_sent w.node.home.pool p have v))
    × WordFits a t (word_own w.node.home.pool p v)
