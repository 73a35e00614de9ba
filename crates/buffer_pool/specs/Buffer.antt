-- What holds of every buffer, beside what the buffer rule makes of it.
use Rattle.std.specs.Prelude.{◌≡◌, ℕ, ◌+◌, ◌≤◌, ◌==◌, length, IfSome}
use Rattle.std.specs.List.{All, filter}
use Rattle.pcl_base.specs.declared.tx.TxId.{TxId}
use Rattle.node_rules.specs.BufferRule.{Pool, is_private}

-- slots and private copies take at most all frames, each image has the size of a page, a page has at
-- most one slot, and a transaction at most one private copy of a page
pub record IsBuffer (b : Pool) : Type 0 where
  pub frames : (1 ≤ b.frames) × (b.frames ≤ 4096)
  pub within : length b.slots + length b.privates ≤ b.frames
  pub copies : All (λ s. IfSome s.copy (λ c. length c.bytes ≡ b.size)) b.slots
  pub images : All (λ x. IfSome x.bytes (λ bytes. length bytes ≡ b.size)) b.privates
  pub one_slot : (p : ℕ) → length (filter (λ s. s.page == p) b.slots) ≤ 1
  pub one_private : (t : TxId) (p : ℕ) → length (filter (is_private t p) b.privates) ≤ 1
