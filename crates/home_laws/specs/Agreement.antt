-- What a home refuses by itself is what a step of its node refuses.
use Rattle.std.specs.Prelude.{◌≡◌, ℕ, List, Some, None}
use Rattle.pcl_base.specs.declared.tx.TxId.{TxId}
use Rattle.node_rules.specs.NodeState.{NodeState, Read, Write, Commit, Abort}
use Rattle.node_rules.specs.Refusals.{refusal_in_view}
use Rattle.home_laws.specs.Refused.{access_refusal}
use Rattle.home_laws.specs.RefusedEnds.{commit_refusal, abort_refusal}

-- a read of a page
abbrev pub ReadsAgree : Type 0
ReadsAgree =
    (n : NodeState) (t : TxId) (p : ℕ)
    → refusal_in_view n (Read t p) ≡ access_refusal (record { tx = t; page = p; write = None }) n.home

-- a write of bytes from a place on
abbrev pub WritesAgree : Type 0
WritesAgree =
    (n : NodeState) (t : TxId) (p place : ℕ) (bytes : List ℕ)
    → refusal_in_view n (Write t p place bytes) ≡ access_refusal (record { tx = t; page = p; write = Some (place, bytes) }) n.home

-- a commit
abbrev pub CommitsAgree : Type 0
CommitsAgree = (n : NodeState) (t : TxId) → refusal_in_view n (Commit t) ≡ commit_refusal t n.home

-- an abort
abbrev pub AbortsAgree : Type 0
AbortsAgree = (n : NodeState) (t : TxId) → refusal_in_view n (Abort t) ≡ abort_refusal t n.home
