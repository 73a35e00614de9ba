-- The laws of the accesses of a home: an access, a grant and a revocation keep what holds of every home.
use Rattle.std.specs.Prelude.{◌≡◌, ℕ, ◌+◌, Bool, true, false, List, length, Option, None, IfSome}
use Rattle.pcl_base.specs.declared.tx.TxId.{TxId}
use Rattle.pcl_base.specs.declared.lock.Held.{Held}
use Rattle.pcl_base.specs.declared.message.Grant.{Grant}
use Rattle.run_rules.specs.Disk.{raw_page}
use Rattle.node_rules.specs.CopyRule.{is_version}
use Rattle.node_rules.specs.OpenTxs.{pending_of, waits_as}
use Rattle.node_rules.specs.BufferRule.{find}
use Rattle.node_rules.specs.NodeState.{HomeState}
use Rattle.node_rules.specs.Work.{HomeWork, Goes}
use Rattle.node_rules.specs.AccessRule.{Access, Granted, Arrived, access, granted, image_of, on_grant, on_revoke}
use Rattle.home_laws.specs.Homes.{IsHome, is_right_kind}
use Rattle.home_laws.specs.Refused.{access_refusal}

-- an access that isn't refused
abbrev pub AccessIsSound : Type 0
AccessIsSound =
    (a : Access) (owned : Bool) (w : HomeWork) → IsHome w.home → access_refusal a w.home ≡ None → IsHome (access a owned w).work.home

-- a revocation
abbrev pub OnRevokeIsSound : Type 0
OnRevokeIsSound = (p : ℕ) (h : HomeState) → IsHome h → IsHome (on_revoke p h).home

-- an image, if there is one, has the size of a page
abbrev pub IsImage : ℕ → Option (List ℕ) → Type 0
IsImage size image = IfSome image (λ bytes. length bytes ≡ size)

-- the stored page has its size, where a grant reads it: without an image, and where the copy isn't of
-- the granted version
abbrev pub IsReadable : ℕ → ℕ → Option (List ℕ) → HomeWork → Type 0
IsReadable p version image w =
    is_version (find w.home.pool p) version ≡ false → image ≡ None → length (raw_page w.pages p) ≡ w.home.config.size + 16

-- a grant of what a transaction waits for, by a lock that isn't under a right
abbrev pub GrantedIsSound : Type 0
GrantedIsSound =
    (t : TxId) (l : Held) (version : ℕ) (image : Option (List ℕ)) (w : HomeWork) (g : Granted) → IsHome w.home → waits_as (pending_of w.home.txs t) l.page l.mode ≡ true
    → is_right_kind l.kind ≡ false → IsImage w.home.config.size image → IsReadable l.page version image w → granted t l version image w ≡ Goes g → IsHome g.work.home

-- a grant that arrives, whether its transaction waits for it or not
abbrev pub OnGrantIsSound : Type 0
OnGrantIsSound =
    (g : Grant) (owned : Bool) (w : HomeWork) (x : Arrived) → IsHome w.home → IsImage w.home.config.size (image_of g.copy) → IsReadable g.page g.version (image_of g.copy) w
    → on_grant g owned w ≡ Goes x → IsHome x.work.home
