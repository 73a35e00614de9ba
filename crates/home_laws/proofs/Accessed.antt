-- An access that isn't refused keeps the home sound: it is of a page that is held, is done under the
-- right of the node, or waits.
use Rattle.std.proofs.Common.{◌≡◌, Bool, true, false, None, is_some, refl, sym, subst}
use Rattle.node_rules.specs.Words.{pick}
use Rattle.node_rules.specs.OpenTxs.{held_by}
use Rattle.node_rules.specs.NodeState.{HomeState}
use Rattle.node_rules.specs.BufferRule.{Pool, find}
use Rattle.node_rules.specs.Work.{HomeWork, with_pool}
use Rattle.node_rules.specs.AccessRule.{Access, perform, now_done, next_of, under_right, waiting, is_held, is_allowed, access_in, access, take_frames}
use Rattle.home_laws.specs.Homes.{IsHome}
use Rattle.home_laws.specs.AccessLaws.{AccessIsSound}
use Rattle.home_laws.proofs.Allowed.{MayAccess, allowed}
use Rattle.home_laws.proofs.Frames.{frames_taken, frames_home}
use Rattle.home_laws.proofs.Taken.{IsTaken, taken}
use Rattle.home_laws.proofs.HeldAccess.{held_sound}
use Rattle.home_laws.proofs.RightAccess.{right_sound}
use Rattle.home_laws.proofs.WaitingAccess.{wait_is_sound}

module _ (a : Access) (h : HomeState) (home : IsHome h) (may : MayAccess a h) (b : Pool) (is : IsTaken h a.tx a.page (is_some a.write) (is_some (held_by h.txs a.tx a.page)) b) where
  -- one of the three
  pub access_in_sound : (owned : Bool) (w : HomeWork) → IsHome (access_in a owned (record w { home = with_pool h b })).work.home
  unfolding access_in
  access_in_sound owned w = by (is_held a h) refl (is_allowed a owned (with_pool h b)) refl
    where
      by : (c : Bool) → is_held a h ≡ c → (d : Bool) → is_allowed a owned (with_pool h b) ≡ d
          → IsHome (pick c (now_done (perform a.tx a.page a.write (record w { home = with_pool h b })))
          (pick d (now_done (perform a.tx a.page None (record w { home = under_right a.tx a.page (with_pool h b) })))
          (record { next = next_of a owned (find b a.page); work = record w { home = waiting a (with_pool h b) } }))).work.home
      by true e d f = held_sound a h home may b is w e
      by false e true f = right_sound a h home may b is w owned e f
      by false e false f = wait_is_sound a h home may b is e

-- an access that isn't refused
pub access_sound : AccessIsSound
unfolding access
access_sound a owned w home none =
    let may = allowed a w.home none in
    let sound = access_in_sound a w.home home may (frames_taken w.home a) (taken a w.home home may) owned (take_frames a w) in
    subst (λ (h : HomeState). IsHome (access_in a owned (record (take_frames a w) { home = h })).work.home) (sym (frames_home a w)) sound
