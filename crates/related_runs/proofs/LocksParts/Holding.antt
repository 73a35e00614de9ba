-- Changes by which nobody comes to hold a page.
use Rattle.std.proofs.Common.{◌≡◌, ◌≢◌, refl, ap, ◌∙◌, ℕ, ◌==◌, ◌&&◌, Bool, true, false, List, [], Option, Some, None, option_map}
use Rattle.pcl_base.specs.declared.lock.Held.{Held}
use Rattle.page_laws.proofs.LookParts.Granting.{spending_is_seen_law}
use Rattle.page_laws.proofs.LookParts.Turning.{taking_over_is_seen_law, giving_up_is_seen_law}
use Rattle.node_rules.specs.NodeState.{partition}
use Rattle.node_rules.specs.OpenTxs.{OpenTx, OpenTxs, held_by, is_own, lock_on, pages_of_open, with_serial}
use Rattle.node_rules.specs.Shelf.{right_on, readers_of}
use Rattle.node_rules.specs.Words.{pick, among}
use Rattle.related_runs.specs.Locks.Holders.{HoldsNoMore, NobodyComesToHold}
use Rattle.related_runs.proofs.LocksParts.Leaving.{none_held}

-- who holds the same, or it with another kind
same_held : (o r : Option Held) → o ≡ r → o ≢ None → r ≢ None
same_held o r same some e = some (same ∙ e)

kind_held : (b : Bool) (f : Held → Held) (r : Option Held) → pick b (option_map f r) r ≢ None → r ≢ None
kind_held true f None some e = some refl
kind_held true f (Some l) some e = cc
kind_held false f r some e = some e

changed : (b : Bool) (f : Held → Held) (o r : Option Held) → o ≡ pick b (option_map f r) r → o ≢ None → r ≢ None
changed b f o r same some = kind_held b f r (same_held o (pick b (option_map f r) r) same some)

idle_holds : (p : ℕ) (s x : OpenTxs) → x.txs ≡ [] → HoldsNoMore p s x
idle_holds p s x none t some =
    absurd
    (some
    (ap (λ (xs : List OpenTx). lock_on (pages_of_open (pick (is_own x t) (with_serial xs t.serial) None)) p) none ∙ none_held (is_own x t) t.serial p))

pub nobody_comes_to_hold_law : NobodyComesToHold
nobody_comes_to_hold_law p =
    record {
      self = λ s t held. held;
      then = λ r s x one two t held. one t (two t held);
      idle = idle_holds p;
      same = λ h g uses t held. same_held (held_by g.txs t p) (held_by h.txs t p) (uses.held t) held;
      taken = λ q h t held. changed (partition h.config p == q) _ _ (held_by h.txs t p) ((taking_over_is_seen_law q h).locks.held t p) held;
      given = λ q n t held. changed (partition n.home.config p == q) _ _ (held_by n.home.txs t p) ((giving_up_is_seen_law q n).locks.held t p) held;
      spent = λ k q h home t held. changed (p == q && among (readers_of (right_on h.shelf q)) t) _ _ (held_by h.txs t p) ((spending_is_seen_law k q h home).held t p) held;
    }
