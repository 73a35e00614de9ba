-- A home where nothing was begun.
use Rattle.std.proofs.Common.{◌≡◌, ℕ, ◌==◌, ◌||◌, ◌&&◌, Bool, true, false, [], Option, None, is_some, IfSome, refl, ap, sym, subst, ◌∙◌, arith}
use Rattle.std.proofs.lemmas.List.Elements.{All-nil}
use Rattle.pcl_base.specs.declared.tx.TxId.{TxId}
use Rattle.pcl_base.specs.declared.lock.Held.{Held}
use Rattle.pcl_base.specs.declared.lock.Pending.{Pending}
use Rattle.node_rules.specs.Words.{pick, covers}
use Rattle.node_rules.specs.OpenTxs.{OpenTxs, with_serial, lock_on, held_by, mode_held, pending_of, pages_of_open, waiting_of_open, open_at}
use Rattle.node_rules.specs.BufferRule.{slot_in, private_in}
use Rattle.node_rules.specs.NodeState.{runs_at}
use Rattle.node_rules.specs.Shelf.{right_on}
use Rattle.home_laws.specs.Homes.{IsAccess, AreWrittenRuns, is_exclusive_lock, is_right_lock, is_write_of}
use Rattle.home_laws.specs.Laws.{OpenHomeIsSound}

-- no transaction is open where none is in the list
none_open : (node born last : ℕ) (t : TxId) → open_at (record { node = node; born = born; last = last; txs = [] }) t ≡ None
unfolding with_serial
none_open node born last t = by_own (t.node == node && t.born == born)
  where
    by_own : (b : Bool) → pick b (with_serial [] t.serial) None ≡ None
    by_own true = refl
    by_own false = refl

-- so none holds a page or waits for one
none_held : (node born last : ℕ) (t : TxId) (p : ℕ) → held_by (record { node = node; born = born; last = last; txs = [] }) t p ≡ None
unfolding lock_on
none_held node born last t p = ap (λ o. lock_on (pages_of_open o) p) (none_open node born last t)

none_waits : (node born last : ℕ) (t : TxId) → pending_of (record { node = node; born = born; last = last; txs = [] }) t ≡ None
none_waits node born last t = ap waiting_of_open (none_open node born last t)

pub open_home_is_sound_law : OpenHomeIsSound
unfolding slot_in private_in runs_at right_on
open_home_is_sound_law c me born limits node =
    let s : OpenTxs = record { node = me; born = born; last = 0; txs = [] } in
    let held = λ (t : TxId) (p : ℕ). none_held me born 0 t p in
    let waits = λ (t : TxId). none_waits me born 0 t in
    record {
      buffer =
          record {
            frames = (omega (arith, limits.least_frames), limits.most_frames);
            within = omega arith;
            copies = All-nil _;
            images = All-nil _;
            one_slot = λ p. omega arith;
            one_private = λ t p. omega arith;
          };
      sizes = (refl, refl);
      txs = record { node = node; few = omega arith; serials = omega arith; once = All-nil _; born = λ h. absurd (omega arith) };
      pins = λ p. refl;
      kept = All-nil _;
      below = All-nil _;
      held = λ t p h. let bad : false ≡ true = ap is_some (sym (held t p)) ∙ h in absurd (cc);
      waits = λ t. subst (λ (o : Option Pending). IfSome o (IsAccess c)) (sym (waits t)) tt;
      needed = λ t. subst (λ (o : Option Pending). IfSome o (λ w. covers (mode_held (held_by s t w.page)) w.mode ≡ false)) (sym (waits t)) tt;
      privates = λ t p. ap (λ (o : Option Held). is_exclusive_lock o || is_write_of None p) (sym (held t p)) ∙ ap (λ (o : Option Pending). is_exclusive_lock (held_by s t p) || is_write_of o p) (sym (waits t));
      filled = λ t p. ap is_exclusive_lock (sym (held t p));
      runs = λ t p. subst (λ (o : Option Held). AreWrittenRuns c.size (is_exclusive_lock o) []) (sym (held t p)) refl;
      readers = λ p. All-nil _;
      reading = λ t p h. let bad : false ≡ true = ap is_right_lock (sym (held t p)) ∙ h in absurd (cc);
    }
