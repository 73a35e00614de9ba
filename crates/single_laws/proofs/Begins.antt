-- A transaction begins at a node that is alone, where none is open.
use Rattle.std.proofs.Common.{◌≡◌, refl, sym, ap, subst, ◌∙◌, ℕ, ◌+◌, ◌≤◌, ◌==◌, ◌&&◌, Bool, true, false, [], ◌∷◌, ◌++◌, length, None, Some, is_some, arith, ◌-◌, ◌^◌, nat_le, ◌<◌}
use Rattle.std.specs.Prelude.{Option}
use Rattle.std.proofs.lemmas.Bool.Decides.{nat_tests}
use Rattle.std.proofs.lemmas.List.{length-append}
use Rattle.pcl_base.specs.Limits.{Sizes}
use Rattle.pcl_base.specs.declared.tx.TxId.{TxId}
use Rattle.pcl_base.specs.declared.event.Event.TheVariants as event
use Rattle.pcl_base.specs.declared.lock.Held.{Held}
use Rattle.run_rules.specs.Base.{version_at, bytes_at}
use Rattle.run_rules.specs.Disk.{Disk}
use Rattle.run_rules.specs.Now.{Story}
use Rattle.node_rules.specs.Words.{pick}
use Rattle.node_rules.specs.OpenTxs.{OpenTx, OpenTxs, is_own, open_at, with_serial, name_of, held_by, lock_on, mode_held, pages_of_open, waiting_of_open, begin}
use Rattle.node_rules.specs.BufferRule.{private_bytes}
use Rattle.node_rules.specs.LockTable.{LockTable}
use Rattle.node_rules.specs.NodeState.{HomeState}
use Rattle.node_rules.specs.NodeState as node
use Rattle.node_rules.specs.Refusals.{refuse_if, refusal}
use Rattle.node_rules.specs.NodeStep.{do_event, nodestep}
use Rattle.home_laws.specs.Homes.{is_exclusive_lock}
use Rattle.home_laws.proofs.Tests.{none_there, number_same}
use Rattle.home_laws.proofs.Ends.{begin_is_sound_law}
use Rattle.pcl_base.specs.declared.reply.Reason.TheVariants as reason
use Rattle.node_rules.specs.AccessRule.{bytes_or}
use Rattle.page_laws.proofs.WrittenParts.Patches.{byte}
use Rattle.single_laws.proofs.Copies.{not_refused}
use Rattle.single_laws.proofs.Working.{Working, nothing}
use Rattle.single_laws.proofs.Told.{tx, begun_fits}
use Rattle.single_laws.proofs.Pages.{same_copies}
use Rattle.single_laws.proofs.Entries.{held_entry}
use Rattle.single_laws.proofs.Alone.{look_of, IsOwn, Busy, Idle, Who, Nobody, Somebody, Alone, fresh_work, node_of, StepOk, alone_again}
use Rattle.single_laws.proofs.Nodes.{by_refusal}

-- the transaction that begins, and where none is open
abbrev new_tx : ℕ → OpenTx
new_tx last = record { serial = last + 1; pages = []; waiting = None }

begun_at : (s : OpenTxs) → s.node ≡ 0 → s.born ≡ 1 → s.txs ≡ [] → open_at (begin s) (tx (s.last + 1)) ≡ Some (new_tx s.last)
unfolding begin with_serial
begun_at s node born none =
    ap (λ xs. pick (0 == s.node && 1 == s.born) (with_serial (xs ++ new_tx s.last ∷ []) (s.last + 1)) None) none
    ∙ ap (λ b. pick (0 == s.node && 1 == s.born) (pick b (Some (new_tx s.last)) None) None) (number_same (s.last + 1))
    ∙ ap (λ b. pick b (Some (new_tx s.last)) None) own
  where
    own : (0 == s.node && 1 == s.born) ≡ true
    own = grind (arith, nat_tests, node, born)

none_held : (s : OpenTxs) (t : TxId) (p : ℕ) → s.txs ≡ [] → held_by s t p ≡ None
unfolding with_serial lock_on
none_held s t p none =
    ap (λ xs. lock_on (pages_of_open (pick (is_own s t) (with_serial xs t.serial) None)) p) none ∙ by (is_own s t)
  where
    by : (b : Bool) → lock_on (pages_of_open (pick b None None)) p ≡ None
    by true = refl
    by false = refl

module _ (c : Sizes) (few : c.pages ≤ 65536) (one : c.nodes ≡ 1) (h : HomeState) (tb : LockTable) (d : Disk) (s : Story) (alone : Alone c h tb d s) where
  -- the node after it
  abbrev begun_home : HomeState
  begun_home = record h { txs = begin h.txs }

  module _ (idle : Idle h tb alone.base) where
    opened : open_at (begin h.txs) (tx (h.txs.last + 1)) ≡ Some (new_tx h.txs.last)
    opened = begun_at h.txs alone.kept.node alone.kept.born idle.none

    nothing_held : (p : ℕ) → held_by (begin h.txs) (tx (h.txs.last + 1)) p ≡ None
    unfolding lock_on
    nothing_held p = ap (λ o. lock_on (pages_of_open o) p) opened

    nothing_seen : (p : ℕ) → private_bytes h.pool (tx (h.txs.last + 1)) p ≡ None
    nothing_seen p =
        none_there (private_bytes h.pool (tx (h.txs.last + 1)) p)
        (alone.home.filled (tx (h.txs.last + 1)) p ∙ ap is_exclusive_lock (none_held h.txs (tx (h.txs.last + 1)) p idle.none))

    begun_busy : Busy begun_home tb alone.base s (tx (h.txs.last + 1))
    unfolding begin
    begun_busy =
        record {
          there = ap is_some opened;
          one = ap (λ xs. length (xs ++ new_tx h.txs.last ∷ [])) idle.none;
          name = refl;
          recent = omega arith;
          waits = ap waiting_of_open opened;
          own = λ p. subst (λ o. IsOwn o) (sym (nothing_held p)) tt;
          entries = λ p. idle.entries p ∙ ap (λ (o : Option Held). held_entry (version_at alone.base p) (tx (h.txs.last + 1)) (mode_held o)) (sym (nothing_held p));
          work =
              subst (λ steps. Working steps alone.base (look_of h.pool (tx (h.txs.last + 1)))) (sym (alone.kept.later (h.txs.last + 1) (omega arith)))
              (nothing alone.base (look_of h.pool (tx (h.txs.last + 1))) nothing_seen);
          wrote = λ p i none. ap (λ o. byte (bytes_or o (bytes_at alone.base p)) i) (nothing_seen p);
        }

    begun_alone : h.txs.last + 1 < 4294967296 → Alone c begun_home tb d s
    unfolding begin
    begun_alone more =
        alone_again c alone.base d s (fresh_work begun_home d) tb
        (begin_is_sound_law h alone.home (let none : length h.txs.txs ≡ 0 = ap length idle.none in omega (arith, none)) (let born = alone.kept.born in omega (arith, born)))
        (record {
          config = alone.kept.config;
          node = alone.kept.node;
          born = alone.kept.born;
          known = alone.kept.known;
          fine = alone.kept.fine;
          pages = same_copies c alone.base d (fresh_work h d) begun_home (λ q. refl) alone.kept.pages;
          serials = let under = alone.kept.serials in omega (arith, under, more);
          later = λ k above. alone.kept.later k (omega (arith, above));
        })
        alone.serving
        (Somebody (tx (h.txs.last + 1)) begun_busy)

  begins : h.txs.last + 1 < 4294967296 → length (begin h.txs).txs ≤ 1 → Alone c begun_home tb d s
  unfolding begin
  begins more few_open = by alone.who
    where
      by : Who h tb alone.base s → Alone c begun_home tb d s
      by (Nobody idle) = begun_alone idle more
      by (Somebody t busy) = let longer = length-append h.txs.txs (new_tx h.txs.last ∷ []) in let some = busy.one in absurd (omega (arith, longer, some, few_open))

  pub begin_step : (n : ℕ) → StepOk c (event.Begin n) s d (nodestep (node_of c h tb) node.Begin d)
  unfolding nodestep refusal do_event
  begin_step n =
      by_refusal c few one h tb d s alone (event.Begin n) node.Begin (refusal (node_of c h tb) node.Begin) refl
      (λ none few_open.
      let under = alone.kept.serials in
      let apart = (not_refused (h.txs.last == 2 ^ 32 - 1) reason.SerialEnd (refuse_if (nat_le 1024 (length h.txs.txs)) reason.TooMany None) none).0 in
      let more : h.txs.last + 1 < 4294967296 = grind (arith, nat_tests) in
      record {
        home = begun_home;
        table = tb;
        node = refl;
        quiet = refl;
        fits = λ sent. begun_fits s alone.base n (name_of h.txs (h.txs.last + 1)) sent _ alone.kept.known (begins more few_open);
      })
