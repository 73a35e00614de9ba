-- The steps of a node that is alone, event by event.
use Rattle.std.proofs.Common.{◌≡◌, refl, sym, ap, subst, ◌∙◌, ℕ, ◌≤◌, ◌==◌, Bool, true, false, List, [], ◌∷◌, length, None, Some, is_some, arith}
use Rattle.std.specs.Prelude.{Option}
use Rattle.pcl_base.specs.Limits.{Sizes}
use Rattle.pcl_base.specs.declared.tx.TxId.{TxId}
use Rattle.pcl_base.specs.declared.event.Event.{Event}
use Rattle.pcl_base.specs.declared.event.Event.TheVariants as event
use Rattle.pcl_base.specs.declared.reply.Reason.{Reason}
use Rattle.run_rules.specs.Disk.{Disk}
use Rattle.run_rules.specs.Now.{Story}
use Rattle.node_rules.specs.Words.{pick}
use Rattle.node_rules.specs.OpenTxs.{OpenTx, OpenTxs, is_own, is_open, with_serial}
use Rattle.node_rules.specs.LockTable.{LockTable}
use Rattle.node_rules.specs.NodeState.{HomeState, NodeState, NodeEvent}
use Rattle.node_rules.specs.NodeState as node
use Rattle.node_rules.specs.Refusals.{refusal}
use Rattle.node_rules.specs.Work.{and_so}
use Rattle.node_rules.specs.NodeStep.{plan_of, begin_work, unless_refused, do_event, nodestep}
use Rattle.home_laws.specs.Refused.{access_refusal}
use Rattle.home_laws.proofs.Tests.{number_equal, and_left, and_right}
use Rattle.home_laws.proofs.OneTx.{open_own}
use Rattle.home_laws.proofs.Allowed.{MayAccess, allowed}
use Rattle.single_laws.proofs.Told.{refused_fits}
use Rattle.single_laws.proofs.Alone.{Busy, Who, Nobody, Somebody, Alone, node_of, StepOk}
use Rattle.single_laws.proofs.Accessed.{access_is}

-- the one open transaction
one_serial : (xs : List OpenTx) (m n : ℕ) → length xs ≡ 1 → is_some (with_serial xs m) ≡ true → is_some (with_serial xs n) ≡ true → m ≡ n
unfolding with_serial
one_serial [] m n one a b = absurd (cc)
one_serial (x ∷ []) m n one a b = by (x.serial == m) refl (x.serial == n) refl a b
  where
    by : (d : Bool) → (x.serial == m) ≡ d → (e : Bool) → (x.serial == n) ≡ e → is_some (pick d (Some x) None) ≡ true → is_some (pick e (Some x) None) ≡ true → m ≡ n
    by true f true g a b = sym (number_equal x.serial m f) ∙ number_equal x.serial n g
    by false f e g a b = absurd (cc)
    by true f false g a b = absurd (cc)
one_serial (x ∷ y ∷ xs) m n one a b = absurd (omega (arith, one))

same_open : (s : OpenTxs) (t u : TxId) → length s.txs ≡ 1 → is_open s t ≡ true → is_open s u ≡ true → t ≡ u
same_open s t u one a b =
    let x = open_own s t a in
    let y = open_own s u b in
    let node : t.node ≡ u.node = number_equal t.node s.node (and_left (t.node == s.node) (t.born == s.born) x) ∙ sym (number_equal u.node s.node (and_left (u.node == s.node) (u.born == s.born) y)) in
    let born : t.born ≡ u.born = number_equal t.born s.born (and_right (t.node == s.node) (t.born == s.born) x) ∙ sym (number_equal u.born s.born (and_right (u.node == s.node) (u.born == s.born) y)) in
    let serial : t.serial ≡ u.serial
    = one_serial s.txs t.serial u.serial one (subst (λ o. is_some (pick o (with_serial s.txs t.serial) None) ≡ true) x a) (subst (λ o. is_some (pick o (with_serial s.txs u.serial) None) ≡ true) y b) in
    (λ i. record { node = node i; born = born i; serial = serial i })

none_open : (s : OpenTxs) (t : TxId) → s.txs ≡ [] → is_open s t ≡ true → ⊥
unfolding with_serial
none_open s t none e =
    let none_at : is_some (with_serial s.txs t.serial) ≡ false = ap (λ xs. is_some (with_serial xs t.serial)) none in
    by (is_own s t) (with_serial s.txs t.serial) e none_at
  where
    by : (b : Bool) (o : Option OpenTx) → is_some (pick b o None) ≡ true → is_some o ≡ false → ⊥
    by true o f g = cc
    by false o f g = cc

module _ (c : Sizes) (few : c.pages ≤ 65536) (one : c.nodes ≡ 1) (h : HomeState) (tb : LockTable) (d : Disk) (s : Story) (alone : Alone c h tb d s) where
  -- a transaction that is open is the one that is
  pub busy_of : (t : TxId) → is_open h.txs t ≡ true → Busy h tb alone.base s t
  busy_of t there = by alone.who
    where
      by : Who h tb alone.base s → Busy h tb alone.base s t
      by (Nobody idle) = absurd (none_open h.txs t idle.none there)
      by (Somebody u busy) = subst (λ v. Busy h tb alone.base s v) (sym (same_open h.txs t u busy.one there busy.there)) busy

  -- a refused event
  pub refused_is : (e : Event) (r : Reason) (ev : NodeEvent) → StepOk c e s d (and_so (unless_refused (Some r) d ev (begin_work (node_of c h tb) d)) plan_of)
  refused_is e r ev few_open = record { home = h; table = tb; node = refl; quiet = refl; fits = λ sent. refused_fits s alone.base e r sent _ alone.kept.known alone }

  -- an event that may be refused
  pub by_refusal : (e : Event) (ev : NodeEvent) (o : Option Reason) → refusal (node_of c h tb) ev ≡ o
      → (refusal (node_of c h tb) ev ≡ None → StepOk c e s d (and_so (do_event d ev (begin_work (node_of c h tb) d)) plan_of))
      → StepOk c e s d (and_so (unless_refused o d ev (begin_work (node_of c h tb) d)) plan_of)
  by_refusal e ev (Some r) f go = refused_is e r ev
  by_refusal e ev None f go = go f

  pub read_step : (t : TxId) (p : ℕ) → StepOk c (event.Read t p) s d (nodestep (node_of c h tb) (node.Read t p) d)
  unfolding nodestep refusal do_event access_refusal
  read_step t p =
      by_refusal (event.Read t p) (node.Read t p) (refusal (node_of c h tb) (node.Read t p)) refl
      (λ none.
      let may : MayAccess (record { tx = t; page = p; write = None }) h = allowed (record { tx = t; page = p; write = None }) h none in
      access_is c alone.base d s h tb (record { tx = t; page = p; write = None }) few one alone.home alone.kept (busy_of t may.there) alone.serving may)

  pub write_step : (t : TxId) (p place : ℕ) (bytes : List ℕ) → StepOk c (event.Write t p place bytes) s d (nodestep (node_of c h tb) (node.Write t p place bytes) d)
  unfolding nodestep refusal do_event access_refusal
  write_step t p place bytes =
      by_refusal (event.Write t p place bytes) (node.Write t p place bytes) (refusal (node_of c h tb) (node.Write t p place bytes)) refl
      (λ none.
      let may : MayAccess (record { tx = t; page = p; write = Some (place, bytes) }) h = allowed (record { tx = t; page = p; write = Some (place, bytes) }) h none in
      access_is c alone.base d s h tb (record { tx = t; page = p; write = Some (place, bytes) }) few one alone.home alone.kept (busy_of t may.there) alone.serving may)
