-- A page that a transaction wrote at its home is one that its script writes.
use Rattle.std.proofs.Common.{◌≡◌, ◌≢◌, refl, sym, ◌∙◌, ℕ, ◌==◌, ◌||◌, Bool, true, false, List, [], ◌∷◌, map, Option, Some, None, is_some, eqb-true}
use Rattle.std.specs.List.{AllByRecursion, list_any}
use Rattle.pcl_base.specs.declared.log.Logged.{Logged}
use Rattle.pcl_base.specs.declared.script.Step.{Step}
use Rattle.pcl_base.specs.declared.script.Step.TheVariants as step
use Rattle.pcl_base.specs.declared.tx.TxId.{TxId}
use Rattle.run_rules.specs.Running as running
use Rattle.run_rules.specs.Words.{pick}
use Rattle.home_laws.specs.Homes.{IsHome, is_exclusive_lock}
use Rattle.node_rules.specs.BufferRule.{private_bytes}
use Rattle.node_rules.specs.EndRule.{pages_written, logged, commit_record, is_written}
use Rattle.node_rules.specs.NodeState.{HomeState}
use Rattle.node_rules.specs.OpenTxs.{held_by, pending_of}
use Rattle.page_protocol.specs.Bytes.{Read, Write, writes}
use Rattle.page_laws.specs.Moment.Looks.{accesses_of}
use Rattle.page_laws.proofs.WrittenParts.Logging.{record_has_written_law}

-- accesses of a page write where a step writes it
pub accesses_write : (p : ℕ) (steps : List Step) → writes (accesses_of p steps) ≡ list_any (running.writes p) steps
unfolding accesses_of
accesses_write p [] = refl
accesses_write p (step.Read q bytes ∷ steps) = by (q == p) (accesses_write p steps)
  where
    by : (b : Bool) → writes (accesses_of p steps) ≡ list_any (running.writes p) steps → writes (pick b (Read bytes ∷ accesses_of p steps) (accesses_of p steps)) ≡ list_any (running.writes p) steps
    by true rest = rest
    by false rest = rest
accesses_write p (step.Write q place bytes ∷ steps) = by (q == p) (accesses_write p steps)
  where
    by : (b : Bool) → writes (accesses_of p steps) ≡ list_any (running.writes p) steps → writes (pick b (Write place bytes ∷ accesses_of p steps) (accesses_of p steps)) ≡ b || list_any (running.writes p) steps
    by true rest = refl
    by false rest = rest

-- pages that a record doesn't have
not_among : (h : HomeState) (t : TxId) (q : ℕ) (ps : List ℕ) → AllByRecursion (λ (x : Logged). x.page ≢ q) (map (logged h t) ps) → list_any (λ x. x == q) ps ≡ false
not_among h t q [] all = refl
not_among h t q (p ∷ ps) all = by (p == q) refl (not_among h t q ps all.1)
  where
    by : (b : Bool) → (p == q) ≡ b → list_any (λ x. x == q) ps ≡ false → b || list_any (λ x. x == q) ps ≡ false
    by true e rest = absurd (all.0 (eqb-true p q e))
    by false e rest = rest

not_written : (h : HomeState) (t : TxId) (q : ℕ) → AllByRecursion (λ (x : Logged). x.page ≢ q) (commit_record h t).changes → is_written h t q ≡ false
unfolding commit_record
not_written h t q all = not_among h t q (pages_written h t) all

-- who has written a page and waits for nothing holds it exclusively
pub written_exclusive : (h : HomeState) (t : TxId) (q : ℕ) → IsHome h → pending_of h.txs t ≡ None → is_written h t q ≡ true → is_exclusive_lock (held_by h.txs t q) ≡ true
written_exclusive h t q home free wrote = sym (home.filled t q) ∙ by (private_bytes h.pool t q) refl
  where
    by : (o : Option (List ℕ)) → private_bytes h.pool t q ≡ o → is_some o ≡ true
    by (Some bytes) is = refl
    by None is = let bad : false ≡ true = sym (not_written h t q ((record_has_written_law h t home free).others q is)) ∙ wrote in absurd (cc)
