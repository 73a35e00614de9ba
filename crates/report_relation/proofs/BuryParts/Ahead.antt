-- Nobody is ahead of a report.
use Rattle.std.proofs.Common.{◌≡◌, ◌≢◌, inl, inr, refl, ap, sym, ◌∙◌, ℕ, ◌<◌, ◌||◌, Bool, true, false, List, [], ◌∷◌, Some, None, arith}
use Rattle.std.specs.List.{AllByRecursion}
use Rattle.pcl_base.specs.declared.event.Event.{Event}
use Rattle.pcl_base.specs.declared.lock.Waiter.{Waiter}
use Rattle.pcl_base.specs.declared.tx.Mode.{Mode}
use Rattle.pcl_base.specs.declared.tx.Mode.TheVariants.{Exclusive}
use Rattle.pcl_base.specs.declared.tx.TxId.{TxId}
use Rattle.run_rules.specs.Views.{View, born_of, since_of}
use Rattle.rule_laws.proofs.Turns.{same_equal}
use Rattle.node_rules.specs.LockRule.{waits_in}
use Rattle.node_rules.specs.LockTable.{LockTable, entry_at, marked}
use Rattle.node_rules.specs.NodeState.{partition}
use Rattle.node_rules.specs.Words.{same_tx}
use Rattle.node_rules.specs.Work.{Work}
use Rattle.cluster_rules.specs.Clusters.{Cluster}
use Rattle.cluster_laws.specs.Era.Eras.{era_in}
use Rattle.kept_relation.proofs.Purged.{own_table}
use Rattle.page_protocol.specs.Laws.{LaterAreUsed}
use Rattle.page_protocol.specs.State.{Page}
use Rattle.page_relation.specs.Work.Keeping.{IsWorkOf}
use Rattle.page_relation.specs.Work.Landing.{land}
use Rattle.report_relation.specs.Bury.Whole.{NobodyIsAhead, UsersAreBorn, WaitsFor}

-- who has a script was born before the era
pub born_of_script : (c : Cluster) (e : Event) (n p : ℕ) (w : Work) (a : Page) (era : ℕ) (t : TxId) → UsersAreBorn c e n p w era → IsWorkOf c e n p w a → a.script t ≢ [] → t.born < era
unfolding land
born_of_script c e n p w a era t users is used = users t (λ none. used (is.homes.scripts t ∙ none))

-- so was who is listed in a later era
pub born_of_listed : (c : Cluster) (e : Event) (n p : ℕ) (w : Work) (a : Page) (era f : ℕ) (t : TxId) (m : Mode) → UsersAreBorn c e n p w era → LaterAreUsed a → IsWorkOf c e n p w a
    → a.era < f → a.listed t f ≡ Some m → t.born < era
born_of_listed c e n p w a era f t m users later is after on =
    born_of_script c e n p w a era t users is (later t f after (λ none. let bad : Some m ≡ None = sym on ∙ none in absurd (cc)))

nobody_waits : (v : View) (t : LockTable) (era : ℕ) (u : TxId) (ws : List Waiter) → marked t u.node ≡ false → u.born < era → AllByRecursion (WaitsFor v t era) ws → waits_in ws u ≡ false
nobody_waits v t era u [] off born all = refl
nobody_waits v t era u (x ∷ xs) off born all = by (same_tx x.tx u) refl (nobody_waits v t era u xs off born all.1)
  where
    never : WaitsFor v t era x → x.tx ≡ u → ⊥
    never waits same =
        elim waits.marks [
          | inl on ↦ (let bad : true ≡ false = sym on ∙ (ap (λ (k : TxId). marked t k.node) same ∙ off) in absurd (cc))
          | inr after ↦
              (let lives : x.tx.born ≡ born_of v x.tx.node = waits.living.born in
              let own : x.tx.born ≡ u.born = ap (λ (k : TxId). k.born) same in
              omega (arith, lives, own, after, born))
        ]

    by : (b : Bool) → same_tx x.tx u ≡ b → waits_in xs u ≡ false → (b || waits_in xs u) ≡ false
    by true is rest = absurd (never all.0 (same_equal x.tx u is))
    by false is rest = rest

pub nobody_is_ahead_law : NobodyIsAhead
nobody_is_ahead_law c e n p v t w a acts viewed there off waits users later is u unmarked writes =
    nobody_waits v t (since_of v (partition c.config p)) u (entry_at t p).waiting unmarked
    (born_of_listed c e n p w a (since_of v (partition c.config p)) (era_in w.node.view (partition c.config p)) u Exclusive users later is
    (own_table c e n p t w a false acts there off is).later writes) waits
