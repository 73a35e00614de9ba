-- Steps without locks keep the account.
use Rattle.std.proofs.Common.{◌≡◌, refl, sym, subst, ℕ, List, [], ◌∷◌, ◌++◌, Some, None}
use Rattle.std.specs.List.{AllByRecursion}
use Rattle.pcl_base.specs.Limits.{Sizes}
use Rattle.pcl_base.specs.declared.event.Event.{Event}
use Rattle.pcl_base.specs.declared.event.Event.TheVariants as event
use Rattle.pcl_base.specs.declared.reply.Reply.TheVariants as reply
use Rattle.pcl_base.specs.declared.trace.Entry.{Entry}
use Rattle.run_rules.specs.Account.{IsAccounted}
use Rattle.run_rules.specs.Ledger.{Ledger, first_ledger}
use Rattle.cluster_rules.specs.Clusters.{Cluster, opening, lose, last_view}
use Rattle.cluster_rules.specs.ClusterStep.{all_nodes, returning, start_one, start_all, step}
use Rattle.cluster_rules.specs.Run.{run_from, run}
use Rattle.cluster_laws.specs.Sound.{IsCluster}
use Rattle.cluster_laws.proofs.Steps.{opening_is_cluster_law, step_keeps_clusters_law}
use Rattle.cluster_laws.proofs.LinkParts.Stepped.{sizes_stay_law}
use Rattle.account_relation.specs.Ledgers.{ledger_after, Leaves}
use Rattle.account_relation.specs.World.{NothingDiffers}
use Rattle.account_relation.proofs.ByKind.{Kinds, by_kind}
use Rattle.account_relation.proofs.Leaving.{ledgers_account_law, ledgers_go_on_law}
use Rattle.account_relation.proofs.SeenSteps.{opening_is_seen_law}
use Rattle.account_relation.proofs.SeenKinds.{steps_keep_seen_law}
use Rattle.account_relation.proofs.Telling.{entry, opening_is_world_law}
use Rattle.account_relation.proofs.Whole.{Made, steps_keep_world_law}
use Rattle.account_relation.specs.Step.Accounts.{HasAccount, OpeningHasAccount, AccountsAreAccounted, SendsNoLocks, StepsWithoutLocks, RunsAreAccounted}
use Rattle.account_relation.proofs.StepParts.Handed.{GoesOn, quiet_goes}
use Rattle.account_relation.proofs.StepParts.Caused.{made_goes}

-- ---- all kinds

-- what a step comes to
abbrev Comes : Cluster → Event → Cluster → Type 0
Comes c e d = NothingDiffers c e → SendsNoLocks c e → (m : Ledger) × Leaves c.config d.trace m

module _ (c : Cluster) (i : IsCluster c) (has : HasAccount c) where
  goes_on : (x : Entry) → GoesOn x has.ledger → (m : Ledger) × Leaves c.config (c.trace ++ x ∷ []) m
  goes_on x g = (g.ledger, ledgers_go_on_law c.config c.trace x has.ledger g.ledger has.leaves g.goes)

  started_trace : (k : ℕ) (ns : List ℕ) (d : Cluster) → (start_all k ns d).trace ≡ d.trace
  started_trace k [] d = refl
  started_trace k (n ∷ ns) d = started_trace k ns (start_one k d n)

  account_kinds : Kinds c (Comes c)
  unfolding lose
  account_kinds =
      record {
        refused = λ e r none free. goes_on (entry e (reply.Refused r ∷ []) [] None) (quiet_goes (entry e (reply.Refused r ∷ []) [] None) has.ledger refl);
        crashed = λ n none free. goes_on (entry (event.Crash n) (reply.Crashed ∷ []) [] None) (quiet_goes (entry (event.Crash n) (reply.Crashed ∷ []) [] None) has.ledger refl);
        armed = λ n call kept none free. goes_on (entry (event.Arm n call kept) (reply.Armed ∷ []) [] None) (quiet_goes (entry (event.Arm n call kept) (reply.Armed ∷ []) [] None) has.ledger refl);
        viewed = λ live owners v made drops none free.
            let x : Entry = entry (event.View live owners) (reply.Viewed v.epoch ∷ []) [] None in
            started (last_view c).epoch (returning (last_view c) v (all_nodes c)) x (goes_on x (quiet_goes x has.ledger refl));
        reopened = λ v made down none free.
            let x : Entry = entry event.Reopen (reply.Reopened v.epoch ∷ []) [] None in started (last_view c).epoch (all_nodes c) x (goes_on x (quiet_goes x has.ledger refl));
        differs = λ e n s ev page expected found h goes none free. absurd (none n s ev page expected found h goes);
        halts = λ e n s ev p d h goes left none free.
            let x : Entry = entry e [] [] (Some (record { call = d.call; kept = d.kept })) in goes_on x (quiet_goes x has.ledger refl);
        goes = λ e n s ev p h goes left none free.
            goes_on (Made c e n s ev p h goes) (made_goes c has.ledger i has.world has.seen e n s ev p h goes (free n s ev p h goes));
      }
    where
      started : (k : ℕ) (ns : List ℕ) (x : Entry) → (m : Ledger) × Leaves c.config (c.trace ++ x ∷ []) m → (m : Ledger) × Leaves c.config ((start_all k ns c).trace ++ x ∷ []) m
      started k ns x is = subst (λ (t : List Entry). (m : Ledger) × Leaves c.config (t ++ x ∷ []) m) (sym (started_trace k ns c)) is

pub steps_without_locks_law : StepsWithoutLocks
steps_without_locks_law c e i none free has =
    let next = by_kind c (Comes c) (account_kinds c i has) e none free in
    record {
      ledger = next.0;
      leaves = subst (λ (k : Sizes). Leaves k (step c e).trace next.0) (sym (sizes_stay_law c e)) next.1;
      world = steps_keep_world_law c e has.ledger next.0 none has.leaves next.1 has.world;
      seen = steps_keep_seen_law c e has.ledger next.0 i none has.leaves next.1 has.world has.seen;
    }

-- ---- runs

pub opening_has_account_law : OpeningHasAccount
unfolding opening ledger_after
opening_has_account_law c = record { ledger = first_ledger c; leaves = refl; world = opening_is_world_law c; seen = opening_is_seen_law c }

pub accounts_are_accounted_law : AccountsAreAccounted
accounts_are_accounted_law c has = ledgers_account_law c.config c.trace has.ledger has.leaves

accounted_from : ((k : Cluster) (e : Event) → IsCluster k → HasAccount k → HasAccount (step k e)) → (es : List Event) (c : Cluster) → IsCluster c → HasAccount c
    → AllByRecursion (λ (k : Cluster). IsAccounted k.config k.trace) (run_from c es)
unfolding run_from
accounted_from keeps [] c i has = (accounts_are_accounted_law c has, tt)
accounted_from keeps (e ∷ es) c i has = (accounts_are_accounted_law c has, accounted_from keeps es (step c e) (step_keeps_clusters_law c e i) (keeps c e i has))

pub runs_are_accounted_law : RunsAreAccounted
unfolding run
runs_are_accounted_law c es limits keeps = accounted_from keeps es (opening c) (opening_is_cluster_law c limits) (opening_has_account_law c)
