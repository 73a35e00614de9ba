-- A node goes on to a later era and reports: what messages and tables say stays.
use Rattle.std.proofs.Common.{◌≡◌, refl, ap, sym, subst, ◌∙◌, ℕ, ◌≤◌, ◌<◌, ◌==◌, ◌&&◌, Bool, true, false, Option, Some, None, ltb, leb, eqb, eqb-true, arith}
use Rattle.std.specs.List.{AllByRecursion}
use Rattle.std.proofs.lemmas.Bool.Decides.{nat_tests}
use Rattle.pcl_base.specs.declared.lock.Waiter.{Waiter}
use Rattle.pcl_base.specs.declared.message.Body.{Body}
use Rattle.pcl_base.specs.declared.message.Body.TheVariants as body
use Rattle.pcl_base.specs.declared.message.ReportWait.{ReportWait}
use Rattle.pcl_base.specs.declared.tx.Mode.{Mode}
use Rattle.pcl_base.specs.declared.tx.TxId.{TxId}
use Rattle.run_rules.specs.Views.{View}
use Rattle.node_rules.specs.LockTable.{LockTable, entry_at, marked}
use Rattle.node_rules.specs.NodeState.{NodeState, partition, table_at}
use Rattle.node_rules.specs.Words as rules
use Rattle.node_laws.proofs.Lists.{all_weaker}
use Rattle.cluster_rules.specs.Clusters.{Cluster, node_at}
use Rattle.cluster_laws.specs.Era.Eras.{era_at, era_in}
use Rattle.cluster_laws.proofs.EraParts.Ages.{eras_are_reached_law}
use Rattle.cluster_laws.specs.Sound.{IsCluster}
use Rattle.page_protocol.specs.Eras.{reported, with_report}
use Rattle.page_protocol.specs.State.{Page, Home, Ended, IsFresh, pick, updn, version_of}
use Rattle.page_relation.specs.Messages.{HasAsked, WaitIs, SaysSo}
use Rattle.page_relation.specs.Tables.{WaiterIs, TableIs, TableIn, TableOf}
use Rattle.page_relation.specs.Together.{IsOf, PartiesAre}
use Rattle.kept_relation.specs.Turn.Telling.{retold, homes_told, reported_on, IsHeard}
use Rattle.kept_relation.proofs.TurnParts.Narrowing.{all_weaker_both}
use Rattle.kept_relation.proofs.TurnParts.Reaching.{reached_here, reached_there, reached_up}
use Rattle.kept_relation.proofs.TurnParts.Retelling.{fresh_retold}

module _ (a : Page) (n next : ℕ) (low : a.era ≤ a.reached n) (below : a.reached n < next) where
  abbrev have : Option ℕ
  have = version_of (a.slot n)

  -- the homes of the node, and the others
  pub home_here : (t : TxId) → t.node ≡ n → homes_told a n t ≡ retold have (a.home t)
  home_here t is = ap (λ (b : Bool). pick b (retold have (a.home t)) (a.home t)) (let same : (t.node == n) ≡ true = grind (arith, nat_tests, is) in same)

  pub home_there : (t : TxId) → (t.node == n) ≡ false → homes_told a n t ≡ a.home t
  home_there t other = ap (λ (b : Bool). pick b (retold have (a.home t)) (a.home t)) other

  -- who asked
  pub asked_on : (t : TxId) (k : ℕ) (had : Option ℕ) → (t.node ≡ n → k < next) → HasAsked (a.reached t.node) k (a.home t) had → HasAsked (updn a.reached n next t.node) k (homes_told a n t) had
  asked_on t k had less is = by (t.node == n) refl
    where
      by : (b : Bool) → (t.node == n) ≡ b → HasAsked (updn a.reached n next t.node) k (homes_told a n t) had
      by true same =
          let at : t.node ≡ n = eqb-true t.node n same in
          record {
            begun = λ f. is.begun (fresh_retold have (a.home t) (subst IsFresh (home_here t at) f));
            told = λ now. absurd (let here = reached_here a.reached n next t.node at in let before = less at in omega (arith, now, here, before));
          }
      by false other =
          subst (λ (h : Home). HasAsked (updn a.reached n next t.node) k h had) (sym (home_there t other))
          (subst (λ (x : ℕ). HasAsked x k (a.home t) had) (sym (reached_there a.reached n next t.node other)) is)

  -- what eras list
  pub listed_on : (t : TxId) (k : ℕ) → (t.node ≡ n → k ≤ a.reached n) → with_report a.reached a.home a.listed n next t k ≡ a.listed t k
  listed_on t k upto = by (t.node == n) refl
    where
      by : (b : Bool) → (t.node == n) ≡ b → with_report a.reached a.home a.listed n next t k ≡ a.listed t k
      by true same =
          let le = upto (eqb-true t.node n same) in
          let no : ltb (a.reached n) k ≡ false = grind (arith, nat_tests, le) in
          ap (λ (b : Bool). pick (eqb t.node n && (b && leb k next)) (reported (a.home t)) (a.listed t k)) no ∙ none (eqb t.node n)
        where
          none : (b : Bool) → pick (b && false) (reported (a.home t)) (a.listed t k) ≡ a.listed t k
          none true = refl
          none false = refl
      by false other = ap (λ (b : Bool). pick (b && (ltb (a.reached n) k && leb k next)) (reported (a.home t)) (a.listed t k)) other

  -- what the new era lists
  pub listed_new : (t : TxId) → t.node ≡ n → with_report a.reached a.home a.listed n next t next ≡ reported (a.home t)
  listed_new t is =
      let same : eqb t.node n ≡ true = grind (arith, nat_tests, is) in
      let less : ltb (a.reached n) next ≡ true = grind (arith, nat_tests, below) in
      let upto : leb next next ≡ true = grind (arith, nat_tests) in
      (λ i. pick (same i && (less i && upto i)) (reported (a.home t)) (a.listed t next))

  -- who has ended
  ended_on : (t : TxId) (change : Option ℕ) (k : ℕ) → a.home t ≡ Ended change k → homes_told a n t ≡ Ended change k
  ended_on t change k is = (λ i. pick (t.node == n) (retold have (is i)) (is i)) ∙ both (t.node == n)
    where
      both : (b : Bool) → pick b (retold have (Ended change k)) (Ended change k) ≡ Ended change k
      both true = refl
      both false = refl

  -- the messages
  pub says_told : (c : Cluster) (v : View) (p from to epoch k : ℕ) (m : Body) → (from ≡ n → k < next) → PartiesAre c v from to epoch m
      → SaysSo a.era a.hist a.reached a.listed a.right a.home a.sent p from to k m
      → SaysSo a.era a.hist (updn a.reached n next) (with_report a.reached a.home a.listed n next) a.right (homes_told a n) a.sent p from to k m
  says_told c v p from to epoch k (body.Request x) less party is = asked_on x.tx k x.have (λ at. less (sym party.1.node ∙ at)) is
  says_told c v p from to epoch k (body.Grant g) less party is = is
  says_told c v p from to epoch k (body.Release x) less party is = (ended_on x.tx _ k is.0, is.1)
  says_told c v p from to epoch k (body.Revoke page) less party is = is
  says_told c v p from to epoch k (body.Return x) less party is = is
  says_told c v p from to epoch k (body.Report x) less party is =
      record {
        later = is.later;
        reaches = (let one = is.reaches in let two = reached_up a.reached n next from (omega (arith, below)) in omega (arith, one, two));
        locks = λ t same. is.locks t same ∙ sym (listed_on t k (λ at. subst (λ (y : ℕ). k ≤ a.reached y) (sym same ∙ at) is.reaches));
        rights = is.rights;
        waits =
            all_weaker_both (λ (y : ReportWait). IsOf v from y.tx) (WaitIs a.reached a.home p k) (WaitIs (updn a.reached n next) (homes_told a n) p k)
            (λ y of old here. asked_on y.tx k y.have (λ at. less (sym of.node ∙ at)) (old here)) x.waits party.3 is.waits;
      }

  -- a table
  table_told : (p m k : ℕ) (o : Option LockTable) → ((t : LockTable) → o ≡ Some t → AllByRecursion (λ (x : Waiter). k ≤ a.reached x.tx.node) (entry_at t p).waiting)
      → TableIn a p m k o → TableIn (reported_on a n next) p m k o
  table_told p m k None heard is = tt
  table_told p m k (Some t) heard is = by t.serving is
    where
      by : (b : Bool) → TableIs a p m k b t → TableIs (reported_on a n next) p m k b t
      by true i =
          record {
            serves = i.serves;
            here = i.here;
            now = i.now;
            version = i.version;
            holders = λ u. i.holders u ∙ sym (listed_on u a.era (λ at. low));
            rights = i.rights;
            waiting =
                all_weaker (WaiterIs a.reached a.home a.era) (WaiterIs (updn a.reached n next) (homes_told a n) a.era)
                (λ x. asked_on x.tx a.era x.have (λ at. omega (arith, low, below))) (entry_at t p).waiting i.waiting;
            writers = i.writers;
          }
      by false i =
          record {
            later = i.later;
            reaches = λ y on. (let one = i.reaches y on in let two = reached_up a.reached n next y (omega (arith, below)) in omega (arith, one, two));
            holders = λ u. i.holders u ∙ marks u (marked t u.node) refl;
            rights = i.rights;
            waiting =
                all_weaker_both (λ (x : Waiter). k ≤ a.reached x.tx.node) (WaiterIs a.reached a.home k) (WaiterIs (updn a.reached n next) (homes_told a n) k)
                (λ x le. asked_on x.tx k x.have (λ at. (let upto : k ≤ a.reached n = subst (λ (y : ℕ). k ≤ a.reached y) at le in omega (arith, upto, below))))
                (entry_at t p).waiting (heard t refl) i.waiting;
            writers = i.writers;
          }
        where
          marks : (u : TxId) (b : Bool) → marked t u.node ≡ b → rules.pick (marked t u.node) (a.listed u k) None ≡ rules.pick (marked t u.node) (with_report a.reached a.home a.listed n next u k) None
          marks u true on =
              ap (λ (o : Option Mode). rules.pick (marked t u.node) o None)
              (sym (listed_on u k (λ at. subst (λ (y : ℕ). k ≤ a.reached y) at (i.reaches u.node on))))
          marks u false off =
              ap (λ (b : Bool). rules.pick b (a.listed u k) None) off
              ∙ sym (ap (λ (b : Bool). rules.pick b (with_report a.reached a.home a.listed n next u k) None) off)

  pub table_of_told : (c : Cluster) (p m : ℕ) (o : Option NodeState) → IsHeard c p a → node_at c m ≡ o → TableOf a p (partition c.config p) m o → TableOf (reported_on a n next) p (partition c.config p) m o
  table_of_told c p m None heard at is = tt
  table_of_told c p m (Some x) heard at is = table_told p m (era_in x.view (partition c.config p)) (table_at x (partition c.config p)) (λ t there. heard m x t at there) is

-- an era isn't above its epoch
pub era_below : (c : Cluster) (q epoch last next : ℕ) → IsCluster c → epoch ≤ last → last < next → era_at c q epoch < next
era_below c q epoch last next i le less = let upto = eras_are_reached_law c q epoch i in omega (arith, upto, le, less)
