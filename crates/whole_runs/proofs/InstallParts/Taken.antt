-- The turn of a partition that the node gets.
use Rattle.std.proofs.Common.{◌≡◌, refl, ap, sym, subst, ◌∙◌, ℕ, ◌+◌, ◌<◌, ◌==◌, Bool, true, false, List, Some, None, eqb-true, arith}
use Rattle.std.specs.Prelude.{◌≢◌}
use Rattle.std.specs.List.{AllByRecursion}
use Rattle.std.proofs.lemmas.Bool.Decides.{nat_tests}
use Rattle.pcl_base.specs.Limits.{Sizes}
use Rattle.pcl_base.specs.declared.event.Event.{Event}
use Rattle.pcl_base.specs.declared.message.Message.{Message}
use Rattle.run_rules.specs.Views.{View, born_of, is_live, owner_of, since_of}
use Rattle.node_rules.specs.InstallRule.{complete, new_table, take_over}
use Rattle.node_rules.specs.LockTable.{LockTable, marked}
use Rattle.node_rules.specs.NodeState.{NodeState, number_of, partition, table_at}
use Rattle.node_rules.specs.Shelf.{right_on}
use Rattle.node_rules.specs.Words as rules
use Rattle.node_rules.specs.Work.{Goes, Work}
use Rattle.node_laws.proofs.Lists.{set_same}
use Rattle.cluster_rules.specs.Clusters.{Cluster, last_view, node_at}
use Rattle.cluster_rules.specs.Links.{link_at}
use Rattle.cluster_laws.specs.Sound.{IsOnLink}
use Rattle.cluster_facts.specs.Known.Births.{KnownBirth}
use Rattle.cluster_laws.specs.Link.Coming.{Stands, coming, is_coming}
use Rattle.page_laws.specs.Look.Ends.{version_of_right}
use Rattle.page_laws.proofs.LookParts.Turning.{taking_over_is_seen_law}
use Rattle.page_protocol.specs.State.{Page}
use Rattle.page_protocol.specs.Steps.{Reached}
use Rattle.page_relation.specs.Looks.{shelf_in}
use Rattle.report_relation.specs.Completing.{IsReady}
use Rattle.settle_relation.specs.Midway.{IsMidway}
use Rattle.page_relation.specs.Work.Events.{IsEntered}
use Rattle.page_relation.specs.Work.Keeping.{IsWorkOf, Leads}
use Rattle.page_relation.specs.Work.Landing.{land}
use Rattle.report_relation.specs.Bury.Past.{HoldersLive}
use Rattle.report_relation.specs.Bury.Whole.{IsAwaited, IsKnown}
use Rattle.report_relation.proofs.BuryParts.KnownWhole.{known_is_whole_law}
use Rattle.report_relation.specs.Completion.Completed.{CanBeWhole, MayBeWhole}
use Rattle.report_relation.proofs.CompletionParts.Completed.{complete_keeps_law}
use Rattle.install_relation.specs.Installing.{numbers_at}
use Rattle.install_relation.specs.Taking.{taken}
use Rattle.install_relation.proofs.Moving.{taken_midway}
use Rattle.whole_runs.specs.Install.Turns.{IsGotBy, IsNow, IsTurn, TakenCanBeWhole, TakenIsCompleted, TakenMayComplete}
use Rattle.whole_runs.proofs.InstallParts.Births.{new_bound, readers_born, users_born}
use Rattle.whole_runs.proofs.InstallParts.Coming.{all_coming, all_stand}
use Rattle.whole_runs.proofs.InstallParts.Going.{owns_then, quiet}
use Rattle.whole_runs.proofs.InstallParts.Kept.{others_live, stands_one}
use Rattle.whole_runs.proofs.InstallParts.Logs.{same_logs}
use Rattle.whole_runs.proofs.InstallParts.NewTable.{holders_live, marks_are}
use Rattle.whole_runs.proofs.InstallParts.Standing.{acts, born_then, cluster, inside, inside_node, listed, owner_then, told, unsent}

one_value : {X : Type 0} (x y : X) → Some x ≡ Some y → x ≡ y
one_value x y same = cc

module _ (blank : List ℕ) (c : Cluster) (e : Event) (n p : ℕ) (s : NodeState) (v : View) (w : Work) (i : IsTurn blank c e n p s v w) (got : IsGotBy c n p v) where
  abbrev q : ℕ
  q = partition c.config p

  abbrev x : Work
  x = taken q w

  abbrev table : LockTable
  table = new_table q (number_of w.node) (take_over q w.node.home)

  abbrev before : IsMidway (numbers_at s v q) c e n w
  before = i.waits.installing.midway

  number : number_of w.node ≡ n
  number = before.good.home.number ∙ before.number

  config : w.node.home.config ≡ c.config
  config = before.good.home.config ∙ before.config

  era : since_of v q ≡ v.epoch
  era = eqb-true (since_of v q) v.epoch got.1

  midway : IsMidway (numbers_at s v (q + 1)) c e n x
  midway = taken_midway c e n s v i.install q (inside blank c e n p s v w i) w before (ap (λ (k : ℕ). owner_of v q == k) number ∙ got.0)

  there : table_at x.node q ≡ Some table
  there = set_same None w.node.tables q (Some table) (subst (λ (k : ℕ). q < k) (sym before.good.tables.places) (inside_node blank c e n p s v w i))

  marks : (m : ℕ) → marked table m ≡ (number_of w.node == m)
  marks =
      marks_are q (number_of w.node) (take_over q w.node.home)
      (subst (λ (z : Sizes). number_of w.node < z.nodes) (sym config) (subst (λ (k : ℕ). k < c.config.nodes) (sym number) (acts blank c e n p s v w i).known))

  holders : HoldersLive v table p
  holders =
      holders_live q (number_of w.node) (take_over q w.node.home) v p (subst (λ (k : ℕ). is_live v.live k ≡ true) (sym number) (listed blank c e n p s v w i))
      (born_then blank c e n p s v w i w q before (unsent blank c e n p s v w i) ∙ ap (born_of v) (sym number))

  bound : (b : ℕ) → KnownBirth c q b → b < since_of v q
  bound b known = subst (λ (k : ℕ). b < k) (sym era) (new_bound blank c e n p s v w i got.1 b known)

  -- no right of the page is left
  shelf : shelf_in (Some x.node) p ≡ None
  shelf =
      ap version_of_right
      ((taking_over_is_seen_law q w.node.home).rights p ∙ ap (λ (b : Bool). rules.pick b None (right_on w.node.home.shelf p)) (let at : partition w.node.home.config p ≡ q = ap (λ (z : Sizes). partition z p) config in let same : (partition w.node.home.config p == q) ≡ true = grind (arith, nat_tests, at) in same))

  awaited_one : (from : ℕ) (m : Message) → Stands (link_at c.links from n) m → IsAwaited c n q table (since_of v q) from m
  awaited_one from m stands report at = (other, marks from ∙ by (number_of w.node == from) refl)
    where
      other : from ≢ n
      other = (stands_one (IsOnLink c.config (last_view c).epoch from n) (link_at c.links from n) m ((cluster blank c e n p s v w i).links.messages from n) stands).others

      by : (b : Bool) → (number_of w.node == from) ≡ b → b ≡ false
      by true same = absurd (other (sym (eqb-true (number_of w.node) from same) ∙ number))
      by false same = refl

  awaited : (from : ℕ) → AllByRecursion (IsAwaited c n q table (since_of v q) from) (coming (land c e n x) p from n)
  awaited from =
      all_coming c e n p (acts blank c e n p s v w i) x (unsent blank c e n p s v w i) (IsAwaited c n q table (since_of v q) from) from n
      (all_stand (λ (m : Message). is_coming c.config p from (node_at (land c e n x) n) m ≡ true → IsAwaited c n q table (since_of v q) from m) (link_at c.links from n)
      (λ m stands test. awaited_one from m stands))

  pub known : IsKnown c e n p v x table
  known =
      record {
        owner = owner_then blank c e n p s v w i x (q + 1) midway (unsent blank c e n p s v w i) got.0;
        own = marks n ∙ (let own = number in let same : (number_of w.node == n) ≡ true = grind (arith, nat_tests, own) in same);
        holders = holders;
        others = others_live blank c e n p s v w i;
        users = users_born blank c e n p s v w i x (since_of v q) bound (told blank c e n p s v w i);
        readers = readers_born blank c e n p s v w i x (since_of v q) bound (λ some. absurd (some shelf));
        awaited = awaited;
      }

  module _ (a : Page) (reached : Reached blank a) (related : IsWorkOf c e n p x a) (entered : IsEntered a) where
    pub can : (t : LockTable) → IsReady c n q x v t → CanBeWhole c e n p q x v t a
    can t ready =
        let led = known_is_whole_law c e n p v t blank x a (acts blank c e n p s v w i) (inside blank c e n p s v w i) ready (subst (λ (k : LockTable). IsKnown c e n p v x k) same known) reached related entered in
        record { page = led.page; run = led.run; related = led.related; entered = led.known.0; whole = led.known.1 }
      where
        tables : Some table ≡ Some t
        tables = sym there ∙ ready.there

        same : table ≡ t
        same = one_value table t tables

    pub may : MayBeWhole c e n p q x a
    may =
        record {
          same = (same_logs blank c e n p s v w i x i.waits.installing.calls).same;
          logs = (same_logs blank c e n p s v w i x i.waits.installing.calls).logs;
          whole = λ u t at ready. by u t ready (sym midway.good.view ∙ ready.in_view);
        }
      where
        by : (u : View) (t : LockTable) → IsReady c n q x u t → Some v ≡ Some u → CanBeWhole c e n p q x u t a
        by u t ready views =
            let same : v ≡ u = one_value v u views in
            subst (λ (y : View). CanBeWhole c e n p q x y t a) same (can t (subst (λ (y : View). IsReady c n q x y t) (sym same) ready))

    pub completed : (y : Work) → complete c.disk q x ≡ Goes y → Leads c e n p (IsNow c e n p s v) a y
    completed y goes =
        complete_keeps_law (numbers_at s v (q + 1)) c e n p q (acts blank c e n p s v w i) i.run.related.order i.low (inside blank c e n p s v w i) (quiet blank c e n p s v w i) (owns_then s v q) blank x y a
        reached related (midway, entered, may) goes

pub taken_can_be_whole_law : TakenCanBeWhole
taken_can_be_whole_law blank c e n p s v w a t i got reached related entered ready = can blank c e n p s v w i got a reached related entered t ready

pub taken_may_complete_law : TakenMayComplete
taken_may_complete_law blank c e n p s v w a i got reached related entered = may blank c e n p s v w i got a reached related entered

pub taken_is_completed_law : TakenIsCompleted
taken_is_completed_law blank c e n p s v w y a i got reached related entered goes = completed blank c e n p s v w i got a reached related entered y goes
