-- A partition leaves its owner: the locks on its pages become registered ones.
use Rattle.std.proofs.Common.{◌≡◌, refl, ap, sym, subst, ◌∙◌, ℕ, ◌≤◌, ◌<◌, ◌==◌, Bool, true, false, length, Option, Some, None, arith}
use Rattle.std.specs.Prelude.{option_map}
use Rattle.std.proofs.lemmas.Bool.Decides.{nat_tests}
use Rattle.pcl_base.specs.Limits.{Sizes}
use Rattle.pcl_base.specs.declared.lock.Held.{Held}
use Rattle.pcl_base.specs.declared.lock.Kind.{Kind}
use Rattle.pcl_base.specs.declared.lock.Kind.TheVariants as kind
use Rattle.pcl_base.specs.declared.tx.Mode.{Mode}
use Rattle.pcl_base.specs.declared.tx.Mode.TheVariants.{Shared, Exclusive}
use Rattle.pcl_base.specs.declared.tx.TxId.{TxId}
use Rattle.run_rules.specs.Views.{View, since_of, owner_of}
use Rattle.node_rules.specs.BufferRule as buffer
use Rattle.node_rules.specs.EndRule.{is_own_kind}
use Rattle.node_rules.specs.InstallRule.{owned_before, give_up}
use Rattle.node_rules.specs.LockTable.{LockTable}
use Rattle.node_rules.specs.NodeState.{NodeState, partition, table_at, is_serving, number_of, put_table}
use Rattle.node_rules.specs.OpenTxs.{is_open, held_by, pending_of}
use Rattle.node_rules.specs.Words as rules
use Rattle.node_laws.proofs.Lists.{set_same}
use Rattle.cluster_rules.specs.Clusters.{Cluster}
use Rattle.cluster_laws.proofs.EraParts.Counted.{counts_stay_law}
use Rattle.page_laws.specs.Look.Ends.{HasGivenUp}
use Rattle.page_laws.specs.Look.Grants.{of_kind}
use Rattle.page_laws.proofs.LookParts.Turning.{giving_up_is_seen_law}
use Rattle.page_protocol.specs.State.{Home}
use Rattle.page_relation.specs.Homes.{Stands, KindFits, stand_of, held_stand, wait_on, is_unborn}
use Rattle.page_relation.specs.Looks.{copy_in}
use Rattle.page_relation.specs.Tables.{ReachedBy}
use Rattle.page_relation.specs.Work.Landing.{Acts}
use Rattle.page_relation.proofs.WorkParts.Nodes.{stands_as}
use Rattle.kept_relation.specs.Turn.Standing.{HasNext, stood}
use Rattle.kept_relation.proofs.TurnParts.Falling.{GivesUp}
use Rattle.kept_relation.proofs.TurnParts.Gone.{KeepsPage}
use Rattle.kept_relation.proofs.TurnParts.Narrowing.{counts_before}

-- an own lock stands as a registered one
own_registered : (m : Mode) (k : Kind) (w : Option Mode) → is_own_kind k ≡ true → held_stand m k w ≡ held_stand m kind.Registered w
own_registered Exclusive k w own = refl
own_registered Shared kind.Own None own = refl
own_registered Shared kind.Own (Some x) own = refl
own_registered Shared kind.Registered w own = refl
own_registered Shared kind.Right w own = absurd (cc)

stand_registered : (l : Option Held) (w : Option Mode) (have : Option ℕ) → KindFits true l → stand_of l w have ≡ stand_of (option_map (of_kind kind.Registered) l) w have
stand_registered None w have fits = refl
stand_registered (Some l) w have fits = own_registered l.mode l.kind w fits

stands_registered : (o u : Bool) (l : Option Held) (w : Option Mode) (h : Home) → KindFits true l → Stands o u l w h → Stands o u (option_map (of_kind kind.Registered) l) w h
stands_registered true u l w h fits is = (is.0, is.1 ∙ stand_registered l w is.0 fits)
stands_registered false true l w h fits is = is
stands_registered false false l w h fits is = is

registered_fits : (l : Option Held) → KindFits false (option_map (of_kind kind.Registered) l)
registered_fits None = tt
registered_fits (Some l) = refl

copy_clean : (x : Option buffer.Copy) → copy_in (buffer.cleaned x) ≡ copy_in x
copy_clean None = refl
copy_clean (Some x) = refl

clean_clean : (x : Option buffer.Copy) → buffer.is_dirty_copy (buffer.cleaned x) ≡ false
clean_clean None = refl
clean_clean (Some x) = refl

module _ (c : Cluster) (n p era : ℕ) (s : NodeState) (old v : View) (x : NodeState) (acts : Acts c n) (has : HasNext c n s v x) (own : s.view ≡ Some old) (owned : owned_before s.view (partition c.config p) n ≡ true) (other : (owner_of v (partition c.config p) == n) ≡ false) (new : since_of v (partition c.config p) ≡ v.epoch) (upto : era ≤ v.epoch) (place : partition c.config p < length x.tables) where
  -- the node with its old view
  abbrev before : NodeState
  before = stood s.epoch s.view x.home.txs.born x

  -- the node once the partition has left it
  abbrev after : NodeState
  after = give_up (partition c.config p) x

  -- with its old view, and its locks as they were
  abbrev pub between : NodeState
  between = record (put_table before (partition c.config p) None) { home = record (before.home) { pool = after.home.pool } }

  seen : HasGivenUp (partition c.config p) x.home after.home
  seen = giving_up_is_seen_law (partition c.config p) x

  inside : (partition x.home.config p == partition c.config p) ≡ true
  inside = (let e : partition x.home.config p ≡ partition c.config p = ap (λ (z : Sizes). partition z p) has.config in grind (arith, nat_tests, e))

  copy_is : buffer.copy_at after.home.pool p ≡ buffer.cleaned (buffer.copy_at x.home.pool p)
  copy_is = seen.copies p ∙ ap (λ (b : Bool). rules.pick b (buffer.cleaned (buffer.copy_at x.home.pool p)) (buffer.copy_at x.home.pool p)) inside

  held_is : (t : TxId) → held_by after.home.txs t p ≡ option_map (of_kind kind.Registered) (held_by x.home.txs t p)
  held_is t = seen.locks.held t p ∙ ap (λ (b : Bool). rules.pick b (option_map (of_kind kind.Registered) (held_by x.home.txs t p)) (held_by x.home.txs t p)) inside

  no_table : table_at after (partition c.config p) ≡ None
  no_table = set_same None x.tables (partition c.config p) None place

  pub gives_up : GivesUp c p before between
  gives_up =
      record {
        standing = record { config = refl; number = refl; epoch = refl; view = refl };
        life = record { config = refl; node = refl; born = refl; last = refl; alive = λ t. refl };
        uses = record { held = λ t. refl; waits = λ t. refl; bytes = λ t. seen.locks.privates.bytes t p; runs = λ t. refl };
        right = refl;
        slot = ap copy_in copy_is ∙ copy_clean (buffer.copy_at x.home.pool p);
        clean = ap buffer.is_dirty_copy copy_is ∙ clean_clean (buffer.copy_at x.home.pool p);
        free = no_table;
      }

  owned_by : (o : Option View) (k : Bool) → owned_before o (partition c.config p) n ≡ k → owned_before o (partition x.home.config p) (number_of x) ≡ k
  owned_by o k is =
      subst (λ (z : Sizes). owned_before o (partition z p) (number_of x) ≡ k) (sym has.config)
      (subst (λ (m : ℕ). owned_before o (partition c.config p) m ≡ k) (sym has.number) is)

  unborn_on : (t : TxId) → is_unborn after.view after t ≡ is_unborn s.view between t
  unborn_on t = ap (λ (o : Option View). is_unborn o after t) has.view ∙ sym (ap (λ (o : Option View). is_unborn o between t) own)

  pub has_after : HasNext c n s v after
  has_after = record { up = has.up; next = has.next; config = has.config; number = has.number; epoch = has.epoch; view = has.view }

  pub keeps_owned : KeepsPage c p v.epoch era between after
  keeps_owned =
      record {
        stands = λ last t h fits is.
            stands_as h (is_open between.home.txs t) (is_open after.home.txs t) (is_unborn s.view between t) (is_unborn after.view after t)
            (option_map (of_kind kind.Registered) (held_by x.home.txs t p)) (held_by after.home.txs t p) (wait_on (pending_of between.home.txs t) p) (wait_on (pending_of after.home.txs t) p)
            (seen.locks.life.alive t) (unborn_on t) (held_is t) (ap (λ o. wait_on o p) (seen.locks.waits t))
            (stands_registered (is_open between.home.txs t) (is_unborn s.view between t) (held_by x.home.txs t p) (wait_on (pending_of between.home.txs t) p) h
            (subst (λ (b : Bool). KindFits b (held_by x.home.txs t p)) (owned_by s.view true owned) fits) is);
        kinds = λ t fits.
            subst (λ (b : Bool). KindFits b (held_by after.home.txs t p))
            (sym (owned_by after.view false (ap (λ (o : Option View). owned_before o (partition c.config p) n) has.view ∙ other)))
            (subst (KindFits false) (sym (held_is t)) (registered_fits (held_by x.home.txs t p)));
        bytes = λ t. refl;
        runs = λ t. refl;
        slot = refl;
        dirty = refl;
        shelf = refl;
        free = no_table;
        unserved = ap (λ (o : Option LockTable). is_serving o) no_table;
        reached = subst (λ (o : Option View). ReachedBy c (partition c.config p) era after o v.epoch) (sym has.view) (sym new, upto);
        counts = λ from epoch counts.
            counts_stay_law (stood s.epoch s.view after.home.txs.born after) between from (partition c.config p) epoch refl (record { epoch = refl; view = refl })
            ∙ counts_before c n s v after acts has_after old after.home.txs.born from (partition c.config p) epoch own counts;
      }
