-- A work whose entry of the page is rewound.
use Rattle.std.proofs.Common.{◌≡◌, refl, ap, sym, subst, ◌∙◌, ℕ, zero, suc, ◌≤◌, Bool, true, List, [], ◌∷◌, slice_set, Option, Some, arith}
use Rattle.std.specs.List.{AllByRecursion}
use Rattle.pcl_base.specs.Limits.{Sizes}
use Rattle.pcl_base.specs.declared.event.Event.{Event}
use Rattle.pcl_base.specs.declared.message.Message.{Message}
use Rattle.run_rules.specs.Views.{View}
use Rattle.node_rules.specs.LockRule.{LockEntry}
use Rattle.node_rules.specs.LockTable.{LockTable, entry_at, put_entry}
use Rattle.node_rules.specs.NodeState.{Outgoing, owner_in, partition, table_at, table_of}
use Rattle.node_rules.specs.OwnerRule.{with_table}
use Rattle.node_rules.specs.Work.{Work}
use Rattle.node_laws.proofs.Lists.{all_weaker}
use Rattle.node_laws.proofs.Works.{Base, IsSent}
use Rattle.cluster_rules.specs.Clusters.{Cluster, view_of_epoch, last_view}
use Rattle.cluster_laws.specs.Era.Eras.{era_at, era_in, owner_at}
use Rattle.cluster_laws.proofs.EraParts.Ages.{eras_have_one_owner_law}
use Rattle.cluster_laws.specs.Link.Coming.{coming}
use Rattle.cluster_laws.specs.Link.EpochLaws.{IsInOrder}
use Rattle.page_protocol.specs.State.{Page}
use Rattle.page_relation.specs.Tables.{EraIs, IsServed, TableIs, TableIn, TableOf, ReachedBy, ReachedIn}
use Rattle.page_relation.specs.Work.Keeping.{IsWorkOf}
use Rattle.page_relation.specs.Work.Landing.{land, Acts}
use Rattle.page_relation.specs.Work.Unseen.{SameEntry, SameTable, IsUnseen}
use Rattle.page_relation.proofs.WorkParts.Framing.{entry_self, life_self, page_self, reached_landed}
use Rattle.page_relation.proofs.WorkParts.Nodes.{at_node}
use Rattle.page_relation.proofs.WorkParts.Sending.{nothing_is_ahead_law}
use Rattle.settle_relation.specs.Deciding.{rewound}
use Rattle.settle_relation.proofs.Deciding.{put_there, put_here}
use Rattle.settle_relation.proofs.Midway.{IsMidway}

set_twice : (ts : List (Option LockTable)) (q : ℕ) (x y : Option LockTable) → slice_set (slice_set ts q x) q y ≡ slice_set ts q y
set_twice [] q x y = refl
set_twice (t ∷ ts) zero x y = refl
set_twice (t ∷ ts) (suc q) x y = ap (λ (k : List (Option LockTable)). t ∷ k) (set_twice ts q x y)

-- only the last entry counts
pub rewound_twice : (q p : ℕ) (t : LockTable) (x z : LockEntry) (y : Work) → rewound q t p z (rewound q t p x y) ≡ rewound q t p z y
rewound_twice q p t x z y =
    ap (λ (ts : List (Option LockTable)). let k : Work = record y { node = record (y.node) { tables = ts } } in k) (set_twice y.node.tables q (Some (put_entry t p x)) (Some (put_entry t p z)))

module _ (c : Cluster) (e : Event) (n p : ℕ) where
  -- only the page's table differs
  table_unseen : (q : ℕ) (o : Option LockTable) (w : Work) → (let k : Work = record w { node = record (w.node) { tables = slice_set w.node.tables q o } } in
      SameTable p (table_at w.node (partition c.config p)) (table_at k.node (partition c.config p)) → IsUnseen c e n p w k)
  table_unseen q o w same =
      record {
        standing = record { config = refl; number = refl; epoch = refl; view = refl };
        life = life_self w.node.home;
        page = page_self p w.node.home;
        table = same;
        stored = λ disk log is. is;
        told = record { accesses = λ t. refl; now_same = refl };
        taken = refl;
        sends = λ m. refl;
      }

  -- before the decisions: the entry that is there
  pub rewinding : (t : LockTable) (x : LockEntry) (w : Work) → w.node.home.config ≡ c.config → table_of w.node p ≡ Some t
      → IsUnseen c e n p w (rewound (partition c.config p) t p (entry_at t p) (with_table p (put_entry t p x) w))
  rewinding t x w config there =
      subst (λ (k : ℕ). IsUnseen c e n p w (rewound (partition c.config p) t p (entry_at t p) (let y : Work = record w { node = record (w.node) { tables = slice_set w.node.tables k (Some (put_entry t p x)) } } in y)))
      (ap (λ (k : Sizes). partition k p) (sym config))
      (subst (IsUnseen c e n p w) (sym (rewound_twice (partition c.config p) p t x (entry_at t p) w))
      (table_unseen (partition c.config p) (Some (put_entry t p (entry_at t p))) w same))
    where
      here : table_at w.node (partition c.config p) ≡ Some t
      here = ap (λ (k : Sizes). table_at w.node (partition k p)) (sym config) ∙ there

      entry : SameEntry p t (put_entry t p (entry_at t p))
      entry = record { serving = refl; entry = put_here t p (entry_at t p); marks = λ m. refl }

      same : SameTable p (table_at w.node (partition c.config p)) (table_at (rewound (partition c.config p) t p (entry_at t p) w).node (partition c.config p))
      same =
          subst (λ (o : Option LockTable). SameTable p o (table_at (rewound (partition c.config p) t p (entry_at t p) w).node (partition c.config p))) (sym here)
          (subst (SameTable p (Some t)) (sym (put_there w.node.tables (partition c.config p) t (Some (put_entry t p (entry_at t p))) here)) entry)

  -- after them: the entry that settling leaves
  pub rewound_last : (t : LockTable) (x : LockEntry) (z : Work) → table_at z.node (partition c.config p) ≡ Some (put_entry t p x) → IsUnseen c e n p (rewound (partition c.config p) t p x z) z
  rewound_last t x z there =
      record {
        standing = record { config = refl; number = refl; epoch = refl; view = refl };
        life = life_self z.node.home;
        page = page_self p z.node.home;
        table =
            subst (λ (o : Option LockTable). SameTable p o (table_at z.node (partition c.config p))) (there ∙ sym (put_there z.node.tables (partition c.config p) (put_entry t p x) (Some (put_entry t p x)) there))
            (entry_self p (table_at z.node (partition c.config p)));
        stored = λ disk log is. is;
        told = record { accesses = λ u. refl; now_same = refl };
        taken = refl;
        sends = λ m. refl;
      }

  module _ (acts : Acts c n) (t u : LockTable) (x : LockEntry) (y : Work) (a : Page) (there : table_at y.node (partition c.config p) ≡ Some u) where
    pub rewound_there : table_at (rewound (partition c.config p) t p x y).node (partition c.config p) ≡ Some (put_entry t p x)
    rewound_there = put_there y.node.tables (partition c.config p) u (Some (put_entry t p x)) there

    -- what the relation says of the entry
    pub served_of : t.serving ≡ true → IsWorkOf c e n p (rewound (partition c.config p) t p x y) a
        → IsServed a.served a.owner a.era a.entry a.listed a.right a.reached a.home n (era_in y.node.view (partition c.config p)) x
    unfolding land
    served_of on is =
        subst (IsServed a.served a.owner a.era a.entry a.listed a.right a.reached a.home n (era_in y.node.view (partition c.config p))) (put_here t p x)
        (subst (λ (d : Bool). TableIs a p n (era_in y.node.view (partition c.config p)) d (put_entry t p x)) on
        (subst (λ (o : Option LockTable). TableIn a p n (era_in y.node.view (partition c.config p)) o) rewound_there
        (at_node c e n acts (rewound (partition c.config p) t p x y) n (λ o. TableOf a p (partition c.config p) n o) refl (is.tables.tables n))))

-- ---- what is known of the acting node

module _ (b : Base) (c : Cluster) (e : Event) (n : ℕ) (w : Work) (i : IsMidway b c e n w) where
  viewed : w.node.view ≡ Some i.view
  viewed = i.good.view ∙ i.in_view

  -- its era is that of its epoch
  pub own_era : (q : ℕ) → era_at c q w.node.epoch ≡ era_in w.node.view q
  unfolding era_at
  own_era q =
      ap (λ (k : ℕ). era_in (view_of_epoch c.views k) q) i.good.epoch ∙ ap (λ (o : Option View). era_in o q) i.there ∙ sym (ap (λ (o : Option View). era_in o q) viewed)

  -- it has reached it
  pub own_reached : (p : ℕ) (a : Page) (tables : List (Option LockTable)) → Acts c n
      → (let k : Work = record w { node = record (w.node) { tables = tables } } in IsWorkOf c e n p k a) → a.reached n ≡ era_in w.node.view (partition c.config p)
  unfolding land
  own_reached p a tables acts is =
      (subst (λ (o : Option View). ReachedBy c (partition c.config p) a.era k.node o (a.reached n)) viewed
      (at_node c e n acts k n (λ o. ReachedIn c (partition c.config p) a.era o (a.reached n)) refl
      ((reached_landed c e n k (partition c.config p) a.era (a.reached n) _).0 (is.nodes.eras n)))).0
      ∙ sym (ap (λ (o : Option View). era_in o (partition c.config p)) viewed)
    where
      k : Work
      k = record w { node = record (w.node) { tables = tables } }

  -- it owns what it serves
  pub own_owner : (q era owner : ℕ) (k : Work) → Acts c n → era_in w.node.view q ≡ era → n ≡ owner → EraIs (land c e n k) q era owner → owner_in w.node.view q ≡ n
  unfolding land era_at owner_at
  own_owner q era owner k acts now here is =
      ap (λ (o : Option View). owner_in o q) (viewed ∙ sym i.there) ∙ ap (λ (m : ℕ). owner_at c q m) (sym i.good.epoch)
      ∙ eras_have_one_owner_law c q w.node.epoch is.epoch acts.cluster (own_era q ∙ now ∙ sym is.era_there) ∙ is.owner_there ∙ sym here

  -- what it sent is of its epoch, one of the views
  pub sent_upto : AllByRecursion (λ (o : Outgoing). o.message.epoch ≤ w.node.epoch) w.sends
  sent_upto = all_weaker (IsSent b) (λ (o : Outgoing). o.message.epoch ≤ w.node.epoch) (λ o is. let at = is.1 in let own = i.good.epoch in omega (arith, at, own)) w.sends i.good.sends

  pub sent_made : AllByRecursion (λ (o : Outgoing). o.message.epoch ≤ (last_view c).epoch) w.sends
  sent_made = all_weaker (IsSent b) (λ (o : Outgoing). o.message.epoch ≤ (last_view c).epoch) (λ o is. let at = is.1 in let made = i.made in omega (arith, at, made)) w.sends i.good.sends

  -- nothing that comes from it is of a later epoch
  pub nothing_later : (p to : ℕ) (tables : List (Option LockTable)) → Acts c n → IsInOrder c
      → (let k : Work = record w { node = record (w.node) { tables = tables } } in AllByRecursion (λ (m : Message). m.epoch ≤ k.node.epoch) (coming (land c e n k) p n to))
  nothing_later p to tables acts order =
      nothing_is_ahead_law c e n p to w.node.epoch i.start _ acts order i.up (let rise = i.rises in let own = i.good.epoch in omega (arith, rise, own)) sent_upto
