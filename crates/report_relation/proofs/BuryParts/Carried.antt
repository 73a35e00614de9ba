-- What is known of a work stays where its node's tables change alone.
use Rattle.std.proofs.Common.{◌≡◌, refl, ap, sym, subst, ◌∙◌, ℕ, ◌+◌, ◌<◌, ◌==◌, Bool, true, false, List, [], ◌∷◌, map, Option, Some, None, eqb-true}
use Rattle.std.specs.List.{AllByRecursion, filter}
use Rattle.pcl_base.specs.declared.event.Event.{Event}
use Rattle.pcl_base.specs.declared.message.Message.{Message}
use Rattle.run_rules.specs.Views.{View, since_of}
use Rattle.node_rules.specs.InstallRule.{purge_table, purged}
use Rattle.node_rules.specs.LockTable.{LockTable, marked}
use Rattle.node_rules.specs.NodeState.{HomeState, NodeState, Outgoing, partition, put_table}
use Rattle.node_rules.specs.Shelf.{right_on}
use Rattle.node_rules.specs.Work.{Work, with_node}
use Rattle.cluster_rules.specs.Clusters.{Cluster, node_at, sent_by}
use Rattle.cluster_rules.specs.ClusterStep.{is_taken}
use Rattle.cluster_laws.specs.Era.Eras.{life_in, life_of}
use Rattle.cluster_laws.specs.Link.Coming.{coming, sent_to}
use Rattle.page_laws.specs.Look.Ends.{version_of_right}
use Rattle.page_laws.specs.Moment.Looks.{accesses_in, with_entry}
use Rattle.page_relation.specs.Looks.{shelf_in}
use Rattle.page_relation.specs.Together.{IsParty}
use Rattle.page_relation.specs.Work.Landing.{land, Acts, trace_of}
use Rattle.page_relation.specs.Work.Unseen.{SameStanding, speaks}
use Rattle.page_relation.proofs.WorkParts.Comings.{coming_same}
use Rattle.page_relation.proofs.WorkParts.Landed.{landing_is_seen_law}
use Rattle.report_relation.specs.Bury.Kept.{PurgedIsKnown}
use Rattle.report_relation.specs.Bury.Past.{IsOwner}
use Rattle.report_relation.specs.Bury.Whole.{IsAwaited, IsKnown, ReadersAreBorn, UsersAreBorn}
use Rattle.report_relation.proofs.BuryParts.KeptEarly.{purged_are_living_law}

module _ (c : Cluster) (e : Event) (n p : ℕ) (acts : Acts c n) (w x : Work) (standing : SameStanding w.node x.node) (home : x.node.home ≡ w.node.home) (replies : x.replies ≡ w.replies) (sends : x.sends ≡ w.sends) where
  pub coming_kept : (from to : ℕ) → coming (land c e n x) p from to ≡ coming (land c e n w) p from to
  coming_kept from to =
      coming_same c e n p acts w x standing (ap is_taken replies) (λ m. ap (λ (os : List Outgoing). filter (speaks c.config p) (sent_to m os)) sends) from to

  pub owner_kept : (v : View) → IsOwner c e n p v w → IsOwner c e n p v x
  owner_kept v i =
      record {
        there = i.there;
        made = i.made;
        number = standing.number ∙ i.number;
        view = standing.view ∙ i.view;
        listed = i.listed;
        born = ap (λ (h : HomeState). h.txs.born) home ∙ i.born;
        owner = i.owner;
        parties = λ from to. subst (AllByRecursion (IsParty c from to)) (sym (coming_kept from to)) (i.parties from to);
      }

  traces : trace_of c e n x ≡ trace_of c e n w
  traces = (λ i. with_entry c.trace e (replies i) (map (sent_by n) (sends i)))

  pub users_kept : (era : ℕ) → UsersAreBorn c e n p w era → UsersAreBorn c e n p x era
  users_kept era users t used =
      users t
      (λ none.
      used (ap (accesses_in t p) ((landing_is_seen_law c e n x acts).trace ∙ (traces ∙ sym (landing_is_seen_law c e n w acts).trace)) ∙ none))

  lives_same : life_of x.node ≡ life_of w.node
  lives_same = by x.node.view ∙ ap (life_in w.node) standing.view
    where
      by : (o : Option View) → life_in x.node o ≡ life_in w.node o
      by None = ap (λ (k : ℕ). k + 1) standing.epoch
      by (Some v) = ap (λ (h : HomeState). h.txs.born) home

  pub readers_kept : (era : ℕ) → ReadersAreBorn c e n p w era → ReadersAreBorn c e n p x era
  readers_kept era readers m s up shelf = by (m == n) refl
    where
      by : (b : Bool) → (m == n) ≡ b → life_of s < era
      by true test =
          let same : m ≡ n = eqb-true m n test in
          let both : Some x.node ≡ Some s = sym (landing_is_seen_law c e n x acts).node ∙ subst (λ (k : ℕ). node_at (land c e n x) k ≡ Some s) same up in
          let node : x.node ≡ s = cc in
          subst (λ (k : NodeState). life_of k < era) node
          (subst (λ (k : ℕ). k < era) (sym lives_same)
          (readers n w.node (landing_is_seen_law c e n w acts).node
          (λ none. shelf (sym (ap (λ (k : NodeState). shelf_in (Some k) p) node) ∙ (ap (λ (h : HomeState). version_of_right (right_on h.shelf p)) home ∙ none)))))
      by false other = readers m s ((landing_is_seen_law c e n w acts).others m other ∙ (sym ((landing_is_seen_law c e n x acts).others m other) ∙ up)) shelf

  pub awaited_kept : (q era : ℕ) (t u : LockTable) → ((m : ℕ) → marked u m ≡ marked t m) → ((from : ℕ) → AllByRecursion (IsAwaited c n q t era from) (coming (land c e n w) p from n))
      → (from : ℕ) → AllByRecursion (IsAwaited c n q u era from) (coming (land c e n x) p from n)
  awaited_kept q era t u marks all from =
      subst (AllByRecursion (IsAwaited c n q u era from)) (sym (coming_kept from n)) (weak (coming (land c e n w) p from n) (all from))
    where
      weak : (ms : List Message) → AllByRecursion (IsAwaited c n q t era from) ms → AllByRecursion (IsAwaited c n q u era from) ms
      weak [] old = tt
      weak (m ∷ ms) old = (λ report same. let one = old.0 report same in (one.0, marks from ∙ one.1), weak ms old.1)

pub purged_is_known_law : PurgedIsKnown
purged_is_known_law c e n p old v t w acts kept goes_on own users readers awaited =
    subst (λ (o : Option LockTable). IsKnown c e n p v (with_node w (purged (partition c.config p) v.live o w.node)) (purge_table v.live t)) (sym kept.there)
    (record {
      owner = owner_kept c e n p acts w z standing refl refl refl v kept.owner;
      own = own;
      holders = purged_are_living_law old v t p goes_on kept.holders;
      others = kept.others;
      users = users_kept c e n p acts w z standing refl refl refl (since_of v (partition c.config p)) users;
      readers = readers_kept c e n p acts w z standing refl refl refl (since_of v (partition c.config p)) readers;
      awaited =
          awaited_kept c e n p acts w z standing refl refl refl (partition c.config p) (since_of v (partition c.config p)) t (purge_table v.live t) (λ m. refl) awaited;
    })
  where
    z : Work
    z = with_node w (put_table w.node (partition c.config p) (Some (purge_table v.live t)))

    standing : SameStanding w.node z.node
    standing = record { config = refl; number = refl; epoch = refl; view = refl }
