-- A page that is settled: decision by decision the machine's grants and rights.
use Rattle.std.proofs.Common.{◌≡◌, ◌≢◌, refl, ap, sym, subst, ◌∙◌, ℕ, ◌<◌, ◌==◌, Bool, true, false, List, Option, Some, None, eqb-true}
use Rattle.std.specs.List.{AllByRecursion}
use Rattle.pcl_base.specs.Limits.{Sizes}
use Rattle.pcl_base.specs.declared.event.Event.{Event}
use Rattle.pcl_base.specs.declared.lock.Decision.{Decision}
use Rattle.pcl_base.specs.declared.lock.Decision.TheVariants as decision
use Rattle.pcl_base.specs.declared.message.Body.TheVariants as body
use Rattle.pcl_base.specs.declared.tx.Mode.{Mode}
use Rattle.pcl_base.specs.declared.tx.Mode.TheVariants.{Shared}
use Rattle.pcl_base.specs.declared.tx.TxId.{TxId}
use Rattle.text_rules.specs.MessageBytes.{IsPage}
use Rattle.node_rules.specs.LockRule.{LockEntry, Settled, settle}
use Rattle.node_rules.specs.LockTable.{LockTable, entry_at, put_entry}
use Rattle.node_rules.specs.NodeState.{number_of, partition, table_at, table_of}
use Rattle.node_rules.specs.OpenTxs.{pending_of, waits_as}
use Rattle.node_rules.specs.OwnerRule.{carry_all, carry_grant, carry_out, send_grant, settle_in, settle_page, settle_served, with_table}
use Rattle.node_rules.specs.Work.{Goes, Work, for_each, send}
use Rattle.node_laws.proofs.Entries.{IsDecision, IsSettled}
use Rattle.node_laws.proofs.Works.{Base}
use Rattle.cluster_rules.specs.Clusters.{Cluster}
use Rattle.page_laws.specs.Entry.Decisions.{IsLocked, IsGiven, IsMarked, Settles, rests, locks, gives, revokes}
use Rattle.page_laws.proofs.EntryParts.Decided.{settling_decides_law, settling_keeps_its_version_law}
use Rattle.cluster_laws.specs.Link.EpochLaws.{IsInOrder}
use Rattle.page_protocol.specs.State.{Page}
use Rattle.page_protocol.specs.Steps.{Reached, here}
use Rattle.page_protocol.proofs.Keeps.{and_then as runs_then}
use Rattle.page_relation.specs.Work.Events.{IsEntered}
use Rattle.page_relation.specs.Work.Keeping.{IsWorkOf, Leads, Keeps}
use Rattle.page_relation.specs.Work.Landing.{Acts}
use Rattle.page_relation.proofs.WorkParts.Framing.{unseen_is_kept_law}
use Rattle.settle_relation.specs.Deciding.{rewound}
use Rattle.settle_relation.proofs.Carrying.{carry_midway, entry_midway}
use Rattle.settle_relation.proofs.Deciding.{put_there}
use Rattle.settle_relation.proofs.Decisions.{IsSettling, Decides, given_away, locked_away, revoked_on}
use Rattle.settle_relation.proofs.Elsewhere.{settle_on, settles_well}
use Rattle.settle_relation.proofs.Midway.{IsMidway}
use Rattle.settle_relation.proofs.OwnGrants.{went, locked_own}
use Rattle.settle_relation.proofs.Rewinding.{rewinding, rewound_last, served_of}

module _ (b : Base) (c : Cluster) (e : Event) (n p : ℕ) (acts : Acts c n) (order : IsInOrder c) (tb ub : LockTable) (on : tb.serving ≡ true) (blank : List ℕ) (low : p < c.config.pages) where
  -- one decision after another
  chained : (v : ℕ) (x after : LockEntry) (y z : Work) (a : Page) → (first : Decides b c e n p acts order tb ub on blank v x y a)
      → Decides b c e n p acts order tb ub on blank v after z first.page → Decides b c e n p acts order tb ub on blank v after z a
  chained v x after y z a first rest = record { page = rest.page; run = runs_then first.run rest.run; state = rest.state }

  module _ (v : ℕ) (x : LockEntry) (y : Work) (a : Page) (s : IsSettling b c e n p acts order tb ub on blank v x y a) where
    pub number : number_of y.node ≡ n
    number = s.midway.good.home.number ∙ s.midway.number

    below : IsPage b.config p
    below = subst (λ (k : Sizes). p < k.pages) (sym s.midway.config) low

    away : (t : TxId) → (t.node == number_of y.node) ≡ false → (t.node == n) ≡ false
    away t other = ap (λ (k : ℕ). t.node == k) (sym number) ∙ other

    pub locked_step : (tx : TxId) (m : Mode) (have : Option ℕ) (later : LockEntry) (z : Work) → IsLocked x tx m have later → IsDecision b.config b.number (decision.Grant tx m false have)
        → carry_out p v (decision.Grant tx m false have) y ≡ Goes z → Decides b c e n p acts order tb ub on blank v later z a
    unfolding carry_out
    locked_step tx m have later z l is goes =
        by (tx.node == number_of y.node) refl goes (carry_midway b c e n p below v (decision.Grant tx m false have) y z is s.midway goes)
      where
        by : (own : Bool) → (tx.node == number_of y.node) ≡ own → carry_grant own tx m false have p v y ≡ Goes z → IsMidway b c e n z
            → Decides b c e n p acts order tb ub on blank v later z a
        by true at done known =
            locked_own b c e n p acts order tb ub on blank low v x y a s tx m have later l (eqb-true tx.node (number_of y.node) at ∙ number)
            (waits_as (pending_of y.node.home.txs tx) p m) z refl done known
        by false other done known =
            let same : send_grant tx m false have p v y ≡ z = cc in
            subst (λ (k : Work). Decides b c e n p acts order tb ub on blank v later k a) same
            (locked_away b c e n p acts order tb ub on blank v x y a s later tx m have l (away tx other) (subst (IsMidway b c e n) (sym same) known))

    pub given_step : (tx : TxId) (have : Option ℕ) (later : LockEntry) (z : Work) → IsGiven n x tx have later → IsDecision b.config b.number (decision.Grant tx Shared true have)
        → carry_out p v (decision.Grant tx Shared true have) y ≡ Goes z → Decides b c e n p acts order tb ub on blank v later z a
    unfolding carry_out
    given_step tx have later z l is goes =
        by (tx.node == number_of y.node) refl goes (carry_midway b c e n p below v (decision.Grant tx Shared true have) y z is s.midway goes)
      where
        by : (own : Bool) → (tx.node == number_of y.node) ≡ own → carry_grant own tx Shared true have p v y ≡ Goes z → IsMidway b c e n z
            → Decides b c e n p acts order tb ub on blank v later z a
        by true at done known = absurd (l.away (eqb-true tx.node (number_of y.node) at ∙ number))
        by false other done known =
            let same : send_grant tx Shared true have p v y ≡ z = cc in
            subst (λ (k : Work). Decides b c e n p acts order tb ub on blank v later k a) same
            (given_away b c e n p acts order tb ub on blank v x y a s later tx have l (away tx other) (subst (IsMidway b c e n) (sym same) known))

    pub revoked_step : (k : ℕ) (later : LockEntry) (z : Work) → IsMarked x k later → IsDecision b.config b.number (decision.Revoke k) → carry_out p v (decision.Revoke k) y ≡ Goes z
        → Decides b c e n p acts order tb ub on blank v later z a
    unfolding carry_out
    revoked_step k later z l is goes =
        subst (λ (w : Work). Decides b c e n p acts order tb ub on blank v later w a) same
        (revoked_on b c e n p acts order tb ub on blank v x y a s later k l other
        (subst (IsMidway b c e n) (sym same) (carry_midway b c e n p below v (decision.Revoke k) y z is s.midway goes)))
      where
        same : send k (body.Revoke p) y ≡ z
        same = cc

        apart : k ≢ b.number
        apart = is.1

        other : (k == n) ≡ false
        other = by (k == n) refl
          where
            by : (d : Bool) → (k == n) ≡ d → d ≡ false
            by true at = absurd (apart (eqb-true k n at ∙ sym s.midway.number))
            by false at = refl

  -- all of them
  all_decided : {x after : LockEntry} {ds : List Decision} → Settles n x ds after → (v : ℕ) (y z : Work) (a : Page) → IsSettling b c e n p acts order tb ub on blank v x y a
      → AllByRecursion (IsDecision b.config b.number) ds → for_each (carry_out p v) ds y ≡ Goes z → Decides b c e n p acts order tb ub on blank v after z a
  unfolding for_each
  all_decided (rests x) v y z a s all goes =
      let same : y ≡ z = cc in
      subst (λ (k : Work). Decides b c e n p acts order tb ub on blank v x k a) same (record { page = a; run = here; state = s })
  all_decided (locks x middle after tx m have ds l rest) v y z a s all goes =
      let w = went (carry_out p v (decision.Grant tx m false have) y) (for_each (carry_out p v) ds) z goes in
      let first = locked_step v x y a s tx m have middle w.middle l all.0 w.first in
      chained v middle after w.middle z a first (all_decided rest v w.middle z first.page first.state all.1 w.rest)
  all_decided (gives x middle after tx have ds l rest) v y z a s all goes =
      let w = went (carry_out p v (decision.Grant tx Shared true have) y) (for_each (carry_out p v) ds) z goes in
      let first = given_step v x y a s tx have middle w.middle l all.0 w.first in
      chained v middle after w.middle z a first (all_decided rest v w.middle z first.page first.state all.1 w.rest)
  all_decided (revokes x middle after k ds l rest) v y z a s all goes =
      let w = went (carry_out p v (decision.Revoke k) y) (for_each (carry_out p v) ds) z goes in
      let first = revoked_step v x y a s k middle w.middle l all.0 w.first in
      chained v middle after w.middle z a first (all_decided rest v w.middle z first.page first.state all.1 w.rest)

-- what is known of a work, and of the state
abbrev pub IsBetween : Base → Cluster → Event → ℕ → Work → Page → Type 0
IsBetween b c e n w a = IsMidway b c e n w × IsEntered a

module _ (b : Base) (c : Cluster) (e : Event) (n p : ℕ) (acts : Acts c n) (order : IsInOrder c) (low : p < c.config.pages) where
  abbrev q : ℕ
  q = partition c.config p

  -- nothing to settle
  stays : (w z : Work) (a : Page) → w ≡ z → IsWorkOf c e n p w a → IsBetween b c e n w a → Leads c e n p (IsBetween b c e n) a z
  stays w z a same related known = subst (Leads c e n p (IsBetween b c e n) a) same (record { page = a; run = here; related = related; known = known })

  module _ (blank : List ℕ) (w z : Work) (a : Page) (reached : Reached blank a) (related : IsWorkOf c e n p w a) (known : IsBetween b c e n w a) (t : LockTable) (there : table_of w.node p ≡ Some t) (on : t.serving ≡ true) where
    abbrev s : Settled
    s = settle (number_of w.node) (entry_at t p)

    abbrev y : Work
    y = with_table p (put_entry t p s.entry) w

    config : w.node.home.config ≡ c.config
    config = known.0.good.home.config ∙ known.0.config

    pub inside : IsPage b.config p
    inside = subst (λ (k : Sizes). p < k.pages) (sym known.0.config) low

    pub well : IsSettled b.config b.number s
    well = settles_well b c e n p p inside t w there known.0

    at_start : IsWorkOf c e n p (rewound q t p (entry_at t p) y) a
    at_start = unseen_is_kept_law c e n p w (rewound q t p (entry_at t p) y) a acts (rewinding c e n p t s.entry w config there) related

    put : table_at y.node q ≡ Some (put_entry t p s.entry)
    put =
        subst (λ (k : ℕ). table_at y.node k ≡ Some (put_entry t p s.entry)) (ap (λ (k : Sizes). partition k p) config)
        (put_there w.node.tables (partition w.node.home.config p) t (Some (put_entry t p s.entry)) there)

    pub decisions : Settles n (entry_at t p) s.decisions s.entry
    decisions =
        subst (λ (k : ℕ). Settles k (entry_at t p) s.decisions s.entry) (known.0.good.home.number ∙ known.0.number)
        (settling_decides_law (number_of w.node) (entry_at t p) (served_of c e n p acts t (put_entry t p s.entry) (entry_at t p) y a put on at_start).writers)

    pub before : IsSettling b c e n p acts order t (put_entry t p s.entry) on blank s.entry.version (entry_at t p) y a
    before =
        record {
          midway = entry_midway b c e n p inside t s.entry w there well.1 known.0;
          there = put;
          version = settling_keeps_its_version_law (number_of w.node) (entry_at t p);
          entered = known.1;
          reached = reached;
          related = at_start;
        }

    settles_here : carry_all p t s w ≡ Goes z → Leads c e n p (IsBetween b c e n) a z
    settles_here goes =
        let all = all_decided b c e n p acts order t (put_entry t p s.entry) on blank low decisions s.entry.version y z a before well.0 goes in
        record {
          page = all.page;
          run = all.run;
          related = unseen_is_kept_law c e n p (rewound q t p s.entry z) z all.page acts (rewound_last c e n p t s.entry z all.state.there) all.state.related;
          known = (all.state.midway, all.state.entered);
        }

  -- the page itself
  own_page : Keeps c e n p (IsBetween b c e n) (settle_page p) (IsBetween b c e n)
  unfolding settle_page
  own_page blank w z a reached related known goes = by (table_of w.node p) refl goes
    where
      of : (t : LockTable) (d : Bool) → table_of w.node p ≡ Some t → t.serving ≡ d → settle_served d p t w ≡ Goes z → Leads c e n p (IsBetween b c e n) a z
      of t true there on done = settles_here blank w z a reached related known t there on done
      of t false there on done = stays w z a (let same : w ≡ z = cc in same) related known

      by : (o : Option LockTable) → table_of w.node p ≡ o → settle_in p o w ≡ Goes z → Leads c e n p (IsBetween b c e n) a z
      by None there done = stays w z a (let same : w ≡ z = cc in same) related known
      by (Some t) there done = of t t.serving there refl done

  -- any page
  pub settle_keeps : (r : ℕ) → r < c.config.pages → Keeps c e n p (IsBetween b c e n) (settle_page r) (IsBetween b c e n)
  settle_keeps r within blank w z a reached related known goes = by (r == p) refl
    where
      by : (d : Bool) → (r == p) ≡ d → Leads c e n p (IsBetween b c e n) a z
      by true at = own_page blank w z a reached related known (ap (λ (k : ℕ). settle_page k w) (sym (eqb-true r p at)) ∙ goes)
      by false other =
          let is = settle_on b c e n p r (subst (λ (k : Sizes). r < k.pages) (sym known.0.config) within) w z known.0 goes in
          record { page = a; run = here; related = unseen_is_kept_law c e n p w z a acts (is.unseen other) related; known = (is.midway, known.1) }
