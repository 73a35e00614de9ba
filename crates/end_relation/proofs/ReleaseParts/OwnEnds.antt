-- The end of a transaction at its own node's table.
use Rattle.std.proofs.Common.{◌≡◌, refl, ap, sym, subst, ◌∙◌, ℕ, ◌+◌, ◌<◌, ◌≤◌, ◌==◌, ◌&&◌, Bool, true, false, List, Option, Some, None, is_some, arith, inl, inr, eqb-true}
use Rattle.std.specs.Prelude.{eqb, ◌⊎◌}
use Rattle.std.proofs.lemmas.Bool.Decides.{nat_tests}
use Rattle.pcl_base.specs.Limits.{Sizes}
use Rattle.pcl_base.specs.declared.event.Event.{Event}
use Rattle.pcl_base.specs.declared.message.Change.{Change}
use Rattle.pcl_base.specs.declared.tx.TxId.{TxId}
use Rattle.node_rules.specs.BufferRule.{dirty}
use Rattle.node_rules.specs.EndRule.{Ending}
use Rattle.node_rules.specs.LockRule.{LockEntry, takes_change}
use Rattle.node_rules.specs.LockTable.{LockTable, entry_at, put_entry}
use Rattle.node_rules.specs.NodeState.{NodeState, partition, table_at, table_of, is_serving}
use Rattle.node_rules.specs.OwnerRule.{change_if_served, end_in, enter, enter_in, settle_page, tell_end, tell_in, with_table, version_of_change as rules_version}
use Rattle.node_rules.specs.Work.{Work, Goes, work_of_home}
use Rattle.node_laws.proofs.Bases.{base_of}
use Rattle.cluster_rules.specs.Clusters.{Cluster, node_at, version_of_change}
use Rattle.page_laws.proofs.EntryParts.Looked.{next_change}
use Rattle.cluster_laws.specs.Era.Eras.{era_in}
use Rattle.page_laws.proofs.LookParts.Alike.{beside_self}
use Rattle.page_protocol.specs.Bytes.{Copy}
use Rattle.page_protocol.specs.Invariant.{Lags}
use Rattle.page_protocol.specs.State.{Ended, Page}
use Rattle.page_protocol.specs.Steps.{Reached}
use Rattle.page_protocol.proofs.Keeps.{reached_holds}
use Rattle.page_relation.specs.Looks.{dirty_in, dirty_of}
use Rattle.page_relation.specs.Tables.{TableIs, serves_in}
use Rattle.page_relation.specs.Work.Events.{IsEntered}
use Rattle.page_relation.specs.Work.Keeping.{IsWorkOf, Leads, Keeps}
use Rattle.page_relation.specs.Work.Landing.{land, Acts}
use Rattle.page_relation.specs.Work.Unseen.{IsUnseen}
use Rattle.page_relation.proofs.WorkParts.Framing.{unseen_then}
use Rattle.page_relation.proofs.WorkParts.Kept.{leads_on, reached_on}
use Rattle.page_relation.proofs.WorkParts.Nodes.{at_node}
use Rattle.end_relation.specs.Release.Midway.{IsMidway, SettleKeeps, SettleElsewhere}
use Rattle.end_relation.specs.Release.Owing.{OwesEnd}
use Rattle.end_relation.proofs.ReleaseParts.Cases.{as_served, change_ends, rebuilt_ends, served_ends, stored_now, tabled, writer_holds}
use Rattle.end_relation.proofs.ReleaseParts.Elsewhere.{entry_elsewhere}
use Rattle.end_relation.proofs.ReleaseParts.Midway.{end_midway}
use Rattle.end_relation.proofs.ReleaseParts.Owners.{HasOwn, has_own}
use Rattle.end_relation.proofs.ReleaseParts.Putting.{change_is_now, own_slot}

-- the end in the entry of page q
abbrev pub own_told : ℕ → TxId → Option Change → LockTable → Work → Work
own_told q t change tb w = with_table q (put_entry tb q (end_in t (change_if_served tb.serving change) (entry_at tb q))) w

-- the mark of the acting node
own_mark : (c : Cluster) (e : Event) (n p : ℕ) (w : Work) (a : Page) → Acts c n → IsWorkOf c e n p w a → dirty w.node.home.pool p ≡ (a.dirty && n == a.owner)
unfolding dirty_of
own_mark c e n p w a acts is = at_node c e n acts w n (λ o. dirty_in o p ≡ (a.dirty && n == a.owner)) refl (is.copies.dirty_same n)

-- who serves is the owner
serving_own : (c : Cluster) (e : Event) (n p : ℕ) (w : Work) (a : Page) → Acts c n → IsWorkOf c e n p w a → a.served ≡ true → n ≡ a.owner → is_serving (table_at w.node (partition c.config p)) ≡ true
unfolding land
serving_own c e n p w a acts is served own =
    at_node c e n acts w a.owner (λ o. serves_in o (partition c.config p) ≡ true) (sym own) (is.tables.serving served)

-- no change is none that is taken
pub none_taken : (y : LockEntry) (t : TxId) → takes_change y t None ≡ false
unfolding takes_change
none_taken y t = refl

and_false : (x : Bool) → (x && false) ≡ false
and_false true = refl
and_false false = refl

module _ (c : Cluster) (e : Event) (n p : ℕ) (s : NodeState) (w : Work) (tb : LockTable) (a : Page) (blank : List ℕ) (acts : Acts c n) (up : node_at c n ≡ Some s) (own : HasOwn c n p s w tb)
    (reached : Reached blank a) (is : IsWorkOf c e n p w a) where
  -- a change that isn't taken is in the entry already
  late_entered : tb.serving ≡ true → (t : TxId) (v : ℕ) → a.home t ≡ Ended (Some v) (a.reached n) → takes_change (entry_at tb p) t (Some v) ≡ false → IsEntered a
  late_entered serves t v ended late x on there = by ((reached_holds blank a reached).entry_holds.version table.serves)
    where
      table : TableIs a p n (era_in w.node.view (partition c.config p)) true tb
      table = as_served c e n p s w tb a blank acts up own reached is serves

      now : a.reached n ≡ a.era
      now = (tabled c e n p s w tb a blank acts up own reached is).era_same ∙ table.now

      ended_now : a.home t ≡ Ended (Some v) a.era
      ended_now = ended ∙ ap (Ended (Some v)) now

      by : (a.entry ≡ a.now) ⊎ Lags a.era a.now a.entry a.log a.listed a.home → x.version ≤ a.entry
      by (inl same) =
          let old = ((reached_holds blank a reached).stores_hold.slots_are a.owner x there).old in
          omega (arith, same, old)
      by (inr lags) =
          let is_now = change_is_now blank a t v a.era reached ended_now (omega arith) in
          let behind = lags.by_one in
          let version = table.version in
          let next : v ≡ (entry_at tb p).version + 1 = omega (arith, is_now, behind, version) in
          let taken : takes_change (entry_at tb p) t (Some v) ≡ true =
          (next_change (entry_at tb p) t v).1 (record { holds = table.holders t ∙ writer_holds blank a t (Some v) a.era v reached ended_now (omega arith) refl; next = next }) in
          let bad : true ≡ false = sym taken ∙ late in
          absurd (cc)

  -- at a table that doesn't serve the node isn't the owner that does
  not_owner : tb.serving ≡ false → (a.served && eqb n a.owner) ≡ false
  not_owner unserved = by a.served (eqb n a.owner) refl refl
    where
      by : (x y : Bool) → a.served ≡ x → eqb n a.owner ≡ y → (x && y) ≡ false
      by true true on same =
          let at : n ≡ a.owner = eqb-true n a.owner same in
          let bad : true ≡ false = sym (serving_own c e n p w a acts is on at) ∙ ap is_serving own.there ∙ unserved in
          absurd (cc)
      by true false on same = refl
      by false y on same = refl

  pub own_ends : (t : TxId) (change : Option Change) → OwesEnd c e n p t change w a → Leads c e n p (λ y b. IsEntered b) a (own_told p t change tb w)
  own_ends t change owes = by tb.serving refl change owes
    where
      taken : tb.serving ≡ true → (x : Change) → OwesEnd c e n p t (Some x) w a → (b : Bool) → takes_change (entry_at tb p) t (Some x.version) ≡ b
          → Leads c e n p (λ y b. IsEntered b) a (with_table p (put_entry tb p (end_in t (Some x) (entry_at tb p))) w)
      taken serves x owes true goes =
          let table = as_served c e n p s w tb a blank acts up own reached is serves in
          let copy = owes.copy x refl table.serves table.here in
          change_ends c e n p s w tb a blank acts up own reached is serves t x.version (work_of_home w) owes.ended owes.untold goes (beside_self w.node.home)
          (own_slot c e n p w a acts is ∙ copy.1 ∙ ap (λ (bytes : List ℕ). some_copy x.version bytes) owes.image)
          (own_mark c e n p w a acts is ∙ ap (λ (b : Bool). b && n == a.owner) copy.0 ∙ (let at : (n == a.owner) ≡ true = own_here table.here in at))
          (stored_now c e n p w a is)
        where
          some_copy : ℕ → List ℕ → Option Copy
          some_copy v bytes = Some (record { version = v; bytes = bytes })

          own_here : n ≡ a.owner → (n == a.owner) ≡ true
          own_here same = grind (arith, nat_tests, same)
      taken serves x owes false late =
          served_ends c e n p s w tb a blank acts up own reached is serves t (Some x.version) owes.ended owes.untold late (late_entered serves t x.version owes.ended late)

      by : (b : Bool) → tb.serving ≡ b → (o : Option Change) → OwesEnd c e n p t o w a
          → Leads c e n p (λ y b. IsEntered b) a (with_table p (put_entry tb p (end_in t (change_if_served b o) (entry_at tb p))) w)
      by false unserved o owes =
          rebuilt_ends c e n p s w tb a blank acts up own reached is unserved t (version_of_change o) None owes.ended owes.untold
          (owes.entered (ap (λ (x : Bool). is_some o && x) (not_owner unserved) ∙ and_false (is_some o)))
      by true serves None owes = served_ends c e n p s w tb a blank acts up own reached is serves t None owes.ended owes.untold (none_taken (entry_at tb p) t) (owes.entered refl)
      by true serves (Some x) owes = taken serves x owes (takes_change (entry_at tb p) t (Some x.version)) refl

-- ---- the operation

pub own_goes : (q : ℕ) (t : TxId) (x : Ending) (tb : LockTable) (w : Work) → x.page ≡ q → table_of w.node q ≡ Some tb → tell_end t x w ≡ settle_page q (own_told q t x.change tb w)
unfolding tell_end enter
own_goes q t x tb w at there =
    ap (λ (o : Option LockTable). tell_in t x o w) (ap (table_of w.node) at ∙ there)
    ∙ ap (λ (k : ℕ). enter_in (end_in t (change_if_served tb.serving x.change)) k (table_of w.node k) w) at
    ∙ ap (λ (o : Option LockTable). enter_in (end_in t (change_if_served tb.serving x.change)) q o w) there

module _ (c : Cluster) (e : Event) (n p : ℕ) (s : NodeState) (acts : Acts c n) (up : node_at c n ≡ Some s) where
  -- an own end of the page
  pub own_end_keeps : p < c.config.pages → (t : TxId) (x : Ending) (tb : LockTable) → x.page ≡ p → SettleKeeps (base_of s) c e n p p
      → Keeps c e n p (λ w a. IsMidway (base_of s) c e n w × OwesEnd c e n p t x.change w a × (table_of w.node p ≡ Some tb)) (tell_end t x)
      (λ w a. IsMidway (base_of s) c e n w × IsEntered a)
  own_end_keeps low t x tb at settle blank w y a reached is before goes =
      leads_on c e n p (λ w a. IsMidway (base_of s) c e n w × IsEntered a) a told.page y told.run
      (settle blank (own_told p t x.change tb w) y told.page (reached_on blank a told.page reached told.run) told.related
      (end_midway (base_of s) c e n p tb t (rules_version (change_if_served tb.serving x.change)) w (subst (λ (k : Sizes). p < k.pages) (sym before.0.config) low) before.2 before.0, told.known)
      (sym (own_goes p t x tb w at before.2) ∙ goes))
    where
      own : HasOwn c n p s w tb
      own = has_own c n p s w tb acts.cluster up before.0.base before.0.good before.2

      told : Leads c e n p (λ y b. IsEntered b) a (own_told p t x.change tb w)
      told = own_ends c e n p s w tb a blank acts up own reached is t x.change before.1

  -- an own end of another page
  pub own_end_elsewhere : (t : TxId) (x : Ending) (tb : LockTable) (w y : Work) → (x.page == p) ≡ false → x.page < c.config.pages → SettleElsewhere (base_of s) c e n p x.page
      → IsMidway (base_of s) c e n w → table_of w.node x.page ≡ Some tb → tell_end t x w ≡ Goes y → IsUnseen c e n p w y × IsMidway (base_of s) c e n y
  own_end_elsewhere t x tb w y other below settle mid there goes =
      let own : HasOwn c n x.page s w tb = has_own c n x.page s w tb acts.cluster up mid.base mid.good there in
      let ended : IsMidway (base_of s) c e n (own_told x.page t x.change tb w) =
      end_midway (base_of s) c e n x.page tb t (rules_version (change_if_served tb.serving x.change)) w (subst (λ (k : Sizes). x.page < k.pages) (sym mid.config) below) there mid in
      let settled = settle (own_told x.page t x.change tb w) y other ended (sym (own_goes x.page t x tb w refl there) ∙ goes) in (
        unseen_then c e n p w (own_told x.page t x.change tb w) y
            (entry_elsewhere c e n p x.page tb (end_in t (change_if_served tb.serving x.change) (entry_at tb x.page)) w other own.config own.there)
            settled.0,
        settled.1,
      )
