-- What a table gives that is redone, purged, completed and served.
use Rattle.std.proofs.Common.{◌≡◌, ℕ, suc, ◌+◌, ◌≤◌, nat_lt, cond, Bool, true, false, List, [], ◌∷◌, length, Option, Some, None, refl, ap, sym, subst, ◌∙◌, arith}
use Rattle.std.specs.Prelude.{⊤}
use Rattle.std.specs.List.{filter, AllByRecursion}
use Rattle.pcl_base.specs.declared.log.Record.{Record}
use Rattle.pcl_base.specs.declared.lock.Decision.TheVariants.{Revoke}
use Rattle.pcl_base.specs.declared.lock.RightMark.{RightMark}
use Rattle.pcl_base.specs.declared.lock.Waiter.{Waiter}
use Rattle.pcl_base.specs.declared.reply.Reply.TheVariants as reply
use Rattle.run_rules.specs.Disk.{Disk}
use Rattle.run_rules.specs.Redo.{redone, greatest, all_records}
use Rattle.run_rules.specs.Views.{View}
use Rattle.text_rules.specs.StoredPage.{PageAt}
use Rattle.node_rules.specs.Words.{pick, flag_at}
use Rattle.node_rules.specs.LockRule.{LockEntry, revocations, purge}
use Rattle.node_rules.specs.LockTable.{LockTable, PageEntry, entry_at, set_version, pages_of, serve}
use Rattle.node_rules.specs.NodeState.{table_at, put_table}
use Rattle.node_rules.specs.Work.{HomeWork, Work, for_each, work_of_home, with_node, reply, read_page}
use Rattle.node_rules.specs.OwnerRule.{settle_page}
use Rattle.node_rules.specs.InstallRule.{write_newer, version_in, redo_to, redo_page, settle_all, serve_table, begin_serving, complete_if, is_complete, complete, redo_if, redo_lost, version_of_page, purge_table, purged, purge_work}
use Rattle.step_laws.proofs.Sums.{sum_map}
use Rattle.step_laws.proofs.Settles.{due, due_with, fresh, writer_waits, kept_due}
use Rattle.step_laws.proofs.Tables.{in_table, table_put, entry_put}
use Rattle.step_laws.proofs.Outcomes.{On, on_then, on_so, on_each, on_any}
use Rattle.step_laws.proofs.Homes.{IsSame}
use Rattle.step_laws.proofs.Works.{Cap, Holds, holds_more, holds_reply, holds_tables, holds_same}
use Rattle.step_laws.proofs.Pages.{settle_holds}

-- fewer that wait and fewer rights
module _ {X : Type 0} where
  kept_short : (p : X → Bool) (xs : List X) → length (filter p xs) ≤ length xs
  kept_short p [] = omega arith
  kept_short p (x ∷ xs) = by (p x) (filter p xs) (kept_short p xs)
    where
      by : (b : Bool) → (ys : List X) → length ys ≤ length xs → length (cond b (x ∷ ys) ys) ≤ suc (length xs)
      by true ys rest = omega (arith, rest)
      by false ys rest = omega (arith, rest)

kept_revocations : (p : RightMark → Bool) (rs : List RightMark) → length (revocations (filter p rs)) ≤ length (revocations rs)
unfolding revocations
kept_revocations p [] = omega arith
kept_revocations p (r ∷ rs) = by (p r) r.revoked refl (kept_revocations p rs)
  where
    by : (b d : Bool) → r.revoked ≡ d → length (revocations (filter p rs)) ≤ length (revocations rs)
        → length (revocations (cond b (r ∷ filter p rs) (filter p rs))) ≤ length (pick d (revocations rs) (Revoke r.node ∷ revocations rs))
    by true true e rest = let same = ap (λ d. length (pick d (revocations (filter p rs)) (Revoke r.node ∷ revocations (filter p rs)))) e in omega (arith, rest, same)
    by true false e rest = let same = ap (λ d. length (pick d (revocations (filter p rs)) (Revoke r.node ∷ revocations (filter p rs)))) e in omega (arith, rest, same)
    by false true e rest = rest
    by false false e rest = omega (arith, rest)

kept_fresh : (b : Bool) (p : RightMark → Bool) (rs : List RightMark) → fresh b (filter p rs) ≤ fresh b rs
kept_fresh true p rs = kept_revocations p rs
kept_fresh false p rs = omega arith

pub fewer_due : (keep : Waiter → Bool) (p : RightMark → Bool) (ws : List Waiter) (rs : List RightMark) → due_with (filter keep ws) (filter p rs) ≤ due_with ws rs
fewer_due keep p ws rs =
    let wait = kept_due keep ws rs (kept_short keep ws) in
    let few = kept_fresh (writer_waits (filter keep ws)) p rs in
    omega (arith, wait, few)

pub fewer_waits : (keep : Waiter → Bool) (ws : List Waiter) (rs : List RightMark) → due_with (filter keep ws) rs ≤ due_with ws rs
fewer_waits keep ws rs = kept_due keep ws rs (kept_short keep ws)

pub fewer_rights : (p : RightMark → Bool) (ws : List Waiter) (rs : List RightMark) → due_with ws (filter p rs) ≤ due_with ws rs
fewer_rights p ws rs = let few = kept_fresh (writer_waits ws) p rs in omega (arith, few)

purge_due : (live : List Bool) (e : LockEntry) → due (purge e live) ≤ due e
unfolding purge
purge_due live e = fewer_due (λ w. flag_at live w.tx.node) (λ r. flag_at live r.node) e.waiting e.rights

-- a table in the place of one that counts no less
table_holds : (c : Cap) (q : ℕ) (t u : LockTable) (k : ℕ) (w : Work) → table_at w.node q ≡ Some t → in_table due (Some u) ≤ in_table due (Some t)
    → Holds due c k w → Holds due c k (with_node w (put_table w.node q (Some u)))
table_holds c q t u k w there less h =
    let put = table_put due w.node q (Some u) in
    let old : in_table due (table_at w.node q) ≡ in_table due (Some t) = ap (in_table due) there in
    let now = h.given in
    holds_tables due c due k k (put_table w.node q (Some u)) w refl (omega (arith, put, old, now, less)) h

module _ (c : Cap) (q : ℕ) where
  -- a page is redone
  version_holds : (p v k : ℕ) (w : Work) → Holds due c k w → Holds due c k (with_node w (version_in q p v (table_at w.node q) w.node))
  version_holds p v k w h = by (table_at w.node q) refl
    where
      by : (o : Option LockTable) → table_at w.node q ≡ o → Holds due c k (with_node w (version_in q p v o w.node))
      by None there = h
      by (Some t) there =
          let put = entry_put due refl w.node q t p (record (entry_at t p) { version = v }) there in
          let now = h.given in
          holds_tables due c due k k (put_table w.node q (Some (set_version t p v))) w refl (omega (arith, put, now)) h

  newer_same : (b : Bool) (p : ℕ) (at : PageAt) (w : HomeWork) → IsSame w.home (write_newer b p at w).home
  newer_same true p at w = record { config = refl; txs = refl; shelf = refl }
  newer_same false p at w = record { config = refl; txs = refl; shelf = refl }

  redone_holds : (rs : List Record) (p k : ℕ) (w : Work) → Holds due c k w → On (Holds due c k) (redo_page rs q p w)
  unfolding redo_page
  redone_holds rs p k w h =
      on_so (λ (x : PageAt). ⊤) (Holds due c k) (read_page w.pages p) (λ old. redo_to q p old (redone rs p old) w) (on_any (read_page w.pages p))
      (λ old any.
      let new : PageAt = redone rs p old in
      let versioned : Work = with_node w (version_in q p new.version (table_at w.node q) w.node) in
      let home : IsSame w.node.home (write_newer (nat_lt old.version new.version) p new (work_of_home w)).home = newer_same (nat_lt old.version new.version) p new (work_of_home w) in
      let same = version_home p new.version w in
      holds_same due c k (write_newer (nat_lt old.version new.version) p new (work_of_home w)) versioned
      (record {
        config = home.config ∙ ap (λ x. x.config) same;
        txs = home.txs ∙ ap (λ x. x.txs) same;
        shelf = home.shelf ∙ ap (λ x. x.shelf) same;
      })
      (version_holds p new.version k w h))
    where
      version_home : (p v : ℕ) (w : Work) → w.node.home ≡ (version_in q p v (table_at w.node q) w.node).home
      version_home p v w = by (table_at w.node q)
        where
          by : (o : Option LockTable) → w.node.home ≡ (version_in q p v o w.node).home
          by None = refl
          by (Some t) = refl

  lost_holds : (lost rs : List Record) (p k : ℕ) (w : Work) → Holds due c k w → On (Holds due c k) (redo_lost lost rs q p w)
  lost_holds lost rs p k w h = by (nat_lt (version_of_page (table_at w.node q) p) (greatest lost p))
    where
      by : (b : Bool) → On (Holds due c k) (redo_if b rs q p w)
      by true = redone_holds rs p k w h
      by false = h

  purged_holds : (v : View) (k : ℕ) (w : Work) → Holds due c k w → Holds due c k (purge_work q v w)
  purged_holds v k w h = by (table_at w.node q) refl
    where
      by : (o : Option LockTable) → table_at w.node q ≡ o → Holds due c k (with_node w (purged q v.live o w.node))
      by None there = h
      by (Some t) there =
          table_holds c q t (purge_table v.live t) k w there
          (sum_map (λ (x : PageEntry). due x.entry) (λ (x : PageEntry). record { page = x.page; entry = purge x.entry v.live }) (λ x. purge_due v.live x.entry) t.entries) h

  served_holds : (k : ℕ) (w : Work) → Holds due c k w → Holds due c k (with_node w (serve_table q (table_at w.node q) w.node))
  served_holds k w h = by (table_at w.node q) refl
    where
      by : (o : Option LockTable) → table_at w.node q ≡ o → Holds due c k (with_node w (serve_table q o w.node))
      by None there = h
      by (Some t) there = table_holds c q t (serve t) k w there (omega arith) h

  module _ (none : AllByRecursion (λ p. c.weight p ≡ 0) (pages_of c.config q)) where
    none_at : (w : Work) → w.node.home.config ≡ c.config → AllByRecursion (λ p. c.weight p ≡ 0) (pages_of w.node.home.config q)
    none_at w same = subst (λ s. AllByRecursion (λ p. c.weight p ≡ 0) (pages_of s q)) (sym same) none

    all_settled : (k : ℕ) (w : Work) → Holds due c k w → On (Holds due c k) (settle_all q w)
    all_settled k w h =
        on_each (Holds due c k) (λ p. c.weight p ≡ 0) settle_page (λ p x free held. settle_holds c p free k x held) (pages_of w.node.home.config q) (none_at w h.config) w h

    all_redone : (rs : List Record) (k : ℕ) (w : Work) → Holds due c k w → On (Holds due c k) (for_each (redo_page rs q) (pages_of w.node.home.config q) w)
    all_redone rs k w h =
        on_each (Holds due c k) (λ p. c.weight p ≡ 0) (redo_page rs q) (λ p x free held. redone_holds rs p k x held) (pages_of w.node.home.config q) (none_at w h.config) w h

    pub all_lost : (lost rs : List Record) (k : ℕ) (w : Work) → Holds due c k w → On (Holds due c k) (for_each (redo_lost lost rs q) (pages_of w.node.home.config q) w)
    all_lost lost rs k w h =
        on_each (Holds due c k) (λ p. c.weight p ≡ 0) (redo_lost lost rs q) (λ p x free held. lost_holds lost rs p k x held) (pages_of w.node.home.config q) (none_at w h.config) w h

    begun_holds : (k : ℕ) (w : Work) → Holds due c k w → On (Holds due c (k + 1)) (begin_serving q w)
    begun_holds k w h =
        let next : Work = with_node w (serve_table q (table_at w.node q) w.node) in
        all_settled (k + 1) (reply (reply.Serving q) next) (holds_reply due c k (reply.Serving q) next (served_holds k w h))

    -- a table is completed with one reply
    pub complete_holds : (d : Disk) (k : ℕ) (w : Work) → Holds due c k w → On (Holds due c (k + 1)) (complete d q w)
    unfolding complete
    complete_holds d k w h = by (is_complete w.node.view q (table_at w.node q))
      where
        by : (b : Bool) → On (Holds due c (k + 1)) (complete_if b d q w)
        by true =
            on_then (Holds due c k) (Holds due c (k + 1)) (for_each (redo_page (all_records w.node.home.config d) q) (pages_of w.node.home.config q) w) (begin_serving q)
            (all_redone (all_records w.node.home.config d) k w h) (λ x held. begun_holds k x held)
        by false = holds_more due c k (k + 1) w (omega arith) h

    pub purged_settled : (v : View) (k : ℕ) (w : Work) → Holds due c k w → On (Holds due c k) (settle_all q (purge_work q v w))
    purged_settled v k w h = all_settled k (purge_work q v w) (purged_holds v k w h)

    pub purged_complete : (d : Disk) (v : View) (k : ℕ) (w : Work) → Holds due c k w → On (Holds due c (k + 1)) (complete d q (purge_work q v w))
    purged_complete d v k w h = complete_holds d k (purge_work q v w) (purged_holds v k w h)
