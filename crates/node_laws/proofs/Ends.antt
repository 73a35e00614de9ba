-- Ends of a node's transactions.
use Rattle.std.proofs.Common.{◌≡◌, refl, subst, ◌∙◌, sym, ℕ, ◌<◌, ◌==◌, Bool, true, false, List, [], ◌∷◌, length, Option, Some, None, is_some, arith}
use Rattle.std.specs.List.{AllByRecursion}
use Rattle.pcl_base.specs.Limits.{Sizes}
use Rattle.pcl_base.specs.declared.tx.TxId.{TxId}
use Rattle.pcl_base.specs.declared.lock.Kind.{Kind}
use Rattle.pcl_base.specs.declared.lock.Kind.TheVariants as kind
use Rattle.pcl_base.specs.declared.message.Body.TheVariants as body
use Rattle.pcl_base.specs.declared.reply.Reply.{Reply}
use Rattle.text_rules.specs.LogRecord.{record_bytes}
use Rattle.text_rules.specs.MessageBytes.{IsTx, IsPage, IsChange}
use Rattle.node_rules.specs.Words.{pick}
use Rattle.node_rules.specs.LockTable.{LockTable}
use Rattle.node_rules.specs.OpenTxs.{OpenTxs, is_open, pending_of, close_tx}
use Rattle.node_rules.specs.BufferRule.{Pool, clean}
use Rattle.node_rules.specs.NodeState.{HomeState, partition, table_of, page_owner}
use Rattle.node_rules.specs.DiskCalls.{Force}
use Rattle.node_rules.specs.Work.{HomeWork, Work, work_of_home, with_home_work, reply}
use Rattle.node_rules.specs.AccessRule.{on_pool}
use Rattle.node_rules.specs.EndRule.{Ending, Closed, ending, endings, pages_at_end, pages_written, is_written, new_version, new_bytes, change_if, closed, publish_all, commit_record, force_if, abort, commit}
use Rattle.node_rules.specs.OwnerRule.{change_if_served, version_of_change, end_in, send_release, tell_in, tell_end, is_unserved, keep_dirty, clean_unserved, end_work}
use Rattle.home_laws.specs.Homes.{IsHome}
use Rattle.home_laws.proofs.Ends.{abort_is_sound_law, commit_is_sound_law}
use Rattle.home_laws.proofs.EndNeeds.{is_written_is}
use Rattle.home_laws.proofs.Leaves.{clean_is_sound_law}
use Rattle.home_laws.proofs.Records.{new_sized}
use Rattle.step_laws.proofs.Outcomes.{On, on_each}
use Rattle.node_laws.proofs.Entries.{end_is}
use Rattle.node_laws.proofs.Lists.{all_map}
use Rattle.node_laws.proofs.Shelves.{ends_are}
use Rattle.node_laws.proofs.Stored.{AreStored, called}
use Rattle.node_laws.proofs.Transactions.{ended_below}
use Rattle.node_laws.proofs.Works.{Base, IsBase, IsHomeOf, IsHomeWork, IsGood, good_reply, good_send, good_home, has_none}
use Rattle.node_laws.proofs.Grants.{NamesSame, home_of}
use Rattle.node_laws.proofs.Pages.{partition_low, same_partition, enter_good}
use Rattle.node_laws.proofs.Accesses.{OwnedBeside}

-- what may be told of a page at an end
pub record IsEnding (c : Sizes) (e : Ending) : Type 0 where
  pub page : IsPage c e.page
  pub change : IsChange c.size e.change

given_up_is : (h : HomeState) (t : TxId) (p : ℕ) → IsPage h.config p → IsEnding h.config (ending h t false p)
given_up_is h t p low = record { page = low; change = tt }

committed_is : (h : HomeState) (t : TxId) (p : ℕ) → IsHome h → pending_of h.txs t ≡ None → IsPage h.config p → IsEnding h.config (ending h t true p)
committed_is h t p is waits low = record { page = low; change = by (is_written h t p) refl }
  where
    by : (x : Bool) → is_written h t p ≡ x → IsChange h.config.size (change_if x (new_version h p) (new_bytes h t p))
    by true e = (omega arith, new_sized h t p is (is.filled t p ∙ sym (is_written_is h t p is waits) ∙ e))
    by false e = tt

pub given_up_are : (h : HomeState) (t : TxId) → IsHome h → AllByRecursion (IsEnding h.config) (endings h t false)
unfolding endings
given_up_are h t is = all_map (IsPage h.config) (IsEnding h.config) (ending h t false) (given_up_is h t) (pages_at_end h t) (ended_below h t is)

pub committed_are : (h : HomeState) (t : TxId) → IsHome h → pending_of h.txs t ≡ None → AllByRecursion (IsEnding h.config) (endings h t true)
unfolding endings
committed_are h t is waits = all_map (IsPage h.config) (IsEnding h.config) (ending h t true) (λ p. committed_is h t p is waits) (pages_at_end h t) (ended_below h t is)

close_names : (s : OpenTxs) (t : TxId) → NamesSame s (close_tx s t)
unfolding close_tx
close_names s t = record { node = refl; born = refl }

-- what an end leaves of a home
pub record Ends (b : Base) (x : Closed) : Type 0 where
  pub endings : AllByRecursion (IsEnding b.config) x.endings
  pub work : IsHomeWork b x.work

module _ (b : Base) where
  closed_good : (h : HomeState) (t : TxId) (pool : Pool) → IsHomeOf b h → IsHome (closed h t pool) → IsHomeOf b (closed h t pool)
  unfolding closed
  closed_good h t pool of is = home_of b h (closed h t pool) refl (close_names h.txs t) (ends_are b.config t (pages_at_end h t) h.shelf of.rights) is of

  endings_of : (h : HomeState) (es : List Ending) → h.config ≡ b.config → AllByRecursion (IsEnding h.config) es → AllByRecursion (IsEnding b.config) es
  endings_of h es same are = subst (λ (c : Sizes). AllByRecursion (IsEnding c) es) same are

  pub abort_good : (t : TxId) (w : HomeWork) → is_open w.home.txs t ≡ true → IsHomeWork b w → Ends b (abort t w)
  unfolding abort
  abort_good t w there is =
      record {
        endings = endings_of w.home (endings w.home t false) is.home.config (given_up_are w.home t is.home.home);
        work = record { home = closed_good w.home t w.home.pool is.home (abort_is_sound_law t w is.home.home there); stored = is.stored };
      }

  forced_stored : (x : Bool) (t : TxId) (bytes : List ℕ) (w : HomeWork) → AreStored b.config w.pages w.calls → AreStored b.config (force_if x t bytes w).pages (force_if x t bytes w).calls
  forced_stored true t bytes w stored = stored
  forced_stored false t bytes w stored = called b.config (Force t bytes) w.pages w.calls tt stored

  pub commit_good : (t : TxId) (w : HomeWork) → is_open w.home.txs t ≡ true → pending_of w.home.txs t ≡ None → IsHomeWork b w → Ends b (commit t w)
  unfolding commit
  commit_good t w there waits is =
      record {
        endings = endings_of w.home (endings w.home t true) is.home.config (committed_are w.home t is.home.home waits);
        work =
            record {
              home = closed_good w.home t (publish_all w.home t) is.home (commit_is_sound_law t w is.home.home there waits);
              stored = forced_stored (length (pages_written w.home t) == 0) t (record_bytes (commit_record w.home t)) w is.stored;
            };
      }

  module _ (base : IsBase b) where
    dirty_good : (w : Work) (p : ℕ) → IsGood b w → IsGood b (keep_dirty w p)
    dirty_good w p good = by (is_unserved (table_of w.node p))
      where
        by : (x : Bool) → IsGood b (pick x (with_home_work w (on_pool (λ d. clean d p) (work_of_home w))) w)
        by true =
            let of = good.home in
            good_home b base (on_pool (λ d. clean d p) (work_of_home w)) w
            (record {
              home = record { config = of.config; number = of.number; born = of.born; home = clean_is_sound_law p w.node.home of.home; rights = of.rights };
              stored = good.stored;
            }) good
        by false = good

    cleaned_good : (es : List Ending) (w : Work) → IsGood b w → IsGood b (clean_unserved es w)
    unfolding clean_unserved
    cleaned_good [] w good = good
    cleaned_good (e ∷ es) w good = cleaned_good es (pick (is_some e.change) (keep_dirty w e.page) w) (by (is_some e.change))
      where
        by : (x : Bool) → IsGood b (pick x (keep_dirty w e.page) w)
        by true = dirty_good w e.page good
        by false = good

    release_good : OwnedBeside b base → (k : Kind) (t : TxId) (e : Ending) (w : Work) → IsTx b.config t → IsEnding b.config e → b.has (partition b.config e.page) ≡ false → IsGood b w
        → IsGood b (send_release k t e w)
    release_good beside kind.Registered t e w tx is none good =
        good_send b base (page_owner w.node e.page) (body.Release (record { tx = t; page = e.page; change = e.change })) w (beside w e.page good none) (tx, is.page, is.change) good
    release_good beside kind.Own t e w tx is none good = good
    release_good beside kind.Right t e w tx is none good = good

    tell_good : OwnedBeside b base → (t : TxId) → IsTx b.config t → (e : Ending) (w : Work) → IsEnding b.config e → IsGood b w → On (IsGood b) (tell_end t e w)
    unfolding tell_end
    tell_good beside t tx e w is good = by (table_of w.node e.page) refl
      where
        none_there : table_of w.node e.page ≡ None → b.has (partition b.config e.page) ≡ false
        none_there there =
            let same = same_partition b base w e.page good in
            subst (λ (q : ℕ). b.has q ≡ false) same
            (has_none b base (partition w.node.home.config e.page) w (subst (λ (q : ℕ). q < b.config.nodes) (sym same) (partition_low b base e.page)) there good)

        by : (o : Option LockTable) → table_of w.node e.page ≡ o → On (IsGood b) (tell_in t e o w)
        by None there = release_good beside e.kind t e w tx is (none_there there) good
        by (Some tb) there =
            enter_good b base e.page is.page (end_in t (change_if_served tb.serving e.change))
            (λ entry h. end_is b.config b.number t (version_of_change (change_if_served tb.serving e.change)) entry h) w good

    -- an end of a transaction
    pub end_good : OwnedBeside b base → (r : Reply) (t : TxId) (w : Work) (x : Closed) → IsTx b.config t → Ends b x → IsGood b w → On (IsGood b) (end_work r t w x)
    end_good beside r t w x tx ends good =
        let closed_work : Work = with_home_work w x.work in
        let start : Work = reply r (clean_unserved x.endings closed_work) in
        on_each (IsGood b) (IsEnding b.config) (tell_end t) (λ e y is. tell_good beside t tx e y is) x.endings ends.endings start
        (good_reply b base r (clean_unserved x.endings closed_work) (cleaned_good x.endings closed_work (good_home b base x.work w ends.work good)))
