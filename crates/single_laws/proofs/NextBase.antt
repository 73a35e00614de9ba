-- The base that a commit of a node alone makes: each page that was written is as it was left, at the
-- next version.
use Rattle.std.proofs.Common.{◌≡◌, refl, sym, ap, subst, ◌∙◌, ℕ, ◌+◌, ◌-◌, ◌^◌, ◌<◌, ◌==◌, ◌&&◌, nat_lt, Bool, true, false, List, length, None, Some, is_some, arith}
use Rattle.std.specs.Prelude.{Option, IfSome}
use Rattle.std.proofs.lemmas.Bool.Decides.{nat_tests}
use Rattle.pcl_base.specs.Limits.{Sizes}
use Rattle.pcl_base.specs.declared.tx.TxId.{TxId}
use Rattle.pcl_base.specs.declared.tx.Mode.{Mode}
use Rattle.pcl_base.specs.declared.lock.Held.{Held}
use Rattle.text_rules.specs.StoredPage.{PageAt}
use Rattle.run_rules.specs.Base.{BasePage, Base, page_at, version_at, bytes_at}
use Rattle.run_rules.specs.Disk.{Disk}
use Rattle.run_rules.specs.Now.{Story}
use Rattle.node_rules.specs.Words.{pick, is_exclusive}
use Rattle.node_rules.specs.OpenTxs.{held_by, mode_held}
use Rattle.node_rules.specs.BufferRule.{Copy, find, copy_at, version_of_copy, private_bytes}
use Rattle.node_rules.specs.LockTable.{LockTable}
use Rattle.node_rules.specs.NodeState.{HomeState}
use Rattle.node_rules.specs.Work.{Outcome, read_page}
use Rattle.node_rules.specs.AccessRule.{version_or}
use Rattle.node_rules.specs.EndRule.{pages_written, at_version_end, new_version, new_bytes, change_if, is_own_kind, is_written, is_own_lock}
use Rattle.node_rules.specs.OwnerRule.{version_of_change}
use Rattle.home_laws.specs.Homes.{is_exclusive_lock}
use Rattle.home_laws.proofs.Tests.{number_same}
use Rattle.home_laws.proofs.Serials.{one_if}
use Rattle.home_laws.proofs.Unpins.{times}
use Rattle.home_laws.proofs.Pools.{pool_of_home}
use Rattle.home_laws.proofs.Publishes.{private_sized}
use Rattle.single_laws.proofs.Working.{after_look, next_base, next_length, next_page, next_past}
use Rattle.single_laws.proofs.Pages.{IsBase, PageIs, at}
use Rattle.single_laws.proofs.Entries.{is_taken}
use Rattle.single_laws.proofs.Alone.{look_of, IsOwn, Busy, Alone}
use Rattle.page_laws.proofs.WrittenParts.Logging.{none_passes}
use Rattle.page_laws.proofs.WrittenParts.Looked.{written_look, times_look}
use Rattle.single_laws.proofs.Telling.{ended_version}

module _ (c : Sizes) (one : c.nodes ≡ 1) (h : HomeState) (tb : LockTable) (d : Disk) (s : Story) (alone : Alone c h tb d s) (t : TxId) (busy : Busy h tb alone.base s t)
    (last : at_version_end h t ≡ false) where
  abbrev pub new : Base
  new = next_base (look_of h.pool t) alone.base

  -- a page that was written is one of the database, held exclusively, and has a copy below the end
  pub record IsWritten (p : ℕ) : Type 0 where
    pub lock : Held
    pub held : held_by h.txs t p ≡ Some lock
    pub alone_held : is_exclusive lock.mode ≡ true
    pub own : is_own_lock (held_by h.txs t p) ≡ true
    pub below : p < c.pages
    pub there : is_some (copy_at h.pool p) ≡ true
    pub version : version_or (find h.pool p) ≡ version_at alone.base p
    pub more : version_at alone.base p + 1 < 18446744073709551616

  pub page : (p : ℕ) → p < c.pages → PageIs (copy_at h.pool p) (read_page d.pages p) (at alone.base p)
  page p below = alone.kept.pages.pages p below

  copy_version : (o : Option Copy) (r : Outcome PageAt) (x : PageAt) → is_some o ≡ true → PageIs o r x → version_or (version_of_copy o) ≡ x.version
  copy_version None r x e is = absurd (cc)
  copy_version (Some y) r x e is = is.0

  pub is_written_page : (p : ℕ) → is_some (private_bytes h.pool t p) ≡ true → IsWritten p
  unfolding at_version_end
  is_written_page p some = by (held_by h.txs t p) refl (sym (alone.home.filled t p) ∙ some) (busy.own p)
    where
      by : (o : Option Held) → held_by h.txs t p ≡ o → is_exclusive_lock (held_by h.txs t p) ≡ true → IsOwn (held_by h.txs t p) → IsWritten p
      by None e exclusive own =
          let none : is_exclusive_lock (held_by h.txs t p) ≡ false = ap is_exclusive_lock e in absurd (cc)
      by (Some l) e exclusive own =
          let held = alone.home.held t p (ap is_some e) in
          let inside : p < c.pages = subst (λ (x : Sizes). p < x.pages) alone.kept.config held.0 in
          let version = copy_version (copy_at h.pool p) (read_page d.pages p) (at alone.base p) held.1 (page p inside) in
          let least : times p (pages_written h t) ≡ 1 = times_look h t alone.home busy.waits p ∙ ap one_if some in
          let test : (version_or (find h.pool p) == 2 ^ 64 - 1) ≡ false = none_passes (λ q. version_or (find h.pool q) == 2 ^ 64 - 1) (pages_written h t) p last (omega (arith, least)) in
          let under = alone.kept.fine.below p in
          let own_kind : is_own_lock (Some l) ≡ true = ap is_own_kind (subst IsOwn e own) in
          record {
            lock = l;
            held = e;
            alone_held = sym (ap is_exclusive_lock e) ∙ exclusive;
            own = ap is_own_lock e ∙ own_kind;
            below = inside;
            there = held.1;
            version = version;
            more = grind (arith, nat_tests);
          }

  -- the pages of the next base
  new_page : (p : ℕ) → page_at new p ≡ after_look (private_bytes h.pool t p) (page_at alone.base p)
  new_page p = by (private_bytes h.pool t p) refl
    where
      past_or : (o : Option (List ℕ)) → private_bytes h.pool t p ≡ o → (b : Bool) → nat_lt p (length alone.base) ≡ b → page_at new p ≡ after_look (private_bytes h.pool t p) (page_at alone.base p)
      past_or o e true f = next_page (look_of h.pool t) alone.base p (grind (arith, nat_tests))
      past_or None e false f =
          next_past (look_of h.pool t) 0 alone.base p (grind (arith, nat_tests)) ∙ ap (λ o. after_look o (page_at alone.base p)) (sym e)
      past_or (Some bytes) e false f =
          let below = (is_written_page p (ap is_some e)).below in
          let count = alone.kept.fine.count in
          absurd (grind (arith, nat_tests))

      by : (o : Option (List ℕ)) → private_bytes h.pool t p ≡ o → page_at new p ≡ after_look (private_bytes h.pool t p) (page_at alone.base p)
      by o e = past_or o e (nat_lt p (length alone.base)) refl

  pub new_none : (p : ℕ) → private_bytes h.pool t p ≡ None → page_at new p ≡ page_at alone.base p
  new_none p e = new_page p ∙ ap (λ o. after_look o (page_at alone.base p)) e

  pub new_some : (p : ℕ) (bytes : List ℕ) → private_bytes h.pool t p ≡ Some bytes → page_at new p ≡ record { version = version_at alone.base p + 1; bytes = bytes }
  new_some p bytes e = new_page p ∙ ap (λ o. after_look o (page_at alone.base p)) e

  -- the versions that the entries come to
  pub taken : (p : ℕ) → version_at new p ≡ ended_version h t true alone.base p
  taken p = by (private_bytes h.pool t p) refl
    where
      none_taken : (o : Option Mode) → version_at alone.base p ≡ pick (is_taken o (version_at alone.base p) None) (version_at alone.base p + 1) (version_at alone.base p)
      none_taken None = refl
      none_taken (Some m) = refl

      by : (o : Option (List ℕ)) → private_bytes h.pool t p ≡ o → version_at new p ≡ ended_version h t true alone.base p
      by None e =
          let written : is_written h t p ≡ false = written_look h t alone.home busy.waits p ∙ ap is_some e in
          ap (λ (x : BasePage). x.version) (new_none p e)
          ∙ none_taken (mode_held (held_by h.txs t p))
          ∙ ap (λ b. pick (is_taken (mode_held (held_by h.txs t p)) (version_at alone.base p) (version_of_change (change_if b (new_version h p) (new_bytes h t p)))) (version_at alone.base p + 1) (version_at alone.base p)) (sym written)
      by (Some bytes) e =
          let is = is_written_page p (ap is_some e) in
          let written : is_written h t p ≡ true = written_look h t alone.home busy.waits p ∙ ap is_some e in
          let test : (is_exclusive is.lock.mode && version_at alone.base p + 1 == version_at alone.base p + 1) ≡ true
          = ap (λ b. b && version_at alone.base p + 1 == version_at alone.base p + 1) is.alone_held ∙ number_same (version_at alone.base p + 1) in
          ap (λ (x : BasePage). x.version) (new_some p bytes e)
          ∙ ap (λ b. pick b (version_at alone.base p + 1) (version_at alone.base p)) (sym test)
          ∙ ap (λ v. pick (is_exclusive is.lock.mode && v + 1 == version_at alone.base p + 1) (version_at alone.base p + 1) (version_at alone.base p)) (sym is.version)
          ∙ ap (λ o. pick (is_taken (mode_held o) (version_at alone.base p) (Some (new_version h p))) (version_at alone.base p + 1) (version_at alone.base p)) (sym is.held)
          ∙ ap (λ b. pick (is_taken (mode_held (held_by h.txs t p)) (version_at alone.base p) (version_of_change (change_if b (new_version h p) (new_bytes h t p)))) (version_at alone.base p + 1) (version_at alone.base p)) (sym written)

  -- the next base
  pub new_fine : IsBase c new
  new_fine =
      record {
        limits = alone.kept.fine.limits;
        count = next_length (look_of h.pool t) 0 alone.base ∙ alone.kept.fine.count;
        sizes = λ p below. size_of p below (private_bytes h.pool t p) refl;
        below = λ p. below_of p (private_bytes h.pool t p) refl;
      }
    where
      size_of : (p : ℕ) → p < c.pages → (o : Option (List ℕ)) → private_bytes h.pool t p ≡ o → length (bytes_at new p) ≡ c.size
      size_of p below None e = ap (λ (x : BasePage). length x.bytes) (new_none p e) ∙ alone.kept.fine.sizes p below
      size_of p below (Some bytes) e =
          let long : length bytes ≡ h.pool.size = subst (λ o. IfSome o (λ bs. length bs ≡ h.pool.size)) e (private_sized h.config h.pool t p (pool_of_home h alone.home)) in
          ap (λ (x : BasePage). length x.bytes) (new_some p bytes e) ∙ long ∙ alone.home.sizes.1 ∙ ap (λ (x : Sizes). x.size) alone.kept.config

      below_of : (p : ℕ) (o : Option (List ℕ)) → private_bytes h.pool t p ≡ o → version_at new p < 18446744073709551616
      below_of p None e = subst (λ (x : BasePage). x.version < 18446744073709551616) (sym (new_none p e)) (alone.kept.fine.below p)
      below_of p (Some bytes) e = subst (λ (x : BasePage). x.version < 18446744073709551616) (sym (new_some p bytes e)) (is_written_page p (ap is_some e)).more
