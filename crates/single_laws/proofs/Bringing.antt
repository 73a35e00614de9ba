-- The slot of a page comes to its version: it has it, or the page is read.
use Rattle.std.proofs.Common.{◌≡◌, refl, sym, ap, subst, ◌∙◌, ℕ, ◌<◌, ◌==◌, Bool, true, false, length, None, Some, is_some, arith}
use Rattle.std.specs.Prelude.{Option, option_map}
use Rattle.std.proofs.lemmas.Bool.Decides.{nat_tests}
use Rattle.pcl_base.specs.Limits.{Sizes}
use Rattle.text_rules.specs.StoredPage.{PageAt}
use Rattle.run_rules.specs.Base.{Base, version_at}
use Rattle.run_rules.specs.Disk.{Disk}
use Rattle.run_rules.specs.Now.{Story}
use Rattle.node_rules.specs.Words.{pick}
use Rattle.node_rules.specs.BufferRule.{Pool, Slot, Copy, slot_at, copy_at, copy_of_slot, find, version_of_copy, install}
use Rattle.node_rules.specs.CopyRule.{is_version}
use Rattle.node_rules.specs.Work.{HomeWork, Outcome, Goes, Differs, and_then, with_pool, read_page}
use Rattle.node_rules.specs.AccessRule.{bring, unless_current, from_disk, clean_copy, on_pool}
use Rattle.buffer_pool.specs.Buffer.{IsBuffer}
use Rattle.home_laws.proofs.Tests.{number_same, number_equal, some_there}
use Rattle.home_laws.proofs.SlotFound.{changed_here, changed_there}
use Rattle.home_laws.proofs.Buffers.{install_sound}
use Rattle.single_laws.proofs.Pages.{PagesAre, PageIs, at}
use Rattle.single_laws.proofs.Alone.{Kept}

module _ (c : Sizes) (base : Base) (d : Disk) (s : Story) (p : ℕ) (w : HomeWork) (kept : Kept c base d s w) (below : p < c.pages) (slot : is_some (slot_at w.home.pool p) ≡ true)
    (buffer : IsBuffer w.home.pool) (size : w.home.pool.size ≡ c.size) where
  -- the work with another buffer
  pub record Brought : Type 0 where
    pub pool : Pool
    pub goes : bring p (version_at base p) None w ≡ Goes (record w { home = with_pool w.home pool })
    pub privates : pool.privates ≡ w.home.pool.privates
    pub sound : IsBuffer pool
    pub sized : pool.size ≡ c.size
    pub there : is_some (copy_at pool p) ≡ true
    pub pages : PagesAre c base d (record w { home = with_pool w.home pool })

  page : PageIs (copy_at w.home.pool p) (read_page w.pages p) (at base p)
  page = kept.pages.pages p below

  -- it has it
  current : (x : Copy) → copy_at w.home.pool p ≡ Some x → Brought
  unfolding bring
  current x e =
      let same : x.version ≡ version_at base p = (subst (λ o. PageIs o (read_page w.pages p) (at base p)) e page).0 in
      let test : is_version (find w.home.pool p) (version_at base p) ≡ true = ap (λ o. is_version (version_of_copy o) (version_at base p)) e ∙ grind (arith, nat_tests) in
      record {
        pool = w.home.pool;
        goes = ap (λ b. unless_current b p (version_at base p) None w) test;
        privates = refl;
        sound = buffer;
        sized = size;
        there = ap is_some e;
        pages = kept.pages;
      }

  -- it is read
  copy_here : copy_at (install w.home.pool p (clean_copy (at base p))) p ≡ Some (clean_copy (at base p))
  unfolding install
  copy_here =
      let found = some_there (slot_at w.home.pool p) slot in
      ap copy_of_slot (changed_here (λ x. record x { copy = Some (clean_copy (at base p)) }) (λ x. refl) w.home.pool.slots p)
      ∙ ap (λ o. copy_of_slot (option_map (λ (x : Slot). record x { copy = Some (clean_copy (at base p)) }) o)) found.1

  copy_there : (q : ℕ) → (p == q) ≡ false → copy_at (install w.home.pool p (clean_copy (at base p))) q ≡ copy_at w.home.pool q
  unfolding install
  copy_there q other = ap copy_of_slot (changed_there (λ x. record x { copy = Some (clean_copy (at base p)) }) (λ x. refl) w.home.pool.slots p q other)

  pages_read : read_page w.pages p ≡ Goes (at base p) → PagesAre c base d (record w { home = with_pool w.home (install w.home.pool p (clean_copy (at base p))) })
  pages_read read =
      record {
        pages = λ q inside. by q inside (p == q) refl;
        raw = kept.pages.raw;
        count = kept.pages.count;
        readable = kept.pages.readable;
        redone = kept.pages.redone;
        done = kept.pages.done;
      }
    where
      by : (q : ℕ) → q < c.pages → (b : Bool) → (p == q) ≡ b → PageIs (copy_at (install w.home.pool p (clean_copy (at base p))) q) (read_page w.pages q) (at base q)
      by q inside true e =
          subst (λ n. PageIs (copy_at (install w.home.pool p (clean_copy (at base p))) n) (read_page w.pages n) (at base n)) (number_equal p q e)
          (subst (λ o. PageIs o (read_page w.pages p) (at base p)) (sym copy_here) (refl, refl, (λ clean. read)))
      by q inside false e = subst (λ o. PageIs o (read_page w.pages q) (at base q)) (sym (copy_there q e)) (kept.pages.pages q inside)

  missing : copy_at w.home.pool p ≡ None → Brought
  unfolding bring install
  missing e =
      let read : read_page w.pages p ≡ Goes (at base p) = subst (λ o. PageIs o (read_page w.pages p) (at base p)) e page in
      let long : length (clean_copy (at base p)).bytes ≡ w.home.pool.size = kept.fine.sizes p below ∙ sym size in
      record {
        pool = install w.home.pool p (clean_copy (at base p));
        goes =
            ap (λ o. unless_current (is_version (version_of_copy o) (version_at base p)) p (version_at base p) None w) e
            ∙ ap (λ (o : Outcome PageAt). and_then o (from_disk p (version_at base p) w)) read
            ∙ ap (λ b. pick {X = Outcome HomeWork} b (Goes (on_pool (λ x. install x p (clean_copy (at base p))) w)) (Differs p (version_at base p) (version_at base p))) (number_same (version_at base p));
        privates = refl;
        sound = install_sound w.home.pool p (clean_copy (at base p)) long buffer;
        sized = size;
        there = ap is_some copy_here;
        pages = pages_read read;
      }

  pub brought : Brought
  brought = by (copy_at w.home.pool p) refl
    where
      by : (o : Option Copy) → copy_at w.home.pool p ≡ o → Brought
      by None e = missing e
      by (Some x) e = current x e
