-- A granted page that is brought: it is the current one, and it never differs.
use Rattle.std.proofs.Common.{◌≡◌, refl, ap, sym, subst, ◌∙◌, ℕ, ◌==◌, ◌&&◌, Bool, true, false, List, Option, Some, None, Ok, Err, Result, eqb-true, arith}
use Rattle.std.specs.Prelude.{⊤}
use Rattle.std.proofs.lemmas.Bool.Decides.{nat_tests}
use Rattle.pcl_base.specs.declared.event.Event.{Event}
use Rattle.text_rules.specs.StoredPage.{BadNumber, PageAt, stored_page}
use Rattle.run_rules.specs.Disk.{raw_page}
use Rattle.node_rules.specs.AccessRule.{bring, clean_copy, from_disk, on_pool, unless_current}
use Rattle.node_rules.specs.BufferRule as buffer
use Rattle.node_rules.specs.BufferRule.{PrivateCopy, copy_at, dirty, find, has_slot, install, is_dirty_copy, version_of_copy}
use Rattle.node_rules.specs.CopyRule.{is_version}
use Rattle.node_rules.specs.Work.{Differs, Goes, HomeWork, Outcome, Work, read_page, work_of_home}
use Rattle.node_rules.specs.Words.{pick}
use Rattle.step_laws.proofs.Outcomes.{On, on_any, on_then}
use Rattle.cluster_rules.specs.Clusters.{Cluster}
use Rattle.page_laws.specs.Look.Grants.{CanCome, IsBroughtTo, IsSource, comes, comes_from, current, has_it}
use Rattle.page_laws.specs.Look.Parts.{SameBesideCopies}
use Rattle.page_laws.proofs.LookParts.Alike.{beside_self}
use Rattle.page_laws.proofs.LookParts.Granting.{bringing_goes_law}
use Rattle.page_protocol.specs.Bytes.{Copy}
use Rattle.page_protocol.specs.State.{Current, Image, OnDisk, Page, Word, told_copy, version_of}
use Rattle.page_protocol.specs.State as machine
use Rattle.page_relation.specs.Looks.{copy_in}
use Rattle.page_laws.specs.Storage.Looks.{copy_on, copy_read}
use Rattle.page_relation.specs.Work.Letting.{CalledBy}
use Rattle.page_relation.proofs.WorkParts.Storing.{IsHere, dirty_here, own_page, slot_here, stored_is}
use Rattle.settle_relation.proofs.GrantParts.Facts.{dirty_current, disk_current, slot_current}

-- bringing a page writes nothing, and leaves the private copies
pub record OnlyBrings (v x : HomeWork) : Type 0 where
  pub calls : x.calls ≡ v.calls
  pub privates : x.home.pool.privates ≡ v.home.pool.privates

only_brings : (q version : ℕ) (image : Option (List ℕ)) (v : HomeWork) → On (OnlyBrings v) (bring q version image v)
unfolding bring install
only_brings q version image v = by (is_version (find v.home.pool q) version) image
  where
    disk : (at : PageAt) (b : Bool) → On (OnlyBrings v) (pick b (Goes (on_pool (λ k. install k q (clean_copy at)) v)) (Differs q version at.version))
    disk at true = record { calls = refl; privates = refl }
    disk at false = tt

    by : (b : Bool) (o : Option (List ℕ)) → On (OnlyBrings v) (unless_current b q version o v)
    by true o = record { calls = refl; privates = refl }
    by false (Some bytes) = record { calls = refl; privates = refl }
    by false None =
        on_then (λ (at : PageAt). ⊤) (OnlyBrings v) (read_page v.pages q) (from_disk q version v) (on_any (read_page v.pages q)) (λ at any. disk at (at.version == version))

pub brings_only : (q version : ℕ) (image : Option (List ℕ)) (v x : HomeWork) → bring q version image v ≡ Goes x → OnlyBrings v x
brings_only q version image v x goes = subst (On (OnlyBrings v)) goes (only_brings q version image v)

-- a page that is read is the machine's page on disk
read_is : (r : Result PageAt BadNumber) (at : PageAt) (disk : Copy) → r ≡ Ok at → copy_read r ≡ Some disk → record { version = at.version; bytes = at.bytes } ≡ disk
read_is (Ok x) at disk is there = (let same : x ≡ at = cc in let found : copy_read (Ok x) ≡ Some disk = there in by x at disk same found)
  where
    by : (x at : PageAt) (disk : Copy) → x ≡ at → (let o : Option Copy = Some (record { version = x.version; bytes = x.bytes }) in o) ≡ Some disk
        → (let y : Copy = record { version = at.version; bytes = at.bytes } in y) ≡ disk
    by x at disk same found = ap (λ (y : PageAt). let z : Copy = record { version = y.version; bytes = y.bytes } in z) (sym same) ∙ cc
read_is (Err bad) at disk is there = absurd (cc)

-- a stored page is read
is_read : (r : Result PageAt BadNumber) (disk : Copy) → copy_read r ≡ Some disk → (at : PageAt) × (r ≡ Ok at) × (at.version ≡ disk.version)
is_read (Ok at) disk there = (at, refl, ap (λ (x : Copy). x.version) (some_one (record { version = at.version; bytes = at.bytes }) disk there))
  where
    some_one : (x y : Copy) → (let o : Option Copy = Some x in o) ≡ Some y → x ≡ y
    some_one x y e = cc
is_read (Err bad) disk there = absurd (cc)

-- a copy as the machine has it
pub record IsBroughtHere (c : Cluster) (n p : ℕ) (a : Page) (v x : HomeWork) : Type 0 where
  pub beside : SameBesideCopies v.home x.home
  pub pages : x.pages ≡ v.pages
  pub copy : copy_in (copy_at x.home.pool p) ≡ Some (machine.current a)
  pub mark : dirty x.home.pool p ≡ (a.dirty && n == a.owner)

module _ (c : Cluster) (e : Event) (n p : ℕ) (w : Work) (a : Page) (h : IsHere c e n p w a) (called : CalledBy n c.disk (work_of_home w)) where
  -- the page on disk as it is read within the step
  on_disk : copy_read (stored_page p (raw_page w.pages p)) ≡ Some a.disk
  unfolding copy_on
  on_disk = ap (λ (ps : List (List ℕ)). copy_read (stored_page p (raw_page ps p))) called ∙ (stored_is c e n p w a h.related).disk_same

  -- a copy that is there with the current version
  there_current : (o : Option buffer.Copy) → copy_in o ≡ a.slot n → is_version (version_of_copy o) a.now ≡ true → copy_in o ≡ Some (machine.current a)
  there_current None slot is = absurd (cc)
  there_current (Some x) slot is =
      ap (λ (y : Copy). let o : Option Copy = Some y in o)
      (slot_current h.blank a h.reached n (record { version = x.version; bytes = x.bytes }) (sym slot) (eqb-true x.version a.now is))

  version_there : (o : Option buffer.Copy) → copy_in o ≡ Some (machine.current a) → is_version (version_of_copy o) a.now ≡ true
  version_there None is = absurd (cc)
  version_there (Some x) is =
      let same : x.version ≡ a.now = ap (λ (k : Option Copy). version_or_none k) is in
      grind (arith, nat_tests, same)
    where
      version_or_none : Option Copy → ℕ
      version_or_none None = 0
      version_or_none (Some y) = y.version

  module _ (entry : a.served ≡ true → a.entry ≡ a.now) where
    -- where the current version isn't there, the copy isn't the owner's dirty one
    not_dirty : is_version (find w.node.home.pool p) a.now ≡ false → (a.dirty && n == a.owner) ≡ false
    not_dirty other = by a.dirty refl (n == a.owner) refl
      where
        there : (o : Option buffer.Copy) → is_dirty_copy o ≡ true → (x : Copy) × (copy_in o ≡ Some x)
        there None on = absurd (cc)
        there (Some x) on = (record { version = x.version; bytes = x.bytes }, refl)

        by : (d : Bool) → a.dirty ≡ d → (b : Bool) → (n == a.owner) ≡ b → (d && b) ≡ false
        by false off b at = refl
        by true on false at = refl
        by true on true at =
            let marked : dirty w.node.home.pool p ≡ true = dirty_here c e n p w a h ∙ (λ j. on j && at j) in
            let is = there (copy_at w.node.home.pool p) marked in
            let owner : n ≡ a.owner = eqb-true n a.owner at in
            let slot : a.slot a.owner ≡ Some is.0 = ap a.slot (sym owner) ∙ sym (slot_here c e n p w a h) ∙ is.1 in
            let now : is.0 ≡ machine.current a = dirty_current h.blank a h.reached entry on is.0 slot in
            let bad : true ≡ false = sym (version_there (copy_at w.node.home.pool p) (is.1 ∙ ap (λ (y : Copy). let o : Option Copy = Some y in o) now)) ∙ other in
            absurd (cc)

    -- where a copy comes from, it is the current page
    source_current : (image : Option (List ℕ)) (at : PageAt) → ((bytes : List ℕ) → image ≡ Some bytes → bytes ≡ a.hist a.now) → IsSource p a.now image (work_of_home w) at
        → copy_in (Some (clean_copy at)) ≡ Some (machine.current a)
    source_current (Some bytes) at image_is source =
        ap (λ (y : PageAt). let o : Option Copy = Some (record { version = y.version; bytes = y.bytes }) in o) source
        ∙ ap (λ (bs : List ℕ). let o : Option Copy = Some (record { version = a.now; bytes = bs }) in o) (image_is bytes refl)
    source_current None at image_is source =
        let read = read_is (stored_page p (raw_page w.pages p)) at a.disk source.0 on_disk in
        let version : a.disk.version ≡ a.now = sym (ap (λ (y : Copy). y.version) read) ∙ source.1 in
        ap (λ (y : Copy). let o : Option Copy = Some y in o) (read ∙ disk_current h.blank a h.reached version)

    pub brought_here : (image : Option (List ℕ)) (x : HomeWork) → ((bytes : List ℕ) → image ≡ Some bytes → bytes ≡ a.hist a.now) → IsBroughtTo p a.now image (work_of_home w) x
        → IsBroughtHere c n p a (work_of_home w) x
    brought_here image x image_is (current is same) =
        subst (IsBroughtHere c n p a (work_of_home w)) (sym same)
        (record {
          beside = beside_self w.node.home;
          pages = refl;
          copy = there_current (copy_at w.node.home.pool p) (slot_here c e n p w a h) is;
          mark = dirty_here c e n p w a h;
        })
    brought_here image x image_is (comes at other source rest copies pages) =
        record {
          beside = rest;
          pages = pages;
          copy = ap copy_in copy ∙ source_current image at image_is source;
          mark = ap is_dirty_copy copy ∙ sym (not_dirty other);
        }
      where
        copy : copy_at x.home.pool p ≡ Some (clean_copy at)
        copy = copies p ∙ ap (λ (b : Bool). pick b (Some (clean_copy at)) (copy_at w.node.home.pool p)) (own_page p)

  -- it can come, where the word of the grant tells the current page
  can_come : (word : Word) (image : Option (List ℕ)) → told_copy word a.now (a.slot n) a.disk ≡ Some (machine.current a)
      → ((bytes : List ℕ) → image ≡ None → word ≡ Image bytes → find w.node.home.pool p ≡ Some a.now) → CanCome p a.now image (work_of_home w)
  can_come word (Some bytes) told own = comes_from (record { version = a.now; bytes = bytes }) refl
  can_come word None told own = by word refl told
    where
      by : (k : Word) → word ≡ k → told_copy k a.now (a.slot n) a.disk ≡ Some (machine.current a) → CanCome p a.now None (work_of_home w)
      by Current is t = has_it (version_there (copy_at w.node.home.pool p) (slot_here c e n p w a h ∙ t))
      by (Image bytes) is t = has_it (ap (λ (o : Option ℕ). is_version o a.now) (own bytes refl is) ∙ own_page a.now)
      by OnDisk is t =
          let read = is_read (stored_page p (raw_page w.pages p)) a.disk on_disk in
          comes_from read.0 (read.1, read.2 ∙ ap version_or_zero t)
        where
          version_or_zero : Option Copy → ℕ
          version_or_zero None = 0
          version_or_zero (Some y) = y.version

  pub never_differs : (word : Word) (image : Option (List ℕ)) (q expected found : ℕ) → told_copy word a.now (a.slot n) a.disk ≡ Some (machine.current a)
      → ((bytes : List ℕ) → image ≡ None → word ≡ Image bytes → find w.node.home.pool p ≡ Some a.now)
      → bring p a.now image (work_of_home w) ≡ Differs q expected found → ⊥
  never_differs word image q expected found told own differs =
      let come = bringing_goes_law p a.now image (work_of_home w) (can_come word image told own) in
      let bad : (let o : Outcome HomeWork = Goes come.work in o) ≡ Differs q expected found = sym come.goes ∙ differs in
      absurd (cc)
