-- What a grant comes to, by the rule over told pages and by an image that stands for the content.
use Rattle.std.proofs.Common.{◌≡◌, ℕ, ◌+◌, ◌<◌, ◌==◌, Bool, true, false, List, [], length, Option, Some, None, IfSome, Result, Ok, Err, refl, ap, sym, subst, ◌∙◌, arith}
use Rattle.std.proofs.lemmas.Bool.Decides.{nat_tests}
use Rattle.std.proofs.lemmas.Option.{slice_get-get_or}
use Rattle.std.specs.Prelude.{IsErrAnd}
use Rattle.std.specs.List.{All}
use Rattle.pcl_base.specs.Limits.{Sizes}
use Rattle.pcl_base.specs.declared.tx.TxId.{TxId}
use Rattle.pcl_base.specs.declared.lock.Held.{Held}
use Rattle.pcl_base.specs.declared.reply.Reply.{Reply}
use Rattle.disk_model.specs.Disk.{Pages, Logs, Rooms, HasSizes, told_at}
use Rattle.text_rules.specs.StoredPage.{PageAt, BadNumber, stored_page}
use Rattle.run_rules.specs.Disk.{raw_page}
use Rattle.node_rules.specs.Words.{pick}
use Rattle.node_rules.specs.OpenTxs.{pending_of}
use Rattle.node_rules.specs.BufferRule.{Pool, install, find}
use Rattle.node_rules.specs.CopyRule.{is_version}
use Rattle.node_rules.specs.NodeState.{HomeState}
use Rattle.node_rules.specs.Work.{HomeWork, Outcome, Goes, Differs, and_then, and_so, with_pool, read_page, page_or_differs}
use Rattle.node_rules.specs.AccessRule.{bring, unless_current, from_disk, on_pool, clean_copy, perform, locked, write_of, granted}
use Rattle.home.specs.declared.fault.HomeFault.{HomeFault}
use Rattle.home.specs.declared.fault.HomeFault.TheVariants as fault
use Rattle.home.specs.Device.{work_on}
use Rattle.home.specs.Grants.{work_at, Puts, Tells, brought, outcome, ByImage}

-- a stored page that is told
pub told_page : (P : List ℕ → Type 0) (pages : Pages) (ps : List (List ℕ)) (p : ℕ) → pages ≡ Some ps → p < length ps → IfSome (told_at pages p) P → P (raw_page ps p)
told_page P pages ps p told within holds =
    subst (λ o. IfSome o P) (ap (λ l. told_at l p) told ∙ slice_get-get_or ps p [] within) holds

-- a page of the database is one of those that are told
pub told_within : (c : Sizes) (pages : Pages) (logs : Logs) (rooms : Rooms) (ps : List (List ℕ)) (p : ℕ) → HasSizes c pages logs rooms → pages ≡ Some ps → p < c.pages → p < length ps
told_within c pages logs rooms ps p sizes told below =
    let all : IfSome (Some ps) (λ l. (length l ≡ c.pages) × All (λ b. length b ≡ c.size + 16) l) = subst (λ o. IfSome o (λ l. (length l ≡ c.pages) × All (λ b. length b ≡ c.size + 16) l)) told sizes.pages_told in
    let many = all.0 in
    omega (arith, many, below)

-- a version that is the same, and one that isn't
equal_versions : (m n : ℕ) → m ≡ n → (m == n) ≡ true
equal_versions m n e = grind (arith, nat_tests)

pub other_versions : (m n : ℕ) → (m ≡ n → ⊥) → (m == n) ≡ false
other_versions m n other = grind (arith, nat_tests)

-- what is brought
pub bring_current : (p version : ℕ) (image : Option (List ℕ)) (w : HomeWork) → is_version (find w.home.pool p) version ≡ true → bring p version image w ≡ Goes w
unfolding bring
bring_current p version image w e = ap (λ d. unless_current d p version image w) e

pub bring_image : (p version : ℕ) (bytes : List ℕ) (w : HomeWork) → is_version (find w.home.pool p) version ≡ false
    → bring p version (Some bytes) w ≡ Goes (on_pool (λ b. install b p (clean_copy (record { version = version; bytes = bytes }))) w)
unfolding bring
bring_image p version bytes w e = ap (λ d. unless_current d p version (Some bytes) w) e

pub bring_read : (p version : ℕ) (w : HomeWork) → is_version (find w.home.pool p) version ≡ false → bring p version None w ≡ and_then (read_page w.pages p) (from_disk p version w)
unfolding bring
bring_read p version w e = ap (λ d. unless_current d p version None w) e

-- what is told of a fault
tells_failed : {R : Type 0} (o : Outcome (R × HomeState)) (e : HomeFault) (h : HomeState) → ((q x y : ℕ) → e ≡ fault.Differs q x y → ⊥) → Tells o (Err e) h
tells_failed (Goes x) (fault.Refused r) h other = tt
tells_failed (Goes x) (fault.Failed call kept) h other = tt
tells_failed (Goes x) (fault.Differs q a b) h other = other q a b refl
tells_failed (Goes x) fault.NoMemory h other = tt
tells_failed (Differs p e f) (fault.Refused r) h other = tt
tells_failed (Differs p e f) (fault.Failed call kept) h other = tt
tells_failed (Differs p e f) (fault.Differs q a b) h other = absurd (other q a b refl)
tells_failed (Differs p e f) fault.NoMemory h other = tt

-- a stored page that was put into its slot, or that differs
pub puts_tells : {X : Type 0} (p version : ℕ) (r : Result X HomeFault) (stored : Result PageAt BadNumber) (w : HomeWork) (x : X) (b : Pool) → ((y : X) → y ≡ x) → Puts p version r stored w.home.pool b
    → Tells (brought x (and_then (page_or_differs p stored) (from_disk p version w))) r (with_pool w.home b)
puts_tells p version (Ok y) (Ok at) w x b one puts =
    subst (λ d. Tells (brought x (pick d (Goes (on_pool (λ c. install c p (clean_copy at)) w)) (Differs p version at.version))) (Ok y) (with_pool w.home b)) (sym (equal_versions at.version version puts.0))
    (one y, ap (with_pool w.home) puts.1)
puts_tells p version (Ok y) (Err bad) w x b one puts = absurd puts
puts_tells p version (Err (fault.Refused r)) stored w x b one puts = tells_failed (brought x (and_then (page_or_differs p stored) (from_disk p version w))) (fault.Refused r) (with_pool w.home b) (λ q m n e. cc)
puts_tells p version (Err (fault.Failed call kept)) stored w x b one puts = tells_failed (brought x (and_then (page_or_differs p stored) (from_disk p version w))) (fault.Failed call kept) (with_pool w.home b) (λ q m n e. cc)
puts_tells p version (Err fault.NoMemory) stored w x b one puts = tells_failed (brought x (and_then (page_or_differs p stored) (from_disk p version w))) fault.NoMemory (with_pool w.home b) (λ q m n e. cc)
puts_tells p version (Err (fault.Differs q m n)) (Err bad) w x b one puts = cc
puts_tells p version (Err (fault.Differs q m n)) (Ok at) w x b one puts = by (at.version == version) puts
  where
    by : (d : Bool) → (let o : Option HomeFault = pick d None (Some (fault.Differs p version at.version)) in o) ≡ Some (fault.Differs q m n)
        → Tells (brought x (pick d (Goes (on_pool (λ c. install c p (clean_copy at)) w)) (Differs p version at.version))) (Err (fault.Differs q m n)) (with_pool w.home b)
    by true e = absurd (cc)
    by false e = cc

-- the reply and the home of a lock's grant go by the home alone
module _ (t : TxId) (l : Held) where
  locked_reply : (write : Option (ℕ × List ℕ)) (w : HomeWork) → (locked t l write w).reply ≡ (locked t l write (work_on w.home)).reply
  unfolding perform
  locked_reply None w = refl
  locked_reply (Some x) w = refl

  locked_home : (write : Option (ℕ × List ℕ)) (w : HomeWork) → (locked t l write w).work.home ≡ (locked t l write (work_on w.home)).work.home
  unfolding perform
  locked_home None w = refl
  locked_home (Some x) w = refl

  module _ {X : Type 0} (x : X) (write : Option (ℕ × List ℕ)) where
    pub tells_ok : (o : Outcome HomeWork) (y : X) (mid : HomeState) → Tells (brought x o) (Ok y) mid
        → Tells (outcome (and_so o (locked t l write))) (Ok (locked t l write (work_on mid)).reply) (locked t l write (work_on mid)).work.home
    tells_ok (Goes w) y mid told = (
      ap (λ h. (locked t l write (work_on h)).reply) told.1 ∙ sym (locked_reply write w),
      ap (λ h. (locked t l write (work_on h)).work.home) told.1 ∙ sym (locked_home write w),
    )
    tells_ok (Differs q m n) y mid told = absurd told

    pub tells_err : (o : Outcome HomeWork) (e : HomeFault) (mid new : HomeState) → Tells (brought x o) (Err e) mid → Tells (outcome (and_so o (locked t l write))) (Err e) new
    tells_err (Goes w) (fault.Refused r) mid new told = tt
    tells_err (Goes w) (fault.Failed call kept) mid new told = tt
    tells_err (Goes w) (fault.Differs q a b) mid new told = told
    tells_err (Goes w) fault.NoMemory mid new told = tt
    tells_err (Differs p m n) (fault.Refused r) mid new told = tt
    tells_err (Differs p m n) (fault.Failed call kept) mid new told = tt
    tells_err (Differs p m n) (fault.Differs q a b) mid new told = told
    tells_err (Differs p m n) fault.NoMemory mid new told = tt

    pub goes_on : (o : Outcome HomeWork) (y : X) (mid : HomeState) → brought x o ≡ Goes (y, mid)
        → outcome (and_so o (locked t l write)) ≡ Goes ((locked t l write (work_on mid)).reply, (locked t l write (work_on mid)).work.home)
    goes_on (Goes w) y mid e =
        let same : (let z : X × HomeState = (x, w.home) in z) ≡ (y, mid) = cc in
        let home : w.home ≡ mid = ap (λ z. z.1) same in
        ap (λ g. (let z : Outcome (Reply × HomeState) = Goes g in z))
        (ap (λ r. (r, (locked t l write w).work.home)) (locked_reply write w) ∙ ap (λ k. ((locked t l write (work_on w.home)).reply, k)) (locked_home write w) ∙ ap (λ h. ((locked t l write (work_on h)).reply, (locked t l write (work_on h)).work.home)) home)
    goes_on (Differs q m n) y mid e = absurd (cc)

-- a grant, once its page was brought or wasn't
module _ (t : TxId) (l : Held) (version : ℕ) (image : Option (List ℕ)) {X : Type 0} (x : X) where
  pub granted_tells : (w : HomeWork) (y : X) (mid new : HomeState) (r : Reply) → mid.txs ≡ w.home.txs → Tells (brought x (bring l.page version image w)) (Ok y) mid
      → r ≡ (locked t l (write_of (pending_of mid.txs t)) (work_on mid)).reply → new ≡ (locked t l (write_of (pending_of mid.txs t)) (work_on mid)).work.home
      → Tells (outcome (granted t l version image w)) (Ok r) new
  unfolding granted
  granted_tells w y mid new r txs told reply home =
      let write : Option (ℕ × List ℕ) = write_of (pending_of w.home.txs t) in
      subst (λ q. Tells (outcome (and_so (bring l.page version image w) (locked t l write))) (Ok q) new)
      (sym (reply ∙ ap (λ s. (locked t l (write_of (pending_of s t)) (work_on mid)).reply) txs))
      (subst (λ h. Tells (outcome (and_so (bring l.page version image w) (locked t l write))) (Ok (locked t l write (work_on mid)).reply) h)
      (sym (home ∙ ap (λ s. (locked t l (write_of (pending_of s t)) (work_on mid)).work.home) txs))
      (tells_ok t l x write (bring l.page version image w) y mid told))

  pub granted_fault : (w : HomeWork) (e : HomeFault) (mid new : HomeState) (r : Result Reply HomeFault) → IsErrAnd r (λ f. f ≡ e) → Tells (brought x (bring l.page version image w)) (Err e) mid
      → Tells (outcome (granted t l version image w)) r new
  unfolding granted
  granted_fault w e mid new (Ok y) same told = absurd same
  granted_fault w e mid new (Err f) same told =
      let write : Option (ℕ × List ℕ) = write_of (pending_of w.home.txs t) in
      subst (λ q. Tells (outcome (and_so (bring l.page version image w) (locked t l write))) (Err q) new) (sym same) (tells_err t l x write (bring l.page version image w) e mid new told)

  pub granted_image : (h mid new : HomeState) (y : X) (r : Reply) → mid.txs ≡ h.txs → ByImage l.page version image (λ i. brought x (bring l.page version i (work_on h))) h y mid
      → r ≡ (locked t l (write_of (pending_of mid.txs t)) (work_on mid)).reply → new ≡ (locked t l (write_of (pending_of mid.txs t)) (work_on mid)).work.home
      → ByImage l.page version image (λ i. outcome (granted t l version i (work_on h))) h r new
  unfolding granted
  granted_image h mid new y r txs by_image reply home =
      let write : Option (ℕ × List ℕ) = write_of (pending_of h.txs t) in
      record {
        image = by_image.image;
        stands = by_image.stands;
        goes =
            goes_on t l x write (bring l.page version by_image.image (work_on h)) y mid by_image.goes
            ∙ ap (λ q. (let o : Outcome (Reply × HomeState) = Goes (q, (locked t l write (work_on mid)).work.home) in o))
            (sym (reply ∙ ap (λ s. (locked t l (write_of (pending_of s t)) (work_on mid)).reply) txs))
            ∙ ap (λ k. (let o : Outcome (Reply × HomeState) = Goes (r, k) in o)) (sym (home ∙ ap (λ s. (locked t l (write_of (pending_of s t)) (work_on mid)).work.home) txs));
      }

-- the three ways to bring a page
pub current_tells : {X : Type 0} (x : X) (p version : ℕ) (given : Option (List ℕ)) (w : HomeWork) → is_version (find w.home.pool p) version ≡ true → Tells (brought x (bring p version given w)) (Ok x) w.home
current_tells x p version given w e = subst (λ o. Tells (brought x o) (Ok x) w.home) (sym (bring_current p version given w e)) (refl, refl)

pub image_tells : {X : Type 0} (x : X) (p version : ℕ) (given : Option (List ℕ)) (bytes : List ℕ) (w : HomeWork) (new : HomeState) → given ≡ Some bytes → is_version (find w.home.pool p) version ≡ false
    → new ≡ with_pool w.home (install w.home.pool p (clean_copy (record { version = version; bytes = bytes }))) → Tells (brought x (bring p version given w)) (Ok x) new
image_tells x p version given bytes w new some e is =
    subst (λ o. Tells (brought x o) (Ok x) new) (sym (ap (λ i. bring p version i w) some ∙ bring_image p version bytes w e)) (refl, is)

pub read_tells : {X : Type 0} (x : X) (p version : ℕ) (given : Option (List ℕ)) (r : Result X HomeFault) (c : Sizes) (pages : Pages) (logs : Logs) (rooms : Rooms) (ps : List (List ℕ)) (h new : HomeState)
    → ((y : X) → y ≡ x) → HasSizes c pages logs rooms → pages ≡ Some ps → p < c.pages → given ≡ None → is_version (find h.pool p) version ≡ false → new ≡ with_pool h new.pool
    → IfSome (told_at pages p) (λ b. Puts p version r (stored_page p b) h.pool new.pool) → Tells (brought x (bring p version given (work_at ps h))) r new
read_tells x p version given r c pages logs rooms ps h new one sizes told below none other same puts =
    subst (λ (k : HomeState). Tells (brought x (bring p version given (work_at ps h))) r k) (sym same)
    (subst (λ o. Tells (brought x o) r (with_pool h new.pool)) (sym (ap (λ i. bring p version i (work_at ps h)) none ∙ bring_read p version (work_at ps h) other))
    (puts_tells p version r (stored_page p (raw_page ps p)) (work_at ps h) x new.pool one
    (told_page (λ b. Puts p version r (stored_page p b) h.pool new.pool) pages ps p told (told_within c pages logs rooms ps p sizes told below) puts)))
