-- What a grant that arrives comes to: the rights change beside what its access does.
use Rattle.std.proofs.Common.{◌≡◌, ℕ, ◌+◌, ◌≤◌, ◌==◌, Bool, true, false, List, [], ◌∷◌, ◌++◌, length, replicate, Option, Some, None, is_some, IfSome, Result, Ok, Err, refl, ap, sym, subst, ◌∙◌, arith}
use Rattle.std.proofs.lemmas.List.{length-replicate}
use Rattle.std.specs.Prelude.{OnOk, IfOk, OnErr, IfErr, IsErrAnd}
use Rattle.pcl_base.specs.declared.tx.TxId.{TxId}
use Rattle.pcl_base.specs.declared.lock.Held.{Held}
use Rattle.pcl_base.specs.declared.lock.Kind.{Kind}
use Rattle.pcl_base.specs.declared.message.Grant.{Grant}
use Rattle.pcl_base.specs.declared.reply.Reply.{Reply}
use Rattle.text_rules.specs.StoredPage.{PageAt}
use Rattle.node_rules.specs.Words.{pick}
use Rattle.node_rules.specs.OpenTxs.{pending_of}
use Rattle.node_rules.specs.Shelf.{Right, right_on, accept}
use Rattle.node_rules.specs.BufferRule.{find, install}
use Rattle.node_rules.specs.CopyRule.{is_version}
use Rattle.node_rules.specs.NodeState.{HomeState}
use Rattle.node_rules.specs.Work.{HomeWork, Outcome, Goes, Differs, and_then, and_so, read_page}
use Rattle.node_rules.specs.AccessRule.{Granted, Arrived, bring, unless_current, new_content, from_disk, on_pool, clean_copy, perform, locked, write_of, granted, arrive, arrived, on_grant, image_of, kind_of, shelf_after, readers_after}
use Rattle.tx_table.specs.Counts.{wait_count}
use Rattle.home_laws.specs.Homes.{IsHome}
use Rattle.home_laws.proofs.Arrived.{lock_of, on_grant_sound}
use Rattle.home.specs.declared.fault.HomeFault.{HomeFault}
use Rattle.home.specs.declared.fault.HomeFault.TheVariants as fault
use Rattle.home.specs.Device.{work_on}
use Rattle.home.specs.Parts.{PartsView, IsPrepared}
use Rattle.home.specs.Grants.{Tells, outcome, arrival, StandsFor, ByImage, part_of, with_shelf, is_awaited, IsReadFault, IsGrantFault}

-- the work with other rights
abbrev moved : List Right → HomeWork → HomeWork
moved shelf w = record w { home = with_shelf shelf w.home }

abbrev granted_under : List Right → Granted → Granted
granted_under shelf g = record { reply = g.reply; work = moved shelf g.work }

-- a grant goes by no right
module _ (shelf : List Right) (t : TxId) (l : Held) where
  locked_apart : (write : Option (ℕ × List ℕ)) (w : HomeWork) → locked t l write (moved shelf w) ≡ granted_under shelf (locked t l write w)
  unfolding perform
  locked_apart None w = refl
  locked_apart (Some x) w = refl

  abbrev put_in : ℕ → PageAt → HomeWork → HomeWork
  put_in p at w = on_pool (λ b. install b p (clean_copy at)) w

  disk_apart : (p version : ℕ) (w : HomeWork) (o : Outcome PageAt) → and_then o (from_disk p version (moved shelf w)) ≡ and_so (and_then o (from_disk p version w)) (moved shelf)
  disk_apart p version w (Differs q m n) = refl
  disk_apart p version w (Goes at) = by (at.version == version)
    where
      by : (d : Bool) → pick d (Goes (put_in p at (moved shelf w))) (Differs p version at.version) ≡ and_so (pick d (Goes (put_in p at w)) (Differs p version at.version)) (moved shelf)
      by true = refl
      by false = refl

  content_apart : (p version : ℕ) (image : Option (List ℕ)) (w : HomeWork) → new_content p version image (moved shelf w) ≡ and_so (new_content p version image w) (moved shelf)
  content_apart p version (Some bytes) w = refl
  content_apart p version None w = disk_apart p version w (read_page w.pages p)

  brought_apart : (d : Bool) (p version : ℕ) (image : Option (List ℕ)) (w : HomeWork) → unless_current d p version image (moved shelf w) ≡ and_so (unless_current d p version image w) (moved shelf)
  brought_apart true p version image w = refl
  brought_apart false p version image w = content_apart p version image w

  all_apart : (write : Option (ℕ × List ℕ)) (o : Outcome HomeWork) → and_so (and_so o (moved shelf)) (locked t l write) ≡ and_so (and_so o (locked t l write)) (granted_under shelf)
  all_apart write (Goes w) = ap (λ g. (let o : Outcome Granted = Goes g in o)) (locked_apart write w)
  all_apart write (Differs q m n) = refl

  granted_apart : (version : ℕ) (image : Option (List ℕ)) (w : HomeWork) → granted t l version image (moved shelf w) ≡ and_so (granted t l version image w) (granted_under shelf)
  unfolding granted bring
  granted_apart version image w =
      ap (λ o. and_so o (locked t l (write_of (pending_of w.home.txs t)))) (brought_apart (is_version (find w.home.pool l.page) version) l.page version image w)
      ∙ all_apart (write_of (pending_of w.home.txs t)) (bring l.page version image w)

-- the answer and the home after a grant, once the rights are changed
abbrev pub then_rights : List Right → Reply × HomeState → Option Reply × HomeState
then_rights shelf x = (Some x.0, with_shelf shelf x.1)

abbrev pub rights_after : Grant → HomeState → List Right
rights_after g h = readers_after g (shelf_after g h.shelf)

pub arrives : (g : Grant) (owned : Bool) (w : HomeWork) → is_awaited g w.home ≡ true
    → arrival (on_grant g owned w) ≡ and_so (outcome (granted g.tx (lock_of g owned) g.version (image_of g.copy) w)) (then_rights (rights_after g w.home))
unfolding on_grant
arrives g owned w waits =
    ap (λ d. arrival (arrive d g owned (moved (shelf_after g w.home.shelf) w))) waits
    ∙ ap (λ o. arrival (and_so o arrived)) (granted_apart (rights_after g w.home) g.tx (lock_of g owned) g.version (image_of g.copy) w)
    ∙ over (granted g.tx (lock_of g owned) g.version (image_of g.copy) w)
  where
    over : (o : Outcome Granted) → arrival (and_so (and_so o (granted_under (rights_after g w.home))) arrived) ≡ and_so (outcome o) (then_rights (rights_after g w.home))
    over (Goes x) = refl
    over (Differs q m n) = refl

pub ignores : (g : Grant) (owned : Bool) (w : HomeWork) → is_awaited g w.home ≡ false → arrival (on_grant g owned w) ≡ Goes (None, with_shelf (shelf_after g w.home.shelf) w.home)
unfolding on_grant
ignores g owned w waits = ap (λ d. arrival (arrive d g owned (moved (shelf_after g w.home.shelf) w))) waits

-- what is told of a grant, once the rights are changed
pub told_then : (shelf : List Right) (o : Outcome (Reply × HomeState)) (y : Reply) (mid new : HomeState) → Tells o (Ok y) mid → new ≡ with_shelf shelf mid → Tells (and_so o (then_rights shelf)) (Ok (Some y)) new
told_then shelf (Goes x) y mid new told is = (ap Some told.0, is ∙ ap (with_shelf shelf) told.1)
told_then shelf (Differs q m n) y mid new told is = absurd told

pub told_fault : (shelf : List Right) (o : Outcome (Reply × HomeState)) (e : HomeFault) (mid new : HomeState) → Tells o (Err e) mid → Tells (and_so o (then_rights shelf)) (Err e) new
told_fault shelf (Goes x) (fault.Refused r) mid new told = tt
told_fault shelf (Goes x) (fault.Failed call kept) mid new told = tt
told_fault shelf (Goes x) (fault.Differs q a b) mid new told = told
told_fault shelf (Goes x) fault.NoMemory mid new told = tt
told_fault shelf (Differs p m n) (fault.Refused r) mid new told = tt
told_fault shelf (Differs p m n) (fault.Failed call kept) mid new told = tt
told_fault shelf (Differs p m n) (fault.Differs q a b) mid new told = told
told_fault shelf (Differs p m n) fault.NoMemory mid new told = tt

-- the lock of a grant with its kind
abbrev lock_as : Grant → Kind → Held
lock_as g k = record { page = g.page; mode = g.mode; kind = k }

pub arrival_told : (g : Grant) (owned : Bool) (k : Kind) (w : HomeWork) (y : Reply) (mid new : HomeState) (shelf : List Right) → k ≡ kind_of owned g.right → is_awaited g w.home ≡ true
    → Tells (outcome (granted g.tx (lock_as g k) g.version (image_of g.copy) w)) (Ok y) mid → new ≡ with_shelf (readers_after g (shelf_after g shelf)) mid → shelf ≡ w.home.shelf
    → Tells (arrival (on_grant g owned w)) (Ok (Some y)) new
arrival_told g owned k w y mid new shelf kind waits told is same =
    subst (λ o. Tells o (Ok (Some y)) new) (sym (arrives g owned w waits))
    (told_then (rights_after g w.home) (outcome (granted g.tx (lock_of g owned) g.version (image_of g.copy) w)) y mid new
    (subst (λ x. Tells (outcome (granted g.tx (lock_as g x) g.version (image_of g.copy) w)) (Ok y) mid) kind told) (is ∙ ap (λ rs. with_shelf (readers_after g (shelf_after g rs)) mid) same))

pub arrival_fault : (g : Grant) (owned : Bool) (k : Kind) (w : HomeWork) (e : HomeFault) (mid new : HomeState) (r : Result (Option Reply) HomeFault) → k ≡ kind_of owned g.right → is_awaited g w.home ≡ true
    → IsErrAnd r (λ f. f ≡ e) → Tells (outcome (granted g.tx (lock_as g k) g.version (image_of g.copy) w)) (Err e) mid → Tells (arrival (on_grant g owned w)) r new
arrival_fault g owned k w e mid new (Ok y) kind waits same told = absurd same
arrival_fault g owned k w e mid new (Err f) kind waits same told =
    subst (λ x. Tells (arrival (on_grant g owned w)) (Err x) new) (sym same)
    (subst (λ o. Tells o (Err e) new) (sym (arrives g owned w waits))
    (told_fault (rights_after g w.home) (outcome (granted g.tx (lock_of g owned) g.version (image_of g.copy) w)) e mid new
    (subst (λ x. Tells (outcome (granted g.tx (lock_as g x) g.version (image_of g.copy) w)) (Err e) mid) kind told)))

-- a fault of a read is one of a grant, and isn't want of memory
pub grant_fault : {R : Type 0} (p : ℕ) (e : HomeFault) (r : Result R HomeFault) → IsErrAnd r (λ f. f ≡ e) → IsReadFault p e → IfErr r (IsGrantFault p)
grant_fault p e (Ok y) same is = absurd same
grant_fault p e (Err f) same is = subst (IsGrantFault p) (sym same) (by e is)
  where
    by : (x : HomeFault) → IsReadFault p x → IsGrantFault p x
    by (fault.Refused r) is = is
    by (fault.Failed call kept) is = is
    by (fault.Differs q a b) is = is
    by fault.NoMemory is = tt

pub grant_memory : {R : Type 0} (p : ℕ) (e : HomeFault) (r : Result R HomeFault) → IsErrAnd r (λ f. f ≡ e) → IsReadFault p e → r ≡ Err fault.NoMemory → ⊥
grant_memory p e (Ok y) same is bad = absurd same
grant_memory p e (Err f) same is bad =
    let wanting : f ≡ fault.NoMemory = cc in
    subst (IsReadFault p) (sym same ∙ wanting) is

-- the memory after it
pub readers_prepared : (shelf : List Right) (mid new : PartsView) → IsPrepared mid → wait_count mid.home.txs.txs + 1 ≤ mid.rights → new ≡ record mid { home = new.home; marks = new.marks; rights = new.rights }
    → new.home ≡ with_shelf shelf mid.home → mid.rights ≤ new.rights + 1 → IsPrepared new
readers_prepared shelf mid new prepared more same home rights =
    let count = ap (λ (h : HomeState). wait_count h.txs.txs) home in
    let places = ap (λ v. v.places) same in
    let replies = ap (λ v. v.replies) same in
    let a = prepared.0.places in
    let b = prepared.0.replies in (
      record { rights = omega (arith, count, more, rights); places = omega (arith, count, a, places); replies = omega (arith, count, b, replies) },
      ap (λ v. v.node) same ∙ prepared.1 ∙ sym (ap (λ (h : HomeState). h.txs.node) home),
    )

-- the same by an image
part_image : (i : Option (List ℕ)) → image_of (part_of i) ≡ i
part_image None = refl
part_image (Some bytes) = refl

pub arrival_image : (g : Grant) (owned : Bool) (k : Kind) (h mid new : HomeState) (y : Reply) (shelf : List Right) → k ≡ kind_of owned g.right → is_awaited g h ≡ true
    → ByImage g.page g.version (image_of g.copy) (λ i. outcome (granted g.tx (lock_as g k) g.version i (work_on h))) h y mid → new ≡ with_shelf (readers_after g (shelf_after g shelf)) mid → shelf ≡ h.shelf
    → ByImage g.page g.version (image_of g.copy) (λ i. arrival (on_grant (record g { copy = part_of i }) owned (work_on h))) h (Some y) new
arrival_image g owned k h mid new y shelf kind waits by_image is same = record {
  image = by_image.image;
  stands = by_image.stands;
  goes =
      arrives (record g { copy = part_of by_image.image }) owned (work_on h) waits
      ∙ ap (λ i. and_so (outcome (granted g.tx (lock_of g owned) g.version i (work_on h))) (then_rights (rights_after g h))) (part_image by_image.image)
      ∙ ap (λ x. and_so (outcome (granted g.tx (lock_as g x) g.version by_image.image (work_on h))) (then_rights (rights_after g h))) (sym kind)
      ∙ ap (λ o. and_so o (then_rights (rights_after g h))) by_image.goes
      ∙ ap (λ q. (let o : Outcome (Option Reply × HomeState) = Goes (Some y, q) in o)) (sym (is ∙ ap (λ rs. with_shelf (readers_after g (shelf_after g rs)) mid) same));
}

-- an image that stands for the content is always there
abbrev pub stand_in : Option (List ℕ) → ℕ → Option (List ℕ)
stand_in None size = Some (replicate size 0)
stand_in (Some bytes) size = Some bytes

pub stands_in : (p version : ℕ) (given : Option (List ℕ)) (h : HomeState) → IfSome given (λ b. length b ≡ h.config.size) → StandsFor p version given h (stand_in given h.config.size)
stands_in p version None h size = record { same = λ e. absurd (cc); size = length-replicate h.config.size 0; there = λ e. refl }
stands_in p version (Some bytes) h size = record { same = λ e. refl; size = size; there = λ e. refl }

pub ignored_image : (g : Grant) (owned : Bool) (h new : HomeState) (r : Option Reply) → is_awaited g h ≡ false → IfSome (image_of g.copy) (λ b. length b ≡ h.config.size) → r ≡ None
    → new ≡ with_shelf (shelf_after g h.shelf) h → ByImage g.page g.version (image_of g.copy) (λ i. arrival (on_grant (record g { copy = part_of i }) owned (work_on h))) h r new
ignored_image g owned h new r waits size none is = record {
  image = stand_in (image_of g.copy) h.config.size;
  stands = stands_in g.page g.version (image_of g.copy) h size;
  goes =
      ignores (record g { copy = part_of (stand_in (image_of g.copy) h.config.size) }) owned (work_on h) waits
      ∙ ap (λ k. (let o : Outcome (Option Reply × HomeState) = Goes (None, k) in o)) (sym is) ∙ ap (λ x. (let o : Outcome (Option Reply × HomeState) = Goes (x, new) in o)) (sym none);
}

-- the home after it
pub arrival_sound : (g : Grant) (owned : Bool) (h new : HomeState) (r : Option Reply) → IsHome h
    → ByImage g.page g.version (image_of g.copy) (λ i. arrival (on_grant (record g { copy = part_of i }) owned (work_on h))) h r new → IsHome new
arrival_sound g owned h new r home by_image = by (on_grant (record g { copy = part_of by_image.image }) owned (work_on h)) refl by_image.goes
  where
    by : (o : Outcome Arrived) → on_grant (record g { copy = part_of by_image.image }) owned (work_on h) ≡ o → arrival o ≡ Goes (r, new) → IsHome new
    by (Goes x) e f =
        let same : (let z : Option Reply × HomeState = (x.reply, x.work.home) in z) ≡ (r, new) = cc in
        subst IsHome (ap (λ z. z.1) same)
        (on_grant_sound (record g { copy = part_of by_image.image }) owned (work_on h) x home
        (subst (λ i. IfSome i (λ b. length b ≡ h.config.size)) (sym (part_image by_image.image)) by_image.stands.size)
        (λ apart none. let there = by_image.stands.there apart in let gone = sym (part_image by_image.image) ∙ none in absurd (cc)) e)
    by (Differs q m n) e f = absurd (cc)

-- a grant that nobody waits for
pub ignored_told : (g : Grant) (owned : Bool) (w : HomeWork) (r : Result (Option Reply) HomeFault) (new : HomeState) → is_awaited g w.home ≡ false → IfOk r (λ y. y ≡ None)
    → OnOk r (new ≡ with_shelf (shelf_after g w.home.shelf) w.home) → IfErr r (λ e. e ≡ fault.NoMemory) → Tells (arrival (on_grant g owned w)) r new
ignored_told g owned w (Ok y) new waits none is wanting = subst (λ o. Tells o (Ok y) new) (sym (ignores g owned w waits)) (none, is)
ignored_told g owned w (Err e) new waits none is wanting =
    subst (λ o. Tells o (Err e) new) (sym (ignores g owned w waits))
    (subst (λ x. Tells {R = Option Reply} (Goes (None, with_shelf (shelf_after g w.home.shelf) w.home)) (Err x) new) (sym wanting) tt)

pub ignored_by : (g : Grant) (owned : Bool) (h new : HomeState) (r : Result (Option Reply) HomeFault) → is_awaited g h ≡ false → IfSome (image_of g.copy) (λ b. length b ≡ h.config.size) → IfOk r (λ y. y ≡ None)
    → OnOk r (new ≡ with_shelf (shelf_after g h.shelf) h) → IfOk r (λ y. ByImage g.page g.version (image_of g.copy) (λ i. arrival (on_grant (record g { copy = part_of i }) owned (work_on h))) h y new)
ignored_by g owned h new (Ok y) waits size none is = ignored_image g owned h new y waits size none is
ignored_by g owned h new (Err e) waits size none is = tt

-- the home after an answer
pub arrived_sound : (g : Grant) (owned : Bool) (old new : PartsView) (r : Result (Option Reply) HomeFault) → IsHome old.home
    → IfOk r (λ y. ByImage g.page g.version (image_of g.copy) (λ i. arrival (on_grant (record g { copy = part_of i }) owned (work_on old.home))) old.home y new.home) → OnErr r (new ≡ old) → IsHome new.home
arrived_sound g owned old new (Ok y) home by_image same = arrival_sound g owned old.home new.home y home by_image
arrived_sound g owned old new (Err e) home by_image same = subst (λ (v : PartsView). IsHome v.home) (sym same) home

-- no right comes into being where there is one of the page, or none came
pub right_there : (g : Grant) (h : HomeState) → is_some (right_on h.shelf g.page) ≡ true → h ≡ with_shelf (shelf_after g h.shelf) h
unfolding accept
right_there g h there = by g.right
  where
    by : (d : Bool) → h ≡ with_shelf (pick d (accept h.shelf g.page g.version) h.shelf) h
    by true = ap (λ c. with_shelf (pick c h.shelf (h.shelf ++ record { page = g.page; version = g.version; readers = [] } ∷ [])) h) (sym there)
    by false = refl

pub no_right : (g : Grant) (h : HomeState) → g.right ≡ false → h ≡ with_shelf (shelf_after g h.shelf) h
no_right g h none = ap (λ d. with_shelf (pick d (accept h.shelf g.page g.version) h.shelf) h) (sym none)
