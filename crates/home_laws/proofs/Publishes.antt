-- The buffer of a home when private copies become the copies of their pages.
use Rattle.std.proofs.Common.{◌≡◌, ℕ, ◌==◌, ◌&&◌, ◌||◌, Bool, true, false, List, [], ◌∷◌, length, Option, Some, None, is_some, IfSome, refl, ap, sym, subst, ◌∙◌}
use Rattle.std.specs.List.{fold}
use Rattle.std.specs.Option.{option_map}
use Rattle.pcl_base.specs.Limits.{Sizes}
use Rattle.pcl_base.specs.declared.tx.TxId.{TxId}
use Rattle.node_rules.specs.Words.{same_tx}
use Rattle.node_rules.specs.BufferRule.{Pool, Slot, Copy, PrivateCopy, slot_in, slot_at, copy_of_slot, copy_at, is_pinned, private_at, private_bytes, bytes_of_private, change_slot, published, publish, discard}
use Rattle.home_laws.specs.Homes.{pins_of}
use Rattle.home_laws.proofs.Words.{equal}
use Rattle.home_laws.proofs.Slots.{slot_changed, slot_unchanged}
use Rattle.home_laws.proofs.Privates.{private_among, undiscarded}
use Rattle.home_laws.proofs.Pools.{PoolIs, changed_are, discarded_is}
use Rattle.home_laws.proofs.Closed.{Follows}

-- a slot whose copy becomes a private one
abbrev pub with_published : Bool → Option (List ℕ) → Slot → Slot
with_published dirty bytes s = record s { copy = published dirty bytes s.copy }

-- a copy is there afterwards where one was
pub some_published : (dirty : Bool) (bytes : Option (List ℕ)) (c : Option Copy) → is_some (published dirty bytes c) ≡ is_some c
some_published dirty None None = refl
some_published dirty None (Some c) = refl
some_published dirty (Some b) None = refl
some_published dirty (Some b) (Some c) = refl

sized_published : (size : ℕ) (dirty : Bool) (bytes : Option (List ℕ)) (c : Option Copy) → IfSome bytes (λ b. length b ≡ size) → IfSome c (λ x. length x.bytes ≡ size) → IfSome (published dirty bytes c) (λ x. length x.bytes ≡ size)
sized_published size dirty None None b s = s
sized_published size dirty None (Some c) b s = s
sized_published size dirty (Some x) None b s = s
sized_published size dirty (Some x) (Some c) b s = b

-- the bytes of a private copy are those of a page
pub private_sized : (c : Sizes) (b : Pool) (t : TxId) (p : ℕ) → PoolIs c b → IfSome (private_bytes b t p) (λ bytes. length bytes ≡ b.size)
private_sized c b t p is = of_copy (private_at b t p) (private_among (λ x. IfSome x.bytes (λ bytes. length bytes ≡ b.size)) b.privates t p is.buffer.images)
  where
    of_copy : (o : Option PrivateCopy) → IfSome o (λ x. IfSome x.bytes (λ bytes. length bytes ≡ b.size)) → IfSome (bytes_of_private o) (λ bytes. length bytes ≡ b.size)
    of_copy None h = tt
    of_copy (Some x) h = h

-- the buffer before the private copy is given up
abbrev put_copy : Pool → TxId → ℕ → Bool → Pool
put_copy b t p dirty = record b { slots = change_slot (with_published dirty (private_bytes b t p)) b.slots p }

pub published_is : (c : Sizes) (b : Pool) (t : TxId) (p : ℕ) (dirty : Bool) → PoolIs c b → PoolIs c (publish b t p dirty)
unfolding publish
published_is c b t p dirty is =
    discarded_is c (put_copy b t p dirty) t p
    (changed_are c b (with_published dirty (private_bytes b t p)) p (λ s. refl)
    (λ s h. sized_published b.size dirty (private_bytes b t p) s.copy (private_sized c b t p is) h)
    (λ s k. ap (λ d. d || is_pinned s) (some_published dirty (private_bytes b t p) s.copy) ∙ k) is)

same_pins : (dirty : Bool) (bytes : Option (List ℕ)) (o : Option Slot) → pins_of (option_map (with_published dirty bytes) o) ≡ pins_of o
same_pins dirty bytes None = refl
same_pins dirty bytes (Some s) = refl

same_copy : (dirty : Bool) (bytes : Option (List ℕ)) (o : Option Slot) → is_some (copy_of_slot (option_map (with_published dirty bytes) o)) ≡ is_some (copy_of_slot o)
same_copy dirty bytes None = refl
same_copy dirty bytes (Some s) = some_published dirty bytes s.copy

-- what is seen of a slot that a change of its copy leaves
pub seen_changed : {X : Type 0} (see : Option Slot → X) (f : Slot → Slot) → ((s : Slot) → (f s).page ≡ s.page) → ((o : Option Slot) → see (option_map f o) ≡ see o) → (ss : List Slot) (p q : ℕ)
    → see (slot_in (change_slot f ss p) q) ≡ see (slot_in ss q)
seen_changed see f keeps same ss p q = by_page (q == p) refl
  where
    by_page : (d : Bool) → (q == p) ≡ d → see (slot_in (change_slot f ss p) q) ≡ see (slot_in ss q)
    by_page true e =
        let here : see (slot_in (change_slot f ss p) p) ≡ see (slot_in ss p) = ap see (slot_changed f keeps ss p) ∙ same (slot_in ss p) in
        subst (λ n. see (slot_in (change_slot f ss p) n) ≡ see (slot_in ss n)) (sym (equal q p e)) here
    by_page false e = ap see (slot_unchanged f keeps ss p q e)

pub pins_published : (b : Pool) (t : TxId) (p q : ℕ) (dirty : Bool) → pins_of (slot_at (publish b t p dirty) q) ≡ pins_of (slot_at b q)
unfolding publish discard
pins_published b t p q dirty =
    seen_changed pins_of (with_published dirty (private_bytes b t p)) (λ s. refl) (same_pins dirty (private_bytes b t p)) b.slots p q

pub copy_published : (b : Pool) (t : TxId) (p q : ℕ) (dirty : Bool) → is_some (copy_at (publish b t p dirty) q) ≡ is_some (copy_at b q)
unfolding publish discard
copy_published b t p q dirty =
    seen_changed (λ o. is_some (copy_of_slot o)) (with_published dirty (private_bytes b t p)) (λ s. refl) (same_copy dirty (private_bytes b t p)) b.slots p q

-- other private copies stay
pub unpublished : (b : Pool) (t u : TxId) (p q : ℕ) (dirty : Bool) → (same_tx u t && q == p) ≡ false → private_at (publish b t p dirty) u q ≡ private_at b u q
unfolding publish
unpublished b t u p q dirty other = undiscarded (put_copy b t p dirty) t u p q other

-- one private copy becomes the page's
pub follows_published : (c : Sizes) (a b : Pool) (t : TxId) (p : ℕ) (dirty : Bool) → Follows c t a b → Follows c t a (publish b t p dirty)
follows_published c a b t p dirty f =
    record {
      is = published_is c b t p dirty f.is;
      pins = λ q. pins_published b t p q dirty ∙ f.pins q;
      copies = λ q some. copy_published b t p q dirty ∙ f.copies q some;
      privates = λ u q other. unpublished b t u p q dirty (ap (λ d. d && q == p) other) ∙ f.privates u q other;
    }

-- one after the other
pub follows_publishes : (c : Sizes) (a : Pool) (t : TxId) (g : ℕ → Bool) (ps : List ℕ) (b : Pool) → Follows c t a b → Follows c t a (fold (λ d p. publish d t p (g p)) b ps)
follows_publishes c a t g [] b f = f
follows_publishes c a t g (p ∷ ps) b f = follows_publishes c a t g ps (publish b t p (g p)) (follows_published c a b t p (g p) f)
