-- Where transactions stand whose locks under a right become registered ones.
use Rattle.std.proofs.Common.{◌≡◌, refl, ap, sym, subst, ◌∙◌, ℕ, Bool, true, false, List, Option, Some, None}
use Rattle.std.specs.Prelude.{option_map}
use Rattle.pcl_base.specs.declared.lock.Held.{Held}
use Rattle.pcl_base.specs.declared.lock.Kind.{Kind}
use Rattle.pcl_base.specs.declared.lock.Kind.TheVariants as kind
use Rattle.pcl_base.specs.declared.tx.Mode.{Mode}
use Rattle.pcl_base.specs.declared.tx.Mode.TheVariants.{Shared, Exclusive}
use Rattle.node_rules.specs.Words.{pick}
use Rattle.home_laws.specs.Homes.{is_right_lock}
use Rattle.page_laws.specs.Look.Grants.{of_kind}
use Rattle.page_protocol.specs.Authority.{registered, IsReading}
use Rattle.page_protocol.specs.State.{Home, Fresh, Asking, Holding, HoldingAsks, Reading, ReadingAsks, Ended, Gone, IsFresh, IsClosed}
use Rattle.page_relation.specs.Homes.{stand_of, held_stand, shared_stand, Stands, KindFits, image_of}
use Rattle.page_relation.specs.Messages.{IsTold}

-- ---- where transactions stand

pub fresh_before : (h : Home) → IsFresh (registered h) → IsFresh h
fresh_before Fresh f = f
fresh_before (Asking m v) f = f
fresh_before (Holding m) f = f
fresh_before HoldingAsks f = f
fresh_before Reading f = f
fresh_before ReadingAsks f = f
fresh_before (Ended v e) f = f
fresh_before Gone f = f

pub fresh_after : (h : Home) → IsFresh h → IsFresh (registered h)
fresh_after Fresh f = f
fresh_after (Asking m v) f = f
fresh_after (Holding m) f = f
fresh_after HoldingAsks f = f
fresh_after Reading f = f
fresh_after ReadingAsks f = f
fresh_after (Ended v e) f = f
fresh_after Gone f = f

pub closed_after : (h : Home) → IsClosed h → IsClosed (registered h)
closed_after Fresh f = f
closed_after (Asking m v) f = f
closed_after (Holding m) f = f
closed_after HoldingAsks f = f
closed_after Reading f = absurd f
closed_after ReadingAsks f = absurd f
closed_after (Ended v e) f = f
closed_after Gone f = f

pub told_after : (have : Option ℕ) (h : Home) → IsTold have h → IsTold have (registered h)
told_after have Fresh f = f
told_after have (Asking m v) f = f
told_after have (Holding m) f = f
told_after have HoldingAsks f = f
told_after have Reading f = f
told_after have ReadingAsks f = f
told_after have (Ended v e) f = f
told_after have Gone f = f

pub image_after : (h : Home) (bytes : List ℕ) → image_of (registered h) bytes ≡ image_of h bytes
image_after Fresh bytes = refl
image_after (Asking m v) bytes = refl
image_after (Holding Shared) bytes = refl
image_after (Holding Exclusive) bytes = refl
image_after HoldingAsks bytes = refl
image_after Reading bytes = refl
image_after ReadingAsks bytes = refl
image_after (Ended v e) bytes = refl
image_after Gone bytes = refl

pub writer_before : (h : Home) → registered h ≡ Holding Exclusive → h ≡ Holding Exclusive
writer_before Fresh e = absurd (cc)
writer_before (Asking m v) e = absurd (cc)
writer_before (Holding m) e = e
writer_before HoldingAsks e = absurd (cc)
writer_before Reading e = absurd (cc)
writer_before ReadingAsks e = absurd (cc)
writer_before (Ended v f) e = absurd (cc)
writer_before Gone e = absurd (cc)

-- the lock of a reader has another kind
unfoldable pub registered_lock : Bool → Option Held → Option Held
registered_lock b o = pick b (option_map (of_kind kind.Registered) o) o

pub shared_after : (k : Kind) (b : Bool) (w : Option Mode) → (is_right_lock (Some (record { page = 0; mode = Shared; kind = k })) ≡ true → b ≡ true)
    → registered (shared_stand k w) ≡ shared_stand (pick b kind.Registered k) w
shared_after kind.Own true None named = refl
shared_after kind.Own true (Some m) named = refl
shared_after kind.Own false None named = refl
shared_after kind.Own false (Some m) named = refl
shared_after kind.Registered true None named = refl
shared_after kind.Registered true (Some m) named = refl
shared_after kind.Registered false None named = refl
shared_after kind.Registered false (Some m) named = refl
shared_after kind.Right true None named = refl
shared_after kind.Right true (Some m) named = refl
shared_after kind.Right false None named = (let bad : false ≡ true = named refl in absurd (cc))
shared_after kind.Right false (Some m) named = (let bad : false ≡ true = named refl in absurd (cc))

pub stand_after : (b : Bool) (o : Option Held) (w : Option Mode) (have : Option ℕ) → (is_right_lock o ≡ true → b ≡ true) → registered (stand_of o w have) ≡ stand_of (registered_lock b o) w have
unfolding registered_lock
stand_after true None None have named = refl
stand_after true None (Some m) have named = refl
stand_after false None None have named = refl
stand_after false None (Some m) have named = refl
stand_after true (Some l) w have named = by l.mode
  where
    by : (m : Mode) → registered (held_stand m l.kind w) ≡ held_stand m kind.Registered w
    by Shared = shared_after l.kind true w (λ e. refl)
    by Exclusive = refl
stand_after false (Some l) w have named = by l.mode
  where
    by : (m : Mode) → registered (held_stand m l.kind w) ≡ held_stand m l.kind w
    by Shared = shared_after l.kind false w named
    by Exclusive = refl

pub stands_after : (o u b : Bool) (l : Option Held) (w : Option Mode) (h : Home) → (is_right_lock l ≡ true → b ≡ true) → Stands o u l w h → Stands o u (registered_lock b l) w (registered h)
stands_after true u b l w h named s = (s.0, ap registered s.1 ∙ stand_after b l w s.0 named)
stands_after false true b l w h named s = fresh_after h s
stands_after false false b l w h named s = closed_after h s

pub kind_after : (b own : Bool) (l : Option Held) → own ≡ false → KindFits own l → KindFits own (registered_lock b l)
unfolding registered_lock
kind_after true own None none fits = tt
kind_after true own (Some l) none fits = sym none
kind_after false own l none fits = fits

-- who reads under the right is named
pub reading_lock : (l : Option Held) (w : Option Mode) (have : Option ℕ) → IsReading (stand_of l w have) → is_right_lock l ≡ true
reading_lock None None have r = absurd r
reading_lock None (Some m) have r = absurd r
reading_lock (Some l) w have r = by l.mode l.kind w r
  where
    by : (m : Mode) (k : Kind) (w : Option Mode) → IsReading (held_stand m k w) → is_right_lock (Some (record { page = 0; mode = Shared; kind = k })) ≡ true
    by Exclusive k w r = absurd r
    by Shared kind.Own None r = absurd r
    by Shared kind.Own (Some m) r = absurd r
    by Shared kind.Registered None r = absurd r
    by Shared kind.Registered (Some m) r = absurd r
    by Shared kind.Right None r = refl
    by Shared kind.Right (Some m) r = refl

pub reading_fresh : (h : Home) → IsFresh h → IsReading h → ⊥
reading_fresh Fresh f r = r
reading_fresh (Asking m v) f r = f
reading_fresh (Holding m) f r = f
reading_fresh HoldingAsks f r = f
reading_fresh Reading f r = f
reading_fresh ReadingAsks f r = f
reading_fresh (Ended v e) f r = f
reading_fresh Gone f r = f

pub reading_closed : (h : Home) → IsClosed h → IsReading h → ⊥
reading_closed Fresh f r = r
reading_closed (Asking m v) f r = f
reading_closed (Holding m) f r = f
reading_closed HoldingAsks f r = f
reading_closed Reading f r = f
reading_closed ReadingAsks f r = f
reading_closed (Ended v e) f r = r
reading_closed Gone f r = r

pub reading_is : (o u : Bool) (l : Option Held) (w : Option Mode) (h : Home) → Stands o u l w h → IsReading h → is_right_lock l ≡ true
reading_is true u l w h s r = reading_lock l w s.0 (subst IsReading s.1 r)
reading_is false true l w h s r = absurd (reading_fresh h s r)
reading_is false false l w h s r = absurd (reading_closed h s r)
