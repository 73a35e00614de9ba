-- Locks that become own ones: where transactions stand, and what a report of its own node lists of them.
use Rattle.std.proofs.Common.{◌≡◌, refl, ap, sym, ◌∙◌, ℕ, Bool, true, false, Option, Some, None}
use Rattle.std.specs.Prelude.{option_map}
use Rattle.pcl_base.specs.declared.lock.Held.{Held}
use Rattle.pcl_base.specs.declared.lock.Kind.{Kind}
use Rattle.pcl_base.specs.declared.lock.Kind.TheVariants as kind
use Rattle.pcl_base.specs.declared.tx.Mode.{Mode}
use Rattle.pcl_base.specs.declared.tx.Mode.TheVariants.{Shared, Exclusive}
use Rattle.home_laws.specs.Homes.{is_right_lock}
use Rattle.page_laws.specs.Look.Grants.{of_kind}
use Rattle.page_protocol.specs.Eras.{reported}
use Rattle.page_protocol.specs.State.{Home, Fresh, Asking, Holding, HoldingAsks, Reading, ReadingAsks, Ended, Gone, IsClosed}
use Rattle.page_relation.specs.Homes.{Stands, KindFits, stand_of, held_stand}
use Rattle.kept_relation.specs.Turn.Listing.{listed_mode}
use Rattle.kept_relation.proofs.TurnParts.Registered.{registered_lock}
use Rattle.kept_relation.proofs.TurnParts.Unborn.{less_unborn, stands_closed}

-- a lock that isn't under a right stands as an own one
pub own_stand : (m : Mode) (k : Kind) (w : Option Mode) → is_right_lock (Some (record { page = 0; mode = m; kind = k })) ≡ false → held_stand m k w ≡ held_stand m kind.Own w
own_stand Exclusive k w free = refl
own_stand Shared kind.Own None free = refl
own_stand Shared kind.Own (Some x) free = refl
own_stand Shared kind.Registered None free = refl
own_stand Shared kind.Registered (Some x) free = refl
own_stand Shared kind.Right w free = absurd (cc)

pub stand_own : (l : Option Held) (w : Option Mode) (have : Option ℕ) → is_right_lock l ≡ false → stand_of l w have ≡ stand_of (option_map (of_kind kind.Own) l) w have
stand_own None w have free = refl
stand_own (Some l) w have free = own_stand l.mode l.kind w free

-- a transaction whose lock becomes an own one, at a node where fewer are still to be begun
pub stands_own : (o new old : Bool) (l : Option Held) (w : Option Mode) (h : Home) → (new ≡ true → old ≡ true) → is_right_lock l ≡ false → Stands o old l w h
    → Stands o new (option_map (of_kind kind.Own) l) w h
stands_own true new old l w h less free is = (is.0, is.1 ∙ stand_own l w is.0 free)
stands_own false true true l w h less free is = is
stands_own false true false l w h less free is = (let bad : false ≡ true = less refl in absurd (cc))
stands_own false false true l w h less free is = less_unborn false true h (λ e. absurd (cc)) is
stands_own false false false l w h less free is = is

pub own_fits : (l : Option Held) → KindFits true (option_map (of_kind kind.Own) l)
own_fits None = tt
own_fits (Some l) = refl

-- a registered lock becomes an own one as the lock before does
pub own_registered : (b : Bool) (l : Option Held) → option_map (of_kind kind.Own) (registered_lock b l) ≡ option_map (of_kind kind.Own) l
unfolding registered_lock
own_registered true None = refl
own_registered true (Some l) = refl
own_registered false l = refl

-- where each lock under a right is a reader's, none is left under it
pub none_under : (b : Bool) (l : Option Held) → (is_right_lock l ≡ true → b ≡ true) → is_right_lock (registered_lock b l) ≡ false
unfolding registered_lock
none_under true None named = refl
none_under true (Some l) named = refl
none_under false l named = by (is_right_lock l) refl
  where
    by : (k : Bool) → is_right_lock l ≡ k → is_right_lock l ≡ false
    by true e = (let bad : false ≡ true = named e in absurd (cc))
    by false e = e

-- ---- what the node's own report lists

closed_none : (h : Home) → IsClosed h → (let o : Option Mode = None in o) ≡ reported h
closed_none Fresh c = refl
closed_none (Asking m have) c = absurd c
closed_none (Holding m) c = absurd c
closed_none HoldingAsks c = absurd c
closed_none Reading c = absurd c
closed_none ReadingAsks c = absurd c
closed_none (Ended x e) c = refl
closed_none Gone c = refl

own_listed : (m : Mode) (w : Option Mode) → Some m ≡ reported (held_stand m kind.Own w)
own_listed Exclusive w = refl
own_listed Shared None = refl
own_listed Shared (Some x) = refl

held_listed : (l : Option Held) (w : Option Mode) (have : Option ℕ) → listed_mode true (option_map (of_kind kind.Own) l) ≡ reported (stand_of (option_map (of_kind kind.Own) l) w have)
held_listed None None have = refl
held_listed None (Some m) have = refl
held_listed (Some l) w have = own_listed l.mode w

-- an open transaction alone has a lock
pub own_report_lists : (o u : Bool) (l : Option Held) (w : Option Mode) (h : Home) → (o ≡ false → l ≡ None) → Stands o u (option_map (of_kind kind.Own) l) w h
    → listed_mode true (option_map (of_kind kind.Own) l) ≡ reported h
own_report_lists true u l w h none is = held_listed l w is.0 ∙ ap reported (sym is.1)
own_report_lists false true l w h none is =
    ap (λ (x : Option Held). listed_mode true (option_map (of_kind kind.Own) x)) (none refl) ∙ closed_none h (stands_closed true h is)
own_report_lists false false l w h none is =
    ap (λ (x : Option Held). listed_mode true (option_map (of_kind kind.Own) x)) (none refl) ∙ closed_none h (stands_closed false h is)
