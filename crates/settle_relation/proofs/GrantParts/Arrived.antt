-- What a grant that is taken is worked off to.
use Rattle.std.proofs.Common.{◌≡◌, refl, ap, sym, ◌∙◌, ℕ, Bool, true, false, List, [], Option, Some, None}
use Rattle.pcl_base.specs.declared.message.Grant.{Grant}
use Rattle.node_rules.specs.AccessRule.{Arrived, Granted, arrive, arrived, granted, image_of, on_grant, readers_after, shelf_after, write_of}
use Rattle.node_rules.specs.LockTable.{LockTable}
use Rattle.node_rules.specs.NodeState.{table_of}
use Rattle.node_rules.specs.NodeStep.{after_grant, take_grant}
use Rattle.node_rules.specs.OpenTxs.{pending_of, waits_as}
use Rattle.node_rules.specs.OwnerRule.{told}
use Rattle.node_rules.specs.Shelf.{Right}
use Rattle.node_rules.specs.Work.{Differs, Goes, HomeWork, Outcome, Work, and_so, with_home_work, work_of_home}
use Rattle.page_laws.specs.Look.Grants.{HasArrived, IsCarriedOut, lock_granted, with_lock_of, with_shelf}
use Rattle.page_laws.proofs.LookParts.Granting.{arrival_is_seen_law, grant_is_seen_law}
use Rattle.settle_relation.proofs.GrantParts.Bringing.{brings_only}
use Rattle.settle_relation.proofs.GrantParts.Performing.{same_calls}

-- the work with other rights
abbrev pub shelved : List Right → Work → Work
shelved shelf w = with_home_work w (with_shelf shelf (work_of_home w))

-- the work with the right of the grant, and that with its reader too
abbrev pub got : Grant → Work → Work
got g w = shelved (shelf_after g w.node.home.shelf) w

abbrev pub read_by : Grant → Work → Work
read_by g w = shelved (readers_after g (shelf_after g w.node.home.shelf)) w

-- An owner ignores a grant of its own page; one that isn't awaited brings its right alone; and one that is, is carried out.
pub data GrantIs (g : Grant) (w x : Work) : Type 0 where
  ignored : x ≡ w → GrantIs g w x
  kept : table_of w.node g.page ≡ None → x ≡ got g w → GrantIs g w x
  done : table_of w.node g.page ≡ None → waits_as (pending_of w.node.home.txs g.tx) g.page g.mode ≡ true → (y : Granted)
      → granted g.tx (lock_granted g false) g.version (image_of g.copy) (work_of_home (read_by g w)) ≡ Goes y → x ≡ told (read_by g w) y → GrantIs g w x

goes_same : {X : Type 0} (x y : X) → (let o : Outcome X = Goes x in o) ≡ Goes y → x ≡ y
goes_same x y e = cc

pub grant_is : (g : Grant) (w x : Work) → take_grant (table_of w.node g.page) g w ≡ Goes x → GrantIs g w x
grant_is g w x goes = by (table_of w.node g.page) refl goes
  where
    arrives : table_of w.node g.page ≡ None → (y : Arrived) → HasArrived g false (work_of_home w) y → after_grant w y ≡ x → (b : Bool)
        → waits_as (pending_of w.node.home.txs g.tx) g.page g.mode ≡ b → GrantIs g w x
    arrives none y has same true waits =
        let is = has.awaited waits in
        done none waits is.0 is.1 (sym same ∙ ap (after_grant w) is.2)
    arrives none y has same false waits = kept none (sym same ∙ ap (after_grant w) (has.unawaited waits))

    of : table_of w.node g.page ≡ None → (o : Outcome Arrived) → on_grant g false (work_of_home w) ≡ o → and_so o (after_grant w) ≡ Goes x → GrantIs g w x
    of none (Goes y) is so =
        arrives none y (arrival_is_seen_law g false (work_of_home w) y is) (goes_same (after_grant w y) x so) (waits_as (pending_of w.node.home.txs g.tx) g.page g.mode) refl
    of none (Differs q expected found) is so = absurd (cc)

    by : (o : Option LockTable) → table_of w.node g.page ≡ o → take_grant o g w ≡ Goes x → GrantIs g w x
    by None none so = of none (on_grant g false (work_of_home w)) refl so
    by (Some t) there so = ignored (sym (goes_same w x so))

-- no call is made
pub no_calls_made : (g : Grant) (w x : Work) → w.calls ≡ [] → GrantIs g w x → x.calls ≡ []
no_calls_made g w x none (ignored same) = ap (λ (y : Work). y.calls) same ∙ none
no_calls_made g w x none (kept table same) = ap (λ (y : Work). y.calls) same ∙ none
no_calls_made g w x none (done table waits y goes same) =
    ap (λ (z : Work). z.calls) same ∙ ap (λ (z : Granted). z.work.calls) is.done
    ∙ same_calls g.tx g.page (write_of (pending_of v.home.txs g.tx)) (with_lock_of g.tx (lock_granted g false) is.work)
    ∙ (brings_only g.page g.version (image_of g.copy) v is.work is.brought).calls ∙ none
  where
    v : HomeWork
    v = work_of_home (read_by g w)

    is : IsCarriedOut g.tx (lock_granted g false) g.version (image_of g.copy) v y
    is = grant_is_seen_law g.tx (lock_granted g false) g.version (image_of g.copy) v y goes

-- a page that differs is that of a grant that is carried out
pub grant_differs : (g : Grant) (w : Work) (q expected found : ℕ) → take_grant (table_of w.node g.page) g w ≡ Differs q expected found
    → (table_of w.node g.page ≡ None) × (waits_as (pending_of w.node.home.txs g.tx) g.page g.mode ≡ true)
    × (granted g.tx (lock_granted g false) g.version (image_of g.copy) (work_of_home (read_by g w)) ≡ Differs q expected found)
unfolding on_grant
grant_differs g w q expected found differs = by (table_of w.node g.page) refl differs
  where
    shelf : HomeWork
    shelf = with_shelf (shelf_after g w.node.home.shelf) (work_of_home w)

    carried : (o : Outcome Granted) → granted g.tx (lock_granted g false) g.version (image_of g.copy) (work_of_home (read_by g w)) ≡ o
        → and_so (and_so o arrived) (after_grant w) ≡ Differs q expected found
        → granted g.tx (lock_granted g false) g.version (image_of g.copy) (work_of_home (read_by g w)) ≡ Differs q expected found
    carried (Goes y) is so = absurd (cc)
    carried (Differs r x f) is so = is ∙ cc

    awaited : table_of w.node g.page ≡ None → (b : Bool) → waits_as (pending_of w.node.home.txs g.tx) g.page g.mode ≡ b
        → and_so (arrive b g false shelf) (after_grant w) ≡ Differs q expected found
        → (table_of w.node g.page ≡ None) × (waits_as (pending_of w.node.home.txs g.tx) g.page g.mode ≡ true)
        × (granted g.tx (lock_granted g false) g.version (image_of g.copy) (work_of_home (read_by g w)) ≡ Differs q expected found)
    awaited none true waits so =
        (none, waits, carried (granted g.tx (lock_granted g false) g.version (image_of g.copy) (work_of_home (read_by g w))) refl so)
    awaited none false waits so = absurd (cc)

    by : (o : Option LockTable) → table_of w.node g.page ≡ o → take_grant o g w ≡ Differs q expected found
        → (table_of w.node g.page ≡ None) × (waits_as (pending_of w.node.home.txs g.tx) g.page g.mode ≡ true)
        × (granted g.tx (lock_granted g false) g.version (image_of g.copy) (work_of_home (read_by g w)) ≡ Differs q expected found)
    by None none so = awaited none (waits_as (pending_of w.node.home.txs g.tx) g.page g.mode) refl so
    by (Some t) there so = absurd (cc)
