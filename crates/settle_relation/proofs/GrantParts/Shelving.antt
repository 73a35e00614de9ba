-- What a grant makes of the rights of a home.
use Rattle.std.proofs.Common.{◌≡◌, refl, ap, ◌∙◌, ℕ, ◌==◌, Bool, true, false, List, [], ◌∷◌, ◌++◌, Option, Some, None}
use Rattle.std.specs.Prelude.{option_map}
use Rattle.pcl_base.specs.declared.message.Grant.{Grant}
use Rattle.pcl_base.specs.declared.tx.TxId.{TxId}
use Rattle.node_rules.specs.AccessRule.{readers_after, shelf_after}
use Rattle.node_rules.specs.Shelf.{Right, accept, add_reader, end_reader, right_on, with_one_reader}
use Rattle.node_rules.specs.Words.{among, pick}
use Rattle.home_laws.proofs.Rights.{right_here, right_there}
use Rattle.page_laws.specs.Look.Ends.{version_of_right}
use Rattle.page_laws.specs.Look.Grants.{right_without}
use Rattle.page_laws.proofs.LookParts.Granting.{shelves_are_seen_law}

-- a reader more
keeps_page : (t : TxId) (r : Right) → (with_one_reader t r).page ≡ r.page
keeps_page t r = by (among r.readers t)
  where
    by : (b : Bool) → (pick b r (record r { readers = r.readers ++ t ∷ [] })).page ≡ r.page
    by true = refl
    by false = refl

keeps_version : (t : TxId) (o : Option Right) → version_of_right (option_map (with_one_reader t) o) ≡ version_of_right o
keeps_version t None = refl
keeps_version t (Some r) = by (among r.readers t)
  where
    by : (b : Bool) → (let o : Option ℕ = Some (pick b r (record r { readers = r.readers ++ t ∷ [] })).version in o) ≡ Some r.version
    by true = refl
    by false = refl

added_here : (rs : List Right) (p : ℕ) (t : TxId) → version_of_right (right_on (add_reader rs p t) p) ≡ version_of_right (right_on rs p)
unfolding add_reader
added_here rs p t = ap version_of_right (right_here (with_one_reader t) (keeps_page t) rs p) ∙ keeps_version t (right_on rs p)

added_there : (rs : List Right) (p q : ℕ) (t : TxId) → (p == q) ≡ false → right_on (add_reader rs p t) q ≡ right_on rs q
unfolding add_reader
added_there rs p q t other = right_there (with_one_reader t) (keeps_page t) rs p q other

without_version : (t : TxId) (o : Option Right) → version_of_right (option_map (right_without t) o) ≡ version_of_right o
without_version t None = refl
without_version t (Some r) = refl

module _ (g : Grant) (rs : List Right) where
  -- another page's right is as before
  pub shelf_there : (p : ℕ) → (g.page == p) ≡ false → right_on (shelf_after g rs) p ≡ right_on rs p
  shelf_there p other = by g.right
    where
      by : (b : Bool) → right_on (pick b (accept rs g.page g.version) rs) p ≡ right_on rs p
      by true = (shelves_are_seen_law rs g.page).others g.version p other
      by false = refl

  pub readers_there : (p : ℕ) → (g.page == p) ≡ false → right_on (readers_after g rs) p ≡ right_on rs p
  readers_there p other = by g.right
    where
      by : (b : Bool) → right_on (pick b (add_reader rs g.page g.tx) (end_reader rs g.page g.tx)) p ≡ right_on rs p
      by true = added_there rs g.page p g.tx other
      by false = (shelves_are_seen_law rs g.page).others_end g.tx p other

  -- readers leave the version of the page's right
  pub readers_here : version_of_right (right_on (readers_after g rs) g.page) ≡ version_of_right (right_on rs g.page)
  readers_here = by g.right
    where
      by : (b : Bool) → version_of_right (right_on (pick b (add_reader rs g.page g.tx) (end_reader rs g.page g.tx)) g.page) ≡ version_of_right (right_on rs g.page)
      by true = added_here rs g.page g.tx
      by false = ap version_of_right ((shelves_are_seen_law rs g.page).ended g.tx) ∙ without_version g.tx (right_on rs g.page)

  -- a grant without a right leaves the rights, and one with a right brings it where there is none
  pub shelf_kept : g.right ≡ false → shelf_after g rs ≡ rs
  shelf_kept none = ap (λ (b : Bool). pick b (accept rs g.page g.version) rs) none

  pub shelf_got : g.right ≡ true → version_of_right (right_on rs g.page) ≡ None → version_of_right (right_on (shelf_after g rs) g.page) ≡ Some g.version
  shelf_got some none =
      ap (λ (b : Bool). version_of_right (right_on (pick b (accept rs g.page g.version) rs) g.page)) some
      ∙ ap version_of_right ((shelves_are_seen_law rs g.page).accepted g.version (no_right (right_on rs g.page) none))
    where
      no_right : (o : Option Right) → version_of_right o ≡ None → o ≡ None
      no_right None e = refl
      no_right (Some r) e = absurd (cc)
