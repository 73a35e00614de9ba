-- A right on a shelf after a change of it was there before, or was accepted.
use Rattle.std.proofs.Common.{◌≡◌, ◌⊎◌, inl, inr, refl, ap, subst, ◌∙◌, ℕ, ◌==◌, not, cond, Bool, true, false, List, [], ◌∷◌, ◌++◌, Some, None, is_some}
use Rattle.std.specs.List.{filter}
use Rattle.pcl_base.specs.declared.message.Grant.{Grant}
use Rattle.pcl_base.specs.declared.tx.TxId.{TxId}
use Rattle.node_rules.specs.Words.{pick, same_tx, among}
use Rattle.node_rules.specs.AccessRule.{shelf_after, readers_after}
use Rattle.node_rules.specs.Shelf.{Right, right_on, accept, change_right, with_one_reader, add_reader, end_reader, spend}

module _ (q : ℕ) where
  -- whether a right of the page is on a shelf
  abbrev pub OnShelf : List Right → Type 0
  OnShelf rs = is_some (right_on rs q) ≡ true

  -- ---- a change of one right that keeps its page
  module _ (f : Right → Right) (page : (r : Right) → (f r).page ≡ r.page) where
    changed : (rs : List Right) (p : ℕ) → OnShelf (change_right f rs p) → OnShelf rs
    unfolding right_on change_right
    changed [] p h = h
    changed (r ∷ rs) p h = by (r.page == p) (r.page == q) refl h (changed rs p)
      where
        by : (a b : Bool) → (r.page == q) ≡ b → is_some (pick ((pick a (f r) r).page == q) (Some (pick a (f r) r)) (right_on (change_right f rs p) q)) ≡ true
            → (OnShelf (change_right f rs p) → OnShelf rs) → is_some (pick b (Some r) (right_on rs q)) ≡ true
        by a true e h rest = refl
        by true false e h rest =
            rest (subst (λ (z : Bool). is_some (pick z (Some (f r)) (right_on (change_right f rs p) q)) ≡ true) (ap (λ (k : ℕ). k == q) (page r) ∙ e) h)
        by false false e h rest = rest (subst (λ (z : Bool). is_some (pick z (Some r) (right_on (change_right f rs p) q)) ≡ true) e h)

  one_page : (t : TxId) (r : Right) → (with_one_reader t r).page ≡ r.page
  one_page t r = by (among r.readers t)
    where
      by : (b : Bool) → (pick b r (record r { readers = r.readers ++ t ∷ [] })).page ≡ r.page
      by true = refl
      by false = refl

  pub reader_shelf : (rs : List Right) (p : ℕ) (t : TxId) → OnShelf (add_reader rs p t) → OnShelf rs
  unfolding add_reader
  reader_shelf rs p t h = changed (with_one_reader t) (one_page t) rs p h

  pub ended_shelf : (rs : List Right) (p : ℕ) (t : TxId) → OnShelf (end_reader rs p t) → OnShelf rs
  unfolding end_reader
  ended_shelf rs p t h = changed (λ r. record r { readers = filter (λ u. not (same_tx u t)) r.readers }) (λ r. refl) rs p h

  -- ---- fewer rights
  fewer : (keep : Right → Bool) (rs : List Right) → OnShelf (filter keep rs) → OnShelf rs
  unfolding right_on
  fewer keep [] h = h
  fewer keep (r ∷ rs) h = by (keep r) (r.page == q) h (fewer keep rs)
    where
      kept : (b : Bool) → is_some (pick b (Some r) (right_on (filter keep rs) q)) ≡ true → (OnShelf (filter keep rs) → OnShelf rs) → is_some (pick b (Some r) (right_on rs q)) ≡ true
      kept true h rest = refl
      kept false h rest = rest h

      gone : (b : Bool) → OnShelf rs → is_some (pick b (Some r) (right_on rs q)) ≡ true
      gone true h = refl
      gone false h = h

      by : (a b : Bool) → is_some (right_on (cond a (r ∷ filter keep rs) (filter keep rs)) q) ≡ true → (OnShelf (filter keep rs) → OnShelf rs) → is_some (pick (r.page == q) (Some r) (right_on rs q)) ≡ true
      by true b h rest = kept (r.page == q) h rest
      by false b h rest = gone (r.page == q) (rest h)

  -- ---- a right more
  pushed : (rs : List Right) (x : Right) → OnShelf (rs ++ x ∷ []) → OnShelf rs ⊎ ((x.page == q) ≡ true)
  unfolding right_on
  pushed [] x h = by (x.page == q) h
    where
      by : (b : Bool) → is_some (pick b (Some x) None) ≡ true → OnShelf [] ⊎ (b ≡ true)
      by true h = inr refl
      by false h = inl h
  pushed (r ∷ rs) x h = by (r.page == q) h (pushed rs x)
    where
      by : (b : Bool) → is_some (pick b (Some r) (right_on (rs ++ x ∷ []) q)) ≡ true → (OnShelf (rs ++ x ∷ []) → OnShelf rs ⊎ ((x.page == q) ≡ true)) → (is_some (pick b (Some r) (right_on rs q)) ≡ true) ⊎ ((x.page == q) ≡ true)
      by true h rest = inl refl
      by false h rest = rest h

  accepted : (rs : List Right) (p v : ℕ) → OnShelf (accept rs p v) → OnShelf rs ⊎ ((p == q) ≡ true)
  unfolding accept
  accepted rs p v h = by (is_some (right_on rs p)) h
    where
      by : (b : Bool) → OnShelf (pick b rs (rs ++ record { page = p; version = v; readers = [] } ∷ [])) → OnShelf rs ⊎ ((p == q) ≡ true)
      by true h = inl h
      by false h = pushed rs (record { page = p; version = v; readers = [] }) h

  pub after_shelf : (g : Grant) (rs : List Right) → OnShelf (shelf_after g rs) → OnShelf rs ⊎ ((g.page == q) ≡ true)
  after_shelf g rs h = by g.right h
    where
      by : (b : Bool) → OnShelf (pick b (accept rs g.page g.version) rs) → OnShelf rs ⊎ ((g.page == q) ≡ true)
      by true h = accepted rs g.page g.version h
      by false h = inl h

  pub readers_shelf : (g : Grant) (rs : List Right) → OnShelf (readers_after g rs) → OnShelf rs
  readers_shelf g rs h = by g.right h
    where
      by : (b : Bool) → OnShelf (pick b (add_reader rs g.page g.tx) (end_reader rs g.page g.tx)) → OnShelf rs
      by true h = reader_shelf rs g.page g.tx h
      by false h = ended_shelf rs g.page g.tx h

  pub spent_shelf : (rs : List Right) (p : ℕ) → OnShelf (spend rs p) → OnShelf rs
  unfolding spend
  spent_shelf rs p h = fewer (λ r. not (r.page == p)) rs h

  pub left_shelf : (keep : Right → Bool) (rs : List Right) → OnShelf (filter keep rs) → OnShelf rs
  left_shelf keep rs h = fewer keep rs h
