-- What writing a copy back leaves, and its calls.
use Rattle.std.proofs.Common.{◌≡◌, ℕ, ◌+◌, ◌++◌, true, false, List, [], ◌∷◌, length, Option, Some, None, refl, ap, sym, subst, ◌∙◌, ◌⊎◌, inl, inr, IfSome, length-set}
use Rattle.std.specs.List.{All}
use Rattle.std.proofs.lemmas.List.Elements.{All-set}
use Rattle.pcl_base.specs.Limits.{Sizes}
use Rattle.disk_model.specs.Disk.{Pages, Logs, Rooms, with_page, HasSizes}
use Rattle.text_rules.specs.StoredPage.{stored_bytes}
use Rattle.node_rules.specs.Words.{pick}
use Rattle.node_rules.specs.BufferRule.{Pool, Copy, copy_at, dirty, is_dirty_copy, find, version_of_copy, bytes_of_copy, clean}
use Rattle.node_rules.specs.DiskCalls.{WritePage}
use Rattle.node_rules.specs.Work.{HomeWork, with_pool, write_page, write_copy, write_back}

-- a dirty copy becomes clean
pub written_home : (p : ℕ) (w : HomeWork) → dirty w.home.pool p ≡ true → (write_back p w).home ≡ with_pool w.home (clean w.home.pool p)
unfolding write_back
written_home p w e = by_case (copy_at w.home.pool p) e
  where
    by_case : (o : Option Copy) → is_dirty_copy o ≡ true → (write_copy p o w).home ≡ with_pool w.home (clean w.home.pool p)
    by_case None d = absurd (cc)
    by_case (Some c) d = ap (λ b. (pick b (record (write_page p (record { version = c.version; bytes = c.bytes }) w) { home = with_pool w.home (clean w.home.pool p) }) w).home) d

-- a clean one stays
pub unwritten : (p : ℕ) (w : HomeWork) → dirty w.home.pool p ≡ false → write_back p w ≡ w
unfolding write_back
unwritten p w e = by_case (copy_at w.home.pool p) e
  where
    by_case : (o : Option Copy) → is_dirty_copy o ≡ false → write_copy p o w ≡ w
    by_case None d = refl
    by_case (Some c) d = ap (λ b. pick b (record (write_page p (record { version = c.version; bytes = c.bytes }) w) { home = with_pool w.home (clean w.home.pool p) }) w) d

-- the call of a dirty copy
pub written_calls : (p : ℕ) (w : HomeWork) (v : ℕ) → dirty w.home.pool p ≡ true → Some v ≡ find w.home.pool p
    → (write_back p w).calls ≡ w.calls ++ WritePage p (stored_bytes p (record { version = v; bytes = bytes_of_copy (copy_at w.home.pool p) })) ∷ []
unfolding write_back
written_calls p w v e found = by_case (copy_at w.home.pool p) e found
  where
    by_case : (o : Option Copy) → is_dirty_copy o ≡ true → Some v ≡ version_of_copy o → (write_copy p o w).calls ≡ w.calls ++ WritePage p (stored_bytes p (record { version = v; bytes = bytes_of_copy o })) ∷ []
    by_case None d f = absurd (cc)
    by_case (Some c) d f =
        let same : c.version ≡ v = cc in
        ap (λ b. (pick b (record (write_page p (record { version = c.version; bytes = c.bytes }) w) { home = with_pool w.home (clean w.home.pool p) }) w).calls) d
        ∙ ap (λ n. w.calls ++ WritePage p (stored_bytes p (record { version = n; bytes = c.bytes })) ∷ []) same

-- cleaning changes no size
pub clean_size : (b : Pool) (p : ℕ) → (clean b p).size ≡ b.size
unfolding clean
clean_size b p = refl

-- a page that is written or not keeps the sizes of the storage
pub sizes_torn : (c : Sizes) (old new : Pages) (p : ℕ) (raw : List ℕ) (logs more_logs : Logs) (rooms more_rooms : Rooms) → (new ≡ old) ⊎ (new ≡ with_page old p raw) → length raw ≡ c.size + 16
    → more_logs ≡ logs → more_rooms ≡ rooms → HasSizes c old logs rooms → HasSizes c new more_logs more_rooms
sizes_torn c old new p raw logs more_logs rooms more_rooms torn long same_logs same_rooms sizes = record {
  pages_told = told torn;
  logs_told = subst (λ o. IfSome o (λ l. length l ≡ c.nodes)) (sym same_logs) sizes.logs_told;
  rooms_told = subst (λ o. IfSome o (λ l. length l ≡ c.nodes)) (sym same_rooms) sizes.rooms_told;
}
  where
    with_told : (o : Pages) → IfSome o (λ l. (length l ≡ c.pages) × All (λ b. length b ≡ c.size + 16) l) → IfSome (with_page o p raw) (λ l. (length l ≡ c.pages) × All (λ b. length b ≡ c.size + 16) l)
    with_told None h = tt
    with_told (Some l) h = (length-set l p raw ∙ h.0, All-set (λ b. length b ≡ c.size + 16) l p raw long h.1)

    told : (new ≡ old) ⊎ (new ≡ with_page old p raw) → IfSome new (λ l. (length l ≡ c.pages) × All (λ b. length b ≡ c.size + 16) l)
    told (inl e) = subst (λ o. IfSome o (λ l. (length l ≡ c.pages) × All (λ b. length b ≡ c.size + 16) l)) (sym e) sizes.pages_told
    told (inr e) = subst (λ o. IfSome o (λ l. (length l ≡ c.pages) × All (λ b. length b ≡ c.size + 16) l)) (sym e) (with_told old sizes.pages_told)
