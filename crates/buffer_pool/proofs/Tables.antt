-- A table stays kept: what its changes make of its fields.
use Rattle.std.proofs.Common.{◌≡◌, ℕ, zero, suc, ◌+◌, ◌-◌, ◌*◌, ◌<◌, ◌≤◌, ◌==◌, take, add-one, ◌&&◌, nat_eq, nat_lt, cond, not, Bool, true, false, List, [], ◌∷◌, ◌++◌, length, map, Option, Some, None, is_some, IsSome, refl, ap, sym, subst, ◌∙◌, arith, length-append}
use Rattle.std.proofs.lemmas.Bool.Decides.{nat_tests}
use Rattle.std.proofs.lemmas.Map.{length-set_value}
use Rattle.std.specs.List.{AllByRecursion, IsDistinct, range_with_len}
use Rattle.std.specs.Option.{option_map_or}
use Rattle.std.proofs.lemmas.List.{take_all}
use Rattle.std.proofs.lemmas.List.FromFn.{length-range_with_len}
use Rattle.std.specs.Map.{lookup, set_value, remove_entry, keys_of}
use Rattle.lru.specs.LruCache.{promoted, put_entries, lru_cache}
use Rattle.indexmap.specs.IndexMap.{insert_entry}
use Rattle.pcl_base.specs.declared.tx.TxId.{TxId}
use Rattle.node_rules.specs.Words.{same_tx, or_else}
use Rattle.buffer_pool.specs.declared.uses.Use.{Use}
use Rattle.buffer_pool.specs.declared.uses.Use.TheVariants.{Free, Slot, Private}
use Rattle.buffer_pool.specs.declared.uses.SlotUse.{SlotUse}
use Rattle.buffer_pool.specs.declared.uses.PrivateUse.{PrivateUse}
use Rattle.buffer_pool.specs.declared.uses.Name.{Name}
use Rattle.buffer_pool.specs.declared.uses.Name.TheVariants.{Slot as SlotName, Private as PrivateName}
use Rattle.buffer_pool.specs.Entries.{Entries, IsTable, freed, freed_if, fresh, count, use_at, first_row, slot_here, private_here, is_free, is_loose, is_bare, is_slot_of, is_private_of, goes_for, slot_in_use, slot_if, private_in_use, private_if}
use Rattle.buffer_pool.specs.Kept.{IsKept, IsListed, freed_at, name_of, private_name, same_name, named_here, named_use}
use Rattle.buffer_pool.proofs.Entries.{equal, same, apart, one, Absent, Apart, absent_none, entry_found, entry_absent, apart_head, apart_tail, absent_as, Points, PointsIf, through, first_row_at, count_set, count_removed, length_removed, count_one, each_set, each_removed, each_weaker, each_at, apart_set, apart_front, promoted_found, promoted_absent}
use Rattle.buffer_pool.proofs.Changes.{use_set_other, use_set_same, use_removed_other, all_push, all_front, all_last, all_weaker, all_both, distinct_front, distinct_last, distinct_push}

-- a number of a free frame isn't that of a used one
pub other_frame : (es : Entries) (j k : ℕ) (u : Use) → use_at es k ≡ Some u → is_free u ≡ false → use_at es j ≡ Some Free → nat_eq j k ≡ false
other_frame es j k u h f g = by_case (nat_eq j k) refl
  where
    by_case : (b : Bool) → nat_eq j k ≡ b → nat_eq j k ≡ false
    by_case true t =
        let q : use_at es k ≡ Some Free = subst (λ n. use_at es n ≡ Some Free) (equal j k t) g in
        let r : Some u ≡ Some Free = sym h ∙ q in
        let v : u ≡ Free = cc in
        let bad : true ≡ false = ap is_free (sym v) ∙ f in
        cc
    by_case false t = t

pub still_free : (es : Entries) (k : ℕ) (u w : Use) (free : List ℕ) → use_at es k ≡ Some u → is_free u ≡ false → AllByRecursion (λ j. use_at es j ≡ Some Free) free
    → AllByRecursion (λ j. use_at (set_value (nat_eq k) es w) j ≡ Some Free) free
still_free es k u w free h f a =
    all_weaker (λ j. use_at es j ≡ Some Free) (λ j. use_at (set_value (nat_eq k) es w) j ≡ Some Free)
    (λ j g. use_set_other j k w es (other_frame es j k u h f g) ∙ g) free a

-- another state of a used frame
pub kept_set : (es : Entries) (names : List (Name × ℕ)) (free : List ℕ) (name_room room loose bare loose_now bare_now k : ℕ) (u w : Use)
    → IsKept es names free name_room room loose bare → use_at es k ≡ Some u → is_free u ≡ false → is_free w ≡ false → name_of u ≡ name_of w
    → loose_now + one (is_loose u) ≡ loose + one (is_loose w) → bare_now + one (is_bare u) ≡ bare + one (is_bare w)
    → IsKept (set_value (nat_eq k) es w) names free name_room room loose_now bare_now
kept_set es names free name_room room loose bare loose_now bare_now k u w s h f g n l b =
    let long : length (set_value (nat_eq k) es w) ≡ length es = length-set_value (nat_eq k) es w in
    record {
      distinct = apart_set k w es s.distinct;
      below = subst (λ m. AllByRecursion (λ e. e.0 < m) (set_value (nat_eq k) es w)) (sym long) (each_set (λ e. e.0 < length es) k w es s.below (each_at (λ e. e.0 < length es) k u es s.below h));
      frames = (omega (arith, s.frames, long), omega (arith, s.frames, long));
      listed = each_set (λ e. IsListed names e.0 (name_of e.1)) k w es s.listed (subst (IsListed names k) n (each_at (λ e. IsListed names e.0 (name_of e.1)) k u es s.listed h));
      free_use = still_free es k u w free h f s.free_use;
      once = s.once;
      number = (let c : count is_free (set_value (nat_eq k) es w) + one (is_free u) ≡ count is_free es + one (is_free w) = count_set is_free k u w es h in
          let c2 : count is_free (set_value (nat_eq k) es w) + 0 ≡ count is_free es + 0 = rw (f, g) at c in
          omega (arith, s.number));
      names_fit = omega (arith, s.names_fit, long);
      free_fits = omega (arith, s.free_fits, long);
      loose_number = omega (arith, s.loose_number, count_set is_loose k u w es h, l);
      bare_number = omega (arith, s.bare_number, count_set is_bare k u w es h, b);
    }

-- a used frame becomes free
pub kept_released : (es : Entries) (names : List (Name × ℕ)) (free : List ℕ) (name_room room loose bare loose_now bare_now k : ℕ) (u : Use)
    → IsKept es names free name_room room loose bare → use_at es k ≡ Some u → is_free u ≡ false
    → loose_now + one (is_loose u) ≡ loose → bare_now + one (is_bare u) ≡ bare
    → IsKept (set_value (nat_eq k) es Free) names (free ++ k ∷ []) name_room room loose_now bare_now
kept_released es names free name_room room loose bare loose_now bare_now k u s h f l b =
    let long : length (set_value (nat_eq k) es Free) ≡ length es = length-set_value (nat_eq k) es Free in
    record {
      distinct = apart_set k Free es s.distinct;
      below = subst (λ m. AllByRecursion (λ e. e.0 < m) (set_value (nat_eq k) es Free)) (sym long) (each_set (λ e. e.0 < length es) k Free es s.below (each_at (λ e. e.0 < length es) k u es s.below h));
      frames = (omega (arith, s.frames, long), omega (arith, s.frames, long));
      listed = each_set (λ e. IsListed names e.0 (name_of e.1)) k Free es s.listed tt;
      free_use = all_push (λ j. use_at (set_value (nat_eq k) es Free) j ≡ Some Free) free k (still_free es k u Free free h f s.free_use) (use_set_same k u Free es h);
      once = distinct_push free k s.once (all_weaker (λ j. use_at es j ≡ Some Free) (λ j. nat_eq j k ≡ false) (λ j g. other_frame es j k u h f g) free s.free_use);
      number = (let c : count is_free (set_value (nat_eq k) es Free) + one (is_free u) ≡ count is_free es + 1 = count_set is_free k u Free es h in
          let c2 : count is_free (set_value (nat_eq k) es Free) + 0 ≡ count is_free es + 1 = rw f at c in
          omega (arith, s.number, length-append free (k ∷ [])));
      names_fit = omega (arith, s.names_fit, long);
      free_fits = omega (arith, s.free_fits, long);
      loose_number = (let c : count is_loose (set_value (nat_eq k) es Free) + one (is_loose u) ≡ count is_loose es + 0 = count_set is_loose k u Free es h in omega (arith, s.loose_number, l));
      bare_number = (let c : count is_bare (set_value (nat_eq k) es Free) + one (is_bare u) ≡ count is_bare es + 0 = count_set is_bare k u Free es h in omega (arith, s.bare_number, b));
    }

-- the table of one order with a frame in front
pub kept_front : (es : Entries) (names : List (Name × ℕ)) (free : List ℕ) (name_room room loose bare k : ℕ) (u : Use)
    → IsKept es names free name_room room loose bare → use_at es k ≡ Some u
    → IsKept ((k, u) ∷ remove_entry (nat_eq k) es) names free name_room room loose bare
unfolding count
kept_front es names free name_room room loose bare k u s h =
    let long : length (remove_entry (nat_eq k) es) + 1 ≡ length es = length_removed k u es h in
    let all : length ((k, u) ∷ remove_entry (nat_eq k) es) ≡ length es = omega (arith, long) in
    record {
      distinct = apart_front k u es s.distinct;
      below = subst (λ m. AllByRecursion (λ e. e.0 < m) ((k, u) ∷ remove_entry (nat_eq k) es)) (sym all) (each_at (λ e. e.0 < length es) k u es s.below h, each_removed (λ e. e.0 < length es) k es s.below);
      frames = (omega (arith, s.frames, all), omega (arith, s.frames, all));
      listed = (each_at (λ e. IsListed names e.0 (name_of e.1)) k u es s.listed h, each_removed (λ e. IsListed names e.0 (name_of e.1)) k es s.listed);
      free_use = all_weaker (λ j. use_at es j ≡ Some Free) (λ j. use_at ((k, u) ∷ remove_entry (nat_eq k) es) j ≡ Some Free) (λ j g. front_use j g (nat_eq j k) refl) free s.free_use;
      once = s.once;
      number = omega (arith, s.number, count_removed is_free k u es h);
      names_fit = omega (arith, s.names_fit, all);
      free_fits = omega (arith, s.free_fits, all);
      loose_number = omega (arith, s.loose_number, count_removed is_loose k u es h);
      bare_number = omega (arith, s.bare_number, count_removed is_bare k u es h);
    }
  where
    front_use : (j : ℕ) → use_at es j ≡ Some Free → (b : Bool) → nat_eq j k ≡ b → use_at ((k, u) ∷ remove_entry (nat_eq k) es) j ≡ Some Free
    front_use j g true t = rw t (sym h ∙ subst (λ n. use_at es n ≡ Some Free) (equal j k t) g)
    front_use j g false t = rw t (use_removed_other j k es t ∙ g)

-- the same of a frame that may be another's
pub kept_promoted : (es : Entries) (names : List (Name × ℕ)) (free : List ℕ) (name_room room loose bare k : ℕ)
    → IsKept es names free name_room room loose bare → IsKept (promoted (nat_eq k) es) names free name_room room loose bare
kept_promoted es names free name_room room loose bare k s = by_case (use_at es k) refl
  where
    by_case : (o : Option Use) → use_at es k ≡ o → IsKept (promoted (nat_eq k) es) names free name_room room loose bare
    by_case None h = subst (λ l. IsKept l names free name_room room loose bare) (sym (promoted_absent k es h)) s
    by_case (Some u) h = subst (λ l. IsKept l names free name_room room loose bare) (sym (promoted_found k u es h)) (kept_front es names free name_room room loose bare k u s h)

-- a free frame comes into use, in front
pub kept_brought : (es : Entries) (old names : List (Name × ℕ)) (all free : List ℕ) (old_room name_room room old_capacity loose bare loose_now bare_now k : ℕ) (w : Use) (n : Name)
    → IsKept es old all old_room old_capacity loose bare → all ≡ free ++ k ∷ [] → name_of w ≡ Some n → is_free w ≡ false
    → AllByRecursion (λ e. IsListed names e.0 (name_of e.1)) es → lookup (same_name n) names ≡ Some k
    → 2 * length es ≤ length names + name_room → length es ≤ room
    → loose_now ≡ loose + one (is_loose w) → bare_now ≡ bare + one (is_bare w)
    → IsKept ((k, w) ∷ remove_entry (nat_eq k) es) names free name_room room loose_now bare_now
unfolding count
kept_brought es old names all free old_room name_room room old_capacity loose bare loose_now bare_now k w n s q nw fw li new fit cap l b =
    let frees : AllByRecursion (λ j. use_at es j ≡ Some Free) (free ++ k ∷ []) = subst (AllByRecursion (λ j. use_at es j ≡ Some Free)) q s.free_use in
    let h : use_at es k ≡ Some Free = all_last (λ j. use_at es j ≡ Some Free) free k frees in
    let singles : IsDistinct nat_eq (free ++ k ∷ []) = subst (IsDistinct nat_eq) q s.once in
    let long : length (remove_entry (nat_eq k) es) + 1 ≡ length es = length_removed k Free es h in
    let total : length ((k, w) ∷ remove_entry (nat_eq k) es) ≡ length es = omega (arith, long) in
    record {
      distinct = apart_front k w es s.distinct;
      below = subst (λ m. AllByRecursion (λ e. e.0 < m) ((k, w) ∷ remove_entry (nat_eq k) es)) (sym total) (each_at (λ e. e.0 < length es) k Free es s.below h, each_removed (λ e. e.0 < length es) k es s.below);
      frames = (omega (arith, s.frames, total), omega (arith, s.frames, total));
      listed = (subst (IsListed names k) (sym nw) new, each_removed (λ e. IsListed names e.0 (name_of e.1)) k es li);
      free_use = all_weaker (λ j. (use_at es j ≡ Some Free) × (nat_eq j k ≡ false)) (λ j. use_at ((k, w) ∷ remove_entry (nat_eq k) es) j ≡ Some Free) (λ j g. front_use j g.0 g.1) free
          (all_both (λ j. use_at es j ≡ Some Free) (λ j. nat_eq j k ≡ false) free (all_front (λ j. use_at es j ≡ Some Free) free k frees) (distinct_last free k singles));
      once = distinct_front free k singles;
      number = (let c : count is_free (remove_entry (nat_eq k) es) + 1 ≡ count is_free es = count_removed is_free k Free es h in
          let ll : length all ≡ length free + 1 = ap length q ∙ length-append free (k ∷ []) in
          rw fw (omega (arith, s.number)));
      names_fit = omega (arith, fit, total);
      free_fits = omega (arith, cap, total);
      loose_number = (let c : count is_loose (remove_entry (nat_eq k) es) + 0 ≡ count is_loose es = count_removed is_loose k Free es h in omega (arith, s.loose_number, l));
      bare_number = (let c : count is_bare (remove_entry (nat_eq k) es) + 0 ≡ count is_bare es = count_removed is_bare k Free es h in omega (arith, s.bare_number, b));
    }
  where
    front_use : (j : ℕ) → use_at es j ≡ Some Free → nat_eq j k ≡ false → use_at ((k, w) ∷ remove_entry (nat_eq k) es) j ≡ Some Free
    front_use j g t = rw t (use_removed_other j k es t ∙ g)

-- names that are the same are equal
pub same_name_equal : (n m : Name) → same_name n m ≡ true → n ≡ m
same_name_equal (SlotName p) (SlotName q) h = ap (λ j. SlotName j) (equal p q h)
same_name_equal (SlotName p) (PrivateName a b c q) h = cc
same_name_equal (PrivateName a b c p) (SlotName q) h = cc
same_name_equal (PrivateName a b c p) (PrivateName d e f q) h =
    let x : a ≡ d = grind (arith, nat_tests) in
    let y : b ≡ e = grind (arith, nat_tests) in
    let z : c ≡ f = grind (arith, nat_tests) in
    let w : p ≡ q = grind (arith, nat_tests) in
    cc

-- where the slot of a page, or a private copy, is listed
pub slot_key : (p : ℕ) (s : SlotUse) → nat_eq s.page p ≡ true → SlotName s.page ≡ SlotName p
slot_key p s h = ap (λ j. SlotName j) (equal s.page p h)

pub private_key : (t : TxId) (p : ℕ) (x : PrivateUse) → (same_tx x.tx t && nat_eq x.page p) ≡ true → private_name x.tx x.page ≡ private_name t p
private_key t p x h =
    let a : x.tx.node ≡ t.node = grind (arith, nat_tests) in
    let b : x.tx.born ≡ t.born = grind (arith, nat_tests) in
    let c : x.tx.serial ≡ t.serial = grind (arith, nat_tests) in
    let q : x.page ≡ p = grind (arith, nat_tests) in
    cc

pub by_name : (names : List (Name × ℕ)) (n m : Name) (k : ℕ) → n ≡ m → lookup (same_name n) names ≡ Some k → lookup (same_name m) names ≡ Some k
by_name names n m k q h = subst (λ x. lookup (same_name x) names ≡ Some k) q h

pub slot_points : (names : List (Name × ℕ)) (p : ℕ) (es : Entries) → AllByRecursion (λ e. IsListed names e.0 (name_of e.1)) es
    → AllByRecursion (PointsIf (is_slot_of p) (lookup (same_name (SlotName p)) names)) es
slot_points names p es a = each_weaker (λ e. IsListed names e.0 (name_of e.1)) (PointsIf (is_slot_of p) (lookup (same_name (SlotName p)) names)) (λ e l. by_use e.0 e.1 l) es a
  where
    by_use : (k : ℕ) (u : Use) → IsListed names k (name_of u) → is_slot_of p u ≡ true → lookup (same_name (SlotName p)) names ≡ Some k
    by_use k Free l h = cc
    by_use k (Slot s) l h = by_name names (SlotName s.page) (SlotName p) k (slot_key p s h) l
    by_use k (Private x) l h = cc

pub private_points : (names : List (Name × ℕ)) (t : TxId) (p : ℕ) (es : Entries) → AllByRecursion (λ e. IsListed names e.0 (name_of e.1)) es
    → AllByRecursion (PointsIf (is_private_of t p) (lookup (same_name (private_name t p)) names)) es
private_points names t p es a = each_weaker (λ e. IsListed names e.0 (name_of e.1)) (PointsIf (is_private_of t p) (lookup (same_name (private_name t p)) names)) (λ e l. by_use e.0 e.1 l) es a
  where
    by_use : (k : ℕ) (u : Use) → IsListed names k (name_of u) → is_private_of t p u ≡ true → lookup (same_name (private_name t p)) names ≡ Some k
    by_use k Free l h = cc
    by_use k (Slot s) l h = cc
    by_use k (Private x) l h = by_name names (private_name x.tx x.page) (private_name t p) k (private_key t p x h) l

pub table_of_kept : (es : Entries) (names : List (Name × ℕ)) (free : List ℕ) (name_room room loose bare : ℕ) → IsKept es names free name_room room loose bare → IsTable es
table_of_kept es names free name_room room loose bare s = record {
  distinct = s.distinct;
  below = s.below;
  frames = s.frames;
  one_slot = λ p. count_one (is_slot_of p) (lookup (same_name (SlotName p)) names) es s.distinct (slot_points names p es s.listed);
  one_private = λ t p. count_one (is_private_of t p) (lookup (same_name (private_name t p)) names) es s.distinct (private_points names t p es s.listed);
}
