-- The copies of the pages of a partition are clean, one page after the other.
use Rattle.std.proofs.Common.{◌≡◌, ℕ, zero, suc, ◌+◌, ◌-◌, ◌*◌, ◌/◌, ◌%◌, ◌<◌, ◌≤◌, ◌==◌, ◌||◌, Bool, true, false, List, [], ◌∷◌, map, Option, Some, None, refl, ap, sym, ◌∙◌, arith}
use Rattle.std.proofs.lemmas.Bool.Decides.{nat_tests}
use Rattle.std.proofs.lemmas.List.Elements.{All-weaker}
use Rattle.std.proofs.Math.Nat.{mod-add-div', div-mul-le_self, mul-le-mul_right}
use Rattle.std.proofs.lemmas.Nat.{le-div}
use Rattle.std.specs.List.{All}
use Rattle.pcl_base.specs.Limits.{Sizes}
use Rattle.node_rules.specs.Words.{pick}
use Rattle.node_rules.specs.BufferRule.{Pool, Slot, Copy, has_slot, change_slot, cleaned, clean}
use Rattle.node_rules.specs.InstallRule.{clean_slots}
use Rattle.home_laws.proofs.Words.{equal}
use Rattle.home.specs.Ends.{listed}
use Rattle.home.specs.Moves.{clean_if}
use Rattle.home.proofs.Cleaned.{clean_none}
use Rattle.home.proofs.Removed.{IsListed}
use Rattle.home.proofs.Turned.{turned, turned_all, turned_none}
use Rattle.home.proofs.Turning.{in_part}

abbrev pub page_slot : Slot → ℕ
page_slot s = s.page

abbrev pub to_clean : Slot → Slot
to_clean s = record s { copy = cleaned s.copy }

twice_clean : (s : Slot) → to_clean (to_clean s) ≡ to_clean s
twice_clean s = ap (λ o. let z : Slot = record s { copy = o } in z) (by_copy s.copy)
  where
    by_copy : (o : Option Copy) → cleaned (cleaned o) ≡ cleaned o
    by_copy None = refl
    by_copy (Some c) = refl

-- a buffer whose copies of these pages are clean, where they are of the partition
abbrev pub cleaned_at : Sizes → ℕ → List ℕ → Pool → Pool
cleaned_at c q ps b = record b { slots = map (turned page_slot to_clean (in_part c q) ps) b.slots }

slots_first : (c : Sizes) (q p : ℕ) (ps : List ℕ) (d : Bool) (ss : List Slot)
    → map (turned page_slot to_clean (in_part c q) ps) (pick d (change_slot to_clean ss p) ss) ≡ map (λ s. turned page_slot to_clean (in_part c q) ps (pick d (pick (s.page == p) (to_clean s) s) s)) ss
unfolding change_slot
slots_first c q p ps false ss = refl
slots_first c q p ps true [] = refl
slots_first c q p ps true (s ∷ ss) = ap (λ l. turned page_slot to_clean (in_part c q) ps (pick (s.page == p) (to_clean s) s) ∷ l) (slots_first c q p ps true ss)

pub clean_first : (c : Sizes) (q p : ℕ) (ps : List ℕ) (b : Pool) → cleaned_at c q ps (clean_if (in_part c q p) b p) ≡ cleaned_at c q (p ∷ ps) b
unfolding clean
clean_first c q p ps b = by_part (in_part c q p)
  where
    by_part : (d : Bool) → cleaned_at c q ps (pick d (clean b p) b) ≡ record b { slots = map (λ s. turned page_slot to_clean (in_part c q) ps (pick d (pick (s.page == p) (to_clean s) s) s)) b.slots }
    by_part true = ap (λ (l : List Slot). let z : Pool = record b { slots = l } in z) (slots_first c q p ps true b.slots)
    by_part false = refl

pub cleaned_none : (c : Sizes) (q : ℕ) (b : Pool) → cleaned_at c q [] b ≡ b
cleaned_none c q b = ap (λ (l : List Slot). let z : Pool = record b { slots = l } in z) (turned_none page_slot to_clean (in_part c q) b.slots)

-- the pages that are visited: m of them, each n behind the one before
abbrev pub visits : ℕ → ℕ → ℕ → ℕ → List ℕ
visits q n i zero = []
visits q n i (suc m) = (q + i * n) ∷ visits q n (i + 1) m

pub visits_next : (q n i m : ℕ) → i < m → visits q n i (m - i) ≡ (q + i * n) ∷ visits q n (i + 1) (m - (i + 1))
visits_next q n i m lt = let less : m - i ≡ suc (m - (i + 1)) = omega (arith, lt) in ap (visits q n i) less

pub visits_over : (q n i m : ℕ) → m ≤ i → visits q n i (m - i) ≡ []
visits_over q n i m le = let none : m - i ≡ zero = omega (arith, le) in ap (visits q n i) none

listed_visit : (q n i m j p : ℕ) → i ≤ j → j < i + m → p ≡ q + j * n → listed (visits q n i m) p ≡ true
listed_visit q n i zero j p le lt is = absurd (omega (arith, le, lt))
listed_visit q n i (suc m) j p le lt is = by_page (q + i * n == p) refl (λ later less. listed_visit q n (i + 1) m j p later less is)
  where
    by_page : (b : Bool) → (q + i * n == p) ≡ b → (i + 1 ≤ j → j < i + 1 + m → listed (visits q n (i + 1) m) p ≡ true) → (b || listed (visits q n (i + 1) m) p) ≡ true
    by_page true e rest = refl
    by_page false e rest = by_order (i == j) refl
      where
        by_order : (d : Bool) → (i == j) ≡ d → listed (visits q n (i + 1) m) p ≡ true
        by_order true same =
            let here : q + i * n ≡ p = ap (λ k. q + k * n) (equal i j same) ∙ sym is in
            let test : (q + i * n == p) ≡ true = grind (arith, nat_tests) in
            let bad : false ≡ true = sym e ∙ test in absurd (cc)
        by_order false other =
            let later : i + 1 ≤ j = grind (arith, nat_tests) in
            rest later (omega (arith, lt))

-- all of a partition
pub all_cleaned : (c : Sizes) (q : ℕ) (b : Pool) → 0 < c.nodes → All (λ s. s.page < c.pages) b.slots
    → cleaned_at c q (visits q c.nodes 0 (c.pages / c.nodes + 1)) b ≡ record b { slots = clean_slots c q b.slots }
all_cleaned c q b some below =
    ap (λ (l : List Slot). let z : Pool = record b { slots = l } in z)
    (turned_all page_slot to_clean (in_part c q) twice_clean (visits q c.nodes 0 (c.pages / c.nodes + 1)) b.slots
    (All-weaker (λ s. s.page < c.pages) (IsListed (λ s. in_part c q (page_slot s)) page_slot (visits q c.nodes 0 (c.pages / c.nodes + 1))) (λ s lt inside. here s lt inside) b.slots below))
  where
    here : (s : Slot) → s.page < c.pages → in_part c q s.page ≡ true → listed (visits q c.nodes 0 (c.pages / c.nodes + 1)) s.page ≡ true
    here s lt inside =
        let part : s.page % c.nodes ≡ q = equal (s.page % c.nodes) q inside in
        let whole = mod-add-div' s.page c.nodes in
        let least : s.page / c.nodes * c.nodes ≤ s.page = div-mul-le_self s.page c.nodes in
        let most : s.page / c.nodes ≤ c.pages / c.nodes = le-div (s.page / c.nodes) c.pages c.nodes some (omega (arith, least, lt)) in
        let is : s.page ≡ q + s.page / c.nodes * c.nodes = omega (arith, part, whole) in
        listed_visit q c.nodes 0 (c.pages / c.nodes + 1) (s.page / c.nodes) s.page (omega arith) (omega (arith, most)) is

-- a copy that isn't there, and a page of another partition
pub clean_missing : (b : Pool) (p : ℕ) (d : Bool) → (d ≡ true → has_slot b p ≡ false) → b ≡ clean_if d b p
clean_missing b p true none = sym (clean_none b p (none refl))
clean_missing b p false none = refl

-- a visited page is at most one behind the last of the partition
pub visit_small : (p n i : ℕ) → i < p / n + 1 → i * n ≤ p
visit_small p n i lt =
    let up : i * n ≤ p / n * n = mul-le-mul_right n (omega (arith, lt)) in
    let least = div-mul-le_self p n in
    omega (arith, up, least)

-- the next visit, and none
pub visit_next : (c : Sizes) (q i m : ℕ) (b r : Pool) → i < m → r ≡ clean_if (in_part c q (q + i * c.nodes)) b (q + i * c.nodes)
    → cleaned_at c q (visits q c.nodes (i + 1) (m - (i + 1))) r ≡ cleaned_at c q (visits q c.nodes i (m - i)) b
visit_next c q i m b r lt changed =
    ap (cleaned_at c q (visits q c.nodes (i + 1) (m - (i + 1)))) changed
    ∙ clean_first c q (q + i * c.nodes) (visits q c.nodes (i + 1) (m - (i + 1))) b
    ∙ ap (λ ps. cleaned_at c q ps b) (sym (visits_next q c.nodes i m lt))

pub visit_over : (c : Sizes) (q i m : ℕ) (b : Pool) → m ≤ i → cleaned_at c q (visits q c.nodes i (m - i)) b ≡ b
visit_over c q i m b le = ap (λ ps. cleaned_at c q ps b) (visits_over q c.nodes i m le) ∙ cleaned_none c q b
