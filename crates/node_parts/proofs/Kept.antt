-- What holds of the places and of the count, after a change of a place.
use Rattle.std.proofs.Common.{◌≡◌, ℕ, zero, suc, ◌+◌, ◌-◌, ◌^◌, ◌%◌, ◌<◌, ◌≤◌, List, Option, Some, None, Result, Ok, Err, length, get_or, set, replicate, refl, ap, sym, subst, ◌∙◌, arith}
use Rattle.std.proofs.lemmas.List.{length-replicate}
use Rattle.std.proofs.Math.ListN.{get_or-map}
use Rattle.std.proofs.Math.Nat.{mod-lt}
use Rattle.std.specs.Result.{OnOk, OnErr}
use Rattle.std.specs.Option.{IfSome, option_map}
use Rattle.pcl_base.specs.Limits.{InLimits, Sizes}
use Rattle.node_rules.specs.LockRule.{LockEntry}
use Rattle.node_rules.specs.LockTable.{entry_at, put_entry}
use Rattle.lock_table.specs.Tables.{SamePlace, TableView, entry_of, table_of, with_made}
use Rattle.node_parts.specs.Counts.{AreCounted, AreShort, IsListed, lists_in, lists_of}
use Rattle.node_parts.specs.Tables.{FitPlaces, IsTableAt, TablesView, lock_tables, place_at, with_entry_at}
use Rattle.node_parts.proofs.Counts.{before_most, entry_most, length_map, listed_none, listed_put, listed_set}
use Rattle.node_parts.proofs.Places.{Changed, after, default_same, fits_set, put_tables, same_tables}

-- the tables of the rules have the places of the tables
there_in : (places : List (Option TableView)) (q : ℕ) (t : TableView) → place_at places q ≡ Some t → get_or (lock_tables places) q None ≡ Some (table_of t)
there_in places q t there = get_or-map (option_map table_of) places q None ∙ ap (option_map table_of) there

low_in : (places : List (Option TableView)) (q : ℕ) → q < length places → q < length (lock_tables places)
low_in places q low = subst (λ n. q < n) (sym (length_map (option_map table_of) places)) low

-- an entry in the place of another
pub entry_below : (v now : TablesView) (n page count x : ℕ) (t : TableView) → Changed v now n page t → AreCounted count v → x ≡ lists_of (entry_of t page)
    → entry_at (table_of t) page ≡ entry_of t page → x ≤ count
entry_below v now n page count x t c is old entry =
    let most = entry_most (lock_tables v.places) (page % v.config.nodes) page count (table_of t) is.listed (low_in v.places (page % v.config.nodes) c.low)
    (there_in v.places (page % v.config.nodes) t c.there) in
    let same : x ≡ lists_of (entry_at (table_of t) page) = old ∙ sym (ap lists_of entry) in
    omega (arith, most, same)

pub entry_counted : (v now : TablesView) (n page count x y : ℕ) (t : TableView) (e : LockEntry) → Changed v now n page t → AreCounted count v
    → x ≡ lists_of (entry_of t page) → entry_at (table_of t) page ≡ entry_of t page → y ≡ lists_of e → y ≤ 2 ^ 65
    → IsListed (count - x + y) (with_entry_at (lock_tables now.places) (page % now.config.nodes) page e)
entry_counted v now n page count x y t e c is old entry new few =
    subst (λ (k : TablesView). IsListed (count - x + y) (with_entry_at (lock_tables k.places) (page % k.config.nodes) page e)) c.seen
    (listed_put (lock_tables v.places) (page % v.config.nodes) page count x y e (table_of t) is.listed (low_in v.places (page % v.config.nodes) c.low)
    (there_in v.places (page % v.config.nodes) t c.there) (old ∙ sym (ap lists_of entry)) new few)

-- a table in the place of another
pub low_at : (v now : TablesView) (q : ℕ) → v ≡ now → FitPlaces v → q < now.config.nodes → q < length v.places
low_at v now q seen fits low =
    let here : q < v.config.nodes = subst (λ (k : TablesView). q < k.config.nodes) (sym seen) low in
    omega (arith, here, fits.nodes)

pub read_at : (places : List (Option TableView)) (q : ℕ) (r : Option TableView) → q < length places → r ≡ get_or places q r → place_at places q ≡ r
read_at places q r low read = default_same places q None r low ∙ sym read

pub table_below : (v : TablesView) (q count x : ℕ) (place : Option TableView) → q < length v.places → place_at v.places q ≡ place → AreCounted count v
    → x ≡ lists_in (option_map table_of place) → x ≤ count
table_below v q count x place low there is old =
    let most = before_most (lock_tables v.places) q count is.listed (low_in v.places q low) in
    let same : x ≡ lists_in (get_or (lock_tables v.places) q None) =
    old ∙ sym (ap lists_in (get_or-map (option_map table_of) v.places q None ∙ ap (option_map table_of) there)) in
    omega (arith, most, same)

pub table_counted : (v now : TablesView) (q count x y : ℕ) (place table : Option TableView) → v ≡ now → q < length v.places → place_at v.places q ≡ place
    → AreCounted count v → x ≡ lists_in (option_map table_of place) → y ≡ lists_in (option_map table_of table) → AreShort (option_map table_of table)
    → IsListed (count - x + y) (set (lock_tables now.places) q (option_map table_of table))
table_counted v now q count x y place table seen low there is old new short =
    subst (λ (k : TablesView). IsListed (count - x + y) (set (lock_tables k.places) q (option_map table_of table))) seen
    (listed_set (lock_tables v.places) q count x y (option_map table_of table) is.listed (low_in v.places q low)
    (old ∙ sym (ap lists_in (get_or-map (option_map table_of) v.places q None ∙ ap (option_map table_of) there))) new short)

-- a table that changed in its place
fits_changed : (v now : TablesView) (n page : ℕ) (t later : TableView) → Changed v now n page t → FitPlaces v → 1 ≤ v.config.nodes → SamePlace t later
    → FitPlaces (after v n page later)
fits_changed v now n page t later c fits some same =
    let q = page % v.config.nodes in
    let at : IsTableAt v.config q t = subst (λ o. IfSome o (IsTableAt v.config q)) c.there (fits.each q) in
    let low : q < v.config.nodes = mod-lt page (omega (arith, some)) in
    subst (λ k. FitPlaces (after v k page later)) (sym c.count)
    (fits_set v q (Some later) fits low (record { config = same.config ∙ at.config; partition = same.partition ∙ at.partition }))

pub counted_same : (v now : TablesView) (n page count : ℕ) (t later : TableView) → Changed v now n page t → AreCounted count v → SamePlace t later
    → table_of later ≡ table_of t → AreCounted count (after v n page later)
counted_same v now n page count t later c is place same =
    record {
      limits = is.limits;
      fits = fits_changed v now n page t later c is.fits is.limits.some_nodes place;
      listed = subst (IsListed count) (sym (same_tables v now n page t later c same)) (subst (λ (k : TablesView). IsListed count (lock_tables k.places)) c.seen is.listed);
    }

pub counted_put : (v now : TablesView) (n page count later_count : ℕ) (e : LockEntry) (t later : TableView) → Changed v now n page t → AreCounted count v
    → SamePlace t later → table_of later ≡ put_entry (table_of t) page e
    → IsListed later_count (with_entry_at (lock_tables now.places) (page % now.config.nodes) page e) → AreCounted later_count (after v n page later)
counted_put v now n page count later_count e t later c is place put listed =
    record {
      limits = is.limits;
      fits = fits_changed v now n page t later c is.fits is.limits.some_nodes place;
      listed = subst (IsListed later_count) (sym (put_tables v now n page e t later c put)) listed;
    }

-- room that is made leaves a table in its place
pub place_made : {X E : Type 0} (r : Result X E) (t later : TableView) (page : ℕ) → OnOk r (later ≡ with_made t page) → OnErr r (later ≡ t) → SamePlace t later
place_made (Ok x) t later page made err = subst (SamePlace t) (sym made) (record { config = refl; partition = refl })
place_made (Err e) t later page made err = subst (SamePlace t) (sym err) (record { config = refl; partition = refl })

pub counted_table : (v now : TablesView) (q count later_count : ℕ) (table : Option TableView) → v ≡ now → AreCounted count v → q < now.config.nodes
    → IfSome table (IsTableAt now.config q) → lock_tables (set v.places q table) ≡ set (lock_tables now.places) q (option_map table_of table)
    → IsListed later_count (set (lock_tables now.places) q (option_map table_of table)) → AreCounted later_count (record v { places = set v.places q table })
counted_table v now q count later_count table seen is low at tables listed =
    record {
      limits = is.limits;
      fits = fits_set v q table is.fits (subst (λ (k : TablesView). q < k.config.nodes) (sym seen) low) (subst (λ (k : TablesView). IfSome table (IsTableAt k.config q)) (sym seen) at);
      listed = subst (IsListed later_count) (sym tables) listed;
    }

-- places without a table
none_there : (c : Sizes) (n q : ℕ) → IfSome (place_at (replicate n None) q) (IsTableAt c q)
none_there c n q = subst (λ o. IfSome o (IsTableAt c q)) (sym (nothing n q)) tt
  where
    nothing : (n q : ℕ) → place_at (replicate n None) q ≡ None
    nothing zero q = refl
    nothing (suc n) zero = refl
    nothing (suc n) (suc q) = nothing n q

pub counted_none : (c : Sizes) (n : ℕ) (places : List (Option TableView)) → InLimits c → n ≡ c.nodes → places ≡ replicate n None
    → AreCounted 0 (record { config = c; places = places })
counted_none c n places limits nodes none =
    subst (λ l. AreCounted 0 (record { config = c; places = l })) (sym none)
    (record {
      limits = limits;
      fits = record { nodes = length-replicate n None ∙ nodes; each = λ q. none_there c n q };
      listed = listed_none n;
    })
