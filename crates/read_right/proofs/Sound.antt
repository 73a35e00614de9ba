-- A shelf stays sound.
use Rattle.std.proofs.Common.{◌≡◌, ℕ, ◌+◌, ◌≤◌, nat_eq, List, [], ◌∷◌, ◌++◌, length, Option, Some, IfSome, Vec, vec_capacity, ap, sym, subst, ◌∙◌, arith}
use Rattle.std.specs.Global.{Global}
use Rattle.std.specs.List.{All}
use Rattle.std.specs.Map.{lookup, set_value, remove_entry, values_of}
use Rattle.std.proofs.lemmas.List.{map-append}
use Rattle.std.proofs.lemmas.List.Elements.{All-push, All-weaker}
use Rattle.std.proofs.lemmas.Map.Views.{All-map-remove_entry, All-values-set_value, IfSome-lookup_from_All}
use Rattle.pcl_base.specs.declared.tx.TxId.{TxId}
use Rattle.read_right.specs.declared.right.ReadRight.{ReadRight}
use Rattle.read_right.specs.Seen.{HasRoom, IsSound}

pub longer : (a b : ℕ) → a ≤ b → (rs : List ReadRight) → All (HasRoom a) rs → All (HasRoom b) rs
longer a b le rs h = All-weaker (HasRoom a) (HasRoom b) (λ r x. record { short = omega (arith, x.short, le); room = x.room }) rs h

-- the right that a look-up finds has its room
pub room_found : (p : ℕ) (es : List (ℕ × ReadRight)) (r : ReadRight) (longest : ℕ) → All (HasRoom longest) (values_of es) → lookup (nat_eq p) es ≡ Some r → HasRoom longest r
room_found p es r longest h e =
    let P : Option ReadRight → Type 0 = λ o. IfSome o (HasRoom longest) in
    subst P e (IfSome-lookup_from_All (HasRoom longest) (nat_eq p) es h)

pub sound_removed : (p : ℕ) (es new : List (ℕ × ReadRight)) (stock : List (Vec TxId Global)) (longest room a b : ℕ) → IsSound es stock longest room a → new ≡ remove_entry (nat_eq p) es → a ≤ b → IsSound new stock longest room b
sound_removed p es new stock longest room a b s e le = record {
  rights = subst (All (HasRoom longest)) (ap values_of (sym e)) (All-map-remove_entry (nat_eq p) (λ x. x.1) (HasRoom longest) es s.rights);
  empty = s.empty;
  wide = s.wide;
  enough = s.enough;
  places = omega (arith, s.places, le);
}

pub sound_set : (p : ℕ) (w : ReadRight) (es new : List (ℕ × ReadRight)) (old stock : List (Vec TxId Global)) (longest more room a b : ℕ) → IsSound es old longest room a → new ≡ set_value (nat_eq p) es w
    → longest ≤ more → HasRoom more w → All (λ v. length v.items ≡ 0) stock → All (λ v. room ≤ vec_capacity v) stock → more + length stock ≤ room → length stock ≤ b → IsSound new stock more room b
sound_set p w es new old stock longest more room a b s e le h em wi en pl = record {
  rights = subst (All (HasRoom more)) (ap values_of (sym e)) (All-values-set_value (nat_eq p) (HasRoom more) es w (longer longest more le (values_of es) s.rights) h);
  empty = em;
  wide = wi;
  enough = en;
  places = pl;
}

pub sound_pushed : (p : ℕ) (w : ReadRight) (es new : List (ℕ × ReadRight)) (old stock : List (Vec TxId Global)) (longest more room a b : ℕ) → IsSound es old longest room a → new ≡ es ++ (p, w) ∷ []
    → longest ≤ more → HasRoom more w → All (λ v. length v.items ≡ 0) stock → All (λ v. room ≤ vec_capacity v) stock → more + length stock ≤ room → length stock ≤ b → IsSound new stock more room b
sound_pushed p w es new old stock longest more room a b s e le h em wi en pl = record {
  rights = subst (All (HasRoom more)) (sym (ap values_of e ∙ map-append (λ x. x.1) es ((p, w) ∷ []))) (All-push (HasRoom more) (values_of es) w (longer longest more le (values_of es) s.rights) h);
  empty = em;
  wide = wi;
  enough = en;
  places = pl;
}
