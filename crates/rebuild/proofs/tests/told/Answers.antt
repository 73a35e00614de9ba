use Rattle.std.proofs.Common.{◌≡◌, ◌∙◌, ℕ, ◌%◌, ◌<◌, List, [], ◌∷◌, refl, ap, sym, subst, arith}
use Rattle.std.proofs.lemmas.List.Elements.{All-cons, All-nil}
use Rattle.std.specs.List.{All}
use Rattle.lock_table.specs.Tables.{TableView, IsPageOf}
use Rattle.rebuild.proofs.tests.told.Goals as goal

page_of : (t : TableView) (p : ℕ) → t.config.nodes ≡ 3 → t.config.pages ≡ 9 → t.partition ≡ 1 → p < 9 → p % 3 ≡ 1 → IsPageOf t p
page_of t p nodes pages partition below own = record {
  below = subst (λ n. p < n) (sym pages) below;
  own = ap (λ n. p % n) nodes ∙ (own ∙ sym partition);
}

one : {X : Type 0} (P : X → Type 0) (xs : List X) (x : X) → xs ≡ x ∷ [] → P x → All P xs
one P xs x is holds = subst (All P) (sym is) (All-cons P x [] holds (All-nil P))

pub returns : goal.returns
returns c =
    let t = c.args.table.now in
    let four = page_of t 4 c.requires.nodes c.requires.pages c.requires.partition (omega arith) refl in
    let seven = page_of t 7 c.requires.nodes c.requires.pages c.requires.partition (omega arith) refl in
    record {
      locks = one (λ x. IsPageOf t x.page) _ _ (c.of-2.ensures ∙ c.in_ok-from_array-2.ensures.items)
          (subst (IsPageOf t) (sym c.shared.ensures) seven);
      rights = one (λ x. IsPageOf t x.page) _ _ (c.of-3.ensures ∙ c.in_ok-from_array-3.ensures.items) four;
      waits = one (λ x. IsPageOf t x.page) _ _ (c.of.ensures ∙ c.in_ok-from_array.ensures.items) four;
    }
