use Rattle.std.proofs.Common.{◌≡◌, ℕ, refl, subst, drop, List, Option, IfSome, Ok, Err}
use Rattle.text_rules.specs.StoredPage.{PageAt, BadNumber, stored_page}
use Rattle.run_rules.specs.Disk.{raw_page}
use Rattle.partition_redo.proofs.Walking.{page_told}
use Rattle.partition_redo.proofs.plan.stored_version.Goals as goal

pub returns-in-Ok-clause-value : goal.returns-in-Ok-clause-value
returns-in-Ok-clause-value g c = λ d told.
    let found = page_told d (g.S.Storage.pages c.args.s.now) c.args.page c.requires.page told in
    let page : PageAt = record { version = c.in-Ok.version; bytes = drop 16 c.read.new.raw } in
    let is : stored_page c.args.page (raw_page d.pages c.args.page) ≡ Ok page =
    subst (λ (o : Option (List ℕ)). IfSome o (λ b. stored_page c.args.page b ≡ Ok page)) found c.in-Ok.ensures.value in
    (page, is, refl, refl)

pub returns-in-Err-BadPage-clause-value : goal.returns-in-Err-BadPage-clause-value
returns-in-Err-BadPage-clause-value g c = λ d told.
    let found = page_told d (g.S.Storage.pages c.args.s.now) c.args.page c.requires.page told in
    let bad : BadNumber = record { expected = c.in-Err-BadPage.expected; found = c.in-Err-BadPage.found } in
    let value = rw c.in-Err-BadPage.field-0-is at c.in-Err-BadPage.ensures.value in
    let is : stored_page c.args.page (raw_page d.pages c.args.page) ≡ Err bad =
    subst (λ (o : Option (List ℕ)). IfSome o (λ b. stored_page c.args.page b ≡ Err bad)) found value in
    (refl, is)
