use Rattle.std.proofs.Common.{inr, ◌≡◌, ℕ, ◌<◌, ◌≤◌, ◌∷◌, refl, ap, sym, subst, ◌∙◌, arith, drop, length, List, [], None, Ok, ◌==◌, true}
use Rattle.disk_model.proofs.SizeLemmas.{page_has_length}
use Rattle.text_rules.specs.StoredPage.{PageAt}
use Rattle.run_rules.specs.Redo.{all_records}
use Rattle.disk_model.specs.Stops.{Stops}
use Rattle.partition_redo.specs.declared.site.Site.{Site}
use Rattle.partition_redo.specs.Chains.{Leads}
use Rattle.partition_redo.specs.Writes.{Ran}
use Rattle.partition_redo.proofs.Applying.{pages_inside, cause_later, chain_none, chain_some, ran_one}
use Rattle.partition_redo.proofs.apply.apply_chain.Goals as goal

pub returns-then-version-chain-clause-ran : goal.returns-then-version-chain-clause-ran
returns-then-version-chain-clause-ran g c = λ d pages logs chain.
    let read = c.in-Ok.ensures in
    let value = read.value d pages in
    let both : Ok chain.old ≡ Ok value.0 = sym chain.stored ∙ value.1 in
    let same : chain.old ≡ value.0 = cc in
    let version = ap (λ (a : PageAt). a.version) same ∙ value.2 in
    let bytes : chain.old.bytes ≡ drop 16 c.stored_version.new.raw = ap (λ (a : PageAt). a.bytes) same ∙ value.3 in
    let newer : chain.old.version < c.args.chain.now.version = omega arith in
    let inside : c.args.chain.now.page < length d.pages = pages_inside c.args.config.now _ _ _ d.pages c.args.chain.now.page c.requires.sizes pages c.requires.page in
    let lead = subst (λ (bs : List ℕ). Leads c.args.config.now d c.args.chain.now.sites bs chain.new.bytes) bytes (chain.leads newer) in
    let wrote = c.write_chain.ensures.wrote d chain.new.bytes (read.pages ∙ pages) (read.logs ∙ logs) lead in
    let ran = ran_one (all_records c.args.config.now d) c.args.by c.args.chain.now.page _ d.pages _ _ _ _ (chain_some c.args.config.now d c.args.chain.now inside chain newer) wrote in
    subst (λ (s : Stops). Ran (all_records c.args.config.now d) c.args.by (c.args.chain.now.page ∷ []) d.pages s (g.S.Storage.pages c.write_chain.new.s) (g.S.Storage.stops c.write_chain.new.s) c.write_chain.result) read.stops ran

pub returns-then-version-chain-clause-cause : goal.returns-then-version-chain-clause-cause
returns-then-version-chain-clause-cause g c = λ k. cause_later _ _ _ k _ (c.in-Ok.ensures.counts k) (c.write_chain.ensures.cause k)

pub returns-else-version-chain-clause-ran : goal.returns-else-version-chain-clause-ran
returns-else-version-chain-clause-ran g c = λ d pages logs chain.
    let read = c.in-Ok.ensures in
    let value = read.value d pages in
    let both : Ok chain.old ≡ Ok value.0 = sym chain.stored ∙ value.1 in
    let same : chain.old ≡ value.0 = cc in
    let version = ap (λ (a : PageAt). a.version) same ∙ value.2 in
    let older : c.args.chain.now.version ≤ chain.old.version = omega arith in
    let inside : c.args.chain.now.page < length d.pages = pages_inside c.args.config.now _ _ _ d.pages c.args.chain.now.page c.requires.sizes pages c.requires.page in
    ran_one (all_records c.args.config.now d) c.args.by c.args.chain.now.page None d.pages _ _ _ _ (chain_none c.args.config.now d c.args.chain.now inside chain older)
    (inr (inr (tt, (read.pages ∙ pages, (read.stops, refl)))))

-- a list of no items
no_items : (ss : List Site) → (length ss == 0) ≡ true → ss ≡ []
no_items [] e = refl
no_items (s ∷ ss) e = let z : length (s ∷ ss) ≡ 0 = grind (arith, e) in absurd (omega (arith, z))

pub returns-then-is_empty-clause-ran : goal.returns-then-is_empty-clause-ran
returns-then-is_empty-clause-ran g c = λ d pages logs chain.
    let empty : c.args.chain.now.sites ≡ [] = no_items c.args.chain.now.sites (sym c.is_empty.ensures ∙ c.if-is_empty.true) in
    let inside : c.args.chain.now.page < length d.pages = pages_inside c.args.config.now _ _ _ d.pages c.args.chain.now.page c.requires.sizes pages c.requires.page in
    ran_one (all_records c.args.config.now d) c.args.by c.args.chain.now.page None d.pages _ _ _ _ (chain_none c.args.config.now d c.args.chain.now inside chain (chain.fresh empty))
    (inr (inr (tt, (pages, (refl, refl)))))

pub stored_version-requires-clause-length : goal.stored_version-requires-clause-length
stored_version-requires-clause-length g c = page_has_length c.args.config.now _ _ _ c.args.chain.now.page (length c.args.raw.now) c.requires.sizes c.requires.page c.requires.length
