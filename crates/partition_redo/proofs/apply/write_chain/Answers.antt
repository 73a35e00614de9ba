use Rattle.std.proofs.Common.{ℕ, refl, ap, sym, subst, ◌∙◌, drop, List}
use Rattle.text_rules.specs.StoredPage.{stored_bytes}
use Rattle.partition_redo.specs.declared.site.Site.{Site}
use Rattle.partition_redo.specs.Chains.{Leads}
use Rattle.partition_redo.proofs.Applying.{wrote_done, wrote_torn, page_untold, torn_untold}
use Rattle.partition_redo.proofs.apply.write_chain.Goals as goal

pub returns-in-Ok-write-clause-wrote : goal.returns-in-Ok-write-clause-wrote
returns-in-Ok-write-clause-wrote g c = λ d to pages logs lead.
    let first = c.in-Ok.ensures in
    let done = c.in-Ok-write.ensures in
    let made = ap (λ (bs : List ℕ). stored_bytes c.args.chain.now.page (record { version = c.args.chain.now.version; bytes = bs })) (first.put d to logs (subst (λ (ss : List Site). Leads c.args.config.now d ss (drop 16 c.args.raw.now) to) (sym c.as_slice.ensures) lead)) in
    wrote_done c.args.by c.args.chain.now.page _ c.write.new.raw d.pages _ _ _ _ _ _ (first.pages ∙ pages) first.stops (done.raw ∙ made) done.written done.stops done.stopped refl

pub returns-in-Err-write-clause-wrote : goal.returns-in-Err-write-clause-wrote
returns-in-Err-write-clause-wrote g c = λ d to pages logs lead.
    let first = c.in-Ok.ensures in
    let bad = c.in-Err-write.ensures in
    let made = ap (λ (bs : List ℕ). stored_bytes c.args.chain.now.page (record { version = c.args.chain.now.version; bytes = bs })) (first.put d to logs (subst (λ (ss : List Site). Leads c.args.config.now d ss (drop 16 c.args.raw.now) to) (sym c.as_slice.ensures) lead)) in
    wrote_torn c.args.by c.args.chain.now.page _ c.write.new.raw d.pages _ _ _ _ _ _ (first.pages ∙ pages) first.stops (bad.raw ∙ made) bad.torn bad.stops bad.done bad.left refl

pub returns-in-Ok-write-clause-untold : goal.returns-in-Ok-write-clause-untold
returns-in-Ok-write-clause-untold g c = λ none. page_untold _ _ _ _ c.in-Ok-write.ensures.written (c.in-Ok.ensures.pages ∙ none)

pub returns-in-Err-write-clause-untold : goal.returns-in-Err-write-clause-untold
returns-in-Err-write-clause-untold g c = λ none. torn_untold _ _ _ _ c.in-Err-write.ensures.torn (c.in-Ok.ensures.pages ∙ none)
