use Rattle.std.proofs.Common.{◌≡◌, refl, ap, sym, subst, ◌∙◌, IfSome, length}
use Rattle.node_rules.specs.BufferRule.{install}
use Rattle.node_rules.specs.Work.{with_pool}
use Rattle.node_rules.specs.AccessRule.{image_of, clean_copy}
use Rattle.home.specs.Grants.{work_at}
use Rattle.home.proofs.Granting.{current_tells, image_tells, read_tells}
use Rattle.home.proofs.Ended.{by_given, by_bytes, read_image}
use Rattle.home.proofs.parts.Parts.bring.Goals as goal

pub returns-then-is_current-clause-told : goal.returns-then-is_current-clause-told
returns-then-is_current-clause-told g c ps told =
    current_tells tt c.args.page c.args.version (image_of c.args.copy.now) (work_at ps c.args.self.now.home) (sym c.is_current.ensures ∙ c.if-is_current.true)

pub returns-then-is_current-clause-image : goal.returns-then-is_current-clause-image
returns-then-is_current-clause-image g c =
    by_given tt c.args.page c.args.version (image_of c.args.copy.now) c.args.self.now.home c.requires.image (sym c.is_current.ensures ∙ c.if-is_current.true)

pub returns-in-Image-clause-told : goal.returns-in-Image-clause-told
returns-in-Image-clause-told g c ps told =
    let h = c.args.self.now.home in
    let new = ap (λ v. v.home) c.install.ensures ∙ ap (λ l. with_pool h (install h.pool c.args.page (clean_copy (record { version = c.args.version; bytes = l })))) c.as_slice.ensures in
    image_tells tt c.args.page c.args.version (image_of c.args.copy.now) _ (work_at ps h) _ (ap image_of c.in-Image.is) (sym c.is_current.ensures ∙ c.if-is_current.false) new

pub returns-in-Image-clause-image : goal.returns-in-Image-clause-image
returns-in-Image-clause-image g c =
    let h = c.args.self.now.home in
    let new = ap (λ v. v.home) c.install.ensures ∙ ap (λ l. with_pool h (install h.pool c.args.page (clean_copy (record { version = c.args.version; bytes = l })))) c.as_slice.ensures in
    let some = ap image_of c.in-Image.is in
    by_bytes tt c.args.page c.args.version (image_of c.args.copy.now) _ h _ (λ e. sym some)
    (subst (λ o. IfSome o (λ b. length b ≡ h.config.size)) some c.requires.image) (sym c.is_current.ensures ∙ c.if-is_current.false) new

pub returns-in-Current-clause-told : goal.returns-in-Current-clause-told
returns-in-Current-clause-told g c ps told =
    read_tells tt c.args.page c.args.version (image_of c.args.copy.now) c.read_in.result _ _ _ _ ps c.args.self.now.home _ (λ y. refl) c.requires.sizes told c.requires.page
    (ap image_of c.in-Current.is) (sym c.is_current.ensures ∙ c.if-is_current.false) (ap (λ v. v.home) c.read_in.ensures.same) c.read_in.ensures.told

pub returns-in-Current-clause-image : goal.returns-in-Current-clause-image
returns-in-Current-clause-image g c =
    read_image tt c.args.page c.args.version (image_of c.args.copy.now) c.read_in.result c.args.self.now.home _ (λ y. refl) (ap image_of c.in-Current.is) c.requires.size
    (sym c.is_current.ensures ∙ c.if-is_current.false) (ap (λ v. v.home) c.read_in.ensures.same) c.read_in.ensures.content

pub returns-in-OnDisk-clause-told : goal.returns-in-OnDisk-clause-told
returns-in-OnDisk-clause-told g c ps told =
    read_tells tt c.args.page c.args.version (image_of c.args.copy.now) c.read_in-in-OnDisk.result _ _ _ _ ps c.args.self.now.home _ (λ y. refl) c.requires.sizes told c.requires.page
    (ap image_of c.in-OnDisk.is) (sym c.is_current.ensures ∙ c.if-is_current.false) (ap (λ v. v.home) c.read_in-in-OnDisk.ensures.same) c.read_in-in-OnDisk.ensures.told

pub returns-in-OnDisk-clause-image : goal.returns-in-OnDisk-clause-image
returns-in-OnDisk-clause-image g c =
    read_image tt c.args.page c.args.version (image_of c.args.copy.now) c.read_in-in-OnDisk.result c.args.self.now.home _ (λ y. refl) (ap image_of c.in-OnDisk.is) c.requires.size
    (sym c.is_current.ensures ∙ c.if-is_current.false) (ap (λ v. v.home) c.read_in-in-OnDisk.ensures.same) c.read_in-in-OnDisk.ensures.content
