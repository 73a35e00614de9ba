-- The laws of own ends.
use Rattle.std.proofs.Common.{refl, sym, subst, ◌∙◌, ◌<◌}
use Rattle.pcl_base.specs.Limits.{Sizes}
use Rattle.node_rules.specs.NodeState.{partition}
use Rattle.node_rules.specs.OwnerRule.{change_if_served, version_of_change as rules_version}
use Rattle.node_laws.proofs.Bases.{base_of}
use Rattle.page_relation.specs.Work.Events.{IsEntered}
use Rattle.page_relation.specs.Work.Keeping.{Leads}
use Rattle.page_relation.proofs.WorkParts.Kept.{reached_on}
use Rattle.end_relation.specs.Release.OwnEnds.{OwnEndKeeps, OwnEndElsewhere, NoOwnEndDiffers, UntoldStays, OpenIsUnreleased, OwnIsUnreported}
use Rattle.end_relation.proofs.ReleaseParts.Midway.{end_midway}
use Rattle.end_relation.proofs.ReleaseParts.Owners.{has_own, has_table_owns, partition_low}
use Rattle.end_relation.proofs.ReleaseParts.OwnEnds.{own_end_elsewhere, own_end_keeps, own_ends, own_goes, own_told}
use Rattle.end_relation.proofs.ReleaseParts.Untold.{open_is_unreleased, own_is_unreported, untold_kept}

pub own_end_keeps_law : OwnEndKeeps
own_end_keeps_law c e n p s t x tb acts up low at settle = own_end_keeps c e n p s acts up low t x tb at settle

pub own_end_elsewhere_law : OwnEndElsewhere
own_end_elsewhere_law c e n p s t x tb w y acts up other below settle mid there goes = own_end_elsewhere c e n p s acts up t x tb w y other below settle mid there goes

pub no_own_end_differs_law : NoOwnEndDiffers
no_own_end_differs_law c e n s t x tb blank w a acts up low settle mid owes there reached is q k l differs =
    settle blank (own_told x.page t x.change tb w) told.page q k l
    (end_midway (base_of s) c e n x.page tb t (rules_version (change_if_served tb.serving x.change)) w (subst (λ (z : Sizes). x.page < z.pages) (sym mid.config) low) there mid)
    told.related told.known (reached_on blank a told.page reached told.run) (sym (own_goes x.page t x tb w refl there) ∙ differs)
  where
    told : Leads c e n x.page (λ y b. IsEntered b) a (own_told x.page t x.change tb w)
    told = own_ends c e n x.page s w tb a blank acts up (has_own c n x.page s w tb acts.cluster up mid.base mid.good there) reached is t x.change owes

pub untold_stays_law : UntoldStays
untold_stays_law c e n p t w x a acts same is = untold_kept c e n p t w x a acts same is

pub open_is_unreleased_law : OpenIsUnreleased
open_is_unreleased_law d p q a t is none x y = open_is_unreleased d p q a t is none x y

pub own_is_unreported_law : OwnIsUnreported
own_is_unreported_law c e n p s ev rs a t tb i h parties there reached mine x y =
    own_is_unreported c e n p s ev i h rs a t parties (has_table_owns c (partition c.config p) n s tb i h.up (partition_low c n p s i h.up) there) reached mine x y
