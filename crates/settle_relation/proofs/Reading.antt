-- No page that is read where a request or an answer to a revocation arrives differs.
use Rattle.std.proofs.Common.{refl}
use Rattle.pcl_base.specs.declared.message.Body.TheVariants as body
use Rattle.node_rules.specs.LockRule.{ask, returned}
use Rattle.node_rules.specs.Work.{Differs}
use Rattle.node_laws.proofs.Bases.{base_of}
use Rattle.settle_relation.specs.Arriving.{RequestAgrees, ReturnAgrees}
use Rattle.settle_relation.proofs.Agreeing.{enter_agrees}
use Rattle.settle_relation.proofs.Requesting as request
use Rattle.settle_relation.proofs.Returning as return

pub request_agrees_law : RequestAgrees
request_agrees_law c e n from s m r blank a k expected found i is goes =
    enter_agrees (base_of s) c e n r.page (request.acts c e n r.page from s m blank a i) i.order i.below blank (λ x. ask x (request.waiter c e n r.page from s m blank a i r is))
    (request.asks_well c e n r.page from s m blank a i r is) (request.w c e n r.page from s m blank a i) a i.reached
    (request.midway c e n r.page from s m blank a i) (λ t there. request.waits_then c e n r.page from s m blank a i r is t refl there) k expected found
    (request.goes_on c e n r.page from s m blank a i (body.Request r) (Differs k expected found) is goes)

pub return_agrees_law : ReturnAgrees
return_agrees_law c e n from s m r blank a k expected found i parties is goes =
    enter_agrees (base_of s) c e n r.page (request.acts c e n r.page from s m blank a i) i.order i.below blank (λ x. returned x from r.readers)
    (return.returns_well c e n r.page from s m blank a i parties r is) (request.w c e n r.page from s m blank a i) a i.reached
    (request.midway c e n r.page from s m blank a i) (λ t there. return.comes_back c e n r.page from s m blank a i parties r is t refl there) k expected found
    (request.goes_on c e n r.page from s m blank a i (body.Return r) (Differs k expected found) is goes)
