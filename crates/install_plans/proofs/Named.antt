-- Reports of the grammar.
use Rattle.pcl_base.specs.declared.message.ReportLock.{ReportLock}
use Rattle.pcl_base.specs.declared.message.ReportWait.{ReportWait}
use Rattle.text_rules.specs.MessageBytes.{IsTx, IsPageOf}
use Rattle.install_laws.proofs.Words.{all_weaker}
use Rattle.install_plans.specs.Laws.{ReportsNameTheirOwn}

pub reports_name_their_own_law : ReportsNameTheirOwn
reports_name_their_own_law c r is = record {
  partition = is.0;
  locks = all_weaker (λ (x : ReportLock). IsTx c x.tx × IsPageOf c r.partition x.page) (λ x. IsPageOf c r.partition x.page) (λ x both. both.1) r.locks is.4;
  rights = is.6;
  waits = all_weaker (λ (x : ReportWait). IsTx c x.tx × IsPageOf c r.partition x.page) (λ x. IsPageOf c r.partition x.page) (λ x both. both.1) r.waits is.2;
}
