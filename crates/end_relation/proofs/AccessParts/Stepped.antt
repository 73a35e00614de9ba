-- Steps of the machine at the home of one transaction, as they are promised.
use Rattle.page_protocol.specs.Steps.{reads, writes_piece}
use Rattle.end_relation.specs.Access.Steps.{ReadingIsStep, WritingIsStep, ReadingUnderIsStep, WaitingIsStep, AskingIsEntered, WaitingIsToldFirst}
use Rattle.end_relation.proofs.AccessParts.Asking.{wait_asks, wait_related}
use Rattle.end_relation.proofs.AccessParts.Entering.{entered_related, waits_related}
use Rattle.end_relation.proofs.AccessParts.Reading.{read_related}
use Rattle.end_relation.proofs.AccessParts.Under.{under_step, under_related}
use Rattle.end_relation.proofs.AccessParts.Writing.{write_related}

pub reading_is_step_law : ReadingIsStep
reading_is_step_law c e n p t w blank a acts reached related mine granted =
    record { step = reads t granted; related = read_related c e n p acts w a blank reached related t mine }

pub writing_is_step_law : WritingIsStep
writing_is_step_law c e n p t write w blank a acts reached related mine may =
    record {
      step = writes_piece t write.0 write.1 may.holds;
      related = write_related c e n p acts w a blank reached related t mine write may.holds may.private may.within may.asked;
    }

pub reading_under_is_step_law : ReadingUnderIsStep
reading_under_is_step_law c e n p t r w a acts related mine may =
    record {
      step = under_step c e n p acts w a related t mine r may.opened may.idle may.free may.right may.version may.not_own;
      related = under_related c e n p acts w a related t mine r may.opened may.idle may.free may.right may.version may.not_own;
    }

pub waiting_is_step_law : WaitingIsStep
waiting_is_step_law c e n x w a acts related mine may =
    record {
      home = (wait_asks c e n acts x w a related mine may.opened may.idle may.uncovered).home;
      step =
          record {
            step = (wait_asks c e n acts x w a related mine may.opened may.idle may.uncovered).step;
            related = wait_related c e n acts x w a related mine may.opened may.idle may.uncovered;
          };
      asked = (wait_asks c e n acts x w a related mine may.opened may.idle may.uncovered).asked;
    }

pub asking_is_entered_law : AskingIsEntered
asking_is_entered_law c e n p t k w a acts config there asked related = entered_related c e n p acts w a config t there k asked related

pub waiting_is_told_first_law : WaitingIsToldFirst
waiting_is_told_first_law c e n p q t w a acts quiet related = waits_related c e n p acts quiet t q w a related
