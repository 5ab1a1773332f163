use Rattle.transfer.proofs.Fits.{fitting_model_is_held, ascends_by_word}
use Rattle.transfer.proofs.write_out.writing_is_exact.Goals as goal

pub returns : goal.returns
returns c = record { fitting = fitting_model_is_held; order = ascends_by_word }
