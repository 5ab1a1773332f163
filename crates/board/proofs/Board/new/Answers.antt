use Rattle.board.proofs.Marks.{marked-none}
use Rattle.board.proofs.Board.new.Goals as goal

pub returns : goal.returns
returns c = marked-none 259
