-- What a board holds.
use Rattle.model.specs.Facts.{Facts}
use Rattle.board.specs.Rows.{marked}
use Rattle.board.specs.declared.Board.{Board}

-- The facts that a board holds.
abbrev pub facts_of : Board → Facts
facts_of b = marked b.rows
