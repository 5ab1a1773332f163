-- The circle that an exchange of pairs would close.
use Rattle.std.specs.Prelude.{◌≡◌, true, false}
use Rattle.model.specs.Chains.{Circle}
use Rattle.model.specs.Facts.{Facts, placed}
use Rattle.drafts.specs.Grounds.{hierarchy, side_of_sort}
use Rattle.drafts.specs.Pairs.{pair_number}
use Rattle.drafts.specs.declared.pair.Exchange.{Exchange}

-- With the old pair taken out and the new one put in, the new one's hierarchy runs in a circle.
abbrev pub Exchanged : Facts → Exchange → Type 0
Exchanged F e =
    (hierarchy (pair_number e.new.sort) ≡ true)
    × Circle (placed (placed F (pair_number e.old.sort) e.old.x e.old.y false) (pair_number e.new.sort) e.new.x e.new.y true) (side_of_sort (pair_number e.new.sort))
