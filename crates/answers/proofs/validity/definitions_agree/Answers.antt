use Rattle.answers.proofs.Standing.{qualified_stand, pairs_suffice}
use Rattle.answers.proofs.Naming.{names_checked}
use Rattle.answers.proofs.validity.definitions_agree.Goals as goal

pub returns : goal.returns
returns c = record { standing = qualified_stand; pairs = pairs_suffice; names = names_checked }
