use Rattle.rules.proofs.Edited.{joins-nodes, splits_nodes}
use Rattle.rules.proofs.edit.lists_follow_trees.Goals as goal

pub returns : goal.returns
returns c = record { joins = joins-nodes; splits = splits_nodes }
