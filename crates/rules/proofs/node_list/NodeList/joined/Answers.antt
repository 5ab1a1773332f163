use Rattle.std.proofs.Common.{arith}
use Rattle.std.proofs.lemmas.List.{take-map}
use Rattle.std.proofs.lemmas.List.Edits.{map_over_more}
use Rattle.std.proofs.lemmas.Grind.{common_steps}
use Rattle.rules.specs.Changes.{node_joined}
use Rattle.rules.proofs.node_list.NodeList.joined.Goals as goal

pub loop-node-preserved : goal.loop-node-preserved
loop-node-preserved c = grind (arith, common_steps, map_over_more (node_joined c.args.joining))

pub returns : goal.returns
returns c = grind (arith, common_steps, take-map)
