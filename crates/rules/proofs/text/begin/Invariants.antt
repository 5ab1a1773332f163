use Rattle.std.proofs.Common.{◌≡◌, ◌+◌, ◌≤◌, List, ◌++◌, length}
use Rattle.rules.specs.declared.node.Node.{Node}
use Rattle.rules.specs.Trees.{Tree, nodes}
use Rattle.rules.proofs.Backwards.{Followed}
use Rattle.rules.proofs.text.begin.Given as goal

-- the rest is the front and the trees that are still wanted
abbrev pub invariant-loop-wanted : goal.invariant-loop-wanted
invariant-loop-wanted l =
    (l.wanted + length l.rest ≤ length l.list + 1)
    × (length l.rest ≤ length l.list)
    × ((front : List Node) (t : Tree) → front ++ nodes t ≡ l.list → Followed front l.wanted l.rest)

abbrev pub decreases-loop-wanted : goal.decreases-loop-wanted
decreases-loop-wanted l = length l.rest
