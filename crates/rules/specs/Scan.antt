-- What keeps a node list from being a rule.
use Rattle.std.specs.Prelude.{◌≡◌, ℕ, ◌+◌, ◌-◌, ◌≤◌, Bool, true, false, cond, ◌&&◌, ◌↔◌, List, [], ◌∷◌, map, length, Some, None, Option, ◌==◌, nat_lt}
use Rattle.rules.specs.declared.node.Node.{Node}
use Rattle.rules.specs.declared.bytes.NodeBytes.{NodeBytes}
use Rattle.rules.specs.declared.fault.Fault.{Fault}
use Rattle.rules.specs.declared.fault.Fault.TheVariants.{Length, Field, Shape}
use Rattle.rules.specs.Trees.{Tree, nodes, operator, InRange}
use Rattle.rules.specs.Bytes.{allowed, node_of, node_bytes, node_in_range}

-- The first node, counted from i, with a forbidden field.
abbrev pub bad_field : ℕ → List NodeBytes → Option Fault
bad_field i [] = None
bad_field i (b ∷ bs) = cond (allowed b) (bad_field (i + 1) bs) (Some (Field i))

-- Of nodes from place i on, with that many trees before them: the first operator with fewer than two trees before it, or the end where
-- another number of trees than one is left.
abbrev pub bad_shape : ℕ → ℕ → List Node → Option Fault
bad_shape i count [] = cond (count == 1) None (Some (Shape i))
bad_shape i count (n ∷ ns) =
    cond (operator n) (cond (nat_lt count 2) (Some (Shape i)) (bad_shape (i + 1) (count - 1) ns)) (bad_shape (i + 1) (count + 1) ns)

-- The first of the two faults.
abbrev pub or_else : Option Fault → Option Fault → Option Fault
or_else None g = g
or_else (Some f) g = Some f

-- The fault of a node list: its length first, then its fields, the whole list over, then its shape.
abbrev pub fault_of : List NodeBytes → Option Fault
fault_of bs = cond (nat_lt 0 (length bs) && nat_lt (length bs) 32) (or_else (bad_field 0 bs) (bad_shape 0 0 (map node_of bs))) (Some Length)

-- What keeps a list from being the nodes of a rule: its length first, then its fields.
abbrev pub bad_list : List NodeBytes → Option Fault
bad_list bs = cond (nat_lt 0 (length bs) && nat_lt (length bs) 32) (bad_field 0 bs) (Some Length)

abbrev pub no_fault : Option Fault → Bool
no_fault None = true
no_fault (Some f) = false

-- Every entity that the nodes name can be.
abbrev pub nodes_in_range : List Node → Bool
nodes_in_range [] = true
nodes_in_range (n ∷ ns) = node_in_range n && nodes_in_range ns

-- The nodes are one rule, as a test.
abbrev pub one_rule : List Node → Bool
one_rule ns = nodes_in_range ns && no_fault (bad_shape 0 0 ns)

-- The bytes are the node list of a rule of at most 31 nodes, in which every entity can be.
abbrev pub ListsARule : List NodeBytes → Type 0
ListsARule bs = (t : Tree) × (InRange t × (map node_bytes (nodes t) ≡ bs) × (length bs ≤ 31))

-- A node list is without fault exactly if it is the list of some rule.
abbrev pub AcceptsRules : Type 0
AcceptsRules = (bs : List NodeBytes) → (fault_of bs ≡ None) ↔ ListsARule bs
