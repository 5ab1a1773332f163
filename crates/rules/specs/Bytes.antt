-- Nodes as four bytes.
use Rattle.std.specs.Prelude.{◌≡◌, ℕ, Bool, true, cond, ◌&&◌, ◌||◌, ◌==◌, nat_lt, false, Result, MatchResult}
use Rattle.model.specs.declared.side.Side.{Side}
use Rattle.model.specs.declared.side.Side.TheVariants.{Role, Unit}
use Rattle.rules.specs.declared.node.Leaf.{Leaf}
use Rattle.rules.specs.declared.node.Leaf.TheVariants.{Actor, Group}
use Rattle.rules.specs.declared.node.Node.{Node}
use Rattle.rules.specs.declared.node.Node.TheVariants.{Is, Not, And, Or}
use Rattle.rules.specs.declared.bytes.NodeBytes.{NodeBytes}
use Rattle.rules.specs.declared.scan.ForbiddenField.{ForbiddenField}
use Rattle.rules.specs.Trees.{in_range}

-- The kind's number of a side.
abbrev pub kind_number : Side → ℕ
kind_number Role = 1
kind_number Unit = 2

abbrev pub leaf_bytes : ℕ → Leaf → NodeBytes
leaf_bytes tag (Actor a) = record { tag = tag; kind = 0; number = a; mark = 0 }
leaf_bytes tag (Group k n plus) = record { tag = tag; kind = kind_number k; number = n; mark = cond plus 1 0 }

-- The bytes of a node. Tag 0 is a leaf, 1 a leaf under NOT, 2 AND, 3 OR. Mark 1 is the (+).
abbrev pub node_bytes : Node → NodeBytes
node_bytes (Is l) = leaf_bytes 0 l
node_bytes (Not l) = leaf_bytes 1 l
node_bytes And = record { tag = 2; kind = 0; number = 0; mark = 0 }
node_bytes Or = record { tag = 3; kind = 0; number = 0; mark = 0 }

-- The bytes that a leaf may have: kind 0 to 2, number 0 to 63, mark 0 or 1, and an actor leaf has mark 0.
abbrev pub leaf_allowed : NodeBytes → Bool
leaf_allowed b = nat_lt b.tag 2 && (nat_lt b.kind 3 && (nat_lt b.number 64 && (nat_lt b.mark 2 && (nat_lt 0 b.kind || b.mark == 0))))

-- The bytes that AND and OR may have: 0 in the other three.
abbrev pub operator_allowed : NodeBytes → Bool
operator_allowed b = (b.tag == 2 || b.tag == 3) && (b.kind == 0 && (b.number == 0 && b.mark == 0))

abbrev pub allowed : NodeBytes → Bool
allowed b = leaf_allowed b || operator_allowed b

abbrev pub leaf_of : NodeBytes → Leaf
leaf_of b = cond (b.kind == 0) (Actor b.number) (Group (cond (b.kind == 1) Role Unit) b.number (b.mark == 1))

-- The node that allowed bytes stand for.
abbrev pub node_of : NodeBytes → Node
node_of b = cond (b.tag == 0) (Is (leaf_of b)) (cond (b.tag == 1) (Not (leaf_of b)) (cond (b.tag == 2) And Or))

-- Allowed bytes are read as their node, and no others are read.
abbrev pub Decodes : NodeBytes → Result Node ForbiddenField → Type 0
Decodes b r = MatchResult r (λ n. (allowed b ≡ true) × (n ≡ node_of b)) (λ _. allowed b ≡ false)

-- The entity that a node names, if it names one, can be.
abbrev pub node_in_range : Node → Bool
node_in_range (Is l) = in_range l
node_in_range (Not l) = in_range l
node_in_range And = true
node_in_range Or = true

-- Bytes are allowed exactly if they are the bytes of a node whose entity can be, and then they stand for that node.
pub record BytesExact : Type 0 where
  pub back : (b : NodeBytes) → allowed b ≡ true → (node_in_range (node_of b) ≡ true) × (node_bytes (node_of b) ≡ b)
  pub forth : (n : Node) → node_in_range n ≡ true → (allowed (node_bytes n) ≡ true) × (node_of (node_bytes n) ≡ n)
