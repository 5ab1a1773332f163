-- The four numbers of a refusal.
use Rattle.std.specs.Prelude.{ℕ, List, ◌++◌, codes, decimal}
use Rattle.rules.specs.declared.fault.Fault.{Fault}
use Rattle.rules.specs.declared.fault.Fault.TheVariants.{Length, Field, Shape}
use Rattle.rules.specs.declared.fault.Numbers.{Numbers}

-- A fault of a node list handed in for a slot (255 where there is none): number, layer, slot and node. A list of no nodes or too many shows no
-- node: 255.
abbrev pub fault_numbers : ℕ → Fault → Numbers
fault_numbers slot Length = record { number = 1; layer = 1; slot = slot; node = 255 }
fault_numbers slot (Field i) = record { number = 2; layer = 1; slot = slot; node = i }
fault_numbers slot (Shape i) = record { number = 3; layer = 1; slot = slot; node = i }

-- The numbers as text: byte codes.
abbrev pub numbers_text : Numbers → List ℕ
numbers_text n =
    decimal n.number
    ++ (codes " in layer " ++ (decimal n.layer ++ (codes ", slot " ++ (decimal n.slot ++ (codes ", node " ++ decimal n.node)))))
