-- Facts that private functions carry. Definitions only.
use Rattle.std.specs.Prelude.{◌≡◌, Some, Option}
use Rattle.layout.specs.declared.Refusal.{Refusal}
use Rattle.texts.specs.declared.fault.Fault.{Fault}
use Rattle.texts.specs.declared.fault.Fault.TheVariants.{Refused, NoMemory}

-- what is refused is refused for the fault that the bytes have; where memory ran out nothing is said
abbrev pub FaultyUnlessNoMemory : Option Refusal → Fault → Type 0
FaultyUnlessNoMemory f (Refused e) = f ≡ Some e
FaultyUnlessNoMemory f NoMemory = Unit {0}
