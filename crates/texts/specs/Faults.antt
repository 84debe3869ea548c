-- Why nothing came out: the fault of the bytes, or no memory. Definitions only.
use Rattle.std.specs.Prelude.{◌≡◌, Some, None, Option}
use Rattle.layout.specs.declared.Refusal.{Refusal}
use Rattle.texts.specs.declared.fault.Fault.{Fault}
use Rattle.texts.specs.declared.fault.Fault.TheVariants.{Refused, NoMemory}

-- what is refused is refused for the fault that the bytes have; only of bytes without a fault is it said that memory ran out
abbrev pub Faulty : Option Refusal → Fault → Type 0
Faulty f (Refused e) = f ≡ Some e
Faulty f NoMemory = f ≡ None
