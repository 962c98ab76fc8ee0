-- Why bytes are no trace.
use Rattle.std.specs.Prelude.{ℕ, List}
use Rattle.traces.specs.declared.trace.TraceFault.{TraceFault}
use Rattle.traces.specs.declared.trace.TraceFault.TheVariants as fault
use Rattle.traces.specs.Traces.{HasBadLine, LacksSetup}
use Rattle.traces.specs.Reading.{StopsAt}

-- what is said of bytes by a fault of their reading
abbrev pub IsFaultOf : List ℕ → TraceFault → Type 0
IsFaultOf bytes fault.Setup = LacksSetup bytes
IsFaultOf bytes (fault.Line number) = HasBadLine bytes number
IsFaultOf bytes fault.Memory = Unit {0}

-- what is said of the bytes behind the setup line
abbrev pub IsStop : List ℕ → TraceFault → Type 0
IsStop bytes fault.Setup = ⊥
IsStop bytes (fault.Line number) = StopsAt bytes number
IsStop bytes fault.Memory = Unit {0}
