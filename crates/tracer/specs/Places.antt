-- A place as the definitions see it.
use Rattle.std.specs.Prelude.{ℕ, List, map, Option, Some, None}
use Rattle.std.specs.declared.cmp.Ordering.{Ordering}
use Rattle.std.specs.declared.cmp.Ordering.TheVariants.{Less, Equal, Greater}
use Rattle.std.specs.Ordering.{nat_cmp}
use Rattle.tracer.specs.declared.place.ClosingStep.{ClosingStep}
use Rattle.tracer.specs.declared.place.ClosingStep.TheVariants.{Came, NotCome}
use Rattle.tracer.specs.declared.place.Place.{Place}

-- the number of a closing step that has come
abbrev pub step_number : ClosingStep → Option ℕ
step_number (Came n) = Some n
step_number NotCome = None

abbrev pub place_numbers : Place → List (Option ℕ)
place_numbers p = map step_number p.steps.items

-- one that has not come is greater than all
abbrev pub step_cmp : ClosingStep → ClosingStep → Ordering
step_cmp (Came m) (Came n) = nat_cmp m n
step_cmp (Came m) NotCome = Less
step_cmp NotCome (Came n) = Greater
step_cmp NotCome NotCome = Equal
