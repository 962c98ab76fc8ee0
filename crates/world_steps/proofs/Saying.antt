-- What is read of what is lent is what it says.
use Rattle.std.proofs.Common.{refl, subst, sym}
use Rattle.layer_contracts.specs.Forests.{ForestState}
use Rattle.layer_contracts.specs.Guardians.{GuardianState}
use Rattle.step_answers.specs.Saying.{Said}
use Rattle.world_steps.specs.Lending.{AreLent, IsSaidAlone, IsSaidByTwo, IsSaidHere, said_alone, said_here, said_two}

-- what holds of what is said in the states in which it is said holds of it
pub by_two : (P : Said → Type 0) {stands : ForestState → Type 0} {one other : GuardianState → Type 0} {s : Said} (says : IsSaidByTwo stands one other s)
    → P (said_two says.state says.a says.b) → P s
by_two P says h = subst P (sym says.said) h

pub by_forest : (P : Said → Type 0) {stands : ForestState → Type 0} {s : Said} (says : IsSaidAlone stands s) → P (said_alone says.state) → P s
by_forest P says h = subst P (sym says.said) h

pub by_guardian : (P : Said → Type 0) {stands : GuardianState → Type 0} {s : Said} (says : IsSaidHere stands s) → P (said_here says.state) → P s
by_guardian P says h = subst P (sym says.said) h

-- what is lent says something
pub two_say : (stands : ForestState → Type 0) (one other : GuardianState → Type 0) (f : ForestState) (a b : GuardianState) → AreLent stands one other f a b
    → IsSaidByTwo stands one other (said_two f a b)
two_say stands one other f a b lent = record { state = f; a = a; b = b; lent = lent; said = refl }

pub forest_says : (stands : ForestState → Type 0) (f : ForestState) → stands f → IsSaidAlone stands (said_alone f)
forest_says stands f stood = record { state = f; forest = stood; said = refl }

pub guardian_says : (stands : GuardianState → Type 0) (x : GuardianState) → stands x → IsSaidHere stands (said_here x)
guardian_says stands x stood = record { state = x; guardian = stood; said = refl }
