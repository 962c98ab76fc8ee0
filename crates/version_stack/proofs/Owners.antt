-- What the owners of versions, the lowest first, tell of these versions.
use Rattle.std.proofs.Common.{◌≡◌, suc, ◌-◌, List, [], ◌∷◌, length, refl, arith}
use Rattle.std.specs.Prelude.{slice_get}
use Rattle.action_names.specs.Names.{Name}
use Rattle.object_model.specs.Stacks.{last_owner, owners_of}

module _ {T : Type 0} where
  -- the last of several owners has the version on top
  last_of : (v : Name × T) (vs : List (Name × T)) → slice_get (owners_of (v ∷ vs)) (length (owners_of vs)) ≡ last_owner (v ∷ vs)
  last_of v [] = refl
  last_of v (w ∷ vs) = last_of w vs

  -- the last owner has the version on top
  pub last_on_top : (vs : List (Name × T)) → slice_get (owners_of vs) (length (owners_of vs) - 1) ≡ last_owner vs
  last_on_top [] = refl
  last_on_top (v ∷ vs) =
      let one_less : suc (length (owners_of vs)) - 1 ≡ length (owners_of vs) = omega arith in
      rw one_less (last_of v vs)
