-- What an action holds of an object is its version, or else its delta.
use Rattle.std.proofs.Common.{Bool, None, Some, ap₂, cond, false, refl, sym, true, ◌∙◌, ◌≡◌, ℤ}
use Rattle.action_names.specs.Names.{has_name}
use Rattle.values.specs.declared.content.Content.{Content}
use Rattle.atomic_types.specs.declared.part.Part.TheVariants.{Delta, Value}
use Rattle.run_model.specs.Versions.{adders_by, delta_by, owners_by, version_by}
use Rattle.object_model.specs.Objects.{part_in}
use Rattle.object_laws.specs.Laws.{PartsShown}
use Rattle.object_laws.specs.Shown.{only_if}
use Rattle.object_laws.proofs.parts_shown.Goals as goal

parts_shown : PartsShown
parts_shown c s object a shows =
    of (has_name (owners_by s) a) (has_name (adders_by s) a) (version_by c s a) (delta_by s a)
    ∙ sym (ap₂ (λ v d. part_in v d) (shows.versions a) (shows.deltas a))
  where
    of : (w d : Bool) (v : Content) (z : ℤ)
        → cond w (Some (Value v)) (cond d (Some (Delta z)) None) ≡ part_in (only_if w v) (only_if d z)
    of true true v z = refl
    of true false v z = refl
    of false true v z = refl
    of false false v z = refl

pub returns : goal.returns
returns c = parts_shown
