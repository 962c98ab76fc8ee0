-- Parts that suit an object: what is installed over one suits too.
use Rattle.std.proofs.Common.{None, Option, Some, refl, true, ℤ, ◌≡◌}
use Rattle.std.proofs.lemmas.Bool.{false≢true}
use Rattle.values.specs.declared.content.Content.{Content}
use Rattle.values.specs.declared.content.Content.TheVariants.{Array, Counter, Record, Variant}
use Rattle.values.specs.declared.value.Value.TheVariants.{Int}
use Rattle.atomic_types.specs.declared.operation.Operation.TheVariants.{Add}
use Rattle.atomic_types.specs.declared.part.Part.{Part}
use Rattle.atomic_types.specs.declared.part.Part.TheVariants.{Delta, Value}
use Rattle.atomic_types.specs.Objects.{content_after}
use Rattle.atomic_types.specs.Parts.{laid_where, over}
use Rattle.run_model.specs.StableContent.{installed_over}
use Rattle.store_recovery.specs.Belonging.{is_counter, same_type, suits}
use Rattle.restart_laws.proofs.Types.{type_itself, type_through}

-- what stands in the store of this object, if anything, suits it
abbrev pub SuitsWhere : Option Content → Option Part → Type 0
SuitsWhere object None = Unit {0}
SuitsWhere object (Some part) = suits object part ≡ true

added_type : (c d : Content) (z : ℤ) → is_counter c ≡ true → same_type c d ≡ true → same_type c (content_after d (Add (Int z))) ≡ true
added_type (Counter n) (Counter m) z h k = refl
added_type (Counter n) _ z h k = absurd (false≢true k)
added_type _ d z h k = absurd (false≢true h)

-- a part that is installed over another
pub over_suits : (object : Option Content) (part : Part) (old : Option Part) → suits object part ≡ true → SuitsWhere object old
    → suits object (over part old) ≡ true
over_suits None part old h k = absurd (false≢true h)
over_suits (Some c) (Value v) old h k = h
over_suits (Some c) (Delta z) None h k = h
over_suits (Some c) (Delta z) (Some (Value v)) h k = added_type c v z h k
over_suits (Some c) (Delta z) (Some (Delta y)) h k = h

pub installed_suits : (object : Option Content) (new old : Option Part) → SuitsWhere object new → SuitsWhere object old
    → SuitsWhere object (installed_over new old)
installed_suits object None old h k = k
installed_suits object (Some part) old h k = over_suits object part old h k

-- what is laid on a content of the setup is of its type
pub laid_type : (c : Content) (part : Option Part) → SuitsWhere (Some c) part → same_type c (laid_where part c) ≡ true
laid_type c None h = type_itself c
laid_type c (Some (Value v)) h = h
laid_type c (Some (Delta z)) h = added_type c c z h (type_itself c)

counts_too : (c d : Content) → same_type c d ≡ true → is_counter d ≡ true → is_counter c ≡ true
counts_too (Counter n) d h k = refl
counts_too (Record fs) (Counter m) h k = absurd (false≢true h)
counts_too (Array a) (Counter m) h k = absurd (false≢true h)
counts_too (Variant v) (Counter m) h k = absurd (false≢true h)
counts_too c _ h k = absurd (false≢true k)

-- what suits a content suits each of its type
pub suits_through : (c d : Content) (part : Part) → same_type c d ≡ true → suits (Some d) part ≡ true → suits (Some c) part ≡ true
suits_through c d (Value v) h k = type_through c d v h k
suits_through c d (Delta z) h k = counts_too c d h k
