-- The variables that are bound, as they are kept: a list of names, the newest last, a map from names to variables,
-- and counts.
use Rattle.std.specs.Prelude.{◌≡◌, ℕ, List, [], ◌∷◌, None, option_map}
use Rattle.std.specs.Ordering.{nat_cmp}
use Rattle.std.specs.Cmp.Lexicographic.{slice_cmp}
use Rattle.std.specs.BTreeMap.{BTreeMap, get_by}
use denote.Ref.{Bor}
use Rattle.script_model.specs.declared.names.Sort.{Sort}
use Rattle.script_model.specs.declared.names.Sort.TheVariants.{Int, Text, Truth, Unknown}
use Rattle.script_model.specs.Scopes.{Bound, Scope, Variable, find, count_bound}
use Rattle.script_parts.specs.declared.scope.Bound as kept
use Rattle.script_parts.specs.declared.scope.Variable as variable
use Rattle.script_parts.specs.declared.scope.Counts.{Counts}

-- a variable, as the reading has it
abbrev pub variable_of : variable.Variable → Variable
variable_of v = record { sort = v.sort; place = v.place }

abbrev pub bound_of : kept.Bound → Bound
bound_of b = record { name = b.name.now; sort = b.sort }

-- the scope with these names bound after it
abbrev pub onto : Scope → List kept.Bound → Scope
onto scope [] = scope
onto scope (b ∷ bs) = onto (bound_of b ∷ scope) bs

abbrev pub scope_of : List kept.Bound → Scope
scope_of bs = onto [] bs

abbrev pub count_of : Counts → Sort → ℕ
count_of c Int = c.ints
count_of c Text = c.texts
count_of c Truth = c.truths
count_of c Unknown = c.unknown

-- each name is bound once
abbrev pub IsFresh : Scope → Type 0
IsFresh [] = Unit {0}
IsFresh (b ∷ earlier) = (find earlier b.name ≡ None) × IsFresh earlier

abbrev pub Variables : Type 0
Variables = BTreeMap (Bor (List ℕ)) variable.Variable

-- the map and the counts are those of the scope
pub record IsKept (scope : Scope) (variables : Variables) (counts : Counts) : Type 0 where
  pub found : (name : List ℕ)
      → option_map variable_of (get_by (λ k. slice_cmp nat_cmp name k.now) variables)
      ≡ find scope name
  pub counted : (sort : Sort) → count_of counts sort ≡ count_bound sort scope
  pub fresh : IsFresh scope
