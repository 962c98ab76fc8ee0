-- Variables: their sorts, and the frames in which they have places.
use Rattle.std.specs.Prelude.{ℕ, suc, List, [], ◌∷◌, Bool, true, false, if◌then◌else◌, Option, Some, None}
use Rattle.values.specs.Words.{same_bytes}
use Rattle.values.specs.declared.value.Kind.{Kind}
use Rattle.values.specs.declared.value.Kind.TheVariants as kind
use Rattle.script_model.specs.declared.names.Sort.{Sort}
use Rattle.script_model.specs.declared.names.Sort.TheVariants.{Int, Text, Truth, Unknown}
use Rattle.script_model.specs.declared.statement.Binding.{Binding}
use Rattle.script_model.specs.declared.statement.Binding.TheVariants as binding

abbrev pub same_sort : Sort → Sort → Bool
same_sort Int Int = true
same_sort Text Text = true
same_sort Truth Truth = true
same_sort Unknown Unknown = true
same_sort _ _ = false

-- what is unknown agrees with everything
abbrev pub agree : Sort → Sort → Bool
agree Unknown t = true
agree s Unknown = true
agree Int Int = true
agree Text Text = true
agree Truth Truth = true
agree _ _ = false

abbrev pub sort_of_kind : Kind → Sort
sort_of_kind kind.Int = Int
sort_of_kind kind.Text = Text

pub record Bound : Type 0 where
  pub name : List ℕ
  pub sort : Sort

-- the variables that are bound, the newest first
abbrev pub Scope : Type 0
Scope = List Bound

-- how many variables of a sort are bound
abbrev pub count_bound : Sort → Scope → ℕ
count_bound sort [] = 0
count_bound sort (b ∷ earlier) =
    if same_sort b.sort sort then suc (count_bound sort earlier) else count_bound sort earlier

-- a variable's place is the number of variables of its sort that were bound before it
pub record Variable : Type 0 where
  pub sort : Sort
  pub place : ℕ

abbrev pub find : Scope → List ℕ → Option Variable
find [] name = None
find (b ∷ earlier) name =
    if same_bytes b.name name
    then Some (record { sort = b.sort; place = count_bound b.sort earlier }) else find earlier name

-- a reply of this sort, bound at this place
abbrev pub binding_of : Sort → Option ℕ → Binding
binding_of Int place = binding.Int place
binding_of Text place = binding.Text place
binding_of Truth place = binding.Truth place
binding_of Unknown place = binding.Nothing

-- a reply that is bound to a variable again
abbrev pub binding_again : Sort → Variable → Binding
binding_again sort v =
    if same_sort v.sort Unknown then binding_of sort None else binding_of sort (Some v.place)
