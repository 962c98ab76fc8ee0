-- The shapes of a document's parts.
use Rattle.std.specs.Prelude.{ℕ, ℤ, List, [], ◌∷◌, Bool, true, ◌&&◌, nat_le, if◌then◌else◌, Option, Some, None, option_and_then, option_map}
use Rattle.std.specs.List.{list_any}
use Rattle.serde_json.specs.Data.{Data, Items, no_items, item, Members, no_members, member}
use Rattle.serde_json.specs.Find.{get_member, as_number, as_str, as_array, as_object, as_i64}
use Rattle.serde_json.specs.Events.{items_len}
use Rattle.values.specs.Words.{same_bytes, is_identifier}
use Rattle.values.specs.Values.{kind_name}
use Rattle.values.specs.declared.value.Kind.{Kind}
use Rattle.values.specs.declared.value.Kind.TheVariants as kind
use Rattle.script_model.specs.declared.fault.FaultKind.TheVariants.{Shape, Limit}
use Rattle.script_model.specs.Reading.{Read, reads, need, ask, ◌>>=◌, ◌>>◌}

-- the members of an object, the elements of an array, the characters of a string, an int of signed 64 bits
abbrev pub int_of : Data → Option ℤ
int_of d = option_and_then as_i64 (as_number d)

abbrev pub the_object : Data → Read Members
the_object d = need (as_object d) Shape

abbrev pub the_array : Data → Read Items
the_array d = need (as_array d) Shape

abbrev pub the_string : Data → Read (List ℕ)
the_string d = need (as_str d) Shape

abbrev pub the_int : Data → Read ℤ
the_int d = need (int_of d) Shape

-- ---- objects

abbrev pub is_among : List (List ℕ) → List ℕ → Bool
is_among names name = list_any (λ n. same_bytes n name) names

-- whether no member has another name than these
abbrev pub has_only : List (List ℕ) → Members → Bool
has_only names no_members = true
has_only names (member n d ms) = is_among names n && has_only names ms

-- whether each member's name is an identifier
abbrev pub are_named : Members → Bool
are_named no_members = true
are_named (member n d ms) = is_identifier n && are_named ms

-- the members of these names, where an object has these and no other
abbrev pub two_members : List ℕ → List ℕ → Members → Option (Data × Data)
two_members m n ms = if has_only (m ∷ n ∷ []) ms
    then option_and_then (λ d. option_map (λ e. (d, e)) (get_member n ms)) (get_member m ms)
    else None

abbrev pub three_members : List ℕ → List ℕ → List ℕ → Members → Option (Data × Data × Data)
three_members l m n ms =
    if has_only (l ∷ m ∷ n ∷ []) ms
    then option_and_then
    (λ d. option_and_then (λ e. option_map (λ f. (d, e, f)) (get_member n ms)) (get_member m ms))
    (get_member l ms)
    else None

abbrev pub the_two : List ℕ → List ℕ → Data → Read (Data × Data)
the_two m n d = need (option_and_then (two_members m n) (as_object d)) Shape

abbrev pub the_three : List ℕ → List ℕ → List ℕ → Data → Read (Data × Data × Data)
the_three l m n d = need (option_and_then (three_members l m n) (as_object d)) Shape

-- the one member of an object that has no other
abbrev pub only_one : Members → Option (List ℕ × Data)
only_one no_members = None
only_one (member n d no_members) = Some (n, d)
only_one (member n d (member m e ms)) = None

abbrev pub only_member : Data → Option (List ℕ × Data)
only_member d = option_and_then only_one (as_object d)

-- ---- arrays

abbrev pub two_items : Items → Option (Data × Data)
two_items no_items = None
two_items (item d no_items) = None
two_items (item d (item e no_items)) = Some (d, e)
two_items (item d (item e (item f ds))) = None

abbrev pub three_items : Items → Option (Data × Data × Data)
three_items no_items = None
three_items (item d ds) = option_map (λ p. (d, p.0, p.1)) (two_items ds)

-- an array of two, or of three
abbrev pub the_pair : Data → Read (Data × Data)
the_pair d = need (option_and_then two_items (as_array d)) Shape

abbrev pub the_triple : Data → Read (Data × Data × Data)
the_triple d = need (option_and_then three_items (as_array d)) Shape

-- an array with so many elements, at least and at most
abbrev pub the_list : ℕ → ℕ → Data → Read Items
the_list least most d = do
  ds ← the_array d
  ask (nat_le least (items_len ds) && nat_le (items_len ds) most) Limit
  reads ds

-- ---- words

-- the kind that is named
abbrev pub kind_named : List ℕ → Option Kind
kind_named name =
    if same_bytes name (kind_name kind.Int) then Some kind.Int
    else (if same_bytes name (kind_name kind.Text) then Some kind.Text else None)

abbrev pub kind_in : Data → Option Kind
kind_in d = option_and_then kind_named (as_str d)
