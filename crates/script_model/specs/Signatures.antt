-- What calls have to know of handlers, however ill these are formed, and which one a name means.
use Rattle.std.specs.Prelude.{ℕ, zero, suc, ◌+◌, min, List, Bool, true, codes, if◌then◌else◌, ◌==◌, Option, Some, None, option_map, option_and_then, unwrap_or}
use Rattle.serde_json.specs.Events.{items_len, members_len}
use Rattle.serde_json.specs.Data.{Data, Items, no_items, item, Members, no_members, member}
use Rattle.serde_json.specs.Find.{get, get_item, get_member, as_array, as_object, as_str}
use Rattle.values.specs.Words.{same_bytes}
use Rattle.values.specs.declared.value.Kind.{Kind}
use Rattle.script_model.specs.declared.names.Gives.{Gives}
use Rattle.script_model.specs.declared.names.Gives.TheVariants.{Anything, Nothing, Value}
use Rattle.script_model.specs.declared.names.Sort.{Sort}
use Rattle.script_model.specs.declared.names.Sort.TheVariants.{Unknown}
use Rattle.script_model.specs.Shapes.{two_items, kind_in, kind_named}
use Rattle.script_model.specs.Scopes.{sort_of_kind}

-- how many handlers a script has at most
abbrev pub max_handlers : ℕ
max_handlers = 64

-- the handlers of a guardian, from its document
abbrev pub handlers_in : Data → Members
handlers_in d = unwrap_or (option_and_then as_object (get (codes "handlers") d)) no_members

-- the place of a name among members, counted no further than a script may have handlers
abbrev pub place_among : ℕ → List ℕ → Members → ℕ
place_among zero name ms = 0
place_among (suc most) name no_members = 0
place_among (suc most) name (member n d ms) =
    if same_bytes n name then 0 else suc (place_among most name ms)

-- how many handlers the first guardians have, each counted no further than a script may have them
abbrev pub handlers_before : ℕ → Items → ℕ
handlers_before zero guardians = 0
handlers_before (suc n) no_items = 0
handlers_before (suc n) (item d ds) =
    min (members_len (handlers_in d)) max_handlers + handlers_before n ds

-- the number of a handler among those of the script; a script in which it is counted wrongly has too many handlers
abbrev pub handler_number : Items → ℕ → List ℕ → ℕ
handler_number guardians n name =
    handlers_before n guardians + place_among max_handlers name
    (unwrap_or (option_map handlers_in (get_item n guardians)) no_members)

-- the document of a handler of this name
abbrev pub handler_found : Items → ℕ → List ℕ → Option Data
handler_found guardians n name =
    option_and_then (λ d. get_member name (handlers_in d)) (get_item n guardians)

-- its parameters' documents, where they are a list
abbrev pub params_in : Data → Option Items
params_in handler = option_and_then as_array (get (codes "params") handler)

-- the kind of a parameter: the second of a pair
abbrev pub param_kind : Data → Option Kind
param_kind d = option_and_then (λ p. kind_in p.1) (option_and_then two_items (as_array d))

-- the kind that the argument at this index is to have, where the handler says it
abbrev pub wanted_kind : Data → ℕ → Option Kind
wanted_kind handler i =
    option_and_then (λ ds. option_and_then param_kind (get_item i ds)) (params_in handler)

-- whether a handler takes so many arguments, as far as it says
abbrev pub takes_count : Data → ℕ → Bool
takes_count handler n = unwrap_or (option_map (λ ds. items_len ds == n) (params_in handler)) true

abbrev pub gives_named : List ℕ → Option Gives
gives_named name =
    if same_bytes name (codes "none") then Some Nothing else option_map Value (kind_named name)

abbrev pub gives_in : Data → Option Gives
gives_in d = option_and_then gives_named (as_str d)

-- what a handler gives; where it does not say it, that may be anything
abbrev pub handler_gives : Data → Gives
handler_gives handler = unwrap_or (option_and_then gives_in (get (codes "gives") handler)) Anything

-- the sort of what is given, where a value is
abbrev pub sort_given : Gives → Option Sort
sort_given Anything = Some Unknown
sort_given Nothing = None
sort_given (Value k) = Some (sort_of_kind k)
