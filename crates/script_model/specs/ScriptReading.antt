-- How handlers, guardians, clients and whole scripts are read.
use Rattle.std.specs.Prelude.{ℕ, suc, List, [], ◌∷◌, ◌++◌, length, Bool, true, false, not, ◌&&◌, ◌||◌, if◌then◌else◌, nat_lt, is_some, codes, Option, Some, None, unwrap_or, slice_get}
use Rattle.limits.specs.Limits.{max_guardians, max_objects}
use Rattle.serde_json.specs.Data.{Data, null, boolean, number, string, array, object, Items, no_items, item, Members, no_members, member}
use Rattle.serde_json.specs.Find.{as_array, as_str, get_member}
use Rattle.values.specs.Words.{same_bytes}
use Rattle.values.specs.declared.value.Kind.{Kind}
use Rattle.values.specs.declared.content.Content.{Content}
use Rattle.script_model.specs.declared.fault.FaultKind.TheVariants as is
use Rattle.script_model.specs.declared.names.Gives.{Gives}
use Rattle.script_model.specs.declared.names.Gives.TheVariants.{Anything, Value}
use Rattle.script_model.specs.declared.names.Sort.TheVariants.{Int, Text}
use Rattle.script_model.specs.declared.checked.Handler.{Handler}
use Rattle.script_model.specs.declared.checked.Client.{Client}
use Rattle.script_model.specs.declared.checked.Checked.{Checked}
use Rattle.script_model.specs.Reading.{Read, reads, ask, need, at, nth, each, ◌>>=◌, ◌>>◌}
use Rattle.script_model.specs.Shapes.{the_object, the_two, the_three, the_pair, the_list, are_named, kind_in}
use Rattle.script_model.specs.Scopes.{Scope, find, count_bound, sort_of_kind}
use Rattle.script_model.specs.ContentReading.{content}
use Rattle.script_model.specs.StatementReading.{Context, body_in, the_guardian, the_name}
use Rattle.script_model.specs.Signatures.{max_handlers, gives_in}

-- ---- whether a body can end without a value

-- Only its last statement counts: a `return`, an `abort`, or an `if` whose two bodies end so, however they are formed
-- otherwise.
abbrev mutual
  pub ends : Data → Bool
  ends null = false
  ends (boolean b) = false
  ends (number n) = false
  ends (string s) = false
  ends (array ds) = last_ends ds
  ends (object ms) = false

  pub last_ends : Items → Bool
  last_ends no_items = false
  last_ends (item d no_items) = is_end d
  last_ends (item d (item e ds)) = last_ends (item e ds)

  pub is_end : Data → Bool
  is_end null = false
  is_end (boolean b) = false
  is_end (number n) = false
  is_end (string s) = false
  is_end (array ds) = false
  is_end (object ms) =
      (is_some (get_member (codes "return") ms) || is_some (get_member (codes "abort") ms))
      || first_if_ends ms

  -- of members of one name the first counts, as for the reading
  pub first_if_ends : Members → Bool
  first_if_ends no_members = false
  first_if_ends (member name d ms) =
      if same_bytes name (codes "if") then branches_end d else first_if_ends ms

  pub branches_end : Data → Bool
  branches_end null = false
  branches_end (boolean b) = false
  branches_end (number n) = false
  branches_end (string s) = false
  branches_end (array ds) = two_end ds
  branches_end (object ms) = false

  pub two_end : Items → Bool
  two_end no_items = false
  two_end (item c no_items) = false
  two_end (item c (item d no_items)) = false
  two_end (item c (item d (item e no_items))) = ends d && ends e
  two_end (item c (item d (item e (item f ds)))) = false

-- whether a handler of these documents of `gives` and a body may end without the value that it has to give
abbrev pub is_value : Option Gives → Bool
is_value (Some (Value k)) = true
is_value _ = false

abbrev pub may_lack_value : Option Gives → Data → Bool
may_lack_value gives body = (is_value gives && is_some (as_array body)) && not (ends body)

-- ---- handlers

-- how many parameters a handler has at most
abbrev pub max_params : ℕ
max_params = 8

-- a parameter with a name that the scope does not have
abbrev pub is_repeated : Scope → Option (List ℕ) → Bool
is_repeated scope None = false
is_repeated scope (Some name) = is_some (find scope name)

abbrev pub is_repeated_in : Scope → Data → Bool
is_repeated_in scope d = is_repeated scope (as_str d)

abbrev pub parameter : Scope → Data → Read Scope
parameter scope d = do
  p ← the_pair d
  ask (not (is_repeated_in scope p.0)) is.Shape
  name ← nth 0 (the_name p.0)
  k ← nth 1 (need (kind_in p.1) is.Shape)
  reads (record { name = name; sort = sort_of_kind k } ∷ scope)

-- parameters, the first of which has this index
abbrev pub parameters_from : ℕ → Scope → Items → Read Scope
parameters_from i scope no_items = reads scope
parameters_from i scope (item d ds) = do
  after ← nth i (parameter scope d)
  parameters_from (suc i) after ds

abbrev pub parameters : Data → Read Scope
parameters d = do
  ds ← the_list 0 max_params d
  parameters_from 0 [] ds

abbrev pub the_gives : Data → Read Gives
the_gives d = need (gives_in d) is.Shape

-- the kind of what is given, where it is a value
abbrev pub kind_given : Gives → Option Kind
kind_given (Value k) = Some k
kind_given _ = None

-- a guardian: its number, its objects, and the documents of all guardians
pub record Site : Type 0 where
  pub guardian : ℕ
  pub objects : List Content
  pub guardians : Items

abbrev pub context_at : Site → Gives → Context
context_at site gives =
    record { objects = site.objects; guardians = site.guardians; gives = gives; in_top = false }

-- a handler of this name, which is the one of this number in the script
abbrev pub handler : Site → ℕ → List ℕ → Data → Read Handler
handler site n name d = do
  parts ← the_three (codes "params") (codes "gives") (codes "body") d
  ask (nat_lt n max_handlers) is.Limit
  ask (not (may_lack_value (gives_in parts.1) parts.2)) is.Flow
  scope ← at (codes "params") (parameters parts.0)
  gives ← at (codes "gives") (the_gives parts.1)
  body ← at (codes "body") (body_in (context_at site gives) scope parts.2)
  reads (record {
    name = name;
    guardian = site.guardian;
    ints = count_bound Int scope;
    texts = count_bound Text scope;
    gives = kind_given gives;
    body = body;
  })

-- handlers, the first of which has this number
abbrev pub handlers_from : Site → ℕ → Members → Read (List Handler)
handlers_from site n no_members = reads []
handlers_from site n (member name d ms) = do
  h ← at name (handler site n name d)
  rest ← handlers_from site (suc n) ms
  reads (h ∷ rest)

abbrev pub handlers : Site → ℕ → Data → Read (List Handler)
handlers site n d = do
  ms ← the_object d
  ask (are_named ms) is.Shape
  handlers_from site n ms

-- ---- guardians

abbrev pub objects : Data → Read (List Content)
objects d = do
  ds ← the_list 0 max_objects d
  each content 0 ds

-- what guardians have: the objects of each, and the handlers of all
pub record Guardians : Type 0 where
  pub objects : List (List Content)
  pub handlers : List Handler

-- a guardian of this number; its first handler has that number in the script
abbrev pub guardian : Items → ℕ → ℕ → Data → Read (List Content × List Handler)
guardian guardians n first d = do
  parts ← the_two (codes "objects") (codes "handlers") d
  contents ← at (codes "objects") (objects parts.0)
  hs ← at (codes "handlers")
      (handlers (record { guardian = n; objects = contents; guardians = guardians }) first parts.1)
  reads (contents, hs)

-- those of a guardian of this number after those of the guardians before it
abbrev pub add_guardian : Items → ℕ → Guardians → Data → Read Guardians
add_guardian guardians n so_far d = do
  g ← guardian guardians n (length so_far.handlers) d
  reads (record { objects = so_far.objects ++ g.0 ∷ []; handlers = so_far.handlers ++ g.1 })

-- guardians, the first of which has this index, after those that were read
abbrev pub guardians_from : Items → ℕ → Guardians → Items → Read Guardians
guardians_from guardians i so_far no_items = reads so_far
guardians_from guardians i so_far (item d ds) = do
  g ← nth i (add_guardian guardians (suc i) so_far d)
  guardians_from guardians (suc i) g ds

abbrev pub guardians_in : Items → Items → Read Guardians
guardians_in guardians = guardians_from guardians 0 (record { objects = []; handlers = [] })

-- ---- clients

abbrev pub max_clients : ℕ
max_clients = 64

-- the objects of the guardian of this index
abbrev pub objects_of : List (List Content) → ℕ → List Content
objects_of all n = unwrap_or (slice_get all n) []

abbrev pub client : Items → List (List Content) → Data → Read Client
client guardians all d = do
  parts ← the_two (codes "home") (codes "body") d
  n ← at (codes "home") (the_guardian guardians parts.0)
  body ← at (codes "body") (body_in
      (context_at (record { guardian = suc n; objects = objects_of all n; guardians = guardians })
      Anything) [] parts.1)
  reads (record { home = suc n; body = body })

abbrev pub clients : Items → List (List Content) → Data → Read (List Client)
clients guardians all d = do
  ds ← the_list 1 max_clients d
  each (client guardians all) 0 ds

-- ---- the whole

-- a script, but for handlers that can reach themselves
abbrev pub script : Data → Read Checked
script d = do
  parts ← the_two (codes "guardians") (codes "clients") d
  ds ← at (codes "guardians") (the_list 1 max_guardians parts.0)
  gs ← at (codes "guardians") (guardians_in ds ds)
  cs ← at (codes "clients") (clients ds gs.objects parts.1)
  reads (record { guardians = gs.objects; handlers = gs.handlers; clients = cs })
