-- How the opening contents of objects are read.
use Rattle.std.specs.Prelude.{ℕ, ℤ, pos, ◌+ℤ◌, ◌-ℤ◌, int_le, List, [], ◌∷◌, Bool, true, ◌&&◌, ◌||◌, nat_le, codes, if◌then◌else◌, Option, Some, None}
use Rattle.serde_json.specs.Events.{members_len, items_len}
use Rattle.serde_json.specs.Data.{Data, number, string, array, Members, no_members, member}
use Rattle.serde_json.specs.Find.{as_i64}
use Rattle.values.specs.Words.{same_bytes}
use Rattle.values.specs.declared.value.Kind.{Kind}
use Rattle.values.specs.declared.value.Kind.TheVariants as kind
use Rattle.values.specs.declared.value.Value.{Value}
use Rattle.values.specs.declared.value.Value.TheVariants as value
use Rattle.values.specs.declared.record.Field.{Field}
use Rattle.values.specs.declared.variant.Tag.{Tag}
use Rattle.values.specs.declared.content.Content.{Content}
use Rattle.values.specs.declared.content.Content.TheVariants.{Record, Array, Variant, Counter}
use Rattle.values.specs.Values.{same_kind}
use Rattle.values.specs.Fields.{max_fields}
use Rattle.values.specs.Items.{max_items, least_index, greatest_index}
use Rattle.values.specs.Tags.{max_tags, tag_kind}
use Rattle.script_model.specs.declared.fault.FaultKind.TheVariants as is
use Rattle.script_model.specs.Reading.{Read, reads, fault, ask, need, at, each, ◌>>=◌, ◌>>◌}
use Rattle.script_model.specs.Shapes.{only_member, the_object, the_string, the_int, the_list, the_three, are_named, kind_in}
use Rattle.script_model.specs.ExpressionReading.{short_text}

-- whether a value of this kind fits where that kind is wanted, or any
abbrev pub is_wanted : Option Kind → Kind → Bool
is_wanted None k = true
is_wanted (Some wanted) k = same_kind wanted k

abbrev pub int_value : Option ℤ → Read Value
int_value None = fault is.Shape
int_value (Some z) = reads (value.Int z)

abbrev pub text_value : Option Kind → List ℕ → Read Value
text_value wanted s = do
  ask (is_wanted wanted kind.Text) is.Kind
  short ← short_text s
  reads (value.Text short)

-- a value of a kind that is wanted
abbrev pub value_in : Option Kind → Data → Read Value
value_in wanted (number n) = do
  v ← int_value (as_i64 n)
  ask (is_wanted wanted kind.Int) is.Kind
  reads v
value_in wanted (string s) = text_value wanted s
value_in wanted _ = fault is.Shape

-- ---- records

abbrev pub fields_in : Members → Read (List Field)
fields_in no_members = reads []
fields_in (member name d ms) = do
  v ← at name (value_in None d)
  fields ← fields_in ms
  reads (record { name = name; value = v } ∷ fields)

-- the names of members, and how many there are
abbrev pub ask_names : ℕ → Members → Read (Unit {0})
ask_names most ms = do
  ask (are_named ms) is.Shape
  ask (nat_le 1 (members_len ms) && nat_le (members_len ms) most) is.Limit

abbrev pub record_in : Data → Read Content
record_in d = do
  ms ← the_object d
  ask_names max_fields ms
  fields ← fields_in ms
  reads (Record fields)

-- ---- arrays

-- whether so many items from this index on lie within the bounds; where there are none, the index itself does
abbrev pub is_low : ℤ → ℕ → Bool
is_low low count =
    (int_le least_index low && int_le low greatest_index)
    && ((nat_le count 0) || int_le ((low +ℤ pos count) -ℤ pos 1) greatest_index)

abbrev pub items_of : Data → ℕ
items_of (array ds) = items_len ds
items_of _ = 0

abbrev pub items_in : Kind → Data → Read (List Value)
items_in k d = do
  ds ← the_list 0 max_items d
  each (value_in (Some k)) 0 ds

abbrev pub array_in : Data → Read Content
array_in d = do
  (items, low, of) ← the_three (codes "items") (codes "low") (codes "of") d
  k ← at (codes "of") (need (kind_in of) is.Shape)
  first ← at (codes "low") (the_int low)
  at (codes "low") (ask (is_low first (items_of items)) is.Limit)
  values ← at (codes "items") (items_in k items)
  reads (Array (record { kind = k; low = first; items = values }))

-- ---- variants

abbrev pub tags_in : Members → Read (List Tag)
tags_in no_members = reads []
tags_in (member name d ms) = do
  k ← at name (need (kind_in d) is.Shape)
  tags ← tags_in ms
  reads (record { name = name; kind = k } ∷ tags)

abbrev pub tag_list : Data → Read (List Tag)
tag_list d = do
  ms ← the_object d
  ask_names max_tags ms
  tags_in ms

abbrev pub variant_in : Data → Read Content
variant_in d = do
  (tag, tags, held) ← the_three (codes "tag") (codes "tags") (codes "value") d
  found ← at (codes "tags") (tag_list tags)
  name ← at (codes "tag") (the_string tag)
  k ← at (codes "tag") (need (tag_kind found name) is.Operation)
  v ← at (codes "value") (value_in (Some k) held)
  reads (Variant (record { tags = found; tag = name; value = v }))

-- ---- counters

abbrev pub counter_in : Data → Read Content
counter_in d = do
  n ← the_int d
  reads (Counter n)

-- ---- any content

abbrev pub content_member : List ℕ → Data → Read Content
content_member name d =
    if same_bytes name (codes "record") then at (codes "record") (record_in d)
    else (if same_bytes name (codes "array") then at (codes "array") (array_in d)
    else (if same_bytes name (codes "variant") then at (codes "variant") (variant_in d)
    else (if same_bytes name (codes "counter") then at (codes "counter") (counter_in d)
    else fault is.Shape)))

abbrev pub content_of : Option (List ℕ × Data) → Read Content
content_of None = fault is.Shape
content_of (Some p) = content_member p.0 p.1

abbrev pub content : Data → Read Content
content d = content_of (only_member d)
