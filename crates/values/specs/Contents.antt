-- What objects hold, and a content's one spelling as JSON.
use Rattle.std.specs.Prelude.{ℕ, List, codes}
use Rattle.serde_json.specs.Data.{Data, object, no_members, member}
use Rattle.serde_json.specs.Written.{compact_text}
use Rattle.values.specs.declared.content.Content.{Content}
use Rattle.values.specs.declared.content.Content.TheVariants.{Record, Array, Variant, Counter}
pub use Rattle.values.specs.Fields.{max_fields, IsField, HasRisingNames, IsRecord, HasRecordForm, field_value, set_field, field_members}
pub use Rattle.values.specs.Items.{ArrayContent, IsArray, IsStoredArray, array_data}
pub use Rattle.values.specs.Tags.{VariantContent, IsVariant, variant_data}
pub use Rattle.values.specs.Totals.{IsCounter, counter_data}

-- what is within the limits, as a setup may hold it
abbrev pub IsContent : Content → Type 0
IsContent (Record fields) = IsRecord fields
IsContent (Array a) = IsArray a
IsContent (Variant v) = IsVariant v
IsContent (Counter n) = IsCounter n

-- what a store may hold: also an array that was emptied at the greatest index
abbrev pub IsStoredContent : Content → Type 0
IsStoredContent (Record fields) = IsRecord fields
IsStoredContent (Array a) = IsStoredArray a
IsStoredContent (Variant v) = IsVariant v
IsStoredContent (Counter n) = IsCounter n

-- the JSON document that a content is
abbrev pub content_data : Content → Data
content_data (Record fields) =
    object (member (codes "record") (object (field_members fields)) no_members)
content_data (Array a) = object (member (codes "array") (array_data a) no_members)
content_data (Variant v) = object (member (codes "variant") (variant_data v) no_members)
content_data (Counter n) = object (member (codes "counter") (counter_data n) no_members)

-- its one spelling: no white space, the members of each object in byte order of their names
abbrev pub content_text : Content → List ℕ
content_text c = compact_text (content_data c)
