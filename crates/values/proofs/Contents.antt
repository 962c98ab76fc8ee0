-- Contents: equal documents, and reading back what was written.
use Rattle.std.proofs.Common.{◌≡◌, ℕ, List, codes, Bool, false, Some, ℤ, ap, arith}
use Rattle.std.proofs.lemmas.Bool.{true≢false}
use Rattle.std.proofs.lemmas.Int.{ints}
use Rattle.serde_json.specs.Data.{Data, null, boolean, number, string, array, object, Members, no_members, member}
use Rattle.serde_json.specs.Read.{read}
use Rattle.values.specs.declared.content.Content.{Content}
use Rattle.values.specs.declared.content.Content.TheVariants.{Record, Array, Variant, Counter}
use Rattle.values.specs.declared.value.Value.TheVariants.{Int}
use Rattle.values.specs.Words.{same_bytes}
use Rattle.values.specs.Values.{IsValue}
use Rattle.values.specs.Fields.{field_members}
use Rattle.values.specs.Items.{ArrayContent, HasArrayForm, array_data}
use Rattle.values.specs.Tags.{variant_data}
use Rattle.values.specs.Totals.{counter_data}
use Rattle.values.specs.Contents.{IsContent, IsStoredContent, content_data, content_text}
use Rattle.values.proofs.Documents.{IsReadable, IsReadable-value, read-compact_text}
use Rattle.values.proofs.Members.{fields_from_members, value_from_data, each_reads_back, IsReadable-fields, IsReadable-under, depth-fields}
use Rattle.values.proofs.Items.{array_from_data, IsReadable-array, depth-array}
use Rattle.values.proofs.Tags.{variant_from_data, IsReadable-variant, depth-variant}

-- ---- equal documents

-- the name of an object's first member
begins_with : List ℕ → Members → Bool
begins_with name no_members = false
begins_with name (member k d ms) = same_bytes k name

is_under : List ℕ → Data → Bool
is_under name null = false
is_under name (boolean b) = false
is_under name (number n) = false
is_under name (string s) = false
is_under name (array ds) = false
is_under name (object ms) = begins_with name ms

same_under : (name : List ℕ) (d e : Data) → object (member name d no_members) ≡ object (member name e no_members) → d ≡ e
same_under name d e h = cc

-- counters of one document are equal
counter_from_data : (m n : ℤ) → counter_data m ≡ counter_data n → m ≡ n
counter_from_data m n e = let same = value_from_data (Int m) (Int n) e in cc

pub content_from_data : (c d : Content) → content_data c ≡ content_data d → c ≡ d
unfolding is_under begins_with
content_from_data (Record fields) (Record others) e = ap Record (fields_from_members fields others (let h = same_under (codes "record") (object (field_members fields)) (object (field_members others)) e in cc))
content_from_data (Record fields) (Array a) e = absurd (true≢false (ap (is_under (codes "record")) e))
content_from_data (Record fields) (Variant v) e = absurd (true≢false (ap (is_under (codes "record")) e))
content_from_data (Array a) (Record others) e = absurd (true≢false (ap (is_under (codes "array")) e))
content_from_data (Array a) (Array b) e = ap Array (array_from_data a b (same_under (codes "array") (array_data a) (array_data b) e))
content_from_data (Array a) (Variant v) e = absurd (true≢false (ap (is_under (codes "array")) e))
content_from_data (Variant v) (Record others) e = absurd (true≢false (ap (is_under (codes "variant")) e))
content_from_data (Variant v) (Array b) e = absurd (true≢false (ap (is_under (codes "variant")) e))
content_from_data (Record fields) (Counter n) e = absurd (true≢false (ap (is_under (codes "record")) e))
content_from_data (Array a) (Counter n) e = absurd (true≢false (ap (is_under (codes "array")) e))
content_from_data (Variant v) (Counter n) e = absurd (true≢false (ap (is_under (codes "variant")) e))
content_from_data (Counter n) (Record others) e = absurd (true≢false (ap (is_under (codes "counter")) e))
content_from_data (Counter n) (Array b) e = absurd (true≢false (ap (is_under (codes "counter")) e))
content_from_data (Counter n) (Variant v) e = absurd (true≢false (ap (is_under (codes "counter")) e))
content_from_data (Counter n) (Counter m) e = ap Counter (counter_from_data n m (same_under (codes "counter") (counter_data n) (counter_data m) e))
content_from_data (Variant v) (Variant w) e = ap Variant (variant_from_data v w (same_under (codes "variant") (variant_data v) (variant_data w) e))

-- ---- reading back

-- the low index is a number of signed 64 bits
low_fits : (a : ArrayContent) → HasArrayForm a → IsValue (Int a.low)
low_fits a h = let low = h.low in let high = h.high in omega (arith, ints)

pub IsReadable-stored : (c : Content) → IsStoredContent c → IsReadable (content_data c)
IsReadable-stored (Record fields) h =
    IsReadable-under (codes "record") (object (field_members fields)) (IsReadable-fields fields h.rising (each_reads_back fields h.each)) (omega (arith, depth-fields fields))
IsReadable-stored (Array a) h = IsReadable-under (codes "array") (array_data a) (IsReadable-array a h.each (low_fits a h.form)) (omega (arith, depth-array a))
IsReadable-stored (Counter n) h = IsReadable-under (codes "counter") (counter_data n) (IsReadable-value (Int n) h) (omega arith)
IsReadable-stored (Variant v) h = IsReadable-under (codes "variant") (variant_data v) (IsReadable-variant v h) (omega (arith, depth-variant v))

pub stored : (c : Content) → IsContent c → IsStoredContent c
stored (Record fields) h = h
stored (Array a) h = h.stored
stored (Variant v) h = h
stored (Counter n) h = h

-- a stored content that was written is read back
pub read-stored_text : (c : Content) → IsStoredContent c → read (content_text c) ≡ Some (content_data c)
read-stored_text c h = read-compact_text (content_data c) (IsReadable-stored c h)

-- a content that was written is read back
pub read-content_text : (c : Content) → IsContent c → read (content_text c) ≡ Some (content_data c)
read-content_text c h = read-stored_text c (stored c h)
