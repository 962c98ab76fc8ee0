-- Parts: equal documents, and reading back what was written.
use Rattle.std.proofs.Common.{◌≡◌, ℤ, List, ℕ, codes, Bool, false, Some, sym, ap, arith}
use Rattle.std.proofs.lemmas.Bool.{true≢false}
use Rattle.serde_json.specs.Data.{Data, null, boolean, number, string, array, object, Members, no_members, member}
use Rattle.serde_json.specs.Read.{read}
use Rattle.serde_json.specs.Written.{compact_text}
use Rattle.values.specs.declared.content.Content.{Content}
use Rattle.values.specs.declared.content.Content.TheVariants.{Record, Array, Variant, Counter}
use Rattle.values.specs.declared.value.Value.TheVariants.{Int}
use Rattle.values.specs.Words.{same_bytes}
use Rattle.values.specs.Totals.{IsCounter, counter_data}
use Rattle.values.specs.Contents.{content_data}
use Rattle.values.proofs.Documents.{IsReadable, IsReadable-value, read-compact_text, data_from_text}
use Rattle.values.proofs.Members.{IsReadable-under, value_from_data}
use Rattle.values.proofs.Contents.{content_from_data, IsReadable-stored}
use Rattle.atomic_types.specs.declared.part.Part.{Part}
use Rattle.atomic_types.specs.declared.part.Part.TheVariants.{Value, Delta}
use Rattle.store_tables.specs.PartTexts.{IsStoredPart, delta_data, part_data, part_text}

-- the name of an object's first member
begins_with : List ℕ → Members → Bool
begins_with name no_members = false
begins_with name (member k d ms) = same_bytes k name

is_under : List ℕ → Data → Bool
is_under name null = false
is_under name (boolean b) = false
is_under name (number n) = false
is_under name (string s) = false
is_under name (array ds) = false
is_under name (object ms) = begins_with name ms

pub no_content : (z : ℤ) (c : Content) → delta_data z ≡ content_data c → ⊥
unfolding is_under begins_with
no_content z (Record fields) e = true≢false (ap (is_under (codes "delta")) e)
no_content z (Array a) e = true≢false (ap (is_under (codes "delta")) e)
no_content z (Variant v) e = true≢false (ap (is_under (codes "delta")) e)
no_content z (Counter n) e = true≢false (ap (is_under (codes "delta")) e)

-- what stands under one name
pub same_under : (name : List ℕ) (d e : Data) → object (member name d no_members) ≡ object (member name e no_members) → d ≡ e
same_under name d e h = cc

-- deltas of one document are equal
pub delta_from_data : (y z : ℤ) → delta_data y ≡ delta_data z → y ≡ z
delta_from_data y z e =
    let under : counter_data y ≡ counter_data z = same_under (codes "delta") (counter_data y) (counter_data z) e in
    let same = value_from_data (Int y) (Int z) under in
    cc

pub part_from_data : (p q : Part) → part_data p ≡ part_data q → p ≡ q
part_from_data (Value c) (Value d) e = ap (λ v. Value v) (content_from_data c d e)
part_from_data (Value c) (Delta z) e = absurd (no_content z c (sym e))
part_from_data (Delta z) (Value c) e = absurd (no_content z c e)
part_from_data (Delta y) (Delta z) e = ap (λ v. Delta v) (delta_from_data y z e)

pub IsReadable-delta : (z : ℤ) → IsCounter z → IsReadable (delta_data z)
IsReadable-delta z h = IsReadable-under (codes "delta") (counter_data z) (IsReadable-value (Int z) h) (omega arith)

pub read-delta_text : (z : ℤ) → IsCounter z → read (compact_text (delta_data z)) ≡ Some (delta_data z)
read-delta_text z h = read-compact_text (delta_data z) (IsReadable-delta z h)

-- a part that was written is read back
pub read-part_text : (p : Part) → IsStoredPart p → read (part_text p) ≡ Some (part_data p)
read-part_text (Value c) h = read-compact_text (content_data c) (IsReadable-stored c h)
read-part_text (Delta z) h = read-delta_text z h

pub part_from_text : (p q : Part) → IsStoredPart p → IsStoredPart q → part_text p ≡ part_text q → p ≡ q
part_from_text p q fits other same = part_from_data p q (data_from_text (part_data p) (part_data q) (read-part_text p fits) (read-part_text q other) same)
