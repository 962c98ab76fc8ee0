-- The spelling of a part that a store may hold is UTF-8.
use Rattle.std.proofs.Common.{◌≡◌, ℕ, ℤ, pos, negsuc, suc, length, ◌+ℤ◌, ◌-ℤ◌, ◌≤ℤ◌, Bool, true, false, nat_lt, List, [], ◌∷◌, ◌++◌, codes, IsUtf8, arith, refl}
use Rattle.std.proofs.lemmas.Bool.Decides.{nat_tests}
use Rattle.std.specs.Fmt.{decimal}
use Rattle.std.specs.List.{AllByRecursion, list_all}
use Rattle.std.proofs.lemmas.Bool.{and_parts}
use Rattle.std.proofs.lemmas.Fmt.{IsAscii-decimal}
use Rattle.std.proofs.lemmas.Int.{ints}
use Rattle.std.proofs.lemmas.Str.{IsUtf8-append, IsUtf8-nil, IsUtf8-from_ascii}
use Rattle.json.proofs.Printed.Utf8.{are_ascii, IsUtf8-are_ascii, IsUtf8-quoted}
use Rattle.serde_json.specs.Data.{Data, number, string, array, object, Items, item, Members, no_members, member}
use Rattle.serde_json.specs.Find.{of_integer}
use Rattle.serde_json.specs.Written.{compact_text, items_text, members_text, comma_if}
use Rattle.values.specs.Words.{is_letter, is_word_character, IsIdentifier}
use Rattle.values.specs.declared.value.Value.{Value}
use Rattle.values.specs.declared.value.Value.TheVariants.{Int, Text}
use Rattle.values.specs.declared.value.Kind.{Kind}
use Rattle.values.specs.declared.value.Kind.TheVariants as kind
use Rattle.values.specs.Values.{IsValue, kind_name, value_data}
use Rattle.values.specs.declared.record.Field.{Field}
use Rattle.values.specs.Fields.{IsField, field_members}
use Rattle.values.specs.Items.{ArrayContent, IsStoredArray, item_elements, array_data, least_index, greatest_index}
use Rattle.values.specs.declared.variant.Tag.{Tag}
use Rattle.values.specs.Tags.{VariantContent, IsVariant, tag_members, variant_data}
use Rattle.values.specs.Totals.{IsCounter}
use Rattle.values.specs.declared.content.Content.{Content}
use Rattle.values.specs.declared.content.Content.TheVariants as content
use Rattle.values.specs.Contents.{IsStoredContent, content_data}
use Rattle.atomic_types.specs.declared.part.Part.{Part}
use Rattle.atomic_types.specs.declared.part.Part.TheVariants as part
use Rattle.store_tables.specs.PartTexts.{IsStoredPart, part_text}

after : (head tail : List ℕ) → are_ascii head ≡ true → IsUtf8 tail → IsUtf8 (head ++ tail)
after head tail plain u = IsUtf8-append head tail (IsUtf8-are_ascii head plain) u

-- ---- identifiers

letter_low : (c : ℕ) → is_letter c ≡ true → nat_lt c 128 ≡ true
letter_low c h = grind (arith, nat_tests)

word_low : (c : ℕ) → is_word_character c ≡ true → nat_lt c 128 ≡ true
word_low c h = grind (arith, nat_tests)

words_low : (cs : List ℕ) → list_all (λ d. is_word_character d) cs ≡ true → are_ascii cs ≡ true
words_low [] h = refl
words_low (c ∷ cs) h = let p = and_parts _ _ h in rw (word_low c p.0) (words_low cs p.1)

identifier : (name : List ℕ) → IsIdentifier name → IsUtf8 name
identifier [] h = IsUtf8-nil
identifier (c ∷ cs) h =
    let p = and_parts _ _ h in
    IsUtf8-are_ascii (c ∷ cs) (rw (letter_low c p.0) (words_low cs (and_parts _ _ p.1).0))

-- ---- documents

abbrev IsPlain : Data → Type 0
IsPlain d = IsUtf8 (compact_text d)

integer : (z : ℤ) → IsCounter z → IsPlain (number (of_integer z))
integer (pos n) h = IsUtf8-from_ascii (decimal n) (IsAscii-decimal n (omega (arith, h)))
integer (negsuc n) h = after (45 ∷ []) (decimal (suc n)) refl (IsUtf8-from_ascii (decimal (suc n)) (IsAscii-decimal (suc n) (omega (arith, h))))

comma : (later : Bool) → are_ascii (comma_if later) ≡ true
comma true = refl
comma false = refl

one_member : (later : Bool) (k : List ℕ) (d : Data) (ms : Members) → IsUtf8 k → IsPlain d → IsUtf8 (members_text true ms)
    → IsUtf8 (members_text later (member k d ms))
one_member later k d ms name document rest =
    after (comma_if later) _ (comma later) (IsUtf8-append _ _ (IsUtf8-quoted k name) (after (58 ∷ []) _ refl (IsUtf8-append _ _ document rest)))

one_item : (later : Bool) (d : Data) (ds : Items) → IsPlain d → IsUtf8 (items_text true ds) → IsUtf8 (items_text later (item d ds))
one_item later d ds document rest = after (comma_if later) _ (comma later) (IsUtf8-append _ _ document rest)

no_member : (later : Bool) → IsUtf8 (members_text later no_members)
no_member later = IsUtf8-are_ascii (125 ∷ []) refl

an_object : (ms : Members) → IsUtf8 (members_text false ms) → IsPlain (object ms)
an_object ms u = after (123 ∷ []) _ refl u

-- a document with one member
alone : (k : List ℕ) (d : Data) → are_ascii k ≡ true → IsPlain d → IsPlain (object (member k d no_members))
alone k d name document = an_object (member k d no_members) (one_member false k d no_members (IsUtf8-are_ascii k name) document (no_member true))

-- ---- what contents are

of_value : (v : Value) → IsValue v → IsPlain (value_data v)
of_value (Int z) h = integer z h
of_value (Text bytes) h = IsUtf8-quoted bytes h.0

of_kind : (k : Kind) → IsPlain (string (kind_name k))
of_kind kind.Int = IsUtf8-quoted _ (IsUtf8-are_ascii (codes "int") refl)
of_kind kind.Text = IsUtf8-quoted _ (IsUtf8-are_ascii (codes "text") refl)

of_fields : (later : Bool) (fields : List Field) → AllByRecursion IsField fields → IsUtf8 (members_text later (field_members fields))
of_fields later [] h = no_member later
of_fields later (f ∷ fields) h =
    one_member later f.name (value_data f.value) (field_members fields) (identifier f.name h.0.name) (of_value f.value h.0.value) (of_fields true fields h.1)

-- the low index lies within signed 64 bits
low_index : (z : ℤ) (n : ℕ) → least_index ≤ℤ z → ((z +ℤ pos n) -ℤ pos 1) ≤ℤ greatest_index → IsPlain (number (of_integer z))
low_index (pos m) n low high = IsUtf8-from_ascii (decimal m) (IsAscii-decimal m (omega (arith, ints, high)))
low_index (negsuc m) n low high = after (45 ∷ []) (decimal (suc m)) refl (IsUtf8-from_ascii (decimal (suc m)) (IsAscii-decimal (suc m) (omega (arith, ints, low))))

of_items : (later : Bool) (items : List Value) → AllByRecursion IsValue items → IsUtf8 (items_text later (item_elements items))
of_items later [] h = IsUtf8-are_ascii (93 ∷ []) refl
of_items later (v ∷ items) h = one_item later (value_data v) (item_elements items) (of_value v h.0) (of_items true items h.1)

of_tags : (later : Bool) (tags : List Tag) → AllByRecursion (λ (t : Tag). IsIdentifier t.name) tags → IsUtf8 (members_text later (tag_members tags))
of_tags later [] h = no_member later
of_tags later (t ∷ tags) h =
    one_member later t.name (string (kind_name t.kind)) (tag_members tags) (identifier t.name h.0) (of_kind t.kind) (of_tags true tags h.1)

of_array : (a : ArrayContent) → IsStoredArray a → IsPlain (array_data a)
of_array a h =
    let low = number (of_integer a.low) in
    let kind_ = string (kind_name a.kind) in
    let items = array (item_elements a.items) in
    an_object (member (codes "items") items (member (codes "low") low (member (codes "of") kind_ no_members)))
    (one_member false (codes "items") items (member (codes "low") low (member (codes "of") kind_ no_members)) (IsUtf8-are_ascii (codes "items") refl)
    (after (91 ∷ []) (items_text false (item_elements a.items)) refl (of_items false a.items h.each))
    (one_member true (codes "low") low (member (codes "of") kind_ no_members) (IsUtf8-are_ascii (codes "low") refl) (low_index a.low (length a.items) h.form.low h.form.high)
    (one_member true (codes "of") kind_ no_members (IsUtf8-are_ascii (codes "of") refl) (of_kind a.kind) (no_member true))))

of_variant : (v : VariantContent) → IsVariant v → IsPlain (variant_data v)
of_variant v h =
    let tag = string v.tag in
    let tags = object (tag_members v.tags) in
    let value = value_data v.value in
    an_object (member (codes "tag") tag (member (codes "tags") tags (member (codes "value") value no_members)))
    (one_member false (codes "tag") tag (member (codes "tags") tags (member (codes "value") value no_members)) (IsUtf8-are_ascii (codes "tag") refl) (IsUtf8-quoted v.tag (identifier v.tag h.tag))
    (one_member true (codes "tags") tags (member (codes "value") value no_members) (IsUtf8-are_ascii (codes "tags") refl) (an_object (tag_members v.tags) (of_tags false v.tags h.names))
    (one_member true (codes "value") value no_members (IsUtf8-are_ascii (codes "value") refl) (of_value v.value h.value) (no_member true))))

of_content : (c : Content) → IsStoredContent c → IsPlain (content_data c)
of_content (content.Record fields) h = alone (codes "record") (object (field_members fields)) refl (an_object (field_members fields) (of_fields false fields h.each))
of_content (content.Array a) h = alone (codes "array") (array_data a) refl (of_array a h)
of_content (content.Variant v) h = alone (codes "variant") (variant_data v) refl (of_variant v h)
of_content (content.Counter n) h = alone (codes "counter") (number (of_integer n)) refl (integer n h)

pub spelled : (p : Part) → IsStoredPart p → IsUtf8 (part_text p)
spelled (part.Value c) h = of_content c h
spelled (part.Delta z) h = alone (codes "delta") (number (of_integer z)) refl (integer z h)
