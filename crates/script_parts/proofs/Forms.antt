-- What was read of an object's content has the form that contents have.
use Rattle.std.proofs.Common.{◌≡◌, ◌≤◌, ℕ, suc, ℤ, pos, ◌+ℤ◌, ◌-ℤ◌, int_le, List, [], ◌∷◌, length, map, Bool, true, false, ◌&&◌, ◌||◌, nat_le, decimal, codes, Option, Some, None, String, Global, string_bytes, string_cmp, Less, Ok, refl, sym, ap, ◌∙◌, subst, inl, inr, ◌⊎◌, arith}
use lib.Signed.{◌≤ℤ◌, le_z_yes}
use lib.Dec.{T}
use Rattle.std.proofs.lemmas.Bool.{leb-true, or_cases}
use Rattle.std.proofs.lemmas.List.{length-map}
use Rattle.std.proofs.lemmas.Int.{ints}
use Rattle.std.specs.List.{AllByRecursion}
use Rattle.std.specs.List.Sorted.{IsStrictlySortedBy}
use Rattle.std.specs.Map.{keys_of}
use Rattle.std.specs.Ordering.{nat_cmp}
use Rattle.std.specs.Cmp.Lexicographic.{slice_cmp}
use Rattle.serde_json.specs.Data.{Data, null, boolean, number, string, array, object, Items, no_items, item, Members}
use Rattle.serde_json.specs.Events.{members_len, items_len}
use Rattle.serde_json.specs.Find.{as_i64}
use Rattle.serde_json.specs.View.{view, members_view}
use Rattle.serde_json.proofs.Views.{Entry, members_len-members_view}
use Rattle.values.specs.declared.value.Value.{Value}
use Rattle.values.specs.declared.value.Value.TheVariants as value
use Rattle.values.specs.declared.value.Kind.{Kind}
use Rattle.values.specs.declared.value.Kind.TheVariants as kind
use Rattle.values.specs.declared.record.Field.{Field}
use Rattle.values.specs.declared.variant.Tag.{Tag}
use Rattle.values.specs.declared.content.Content.{Content}
use Rattle.values.specs.Words.{same_bytes}
use Rattle.values.specs.Values.{kind_of, same_kind}
use Rattle.values.specs.Fields.{HasRisingNames, HasRecordForm}
use Rattle.values.specs.Items.{HasArrayForm, max_items, greatest_index}
use Rattle.values.specs.Tags.{max_tags, HasRisingTags, HasTagsForm}
use Rattle.script_model.specs.Reading.{Outcome, Answers, and_then, each, step, need, ask}
use Rattle.script_model.specs.declared.fault.FaultKind.TheVariants as is
use Rattle.script_model.specs.Shapes.{only_member, the_array, the_object, the_list, are_named, kind_in}
use Rattle.script_model.specs.ExpressionReading.{short_text}
use Rattle.script_model.specs.ContentReading.{is_wanted, int_value, value_in, fields_in, tags_in, tag_list, items_in, items_of, is_low, ask_names, array_in, variant_in, counter_in, content_member, content_of, content}
use Rattle.script_parts.proofs.Asked.{and_then_ok, ask_true, ok_is}
use Rattle.script_parts.proofs.Items.{array_is}

-- ---- names

all_below : (k : String Global) (ks : List (String Global)) → AllByRecursion (λ y. string_cmp k y ≡ Less) ks
    → AllByRecursion (λ y. slice_cmp nat_cmp (string_bytes k) y ≡ Less) (map (λ y. string_bytes y) ks)
all_below k [] h = tt
all_below k (y ∷ ks) h = (h.0, all_below k ks h.1)

rising_bytes : (ks : List (String Global)) → IsStrictlySortedBy string_cmp ks
    → IsStrictlySortedBy (slice_cmp nat_cmp) (map (λ k. string_bytes k) ks)
unfolding IsStrictlySortedBy
rising_bytes [] h = tt
rising_bytes (k ∷ ks) h = (all_below k ks h.0, rising_bytes ks h.1)

fields_names : (es : List Entry) (place : List ℕ) (fs : List Field) → fields_in (members_view es) place ≡ Ok fs
    → map (λ k. string_bytes k) (keys_of es) ≡ map (λ f. f.name) fs
fields_names [] place fs e = ap (map (λ f. f.name)) (ok_is [] fs e)
fields_names (x ∷ es) place fs e =
    let first = and_then_ok (value_in None (view x.1) (step place (string_bytes x.0))) _ fs e in
    let rest = and_then_ok (fields_in (members_view es) place) _ fs first.2 in
    ap (λ ns. string_bytes x.0 ∷ ns) (fields_names es place rest.0 rest.1) ∙ ap (map (λ f. f.name)) (ok_is _ fs rest.2)

pub fields_rise : (es : List Entry) (place : List ℕ) (fs : List Field) → fields_in (members_view es) place ≡ Ok fs
    → IsStrictlySortedBy string_cmp (keys_of es) → HasRisingNames fs
fields_rise es place fs e rising =
    subst (IsStrictlySortedBy (slice_cmp nat_cmp)) (fields_names es place fs e) (rising_bytes (keys_of es) rising)

tags_names : (es : List Entry) (place : List ℕ) (ts : List Tag) → tags_in (members_view es) place ≡ Ok ts
    → map (λ k. string_bytes k) (keys_of es) ≡ map (λ t. t.name) ts
tags_names [] place ts e = ap (map (λ t. t.name)) (ok_is [] ts e)
tags_names (x ∷ es) place ts e =
    let first = and_then_ok (need (kind_in (view x.1)) is.Shape (step place (string_bytes x.0))) _ ts e in
    let rest = and_then_ok (tags_in (members_view es) place) _ ts first.2 in
    ap (λ ns. string_bytes x.0 ∷ ns) (tags_names es place rest.0 rest.1) ∙ ap (map (λ t. t.name)) (ok_is _ ts rest.2)

pub tags_rise : (es : List Entry) (place : List ℕ) (ts : List Tag) → tags_in (members_view es) place ≡ Ok ts
    → IsStrictlySortedBy string_cmp (keys_of es) → HasRisingTags ts
tags_rise es place ts e rising =
    subst (IsStrictlySortedBy (slice_cmp nat_cmp)) (tags_names es place ts e) (rising_bytes (keys_of es) rising)

-- ---- kinds

same_kind_is : (k l : Kind) → same_kind k l ≡ true → l ≡ k
same_kind_is kind.Int kind.Int e = refl
same_kind_is kind.Int kind.Text e = cc
same_kind_is kind.Text kind.Int e = cc
same_kind_is kind.Text kind.Text e = refl

int_kind : (o : Option ℤ) (place : List ℕ) (v : Value) → int_value o place ≡ Ok v → kind_of v ≡ kind.Int
int_kind None place v e = cc
int_kind (Some z) place v e = sym (ap kind_of (ok_is (value.Int z) v e))

-- what is read as a value of a kind has it
pub value_kind : (k : Kind) (d : Data) (place : List ℕ) (v : Value) → value_in (Some k) d place ≡ Ok v → kind_of v ≡ k
value_kind k null place v e = cc
value_kind k (boolean b) place v e = cc
value_kind k (number n) place v e =
    let int = and_then_ok (int_value (as_i64 n) place) _ v e in
    let asked = and_then_ok (ask (is_wanted (Some k) kind.Int) is.Kind place) _ v int.2 in
    sym (ap kind_of (ok_is _ v asked.2)) ∙ int_kind (as_i64 n) place int.0 int.1 ∙ same_kind_is k kind.Int (ask_true _ _ _ asked.1)
value_kind k (string s) place v e =
    let asked = and_then_ok (ask (is_wanted (Some k) kind.Text) is.Kind place) _ v e in
    let short = and_then_ok (short_text s place) _ v asked.2 in
    sym (ap kind_of (ok_is _ v short.2)) ∙ same_kind_is k kind.Text (ask_true _ _ _ asked.1)
value_kind k (array ds) place v e = cc
value_kind k (object ms) place v e = cc

each_kind : (k : Kind) (i : ℕ) (ds : Items) (place : List ℕ) (vs : List Value) → each (value_in (Some k)) i ds place ≡ Ok vs
    → AllByRecursion (λ v. kind_of v ≡ k) vs × (length vs ≡ items_len ds)
each_kind k i no_items place vs e = subst (λ ws. AllByRecursion (λ v. kind_of v ≡ k) ws × (length ws ≡ 0)) (ok_is [] vs e) (tt, refl)
each_kind k i (item d ds) place vs e =
    let first = and_then_ok (value_in (Some k) d (step place (decimal i))) _ vs e in
    let rest = and_then_ok (each (value_in (Some k)) (suc i) ds place) _ vs first.2 in
    let all = each_kind k (suc i) ds place rest.0 rest.1 in
    subst (λ ws. AllByRecursion (λ v. kind_of v ≡ k) ws × (length ws ≡ suc (items_len ds))) (ok_is (first.0 ∷ rest.0) vs rest.2)
    ((value_kind k d (step place (decimal i)) first.0 first.1, all.0), ap suc all.1)

-- ---- forms

length-keys : (es : List Entry) → length (map (λ k. string_bytes k) (keys_of es)) ≡ length es
length-keys [] = refl
length-keys (e ∷ es) = ap suc (length-keys es)

both : (a b : Bool) → (a && b) ≡ true → (a ≡ true) × (b ≡ true)
both true b e = (refl, e)
both false b e = cc

at_most : (a b : ℕ) → nat_le a b ≡ true → a ≤ b
at_most a b e = leb-true a b e

in_order : (a b : ℤ) → int_le a b ≡ true → a ≤ℤ b
in_order a b e = le_z_yes (subst T (sym e) tt)

ends_within : (low : ℤ) (n : ℕ) → (nat_le n 0 ≡ true) ⊎ (int_le ((low +ℤ pos n) -ℤ pos 1) greatest_index ≡ true) → low ≤ℤ greatest_index
    → ((low +ℤ pos n) -ℤ pos 1) ≤ℤ greatest_index
ends_within low n (inl none) within = let no : n ≤ 0 = at_most n 0 none in omega (arith, ints)
ends_within low n (inr last) within = in_order _ _ last

pub names_asked : (most : ℕ) (ms : Members) (place : List ℕ) → ask_names most ms place ≡ Ok tt
    → (1 ≤ members_len ms) × (members_len ms ≤ most)
names_asked most ms place e =
    let named = and_then_ok (ask (are_named ms) is.Shape place) _ tt e in
    let counts = both _ _ (ask_true _ _ _ named.2) in
    (at_most _ _ counts.0, at_most _ _ counts.1)

pub array_form : (k : Kind) (low : ℤ) (d : Data) (place : List ℕ) (vs : List Value) → items_in k d place ≡ Ok vs
    → is_low low (items_of d) ≡ true
    → HasArrayForm (record { kind = k; low = low; items = vs })
array_form k low d place vs e lies =
    let list = and_then_ok (the_list 0 max_items d place) _ vs e in
    let elements = and_then_ok (the_array d place) _ list.0 list.1 in
    let asked =
    and_then_ok (ask (nat_le 0 (items_len elements.0) && nat_le (items_len elements.0) max_items) is.Limit place) _ list.0 elements.2 in
    let n = items_len elements.0 in
    let counts = both (nat_le 0 n) (nat_le n max_items) (ask_true (nat_le 0 n && nat_le n max_items) is.Limit place asked.1) in
    let same : elements.0 ≡ list.0 = ok_is elements.0 list.0 asked.2 in
    let all = each_kind k 0 list.0 place vs list.2 in
    let count : items_of d ≡ length vs = ap items_of (array_is d place elements.0 elements.1) ∙ ap items_len same ∙ sym all.1 in
    let bounds = both _ _ lies in
    let ends = both _ _ bounds.0 in
    let few : n ≤ 65536 = at_most n max_items counts.1 in
    record {
      within_limit = omega (arith, few, all.1, ap items_len same);
      of_kind = all.0;
      low = in_order _ _ ends.0;
      high = ends_within low (length vs) (or_cases _ _
          (subst (λ n. (nat_le n 0 || int_le ((low +ℤ pos n) -ℤ pos 1) greatest_index) ≡ true) count bounds.1)) (in_order _ _ ends.1);
    }

pub record_form : (es : List Entry) (place : List ℕ) (fs : List Field)
    → (1 ≤ members_len (members_view es)) × (members_len (members_view es) ≤ 64)
    → fields_in (members_view es) place ≡ Ok fs → HasRisingNames fs → HasRecordForm fs
record_form es place fs counts e rising =
    let count : members_len (members_view es) ≡ length fs =
    members_len-members_view es ∙ sym (length-keys es) ∙ ap length (fields_names es place fs e) ∙ length-map fs (λ f. f.name) in
    record { not_empty = omega arith; within_limit = omega arith; rising = rising }

pub tags_form : (es : List Entry) (place : List ℕ) (ts : List Tag)
    → (1 ≤ members_len (members_view es)) × (members_len (members_view es) ≤ 64)
    → tags_in (members_view es) place ≡ Ok ts → HasRisingTags ts → HasTagsForm ts
tags_form es place ts counts e rising =
    let count : members_len (members_view es) ≡ length ts =
    members_len-members_view es ∙ sym (length-keys es) ∙ ap length (tags_names es place ts e) ∙ length-map ts (λ t. t.name) in
    record { not_empty = omega arith; within_limit = omega arith; rising = rising }

pub tag_list_read : (d : Data) (ms : Members) (place : List ℕ) (ts : List Tag) → the_object d place ≡ Ok ms
    → ask_names max_tags ms place ≡ Ok tt → tag_list d place ≡ Ok ts
    → tags_in ms place ≡ Ok ts
tag_list_read d ms place ts is asked e =
    sym (ap (λ r. and_then r (λ m. and_then (ask_names max_tags m place) (λ _. tags_in m place))) is
    ∙ ap (λ r. and_then r (λ _. tags_in ms place)) asked) ∙ e

-- ---- contents by their one member

pub content_array : (name : List ℕ) (d : Data) (place inside : List ℕ) (r : Outcome Content) → same_bytes name (codes "record") ≡ false
    → same_bytes name (codes "array") ≡ true
    → inside ≡ step place (codes "array") → Answers (array_in d inside) r → Answers (content_member name d place) r
content_array name d place inside r other same at h = rw (other, same) (subst (λ q. Answers (array_in d q) r) at h)

pub content_variant : (name : List ℕ) (d : Data) (place inside : List ℕ) (r : Outcome Content) → same_bytes name (codes "record") ≡ false
    → same_bytes name (codes "array") ≡ false
    → same_bytes name (codes "variant") ≡ true → inside ≡ step place (codes "variant") → Answers (variant_in d inside) r
    → Answers (content_member name d place) r
content_variant name d place inside r other second same at h = rw (other, second, same) (subst (λ q. Answers (variant_in d q) r) at h)

pub content_counter : (name : List ℕ) (d : Data) (place inside : List ℕ) (r : Outcome Content) → same_bytes name (codes "record") ≡ false
    → same_bytes name (codes "array") ≡ false → same_bytes name (codes "variant") ≡ false
    → same_bytes name (codes "counter") ≡ true → inside ≡ step place (codes "counter") → Answers (counter_in d inside) r
    → Answers (content_member name d place) r
content_counter name d place inside r other second third same at h =
    rw (other, second, third, same) (subst (λ q. Answers (counter_in d q) r) at h)

pub content_only : (d : Data) (place : List ℕ) (name : List ℕ) (inner : Data) (r : Outcome Content) → only_member d ≡ Some (name, inner)
    → Answers (content_member name inner place) r
    → Answers (content d place) r
content_only d place name inner r is h = subst (λ o. Answers (content_of o place) r) (sym is) h
