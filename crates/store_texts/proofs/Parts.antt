-- Equal documents are equal parts, entries, records and contents.
use Rattle.std.proofs.Common.{◌≡◌, ℕ, ℤ, List, codes, Bool, false, sym, ap}
use Rattle.std.proofs.lemmas.Bool.{true≢false}
use Rattle.serde_json.specs.Data.{Data, null, boolean, number, string, array, object, Members, no_members, member}
use Rattle.values.specs.declared.content.Content.{Content}
use Rattle.values.specs.declared.content.Content.TheVariants.{Record, Array, Variant, Counter}
use Rattle.values.specs.declared.value.Value.TheVariants.{Int}
use Rattle.values.specs.Words.{same_bytes}
use Rattle.values.specs.Totals.{counter_data}
use Rattle.values.specs.Contents.{content_data}
use Rattle.values.proofs.Members.{value_from_data}
use Rattle.values.proofs.Contents.{content_from_data}
use Rattle.atomic_types.specs.declared.part.Part.{Part}
use Rattle.atomic_types.specs.declared.part.Part.TheVariants.{Value, Delta}
use Rattle.stable_store.specs.Stored.{Record as Prepared}
use Rattle.store_texts.specs.Texts.{Lists, delta_data, entry_data, list_data, lists_data, number_data, part_data, record_data}
use Rattle.store_texts.proofs.Items.{same_list}

-- the name of an object's first member
begins_with : List ℕ → Members → Bool
begins_with name no_members = false
begins_with name (member k d ms) = same_bytes k name

is_under : List ℕ → Data → Bool
is_under name null = false
is_under name (boolean b) = false
is_under name (number n) = false
is_under name (string s) = false
is_under name (array ds) = false
is_under name (object ms) = begins_with name ms

pub no_content : (z : ℤ) (c : Content) → delta_data z ≡ content_data c → ⊥
unfolding is_under begins_with
no_content z (Record fields) e = true≢false (ap (is_under (codes "delta")) e)
no_content z (Array a) e = true≢false (ap (is_under (codes "delta")) e)
no_content z (Variant v) e = true≢false (ap (is_under (codes "delta")) e)
no_content z (Counter n) e = true≢false (ap (is_under (codes "delta")) e)

-- what stands under one name
pub same_under : (name : List ℕ) (d e : Data) → object (member name d no_members) ≡ object (member name e no_members) → d ≡ e
same_under name d e h = cc

delta_from_data : (y z : ℤ) → delta_data y ≡ delta_data z → y ≡ z
delta_from_data y z e =
    let under : counter_data y ≡ counter_data z = same_under (codes "delta") (counter_data y) (counter_data z) e in
    let same = value_from_data (Int y) (Int z) under in
    cc

part_from_data : (p q : Part) → part_data p ≡ part_data q → p ≡ q
part_from_data (Value c) (Value d) e = ap (λ v. Value v) (content_from_data c d e)
part_from_data (Value c) (Delta z) e = absurd (no_content z c (sym e))
part_from_data (Delta z) (Value c) e = absurd (no_content z c e)
part_from_data (Delta y) (Delta z) e = ap (λ v. Delta v) (delta_from_data y z e)

pub number_from_data : (m n : ℕ) → number_data m ≡ number_data n → m ≡ n
number_from_data m n e = cc

pub entry_from_data : (d e : ℕ × Part) → entry_data d ≡ entry_data e → d ≡ e
entry_from_data d e h =
    let number : number_data d.0 ≡ number_data e.0 = cc in
    let part : part_data d.1 ≡ part_data e.1 = cc in
    let p = number_from_data d.0 e.0 number in
    let q = part_from_data d.1 e.1 part in
    λ i. (p i, q i)

pub record_from_data : (r s : ℕ × Prepared) → record_data r ≡ record_data s → r ≡ s
record_from_data r s h =
    let top : number_data r.0 ≡ number_data s.0 = cc in
    let home : number_data r.1.home ≡ number_data s.1.home = cc in
    let parts : list_data entry_data r.1.parts ≡ list_data entry_data s.1.parts = cc in
    let p = number_from_data r.0 s.0 top in
    let q = number_from_data r.1.home s.1.home home in
    let t = same_list entry_data entry_from_data r.1.parts s.1.parts parts in
    λ i. (p i, record { home = q i; parts = t i })

pub lists_from_data : (l m : Lists) → lists_data l ≡ lists_data m → l ≡ m
lists_from_data l m h =
    let base : list_data entry_data l.base ≡ list_data entry_data m.base = cc in
    let count : number_data l.count ≡ number_data m.count = cc in
    let decided : list_data number_data l.decided ≡ list_data number_data m.decided = cc in
    let next_top : number_data l.next_top ≡ number_data m.next_top = cc in
    let prepared : list_data record_data l.prepared ≡ list_data record_data m.prepared = cc in
    let p = same_list entry_data entry_from_data l.base m.base base in
    let q = number_from_data l.count m.count count in
    let r = same_list number_data number_from_data l.decided m.decided decided in
    let s = number_from_data l.next_top m.next_top next_top in
    let t = same_list record_data record_from_data l.prepared m.prepared prepared in
    λ i. record { base = p i; count = q i; decided = r i; next_top = s i; prepared = t i }
