-- What was written is read back.
use Rattle.std.proofs.Common.{◌≡◌, ℕ, ◌+◌, ◌≤◌, List, [], ◌∷◌, ◌++◌, codes, map, Bool, true, false, Some, option_map, option_and_then, IsUtf8, refl, ap, ◌∙◌, arith}
use Rattle.std.specs.List.{AllByRecursion}
use Rattle.std.proofs.lemmas.Str.{IsUtf8-append}
use Rattle.json.specs.Json as json
use Rattle.json.specs.Tree as tree
use Rattle.json.proofs.Printed.Decimals.{IsNumber-decimal}
use Rattle.json.proofs.Printed.Utf8.{are_ascii, IsUtf8-are_ascii}
use Rattle.serde_json.specs.Data.{Data, number, array, object, Items, no_items, item, no_members, member, put}
use Rattle.serde_json.specs.Read.{of_items, of_members, read}
use Rattle.serde_json.specs.Written.{outline, items_outline, compact_text, items_text, comma_if}
use Rattle.serde_json.proofs.Numbers.{number_of-decimal}
use Rattle.values.specs.declared.content.Content.{Content}
use Rattle.values.specs.declared.content.Content.TheVariants.{Record, Array, Variant, Counter}
use Rattle.values.specs.declared.value.Value.TheVariants.{Int}
use Rattle.values.specs.Contents.{content_data}
use Rattle.values.specs.Totals.{counter_data}
use Rattle.values.proofs.Documents.{IsReadable, IsReadable-value, read-compact_text}
use Rattle.values.proofs.Members.{IsReadable-under, depth-fields}
use Rattle.values.proofs.Items.{depth-array}
use Rattle.values.proofs.Tags.{depth-variant}
use Rattle.values.proofs.Contents.{IsReadable-stored}
use Rattle.atomic_types.specs.declared.part.Part.{Part}
use Rattle.atomic_types.specs.declared.part.Part.TheVariants.{Value, Delta}
use Rattle.stable_store.specs.Stored.{Record as Prepared, Stored}
use Rattle.store_texts.specs.Texts.{AreStoresIn, IsContent, IsCount, IsEntry, IsNumber, IsPart, IsRecord, Lists, content_members, entry_data, items_data, list_data, lists_data, number_data, part_data, record_data, stored_in}
use Rattle.store_texts.specs.Arrays.{AreStoreTexts, array_of, texts_items}

-- ---- documents that are read back

-- a document that nests at most n deep, and is read back
record IsBack (n : ℕ) (d : Data) : Type 0 where
  readable : IsReadable d
  shallow : tree.depth (outline d) ≤ n

-- the same of each item
record AreBack (n : ℕ) (ds : Items) : Type 0 where
  numbers : tree.ItemsHaveNumbers (items_outline ds)
  shallow : tree.items_depth (items_outline ds) ≤ n
  converts : of_items (items_outline ds) ≡ Some ds

deeper : (m n : ℕ) (d : Data) → m ≤ n → IsBack m d → IsBack n d
deeper m n d le h = record { readable = h.readable; shallow = omega (arith, h.shallow) }

none_back : (n : ℕ) → AreBack n no_items
none_back n = record { numbers = tt; shallow = omega arith; converts = refl }

one_back : (n : ℕ) (d : Data) (ds : Items) → IsBack n d → AreBack n ds → AreBack n (item d ds)
one_back n d ds first others = record {
  numbers = (first.readable.numbers, others.numbers);
  shallow = omega (arith, first.shallow, others.shallow);
  converts =
      ap (option_and_then (λ e. option_map (item e) (of_items (items_outline ds)))) first.readable.converts
      ∙ ap (option_map (item d)) others.converts;
}

array_back : (n : ℕ) (ds : Items) → n + 1 ≤ 127 → AreBack n ds → IsBack (n + 1) (array ds)
array_back n ds small h = record {
  readable = record {
    numbers = h.numbers;
    shallow = omega (arith, h.shallow);
    converts = ap (option_map array) h.converts;
  };
  shallow = omega (arith, h.shallow);
}

items_back : {X : Type 0} (f : X → Data) (P : X → Type 0) (n : ℕ) (each : (x : X) → P x → IsBack n (f x)) (xs : List X) → AllByRecursion P xs → AreBack n (items_data f xs)
items_back f P n each [] all = none_back n
items_back f P n each (x ∷ xs) all = one_back n (f x) (items_data f xs) (each x all.0) (items_back f P n each xs all.1)

-- ---- parts, entries, records, contents

number_back : (k : ℕ) → IsCount k → IsBack 0 (number_data k)
number_back k fits = record {
  readable = record {
    numbers = IsNumber-decimal k (omega (arith, fits));
    shallow = omega arith;
    converts = ap (option_map number) (number_of-decimal k fits);
  };
  shallow = omega arith;
}

depth_content : (c : Content) → tree.depth (outline (content_data c)) ≤ 3
depth_content (Record fields) = omega (arith, depth-fields fields)
depth_content (Array a) = omega (arith, depth-array a)
depth_content (Variant v) = omega (arith, depth-variant v)
depth_content (Counter n) = omega arith

part_back : (p : Part) → IsPart p → IsBack 3 (part_data p)
part_back (Value c) fits = record { readable = IsReadable-stored c fits; shallow = depth_content c }
part_back (Delta z) fits = record {
  readable = IsReadable-under (codes "delta") (counter_data z) (IsReadable-value (Int z) fits) (omega arith);
  shallow = omega arith;
}

entry_back : (e : ℕ × Part) → IsEntry e → IsBack 4 (entry_data e)
entry_back e fits =
    let object_number = deeper 0 3 (number_data e.0) (omega arith) (number_back e.0 (omega (arith, fits.0))) in
    let part = one_back 3 (part_data e.1) no_items (part_back e.1 fits.1) (none_back 3) in
    array_back 3 (item (number_data e.0) (item (part_data e.1) no_items)) (omega arith)
    (one_back 3 (number_data e.0) (item (part_data e.1) no_items) object_number part)

record_back : (r : ℕ × Prepared) → IsRecord r → IsBack 6 (record_data r)
record_back r fits =
    let entries = array_back 4 (items_data entry_data r.1.parts) (omega arith) (items_back entry_data IsEntry 4 entry_back r.1.parts fits.2.1) in
    let home = deeper 0 5 (number_data r.1.home) (omega arith) (number_back r.1.home (omega (arith, fits.1))) in
    let top = deeper 0 5 (number_data r.0) (omega arith) (number_back r.0 (omega (arith, fits.0))) in
    let last = one_back 5 (list_data entry_data r.1.parts) no_items entries (none_back 5) in
    let rest = one_back 5 (number_data r.1.home) (item (list_data entry_data r.1.parts) no_items) home last in
    array_back 5 (item (number_data r.0) (item (number_data r.1.home) (item (list_data entry_data r.1.parts) no_items))) (omega arith)
    (one_back 5 (number_data r.0) (item (number_data r.1.home) (item (list_data entry_data r.1.parts) no_items)) top rest)

members_back : (b c d n p : Data) → IsBack 7 b → IsBack 7 c → IsBack 7 d → IsBack 7 n → IsBack 7 p → IsBack 8 (content_members b c d n p)
members_back b c d n p hb hc hd hn hp =
    let m4 = json.member (codes "prepared") (outline p) json.no_members in
    let m3 = json.member (codes "next_top") (outline n) m4 in
    let m2 = json.member (codes "decided") (outline d) m3 in
    let m1 = json.member (codes "count") (outline c) m2 in
    let f1 = member (codes "base") b no_members in
    let f2 = member (codes "base") b (member (codes "count") c no_members) in
    let f3 = member (codes "base") b (member (codes "count") c (member (codes "decided") d no_members)) in
    let f4 = member (codes "base") b (member (codes "count") c (member (codes "decided") d (member (codes "next_top") n no_members))) in
    record {
      readable = record {
        numbers = (hb.readable.numbers, (hc.readable.numbers, (hd.readable.numbers, (hn.readable.numbers, (hp.readable.numbers, tt)))));
        shallow = omega (arith, hb.shallow, hc.shallow, hd.shallow, hn.shallow, hp.shallow);
        converts =
            ap (λ o. option_map object (option_and_then (λ x. of_members m1 (put (codes "base") x no_members)) o)) hb.readable.converts
            ∙ ap (λ o. option_map object (option_and_then (λ x. of_members m2 (put (codes "count") x f1)) o)) hc.readable.converts
            ∙ ap (λ o. option_map object (option_and_then (λ x. of_members m3 (put (codes "decided") x f2)) o)) hd.readable.converts
            ∙ ap (λ o. option_map object (option_and_then (λ x. of_members m4 (put (codes "next_top") x f3)) o)) hn.readable.converts
            ∙ ap (λ o. option_map object (option_and_then (λ x. Some (put (codes "prepared") x f4)) o)) hp.readable.converts;
      };
      shallow = omega (arith, hb.shallow, hc.shallow, hd.shallow, hn.shallow, hp.shallow);
    }

decided_back : (n : ℕ) → IsNumber n → IsBack 0 (number_data n)
decided_back n fits = number_back n (omega (arith, fits))

content_back : (l : Lists) → IsContent l → IsBack 8 (lists_data l)
content_back l fits =
    members_back (list_data entry_data l.base) (number_data l.count) (list_data number_data l.decided) (number_data l.next_top) (list_data record_data l.prepared)
    (deeper 5 7 (list_data entry_data l.base) (omega arith) (array_back 4 (items_data entry_data l.base) (omega arith) (items_back entry_data IsEntry 4 entry_back l.base fits.base.1)))
    (deeper 0 7 (number_data l.count) (omega arith) (number_back l.count fits.count))
    (deeper 1 7 (list_data number_data l.decided) (omega arith) (array_back 0 (items_data number_data l.decided) (omega arith) (items_back number_data IsNumber 0 decided_back l.decided fits.decided.1)))
    (deeper 0 7 (number_data l.next_top) (omega arith) (number_back l.next_top fits.next_top))
    (array_back 6 (items_data record_data l.prepared) (omega arith) (items_back record_data IsRecord 6 record_back l.prepared fits.prepared.1))

-- ---- texts

-- what the texts of contents are
record Spelled (texts : List (List ℕ)) (contents : List Stored) : Type 0 where
  lists : List Lists
  fit : AllByRecursion IsContent lists
  are : contents ≡ map stored_in lists
  utf8 : (later : Bool) → IsUtf8 (texts_items later texts)
  same : (later : Bool) → texts_items later texts ≡ items_text later (items_data lists_data lists)

comma : (later : Bool) → are_ascii (comma_if later) ≡ true
comma true = refl
comma false = refl

spelled : (texts : List (List ℕ)) (contents : List Stored) → AreStoreTexts texts contents → Spelled texts contents
spelled [] [] h = record {
  lists = [];
  fit = tt;
  are = refl;
  utf8 = λ later. IsUtf8-are_ascii (93 ∷ []) refl;
  same = λ later. refl;
}
spelled [] (c ∷ cs) h = absurd h
spelled (t ∷ ts) [] h = absurd h
spelled (t ∷ ts) (c ∷ cs) h =
    let rest = spelled ts cs h.2 in
    record {
      lists = h.1.lists ∷ rest.lists;
      fit = (h.1.fits, rest.fit);
      are = ap (λ x. x ∷ cs) h.1.are ∙ ap (λ xs. stored_in h.1.lists ∷ xs) rest.are;
      utf8 = λ later. IsUtf8-append (comma_if later) (t ++ texts_items true ts) (IsUtf8-are_ascii (comma_if later) (comma later)) (IsUtf8-append t (texts_items true ts) h.0 (rest.utf8 true));
      same = λ later. ap (λ x. comma_if later ++ (x ++ texts_items true ts)) h.1.spelled
          ∙ ap (λ x. comma_if later ++ (compact_text (lists_data h.1.lists) ++ x)) (rest.same true);
    }

-- the array of texts is read as their contents
pub array_read : (texts : List (List ℕ)) (contents : List Stored) → AreStoreTexts texts contents → AreStoresIn (array_of texts) contents
array_read texts contents h =
    let s = spelled texts contents h in
    let back = array_back 8 (items_data lists_data s.lists) (omega arith) (items_back lists_data IsContent 8 content_back s.lists s.fit) in
    record {
      lists = s.lists;
      fit = s.fit;
      are = s.are;
      utf8 = IsUtf8-append (91 ∷ []) (texts_items false texts) (IsUtf8-are_ascii (91 ∷ []) refl) (s.utf8 false);
      document = ap read (ap (λ x. 91 ∷ x) (s.same false)) ∙ read-compact_text (list_data lists_data s.lists) back.readable;
    }
