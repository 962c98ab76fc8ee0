-- The JSON document that a store's content is.
use Rattle.std.specs.Prelude.{◌≡◌, ◌<◌, ◌^◌, ℕ, ℤ, List, [], ◌∷◌, codes, map as each, Some, IsUtf8}
use Rattle.std.specs.List.{AllByRecursion}
use Rattle.std.specs.List.Sorted.{IsStrictlySortedBy}
use Rattle.std.specs.Ordering.{nat_cmp}
use Rattle.std.specs.Map.{keys_of}
use Rattle.std.specs.FinMap as map
use Rattle.std.specs.FinSet as set
use Rattle.serde_json.specs.Data.{Data, number, array, object, unsigned, Items, no_items, item, no_members, member}
use Rattle.serde_json.specs.Read.{read}
use Rattle.serde_json.specs.Written.{compact_text}
use Rattle.values.specs.Totals.{IsCounter, counter_data}
use Rattle.values.specs.Contents.{IsStoredContent, content_data}
use Rattle.atomic_types.specs.declared.part.Part.{Part}
use Rattle.atomic_types.specs.declared.part.Part.TheVariants.{Value, Delta}
use Rattle.stable_store.specs.Stored.{Record, Stored}
use Rattle.stable_store.specs.Held.{records_of}
use Rattle.stable_store.specs.declared.kept.Kept.{Kept}

-- a store's content in lists
pub record Lists : Type 0 where
  pub base : List (ℕ × Part)
  pub count : ℕ
  pub decided : List ℕ
  pub next_top : ℕ
  pub prepared : List (ℕ × Record)

-- the content that these lists are
abbrev pub stored_in : Lists → Stored
stored_in l = record {
  base = map.from_entries l.base;
  prepared = map.from_entries l.prepared;
  decided = set.from_list l.decided;
  count = l.count;
  next_top = l.next_top;
}

-- the lists of a content in maps
abbrev pub lists_of : Kept → Lists
lists_of k = record {
  base = k.base.entries;
  count = k.count;
  decided = k.decided.keys;
  next_top = k.next_top;
  prepared = records_of k.prepared.entries;
}

-- ---- what is within the limits

-- numbers of objects, guardians and top actions have 32 bits
abbrev pub IsNumber : ℕ → Type 0
IsNumber n = n < 2 ^ 32

-- counts have 64
abbrev pub IsCount : ℕ → Type 0
IsCount n = n < 2 ^ 64

-- a value is a content that a store may hold, a delta a number of signed 64 bits
abbrev pub IsPart : Part → Type 0
IsPart (Value c) = IsStoredContent c
IsPart (Delta z) = IsCounter z

abbrev pub IsEntry : ℕ × Part → Type 0
IsEntry e = IsNumber e.0 × IsPart e.1

-- the numbers rise
abbrev pub AreRising : {X : Type 0} → List (ℕ × X) → Type 0
AreRising es = IsStrictlySortedBy nat_cmp (keys_of es)

abbrev pub AreParts : List (ℕ × Part) → Type 0
AreParts es = AreRising es × AllByRecursion IsEntry es

abbrev pub IsRecord : ℕ × Record → Type 0
IsRecord r = IsNumber r.0 × IsNumber r.1.home × AreParts r.1.parts

abbrev pub AreRecords : List (ℕ × Record) → Type 0
AreRecords rs = AreRising rs × AllByRecursion IsRecord rs

abbrev pub AreNumbers : List ℕ → Type 0
AreNumbers ns = IsStrictlySortedBy nat_cmp ns × AllByRecursion IsNumber ns

pub record IsContent (l : Lists) : Type 0 where
  pub base : AreParts l.base
  pub count : IsCount l.count
  pub decided : AreNumbers l.decided
  pub next_top : IsCount l.next_top
  pub prepared : AreRecords l.prepared

-- ---- documents

abbrev pub items_data : {X : Type 0} → (X → Data) → List X → Items
items_data f [] = no_items
items_data f (x ∷ xs) = item (f x) (items_data f xs)

abbrev pub list_data : {X : Type 0} → (X → Data) → List X → Data
list_data f xs = array (items_data f xs)

abbrev pub number_data : ℕ → Data
number_data n = number (unsigned n)

abbrev pub delta_data : ℤ → Data
delta_data z = object (member (codes "delta") (counter_data z) no_members)

abbrev pub part_data : Part → Data
part_data (Value c) = content_data c
part_data (Delta z) = delta_data z

-- a part behind the number of its object
abbrev pub entry_data : ℕ × Part → Data
entry_data e = array (item (number_data e.0) (item (part_data e.1) no_items))

-- a record behind the number of its top action: its home, and its parts
abbrev pub record_data : ℕ × Record → Data
record_data r = array (item (number_data r.0) (item (number_data r.1.home)
    (item (list_data entry_data r.1.parts) no_items)))

abbrev pub content_members : Data → Data → Data → Data → Data → Data
content_members base count decided next_top prepared =
    object (member (codes "base") base (member (codes "count") count
    (member (codes "decided") decided (member (codes "next_top") next_top
    (member (codes "prepared") prepared no_members)))))

-- the document of a content
abbrev pub lists_data : Lists → Data
lists_data l = content_members (list_data entry_data l.base) (number_data l.count)
    (list_data number_data l.decided) (number_data l.next_top) (list_data record_data l.prepared)

-- ---- texts

-- the text is the one spelling of the content: without white space, and with rising numbers
pub record IsStoreText (text : List ℕ) (content : Stored) : Type 0 where
  pub lists : Lists
  pub fits : IsContent lists
  pub are : content ≡ stored_in lists
  pub spelled : text ≡ compact_text (lists_data lists)

-- The bytes are a JSON array of these contents, in order. Its white space and the order of members are free.
pub record AreStoresIn (bytes : List ℕ) (contents : List Stored) : Type 0 where
  pub lists : List Lists
  pub fit : AllByRecursion IsContent lists
  pub are : contents ≡ each stored_in lists
  pub utf8 : IsUtf8 bytes
  pub document : read bytes ≡ Some (list_data lists_data lists)
