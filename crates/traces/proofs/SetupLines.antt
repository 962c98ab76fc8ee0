-- No text of a document that is written without white space has a line feed.
use Rattle.std.proofs.Common.{◌≢◌, ℕ, zero, suc, ◌/◌, ◌%◌, Bool, true, false, cond, List, [], ◌∷◌, ◌++◌, refl, arith, decimal, codes, pos, negsuc}
use Rattle.std.specs.Prelude.{◌==◌, flat_map}
use Rattle.std.specs.Fmt.{digit_glyph, digits, digits_onto}
use Rattle.std.proofs.lemmas.Bool.Decides.{nat_tests}
use Rattle.json.specs.Print.{escape_byte, quoted}
use Rattle.serde_json.specs.Data.{Data, Num, unsigned, negative, float, null, boolean, number, string, array, object, Items, no_items, item, Members, no_members, member}
use Rattle.serde_json.specs.Written.{comma_if, compact_text, items_text, members_text, number_text}
use Rattle.run_model.specs.Reading.{Lacks}
use Rattle.run_model.specs.Spaces.{Lacks-nil, Lacks-cons, Lacks-append}
use Rattle.traces.proofs.LineFeeds.{both, escapes, word}

-- digits are digits, however large the number is
glyph_other : (d : ℕ) → digit_glyph false d ≢ 10
glyph_other d e = grind (arith, nat_tests)

either : (b : Bool) (x y : List ℕ) → Lacks 10 x → Lacks 10 y → Lacks 10 (cond b x y)
either true x y f g = f
either false x y f g = g

glyphs : (k n : ℕ) (acc : List ℕ) → Lacks 10 acc → Lacks 10 (digits_onto k 10 false n acc)
glyphs zero n acc lacks = lacks
glyphs (suc k) n acc lacks =
    let here = Lacks-cons 10 (digit_glyph false (n % 10)) acc (glyph_other (n % 10)) lacks in
    either (n / 10 == 0) (digit_glyph false (n % 10) ∷ acc) (digits_onto k 10 false (n / 10) (digit_glyph false (n % 10) ∷ acc)) here
    (glyphs k (n / 10) (digit_glyph false (n % 10) ∷ acc) here)

digits_lack : (n : ℕ) → Lacks 10 (decimal n)
unfolding digits
digits_lack n = glyphs 64 n [] (Lacks-nil 10)

numeral : (n : Num) → Lacks 10 (number_text n)
numeral (unsigned n) = digits_lack n
numeral (negative (pos n)) = digits_lack n
numeral (negative (negsuc n)) = Lacks-cons 10 45 (decimal (suc n)) (λ e. omega arith) (digits_lack (suc n))
numeral (float x) = Lacks-nil 10

string_lacks : (bytes : List ℕ) → Lacks 10 (quoted bytes)
string_lacks bytes = Lacks-cons 10 34 _ (λ e. omega arith) (both 34 (flat_map escape_byte bytes) [] (λ e. omega arith) (escapes bytes) (Lacks-nil 10))

comma_lacks : (later : Bool) → Lacks 10 (comma_if later)
comma_lacks true = word (44 ∷ []) refl
comma_lacks false = Lacks-nil 10

-- what is written without white space has no line feed
mutual
  pub document_lacks : (d : Data) → Lacks 10 (compact_text d)
  document_lacks null = word (codes "null") refl
  document_lacks (boolean true) = word (codes "true") refl
  document_lacks (boolean false) = word (codes "false") refl
  document_lacks (number n) = numeral n
  document_lacks (string s) = string_lacks s
  document_lacks (array ds) = Lacks-cons 10 91 _ (λ e. omega arith) (items_lack false ds)
  document_lacks (object ms) = Lacks-cons 10 123 _ (λ e. omega arith) (members_lack false ms)

  items_lack : (later : Bool) (ds : Items) → Lacks 10 (items_text later ds)
  items_lack later no_items = word (93 ∷ []) refl
  items_lack later (item d ds) =
      Lacks-append 10 (comma_if later) (compact_text d ++ items_text true ds) (comma_lacks later)
      (Lacks-append 10 (compact_text d) (items_text true ds) (document_lacks d) (items_lack true ds))

  members_lack : (later : Bool) (ms : Members) → Lacks 10 (members_text later ms)
  members_lack later no_members = word (125 ∷ []) refl
  members_lack later (member k d ms) =
      Lacks-append 10 (comma_if later) (quoted k ++ 58 ∷ (compact_text d ++ members_text true ms)) (comma_lacks later)
      (both 58 (quoted k) (compact_text d ++ members_text true ms) (λ e. omega arith) (string_lacks k)
      (Lacks-append 10 (compact_text d) (members_text true ms) (document_lacks d) (members_lack true ms)))
