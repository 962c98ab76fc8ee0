-- An escaped text has none of the characters that mean something in XML.
use Rattle.std.proofs.Common.{◌≡◌, ◌≢◌, ℕ, suc, ◌<◌, Bool, true, false, cond, ◌==◌, List, [], ◌∷◌, ◌++◌, length, get_or, lit<, refl, sym, subst, ◌∙◌, arith, append_assoc}
use Rattle.std.proofs.lemmas.Bool.{eqb-false}
use Rattle.std.specs.Prelude.{encode_utf8}
use Rattle.std.specs.Str.{chars}
use Rattle.std.proofs.lemmas.Str.{inside_one}
use Rattle.std.proofs.lemmas.List.{append-nil}
use Rattle.picture.specs.Escaping.{IsCharacterData, nothing, byte, entity, IsEntity, lt, gt, amp, quot, apos, IsPlain, escaped, escaped_char, escaped_chars, is_allowed, replacement}

-- two pieces together
join : (a b : List ℕ) → IsCharacterData a → IsCharacterData b → IsCharacterData (a ++ b)
join _ b nothing more = more
join _ b (byte {b = x} {rest = rest} plain this) more = byte plain (join rest b this more)
join _ b (entity {e = e} {rest = rest} is this) more =
    subst IsCharacterData (sym (append_assoc e rest b)) (entity is (join rest b this more))

alone : (e : List ℕ) → IsEntity e → IsCharacterData e
alone e is = subst IsCharacterData (append-nil e) (entity is nothing)

-- bytes of which each is plain
all_plain : (bytes : List ℕ) → ((k : ℕ) → k < length bytes → IsPlain (get_or bytes k 0)) → IsCharacterData bytes
all_plain [] each = nothing
all_plain (b ∷ bytes) each = byte (each 0 (omega arith)) (all_plain bytes (λ k within. each (suc k) (omega arith)))

-- a character that is none of the five has plain bytes
plain_char : (c : ℕ) → c ≢ 60 → c ≢ 62 → c ≢ 38 → c ≢ 34 → c ≢ 39 → IsCharacterData (encode_utf8 c)
plain_char c less greater ampersand quote apostrophe = all_plain (encode_utf8 c) (λ k within. record {
  less = λ e. less (at k within 60 e (lit< tt));
  greater = λ e. greater (at k within 62 e (lit< tt));
  ampersand = λ e. ampersand (at k within 38 e (lit< tt));
  quote = λ e. quote (at k within 34 e (lit< tt));
  apostrophe = λ e. apostrophe (at k within 39 e (lit< tt));
})
  where
    at : (k : ℕ) → k < length (encode_utf8 c) → (b : ℕ) → get_or (encode_utf8 c) k 0 ≡ b → b < 128 → c ≡ b
    at k within b e small = inside_one c [] (encode_utf8 c) k (sym (append-nil (encode_utf8 c))) within (subst (λ x. x < 128) (sym e) small) ∙ e

choose : (t : Bool) (a b : List ℕ) → IsCharacterData a → (t ≡ false → IsCharacterData b) → IsCharacterData (cond t a b)
choose true a b is other = is
choose false a b is other = other refl

safe_char : (c : ℕ) → IsCharacterData (escaped_char c)
safe_char c =
    choose (c == 60) _ _ (alone _ lt) (λ less. choose (c == 62) _ _ (alone _ gt) (λ greater. choose (c == 38) _ _ (alone _ amp) (λ ampersand.
    choose (c == 34) _ _ (alone _ quot) (λ quote. choose (c == 39) _ _ (alone _ apos) (λ apostrophe.
    choose (is_allowed c) _ _
    (plain_char c (eqb-false c 60 less) (eqb-false c 62 greater) (eqb-false c 38 ampersand) (eqb-false c 34 quote) (eqb-false c 39 apostrophe))
    (λ banned. plain_char replacement (λ e. absurd (omega arith)) (λ e. absurd (omega arith)) (λ e. absurd (omega arith)) (λ e. absurd (omega arith))
    (λ e. absurd (omega arith))))))))

safe_chars : (cs : List ℕ) → IsCharacterData (escaped_chars cs)
safe_chars [] = nothing
safe_chars (c ∷ cs) = join (escaped_char c) (escaped_chars cs) (safe_char c) (safe_chars cs)

-- no text is unsafe once it is escaped
pub all_safe : (text : List ℕ) → IsCharacterData (escaped text)
all_safe text = safe_chars (chars text)
