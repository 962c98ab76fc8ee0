-- Texts in a document of XML.
use Rattle.std.specs.Prelude.{ℕ, Bool, not, ◌≢◌, ◌&&◌, ◌||◌, ◌==◌, nat_lt, List, [], ◌∷◌, ◌++◌, if◌then◌else◌, codes, encode_utf8}
use Rattle.std.specs.Str.{chars}

-- a line feed, a tab or a carriage return
abbrev pub is_break : ℕ → Bool
is_break c = (c == 10) || ((c == 9) || (c == 13))

-- XML allows the character: it is no other control character, and none of the two that stand for no character
abbrev pub is_allowed : ℕ → Bool
is_allowed c = (is_break c || not (nat_lt c 32)) && not ((c == 65534) || (c == 65535))

-- what stands for a character that XML does not allow
abbrev pub replacement : ℕ
replacement = 65533

abbrev pub escaped_char : ℕ → List ℕ
escaped_char c =
    if c == 60 then codes "&lt;"
    else (if c == 62 then codes "&gt;" else (if c == 38 then codes "&amp;"
    else (if c == 34 then codes "&quot;" else (if c == 39 then codes "&apos;"
    else (if is_allowed c then encode_utf8 c else encode_utf8 replacement)))))

abbrev pub escaped_chars : List ℕ → List ℕ
escaped_chars [] = []
escaped_chars (c ∷ cs) = escaped_char c ++ escaped_chars cs

-- the text, escaped
abbrev pub escaped : List ℕ → List ℕ
escaped text = escaped_chars (chars text)

-- one of the five entities
pub data IsEntity : List ℕ → Type 0 where
  lt : IsEntity (codes "&lt;")
  gt : IsEntity (codes "&gt;")
  amp : IsEntity (codes "&amp;")
  quot : IsEntity (codes "&quot;")
  apos : IsEntity (codes "&apos;")

-- the byte is none of <, >, & and the quotes
pub record IsPlain (b : ℕ) : Type 0 where
  pub less : b ≢ 60
  pub greater : b ≢ 62
  pub ampersand : b ≢ 38
  pub quote : b ≢ 34
  pub apostrophe : b ≢ 39

-- bytes that may stand in a text or in a value between quotes: plain ones, and entities
pub data IsCharacterData : List ℕ → Type 0 where
  nothing : IsCharacterData []
  byte : {b : ℕ} {rest : List ℕ} → IsPlain b → IsCharacterData rest → IsCharacterData (b ∷ rest)
  entity : {e rest : List ℕ} → IsEntity e → IsCharacterData rest → IsCharacterData (e ++ rest)
