-- The array of texts.
use Rattle.std.specs.Prelude.{ℕ, List, [], ◌∷◌, ◌++◌, Bool, true, false, IsUtf8}
use Rattle.serde_json.specs.Written.{comma_if}
use Rattle.stable_store.specs.Stored.{Stored}
use Rattle.store_texts.specs.Texts.{IsStoreText}

-- texts with commas between them, and the closing bracket
abbrev pub texts_items : Bool → List (List ℕ) → List ℕ
texts_items later [] = 93 ∷ []
texts_items later (t ∷ ts) = comma_if later ++ (t ++ texts_items true ts)

-- the JSON array of texts, without white space
abbrev pub array_of : List (List ℕ) → List ℕ
array_of ts = 91 ∷ texts_items false ts

-- each text is UTF-8, and the text of its content
abbrev pub AreStoreTexts : List (List ℕ) → List Stored → Type 0
AreStoreTexts [] [] = Unit {0}
AreStoreTexts [] (c ∷ cs) = ⊥
AreStoreTexts (t ∷ ts) [] = ⊥
AreStoreTexts (t ∷ ts) (c ∷ cs) = IsUtf8 t × IsStoreText t c × AreStoreTexts ts cs
