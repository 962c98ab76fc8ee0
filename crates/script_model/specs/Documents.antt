-- The document that bytes are.
use Rattle.std.specs.Prelude.{◌≡◌, ℕ, List, Some, IsUtf8}
use Rattle.serde_json.specs.Data.{Data}
use Rattle.serde_json.specs.Read.{read}

-- a JSON text is UTF-8 (RFC 8259)
abbrev pub IsDocument : List ℕ → Data → Type 0
IsDocument bytes d = IsUtf8 bytes × (read bytes ≡ Some d)

-- they are none, so they are no JSON
abbrev pub IsNoJson : List ℕ → Type 0
IsNoJson bytes = (d : Data) → IsDocument bytes d → ⊥
