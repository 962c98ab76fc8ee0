-- A picture as a document of SVG.
use Rattle.std.specs.Prelude.{ℕ, ◌≡◌, ◌++◌, ◌∷◌, [], List, codes, decimal, nat_lt, if◌then◌else◌}
use Rattle.picture.specs.declared.layout.Layout.{Layout}
use Rattle.picture.specs.declared.shape.Shape.{Shape}
use Rattle.picture.specs.declared.style.TheConstants.{STYLE}
use Rattle.picture.specs.declared.window.Span.{Span}
use Rattle.picture.specs.Escaping.{escaped}
use Rattle.picture.specs.Shapes.{quote, shapes_text}

-- an attribute of the size, with the words before its number
abbrev pub size_text : List ℕ → ℕ → List ℕ
size_text words n = words ++ (decimal n ++ quote ∷ [])

abbrev pub start_tag : ℕ → ℕ → List ℕ
start_tag width height =
    codes "<svg xmlns=\"http://www.w3.org/2000/svg\""
    ++ (size_text (codes " width=\"") width
    ++ (size_text (codes " height=\"") height ++ codes ">\n"))

-- which events are shown of so many
abbrev pub window_text : ℕ → Span → List ℕ
window_text count span =
    if nat_lt span.last span.first
    then codes "No event of " ++ (decimal count ++ codes " is shown.")
    else codes "Events " ++ (decimal span.first ++ (codes " to " ++ (decimal span.last
    ++ (codes " of " ++ (decimal count ++ codes " are shown.")))))

-- the visible line of these words
abbrev pub window_element : ℕ → Span → List ℕ
window_element count span = codes "<text class=\"window\" x=\"12\" y=\"48\">"
    ++ (escaped (window_text count span) ++ codes "</text>\n")

-- The document says which events are shown. Else it has shapes, whose texts are escaped. Which shapes is not said.
pub record IsPictureOf (layout : Layout) (text : List ℕ) : Type 0 where
  pub width : ℕ
  pub height : ℕ
  pub shapes : List Shape
  pub is : text ≡ start_tag width height ++ (STYLE.now
      ++ (window_element layout.count layout.span ++ (shapes_text shapes ++ codes "</svg>\n")))
