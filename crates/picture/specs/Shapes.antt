-- Shapes of a drawing, as elements of SVG.
use Rattle.std.specs.Prelude.{ℕ, List, [], ◌∷◌, ◌++◌, codes, decimal, string_bytes}
use Rattle.run_model.specs.Transcripts.{line_feed}
use Rattle.picture.specs.declared.bar.Fate.{Fate}
use Rattle.picture.specs.declared.bar.Fate.TheVariants as fate
use Rattle.picture.specs.declared.marks.Message.{Message}
use Rattle.picture.specs.declared.marks.Message.TheVariants as message
use Rattle.picture.specs.declared.shape.Class.{Class}
use Rattle.picture.specs.declared.shape.Class.TheVariants as class
use Rattle.picture.specs.declared.shape.Point.{Point}
use Rattle.picture.specs.declared.shape.Shape.{Shape}
use Rattle.picture.specs.declared.shape.Shape.TheVariants as shape
use Rattle.picture.specs.Escaping.{escaped}

abbrev pub fate_text : Fate → List ℕ
fate_text fate.Open = codes "open"
fate_text fate.Committed = codes "committed"
fate_text fate.Aborted = codes "aborted"
fate_text fate.Orphan = codes "orphan"

abbrev pub message_text : Message → List ℕ
message_text message.Call = codes "call"
message_text message.Prepare = codes "prepare"
message_text message.VoteYes = codes "yes"
message_text message.VoteNo = codes "no"
message_text message.Tell = codes "tell"

-- the classes of a shape in the style sheet
abbrev pub class_text : Class → List ℕ
class_text class.Page = codes "page"
class_text class.Lane = codes "lane"
class_text class.Spine = codes "spine"
class_text class.Gap = codes "gap"
class_text (class.Bar f) = codes "bar " ++ fate_text f
class_text (class.Tail f) = codes "tail " ++ fate_text f
class_text class.Tick = codes "tick"
class_text (class.Arrow m) = codes "arrow " ++ message_text m
class_text (class.Own m) = codes "own " ++ message_text m
class_text class.Heading = codes "heading"
class_text class.Guardian = codes "guardian"
class_text class.Label = codes "label"
class_text class.Key = codes "key"
class_text class.Axis = codes "axis"

abbrev pub quote : ℕ
quote = 34

-- a number in quotes, with the attribute's name and a space before it
abbrev pub attribute_text : List ℕ → ℕ → List ℕ
attribute_text name n = codes " " ++ (name ++ (codes "=\"" ++ (decimal n ++ quote ∷ [])))

-- the front of a start tag
abbrev pub start_text : List ℕ → Class → List ℕ
start_text tag c = tag ++ (codes " class=\"" ++ (class_text c ++ quote ∷ []))

abbrev pub box_start : Class → Point → ℕ → ℕ → List ℕ
box_start c p width height =
    start_text (codes "<rect") c
    ++ (attribute_text (codes "x") p.x ++ (attribute_text (codes "y") p.y
    ++ (attribute_text (codes "width") width
    ++ (attribute_text (codes "height") height ++ codes ">"))))

abbrev pub line_start : Class → Point → Point → List ℕ
line_start c p q =
    start_text (codes "<line") c
    ++ (attribute_text (codes "x1") p.x ++ (attribute_text (codes "y1") p.y
    ++ (attribute_text (codes "x2") q.x ++ (attribute_text (codes "y2") q.y ++ codes ">"))))

abbrev pub dot_start : Class → Point → List ℕ
dot_start c p =
    start_text (codes "<circle") c
    ++ (attribute_text (codes "cx") p.x ++ (attribute_text (codes "cy") p.y ++ codes " r=\"3\">"))

abbrev pub words_start : Class → Point → List ℕ
words_start c p = start_text (codes "<text") c
    ++ (attribute_text (codes "x") p.x ++ (attribute_text (codes "y") p.y ++ codes ">"))

-- the text that is shown over a shape
abbrev pub tip_text : List ℕ → List ℕ
tip_text tip = codes "<title>" ++ (escaped tip ++ codes "</title>")

-- a shape's element. What a run puts into it is escaped.
abbrev pub shape_text : Shape → List ℕ
shape_text (shape.Rect c p width height tip) =
    box_start c p width height ++ (tip_text (string_bytes tip) ++ codes "</rect>")
shape_text (shape.Line c p q tip) =
    line_start c p q ++ (tip_text (string_bytes tip) ++ codes "</line>")
shape_text (shape.Dot c p tip) = dot_start c p ++ (tip_text (string_bytes tip) ++ codes "</circle>")
shape_text (shape.Text c p words) =
    words_start c p ++ (escaped (string_bytes words) ++ codes "</text>")

-- a line each
abbrev pub shapes_text : List Shape → List ℕ
shapes_text [] = []
shapes_text (s ∷ shapes) = shape_text s ++ line_feed ∷ shapes_text shapes
