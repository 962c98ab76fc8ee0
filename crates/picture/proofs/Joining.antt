-- Texts to which pieces are appended in turn.
use Rattle.std.proofs.Common.{◌≡◌, ℕ, ◌+◌, ◌<◌, cond, List, [], ◌∷◌, ◌++◌, length, get_or, map, take, Result, Ok, Err, is_ok, OnOk, refl, sym, ap, ◌∙◌, append_assoc}
use Rattle.std.proofs.lemmas.List.{append-nil, take_more}
use Rattle.run_model.specs.Transcripts.{line_feed}
use Rattle.picture.specs.declared.shape.Shape.{Shape}
use Rattle.picture.specs.Escaping.{escaped_char, escaped_chars}
use Rattle.picture.specs.Shapes.{shape_text, shapes_text}

-- what the last piece makes, whose result is returned as it is
pub last_piece : {T E : Type 0} (r : Result T E) (before after piece whole : List ℕ) → after ≡ cond (is_ok r) (before ++ piece) before
    → before ++ piece ≡ whole → OnOk r (after ≡ whole)
last_piece (Ok x) before after piece whole put is = put ∙ is
last_piece (Err e) before after piece whole put is = tt

piece : (t u a rest : List ℕ) → u ≡ t ++ a → u ++ rest ≡ t ++ (a ++ rest)
piece t u a rest is = ap (λ (l : List ℕ). l ++ rest) is ∙ append_assoc t a rest

pub three_pieces : (t first second a b c : List ℕ) → first ≡ t ++ a → second ≡ first ++ b → second ++ c ≡ t ++ (a ++ (b ++ c))
three_pieces t first second a b c e f = piece first second b c f ∙ piece t first a (b ++ c) e

pub four_pieces : (t first second third a b c d : List ℕ) → first ≡ t ++ a → second ≡ first ++ b → third ≡ second ++ c
    → third ++ d ≡ t ++ (a ++ (b ++ (c ++ d)))
four_pieces t first second third a b c d e f g =
    piece second third c d g ∙ piece first second b (c ++ d) f ∙ piece t first a (b ++ (c ++ d)) e

five_pieces : (t first second third fourth a b c d e : List ℕ) → first ≡ t ++ a → second ≡ first ++ b → third ≡ second ++ c → fourth ≡ third ++ d
    → fourth ++ e ≡ t ++ (a ++ (b ++ (c ++ (d ++ e))))
five_pieces t first second third fourth a b c d e p q r s =
    piece third fourth d e s ∙ four_pieces t first second third a b c (d ++ e) p q r

pub six_pieces : (t first second third fourth fifth a b c d e f : List ℕ) → first ≡ t ++ a → second ≡ first ++ b → third ≡ second ++ c
    → fourth ≡ third ++ d → fifth ≡ fourth ++ e → fifth ++ f ≡ t ++ (a ++ (b ++ (c ++ (d ++ (e ++ f)))))
six_pieces t first second third fourth fifth a b c d e f p q r s u =
    piece fourth fifth e f u ∙ five_pieces t first second third fourth a b c d (e ++ f) p q r s

-- a whole text of five pieces
pub from_nothing : (t first second third fourth whole a b c d e : List ℕ) → t ≡ [] → first ≡ t ++ a → second ≡ first ++ b → third ≡ second ++ c
    → fourth ≡ third ++ d → whole ≡ fourth ++ e → whole ≡ a ++ (b ++ (c ++ (d ++ e)))
from_nothing t first second third fourth whole a b c d e none p q r s u =
    u ∙ five_pieces t first second third fourth a b c d e p q r s ∙ ap (λ (l : List ℕ). l ++ (a ++ (b ++ (c ++ (d ++ e))))) none

-- ---- escaped characters

escaped_chars-append : (cs ds : List ℕ) → escaped_chars (cs ++ ds) ≡ escaped_chars cs ++ escaped_chars ds
escaped_chars-append [] ds = refl
escaped_chars-append (c ∷ cs) ds =
    ap (λ (l : List ℕ). escaped_char c ++ l) (escaped_chars-append cs ds) ∙ sym (append_assoc (escaped_char c) (escaped_chars cs) (escaped_chars ds))

-- one character more
pub one_escaped : (before so_far after cs : List ℕ) (c : ℕ) → so_far ≡ before ++ escaped_chars cs → after ≡ so_far ++ escaped_char c
    → after ≡ before ++ escaped_chars (cs ++ c ∷ [])
one_escaped before so_far after cs c was put =
    put ∙ ap (λ (l : List ℕ). l ++ escaped_char c) was ∙ append_assoc before (escaped_chars cs) (escaped_char c)
    ∙ sym (ap (λ (l : List ℕ). before ++ l) (escaped_chars-append cs (c ∷ []) ∙ ap (λ (l : List ℕ). escaped_chars cs ++ l) (append-nil (escaped_char c))))

-- each item as it is
pub map_same : (xs : List ℕ) → map (λ c. c) xs ≡ xs
map_same [] = refl
map_same (x ∷ xs) = ap (λ (l : List ℕ). x ∷ l) (map_same xs)

-- ---- shapes

shapes_text-push : (shapes : List Shape) (s : Shape) → shapes_text (shapes ++ s ∷ []) ≡ shapes_text shapes ++ (shape_text s ++ line_feed ∷ [])
shapes_text-push [] s = refl
shapes_text-push (x ∷ shapes) s =
    ap (λ (l : List ℕ). shape_text x ++ line_feed ∷ l) (shapes_text-push shapes s)
    ∙ sym (append_assoc (shape_text x) (line_feed ∷ shapes_text shapes) (shape_text s ++ line_feed ∷ []))

-- one shape more
pub one_shaped : (shapes : List Shape) (i : ℕ) (s : Shape) (before so_far after : List ℕ) → i < length shapes → s ≡ get_or shapes i s
    → so_far ≡ before ++ shapes_text (take i shapes) → after ≡ so_far ++ (shape_text s ++ line_feed ∷ [])
    → after ≡ before ++ shapes_text (take (i + 1) shapes)
one_shaped shapes i s before so_far after lt item was put =
    put ∙ ap (λ (l : List ℕ). l ++ (shape_text s ++ line_feed ∷ [])) was
    ∙ append_assoc before (shapes_text (take i shapes)) (shape_text s ++ line_feed ∷ [])
    ∙ sym (ap (λ (l : List ℕ). before ++ l)
    (ap shapes_text (take_more shapes i s lt ∙ ap (λ (x : Shape). take i shapes ++ x ∷ []) (sym item)) ∙ shapes_text-push (take i shapes) s))
