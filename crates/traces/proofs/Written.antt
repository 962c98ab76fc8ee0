-- Writing the lines of histories, and reading back what was written.
use Rattle.std.proofs.Common.{Vec, Global, ◌≡◌, ℕ, suc, ◌+◌, ◌<◌, List, [], ◌∷◌, ◌++◌, length, get_or, take, codes, refl, sym, ap, ◌∙◌, append_assoc, append-nil, add-zero, length-take, arith}
use Rattle.std.specs.List.{AllByRecursion}
use Rattle.std.proofs.lemmas.List.{length-map, map-append, take_more}
use Rattle.run_model.specs.Gathering.{Histories}
use Rattle.run_model.specs.LocalHistories.{Stamped}
use Rattle.run_model.specs.Openings.{Setup}
use Rattle.run_model.specs.Texts.{IsOpeningText, setup_data, setup_text}
use Rattle.traces.specs.declared.line.Line.{Line}
use Rattle.traces.specs.Traces.{AreHistoriesOver, IsLine, IsTrace, line_text, lines_from, lines_of, lines_text, lists_of, owned_lines, trace_text}
use Rattle.traces.proofs.SetupLines.{document_lacks}

lines_text-append : (xs ys : List Line) → lines_text (xs ++ ys) ≡ lines_text xs ++ lines_text ys
lines_text-append [] ys = refl
lines_text-append (x ∷ xs) ys =
    ap (λ (t : List ℕ). line_text x ++ 10 ∷ t) (lines_text-append xs ys) ∙ sym (append_assoc (line_text x) (10 ∷ lines_text xs) (lines_text ys))

owned-push : (o : ℕ) (h : List Stamped) (c : Stamped) → owned_lines o (h ++ c ∷ []) ≡ owned_lines o h ++ record { owner = o; stamped = c } ∷ []
owned-push o [] c = refl
owned-push o (d ∷ h) c = ap (λ (ls : List Line). record { owner = o; stamped = d } ∷ ls) (owned-push o h c)

lines_from-push : (o : ℕ) (hs : List (List Stamped)) (h : List Stamped) → lines_from o (hs ++ h ∷ []) ≡ lines_from o hs ++ owned_lines (o + length hs) h
lines_from-push o [] h = append-nil (owned_lines o h) ∙ ap (λ (n : ℕ). owned_lines n h) (sym (add-zero o))
lines_from-push o (j ∷ hs) h =
    let moved : suc o + length hs ≡ o + length (j ∷ hs) = omega arith in
    ap (λ (ls : List Line). owned_lines o j ++ ls) (lines_from-push (suc o) hs h)
    ∙ sym (append_assoc (owned_lines o j) (lines_from (suc o) hs) (owned_lines (suc o + length hs) h))
    ∙ ap (λ (n : ℕ). (owned_lines o j ++ lines_from (suc o) hs) ++ owned_lines n h) moved

-- one event more
pub event_more : (o i : ℕ) (h : List Stamped) (c : Stamped) (old now new : List ℕ) → i < length h → c ≡ get_or h i c → now ≡ old ++ lines_text (owned_lines o (take i h))
    → new ≡ now ++ (line_text (record { owner = o; stamped = c }) ++ 10 ∷ []) → new ≡ old ++ lines_text (owned_lines o (take (i + 1) h))
event_more o i h c old now new lt item so_far wrote =
    let more : take (i + 1) h ≡ take i h ++ c ∷ [] = take_more h i c lt ∙ ap (λ (x : Stamped). take i h ++ x ∷ []) (sym item) in
    let l : Line = record { owner = o; stamped = c } in
    wrote ∙ ap (λ (t : List ℕ). t ++ (line_text l ++ 10 ∷ [])) so_far ∙ append_assoc old (lines_text (owned_lines o (take i h))) (line_text l ++ 10 ∷ [])
    ∙ ap (λ (t : List ℕ). old ++ t) (sym (ap (λ (x : List Stamped). lines_text (owned_lines o x)) more ∙ ap lines_text (owned-push o (take i h) c) ∙ lines_text-append (owned_lines o (take i h)) (l ∷ [])))

-- one history more
pub history_more : (i : ℕ) (gs : List (Vec Stamped Global)) (h : Vec Stamped Global) (old now new : List ℕ) → i < length gs → h ≡ get_or gs i h
    → now ≡ old ++ lines_text (lines_from 1 (lists_of (take i gs))) → new ≡ now ++ lines_text (owned_lines (i + 1) h.items)
    → new ≡ old ++ lines_text (lines_from 1 (lists_of (take (i + 1) gs)))
history_more i gs h old now new lt item so_far wrote =
    let more : take (i + 1) gs ≡ take i gs ++ h ∷ [] = take_more gs i h lt ∙ ap (λ (x : Vec Stamped Global). take i gs ++ x ∷ []) (sym item) in
    let lists : lists_of (take (i + 1) gs) ≡ lists_of (take i gs) ++ h.items ∷ [] = ap lists_of more ∙ map-append (λ (v : Vec Stamped Global). v.items) (take i gs) (h ∷ []) in
    let place : 1 + length (lists_of (take i gs)) ≡ i + 1 = omega (arith, length-map (take i gs) (λ (v : Vec Stamped Global). v.items), length-take i gs) in
    wrote ∙ ap (λ (t : List ℕ). t ++ lines_text (owned_lines (i + 1) h.items)) so_far
    ∙ append_assoc old (lines_text (lines_from 1 (lists_of (take i gs)))) (lines_text (owned_lines (i + 1) h.items))
    ∙ ap (λ (t : List ℕ). old ++ t) (sym (ap (λ (x : List (List Stamped)). lines_text (lines_from 1 x)) lists ∙ ap lines_text (lines_from-push 1 (lists_of (take i gs)) h.items)
    ∙ lines_text-append (lines_from 1 (lists_of (take i gs))) (owned_lines (1 + length (lists_of (take i gs))) h.items)
    ∙ ap (λ (n : ℕ). lines_text (lines_from 1 (lists_of (take i gs))) ++ lines_text (owned_lines n h.items)) place))

-- the whole
pub all_written : (setup : Setup) (r : List Stamped) (gs : List (List Stamped)) (t0 t1 t2 t3 : List ℕ) → t0 ≡ [] → t1 ≡ t0 ++ (codes "setup " ++ (setup_text setup ++ 10 ∷ []))
    → t2 ≡ t1 ++ lines_text (owned_lines 0 r) → t3 ≡ t2 ++ lines_text (lines_from 1 gs) → t3 ≡ trace_text setup (record { registry = r; guardians = gs })
all_written setup r gs t0 t1 t2 t3 a b c d =
    let first : t1 ≡ codes "setup " ++ (setup_text setup ++ 10 ∷ []) = b ∙ ap (λ (t : List ℕ). t ++ (codes "setup " ++ (setup_text setup ++ 10 ∷ []))) a in
    let lines : lines_text (owned_lines 0 r) ++ lines_text (lines_from 1 gs) ≡ lines_text (lines_of (record { registry = r; guardians = gs })) = sym (lines_text-append (owned_lines 0 r) (lines_from 1 gs)) in
    d ∙ ap (λ (t : List ℕ). t ++ lines_text (lines_from 1 gs)) c ∙ append_assoc t1 (lines_text (owned_lines 0 r)) (lines_text (lines_from 1 gs))
    ∙ ap (λ (t : List ℕ). t ++ (lines_text (owned_lines 0 r) ++ lines_text (lines_from 1 gs))) first
    ∙ ap (λ (t : List ℕ). (codes "setup " ++ (setup_text setup ++ 10 ∷ [])) ++ t) lines
    ∙ append_assoc (codes "setup ") (setup_text setup ++ 10 ∷ []) (lines_text (lines_of (record { registry = r; guardians = gs })))
    ∙ ap (λ (t : List ℕ). codes "setup " ++ t) (append_assoc (setup_text setup) (10 ∷ []) (lines_text (lines_of (record { registry = r; guardians = gs }))))

pub read_back : (text : List ℕ) (setup : Setup) (hs : Histories) → text ≡ trace_text setup hs → IsOpeningText (setup_text setup) setup → AllByRecursion IsLine (lines_of hs)
    → AreHistoriesOver setup hs.guardians → IsTrace text setup hs
read_back text setup hs is spells each guardians = record {
  each = each;
  guardians = guardians;
  text = record { document = setup_text setup; spells = spells; one_line = document_lacks (setup_data setup); text = is };
}
