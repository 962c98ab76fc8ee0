-- The marks with which the search for a handler's calls begins, and the table that it goes by.
use Rattle.std.proofs.Common.{◌≡◌, ◌<◌, ⊎_elim, ℕ, zero, suc, List, [], ◌∷◌, length, map, get_or, set, replicate, Bool, true, false, Vec, Global, Contains, refl, sym, ap, ◌∙◌, subst, arith, length-set, true≢false}
use Rattle.std.proofs.lemmas.List.{length-replicate}
use Rattle.script_model.specs.declared.checked.Handler.{Handler}
use Rattle.script_model.specs.Reaching.{called, directly}
use Rattle.script.specs.Marks.{marked, marked_all, call_rows, rows_of, AddsRow}
use Rattle.script.proofs.Reach.{calls_from_row, marked-replicate}
use Rattle.script.proofs.Rows.{length-rows_of, row_of}
use Rattle.script.proofs.Spreading.{ReachedFrom, or_right, or_either}

pub reached_first : (start : ℕ) (rows : List (List Bool)) (blank new : List Bool) (grew : Bool) (count : ℕ) → blank ≡ replicate count false → count ≡ length rows
    → AddsRow (get_or rows start []) blank new grew → ReachedFrom start rows new
reached_first start rows blank new grew count none same adds = record {
  same_length = adds.same_length ∙ ap length none ∙ length-replicate count false ∙ same;
  begun = λ b e. adds.union b ∙ or_right (marked blank b) (marked (get_or rows start []) b) e;
  sound = λ hs is n e. ⊎_elim
      (λ (m : marked blank n ≡ true). absurd (true≢false (sym m ∙ ap (λ marks. marked marks n) none ∙ marked-replicate count n)))
      (λ (m : marked (get_or rows start []) n ≡ true). directly (calls_from_row hs start n (subst (λ rs. marked (get_or rs start []) n ≡ true) is m)))
      (or_either (marked blank n) (marked (get_or rows start []) n) (sym (adds.union n) ∙ e));
}

length-rows : (f : Handler → List Bool) (hs : List Handler) → length (map f hs) ≡ length hs
length-rows f [] = refl
length-rows f (h ∷ hs) = ap suc (length-rows f hs)

pub length-call_rows : (hs : List Handler) → length (call_rows hs) ≡ length hs
length-call_rows hs = length-rows (λ h. marked_all (called h.body) (replicate (length hs) false)) hs

length-marked_all : (ns : List ℕ) (marks : List Bool) → length (marked_all ns marks) ≡ length marks
length-marked_all [] marks = refl
length-marked_all (n ∷ ns) marks = length-marked_all ns (set marks n true) ∙ length-set marks n true

length-row : (f : Handler → List Bool) (n : ℕ) → ((h : Handler) → length (f h) ≡ n) → (hs : List Handler) (k : ℕ) → k < length hs → length (get_or (map f hs) k []) ≡ n
length-row f n each [] k h = absurd (omega arith)
length-row f n each (x ∷ hs) zero h = each x
length-row f n each (x ∷ hs) (suc k) h = length-row f n each hs k (omega arith)

-- each row of the table is as long as the table
pub square_rows : (hs : List Handler) (table : List (Vec Bool Global)) → rows_of table ≡ call_rows hs → (row : Vec Bool Global) → Contains table row → length row.items ≡ length table
square_rows hs table same row held =
    let count = sym (length-rows_of table) ∙ ap length same ∙ length-call_rows hs in
    let long = length-row (λ h. marked_all (called h.body) (replicate (length hs) false)) (length hs)
    (λ h. length-marked_all (called h.body) (replicate (length hs) false) ∙ length-replicate (length hs) false) hs held.0 (omega (arith, count, held.1)) in
    ap length (row_of table held.0 row held.1 (sym held.2)) ∙ ap (λ rows. length (get_or rows held.0 [])) same ∙ long ∙ sym count
