-- Which handlers call which, by rows of marks, and how far calls reach.
use Rattle.std.proofs.Common.{◌≡◌, ◌≢◌, ◌<◌, ◌⊎◌, inl, inr, ⊎_elim, ℕ, zero, suc, List, [], ◌∷◌, length, map, get_or, set, replicate, Bool, true, false, Option, Some, None, Contains, refl, sym, ap, ◌∙◌, subst, arith, get_or-set_same, get_or-set_other, length-set, true≢false}
use Rattle.std.proofs.lemmas.List.{length-replicate}
use Rattle.std.specs.List.{slice_get}
use Rattle.script_model.specs.declared.checked.Handler.{Handler}
use Rattle.script_model.specs.Reaching.{called, Calls, Reaches, directly, further}
use Rattle.script.specs.Marks.{marked, marked_all, call_rows}

pub same_or_other : (n k : ℕ) → (n ≡ k) ⊎ (n ≢ k)
same_or_other zero zero = inl refl
same_or_other zero (suc k) = inr (λ e. omega arith)
same_or_other (suc n) zero = inr (λ e. omega arith)
same_or_other (suc n) (suc k) = ⊎_elim (λ (e : n ≡ k). inl (ap suc e)) (λ (o : n ≢ k). inr (λ e. o (omega arith))) (same_or_other n k)

-- ---- marks of many numbers

contains_here : (k n : ℕ) (ns : List ℕ) → n ≡ k → Contains (k ∷ ns) n
contains_here k n ns e = (0, omega arith, sym e)

contains_later : (k n : ℕ) (ns : List ℕ) → Contains ns n → Contains (k ∷ ns) n
contains_later k n ns c = (suc c.0, omega (arith, c.1), c.2)

marked-within : (marks : List Bool) (n : ℕ) → marked marks n ≡ true → n < length marks
marked-within [] n e = absurd (true≢false (sym e))
marked-within (b ∷ marks) zero e = omega arith
marked-within (b ∷ marks) (suc n) e = omega (arith, marked-within marks n e)

marked-set : (marks : List Bool) (k n : ℕ) → marked marks n ≡ true → (n ≡ k) ⊎ (n ≢ k) → marked (set marks k true) n ≡ true
marked-set marks k n e (inl same) = subst (λ m. marked (set marks m true) n ≡ true) same (get_or-set_same marks n true false (marked-within marks n e))
marked-set marks k n e (inr other) = get_or-set_other marks k n true false other ∙ e

marked_all-kept : (ns : List ℕ) (marks : List Bool) (n : ℕ) → marked marks n ≡ true → marked (marked_all ns marks) n ≡ true
marked_all-kept [] marks n e = e
marked_all-kept (k ∷ ns) marks n e = marked_all-kept ns (set marks k true) n (marked-set marks k n e (same_or_other n k))

marked_all-to : (ns : List ℕ) (marks : List Bool) (n i : ℕ) → n < length marks → i < length ns → get_or ns i n ≡ n → marked (marked_all ns marks) n ≡ true
marked_all-to [] marks n i h within at = absurd (omega arith)
marked_all-to (k ∷ ns) marks n zero h within at =
    marked_all-kept ns (set marks k true) n (subst (λ m. marked (set marks m true) n ≡ true) (sym at) (get_or-set_same marks n true false h))
marked_all-to (k ∷ ns) marks n (suc i) h within at = marked_all-to ns (set marks k true) n i (omega (arith, length-set marks k true)) (omega arith) at

set-from : (marks : List Bool) (k n : ℕ) → marked (set marks k true) n ≡ true → (n ≡ k) ⊎ (n ≢ k) → (marked marks n ≡ true) ⊎ (n ≡ k)
set-from marks k n e (inl same) = inr same
set-from marks k n e (inr other) = inl (sym (get_or-set_other marks k n true false other) ∙ e)

marked_all-from : (ns : List ℕ) (marks : List Bool) (n : ℕ) → marked (marked_all ns marks) n ≡ true → (marked marks n ≡ true) ⊎ Contains ns n
marked_all-from [] marks n e = inl e
marked_all-from (k ∷ ns) marks n e =
    ⊎_elim (λ (h : marked (set marks k true) n ≡ true).
    ⊎_elim (λ (m : marked marks n ≡ true). inl m) (λ (same : n ≡ k). inr (contains_here k n ns same)) (set-from marks k n h (same_or_other n k)))
    (λ (c : Contains ns n). inr (contains_later k n ns c)) (marked_all-from ns (set marks k true) n e)

pub marked-replicate : (count n : ℕ) → marked (replicate count false) n ≡ false
marked-replicate zero n = refl
marked-replicate (suc count) zero = refl
marked-replicate (suc count) (suc n) = marked-replicate count n

-- ---- rows

row_at : (f : Handler → List Bool) (hs : List Handler) (a : ℕ) (h : Handler) → slice_get hs a ≡ Some h → get_or (map f hs) a [] ≡ f h
row_at f [] a h e = cc
row_at f (x ∷ hs) zero h e = let same : x ≡ h = cc in ap f same
row_at f (x ∷ hs) (suc a) h e = row_at f hs a h e

row_past : (f : Handler → List Bool) (hs : List Handler) (a : ℕ) → slice_get hs a ≡ None → get_or (map f hs) a [] ≡ []
row_past f [] a e = refl
row_past f (x ∷ hs) zero e = cc
row_past f (x ∷ hs) (suc a) e = row_past f hs a e

calls_at : (hs : List Handler) (a b : ℕ) (o : Option Handler) → slice_get hs a ≡ o → marked (get_or (call_rows hs) a []) b ≡ true → Calls hs a b
calls_at hs a b None at e =
    absurd (true≢false (sym e ∙ ap (λ row. marked row b) (row_past (λ h. marked_all (called h.body) (replicate (length hs) false)) hs a at)))
calls_at hs a b (Some h) at e =
    let row = row_at (λ h. marked_all (called h.body) (replicate (length hs) false)) hs a h at in
    ⊎_elim (λ (m : marked (replicate (length hs) false) b ≡ true). absurd (true≢false (sym m ∙ marked-replicate (length hs) b)))
    (λ (c : Contains (called h.body) b). (h, at, c)) (marked_all-from (called h.body) (replicate (length hs) false) b (sym (ap (λ r. marked r b) row) ∙ e))

pub calls_from_row : (hs : List Handler) (a b : ℕ) → marked (get_or (call_rows hs) a []) b ≡ true → Calls hs a b
calls_from_row hs a b e = calls_at hs a b _ refl e

pub row_from_calls : (hs : List Handler) (a b : ℕ) → Calls hs a b → b < length hs → marked (get_or (call_rows hs) a []) b ≡ true
row_from_calls hs a b calls h =
    ap (λ r. marked r b) (row_at (λ h. marked_all (called h.body) (replicate (length hs) false)) hs a calls.0 calls.1)
    ∙ marked_all-to (called calls.0.body) (replicate (length hs) false) b calls.2.0 (omega (arith, length-replicate (length hs) false)) calls.2.1 calls.2.2

-- ---- reaching

pub reaches_more : (hs : List Handler) {a b c : ℕ} → Reaches hs a b → Calls hs b c → Reaches hs a c
reaches_more hs (directly first) last = further first (directly last)
reaches_more hs (further first rest) last = further first (reaches_more hs rest last)
