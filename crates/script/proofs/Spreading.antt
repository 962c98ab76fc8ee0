-- Marks spread from marked handlers to those that they call, one row after another.
use Rattle.std.proofs.Common.{◌≡◌, ◌<◌, ◌≤◌, ◌⊎◌, inl, inr, ⊎_elim, ℕ, zero, suc, ◌+◌, List, [], ◌∷◌, length, get_or, Bool, true, false, ◌||◌, refl, sym, ap, ◌∙◌, subst, arith, below_more, true≢false}
use Rattle.std.proofs.Common.{◌↔◌, Some}
use Rattle.std.proofs.lemmas.Option.{slice_get_within}
use Rattle.std.specs.List.{slice_get}
use Rattle.script_model.specs.declared.checked.Handler.{Handler}
use Rattle.script_model.specs.Reaching.{Reaches, directly, further}
use Rattle.script.specs.Marks.{marked, unmarked, call_rows, AddsRow, Spreads}
use Rattle.script.proofs.Reach.{calls_from_row, row_from_calls, reaches_more}

-- the marks after so many rows
pub record SpreadsUpTo (i : ℕ) (rows : List (List Bool)) (old now : List Bool) (grew : Bool) : Type 0 where
  pub same_length : length now ≡ length old
  pub kept : (n : ℕ) → marked old n ≡ true → marked now n ≡ true
  pub sound : (hs : List Handler) (start : ℕ) → rows ≡ call_rows hs → ((n : ℕ) → marked old n ≡ true → Reaches hs start n)
      → (n : ℕ) → marked now n ≡ true → Reaches hs start n
  pub most : unmarked now ≤ unmarked old
  pub more : grew ≡ true → unmarked now < unmarked old
  pub closed : grew ≡ false → (a : ℕ) → a < i → (b : ℕ) → marked now a ≡ true → marked (get_or rows a []) b ≡ true → marked now b ≡ true

pub spreads_none : (rows : List (List Bool)) (old : List Bool) → SpreadsUpTo 0 rows old old false
spreads_none rows old = record {
  same_length = refl;
  kept = λ n e. e;
  sound = λ hs start same reached. reached;
  most = omega arith;
  more = λ e. absurd (true≢false (sym e));
  closed = λ e a h. absurd (omega arith);
}

-- a handler that is not marked
pub spreads_unmarked : (i : ℕ) (rows : List (List Bool)) (old now : List Bool) (grew : Bool) → SpreadsUpTo i rows old now grew → marked now i ≡ false
    → SpreadsUpTo (i + 1) rows old now grew
spreads_unmarked i rows old now grew before off = record {
  same_length = before.same_length;
  kept = before.kept;
  sound = before.sound;
  most = before.most;
  more = before.more;
  closed = λ e. below_more (λ a. (b : ℕ) → marked now a ≡ true → marked (get_or rows a []) b ≡ true → marked now b ≡ true) i (before.closed e)
      (λ b on row. absurd (true≢false (sym on ∙ off)));
}

or_left : (a b : Bool) → a ≡ true → (a || b) ≡ true
or_left a b e = ap (λ c. c || b) e

pub or_right : (a b : Bool) → b ≡ true → (a || b) ≡ true
or_right true b e = refl
or_right false b e = e

pub or_either : (a b : Bool) → (a || b) ≡ true → (a ≡ true) ⊎ (b ≡ true)
or_either true b e = inl refl
or_either false b e = inr e

row_kept : (row now new : List Bool) (grew : Bool) → AddsRow row now new grew → (n : ℕ) → marked now n ≡ true → marked new n ≡ true
row_kept row now new grew adds n e = adds.union n ∙ or_left (marked now n) (marked row n) e

-- what the row of a marked handler adds is reached
row_sound : (i : ℕ) (rows : List (List Bool)) (now new : List Bool) (grew : Bool) → AddsRow (get_or rows i []) now new grew → marked now i ≡ true
    → (hs : List Handler) (start : ℕ) → rows ≡ call_rows hs → ((n : ℕ) → marked now n ≡ true → Reaches hs start n) → (n : ℕ) → marked new n ≡ true → Reaches hs start n
row_sound i rows now new grew adds on hs start same reached n e =
    ⊎_elim (λ (was : marked now n ≡ true). reached n was)
    (λ (called : marked (get_or rows i []) n ≡ true). reaches_more hs (reached i on) (calls_from_row hs i n (subst (λ rs. marked (get_or rs i []) n ≡ true) same called)))
    (or_either (marked now n) (marked (get_or rows i []) n) (sym (adds.union n) ∙ e))

-- a marked handler whose row has more
pub spreads_grown : (i : ℕ) (rows : List (List Bool)) (old now new : List Bool) (grew : Bool) → SpreadsUpTo i rows old now grew → marked now i ≡ true
    → AddsRow (get_or rows i []) now new true → SpreadsUpTo (i + 1) rows old new true
spreads_grown i rows old now new grew before on adds = record {
  same_length = adds.same_length ∙ before.same_length;
  kept = λ n e. row_kept (get_or rows i []) now new true adds n (before.kept n e);
  sound = λ hs start same reached. row_sound i rows now new true adds on hs start same (before.sound hs start same reached);
  most = omega (arith, adds.more refl, before.most);
  more = λ e. omega (arith, adds.more refl, before.most);
  closed = λ e. absurd (true≢false e);
}

-- a marked handler whose row has no more
pub spreads_same : (i : ℕ) (rows : List (List Bool)) (old now new : List Bool) (grew : Bool) → SpreadsUpTo i rows old now grew → marked now i ≡ true
    → AddsRow (get_or rows i []) now new false → SpreadsUpTo (i + 1) rows old new grew
spreads_same i rows old now new grew before on adds =
    let same = adds.same refl in
    subst (λ marks. SpreadsUpTo (i + 1) rows old marks grew) (sym same) (record {
      same_length = before.same_length;
      kept = before.kept;
      sound = before.sound;
      most = before.most;
      more = before.more;
      closed = λ e. below_more (λ a. (b : ℕ) → marked now a ≡ true → marked (get_or rows a []) b ≡ true → marked now b ≡ true) i (before.closed e)
          (λ b was row. ap (λ marks. marked marks b) (sym same) ∙ adds.union b ∙ or_right (marked now b) (marked (get_or rows i []) b) row);
    })

within_rows : (rows : List (List Bool)) (a b : ℕ) → marked (get_or rows a []) b ≡ true → a < length rows
within_rows [] a b e = absurd (true≢false (sym e))
within_rows (row ∷ rows) zero b e = omega arith
within_rows (row ∷ rows) (suc a) b e = omega (arith, within_rows rows a b e)

pub spreads_all : (i : ℕ) (rows : List (List Bool)) (old now : List Bool) (grew : Bool) → SpreadsUpTo i rows old now grew → length rows ≤ i → Spreads rows old now grew
spreads_all i rows old now grew upto all = record {
  same_length = upto.same_length;
  kept = upto.kept;
  sound = upto.sound;
  more = upto.more;
  closed = λ e a b on row. upto.closed e a (omega (arith, within_rows rows a b row)) b on row;
}

-- ---- whether a handler reaches itself

-- the marks hold what a handler calls, and no more than it reaches
pub record ReachedFrom (start : ℕ) (rows : List (List Bool)) (marks : List Bool) : Type 0 where
  pub same_length : length marks ≡ length rows
  pub begun : (b : ℕ) → marked (get_or rows start []) b ≡ true → marked marks b ≡ true
  pub sound : (hs : List Handler) → rows ≡ call_rows hs → (n : ℕ) → marked marks n ≡ true → Reaches hs start n

pub reached_more : (start : ℕ) (rows : List (List Bool)) (now new : List Bool) (grew : Bool) → ReachedFrom start rows now → Spreads rows now new grew → ReachedFrom start rows new
reached_more start rows now new grew before spreads = record {
  same_length = spreads.same_length ∙ before.same_length;
  begun = λ b e. spreads.kept b (before.begun b e);
  sound = λ hs same. spreads.sound hs start same (before.sound hs same);
}

pub starts_within : (hs : List Handler) {b c : ℕ} → Reaches hs b c → (h : Handler) × (slice_get hs b ≡ Some h)
starts_within hs (directly calls) = (calls.0, calls.1)
starts_within hs (further calls rest) = (calls.0, calls.1)

-- where marks hold all that their rows mark, they hold what is reached from what they hold
arrives : (hs : List Handler) (marks : List Bool) → ((a b : ℕ) → marked marks a ≡ true → marked (get_or (call_rows hs) a []) b ≡ true → marked marks b ≡ true)
    → {a c : ℕ} → ((b : ℕ) → marked (get_or (call_rows hs) a []) b ≡ true → marked marks b ≡ true) → Reaches hs a c → c < length hs → marked marks c ≡ true
arrives hs marks closed {a} {c} first (directly calls) within = first c (row_from_calls hs a c calls within)
arrives hs marks closed {a} {c} first (further {b = b} calls rest) within =
    let next = starts_within hs rest in
    let on = first b (row_from_calls hs a b calls (slice_get_within hs b next.0 next.1)) in
    arrives hs marks closed (λ d row. closed b d on row) rest within

pub decides_reaching : (hs : List Handler) (start : ℕ) (rows : List (List Bool)) (marks : List Bool) → start < length hs → rows ≡ call_rows hs → ReachedFrom start rows marks
    → ((a b : ℕ) → marked marks a ≡ true → marked (get_or rows a []) b ≡ true → marked marks b ≡ true) → (marked marks start ≡ true) ↔ Reaches hs start start
decides_reaching hs start rows marks within same reached closed = (
  λ on. reached.sound hs same start on,
  λ r. arrives hs marks (subst (λ rs. (a b : ℕ) → marked marks a ≡ true → marked (get_or rs a []) b ≡ true → marked marks b ≡ true) same closed)
      (subst (λ rs. (b : ℕ) → marked (get_or rs start []) b ≡ true → marked marks b ≡ true) same reached.begun) r within,
)
