-- Bytes are one trace at most, or have one fault.
use Rattle.std.proofs.Common.{◌≡◌, ◌≢◌, ℕ, zero, suc, ◌+◌, ◌-◌, ◌<◌, ◌≤◌, List, [], ◌∷◌, ◌++◌, length, get_or, refl, sym, ap, subst, ◌∙◌, append_assoc, append-nil, length-append, arith, ◌⊎◌, inl, inr}
use Rattle.std.proofs.lemmas.Bool.{cases_lt}
use Rattle.std.proofs.lemmas.List.{ext_get_or, get_or_past}
use Rattle.run_model.specs.Gathering.{Histories}
use Rattle.run_model.specs.LocalHistories.{Stamped}
use Rattle.run_model.specs.Openings.{Setup}
use Rattle.run_model.specs.Texts.{IsOpeningText}
use Rattle.run_model.proofs.Cutting.{same_cut}
use Rattle.run_model.proofs.Setups.{one_setup}
use Rattle.values.specs.Contents.{IsStoredContent}
use Rattle.traces.specs.declared.line.Line.{Line}
use Rattle.traces.specs.Traces.{AreHistoriesOver, AreInOrder, BeginsWithSetup, HasBadLine, IsTrace, LacksSetup, line_text, lines_from, lines_of, lines_text, owned_lines}
use Rattle.traces.proofs.OneLine.{Compares, GoesOn, compares, order_front, order_weaker}

-- ---- histories and their lines

owned_in_order : (owner : ℕ) (h : List Stamped) (xs : List Line) → AreInOrder owner xs → AreInOrder owner (owned_lines owner h ++ xs)
owned_in_order owner [] xs order = order
owned_in_order owner (c ∷ h) xs order = (omega arith, owned_in_order owner h xs order)

-- the lines of histories are in order
pub lines_in_order : (owner : ℕ) (hs : List (List Stamped)) → AreInOrder owner (lines_from owner hs)
lines_in_order owner [] = tt
lines_in_order owner (h ∷ hs) =
    owned_in_order owner h (lines_from (suc owner) hs) (order_weaker owner (suc owner) (lines_from (suc owner) hs) (omega arith) (lines_in_order (suc owner) hs))

same_stamped : (owner : ℕ) (c d : Stamped) (xs ys : List Line) → record { owner = owner; stamped = c } ∷ xs ≡ record { owner = owner; stamped = d } ∷ ys → (c ≡ d) × (xs ≡ ys)
same_stamped owner c d xs ys e =
    let first : List Line → Stamped = λ l. (get_or l 0 (record { owner = owner; stamped = c })).stamped in
    (ap first e, cc)

-- the lines of one history, before those of owners with greater numbers
same_owned : (owner : ℕ) (h k : List Stamped) (xs ys : List Line) → AreInOrder (suc owner) xs → AreInOrder (suc owner) ys
    → owned_lines owner h ++ xs ≡ owned_lines owner k ++ ys → (h ≡ k) × (xs ≡ ys)
same_owned owner [] [] xs ys f g e = (refl, e)
same_owned owner [] (d ∷ k) xs ys f g e =
    let order = subst (AreInOrder (suc owner)) e f in absurd (omega (arith, order.0))
same_owned owner (c ∷ h) [] xs ys f g e =
    let order = subst (AreInOrder (suc owner)) (sym e) g in absurd (omega (arith, order.0))
same_owned owner (c ∷ h) (d ∷ k) xs ys f g e =
    let first = same_stamped owner c d (owned_lines owner h ++ xs) (owned_lines owner k ++ ys) e in
    let rest = same_owned owner h k xs ys f g first.1 in
    (ap (λ (x : Stamped). x ∷ h) first.0 ∙ ap (λ (t : List Stamped). d ∷ t) rest.0, rest.1)

-- where there are no lines, all histories are empty
none_at : (owner : ℕ) (hs : List (List Stamped)) → lines_from owner hs ≡ [] → (i : ℕ) → get_or hs i [] ≡ []
none_at owner [] e i = refl
none_at owner ([] ∷ hs) e zero = refl
none_at owner ([] ∷ hs) e (suc i) = none_at (suc owner) hs e i
none_at owner ((c ∷ h) ∷ hs) e i = absurd cc

-- histories with the same lines are the same, but for empty ones behind them
same_at : (owner : ℕ) (hs ks : List (List Stamped)) → lines_from owner hs ≡ lines_from owner ks → (i : ℕ) → get_or hs i [] ≡ get_or ks i []
same_at owner [] [] e i = refl
same_at owner [] (k ∷ ks) e i = sym (none_at owner (k ∷ ks) (sym e) i)
same_at owner (h ∷ hs) [] e i = none_at owner (h ∷ hs) e i
same_at owner (h ∷ hs) (k ∷ ks) e zero =
    (same_owned owner h k (lines_from (suc owner) hs) (lines_from (suc owner) ks) (lines_in_order (suc owner) hs) (lines_in_order (suc owner) ks) e).0
same_at owner (h ∷ hs) (k ∷ ks) e (suc i) =
    same_at (suc owner) hs ks
    (same_owned owner h k (lines_from (suc owner) hs) (lines_from (suc owner) ks) (lines_in_order (suc owner) hs) (lines_in_order (suc owner) ks) e).1 i

-- over one setup no further empty histories stand
not_longer : (setup : Setup) (hs ks : List (List Stamped)) → AreHistoriesOver setup hs → AreHistoriesOver setup ks
    → ((i : ℕ) → get_or hs i [] ≡ get_or ks i []) → length hs < length ks → ⊥
not_longer setup hs ks f g same longer =
    let past : get_or hs (length ks - 1) [] ≡ [] = get_or_past hs (length ks - 1) [] (omega arith) in
    g.last (omega (arith, f.each)) (sym (same (length ks - 1)) ∙ past)

same_guardians : (setup : Setup) (hs ks : List (List Stamped)) → AreHistoriesOver setup hs → AreHistoriesOver setup ks
    → ((i : ℕ) → get_or hs i [] ≡ get_or ks i []) → hs ≡ ks
same_guardians setup hs ks f g same = go (cases_lt (length hs) (length ks)) (cases_lt (length ks) (length hs))
  where
    go : (length hs < length ks) ⊎ (length ks ≤ length hs) → (length ks < length hs) ⊎ (length hs ≤ length ks) → hs ≡ ks
    go (inl longer) other = absurd (not_longer setup hs ks f g same longer)
    go (inr le) (inl longer) = absurd (not_longer setup ks hs g f (λ i. sym (same i)) longer)
    go (inr le) (inr ge) = ext_get_or [] hs ks (omega arith) (λ i lt. same i)

pub same_histories : (setup : Setup) (hs ks : Histories) → AreHistoriesOver setup hs.guardians → AreHistoriesOver setup ks.guardians → lines_of hs ≡ lines_of ks → hs ≡ ks
same_histories setup hs ks f g e =
    let same = same_at 0 (hs.registry ∷ hs.guardians) (ks.registry ∷ ks.guardians) e in
    let made : List Stamped → List (List Stamped) → Histories = λ r gs. record { registry = r; guardians = gs } in
    ap (λ r. made r hs.guardians) (same 0) ∙ ap (made ks.registry) (same_guardians setup hs.guardians ks.guardians f g (λ i. same (suc i)))

-- ---- the setup line

pub one_beginning : (bytes : List ℕ) (s t : Setup) (x y : List ℕ) → BeginsWithSetup bytes s x → BeginsWithSetup bytes t y → (s ≡ t) × (x ≡ y)
one_beginning bytes s t x y f g =
    let e : f.document ++ 10 ∷ x ≡ g.document ++ 10 ∷ y = let h = sym f.text ∙ g.text in cc in
    let parts = same_cut 10 f.document g.document x y f.one_line g.one_line e in
    (one_setup IsStoredContent g.document s t (subst (λ d. IsOpeningText d s) parts.0 f.spells) g.spells, parts.1)

-- ---- the laws

pub one_trace : (bytes : List ℕ) (s t : Setup) (hs ks : Histories) → IsTrace bytes s hs → IsTrace bytes t ks → (s ≡ t) × (hs ≡ ks)
one_trace bytes s t hs ks f g =
    let parts = one_beginning bytes s t (lines_text (lines_of hs)) (lines_text (lines_of ks)) f.text g.text in
    let e : lines_text (lines_of hs) ++ [] ≡ lines_text (lines_of ks) ++ [] = ap (λ (l : List ℕ). l ++ []) parts.1 in
    (parts.0, same_histories t hs ks (subst (λ u. AreHistoriesOver u hs.guardians) parts.0 f.guardians) g.guardians (same (compares (lines_of hs) (lines_of ks) [] [] f.each g.each e)))
  where
    none : (l : Line) (x : List ℕ) → [] ≢ line_text l ++ 10 ∷ x
    none l x h = omega (arith, ap length h, length-append (line_text l) (10 ∷ x))

    same : Compares (lines_of hs) (lines_of ks) [] [] → lines_of hs ≡ lines_of ks
    same (inl parts) = parts.0
    same (inr (inl goes)) = absurd (none goes.next _ goes.text)
    same (inr (inr goes)) = absurd (none goes.next _ goes.text)

pub no_lack : (bytes : List ℕ) (s : Setup) (hs : Histories) → IsTrace bytes s hs → LacksSetup bytes → ⊥
no_lack bytes s hs f lacks = lacks s (lines_text (lines_of hs)) f.text

-- no lines go on behind those before a bad line
ends_there : (bytes : List ℕ) (n : ℕ) (bad : HasBadLine bytes n) (ls : List Line) (y : List ℕ) → AreInOrder 0 ls → GoesOn bad.lines ls bad.rest y → ⊥
ends_there bytes n bad ls y order goes =
    let whole : AreInOrder 0 (bad.lines ++ goes.next ∷ goes.more) = subst (AreInOrder 0) goes.lines order in
    let parts : AreInOrder 0 ((bad.lines ++ goes.next ∷ []) ++ goes.more) = subst (AreInOrder 0) (sym (append_assoc bad.lines (goes.next ∷ []) goes.more)) whole in
    bad.no_line goes.next (lines_text goes.more ++ y) goes.fits (order_front 0 (bad.lines ++ goes.next ∷ []) goes.more parts) goes.text

pub no_bad_line : (bytes : List ℕ) (s : Setup) (hs : Histories) (n : ℕ) → IsTrace bytes s hs → HasBadLine bytes n → ⊥
no_bad_line bytes s hs n f bad =
    let parts = one_beginning bytes bad.setup s (lines_text bad.lines ++ bad.rest) (lines_text (lines_of hs)) bad.begins f.text in
    go (compares bad.lines (lines_of hs) bad.rest [] bad.each f.each (parts.1 ∙ sym (append-nil (lines_text (lines_of hs)))))
  where
    go : Compares bad.lines (lines_of hs) bad.rest [] → ⊥
    go (inl same) = bad.goes_on same.1
    go (inr (inl goes)) = ends_there bytes n bad (lines_of hs) [] (lines_in_order 0 (hs.registry ∷ hs.guardians)) goes
    go (inr (inr goes)) = omega (arith, ap length goes.text, length-append (line_text goes.next) (10 ∷ (lines_text goes.more ++ bad.rest)))

pub bad_line_behind_setup : (bytes : List ℕ) (n : ℕ) → HasBadLine bytes n → LacksSetup bytes → ⊥
bad_line_behind_setup bytes n bad lacks = lacks bad.setup (lines_text bad.lines ++ bad.rest) bad.begins

pub one_bad_line : (bytes : List ℕ) (m n : ℕ) → HasBadLine bytes m → HasBadLine bytes n → m ≡ n
one_bad_line bytes m n f g =
    let parts = one_beginning bytes f.setup g.setup (lines_text f.lines ++ f.rest) (lines_text g.lines ++ g.rest) f.begins g.begins in
    go (compares f.lines g.lines f.rest g.rest f.each g.each parts.1)
  where
    go : Compares f.lines g.lines f.rest g.rest → m ≡ n
    go (inl same) = f.counted ∙ ap (λ (ls : List Line). length ls + 2) same.0 ∙ sym g.counted
    go (inr (inl goes)) = absurd (ends_there bytes m f g.lines g.rest g.in_order goes)
    go (inr (inr goes)) = absurd (ends_there bytes n g f.lines f.rest f.in_order goes)
