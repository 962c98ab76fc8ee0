-- A line of a trace is one line at most, and the lines of one text are the same as far as both go.
use Rattle.std.proofs.Common.{◌≡◌, ◌≢◌, ℕ, zero, suc, ◌<◌, ◌≤◌, ◌^◌, List, [], ◌∷◌, ◌++◌, get_or, refl, sym, ap, subst, ◌∙◌, append_assoc, arith, ◌⊎◌, inl, inr, decimal, codes}
use Rattle.std.specs.List.{AllByRecursion}
use Rattle.std.proofs.lemmas.Fmt.{decimal_injective, decimal_nonempty, digits_decimal}
use Rattle.std.proofs.lemmas.Str.Parse.{digit_at}
use Rattle.run_model.specs.declared.history.Event.{Event}
use Rattle.run_model.specs.Reading.{Lacks}
use Rattle.run_model.specs.Spaces.{Lacks-nil, Lacks-cons, Lacks-append, Lacks-decimal, numerals}
use Rattle.run_model.proofs.Cutting.{same_cut}
use Rattle.traces.specs.declared.line.Line.{Line}
use Rattle.traces.specs.Traces.{AreInOrder, IsLine, IsOwner, event_text, line_text, lines_text, owner_text}
use Rattle.traces.proofs.LineFeeds.{event_lacks_line_feed}
use Rattle.traces.proofs.OneEvent.{one_event}

-- ---- one line

-- what is no digit and no `r` is in no owner's text
pub owner_lacks : (mark owner : ℕ) → (mark ≡ 32) ⊎ (mark ≡ 10) → IsOwner owner → Lacks mark (owner_text owner)
owner_lacks mark zero which fits = Lacks-cons mark 114 [] (λ e. elim which [ inl s ↦ omega arith | inr f ↦ omega arith ]) (Lacks-nil mark)
owner_lacks mark (suc n) which fits = Lacks-decimal mark (suc n) (λ r. elim which [ inl s ↦ omega arith | inr f ↦ omega arith ]) (omega arith)

-- a guardian's number begins with a digit
no_registry : (n : ℕ) → IsOwner (suc n) → codes "r" ≢ decimal (suc n)
no_registry n fits e =
    let small : suc n < 2 ^ 64 = omega arith in
    let d = digit_at (decimal (suc n)) 0 (digits_decimal numerals (suc n) small) (decimal_nonempty (suc n) small) in
    omega (arith, d.1, ap (λ l. get_or l 0 0) e)

same_owner : (m n : ℕ) → IsOwner m → IsOwner n → owner_text m ≡ owner_text n → m ≡ n
same_owner zero zero f g e = refl
same_owner zero (suc n) f g e = absurd (no_registry n g e)
same_owner (suc m) zero f g e = absurd (no_registry m f (sym e))
same_owner (suc m) (suc n) f g e = decimal_injective (suc m) (suc n) (omega arith) (omega arith) e

pub one_line : (l k : Line) → IsLine l → IsLine k → line_text l ≡ line_text k → l ≡ k
one_line l k f g e =
    let front = same_cut 32 (owner_text l.owner) (owner_text k.owner) _ _ (owner_lacks 32 l.owner (inl refl) f.owner) (owner_lacks 32 k.owner (inl refl) g.owner) e in
    let stamps = same_cut 32 (decimal l.stamped.0) (decimal k.stamped.0) (event_text l.stamped.1) (event_text k.stamped.1)
    (Lacks-decimal 32 l.stamped.0 (λ r. omega arith) f.stamp.1) (Lacks-decimal 32 k.stamped.0 (λ r. omega arith) g.stamp.1) front.1 in
    let made : ℕ → ℕ → Event → Line = λ o s e. record { owner = o; stamped = (s, e) } in
    ap (λ o. made o l.stamped.0 l.stamped.1) (same_owner l.owner k.owner f.owner g.owner front.0)
    ∙ ap (λ s. made k.owner s l.stamped.1) (decimal_injective l.stamped.0 k.stamped.0 f.stamp.1 g.stamp.1 stamps.0)
    ∙ ap (λ e. made k.owner k.stamped.0 e) (one_event l.stamped.1 k.stamped.1 f.event g.event stamps.1)

pub line_lacks_line_feed : (l : Line) → IsLine l → Lacks 10 (line_text l)
line_lacks_line_feed l fits =
    Lacks-append 10 (owner_text l.owner) (32 ∷ (decimal l.stamped.0 ++ 32 ∷ event_text l.stamped.1)) (owner_lacks 10 l.owner (inr refl) fits.owner)
    (Lacks-cons 10 32 _ (λ e. omega arith)
    (Lacks-append 10 (decimal l.stamped.0) (32 ∷ event_text l.stamped.1) (Lacks-decimal 10 l.stamped.0 (λ r. omega arith) fits.stamp.1)
    (Lacks-cons 10 32 _ (λ e. omega arith) (event_lacks_line_feed l.stamped.1 fits.event))))

-- bytes begin with one line at most
pub one_first : (l k : Line) (x y : List ℕ) → IsLine l → IsLine k → line_text l ++ 10 ∷ x ≡ line_text k ++ 10 ∷ y → (l ≡ k) × (x ≡ y)
one_first l k x y f g e =
    let parts = same_cut 10 (line_text l) (line_text k) x y (line_lacks_line_feed l f) (line_lacks_line_feed k g) e in
    (one_line l k f g parts.0, parts.1)

-- ---- lines

-- the lines ys go on behind xs where the text x goes on
pub record GoesOn (xs ys : List Line) (x y : List ℕ) : Type 0 where
  pub next : Line
  pub more : List Line
  pub fits : IsLine next
  pub lines : ys ≡ xs ++ next ∷ more
  pub text : x ≡ line_text next ++ 10 ∷ (lines_text more ++ y)

-- what may be said of two lists of lines in front of one text
abbrev pub Compares : List Line → List Line → List ℕ → List ℕ → Type 0
Compares xs ys x y = ((xs ≡ ys) × (x ≡ y)) ⊎ (GoesOn xs ys x y ⊎ GoesOn ys xs y x)

behind_first : (l : Line) (ls : List Line) (x : List ℕ) → lines_text (l ∷ ls) ++ x ≡ line_text l ++ 10 ∷ (lines_text ls ++ x)
behind_first l ls x = append_assoc (line_text l) (10 ∷ lines_text ls) x

later : (l : Line) (xs ys : List Line) (x y : List ℕ) → GoesOn xs ys x y → GoesOn (l ∷ xs) (l ∷ ys) x y
later l xs ys x y g = record { next = g.next; more = g.more; fits = g.fits; lines = ap (λ (t : List Line). l ∷ t) g.lines; text = g.text }

pub compares : (xs ys : List Line) (x y : List ℕ) → AllByRecursion IsLine xs → AllByRecursion IsLine ys → lines_text xs ++ x ≡ lines_text ys ++ y → Compares xs ys x y
compares [] [] x y f g e = inl (refl, e)
compares [] (l ∷ ys) x y f g e = inr (inl (record { next = l; more = ys; fits = g.0; lines = refl; text = e ∙ behind_first l ys y }))
compares (k ∷ xs) [] x y f g e = inr (inr (record { next = k; more = xs; fits = f.0; lines = refl; text = sym e ∙ behind_first k xs x }))
compares (k ∷ xs) (l ∷ ys) x y f g e =
    let first = one_first k l (lines_text xs ++ x) (lines_text ys ++ y) f.0 g.0 (sym (behind_first k xs x) ∙ e ∙ behind_first l ys y) in
    let front : k ≡ l = first.0 in
    subst (λ (h : Line). Compares (k ∷ xs) (h ∷ ys) x y) front (with_first k (compares xs ys x y f.1 g.1 first.1))
  where
    with_first : (h : Line) → Compares xs ys x y → Compares (h ∷ xs) (h ∷ ys) x y
    with_first h (inl same) = inl (ap (λ (t : List Line). h ∷ t) same.0, same.1)
    with_first h (inr (inl goes)) = inr (inl (later h xs ys x y goes))
    with_first h (inr (inr goes)) = inr (inr (later h ys xs y x goes))

-- ---- order

pub order_weaker : (a b : ℕ) (xs : List Line) → a ≤ b → AreInOrder b xs → AreInOrder a xs
order_weaker a b [] le order = tt
order_weaker a b (l ∷ xs) le order = (omega (arith, order.0), order.1)

-- the front of lines in order
pub order_front : (a : ℕ) (xs ys : List Line) → AreInOrder a (xs ++ ys) → AreInOrder a xs
order_front a [] ys order = tt
order_front a (l ∷ xs) ys order = (order.0, order_front l.owner xs ys order.1)
