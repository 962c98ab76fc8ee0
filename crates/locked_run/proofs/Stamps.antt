-- Events with their stamps, as a lock keeps them.
use Rattle.std.proofs.Common.{List, None, Some, [], ap, ap₂, arith, drop, length, refl, reverse, slice_get, subst, suc, sym, zero, ℕ, ◌++◌, ◌-◌, ◌<◌, ◌∙◌, ◌∷◌, ◌≡◌}
use Rattle.std.proofs.Math.ListN.{set}
use Rattle.std.proofs.Math.Seq.{set-append_seam}
use Rattle.std.proofs.lemmas.List.{length-reverse, reverse-append, reverse-reverse}
use Rattle.run_model.specs.declared.history.Event.{Event}
use Rattle.run_model.specs.LocalHistories.{Stamped}
use Rattle.locked_run.specs.Stored.{restamped, with_stamps}

-- as many as there are events
length_with : (ns : List ℕ) (es : List Event) → length ns ≡ length es → length (with_stamps ns es) ≡ length ns
length_with [] [] h = refl
length_with [] (e ∷ es) h = refl
length_with (n ∷ ns) [] h = absurd (omega arith)
length_with (n ∷ ns) (e ∷ es) h =
    let shorter : length ns ≡ length es = omega arith in
    ap suc (length_with ns es shorter)

pub length_kept : (s : List ℕ) (es : List Event) {h : List Stamped} → length s ≡ length es → with_stamps (reverse s) es ≡ h → length s ≡ length h
length_kept s es same is =
    sym (ap length (sym is) ∙ length_with (reverse s) es (length-reverse s ∙ same) ∙ length-reverse s)

-- the oldest first
with_append : (ns : List ℕ) (es : List Event) (n : ℕ) (e : Event) → length ns ≡ length es
    → with_stamps (ns ++ n ∷ []) (es ++ e ∷ []) ≡ with_stamps ns es ++ (n, e) ∷ []
with_append [] [] n e h = refl
with_append [] (x ∷ xs) n e h = absurd (omega arith)
with_append (m ∷ ms) [] n e h = absurd (omega arith)
with_append (m ∷ ms) (x ∷ xs) n e h =
    let shorter : length ms ≡ length xs = omega arith in
    ap (λ l. (m, x) ∷ l) (with_append ms xs n e shorter)

reversed : {X : Type 0} (x : X) (xs : List X) → reverse (x ∷ xs) ≡ reverse xs ++ x ∷ []
reversed x xs = reverse-append (x ∷ []) xs

reverse_with : (ns : List ℕ) (es : List Event) → length ns ≡ length es → reverse (with_stamps ns es) ≡ with_stamps (reverse ns) (reverse es)
reverse_with [] [] h = refl
reverse_with [] (e ∷ es) h = absurd (omega arith)
reverse_with (n ∷ ns) [] h = absurd (omega arith)
reverse_with (n ∷ ns) (e ∷ es) h =
    let shorter : length ns ≡ length es = omega arith in
    reversed (n, e) (with_stamps ns es)
    ∙ ap (λ l. l ++ (n, e) ∷ []) (reverse_with ns es shorter)
    ∙ sym (ap₂ with_stamps (reversed n ns) (reversed e es)
    ∙ with_append (reverse ns) (reverse es) n e (length-reverse ns ∙ shorter ∙ sym (length-reverse es)))

some_at : (ns : List ℕ) (es : List Event) (i n : ℕ) (e : Event) → slice_get ns i ≡ Some n → slice_get es i ≡ Some e
    → slice_get (with_stamps ns es) i ≡ Some (n, e)
some_at [] es i n e p q = absurd (no p)
  where
    no : None ≡ Some n → ⊥
    no r = cc
some_at (m ∷ ms) [] i n e p q = absurd (no q)
  where
    no : None ≡ Some e → ⊥
    no r = cc
some_at (m ∷ ms) (x ∷ xs) zero n e p q = ap₂ (λ a b. Some (a, b)) (same p) (same q)
  where
    same : {A : Type 0} {a b : A} → Some a ≡ Some b → a ≡ b
    same r = cc
some_at (m ∷ ms) (x ∷ xs) (suc i) n e p q = some_at ms xs i n e p q

none_of : (ns : List ℕ) (es : List Event) (i : ℕ) → slice_get ns i ≡ None → slice_get (with_stamps ns es) i ≡ None
none_of [] es i p = refl
none_of (m ∷ ms) [] i p = refl
none_of (m ∷ ms) (x ∷ xs) zero p = absurd (no p)
  where
    no : Some m ≡ None → ⊥
    no r = cc
none_of (m ∷ ms) (x ∷ xs) (suc i) p = none_of ms xs i p

none_with : (ns : List ℕ) (es : List Event) (i : ℕ) → slice_get es i ≡ None → slice_get (with_stamps ns es) i ≡ None
none_with [] es i p = refl
none_with (m ∷ ms) [] i p = refl
none_with (m ∷ ms) (x ∷ xs) zero p = absurd (no p)
  where
    no : Some x ≡ None → ⊥
    no r = cc
none_with (m ∷ ms) (x ∷ xs) (suc i) p = none_with ms xs i p

module _ (s : List ℕ) (es : List Event) {h : List Stamped} (same : length s ≡ length es) (is : with_stamps (reverse s) es ≡ h) (i : ℕ) where
  oldest_first : reverse h ≡ with_stamps s (reverse es)
  oldest_first =
      ap reverse (sym is) ∙ reverse_with (reverse s) es (length-reverse s ∙ same) ∙ ap (λ l. with_stamps l (reverse es)) (reverse-reverse s)

  pub event_at : (n : ℕ) (e : Event) → slice_get s i ≡ Some n → slice_get (reverse es) i ≡ Some e → Some (n, e) ≡ slice_get (reverse h) i
  event_at n e p q = sym (ap (λ l. slice_get l i) oldest_first ∙ some_at s (reverse es) i n e p q)

  pub no_stamp : slice_get s i ≡ None → None ≡ slice_get (reverse h) i
  no_stamp p = sym (ap (λ l. slice_get l i) oldest_first ∙ none_of s (reverse es) i p)

  pub no_event : slice_get (reverse es) i ≡ None → None ≡ slice_get (reverse h) i
  no_event p = sym (ap (λ l. slice_get l i) oldest_first ∙ none_with s (reverse es) i p)

-- the newest has another stamp
restamp_first : (n : ℕ) (ns : List ℕ) (es : List Event) → length ns ≡ length es → 0 < length ns → with_stamps (n ∷ drop 1 ns) es ≡ restamped n (with_stamps ns es)
restamp_first n [] es h p = absurd (omega arith)
restamp_first n (m ∷ ms) [] h p = absurd (omega arith)
restamp_first n (m ∷ ms) (e ∷ es) h p = refl

set_last : (s : List ℕ) (n : ℕ) → 0 < length s → reverse (set s (length s - 1) n) ≡ n ∷ drop 1 (reverse s)
set_last s n p =
    subst (λ l. reverse (set l (length l - 1) n) ≡ n ∷ drop 1 (reverse s)) (reverse-reverse s)
    (of (reverse s) (let same = length-reverse s in omega arith))
  where
    of : (r : List ℕ) → 0 < length r → reverse (set (reverse r) (length (reverse r) - 1) n) ≡ n ∷ drop 1 r
    of [] q = absurd (omega arith)
    of (x ∷ r) q =
        let last : length (reverse (x ∷ r)) - 1 ≡ length (reverse r) = let a = length-reverse (x ∷ r) in let b = length-reverse r in omega arith in
        ap₂ (λ l k. reverse (set l k n)) (reversed x r) last
        ∙ ap reverse (set-append_seam (reverse r) x [] n)
        ∙ reverse-append (reverse r) (n ∷ [])
        ∙ ap (λ l. n ∷ l) (reverse-reverse r)

module _ (s : List ℕ) (es : List Event) {h : List Stamped} (same : length s ≡ length es) (is : with_stamps (reverse s) es ≡ h) (n : ℕ) where
  pub restamped_is : 0 < length s → with_stamps (reverse (set s (length s - 1) n)) es ≡ restamped n h
  restamped_is some =
      ap (λ l. with_stamps l es) (set_last s n some)
      ∙ restamp_first n (reverse s) es (length-reverse s ∙ same) (let as_long = length-reverse s in omega arith)
      ∙ ap (restamped n) is

  pub nothing_restamped : length s ≡ 0 → with_stamps (reverse s) es ≡ restamped n h
  nothing_restamped none = is ∙ of h (sym (length_kept s es same is) ∙ none)
    where
      of : (l : List Stamped) → length l ≡ 0 → l ≡ restamped n l
      of [] q = refl
      of (x ∷ xs) q = absurd (omega arith)
