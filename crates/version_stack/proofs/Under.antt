-- Overlays of one content, and what it is under so many of them.
use Rattle.std.proofs.Common.{◌≡◌, ℕ, ℤ, zero, suc, ◌≤◌, Bool, true, false, Some, List, [], ◌∷◌, ◌++◌, length, take, set, refl, sym, ap, ◌∙◌, subst, arith, length-set, length-append}
use Rattle.std.specs.Prelude.{Result, Ok, Err, OnOk, OnErr, slice_get}
use Rattle.values.specs.declared.value.Value.TheVariants.{Int}
use Rattle.atomic_types.specs.Operations.{Op}
use Rattle.atomic_types.specs.declared.operation.Operation.TheVariants.{Add}
use Rattle.overlays.specs.Laws.{FitsStay}
use Rattle.overlays.specs.Overlays.{laid_all, AllFit, Covers}
use Rattle.version_stack.specs.Layers.{under, AllCover, AreSound, IsAdded, IsNoted, IsNotedAbove}

-- what holds after success and after failure
pub either_way : {X Y P : Type 0} (r : Result X Y) → OnOk r P → OnErr r P → P
either_way (Ok x) h k = h
either_way (Err y) h k = k

-- what holds anyway holds after failure
pub on_err : {X Y P : Type 0} (r : Result X Y) → P → OnErr r P
on_err (Ok x) h = tt
on_err (Err y) h = h

-- a test that cannot be true is false
pub not_true : (b : Bool) → (b ≡ true → ⊥) → b ≡ false
not_true true h = absurd (h refl)
not_true false h = refl

-- three facts after success give a fourth
pub on_ok_all : {X Y P Q R S : Type 0} (r : Result X Y) → OnOk r P → OnOk r Q → OnOk r R → (P → Q → R → S) → OnOk r S
on_ok_all (Ok x) p q r f = f p q r
on_ok_all (Err y) p q r f = tt

-- three facts after failure give a fourth
pub on_err_all : {X Y P Q R S : Type 0} (r : Result X Y) → OnErr r P → OnErr r Q → OnErr r R → (P → Q → R → S) → OnErr r S
on_err_all (Ok x) p q r f = tt
on_err_all (Err y) p q r f = f p q r

-- what was taken out is put back
pub put_twice : {X : Type 0} (xs : List X) (i : ℕ) (x y : X) → set (set xs i x) i y ≡ set xs i y
put_twice [] i x y = refl
put_twice (z ∷ xs) zero x y = refl
put_twice (z ∷ xs) (suc i) x y = ap (λ ws. z ∷ ws) (put_twice xs i x y)

module _ {T O : Type 0} (laid : T → O → T) (fits : T → O → Type 0) where
  -- the last overlay is laid on what the others give
  pub laid_last : (c : T) (os : List O) (o : O) → laid_all laid c (os ++ o ∷ []) ≡ laid (laid_all laid c os) o
  laid_last c [] o = refl
  laid_last c (p ∷ os) o = laid_last (laid c p) os o

  -- under as many overlays as there are it is under all of them
  pub under_all : (c : T) (os : List O) (n : ℕ) → n ≡ length os → under laid c os n ≡ laid_all laid c os
  under_all c [] n e = rw e refl
  under_all c (o ∷ os) zero e = absurd (omega arith)
  under_all c (o ∷ os) (suc n) e = under_all (laid c o) os n (omega arith)

  -- overlays above so many do not matter for these
  pub under_take : (c : T) (os : List O) (m e : ℕ) → e ≤ m → under laid c (take m os) e ≡ under laid c os e
  under_take c os m zero l = refl
  under_take c os zero (suc e) l = absurd (omega arith)
  under_take c [] (suc m) (suc e) l = refl
  under_take c (o ∷ os) (suc m) (suc e) l = under_take (laid c o) os m e (omega arith)

  -- nor do more overlays
  pub under_front : (c : T) (os ps : List O) (k : ℕ) → k ≤ length os → under laid c (os ++ ps) k ≡ under laid c os k
  under_front c os ps zero l = refl
  under_front c [] ps (suc k) l = absurd (omega arith)
  under_front c (o ∷ os) ps (suc k) l = under_front (laid c o) os ps k (omega arith)

  -- ---- overlays that fit

  -- the last of overlays that fit may be laid on what the others give, and these fit
  pub fit_front : (c : T) (os : List O) (o : O) → AllFit laid fits c (os ++ o ∷ []) → AllFit laid fits c os × fits (laid_all laid c os) o
  fit_front c [] o h = (tt, h.0)
  fit_front c (p ∷ os) o h = let r = fit_front (laid c p) os o h.1 in ((h.0, r.0), r.1)

  -- one more overlay that may be laid on what they give
  fit_push : (c : T) (os : List O) (o : O) → AllFit laid fits c os → fits (laid_all laid c os) o → AllFit laid fits c (os ++ o ∷ [])
  fit_push c [] o h f = (f, tt)
  fit_push c (p ∷ os) o h f = (h.0, fit_push (laid c p) os o h.1 f)

  -- so many of them, the lowest, fit
  pub fit_take : (n : ℕ) (c : T) (os : List O) → AllFit laid fits c os → AllFit laid fits c (take n os)
  fit_take zero c os h = tt
  fit_take (suc n) c [] h = tt
  fit_take (suc n) c (o ∷ os) h = (h.0, fit_take n (laid c o) os h.1)

  module _ (after : T → Op → T) where
    -- ---- and cover what was added below them

    -- the last of overlays that cover does so, and so do the others
    pub cover_front : (os : List O) (o : O) → AllCover laid after (os ++ o ∷ []) → AllCover laid after os × Covers after laid o
    cover_front [] o h = (tt, h.0)
    cover_front (p ∷ os) o h = let r = cover_front os o h.1 in ((h.0, r.0), r.1)

    -- one more overlay that covers
    cover_push : (os : List O) (o : O) → AllCover laid after os → Covers after laid o → AllCover laid after (os ++ o ∷ [])
    cover_push [] o h k = (k, tt)
    cover_push (p ∷ os) o h k = (h.0, cover_push os o h.1 k)

    -- so many of them, the lowest, cover
    cover_take : (n : ℕ) (os : List O) → AllCover laid after os → AllCover laid after (take n os)
    cover_take zero os h = tt
    cover_take (suc n) [] h = tt
    cover_take (suc n) (o ∷ os) h = (h.0, cover_take n os h.1)

    -- each of them covers
    pub cover_get : (os : List O) (i : ℕ) (o : O) → slice_get os i ≡ Some o → AllCover laid after os → Covers after laid o
    cover_get [] i o e h = absurd (cc)
    cover_get (p ∷ os) zero o e h = let same : p ≡ o = cc in subst (Covers after laid) same h.0
    cover_get (p ∷ os) (suc i) o e h = cover_get os i o e h.1

    -- they still cover with another that does in the place of one
    cover_set : (os : List O) (i : ℕ) (o : O) → AllCover laid after os → Covers after laid o → AllCover laid after (set os i o)
    cover_set [] i o h k = tt
    cover_set (p ∷ os) zero o h k = (k, h.1)
    cover_set (p ∷ os) (suc i) o h k = (h.0, cover_set os i o h.1 k)

    -- so many sound overlays, the lowest, are sound
    pub sound_take : (n : ℕ) (c : T) (os : List O) → AreSound laid after fits c os → AreSound laid after fits c (take n os)
    sound_take n c os h = record { fit = fit_take n c os h.fit; cover = cover_take n os h.cover }

    -- one more overlay that may be laid on what sound ones give, and covers, is sound with them
    pub sound_push : (c : T) (os : List O) (o : O) → AreSound laid after fits c os → fits (laid_all laid c os) o → Covers after laid o
        → AreSound laid after fits c (os ++ o ∷ [])
    sound_push c os o h f k = record { fit = fit_push c os o h.fit f; cover = cover_push os o h.cover k }

    -- ---- notes

    -- another overlay on top, which gives what the operation leaves, is a note of it
    pub noted_on_top : (c : T) (below : List O) (o p : O) (op : Op) → AreSound laid after fits c (below ++ o ∷ []) → fits (laid_all laid c below) p
        → Covers after laid p
        → laid (laid_all laid c below) p ≡ after (laid (laid_all laid c below) o) op
        → IsNoted laid after fits c (below ++ o ∷ []) (below ++ p ∷ []) op
    noted_on_top c below o p op h f k e = record {
      many = omega (arith, length-append below (o ∷ []), length-append below (p ∷ []));
      sound = record {
        fit = fit_push c below p (fit_front c below o h.fit).0 f;
        cover = cover_push below p (cover_front below o h.cover).0 k;
      };
      top = laid_last c below p ∙ e ∙ ap (λ x. after x op) (sym (laid_last c below o));
      others = λ i l.
          let within : i ≤ length below = omega (arith, l, length-append below (o ∷ [])) in
          under_front c below (p ∷ []) i within ∙ sym (under_front c below (o ∷ []) i within);
    }

    -- so is one more overlay, which gives what the operation leaves
    pub noted_above : (c : T) (os : List O) (o : O) (op : Op) → AreSound laid after fits c os → fits (laid_all laid c os) o → Covers after laid o
        → laid (laid_all laid c os) o ≡ after (laid_all laid c os) op
        → IsNotedAbove laid after fits c os (os ++ o ∷ []) op
    noted_above c os o op h f k e = record {
      many = omega (arith, length-append os (o ∷ []));
      sound = sound_push c os o h f k;
      top = laid_last c os o ∙ e;
      others = λ i l. under_front c os (o ∷ []) i l;
    }

    -- ---- numbers added

    -- overlays that cover a number fit over the content to which it was added
    fit_over : FitsStay after fits → (c : T) (z : ℤ) (os : List O) → AllCover laid after os → AllFit laid fits c os
        → AllFit laid fits (after c (Add (Int z))) os
    fit_over stay c z [] k h = tt
    fit_over stay c z (o ∷ os) k h = (stay c o z h.0, subst (λ x. AllFit laid fits x os) (sym (k.0 c z)) h.1)

    -- what is above the content does not change
    under_over : (c : T) (z : ℤ) (os : List O) (k : ℕ) → (k ≡ zero → ⊥) → k ≤ length os → AllCover laid after os
        → under laid (after c (Add (Int z))) os k ≡ under laid c os k
    under_over c z os zero n l h = absurd (n refl)
    under_over c z [] (suc k) n l h = absurd (omega arith)
    under_over c z (o ∷ os) (suc k) n l h = ap (λ x. under laid x os k) (h.0 c z)

    -- a number added to the content is under no overlay
    pub added_below : FitsStay after fits → (c d : T) (os : List O) (z : ℤ) → AreSound laid after fits c os → d ≡ after c (Add (Int z))
        → IsAdded laid after fits c d os os zero z
    added_below stay c d os z h e = rw e record {
      many = refl;
      sound = record { fit = fit_over stay c z os h.cover h.fit; cover = h.cover };
      there = refl;
      others = λ k n l. under_over c z os k n l h.cover;
    }

    -- the overlay with the number added gives this of what the other gave
    pub record GivesSum (o p : O) (z : ℤ) : Type 0 where
      pub adds : (c : T) → fits c o → laid c p ≡ after (laid c o) (Add (Int z))
      pub fits_still : (c : T) → fits c o → fits c p
      pub covers : Covers after laid p

    -- overlays still fit with the one that gives the sum in its place
    fit_set : FitsStay after fits → (c : T) (os : List O) (i : ℕ) (o p : O) (z : ℤ) → slice_get os i ≡ Some o → GivesSum o p z
        → AllCover laid after os → AllFit laid fits c os
        → AllFit laid fits c (set os i p)
    fit_set stay c [] i o p z e g k h = tt
    fit_set stay c (q ∷ os) zero o p z e g k h =
        let same : q ≡ o = cc in
        let fit : fits c o = subst (fits c) same h.0 in
        let gives : laid c p ≡ after (laid c q) (Add (Int z)) = g.adds c fit ∙ ap (λ (r : O). after (laid c r) (Add (Int z))) (sym same) in
        (g.fits_still c fit, subst (λ x. AllFit laid fits x os) (sym gives) (fit_over stay (laid c q) z os k.1 h.1))
    fit_set stay c (q ∷ os) (suc i) o p z e g k h = (h.0, fit_set stay (laid c q) os i o p z e g k.1 h.1)

    -- up to it the sum is given
    under_set : (c : T) (os : List O) (i : ℕ) (o p : O) (z : ℤ) → slice_get os i ≡ Some o → GivesSum o p z → AllFit laid fits c os
        → under laid c (set os i p) (suc i) ≡ after (under laid c os (suc i)) (Add (Int z))
    under_set c [] i o p z e g h = absurd (cc)
    under_set c (q ∷ os) zero o p z e g h =
        let same : q ≡ o = cc in
        g.adds c (subst (fits c) same h.0) ∙ ap (λ (r : O). after (laid c r) (Add (Int z))) (sym same)
    under_set c (q ∷ os) (suc i) o p z e g h = under_set (laid c q) os i o p z e g h.1

    -- and anywhere else what was given before
    beside_set : (c : T) (os : List O) (i : ℕ) (o p : O) (z : ℤ) (k : ℕ) → slice_get os i ≡ Some o → GivesSum o p z → AllCover laid after os
        → AllFit laid fits c os
        → (k ≡ suc i → ⊥) → k ≤ length os → under laid c (set os i p) k ≡ under laid c os k
    beside_set c os i o p z zero e g h f n l = refl
    beside_set c [] i o p z (suc k) e g h f n l = absurd (omega arith)
    beside_set c (q ∷ os) zero o p z (suc k) e g h f n l =
        let same : q ≡ o = cc in
        let gives : laid c p ≡ after (laid c q) (Add (Int z)) =
        g.adds c (subst (fits c) same f.0) ∙ ap (λ (r : O). after (laid c r) (Add (Int z))) (sym same) in
        ap (λ x. under laid x os k) gives ∙ under_over (laid c q) z os k (λ m. n (ap suc m)) (omega arith) h.1
    beside_set c (q ∷ os) (suc i) o p z (suc k) e g h f n l = beside_set (laid c q) os i o p z k e g h.1 f.1 (λ m. n (ap suc m)) (omega arith)

    -- the overlay that gives the sum, in the place of the other, adds the number to what so many overlays give
    pub added_at : FitsStay after fits → (c : T) (os : List O) (i : ℕ) (o p : O) (z : ℤ) → slice_get os i ≡ Some o → GivesSum o p z
        → AreSound laid after fits c os
        → IsAdded laid after fits c c os (set os i p) (suc i) z
    added_at stay c os i o p z e g h = record {
      many = length-set os i p;
      sound = record { fit = fit_set stay c os i o p z e g h.cover h.fit; cover = cover_set os i p h.cover g.covers };
      there = under_set c os i o p z e g h.fit;
      others = λ k n l. beside_set c os i o p z k e g h.cover h.fit n l;
    }
