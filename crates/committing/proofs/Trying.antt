-- Votes that are tried in turn, as an iterator gives the guardians.
use Rattle.std.proofs.Common.{Bool, Bor, Err, List, None, Ok, Option, Result, Some, [], ap, false, inl, inr, map, refl, subst, sym, true, ℕ, ◌++◌, ◌∷◌, ◌≡◌}
use Rattle.std.specs.Iterator.{AlwaysYields}
use Rattle.std.specs.Result.{IsErrAnd}
use Rattle.action_names.specs.Names.{Name}
use Rattle.run_model.specs.declared.step.Step.TheVariants.{Close, Decide, Prepare}
use Rattle.committing.specs.TwoPhases.{AreTried, Tries, is_done, two_phases}

-- the error that came
pub the_error : {X E : Type 0} (result : Result X E) (stop : E) → IsErrAnd result (λ e. e ≡ stop) → result ≡ Err stop
the_error (Ok x) stop h = absurd h
the_error (Err e) stop h = ap Err h

-- guardians are left to vote, and whatever comes of their votes and of the decision comes of all steps
pub record LeadsOn {E S I : Type 0} (tries : Tries E S) (gives : I → Option (Bor ℕ) → I → Type 0) (top : Name) (guardians : List ℕ) (left-by : I)
    (old mid : S) : Type 0 where
  pub left : List ℕ
  pub gives-left : AlwaysYields gives (λ g. g.now) left-by left
  pub leads : (result : Result Bool E) (new : S)
      → AreTried tries (map (λ g. Prepare g top) left ++ Decide top ∷ []) result mid new
      → AreTried tries (two_phases top guardians) result old new

module _ {E S I : Type 0} (tries : Tries E S) (gives : I → Option (Bor ℕ) → I → Type 0) (top : Name) (guardians : List ℕ) (old : S) where
  -- the top action has closed
  pub closed : (it : I) (mid : S) (done : Bool) → done ≡ true → tries (Close top) (Ok done) old mid
      → AlwaysYields gives (λ g. g.now) it guardians → LeadsOn tries gives top guardians it old mid
  closed it mid done e close all = record {
    left = guardians;
    gives-left = all;
    leads = λ result new more. inr (mid, subst (λ b. tries (Close top) (Ok b) old mid) e close, more);
  }

  -- it has not
  pub unclosed : (result : Result Bool E) (new : S) → is_done result ≡ false → tries (Close top) result old new
      → AreTried tries (two_phases top guardians) result old new
  unclosed result new e close = inl (e, close)

  module _ (it next-it : I) (mid : S) (g : Bor ℕ) (so-far : LeadsOn tries gives top guardians it old mid) (one : gives it (Some g) next-it) where
    -- one votes yes
    pub voted : (next : S) (said : Bool) → said ≡ true → tries (Prepare g.now top) (Ok said) mid next → LeadsOn tries gives top guardians next-it old next
    voted next said e vote = go so-far.left so-far.gives-left so-far.leads
      where
        go : (left : List ℕ) → AlwaysYields gives (λ g. g.now) it left
            → ((result : Result Bool E) (new : S) → AreTried tries (map (λ g. Prepare g top) left ++ Decide top ∷ []) result mid new
            → AreTried tries (two_phases top guardians) result old new)
            → LeadsOn tries gives top guardians next-it old next
        go [] none leads = absurd (none g next-it one)
        go (x ∷ left) some leads =
            let (same, rest) = some.1 g next-it one in
            record {
              left = left;
              gives-left = rest;
              leads = λ result new more. leads result new (inr (
                next,
                subst (λ y. tries (Prepare y top) (Ok true) mid next) same (subst (λ b. tries (Prepare g.now top) (Ok b) mid next) e vote),
                more,
              ));
            }

    -- one does not
    pub unvoted : (result : Result Bool E) (new : S) → is_done result ≡ false → tries (Prepare g.now top) result mid new
        → AreTried tries (two_phases top guardians) result old new
    unvoted result new e vote = go so-far.left so-far.gives-left so-far.leads
      where
        go : (left : List ℕ) → AlwaysYields gives (λ g. g.now) it left
            → ((result : Result Bool E) (new : S) → AreTried tries (map (λ g. Prepare g top) left ++ Decide top ∷ []) result mid new
            → AreTried tries (two_phases top guardians) result old new)
            → AreTried tries (two_phases top guardians) result old new
        go [] none leads = absurd (none g next-it one)
        go (x ∷ left) some leads =
            let (same, rest) = some.1 g next-it one in
            leads result new (inl (e, subst (λ y. tries (Prepare y top) result mid new) same vote))

  -- all have voted yes
  pub decided : (it last-it : I) (mid new : S) (result : Result Bool E) → LeadsOn tries gives top guardians it old mid → gives it None last-it
      → tries (Decide top) result mid new → AreTried tries (two_phases top guardians) result old new
  decided it last-it mid new result so-far none decide = go so-far.left so-far.gives-left so-far.leads
    where
      last : (r : Result Bool E) → r ≡ result → AreTried tries (Decide top ∷ []) result mid new
      last (Ok true) e = inr (new, subst (λ r. tries (Decide top) r mid new) (sym e) decide, (sym e, refl))
      last (Ok false) e = inl (ap is_done (sym e), decide)
      last (Err stop) e = inl (ap is_done (sym e), decide)

      go : (left : List ℕ) → AlwaysYields gives (λ g. g.now) it left
          → ((result : Result Bool E) (new : S) → AreTried tries (map (λ g. Prepare g top) left ++ Decide top ∷ []) result mid new
          → AreTried tries (two_phases top guardians) result old new)
          → AreTried tries (two_phases top guardians) result old new
      go [] ended leads = leads result new (last result refl)
      go (x ∷ left) some leads = absurd (some.0 last-it none)
