-- The two phases of a top action, step after step.
use Rattle.std.proofs.Common.{Bool, Bor, Err, IfErr, IfOk, List, Ok, OnOk, Result, [], ap, false, if◌then◌else◌, inl, inr, map, refl, subst, sym, true, ℕ, ◌++◌, ◌∙◌, ◌∷◌, ◌≡◌}
use Rattle.std.proofs.lemmas.Bool.{false≢true}
use Rattle.std.specs.Iterator.{AlwaysYields}
use Rattle.std.specs.Map.Iter.{TakesFirst, deref}
use Rattle.std.specs.Result.{IsErrAnd}
use Rattle.action_names.specs.Names.{Name}
use Rattle.committing.specs.TwoPhases.{AreTried, is_done, two_phases as both_phases}
use Rattle.layer_contracts.specs.declared.guardian.Fault.{Fault}
use Rattle.layer_contracts.specs.declared.guardian.Fault.TheVariants.{Memory}
use Rattle.run_model.specs.declared.step.Step.{Step}
use Rattle.run_model.specs.declared.step.Step.TheVariants.{Close, Decide, Prepare}
use Rattle.run_model.specs.Runs.{World}
use Rattle.run_model.specs.Votes.{is_yes}
use Rattle.activities.specs.Failing.{EndOrFail, IsCause}
use Rattle.activities.specs.Making.{Makes, Tells, commits_of}
use Rattle.activities.specs.OwnSteps.{about}
use Rattle.activities.specs.Serial.{Acting, Tried, after, and_then, asked, tried, two_phases, voted}
use Rattle.activities.specs.TopSteps.{ComesTo, IsTried, is_done_by}
use Rattle.activities.proofs.Failing.{over_nowhere, over_through}
use Rattle.activities.proofs.Making.{if_ok_each, makes_nowhere, makes_quietly, makes_through, then_tells}

-- a set gives its keys, in order
pub gives_keys : (keys : List ℕ) → AlwaysYields (TakesFirst (deref {X = ℕ})) (λ (g : Bor ℕ). g.now) keys keys
gives_keys [] = λ x next e. let some : [] ≡ x.now ∷ next = e in cc
gives_keys (key ∷ keys) = (
  λ next e. let none : key ∷ keys ≡ [] = e.0 in cc,
  λ x next e.
      let some : key ∷ keys ≡ x.now ∷ next = e in
      let rest : keys ≡ next = cc in
      (cc, subst (λ s. AlwaysYields (TakesFirst (deref {X = ℕ})) (λ (g : Bor ℕ). g.now) s keys) rest (gives_keys keys)),
)

-- ---- tries

-- the second comes where the first has succeeded
goes_on : (t : Tried) (next : World → Tried) → t.done ≡ true → and_then t next ≡ next t.world
goes_on t next e = ap (λ b. if b then next t.world else t) e

stops : (t : Tried) (next : World → Tried) → t.done ≡ false → and_then t next ≡ t
stops t next e = ap (λ b. if b then next t.world else t) e

-- what a step comes to, and others behind it
abbrev first : Step → World → Tried
first step w = record { world = after step w; done = is_done_by step (asked step w) }

-- the others come where it was done
first_done : (step : Step) (next last : World → Tried) (w : World) → is_done_by step (asked step w) ≡ true
    → and_then (and_then (first step w) next) last ≡ and_then (next (after step w)) last
first_done step next last w e = ap (λ t. and_then t last) (goes_on (first step w) next e)

first_alone : (step : Step) (next last : World → Tried) (w : World) → is_done_by step (asked step w) ≡ false
    → and_then (and_then (first step w) next) last ≡ record { world = after step w; done = false }
first_alone step next last w e =
    ap (λ t. and_then t last) (stops (first step w) next e) ∙ stops (first step w) last e
    ∙ ap (λ b. record { world = after step w; done = b }) e

module _ (alone : Type 0) (fails : Fault → Type 0) (a : Name) where
  abbrev Comes : (World → Tried) → Result Bool Fault → World → World → Type 0
  Comes wanted result old new = ComesTo alone fails a wanted result old new

  -- memory ran out before a step
  pub no_memory : (step : Step) (result : Result Bool Fault) (w : World) → IsErrAnd result (λ e. e ≡ Memory) → IsTried alone fails step result w w
  no_memory step (Ok done) w h = absurd h
  no_memory step (Err fault) w h = record {
    makes = makes_nowhere (about step) (commits_of step) w;
    told = tt;
    left = tt;
    done = tt;
    failed = inl h;
    over = over_nowhere alone fails w;
  }

  -- a step that was made, under another name for it
  pub step_tried : (step made : Step) (result : Result Bool Fault) (x y : World) → made ≡ step → Makes (about made) (commits_of made) x y
      → IfOk result (λ done. (b : Name) → about made ≡ b ∷ [] → commits_of made ≡ b ∷ [] → Tells done b x y)
      → OnOk result (alone → y ≡ after made x) → IfOk result (λ done. alone → done ≡ is_done_by made (asked made x)) → IfErr result fails
      → EndOrFail alone fails [] x y → IsTried alone fails step result x y
  step_tried step made result x y e makes told left done failed over =
      subst (λ s. IsTried alone fails s result x y) e (record {
        makes = makes;
        told = if_ok_each result told (λ done h b d. h b (ap about d) (ap commits_of d));
        left = left;
        done = done;
        failed = cause result failed;
        over = over;
      })
    where
      cause : (r : Result Bool Fault) → IfErr r fails → IfErr r (IsCause fails)
      cause (Ok done) h = tt
      cause (Err fault) h = inr h

  pub vote_tried : (g : ℕ) (result : Result Bool Fault) (x y : World) → Makes (a ∷ []) [] x y → OnOk result (alone → y ≡ after (Prepare g a) x)
      → IfOk result (λ done. alone → done ≡ is_yes (asked (Prepare g a) x)) → IfErr result (IsCause fails) → EndOrFail alone fails [] x y
      → IsTried alone fails (Prepare g a) result x y
  vote_tried g result x y makes left done failed over =
      record { makes = makes; told = told result; left = left; done = done; failed = failed; over = over }
    where
      told : (r : Result Bool Fault) → IfOk r (λ done. (b : Name) → Prepare g a ≡ Decide b → Tells done b x y)
      told (Ok done) = λ b e. cc
      told (Err fault) = tt

  -- a step was done, and others came to something
  done_first : (step : Step) (next last : World → Tried) (result : Result Bool Fault) (x y z : World) → Makes (a ∷ []) [] x y
      → IsTried alone fails step (Ok true) x y → Comes (λ w. and_then (next w) last) result y z
      → Comes (λ w. and_then (and_then (first step w) next) last) result x z
  done_first step next last result x y z makes one more = record {
    makes = makes_through (a ∷ []) (a ∷ []) x y z (makes_quietly (a ∷ []) (a ∷ []) x y makes) more.makes;
    told = tells result more.told;
    means = means result more.means;
    failed = more.failed;
    over = over_through alone fails x y z one.over more.over;
  }
    where
      tells : (r : Result Bool Fault) → IfOk r (λ done. Tells done a y z) → IfOk r (λ done. Tells done a x z)
      tells (Ok done) h = then_tells done a a x y z refl makes h
      tells (Err fault) h = tt

      means : (r : Result Bool Fault) → IfOk r (λ done. alone → record { world = z; done = done } ≡ and_then (next y) last)
          → IfOk r (λ done. alone → record { world = z; done = done } ≡ and_then (and_then (first step x) next) last)
      means (Ok done) h = λ l.
          h l ∙ ap (λ w. and_then (next w) last) (one.left l) ∙ sym (first_done step next last x (sym (one.done l)))
      means (Err fault) h = tt

  -- a step was not done
  not_done : (step : Step) (next last : World → Tried) (result : Result Bool Fault) (x y : World) → Makes (a ∷ []) [] x y
      → is_done result ≡ false → IsTried alone fails step result x y → Comes (λ w. and_then (and_then (first step w) next) last) result x y
  not_done step next last (Ok true) x y makes e one = absurd (false≢true (sym e))
  not_done step next last (Ok false) x y makes e one = record {
    makes = makes_quietly (a ∷ []) (a ∷ []) x y makes;
    told = makes;
    means = λ l. ap (λ w. record { world = w; done = false }) (one.left l) ∙ sym (first_alone step next last x (sym (one.done l)));
    failed = tt;
    over = one.over;
  }
  not_done step next last (Err fault) x y makes e one = record {
    makes = makes_quietly (a ∷ []) (a ∷ []) x y makes;
    told = tt;
    means = tt;
    failed = one.failed;
    over = one.over;
  }

  -- the decision
  decides : (result : Result Bool Fault) (x y : World) → IsTried alone fails (Decide a) result x y → Comes (tried (Decide a)) result x y
  decides (Ok done) x y one = record {
    makes = one.makes;
    told = one.told a refl;
    means = λ l.
        ap (λ w. record { world = w; done = done }) (one.left l)
        ∙ ap (λ b. record { world = after (Decide a) x; done = b }) (one.done l);
    failed = tt;
    over = one.over;
  }
  decides (Err fault) x y one = record { makes = one.makes; told = tt; means = tt; failed = one.failed; over = one.over }

  module _ {M G : Type 0} (run : M → World) (name : M → G) where
    abbrev pub Tries : Step → Result Bool Fault → M → M → Type 0
    Tries step result old new = (name new ≡ name old) × IsTried alone fails step result (run old) (run new)

    abbrev pub Come : (World → Tried) → Result Bool Fault → M → M → Type 0
    Come wanted result old new = (name new ≡ name old) × Comes wanted result (run old) (run new)

    votes_come : (guardians : List ℕ) (result : Result Bool Fault) (old new : M)
        → AreTried Tries (map (λ g. Prepare g a) guardians ++ Decide a ∷ []) result old new
        → Come (λ w. and_then (voted a guardians w) (tried (Decide a))) result old new
    votes_come [] result old new (inl (e, one)) = (one.0, decides result (run old) (run new) one.1)
    votes_come [] result old new (inr (next, one, (e, same))) = (
      ap name same ∙ one.0,
      subst (λ r. Comes (tried (Decide a)) r (run old) (run new)) (sym e)
          (subst (λ m. Comes (tried (Decide a)) (Ok true) (run old) (run m)) (sym same) (decides (Ok true) (run old) (run next) one.1)),
    )
    votes_come (g ∷ guardians) result old new (inl (e, one)) =
        (one.0, not_done (Prepare g a) (voted a guardians) (tried (Decide a)) result (run old) (run new) one.1.makes e one.1)
    votes_come (g ∷ guardians) result old new (inr (next, one, more)) =
        let (same, rest) = votes_come guardians result next new more in
        (same ∙ one.0, done_first (Prepare g a) (voted a guardians) (tried (Decide a)) result (run old) (run next) (run new) one.1.makes one.1 rest)

pub phases_come : {M G : Type 0} (alone : Type 0) (fails : Fault → Type 0) (run : M → World) (name : M → G) (acting : Acting) (result : Result Bool Fault)
    (old new : M) → AreTried (Tries alone fails acting.name run name) (both_phases acting.name acting.participants) result old new
    → Come alone fails acting.name run name (two_phases acting) result old new
phases_come alone fails run name acting result old new (inl (e, one)) = (
  one.0,
  not_done alone fails acting.name (Close acting.name) (voted acting.name acting.participants) (tried (Decide acting.name)) result (run old) (run new)
      one.1.makes e one.1,
)
phases_come alone fails run name acting result old new (inr (next, one, more)) =
    let (same, rest) = votes_come alone fails acting.name run name acting.participants result next new more in (
      same ∙ one.0,
      done_first alone fails acting.name (Close acting.name) (voted acting.name acting.participants) (tried (Decide acting.name)) result (run old) (run next)
          (run new) one.1.makes one.1 rest,
    )

-- as the driver says of whatever guardians it is given; the states come first, so that their type is known
pub commits : {M G : Type 0} (old new : M) (alone : Type 0) (fails : Fault → Type 0) (run : M → World) (name : M → G) (acting : Acting) (top : Name)
    (it : List ℕ) (result : Result Bool Fault) → top ≡ acting.name → it ≡ acting.participants
    → ((guardians : List ℕ) → AlwaysYields (TakesFirst (deref {X = ℕ})) (λ (g : Bor ℕ). g.now) it guardians
    → AreTried (Tries alone fails acting.name run name) (both_phases top guardians) result old new)
    → Come alone fails acting.name run name (two_phases acting) result old new
commits old new alone fails run name acting top it result e same drive =
    phases_come alone fails run name acting result old new
    (subst (λ b. AreTried (Tries alone fails acting.name run name) (both_phases b acting.participants) result old new) e
    (drive acting.participants
    (subst (λ s. AlwaysYields (TakesFirst (deref {X = ℕ})) (λ (g : Bor ℕ). g.now) s acting.participants) (sym same) (gives_keys acting.participants))))
