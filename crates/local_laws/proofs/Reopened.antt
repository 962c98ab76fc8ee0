-- What a guardian that was opened again by itself reads of the time before.
use Rattle.std.proofs.Common.{Bool, List, arith, [], ap, ap₂, cond, false, filter, length, map, not, refl, suc, true, zero, ℕ, ◌&&◌, ◌++◌, ◌+◌, ◌∙◌, ◌∷◌, ◌≡◌, ◌||◌}
use Rattle.std.specs.Prelude.{replicate}
use Rattle.std.specs.List.{list_any}
use Rattle.action_names.specs.Names.{Name, ancestors, same_name}
use Rattle.run_model.specs.declared.step.ObjectId.{ObjectId}
use Rattle.run_model.specs.declared.step.Step.TheVariants.{Crash, Prepare}
use Rattle.run_model.specs.declared.answer.Answer.TheVariants.{Done}
use Rattle.run_model.specs.declared.history.Event.{Event}
use Rattle.run_model.specs.Actions.{crashes, is_down, step_crashes, step_recovers}
use Rattle.run_model.specs.Visibility.{has_prepared}
use Rattle.run_model.specs.Votes.{has_voted}
use Rattle.run_model.specs.Keeping.{undoes_by}
use Rattle.run_model.specs.Openings.{Opening}
use Rattle.atomic_types.specs.declared.part.Part.{Part}
use Rattle.run_model.specs.StableContent.{Prepared}
use Rattle.run_model.specs.LocalReadings.{LocalEvent, aborts_here, counts_here, events_here, given_back, kept_here, learnt, restored_here, stable_base_here, told_here, told_committed_here}
use Rattle.run_model.specs.Reopening.{crash_before, vote_before}
use Rattle.run_laws.proofs.Names.{eqb_self}
use Rattle.local_laws.specs.Reopened.{LifeBefore, is_prepared, parts_of}

abbrev pub votes : ℕ → List (Name × Prepared) → List LocalEvent
votes g prepared = map (λ p. vote_before g p) prepared

abbrev pub crashed : ℕ → ℕ → List LocalEvent → List LocalEvent
crashed g n life = replicate n (crash_before g) ++ life

all_kept : {X : Type 0} (f : X → Bool) → ((x : X) → f x ≡ true) → (xs : List X) → filter f xs ≡ xs
all_kept f h [] = refl
all_kept f h (x ∷ xs) = ap₂ (λ t ys. cond t (x ∷ ys) ys) (h x) (all_kept f h xs)

none_aborted : (names : List Name) → list_any (λ (b : Name). false) names ≡ false
none_aborted [] = refl
none_aborted (b ∷ names) = none_aborted names

-- what was restored stays where nothing is told
stay : (rs : List (Name × Part)) → filter (λ r. not (list_any (λ (b : Name). false) (ancestors r.0))) rs ≡ rs
stay rs = all_kept _ (λ r. ap (λ t. not t) (none_aborted (ancestors r.0))) rs

-- a step of each reading over the crashes
down_crashed : (g n : ℕ) (life : List LocalEvent) → is_down g (events_here (crashed g (suc n) life)) ≡ true
down_crashed g n life = ap (λ t. t || (true && is_down g (events_here (crashed g n life)))) (eqb_self g)

crashes_crashed : (g n : ℕ) (prepared : List (Name × Prepared)) → crashes g (events_here (crashed g n (votes g prepared))) ≡ n
crashes_crashed g zero [] = refl
crashes_crashed g zero (p ∷ prepared) = crashes_crashed g 0 prepared
crashes_crashed g (suc n) prepared =
    ap (λ t. length (cond t (record { step = Crash g; answer = Done 0 } ∷ older) older)) (eqb_self g) ∙ ap (λ k. suc k) (crashes_crashed g n prepared)
  where
    older : List Event
    older = filter (λ e. step_crashes e.step g) (events_here (crashed g n (votes g prepared)))

no_recoveries : (g n : ℕ) (prepared : List (Name × Prepared))
    → length (filter (λ e. step_recovers e.step g) (events_here (crashed g n (votes g prepared)))) ≡ 0
no_recoveries g zero [] = refl
no_recoveries g zero (p ∷ prepared) = no_recoveries g 0 prepared
no_recoveries g (suc n) prepared = no_recoveries g n prepared

voted_before : (g n : ℕ) (prepared : List (Name × Prepared)) (t : Name)
    → has_voted g t (events_here (crashed g n (votes g prepared))) ≡ is_prepared prepared t
voted_before g zero [] t = refl
voted_before g zero (p ∷ prepared) t = ap₂ (λ u v. (u && same_name p.0 t) || v) (eqb_self g) (voted_before g 0 prepared t)
voted_before g (suc n) prepared t = voted_before g n prepared t

prepared_before : (g n : ℕ) (prepared : List (Name × Prepared)) (t : Name)
    → has_prepared g t (events_here (crashed g n (votes g prepared))) ≡ is_prepared prepared t
prepared_before g zero [] t = refl
prepared_before g zero (p ∷ prepared) t = ap₂ (λ u v. (u && same_name p.0 t) || v) (eqb_self g) (prepared_before g 0 prepared t)
prepared_before g (suc n) prepared t = prepared_before g n prepared t

pub restored_before : (g n : ℕ) (prepared : List (Name × Prepared)) (x : ObjectId)
    → restored_here x (crashed g n (votes g prepared)) ≡ parts_of g prepared x
restored_before g zero [] x = refl
restored_before g zero (p ∷ prepared) x =
    ap (λ rs. given_back (Prepare g p.0) p.1.parts x ++ rs) (stay (restored_here x (votes g prepared)) ∙ restored_before g 0 prepared x)
restored_before g (suc n) prepared x = stay (restored_here x (crashed g n (votes g prepared))) ∙ restored_before g n prepared x

pub none_kept : (g n : ℕ) (prepared : List (Name × Prepared)) (x : ObjectId) → kept_here x (crashed g n (votes g prepared)) ≡ []
none_kept g zero [] x = refl
none_kept g zero (p ∷ prepared) x = ap (λ os. filter (λ o. not (undoes_by (λ b. false) (Prepare g p.0) (events_here (votes g prepared)) o)) os) (none_kept g 0 prepared x)
none_kept g (suc n) prepared x =
    ap (λ os. filter (λ o. not (undoes_by (λ b. false) (Crash g) (events_here (crashed g n (votes g prepared))) o)) os) (none_kept g n prepared x)

base_before : (g n : ℕ) (prepared : List (Name × Prepared)) (o : Opening) (k : ℕ)
    → stable_base_here o g k (crashed g n (votes g prepared)) ≡ (o.stores g).base k
base_before g zero [] o k = refl
base_before g zero (p ∷ prepared) o k = base_before g 0 prepared o k
base_before g (suc n) prepared o k = base_before g n prepared o k

told_before : (g n : ℕ) (prepared : List (Name × Prepared)) (b : Name) → told_here g b (crashed g (suc n) (votes g prepared)) ≡ false
told_before g n prepared b = ap (λ t. not t && (told_here g b (crashed g n (votes g prepared)) || false)) (eqb_self g)

pub committed_before : (g n : ℕ) (prepared : List (Name × Prepared)) (b : Name) → told_committed_here b (crashed g n (votes g prepared)) ≡ false
committed_before g zero [] b = refl
committed_before g zero (p ∷ prepared) b = committed_before g 0 prepared b
committed_before g (suc n) prepared b = committed_before g n prepared b

-- the law
pub life_before_is : LifeBefore
life_before_is g held prepared = record {
  down = down_crashed g held.count (votes g prepared);
  crashes = crashes_crashed g (suc held.count) prepared;
  count = λ o. ap (λ k. (o.stores g).count + k) (no_recoveries g (suc held.count) prepared) ∙ omega arith;
  voted = λ t. voted_before g (suc held.count) prepared t;
  prepared = λ t. prepared_before g (suc held.count) prepared t;
  restored = λ x. restored_before g (suc held.count) prepared x;
  kept = λ x. none_kept g (suc held.count) prepared x;
  base = λ o n. base_before g (suc held.count) prepared o n;
  told = λ b. told_before g held.count prepared b;
  told_committed = λ b. committed_before g (suc held.count) prepared b;
  aborts = ap (λ t. cond t [] (learnt [] (learnt [] (aborts_here g (crashed g held.count (votes g prepared)))))) (eqb_self g);
  counts = ap (λ t. cond t [] (counts_here g (crashed g held.count (votes g prepared)))) (eqb_self g);
}
