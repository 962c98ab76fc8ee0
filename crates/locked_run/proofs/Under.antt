-- From what stands under locks to parts taken together, and back.
use Rattle.std.proofs.Common.{Bool, List, Some, [], ap, arith, cond, false, refl, subst, sym, true, suc, ℕ, ◌-◌, ◌<◌, ◌≤◌, ◌++◌, ◌==◌, ◌∙◌, ◌∷◌, ◌≡◌}
use Rattle.atomic_table.specs.Seated.{TableId}
use Rattle.one_run.specs.declared.piece.Piece.{Piece}
use Rattle.one_run.specs.declared.run.Part.{Part}
use Rattle.one_run.specs.Pieces.{AllFit, GoesOn, count, first_left, seen_of, with_less, with_seen}
use Rattle.one_run.specs.Rules.{Looks, first_of, others_of}
use Rattle.run_model.specs.declared.history.Event.{Event}
use Rattle.run_model.specs.LocalHistories.{Stamped}
use Rattle.run_model.specs.Openings.{Opening}
use Rattle.run_model.specs.Runs.{IsRun}
use Rattle.run_laws.proofs.Names.{eqb_self}
use Rattle.layer_contracts.specs.Forests.{ForestState}
use Rattle.layer_contracts.specs.Guardians.{GuardianState}
use Rattle.world_steps.specs.Standings.{forest_of, standing}
use Rattle.shared_run.specs.Places.{touches}
use Rattle.shared_run.proofs.Histories.{history_stays, registry_stays}
use Rattle.stable_store.specs.Calls.{View}
use Rattle.run_model.specs.declared.step.Step.{Step}
use Rattle.layer_contracts.proofs.Stores.{stays_same}
use Rattle.locked_run.specs.Acting.{IsLeft, IsLeftThere, Outcome, StoreAfter, has_added, run_before}
use Rattle.locked_run.specs.Acting.Outcome.{elsewhere}
use Rattle.locked_run.specs.Parts.{AreKept, AreLocked, HasRegistry, InHeld, IsHeld, IsHeldThere, Moved, guardian_part, number_of, registry_part}
use Rattle.locked_run.specs.Stored.{guardian_events, registry_events}
use Rattle.locked_run.proofs.Recorded.{events_stay, registry_events_stay}
use Rattle.locked_run.proofs.Together.{goes_further, has_guardian, has_registry}

abbrev pub three : ℕ → ℕ → List Event → ℕ → ℕ → List Event → ℕ → List Event → List (Piece Event)
three g l p h m q n r = guardian_part g l p ∷ guardian_part h m q ∷ registry_part n r ∷ []

abbrev pub two : ℕ → ℕ → List Event → ℕ → List Event → List (Piece Event)
two g l p n r = guardian_part g l p ∷ registry_part n r ∷ []

-- each has its own place
own_place : (k : ℕ) → ◌≡◌ {A = ℕ} (cond (suc k == suc k) 1 0) 1
own_place k = ap (λ (b : Bool). cond {A = ℕ} b 1 0) (eqb_self (suc k))

module _ (g l h m n : ℕ) (p q r : List Event) where
  pub three_registry : 0 < count 0 (three g l p h m q n r)
  three_registry = omega arith

  pub three_first : 0 < count (suc g) (three g l p h m q n r)
  three_first = let one = own_place g in omega arith

  pub three_second : 0 < count (suc h) (three g l p h m q n r)
  three_second = let one = own_place h in omega arith

module _ (g l n : ℕ) (p r : List Event) where
  pub two_registry : 0 < count 0 (two g l p n r)
  two_registry = omega arith

  pub two_first : 0 < count (suc g) (two g l p n r)
  two_first = let one = own_place g in omega arith

-- ---- taken together

module _ {opening : Opening} {table : TableId} {forest : ForestState → Type 0} {one other : GuardianState → Type 0} {a b c : Part Event} {left more : ℕ}
    {first second registry : List Stamped} (x : IsHeld opening table one a left first) (y : IsHeld opening table other b more second)
    (z : IsHeldThere opening table forest c registry) {w : List (Piece Event)}
    (looks : Looks (IsRun opening) touches ((a.token.me.0 ++ b.token.me.0) ++ c.token.me.0) w) where
  abbrev pub held_three : List (Piece Event)
  held_three = three x.number x.allowed x.past y.number y.allowed y.past z.left z.past

  parts_three : ((a.token.me.0 ++ b.token.me.0) ++ c.token.me.0) ≡ held_three
  parts_three = λ i. (x.parts i ++ y.parts i) ++ z.parts i

  pub seen_three : w ≡ with_seen looks.past held_three
  seen_three = looks.seen ∙ ap (λ u. with_seen looks.past u) parts_three

  pub fits_three : AllFit touches looks.past held_three
  fits_three = subst (λ u. AllFit touches looks.past u) parts_three looks.fits

  pub locked_three : AreLocked opening forest one other x.number y.number w
  locked_three =
      let q = looks.past in
      let here : one (standing opening q x.number) =
      subst (λ l. one (record { opening = opening; number = x.number; past = l })) (sym (history_stays opening x.number x.past fits_three.0)) x.here in
      let also : other (standing opening q y.number) =
      subst (λ l. other (record { opening = opening; number = y.number; past = l })) (sym (history_stays opening y.number y.past fits_three.1.0)) y.here in
      let there : forest (forest_of opening q) =
      subst (λ l. forest (record { opening = opening; registry = l })) (sym (registry_stays opening z.past fits_three.1.1.0)) z.there in
      subst (λ u. AreLocked opening forest one other x.number y.number u) (sym seen_three)
      (record {
        registry = has_registry opening q held_three looks.run (three_registry x.number x.allowed y.number y.allowed z.left x.past y.past z.past) there;
        first = has_guardian opening q held_three looks.run x.number (three_first x.number x.allowed y.number y.allowed z.left x.past y.past z.past) here;
        second = has_guardian opening q held_three looks.run y.number (three_second x.number x.allowed y.number y.allowed z.left x.past y.past z.past) also;
      })

  -- what they have kept is that of the run as it is now
  pub kept_three : AreKept opening x.number y.number (seen_of w) first second registry
  kept_three =
      subst (λ q. AreKept opening x.number y.number q first second registry) (sym (ap seen_of seen_three))
      (record {
        first = x.kept ∙ sym (events_stay opening x.number x.past fits_three.0);
        second = y.kept ∙ sym (events_stay opening y.number y.past fits_three.1.0);
        registry = z.kept ∙ sym (registry_events_stay opening z.past fits_three.1.1.0);
      })

  pub left_three : left ≤ first_left w
  left_three = let e = x.enough in let same : first_left w ≡ x.allowed = ap first_left seen_three in omega arith

module _ {opening : Opening} {table : TableId} {forest : ForestState → Type 0} {one : GuardianState → Type 0} {a c : Part Event} {left : ℕ}
    {first registry : List Stamped} (x : IsHeld opening table one a left first) (z : IsHeldThere opening table forest c registry) {w : List (Piece Event)}
    (looks : Looks (IsRun opening) touches (a.token.me.0 ++ c.token.me.0) w) where
  abbrev pub held_two : List (Piece Event)
  held_two = two x.number x.allowed x.past z.left z.past

  parts_two : (a.token.me.0 ++ c.token.me.0) ≡ held_two
  parts_two = λ i. x.parts i ++ z.parts i

  pub seen_two : w ≡ with_seen looks.past held_two
  seen_two = looks.seen ∙ ap (λ u. with_seen looks.past u) parts_two

  pub fits_two : AllFit touches looks.past held_two
  fits_two = subst (λ u. AllFit touches looks.past u) parts_two looks.fits

  pub locked_two : AreLocked opening forest one one x.number x.number w
  locked_two =
      let q = looks.past in
      let here : one (standing opening q x.number) =
      subst (λ l. one (record { opening = opening; number = x.number; past = l })) (sym (history_stays opening x.number x.past fits_two.0)) x.here in
      let there : forest (forest_of opening q) =
      subst (λ l. forest (record { opening = opening; registry = l })) (sym (registry_stays opening z.past fits_two.1.0)) z.there in
      let mine = has_guardian opening q held_two looks.run x.number (two_first x.number x.allowed z.left x.past z.past) here in
      subst (λ u. AreLocked opening forest one one x.number x.number u) (sym seen_two)
      (record {
        registry = has_registry opening q held_two looks.run (two_registry x.number x.allowed z.left x.past z.past) there;
        first = mine;
        second = mine;
      })

  -- what they have kept is that of the run as it is now
  pub kept_two : AreKept opening x.number x.number (seen_of w) first first registry
  kept_two =
      let mine = x.kept ∙ sym (events_stay opening x.number x.past fits_two.0) in
      subst (λ q. AreKept opening x.number x.number q first first registry) (sym (ap seen_of seen_two))
      (record { first = mine; second = mine; registry = z.kept ∙ sym (registry_events_stay opening z.past fits_two.1.0) })

  pub left_two : left ≤ first_left w
  left_two = let e = x.enough in let same : first_left w ≡ x.allowed = ap first_left seen_two in omega arith

-- ---- given back

pub record AreThree (added : Bool) (g l h m n : ℕ) (w : List (Piece Event)) : Type 0 where
  pub first : first_of w ≡ guardian_part g (cond added (l - 1) l) (seen_of w) ∷ []
  pub second : first_of (others_of w) ≡ guardian_part h m (seen_of w) ∷ []
  pub third : others_of (others_of w) ≡ registry_part n (seen_of w) ∷ []

pub three_back : (added : Bool) (g l h m n : ℕ) (p q r past : List Event) (v w : List (Piece Event)) → v ≡ with_seen past (three g l p h m q n r) → Moved added v w
    → AreThree added g l h m n w
three_back added g l h m n p q r past v w is moved =
    let all : w ≡ three g (cond added (l - 1) l) moved.past h m moved.past n moved.past =
    moved.is ∙ ap (λ u. with_seen moved.past (cond added (with_less u) u)) is ∙ of added in
    let seen : seen_of w ≡ moved.past = ap seen_of all in
    record {
      first = ap first_of all ∙ ap (λ l'. guardian_part g (cond added (l - 1) l) l' ∷ []) (sym seen);
      second = ap (λ u. first_of (others_of u)) all ∙ ap (λ l'. guardian_part h m l' ∷ []) (sym seen);
      third = ap (λ u. others_of (others_of u)) all ∙ ap (λ l'. registry_part n l' ∷ []) (sym seen);
    }
  where
    of : (b : Bool) → with_seen moved.past (cond b (with_less (with_seen past (three g l p h m q n r))) (with_seen past (three g l p h m q n r)))
        ≡ three g (cond b (l - 1) l) moved.past h m moved.past n moved.past
    of true = refl
    of false = refl

pub record AreTwo (added : Bool) (g l n : ℕ) (w : List (Piece Event)) : Type 0 where
  pub first : first_of w ≡ guardian_part g (cond added (l - 1) l) (seen_of w) ∷ []
  pub second : others_of w ≡ registry_part n (seen_of w) ∷ []

pub two_back : (added : Bool) (g l n : ℕ) (p r past : List Event) (v w : List (Piece Event)) → v ≡ with_seen past (two g l p n r) → Moved added v w
    → AreTwo added g l n w
two_back added g l n p r past v w is moved =
    let all : w ≡ two g (cond added (l - 1) l) moved.past n moved.past =
    moved.is ∙ ap (λ u. with_seen moved.past (cond added (with_less u) u)) is ∙ of added in
    let seen : seen_of w ≡ moved.past = ap seen_of all in
    record {
      first = ap first_of all ∙ ap (λ l'. guardian_part g (cond added (l - 1) l) l' ∷ []) (sym seen);
      second = ap others_of all ∙ ap (λ l'. registry_part n l' ∷ []) (sym seen);
    }
  where
    of : (b : Bool) → with_seen moved.past (cond b (with_less (with_seen past (two g l p n r))) (with_seen past (two g l p n r)))
        ≡ two g (cond b (l - 1) l) moved.past n moved.past
    of true = refl
    of false = refl

-- a guardian with its part again
pub held_again : {opening : Opening} {table : TableId} {before one : GuardianState → Type 0} {was part : Part Event} {left : ℕ} {old new : List Stamped}
    (x : IsHeld opening table before was left old) (l more : ℕ) (q : List Event) → part.token.table_id ≡ table
    → part.token.me.0 ≡ guardian_part x.number l q ∷ [] → more ≤ l → IsRun opening q → one (standing opening q x.number)
    → new ≡ guardian_events opening q x.number → IsHeld opening table one part more new
held_again x l more q table parts enough run here kept = record {
  number = x.number;
  past = q;
  allowed = l;
  of_table = table;
  parts = parts;
  enough = enough;
  run = run;
  here = here;
  first = x.first;
  last = x.last;
  kept = kept;
}

pub held_there_again : {opening : Opening} {table : TableId} {forest : ForestState → Type 0} {part : Part Event} {history : List Stamped} (n : ℕ) (q : List Event)
    → part.token.table_id ≡ table → part.token.me.0 ≡ registry_part n q ∷ [] → IsRun opening q → forest (forest_of opening q) → history ≡ registry_events opening q
    → IsHeldThere opening table forest part history
held_there_again n q table parts run there kept = record { past = q; left = n; of_table = table; parts = parts; run = run; there = there; kept = kept }

-- ---- what a step leaves

-- what is left of the stamps is no more than the part may draw
pub still_enough : (added : Bool) (left allowed : ℕ) → left ≤ allowed → left - cond {A = ℕ} added 1 0 ≤ cond {A = ℕ} added (allowed - 1) allowed
still_enough true left allowed h = omega arith
still_enough false left allowed h = omega arith

same_number : (number l : ℕ) (past : List Event) (before : List (Piece Event)) → before ≡ guardian_part number l past ∷ [] → number_of before ≡ number
same_number number l past before was = let back : suc number - 1 ≡ number = omega arith in ap number_of was ∙ back

-- a guardian under its lock, before and after
module _ {G : Type 0} (opening : Opening) (stored : G → View) (step : Step) (o : Outcome) {old : InHeld G} {guardian new : G} {before after : List (Piece Event)} {left : ℕ}
    (number l l' : ℕ) (past q : List Event) (is : record { guardian = guardian; number = number_of before; seen = seen_of before; left = left } ≡ old)
    (was : before ≡ guardian_part number l past ∷ []) (now : after ≡ guardian_part number l' q ∷ []) where
  pub left_is : (more : ℕ) → GoesOn touches (Some (suc number)) past (run_before (has_added o) q) → StoreAfter opening step o q number (stored guardian) (stored new)
      → IsLeft opening stored step o old (record { guardian = new; number = number_of after; seen = seen_of after; left = more })
  left_is more since store =
      let n : number_of before ≡ number = same_number number l past before was in
      let s : seen_of before ≡ past = ap seen_of was in
      let t : seen_of after ≡ q = ap seen_of now in
      subst (λ h. IsLeft opening stored step o h (record { guardian = new; number = number_of after; seen = seen_of after; left = more })) is
      (record {
        number = ap number_of now ∙ sym (ap number_of was);
        since =
            subst (λ m. GoesOn touches (Some (suc m)) (seen_of before) (run_before (has_added o) (seen_of after))) (sym n)
            (subst (λ p. GoesOn touches (Some (suc number)) p (run_before (has_added o) (seen_of after))) (sym s)
            (subst (λ u. GoesOn touches (Some (suc number)) past (run_before (has_added o) u)) (sym t) since));
        store =
            subst (λ m. StoreAfter opening step o (seen_of after) m (stored guardian) (stored new)) (sym n)
            (subst (λ u. StoreAfter opening step o u number (stored guardian) (stored new)) (sym t) store);
      })

-- the registry, before and after
pub left_there : (o : Outcome) {old : List Event} {before after : List (Piece Event)} (n m : ℕ) (past q : List Event) → seen_of before ≡ old → before ≡ registry_part n past ∷ []
    → after ≡ registry_part m q ∷ [] → GoesOn touches (Some 0) past (run_before (has_added o) q) → IsLeftThere o old (seen_of after)
left_there o {after = after} n m past q is was now since =
    subst (λ l. IsLeftThere o l (seen_of after)) (sym (ap seen_of was) ∙ is) (subst (λ u. GoesOn touches (Some 0) past (run_before (has_added o) u)) (sym (ap seen_of now)) since)

-- nothing was done
pub left_alone_is : {G : Type 0} (opening : Opening) (stored : G → View) (step : Step) (old : InHeld G) → IsLeft opening stored step elsewhere old old
left_alone_is opening stored step old = record { number = refl; since = Rattle.one_run.specs.Pieces.GoesOn.stays; store = stays_same (stored old.guardian) }

pub left_alone_there : (old : List Event) → IsLeftThere elsewhere old old
left_alone_there old = Rattle.one_run.specs.Pieces.GoesOn.stays

-- a step that was taken together, at each of three places
module _ {p q r past now : List Event} {v : List (Piece Event)} {g l h m n : ℕ} (is : v ≡ with_seen past (three g l p h m q n r)) (fits : AllFit touches past (three g l p h m q n r))
    (after : AllFit touches now v) where
  each_after : AllFit touches now (with_seen past (three g l p h m q n r))
  each_after = subst (λ u. AllFit touches now u) is after

  pub first_since : GoesOn touches (Some (suc g)) p now
  first_since = goes_further fits.0 each_after.0

  pub second_since : GoesOn touches (Some (suc h)) q now
  second_since = goes_further fits.1.0 each_after.1.0

  pub third_since : GoesOn touches (Some 0) r now
  third_since = goes_further fits.1.1.0 each_after.1.1.0

-- and of two
module _ {p r past now : List Event} {v : List (Piece Event)} {g l n : ℕ} (is : v ≡ with_seen past (two g l p n r)) (fits : AllFit touches past (two g l p n r))
    (after : AllFit touches now v) where
  both_after : AllFit touches now (with_seen past (two g l p n r))
  both_after = subst (λ u. AllFit touches now u) is after

  pub one_since : GoesOn touches (Some (suc g)) p now
  one_since = goes_further fits.0 both_after.0

  pub registry_since : GoesOn touches (Some 0) r now
  registry_since = goes_further fits.1.0 both_after.1.0

-- ---- the registry alone

module _ {opening : Opening} {table : TableId} {forest : ForestState → Type 0} {c : Part Event} {history : List Stamped}
    (z : IsHeldThere opening table forest c history) (part : Part Event)
    (looks : Looks (IsRun opening) touches c.token.me.0 part.token.me.0) where
  abbrev pub held_one : List (Piece Event)
  held_one = registry_part z.left z.past ∷ []

  pub seen_one : part.token.me.0 ≡ with_seen looks.past held_one
  seen_one = looks.seen ∙ ap (λ u. with_seen looks.past u) z.parts

  pub fits_one : AllFit touches looks.past held_one
  fits_one = subst (λ u. AllFit touches looks.past u) z.parts looks.fits

  pub locked_one : HasRegistry opening forest part.token.me.0
  locked_one =
      let there : forest (forest_of opening looks.past) =
      subst (λ l. forest (record { opening = opening; registry = l })) (sym (registry_stays opening z.past fits_one.0)) z.there in
      let place : 0 < count 0 held_one = omega arith in
      subst (λ u. HasRegistry opening forest u) (sym seen_one) (has_registry opening looks.past held_one looks.run place there)

  pub one_again : part.token.table_id ≡ table → IsHeldThere opening table forest part history
  one_again same =
      let seen : seen_of part.token.me.0 ≡ looks.past = ap seen_of seen_one in
      held_there_again z.left (seen_of part.token.me.0) same (seen_one ∙ ap (λ l. registry_part z.left l ∷ []) (sym seen)) locked_one.run locked_one.there
      (z.kept ∙ sym (registry_events_stay opening z.past fits_one.0) ∙ ap (λ l. registry_events opening l) (sym seen))

  pub one_since_then : {old : List Event} (o : Outcome) → has_added o ≡ false → seen_of c.token.me.0 ≡ old → IsLeftThere o old (seen_of part.token.me.0)
  one_since_then {old} o not is =
      let seen : seen_of part.token.me.0 ≡ looks.past = ap seen_of seen_one in
      let since : GoesOn touches (Some 0) z.past (seen_of part.token.me.0) = subst (λ u. GoesOn touches (Some 0) z.past u) (sym seen) fits_one.0 in
      subst (λ l. GoesOn touches (Some 0) l (run_before (has_added o) (seen_of part.token.me.0))) (sym (ap seen_of z.parts) ∙ is)
      (subst (λ b. GoesOn touches (Some 0) z.past (run_before b (seen_of part.token.me.0))) (sym not) since)
