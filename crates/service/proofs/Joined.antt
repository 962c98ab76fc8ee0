-- Runs of arms, joined in one: what was so of an arm's events is so of those of both.
use Rattle.std.proofs.Common.{Bool, List, false, inl, inr, refl, subst, sym, true, ℕ, ◌&&◌, ◌++◌, ◌||◌, ◌∙◌, ◌∷◌, ◌≡◌, ◌⊎◌}
use Rattle.std.proofs.lemmas.Bool.{and_from, and_parts, false≢true, not_from_false, or_cases, or_left, or_right}
use Rattle.std.proofs.lemmas.List.{append_cancel_right}
use Rattle.std.specs.List.{list_any}
use Rattle.action_names.specs.Names.{Name}
use Rattle.run_model.specs.declared.history.Event.{Event}
use Rattle.run_model.specs.declared.step.Step.{Step}
use Rattle.run_model.specs.declared.step.Step.TheVariants as steps
use Rattle.run_model.specs.Actions.{begins, is_aborted, is_begun, is_committed, is_ended, names_begun, step_aborts, step_commits, step_crashes}
use Rattle.run_model.specs.Telling.{step_tells, told_since_crash}
use Rattle.run_laws.proofs.Begun.{begun_cases, begun_more}
use Rattle.run_laws.proofs.Names.{has_name_append}
use Rattle.stepping.specs.Beside.{IsPartOf, OwnRun, Sees, beside, both, none, started}
use Rattle.stepping.proofs.Beside.{part_of_all}
use Rattle.service.specs.Arms.{AreJoined, IsMerge, any_step, of_neither, of_one, of_other}
use Rattle.service.specs.Transacting.{AreOwn, Began, Goes, IsSettled, began_at, begins_at}
use Rattle.service.proofs.Parts.{any_in_part, begun_in_part}

-- what an event began was begun
pub begins_more : (e : Event) (past : List Event) (b : Name) → begins e b ≡ true → is_begun b (e ∷ past) ≡ true
begins_more e past b h = has_name_append (names_begun e.answer) _ b ∙ or_left _ _ h

-- ---- merges

-- the events of each are a part of all
pub one_part : {one other all : List Event} → IsMerge one other all → IsPartOf one all
one_part of_neither = none
one_part (of_one e m) = both e (one_part m)
one_part (of_other e m) = beside e (one_part m)

pub other_part : {one other all : List Event} → IsMerge one other all → IsPartOf other all
other_part of_neither = none
other_part (of_one e m) = beside e (other_part m)
other_part (of_other e m) = both e (other_part m)

-- with the same events before
part_behind : (before : List Event) {few more : List Event} → IsPartOf few more → IsPartOf (few ++ before) (more ++ before)
part_behind before none = part_of_all before
part_behind before (both e part) = both e (part_behind before part)
part_behind before (beside e part) = beside e (part_behind before part)

module _ (before : List Event) where
  -- what some event of all did, one of either did
  pub any_of_either : (p : Event → Bool) {one other all : List Event} → IsMerge one other all → list_any p (all ++ before) ≡ true
      → (list_any p (one ++ before) ≡ true) ⊎ (list_any p (other ++ before) ≡ true)
  any_of_either p of_neither h = inl h
  any_of_either p (of_one e {one = one} {all = all} m) h = elim (or_cases (p e) (list_any p (all ++ before)) h) [
    | inl k ↦ inl (or_left (p e) (list_any p (one ++ before)) k)
    | inr k ↦ elim (any_of_either p m k) [ inl j ↦ inl (or_right (p e) (list_any p (one ++ before)) j) | inr j ↦ inr j ]
  ]
  any_of_either p (of_other e {other = other} {all = all} m) h = elim (or_cases (p e) (list_any p (all ++ before)) h) [
    | inl k ↦ inr (or_left (p e) (list_any p (other ++ before)) k)
    | inr k ↦ elim (any_of_either p m k) [ inl j ↦ inl j | inr j ↦ inr (or_right (p e) (list_any p (other ++ before)) j) ]
  ]

  -- what all began, either began
  pub begun_of_either : (b : Name) {one other all : List Event} → IsMerge one other all → is_begun b (all ++ before) ≡ true
      → (is_begun b (one ++ before) ≡ true) ⊎ (is_begun b (other ++ before) ≡ true)
  begun_of_either b of_neither h = inl h
  begun_of_either b (of_one e {one = one} {all = all} m) h = elim (begun_cases e (all ++ before) b h) [
    | inl k ↦ inl (begins_more e (one ++ before) b k)
    | inr k ↦ elim (begun_of_either b m k) [ inl j ↦ inl (begun_more e (one ++ before) b j) | inr j ↦ inr j ]
  ]
  begun_of_either b (of_other e {other = other} {all = all} m) h = elim (begun_cases e (all ++ before) b h) [
    | inl k ↦ inr (begins_more e (other ++ before) b k)
    | inr k ↦ elim (begun_of_either b m k) [ inl j ↦ inl j | inr j ↦ inr (begun_more e (other ++ before) b j) ]
  ]

-- ---- parts

-- whoever began where fewer did also began where more did
begins_at_more : (step : Step) (g : ℕ) (p q : Name → Bool) → ((c : Name) → p c ≡ true → q c ≡ true) → begins_at step g p ≡ true
    → begins_at step g q ≡ true
begins_at_more (steps.NestedTop b) g p q f h = f b h
begins_at_more (steps.Arms b kinds) g p q f h = f b h
begins_at_more _ g p q f h = h

began_at_part : (g : ℕ) (before : List Event) {few more : List Event} → IsPartOf few more → (b : Name) → began_at g b (few ++ before) ≡ true
    → began_at g b (more ++ before) ≡ true
began_at_part g before none b h = h
began_at_part g before (both e {own = few} {seen = more} part) b h =
    elim
    (or_cases (begins e b && begins_at e.step g (λ c. began_at g c (few ++ before))) (began_at g b (few ++ before)) h) [
      | inl k ↦
          let (its, there) = and_parts (begins e b) (begins_at e.step g (λ c. began_at g c (few ++ before))) k in
          or_left (begins e b && begins_at e.step g (λ c. began_at g c (more ++ before))) (began_at g b (more ++ before))
          (and_from (begins e b) (begins_at e.step g (λ c. began_at g c (more ++ before))) its
          (begins_at_more e.step g (λ c. began_at g c (few ++ before)) (λ c. began_at g c (more ++ before)) (began_at_part g before part) there))
      | inr k ↦
          or_right (begins e b && begins_at e.step g (λ c. began_at g c (more ++ before))) (began_at g b (more ++ before))
          (began_at_part g before part b k)
    ]
began_at_part g before (beside e {seen = more} part) b h =
    or_right (begins e b && begins_at e.step g (λ c. began_at g c (more ++ before))) (began_at g b (more ++ before)) (began_at_part g before part b h)

committed_part : (a : Name) (before : List Event) {few more : List Event} → IsPartOf few more → is_committed a (few ++ before) ≡ true
    → is_committed a (more ++ before) ≡ true
committed_part a before part h = any_in_part (λ e. step_commits e.step a) (part_behind before part) h

aborted_part : (a : Name) (before : List Event) {few more : List Event} → IsPartOf few more → is_aborted a (few ++ before) ≡ true
    → is_aborted a (more ++ before) ≡ true
aborted_part a before part h = any_in_part (λ e. step_aborts e.step a) (part_behind before part) h

ended_part : (a : Name) (before : List Event) {few more : List Event} → IsPartOf few more → is_ended a (few ++ before) ≡ true
    → is_ended a (more ++ before) ≡ true
ended_part a before {few = few} {more = more} part h = elim (or_cases (is_committed a (few ++ before)) (is_aborted a (few ++ before)) h) [
  | inl k ↦ or_left (is_committed a (more ++ before)) (is_aborted a (more ++ before)) (committed_part a before part k)
  | inr k ↦ or_right (is_committed a (more ++ before)) (is_aborted a (more ++ before)) (aborted_part a before part k)
]

-- a step tells of an action that has ended, unless the guardian was told
tells_more : (step : Step) (g : ℕ) (b : Name) (ended more : Bool) → (ended ≡ true → more ≡ true) → step_tells step g b false ended ≡ true
    → step_tells step g b false more ≡ true
tells_more (steps.Tell h a) g b ended more f k = k
tells_more (steps.Prepare h t) g b ended more f k =
    let (at, rest) = and_parts _ _ k in
    let (below, ends) = and_parts _ _ rest in
    and_from _ _ at (and_from _ _ below (and_from _ _ (f (and_parts _ _ ends).0) (and_parts _ _ ends).1))
tells_more _ g b ended more f k = absurd (false≢true k)

told_more : (step : Step) (g : ℕ) (b : Name) (told ended told_of_more ended_of_more : Bool) → (told ≡ true → told_of_more ≡ true)
    → (ended ≡ true → ended_of_more ≡ true) → told || step_tells step g b told ended ≡ true
    → told_of_more || step_tells step g b told_of_more ended_of_more ≡ true
told_more step g b told ended true ended_of_more f e h = refl
told_more step g b true ended false ended_of_more f e h = absurd (false≢true (f refl))
told_more step g b false ended false ended_of_more f e h = tells_more step g b ended ended_of_more e h

module _ (sees : Sees) (mine : Step → Bool) (x : OwnRun) (g : ℕ) (no_crash : (step : Step) → mine step ≡ true → step_crashes step g ≡ false) where
  told_part : (b : Name) {few more : List Event} → IsPartOf few more → AreOwn sees mine x more → told_since_crash g b (few ++ x.past) ≡ true
      → told_since_crash g b (more ++ x.past) ≡ true
  told_part b none own h = h
  told_part b (both e {own = few} {seen = more} part) own h =
      let (stands, told) = and_parts _ _ h in
      and_from _ _ stands
      (told_more e.step g b (told_since_crash g b (few ++ x.past)) (is_ended b (few ++ x.past)) (told_since_crash g b (more ++ x.past))
      (is_ended b (more ++ x.past)) (told_part b part own.3) (ended_part b x.past part) told)
  told_part b (beside e {seen = more} part) own h =
      and_from _ _ (not_from_false _ (no_crash e.step own.0)) (or_left _ _ (told_part b part own.3 h))

-- ---- arms that were joined

-- events of both, each of a kind by the arm that it is of
pub own_merge : (sees : Sees) (p q mine : Step → Bool) → ((s : Step) → p s ≡ true → mine s ≡ true) → ((s : Step) → q s ≡ true → mine s ≡ true) → (x y : OwnRun)
    {one other all : List Event} → IsMerge one other all → AreOwn sees any_step x all → AreOwn sees p y one → AreOwn sees q y other
    → AreOwn sees mine x all
own_merge sees p q mine f k x y of_neither own a b = tt
own_merge sees p q mine f k x y (of_one e m) own a b = (f e.step a.0, own.1, own.2, own_merge sees p q mine f k x y m own.3 a.3 b)
own_merge sees p q mine f k x y (of_other e m) own a b = (k e.step b.0, own.1, own.2, own_merge sees p q mine f k x y m own.3 a b.3)

module _ {sees : Sees} where
  -- the events of a run that went on are known by its end
  pub own_at : (p : Step → Bool) (x y : OwnRun) (later : List Event) → Goes sees p x y → y.past ≡ later ++ x.past → AreOwn sees p x later
  own_at p x y later a e = subst (AreOwn sees p x) (append_cancel_right a.later later x.past (sym a.past ∙ e)) a.own

  module _ (begun : OwnRun) (since : List (List Event)) (one other new : OwnRun) (j : AreJoined sees begun since one other new) where
    abbrev start : OwnRun
    start = started begun since

    module _ (p q mine : Step → Bool) (f : (s : Step) → p s ≡ true → mine s ≡ true) (k : (s : Step) → q s ≡ true → mine s ≡ true)
        (a : Goes sees p start one) (b : Goes sees q start other) where
      -- both went on by steps of a kind, and so did the caller
      unfoldable pub joined_goes : Goes sees mine begun new
      joined_goes = record {
        lists = j.of_both.lists;
        since = j.of_both.since;
        later = j.of_both.later;
        past = j.of_both.past;
        own =
            own_merge sees p q mine f k begun start j.merge j.of_both.own (own_at p start one j.of_one.later a j.of_one.past)
            (own_at q start other j.of_other.later b j.of_other.past);
      }

    pub any_joined : (p : Event → Bool) → list_any p new.past ≡ true → (list_any p one.past ≡ true) ⊎ (list_any p other.past ≡ true)
    any_joined p h =
        elim (any_of_either begun.past p j.merge (subst (λ past. list_any p past ≡ true) j.of_both.past h)) [
          | inl k ↦ inl (subst (λ past. list_any p past ≡ true) (sym j.of_one.past) k)
          | inr k ↦ inr (subst (λ past. list_any p past ≡ true) (sym j.of_other.past) k)
        ]

    pub begun_joined : (b : Name) → is_begun b new.past ≡ true → (is_begun b one.past ≡ true) ⊎ (is_begun b other.past ≡ true)
    begun_joined b h =
        elim (begun_of_either begun.past b j.merge (subst (λ past. is_begun b past ≡ true) j.of_both.past h)) [
          | inl k ↦ inl (subst (λ past. is_begun b past ≡ true) (sym j.of_one.past) k)
          | inr k ↦ inr (subst (λ past. is_begun b past ≡ true) (sym j.of_other.past) k)
        ]

  -- an arm's run is a part of the caller's
  module _ (begun : OwnRun) (since : List (List Event)) (arm new : OwnRun) (own : Goes sees any_step (started begun since) arm)
      (all : Goes sees any_step begun new) (part : IsPartOf own.later all.later) where
    pub committed_there : (a : Name) → is_committed a arm.past ≡ true → is_committed a new.past ≡ true
    committed_there a h =
        subst (λ past. is_committed a past ≡ true) (sym all.past)
        (committed_part a begun.past part (subst (λ past. is_committed a past ≡ true) own.past h))

    pub ended_there : (a : Name) → is_ended a arm.past ≡ true → is_ended a new.past ≡ true
    ended_there a h =
        subst (λ past. is_ended a past ≡ true) (sym all.past) (ended_part a begun.past part (subst (λ past. is_ended a past ≡ true) own.past h))

    pub began_at_there : (g : ℕ) (b : Name) → began_at g b arm.past ≡ true → began_at g b new.past ≡ true
    began_at_there g b h =
        subst (λ past. began_at g b past ≡ true) (sym all.past)
        (began_at_part g begun.past part b (subst (λ past. began_at g b past ≡ true) own.past h))

    pub began_there : (t : Name) → Began t (started begun since) arm → Began t begun new
    began_there t b = record {
      number = b.number;
      named = b.named;
      recent = all.later;
      parts = all.past;
      begun =
          begun_in_part t part
          (subst (λ recent. is_begun t recent ≡ true) (append_cancel_right b.recent own.later begun.past (sym b.parts ∙ own.past)) b.begun);
    }

    module _ (mine : Step → Bool) (no_crash : (g : ℕ) (step : Step) → mine step ≡ true → step_crashes step g ≡ false) (goes : Goes sees mine begun new) where
      pub told_there : (g : ℕ) (b : Name) → told_since_crash g b arm.past ≡ true → told_since_crash g b new.past ≡ true
      told_there g b h =
          subst (λ past. told_since_crash g b past ≡ true) (sym all.past)
          (told_part sees mine begun g (no_crash g) b part (own_at mine begun new all.later goes all.past)
          (subst (λ past. told_since_crash g b past ≡ true) own.past h))

      pub settled_there : (b : Name) → IsSettled b arm → IsSettled b new
      settled_there b h = record {
        ended = ended_there b h.ended;
        home = h.home;
        there = began_at_there h.home b h.there;
        told = told_there h.home b h.told;
      }
