-- What calls of stores leave, and what a stop leaves.
use Rattle.std.proofs.Common.{◌≡◌, ◌≢◌, ◌⊎◌, inl, inr, List, [], ◌∷◌, ◌++◌, map as each, Option, Some, Result, Ok, Err, OnOk, IfErr, IsErrAnd, refl, sym, ap, subst, ◌∙◌}
use Rattle.std.specs.List.{AllZip}
use Rattle.std.proofs.lemmas.List.{map-append}
use Rattle.stable_store.specs.Calls.{Changes, HasCounted, IsTrusted, Makes, View}
use Rattle.stable_store.specs.Stored.{Stored}
use Rattle.stable_store.specs.declared.fault.StoreFault.{StoreFault}
use Rattle.store_recovery.specs.Settling.{bases_then, contents}
use Rattle.store_recovery.specs.Steps.{Called, GoesOn, IsPromised, KeepsBases, KeepsItself, LeavesBases, NoneHasCounted, OneHasCounted}
use Rattle.store_recovery.specs.declared.refused.Refused.{Refused}
use Rattle.store_recovery.specs.declared.refused.Refused.TheVariants.{Memory}
use Rattle.store_recovery.proofs.Places.{zip_about, zip_among, zip_but_one, zip_then, zip_three, zip_with_itself}

-- a call leaves the content before it or the one after it
pub either_content : {T : Type 0} (r : Result T StoreFault) (before after now : Stored) → Changes before after now r → (now ≡ before) ⊎ (now ≡ after)
either_content (Ok x) before after now is = inr is
either_content (Err e) before after now is = inl is

-- an error of a call
pub error_is : {T : Type 0} (r : Result T Refused) (e : Refused) → IsErrAnd r (λ x. x ≡ e) → r ≡ Err e
error_is (Ok x) e h = absurd h
error_is (Err x) e h = ap (λ y. Err y) h

pub each_among : {A B : Type 0} (f : A → B) (xs : List A) (x : A) (ys : List A) → each f (xs ++ x ∷ ys) ≡ each f xs ++ f x ∷ each f ys
each_among f xs x ys = map-append f xs (x ∷ ys)

-- what can be trusted after a call could be before
pub trusted_before : {T : Type 0} (old new : View) (excuse : Type 0) (after : Stored) (r : Result T StoreFault) → Makes old new excuse after r
    → IsTrusted new → IsTrusted old
trusted_before old new excuse after r makes trusted = record { known = sym makes.known ∙ trusted.known; honest = makes.honest trusted.honest }

module _ {S : Type 0} (seen : S → View) where
  -- ---- of stores that are as they were

  -- each leaves what it contains
  all_left : (stores : List S) (left : List (Option Stored)) → AllZip (IsPromised seen) stores stores
      → AllZip (λ s found. (seen s).may_leave found) stores left → left ≡ each (λ s. Some s) (contents seen stores)
  all_left [] [] promised may = refl
  all_left [] (l ∷ ls) promised may = absurd may
  all_left (s ∷ ss) [] promised may = absurd may
  all_left (s ∷ ss) (l ∷ ls) promised may =
      λ i. promised.0.rested promised.0.trusted promised.0.up l may.0 i ∷ all_left ss ls promised.1 may.1 i

  pub stay_so : (stores : List S) → KeepsBases seen stores stores
  stay_so stores promised left may =
      record { stores = contents seen stores; found = all_left stores left promised may; bases = refl }

  pub itself : (s : S) → KeepsItself seen s s
  itself s = record { decided = refl; count = refl; next_top = refl; holds = refl; trusted = λ trusted. trusted; rests = λ rests. rests }

  pub goes_itself : (s : S) → GoesOn seen s s
  goes_itself s = record { failures = refl; trusted = λ trusted. trusted; up = λ _ up. up; rests = λ rests. rests }

  -- ---- one call of one store

  pub goes_on : {T : Type 0} (store made : S) (excuse : Type 0) (after : Stored) (x : T) → Makes {T = T} (seen store) (seen made) excuse after (Ok x)
      → GoesOn seen store made
  goes_on store made excuse after x makes = record {
    failures = makes.cause;
    trusted = trusted_before (seen store) (seen made) excuse after (Ok x) makes;
    up = λ trusted _. (makes.stands trusted).1;
    rests = λ _. makes.rest;
  }

  module _ (before : List S) (store made : S) (behind : List S) where
    abbrev with_content : Stored → List Stored
    with_content s = contents seen before ++ s ∷ contents seen behind

    pub contents_among : (s : S) → contents seen (before ++ s ∷ behind) ≡ with_content (seen s).content
    contents_among s = each_among (λ t. (seen t).content) before s behind

    -- a stop leaves the content before the call, or the one after it
    pub stop_at : {T : Type 0} (excuse : Type 0) (after : Stored) (r : Result T StoreFault) → Makes {T = T} (seen store) (seen made) excuse after r
        → bases_then (with_content after) ≡ bases_then (contents seen (before ++ store ∷ behind))
        → KeepsBases seen (before ++ store ∷ behind) (before ++ made ∷ behind)
    stop_at excuse after r makes same promised left may =
        let p = zip_among (IsPromised seen) before store made behind promised in
        let a = zip_about (λ s found. (seen s).may_leave found) before made behind left may in
        let at : (s : Stored) → a.here ≡ Some s → bases_then (with_content s) ≡ bases_then (contents seen (before ++ store ∷ behind)) → LeavesBases seen (before ++ store ∷ behind) left =
        λ s is bases. record {
          stores = with_content s;
          found =
              a.are ∙ (λ i. all_left before a.before p.0 a.all_before i ++ is i ∷ all_left behind a.behind p.2 a.all_behind i)
              ∙ sym (each_among (λ t. Some t) (contents seen before) s (contents seen behind));
          bases = bases;
        } in
        elim (makes.stop p.1.trusted p.1.up a.here a.at) [
          | inl is ↦ at (seen store).content is (ap bases_then (sym (contents_among store)))
          | inr is ↦ at after is same
        ]

  pub one_counts : (before : List S) (store made : S) (behind : List S) → HasCounted (seen store).failures (seen made).failures
      → OneHasCounted seen (before ++ store ∷ behind) (before ++ made ∷ behind)
  one_counts [] store made behind counts = inl counts
  one_counts (s ∷ ss) store made behind counts = inr (one_counts ss store made behind counts)

  -- as many failures were counted
  abbrev SameFailures : S → S → Type 0
  SameFailures old new = (seen new).failures ≡ (seen old).failures

  pub none_counts : (before : List S) (store made : S) (behind : List S) → (seen made).failures ≡ (seen store).failures
      → NoneHasCounted seen (before ++ store ∷ behind) (before ++ made ∷ behind)
  none_counts before store made behind same = zip_but_one SameFailures (λ s. refl) before store made behind same

  -- ---- calls in turn

  pub none_on : (old mid new : List S) → AllZip (GoesOn seen) old mid → NoneHasCounted seen mid new → NoneHasCounted seen old new
  none_on = zip_then (GoesOn seen) SameFailures SameFailures (λ x y z goes same. same ∙ goes.failures)

  pub none_of : (old new : List S) → AllZip (GoesOn seen) old new → NoneHasCounted seen old new
  none_of old new goes = none_on old new new goes (zip_with_itself SameFailures (λ s. refl) new)

  pub counts_on : (old mid new : List S) → AllZip (GoesOn seen) old mid → OneHasCounted seen mid new → OneHasCounted seen old new
  counts_on [] [] new goes one = absurd one
  counts_on [] (m ∷ ms) new goes one = absurd goes
  counts_on (o ∷ os) [] new goes one = absurd goes
  counts_on (o ∷ os) (m ∷ ms) [] goes one = absurd one
  counts_on (o ∷ os) (m ∷ ms) (n ∷ ns) goes (inl counts) = inl (subst (λ f. HasCounted f (seen n).failures) goes.0.failures counts)
  counts_on (o ∷ os) (m ∷ ms) (n ∷ ns) goes (inr one) = inr (counts_on os ms ns goes.1 one)

  goes_then : (x y z : S) → GoesOn seen x y → GoesOn seen y z → GoesOn seen x z
  goes_then x y z f g = record {
    failures = g.failures ∙ f.failures;
    trusted = λ trusted. f.trusted (g.trusted trusted);
    up = λ trusted up. g.up trusted (f.up (g.trusted trusted) up);
    rests = λ rests. g.rests (f.rests rests);
  }

  pub keeps_then : (x y z : S) → KeepsItself seen x y → KeepsItself seen y z → KeepsItself seen x z
  keeps_then x y z f g = record {
    decided = g.decided ∙ f.decided;
    count = g.count ∙ f.count;
    next_top = g.next_top ∙ f.next_top;
    holds = g.holds ∙ f.holds;
    trusted = λ trusted. f.trusted (g.trusted trusted);
    rests = λ rests. g.rests (f.rests rests);
  }

  pub goes_all_then : (old mid new : List S) → AllZip (GoesOn seen) old mid → AllZip (GoesOn seen) mid new → AllZip (GoesOn seen) old new
  goes_all_then = zip_then (GoesOn seen) (GoesOn seen) (GoesOn seen) goes_then

  -- a stop in a later call
  pub stops_then : (old mid new : List S) → AllZip (GoesOn seen) old mid → AllZip (λ m n. IsTrusted (seen n) → IsTrusted (seen m)) mid new
      → bases_then (contents seen mid) ≡ bases_then (contents seen old) → KeepsBases seen mid new → KeepsBases seen old new
  stops_then old mid new goes trusted same stops promised left may =
      let now : AllZip (IsPromised seen) mid new =
      zip_three (GoesOn seen) (λ m n. IsTrusted (seen n) → IsTrusted (seen m)) (IsPromised seen) (IsPromised seen)
      (λ o m n g t p. record { trusted = p.trusted; up = g.up (t p.trusted) p.up; rested = g.rests p.rested }) old mid new goes trusted promised in
      let leaves = stops now left may in
      record { stores = leaves.stores; found = leaves.found; bases = leaves.bases ∙ same }

  -- calls after calls none of which was refused
  pub called_then : {T : Type 0} (R Q P : S → S → Type 0) → ((x y z : S) → R x y → Q y z → P x z) → ((y z : S) → Q y z → IsTrusted (seen z) → IsTrusted (seen y))
      → (old mid new : List S) (r : Result T Refused) → AllZip R old mid → AllZip (GoesOn seen) old mid → bases_then (contents seen mid) ≡ bases_then (contents seen old)
      → Called seen Q mid new r → Called seen P old new r
  called_then R Q P comp back old mid new r kept goes same called = record {
    kept = zip_then R Q P comp old mid new kept called.kept;
    goes = on_ok r called.goes;
    stops = stops_then old mid new goes (mapped mid new called.kept) same called.stops;
    counted = on_err r called.counted;
    memory = on_memory r called.memory;
  }
    where
      on_ok : {T : Type 0} (r : Result T Refused) → OnOk r (AllZip (GoesOn seen) mid new) → OnOk r (AllZip (GoesOn seen) old new)
      on_ok (Ok x) h = goes_all_then old mid new goes h
      on_ok (Err e) h = tt

      on_err : {T : Type 0} (r : Result T Refused) → IfErr r (λ why. why ≢ Memory → OneHasCounted seen mid new) → IfErr r (λ why. why ≢ Memory → OneHasCounted seen old new)
      on_err (Ok x) h = tt
      on_err (Err e) h = λ other. counts_on old mid new goes (h other)

      on_memory : {T : Type 0} (r : Result T Refused) → IfErr r (λ why. why ≡ Memory → NoneHasCounted seen mid new)
          → IfErr r (λ why. why ≡ Memory → NoneHasCounted seen old new)
      on_memory (Ok x) h = tt
      on_memory (Err e) h = λ is. none_on old mid new goes (h is)

      mapped : (ms ns : List S) → AllZip Q ms ns → AllZip (λ m n. IsTrusted (seen n) → IsTrusted (seen m)) ms ns
      mapped [] [] all = tt
      mapped [] (n ∷ ns) all = absurd all
      mapped (m ∷ ms) [] all = absurd all
      mapped (m ∷ ms) (n ∷ ns) all = (back m n all.0, mapped ms ns all.1)
