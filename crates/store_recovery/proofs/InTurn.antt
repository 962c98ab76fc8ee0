-- Calls of stores in turn, place by place.
use Rattle.std.proofs.Common.{◌≡◌, ◌≢◌, inl, inr, ℕ, zero, suc, ◌+◌, ◌<◌, Bool, true, false, true≢false, ◌&&◌, List, [], ◌∷◌, ◌++◌, map as each, fold, Result, Ok, Err, IfErr, length, set, get_or, take, drop, if◌then◌else◌, refl, sym, ap, ap₂, subst, subst₂, ◌∙◌, arith, ◌≤◌, take_all, drop_of_length-le, append-nil}
use Rattle.std.specs.List.{AllByRecursion, AllZip, list_all}
use Rattle.std.specs.FinMap as map
use Rattle.std.proofs.lemmas.List.{get_or-map, length-map, map-set, set-get_or, set_split, take_more_set}
use Rattle.std.proofs.lemmas.List.Edits.{map_over_more}
use Rattle.std.proofs.lemmas.List.Elements.{length_all_zip}
use Rattle.stable_store.specs.Calls.{HasCounted, IsExcused, IsTrusted, Makes, Rests, View}
use Rattle.stable_store.specs.Stored.{Record, Stored, after_bump, after_discard, after_install}
use Rattle.stable_store.specs.declared.fault.StoreFault.{StoreFault}
use Rattle.stable_store.specs.declared.fault.StoreFault.TheVariants as call
use Rattle.store_recovery.specs.Settling.{IsSettledInPart, bases_then, contents, is_decided, settled}
use Rattle.store_recovery.specs.Steps.{Called, GoesOn, HasFirst, HasNoRecord, IsBumpedAtMost, KeepsBases, KeepsItself, NoneHasCounted, OneHasCounted, OpensItself, SettlesOne, all_hold}
use Rattle.store_recovery.specs.Faults.{refused_by}
use Rattle.store_recovery.specs.declared.refused.Refused.{Refused}
use Rattle.store_recovery.specs.declared.refused.Refused.TheVariants.{Memory, Stable, NotOurs}
use Rattle.store_recovery.proofs.Places.{about, rest_less, same_there, zip_but_one, zip_put, zip_then, zip_with_itself}
use Rattle.store_recovery.proofs.InPart.{all_none_in_part, in_part_then}
use Rattle.store_recovery.proofs.Promised.{go_on, moves_by}
use Rattle.store_recovery.proofs.Entries.{first_removed}
use Rattle.store_recovery.proofs.Settled.{by, one_less, settled_alike, settled_with}
use Rattle.store_recovery.proofs.Stops.{called_then, contents_among, each_among, goes_all_then, goes_itself, goes_on, itself, keeps_then, none_counts, one_counts, stay_so, stop_at, stops_then, trusted_before}

-- ---- a recovery counted changes nothing of what is settled

bumped_by : (b : Bool) (top : ℕ) (s : Stored)
    → (if b then after_install top (after_bump s) else after_discard top (after_bump s)) ≡ after_bump (if b then after_install top s else after_discard top s)
bumped_by true top s = refl
bumped_by false top s = refl

bumped_fold : (d : ℕ → ℕ → Bool) (es : List (ℕ × Record)) (s : Stored) → fold (λ t e. by d e t) (after_bump s) es ≡ after_bump (fold (λ t e. by d e t) s es)
bumped_fold d [] s = refl
bumped_fold d (e ∷ es) s = ap (λ t. fold (λ t e. by d e t) t es) (bumped_by (d e.1.home e.0) e.0 s) ∙ bumped_fold d es (by d e s)

bumped_base : (d : ℕ → ℕ → Bool) (s : Stored) → (settled_with d (after_bump s)).base ≡ (settled_with d s).base
bumped_base d s = ap (λ t. t.base) (bumped_fold d (map.entries s.prepared) s)

base_split : (f : Stored → Stored) (before : List Stored) (t : Stored) (behind : List Stored)
    → each (λ s. s.base) (each f (before ++ t ∷ behind)) ≡ each (λ s. s.base) (each f before) ++ (f t).base ∷ each (λ s. s.base) (each f behind)
base_split f before t behind =
    ap (λ ss. each (λ s. s.base) ss) (each_among f before t behind) ∙ each_among (λ s. s.base) (each f before) (f t) (each f behind)

pub bumped_bases : (before : List Stored) (s : Stored) (behind : List Stored) → bases_then (before ++ after_bump s ∷ behind) ≡ bases_then (before ++ s ∷ behind)
bumped_bases before s behind =
    let d = is_decided (before ++ s ∷ behind) in
    let f = λ (t : Stored). settled_with d t in
    ap (λ ss. each (λ t. t.base) ss) (settled_alike (before ++ s ∷ behind) (before ++ after_bump s ∷ behind)
    (each_among (λ t. t.decided) before (after_bump s) behind ∙ sym (each_among (λ t. t.decided) before s behind)))
    ∙ base_split f before (after_bump s) behind
    ∙ ap (λ b. each (λ t. t.base) (each f before) ++ b ∷ each (λ t. t.base) (each f behind)) (bumped_base d s)
    ∙ sym (base_split f before s behind)

-- ---- at a place

each_append : {X : Type 0} (P : X → Type 0) (xs ys : List X) → AllByRecursion P xs → AllByRecursion P ys → AllByRecursion P (xs ++ ys)
each_append P [] ys a b = b
each_append P (x ∷ xs) ys a b = (a.0, each_append P xs ys a.1 b)

both_hold : (a b : Bool) → (a && b) ≡ true → (a ≡ true) × (b ≡ true)
both_hold true b is = (refl, is)
both_hold false b is = absurd (true≢false (sym is))

pub holds_at : {A : Type 0} (p : A → Bool) (xs : List A) (i : ℕ) (d : A) → i < length xs → list_all p xs ≡ true → p (get_or xs i d) ≡ true
holds_at p [] i d within all = absurd (omega arith)
holds_at p (x ∷ xs) zero d within all = (both_hold (p x) (list_all p xs) all).0
holds_at p (x ∷ xs) (suc i) d within all = holds_at p xs i d (omega arith) (both_hold (p x) (list_all p xs) all).1

-- the counted fault
counted_by : (excuse : Type 0) (before now : ℕ) (fault : StoreFault) → IsExcused excuse before now fault → refused_by fault ≢ Memory → HasCounted before now
counted_by excuse before now call.Memory cause other = absurd (other refl)
counted_by excuse before now call.Failed cause other = cause.1
counted_by excuse before now call.NotOurs cause other = cause

-- memory that ran out is not counted
uncounted_by : (excuse : Type 0) (before now : ℕ) (fault : StoreFault) → IsExcused excuse before now fault → refused_by fault ≡ Memory → now ≡ before
uncounted_by excuse before now call.Memory cause is = cause
uncounted_by excuse before now call.Failed cause is = absurd cc
uncounted_by excuse before now call.NotOurs cause is = absurd cc

-- what holds of an error
pub error_by : {U : Type 0} (q : Result U Refused) (why : Refused) (P : Refused → Type 0) → q ≡ Err why → P why → IfErr q P
error_by {U} q why P is h = subst (λ (r : Result U Refused). IfErr r P) (sym is) h

-- a fault that is not `NotOurs`
pub never_ours : {U : Type 0} (fault : StoreFault) (q : Result U Refused) → q ≡ Err (refused_by fault) → ¬ (fault ≡ call.NotOurs)
    → IfErr q (λ why. why ≢ NotOurs)
never_ours fault q is ours = error_by q (refused_by fault) (λ why. why ≢ NotOurs) is (by_fault fault ours)
  where
    by_fault : (fault : StoreFault) → ¬ (fault ≡ call.NotOurs) → refused_by fault ≢ NotOurs
    by_fault call.Memory ours = λ is. absurd cc
    by_fault call.Failed ours = λ is. absurd cc
    by_fault call.NotOurs ours = λ _. ours refl

module _ {S : Type 0} (seen : S → View) where
  -- calls none of which was refused
  pub called_well : {T : Type 0} (Keeps : S → S → Type 0) (old new : List S) (x : T) → AllZip Keeps old new → AllZip (GoesOn seen) old new
      → bases_then (contents seen new) ≡ bases_then (contents seen old) → Called seen Keeps old new (Ok x)
  called_well Keeps old new x kept goes same =
      record { kept = kept; goes = goes; stops = stops_then seen old new new goes (with_itself new) same (stay_so seen new); counted = tt; memory = tt }
    where
      with_itself : (ss : List S) → AllZip (λ m n. IsTrusted (seen n) → IsTrusted (seen m)) ss ss
      with_itself [] = tt
      with_itself (s ∷ ss) = (λ trusted. trusted, with_itself ss)

  -- ---- what a call leaves of its store

  pub keeps_by : {T : Type 0} (old new : S) (excuse : Type 0) (after : Stored) (r : Result T StoreFault) → Makes (seen old) (seen new) excuse after r
      → (seen new).content ≡ (seen old).content → KeepsItself seen old new
  keeps_by old new excuse after r makes same = record {
    decided = ap (λ s. s.decided) same;
    count = ap (λ s. s.count) same;
    next_top = ap (λ s. s.next_top) same;
    holds = makes.holds;
    trusted = trusted_before (seen old) (seen new) excuse after r makes;
    rests = λ _. makes.rest;
  }

  pub opens_by : {T : Type 0} (old new : S) (excuse : Type 0) (after : Stored) (r : Result T StoreFault) → Makes (seen old) (seen new) excuse after r
      → (seen new).content ≡ after_bump (seen old).content → OpensItself seen old new
  opens_by old new excuse after r makes one_more = record {
    decided = ap (λ s. s.decided) one_more;
    count = inr (ap (λ s. s.count) one_more);
    next_top = ap (λ s. s.next_top) one_more;
    holds = makes.holds;
    trusted = trusted_before (seen old) (seen new) excuse after r makes;
    rests = λ _. makes.rest;
  }

  pub opens_itself : (s : S) → OpensItself seen s s
  opens_itself s = record { decided = refl; count = inl refl; next_top = refl; holds = refl; trusted = λ trusted. trusted; rests = λ rests. rests }

  pub opens_then : (x y z : S) → OpensItself seen x y → KeepsItself seen y z → OpensItself seen x z
  opens_then x y z f g = record {
    decided = g.decided ∙ f.decided;
    count = elim f.count [ inl same ↦ inl (g.count ∙ same) | inr more ↦ inr (g.count ∙ more) ];
    next_top = g.next_top ∙ f.next_top;
    holds = g.holds ∙ f.holds;
    trusted = λ trusted. f.trusted (g.trusted trusted);
    rests = λ rests. g.rests (f.rests rests);
  }

  pub keeps_opens : (x y z : S) → KeepsItself seen x y → OpensItself seen y z → OpensItself seen x z
  keeps_opens x y z f g = record {
    decided = g.decided ∙ f.decided;
    count = elim g.count [ inl same ↦ inl (same ∙ f.count) | inr more ↦ inr (more ∙ ap (λ n. n + 1) f.count) ];
    next_top = g.next_top ∙ f.next_top;
    holds = g.holds ∙ f.holds;
    trusted = λ trusted. f.trusted (g.trusted trusted);
    rests = λ rests. g.rests (f.rests rests);
  }

  -- ---- a call of the store at a place

  module _ (stores : List S) (i : ℕ) (d made : S) (within : i < length stores) where
    abbrev store : S
    store = get_or stores i d

    stores_are : stores ≡ take i stores ++ store ∷ drop (suc i) stores
    stores_are = about stores i d within

    put_are : set stores i made ≡ take i stores ++ made ∷ drop (suc i) stores
    put_are = set_split stores i made within

    pub same_put : (seen made).content ≡ (seen store).content → contents seen (set stores i made) ≡ contents seen stores
    same_put same =
        let f = λ (s : S). (seen s).content in
        map-set f stores i made ∙ ap (λ c. set (contents seen stores) i c) same ∙ sym (map-set f stores i store) ∙ ap (λ ss. contents seen ss) (set-get_or stores i d)

    pub bumped_put : (seen made).content ≡ after_bump (seen store).content → bases_then (contents seen (set stores i made)) ≡ bases_then (contents seen stores)
    bumped_put more =
        ap (λ ss. bases_then (contents seen ss)) put_are ∙ ap bases_then (contents_among seen (take i stores) store made (drop (suc i) stores) made)
        ∙ ap (λ c. bases_then (contents seen (take i stores) ++ c ∷ contents seen (drop (suc i) stores))) more
        ∙ bumped_bases (contents seen (take i stores)) (seen store).content (contents seen (drop (suc i) stores))
        ∙ ap bases_then (sym (contents_among seen (take i stores) store made (drop (suc i) stores) store))
        ∙ ap (λ ss. bases_then (contents seen ss)) (sym stores_are)

    -- a call that was refused
    pub refused_call : {T U : Type 0} (excuse : Type 0) (after : Stored) (fault : StoreFault) (q : Result U Refused)
        → Makes {T = T} (seen store) (seen made) excuse after (Err fault)
        → bases_then (contents seen (take i stores) ++ after ∷ contents seen (drop (suc i) stores)) ≡ bases_then (contents seen stores)
        → q ≡ Err (refused_by fault) → Called seen (KeepsItself seen) stores (set stores i made) q
    refused_call {T} {U} excuse after fault q makes same is =
        let before = take i stores in
        let behind = drop (suc i) stores in
        let refused : Result U Refused = Err (refused_by fault) in
        let failed : Called seen (KeepsItself seen) stores (set stores i made) refused = record {
          kept =
              subst₂ (λ a b. AllZip (KeepsItself seen) a b) (sym stores_are) (sym put_are)
              (zip_but_one (KeepsItself seen) (itself seen) before store made behind (keeps_by {T = T} store made excuse after (Err fault) makes makes.changes));
          goes = tt;
          stops =
              subst₂ (λ a b. KeepsBases seen a b) (sym stores_are) (sym put_are)
              (stop_at seen before store made behind {T = T} excuse after (Err fault) makes (same ∙ ap (λ ss. bases_then (contents seen ss)) stores_are));
          counted = λ other.
              subst₂ (λ a b. OneHasCounted seen a b) (sym stores_are) (sym put_are)
              (one_counts seen before store made behind (counted_by excuse (seen store).failures (seen made).failures fault makes.cause other));
          memory = λ out.
              subst₂ (λ a b. NoneHasCounted seen a b) (sym stores_are) (sym put_are)
              (none_counts seen before store made behind (uncounted_by excuse (seen store).failures (seen made).failures fault makes.cause out));
        } in
        subst (λ r. Called seen (KeepsItself seen) stores (set stores i made) r) (sym is) failed

    pub loads_same : bases_then (contents seen (take i stores) ++ (seen store).content ∷ contents seen (drop (suc i) stores)) ≡ bases_then (contents seen stores)
    loads_same = ap bases_then (sym (contents_among seen (take i stores) store made (drop (suc i) stores) store)) ∙ ap (λ ss. bases_then (contents seen ss)) (sym stores_are)

    pub bumps_same : bases_then (contents seen (take i stores) ++ after_bump (seen store).content ∷ contents seen (drop (suc i) stores)) ≡ bases_then (contents seen stores)
    bumps_same = bumped_bases (contents seen (take i stores)) (seen store).content (contents seen (drop (suc i) stores)) ∙ loads_same

  -- ---- a loop over the stores

  -- The stores before a place were read, and those that are left are as they were.
  pub record AreRead (old now : List S) (i : ℕ) : Type 0 where
    pub left : drop i now ≡ drop i old
    pub same : contents seen now ≡ contents seen old
    pub rest : AllByRecursion (λ s. Rests (seen s)) (take i now)
    pub kept : AllZip (KeepsItself seen) old now
    pub goes : AllZip (GoesOn seen) old now

  pub none_read : (stores : List S) → AreRead stores stores 0
  none_read stores =
      record { left = refl; same = refl; rest = tt; kept = zip_with_itself (KeepsItself seen) (itself seen) stores; goes = zip_with_itself (GoesOn seen) (goes_itself seen) stores }

  module _ (old now : List S) (i : ℕ) (d made : S) (within : i < length now) (a : AreRead old now i) where
    abbrev read : S
    read = get_or now i d

    within_old : i < length old
    within_old = let e = length_all_zip (KeepsItself seen) old now a.kept in omega (arith, e)

    read_is : read ≡ get_or old i d
    read_is = same_there old now i d a.left

    pub one_read : {T : Type 0} (excuse : Type 0) (x : T) → Makes {T = T} (seen read) (seen made) excuse (seen read).content (Ok x) → AreRead old (set now i made) (i + 1)
    one_read {T} excuse x makes = record {
      left = rest_less old now i made a.left;
      same = same_put now i d made within makes.changes ∙ a.same;
      rest =
          subst (λ ss. AllByRecursion (λ s. Rests (seen s)) ss) (sym (take_more_set now i made within))
          (each_append (λ s. Rests (seen s)) (take i now) (made ∷ []) a.rest (makes.rest, tt));
      kept =
          zip_put (KeepsItself seen) old now i d made within_old a.kept
          (subst (λ s. KeepsItself seen s made) read_is (keeps_by {T = T} read made excuse (seen read).content (Ok x) makes makes.changes));
      goes =
          zip_put (GoesOn seen) old now i d made within_old a.goes
          (subst (λ s. GoesOn seen s made) read_is (goes_on seen {T = T} read made excuse (seen read).content x makes));
    }

    pub one_refused : {T U : Type 0} (excuse : Type 0) (fault : StoreFault) (q : Result U Refused)
        → Makes {T = T} (seen read) (seen made) excuse (seen read).content (Err fault) → q ≡ Err (refused_by fault)
        → Called seen (KeepsItself seen) old (set now i made) q
    one_refused {T} {U} excuse fault q makes is =
        called_then seen (KeepsItself seen) (KeepsItself seen) (KeepsItself seen) (keeps_then seen) (λ y z k. k.trusted) old now (set now i made) q a.kept a.goes
        (ap bases_then a.same)
        (refused_call now i d made within {T = T} {U = U} excuse (seen read).content fault q makes (loads_same now i d made within) is)

  pub all_read : (old now : List S) (i : ℕ) → AreRead old now i → Called seen {T = Unit {0}} (KeepsItself seen) old now (Ok tt)
  all_read old now i a = called_well (KeepsItself seen) old now tt a.kept a.goes (ap bases_then a.same)

  pub read_rest : (old now : List S) (i : ℕ) → length now ≤ i → AreRead old now i → AllByRecursion (λ s. Rests (seen s)) now
  read_rest old now i past a = subst (λ ss. AllByRecursion (λ s. Rests (seen s)) ss) (take_all i now past) a.rest

  pub same_refused : (old now : List S) (i : ℕ) (d made : S) → i < length now → AreRead old now i → (seen made).content ≡ (seen (get_or now i d)).content
      → contents seen (set now i made) ≡ contents seen old
  same_refused old now i d made within a same = same_put now i d made within same ∙ a.same

  same_records : (old new : S) → IsBumpedAtMost seen old new → (seen new).content.prepared ≡ (seen old).content.prepared
  same_records old new (inl same) = ap (λ c. c.prepared) same
  same_records old new (inr more) = ap (λ c. c.prepared) more

  none_still : (old now : List S) → AllZip (IsBumpedAtMost seen) old now → AllByRecursion HasNoRecord (contents seen old) → AllByRecursion HasNoRecord (contents seen now)
  none_still [] [] all none = tt
  none_still [] (n ∷ ns) all none = absurd all
  none_still (o ∷ os) [] all none = absurd all
  none_still (o ∷ os) (n ∷ ns) all none = (same_records o n all.0 ∙ none.0, none_still os ns all.1 none.1)

  -- A recovery was counted at the stores before a place, and those that are left are as they were.
  pub record AreCounted (old now : List S) (i : ℕ) : Type 0 where
    pub left : drop i now ≡ drop i old
    pub more : contents seen now ≡ each after_bump (take i (contents seen old)) ++ drop i (contents seen old)
    pub rest : AllByRecursion (λ s. Rests (seen s)) (take i now)
    pub bumped : AllZip (IsBumpedAtMost seen) old now
    pub bases : bases_then (contents seen now) ≡ bases_then (contents seen old)
    pub kept : AllZip (OpensItself seen) old now
    pub goes : AllZip (GoesOn seen) old now

  pub none_counted : (stores : List S) → AreCounted stores stores 0
  none_counted stores = record {
    left = refl;
    more = refl;
    rest = tt;
    bumped = zip_with_itself (IsBumpedAtMost seen) (λ s. inl refl) stores;
    bases = refl;
    kept = zip_with_itself (OpensItself seen) opens_itself stores;
    goes = zip_with_itself (GoesOn seen) (goes_itself seen) stores;
  }

  module _ (old now : List S) (i : ℕ) (d made : S) (within : i < length now) (a : AreCounted old now i) where
    abbrev bumped : S
    bumped = get_or now i d

    within_before : i < length old
    within_before = let e = length_all_zip (OpensItself seen) old now a.kept in omega (arith, e)

    bumped_is : bumped ≡ get_or old i d
    bumped_is = same_there old now i d a.left

    one_more : (seen made).content ≡ after_bump (seen bumped).content
        → contents seen (set now i made) ≡ each after_bump (take (i + 1) (contents seen old)) ++ drop (i + 1) (contents seen old)
    one_more more =
        let f = λ (s : S). (seen s).content in
        let c = (seen bumped).content in
        let long = length-map old f in
        map-set f now i made ∙ ap (λ x. set (contents seen now) i x) more
        ∙ map_over_more after_bump (contents seen old) (contents seen now) i c (omega (arith, long, within_before)) a.more (sym (get_or-map f now i d c within))

    pub one_counted : {T : Type 0} (excuse : Type 0) (x : T) → Makes {T = T} (seen bumped) (seen made) excuse (after_bump (seen bumped).content) (Ok x)
        → AreCounted old (set now i made) (i + 1)
    one_counted {T} excuse x makes = record {
      left = rest_less old now i made a.left;
      more = one_more makes.changes;
      rest =
          subst (λ ss. AllByRecursion (λ s. Rests (seen s)) ss) (sym (take_more_set now i made within))
          (each_append (λ s. Rests (seen s)) (take i now) (made ∷ []) a.rest (makes.rest, tt));
      bumped =
          zip_put (IsBumpedAtMost seen) old now i d made within_before a.bumped (subst (λ s. IsBumpedAtMost seen s made) bumped_is (inr makes.changes));
      bases = bumped_put now i d made within makes.changes ∙ a.bases;
      kept =
          zip_put (OpensItself seen) old now i d made within_before a.kept
          (subst (λ s. OpensItself seen s made) bumped_is (opens_by {T = T} bumped made excuse (after_bump (seen bumped).content) (Ok x) makes makes.changes));
      goes =
          zip_put (GoesOn seen) old now i d made within_before a.goes
          (subst (λ s. GoesOn seen s made) bumped_is (goes_on seen {T = T} bumped made excuse (after_bump (seen bumped).content) x makes));
    }

    pub bump_refused : {T U : Type 0} (excuse : Type 0) (fault : StoreFault) (q : Result U Refused)
        → Makes {T = T} (seen bumped) (seen made) excuse (after_bump (seen bumped).content) (Err fault) → q ≡ Err (refused_by fault)
        → Called seen (OpensItself seen) old (set now i made) q
    bump_refused {T} {U} excuse fault q makes is =
        called_then seen (OpensItself seen) (KeepsItself seen) (OpensItself seen) opens_then (λ y z k. k.trusted) old now (set now i made) q a.kept a.goes a.bases
        (refused_call now i d made within {T = T} {U = U} excuse (after_bump (seen bumped).content) fault q makes (bumps_same now i d made within) is)

    pub none_refused : (seen made).content ≡ (seen bumped).content → AllByRecursion HasNoRecord (contents seen old)
        → AllByRecursion HasNoRecord (contents seen (set now i made))
    none_refused same none =
        subst (λ cs. AllByRecursion HasNoRecord cs) (sym (same_put now i d made within same)) (none_still old now a.bumped none)

    pub bumped_refused : (seen made).content ≡ (seen bumped).content → AllZip (IsBumpedAtMost seen) old (set now i made)
    bumped_refused same = zip_put (IsBumpedAtMost seen) old now i d made within_before a.bumped (subst (λ s. IsBumpedAtMost seen s made) bumped_is (inl same))

    pub bases_refused : (seen made).content ≡ (seen bumped).content → bases_then (contents seen (set now i made)) ≡ bases_then (contents seen old)
    bases_refused same = ap bases_then (same_put now i d made within same) ∙ a.bases

    -- the store holds a content
    pub bumped_holds : all_hold seen old ≡ true → (seen bumped).holds_content ≡ true
    bumped_holds hold = ap (λ s. (seen s).holds_content) bumped_is ∙ holds_at (λ s. (seen s).holds_content) old i d within_before hold

  pub all_counted : (old now : List S) (i : ℕ) → AreCounted old now i → Called seen {T = Unit {0}} (OpensItself seen) old now (Ok tt)
  all_counted old now i a = called_well (OpensItself seen) old now tt a.kept a.goes a.bases

  pub still_none : (old now : List S) (i : ℕ) → AreCounted old now i → AllByRecursion HasNoRecord (contents seen old) → AllByRecursion HasNoRecord (contents seen now)
  still_none old now i a none = none_still old now a.bumped none

  pub all_rest : (old now : List S) (i : ℕ) → length now ≤ i → AreCounted old now i → AllByRecursion (λ s. Rests (seen s)) now
  all_rest old now i past a = subst (λ ss. AllByRecursion (λ s. Rests (seen s)) ss) (take_all i now past) a.rest

  pub all_more : (old now : List S) (i : ℕ) → length now ≤ i → AreCounted old now i → contents seen now ≡ each after_bump (contents seen old)
  all_more old now i past a =
      let e = length_all_zip (OpensItself seen) old now a.kept in
      let long = length-map old (λ s. (seen s).content) in
      a.more ∙ ap₂ (λ x y. each after_bump x ++ y) (take_all i (contents seen old) (omega (arith, e, long))) (drop_of_length-le (contents seen old) (omega (arith, e, long)))
      ∙ append-nil (each after_bump (contents seen old))

  -- All records so far were settled.
  pub record AreSettled (old now : List S) : Type 0 where
    pub settled : settled (contents seen now) ≡ settled (contents seen old)
    pub in_part : AllZip (IsSettledInPart (contents seen old)) (contents seen old) (contents seen now)
    pub kept : AllZip (KeepsItself seen) old now
    pub goes : AllZip (GoesOn seen) old now

  pub none_settled : (stores : List S) → AreSettled stores stores
  none_settled stores = record {
    settled = refl;
    in_part = all_none_in_part (contents seen stores) (contents seen stores);
    kept = zip_with_itself (KeepsItself seen) (itself seen) stores;
    goes = zip_with_itself (GoesOn seen) (goes_itself seen) stores;
  }

  same_bases_of : (old now : List S) → AreSettled old now → bases_then (contents seen now) ≡ bases_then (contents seen old)
  same_bases_of old now a = ap (λ stores. each (λ s. s.base) stores) a.settled

  pub hold_on : (old now : List S) → AllZip (KeepsItself seen) old now → all_hold seen now ≡ all_hold seen old
  hold_on [] [] all = refl
  hold_on [] (n ∷ ns) all = absurd all
  hold_on (o ∷ os) [] all = absurd all
  hold_on (o ∷ os) (n ∷ ns) all = ap₂ (λ a b. a && b) all.0.holds (hold_on os ns all.1)

  -- a call more, whatever it answered
  pub part_settled : (may_fail : S → S → Type 0) (old now new : List S) (one : Result Bool Refused) → AreSettled old now → SettlesOne seen may_fail now new one
      → AllZip (IsSettledInPart (contents seen old)) (contents seen old) (contents seen new)
  part_settled may_fail old now new one a settles = in_part_then seen old now new a.kept a.in_part (moves_by seen may_fail now new one settles)

  -- a call more that was not refused
  pub one_settled : (may_fail : S → S → Type 0) (old now new : List S) (one : Bool) → AreSettled old now → SettlesOne seen may_fail now new (Ok one)
      → settled (contents seen new) ≡ settled (contents seen now) → AllZip (KeepsItself seen) now new → AreSettled old new
  one_settled may_fail old now new one a settles same kept = record {
    settled = same ∙ a.settled;
    in_part = part_settled may_fail old now new (Ok one) a settles;
    kept = zip_then (KeepsItself seen) (KeepsItself seen) (KeepsItself seen) (keeps_then seen) old now new a.kept kept;
    goes = goes_all_then seen old now new a.goes (go_on_by one settles);
  }
    where
      go_on_by : (one : Bool) → SettlesOne seen may_fail now new (Ok one) → AllZip (GoesOn seen) now new
      go_on_by true k = go_on seen may_fail now new tt k
      go_on_by false k = subst (λ ss. AllZip (GoesOn seen) now ss) (sym k.0) (zip_with_itself (GoesOn seen) (goes_itself seen) now)

  pub all_settled : (old now : List S) → AreSettled old now → Called seen {T = Unit {0}} (KeepsItself seen) old now (Ok tt)
  all_settled old now a = called_well (KeepsItself seen) old now tt a.kept a.goes (same_bases_of old now a)

  -- a call more that was refused
  pub settle_refused : {U : Type 0} (old now new : List S) (why : Refused) (q : Result U Refused) → AreSettled old now → AllZip (KeepsItself seen) now new
      → KeepsBases seen now new → (why ≡ Stable → OneHasCounted seen now new) → (why ≡ Memory → NoneHasCounted seen now new) → why ≢ NotOurs → q ≡ Err why → Called seen (KeepsItself seen) old new q
  settle_refused {U} old now new why q a kept stops counted memory ours is =
      let refused : Result U Refused = Err why in
      let failed : Called seen (KeepsItself seen) now new refused = record { kept = kept; goes = tt; stops = stops; counted = λ other. counted (the_rest why other ours); memory = memory } in
      called_then seen (KeepsItself seen) (KeepsItself seen) (KeepsItself seen) (keeps_then seen) (λ y z k. k.trusted) old now new q a.kept a.goes
      (same_bases_of old now a) (subst (λ r. Called seen (KeepsItself seen) now new r) (sym is) failed)
    where
      the_rest : (why : Refused) → why ≢ Memory → why ≢ NotOurs → why ≡ Stable
      the_rest Memory other ours = absurd (other refl)
      the_rest Stable other ours = refl
      the_rest NotOurs other ours = absurd (ours refl)

-- ---- how many records are left

abbrev pub records_left : List Stored → ℕ
records_left [] = 0
records_left (s ∷ stores) = map.len s.prepared + records_left stores

less_here : (decided : ℕ → ℕ → Bool) (e : ℕ × Record) (s : Stored) → HasFirst s e → map.len (by decided e s).prepared + 1 ≡ map.len s.prepared
less_here decided e s first =
    let now = ap map.len (one_less decided e s) ∙ map.len-entries (map.remove s.prepared e.0) ∙ ap (λ es. length es) (first_removed s.prepared e first.0 first.1) in
    let was = map.len-entries s.prepared ∙ ap (λ es. length es) first.1 in
    omega (arith, now, was)

less_among : (before : List Stored) (s t : Stored) (behind : List Stored) → map.len t.prepared + 1 ≡ map.len s.prepared
    → records_left (before ++ t ∷ behind) < records_left (before ++ s ∷ behind)
less_among [] s t behind less =
    let h : map.len t.prepared + records_left behind < map.len s.prepared + records_left behind = omega arith in h
less_among (b ∷ before) s t behind less =
    let rest = less_among before s t behind less in
    let h : map.len b.prepared + records_left (before ++ t ∷ behind) < map.len b.prepared + records_left (before ++ s ∷ behind) = omega (arith, rest) in h

-- a record that is settled is not left
pub fewer : {S : Type 0} (seen : S → View) (may_fail : S → S → Type 0) (old new : List S) → SettlesOne seen may_fail old new (Ok true)
    → records_left (contents seen new) < records_left (contents seen old)
fewer seen may_fail old new k =
    let s = (seen k.store).content in
    let decided = is_decided (contents seen old) in
    let t = by decided k.entry s in
    let were = ap (λ ss. contents seen ss) k.were ∙ contents_among seen k.before k.store k.made k.behind k.store in
    let are = ap (λ ss. contents seen ss) k.are ∙ contents_among seen k.before k.store k.made k.behind k.made ∙ ap (λ c. contents seen k.before ++ c ∷ contents seen k.behind) k.makes.changes in
    subst₂ (λ n o. records_left n < records_left o) (sym are) (sym were)
    (less_among (contents seen k.before) s t (contents seen k.behind) (less_here decided k.entry s k.first))
