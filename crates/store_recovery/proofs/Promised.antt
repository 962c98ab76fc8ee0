-- What the call that settles one record leaves.
use Rattle.std.proofs.Common.{◌≡◌, ◌⊎◌, inl, inr, ℕ, Bool, true, false, true≢false, ◌&&◌, List, [], ◌∷◌, ◌++◌, map as each, Result, Ok, Err, set, get_or, if◌then◌else◌, refl, sym, ap, subst, subst₂, ◌∙◌}
use Rattle.std.specs.List.{AllZip, list_all}
use Rattle.std.proofs.lemmas.List.{get_or_at, set_at}
use Rattle.stable_store.specs.Calls.{Makes, View}
use Rattle.stable_store.specs.Stored.{Stored, after_discard, after_install}
use Rattle.stable_store.specs.declared.fault.StoreFault.{StoreFault}
use Rattle.stable_store.specs.declared.fault.StoreFault.TheVariants as call
use Rattle.store_recovery.specs.Settling.{bases_then, contents, is_decided, settled, settled_by}
use Rattle.store_recovery.specs.Steps.{GoesOn, HasFirst, KeepsBases, KeepsItself, NoneHasCounted, OneHasCounted, SettlesFirst, SettlesOne, all_hold}
use Rattle.store_recovery.specs.Finding.{IsFirstLeft}
use Rattle.store_recovery.specs.Faults.{refused_by}
use Rattle.store_recovery.specs.declared.refused.Refused.{Refused}
use Rattle.store_recovery.specs.declared.refused.Refused.TheVariants.{Memory, NotOurs, Stable}
use Rattle.store_recovery.proofs.InPart.{MovesOn}
use Rattle.store_recovery.proofs.Places.{zip_but_one, zip_with_itself}
use Rattle.store_recovery.proofs.Settled.{same_count, same_decided, same_next_top, settled_among}
use Rattle.store_recovery.proofs.Stops.{contents_among, either_content, goes_itself, goes_on, itself, none_counts, one_counts, stop_at, trusted_before}

both_hold : (a b : Bool) → (a && b) ≡ true → (a ≡ true) × (b ≡ true)
both_hold true b is = (refl, is)
both_hold false b is = absurd (true≢false (sym is))

holds_among : {A : Type 0} (p : A → Bool) (xs : List A) (x : A) (ys : List A) → list_all p (xs ++ x ∷ ys) ≡ true → p x ≡ true
holds_among p [] x ys all = (both_hold (p x) (list_all p ys) all).0
holds_among p (w ∷ xs) x ys all = holds_among p xs x ys (both_hold (p w) (list_all p (xs ++ x ∷ ys)) all).1

module _ {S : Type 0} (seen : S → View) where
  pub keep_themselves : (stores : List S) → AllZip (KeepsItself seen) stores stores
  keep_themselves stores = zip_with_itself (KeepsItself seen) (itself seen) stores

  module _ (may_fail : S → S → Type 0) (old new : List S) (r : Result (Unit {0}) StoreFault) (k : SettlesFirst seen may_fail old new r) where
    abbrev next : Stored
    next = settled_by (contents seen old) k.entry (seen k.store).content

    abbrev with_content : Stored → List Stored
    with_content s = contents seen k.before ++ s ∷ contents seen k.behind

    old_are : contents seen old ≡ with_content (seen k.store).content
    old_are = ap (λ ss. contents seen ss) k.were ∙ contents_among seen k.before k.store k.made k.behind k.store

    new_are : contents seen new ≡ with_content (seen k.made).content
    new_are = ap (λ ss. contents seen ss) k.are ∙ contents_among seen k.before k.store k.made k.behind k.made

    -- with either content there, the same is settled
    either_settled : (s : Stored) → (s ≡ (seen k.store).content) ⊎ (s ≡ next) → settled (with_content s) ≡ settled (contents seen old)
    either_settled s (inl is) = ap (λ t. settled (with_content t)) is ∙ ap settled (sym old_are)
    either_settled s (inr is) =
        ap (λ t. settled (with_content t)) (is ∙ ap (λ stores. settled_by stores k.entry (seen k.store).content) old_are)
        ∙ settled_among (contents seen k.before) (seen k.store).content (contents seen k.behind) k.entry k.first ∙ ap settled (sym old_are)

    now_either : ((seen k.made).content ≡ (seen k.store).content) ⊎ ((seen k.made).content ≡ next)
    now_either = either_content r (seen k.store).content next (seen k.made).content k.makes.changes

    -- each store is as it was, or its first record is settled
    pub moves : AllZip (MovesOn (contents seen old)) (contents seen old) (contents seen new)
    moves =
        let R = MovesOn (contents seen old) in
        subst₂ (λ a b. AllZip R a b) (sym old_are) (sym new_are)
        (zip_but_one R (λ s. inl refl) (contents seen k.before) (seen k.store).content (seen k.made).content (contents seen k.behind)
        (elim now_either [ inl is ↦ inl is | inr is ↦ inr (k.entry, k.first, is) ]))

    pub same_settled : settled (contents seen new) ≡ settled (contents seen old)
    same_settled = ap settled new_are ∙ either_settled (seen k.made).content now_either

    pub same_bases : bases_then (contents seen new) ≡ bases_then (contents seen old)
    same_bases = ap (λ stores. each (λ s. s.base) stores) same_settled

    of_either : {X : Type 0} (f : Stored → X) → f next ≡ f (seen k.store).content → f (seen k.made).content ≡ f (seen k.store).content
    of_either f same = elim now_either [ inl is ↦ ap f is | inr is ↦ ap f is ∙ same ]

    made_keeps : KeepsItself seen k.store k.made
    made_keeps =
        let d = is_decided (contents seen old) in
        let s = (seen k.store).content in record {
          decided = of_either (λ t. t.decided) (same_decided d k.entry s);
          count = of_either (λ t. t.count) (same_count d k.entry s);
          next_top = of_either (λ t. t.next_top) (same_next_top d k.entry s);
          holds = k.makes.holds;
          trusted = trusted_before (seen k.store) (seen k.made) (may_fail k.store k.made) next r k.makes;
          rests = λ _. k.makes.rest;
        }

    pub keep : AllZip (KeepsItself seen) old new
    keep =
        subst₂ (λ a b. AllZip (KeepsItself seen) a b) (sym k.were) (sym k.are)
        (zip_but_one (KeepsItself seen) (itself seen) k.before k.store k.made k.behind made_keeps)

    -- what a stop leaves
    pub stops : KeepsBases seen old new
    stops =
        subst₂ (λ a b. KeepsBases seen a b) (sym k.were) (sym k.are)
        (stop_at seen k.before k.store k.made k.behind (may_fail k.store k.made) next r k.makes
        (ap (λ stores. each (λ s. s.base) stores) (either_settled next (inr refl)) ∙ ap (λ ss. bases_then (contents seen ss)) k.were))

  unmoved : (old new : List S) → new ≡ old → AllZip (MovesOn (contents seen old)) (contents seen old) (contents seen new)
  unmoved old new is =
      let R = MovesOn (contents seen old) in
      subst (λ ss. AllZip R (contents seen old) (contents seen ss)) (sym is) (zip_with_itself R (λ s. inl refl) (contents seen old))

  -- a record that was settled
  pub go_on : (may_fail : S → S → Type 0) (old new : List S) (x : Unit {0}) → SettlesFirst seen may_fail old new (Ok x) → AllZip (GoesOn seen) old new
  go_on may_fail old new x k =
      subst₂ (λ a b. AllZip (GoesOn seen) a b) (sym k.were) (sym k.are)
      (zip_but_one (GoesOn seen) (goes_itself seen) k.before k.store k.made k.behind
      (goes_on seen k.store k.made (may_fail k.store k.made) (settled_by (contents seen old) k.entry (seen k.store).content) x k.makes))

  -- whatever the call answers
  pub moves_by : (may_fail : S → S → Type 0) (old new : List S) (r : Result Bool Refused) → SettlesOne seen may_fail old new r
      → AllZip (MovesOn (contents seen old)) (contents seen old) (contents seen new)
  moves_by may_fail old new (Ok true) k = moves may_fail old new (Ok tt) k
  moves_by may_fail old new (Ok false) k = unmoved old new k.0
  moves_by may_fail old new (Err Memory) k = moves may_fail old new (Err call.Memory) k
  moves_by may_fail old new (Err Stable) k = moves may_fail old new (Err call.Failed) k
  moves_by may_fail old new (Err NotOurs) k = unmoved old new k

  failed_counts : (may_fail : S → S → Type 0) (old new : List S) → SettlesFirst seen may_fail old new (Err call.Failed) → OneHasCounted seen old new
  failed_counts may_fail old new k =
      subst₂ (λ a b. OneHasCounted seen a b) (sym k.were) (sym k.are) (one_counts seen k.before k.store k.made k.behind k.makes.cause.1)

  -- the first record was settled
  pub settles_first : (may_fail : S → S → Type 0) (stores : List S) (place top home : ℕ) (d made : S) (decided : Bool) (r : Result (Unit {0}) StoreFault)
      → IsFirstLeft seen stores place top home → decided ≡ is_decided (contents seen stores) home top
      → Makes (seen (get_or stores place d)) (seen made) (may_fail (get_or stores place d) made)
      (if decided then after_install top (seen (get_or stores place d)).content else after_discard top (seen (get_or stores place d)).content) r
      → SettlesFirst seen may_fail stores (set stores place made) r
  settles_first may_fail stores place top home d made decided r first says makes =
      let store = get_or stores place d in
      let here : store ≡ first.store =
      ap (λ ss. get_or ss place d) first.are ∙ get_or_at first.before first.store first.behind d place first.at in record {
        before = first.before;
        store = store;
        made = made;
        behind = first.behind;
        entry = (top, first.least.0);
        were = first.are ∙ ap (λ s. first.before ++ s ∷ first.behind) (sym here);
        are = ap (λ ss. set ss place made) first.are ∙ set_at first.before first.store first.behind made place first.at;
        none = first.none;
        first = subst (λ s. HasFirst (seen s).content (top, first.least.0)) (sym here) first.least.2;
        makes =
            subst (λ b. Makes (seen store) (seen made) (may_fail store made)
            (if b then after_install top (seen store).content else after_discard top (seen store).content) r)
            (says ∙ ap (λ h. is_decided (contents seen stores) h top) (sym first.least.1)) makes;
      }

  -- the store that was to settle holds a content
  pub holds_first : (stores : List S) (place top home : ℕ) (d : S) → IsFirstLeft seen stores place top home → all_hold seen stores ≡ true
      → (seen (get_or stores place d)).holds_content ≡ true
  holds_first stores place top home d first hold =
      ap (λ s. (seen s).holds_content) (ap (λ ss. get_or ss place d) first.are ∙ get_or_at first.before first.store first.behind d place first.at)
      ∙ holds_among (λ s. (seen s).holds_content) first.before first.store first.behind (ap (λ ss. all_hold seen ss) (sym first.are) ∙ hold)

  -- and so the call answers for its store
  pub answers : (may_fail : S → S → Type 0) (old new : List S) (fault : StoreFault) (r : Result Bool Refused) → SettlesFirst seen may_fail old new (Err fault)
      → ¬ (fault ≡ call.NotOurs) → r ≡ Err (refused_by fault) → SettlesOne seen may_fail old new r
  answers may_fail old new fault r k ours is = subst (λ q. SettlesOne seen may_fail old new q) (sym is) (by_fault fault k ours)
    where
      by_fault : (fault : StoreFault) → SettlesFirst seen may_fail old new (Err fault) → ¬ (fault ≡ call.NotOurs) → SettlesOne seen may_fail old new (Err (refused_by fault))
      by_fault call.Memory k ours = k
      by_fault call.Failed k ours = k
      by_fault call.NotOurs k ours = absurd (ours refl)

  pub counts : (may_fail : S → S → Type 0) (old new : List S) (r : Result Bool Refused) → SettlesOne seen may_fail old new r → r ≡ Err Stable
      → OneHasCounted seen old new
  counts may_fail old new r one is = failed_counts may_fail old new (subst (λ q. SettlesOne seen may_fail old new q) is one)

  out_of_memory : (may_fail : S → S → Type 0) (old new : List S) → SettlesFirst seen may_fail old new (Err call.Memory) → NoneHasCounted seen old new
  out_of_memory may_fail old new k =
      subst₂ (λ a b. NoneHasCounted seen a b) (sym k.were) (sym k.are) (none_counts seen k.before k.store k.made k.behind k.makes.cause)

  pub counts_none : (may_fail : S → S → Type 0) (old new : List S) (why : Refused) → SettlesOne seen may_fail old new (Err why) → why ≡ Memory
      → NoneHasCounted seen old new
  counts_none may_fail old new why one is = out_of_memory may_fail old new (subst (λ e. SettlesOne seen may_fail old new (Err e)) is one)
