-- What a world over stores that were opened again begins with.
use Rattle.std.proofs.Common.{Bool, List, None, Option, Some, [], ap, ap₂, arith, length, map as each, option_map, refl, slice_get, subst, suc, sym, true, zero, ℕ, ◌+◌, ◌∙◌, ◌∷◌, ◌≡◌}
use Rattle.std.specs.List.{AllZip, list_all}
use Rattle.std.proofs.lemmas.Option.{slice_get-map}
use Rattle.run_model.specs.Openings.{Opening, Setup, fresh}
use Rattle.guardian.specs.Guardians.{IsSettled}
use Rattle.stable_store.specs.Calls.{Rests, View}
use Rattle.stable_store.specs.Stored.{Stored, empty}
use Rattle.store_recovery.specs.Beginning.{AreNew}
use Rattle.store_recovery.specs.Opened.{AreOpened as AreReopened, IsOpenedFrom, IsOpeningOf}
use Rattle.store_recovery.specs.Settling.{bases_then, contents}
use Rattle.store_recovery.specs.Steps.{OpensItself}
use Rattle.recovery_laws.proofs.OpenedStores.{opened_stores_go_on}
use Rattle.world.specs.GoingOn.{GoesOnFromStores, HoldAsMuch}
use Rattle.world.specs.Worlds.{AreOpened}
use Rattle.world.proofs.First.{nothing_settled}
use Rattle.world.proofs.Stops.{all_at, both_of, zip_count}

-- what is the same of each store is the same of all
same_of : {S A : Type 0} (seen : S → View) (f : Stored → A) (R : S → S → Type 0) → ((x y : S) → R x y → f (seen y).content ≡ f (seen x).content)
    → (old new : List S) → AllZip R old new → each f (contents seen new) ≡ each f (contents seen old)
same_of seen f R h [] [] all = refl
same_of seen f R h [] (y ∷ new) all = elim all [ ]
same_of seen f R h (x ∷ old) [] all = elim all [ ]
same_of seen f R h (x ∷ old) (y ∷ new) all = ap₂ (λ a rest. a ∷ rest) (h x y all.0) (same_of seen f R h old new all.1)

held_at : {S : Type 0} (p : S → Bool) (stores : List S) (i : ℕ) (s : S) → list_all p stores ≡ true → slice_get stores i ≡ Some s → p s ≡ true
held_at {S = S} p [] i s h at = absurd (let q : ◌≡◌ {A = Option S} None (Some s) = at in cc)
held_at p (x ∷ stores) zero s h at = all_at (λ y. p y ≡ true) (x ∷ []) 0 s ((both_of (p x) (list_all p stores) h).0, tt) at
held_at p (x ∷ stores) (suc i) s h at = held_at p stores i s (both_of (p x) (list_all p stores) h).1 at

-- stores whose calls are those of an opening hold as much as before
pub hold_as_much : {S : Type 0} (seen : S → View) (old new : List S) → bases_then (contents seen new) ≡ bases_then (contents seen old)
    → AllZip (OpensItself seen) old new → HoldAsMuch (contents seen old) (contents seen new)
hold_as_much seen old new bases kept = record {
  bases = bases;
  decided = same_of seen (λ s. s.decided) (OpensItself seen) (λ x y k. k.decided) old new kept;
  next_tops = same_of seen (λ s. s.next_top) (OpensItself seen) (λ x y k. k.next_top) old new kept;
}

-- new stores are those of an opening in which nothing was kept
pub begin_new : {S : Type 0} (seen : S → View) (setup : Setup) (stores : List S) → AreNew seen stores → AreOpened seen (fresh setup) stores
begin_new seen setup stores new = record {
  found = λ i s at. held_at (λ x. (seen x).holds_content) stores i s new.hold at;
  rests = λ i s at. all_at (λ x. Rests (seen x)) stores i s new.rest at;
  settled = λ i s at.
      subst (λ content. IsSettled (fresh setup) (i + 1) content) (sym (all_at (λ x. (seen x).content ≡ empty) stores i s new.nothing at)) (nothing_settled setup (i + 1));
}

module _ {S : Type 0} (seen : S → View) (setup : Setup) (old new : List S) (next : Opening) (count : length old ≡ length setup)
    (o : AreReopened seen setup old new) (opens : IsOpeningOf setup (contents seen new) next) where
  says : (i : ℕ) (s : Stored) → slice_get (contents seen new) i ≡ Some s → IsOpenedFrom next (i + 1) s
  says i s at = let e : suc i ≡ i + 1 = omega arith in subst (λ g. IsOpenedFrom next g s) e (opens.says (suc i) s at)

  -- each guardian is there
  pub count_is : length new ≡ length next.setup
  count_is = zip_count (OpensItself seen) old new o.kept ∙ count ∙ ap (λ l. length l) (sym opens.guardians)

  -- so guardians can begin from them
  pub begin_so : AreOpened seen next new
  begin_so = record {
    found = λ i s at. held_at (λ x. (seen x).holds_content) new i s o.hold at;
    rests = λ i s at. all_at (λ x. Rests (seen x)) new i s o.rest at;
    settled = λ i s at.
        let p = says i (seen s).content (slice_get-map (λ x. (seen x).content) new i ∙ ap (λ k. option_map (λ x. (seen x).content) k) at) in
        record { base = p.base; prepared = p.prepared; decided = p.decided; count = p.count; next_top = p.next_top };
  }

  -- and go on from the run
  pub goes_on : GoesOnFromStores setup (contents seen old) next
  goes_on opening past left same run all much =
      let now = hold_as_much seen old new o.bases o.kept in
      opened_stores_go_on opening next past left (contents seen new) run all
      (record { bases = o.installed ∙ much.bases; decided = now.decided ∙ much.decided; next_tops = now.next_tops ∙ much.next_tops })
      (record {
        setup = opens.guardians ∙ sym same;
        each = λ i s at. let p = says i s at in record { base = p.base; decided = p.decided; next_top = p.next_top };
        first_top = opens.first_top;
      })
