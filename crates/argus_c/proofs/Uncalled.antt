-- What a step leaves of stores that it does not call.
use Rattle.std.proofs.Common.{◌≡◌, ◌+◌, ◌∙◌, ℕ, false, Option, Some, None, nat_cmp, option_map, slice_get, ap, refl, sym, subst}
use Rattle.std.specs.BTreeSet.{contains}
use Rattle.layer_contracts.specs.declared.guardian.Fault.{Fault}
use Rattle.layer_contracts.specs.Stores.{Leaves, Stays}
use Rattle.run_model.specs.declared.step.Step.{Step}
use Rattle.run_model.specs.Openings.{opening_in}
use Rattle.stable_store.specs.Plain.{plain_view}
use Rattle.stable_store.specs.Stored.{Stored}
use Rattle.stable_store.specs.declared.plain.PlainStable.{PlainStable}
use Rattle.world.specs.Worlds.{InWorld, seen_of}
use Rattle.world_steps.specs.Standings.{StoresLeft, asks_of, content_then}
use Rattle.argus_c.specs.Keeping.{CallsNone, ChangesAreTold, StayMarked, content_at, is_marked}
use Rattle.argus_c.specs.declared.changes.Changes.{Changes}
use Rattle.argus_c.specs.declared.session.Session.{Session}

same_some : {X : Type 0} (x y : X) → Some x ≡ Some y → x ≡ y
same_some x y e = cc

pub some_of : {X Y : Type 0} (f : X → Y) (o : Option X) (y : Y) → option_map f o ≡ Some y → (x : X) × (o ≡ Some x) × (f x ≡ y)
some_of f None y e = absurd (not_some e)
  where
    not_some : None ≡ Some y → ⊥
    not_some h = cc
some_of f (Some x) y e = (x, refl, same_some (f x) y e)

pub uncalled_same : (old new : InWorld PlainStable) (step : Step) (fault : Option Fault) (changes : Changes)
    → StoresLeft (λ g. seen_of plain_view g) (opening_in old.run.lists) old.run.past step old.guardians new.guardians fault
    → CallsNone old step (λ g. is_marked changes g ≡ false)
    → (i : ℕ) (s t : Stored) → content_at old i ≡ Some s → content_at new i ≡ Some t → is_marked changes (i + 1) ≡ false → t ≡ s
uncalled_same old new step fault changes left others i s t before after unmarked =
    let p = some_of (λ g. (seen_of plain_view g).content) (slice_get old.guardians i) s before in
    let q = some_of (λ g. (seen_of plain_view g).content) (slice_get new.guardians i) t after in
    let asks = ap (λ c. asks_of (opening_in old.run.lists) step old.run.past (i + 1) c) p.2 ∙ others i s unmarked before in
    let stays : Stays (seen_of plain_view p.0) (seen_of plain_view q.0) =
    subst (λ b. Leaves b (content_then (opening_in old.run.lists) step old.run.past (i + 1) (seen_of plain_view p.0).content)
    (seen_of plain_view p.0) (seen_of plain_view q.0) fault) asks (left.each i p.0 q.0 p.1 q.1) in
    sym q.2 ∙ stays.content ∙ p.2

-- A step marks whose store it calls. So the changes are told.
pub changes_told : (old new : Session) (step : Step) (fault : Option Fault) (marked : Changes)
    → StoresLeft (λ g. seen_of plain_view g) (opening_in old.world.run.lists) old.world.run.past step old.world.guardians new.world.guardians fault
    → StayMarked old.changes marked → CallsNone old.world step (λ g. is_marked marked g ≡ false) → new.changes.changed ≡ marked.changed
    → ChangesAreTold old new
changes_told old new step fault marked left stay others same = record {
  told = λ g was. ap (λ s. contains nat_cmp s g) same ∙ stay g was;
  same = λ i s t before after unmarked.
      uncalled_same old.world new.world step fault marked left others i s t before after
      (ap (λ s. contains nat_cmp s (i + 1)) (sym same) ∙ unmarked);
}

-- nothing has changed
pub nothing_changes : (old new : Session) → new.world ≡ old.world → StayMarked old.changes new.changes → ChangesAreTold old new
nothing_changes old new same stay = record {
  told = stay;
  same = λ i s t before after unmarked. same_some t s (sym after ∙ ap (λ w. content_at w i) same ∙ before);
}
