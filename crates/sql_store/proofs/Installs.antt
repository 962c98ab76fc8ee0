-- What installing and saving make of a store.
use Rattle.std.proofs.Common.{◌≡◌, ℕ, List, false, Some, sym, ap, ◌∙◌}
use Rattle.std.specs.FinMap.{get, remove}
use Rattle.sqlite.specs.State.{State}
use Rattle.atomic_types.specs.declared.part.Part.{Part}
use Rattle.stable_store.specs.Stored.{Stored, Record, laid, installed, after_install, after_discard}
use Rattle.stable_store.specs.Numbers.{has_zero}
use Rattle.store_tables.specs.Changes.{with_base, all_put}
use Rattle.store_writing.specs.Steps.{While, Stands}
use Rattle.sql_store.proofs.Over.{record_above}

module _ (s : Stored) (top : ℕ) (r : Record) (found : get s.prepared top ≡ Some r) (parts : List (ℕ × Part)) (put : all_put parts s.base ≡ laid r.parts s.base) where
  -- what the statement makes of the content is what the call does
  pub install_is : with_base (all_put parts s.base) (after_discard top s) ≡ after_install top s
  install_is =
      ap (λ base. record s { base = base; prepared = remove s.prepared top }) put
      ∙ ap (λ o. record s { base = installed o s.base; prepared = remove s.prepared top }) (sym found)

  pub parts_above : (old : State) → Stands old s → has_zero parts ≡ has_zero r.parts → While old (has_zero parts ≡ false)
  parts_above old stands same clean up = let rest = stands clean up in same ∙ record_above old.now.trees s top r rest.store found
