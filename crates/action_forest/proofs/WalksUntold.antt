-- The outcomes of the actions at places, one place after another.
use Rattle.std.proofs.Common.{Bool, List, [], None, Option, Some, ap, get_or, length, sym, take, ℕ, ◌++◌, ◌+◌, ◌<◌, ◌∙◌, ◌∷◌, ◌≡◌}
use Rattle.std.specs.List.{cons_option}
use Rattle.std.proofs.lemmas.List.{append-nil, take_more}
use Rattle.std.proofs.lemmas.List.Elements.{filter_map-append}
use Rattle.action_names.specs.Names.{Name}
use Rattle.run_model.specs.declared.history.Event.{Event}
use Rattle.action_forest.specs.Trees.{Trees}
use Rattle.action_forest.specs.Walks.{name_there, untold_at, untold_outcome}

module _ (forest : Trees) (told : Name → Bool) (past : List Event) (places : List ℕ) (k : ℕ) where
  -- one place more
  one_more : (o : Option (Name × Bool)) → k < length places → o ≡ untold_outcome told past (name_there forest (get_or places k 0))
      → untold_at forest told past (take (k + 1) places) ≡ untold_at forest told past (take k places) ++ cons_option o []
  one_more o h is =
      ap (untold_at forest told past) (take_more places k 0 h)
      ∙ filter_map-append (λ i. untold_outcome told past (name_there forest i)) (take k places) (get_or places k 0 ∷ [])
      ∙ ap (λ q. untold_at forest told past (take k places) ++ cons_option q []) (sym is)

  pub untold_pushed : (x : Name × Bool) (before after : List (Name × Bool)) → k < length places
      → Some x ≡ untold_outcome told past (name_there forest (get_or places k 0))
      → before ≡ untold_at forest told past (take k places) → after ≡ before ++ x ∷ [] → after ≡ untold_at forest told past (take (k + 1) places)
  untold_pushed x before after h is so pushed = pushed ∙ ap (λ outcomes. outcomes ++ x ∷ []) so ∙ sym (one_more (Some x) h is)

  pub untold_passed : (before : List (Name × Bool)) → k < length places
      → None ≡ untold_outcome told past (name_there forest (get_or places k 0))
      → before ≡ untold_at forest told past (take k places) → before ≡ untold_at forest told past (take (k + 1) places)
  untold_passed before h is so = so ∙ sym (append-nil (untold_at forest told past (take k places))) ∙ sym (one_more None h is)
