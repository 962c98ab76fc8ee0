-- What one node says of what is kept, and what a write to it makes of that.
use Rattle.std.proofs.Common.{List, [], None, Some, ap, arith, get_or, length, map, option_map, refl, set, suc, sym, zero, ℕ, ◌<◌, ◌≤◌, ◌∙◌, ◌∷◌, ◌≡◌}
use Rattle.std.specs.Prelude.{slice_get}
use Rattle.std.proofs.lemmas.Option.{same_Some, slice_get-map, slice_get_past, slice_get_read}
use Rattle.action_forest.specs.Trees.{Action, action_in, updated}
use Rattle.action_forest.specs.declared.forest.Node.{Node}

-- a node that is written, with what is kept changed so
pub written : (f : Action → Action) (items : List Node) (at : ℕ) (old new : Node) → slice_get items at ≡ Some old → action_in new ≡ f (action_in old)
    → map action_in (set items at new) ≡ updated f at (map action_in items)
written f [] at old new got e = refl
written f (x ∷ items) zero old new got e =
    ap (λ a. a ∷ map action_in items) (e ∙ ap (λ n. f (action_in n)) (sym (same_Some x old got)))
written f (x ∷ items) (suc at) old new got e = ap (λ actions. action_in x ∷ actions) (written f items at old new got e)

-- past the end nothing is changed
pub written_past : (f : Action → Action) (actions : List Action) (at : ℕ) → length actions ≤ at → updated f at actions ≡ actions
written_past f [] at h = refl
written_past f (x ∷ actions) zero h = absurd (omega arith)
written_past f (x ∷ actions) (suc at) h = ap (λ ys. x ∷ ys) (written_past f actions at (omega arith))

-- a node that is read at a place is what is kept there
pub node_read : (nodes seen : List Node) (i : ℕ) (node : Node) → seen ≡ nodes → i < length seen → node ≡ get_or seen i node
    → slice_get (map action_in nodes) i ≡ Some (action_in node)
node_read nodes seen i node same inside is =
    ap (λ items. slice_get (map action_in items) i) (sym same)
    ∙ slice_get-map action_in seen i
    ∙ ap (option_map action_in) (slice_get_read seen (length seen) i node refl inside is)

-- past the nodes nothing is kept
pub node_past : (nodes seen : List Node) (i : ℕ) → seen ≡ nodes → length seen ≤ i → slice_get (map action_in nodes) i ≡ None
node_past nodes seen i same past =
    ap (λ items. slice_get (map action_in items) i) (sym same)
    ∙ slice_get-map action_in seen i
    ∙ ap (option_map action_in) (slice_get_past seen i past)
