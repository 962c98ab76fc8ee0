use Rattle.std.proofs.Common.{◌≡◌, ◌||◌, ◌&&◌, not, take}
use Rattle.action_names.specs.Names.{Name, has_name, is_ancestor}
use Rattle.holders.specs.Held.{names_of, held_in}
use Rattle.holders.proofs.few.FewHolders.add_foreign.Given as goal

-- the foreign holders so far are added
abbrev pub invariant-loop-holder : goal.invariant-loop-holder
invariant-loop-holder g l = (b : Name) → has_name l.names.keys b
    ≡ (has_name l.initial.names.keys b || (not (is_ancestor b l.action) && has_name (names_of (held_in (take l.holder-index l.holder-items))) b))
