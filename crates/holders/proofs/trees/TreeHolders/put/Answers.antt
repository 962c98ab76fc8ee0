use Rattle.std.proofs.Common.{◌∙◌, sym, ap, rules, subst}
use Rattle.std.proofs.lemmas.Bool.{true≢false}
use Rattle.std.specs.Option.{option_copied_mut}
use Rattle.std.specs.List.Sorted.{IsStrictlySortedBy}
use Rattle.action_names.specs.Names.{name_cmp}
use Rattle.std.specs.Prelude.{Some}
use Rattle.holders.specs.Held.{held_in, names_of}
use Rattle.holders.proofs.Rows.{put_in, no_row, held_sorted}
use Rattle.holders.proofs.trees.TreeHolders.put.Goals as goal
use Rattle.holders.proofs.trees.TreeHolders.put.Goals.{in-Some+in-Some-1, in-Some+in-None-1, in_default}

pub returns-clause-held : goal.returns-clause-held
returns-clause-held g c =
    let put = put_in _ c.self.inside.rows.entries _ c.args.holder.now c.args.value c.self.view_is c.self.invariant c.requires (c.get_mut.follows.holds (Some c.args.value)).0 in
    elim c.match-get_mut.branch [
      | in-Some+in-Some-1 w ↦ ap (λ i. held_in i.rows.entries) w.self-inside-is ∙ put
      | in-Some+in-None-1 w ↦ ap (λ i. held_in i.rows.entries) w.self-inside-is ∙ put
      | in_default w ↦
          absurd (true≢false (no_row _ c.self.inside.rows.entries c.args.holder.now c.self.view_is c.requires (ap option_copied_mut (sym w.in_default.is) ∙ c.get_mut.ensures.value)))
    ]

pub returns-clause-rose : goal.returns-clause-rose
returns-clause-rose g c = subst (λ s. IsStrictlySortedBy name_cmp (names_of s.held)) c.self.view_is (held_sorted c.self.inside.rows.entries c.self.invariant)

pub returns-clause-rising : goal.returns-clause-rising
returns-clause-rising g c = held_sorted c.match-get_mut.self-inside.rows.entries (search rules)
