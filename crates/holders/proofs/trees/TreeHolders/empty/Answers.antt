use Rattle.std.proofs.Common.{◌∙◌, sym, ap, rules}
use Rattle.std.proofs.lemmas.Bool.{true≢false}
use Rattle.std.specs.Option.{option_copied_mut}
use Rattle.std.specs.Prelude.{None}
use Rattle.holders.specs.Held.{held_in}
use Rattle.holders.proofs.Rows.{emptied_in, no_row, held_sorted}
use Rattle.holders.proofs.trees.TreeHolders.empty.Goals as goal
use Rattle.holders.proofs.trees.TreeHolders.empty.Goals.{in-Some+in-Some-1, in-Some+in-None-1, in_default}

pub returns-clause-held : goal.returns-clause-held
returns-clause-held g c =
    let emptied = emptied_in _ c.self.inside.rows.entries _ c.args.holder.now c.self.view_is c.self.invariant (c.get_mut.follows.holds None).0 in
    elim c.match-get_mut.branch [
      | in-Some+in-Some-1 w ↦ ap (λ i. held_in i.rows.entries) w.self-inside-is ∙ emptied
      | in-Some+in-None-1 w ↦ ap (λ i. held_in i.rows.entries) w.self-inside-is ∙ emptied
      | in_default w ↦
          absurd (true≢false (no_row _ c.self.inside.rows.entries c.args.holder.now c.self.view_is c.requires (ap option_copied_mut (sym w.in_default.is) ∙ c.get_mut.ensures.value)))
    ]

pub returns-clause-rising : goal.returns-clause-rising
returns-clause-rising g c = held_sorted c.match-get_mut.self-inside.rows.entries (search rules)
