use Rattle.std.proofs.Common.{◌∙◌, sym, ap}
use Rattle.std.proofs.lemmas.Bool.{true≢false}
use Rattle.std.specs.Option.{option_copied_mut}
use Rattle.std.specs.Prelude.{Some, is_some}
use Rattle.std.specs.Map.{keys_of}
use Rattle.holders.specs.Held.{held_in}
use Rattle.holders.specs.Indexed.{ordered}
use Rattle.holders.proofs.Indexed.{put_in_index, there_row}
use Rattle.holders.proofs.index.Index.put.Goals as goal
use Rattle.holders.proofs.index.Index.put.Goals.{in-Some+in-Some-1, in-Some+in-None-1, in_default}

pub returns-clause-held : goal.returns-clause-held
returns-clause-held g c =
    let rows = c.self.inside.rows.entries in
    let there = there_row _ rows c.args.name.now c.self.view_is c.requires in
    let put = put_in_index _ rows _ c.args.name.now c.args.value c.self.view_is c.requires ((c.get_mut.follows.holds (Some c.args.value)).3 there).0 in
    elim c.match-get_mut.branch [
      | in-Some+in-Some-1 w ↦ ap (λ i. held_in (ordered i.rows.entries)) w.self-inside-is ∙ put.0
      | in-Some+in-None-1 w ↦ ap (λ i. held_in (ordered i.rows.entries)) w.self-inside-is ∙ put.0
      | in_default w ↦
          absurd (true≢false (sym there ∙ ap is_some (sym c.get_mut.ensures.value ∙ ap option_copied_mut w.in_default.is)))
    ]

pub returns-clause-room : goal.returns-clause-room
returns-clause-room g c =
    let rows = c.self.inside.rows.entries in
    let there = there_row _ rows c.args.name.now c.self.view_is c.requires in
    let put = put_in_index _ rows _ c.args.name.now c.args.value c.self.view_is c.requires ((c.get_mut.follows.holds (Some c.args.value)).3 there).0 in
    elim c.match-get_mut.branch [
      | in-Some+in-Some-1 w ↦ ap (λ i. keys_of (ordered i.rows.entries)) w.self-inside-is ∙ put.1
      | in-Some+in-None-1 w ↦ ap (λ i. keys_of (ordered i.rows.entries)) w.self-inside-is ∙ put.1
      | in_default w ↦
          absurd (true≢false (sym there ∙ ap is_some (sym c.get_mut.ensures.value ∙ ap option_copied_mut w.in_default.is)))
    ]
