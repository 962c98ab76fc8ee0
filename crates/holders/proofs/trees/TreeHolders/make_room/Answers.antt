use Rattle.std.proofs.Common.{◌∙◌, sym, ap}
use Rattle.action_names.specs.Names.{has_name}
use Rattle.holders.proofs.Rows.{more_held, more_room, there_again}
use Rattle.holders.proofs.trees.TreeHolders.make_room.Goals as goal
use Rattle.holders.proofs.trees.TreeHolders.make_room.Goals.{in-Some+in-Some-branch-4, in-Some+in-None-1, in-None-1}

pub returns-in_ok-insert-clause-held : goal.returns-in_ok-insert-clause-held
returns-in_ok-insert-clause-held g c =
    let more = more_held _ c.self.inside.rows.entries c.insert.new.self.entries c.args.holder.now _ c.self.view_is c.in_ok-copy.ensures.ok.1
    (sym c.contains_key.ensures ∙ c.if-not-contains_key.true) c.in_ok-insert.ensures.entries in
    elim c.match-branch-3.branch [
      | in-Some+in-Some-branch-4 w ↦ ap (λ s. s.held) w.self-is ∙ more
      | in-Some+in-None-1 w ↦ ap (λ s. s.held) w.self-is ∙ more
      | in-None-1 w ↦ ap (λ s. s.held) w.self-is ∙ more
    ]

pub returns-in_ok-insert-clause-room : goal.returns-in_ok-insert-clause-room
returns-in_ok-insert-clause-room g c = λ b.
    let more = more_room _ c.self.inside.rows.entries c.insert.new.self.entries c.args.holder.now _ b c.self.view_is c.in_ok-copy.ensures.ok.1 c.in_ok-insert.ensures.entries in
    elim c.match-branch-3.branch [
      | in-Some+in-Some-branch-4 w ↦ ap (λ s. has_name s.room b) w.self-is ∙ more
      | in-Some+in-None-1 w ↦ ap (λ s. has_name s.room b) w.self-is ∙ more
      | in-None-1 w ↦ ap (λ s. has_name s.room b) w.self-is ∙ more
    ]

pub returns-else-not-contains_key-clause-room : goal.returns-else-not-contains_key-clause-room
returns-else-not-contains_key-clause-room g c = λ b.
    there_again _ c.self.inside.rows.entries _ b c.self.view_is (sym c.contains_key.ensures ∙ c.if-not-contains_key.false)
