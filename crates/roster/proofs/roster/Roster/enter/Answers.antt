use Rattle.std.proofs.Common.{Bool, [], ap, arith, get_or, length, subst, sym, ℕ, ◌∙◌, ◌∷◌, ◌≡◌, ◌<◌}
use Rattle.std.proofs.lemmas.List.{length-map}
use Rattle.std.specs.List.{AllByRecursion}
use Rattle.action_names.specs.Deps.{Deps}
use Rattle.roster.proofs.Changed.{standing_changed, standing_merged}
use Rattle.roster.proofs.Entering.{enters, standing_ended}
use Rattle.roster.proofs.Idle.{made_idle, made_written}
use Rattle.roster.specs.Entries.{CanCount, FitsMade, IsMade}
use Rattle.roster.specs.Rosters.{IsRoster}
use Rattle.roster.specs.Tables.{Table, all_added, begun_of, born_row, changed_at, ended, entered, grown, merged, more_by, nothing_made, table, turned, with_closed, written_in}
use Rattle.roster.proofs.roster.Roster.enter.Goals as goal

pub count_more-requires : goal.count_more-requires
count_more-requires c =
    let entry = c.args.entry.now in
    let fits : FitsMade c.args.self.now (written_in entry) = subst (FitsMade c.args.self.now) (made_written entry c.if-entry.false) c.requires.fits in
    subst (CanCount c.args.self.now.rows.items entry.birth.maker) (sym (c.len.ensures ∙ entry.begun.ok.0)) fits.count

pub add_all-requires : goal.add_all-requires
add_all-requires c =
    let entry = c.args.entry.now in
    let fits : FitsMade c.args.self.now (written_in entry) = subst (FitsMade c.args.self.now) (made_written entry c.if-entry.false) c.requires.fits in
    record {
      rows = omega (arith, c.count_more.ensures.len, c.count_more.ensures.capacity, entry.begun.ok.0, fits.begun.rows);
      places = subst (λ at. AllByRecursion (λ (x : ℕ × Deps). x.0 < length at) entry.begun.items) (sym c.count_more.ensures.places) fits.begun.places;
    }

pub turn-requires : goal.turn-requires
turn-requires c =
    let entry = c.args.entry.now in
    let crashes : Table → ℕ = λ t. t.crashes in
    let added : c.add_all.new.self.crashes ≡ c.args.self.now.crashes =
    c.add_all.ensures.crashes ∙ ap crashes (c.count_more.ensures.counted [])
    ∙ ap (λ (s : ℕ × ℕ × Bool). s.1) (standing_changed (more_by c.len.result) entry.birth.maker (table [] c.args.self.now)) in
    let ends : c.end.new.self.crashes ≡ c.add_all.new.self.crashes =
    ap crashes (c.end.ensures []) ∙ ap (λ (s : ℕ × ℕ × Bool). s.1) (standing_ended entry.ended (table [] c.add_all.new.self)) in
    let closes : c.close.new.self.crashes ≡ c.end.new.self.crashes =
    ap crashes (c.close.ensures []) ∙ ap (λ (s : ℕ × ℕ × Bool). s.1) (standing_changed with_closed entry.closed (table [] c.end.new.self)) in
    let merges : c.merge.new.self.crashes ≡ c.close.new.self.crashes =
    ap crashes (c.merge.ensures []) ∙ ap (λ (s : ℕ × ℕ × Bool). s.1) (standing_merged c.take.result (table [] c.close.new.self)) in
    omega (arith, c.requires.count, merges ∙ closes ∙ ends ∙ added)

pub returns-then-entry : goal.returns-then-entry
returns-then-entry c = λ g here e names is agrees planned.
    let before = table names c.args.self.now in
    enters g here e before nothing_made is agrees
    (subst (IsMade before e.event e.carried.dependencies) (made_idle c.args.entry.now c.if-entry.true) planned)

pub returns : goal.returns
returns c = λ g here e names is agrees planned.
    let entry = c.args.entry.now in
    let before = table names c.args.self.now in
    let written : IsMade before e.event e.carried.dependencies (written_in entry) =
    subst (IsMade before e.event e.carried.dependencies) (made_written entry c.if-entry.false) planned in
    let begun = begun_of names entry.birth entry.begun.items in
    let many : c.len.result ≡ length begun =
    c.len.ensures ∙ entry.begun.ok.0 ∙ sym (length-map entry.begun.items (λ (x : ℕ × Deps). (get_or names x.0 [], born_row entry.birth x.1))) in
    let begins : table names c.add_all.new.self ≡ grown (written_in entry) before =
    c.add_all.ensures.added names written.placed
    ∙ ap (all_added begun) (c.count_more.ensures.counted names ∙ ap (λ n. changed_at (more_by n) entry.birth.maker before) many) in
    let whole : table names c.turn.new.self ≡ entered (written_in entry) before =
    c.turn.ensures names
    ∙ ap (turned entry.turn) (c.merge.ensures names
    ∙ ap (λ m. merged m (table names c.close.new.self)) c.take.ensures.value
    ∙ ap (merged entry.merged) (c.close.ensures names ∙ ap (changed_at with_closed entry.closed) (c.end.ensures names ∙ ap (ended entry.ended) begins))) in
    subst (IsRoster g (e ∷ here)) (sym whole) (enters g here e before (written_in entry) is agrees written)
