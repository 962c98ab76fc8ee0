use Rattle.std.proofs.Common.{ap, not, subst, sym, ◌∙◌}
use Rattle.std.specs.Prelude.{IfSome, IsTrue, if◌then◌else◌}
use Rattle.std.specs.BTreeSet.{insert_key}
use Rattle.std.specs.Option.{option_copied as name_of}
use Rattle.action_names.specs.Names.{has_name, name_cmp, same_name}
use Rattle.holders.specs.Held.{may_be_handed, names_of}
use Rattle.holders.proofs.Rows.{room_kept}
use Rattle.object_model.specs.Locks.{passed}
use Rattle.moss_locks.proofs.Names.{handed_still, next_room, nobody_passes, none_left, put_passes, somebody, taken_none, taken_some}
use Rattle.moss_locks.proofs.of_class.pass.Goals as goal

pub returns-then-is_clear-clause-names : goal.returns-then-is_clear-clause-names
returns-then-is_clear-clause-names c =
    let none = ap names_of (c.is_clear.ensures.held c.if-is_clear.true) in
    none ∙ sym (ap (passed c.args.action.now (name_of c.args.to)) none ∙ nobody_passes c.args.action.now (name_of c.args.to))

pub returns-then-is_none-clause-names : goal.returns-then-is_none-clause-names
returns-then-is_none-clause-names c =
    ap names_of c.take.ensures.held
    ∙ taken_none c.args.holders.now.held c.args.action.now (name_of c.args.to) c.take.result c.take.ensures.taken (c.is_none.ensures ∙ ap not c.if-is_none.true)

pub returns-then-is_none-clause-room : goal.returns-then-is_none-clause-room
returns-then-is_none-clause-room c = λ b h.
    handed_still c.args.action.now (names_of c.args.holders.now.held) (names_of c.take.new.self.held) _ _ c.take.ensures.room
    (λ nobody. ap names_of c.take.ensures.held ∙ none_left c.args.holders.now.held c.args.action.now nobody) b h

pub put_other-requires : goal.put_other-requires
put_other-requires c = λ other.
    let held = c.args.holders.now.held in
    let there = taken_some held c.args.action.now c.take.result c.take.ensures.taken (c.is_none.ensures ∙ ap not c.if-is_none.false) in
    let may = subst (λ to. IfSome (name_of to) (λ next. IsTrue (may_be_handed (names_of held) c.args.holders.now.room next))) c.in-Some.is c.requires in
    next_room c.args.action.now c.in-Some.next.now (names_of held) _ _ c.take.ensures.room there may other

pub returns-in-Some-clause-names : goal.returns-in-Some-clause-names
returns-in-Some-clause-names c =
    let a = c.args.action.now in
    let held = c.args.holders.now.held in
    let there = taken_some held a c.take.result c.take.ensures.taken (c.is_none.ensures ∙ ap not c.if-is_none.false) in
    put_passes a c.in-Some.next.now (names_of held) _ c.take.ensures.rose there
    (c.put_other.ensures.names
    ∙ ap (λ ns. if same_name a c.in-Some.next.now then ns else insert_key name_cmp ns c.in-Some.next.now)
    (ap names_of c.take.ensures.held ∙ room_kept (λ b. not (same_name b a)) held))
    ∙ ap (λ to. passed a (name_of to) (names_of held)) (sym c.in-Some.is)

pub returns-in-Some-clause-room : goal.returns-in-Some-clause-room
returns-in-Some-clause-room c = λ b h.
    let a = c.args.action.now in
    let held = c.args.holders.now.held in
    let there = taken_some held a c.take.result c.take.ensures.taken (c.is_none.ensures ∙ ap not c.if-is_none.false) in
    handed_still a (names_of held) (names_of c.put_other.new.holders.held) c.args.holders.now.room _
    (λ n. ap (λ ns. has_name ns n) c.put_other.ensures.room ∙ c.take.ensures.room n) (λ nobody. somebody (names_of held) a there nobody) b h

pub returns-in_default-clause-names : goal.returns-in_default-clause-names
returns-in_default-clause-names c =
    let held = c.args.holders.now.held in
    ap names_of c.take.ensures.held ∙ room_kept (λ b. not (same_name b c.args.action.now)) held
    ∙ ap (λ to. passed c.args.action.now (name_of to) (names_of held)) (sym c.in_default.is)

pub returns-in_default-clause-room : goal.returns-in_default-clause-room
returns-in_default-clause-room c = λ b h.
    handed_still c.args.action.now (names_of c.args.holders.now.held) (names_of c.take.new.self.held) _ _ c.take.ensures.room
    (λ nobody. ap names_of c.take.ensures.held ∙ none_left c.args.holders.now.held c.args.action.now nobody) b h
