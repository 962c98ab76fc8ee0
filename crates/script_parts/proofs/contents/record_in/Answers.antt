use Rattle.serde_json.specs.View.{members_view}
use Rattle.script_parts.specs.Places.{pointer}
use Rattle.script_parts.proofs.Forms.{record_form, names_asked}
use Rattle.script_parts.proofs.Named.{named_asked}
use Rattle.script_parts.proofs.contents.record_in.Goals as goal

pub returns : goal.returns
returns c = λ _.
    let place = pointer c.args.place.now in
    let es = c.in_ok-members.members.now.entries in
    let counts = names_asked 64 (members_view es) place c.in_ok-ask_names.ensures in
    absurd (c.in-Err.ensures.refused.1 (record_form es place c.in_ok-fields.fields.items counts c.in_ok-fields.ensures.read
    c.in_ok-fields.ensures.rising))

pub fields_in-requires : goal.fields_in-requires
fields_in-requires c =
    named_asked 64 (members_view c.in_ok-members.members.now.entries) (pointer c.args.place.now) c.in_ok-ask_names.ensures
