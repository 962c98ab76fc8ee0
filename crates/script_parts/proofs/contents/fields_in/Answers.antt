use Rattle.std.proofs.Common.{◌≡◌, [], ◌∷◌, ◌++◌, Ok, None, string_bytes, append-nil, subst, sym, ap, ◌∙◌, rules}
use Rattle.serde_json.specs.View.{view, members_view}
use Rattle.serde_json.proofs.Views.{Entry}
use Rattle.values.specs.declared.record.Field.{Field}
use Rattle.values.specs.Words.{IsIdentifier}
use Rattle.script_model.specs.Reading.{and_then, step}
use Rattle.script_model.specs.ContentReading.{fields_in, value_in}
use Rattle.script_parts.specs.Places.{pointer}
use Rattle.script_parts.proofs.Forms.{fields_rise}
use Rattle.script_parts.proofs.Listed.{fields_more}
use Rattle.script_parts.proofs.Named.{first_named}
use Rattle.script_parts.proofs.contents.fields_in.Goals as goal

pub loop-name-preserved : goal.loop-name-preserved
loop-name-preserved c =
    let place = pointer c.args.place.now in
    let done = c.loop-name.fields.items in
    let e : Entry = (c.in-Some.name.now, c.in-Some.json.now) in
    let f : Field = record { name = string_bytes e.0; value = c.in_ok-value.value } in
    let read : value_in None (view e.1) (step place (string_bytes e.0)) ≡ Ok c.in_ok-value.value = search rules in
    let pushed : c.push.new.self.items ≡ done ++ f ∷ [] = search rules in
    record {
      read = c.loop-name.invariant.read ∙ ap (λ es. and_then (fields_in (members_view es) place) (λ xs. Ok (done ++ xs))) c.in-Some.ensures.steps
          ∙ fields_more e c.next.new.self place done c.in_ok-value.value read
          ∙ ap (λ fs. and_then (fields_in (members_view c.next.new.self) place) (λ xs. Ok (fs ++ xs))) (sym pushed);
      named = (first_named e c.next.new.self _ c.in-Some.ensures.steps c.loop-name.invariant.named).1;
    }

pub identifier-requires : goal.identifier-requires
identifier-requires c =
    let e : Entry = (c.in-Some.name.now, c.in-Some.json.now) in
    subst (λ s. IsIdentifier s) (sym c.as_str-in-loop-name.ensures.value)
    (first_named e c.next.new.self _ c.in-Some.ensures.steps c.loop-name.invariant.named).0

pub returns-clause-rising : goal.returns-clause-rising
returns-clause-rising c =
    let place = pointer c.args.place.now in
    let fs = c.loop-name.fields.items in
    let es = c.args.members.now.entries in
    let read : fields_in (members_view es) place ≡ Ok fs =
    c.loop-name.invariant.read ∙ ap (λ ds. and_then (fields_in (members_view ds) place) (λ xs. Ok (fs ++ xs))) c.in-None.ensures.steps.0
    ∙ ap Ok (append-nil fs) in
    fields_rise es place fs read c.iter-name-items.ensures.ordered
