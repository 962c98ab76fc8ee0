use Rattle.std.proofs.Common.{◌≡◌, [], ◌∷◌, ◌++◌, Ok, Some, string_bytes, subst, sym, ap, ◌∙◌, arith, rules}
use Rattle.std.proofs.lemmas.Grind.{common_steps}
use Rattle.serde_json.specs.View.{view, members_view}
use Rattle.serde_json.proofs.Views.{Entry}
use Rattle.values.specs.declared.variant.Tag.{Tag}
use Rattle.values.specs.Words.{IsIdentifier}
use Rattle.script_model.specs.Reading.{and_then}
use Rattle.script_model.specs.Shapes.{kind_in}
use Rattle.script_model.specs.ContentReading.{tags_in, tag_list}
use Rattle.script_parts.specs.Places.{pointer}
use Rattle.script_parts.proofs.Asked.{need_some}
use Rattle.script_parts.proofs.Forms.{tags_rise, tags_form, names_asked, tag_list_read}
use Rattle.script_parts.proofs.Listed.{tags_more}
use Rattle.script_parts.proofs.Named.{first_named, named_asked, tags_named}
use Rattle.script_parts.proofs.contents.tags_in.Goals as goal

pub loop-name-preserved : goal.loop-name-preserved
loop-name-preserved c =
    let place = pointer c.args.place.now in
    let done = c.loop-name.tags.items in
    let e : Entry = (c.in-Some.name.now, c.in-Some.json.now) in
    let t : Tag = record { name = string_bytes e.0; kind = c.in_ok-kind.kind } in
    let read : kind_in (view e.1) ≡ Some c.in_ok-kind.kind =
    sym c.kind_in.ensures ∙ need_some c.kind_in.result _ _ _ c.in_ok-kind.ensures in
    let pushed : c.push.new.self.items ≡ done ++ t ∷ [] = search rules in
    record {
      read = c.loop-name.invariant.read ∙ ap (λ es. and_then (tags_in (members_view es) place) (λ xs. Ok (done ++ xs))) c.in-Some.ensures.steps
          ∙ tags_more e c.next.new.self place done c.in_ok-kind.kind read
          ∙ ap (λ ts. and_then (tags_in (members_view c.next.new.self) place) (λ xs. Ok (ts ++ xs))) (sym pushed);
      named = (first_named e c.next.new.self _ c.in-Some.ensures.steps c.loop-name.invariant.named).1;
    }

pub identifier-requires : goal.identifier-requires
identifier-requires c =
    let e : Entry = (c.in-Some.name.now, c.in-Some.json.now) in
    subst (λ s. IsIdentifier s) (sym c.as_str-in-loop-name.ensures.value)
    (first_named e c.next.new.self _ c.in-Some.ensures.steps c.loop-name.invariant.named).0

pub returns-clause-form : goal.returns-clause-form
returns-clause-form c =
    let place = pointer c.args.place.now in
    let ts = c.loop-name.tags.items in
    let es = c.in_ok-members.members.now.entries in
    let whole : tag_list (view c.args.json.now) place ≡ Ok ts = first_of (search rules, grind (arith, common_steps)) in
    let read = tag_list_read (view c.args.json.now) (members_view es) place ts c.in_ok-members.ensures c.in_ok-ask_names.ensures whole in
    tags_form es place ts (names_asked 64 (members_view es) place c.in_ok-ask_names.ensures) read
    (tags_rise es place ts read c.iter-name-items.ensures.ordered)

pub returns-clause-named : goal.returns-clause-named
returns-clause-named c =
    let place = pointer c.args.place.now in
    let ts = c.loop-name.tags.items in
    let es = c.in_ok-members.members.now.entries in
    let whole : tag_list (view c.args.json.now) place ≡ Ok ts = first_of (search rules, grind (arith, common_steps)) in
    tags_named es place ts (named_asked 64 (members_view es) place c.in_ok-ask_names.ensures)
    (tag_list_read (view c.args.json.now) (members_view es) place ts c.in_ok-members.ensures c.in_ok-ask_names.ensures whole)
