-- What was asked of the names of members.
use Rattle.std.proofs.Common.{◌≡◌, ◌∙◌, ap, subst, sym, ℕ, Bool, List, [], ◌∷◌, if◌then◌else◌, Ok, Some, true, false, refl, string_bytes}
use Rattle.std.specs.List.{AllByRecursion}
use Rattle.std.proofs.lemmas.Bool.{and_parts}
use Rattle.serde_json.specs.Data.{Members}
use Rattle.serde_json.specs.View.{view, members_view}
use Rattle.serde_json.proofs.Views.{Entry}
use Rattle.values.specs.declared.variant.Tag.{Tag}
use Rattle.values.specs.declared.value.Kind.{Kind}
use Rattle.values.specs.Tags.{tag_kind}
use Rattle.values.specs.Words.{IsIdentifier, is_identifier, same_bytes}
use Rattle.script_model.specs.declared.fault.FaultKind.TheVariants as is
use Rattle.script_model.specs.Reading.{ask, need, step}
use Rattle.script_model.specs.Shapes.{are_named, kind_in}
use Rattle.script_model.specs.ContentReading.{ask_names, tags_in}
use Rattle.script_parts.proofs.Asked.{and_then_ok, ask_true, ok_is}
use Rattle.script_parts.proofs.Held.{same_text}

-- the first member has a name, and so have the others
pub first_named : (e : Entry) (rest all : List Entry) → all ≡ e ∷ rest → are_named (members_view all) ≡ true
    → IsIdentifier (string_bytes e.0) × (are_named (members_view rest) ≡ true)
first_named e rest all is named =
    and_parts (is_identifier (string_bytes e.0)) (are_named (members_view rest)) (ap (λ es. are_named (members_view es)) (sym is) ∙ named)

-- members whose names were asked have names
pub named_asked : (most : ℕ) (ms : Members) (place : List ℕ) → ask_names most ms place ≡ Ok tt → are_named ms ≡ true
named_asked most ms place e = ask_true _ _ _ (and_then_ok (ask (are_named ms) is.Shape place) _ tt e).1

-- the tags that are read from members with names have names
pub tags_named : (es : List Entry) (place : List ℕ) (ts : List Tag) → are_named (members_view es) ≡ true
    → tags_in (members_view es) place ≡ Ok ts → AllByRecursion (λ t. IsIdentifier t.name) ts
tags_named [] place ts named e = subst (AllByRecursion (λ t. IsIdentifier t.name)) (ok_is [] ts e) tt
tags_named (x ∷ es) place ts named e =
    let first = and_then_ok (need (kind_in (view x.1)) is.Shape (step place (string_bytes x.0))) _ ts e in
    let rest = and_then_ok (tags_in (members_view es) place) _ ts first.2 in
    let parts = and_parts (is_identifier (string_bytes x.0)) (are_named (members_view es)) named in
    subst (AllByRecursion (λ t. IsIdentifier t.name)) (ok_is _ ts rest.2) (parts.0, tags_named es place rest.0 parts.1 rest.1)

-- a tag that is found among such tags has a name
pub found_named : (ts : List Tag) (name : List ℕ) (k : Kind) → AllByRecursion (λ t. IsIdentifier t.name) ts → tag_kind ts name ≡ Some k
    → IsIdentifier name
found_named [] name k all e = cc
found_named (t ∷ ts) name k all e = go (same_bytes t.name name) refl (found_named ts name k all.1) e
  where
    go : (same : Bool) → same_bytes t.name name ≡ same → (tag_kind ts name ≡ Some k → IsIdentifier name) → (if same then Some t.kind else tag_kind ts name) ≡ Some k → IsIdentifier name
    go true h f e = subst IsIdentifier (same_text t.name name (sym h)) all.0
    go false h f e = f e
