-- By which member a statement is read.
use Rattle.std.proofs.Common.{List, None, Ok, Option, Some, [], codes, refl, true, ℕ, ◌∷◌, ◌≡◌, ◌⊎◌, inl, inr}
use Rattle.serde_json.specs.Data.{Data, Members}
use Rattle.serde_json.specs.Find.{get_member}
use Rattle.script_model.specs.declared.fault.FaultKind.TheVariants as is
use Rattle.script_model.specs.declared.statement.Statement.{Statement}
use Rattle.script_model.specs.Reading.{Read, ask, at, fault, reads}
use Rattle.script_model.specs.Shapes.{has_only}
use Rattle.script_model.specs.Scopes.{Scope}
use Rattle.script_model.specs.StatementReading.{BodyReading, Context, abort_in, by_member, call_statement, coenter, if_in, op_statement, plain_statement, repeat_in, return_in, statement_of, top_action, unbinding}
use Rattle.script_model.proofs.Steps.{asked_ok, no_fault, same_ok, then_read}

-- a statement that was read under this name, beside no others than these
abbrev pub ReadUnder : List ℕ → List (List ℕ) → Members → (Data → Read (Statement × Scope)) → List ℕ → Statement × Scope → Type 0
ReadUnder name names ms read place r =
    (d : Data) × (get_member name ms ≡ Some d) × (has_only names ms ≡ true) × (read d place ≡ Ok r)

under : (o : Option Data) (names : List (List ℕ)) (ms : Members) (read : Data → Read (Statement × Scope))
    (otherwise : Read (Statement × Scope))
    (place : List ℕ) (r : Statement × Scope) → by_member names ms o read otherwise place ≡ Ok r
    → ((d : Data) × (o ≡ Some d) × (has_only names ms ≡ true) × (read d place ≡ Ok r)) ⊎ (otherwise place ≡ Ok r)
under None names ms read otherwise place r h = inr h
under (Some d) names ms read otherwise place r h =
    let (u, p, q) = then_read (ask (has_only names ms) is.Shape) (λ _. read d) place r h in
    inl (d, refl, asked_ok (has_only names ms) is.Shape place u p, q)

-- what was read and binds nothing
pub unbound : (scope : Scope) (read : Read Statement) (place : List ℕ) (r : Statement × Scope) → unbinding scope read place ≡ Ok r
    → (s : Statement) × (read place ≡ Ok s) × ((s, scope) ≡ r)
unbound scope read place r h = let (s, p, q) = then_read read (λ s. reads (s, scope)) place r h in (s, p, same_ok (s, scope) r q)

-- ---- the eight members

abbrev pub op_names : List (List ℕ)
op_names = codes "op" ∷ codes "into" ∷ codes "signals" ∷ []

abbrev pub call_names : List (List ℕ)
call_names = codes "call" ∷ codes "into" ∷ codes "signals" ∷ []

abbrev pub top_names : List (List ℕ)
top_names = codes "topaction" ∷ codes "signals" ∷ []

module _ (inner : BodyReading) (cx : Context) (scope : Scope) (ms : Members) where
  abbrev pub coenter_in : Data → Read (Statement × Scope)
  coenter_in d = unbinding scope (at (codes "coenter") (coenter inner cx scope d))

  abbrev pub top_in : Data → Read (Statement × Scope)
  top_in d = unbinding scope (top_action inner cx scope ms d)

  abbrev pub if_under : Data → Read (Statement × Scope)
  if_under d = unbinding scope (at (codes "if") (if_in inner cx scope d))

  abbrev pub repeat_under : Data → Read (Statement × Scope)
  repeat_under d = unbinding scope (at (codes "repeat") (repeat_in inner cx scope d))

  abbrev pub abort_under : Data → Read (Statement × Scope)
  abort_under d = unbinding scope (at (codes "abort") (abort_in d))

  abbrev pub return_under : Data → Read (Statement × Scope)
  return_under d = unbinding scope (return_in cx scope d)

  abbrev after_abort : Read (Statement × Scope)
  after_abort = by_member (codes "return" ∷ []) ms (get_member (codes "return") ms) return_under (fault is.Shape)

  abbrev after_repeat : Read (Statement × Scope)
  after_repeat = by_member (codes "abort" ∷ []) ms (get_member (codes "abort") ms) abort_under after_abort

  abbrev after_if : Read (Statement × Scope)
  after_if = by_member (codes "repeat" ∷ []) ms (get_member (codes "repeat") ms) repeat_under after_repeat

  abbrev after_coenter : Read (Statement × Scope)
  after_coenter = by_member top_names ms (get_member (codes "topaction") ms) top_in (plain_statement inner cx scope ms)

  abbrev after_call : Read (Statement × Scope)
  after_call = by_member (codes "coenter" ∷ []) ms (get_member (codes "coenter") ms) coenter_in after_coenter

  abbrev after_op : Read (Statement × Scope)
  after_op = by_member call_names ms (get_member (codes "call") ms) (call_statement inner cx scope ms) after_call

  -- a statement is read by one of them
  pub data IsReadBy (place : List ℕ) (r : Statement × Scope) : Type 0 where
    by_op : ReadUnder (codes "op") op_names ms (op_statement inner cx scope ms) place r → IsReadBy place r
    by_call : ReadUnder (codes "call") call_names ms (call_statement inner cx scope ms) place r → IsReadBy place r
    by_coenter : ReadUnder (codes "coenter") (codes "coenter" ∷ []) ms coenter_in place r → IsReadBy place r
    by_top : ReadUnder (codes "topaction") top_names ms top_in place r → IsReadBy place r
    by_if : ReadUnder (codes "if") (codes "if" ∷ []) ms if_under place r → IsReadBy place r
    by_repeat : ReadUnder (codes "repeat") (codes "repeat" ∷ []) ms repeat_under place r → IsReadBy place r
    by_abort : ReadUnder (codes "abort") (codes "abort" ∷ []) ms abort_under place r → IsReadBy place r
    by_return : ReadUnder (codes "return") (codes "return" ∷ []) ms return_under place r → IsReadBy place r

  read_plain : (place : List ℕ) (r : Statement × Scope) → plain_statement inner cx scope ms place ≡ Ok r → IsReadBy place r
  read_plain place r h = elim (under (get_member (codes "if") ms) (codes "if" ∷ []) ms if_under after_if place r h) [
    | inl u ↦ by_if u
    | inr h2 ↦ elim (under (get_member (codes "repeat") ms) (codes "repeat" ∷ []) ms repeat_under after_repeat place r h2) [
      | inl u ↦ by_repeat u
      | inr h3 ↦ elim (under (get_member (codes "abort") ms) (codes "abort" ∷ []) ms abort_under after_abort place r h3) [
        | inl u ↦ by_abort u
        | inr h4 ↦ elim (under (get_member (codes "return") ms) (codes "return" ∷ []) ms return_under (fault is.Shape) place r h4) [
          | inl u ↦ by_return u
          | inr h5 ↦ no_fault h5
        ]
      ]
    ]
  ]

  pub read_by : (place : List ℕ) (r : Statement × Scope) → statement_of inner cx scope ms place ≡ Ok r → IsReadBy place r
  read_by place r h = elim (under (get_member (codes "op") ms) op_names ms (op_statement inner cx scope ms) after_op place r h) [
    | inl u ↦ by_op u
    | inr h2 ↦ elim (under (get_member (codes "call") ms) call_names ms (call_statement inner cx scope ms) after_call place r h2) [
      | inl u ↦ by_call u
      | inr h3 ↦ elim (under (get_member (codes "coenter") ms) (codes "coenter" ∷ []) ms coenter_in after_coenter place r h3) [
        | inl u ↦ by_coenter u
        | inr h4 ↦ elim (under (get_member (codes "topaction") ms) top_names ms top_in (plain_statement inner cx scope ms) place r h4) [
          | inl u ↦ by_top u
          | inr h5 ↦ read_plain place r h5
        ]
      ]
    ]
  ]
