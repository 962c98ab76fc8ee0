-- A row that is written in its table.
use Rattle.std.proofs.Common.{Option, Some, ap, length, set, sym, ℕ, ◌∙◌, ◌≡◌, ◌≤◌}
use Rattle.std.specs.Prelude.{slice_get}
use Rattle.roster.proofs.Changed.{written, written_past}
use Rattle.roster.specs.Tables.{Table, changed_at}
use Rattle.roster.specs.declared.entry.Row.{Row}

-- it is changed so
pub wrote : (t : Table) (f : Row → Row) (o : Option ℕ) (at : ℕ) (row new : Row) → o ≡ Some at → slice_get t.rows at ≡ Some row → new ≡ f row
    → record t { rows = set t.rows at new } ≡ changed_at f o t
wrote t f o at row new here got is =
    (λ i. record t { rows = written f t.rows at row new got is i }) ∙ sym (ap (λ p. changed_at f p t) here)

-- past the end nothing is
pub wrote_past : (t : Table) (f : Row → Row) (o : Option ℕ) (at : ℕ) → o ≡ Some at → length t.rows ≤ at → t ≡ changed_at f o t
wrote_past t f o at here past =
    sym (λ i. record t { rows = written_past f t.rows at past i }) ∙ sym (ap (λ p. changed_at f p t) here)
