-- What the texts mean under the schema of a store.
use Rattle.std.proofs.Common.{◌≡◌, ℕ, zero, suc, List, [], ◌∷◌, codes, false, pos, negsuc, None, refl}
use Rattle.sqlite.specs.Command.{Command}
use Rattle.sqlite.specs.Command.TheVariants.{Insert, InsertOr, Delete}
use Rattle.sqlite.specs.Source.TheVariants.{Values}
use Rattle.sqlite_schema.specs.declared.command.Conflict.TheVariants.{Replace}
use Rattle.sqlite.specs.declared.types.Value.TheVariants.{Null, Int, Text}
use Rattle.sqlite.specs.Term.{Term, lit, col, op2}
use Rattle.sqlite.specs.Query.{Query, inner, end}
use Rattle.sqlite.specs.Collation.TheVariants.{Binary}
use Rattle.sqlite_sql.specs.declared.ops.BinaryOp.TheVariants.{Compare}
use Rattle.sqlite_sql.specs.declared.ops.CompareOp.TheVariants.{Eq}
use Rattle.sqlite_tied.specs.Compute.{everything}
use Rattle.sqlite.specs.Listing.{understood}
use Rattle.sqlite.proofs.Callers.{IsPlain, command_of}
use Rattle.store_tables.specs.Tables.{stable_schema}
use Rattle.store_tables.specs.Texts.{decide_text, count_text, next_text, base_text, base_run_text, discard_text, record_text, value_text, value_run_text}
use Rattle.store_tables.specs.Texts.{delta_text, forget_text}

abbrev pub key_terms : List Term
key_terms = col 0 0 ∷ lit Null ∷ []

-- rows of a key and a column, two parameters each from a place on
abbrev pub pair_terms : ℕ → ℕ → List Term
pair_terms zero at = []
pair_terms (suc rows) at = col 0 at ∷ lit Null ∷ col 0 (suc at) ∷ pair_terms rows (suc (suc at))

-- rows of a record's parts, which have the first parameter and two each from a place on
abbrev pub part_terms : ℕ → ℕ → List Term
part_terms zero at = []
part_terms (suc rows) at = lit Null ∷ col 0 0 ∷ col 0 at ∷ col 0 (suc at) ∷ part_terms rows (suc (suc at))

-- a number of `meta`, in its place
abbrev pub number_terms : ℕ → List ℕ → List Term
number_terms place name = lit (Int (pos place)) ∷ lit (Text name) ∷ col 0 0 ∷ []

abbrev pub number_command : ℕ → List ℕ → Command
number_command place name = InsertOr 0 Replace (Values (number_terms place name) 3) []

abbrev pub decide_command : Command
decide_command = InsertOr 4 Replace (Values key_terms 2) []

abbrev pub base_command : ℕ → Command
base_command rows = InsertOr 1 Replace (Values (pair_terms rows 0) 3) []

abbrev pub record_command : Command
record_command = Insert 2 (Values (pair_terms 1 0) 3)

abbrev pub value_command : ℕ → Command
value_command rows = Insert 3 (Values (part_terms rows 1) 4)

abbrev pub delta_command : Command
delta_command = Insert 5 (Values (part_terms 1 1) 4)

-- the rows of `prepared` with the key of the first parameter
abbrev pub discard_query : Query
discard_query = record {
  from = inner 3 end;
  filter = op2 (Compare Eq Binary) (col 1 0) (col 0 0) ∷ [];
  group = None;
  project = col 1 0 ∷ [];
  distinct = false;
  collations = [];
  order = [];
  limit = lit (Int (negsuc 0));
  offset = lit (Int (pos 0));
}

abbrev pub discard_command : Command
discard_command = Delete 2 (record { lets = []; body = discard_query })

-- all rows of `decided`
abbrev pub forget_query : Query
forget_query = record {
  from = inner 6 end;
  filter = [];
  group = None;
  project = col 1 0 ∷ [];
  distinct = false;
  collations = [];
  order = [];
  limit = lit (Int (negsuc 0));
  offset = lit (Int (pos 0));
}

abbrev pub forget_command : Command
forget_command = Delete 4 (record { lets = []; body = forget_query })

pub decide_is : command_of (understood stable_schema decide_text) ≡ decide_command
unfolding understood everything
decide_is = refl

pub decide_plain : IsPlain (understood stable_schema decide_text)
unfolding understood everything
decide_plain = (refl, refl)

pub count_is : command_of (understood stable_schema count_text) ≡ number_command 2 (codes "count")
unfolding understood everything
count_is = refl

pub count_plain : IsPlain (understood stable_schema count_text)
unfolding understood everything
count_plain = (refl, refl)

pub base_is : command_of (understood stable_schema base_text) ≡ base_command 1
unfolding understood everything
base_is = refl

pub base_plain : IsPlain (understood stable_schema base_text)
unfolding understood everything
base_plain = (refl, refl)

pub base_run_is : command_of (understood stable_schema base_run_text) ≡ base_command 16
unfolding understood everything
base_run_is = refl

pub base_run_plain : IsPlain (understood stable_schema base_run_text)
unfolding understood everything
base_run_plain = (refl, refl)

pub discard_is : command_of (understood stable_schema discard_text) ≡ discard_command
unfolding understood everything
discard_is = refl

pub discard_plain : IsPlain (understood stable_schema discard_text)
unfolding understood everything
discard_plain = (refl, refl)

pub record_is : command_of (understood stable_schema record_text) ≡ record_command
unfolding understood everything
record_is = refl

pub record_plain : IsPlain (understood stable_schema record_text)
unfolding understood everything
record_plain = (refl, refl)

pub value_is : command_of (understood stable_schema value_text) ≡ value_command 1
unfolding understood everything
value_is = refl

pub value_plain : IsPlain (understood stable_schema value_text)
unfolding understood everything
value_plain = (refl, refl)

pub value_run_is : command_of (understood stable_schema value_run_text) ≡ value_command 16
unfolding understood everything
value_run_is = refl

pub value_run_plain : IsPlain (understood stable_schema value_run_text)
unfolding understood everything
value_run_plain = (refl, refl)

pub forget_is : command_of (understood stable_schema forget_text) ≡ forget_command
unfolding understood everything
forget_is = refl

pub forget_plain : IsPlain (understood stable_schema forget_text)
unfolding understood everything
forget_plain = (refl, refl)

pub next_is : command_of (understood stable_schema next_text) ≡ number_command 3 (codes "next_top")
unfolding understood everything
next_is = refl

pub next_plain : IsPlain (understood stable_schema next_text)
unfolding understood everything
next_plain = (refl, refl)

pub delta_is : command_of (understood stable_schema delta_text) ≡ delta_command
unfolding understood everything
delta_is = refl

pub delta_plain : IsPlain (understood stable_schema delta_text)
unfolding understood everything
delta_plain = (refl, refl)
