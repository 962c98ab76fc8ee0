-- What the queries mean under the schema of a store.
use Rattle.std.proofs.Common.{◌≡◌, ℕ, List, [], ◌∷◌, codes, pos, negsuc, false, None, refl}
use Rattle.sqlite.specs.declared.types.Value.TheVariants.{Int}
use Rattle.sqlite.specs.Term.{Term, lit, col}
use Rattle.sqlite.specs.Query.{Query, inner, end}
use Rattle.sqlite.specs.Command.TheVariants.{Select}
use Rattle.sqlite_tied.specs.Compute.{everything}
use Rattle.sqlite.specs.Listing.{understood, reads_listing}
use Rattle.sqlite.proofs.Callers.{IsPlain, command_of}
use Rattle.store_tables.specs.Tables.{stable_schema}

abbrev pub plain_query : ℕ → List Term → Query
plain_query tree project = record {
  from = inner tree end;
  filter = [];
  group = None;
  project = project;
  distinct = false;
  collations = [];
  order = [];
  limit = lit (Int (negsuc 0));
  offset = lit (Int (pos 0));
}

-- what is known of a text that is such a query
pub record IsQuery (sql : List ℕ) (q : Query) : Type 0 where
  pub names : List (List ℕ)
  pub is : command_of (understood stable_schema sql) ≡ Select (record { lets = []; body = q }) names
  pub plain : IsPlain (understood stable_schema sql)
  pub unlisted : reads_listing stable_schema sql ≡ false

-- all of `meta`, each row with its rowid
pub meta_query : IsQuery (codes "SELECT rowid, k, v FROM meta") (plain_query 0 (col 1 0 ∷ col 1 1 ∷ col 1 2 ∷ []))
unfolding understood everything
meta_query = record { names = codes "rowid" ∷ codes "k" ∷ codes "v" ∷ []; is = refl; plain = (refl, refl); unlisted = refl }

pub base_query : IsQuery (codes "SELECT obj, val FROM base") (plain_query 2 (col 1 0 ∷ col 1 2 ∷ []))
unfolding understood everything
base_query = record { names = codes "obj" ∷ codes "val" ∷ []; is = refl; plain = (refl, refl); unlisted = refl }

pub homes_query : IsQuery (codes "SELECT top, home FROM prepared") (plain_query 3 (col 1 0 ∷ col 1 2 ∷ []))
unfolding understood everything
homes_query = record { names = codes "top" ∷ codes "home" ∷ []; is = refl; plain = (refl, refl); unlisted = refl }

pub values_query : IsQuery (codes "SELECT top, obj, val FROM prepared_val") (plain_query 4 (col 1 1 ∷ col 1 2 ∷ col 1 3 ∷ []))
unfolding understood everything
values_query = record { names = codes "top" ∷ codes "obj" ∷ codes "val" ∷ []; is = refl; plain = (refl, refl); unlisted = refl }

pub deltas_query : IsQuery (codes "SELECT top, obj, add_by FROM prepared_delta") (plain_query 7 (col 1 1 ∷ col 1 2 ∷ col 1 3 ∷ []))
unfolding understood everything
deltas_query = record { names = codes "top" ∷ codes "obj" ∷ codes "add_by" ∷ []; is = refl; plain = (refl, refl); unlisted = refl }

pub decided_query : IsQuery (codes "SELECT top FROM decided") (plain_query 6 (col 1 0 ∷ []))
unfolding understood everything
decided_query = record { names = codes "top" ∷ []; is = refl; plain = (refl, refl); unlisted = refl }
