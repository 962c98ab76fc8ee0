-- What the tables of a store have in common.
use Rattle.std.specs.Prelude.{◌≡◌, ℕ, false, List, [], ◌∷◌, Some, None}
use Rattle.sqlite_value.specs.Keys.{plain}
use Rattle.sqlite.specs.Table.{Table}

-- the name, the tree and the primary key, and none of the rules that the tables of a store lack
pub record HasName (name : List ℕ) (tree : ℕ) (primary : List ℕ) (t : Table) : Type 0 where
  pub name_is : t.name ≡ name
  pub tree_is : t.tree ≡ tree
  pub primary_is : t.primary ≡ primary
  pub unchecked : t.checks ≡ []
  pub uncomputed : t.computed ≡ []
  pub unstamped : t.stamps ≡ record { places = []; terms = []; formats = [] }
  pub uncounted : t.is_counted ≡ false

-- the first column is the rowid, and there is no other key
pub record IsKeyed (t : Table) : Type 0 where
  pub key_is : t.key ≡ Some 0
  pub no_uniques : t.uniques ≡ []
  pub no_orders : t.orders ≡ []
  pub no_references : t.references ≡ []

-- the rowid is no column, and these columns are the one key
pub record HasPlainOrder (places : List ℕ) (t : Table) : Type 0 where
  pub key_is : t.key ≡ None
  pub unique : t.uniques ≡ places ∷ []
  pub order : t.orders ≡ plain ∷ []
