-- The texts of the numbers of `meta`, by name.
use Rattle.std.proofs.Common.{ℕ, List, codes, refl}
use Rattle.sqlite_tied.specs.Compute.{everything}
use Rattle.sqlite.specs.Listing.{understood}
use Rattle.sql_store.specs.Reading.{IsQueryText}
use Rattle.sql_store.specs.Failing.{count_query}

abbrev pub version_text : List ℕ
version_text = codes "SELECT v FROM meta WHERE k = 'version'"

abbrev pub next_text : List ℕ
next_text = codes "SELECT v FROM meta WHERE k = 'next_top'"

abbrev pub numbers_text : List ℕ
numbers_text = codes "SELECT count(*) FROM meta"

pub count_asked : IsQueryText count_query
unfolding understood everything
count_asked = record { plain = (refl, refl); unlisted = refl }

pub next_asked : IsQueryText next_text
unfolding understood everything
next_asked = record { plain = (refl, refl); unlisted = refl }

pub numbers_asked : IsQueryText numbers_text
unfolding understood everything
numbers_asked = record { plain = (refl, refl); unlisted = refl }
