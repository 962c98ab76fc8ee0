-- What a stable store contains, and what each call makes of it.
use Rattle.std.specs.Prelude.{ℕ, max, ◌+◌, List, fold, map as each, Option, Some, None}
use Rattle.std.specs.Ordering.{nat_cmp}
use Rattle.std.specs.FinMap as map
use Rattle.std.specs.FinSet as set
use Rattle.values.specs.declared.content.Content.{Content}
use Rattle.atomic_types.specs.declared.part.Part.{Part}
use Rattle.atomic_types.specs.declared.part.Part.TheVariants.{Value}
use Rattle.atomic_types.specs.Parts.{over}

-- the record of a prepared top action: its home, and the values and deltas that it would install, by rising object
-- number
pub record Record : Type 0 where
  pub home : ℕ
  pub parts : List (ℕ × Part)

-- what is installed by object number, the records by the number of the top action, the decided top actions, how many
-- recoveries were counted, and a number above those of all top actions that were ever prepared
pub record Stored : Type 0 where
  pub base : map.FinMap nat_cmp Part
  pub prepared : map.FinMap nat_cmp Record
  pub decided : set.FinSet nat_cmp
  pub count : ℕ
  pub next_top : ℕ

-- before any call
abbrev pub empty : Stored
empty =
    record { base = map.empty; prepared = map.empty; decided = set.empty; count = 0; next_top = 1 }

-- one part installed: a value takes the place of what the base had, a delta is added to it
abbrev pub put_over : ℕ → Part → map.FinMap nat_cmp Part → map.FinMap nat_cmp Part
put_over object part base = map.insert base object (over part (map.get base object))

-- parts installed one after another
abbrev pub laid : List (ℕ × Part) → map.FinMap nat_cmp Part → map.FinMap nat_cmp Part
laid parts base = fold (λ b p. put_over p.0 p.1 b) base parts

-- what a record installs, where there is one
abbrev pub installed : Option Record → map.FinMap nat_cmp Part → map.FinMap nat_cmp Part
installed None base = base
installed (Some r) base = laid r.parts base

abbrev pub after_prepare : ℕ → ℕ → List (ℕ × Part) → Stored → Stored
after_prepare top home parts s = record s {
  prepared = map.insert s.prepared top (record { home = home; parts = parts });
  next_top = max s.next_top (top + 1);
}

abbrev pub after_install : ℕ → Stored → Stored
after_install top s =
    record s { base = installed (map.get s.prepared top) s.base; prepared = map.remove s.prepared top }

abbrev pub after_discard : ℕ → Stored → Stored
after_discard top s = record s { prepared = map.remove s.prepared top }

abbrev pub after_decide : ℕ → Stored → Stored
after_decide top s = record s { decided = set.insert s.decided top }

abbrev pub after_bump : Stored → Stored
after_bump s = record s { count = s.count + 1 }

-- contents as parts
abbrev pub values_of : List (ℕ × Content) → List (ℕ × Part)
values_of contents = each (λ e. (e.0, Value e.1)) contents

-- these contents in place of those of their objects, and nothing decided
abbrev pub after_save : List (ℕ × Content) → Stored → Stored
after_save contents s = record s { base = laid (values_of contents) s.base; decided = set.empty }

-- the count that is not raised any more
abbrev pub greatest_count : ℕ
greatest_count = 9223372036854775807
