-- What logs show, and their room.
use Rattle.std.specs.Prelude.{◌≤◌, ◌+◌, ℕ, List, map, reverse, vec_len, vec_capacity}
use Rattle.std.specs.HashMap as hash
use Rattle.std.specs.HashSet as bag
use Rattle.action_names.specs.Names.{Name}
use Rattle.orphans.specs.declared.log.Abort.{Abort}
use Rattle.orphans.specs.declared.log.Log.{Log}
use Rattle.orphans.specs.declared.counts.Counts.{Counts}

-- which action aborted
abbrev pub name_of : Abort → Name
name_of abort = abort.name

abbrev pub names_of : List Abort → List Name
names_of aborts = map name_of aborts

-- the names, the newest first
abbrev pub known_names : Log → List Name
known_names log = reverse log.names.items

-- there is room for so many more names
pub record HasRoom (log : Log) (more : ℕ) : Type 0 where
  pub names : vec_len log.names + more ≤ vec_capacity log.names
  pub paths : more ≤ bag.spare log.paths

-- guardians with counts, the newest first
abbrev pub known_counts : Counts → List (ℕ × ℕ)
known_counts counts = reverse counts.log.items

-- there is room for so many more counts
pub record HasCountRoom (counts : Counts) (more : ℕ) : Type 0 where
  pub log : vec_len counts.log + more ≤ vec_capacity counts.log
  pub greatest : more ≤ hash.spare counts.greatest
