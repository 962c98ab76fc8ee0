-- The limits that setups, scripts and steps have in common.
use Rattle.std.specs.Prelude.{ℕ}

-- how many guardians there are at most
abbrev pub max_guardians : ℕ
max_guardians = 1024

-- how many objects a guardian has at most
abbrev pub max_objects : ℕ
max_objects = 1024

-- how many arms are begun at once at most
abbrev pub max_arms : ℕ
max_arms = 64
