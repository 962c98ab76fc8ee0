-- What came of each sender in each of its lives.
use Rattle.std.specs.Prelude.{◌<◌, ◌+◌, ◌&&◌, ℕ, Bool, ◌-◌, ◌^◌, Option, Some, None, if◌then◌else◌, min, nat_eq}
use Rattle.std.specs.HashMap as hash
use Rattle.run_model.specs.LocalReadings.{is_of}
use Rattle.orphans.specs.declared.sent.Came.{Came}
use Rattle.orphans.specs.declared.sent.Sent.{Sent}

-- more is not counted
abbrev pub most : ℕ
most = 2 ^ 64 - 1

-- the same sender in the same life
abbrev pub same_place : (ℕ × ℕ) → (ℕ × ℕ) → Bool
same_place a b = nat_eq a.0 b.0 && nat_eq a.1 b.1

abbrev pub or_nothing : Option Came → Came
or_nothing None = record { aborts = 0; counts = 0 }
or_nothing (Some came) = came

-- what came of h in this life of it
abbrev pub came_of : Sent → ℕ → ℕ → Came
came_of sent h life = or_nothing (hash.get same_place sent.came (h, life))

-- there is a place for one more sender
abbrev pub HasPlace : Sent → Type 0
HasPlace sent = 0 < hash.spare sent.came

-- so much more came of a sender in this life of it
abbrev pub counted : Option ℕ → ℕ → ℕ → ℕ → (ℕ → ℕ → Came) → ℕ → ℕ → Came
counted sender life aborts counts came h present =
    if is_of sender life h present
    then record { aborts = min ((came h present).aborts + aborts) most; counts = min ((came h present).counts + counts) most }
    else came h present
