-- Which events of a run a picture shows.
use Rattle.std.specs.Prelude.{ℕ, suc, Bool, ◌+◌, ◌-◌, ◌&&◌, nat_le, min, max, Option, Some, None, unwrap_or}
use Rattle.picture.specs.declared.window.Window.{Window}
use Rattle.picture.specs.declared.window.Span.{Span}

-- how many events a picture shows at most
abbrev pub max_shown : ℕ
max_shown = 2000

-- the last event that may be shown, of so many
abbrev pub end_of : Option ℕ → ℕ → ℕ
end_of to count = min (unwrap_or to count) count

-- what is shown up to this event: from the event that is asked for, or else the newest
abbrev pub span_to : Option ℕ → ℕ → Span
span_to None end = record { first = suc (end - max_shown); last = end }
span_to (Some from) end = record { first = max from 1; last = min end (max from 1 + 1999) }

-- which events are shown of so many
abbrev pub span_of : Window → ℕ → Span
span_of window count = span_to window.from (end_of window.to count)

-- the event of this number is shown
abbrev pub is_shown : Span → ℕ → Bool
is_shown span n = nat_le span.first n && nat_le n span.last
