-- What contracts see of a store in memory.
use Rattle.std.specs.Prelude.{◌≡◌, ℕ, true, Some}
use Rattle.stable_store.specs.Stored.{Stored}
use Rattle.stable_store.specs.Calls.{View}
use Rattle.stable_store.specs.Held.{held}
use Rattle.stable_store.specs.declared.plain.PlainStable.{PlainStable}

-- it has this content, and no device can fail it or shut it
abbrev pub kept_in_memory : Stored → ℕ → View
kept_in_memory content failures = record {
  content = content;
  holds_content = true;
  failures = failures;
  is_known = true;
  is_honest = Unit {0};
  is_up = Unit {0};
  may_leave = λ left. left ≡ Some content;
}

abbrev pub plain_view : PlainStable → View
plain_view s = kept_in_memory (held s.kept) s.failures
