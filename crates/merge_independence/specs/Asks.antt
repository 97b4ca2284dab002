-- A step by its two numbers.
use Rattle.std.specs.Prelude.{ℕ}
use Rattle.rules.specs.Step.{Event}

abbrev pub event : ℕ → ℕ → Event
event kind node = record { kind = kind; node = node }
