-- What a handle has of the marking of a heap by many threads.
use Rattle.std.specs.Prelude.{◌≡◌}
use Rattle.mark_job.specs.Met.{Begun, KnownMet}
use Rattle.handle_base.specs.declared.marker.Marker.{Marker}

-- how a marking began, and which objects one handle knows to be met
pub record Knowing : Type 0 where
  pub begun : Begun
  pub known : KnownMet

abbrev pub knows : Begun → KnownMet → Knowing
knows begun known = record { begun = begun; known = known }

abbrev pub knowing : Marker → Knowing
knowing marker = knows marker.marking.value marker.met

-- what the handle knows is of its own marking
abbrev pub IsOwnMet : Knowing → Type 0
IsOwnMet m = m.known.table ≡ m.begun.table
