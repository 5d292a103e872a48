-- What holds of all that a handle keeps.
use Rattle.std.specs.Prelude.{◌≡◌, Bool, true, false, Option, Some}
use Rattle.comp_crew.specs.Benches.{IsBench}
use Rattle.comp_crew.specs.Members.{IsMember}
use Rattle.comp_crew.specs.Finishing.{IsEnded}
use Rattle.handle_base.specs.Knowing.{knowing, IsOwnMet}
use Rattle.handle_base.specs.Paged.{paged, IsOwn}
use Rattle.handle_base.specs.declared.kept.Kept.{Kept}
use Rattle.handle_base.specs.declared.kept.Kept.TheVariants.{Nothing, Heap, Plan, Crew, Mutator, Ended, Survey, Tables, Growing, Old, Job, Pages, Looks, Marking, Lane}

abbrev pub IsKept : Kept → Type 0
IsKept Nothing = Unit {0}
IsKept (Heap heap) = Unit {0}
IsKept (Plan plan) = Unit {0}
IsKept (Crew bench) = IsBench bench
IsKept (Mutator m) = IsMember m
IsKept (Ended e) = IsEnded e
IsKept (Survey survey) = Unit {0}
IsKept (Tables tables) = Unit {0}
IsKept (Growing growth) = Unit {0}
IsKept (Old old) = Unit {0}
IsKept (Job job) = Unit {0}
IsKept (Pages pages) = IsOwn (paged pages)
IsKept (Looks looks) = Unit {0}
IsKept (Marking marker) = IsOwnMet (knowing marker)
IsKept (Lane lane) = Unit {0}

-- the handle keeps this now, or what it kept before
abbrev pub KeepsIf : Bool → Kept → Option Kept → Option Kept → Type 0
KeepsIf true kept old new = new ≡ Some kept
KeepsIf false kept old new = new ≡ old
