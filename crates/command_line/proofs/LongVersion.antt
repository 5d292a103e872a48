-- The words that ask for the long version are no command.
use Rattle.std.proofs.Common.{◌≡◌, ◌∙◌, ℕ, ◌&&◌, Bool, true, false, List, [], ◌∷◌, ap, bytes_eq, codes, refl, sym}
use Rattle.command_line.specs.AskedTasks.{AsksCommand, AsksNoCommand, is_long}
use Rattle.command_line.specs.declared.words.Task.{Task}
use Rattle.command_line.specs.declared.words.Task.TheVariants.{Plan, Word, Replay, Race, Compact, Audit, Next, Mark, Collect, Moved, Map}

-- words that begin with another name do not ask for it
begins_otherwise : (name : List ℕ) (rest : List (List ℕ)) → bytes_eq name (codes "--version") ≡ false → is_long (name ∷ rest) ≡ false
begins_otherwise name [] other = refl
begins_otherwise name (second ∷ []) other = ap (λ (b : Bool). b && bytes_eq second (codes "--long")) other
begins_otherwise name (second ∷ third ∷ more) other = refl

named_otherwise : (words : List (List ℕ)) → is_long words ≡ true → (name : List ℕ) (rest : List (List ℕ)) → words ≡ name ∷ rest
    → bytes_eq name (codes "--version") ≡ false → ⊥
named_otherwise words long name rest is other =
    let impossible : true ≡ false = sym long ∙ (ap is_long is ∙ begins_otherwise name rest other) in cc

pub long_is_none : (words : List (List ℕ)) → is_long words ≡ true → AsksNoCommand words
long_is_none words long (Plan image large) asks = named_otherwise words long _ _ asks.is_command.begin refl
long_is_none words long (Word image index large) asks = named_otherwise words long _ _ asks.is_command.begin refl
long_is_none words long (Replay run) asks = named_otherwise words long _ _ asks.is_command.begin refl
long_is_none words long (Race run) asks = named_otherwise words long _ _ asks.is_command.begin refl
long_is_none words long (Compact image dump n large) asks = named_otherwise words long _ _ asks.is_command.begin refl
long_is_none words long (Audit run) asks = named_otherwise words long _ _ asks.is_command.begin refl
long_is_none words long (Next run) asks = named_otherwise words long _ _ asks.is_command.begin refl
long_is_none words long (Mark image new n large) asks = named_otherwise words long _ _ asks.is_command.begin refl
long_is_none words long (Collect image new n large) asks = named_otherwise words long _ _ asks.is_command.begin refl
long_is_none words long (Moved image moved large) asks = named_otherwise words long _ _ asks.is_command.begin refl
long_is_none words long (Map run) asks = named_otherwise words long _ _ asks.is_command.begin refl
long_is_none words long other asks = asks
