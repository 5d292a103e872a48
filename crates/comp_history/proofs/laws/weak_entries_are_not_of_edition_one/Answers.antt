use Rattle.std.proofs.Common.{[]}
use Rattle.comp_history.proofs.WeakEntries.{weak_entry}
use Rattle.comp_history.proofs.laws.weak_entries_are_not_of_edition_one.Goals as goal

pub returns : goal.returns
returns c = λ u journals closed lawful p i e at is. weak_entry u closed p (journals p) [] tt (lawful p) i e at is
