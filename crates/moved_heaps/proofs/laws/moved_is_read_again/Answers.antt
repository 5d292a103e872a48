use Rattle.moved_heaps.proofs.FileReading.{more_after, read_again}
use Rattle.moved_heaps.proofs.laws.moved_is_read_again.Goals as goal

pub returns-clause-again : goal.returns-clause-again
returns-clause-again c = read_again

pub returns-clause-more : goal.returns-clause-more
returns-clause-more c = more_after
