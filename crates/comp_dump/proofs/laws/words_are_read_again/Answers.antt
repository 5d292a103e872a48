use Rattle.comp_dump.proofs.LeftWords.{words_again, words_longer, words_stored}
use Rattle.comp_dump.proofs.laws.words_are_read_again.Goals as goal

pub returns-clause-again : goal.returns-clause-again
returns-clause-again c = words_again

pub returns-clause-more : goal.returns-clause-more
returns-clause-more c = words_longer

pub returns-clause-stored : goal.returns-clause-stored
returns-clause-stored c = words_stored
