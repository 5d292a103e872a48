use Rattle.file_handle.proofs.judging.read_as.Goals as goal

pub returns-then-words-clause-read : goal.returns-then-words-clause-read
returns-then-words-clause-read c = rw c.if-words.true c.words_in.ensures.read

pub returns-then-words-clause-cause : goal.returns-then-words-clause-cause
returns-then-words-clause-cause c = rw c.if-words.true c.words_in.ensures.cause

pub returns-else-words-clause-read : goal.returns-else-words-clause-read
returns-else-words-clause-read c = rw c.if-words.false c.dump_in.ensures.read

pub returns-else-words-clause-cause : goal.returns-else-words-clause-cause
returns-else-words-clause-cause c = rw c.if-words.false c.dump_in.ensures.cause
