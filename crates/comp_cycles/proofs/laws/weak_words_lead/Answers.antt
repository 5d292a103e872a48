use Rattle.comp_cycles.proofs.WeakWords.{weak_words_lead}
use Rattle.comp_cycles.proofs.laws.weak_words_lead.Goals as goal

pub returns : goal.returns
returns c = λ u journals roots marks closed can none. weak_words_lead u journals closed can roots marks none
