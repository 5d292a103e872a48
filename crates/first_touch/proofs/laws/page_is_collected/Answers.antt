use Rattle.first_touch.proofs.Whole.{page_of}
use Rattle.first_touch.proofs.laws.page_is_collected.Goals as goal

pub returns : goal.returns
returns c = λ asked heap k found same. page_of asked heap k found same
