use Rattle.first_touch.proofs.Whole.{pages_all}
use Rattle.first_touch.proofs.laws.pages_are_whole.Goals as goal

pub returns : goal.returns
returns c = λ asked heap pages found same all. pages_all asked heap pages found same all
