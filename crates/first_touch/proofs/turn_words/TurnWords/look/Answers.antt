use Rattle.first_touch.proofs.TurnSteps.{look_allowed}
use Rattle.first_touch.proofs.turn_words.TurnWords.look.Goals as goal

pub load_new_seat-requires : goal.load_new_seat-requires
load_new_seat-requires c =
    let table = c.args.self.now.table.shared in
    (c.requires, look_allowed table.key table.table_id.slots c.args.k)
