use Rattle.std.proofs.Common.{inl}
use Rattle.rest_handle.proofs.young.collect_aging_of.Goals as goal

pub returns-in-Ok : goal.returns-in-Ok
returns-in-Ok c =
    let e = c.in-Ok.ensures in
    inl (
      c.in-Ok.live,
      c.done.ensures,
      record {
        collected = e.collected;
        aged = e.aged;
        watermark = e.watermark;
        survived = e.survived;
        old = e.old;
        remade = e.made;
        clean = e.clean;
        order = e.order;
        clean_stay = e.clean_stay;
        below_stay = e.below_stay;
        starts_stay = e.starts_stay;
        room = e.room;
      },
    )
