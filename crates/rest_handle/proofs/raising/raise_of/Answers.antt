use Rattle.std.proofs.Common.{inl}
use Rattle.rest_handle.proofs.raising.raise_of.Goals as goal

pub returns-in-Ok : goal.returns-in-Ok
returns-in-Ok c =
    let e = c.in-Ok.ensures in
    inl (
      c.done.ensures,
      record {
        raisable = e.raisable;
        watermark = e.watermark;
        survived = e.survived;
        old = e.old;
        starts = e.starts;
        all = e.all;
        starts_stay = e.starts_stay;
        room = e.room;
      },
    )
