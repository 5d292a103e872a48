use Rattle.std.proofs.Common.{inl}
use Rattle.rest_handle.proofs.young.collect_young_by_of.Goals as goal

pub returns-in-Ok : goal.returns-in-Ok
returns-in-Ok c =
    let e = c.in-Ok.ensures in (
      e.list,
      inl (
        c.in-Ok.live,
        c.done.ensures,
        record {
          collected = e.collected;
          watermark = e.watermark;
          survived = e.survived;
          old = e.old;
          remembered = e.remembered;
          order = e.order;
          unasked_stay = e.unlisted_stay;
          below_stay = e.below_stay;
          starts_stay = e.starts_stay;
          room = e.room;
        },
        e.listed,
      ),
    )
