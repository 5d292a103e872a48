-- What a handle keeps may go to another thread. Of most types the check finds that itself; the table in which pages lie
-- at the end has rows of places and rights to free them, which any thread may use.
use Rattle.std.specs.Prelude.{Bool, true, false, List, [], ◌∷◌}
use mir.Syntax.{Ty, ty_array}
use mir.Raw.{raw}
use base.Fml.{Fml}
use base.Shift.{Keyless}
use denote.RattleType.{RattleType}
use denote.Memory.{lone}
use denote.RawPtr.{Ptr, block_ptr, null_ptr, room_for, in_block, ◌+ₚ◌}
use denote.Builtin.{RawPtr, usize, u64}
use denote.Struct.Struct.{exits_of, Struct}
use denote.Struct.Declared as S
use denote.Struct.Owning.{shape, fields, to}
use denote.Param.Send.{IsSend, AllSend, owning_send, struct_send, sendable}
use denote.Param.SendFields.{declared_send}
use Rattle.std.proofs.Crossing as heap
use Rattle.std_alloc.proofs.SendSync.{quiet, lies}
use Rattle.std_heap.specs.contracts.Global as Heap
use Rattle.std_heap.specs.contracts.GlobalAllocator.TheImpl.{ghosts}
use Rattle.core.specs.Mem.Slots.Ownership.{bytes_of, slot, slots}
use Rattle.core.specs.contracts.slots.Lease as Lease
use Rattle.core.specs.contracts.slots.Slots as Slots
use Rattle.atomic_table.specs.contracts.owned.Closed as Closed
use Rattle.handle_base.specs.contracts.kept.Kept as Kept
use Rattle.comp_crew.specs.contracts.finishing.Ended as Ended
use Rattle.comp_cycles.specs.contracts.finished.Finished as Finished
use Rattle.cell_steps.specs.contracts.closed_pages.ClosedPages as Pages
use Rattle.cell_steps.specs.contracts.closed_pages.ClosedPages.TheInside as Inside
use Rattle.core.specs.contracts.option.Option as Option
use Rattle.comp_journal.specs.contracts.kept_log.KeptLog as Log
use Rattle.comp_journal.proofs.kept_log.KeptLog.TheSendSync as log
use Rattle.heap_layout.proofs.heap.MarkedHeap.TheSendSync as marked
use Rattle.comp_crew.proofs.bench.Bench.TheSendSync as bench
use Rattle.comp_crew.proofs.member.Member.TheSendSync as member
use Rattle.page_plan.proofs.plan.Plan.TheSendSync as plan
use Rattle.stopped_heap.proofs.growth.Growth.TheSendSync as growth
use Rattle.stopped_heap.proofs.lane.Lane.TheSendSync as lane
use Rattle.stopped_heap.proofs.looks.Looks.TheSendSync as looks
use Rattle.stopped_heap.proofs.places.Places.TheSendSync as found
use Rattle.stopped_heap.proofs.tables.Tables.TheSendSync as tables
use Rattle.young_heap.proofs.old_tables.OldTables.TheSendSync as old_tables
use Rattle.mark_job.proofs.job.Job.TheSendSync as job
use Rattle.mark_job.proofs.heads.Met.TheSendSync as met
use Rattle.mark_job.proofs.marking.Marking.TheSendSync as marking
use Rattle.first_touch.proofs.turns.Turns.TheSendSync as turns
use denote.Param.Send.{recorded_send, enum_send}
use denote.Enum.Declared as E
use denote.Enum.Enum.{Enum}
use Rattle.core.proofs.option.Option.TheSendSync as option
use Rattle.std_alloc.specs.contracts.arc.Arc as Arc
use Rattle.page_plan.specs.contracts.plan.Plan as Plan
use Rattle.stopped_heap.specs.contracts.places.Places as Places
use Rattle.mark_job.specs.contracts.job.Job as Job
use Rattle.mark_job.specs.contracts.marking.Marking as Marking
use Rattle.first_touch.specs.contracts.turns.Turns as Turns
use Rattle.handle_base.specs.contracts.marker.Marker as Marker
use Rattle.handle_base.specs.contracts.pages.Has as Has
use Rattle.handle_base.specs.contracts.pages.Paging as Paging
use Rattle.handle_base.proofs.pages.Has.TheSendSync as has

room : (τ : Ty) (p : Ptr) → Keyless (room_for τ p)
room τ (block_ptr b o) = tt
room τ null_ptr = tt

inside : (p : Ptr) (F : Fml) → Keyless F → Keyless (in_block p F)
inside (block_ptr b o) F k = k
inside null_ptr F k = tt

pointer : IsSend RawPtr
pointer = search sendable

number : IsSend usize
number = search sendable

module _ (R : RattleType) where
  -- the right to free a block of the heap
  pub lease_send : IsSend (Lease.the_row R Heap.the_row ghosts)
  lease_send =
      let O = Lease.the_type R Heap.the_row ghosts in
      let all : AllSend (fields O) = (pointer, (number, (search sendable, tt))) in
      owning_send O all (λ d. heap.frees.frees d.alloc (raw (ty_array (lone R.mir) d.len)) d.ptr) (λ k. quiet (to O) (exits_of k (fields O)) ((struct_send (shape O) all).leaving k))

  module _ (s : IsSend R) where
    place : (f : Bool) (p : Ptr) (x : R.Denot) → Keyless (slot R f p x)
    place true p x = lies R s p x
    place false p x = room (raw (lone R.mir)) p

    places : (p : Ptr) (xs : List R.Denot) (fs : List Bool) → Keyless (slots R p xs fs)
    places p [] fs = tt
    places p (x ∷ xs) [] = tt
    places p (x ∷ xs) (f ∷ fs) = (place f p x, places (p +ₚ bytes_of R) xs fs)

    -- a row of places
    pub slots_send : IsSend (Slots.the_row R)
    slots_send =
        let O = Slots.the_type R in
        let all : AllSend (fields O) = (pointer, (number, tt)) in
        owning_send O all (λ d. (tt, inside d.ptr _ (places d.ptr d.items d.filled))) (λ k. quiet (to O) (exits_of k (fields O)) ((struct_send (shape O) all).leaving k))

-- a table after all have left it
closed_send : (R : RattleType) → IsSend R → IsSend (Closed.the_row R Heap.the_row ghosts)
closed_send R s = declared_send (Closed.the_type R Heap.the_row ghosts) (slots_send u64 (search sendable), (slots_send R s, (lease_send u64, (lease_send R, (heap.send, tt)))))

-- a page's slot of that table, and the pages at the end
slot_send : IsSend (Option.the_row Log.the_row)
slot_send = option.the_send Log.the_row log.the_send

inside_send : IsSend Inside.the_row
inside_send = declared_send Inside.the_type (closed_send (Option.the_row Log.the_row) slot_send, (number, tt))

pages_send : IsSend Pages.the_row
pages_send = search (sendable, inside_send)

-- the finished heap, and the end of a crew, alone and as a field
finished_send : IsSend Finished.the_row
finished_send = search (sendable, heap.crosses, pages_send) depth 20

arc_send : IsSend (Arc.the_row Plan.the_row Heap.the_row ghosts)
arc_send = heap.Arc-send Plan.the_row plan.the_send plan.the_sync

ended_send : IsSend Ended.the_row
ended_send = declared_send Ended.the_type (arc_send, (finished_send, tt))

finished_field_send : IsSend (Struct (S.shape Finished.the_type))
finished_field_send = search (sendable, heap.crosses, pages_send) depth 20

ended_field_send : IsSend (Struct (S.shape Ended.the_type))
ended_field_send = struct_send (S.shape Ended.the_type) (arc_send, (finished_field_send, tt))

-- shares of a survey and of a job
survey_send : IsSend (Arc.the_row Places.the_row Heap.the_row ghosts)
survey_send = heap.Arc-send Places.the_row found.the_send found.the_sync

job_send : IsSend (Arc.the_row Job.the_row Heap.the_row ghosts)
job_send = heap.Arc-send Job.the_row job.the_send job.the_sync

-- a share of the turns of a slide, and what its handle has of them
turns_send : IsSend (Arc.the_row Turns.the_row Heap.the_row ghosts)
turns_send = heap.Arc-send Turns.the_row turns.the_send turns.the_sync

paging_field_send : IsSend (Struct (S.shape Paging.the_type))
paging_field_send = struct_send (S.shape Paging.the_type) (turns_send, (has.the_field_send, tt))

-- a share of a marking, and what its handle knows of it
marking_send : IsSend (Arc.the_row Marking.the_row Heap.the_row ghosts)
marking_send = heap.Arc-send Marking.the_row marking.the_send marking.the_sync

marker_field_send : IsSend (Struct (S.shape Marker.the_type))
marker_field_send = struct_send (S.shape Marker.the_type) (marking_send, (met.the_send, tt))

-- what a handle keeps
pub kept_send : IsSend Kept.the_row
kept_send = recorded_send (Enum (E.shape Kept.the_type)) (Kept.the_type).D (Kept.the_type).to (Kept.the_type).to_one
    (enum_send (E.shape Kept.the_type) (tt, ((marked.the_send, tt), ((arc_send, tt), ((bench.the_field_send, tt), ((member.the_field_send, tt), ((ended_field_send, tt), ((survey_send, tt), ((tables.the_send, tt), ((growth.the_send, tt), ((old_tables.the_send, tt), ((job_send, tt), ((paging_field_send, tt), ((looks.the_send, tt), ((marker_field_send, tt), ((lane.the_send, tt), tt))))))))))))))))
