use Rattle.std.proofs.Common.{◌≡◌, ◌∙◌, ℕ, ◌+◌, List, ap, get_or, subst, arith}
use Rattle.heap_layout.specs.Header.{size_of}
use Rattle.heap_layout.specs.Heap.{Heap, header_at, IsClosed}
use Rattle.page_plan.proofs.Objects.{live_words-part}
use Rattle.comp_audit.proofs.Slid.{end_is}
use Rattle.comp_audit.proofs.explaining.objects.end_of.Goals as goal

pub overflow_add-result : goal.overflow_add-result
overflow_add-result c =
    let heap = c.args.plan.now in
    let closed = subst IsClosed c.heap.ensures c.marks.ensures.closed in
    let marks : c.marks.result.now ≡ heap.marks = c.marks.ensures.marks ∙ ap (λ (h : Heap). h.marks) c.heap.ensures in
    let sized : c.from.result ≡ size_of (header_at heap.edition heap.words (get_or heap.marks c.args.number 0)) =
    c.from.ensures
    ∙ c.size.ensures
    ∙ ap size_of (c.header_at.ensures
    ∙ ap (λ (h : Heap). header_at h.edition h.words (get_or c.marks.result.now c.args.number 0)) c.heap-2.ensures
    ∙ ap (λ (all : List ℕ). header_at heap.edition heap.words (get_or all c.args.number 0)) marks) in
    let end = end_is heap c.args.number c.args.begin c.from.result c.requires.known c.requires.begin sized in
    omega (arith, end, live_words-part heap closed (c.args.number + 1))

pub returns : goal.returns
returns c =
    let heap = c.args.plan.now in
    let marks : c.marks.result.now ≡ heap.marks = c.marks.ensures.marks ∙ ap (λ (h : Heap). h.marks) c.heap.ensures in
    let sized : c.from.result ≡ size_of (header_at heap.edition heap.words (get_or heap.marks c.args.number 0)) =
    c.from.ensures
    ∙ c.size.ensures
    ∙ ap size_of (c.header_at.ensures
    ∙ ap (λ (h : Heap). header_at h.edition h.words (get_or c.marks.result.now c.args.number 0)) c.heap-2.ensures
    ∙ ap (λ (all : List ℕ). header_at heap.edition heap.words (get_or all c.args.number 0)) marks) in
    end_is heap c.args.number c.args.begin c.from.result c.requires.known c.requires.begin sized
