use Rattle.std.proofs.Common.{◌+◌, ◌*◌, ◌≤◌, ℕ, length, sym, refl, ap, ◌∙◌, arith, append-nil, ◌++◌, List}
use Rattle.std.specs.List.{flat_map}
use Rattle.std.proofs.lemmas.List.{take_all}
use Rattle.heap_layout.specs.Encoding.{eight_bytes}
use Rattle.heap_layout.proofs.Numbers.{pieces_more, eight_bytes-read}
use Rattle.heap_layout.proofs.image.push_words.Goals as goal

pub loop-i-init : goal.loop-i-init
loop-i-init c = record { bytes = sym (append-nil _); len = omega arith; capacity = refl }

pub loop-i-preserved : goal.loop-i-preserved
loop-i-preserved c =
    let old = c.args.words.now.items in
    let done = c.loop-i.words.items in
    let bytes = c.args.bytes.now in
    let i = c.loop-i.i in
    let n = c.read_u64.result in
    let within : 8 * i + 8 ≤ length bytes = omega arith in
    let new = eight_bytes-read bytes (8 * i) _ n (λ k. omega (arith, c.type_inv.bytes k)) within (omega arith) c.read_u64.ensures in
    record {
      bytes = ap (flat_map eight_bytes) c.push_reserved.ensures.items ∙ pieces_more eight_bytes 8 i n (flat_map eight_bytes old) done bytes new c.loop-i.invariant.bytes;
      len = omega arith;
      capacity = c.push_reserved.ensures.capacity ∙ c.loop-i.invariant.capacity;
    }

pub returns-clause-bytes : goal.returns-clause-bytes
returns-clause-bytes c =
    let old = flat_map eight_bytes c.args.words.now.items in
    let whole : length c.args.bytes.now ≤ 8 * c.loop-i.i = omega arith in
    c.loop-i.invariant.bytes ∙ ap (λ (all : List ℕ). old ++ all) (take_all (8 * c.loop-i.i) c.args.bytes.now whole)
