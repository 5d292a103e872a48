use Rattle.std.proofs.Common.{◌≡◌, ◌-◌, ◌++◌, ℕ, List, take, drop, sym, subst, rules, arith}
use Rattle.std.proofs.iter.Serving.{serving}
use Rattle.pinned_heap.specs.Parts.{ArePartTables, IsPartSlid}
use Rattle.pinned_heap.proofs.Joining.{back-tables, front-tables, joined}
use Rattle.pinned_heap.proofs.parts.+fn-slide_parts-join_mut+arg2+fn-slide_parts-join_mut+arg3+slide_parts.Goals as goal

pub join_mut-requires-after_bounds : goal.join_mut-requires-after_bounds
join_mut-requires-after_bounds g t c κs within =
    let e = c.args.edition in
    let heads = c.args.heads.now in
    let bits = c.args.bits.now in
    let stays = c.args.stays.now in
    let low = c.args.low in
    let old = c.args.part.now in
    let cut = c.in-Some.cut in
    let tables = c.requires.tables in
    let inside = c.in-Some.ensures.inside in
    let front = c.split_at_mut-front.result.0.now in
    let back = c.split_at_mut-front.result.1.now in
    let front_is : front ≡ take (cut - low) old = c.split_at_mut-front.ensures.front in
    let back_is : back ≡ drop (cut - low) old = c.split_at_mut-front.ensures.back in
    let one : ArePartTables e heads bits stays low front = subst (ArePartTables e heads bits stays low) (sym front_is) (front-tables e heads bits stays low old tables cut inside.0 inside.1 inside.2) in
    let other : ArePartTables e heads bits stays cut back = subst (ArePartTables e heads bits stays cut) (sym back_is) (back-tables e heads bits stays low old tables cut inside.0 inside.1 inside.2) in
    grind (serving, arith, one, other)

pub returns : goal.returns
returns g t c =
    let e = c.args.edition in
    let heads = c.args.heads.now in
    let bits = c.args.bits.now in
    let stays = c.args.stays.now in
    let low = c.args.low in
    let old = c.args.part.now in
    let cut = c.in-Some.cut in
    let tables = c.requires.tables in
    let inside = c.in-Some.ensures.inside in
    let front = c.split_at_mut-front.result.0.now in
    let back = c.split_at_mut-front.result.1.now in
    let front_is : front ≡ take (cut - low) old = c.split_at_mut-front.ensures.front in
    let back_is : back ≡ drop (cut - low) old = c.split_at_mut-front.ensures.back in
    let whole : (one other : List ℕ) → IsPartSlid e heads bits stays low front one → IsPartSlid e heads bits stays cut back other → IsPartSlid e heads bits stays low old (one ++ other) =
    λ one other first second. joined e heads bits stays low old tables cut inside.0 inside.1 inside.2 one other
    (subst (λ (xs : List ℕ). IsPartSlid e heads bits stays low xs one) front_is first)
    (subst (λ (xs : List ℕ). IsPartSlid e heads bits stays cut xs other) back_is second) in
    whole c.front-1.given.0 c.back-1.given.0 (search rules) (search rules)
