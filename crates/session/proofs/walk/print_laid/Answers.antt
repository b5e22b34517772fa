-- `session::walk::print_laid` meets its contract. The invariant: the lines that are left, printed now, give the whole (WalkLaws: `Walked`).
use Rattle.std.proofs.Common.{◌≡◌, arith, rules, length-drop}
use Rattle.std.proofs.lemmas.List.{take_rest}
use Rattle.session.specs.Walking.{length_at}
use Rattle.session.proofs.WalkLaws.{walk_start, walk_has, walk_within, walk_step, walk_end}
use Rattle.session.proofs.walk.print_laid.Goals as goal

pub loop-init : goal.loop-init
loop-init c = walk_start _ _ _ _ c.requires.0 c.requires.1

pub bounds-rest-0 : goal.bounds-rest-0
bounds-rest-0 c = omega (arith, walk_has c.loop.invariant (omega arith))

pub bounds-rest-1 : goal.bounds-rest-1
bounds-rest-1 c = let h = walk_has c.loop.invariant (omega arith) in search (rules, h)

pub slice_bounds-split_at-count : goal.slice_bounds-split_at-count
slice_bounds-split_at-count c = walk_has c.loop.invariant (omega arith)

pub slice_bounds-split_at-start : goal.slice_bounds-split_at-start
slice_bounds-split_at-start c = let h = walk_has c.loop.invariant (omega arith) in search (rules, h)

pub split_at-requires : goal.split_at-requires
split_at-requires c =
    let e : c.from-long.result ≡ length_at c.loop.rest.now = omega arith in
    let h = walk_within c.loop.invariant (omega arith) _ e in
    rw (take_rest c.loop.rest.now 2) (omega (arith, h, length-drop 2 c.loop.rest.now))

pub loop-preserved : goal.loop-preserved
loop-preserved c =
    let e : c.from-long.result ≡ length_at c.loop.rest.now = omega arith in
    walk_step c.loop.invariant (omega arith) _ e _ _ _ _ c.split_at.ensures.front c.split_at.ensures.back c.print-place.ensures.0 c.print-place.ensures.1 _ (omega arith)

pub returns : goal.returns
returns c = walk_end c.loop.invariant (omega arith)
