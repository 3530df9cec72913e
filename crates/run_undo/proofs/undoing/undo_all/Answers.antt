use Rattle.std.proofs.Common.{Ok, Err, refl, ap, length-append, ◌≡◌, ◌∙◌, ◌-◌, ◌<◌, ◌∷◌, [], ◌++◌, arith, length, get_or}
use Rattle.std.proofs.lemmas.Grind.{get_or_default_zero}
use Rattle.std.proofs.lemmas.List.{get_or-reverse, length-reverse}
use Rattle.std.proofs.lemmas.Iterator.Adapters.{YieldsList-from_rev_slice}
use Rattle.std.proofs.lemmas.Iterator.Consumers.{YieldsList-turn, YieldsList-end}
use Rattle.std.proofs.lemmas.Result.{err_from_is_err_and}
use Rattle.plan_table.proofs.ReasonLaws.{some_number}
use Rattle.run_undo.proofs.UndoLawsBack.{backing_start, backing_refused, backing_again, backing_end}
use Rattle.run_undo.proofs.undoing.undo_all.Goals as goal
use Rattle.run_undo.proofs.undoing.undo_all.Goals.{In-Some}

-- this turn's place is the last of those that are left
turn : (c : In-Some) → let m = c.args.places.now in let k = length m - length c.loop-place.yielded in
    (0 < k) × (c.in-Some.place.now ≡ get_or m (k - 1) 0)
turn c =
    let m = c.args.places.now in
    let y = length c.loop-place.yielded in
    let t = YieldsList-turn (YieldsList-from_rev_slice m cc) c.loop-place.yielded _ c.loop-place.yielded_by _ _ c.in-Some.place
    c.in-Some.is c.next.ensures.steps in
    let l : y < length m = omega (arith, t.0, length-reverse m) in
    let i : length m - 1 - y ≡ length m - y - 1 = omega arith in
    let j : length m - y - 1 < length m = omega arith in (
      omega arith,
      t.1 ∙ get_or-reverse m y c.in-Some.place.now l ∙ ap (λ k. get_or m k c.in-Some.place.now) i ∙
          get_or_default_zero m (length m - y - 1) c.in-Some.place.now j,
    )

pub loop-place-init : goal.loop-place-init
loop-place-init c =
    let k : length c.args.places.now - 0 ≡ length c.args.places.now = omega arith in
    rw k (backing_start c.requires c.args.marks.now)

pub returns-in_err-left : goal.returns-in_err-left
returns-in_err-left c =
    let t = turn (goal.at.returns-in_err-left c).In-Some in
    let r = c.undo_record in
    let f = c.in_err-left.field-0.0 in
    let e : r.result ≡ Err f.reason = grind arith in
    let a : f.place ≡ c.from-at.result = grind arith in
    let p = err_from_is_err_and c.from_residual.result c.from_residual.ensures.1 in
    rw (p.1, p.2, a)
    (backing_refused c.requires c.args.marks.now c.loop-place.invariant t.0 (c.from-at.ensures ∙ t.1) (rw e at r.ensures)
    (some_number f.reason))

pub loop-place-preserved : goal.loop-place-preserved
loop-place-preserved c =
    let t = turn (goal.at.loop-place-preserved c).In-Some in
    let r = c.undo_record in
    let m = c.args.places.now in
    let ys = c.loop-place.yielded in
    let e : r.result ≡ Ok c.in_ok-left.left = grind arith in
    let k : length m - length (ys ++ c.in-Some.place ∷ []) ≡ length m - length ys - 1 =
    omega (arith, length-append ys (c.in-Some.place ∷ [])) in
    rw k
    (backing_again c.requires c.args.marks.now c.loop-place.invariant t.0 (c.from-at.ensures ∙ t.1) (rw e at r.ensures) refl
    r.auto.rows)

pub returns : goal.returns
returns c =
    let m = c.args.places.now in
    let t = YieldsList-end (YieldsList-from_rev_slice m cc) c.loop-place.yielded _ c.loop-place.yielded_by _ _ c.in-None.is
    c.next.ensures.steps in
    backing_end c.requires c.args.marks.now c.loop-place.invariant (omega (arith, t.1, length-reverse m))
