use Rattle.std.proofs.Common.{◌≡◌, ℕ, ◌+◌, ◌-◌, ◌<◌, ◌≤◌, List, length, get_or, drop, refl, ap, ◌∙◌, subst, arith, length-drop}
use Rattle.std.proofs.Common.{length-take-le, get_or-drop, get_or-take}
use Rattle.run_pick.proofs.PickLaws.{picked_row, filtered_none, filtered_by, rest_kept, rest_at, picked_rows}
use Rattle.run_query.proofs.ValueLaws.{cond_low}
use Rattle.run_query.specs.Values.{Appended, value_at}
use Rattle.model.specs.Base.{filtered}
use Rattle.model.specs.Limits.{max_rows}
use Rattle.script_records.specs.Relations.{relation_number}
use Rattle.run_pick.proofs.pick.picked.Goals as goal

pub loop-k-init : goal.loop-k-init
loop-k-init c =
    let a = c.args in (
      omega arith,
      filtered_none (picked_row a.rows.now (relation_number a.relation) a.constant) a.work.now a.from,
      refl,
    )

pub bounds-rows-row : goal.bounds-rows-row
bounds-rows-row c =
    let item_low : c.from-row.result < max_rows = let a = c.args in
    let l = c.loop-k in
    let k : l.k - a.from < a.to - a.from = omega arith in
    let e : a.from + (l.k - a.from) ≡ l.k = omega arith in
    omega (
      arith,
      c.from-row.ensures,
      rest_at a.work.now l.work l.k l.invariant.2,
      c.requires.low (l.k - a.from) k,
      get_or-take (a.to - a.from) (drop a.from a.work.now) (l.k - a.from) 0 k,
      get_or-drop a.from a.work.now (l.k - a.from) 0 ∙ ap (λ (j : ℕ). get_or a.work.now j 0) e,
    ) in
    omega (arith, item_low, c.requires.rows)

pub loop-k-preserved : goal.loop-k-preserved
loop-k-preserved c =
    let past_low : c.append_if-at.result ≤
    c.loop-k.k + 1 = let l = c.loop-k in
    omega (arith, c.append_if-at.ensures.value, cond_low c.picks-keep.result l.at, l.invariant.0) in
    let a = c.args in
    let p = c.requires in
    let l = c.loop-k in
    let i = c.from-row in
    let s = c.append_if-at in
    let here = i.ensures ∙ rest_at a.work.now l.work l.k l.invariant.2 in
    let known = c.type_inv.rows i.result in
    let kept = c.related-ranks.ensures
    (get_or a.rows.now i.result 0) (omega (arith, known)) in
    let is = c.picks-keep.ensures ∙ kept in (
      past_low,
      filtered_by (picked_row a.rows.now (relation_number a.relation) a.constant) a.work.now l.work a.from
          l.k l.at (omega arith) (omega (arith, p.within)) (omega (arith, l.invariant.0, p.within)) l.invariant.1
          c.picks-keep.result i.result s.new.work s.result here
          (is ∙ ap (picked_row a.rows.now (relation_number a.relation) a.constant) here) s.ensures.work_after s.ensures.value,
      ap (drop (l.k + 1)) s.ensures.work_after ∙
          rest_kept a.work.now l.work l.k l.at i.result l.invariant.0 l.invariant.2,
    )

pub returns : goal.returns
returns c =
    let a = c.args in
    let p = c.requires in
    let l = c.loop-k in
    let v = value_at a.work.now a.from a.to in
    let e : l.k ≡ a.to = omega arith in
    let m : length v ≡ a.to - a.from = length-take-le (a.to - a.from) (drop a.from a.work.now)
    (omega (arith, p.within, p.order, length-drop a.from a.work.now)) in
    record {
      value = λ n ms few low. subst (λ (u : List ℕ). Appended u a.work.now a.from l.work l.at)
          (picked_rows a.rows.now n (relation_number a.relation) a.constant v ms (omega (arith, p.rows)) (λ k b. low k (omega (arith, m))))
          (subst (λ (j : ℕ). Appended (filtered (picked_row a.rows.now (relation_number a.relation) a.constant) (value_at a.work.now
          a.from j)) a.work.now a.from l.work l.at) e l.invariant.1);
    }
