-- `analyse` answers what the model does: one law of AnalysisLaws for each way out.
use Rattle.std.proofs.Common.{◌≡◌, Err, arith}
use Rattle.std.proofs.lemmas.Result.{err_from_is_err_and}
use Rattle.plan_table.specs.Refusals.{refusal_in}
use Rattle.plan_table.specs.declared.Script.TheVariants.{First, Second}
use Rattle.plan_table.proofs.ReasonLaws.{some_number}
use Rattle.paths.proofs.AnalysisLaws.{fronts_asks, few_pairs, answer_swapped}
use Rattle.paths.proofs.AnalysisLaws.{accepted, first_refused, second_refused, both_accepted}
use Rattle.paths.proofs.analyse.Goals as goal

pub returns-in_err-map_err : goal.returns-in_err-map_err
returns-in_err-map_err c =
    let f = c.in_err-map_err.field-0.0 in
    let e : c.read_script.result ≡ Err f.refusal = grind arith in
    let s : f.script ≡ First = grind arith in
    let p = err_from_is_err_and c.from_residual.result c.from_residual.ensures.1 in
    rw (p.1, p.2, s)
    (first_refused c.args.first.now c.args.second.now (refusal_in f.refusal) (rw e at c.read_script.ensures)
    (some_number f.refusal.reason))

pub returns-in_err-map_err-2 : goal.returns-in_err-map_err-2
returns-in_err-map_err-2 c =
    let f = c.in_err-map_err-2.field-0.0 in
    let e : c.read_script-2.result ≡ Err f.refusal = grind arith in
    let s : f.script ≡ Second = grind arith in
    let p = err_from_is_err_and c.from_residual-in_err-map_err-2.result c.from_residual-in_err-map_err-2.ensures.1 in
    let one = accepted c.read_script.result c.args.first.now c.read_script.ensures c.in_ok-map_err.ensures.variant in
    rw (p.1, p.2, s)
    (second_refused c.args.first.now c.args.second.now one (refusal_in f.refusal) (rw e at c.read_script-2.ensures)
    (some_number f.refusal.reason))

pub in_marks-requires : goal.in_marks-requires
in_marks-requires c =
    record {
      first = fronts_asks c.args.first.now c.positions_of.ensures;
      second = fronts_asks c.args.second.now c.positions_of-2.ensures;
      room = omega (arith, few_pairs c.args.first.now c.args.second.now c.positions_of.ensures c.positions_of-2.ensures);
      size = omega arith;
    }

pub returns-then-n-m-le-FEW : goal.returns-then-n-m-le-FEW
returns-then-n-m-le-FEW c =
    let one = accepted c.read_script.result c.args.first.now c.read_script.ensures c.in_ok-map_err.ensures.variant in
    let two = accepted c.read_script-2.result c.args.second.now c.read_script-2.ensures c.in_ok-map_err-2.ensures.variant in
    both_accepted c.args.first.now c.args.second.now one two c.positions_of.ensures c.positions_of-2.ensures c.in_marks.ensures

pub in_table-requires : goal.in_table-requires
in_table-requires c =
    record {
      first = fronts_asks c.args.second.now c.positions_of-2.ensures;
      second = fronts_asks c.args.first.now c.positions_of.ensures;
    }

pub returns-then-m-n : goal.returns-then-m-n
returns-then-m-n c =
    let one = accepted c.read_script.result c.args.first.now c.read_script.ensures c.in_ok-map_err.ensures.variant in
    let two = accepted c.read_script-2.result c.args.second.now c.read_script-2.ensures c.in_ok-map_err-2.ensures.variant in
    both_accepted c.args.first.now c.args.second.now one two c.positions_of.ensures c.positions_of-2.ensures
    (answer_swapped c.in_table.ensures)

pub in_table-requires-2 : goal.in_table-requires-2
in_table-requires-2 c =
    record {
      first = fronts_asks c.args.first.now c.positions_of.ensures;
      second = fronts_asks c.args.second.now c.positions_of-2.ensures;
    }

pub returns : goal.returns
returns c =
    let one = accepted c.read_script.result c.args.first.now c.read_script.ensures c.in_ok-map_err.ensures.variant in
    let two = accepted c.read_script-2.result c.args.second.now c.read_script-2.ensures c.in_ok-map_err-2.ensures.variant in
    both_accepted c.args.first.now c.args.second.now one two c.positions_of.ensures c.positions_of-2.ensures c.in_table-2.ensures
