-- `answer_in` from two lists of positions: its ways out by the laws of AnalysisLaws.
use Rattle.paths.proofs.AnalysisLaws.{answer_first, answer_second, answer_last}
use Rattle.paths.proofs.answer_in.Goals as goal

pub returns-then-some_leads_up : goal.returns-then-some_leads_up
returns-then-some_leads_up c =
    answer_first c.args.first.now c.args.second.now c.some_leads_up.ensures c.if-some_leads_up.true

pub returns-then-some_leads_up-2 : goal.returns-then-some_leads_up-2
returns-then-some_leads_up-2 c =
    answer_second c.args.first.now c.args.second.now c.some_leads_up.ensures c.if-some_leads_up.false
    c.some_leads_up-2.ensures c.if-some_leads_up-2.true

pub returns-then-positions_meet : goal.returns-then-positions_meet
returns-then-positions_meet c =
    answer_last c.args.first.now c.args.second.now c.some_leads_up.ensures c.if-some_leads_up.false
    c.some_leads_up-2.ensures c.if-some_leads_up-2.false c.positions_meet.ensures c.if-positions_meet.true

pub returns : goal.returns
returns c =
    answer_last c.args.first.now c.args.second.now c.some_leads_up.ensures c.if-some_leads_up.false
    c.some_leads_up-2.ensures c.if-some_leads_up-2.false c.positions_meet.ensures c.if-positions_meet.false
