-- `nullary`: a record without operands, one law of NullaryLaws for each way out.
use Rattle.std.proofs.Common.{refl, ap, sym, ◌∙◌, arith, rules, ◌≡◌}
use Rattle.std.proofs.lemmas.Result.{err_from_is_err_and}
use Rattle.model.specs.Script.{script_kinds}
use Rattle.script_records.specs.Kinds.{byte_of}
use Rattle.script.proofs.ToldLaws.{told_ok, told_err}
use Rattle.script.proofs.AcceptedLaws.{accepted_record}
use Rattle.script.proofs.FieldLaws.{document_number, variable_number, element_name}
use Rattle.run_operators.proofs.NullaryLaws.{body_within, nil_yields, document_yields, variable_yields}
use Rattle.run_operators.proofs.NullaryLaws.{variable_asks, variable_below}
use Rattle.run_operators.proofs.NullaryLaws.{element_refused, element_yields, leaf_refused, leaf_yields}
use Rattle.run_operators.proofs.record.nullary.Goals as goal

pub returns-in-Nil : goal.returns-in-Nil
returns-in-Nil c =
    nil_yields c.requires.eval_pre (sym c.requires.is ∙ ap byte_of c.in-Nil.is) refl

pub bounds-script-at : goal.bounds-script-at
unfolding script_kinds
bounds-script-at c =
    body_within c.requires.eval_pre (sym c.requires.is ∙ ap byte_of c.in-Document.is) refl

pub document-end-requires-clause-d_in_bounds : goal.document-end-requires-clause-d_in_bounds
document-end-requires-clause-d_in_bounds c =
    let d = document_number (accepted_record c.requires.eval_pre.accepted) (sym c.requires.is ∙ ap byte_of c.in-Document.is) in
    omega (arith, d, c.requires.eval_pre.marks.size, c.from.ensures)

pub returns-in-Document : goal.returns-in-Document
returns-in-Document c =
    document_yields c.requires.eval_pre c.document-end.auto.work refl (sym c.requires.is ∙ ap byte_of c.in-Document.is)
    c.from.ensures c.document-end.ensures

pub bounds-script-at-in-Variable : goal.bounds-script-at-in-Variable
unfolding script_kinds
bounds-script-at-in-Variable c =
    body_within c.requires.eval_pre (sym c.requires.is ∙ ap byte_of c.in-Variable.is) refl

pub bounds-env-from : goal.bounds-env-from
bounds-env-from c =
    omega (
      arith,
      variable_number (accepted_record c.requires.eval_pre.accepted) (sym c.requires.is ∙ ap byte_of c.in-Variable.is),
      c.requires.eval_pre.scope.few,
      c.from-in-Variable.ensures,
    )

pub overflow_add-to : goal.overflow_add-to
overflow_add-to c =
    let l = variable_below c.requires.eval_pre (sym c.requires.is ∙ ap byte_of c.in-Variable.is) c.from-in-Variable.ensures in
    omega (arith, l, c.from-from.ensures, c.from-in-Variable-2.ensures)

pub copied-end-requires : goal.copied-end-requires
copied-end-requires c =
    variable_asks c.requires.eval_pre (sym c.requires.is ∙ ap byte_of c.in-Variable.is) c.from-in-Variable.ensures
    c.from-from.ensures c.from-in-Variable-2.ensures

pub returns-in-Variable : goal.returns-in-Variable
returns-in-Variable c =
    variable_yields c.requires.eval_pre c.copied-end.auto.work refl (sym c.requires.is ∙ ap byte_of c.in-Variable.is)
    c.from-in-Variable.ensures c.from-from.ensures c.from-in-Variable-2.ensures c.copied-end.ensures

pub bounds-script-at-in-NewElement : goal.bounds-script-at-in-NewElement
unfolding script_kinds
bounds-script-at-in-NewElement c =
    body_within c.requires.eval_pre (sym c.requires.is ∙ ap byte_of c.in-NewElement.is) refl

pub new_element-requires : goal.new_element-requires
new_element-requires c =
    let l = element_name (accepted_record c.requires.eval_pre.accepted) (sym c.requires.is ∙ ap byte_of c.in-NewElement.is) in
    let n = c.name-name.ensures in
    record { held = c.requires.eval_pre.held; low = omega (arith, l.0, n); high = omega (arith, l.1, n) }

pub returns-in_err-q-in-NewElement : goal.returns-in_err-q-in-NewElement
returns-in_err-q-in-NewElement c =
    let told = told_err _ c.new_element.result c.map_err.ensures.cases c.in_err-q-in-NewElement.was in
    let k : c.in_err-q-in-NewElement.field-0.0 ≡ record { reason = told.0; place = c.args.at } = search (told.2, rules) in
    let out = err_from_is_err_and c.from_residual.result c.from_residual.ensures.1 in
    rw (out.1, out.2, k)
    (element_refused c.requires.eval_pre (sym c.requires.is ∙ ap byte_of c.in-NewElement.is) c.name-name.ensures told.0
    (rw told.1 at c.new_element.ensures))

pub returns-in_ok-q-in-NewElement : goal.returns-in_ok-q-in-NewElement
returns-in_ok-q-in-NewElement c =
    let told = told_ok _ c.new_element.result c.map_err.ensures.cases c.in_ok-q-in-NewElement.was in
    element_yields c.requires.eval_pre (sym c.requires.is ∙ ap byte_of c.in-NewElement.is) c.name-name.ensures refl
    (rw told at c.new_element.ensures) c.put_row-end.auto.work c.put_row-end.ensures refl

pub bounds-script-at-in-NewLeaf : goal.bounds-script-at-in-NewLeaf
unfolding script_kinds
bounds-script-at-in-NewLeaf c =
    body_within c.requires.eval_pre (sym c.requires.is ∙ ap byte_of c.in-NewLeaf.is) refl

pub returns-in_err-q-in-NewLeaf : goal.returns-in_err-q-in-NewLeaf
returns-in_err-q-in-NewLeaf c =
    let told = told_err _ c.new_leaf.result c.map_err-in-NewLeaf.ensures.cases c.in_err-q-in-NewLeaf.was in
    let k : c.in_err-q-in-NewLeaf.field-0.0 ≡ record { reason = told.0; place = c.args.at } = search (told.2, rules) in
    let out = err_from_is_err_and c.from_residual-in_err-q-in-NewLeaf.result c.from_residual-in_err-q-in-NewLeaf.ensures.1 in
    rw (out.1, out.2, k)
    (leaf_refused c.requires.eval_pre (sym c.requires.is ∙ ap byte_of c.in-NewLeaf.is) told.0 (rw told.1 at c.new_leaf.ensures))

pub returns-in_ok-q-in-NewLeaf : goal.returns-in_ok-q-in-NewLeaf
returns-in_ok-q-in-NewLeaf c =
    let told = told_ok _ c.new_leaf.result c.map_err-in-NewLeaf.ensures.cases c.in_ok-q-in-NewLeaf.was in
    leaf_yields c.requires.eval_pre (sym c.requires.is ∙ ap byte_of c.in-NewLeaf.is) refl (rw told at c.new_leaf.ensures)
    c.put_row-end-in-NewLeaf.auto.work c.put_row-end-in-NewLeaf.ensures refl
