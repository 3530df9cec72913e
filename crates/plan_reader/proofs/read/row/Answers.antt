-- `read::row` refuses the row at the front or adds it to the table, by one law of ReadRecordLaws for each way out.
use Rattle.std.proofs.Common.{List, ℕ, ◌≤◌, get_or, set, true, false, refl, ◌≡◌, ap, ◌∙◌, sym, arith, rules}
use Rattle.plan_reader.proofs.ReadRecordLaws.{not_accepted, row_none, row_child}
use Rattle.plan_reader.specs.Reading.{last_of}
use Rattle.plan_table.specs.Packed.{link_of, pack_row}
use Rattle.plan_table.specs.Links.{row_by}
use Rattle.plan_table.proofs.PackedLaws.{stored_some, stored_none}
use Rattle.plan_table.specs.Fitting.{is_element_below}
use Rattle.plan_table.proofs.DecodeLaws.{below_bound}
use Rattle.model.specs.Base.{max_byte}
use Rattle.model.specs.Stored.{element_kind, number_at, parent_in, row_in}
use Rattle.plan_reader.proofs.ReadRecordLaws.{link_none, link_some}
use Rattle.plan_reader.proofs.read.row.Goals as goal
use Rattle.plan_reader.proofs.read.row.Goals.{in-Some+else-not-is_lower_element, in_default, Joined-else-eq, Else-last-ne0}

-- the tag is a byte, and no element's is 0
tag : (c : Joined-else-eq) →
    (get_or c.args.s.now 1 0 ≤ max_byte) × (get_or c.args.s.now 0 0 ≡ element_kind → get_or c.args.s.now 1 0 ≡ 0 → ⊥)
tag c = (omega (arith, c.type_inv.s 1), λ k t. grind arith)

-- no document marks a row yet
first : (c : Else-last-ne0) → (ms : List ℕ) → c.args.last ≡ last_of ms → last_of ms ≡ 0
first c ms e = sym e ∙ search (c.if-last-ne0.false, rules)

pub returns-then-not-is_lower_element : goal.returns-then-not-is_lower_element
returns-then-not-is_lower_element c =
    let x = c.args in
    let t = tag (goal.at.returns-then-not-is_lower_element c).Joined-else-eq in
    let p = stored_some (number_at x.s.now 2) c.in-Some.ensures in
    record {
      refusal = λ ms i e.
          row_child x.s.now x.rows.now ms x.count i c.requires.row t.1 t.0
          (first (goal.at.returns-then-not-is_lower_element c).Else-last-ne0 ms e) p.0 false
          (ap (is_element_below x.rows.now x.count) (sym p.1) ∙ sym c.is_lower_element.ensures ∙ c.if-not-is_lower_element.true);
      rows = refl;
      link = λ z. not_accepted _ z;
    }

-- the row stands packed
packed : (c : goal.After-packed_row) → row_by c.match-stored.stored ≡ parent_in (number_at c.args.s.now 2) →
    set c.args.rows.now c.args.count c.packed_row.result ≡ set c.args.rows.now c.args.count (pack_row (row_in c.args.s.now))
packed c told =
    ap (set c.args.rows.now c.args.count)
    (omega (arith, rw c.requires.front at c.packed_row.ensures, c.to.ensures ∙ ap link_of told))

pub returns : goal.returns
returns c =
    let x = c.args in
    let s = c.args.s.now in
    let t = tag (goal.at.returns c).Joined-else-eq in
    let f = first (goal.at.returns c).Else-last-ne0 in
    elim c.match-stored.branch [
      | in-Some+else-not-is_lower_element w ↦
          let p = stored_some (number_at s 2) w.in-Some.ensures in
          let lower : is_element_below x.rows.now x.count (number_at s 2) ≡ true =
          ap (is_element_below x.rows.now x.count) (sym p.1) ∙ sym w.is_lower_element.ensures ∙ w.if-not-is_lower_element.false in
          record {
            refusal = λ ms i e. row_child s x.rows.now ms x.count i c.requires.row t.1 t.0 (f ms e) p.0 true lower;
            rows = packed c (ap row_by w.stored-is ∙ w.in-Some.ensures);
            link = λ z.
                link_some s (omega (arith, below_bound x.rows.now x.count (number_at s 2) lower, c.requires.row.room));
          }
      | in_default w ↦
          let none = stored_none (number_at s 2) w.in_default.ensures in
          record {
            refusal = λ ms i e. row_none s x.rows.now ms x.count i c.requires.row t.1 t.0 (f ms e) none;
            rows = packed c (ap row_by w.stored-is ∙ c.parent_at-stored.ensures);
            link = λ z. link_none s none;
          }
    ]
