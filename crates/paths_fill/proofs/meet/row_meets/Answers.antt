-- `meet::row_meets`: by the role of position k.
use Rattle.std.proofs.Common.{ap, sym, ◌∙◌, arith}
use Rattle.paths_positions.specs.declared.packed.Fields.{Fields as Position}
use Rattle.paths_positions.specs.Packed.{role_number}
use Rattle.paths_fill.proofs.TableLaws.{meets_asks, apart_meets, accessed_meets, modified_meets, plain_meets}
use Rattle.paths_fill.proofs.meet.row_meets.Goals as goal

pub returns-then-not-seen : goal.returns-then-not-seen
returns-then-not-seen c =
    apart_meets c.requires c.if-not-seen.true-raw

pub meets-requires : goal.meets-requires
meets-requires c =
    meets_asks c.requires

pub meets-requires-in-Modified : goal.meets-requires-in-Modified
meets-requires-in-Modified c =
    meets_asks c.requires

pub returns-in-Plain : goal.returns-in-Plain
returns-in-Plain c =
    let is = ap (λ (x : Position). x.role) (sym c.unpacked.ensures) ∙ sym c.role.ensures ∙ ap role_number c.in-Plain.is in
    plain_meets c.requires (λ e. omega (arith, is, e)) (λ e. omega (arith, is, e))

pub returns-in-Accessed : goal.returns-in-Accessed
returns-in-Accessed c =
    accessed_meets c.requires
    (ap (λ (x : Position). x.role) (sym c.unpacked.ensures) ∙ sym c.role.ensures ∙ ap role_number c.in-Accessed.is) c.meets.ensures

pub returns-in-Modified : goal.returns-in-Modified
returns-in-Modified c =
    modified_meets c.requires
    (ap (λ (x : Position). x.role) (sym c.unpacked.ensures) ∙ sym c.role.ensures ∙ ap role_number c.in-Modified.is)
    c.meets-in-Modified.ensures
