-- Reading a plan: from what the records leave to what the call owes.
use mathlib.Core.Path.{◌≡◌, refl, ap, sym, ◌∙◌}
use mathlib.Core.Bool.{true}
use mathlib.Core.List.{List}
use Prim.Native.Nat.{ℕ}
use Rattle.model.specs.Base.{are_bytes}
use Rattle.model.specs.Refusal.{refusal}
use Rattle.model.specs.Table as model
use Rattle.model.specs.Stored.{Read, refused, got, read_plan}
use Rattle.model.proofs.BoolLaws.{cond_eq, cond_ne}
use Rattle.model.proofs.StoredBack.{stored_back}
use Rattle.model.proofs.TableLaws.{is_well_by, well_empty}
use Rattle.plan_table.specs.Packed.{decode_parts, encode, fits}
use Rattle.plan_reader.specs.Reading.{ReadPost}
use Rattle.plan.specs.Calls.{read_by, plan_read}
use Rattle.plan_table.specs.declared.Table.{Table}
use Rattle.plan_table.specs.Results.{End}
use Rattle.plan_table.proofs.EncodeLaws.{fits_encode}
use Rattle.plan_table.proofs.PackedLaws.{encode_decode}
use Rattle.plan_table.specs.Results.{with_table}

module _ (b ws ms : List ℕ) (r : End) (post : ReadPost b ws ms r) where
  pub plan_refused : (r.number ≡ 0 → ⊥) → with_table (refusal r.number r.place) (encode model.empty) ≡ plan_read b
  plan_refused z =
      ap read_by
      (sym (cond_ne (got (decode_parts r.count ws ms)) (refused (refusal r.number r.place)) z) ∙ post.result)

  pub plan_read_lem : r.number ≡ 0 →
      record { refusal = record { number = 0; place = 0 }; table = record { count = r.count; rows = ws; marks = ms } } ≡ plan_read b
  plan_read_lem z =
      ap (λ (u : Table). record { refusal = record { number = 0; place = 0 }; table = u })
      (sym (encode_decode r.count ws ms (post.room z) (post.canonical z))) ∙
      ap read_by
      (sym (cond_eq (got (decode_parts r.count ws ms)) (refused (refusal r.number r.place)) z) ∙ post.result)

-- what is read fits, and so does the empty table of a refused plan
pub read_fits : (p : List ℕ) → are_bytes p ≡ true → fits (plan_read p).table ≡ true
read_fits p b = go (read_plan p) refl
  where
    go : (q : Read) → read_plan p ≡ q → fits (read_by (read_plan p)).table ≡ true
    go (refused f) e = ap (λ (q : Read). fits (read_by q).table) e ∙ fits_encode model.empty (is_well_by model.empty well_empty)
    go (got x) e = ap (λ (q : Read). fits (read_by q).table) e ∙ fits_encode x (stored_back.1 p x b e).0
