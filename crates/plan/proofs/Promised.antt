-- What is written is read back, and what is read is written back: TableBack, BytesBack.
use mathlib.Core.Path.{◌≡◌, refl, ap, sym, ◌∙◌}
use mathlib.Core.Bool.{true}
use mathlib.Core.List.{List}
use Prim.Native.Nat.{ℕ, ◌≤◌}
use native.Mathlib.Omega.{arith}
use lib.ListN.{length, take, drop}
use lib.Seq.{take_at}
use Rattle.model.specs.Base.{at_front, are_bytes}
use Rattle.model.specs.Refusal.{fine}
use Rattle.model.specs.Stored.{Read, refused, got, stored, read_plan}
use Rattle.model.specs.Table as model
use Rattle.model.proofs.StoredBack.{stored_back}
use Rattle.model.proofs.TestLaws.{is_in_some}
use Rattle.model.proofs.RefusedByTable.{refused_by_table}
use Rattle.model.specs.Limits.{max_rows}
use Rattle.plan_table.specs.Results.{refusal_of}
use Rattle.plan_table.specs.Packed.{encode, decode, fits}
use Rattle.plan_table.specs.declared.Table.{Table}
use Rattle.plan_table.specs.Results.{Written}
use Rattle.plan_table.proofs.FittedLaws.{well_decode, fits_at}
use Rattle.plan_table.proofs.PackedLaws.{encode_decode}
use Rattle.plan_writer.specs.Writing.{plan_written, written_out}
use Rattle.plan.specs.Calls.{read_by, plan_read}
use Rattle.plan.specs.Promise.{TableBack, BytesBack}
use Rattle.plan_writer.proofs.WritePlanLaws.{write_fine, write_out, stored_fits, stored_written, stored_out}

-- TABLE TO BYTES TO TABLE: a table that fits is packed as the table that it stands for
packed_back : (t : Table) → length t.rows ≡ max_rows → fits t ≡ true → encode (decode t) ≡ t
packed_back t l e =
    let f = fits_at t.count t.rows t.marks e in
    encode_decode t.count t.rows t.marks (omega (arith, f.few)) (f.canonical l)

pub table_back : TableBack
table_back t o l e room =
    let s = stored (decode t) in
    let w : plan_written t o ≡ record { refusal = refusal_of fine; bytes = length s } = sym (write_fine t o e (length s) room refl) in (
      w,
      ap (λ (r : Written). plan_read (take r.bytes (written_out t o))) w ∙
          ap (λ (b : List ℕ). plan_read (take (length s) b)) (write_out t o e room) ∙
          ap plan_read (take_at s (drop (length s) o) (length s) refl) ∙
          ap read_by (stored_back.0 (decode t) (well_decode t e)) ∙
          ap (λ (u : Table). record { refusal = refusal_of fine; table = u }) (packed_back t l e),
    )

-- BYTES TO TABLE TO BYTES: a table read from bytes is stored as those bytes, 2,080 at most
module _ (b : List ℕ) (x : model.Table) (bytes : are_bytes b ≡ true) (read : read_plan b ≡ got x) where
  pub read_short : length b ≤ 2080
  read_short = let s = stored_back.1 b x bytes read in omega (arith, stored_fits x s.0, ap length s.1)

  module _ (o : List ℕ) (room : length b ≤ length o) where
    pub read_back : (plan_written (encode x) o ≡ record { refusal = refusal_of fine; bytes = length b }) ×
        (written_out (encode x) o ≡ at_front b o)
    read_back =
        let s = stored_back.1 b x bytes read in
        let l : length (stored x) ≤ length o = omega (arith, ap length s.1) in (
          stored_written x s.0 o l ∙ ap (λ (c : List ℕ). record { refusal = refusal_of fine; bytes = length c }) s.1,
          stored_out x s.0 o l ∙ ap (λ (c : List ℕ). at_front c o) s.1,
        )

-- what is not refused is read
pub read_got : (b : List ℕ) → (plan_read b).refusal.number ≡ 0 → (x : model.Table) × (read_plan b ≡ got x)
read_got b e = go (read_plan b) refl
  where
    go : (q : Read) → read_plan b ≡ q → (x : model.Table) × (read_plan b ≡ got x)
    go (refused f) k =
        let z : f.number ≡ 0 = sym (ap (λ (q : Read). (read_by q).refusal.number) k) ∙ e in
        absurd (is_in_some 0 6 f.number (refused_by_table.0 b f k) z)
    go (got x) k = (x, k)

pub bytes_back : BytesBack
bytes_back b o bytes e room =
    let g = read_got b e in
    let r = read_back b g.0 bytes g.1 o room in (
      ap (λ (q : Read). plan_written (read_by q).table o) g.1 ∙ r.0,
      ap (λ (q : Read). written_out (read_by q).table o) g.1 ∙ r.1,
    )
