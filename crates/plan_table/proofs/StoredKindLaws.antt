-- The byte of a stored record's kind is a kind's, and that of an element or a leaf is no mark's.
use mathlib.Core.Path.{◌≡◌, refl, sym}
use mathlib.Core.Bool.{true, false}
use mathlib.Core.Logic.{◌⊎◌, inl, inr}
use Prim.Native.Nat.{ℕ}
use lib.Dec.{eqb}
use Rattle.model.specs.Stored.{mark_kind, stored_kinds, is_stored_kind}
use Rattle.plan_table.specs.StoredKinds.{byte_of}
use Rattle.plan_table.specs.declared.stored.Kind.{Kind}
use Rattle.plan_table.specs.declared.stored.Kind.TheVariants.{Element, Leaf}

pub row_byte : {k : Kind} {b : ℕ} → byte_of k ≡ b → (k ≡ Element) ⊎ (k ≡ Leaf) → (is_stored_kind b ≡ true) × (eqb b mark_kind ≡ false)
unfolding stored_kinds
row_byte e (inl h) = rw (sym e, h) (refl, refl)
row_byte e (inr h) = rw (sym e, h) (refl, refl)
