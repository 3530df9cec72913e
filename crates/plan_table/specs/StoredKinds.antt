-- The kinds of a stored plan's records in the code, and their bytes.
use Rattle.std.specs.Prelude.{◌≡◌, false, ℕ, Result, MatchResult}
use Rattle.model.specs.Stored.{element_kind, leaf_kind, mark_kind, is_stored_kind}
use Rattle.plan_table.specs.declared.Reason as reason
use Rattle.plan_table.specs.declared.Reason.TheVariants as reasons
use Rattle.plan_table.specs.declared.stored.Kind.{Kind}
use Rattle.plan_table.specs.declared.stored.Kind.TheVariants.{Element, Leaf, Mark}

-- the byte of a kind
abbrev pub byte_of : Kind → ℕ
byte_of Element = element_kind
byte_of Leaf = leaf_kind
byte_of Mark = mark_kind

-- a byte read: the kind that has it, or refused where it is none
abbrev pub KindRead : (byte : ℕ) → Result Kind reason.Reason → Type 0
KindRead b r = MatchResult r (λ k. byte_of k ≡ b) (λ x. (is_stored_kind b ≡ false) × (x ≡ reasons.Kind))
