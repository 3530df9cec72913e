-- The kinds of a history's records in the code, and their bytes.
use Rattle.std.specs.Prelude.{◌≡◌, ℕ, Result, MatchResult}
use Rattle.model.specs.History.{made_element_kind, made_leaf_kind, cut_kind, history_size}
use Rattle.plan_table.specs.declared.Reason as reason
use Rattle.plan_table.specs.declared.Reason.TheVariants as reasons
use Rattle.run_updates.specs.declared.history.Kind.{Kind}
use Rattle.run_updates.specs.declared.history.Kind.TheVariants.{Element, Leaf, Cut}

-- the byte of a kind
abbrev pub byte_of : Kind → ℕ
byte_of Element = made_element_kind
byte_of Leaf = made_leaf_kind
byte_of Cut = cut_kind

-- a byte read: the kind that has it, or refused where it is none, which has no bytes
abbrev pub KindRead : (byte : ℕ) → Result Kind reason.Reason → Type 0
KindRead b r = MatchResult r (λ k. byte_of k ≡ b) (λ x. (history_size b ≡ 0) × (x ≡ reasons.Kind))
