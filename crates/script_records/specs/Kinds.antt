-- The kinds of a script's records in the code, and their bytes.
use Rattle.std.specs.Prelude.{◌≡◌, false, ℕ, Result, MatchResult}
use Rattle.model.specs.Script.{nil_kind, document_kind, variable_kind, step_kind, join_kind, let_kind, for_kind, if_kind}
use Rattle.model.specs.Script.{new_element_kind, new_leaf_kind, delete_kind, insert_kind, pick_kind, is_script_kind}
use Rattle.plan_table.specs.declared.Reason as reason
use Rattle.plan_table.specs.declared.Reason.TheVariants as reasons
use Rattle.script_records.specs.declared.kinds.Kind.{Kind}
use Rattle.script_records.specs.declared.kinds.Kind.TheVariants.{Nil, Document, Variable, Step, Join, Let, For, If, NewElement, NewLeaf}
use Rattle.script_records.specs.declared.kinds.Kind.TheVariants.{Delete, Insert, Pick}

-- the byte of a kind
abbrev pub byte_of : Kind → ℕ
byte_of Nil = nil_kind
byte_of Document = document_kind
byte_of Variable = variable_kind
byte_of Step = step_kind
byte_of Join = join_kind
byte_of Let = let_kind
byte_of For = for_kind
byte_of If = if_kind
byte_of NewElement = new_element_kind
byte_of NewLeaf = new_leaf_kind
byte_of Delete = delete_kind
byte_of Insert = insert_kind
byte_of Pick = pick_kind

-- a byte read: the kind that has it, or refused where it is none
abbrev pub KindRead : (byte : ℕ) → Result Kind reason.Reason → Type 0
KindRead b r = MatchResult r (λ k. byte_of k ≡ b) (λ x. (is_script_kind b ≡ false) × (x ≡ reasons.Kind))
