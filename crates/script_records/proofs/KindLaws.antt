-- A byte that is none of the kinds' is no kind, and a kind's is one.
use mathlib.Core.Path.{◌≡◌, refl, ap, sym, ◌∙◌}
use mathlib.Core.Bool.{true, false, cond}
use lib.Dec.{eqb}
use Prim.Native.Nat.{ℕ}
use borrow.Author.Tests.{ne_eqb}
use Rattle.model.specs.Script.{nil_kind, document_kind, variable_kind, step_kind, join_kind, let_kind, for_kind, if_kind}
use Rattle.model.specs.Script.{new_element_kind, new_leaf_kind, delete_kind, insert_kind, pick_kind, script_kinds, is_script_kind}
use Rattle.script_records.specs.Kinds.{byte_of}
use Rattle.script_records.specs.declared.kinds.Kind.{Kind}
use Rattle.script_records.specs.declared.kinds.Kind.TheVariants.{Nil, Document, Variable, Step, Join, Let, For, If, NewElement, NewLeaf}
use Rattle.script_records.specs.declared.kinds.Kind.TheVariants.{Delete, Insert, Pick}

pub no_kind : (k : ℕ) → (k ≡ nil_kind → ⊥) × (k ≡ document_kind → ⊥) × (k ≡ variable_kind → ⊥) × (k ≡ step_kind → ⊥) × (k ≡ join_kind → ⊥)
    ×
    (k ≡ let_kind → ⊥) × (k ≡ for_kind → ⊥) × (k ≡ if_kind → ⊥) × (k ≡ new_element_kind → ⊥) × (k ≡ new_leaf_kind → ⊥) ×
    (k ≡ delete_kind → ⊥) × (k ≡ insert_kind → ⊥) × (k ≡ pick_kind → ⊥) → is_script_kind k ≡ false
unfolding script_kinds
no_kind k (f1, f2, f3, f4, f5, f6, f7, f8, f9, f10, f11, f12, f13) =
    rw (
      ne_eqb k nil_kind f1,
      ne_eqb k document_kind f2,
      ne_eqb k variable_kind f3,
      ne_eqb k step_kind f4,
      ne_eqb k join_kind f5,
      ne_eqb k let_kind f6,
      ne_eqb k for_kind f7,
      ne_eqb k if_kind f8,
      ne_eqb k new_element_kind f9,
      ne_eqb k new_leaf_kind f10,
      ne_eqb k delete_kind f11,
      ne_eqb k insert_kind f12,
      ne_eqb k pick_kind f13,
    )

pub some_kind : (k : Kind) → is_script_kind (byte_of k) ≡ true
unfolding script_kinds
some_kind Nil = refl
some_kind Document = refl
some_kind Variable = refl
some_kind Step = refl
some_kind Join = refl
some_kind Let = refl
some_kind For = refl
some_kind If = refl
some_kind NewElement = refl
some_kind NewLeaf = refl
some_kind Delete = refl
some_kind Insert = refl
some_kind Pick = refl

-- KINDS ARE TOLD APART by their bytes
abbrev kind_at : ℕ → Kind
kind_at n =
    cond (eqb n nil_kind) Nil (cond (eqb n document_kind) Document (cond (eqb n variable_kind) Variable (cond (eqb n step_kind) Step
    (cond (eqb n join_kind) Join (cond (eqb n let_kind) Let (cond (eqb n for_kind) For (cond (eqb n if_kind) If
    (cond (eqb n new_element_kind) NewElement (cond (eqb n new_leaf_kind) NewLeaf (cond (eqb n delete_kind) Delete
    (cond (eqb n insert_kind) Insert Pick)))))))))))

kind_back : (k : Kind) → kind_at (byte_of k) ≡ k
kind_back Nil = refl
kind_back Document = refl
kind_back Variable = refl
kind_back Step = refl
kind_back Join = refl
kind_back Let = refl
kind_back For = refl
kind_back If = refl
kind_back NewElement = refl
kind_back NewLeaf = refl
kind_back Delete = refl
kind_back Insert = refl
kind_back Pick = refl

pub other_byte : (k j : Kind) → (k ≡ j → ⊥) → byte_of k ≡ byte_of j → ⊥
other_byte k j f e = f (sym (kind_back k) ∙ ap kind_at e ∙ kind_back j)
