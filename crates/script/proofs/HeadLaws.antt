-- The record at the front: what the model says of it from the tests that the reader makes, and what an accepted record fulfils.
use mathlib.Core.Path.{◌≡◌, ap, sym, ◌∙◌}
use mathlib.Core.Bool.{Bool, true, false, ◌&&◌}
use mathlib.Core.List.{List}
use Prim.Native.Nat.{ℕ, ◌+◌, ◌-◌, ◌≤◌, ◌<◌}
use native.Mathlib.Omega.{arith}
use lib.Dec.{leb}
use lib.ListN.{length, length-drop, get_or, drop}
use borrow.Author.Tests.{lt-ltb, le-ltb, le-leb, lt-leb, leb-false}
use Rattle.model.specs.Limits.{max_records, max_depth, max_binders}
use Rattle.model.specs.Refusal.{is_fine, unless, field_at}
use Rattle.model.specs.Script.{is_script_kind, body_size, body_fits}
use Rattle.model.specs.Script.{is_binder, expr_refusal}
use Rattle.model.proofs.ListLaws.{drop_first}
use Rattle.model.proofs.ScriptLaws.{Passed, passed}
use Rattle.script_records.specs.Kinds.{byte_of}
use Rattle.script_records.specs.declared.kinds.Kind.{Kind}
use Rattle.script_records.proofs.KindLaws.{some_kind}
use Rattle.script.specs.Accepted.{RecordFits}
use Rattle.script.specs.Reading.{BodyPost, HeadPost}

-- THE REFUSAL of the record at the front, one law for each way out
body_left : (s : List ℕ) (left n v i : ℕ) → 0 < length s → is_script_kind (get_or s 0 0) ≡ true → n < max_records → 0 < left →
    (is_binder (get_or s 0 0) && leb max_binders v) ≡ false → 1 + body_size (get_or s 0 0) ≤ length s →
    expr_refusal i n (max_depth + 1 - left) v s ≡ unless (body_fits v s) (field_at i)
body_left s left n v i some kind room depth scope whole =
    rw (
      lt-ltb 0 (length s) some,
      kind,
      lt-ltb n max_records room,
      le-leb (max_depth + 1 - left) max_depth (omega arith),
      scope,
      le-leb (1 + body_size (get_or s 0 0)) (length s) whole,
    )

kind_of : (s : List ℕ) (k : Kind) → byte_of k ≡ get_or s 0 0 → is_script_kind (get_or s 0 0) ≡ true
kind_of s k is = ap is_script_kind (sym is) ∙ some_kind k

scope_of : (s : List ℕ) (v : ℕ) (k : Kind) → byte_of k ≡ get_or s 0 0 → {t : Bool} → (is_binder (byte_of k) && leb max_binders v) ≡ t →
    (is_binder (get_or s 0 0) && leb max_binders v) ≡ t
scope_of s v k is e = ap (λ (q : ℕ). is_binder q && leb max_binders v) (sym is) ∙ e

module _ {s : List ℕ} {left n v : ℕ} where
  pub head_empty : length s ≡ 0 → HeadPost s left n v 2
  head_empty e = record { refusal = λ i. rw e }

  pub head_kind : (length s ≡ 0 → ⊥) → is_script_kind (get_or s 0 0) ≡ false → HeadPost s left n v 1
  head_kind h k =
      let m : 0 < length s = omega (arith, h) in
      record { refusal = λ i. rw (lt-ltb 0 (length s) m, k) }

  module _ (some : 0 < length s) (k : Kind) (is : byte_of k ≡ get_or s 0 0) where
    pub head_records : max_records ≤ n → HeadPost s left n v 5
    head_records h =
        record { refusal = λ i. rw (lt-ltb 0 (length s) some, (kind_of s k is), le-ltb n max_records h) }

    module _ (room : n < max_records) where
      pub head_depth : left ≡ 0 → HeadPost s left n v 5
      head_depth e =
          record {
            refusal = λ i. rw (lt-ltb 0 (length s) some, (kind_of s k is), lt-ltb n max_records room, e);
          }

      module _ (depth : 0 < left) where
        pub head_ninth : (is_binder (byte_of k) && leb max_binders v) ≡ true → HeadPost s left n v 5
        head_ninth e =
            let d : leb (max_depth + 1 - left) max_depth ≡ true = le-leb (max_depth + 1 - left) max_depth (omega arith) in
            record {
              refusal = λ i. rw (lt-ltb 0 (length s) some, (kind_of s k is), lt-ltb n max_records room, d, scope_of s v k is e);
            }

        module _ (scope : (is_binder (byte_of k) && leb max_binders v) ≡ false) where
          pub head_short : length s < 1 + body_size (byte_of k) → HeadPost s left n v 2
          head_short h =
              let d : leb (max_depth + 1 - left) max_depth ≡ true = le-leb (max_depth + 1 - left) max_depth (omega arith) in
              let w : leb (1 + body_size (get_or s 0 0)) (length s) ≡ false =
              lt-leb (1 + body_size (get_or s 0 0)) (length s) (omega (arith, h, ap body_size is)) in
              record {
                refusal = λ i. rw (
                  lt-ltb 0 (length s) some,
                  (kind_of s k is),
                  lt-ltb n max_records room,
                  d,
                  (scope_of s v k is scope),
                  w,
                );
              }

          module _ (whole : 1 + body_size (byte_of k) ≤ length s) where
            pub head_fine : {r : Bool} → BodyPost s v r → r ≡ true → HeadPost s left n v 0
            head_fine f e =
                record {
                  refusal = λ i. body_left s left n v i some (kind_of s k is) room depth (scope_of s v k is scope)
                      (omega (arith, whole, ap body_size is)) ∙
                      ap (λ (z : Bool). unless z (field_at i)) (sym f.fits ∙ e);
                }

            pub head_field : {r : Bool} → BodyPost s v r → r ≡ false → HeadPost s left n v 4
            head_field f e =
                record {
                  refusal = λ i. body_left s left n v i some (kind_of s k is) room depth (scope_of s v k is scope)
                      (omega (arith, whole, ap body_size is)) ∙
                      ap (λ (z : Bool). unless z (field_at i)) (sym f.fits ∙ e);
                }

-- AN ACCEPTED RECORD passed every test
module _ (b : List ℕ) (at left n v i : ℕ) (e : is_fine (expr_refusal i n (max_depth + 1 - left) v (drop at b)) ≡ true) where
  tests : Passed n (max_depth + 1 - left) v (drop at b)
  tests = passed i n (max_depth + 1 - left) v (drop at b) e

  in_scope : is_binder (get_or b at 0) ≡ true → v < max_binders
  in_scope h =
      let g : is_binder (get_or (drop at b) 0 0) ≡ true = ap (λ (k : ℕ). is_binder k) (drop_first b at) ∙ h in
      leb-false max_binders v (sym (ap (λ (z : Bool). z && leb max_binders v) g) ∙ tests.scope)

  pub fine_records : n < max_records
  fine_records = tests.few

  pub fine_fits : RecordFits b at left v
  fine_fits =
      record {
        kind = sym (ap (λ (k : ℕ). is_script_kind k) (drop_first b at)) ∙ tests.kind;
        depth = omega (arith, tests.deep);
        scope = in_scope;
        whole = omega (arith, ap (λ (k : ℕ). body_size k) (drop_first b at), length-drop at b, tests.some, tests.whole);
        fields = tests.fits;
      }
