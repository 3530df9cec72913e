-- One record more: the positions pushed are the entries that the rules emit. One law for each way out.
use mathlib.Core.Path.{◌≡◌, refl, ap, sym, ◌∙◌}
use mathlib.Core.Bool.{Bool, true, false, ◌&&◌, not, cond}
use mathlib.Core.List.{List, [], ◌∷◌, ◌++◌}
use Prim.Native.Nat.{ℕ, ◌+◌, ◌≤◌, ◌<◌}
use native.Mathlib.Omega.{arith}
use lib.Dec.{eqb}
use lib.ListN.{length}
use borrow.Author.Tests.{eq-eqb, ne_eqb}
use Rattle.model.specs.Script as model
use Rattle.model.specs.Paths.{any_below, is_up}
use Rattle.paths_positions.specs.Positions.{Entry, plain, accessing, modifying, over, union}
use Rattle.paths_positions.specs.Positions as positions
use Rattle.paths_positions.specs.declared.packed.Fields.{Fields as Position}
use Rattle.paths_positions.specs.Packed.{with_role, entry_by, over_by, union_by}
use Rattle.paths_positions.specs.Packed.{plain_role, accessed_role, modified_role, entries_in, PushPost}
use Rattle.paths_emit.specs.Emitting.{out_of, GrowPre, Grown, BelowPre, BelowPost}
use Rattle.paths_positions.proofs.PackedLaws.{entries_in_length}

-- ENTRIES
module _ {ws ws' : List ℕ} {n : ℕ} {p : Position} {n' r : ℕ} (post : PushPost ws n p ws' n' r) where
  pub pushed_is : (x : Entry) → n ≤ length ws → entry_by p ≡ x → out_of ws' n' r ≡ positions.push (entries_in ws n) x
  pushed_is x h e =
      rw (post.result, post.count)
      (ap (λ (k : ℕ). positions.emitted k (entries_in ws' (n + 1))) (sym (entries_in_length ws n h)) ∙
      ap (positions.emitted (length (entries_in ws n))) (post.entries ∙ ap (λ (y : Entry). entries_in ws n ++ (y ∷ [])) e))

  one_pushed : (x : Entry) → entry_by p ≡ x → entries_in ws' n' ≡ entries_in ws n ++ (x ∷ [])
  one_pushed x e = ap (entries_in ws') post.count ∙ post.entries ∙ ap (λ (y : Entry). entries_in ws n ++ (y ∷ [])) e

two_pushed : {ws ws₁ ws₂ : List ℕ} {n n₁ n₂ r₁ r₂ : ℕ} {p q : Position} (x y : Entry) → PushPost ws n p ws₁ n₁ r₁ →
    PushPost ws₁ n₁ q ws₂ n₂ r₂ → entry_by p ≡ x → entry_by q ≡ y → entries_in ws₂ n₂ ≡ entries_in ws n ++ (x ∷ []) ++ (y ∷ [])
two_pushed x y one two e f = one_pushed two y f ∙ ap (λ (l : List Entry). l ++ (y ∷ [])) (one_pushed one x e)

-- the code's entries are the model's
over_entry : (m i : ℕ) {s u : model.Step} → s ≡ u → entry_by (over_by m s i) ≡ with_role m (over u i)
over_entry m i f = ap (λ (v : model.Step). with_role m (over v i)) f

-- whether a step has an entry
step_chosen : (ws : List ℕ) (n x : ℕ) (s : model.Step) (up none : Bool) → up ≡ is_up s → (eqb x 0 && not up) ≡ none →
    positions.push_step s (out_of ws n x) ≡
    cond none (out_of ws n x) (positions.push (entries_in ws n) (accessing (over s x)))
step_chosen ws n x s up none u h =
    ap (λ (t : Bool). cond t (out_of ws n x) (positions.push (entries_in ws n) (accessing (over s x))))
    (ap (λ (v : Bool). eqb x 0 && not v) (sym u) ∙ h)

-- WAYS OUT
module _ {ws : List ℕ} {n x : ℕ} (pre : GrowPre ws n x) where
  within : n ≤ length ws
  within = omega (arith, pre.size, pre.room)

  one_more : {goal : positions.Emitted} {ws' : List ℕ} {p : Position} {n' r : ℕ} → PushPost ws n p ws' n' r → out_of ws' n' r ≡ goal →
      Grown goal n ws' n' r
  one_more post is =
      record {
        size = post.size ∙ pre.size;
        is = is;
        low = omega (arith, post.count, post.result);
        more = omega (arith, post.count);
        few = omega (arith, post.count);
      }

  pub step_grown : {ws' : List ℕ} {n' r : ℕ} (s : model.Step) {up : Bool} → up ≡ is_up s → (eqb x 0 && not up) ≡ false →
      PushPost ws n (over_by accessed_role s x) ws' n' r → Grown (positions.push_step s (out_of ws n x)) n ws' n' r
  step_grown s {up = up} u h post =
      one_more post (pushed_is post (accessing (over s x)) within refl ∙ sym (step_chosen ws n x s up _ u h))

  pub union_grown : {ws' : List ℕ} {n' r : ℕ} (first : ℕ) → (first ≡ 0 → ⊥) → (x ≡ 0 → ⊥) →
      PushPost ws n (union_by plain_role first x) ws' n' r → Grown (positions.push_union first (out_of ws n x)) n ws' n' r
  union_grown first f g post =
      one_more post (pushed_is post (plain (union first x)) within refl ∙ rw (ne_eqb first 0 f, ne_eqb x 0 g))

  pub delete_grown : {ws₁ ws₂ : List ℕ} {n₁ n₂ r₁ r₂ : ℕ} {s : model.Step} → (x ≡ 0 → ⊥) → s ≡ any_below →
      PushPost ws n (over_by plain_role s x) ws₁ n₁ r₁ → PushPost ws₁ n₁ (union_by modified_role x r₁) ws₂ n₂ r₂ →
      Grown (positions.push_delete (out_of ws n x)) n ws₂ n₂ 0
  delete_grown f b one two =
      record {
        size = two.size ∙ one.size ∙ pre.size;
        is = ap (positions.emitted 0) (two_pushed (plain (over any_below x)) (modifying (union x (length (entries_in ws n)))) one two
            (over_entry plain_role x b)
            (ap (λ (k : ℕ). modifying (union x k)) (one.result ∙ sym (entries_in_length ws n within)))) ∙
            rw (ne_eqb x 0 f);
        low = omega (arith, one.count, two.count);
        more = omega (arith, one.count, two.count);
        few = omega (arith, one.count, two.count);
      }

  -- NOTHING more
  chosen : {goal : positions.Emitted} (i : ℕ) → i < n → out_of ws n i ≡ goal → Grown goal n ws n i
  chosen i low is = record { size = pre.size; is = is; low = low; more = omega arith; few = omega arith }

  pub grown_none : {goal : positions.Emitted} → out_of ws n x ≡ goal → Grown goal n ws n x
  grown_none = chosen x pre.low

  pub step_none : (s : model.Step) {up : Bool} → up ≡ is_up s → (eqb x 0 && not up) ≡ true →
      Grown (positions.push_step s (out_of ws n x)) n ws n x
  step_none s {up = up} u h = grown_none (sym (step_chosen ws n x s up _ u h))

  pub delete_none : x ≡ 0 → Grown (positions.push_delete (out_of ws n x)) n ws n x
  delete_none e = grown_none (rw (eq-eqb x 0 e))

  pub union_first : (first : ℕ) → first ≡ 0 → Grown (positions.push_union first (out_of ws n x)) n ws n x
  union_first first e = grown_none (rw (eq-eqb first 0 e))

  pub union_second : (first : ℕ) → first < n → (first ≡ 0 → ⊥) → x ≡ 0 → Grown (positions.push_union first (out_of ws n x)) n ws n first
  union_second first low f e = chosen first low (rw (ne_eqb first 0 f, eq-eqb x 0 e))

-- ALL BELOW a position, and twice that for an insert
module _ {ws : List ℕ} {n x : ℕ} (role : ℕ) (pre : BelowPre ws n x) where
  pub below_none : x ≡ 0 → BelowPost ws n role x ws n
  below_none e = record { size = pre.size; is = rw (eq-eqb x 0 e); more = omega arith; few = omega arith }

  pub below_some : (x ≡ 0 → ⊥) → {ws' : List ℕ} {n' r : ℕ} {s : model.Step} → s ≡ any_below → PushPost ws n (over_by role s x) ws' n' r →
      BelowPost ws n role x ws' n'
  below_some f b post =
      record {
        size = post.size ∙ pre.size;
        is = one_pushed post (with_role role (over any_below x)) (over_entry role x b) ∙ rw (ne_eqb x 0 f);
        more = omega (arith, post.count);
        few = omega (arith, post.count);
      }

pub insert_grown : {ws ws₁ ws₂ : List ℕ} {x y n m k : ℕ} → BelowPost ws n accessed_role x ws₁ m →
    BelowPost ws₁ m modified_role y ws₂ k → y < n →
    Grown (positions.push_insert x (out_of ws n y)) n ws₂ k 0
insert_grown {y = y} one two low =
    record {
      size = two.size;
      is = ap (positions.emitted 0) (two.is ∙ ap (positions.push_below (with_role modified_role) y) one.is);
      low = omega (arith, one.more, two.more);
      more = omega (arith, one.more, two.more);
      few = omega (arith, one.few, two.few);
    }
