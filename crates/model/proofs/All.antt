-- Every item of a list has a property.
use mathlib.Core.Path.{sym, subst}
use mathlib.Core.Bool.{Bool}
use mathlib.Core.List.Memᴰ.{head as here}
use mathlib.Core.List.Memᴰ.{tail as there}
use mathlib.Core.List.{List, [], ◌∷◌, ◌++◌, map, Memᴰ as In}
use Prim.Native.Nat.{ℕ, zero, suc, ◌<◌}
use native.Mathlib.Nat.{not-suc-le-zero, le_of_suc-le-suc}
use lib.ListN.{length, get_or, set}
use Rattle.model.specs.Base.{All, nothing, also, filtered}
use Rattle.model.proofs.BoolLaws.{cond_cases}

module _ {A : Type 0} where
  pub all_append : {P : A → Type 0} {k l : List A} → All P k → All P l → All P (k ++ l)
  all_append nothing b = b
  all_append (also p a) b = also p (all_append a b)

  -- a property that everything has
  pub all_any : {P : A → Type 0} → ((a : A) → P a) → (l : List A) → All P l
  all_any h [] = nothing
  all_any h (x ∷ l) = also (h x) (all_any h l)

  pub all_imp : {P Q : A → Type 0} {l : List A} → ((a : A) → P a → Q a) → All P l → All Q l
  all_imp f nothing = nothing
  all_imp f (also p a) = also (f _ p) (all_imp f a)

  pub all_map : {B : Type 0} {P : A → Type 0} {Q : B → Type 0} {l : List A} (g : A → B) → ((a : A) → P a → Q (g a)) → All P l →
      All Q (map g l)
  all_map g f nothing = nothing
  all_map g f (also p a) = also (f _ p) (all_map g f a)

  pub all_filtered : {P : A → Type 0} {l : List A} (f : A → Bool) → All P l → All P (filtered f l)
  unfolding filtered
  all_filtered f nothing = nothing
  all_filtered {P} f (also {a = x} p a) = let b = all_filtered f a in cond_cases (All P) (f x) (λ e. also p b) (λ e. b)

  pub all_in : {P : A → Type 0} {l : List A} {a : A} → All P l → In a l → P a
  all_in nothing i = elim i [ ]
  all_in {P} (also p b) (here e) = subst P (sym e) p
  all_in (also p b) (there i) = all_in b i

  pub all_at : {P : A → Type 0} {l : List A} (d : A) (i : ℕ) → All P l → i < length l → P (get_or l i d)
  all_at d i nothing h = absurd (not-suc-le-zero h)
  all_at d zero (also p a) h = p
  all_at d (suc i) (also p a) h = all_at d i a (le_of_suc-le-suc h)

  -- one more
  pub all_snoc : {P : A → Type 0} {l : List A} {a : A} → All P l → P a → All P (l ++ (a ∷ []))
  all_snoc h p = all_append h (also p nothing)

  -- one exchanged
  pub all_set : {P : A → Type 0} {l : List A} {a : A} (i : ℕ) → All P l → P a → All P (set l i a)
  all_set i nothing p = nothing
  all_set zero (also q b) p = also p b
  all_set (suc i) (also q b) p = also q (all_set i b p)

  -- parts
  pub all_front : {P : A → Type 0} (k l : List A) → All P (k ++ l) → All P k
  all_front [] l a = nothing
  all_front (x ∷ k) l (also p a) = also p (all_front k l a)

  pub all_back : {P : A → Type 0} (k l : List A) → All P (k ++ l) → All P l
  all_back [] l a = a
  all_back (x ∷ k) l (also p a) = all_back k l a

  -- what is read at any place, where the default has the property too
  pub all_read : {P : A → Type 0} {l : List A} (d : A) → P d → All P l → (k : ℕ) → P (get_or l k d)
  all_read d p nothing k = p
  all_read d p (also q a) zero = q
  all_read d p (also q a) (suc k) = all_read d p a k
