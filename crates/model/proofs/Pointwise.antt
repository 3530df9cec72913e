-- Two lists of one length, related item by item.
use mathlib.Core.List.{List, [], ◌∷◌, ◌++◌}
use Prim.Native.Nat.{ℕ, zero, suc}
use lib.ListN.{get_or}

pub data Pointwise {A B : Type 0} (R : A → B → Type 0) : List A → List B → Type 0 where
  ended : Pointwise R [] []
  paired : {a : A} {b : B} {k : List A} {l : List B} → R a b → Pointwise R k l → Pointwise R (a ∷ k) (b ∷ l)

module _ {A B : Type 0} where
  pub pointwise_append : {R : A → B → Type 0} {k k' : List A} {l l' : List B} → Pointwise R k l → Pointwise R k' l' →
      Pointwise R (k ++ k') (l ++ l')
  pointwise_append ended q = q
  pointwise_append (paired r p) q = paired r (pointwise_append p q)

  -- one more
  pub pointwise_snoc : {R : A → B → Type 0} {k : List A} {l : List B} {a : A} {b : B} → Pointwise R k l → R a b →
      Pointwise R (k ++ (a ∷ [])) (l ++ (b ∷ []))
  pointwise_snoc p r = pointwise_append p (paired r ended)

  pub pointwise_imp : {R S : A → B → Type 0} {k : List A} {l : List B} → ((a : A) (b : B) → R a b → S a b) → Pointwise R k l →
      Pointwise S k l
  pointwise_imp f ended = ended
  pointwise_imp f (paired r p) = paired (f _ _ r) (pointwise_imp f p)

  -- what is read at any place, where the defaults are related too
  pub pointwise_read : {R : A → B → Type 0} {k : List A} {l : List B} (d : A) (e : B) → R d e → Pointwise R k l → (i : ℕ) →
      R (get_or k i d) (get_or l i e)
  pointwise_read d e r ended i = r
  pointwise_read d e r (paired q p) zero = q
  pointwise_read d e r (paired q p) (suc i) = pointwise_read d e r p i
