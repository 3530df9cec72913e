-- Lists and areas: what is set, what is put over an area, tests of their items.
use mathlib.Core.Path.{◌≡◌, refl, ap, sym, ◌∙◌}
use mathlib.Core.Bool.{Bool, true, false, ◌||◌, false≢true, or-false, or_assoc, cond}
use mathlib.Core.Logic.{◌⊎◌, inl, inr, ⊎_elim}
use mathlib.Core.List.{List, [], ◌∷◌, ◌++◌, map}
use mathlib.Core.List.Memᴰ.{head as here}
use mathlib.Core.List.Memᴰ.{tail as there}
use mathlib.Core.List.{append_assoc, append-nil, Memᴰ as In}
use Prim.Native.Nat.{ℕ, zero, suc, ◌+◌, ◌-◌, ◌≤◌, ◌<◌}
use native.Mathlib.Omega.{arith}
use native.Mathlib.Nat.{add-zero, zero-add, zero-sub, sub-zero, suc-sub-suc}
use native.Mathlib.Numerals.{add-one}
use lib.Dec.{eqb}
use lib.ListN.{length, get_or, take, drop, set, length-append, length-drop, take-append-drop, drop_of_length-le}
use lib.Seq.{take-nil, take_at, take_all, take-suc, take-suc-set, take-length, length-take-le, drop-cons, drop-append-add, drop-drop}
use lib.Seq.{get_or-drop, paste, paste-suc}
use borrow.Author.Tests.{eqb-true, eq-eqb}
use Rattle.model.specs.Base.{at_front, over, all, any, filtered, among}
use Rattle.model.proofs.BoolLaws.{and_left, and_right, and_both, or_left, or_right, or_cases}

-- an element set, and then mapped
pub map_set : {A B : Type 0} (f : A → B) (l : List A) (i : ℕ) (a : A) → map f (set l i a) ≡ set (map f l) i (f a)
map_set f [] i a = refl
map_set f (x ∷ l) zero a = refl
map_set f (x ∷ l) (suc i) a = ap (λ (t : List _). f x ∷ t) (map_set f l i a)

-- mapped and mapped back, where each element comes back
pub map_back : {A B : Type 0} (f : A → B) (g : B → A) (l : List A) (d : A) →
    ((k : ℕ) → k < length l → g (f (get_or l k d)) ≡ get_or l k d) → map g (map f l) ≡ l
map_back f g [] d h = refl
map_back f g (x ∷ l) d h = λ i. h zero (omega arith) i ∷ map_back f g l d (λ k b. h (suc k) (omega arith)) i

-- AN AREA that begins with A, and goes on with B
over_grown : (A B o : List ℕ) (k : ℕ) → length A ≡ k → over k B (A ++ drop k o) ≡ A ++ B ++ drop (k + length B) o
over_grown A B o k h =
    ap (λ (l : List ℕ). l ++ B ++ drop (k + length B) (A ++ drop k o)) (take_at A (drop k o) k h) ∙
    ap (λ (l : List ℕ). A ++ B ++ l)
    (ap (λ (j : ℕ). drop (j + length B) (A ++ drop k o)) (sym h) ∙ drop-append-add A (drop k o) (length B) ∙ drop-drop (length B) k o)

pub over_over : (s : ℕ) (B C o : List ℕ) → s ≤ length o → over (s + length B) C (over s B o) ≡ over s (B ++ C) o
over_over s B C o h =
    let l : length (take s o ++ B) ≡ s + length B = length-append (take s o) B ∙ ap (λ (j : ℕ). j + length B) (length-take-le s o h) in
    over_grown (take s o ++ B) C o (s + length B) l ∙
    ap (λ (v : List ℕ). v ++ drop (s + length B + length C) o) (append_assoc (take s o) B C) ∙
    ap (λ (j : ℕ). take s o ++ (B ++ C) ++ drop j o) total
  where
    total : s + length B + length C ≡ s + length (B ++ C)
    total = omega (arith, length-append B C)

pub length_over : (s : ℕ) (B o : List ℕ) → s + length B ≤ length o → length (over s B o) ≡ length o
length_over s B o h = omega (
  arith,
  length-append (take s o ++ B) (drop (s + length B) o),
  length-append (take s o) B,
  length-take-le s o
      (omega arith),
  length-drop (s + length B) o,
)

-- nothing put
pub over_nil : (s : ℕ) (o : List ℕ) → over s [] o ≡ o
over_nil s o = simp (append-nil, add-zero) (take-append-drop s o)

-- put element by element: one more; all of them; all of them at the front, and over an area no longer
module _ {o : List ℕ} (d s : List ℕ) (i j : ℕ) (held : o ≡ paste d i s j) where
  pub paste_next : (k : ℕ) → k ≡ i + j → k < length d → j < length s → set o k (get_or s j 0) ≡ paste d i s (j + 1)
  paste_next k e h l =
      ap (λ (v : List ℕ). set v k (get_or s j 0)) held ∙ ap (λ (n : ℕ). set (paste d i s j) n (get_or s j 0)) e ∙
      paste-suc d i s j 0 (omega arith) l ∙ ap (paste d i s) (sym (add-one j))

  pub paste_all : j ≡ length s → o ≡ over i s d
  paste_all e = held ∙ ap (paste d i s) e ∙ ap (λ (l : List ℕ). take i d ++ l ++ drop (i + length s) d) (take-length s)

pub front_all : {o : List ℕ} (d s : List ℕ) (j : ℕ) → o ≡ paste d 0 s j → j ≡ length s → o ≡ at_front s d
front_all d s j held e = paste_all d s 0 j held e ∙ ap (λ (n : ℕ). s ++ drop n d) (zero-add (length s))

pub front_whole : (s d : List ℕ) → length d ≤ length s → at_front s d ≡ s
front_whole s d h = ap (λ (l : List ℕ). s ++ l) (drop_of_length-le d h) ∙ append-nil s

-- what stands from a place on: of the first items, all of it, and the first of it
pub drop_take : {A : Type 0} (j m : ℕ) (b : List A) → drop j (take m b) ≡ take (m - j) (drop j b)
drop_take zero m b = rw sub-zero
drop_take (suc j) zero b = rw zero-sub
drop_take (suc j) (suc m) [] = sym (take-nil (suc m - suc j))
drop_take (suc j) (suc m) (a ∷ b) = rw suc-sub-suc (drop_take j m b)

pub drop_all : (b : List ℕ) (i : ℕ) → take (length b - i) (drop i b) ≡ drop i b
drop_all b i = take_all (length b - i) (drop i b) (omega (arith, length-drop i b))

pub drop_first : (b : List ℕ) (i : ℕ) → get_or (drop i b) 0 0 ≡ get_or b i 0
drop_first b i = let e : i + 0 ≡ i = omega arith in get_or-drop i b 0 0 ∙ ap (λ (j : ℕ). get_or b j 0) e

-- one item more of the first, also where it was just set, and one less of the rest
module _ {A : Type 0} (l : List A) (i : ℕ) (d : A) (h : i < length l) where
  pub take_next : take (i + 1) l ≡ take i l ++ (get_or l i d ∷ [])
  take_next = rw add-one (take-suc l i d h)

  pub drop_next : drop i l ≡ get_or l i d ∷ drop (i + 1) l
  drop_next = rw add-one (drop-cons l i d h)

pub take_set : {A : Type 0} (l : List A) (i : ℕ) (a : A) → i < length l → take (i + 1) (set l i a) ≡ take i l ++ (a ∷ [])
take_set l i a h = rw add-one (take-suc-set l i a h)

-- SOME ITEM of a list passes a test: in either of two lists, by its place in the list
module _ {A : Type 0} (f : A → Bool) where
  pub any_append : (k l : List A) → any f (k ++ l) ≡ (any f k || any f l)
  unfolding any
  any_append [] l = refl
  any_append (x ∷ k) l = ap (λ (t : Bool). f x || t) (any_append k l) ∙ sym (or_assoc (f x) (any f k) (any f l))

  pub any_snoc : (l : List A) (x : A) → any f (l ++ (x ∷ [])) ≡ (any f l || f x)
  unfolding any
  any_snoc l x = any_append l (x ∷ []) ∙ ap (λ (t : Bool). any f l || t) (or-false (f x))

  pub any_left : (k l : List A) → any f k ≡ true → any f (k ++ l) ≡ true
  any_left k l h = any_append k l ∙ or_left (any f k) (any f l) h

  pub any_right : (k l : List A) → any f l ≡ true → any f (k ++ l) ≡ true
  any_right k l h = any_append k l ∙ or_right (any f k) (any f l) h

  pub any_either : {G : Type 0} (k l : List A) → (any f k ≡ true → G) → (any f l ≡ true → G) → any f (k ++ l) ≡ true → G
  any_either k l g h e = ⊎_elim g h (or_cases (any f k) (any f l) (sym (any_append k l) ∙ e))

pub any_same : {A : Type 0} (f g : A → Bool) (l : List A) → ((a : A) → In a l → f a ≡ g a) → any f l ≡ any g l
unfolding any
any_same f g [] h = refl
any_same f g (x ∷ l) h =
    ap (λ (t : Bool). t || any f l) (h x (here refl)) ∙ ap (λ (t : Bool). g x || t) (any_same f g l (λ a i. h a (there i)))

pub any_in : {A : Type 0} (f : A → Bool) (l : List A) → any f l ≡ true → (a : A) × In a l × (f a ≡ true)
unfolding any
any_in f [] e = absurd (false≢true e)
any_in {A} f (b ∷ l) e = go (or_cases (f b) (any f l) e) (λ h. any_in f l h)
  where
    go : (f b ≡ true) ⊎ (any f l ≡ true) → (any f l ≡ true → (a : A) × In a l × (f a ≡ true)) → (a : A) × In a (b ∷ l) × (f a ≡ true)
    go (inl h) k = (b, here refl, h)
    go (inr h) k =
        let (a, i, g) = k h in
        (a, there i, g)

pub in_any : {A : Type 0} (f : A → Bool) {a : A} {l : List A} → In a l → f a ≡ true → any f l ≡ true
unfolding any
in_any f (here {x = b} {xs = l} e) h = or_left (f b) (any f l) (ap f (sym e) ∙ h)
in_any f (there {x = b} {xs = l} i) h = or_right (f b) (any f l) (in_any f i h)

pub among_in : (i : ℕ) (l : List ℕ) → among i l ≡ true → In i l
unfolding among
among_in i [] e = absurd (false≢true e)
among_in i (j ∷ l) e = elim (or_cases (eqb i j) (among i l) e) [ inl k ↦ here (eqb-true i j k) | inr k ↦ there (among_in i l k) ]

pub in_among : {i : ℕ} {l : List ℕ} → In i l → among i l ≡ true
unfolding among
in_among {i} (here {x = j} {xs = l} e) = or_left (eqb i j) (among i l) (eq-eqb i j e)
in_among {i} (there {x = j} {xs = l} h) = or_right (eqb i j) (among i l) (in_among h)

-- ITEMS THAT PASS a test: of two lists, and of a list mapped
module _ {A : Type 0} where
  pub cond_append : (z : Bool) (x : A) (k l : List A) → cond z (x ∷ (k ++ l)) (k ++ l) ≡ cond z (x ∷ k) k ++ l
  cond_append true x k l = refl
  cond_append false x k l = refl

  pub cond_map : {B : Type 0} (h : A → B) (z : Bool) (x : A) (l : List A) → map h (cond z (x ∷ l) l) ≡ cond z (h x ∷ map h l) (map h l)
  cond_map h true x l = refl
  cond_map h false x l = refl

  pub filtered_append : (f : A → Bool) (k l : List A) → filtered f (k ++ l) ≡ filtered f k ++ filtered f l
  unfolding filtered
  filtered_append f [] l = refl
  filtered_append f (x ∷ k) l =
      ap (λ (t : List A). cond (f x) (x ∷ t) t) (filtered_append f k l) ∙ cond_append (f x) x (filtered f k) (filtered f l)

  pub filtered_map : {B : Type 0} (h : A → B) (f : A → Bool) (g : B → Bool) (l : List A) → ((a : A) → In a l → f a ≡ g (h a)) →
      map h (filtered f l) ≡ filtered g (map h l)
  unfolding filtered
  filtered_map h f g [] e = refl
  filtered_map h f g (x ∷ l) e =
      cond_map h (f x) x (filtered f l) ∙ rw (e x (here refl), filtered_map h f g l (λ a i. e a (there i)))

-- EVERY ITEM passes a test
pub all_get_d : {A : Type 0} (f : A → Bool) (l : List A) (d : A) → all f l ≡ true → (k : ℕ) → k < length l → f (get_or l k d) ≡ true
unfolding all
all_get_d f [] d h k b = absurd (omega arith)
all_get_d f (a ∷ l) d h zero b = and_left (f a) (all f l) h
all_get_d f (a ∷ l) d h (suc k) b = all_get_d f l d (and_right (f a) (all f l) h) k (omega arith)

pub get_d_all : {A : Type 0} (f : A → Bool) (l : List A) (d : A) → ((k : ℕ) → k < length l → f (get_or l k d) ≡ true) → all f l ≡ true
unfolding all
get_d_all f [] d h = refl
get_d_all f (a ∷ l) d h = and_both _ _ (h zero (omega arith)) (get_d_all f l d (λ k b. h (suc k) (omega arith)))
