-- What 'free' says: no upward step, and no path that one script modifies meets a path that the other accesses.
use mathlib.Core.Path.{◌≡◌, refl, subst}
use mathlib.Core.Bool.{Bool, true, false, ◌||◌, cond}
use mathlib.Core.Logic.{◌⊎◌, inl, inr}
use mathlib.Core.List.Memᴰ
use mathlib.Core.List.Memᴰ.{head as here}
use mathlib.Core.List.Memᴰ.{tail as there}
use mathlib.Core.List.{List, Memᴰ as In}
use Prim.Native.Nat.{ℕ}
use native.Mathlib.Omega.{arith}
use Rattle.model.specs.Base.{any}
use Rattle.model.specs.Script.{Expr}
use Rattle.model.specs.Paths.{Path, start, ◌▸◌, Paths, paths_of, prefixes_of, prefixed, traversed, has_up}
use Rattle.model.specs.Meeting.{meets, any_meet, paths_meet, free, upward, meet, answer}
use Rattle.model.proofs.BoolLaws.{or_neither, bool_cases, true_false}
use Rattle.model.proofs.ListLaws.{in_any}

-- ACCESSED paths are traversed
in_prefixes : (p : Path) → In p (prefixes_of p)
unfolding prefixes_of
in_prefixes (start p) = here refl
in_prefixes (p ▸ s) = here refl

in_prefixed : {p : Path} {ps : List Path} → In p ps → In p (prefixed ps)
unfolding prefixed
in_prefixed {p} (here {x = q} {xs = ps} e) =
    Memᴰ.append_left (prefixed ps) (subst (λ q. In p (prefixes_of q)) e (in_prefixes p))
in_prefixed (there {x = q} {xs = ps} i) = Memᴰ.append_right (prefixes_of q) (in_prefixed i)

-- NO TWO of two lists of paths meet
none_meet : (ps qs : List Path) (p q : Path) → any_meet ps qs ≡ false → In p ps → In q qs → meets p q ≡ false
none_meet ps qs p q e i j = go (bool_cases (meets p q))
  where
    go : (meets p q ≡ true) ⊎ (meets p q ≡ false) → meets p q ≡ false
    go (inl h) = absurd (true_false (any_meet ps qs) (in_any (λ p. any (meets p) qs) i (in_any (meets p) j h)) e)
    go (inr h) = h

-- this script's modified paths lie away from what the other accesses
abbrev pub Away : Paths → Paths → Type 0
Away x y = (p q : Path) → In p x.modified → In q y.accessed → meets p q ≡ false

pub record Apart (e f : Expr) : Type 0 where
  pub first_down : has_up e ≡ false
  pub second_down : has_up f ≡ false
  pub first_away : Away (paths_of 1 e) (paths_of 2 f)
  pub second_away : Away (paths_of 2 f) (paths_of 1 e)

pub free_apart : (e f : Expr) → answer e f ≡ free → Apart e f
free_apart e f h = go (has_up e || has_up f) (paths_meet (paths_of 1 e) (paths_of 2 f)) refl refl h
  where
    go : (u m : Bool) → (has_up e || has_up f) ≡ u → paths_meet (paths_of 1 e) (paths_of 2 f) ≡ m →
        cond u upward (cond m meet free) ≡ free →
        Apart e f
    go true m a b c =
        let z : ◌≡◌ {A = ℕ} 0 1 = cc in
        absurd (omega arith)
    go false true a b c =
        let z : ◌≡◌ {A = ℕ} 0 1 = cc in
        absurd (omega arith)
    go false false a b c =
        let (d, g) = or_neither (has_up e) (has_up f) a in
        let (k, l) =
        or_neither (any_meet (paths_of 1 e).modified (traversed (paths_of 2 f)))
        (any_meet (paths_of 2 f).modified (traversed (paths_of 1 e))) b in
        record {
          first_down = d;
          second_down = g;
          first_away =
              λ p q i j.
              none_meet (paths_of 1 e).modified (traversed (paths_of 2 f)) p q k i (in_prefixed j);
          second_away =
              λ p q i j.
              none_meet (paths_of 2 f).modified (traversed (paths_of 1 e)) p q l i (in_prefixed j);
        }
