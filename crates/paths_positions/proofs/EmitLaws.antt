-- Emission is exact: an expression's position has its result's paths that start at a document, and the accessed positions and the
-- modified ones have, in order, its accessed and its modified paths.
use mathlib.Core.Path.{◌≡◌, refl, ap, sym, ◌∙◌, subst}
use mathlib.Core.Bool.{Bool, true, false, ◌&&◌, not, cond}
use mathlib.Core.List.{List, [], ◌∷◌, ◌++◌, append_assoc, append-nil}
use Prim.Native.Nat.{ℕ, ◌<◌, ◌≤◌}
use native.Mathlib.Omega.{arith}
use lib.Dec.{eqb}
use lib.ListN.{length, get_or, length-append, get_or-append}
use lib.Seq.{get_or_at}
use borrow.Author.Tests.{ne_eqb, eqb-true}
use Rattle.model.specs.Base.{filtered}
use Rattle.model.specs.Script.{Step, Expr, nil, document, var, step, both, let_in, for_in, if_in, element, leaf, delete, insert, pick}
use Rattle.model.specs.Paths.{place_of, Path, start, place, with_step, any_below, infer, is_up}
use Rattle.model.proofs.BoolLaws.{and_left, cond_cases, eq_cases}
use Rattle.model.proofs.Pointwise.{Pointwise, pointwise_snoc, pointwise_imp, pointwise_read}
use Rattle.paths_positions.specs.Positions.{Position, over, union, Entry, plain, accessing, modifying, entry_at, IsLower, AreLower}
use Rattle.paths_positions.specs.Positions.{Emitted, emitted, push, push_step, push_union, push_delete, push_below, push_insert, emit}
use Rattle.paths_positions.specs.Positions.{paths_at, paths_from, paths_by, paths_on}
use Rattle.paths_positions.proofs.PositionLaws.{paths_on_keeps, paths_on_next}
use Rattle.paths_positions.proofs.DocumentLaws.{from_documents, from_documents_append, from_documents_step}

-- the paths of the positions with a role, in order
unfoldable pub paths_with_from : (Entry → Bool) → (lower : List (List Path)) → List Entry → List Path
paths_with_from f ps [] = []
paths_with_from f ps (x ∷ xs) = cond (f x) (paths_at ps x.position) [] ++ paths_with_from f (ps ++ (paths_at ps x.position ∷ [])) xs

abbrev pub paths_with : (Entry → Bool) → List Entry → List Path
paths_with f es = paths_with_from f [] es

abbrev pub is_accessed : Entry → Bool
is_accessed x = x.accessed

abbrev pub is_modified : Entry → Bool
is_modified x = x.modified

paths_with_from_append : (f : Entry → Bool) (ps : List (List Path)) (es fs : List Entry) →
    paths_with_from f ps (es ++ fs) ≡ paths_with_from f ps es ++ paths_with_from f (paths_from ps es) fs
unfolding paths_with_from paths_from
paths_with_from_append f ps [] fs = refl
paths_with_from_append f ps (x ∷ es) fs =
    ap (λ (l : List Path). cond (f x) (paths_at ps x.position) [] ++ l)
    (paths_with_from_append f (ps ++ (paths_at ps x.position ∷ [])) es fs) ∙
    sym (append_assoc (cond (f x) (paths_at ps x.position) []) (paths_with_from f (ps ++ (paths_at ps x.position ∷ [])) es) _)

pub paths_with_push : (f : Entry → Bool) (es : List Entry) (x : Entry) →
    paths_with f (es ++ (x ∷ [])) ≡ paths_with f es ++ cond (f x) (paths_at (paths_by es) x.position) []
unfolding paths_with_from
paths_with_push f es x =
    paths_with_from_append f [] es (x ∷ []) ∙ ap (λ (l : List Path). paths_with f es ++ l)
    (append-nil (cond (f x) (paths_at (paths_by es) x.position) []))

-- ENTRIES that positions may be emitted after: position 0 is nothing
pub record Ready (es : List Entry) : Type 0 where
  pub some : 0 < length es
  pub zero : paths_on es 0 ≡ []
  pub lower : AreLower es

-- EMITTED RIGHT: from the entries before, an expression with these paths
pub record Right (es : List Entry) (result accesses changes : List Path) (y : Emitted) : Type 0 where
  pub low : y.result < length y.entries
  pub more : length es ≤ length y.entries
  pub keeps : (k : ℕ) → k < length es → paths_on y.entries k ≡ paths_on es k
  pub lower : AreLower y.entries
  pub is : paths_on y.entries y.result ≡ from_documents result
  pub accessed : paths_with is_accessed y.entries ≡ paths_with is_accessed es ++ from_documents accesses
  pub modified : paths_with is_modified y.entries ≡ paths_with is_modified es ++ from_documents changes

ready : {es : List Entry} {r a m : List Path} {y : Emitted} → Ready es → Right es r a m y → Ready y.entries
ready z h = record { some = omega (arith, z.some, h.more); zero = h.keeps 0 z.some ∙ z.zero; lower = h.lower }

-- nothing is emitted
known : (es : List Entry) → Ready es → (n : ℕ) (r : List Path) → n < length es → paths_on es n ≡ from_documents r →
    Right es r [] [] (emitted n es)
unfolding filtered
known es z n r h e =
    record {
      low = h;
      more = omega arith;
      keeps = λ k l. refl;
      lower = z.lower;
      is = e;
      accessed = sym (append-nil (paths_with is_accessed es));
      modified = sym (append-nil (paths_with is_modified es));
    }

-- another result, with the same entries
answering : {es : List Entry} {r a m : List Path} {y : Emitted} → Right es r a m y → (n : ℕ) (r' : List Path) → n < length y.entries →
    paths_on y.entries n ≡ from_documents r' → Right es r' a m (emitted n y.entries)
answering h n r' low is =
    record { low = low; more = h.more; keeps = h.keeps; lower = h.lower; is = is; accessed = h.accessed; modified = h.modified }

discarded : {es : List Entry} {r a m : List Path} {y : Emitted} → Ready es → Right es r a m y → Right es [] a m (emitted 0 y.entries)
unfolding filtered
discarded z h = let q = ready z h in answering h 0 [] q.some q.zero

-- one expression after another: the second's result
joined_roles : (before x y a b : List Path) → x ≡ before ++ from_documents a → y ≡ x ++ from_documents b →
    y ≡ before ++ from_documents (a ++ b)
joined_roles before x y a b e f =
    f ∙ ap (λ (l : List Path). l ++ from_documents b) e ∙ append_assoc before (from_documents a) (from_documents b) ∙
    ap (λ (l : List Path). before ++ l) (sym (from_documents_append a b))

then_right : (es : List Entry) (r a m r' a' m' : List Path) (y y' : Emitted) → Right es r a m y → Right y.entries r' a' m' y' →
    Right es r' (a ++ a') (m ++ m') y'
then_right es r a m r' a' m' y y' h g =
    record {
      low = g.low;
      more = omega (arith, h.more, g.more);
      keeps = λ k l. g.keeps k (omega (arith, h.more)) ∙ h.keeps k l;
      lower = g.lower;
      is = g.is;
      accessed = joined_roles (paths_with is_accessed es) _ _ a a' h.accessed g.accessed;
      modified = joined_roles (paths_with is_modified es) _ _ m m' h.modified g.modified;
    }

-- one entry more, whose paths are these
lower_push : (es : List Entry) (x : Entry) → AreLower es → IsLower (length es) x.position → AreLower (es ++ (x ∷ []))
lower_push es x h l k low =
    eq_cases k (length es)
    (λ e.
    subst (λ (p : ℕ). IsLower p (entry_at (es ++ (x ∷ [])) p).position) (sym e)
    (subst (λ (q : Entry). IsLower (length es) q.position) (sym (get_or_at es x [] _ (length es) refl)) l))
    (λ t. let j : k < length es = omega (arith, t, length-append es (x ∷ [])) in
    subst (λ (q : Entry). IsLower k q.position) (sym (get_or-append es (x ∷ []) _ k j)) (h k j))

pushed : (es : List Entry) (r a m : List Path) (y : Emitted) → Right es r a m y → (w : Entry) (r' a' m' : List Path) →
    IsLower (length y.entries) w.position → paths_at (paths_by y.entries) w.position ≡ from_documents r' →
    cond w.accessed (from_documents r') [] ≡ from_documents a' → cond w.modified (from_documents r') [] ≡ from_documents m' →
    Right es r' (a ++ a') (m ++ m') (push y.entries w)
pushed es r a m y h w r' a' m' l e f g =
    record {
      low = omega (arith, length-append y.entries (w ∷ []));
      more = omega (arith, h.more, length-append y.entries (w ∷ []));
      keeps = λ k j. paths_on_keeps y.entries (w ∷ []) k (omega (arith, h.more)) ∙ h.keeps k j;
      lower = lower_push y.entries w h.lower l;
      is = paths_on_next y.entries w [] (length y.entries) refl ∙ e;
      accessed = joined_roles (paths_with is_accessed es) _ _ a a' h.accessed
          (paths_with_push is_accessed y.entries w ∙
          ap (λ (v : List Path). paths_with is_accessed y.entries ++ v) (ap (λ (v : List Path). cond w.accessed v []) e ∙ f));
      modified = joined_roles (paths_with is_modified es) _ _ m m' h.modified
          (paths_with_push is_modified y.entries w ∙
          ap (λ (v : List Path). paths_with is_modified y.entries ++ v) (ap (λ (v : List Path). cond w.modified v []) e ∙ g));
    }

-- lists that are alike
alike : (es : List Entry) (r a m a' m' : List Path) (y : Emitted) → a ≡ a' → m ≡ m' → Right es r a m y → Right es r a' m' y
alike es r a m a' m' y e f h = subst (λ (v : List Path). Right es r a' v y) f (subst (λ (v : List Path). Right es r v m y) e h)

-- NOTHING: position 0 has no paths, so a result there has none that start at a document
no_documents : (es : List Entry) → Ready es → (r a m : List Path) (y : Emitted) → Right es r a m y → y.result ≡ 0 → from_documents r ≡ []
no_documents es z r a m y h e = sym h.is ∙ ap (paths_on y.entries) e ∙ (ready z h).zero

-- no entry more, for paths of which none starts at a document
nothing_more : (es : List Entry) (r a m : List Path) (y : Emitted) → Right es r a m y → (r' a' m' : List Path) →
    from_documents r ≡ from_documents r' → from_documents a' ≡ [] → from_documents m' ≡ [] → Right es r' (a ++ a') (m ++ m') y
nothing_more es r a m y h r' a' m' e f g =
    record {
      low = h.low;
      more = h.more;
      keeps = h.keeps;
      lower = h.lower;
      is = h.is ∙ e;
      accessed = joined_roles (paths_with is_accessed es) _ _ a a' h.accessed (none (paths_with is_accessed y.entries) a' f);
      modified = joined_roles (paths_with is_modified es) _ _ m m' h.modified (none (paths_with is_modified y.entries) m' g);
    }
  where
    none : (x ps : List Path) → from_documents ps ≡ [] → x ≡ x ++ from_documents ps
    none x ps q = sym (ap (λ (v : List Path). x ++ v) q ∙ append-nil x)

no_step : (s : Step) (r : List Path) → from_documents r ≡ [] → from_documents (with_step s r) ≡ []
no_step s r e = from_documents_step s r ∙ ap (with_step s) e

-- BOUND VARIABLES: each position has the paths of its variable
abbrev pub Bound : List Entry → List ℕ → List (List Path) → Type 0
Bound es = Pointwise (λ n r. (n < length es) × (paths_on es n ≡ from_documents r))

bound_later : (es : List Entry) (r a m : List Path) (y : Emitted) → Right es r a m y → {ns : List ℕ} {rs : List (List Path)} →
    Bound es ns rs → Bound y.entries ns rs
bound_later es r a m y g = pointwise_imp (λ n r (h, e). (omega (arith, g.more), g.keeps n h ∙ e))

-- THE EMISSION of an expression
module _ (o : ℕ) (own : o ≡ 0 → ⊥) where
  abbrev Emits : Expr → Type 0
  Emits e = (ns : List ℕ) (rs : List (List Path)) (es : List Entry) → Ready es → Bound es ns rs →
      Right es (infer o e rs).result (infer o e rs).accessed (infer o e rs).modified (emit e ns es)

  emits_bound : (e f : Expr) → Emits e → Emits f → (ns : List ℕ) (rs : List (List Path)) (es : List Entry) → Ready es → Bound es ns rs →
      Right es (infer o f (rs ++ ((infer o e rs).result ∷ []))).result
      ((infer o e rs).accessed ++ (infer o f (rs ++ ((infer o e rs).result ∷ []))).accessed)
      ((infer o e rs).modified ++ (infer o f (rs ++ ((infer o e rs).result ∷ []))).modified)
      (emit f (ns ++ ((emit e ns es).result ∷ [])) (emit e ns es).entries)
  emits_bound e f E F ns rs es z b =
      let h = E ns rs es z b in
      then_right es _ _ _ _ _ _ (emit e ns es) (emit f (ns ++ ((emit e ns es).result ∷ [])) (emit e ns es).entries) h
      (F (ns ++ ((emit e ns es).result ∷ [])) (rs ++ ((infer o e rs).result ∷ [])) (emit e ns es).entries (ready z h)
      (pointwise_snoc (bound_later es _ _ _ _ h b) (h.low, h.is)))

  -- both results, after the second
  module _ (es : List Entry) (z : Ready es) (r a m r' a' m' : List Path) (y y' : Emitted) (h : Right es r a m y)
      (g : Right y.entries r' a' m' y') where
    two : Right es r' (a ++ a') (m ++ m') y'
    two = then_right es r a m r' a' m' y y' h g

    no_first : y.result ≡ 0 → from_documents r ≡ []
    no_first = no_documents es z r a m y h

    no_second : y'.result ≡ 0 → from_documents r' ≡ []
    no_second = no_documents es z r' (a ++ a') (m ++ m') y' two

    -- the first result, with the second's entries
    first : Right es r (a ++ a') (m ++ m') (emitted y.result y'.entries)
    first = answering two y.result r (omega (arith, h.low, g.more)) (g.keeps y.result h.low ∙ h.is)

    emits_union : Right es (r ++ r') (a ++ a') (m ++ m') (push_union y.result y')
    unfolding filtered
    emits_union =
        alike es (r ++ r') (a ++ a' ++ []) (m ++ m' ++ []) (a ++ a') (m ++ m') _ (append-nil (a ++ a')) (append-nil (m ++ m'))
        (cond_cases (Right es (r ++ r') (a ++ a' ++ []) (m ++ m' ++ [])) (eqb y.result 0)
        (λ e. nothing_more es r' (a ++ a') (m ++ m') y' two (r ++ r') [] []
        (sym (from_documents_append r r' ∙ ap (λ (v : List Path). v ++ from_documents r') (no_first (eqb-true y.result 0 e)))) refl refl)
        (λ n. cond_cases (Right es (r ++ r') (a ++ a' ++ []) (m ++ m' ++ [])) (eqb y'.result 0)
        (λ e. nothing_more es r (a ++ a') (m ++ m') (emitted y.result y'.entries) first (r ++ r') [] []
        (sym (from_documents_append r r' ∙ ap (λ (v : List Path). from_documents r ++ v) (no_second (eqb-true y'.result 0 e)) ∙
        append-nil (from_documents r))) refl refl)
        (λ k. pushed es r' (a ++ a') (m ++ m') y' two (plain (union y.result y'.result)) (r ++ r') [] []
        (omega (arith, h.low, g.more), g.low)
        (ap (λ (v : List Path). v ++ paths_on y'.entries y'.result) (g.keeps y.result h.low ∙ h.is) ∙
        ap (λ (v : List Path). from_documents r ++ v) g.is ∙ sym (from_documents_append r r'))
        refl refl)))

  emits_step : (es : List Entry) → Ready es → (s : Step) (r a m : List Path) (y : Emitted) → Right es r a m y →
      Right es (with_step s r) (a ++ with_step s r) (m ++ []) (push_step s y)
  unfolding filtered
  emits_step es z s r a m y h =
      cond_cases (Right es (with_step s r) (a ++ with_step s r) (m ++ [])) (eqb y.result 0 && not (is_up s))
      (λ e. let n = no_documents es z r a m y h (eqb-true y.result 0 (and_left (eqb y.result 0) _ e)) in
      nothing_more es r a m y h (with_step s r) (with_step s r) [] (n ∙ sym (no_step s r n)) (no_step s r n) refl)
      (λ e. pushed es r a m y h (accessing (over s y.result)) (with_step s r) (with_step s r) [] h.low
      (ap (with_step s) h.is ∙ sym (from_documents_step s r)) refl refl)

  emits_delete : (es : List Entry) → Ready es → (r a m : List Path) (y : Emitted) → Right es r a m y →
      Right es [] (a ++ []) (m ++ (r ++ with_step any_below r)) (push_delete y)
  unfolding filtered
  emits_delete es z r a m y h =
      cond_cases (Right es [] (a ++ []) (m ++ (r ++ with_step any_below r))) (eqb y.result 0)
      (λ e. let n = no_documents es z r a m y h (eqb-true y.result 0 e) in
      nothing_more es r a m y h [] [] (r ++ with_step any_below r) n refl
      (from_documents_append r (with_step any_below r) ∙ ap (λ (v : List Path). v ++ from_documents (with_step any_below r)) n ∙
      no_step any_below r n))
      (λ e. all)
    where
      below : Right es (with_step any_below r) (a ++ []) (m ++ []) (push y.entries (plain (over any_below y.result)))
      below =
          pushed es r a m y h (plain (over any_below y.result)) (with_step any_below r) [] [] h.low
          (ap (with_step any_below) h.is ∙ sym (from_documents_step any_below r)) refl refl

      all : Right es [] (a ++ []) (m ++ (r ++ with_step any_below r))
          (emitted 0
          (y.entries ++ (plain (over any_below y.result) ∷ []) ++ (modifying (union y.result (length y.entries)) ∷ [])))
      all =
          alike es [] (a ++ [] ++ []) (m ++ [] ++ (r ++ with_step any_below r)) (a ++ []) (m ++ (r ++ with_step any_below r)) _
          (append-nil (a ++ [])) (ap (λ (v : List Path). v ++ (r ++ with_step any_below r)) (append-nil m))
          (discarded z
          (pushed es (with_step any_below r) (a ++ []) (m ++ []) (push y.entries (plain (over any_below y.result))) below
          (modifying (union y.result (length y.entries))) (r ++ with_step any_below r) [] (r ++ with_step any_below r)
          (omega (arith, h.low, length-append y.entries (plain (over any_below y.result) ∷ [])), below.low)
          (ap (λ (v : List Path). v ++ paths_on (y.entries ++ (plain (over any_below y.result) ∷ [])) (length y.entries))
          (paths_on_keeps y.entries (plain (over any_below y.result) ∷ []) y.result h.low ∙ h.is) ∙
          ap (λ (v : List Path). from_documents r ++ v) below.is ∙ sym (from_documents_append r (with_step any_below r)))
          refl refl))

  -- all below a position n, whose paths are q, in a role
  module _ (es : List Entry) (z : Ready es) (r a m : List Path) (y : Emitted) (h : Right es r a m y) (n : ℕ) (q : List Path)
      (low : n < length y.entries) (is : paths_on y.entries n ≡ from_documents q) where
    none_below : n ≡ 0 → from_documents (with_step any_below q) ≡ []
    none_below e = no_step any_below q (sym is ∙ ap (paths_on y.entries) e ∙ (ready z h).zero)

    emits_below : (f : Position → Entry) → ((f (over any_below n)).position ≡ over any_below n) → (a' m' : List Path) →
        cond (f (over any_below n)).accessed (from_documents (with_step any_below q)) [] ≡ from_documents a' →
        cond (f (over any_below n)).modified (from_documents (with_step any_below q)) [] ≡ from_documents m' →
        Right es [] (a ++ a') (m ++ m') (emitted 0 (push_below f n y.entries))
    unfolding filtered
    emits_below f p a' m' i j =
        cond_cases (λ (x : List Entry). Right es [] (a ++ a') (m ++ m') (emitted 0 x)) (eqb n 0)
        (λ e. let w = none_below (eqb-true n 0 e) in
        nothing_more es [] a m (emitted 0 y.entries) (discarded z h) [] a' m' refl
        (sym i ∙ either (f (over any_below n)).accessed w) (sym j ∙ either (f (over any_below n)).modified w))
        (λ e. discarded z
        (pushed es r a m y h (f (over any_below n)) (with_step any_below q) a' m'
        (subst (IsLower (length y.entries)) (sym p) low)
        (ap (paths_at (paths_by y.entries)) p ∙ ap (with_step any_below) is ∙ sym (from_documents_step any_below q)) i j))
      where
        either : (t : Bool) → from_documents (with_step any_below q) ≡ [] → cond t (from_documents (with_step any_below q)) [] ≡ []
        either true w = w
        either false w = refl

  below_keeps : (f : Position → Entry) (n : ℕ) (es : List Entry) (k : ℕ) → k < length es →
      (k < length (push_below f n es)) × (paths_on (push_below f n es) k ≡ paths_on es k)
  below_keeps f n es k l =
      cond_cases (λ (x : List Entry). (k < length x) × (paths_on x k ≡ paths_on es k)) (eqb n 0) (λ e. (l, refl))
      (λ e. (omega (arith, length-append es (f (over any_below n) ∷ [])), paths_on_keeps es (f (over any_below n) ∷ []) k l))

  emits_insert : (es : List Entry) → Ready es → (r a m r' a' m' : List Path) (y y' : Emitted) → Right es r a m y →
      Right y.entries r' a' m' y' →
      Right es [] (a ++ a' ++ with_step any_below r) (m ++ m' ++ with_step any_below r') (push_insert y.result y')
  unfolding filtered
  emits_insert es z r a m r' a' m' y y' h g =
      let low : y.result < length y'.entries = omega (arith, h.low, g.more) in
      let read = emits_below es z r' (a ++ a') (m ++ m') y' (then_right es r a m r' a' m' y y' h g) y.result r low
      (g.keeps y.result h.low ∙ h.is) accessing refl (with_step any_below r) [] refl refl in
      let kept = below_keeps accessing y.result y'.entries y'.result g.low in
      let written = emits_below es z [] (a ++ a' ++ with_step any_below r) (m ++ m' ++ [])
      (emitted 0 (push_below accessing y.result y'.entries)) read y'.result r' kept.0 (kept.1 ∙ g.is) modifying refl []
      (with_step any_below r') refl refl in
      alike es [] (a ++ a' ++ with_step any_below r ++ []) (m ++ m' ++ [] ++ with_step any_below r') (a ++ a' ++ with_step any_below r)
      (m ++ m' ++ with_step any_below r') _ (append-nil (a ++ a' ++ with_step any_below r))
      (ap (λ (v : List Path). v ++ with_step any_below r') (append-nil (m ++ m'))) written

  constructed : (es : List Entry) → Ready es → (n : ℕ) → Right es (start (place o n) ∷ []) [] (start (place o n) ∷ []) (emitted 0 es)
  unfolding filtered place_of
  constructed es z n =
      let w : from_documents (start (place o n) ∷ []) ≡ [] = rw (ne_eqb o 0 own) in
      nothing_more es [] [] [] (emitted 0 es) (known es z 0 [] z.some z.zero) (start (place o n) ∷ []) [] (start (place o n) ∷ [])
      (sym w) refl w

  pub emits : (e : Expr) → Emits e
  unfolding emit infer filtered place_of
  emits (nil z) ns rs es y b = known es y 0 [] y.some y.zero
  emits (document z d) ns rs es y b =
      pushed es [] [] [] (emitted 0 es) (known es y 0 [] y.some y.zero) (accessing _) _ _ [] tt refl refl refl
  emits (var z v) ns rs es y b =
      let (h, e) = pointwise_read 0 [] (y.some, y.zero) b v in known es y (get_or ns v 0) (get_or rs v []) h e
  emits (step z s e) ns rs es y b = emits_step es y s _ _ _ (emit e ns es) (emits e ns rs es y b)
  emits (both z e f) ns rs es y b =
      let h = emits e ns rs es y b in
      emits_union es y _ _ _ _ _ _ (emit e ns es) (emit f ns (emit e ns es).entries) h
      (emits f ns rs (emit e ns es).entries (ready y h) (bound_later es _ _ _ _ h b))
  emits (let_in z e f) ns rs es y b = emits_bound e f (emits e) (emits f) ns rs es y b
  emits (for_in z e f) ns rs es y b = emits_bound e f (emits e) (emits f) ns rs es y b
  emits (if_in z e f g) ns rs es y b =
      let h = emits e ns rs es y b in
      let y1 = ready y h in
      let b1 = bound_later es _ _ _ _ h b in
      let i = emits f ns rs (emit e ns es).entries y1 b1 in
      then_right es _ _ _ _ _ _ (emit e ns es) _ h
      (emits_union (emit e ns es).entries y1 _ _ _ _ _ _ (emit f ns (emit e ns es).entries)
      (emit g ns (emit f ns (emit e ns es).entries).entries) i
      (emits g ns rs (emit f ns (emit e ns es).entries).entries (ready y1 i) (bound_later _ _ _ _ _ i b1)))
  emits (element z n) ns rs es y b = constructed es y z
  emits (leaf z v) ns rs es y b = constructed es y z
  emits (delete z e) ns rs es y b = emits_delete es y _ _ _ (emit e ns es) (emits e ns rs es y b)
  emits (insert z e f) ns rs es y b =
      let h = emits e ns rs es y b in
      emits_insert es y _ _ _ _ _ _ (emit e ns es) (emit f ns (emit e ns es).entries) h
      (emits f ns rs (emit e ns es).entries (ready y h) (bound_later es _ _ _ _ h b))
  emits (pick z r c e) ns rs es y b = emits e ns rs es y b
