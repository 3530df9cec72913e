-- Every prefix of an accessed path that starts at a document is accessed itself; so a test that fails on the script's own places finds
-- among the traversed paths what it finds among the accessed ones that start at a document.
use mathlib.Core.Path.{◌≡◌, refl, ap, sym, ◌∙◌}
use mathlib.Core.Bool.{Bool, true, false, ◌||◌, false≢true, or-false, or_assoc, cond}
use mathlib.Core.Logic.{◌⊎◌, inl, inr, ⊎_elim}
use mathlib.Core.List.{List, [], ◌∷◌, ◌++◌, append_assoc}
use Prim.Native.Nat.{ℕ, zero, suc}
use lib.ListN.{get_or}
use borrow.Author.Tests.{eqb-true, eqb-false}
use Rattle.model.specs.Base.{any, filtered, All, nothing, also}
use Rattle.model.specs.Script.{Step, Expr, nil, document, var, step, both, let_in, for_in, if_in, element, leaf, delete, insert, pick}
use Rattle.model.specs.Paths.{place_of, Path, start, ◌▸◌, place, with_step, any_below, Paths, infer, paths_of, prefixes_of, prefixed}
use Rattle.model.specs.Paths.{traversed, join_paths, binding, modified_place}
use Rattle.model.proofs.BoolLaws.{or_swap, or_left, or_cases, bool_iff, by_cases, cond_cases}
use Rattle.model.proofs.All.{all_read, all_append, all_snoc, all_map}
use Rattle.model.proofs.ListLaws.{any_append, any_left, any_right, any_either}
use Rattle.model.proofs.PathLaws.{PathsAll, after_all, join_all}
use Rattle.paths_positions.proofs.DocumentLaws.{is_document, from_documents}

-- PREFIXES
prefixed_append : (ps qs : List Path) → prefixed (ps ++ qs) ≡ prefixed ps ++ prefixed qs
unfolding prefixed
prefixed_append [] qs = refl
prefixed_append (p ∷ ps) qs =
    ap (λ (l : List Path). prefixes_of p ++ l) (prefixed_append ps qs) ∙ sym (append_assoc (prefixes_of p) (prefixed ps) (prefixed qs))

module _ (f : Path → Bool) where
  prefixed_step : (s : Step) (ps : List Path) → any f (prefixed (with_step s ps)) ≡ (any f (with_step s ps) || any f (prefixed ps))
  unfolding any prefixed prefixes_of
  prefixed_step s [] = refl
  prefixed_step s (p ∷ ps) =
      ap (λ (t : Bool). f (p ▸ s) || t) (any_append f (prefixes_of p) (prefixed (with_step s ps)) ∙
      ap (λ (t : Bool). any f (prefixes_of p) || t) (prefixed_step s ps)) ∙
      sym (or_assoc (f (p ▸ s)) (any f (prefixes_of p)) _) ∙ or_swap (f (p ▸ s)) (any f (prefixes_of p)) (any f (with_step s ps))
      (any f (prefixed ps)) ∙
      ap (λ (t : Bool). f (p ▸ s) || any f (with_step s ps) || t) (sym (any_append f (prefixes_of p) (prefixed ps)))

  any_prefixed : (ps : List Path) → any f ps ≡ true → any f (prefixed ps) ≡ true
  unfolding any prefixed prefixes_of
  any_prefixed [] h = h
  any_prefixed (p ∷ ps) h =
      ⊎_elim (λ e. any_left f (prefixes_of p) (prefixed ps) (itself p e))
      (λ e. any_right f (prefixes_of p) (prefixed ps) (any_prefixed ps e))
      (or_cases (f p) (any f ps) h)
    where
      itself : (q : Path) → f q ≡ true → any f (prefixes_of q) ≡ true
      itself (start q) e = or_left (f (start q)) false e
      itself (q ▸ s) e = or_left (f (q ▸ s)) (any f (prefixes_of q)) e

  -- CLOSED: a prefix that passes the test, of a result or of an accessed path, gives G, as an accessed path that passes does
  record Closed (G : Type 0) (x : Paths) : Type 0 where
    result : any f (prefixed x.result) ≡ true → G
    accessed : any f (prefixed x.accessed) ≡ true → G

  module _ (o : ℕ) (own : (z : ℕ) → f (start (place o z)) ≡ false) (G : Type 0) where
    prefixed_either : (ps qs : List Path) → (any f (prefixed ps) ≡ true → G) → (any f (prefixed qs) ≡ true → G) →
        any f (prefixed (ps ++ qs)) ≡ true → G
    prefixed_either ps qs g h e = any_either f (prefixed ps) (prefixed qs) g h (sym (ap (any f) (prefixed_append ps qs)) ∙ e)

    stepped : (s : Step) (ps : List Path) → (any f (prefixed ps) ≡ true → G) → (any f (with_step s ps) ≡ true → G) →
        any f (prefixed (with_step s ps)) ≡ true → G
    stepped s ps h g e = ⊎_elim g h (or_cases (any f (with_step s ps)) (any f (prefixed ps)) (sym (prefixed_step s ps) ∙ e))

    never : (ps : List Path) → ps ≡ [] → any f (prefixed ps) ≡ true → G
    unfolding any prefixed
    never ps e h = absurd (false≢true (sym (ap (λ (l : List Path). any f (prefixed l)) e) ∙ h))

    abbrev Known : List (List Path) → Type 0
    Known rs = (v : ℕ) → any f (prefixed (get_or rs v [])) ≡ true → G

    known_more : (rs : List (List Path)) (r : List Path) → Known rs → (any f (prefixed r) ≡ true → G) → Known (rs ++ (r ∷ []))
    known_more [] r k h zero = h
    known_more [] r k h (suc v) = never [] refl
    known_more (q ∷ rs) r k h zero = k zero
    known_more (q ∷ rs) r k h (suc v) = known_more rs r (λ u. k (suc u)) h v

    abbrev Closes : Expr → Type 0
    Closes e = (rs : List (List Path)) → Known rs → (any f (infer o e rs).accessed ≡ true → G) → Closed G (infer o e rs)

    -- an expression after another, in which it may be bound
    after : (x y : Paths) (r : List Path) → Closed G x → Closed G y → (any f (prefixed r) ≡ true → G) → Closed G (join_paths x y r)
    after x y r h i g = record { result = g; accessed = prefixed_either x.accessed y.accessed h.accessed i.accessed }

    closed_bound : (e e' : Expr) → Closes e → Closes e' → (rs : List (List Path)) → Known rs →
        (any f (binding (infer o e rs) (λ (r : List Path). infer o e' (rs ++ (r ∷ [])))).accessed ≡ true → G) →
        Closed G (binding (infer o e rs) (λ (r : List Path). infer o e' (rs ++ (r ∷ []))))
    closed_bound e e' E E' rs k g =
        let x = infer o e rs in
        let y = infer o e' (rs ++ (x.result ∷ [])) in
        let h = E rs k (λ t. g (any_left f x.accessed y.accessed t)) in
        let i = E' (rs ++ (x.result ∷ [])) (known_more rs x.result k h.result) (λ t. g (any_right f x.accessed y.accessed t))
        in
        after x y y.result h i i.result

    -- the script's own place is not accessed, and passes no test
    constructed : (z : ℕ) → Closed G (modified_place (place o z))
    unfolding any prefixed prefixes_of
    constructed z =
        record {
          result = λ t. absurd (false≢true (sym (own z) ∙ sym (or-false (f (start (place o z)))) ∙ t));
          accessed = never [] refl;
        }

    closed : (e : Expr) → Closes e
    unfolding infer any prefixed prefixes_of
    closed (nil z) rs k g = record { result = never [] refl; accessed = never [] refl }
    closed (document z d) rs k g = record { result = g; accessed = g }
    closed (var z v) rs k g = record { result = k v; accessed = never [] refl }
    closed (step z s e) rs k g =
        let x = infer o e rs in
        let h = closed e rs k (λ t. g (any_left f x.accessed (with_step s x.result) t)) in
        let w = stepped s x.result h.result (λ t. g (any_right f x.accessed (with_step s x.result) t)) in
        record { result = w; accessed = prefixed_either x.accessed (with_step s x.result) h.accessed w }
    closed (both z e e') rs k g =
        let x = infer o e rs in
        let y = infer o e' rs in
        let h = closed e rs k (λ t. g (any_left f x.accessed y.accessed t)) in
        let i = closed e' rs k (λ t. g (any_right f x.accessed y.accessed t)) in
        after x y (x.result ++ y.result) h i (prefixed_either x.result y.result h.result i.result)
    closed (let_in z e e') rs k g = closed_bound e e' (closed e) (closed e') rs k g
    closed (for_in z e e') rs k g = closed_bound e e' (closed e) (closed e') rs k g
    closed (if_in z e e' e'') rs k g =
        let x = infer o e rs in
        let y = infer o e' rs in
        let w = infer o e'' rs in
        let h = closed e rs k (λ t. g (any_left f x.accessed (y.accessed ++ w.accessed) t)) in
        let i = closed e' rs k (λ t. g (any_right f x.accessed (y.accessed ++ w.accessed) (any_left f y.accessed w.accessed t)))
        in
        let j = closed e'' rs k
        (λ t. g (any_right f x.accessed (y.accessed ++ w.accessed) (any_right f y.accessed w.accessed t))) in
        after x (join_paths y w []) (y.result ++ w.result) h (after y w [] i j (never [] refl))
        (prefixed_either y.result w.result i.result j.result)
    closed (element z n) rs k g = constructed z
    closed (leaf z v) rs k g = constructed z
    closed (delete z e) rs k g =
        let x = infer o e rs in
        let h = closed e rs k (λ t. g (any_left f x.accessed [] t)) in
        record { result = never [] refl; accessed = prefixed_either x.accessed [] h.accessed (never [] refl) }
    closed (insert z e e') rs k g =
        let x = infer o e rs in
        let y = infer o e' rs in
        let b = with_step any_below x.result in
        let h = closed e rs k (λ t. g (any_left f (x.accessed ++ y.accessed) b (any_left f x.accessed y.accessed t))) in
        let i = closed e' rs k (λ t. g (any_left f (x.accessed ++ y.accessed) b (any_right f x.accessed y.accessed t))) in
        record {
          result = never [] refl;
          accessed = prefixed_either (x.accessed ++ y.accessed) b
              (prefixed_either x.accessed y.accessed h.accessed i.accessed)
              (stepped any_below x.result h.result (λ t. g (any_right f (x.accessed ++ y.accessed) b t)));
        }
    closed (pick z r c e) rs k g = closed e rs k g

  -- among the traversed paths as among the accessed ones
  pub any_traversed : (o : ℕ) → ((z : ℕ) → f (start (place o z)) ≡ false) → (e : Expr) →
      any f (traversed (paths_of o e)) ≡ any f (paths_of o e).accessed
  any_traversed o own e =
      bool_iff (any f (traversed (paths_of o e))) (any f (paths_of o e).accessed)
      (closed o own (any f (paths_of o e).accessed ≡ true) e [] (λ v. never o own (any f (paths_of o e).accessed ≡ true) [] refl)
      (λ t. t)).accessed
      (any_prefixed (paths_of o e).accessed)

-- ORIGINS: every path of a script starts at a document or at the script's own place
abbrev pub Own : (owner : ℕ) → Path → Type 0
Own o p = ((place_of p).owner ≡ 0) ⊎ ((place_of p).owner ≡ o)

own_step : {o : ℕ} (s : Step) {ps : List Path} → All (Own o) ps → All (Own o) (with_step s ps)
unfolding place_of
own_step s a = all_map (λ (p : Path). p ▸ s) (λ p h. h) a

owned : (o : ℕ) (e : Expr) (rs : List (List Path)) → All (All (Own o)) rs → PathsAll (Own o) (infer o e rs)
unfolding infer place_of
owned o (nil z) rs k = record { result = nothing; accessed = nothing; modified = nothing }
owned o (document z d) rs k = record { result = also (inl refl) nothing; accessed = also (inl refl) nothing; modified = nothing }
owned o (var z v) rs k = record { result = all_read [] nothing k v; accessed = nothing; modified = nothing }
owned o (step z s e) rs k = let h = owned o e rs k in after_all h (own_step s h.result) (own_step s h.result) nothing
owned o (both z e e') rs k =
    let h = owned o e rs k in
    let i = owned o e' rs k in
    join_all h i (all_append h.result i.result)
owned o (let_in z e e') rs k =
    let h = owned o e rs k in
    let i = owned o e' (rs ++ ((infer o e rs).result ∷ [])) (all_snoc k h.result) in
    join_all h i i.result
owned o (for_in z e e') rs k =
    let h = owned o e rs k in
    let i = owned o e' (rs ++ ((infer o e rs).result ∷ [])) (all_snoc k h.result) in
    join_all h i i.result
owned o (if_in z e e' e'') rs k =
    let i = owned o e' rs k in
    let j = owned o e'' rs k in
    join_all (owned o e rs k) (join_all {r = []} i j nothing) (all_append i.result j.result)
owned o (element z n) rs k = record { result = also (inr refl) nothing; accessed = nothing; modified = also (inr refl) nothing }
owned o (leaf z v) rs k = record { result = also (inr refl) nothing; accessed = nothing; modified = also (inr refl) nothing }
owned o (delete z e) rs k =
    let h = owned o e rs k in
    after_all h nothing nothing (all_append h.result (own_step any_below h.result))
owned o (insert z e e') rs k =
    let h = owned o e rs k in
    let i = owned o e' rs k in
    after_all (join_all {r = []} h i nothing) nothing (own_step any_below h.result) (own_step any_below i.result)
owned o (pick z r c e) rs k = owned o e rs k

pub modified_own : (o : ℕ) (e : Expr) → All (Own o) (paths_of o e).modified
modified_own o e = (owned o e [] nothing).modified

pub accessed_own : (o : ℕ) (e : Expr) → All (Own o) (paths_of o e).accessed
accessed_own o e = (owned o e [] nothing).accessed

-- a test that fails on the script's own places finds those that start at a document only
pub any_documents : (f : Path → Bool) (o : ℕ) → ((p : Path) → (place_of p).owner ≡ o → f p ≡ false) → (ps : List Path) → All (Own o) ps →
    any f ps ≡ any f (from_documents ps)
unfolding any filtered
any_documents f o own [] nothing = refl
any_documents f o own (p ∷ ps) (also h a) = go (any_documents f o own ps a)
  where
    kept : any f ps ≡ any f (from_documents ps) → is_document p ≡ true → any f (p ∷ ps) ≡ any f (from_documents (p ∷ ps))
    kept rest t = ap (λ (u : Bool). f p || u) rest ∙ sym (ap (λ (u : Bool). any f (cond u (p ∷ from_documents ps) (from_documents ps))) t)

    dropped : any f ps ≡ any f (from_documents ps) → is_document p ≡ false → Own o p → any f (p ∷ ps) ≡ any f (from_documents (p ∷ ps))
    dropped rest t (inl e) = absurd (eqb-false (place_of p).owner 0 t e)
    dropped rest t (inr e) =
        ap (λ (u : Bool). u || any f ps) (own p e) ∙ rest ∙
        sym (ap (λ (u : Bool). any f (cond u (p ∷ from_documents ps) (from_documents ps))) t)

    go : any f ps ≡ any f (from_documents ps) → any f (p ∷ ps) ≡ any f (from_documents (p ∷ ps))
    go rest = by_cases (is_document p) (kept rest) (λ t. dropped rest t h)

pub documents_are : (ps : List Path) → All (λ (p : Path). (place_of p).owner ≡ 0) (from_documents ps)
unfolding filtered
documents_are [] = nothing
documents_are (p ∷ ps) =
    let a = documents_are ps in
    cond_cases (All (λ (q : Path). (place_of q).owner ≡ 0)) (is_document p) (λ e. also (eqb-true (place_of p).owner 0 e) a) (λ e. a)
