-- Values and outcomes when rows are made, and two runs one after another.
use mathlib.Core.Path.{◌≡◌, sym, ◌∙◌, ap, subst}
use mathlib.Core.Logic.{inl, inr}
use mathlib.Core.List.Memᴰ
use mathlib.Core.List.{List, [], ◌++◌, map, append_assoc, append-nil, Memᴰ as In}
use Prim.Native.Nat.{ℕ, ◌+◌, ◌<◌, ◌≤◌}
use native.Mathlib.Omega.{arith}
use lib.ListN.{length, length-append, get_or-append}
use Rattle.model.specs.Limits.{max_rows}
use Rattle.model.specs.Table.{count}
use Rattle.model.specs.Run.{State, Out, gives, and_then}
use Rattle.model.specs.Paths.{Path}
use Rattle.model.proofs.Words.{first}
use Rattle.model.proofs.Labels.{Label, label, label_at}
use Rattle.model.proofs.All.{all_imp}
use Rattle.model.proofs.LeadsLaws.{leads_more}
use Rattle.model.proofs.Grows.{Grows, refuses, keeps}
use Rattle.model.proofs.Twin.{World, Item, φ, ones, Twin, Valued, Vals, Full, is_refused, passed, Sim, both, alike, full}

module _ (W : World) where
  -- MORE ROWS: labels and values stay
  ones_more : (news more : List Label) → ones W (news ++ more) ≡ ones W news ++ more
  ones_more news more = sym (append_assoc W.one.labels news more)

  pub label_more : (news more : List Label) (i : ℕ) → i < length (ones W news) →
      label_at (ones W (news ++ more)) i ≡ label_at (ones W news) i
  label_more news more i h =
      ap (λ l. label_at l i) (ones_more news more) ∙ get_or-append (ones W news) more (label (first 0) []) i h

  length_more : (news more : List Label) → length (ones W news) ≤ length (ones W (news ++ more))
  length_more news more = omega (arith, ap length (ones_more news more), length-append (ones W news) more)

  valued_more : (r : List Path) (news more : List Label) (i : ℕ) → Valued W r news i → Valued W r (news ++ more) i
  valued_more r news more i k =
      (omega (arith, k.0, length_more news more), subst (λ l. Item W.script r l) (sym (label_more news more i k.0)) k.1)

  pub vals_more : (r : List Path) (news more : List Label) {v : List ℕ} → Vals W r news v → Vals W r (news ++ more) v
  vals_more r news more a = all_imp (valued_more r news more) a

  -- MORE PATHS
  valued_paths : (q r : List Path) → ((p : Path) → In p q → In p r) → (news : List Label) (i : ℕ) → Valued W q news i →
      Valued W r news i
  valued_paths q r h news i (b, k) = (b, go k)
    where
      go : Item W.script q (label_at (ones W news) i) → Item W.script r (label_at (ones W news) i)
      go (inl o) = inl o
      go (inr (p, j, a, o)) = inr (p, h p j, a, o)

  pub vals_left : (q r : List Path) (news : List Label) {v : List ℕ} → Vals W q news v → Vals W (q ++ r) news v
  vals_left q r news a = all_imp (valued_paths q (q ++ r) (λ p i. Memᴰ.append_left r i) news) a

  pub vals_right : (q r : List Path) (news : List Label) {v : List ℕ} → Vals W r news v → Vals W (q ++ r) news v
  vals_right q r news a = all_imp (valued_paths r (q ++ r) (λ p i. Memᴰ.append_right q i) news) a

  pub sim_paths : (q r : List Path) → ((news : List Label) (v : List ℕ) → Vals W q news v → Vals W r news v) →
      (news : List Label) {o o' : Out} →
      Sim W q news o o' → Sim W r news o o'
  sim_paths q r h news (both {v} more T a) = both more T (h (news ++ more) v a)
  sim_paths q r h news alike = alike
  sim_paths q r h news (full k f) = full k f

  -- GIVEN at once
  pub sim_gives : (r : List Path) (news : List Label) (v : List ℕ) (s t : State) → Twin W news s t → Vals W r news v →
      Sim W r news (gives v s) (gives (map (φ W) v) t)
  sim_gives r news v s t T a =
      both [] (subst (λ l. Twin W l s t) (sym (append-nil news)) T)
      (subst (λ l. Vals W r l v) (sym (append-nil news)) a)

  -- ONE AFTER ANOTHER
  pub sim_more : (r : List Path) (news more : List Label) {o o' : Out} → Sim W r (news ++ more) o o' → Sim W r news o o'
  sim_more r news more (both {v} {s} {t} rest T a) =
      both (more ++ rest) (subst (λ l. Twin W l s t) (append_assoc news more rest) T)
      (subst (λ l. Vals W r l v) (append_assoc news more rest) a)
  sim_more r news more alike = alike
  sim_more r news more (full k f) = full k f

  pub full_grows : (a : State) (o : Out) → max_rows < count a.plan + W.m → Grows a o → Full W o
  full_grows a o h (refuses e) = is_refused
  full_grows a o h (keeps {v} {s} r) =
      let l : max_rows < count s.plan + W.m = omega (arith, leads_more r) in
      passed l

  pub sim_then : (q r : List Path) (news : List Label) (next : List ℕ → State → Out) (next' : List ℕ → State → Out) {o o' : Out} →
      Sim W q news o o' →
      ((more : List Label) (v : List ℕ) (s t : State) → Twin W (news ++ more) s t → Vals W q (news ++ more) v →
      Sim W r (news ++ more) (next v s) (next' (map (φ W) v) t)) →
      ((v : List ℕ) (s : State) → Grows s (next v s)) → Sim W r news (and_then o next) (and_then o' next')
  sim_then q r news next next' (both {v} {s} {t} more T a) h g = sim_more r news more (h more v s t T a)
  sim_then q r news next next' alike h g = alike
  sim_then q r news next next' (full k is_refused) h g = full k is_refused
  sim_then q r news next next' (full k (passed {v} {s} l)) h g = full k (full_grows s (next v s) l (g v s))
