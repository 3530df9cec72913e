-- What follows from a twin: counts, labels, and that rows which are not hidden have their like in the other state.
use mathlib.Core.Path.{◌≡◌, refl, sym, ◌∙◌, ap, ap₂, subst}
use mathlib.Core.Logic.{◌⊎◌, inl, inr}
use mathlib.Core.List.Memᴰ
use mathlib.Core.List.{List, [], ◌∷◌, ◌++◌, map, append_assoc, Memᴰ as In}
use mathlib.Core.Option.{Option, none, some, none-ne-some, some-injective}
use Prim.Native.Nat.{ℕ, ◌+◌, ◌-◌, ◌<◌, ◌≤◌}
use native.Mathlib.Omega.{arith}
use native.Mathlib.Decide.{dec_lt}
use lib.ListN.{length, length-append, get_or-append}
use lib.Seq.{get_or-append-add}
use Rattle.model.specs.Table.{row_at, count}
use Rattle.model.specs.History.{Record, made, cut}
use Rattle.model.specs.Script.{Step}
use Rattle.model.specs.Step.{Letter, letter_of}
use Rattle.model.specs.Run.{State}
use Rattle.model.specs.Paths.{Path, ◌▸◌, with_step}
use Rattle.model.proofs.Words.{Word, first, Grown, same, more, grown_trans}
use Rattle.model.proofs.Labels.{Label, label, grow, label_at, label_new}
use Rattle.model.proofs.Below.{below_label, OnPath, on_child, on_below}
use Rattle.model.proofs.Reach.{Reach, by_child, by_deep}
use Rattle.model.proofs.All.{all_map, all_in}
use Rattle.model.specs.Base.{All}
use Rattle.model.proofs.Shift.{shift_low, shift_high, shift_cases}
use Rattle.model.proofs.Twin.{Side, Script, SideFits, World, Touched, Item, RunFrom, φ, ones, twos, Twin, Valued, Vals, alike, φRow}
use Rattle.model.proofs.Twin.{φParent, Named}

pub in_step : (s : Step) {p : Path} {r : List Path} → In p r → In (p ▸ s) (with_step s r)
in_step s i = Memᴰ.map (λ (p : Path). p ▸ s) i

-- what is below a touched row is touched
pub touched_grow : (c : Script) (l : Label) (a : Letter) → Touched c l → Touched c (grow l a)
touched_grow c l a (inl o) = inl o
touched_grow c l a (inr k) = inr (λ w g. k w (grown_trans (more same) g))

-- what names rows of a table names rows of a longer one
pub named_more : {k n : ℕ} → k ≤ n → (r : Record) → Named k r → Named n r
named_more h (made i r) (a, b) = (omega arith, λ p e. omega (arith, b p e))
named_more h (cut i p) (a, b) = (omega arith, omega arith)

-- A label behind the first ones
pub label_high : (ls news : List Label) (i k : ℕ) → i ≡ length ls + k → label_at (ls ++ news) i ≡ label_at news k
label_high ls news i k e =
    subst (λ j. label_at (ls ++ news) j ≡ label_at news k) (sym e) (get_or-append-add ls news k (label (first 0) []))

-- ONE SIDE
module _ (c : Script) (d : Side) (F : SideFits c d) (news : List Label) where
  pub label_side : (i : ℕ) → i < count d.plan → label_at (d.labels ++ news) i ≡ label_at d.labels i
  label_side i h = get_or-append d.labels news (label (first 0) []) i (omega (arith, F.fit.size))

  -- no item of a value is hidden
  pub item_clear : (r : List Path) (i : ℕ) → Item c r (label_at (d.labels ++ news) i) → d.hidden i → ⊥
  item_clear r i (inl o) h = F.foreign i (F.early i h) (ap (λ l. l.root) (sym (label_side i (F.early i h))) ∙ o)
  item_clear r i (inr (p, k, a, o)) h =
      F.apart i p h a (subst (λ l. OnPath c.marks p l) (label_side i (F.early i h)) o)

  -- what a step reaches from items of r are items of r with the step
  pub reach_item : (r : List Path) (s : State) (t : Step) (v : List ℕ) (j : ℕ) → RunFrom c d news s →
      ((p : Path) → In p r → c.accessed (p ▸ t)) →
      All (λ i. Item c r (label_at (d.labels ++ news) i)) v → Reach s.plan t v j →
      Item c (with_step t r) (label_at (d.labels ++ news) j)
  reach_item r s t v j g h a (by_child {i} k x e z) = go (all_in a k)
    where
      go : Item c r (label_at (d.labels ++ news) i) → Item c (with_step t r) (label_at (d.labels ++ news) j)
      go (inl o) = inl (ap (λ l. l.root) (g.fit.links j i e).2 ∙ o)
      go (inr (p, k, q, o)) = inr (p ▸ t, in_step t k, h p k, on_child g.fit t i j o e x z)
  reach_item r s t v j g h a (by_deep {i} k x b z) = go (all_in a k) (below_label g.fit i j b)
    where
      go : Item c r (label_at (d.labels ++ news) i) →
          (w : Word) × (label_at (d.labels ++ news) j ≡ label (label_at (d.labels ++ news) i).root (letter_of (row_at s.plan j) ∷ w)) ×
          Grown (label_at (d.labels ++ news) i).word w → Item c (with_step t r) (label_at (d.labels ++ news) j)
      go (inl o) (w, e, q) = inl (ap (λ l. l.root) e ∙ o)
      go (inr (p, k, q, o)) m = inr (p ▸ t, in_step t k, h p k, on_below g.fit t i j o b x z)

-- BOTH SIDES
module _ (W : World) where
  pub ones_length : (news : List Label) → length (ones W news) ≡ W.n + length news
  ones_length news = omega (arith, length-append W.one.labels news, W.one_fits.fit.size, W.one_count)

  twos_length : (news : List Label) → length (twos W news) ≡ W.n + W.m + length news
  twos_length news = omega (arith, length-append W.two.labels news, W.two_fits.fit.size, W.two_count)

  -- labels of rows that are not hidden
  pub label_across : (news : List Label) (i : ℕ) → (W.one.hidden i → ⊥) → label_at (twos W news) (φ W i) ≡ label_at (ones W news) i
  label_across news i h = go (shift_cases W.n W.m i)
    where
      go : ((i < W.n) × (φ W i ≡ i)) ⊎ ((W.n ≤ i) × (φ W i ≡ i + W.m)) → label_at (twos W news) (φ W i) ≡ label_at (ones W news) i
      go (inl (a, e)) =
          ap (λ j. label_at (twos W news) j) e ∙ label_side W.script W.two W.two_fits news i (omega (arith, W.two_count)) ∙
          (W.alike i a h).1 ∙ sym (label_side W.script W.one W.one_fits news i (omega (arith, W.one_count)))
      go (inr (a, e)) =
          label_high W.two.labels news (φ W i) (i - W.n) (omega (arith, W.two_fits.fit.size, W.two_count)) ∙
          sym (label_high W.one.labels news i (i - W.n) (omega (arith, W.one_fits.fit.size, W.one_count)))

  pub vals_two : (r : List Path) (news : List Label) {v : List ℕ} → Vals W r news v →
      All (λ j. Item W.script r (label_at (twos W news) j)) (map (φ W) v)
  vals_two r news a =
      all_map (φ W)
      (λ i k.
      subst (λ l. Item W.script r l)
      (sym (label_across news i (item_clear W.script W.one W.one_fits news r i k.1))) k.1) a

  -- ALIKE: a row that is not hidden, and its like
  abbrev pub Alike : State → ℕ → ℕ → Type 0
  Alike s i j = (i < count s.plan) × (W.one.hidden i → ⊥) × (φ W i ≡ j)

  module _ (news : List Label) (s t : State) (T : Twin W news s t) where
    pub one_count_lem : count s.plan ≡ W.n + length news
    one_count_lem = sym T.one.fit.size ∙ ones_length news

    pub two_count : count t.plan ≡ W.n + W.m + length news
    two_count = sym T.two.fit.size ∙ twos_length news

    pub count_across : φ W (count s.plan) ≡ count t.plan
    count_across =
        shift_high W.n W.m (count s.plan) (omega (arith, one_count_lem)) ∙
        omega (arith, one_count_lem, two_count)

    pub row_bound : (i : ℕ) → i < count s.plan → φ W i < count t.plan
    row_bound i h = go (shift_cases W.n W.m i)
      where
        go : ((i < W.n) × (φ W i ≡ i)) ⊎ ((W.n ≤ i) × (φ W i ≡ i + W.m)) → φ W i < count t.plan
        go (inl (a, e)) = omega (arith, one_count_lem, two_count)
        go (inr (a, e)) = omega (arith, one_count_lem, two_count)

    -- the label of the next row
    pub label_last : (l : Label) → label_at (ones W (news ++ (l ∷ []))) (count s.plan) ≡ l
    label_last l =
        ap₂ (λ ls i. label_at ls i) (sym (append_assoc W.one.labels news (l ∷ []))) (sym T.one.fit.size) ∙
        label_new (ones W news) l

    pub valued_alike : (r : List Path) (i : ℕ) → Valued W r news i → Alike s i (φ W i)
    valued_alike r i k =
        (omega (arith, k.0, T.one.fit.size), item_clear W.script W.one W.one_fits news r i k.1, refl)

    -- the like of a row that is not hidden is not hidden, and a row of the second that is not hidden is some row's like
    pub clear_two : (i j : ℕ) → Alike s i j → W.two.hidden j → ⊥
    clear_two i j (a, b, e) h = go (shift_cases W.n W.m i)
      where
        go : ((i < W.n) × (φ W i ≡ i)) ⊎ ((W.n ≤ i) × (φ W i ≡ i + W.m)) → ⊥
        go (inl (l, f)) = W.clear i l b (subst W.two.hidden (sym e ∙ f) h)
        go (inr (l, f)) = omega (arith, W.two_fits.early j h, W.two_count)

    pub like_of : (j : ℕ) → j < count t.plan → (W.two.hidden j → ⊥) → (i : ℕ) × Alike s i j
    like_of j h c = go (dec_lt j W.n) (dec_lt j (W.n + W.m))
      where
        go : Dec (j < W.n) → Dec (j < W.n + W.m) → (i : ℕ) × Alike s i j
        go (yes a) b = (j, (omega (arith, one_count_lem), W.clear_back j a c, shift_low W.n W.m j a))
        go (no a) (yes b) = absurd (c (W.between j (omega arith) b))
        go (no a) (no b) = (
          j - W.m,
          (
            omega (arith, one_count_lem, two_count),
            (λ k. omega (arith, W.one_fits.early (j - W.m) k, W.one_count)),
            shift_high W.n W.m (j - W.m) (omega arith) ∙ omega arith,
          ),
        )

    pub alike_row : (i j : ℕ) → Alike s i j → row_at t.plan j ≡ φRow W (row_at s.plan i)
    alike_row i j (a, b, e) = subst (λ k. row_at t.plan k ≡ φRow W (row_at s.plan i)) e (T.alike i a b)

    -- parents, both ways
    pub alike_parent : (i j p : ℕ) → Alike s i j → (row_at s.plan i).parent ≡ some p →
        (q : ℕ) × Alike s p q × ((row_at t.plan j).parent ≡ some q)
    alike_parent i j p k e = (
      φ W p,
      (omega (arith, k.0, (T.one.fit.links i p e).0), (λ h. k.1 (T.one.closed i p e h)), refl),
      ap (λ r. r.parent) (alike_row i j k) ∙ ap (φParent W) e,
    )

    pub parent_alike : (j i q : ℕ) → Alike s i j → (row_at t.plan j).parent ≡ some q →
        (p : ℕ) × Alike s p q × ((row_at s.plan i).parent ≡ some p)
    parent_alike j i q k e = go (row_at s.plan i).parent refl
      where
        go : (o : Option ℕ) → (row_at s.plan i).parent ≡ o → (p : ℕ) × Alike s p q × ((row_at s.plan i).parent ≡ some p)
        go none f =
            absurd (none-ne-some q (sym (ap (λ r. r.parent) (alike_row i j k) ∙ ap (φParent W) f) ∙ e))
        go (some p) f =
            let (u, a, g) = alike_parent i j p k f in
            (p, (a.0, a.1, a.2 ∙ some-injective u q (sym g ∙ e)), f)

    pub alike_letter : (i j : ℕ) → Alike s i j → letter_of (row_at s.plan i) ≡ letter_of (row_at t.plan j)
    alike_letter i j k = sym (ap letter_of (alike_row i j k))
