-- Ranks of packed rows: each relation's range has the ranks of the leaves whose value stands in it.
use Rattle.std.proofs.Common.{◌≡◌, ℕ, ◌+◌, ◌-◌, ◌*◌, ◌/◌, ◌%◌, ◌<◌, ◌≤◌, Bool, true, false, ◌&&◌, eqb, ltb, leb, sym, refl, ap, ◌∙◌}
use Rattle.std.proofs.Common.{arith, ltb-false, ltb-true, le-ltb, lt-ltb, eq-eqb, eqb-true, le-leb, leb-true}
use borrow.Author.Tests.{eqb-false}
use Rattle.model.specs.Step.{signed_key, is_surveyed}
use Rattle.model.proofs.BoolLaws.{and_left, and_right, and_both, by_cases, bool_iff}
use Rattle.model.proofs.PickLaws.{surveyed_key}
use Rattle.plan_table.specs.Packed.{leaf_bits, link_room, kind_in, tag_in}
use Rattle.run_pick.specs.Picking.{leaf_ranks, half_ranks, rank_in, all_ranks, key_by, key_in, KeepsRange}

and_none : (a : Bool) {b : Bool} → b ≡ false → (a && b) ≡ false
and_none true e = e
and_none false e = refl

-- a range, from tests to bounds and back
in_range : (l k u : ℕ) → l ≤ k → k < u → (leb l k && ltb k u) ≡ true
in_range l k u a b = and_both (leb l k) (ltb k u) (le-leb l k a) (lt-ltb k u b)

range_in : (l k u : ℕ) → (leb l k && ltb k u) ≡ true → (l ≤ k) × (k < u)
range_in l k u e = (leb-true l k (and_left (leb l k) (ltb k u) e), ltb-true k u (and_right (leb l k) (ltb k u) e))

out_of_range : (l k u m : ℕ) → m ≤ k → u ≤ m → (leb l k && ltb k u) ≡ false
out_of_range l k u m a b = and_none (leb l k) (le-ltb k u (omega (arith, a, b)))

-- a number moved by another, modulo all ranks, so that a range begins at 0
moved : (x by key low high : ℕ) → x < all_ranks → by < all_ranks → key < all_ranks → low ≤ high → high < all_ranks →
    (x + by + low) % all_ranks ≡ key → ltb ((x + by) % all_ranks) (high - low) ≡ (leb low key && ltb key high)
moved x by key low high a b c d e m =
    bool_iff (ltb ((x + by) % all_ranks) (high - low)) (leb low key && ltb key high)
    (λ t. let f = ltb-true ((x + by) % all_ranks) (high - low) t in
    in_range low key high (omega (arith, f, m)) (omega (arith, f, m)))
    (λ t. let f = range_in low key high t in lt-ltb ((x + by) % all_ranks) (high - low) (omega (arith, f.0, f.1, m)))

-- the numbers that bring a range to the front
pub keeps_range : (half low high lower upper : ℕ) → half + high ≤ leaf_ranks → low ≤ high → lower < all_ranks → upper < all_ranks →
    (lower + low) % all_ranks ≡ half → (upper + (half + low)) % all_ranks ≡ 0 → KeepsRange half low high half lower upper (high - low)
keeps_range half low high lower upper a b c d e f r h =
    by_cases (ltb r half)
    (λ t. rw t (moved r lower (r + half) low high h c (omega (arith, ltb-true r half t)) b (omega arith)
    (omega (arith, e, ltb-true r half t))))
    (λ t. rw t (moved r upper (r - half) low high h d (omega arith) b (omega arith) (omega (arith, f, ltb-false r half t))))

-- a packed row less a leaf's bits
pub less_leaf : (w x : ℕ) → w < all_ranks → x < all_ranks → (x + leaf_bits) % all_ranks ≡ w → x ≡ (w + (all_ranks - leaf_bits)) % all_ranks
less_leaf w x h b e = omega (arith, e)

-- a leaf's rank, and another's
leaf_rank : (w : ℕ) → w < all_ranks → kind_in w ≡ leaf_bits → rank_in w ≡ w / 4
leaf_rank w h k =
    let e : (w + (all_ranks - leaf_bits)) % all_ranks ≡ w - leaf_bits = omega (arith, k) in
    let a : (w - leaf_bits) % 4 ≡ 0 = omega (arith, k) in
    let b : (w - leaf_bits) / 4 ≡ w / 4 = omega (arith, k) in
    rw (e, a, b) (omega arith)

other_rank : (w : ℕ) → w < all_ranks → (kind_in w ≡ leaf_bits → ⊥) → leaf_ranks ≤ rank_in w
other_rank w h k =
    let e : (w + (all_ranks - leaf_bits)) % all_ranks % 4 ≡ (w + leaf_bits) % 4 = omega arith in
    rw e (omega (arith, k))

value_rank : (w : ℕ) → w / 4 / link_room ≡ tag_in w
value_rank w = omega arith

half_key : (q : ℕ) → q < leaf_ranks → (key_by half_ranks q / link_room ≡ signed_key (q / link_room)) ×
    (key_by half_ranks q < leaf_ranks - half_ranks)
half_key q h =
    by_cases (ltb q half_ranks)
    (λ t. let a = ltb-true q half_ranks t in rw (t, lt-ltb (q / link_room) 128 (omega (arith, a))) (omega (arith, a), omega (arith, a)))
    (λ t. let a = ltb-false q half_ranks t in rw (t, le-ltb (q / link_room) 128 (omega (arith, a))) (omega (arith, a), omega (arith, a)))

-- a rank's key: of a leaf, its signed value's and below it its link; any other's is past those
leaf_key : (w : ℕ) → w < all_ranks → kind_in w ≡ leaf_bits →
    (key_by half_ranks (rank_in w) / link_room ≡ signed_key (tag_in w)) × (key_by half_ranks (rank_in w) < leaf_ranks - half_ranks)
leaf_key w h k =
    let l = half_key (w / 4) (omega arith) in
    rw (leaf_rank w h k) (l.0 ∙ ap signed_key (value_rank w), l.1)

other_key : (w : ℕ) → w < all_ranks → (kind_in w ≡ leaf_bits → ⊥) → leaf_ranks - half_ranks ≤ key_by half_ranks (rank_in w)
other_key w h k =
    let a = other_rank w h k in
    rw (le-ltb (rank_in w) half_ranks (omega (arith, a))) (omega (arith, a))

-- a range of keys of leaves, by the values' keys
keys_in : (w low high : ℕ) → w < all_ranks → high ≤ leaf_ranks - half_ranks → (t : Bool) →
    (kind_in w ≡ leaf_bits → key_in half_ranks low high (rank_in w) ≡ t) →
    key_in half_ranks low high (rank_in w) ≡ (eqb (kind_in w) leaf_bits && t)
keys_in w low high h u t f =
    by_cases (eqb (kind_in w) leaf_bits)
    (λ e. rw e (f (eqb-true (kind_in w) leaf_bits e)))
    (λ e. rw e (out_of_range low (key_by half_ranks (rank_in w)) high (leaf_ranks - half_ranks)
    (other_key w h (eqb-false (kind_in w) leaf_bits e)) u))

-- EACH RELATION
pub equal_in : (w c : ℕ) → w < all_ranks → c < 256 →
    key_in 0 (link_room * c) (link_room * (c + 1)) (rank_in w) ≡ (eqb (kind_in w) leaf_bits && eqb (tag_in w) c)
equal_in w c h b =
    let z : key_by 0 (rank_in w) ≡ rank_in w = rw (le-ltb (rank_in w) 0 (omega arith)) (omega arith) in
    by_cases (eqb (kind_in w) leaf_bits)
    (λ e. let r = leaf_rank w h (eqb-true (kind_in w) leaf_bits e) in
    rw (e, z, r) (bool_iff (leb (link_room * c) (w / 4) && ltb (w / 4) (link_room * (c + 1))) (eqb (tag_in w) c)
    (λ t. let f = range_in (link_room * c) (w / 4) (link_room * (c + 1)) t in eq-eqb (tag_in w) c (omega (arith, f.0, f.1)))
    (λ t. let v = eqb-true (tag_in w) c t in
    in_range (link_room * c) (w / 4) (link_room * (c + 1)) (omega (arith, v)) (omega (arith, v)))))
    (λ e. let r = other_rank w h (eqb-false (kind_in w) leaf_bits e) in
    rw (e, z) (out_of_range (link_room * c) (rank_in w) (link_room * (c + 1)) leaf_ranks r (omega arith)))

pub less_in : (w k : ℕ) → w < all_ranks → k < 256 →
    key_in half_ranks link_room (link_room * k) (rank_in w) ≡
    (eqb (kind_in w) leaf_bits && (is_surveyed (tag_in w) && ltb (signed_key (tag_in w)) k))
less_in w k h b =
    let v = tag_in w in
    keys_in w link_room (link_room * k) h (omega arith) (is_surveyed v && ltb (signed_key v) k) (λ e.
    let l = leaf_key w h e in
    bool_iff (key_in half_ranks link_room (link_room * k) (rank_in w)) (is_surveyed v && ltb (signed_key v) k)
    (λ t. let f = range_in link_room (key_by half_ranks (rank_in w)) (link_room * k) t in
    and_both (is_surveyed v) _ (surveyed_key v ∙ lt-ltb 0 (signed_key v) (omega (arith, l.0, f.0)))
    (lt-ltb (signed_key v) k (omega (arith, l.0, f.1))))
    (λ t. in_range link_room (key_by half_ranks (rank_in w)) (link_room * k)
    (omega (arith, l.0, ltb-true 0 (signed_key v) (sym (surveyed_key v) ∙ and_left (is_surveyed v) _ t)))
    (omega (arith, l.0, ltb-true (signed_key v) k (and_right (is_surveyed v) _ t)))))

-- nothing is less than −128, whose key is 0
pub none_in : (w k : ℕ) → k ≡ 0 →
    key_in half_ranks link_room link_room (rank_in w) ≡
    (eqb (kind_in w) leaf_bits && (is_surveyed (tag_in w) && ltb (signed_key (tag_in w)) k))
none_in w k z =
    let v = tag_in w in
    by_cases (key_in half_ranks link_room link_room (rank_in w))
    (λ t. let f = range_in link_room (key_by half_ranks (rank_in w)) link_room t in absurd (omega (arith, f.0, f.1)))
    (λ t. t ∙ sym (and_none (eqb (kind_in w) leaf_bits) (and_none (is_surveyed v) (le-ltb (signed_key v) k (omega (arith, z))))))

pub greater_in : (w k : ℕ) → w < all_ranks → k < 256 →
    key_in half_ranks (link_room * (k + 1)) (leaf_ranks - half_ranks) (rank_in w) ≡
    (eqb (kind_in w) leaf_bits && (is_surveyed (tag_in w) && ltb k (signed_key (tag_in w))))
greater_in w k h b =
    let v = tag_in w in
    keys_in w (link_room * (k + 1)) (leaf_ranks - half_ranks) h (omega arith) (is_surveyed v && ltb k (signed_key v)) (λ e.
    let l = leaf_key w h e in
    bool_iff (key_in half_ranks (link_room * (k + 1)) (leaf_ranks - half_ranks) (rank_in w)) (is_surveyed v && ltb k (signed_key v))
    (λ t. let f = range_in (link_room * (k + 1)) (key_by half_ranks (rank_in w)) (leaf_ranks - half_ranks) t in
    let m : k < signed_key v = omega (arith, l.0, f.0) in
    and_both (is_surveyed v) _ (surveyed_key v ∙ lt-ltb 0 (signed_key v) (omega (arith, m))) (lt-ltb k (signed_key v) m))
    (λ t. in_range (link_room * (k + 1)) (key_by half_ranks (rank_in w)) (leaf_ranks - half_ranks)
    (omega (arith, l.0, ltb-true k (signed_key v) (and_right (is_surveyed v) _ t))) l.1))

-- ranks of packed rows are below all ranks
pub rank_low : (w : ℕ) → w < all_ranks → rank_in w < all_ranks
rank_low w h = omega (arith, h)
